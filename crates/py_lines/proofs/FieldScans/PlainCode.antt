-- Runs of words, space and operators that are no brackets: the scan after them is what it would come to by one of them after another.
use Rattle.py_lines.proofs.Prelude.{◌≡◌, ℕ, ◌+◌, ◌-◌, ◌<◌, Bool, true, false, ◌&&◌, ◌||◌, not, ◌==◌, Option, None, Some, List, [], ◌∷◌, ◌++◌, length, take, drop, slice_index, refl, sym, ap, ◌∙◌, subst, arith, take-append-drop, ⊎_elim, if◌then◌else◌, codes, len_utf8, list_all, and_parts, both_ways, cond_both, or_cases, length-take-le, take_more, len_utf8_ascii, is_opening, is_closing, is_operator, is_quote, is_space, is_word_character, byte_len, Piece, Frame, OpenField, Spelling, Scan, literal, OpenMode, has_field, is_of_class, is_plain}
use Rattle.py_lines.specs.declared.class.Class.TheVariants as class
use Rattle.py_lines.specs.declared.frames.Frame.TheVariants as frame
use Rattle.py_lines.specs.declared.mode.Mode.TheVariants as opens
use Rattle.py_lines.specs.Private.Machine.{Bracket, Mode, first_spelling, move_of, spelling_with, start_of, Start as starts}
use Rattle.py_lines.specs.Private.Mode as modes
use Rattle.py_lines.specs.Private.FieldMachine.{FieldMove, FieldScanned, Level, before, breaks, field_move, grows, plain, text_place}
use Rattle.py_lines.specs.Private.FieldText.{is_code_mode}
use Rattle.py_lines.specs.Private.Passing.{tail_on, tail_with}
use Rattle.py_lines.specs.Private.Run.{HasRun, is_ascii_word}
use Rattle.py_lines.specs.Private.Scan.{Follows, FramesFollow, Goes, HasQuote, HoldsCode, KeepsOpen, Takes, begun_at, bracket_frames, frames_of, mode_from, passed, with_bytes}
use Rattle.py_lines.specs.Private.TakenPieces.{IsOperatorEnd}
use Rattle.py_lines.proofs.FieldMachine.PieceRuns.{IsNoColon}
use Rattle.py_lines.proofs.FieldScans.Moves.{said}
use Rattle.py_lines.proofs.FieldScans.Operators.{sign_passes}
use Rattle.py_lines.proofs.FieldScans.Taking.{follows_open, StepsOn, follows_at, stands_at, stands_begun, stands_grown}
use Rattle.py_lines.proofs.FieldScans.Takes.{comes_exact}
use Rattle.py_lines.proofs.LineScan.AsciiRuns.{all_pass, low_encodes, space-no_word, space-not-quote, space_low, word_byte_continues, word_byte_low, word_starts}
use Rattle.py_lines.proofs.Machine.Soundness.{StartHolds, start_holds}
use Rattle.py_lines.proofs.Machine.Starts.{start-space, start-word}
use Rattle.py_lines.proofs.Text.CharacterTests.{excluded, none_of, operator_ascii, quote-not-word}

-- whether a word, space or nothing is open
abbrev pub is_code_open : OpenMode → Bool
is_code_open opens.Free = true
is_code_open opens.Space = true
is_code_open (opens.Word s) = true
is_code_open other = false

-- the word that is open
abbrev pub word_open : OpenMode → Option Spelling
word_open (opens.Word s) = Some s
word_open other = None

-- with one more character: a word, space, or an operator
abbrev pub word_next : OpenMode → Scan → ℕ → Scan
word_next (opens.Word s) scan c = record scan { mode = opens.Word (spelling_with s c); stop = scan.stop + 1 }
word_next other scan c = begun_at scan (opens.Word (first_spelling c)) 1

abbrev pub space_next : OpenMode → Scan → Scan
space_next opens.Space scan = with_bytes scan 1
space_next other scan = begun_at scan opens.Space 1

abbrev pub code_next : Scan → ℕ → Scan
code_next scan c = if is_ascii_word c then word_next scan.mode scan c else (if is_space c then space_next scan.mode scan else passed scan 1)

-- and with more of them
abbrev pub over_code : Scan → List ℕ → Scan
over_code scan [] = scan
over_code scan (c ∷ cs) = over_code (code_next scan c) cs

-- what it keeps of the line
record KeepsLine (old new : Scan) (c : ℕ) : Type 0 where
  frames : new.frames ≡ old.frames
  stop : new.stop ≡ old.stop + 1
  code : is_code_open new.mode ≡ true
  word : word_open new.mode ≡ tail_with (word_open old.mode) c

next_keeps : (scan : Scan) (c : ℕ) → KeepsLine scan (code_next scan c) c
next_keeps scan c = record { frames = grind arith; stop = grind arith; code = grind arith; word = grind arith }

pub over_frames : (scan : Scan) (run : List ℕ) → (over_code scan run).frames ≡ scan.frames
over_frames scan [] = refl
over_frames scan (c ∷ cs) = over_frames (code_next scan c) cs ∙ (next_keeps scan c).frames

pub over_stop : (scan : Scan) (run : List ℕ) → (over_code scan run).stop ≡ scan.stop + length run
over_stop scan [] = omega arith
over_stop scan (c ∷ cs) = omega (arith, over_stop (code_next scan c) cs, (next_keeps scan c).stop)

pub over_open : (scan : Scan) (run : List ℕ) → is_code_open scan.mode ≡ true → is_code_open (over_code scan run).mode ≡ true
over_open scan [] code = code
over_open scan (c ∷ cs) code = over_open (code_next scan c) cs (next_keeps scan c).code

pub over_word : (scan : Scan) (run : List ℕ) → word_open (over_code scan run).mode ≡ tail_on (word_open scan.mode) run
over_word scan [] = refl
over_word scan (c ∷ cs) = over_word (code_next scan c) cs ∙ ap (λ o. tail_on o cs) (next_keeps scan c).word

-- up to an operator
passed_alike : (a b : Scan) (n m : ℕ) → a.frames ≡ b.frames → a.stop + n ≡ b.stop + m → passed a n ≡ passed b m
passed_alike a b n m frames stop =
    ap (λ (fs : List Frame). record { mode = opens.Free; start = a.stop + n; frames = fs; stop = a.stop + n }) frames ∙ ap (λ (k : ℕ). record { mode = opens.Free; start = k; frames = b.frames; stop = k }) stop

over_sign : (scan : Scan) (front : List ℕ) (c : ℕ) → is_ascii_word c ≡ false → is_space c ≡ false
    → over_code scan (front ++ c ∷ []) ≡ passed scan (length front + 1)
over_sign scan [] c word space = rw (word, space) refl
over_sign scan (d ∷ ds) c word space = let keeps = next_keeps scan d in over_sign (code_next scan d) ds c word space
    ∙ passed_alike (code_next scan d) scan (length ds + 1) (length (d ∷ ds) + 1) keeps.frames (omega (arith, keeps.stop))

operator_others : (c : ℕ) → is_operator c ≡ true → (is_ascii_word c ≡ false) × (is_quote c ≡ false) × (is_space c ≡ false)
unfolding is_operator is_ascii_word is_space is_quote
operator_others c is =
    let signs = codes "+-*/%@&|^~<>=!()[]{},:.;" in
    (none_of is_ascii_word signs c refl is, none_of is_quote signs c refl is, none_of is_space signs c refl is)

pub over_operator : (scan : Scan) (run : List ℕ) (len : ℕ) → IsOperatorEnd run len → 0 < len → over_code scan (take len run) ≡ passed scan len
over_operator scan run len (within, none_or_sign) some =
    let last : ℕ = slice_index run (len - 1) in
    let sign : is_of_class class.Operator last ≡ true = ⊎_elim (λ (none : len ≡ 0). absurd (omega (arith, none, some))) (λ h. h) none_or_sign in
    let others = operator_others last (and_parts (is_operator last) _ sign).0 in
    let split : take len run ≡ take (len - 1) run ++ last ∷ [] = ap (λ n. take n run) (omega (arith, some)) ∙ take_more run (len - 1) 0 (omega (arith, some, within)) in
    ap (over_code scan) split ∙ over_sign scan (take (len - 1) run) last others.0 others.2
    ∙ ap (passed scan) (omega (arith, some, length-take-le (len - 1) run (omega (arith, within))))

-- where a field is open, it is in the machine too
abbrev is_inside : List Level → Bool
is_inside [] = false
is_inside other = true

no_field_in : (bs : List Bracket) → has_field (frames_of bs) ≡ false
no_field_in [] = refl
no_field_in (b ∷ bs) = no_field_in bs

field_behind : (start : ℕ) (bs : List Bracket) (field : OpenField) (others : List Frame)
    → has_field (bracket_frames start bs ++ frame.Field field ∷ others) ≡ true
field_behind start [] field others = refl
field_behind start (b ∷ bs) field others = field_behind start bs field others

fields_alike : (outer : List Level) (done : List Piece) (openers : List ℕ) (fs : List Frame) → FramesFollow outer done openers fs
    → has_field fs ≡ is_inside outer
fields_alike [] done openers fs (bs, stack, openers_are, frames_are) = ap has_field frames_are ∙ no_field_in bs
fields_alike (l ∷ ls) done openers fs (bs, field, others, stack, openers_are, frames_are, at) =
    ap has_field frames_are ∙ field_behind (byte_len (before literal (l ∷ ls))) bs field others

pub outside_fields : (outer : List Level) (done : List Piece) (openers : List ℕ) (fs : List Frame) → FramesFollow outer done openers fs
    → has_field fs ≡ false → outer ≡ []
outside_fields [] done openers fs follow none = refl
outside_fields (l ∷ ls) done openers fs follow none = absurd (both_ways _ none (fields_alike (l ∷ ls) done openers fs follow))

-- a `:` stands in no field
no_colon_in : (outer : List Level) (openers : List ℕ) (c : ℕ) → is_inside outer && (c == 58) ≡ false → IsNoColon outer openers c
no_colon_in [] openers c h = tt
no_colon_in (l ∷ ls) openers c h = ap (λ b. b && (length openers == 0)) h

-- the machine steps, and the scan follows
abbrev pub Next : FieldScanned → ℕ → Scan → Type 0
Next t c new = (u : FieldScanned) × StepsOn t c u × Follows new u

pub plain_operator : (c : ℕ) → is_plain c ≡ true → is_ascii_word c ≡ false → is_space c ≡ false
    → (is_operator c ≡ true) × (is_opening c ≡ false) × (is_closing c ≡ false)
unfolding is_plain
plain_operator c h word space = grind (arith)

module _ (scan : Scan) (t : FieldScanned) (c : ℕ) (follow : Follows scan t) (low : c < 128) where
  one : len_utf8 c ≡ 1
  one = len_utf8_ascii c low

  -- the open piece grows
  grown : (mode : OpenMode) → field_move t.mode t.held c ≡ grows (mode_from mode) → text_place (mode_from mode) ≡ literal → text_place t.mode ≡ literal → HasQuote mode → Next t c (record scan { mode = mode; stop = scan.stop + 1 })
  grown mode is to from quote = let (step, at) = stands_grown t scan.frames scan.start scan.stop (stands_at scan t follow from) c (mode_from mode) is to in
      let holds = (said t.mode t.held c (grows (mode_from mode)) follow.holds is).holds in
      subst (λ (n : ℕ). Next t c (record scan { mode = mode; stop = scan.stop + n })) one (_, step, follows_at _ scan.frames scan.start (scan.stop + len_utf8 c) mode at refl holds quote)

  -- another begins
  begun : (m : Mode) (mode : OpenMode) → mode_from mode ≡ plain m → field_move t.mode t.held c ≡ breaks → text_place t.mode ≡ literal
      → start_of c ≡ starts.Open m → HoldsCode (plain m) (c ∷ []) → HasQuote mode → Next t c (begun_at scan mode 1)
  begun m mode same is from so holds quote =
      let (step, at) = stands_begun t scan.frames scan.start scan.stop (stands_at scan t follow from) c follow.holds is m so in
      subst (λ (n : ℕ). Next t c (begun_at scan mode n)) one (_, step, follows_at _ scan.frames scan.stop (scan.stop + len_utf8 c) mode at same holds quote)

-- what a character that is no quote does to a word, to space, and where no piece is open
abbrev pub code_result : Mode → ℕ → FieldMove
code_result modes.Space c = if is_space c then grows (plain modes.Space) else breaks
code_result (modes.Word s) c = if is_word_character c then grows (plain (modes.Word (spelling_with s c))) else breaks
code_result other c = breaks

pub code_results : (m : Mode) (held : List ℕ) (c : ℕ) → is_code_mode m ≡ true → is_quote c ≡ false → field_move (plain m) held c ≡ code_result m c
unfolding field_move move_of
code_results m held c simple none = grind arith

pub word_is : (c : ℕ) → is_ascii_word c ≡ true → (is_word_character c ≡ true) × (is_quote c ≡ false) × (is_space c ≡ false)
word_is c h =
    let continues = word_byte_continues c (word_byte_low c h) ∙ h in
    (continues, excluded is_word_character is_quote c (quote-not-word c) continues, excluded is_ascii_word is_space c (space-no_word c) h)

pub space_is : (c : ℕ) → is_space c ≡ true → (is_word_character c ≡ false) × (is_quote c ≡ false)
space_is c h = (word_byte_continues c (space_low c h) ∙ space-no_word c h, space-not-quote c h)

pub operator_is : (c : ℕ) → is_operator c ≡ true → (is_word_character c ≡ false) × (is_quote c ≡ false) × (is_space c ≡ false)
operator_is c h = let others = operator_others c h in (word_byte_continues c (operator_ascii c h) ∙ others.0, others.1, others.2)

-- a character steps so
module _ (scan : Scan) (t : FieldScanned) (c : ℕ) (follow : Follows scan t) where
  at : (n : OpenMode) → scan.mode ≡ n → mode_from n ≡ t.mode
  at n same = sym (ap mode_from same) ∙ follow.mode

  meets : (m : Mode) → plain m ≡ t.mode → is_code_mode m ≡ true → is_quote c ≡ false → (v : FieldMove) → code_result m c ≡ v → field_move t.mode t.held c ≡ v
  meets m mode simple none v is = subst (λ k. field_move k t.held c ≡ v) mode (code_results m t.held c simple none ∙ is)

  word_begins : is_ascii_word c ≡ true → (m : Mode) → plain m ≡ t.mode → is_code_mode m ≡ true → code_result m c ≡ breaks
      → Next t c (begun_at scan (opens.Word (first_spelling c)) 1)
  word_begins h m mode simple ends = let so = start-word c (word_starts c h) in
      begun scan t c follow (word_byte_low c h) (modes.Word (first_spelling c)) (opens.Word (first_spelling c)) refl (meets m mode simple (word_is c h).1 breaks ends)
      (ap text_place (sym mode)) so (subst (StartHolds c) so (start_holds c)) tt

  words : (n : OpenMode) → scan.mode ≡ n → is_code_open n ≡ true → is_ascii_word c ≡ true → Next t c (word_next n scan c)
  words (opens.Word s) same some h = let mode = at (opens.Word s) same in
      grown scan t c follow (word_byte_low c h) (opens.Word (spelling_with s c)) (meets (modes.Word s) mode refl (word_is c h).1 _ (rw (word_is c h).0 refl)) refl
      (ap text_place (sym mode)) tt
  words opens.Free same some h = word_begins h modes.Free (at opens.Free same) refl refl
  words opens.Space same some h = word_begins h modes.Space (at opens.Space same) refl (rw (word_is c h).2 refl)
  words n same some h = absurd (both_ways _ refl some)

  space_begins : is_space c ≡ true → (m : Mode) → plain m ≡ t.mode → is_code_mode m ≡ true → code_result m c ≡ breaks → Next t c (begun_at scan opens.Space 1)
  space_begins h m mode simple ends =
      begun scan t c follow (space_low c h) modes.Space opens.Space refl (meets m mode simple (space_is c h).1 breaks ends) (ap text_place (sym mode)) (start-space c h) tt tt

  spaces : (n : OpenMode) → scan.mode ≡ n → is_code_open n ≡ true → is_space c ≡ true → Next t c (space_next n scan)
  spaces opens.Space same some h = let mode = at opens.Space same in
      subst (λ (k : OpenMode). Next t c (record scan { mode = k; stop = scan.stop + 1 })) (sym same)
      (grown scan t c follow (space_low c h) opens.Space (meets modes.Space mode refl (space_is c h).1 _ (rw h refl)) refl (ap text_place (sym mode)) tt)
  spaces opens.Free same some h = space_begins h modes.Free (at opens.Free same) refl refl
  spaces (opens.Word s) same some h = space_begins h (modes.Word s) (at (opens.Word s) same) refl (rw (space_is c h).0 refl)
  spaces n same some h = absurd (both_ways _ refl some)

  operator_ends : (n : OpenMode) → scan.mode ≡ n → is_code_open n ≡ true → is_operator c ≡ true → field_move t.mode t.held c ≡ breaks
  operator_ends opens.Free same some h = meets modes.Free (at opens.Free same) refl (operator_is c h).1 breaks refl
  operator_ends opens.Space same some h = meets modes.Space (at opens.Space same) refl (operator_is c h).1 breaks (rw (operator_is c h).2 refl)
  operator_ends (opens.Word s) same some h = meets (modes.Word s) (at (opens.Word s) same) refl (operator_is c h).1 breaks (rw (operator_is c h).0 refl)
  operator_ends n same some h = absurd (both_ways _ refl some)

  signs : is_code_open scan.mode ≡ true → (is_operator c ≡ true) × (is_opening c ≡ false) × (is_closing c ≡ false) → IsNoColon t.outer t.openers c
      → Next t c (passed scan 1)
  signs some (h, opens_none, closes_none) colon =
      let (size, u, step, line, follows) = sign_passes scan c t follow (operator_ends scan.mode refl some h) h opens_none closes_none colon (passed scan 1) refl in
      (u, (step, line), follows)

  pub code_one : is_code_open scan.mode ≡ true → is_plain c ≡ true → IsNoColon t.outer t.openers c → Next t c (code_next scan c)
  code_one code simple colon =
      cond_both (is_ascii_word c) (word_next scan.mode scan c) (if is_space c then space_next scan.mode scan else passed scan 1) (Next t c) (words scan.mode refl code)
      (λ h. cond_both (is_space c) (space_next scan.mode scan) (passed scan 1) (Next t c) (spaces scan.mode refl code) (λ k. signs code (plain_operator c simple h k) colon))

-- and a run of them
pub record CodeRun (scan : Scan) (t : FieldScanned) (run : List ℕ) : Type 0 where
  pub to : FieldScanned
  pub goes : Goes t run to
  pub follows : Follows (over_code scan run) to
  pub keeps : has_field scan.frames ≡ true → KeepsOpen t run

pub code_run : (passes : ℕ → Bool) (fs : List Frame) → ((c : ℕ) → passes c ≡ true → (is_plain c ≡ true) × (has_field fs && (c == 58) ≡ false))
    → (scan : Scan) (t : FieldScanned) (run : List ℕ) → scan.frames ≡ fs
    → is_code_open scan.mode ≡ true → Follows scan t → list_all passes run ≡ true → CodeRun scan t run
code_run passes fs by scan t [] same code follow all = record { to = t; goes = refl; follows = follow; keeps = λ field. tt }
code_run passes fs by scan t (c ∷ cs) same code follow all =
    let parts = and_parts (passes c) (list_all passes cs) all in let is = by c parts.0 in
    let inside = fields_alike t.outer t.done t.openers scan.frames follow.frames in
    let (u, step, follows) = code_one scan t c follow code is.0 (no_colon_in t.outer t.openers c (ap (λ b. b && (c == 58)) (sym inside ∙ ap has_field same) ∙ is.1)) in
    let keeps = next_keeps scan c in let later = code_run passes fs by (code_next scan c) u cs (keeps.frames ∙ same) keeps.code follows parts.1 in record {
      to = later.to;
      goes = (follows_open scan t follow, u, step.0, step.1, later.goes);
      follows = later.follows;
      keeps = λ field.
          let still : has_field (code_next scan c).frames ≡ true = ap has_field keeps.frames ∙ field in
          (u, step.0, (λ none. absurd (both_ways _ (fields_alike u.outer u.done u.openers (code_next scan c).frames follows.frames ∙ ap is_inside none) still)), later.keeps still);
    }

-- the scan takes the first bytes so, where no field is open
pub plain_low : (c : ℕ) → is_plain c ≡ true → c < 128
unfolding is_plain
plain_low c h = ⊎_elim (word_byte_low c)
    (λ others. ⊎_elim (space_low c) (λ signs. operator_ascii c (and_parts (is_operator c) (not (is_opening c || is_closing c)) signs).0) (or_cases (is_space c) _ others))
    (or_cases (is_ascii_word c) _ h)

pub code_takes : (scan : Scan) (bytes : List ℕ) (len : ℕ) → has_field scan.frames ≡ false → is_code_open scan.mode ≡ true → HasRun is_plain bytes len
    → Takes scan bytes len (over_code scan (take len bytes))
code_takes scan bytes len outside code run t follow =
    let cs = take len bytes in let all : list_all is_plain cs ≡ true = all_pass is_plain bytes len run.within run.each in
    let encoded = low_encodes is_plain cs plain_low all in
    let r = code_run is_plain scan.frames (λ c h. (h, ap (λ b. b && (c == 58)) outside)) scan t cs refl code follow all in
    let spell = ap (λ x. x ++ drop len bytes) encoded.0 ∙ take-append-drop len bytes in let size = ap length encoded.0 ∙ length-take-le len bytes run.within in
    search (spell, encoded.1, size, comes_exact t r.to cs (over_code scan cs) (drop len bytes) r.goes r.follows)
