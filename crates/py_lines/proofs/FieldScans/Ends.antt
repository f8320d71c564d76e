-- What is open where the text ends, with characters that don't tell yet what they are: a string, or the field whose specification is open or
-- that a `{` would open; a backslash; a string that they begin; or else a bracket or a field.
use Rattle.py_lines.proofs.Prelude.{◌≡◌, ℕ, zero, suc, Bool, ◌<◌, ◌-◌, false, Option, None, Some, List, [], ◌∷◌, length, refl, sym, ap, ◌∙◌, true, ◌==◌, ◌&&◌, ◌++◌, subst, ⊎_elim, drop, slice_index, take, take-append-drop, arith, if◌then◌else◌, encode_utf8_all, nat_eq, nat_lt, starts_with, and_parts, both_ways, eq-eqb, eqb-true, or_cases, false_from_ne_true, StartsWithNoChar, all_scalars, byte_len, OpenField, Frame, LineFault, Scan, is_backslash, is_brace, is_break, is_quote, is_return, Piece, spelled, begins, FaultKind, Region, StringWithFields, Spelling, literal, Host, Place, specification, OpenMode}
use Rattle.py_lines.specs.Faults.{open_bracket, open_inside, Unfinished, open_long, open_short, open_brace, open_join}
use Rattle.py_lines.specs.declared.fault.FaultKind.TheVariants as fault_kind
use Rattle.py_lines.specs.declared.frames.Frame.TheVariants as frame
use Rattle.py_lines.specs.Private.FieldMachine.{Level, FieldScanned, frames, before, At, FieldMode, FieldMove, plain, body, between, after_name, after_one, after_return, after_slash, after_two, grows, refused, between_move, body_move, escape_move, field_move, field_state, is_after_brace, room_step, text_place}
use Rattle.py_lines.specs.Private.FieldFaults.{is_waiting, here, field_start, unfinished_code, unfinished_at, piece_start, unfinished_in}
use Rattle.py_lines.specs.Private.Scan.{bracket_openers, Follows, FramesFollow, EndsOpen, IsFieldEnd, Goes, IsPending, is_part_of_text, is_return_at, EndsReturned, GoesOverAll, HasPending, HasQuote, ends_before, has_returned, host_in, is_begun_after, is_lone_brace, is_part_of_code, is_pending, is_text, mode_from, passed, region_in, string_start}
use Rattle.py_lines.specs.Private.Frames.{IsInnermostFrame, place_of}
use Rattle.py_lines.proofs.FieldScans.Frames.{innermost_bracket, innermost_field, none_outside}
use Rattle.py_lines.specs.Private.Mode as modes
use Rattle.py_lines.specs.Private.Machine.{move_of, short_move, long_move}
use Rattle.py_lines.proofs.Text.CharacterTests.{not_quote, the_one}
use Rattle.py_lines.proofs.FieldMachine.Runs.{room_grows}
use Rattle.py_lines.proofs.Machine.PieceSteps.{some_is}
use Rattle.py_lines.proofs.FieldScans.Taking.{no_step, steps, StepsOn, follows_open}
use Rattle.py_lines.proofs.FieldScans.TextItems.{InText, held_nothing, AreLow, low_encoded, low_scalars, one_low, two_low}
use Rattle.py_lines.proofs.LineScan.AsciiRuns.{quote_ascii}
use Rattle.py_lines.specs.declared.mode.Region.TheVariants as regions
use Rattle.py_lines.specs.declared.mode.Mode.TheVariants as opens
use Rattle.py_lines.proofs.Text.Utf8Prefixes.{one_decoding}
use Rattle.py_lines.proofs.FieldScans.LineEnds.{half, returns, slashes}
use Rattle.py_lines.proofs.FieldScans.Operators.{in_field, open-length}
use Rattle.py_lines.proofs.FieldScans.Openings.{after_it, brace_here, goes_literal}
use Rattle.py_lines.proofs.FieldScans.CodeItems.{one_quote, string_begun, two, two_quotes}

-- the field that is open
field_in : (t : FieldScanned) (fs : List Frame) (field : OpenField) (others : List Frame) → FramesFollow t.outer t.done t.openers fs → fs ≡ frame.Field field ∷ others → (field.place ≡ field_start t) × (unfinished_code t.outer t.openers ≡ Some open_inside)
field_in t fs field others f top = let i = innermost_field t.outer t.done t.openers fs others field f top in (
  i.at.place ∙ ap (λ (ls : List Level). byte_len (before literal ls) - 1) (sym i.outer_is),
  ap (λ (ls : List Level). unfinished_code ls t.openers) i.outer_is ∙ ap (unfinished_code (i.level ∷ i.outside)) i.none,
)

-- the place of the field whose specification is open
pub specification_place : (scan : Scan) (t : FieldScanned) (place : ℕ) → Follows scan t → text_place t.mode ≡ specification
    → ((f : Frame) (others : List Frame) → scan.frames ≡ f ∷ others → place ≡ place_of f) → place ≡ field_start t
specification_place scan t place f there last = let (field, others, top) = in_field scan t f there in
    last (frame.Field field) others top ∙ (field_in t scan.frames field others f.frames top).0

bracket_ends : (outer : List Level) (openers : List ℕ) (o : ℕ) (os : List ℕ) → openers ≡ o ∷ os → unfinished_code outer openers ≡ Some open_bracket
bracket_ends [] openers o os is = ap (λ (l : List ℕ). unfinished_code [] l) is
bracket_ends (l ∷ ls) openers o os is = ap (λ (x : List ℕ). unfinished_code (l ∷ ls) x) is

-- no piece is open that may not end there, within these frames
pub record EndsCode (t : FieldScanned) (fs : List Frame) : Type 0 where
  pub code : unfinished_at t ≡ unfinished_code t.outer t.openers
  pub calm : is_waiting t.mode ≡ false
  pub frames : FramesFollow t.outer t.done t.openers fs

-- what is wrong then, by what is innermost
abbrev pub frame_fault : Option Frame → Option LineFault
frame_fault None = None
frame_fault (Some (frame.Bracket opener place)) = Some (record { kind = fault_kind.OpenBracket; place = place })
frame_fault (Some (frame.Field field)) = Some (record { kind = fault_kind.OpenField; place = field.place })

pub code_end : (t : FieldScanned) (fs : List Frame) (top : Option Frame) → EndsCode t fs → IsInnermostFrame top fs → IsFieldEnd t (frame_fault top)
code_end t fs None e none = let outside = none_outside t.outer t.done t.openers fs e.frames (ap length none) in
    e.code ∙ ap (λ (ls : List Level). unfinished_code ls t.openers) outside.0 ∙ ap (unfinished_code []) outside.1
code_end t fs (Some (frame.Bracket opener place)) e (others, top) =
    let (b, bs, stacked, spot, are) = innermost_bracket t.outer t.done t.openers fs others opener place e.frames top in
    (open_bracket, e.code ∙ bracket_ends t.outer t.openers opener (bracket_openers bs) are, refl, (b, bs, stacked, spot))
code_end t fs (Some (frame.Field field)) e (others, top) = let (spot, ends) = field_in t fs field others e.frames top in
    (open_inside, e.code ∙ ends, refl, spot ∙ ap (λ (b : Bool). if b then here t - 1 else field_start t) (sym e.calm))

-- a string is open, a short one or a long one
abbrev pub string_what : Bool → Unfinished
string_what long = if long then open_long else open_short

abbrev pub string_kind : Bool → FaultKind
string_kind long = if long then fault_kind.OpenTriple else fault_kind.OpenString

-- where the text ends in this mode, this is open
pub record OpenText (what : Unfinished) (place : Place) (m : FieldMode) : Type 0 where
  pub is : (outer : List Level) (openers : List ℕ) → unfinished_in outer openers m ≡ Some what
  pub stands : text_place m ≡ place
  pub calm : is_waiting m ≡ false
  pub no_return : is_return_at m ≡ false

-- characters may go on in it, and this is open after them
abbrev pub IfGrows : (FieldMode → Type 0) → FieldMove → Type 0
IfGrows P (grows m) = P m
IfGrows P refused = Unit {0}
IfGrows P other = ⊥

abbrev pub StaysOpen : Unfinished → Place → FieldMode → List ℕ → Type 0
StaysOpen what place m [] = OpenText what place m
StaysOpen what place m (c ∷ cs) = InText m × IfGrows (λ n. StaysOpen what place n cs) (field_move m [] c)

-- if the machine has gone over them, they did
pub record EndsText (what : Unfinished) (place : Place) (t u : FieldScanned) : Type 0 where
  pub mode : FieldMode
  pub held : List ℕ
  pub is : u ≡ field_state t.outer t.done t.openers mode held
  pub told : OpenText what place mode

keeps_to : (what : Unfinished) (place : Place) (outer : List Level) (done : List Piece) (openers : List ℕ) (m : FieldMode) (held run : List ℕ) (u : FieldScanned) → StaysOpen what place m run → Goes (field_state outer done openers m held) run u
    → EndsText what place (field_state outer done openers m held) u
keeps_to what place outer done openers m held [] u keeps same = record { mode = m; held = held; is = sym same; told = keeps }
keeps_to what place outer done openers m held (c ∷ cs) u (in_text, keeps) (open_yet, next, step, on, goes) =
    by (field_move m [] c) (held_nothing m held c in_text) keeps (λ n kept over. keeps_to what place outer done openers n (held ++ c ∷ []) cs u kept over)
  where
    T : FieldScanned
    T = field_state outer done openers m held

    by : (v : FieldMove) → field_move m held c ≡ v → IfGrows (λ n. StaysOpen what place n cs) v → ((n : FieldMode) → StaysOpen what place n cs → Goes (field_state outer done openers n (held ++ c ∷ [])) cs u → EndsText what place (field_state outer done openers n (held ++ c ∷ [])) u) → EndsText what place (field_state outer done openers m held) u
    by (grows n) move kept others = let to : FieldScanned = field_state outer done openers n (held ++ c ∷ []) in
        let there : room_step T c ≡ Some to = steps T c (grows n) move to (room_grows (frames T) c n) refl in
        let e = others n kept (subst (λ (s : FieldScanned). Goes s cs u) (some_is next to (sym step ∙ there)) goes) in
        record { mode = e.mode; held = e.held; is = e.is; told = e.told }
    by refused move kept others = absurd (cc (step, no_step T c refused move refl))
    by v move none others = absurd none

pub text_end : (what : Unfinished) (place : Place) (t u : FieldScanned) (run : List ℕ) → StaysOpen what place t.mode run → Goes t run u → EndsText what place t u
text_end what place t u run keeps goes = keeps_to what place t.outer t.done t.openers t.mode t.held run u keeps goes

-- What holds of each text that doesn't tell yet in a string: none, a backslash, CR or `N` after it, or one or two quotes of a long string.
pub slash_only : (c : ℕ) → is_backslash c ≡ true → c ≡ 92
unfolding is_backslash
slash_only c is = the_one 92 c is

pub by_part : (P : List ℕ → Type 0) (long : Bool) (q : ℕ) → P [] → P (92 ∷ []) → P (92 ∷ 13 ∷ []) → P (92 ∷ 78 ∷ [])
    → (long ≡ true → P (q ∷ []) × P (q ∷ q ∷ [])) → (run : List ℕ) → is_part_of_text long q run ≡ true → P run
by_part P long q none slash back name quotes run part = grind (arith, slash_only, eqb-true, both_ways)

-- in a short string or a long one
pub short_part : (q : ℕ) (run : List ℕ) → is_quote q ≡ true → is_part_of_text false q run ≡ true → StaysOpen open_short literal (plain (modes.Inside q)) run
unfolding field_move move_of short_move is_backslash is_return is_quote
short_part q run quote part = grind arith

pub long_part : (q : ℕ) (run : List ℕ) → is_quote q ≡ true → is_part_of_text true q run ≡ true → StaysOpen open_long literal (plain (modes.Long q)) run
unfolding field_move move_of long_move is_backslash is_quote
long_part q run quote part = grind arith

-- in one with fields
abbrev pub what_in : Host → Place → Unfinished
what_in h literal = string_what h.is_long
what_in h specification = open_inside

body_open : (h : Host) (place : Place) (named : Bool) (at : At) → is_after_brace at ≡ false → OpenText (what_in h place) place (body h place named at)
body_open h place named at other = grind arith

-- CR and `N` after a backslash
escaped_return : (h : Host) (place : Place) (named : Bool) → IfGrows (OpenText (what_in h place) place) (field_move (body h place named after_slash) [] 13)
unfolding field_move body_move escape_move is_brace is_return is_break
escaped_return h place named = grind (arith, body_open h place named after_return refl)

escaped_name : (h : Host) (place : Place) (named : Bool) → IfGrows (OpenText (what_in h place) place) (field_move (body h place named after_slash) [] 78)
unfolding field_move body_move escape_move is_brace is_return is_break
escaped_name h place named = grind (arith, body_open h place named after_name refl, body_open h place named between refl)

pub body_part : (h : Host) (place : Place) (named : Bool) (run : List ℕ) → is_quote h.quote ≡ true → is_part_of_text h.is_long h.quote run ≡ true
    → StaysOpen (what_in h place) place (body h place named between) run
unfolding field_move body_move between_move is_backslash is_quote
body_part h place named run quote part = let other : 92 == h.quote ≡ false = not_quote 92 h.quote quote refl in
    let same : h.quote == h.quote ≡ true = eq-eqb h.quote h.quote refl in
    by_part (StaysOpen (what_in h place) place (body h place named between)) h.is_long h.quote (body_open h place named between refl)
    (rw other (tt, body_open h place named after_slash refl)) (rw other (tt, (tt, escaped_return h place named)))
    (rw other (tt, (tt, escaped_name h place named)))
    (λ long. let one : field_move (body h place named between) [] h.quote ≡ grows (body h place named after_one) = rw (same, long) refl in
    let two : field_move (body h place named after_one) [] h.quote ≡ grows (body h place named after_two) = rw (same, long) refl in
    let P : List ℕ → FieldMode → Type 0 = λ cs n. StaysOpen (what_in h place) place n cs in (
      (tt, subst (IfGrows (P [])) (sym one) (body_open h place named after_one refl)),
      (tt, subst (IfGrows (P (h.quote ∷ []))) (sym one) (tt, subst (IfGrows (P [])) (sym two) (body_open h place named after_two refl))),
    )) run part

-- where the machine comes to is one
goes_next : (t s u : FieldScanned) (c : ℕ) (cs : List ℕ) → StepsOn t c s → Goes t (c ∷ cs) u → Goes s cs u
goes_next t s u c cs step (open_yet, next, is, on, goes) = subst (λ (x : FieldScanned). Goes x cs u) (some_is next s (sym is ∙ step.0)) goes

goes_same : (t u v : FieldScanned) (run : List ℕ) → Goes t run u → Goes t run v → u ≡ v
goes_same t u v [] one other = sym one ∙ other
goes_same t u v (c ∷ cs) one (open_yet, next, is, on, goes) = goes_same next u v cs (goes_next t next u c cs (is, on) one) goes

-- the piece of code that is open may end there, and is no CR
abbrev EndsMode : FieldMode → Type 0
EndsMode m = ((outer : List Level) (openers : List ℕ) → unfinished_in outer openers m ≡ unfinished_code outer openers)
    × (is_waiting m ≡ false) × (is_return_at m ≡ false)

code_mode_ends : (m : OpenMode) → is_text m ≡ false → EndsMode (mode_from m)
code_mode_ends m code = grind arith

two_quotes_end : (b : Bool) (s : Spelling) (q : ℕ) → EndsMode (two_quotes b s q)
two_quotes_end b s q = grind arith

one_quote_open : (b : Bool) (s : Spelling) (q : ℕ) → ((outer : List Level) (openers : List ℕ) → unfinished_in outer openers (one_quote b s q) ≡ Some open_short) × (is_return_at (one_quote b s q) ≡ false)
one_quote_open b s q = grind arith

-- the byte that is left, if it is the only one
abbrev pub lone_of : List ℕ → ℕ
lone_of (b ∷ []) = b
lone_of other = 0

pub lone_is : (bytes : List ℕ) → lone_of bytes ≡ (if length bytes == 1 then slice_index bytes 0 else 0)
lone_is bytes = grind arith

only_lone : (run : List ℕ) → 0 < lone_of run → run ≡ lone_of run ∷ []
only_lone run some = grind arith

quote_some : (q : ℕ) → is_quote q ≡ true → 0 < q
unfolding is_quote
quote_some zero quote = absurd (both_ways _ refl quote)
quote_some (suc q) quote = omega arith

pub lone_brace : (region : Region) (named : Bool) (run : List ℕ) → is_lone_brace region named run ≡ true → (region ≡ regions.Literal) × (named ≡ false) × (run ≡ 123 ∷ [])
lone_brace regions.Literal false (c ∷ []) is = (refl, refl, ap (λ (x : ℕ). x ∷ []) (eqb-true c 123 is))
lone_brace region named run is = absurd (both_ways _ refl is)

-- characters that don't tell in code
pub code_parts : (m : OpenMode) (run : List ℕ) → is_text m ≡ false → is_pending m run ≡ true → (is_part_of_code run ≡ true) × (is_begun_after m run ≡ true)
code_parts (opens.Word s) run code is = and_parts _ _ is
code_parts m run code is = grind arith

-- What holds of each of them: none, CR, a backslash, CR after it, or one or two quotes.
by_code : (P : List ℕ → Type 0) → P [] → P (13 ∷ []) → P (92 ∷ []) → P (92 ∷ 13 ∷ []) → ((q : ℕ) → is_quote q ≡ true → P (q ∷ []) × P (q ∷ q ∷ []))
    → (run : List ℕ) → is_part_of_code run ≡ true → P run
by_code P none back slash join quotes [] part = none
by_code P none back slash join quotes (c ∷ []) part = grind (arith, slash_only c, eqb-true c 13)
by_code P none back slash join quotes (c ∷ d ∷ []) part = grind (arith, slash_only c, eqb-true d c, eqb-true d 13)
by_code P none back slash join quotes (c ∷ d ∷ e ∷ run) part = absurd (both_ways _ refl part)

-- what the machine comes to by them: no piece is open that may not end there, unless a quote or a backslash is all that was read; and no CR
-- of a line end was read last, unless it is all that was, outside brackets and fields
pub record CodeOver (t u : FieldScanned) (fs : List Frame) (run : List ℕ) : Type 0 where
  pub ends : is_quote (lone_of run) ≡ false → is_backslash (lone_of run) ≡ false → EndsCode u fs
  pub open_yet : (frames t == 0 ≡ true → run ≡ 13 ∷ [] → ⊥) → has_returned u ≡ false

module _ (old : Scan) (t u : FieldScanned) (follow : Follows old t) (code : is_text old.mode ≡ false) where
  -- nothing is open that may not end there
  over : (run : List ℕ) (s : FieldScanned) → s ≡ u → EndsMode s.mode → FramesFollow s.outer s.done s.openers old.frames → CodeOver t u old.frames run
  over run s same ends framed = grind arith

  pub code_over : (run : List ℕ) → is_pending old.mode run ≡ true → Goes t run u → CodeOver t u old.frames run
  unfolding is_backslash
  code_over run pending goes = by_code (λ cs. is_begun_after old.mode cs ≡ true → Goes t cs u → CodeOver t u old.frames cs)
      (λ begun same. over [] t same (subst EndsMode follow.mode (code_mode_ends old.mode code)) follow.frames) (λ begun on.
      let r = returns old t follow code in let there = goes_next t _ u 13 [] r.0 on in record {
        ends = λ no_quote no_slash. subst (λ (x : FieldScanned). EndsCode x old.frames) there (record { code = refl; calm = refl; frames = r.1.frames });
        open_yet = λ other. ap has_returned (sym there) ∙ false_from_ne_true (frames t == 0) (λ none. other none refl);
      }) (λ begun on. record {
        ends = λ no_quote no_slash. absurd (both_ways _ no_slash refl);
        open_yet = λ other. ap has_returned (sym (goes_next t _ u 92 [] (slashes old t follow begun).0 on));
      }) (λ begun on.
      let h = half old t follow begun in over (92 ∷ 13 ∷ []) _ (goes_next _ _ u 13 [] h.0 (goes_next t _ u 92 (13 ∷ []) (slashes old t follow begun).0 on))
      (λ outer openers. refl, refl, refl) h.1.frames) (λ q quote. (
        λ begun on. let string = string_begun old t q follow quote begun in
            record {
              ends = λ no_quote no_slash. absurd (both_ways _ no_quote quote);
              open_yet = λ other. ap has_returned (sym (goes_next t _ u q [] string.step on)) ∙ ap (λ b. b && (frames t == 0)) (one_quote_open _ _ q).1;
            },
        λ begun on.
            let string = string_begun old t q follow quote begun in let w = two old t q quote (follows_open old t follow) _ _ string in
            over (q ∷ q ∷ []) _ (goes_next _ _ u q [] w.0 (goes_next t _ u q (q ∷ []) string.step on)) (two_quotes_end _ _ q) w.1.frames,
      )) run (code_parts old.mode run code pending).0 (code_parts old.mode run code pending).1 goes

-- the text of a string is open, which this byte doesn't end or open a field in
abbrev pub IsStringOf : Bool → ℕ → OpenMode → Type 0
IsStringOf long lone (opens.Short q) = long ≡ false
IsStringOf long lone (opens.Long q) = long ≡ true
IsStringOf long lone (opens.Fields h regions.Literal named) = (h.is_long ≡ long) × (named ≡ false → lone ≡ 123 → ⊥)
IsStringOf long lone other = ⊥

string_stays : (m : OpenMode) (long : Bool) (run : List ℕ) → HasQuote m → is_pending m run ≡ true → IsStringOf long (lone_of run) m
    → (StaysOpen (string_what long) literal (mode_from m) run) × (text_place (mode_from m) ≡ literal)
string_stays (opens.Short q) long run quote part is = (rw is (short_part q run quote part), refl)
string_stays (opens.Long q) long run quote part is = (rw is (long_part q run quote part), refl)
string_stays (opens.Fields h regions.Literal named) long run quote part (same, other) = (
  ⊎_elim (λ brace. let (place, none, is) = lone_brace regions.Literal named run brace in absurd (other none (ap lone_of is)))
      (λ kept. subst (λ b. StaysOpen (string_what b) literal (body (host_in h) literal named between) run) same (body_part (host_in h) literal named run quote kept))
      (or_cases (is_lone_brace regions.Literal named run) (is_part_of_text h.is_long h.quote run) part),
  refl,
)
string_stays m long run quote part is = absurd is

-- what is wrong where the text ends with these characters
module _ (old : Scan) (run : List ℕ) (pending : IsPending old.mode run) where
  -- the string is open, or the field whose specification is
  pub string_left : (long : Bool) (f : LineFault) → IsStringOf long (lone_of run) old.mode → f.kind ≡ string_kind long → f.place ≡ old.start
      → EndsOpen old run (Some f)
  string_left long f is kind place t u follow goes = subst (λ (s : FieldScanned). IsFieldEnd s (Some f)) (sym e.is) (by long e.told kind) where
    stays : StaysOpen (string_what long) literal (mode_from old.mode) run × (text_place (mode_from old.mode) ≡ literal)
    stays = string_stays old.mode long run follow.quote (pending follow.quote) is

    e : EndsText (string_what long) literal t u
    e = text_end (string_what long) literal t u run (subst (λ (m : FieldMode). StaysOpen (string_what long) literal m run) follow.mode stays.0) goes

    start : f.place ≡ piece_start (field_state t.outer t.done t.openers e.mode e.held)
    start = place ∙ follow.start ∙ ap (λ p. byte_len (before p t.outer ++ spelled t.done)) (sym (ap text_place follow.mode) ∙ stays.1 ∙ sym e.told.stands)

    by : (b : Bool) → OpenText (string_what b) literal e.mode → f.kind ≡ string_kind b → IsFieldEnd (field_state t.outer t.done t.openers e.mode e.held) (Some f)
    by true told kind = (open_long, told.is t.outer t.openers, kind, start)
    by false told kind = (open_short, told.is t.outer t.openers, kind, start)

  pub specification_left : (host : StringWithFields) (named : Bool) → old.mode ≡ opens.Fields host regions.Specification named
      → (f : LineFault) → ((top : Frame) (others : List Frame) → old.frames ≡ top ∷ others → f.place ≡ place_of top) → f.kind ≡ fault_kind.OpenField
      → EndsOpen old run (Some f)
  specification_left host named mode f last kind t u follow goes = let there = sym follow.mode ∙ ap mode_from mode in
      let keeps = body_part (host_in host) specification named run (rw mode at follow.quote) (rw mode at (pending follow.quote)) in
      let e = text_end open_inside specification t u run (rw there keeps) goes in let S : FieldScanned = field_state t.outer t.done t.openers e.mode e.held in
      let place = specification_place old t f.place follow (ap text_place there) last in subst (λ (s : FieldScanned). IsFieldEnd s (Some f)) (sym e.is)
      (open_inside, e.told.is t.outer t.openers, kind, place ∙ ap (λ (b : Bool). if b then here S - 1 else field_start t) (sym e.told.calm))

  -- a `{` would open a field, if there is room
  pub brace_left : (host : StringWithFields) (room : Bool) → old.mode ≡ opens.Fields host regions.Literal false → lone_of run ≡ 123 → nat_lt (length old.frames) 200 ≡ room
      → (f : LineFault) → f.kind ≡ (if room then fault_kind.OpenField else fault_kind.TooDeep) → f.place ≡ old.stop → EndsOpen old run (Some f)
  brace_left host room mode brace is f kind place t u follow goes =
      subst (λ (x : FieldScanned). IsFieldEnd x (Some f)) (goes_same t At u (123 ∷ []) (goes_literal old t follow host (ap mode_from mode)) one)
      (ends room (ap (λ (n : ℕ). Some (if nat_lt n 200 then open_inside else open_brace)) (sym (open-length old t follow))
      ∙ ap (λ (b : Bool). Some (if b then open_inside else open_brace)) is) kind)
    where
      At : FieldScanned
      At = after_it t (host_in host)

      one : Goes t (123 ∷ []) u
      one = subst (λ (x : List ℕ). Goes t x u) (only_lone run (omega (arith, brace)) ∙ ap (λ (b : ℕ). b ∷ []) brace) goes

      ends : (b : Bool) → unfinished_at At ≡ Some (if b then open_inside else open_brace) → f.kind ≡ (if b then fault_kind.OpenField else fault_kind.TooDeep)
          → IsFieldEnd At (Some f)
      ends true told kind = (open_inside, told, kind, place ∙ brace_here old t follow host (ap mode_from mode))
      ends false told kind = (open_brace, told, kind, place ∙ brace_here old t follow host (ap mode_from mode))

  -- in code
  module _ (code : is_text old.mode ≡ false) where
    after : (t u : FieldScanned) → HasQuote old.mode → Goes t run u → (b : ℕ) → lone_of run ≡ b → 0 < b → (ends_before old.mode b ≡ true) × Goes t (b ∷ []) u
    after t u quote goes b is some = let one : run ≡ b ∷ [] = only_lone run (omega (arith, is, some)) ∙ ap (λ (x : ℕ). x ∷ []) is in
        ((rw one at (code_parts old.mode run code (pending quote))).1, rw one at goes)

    -- a backslash is open
    pub slash_left : lone_of run ≡ 92 → (f : LineFault) → f.kind ≡ fault_kind.BadJoin → f.place ≡ old.stop → EndsOpen old run (Some f)
    slash_left is f kind place t u follow goes = let (begun, on) = after t u follow.quote goes 92 is (omega arith) in let s = slashes old t follow begun in
        subst (λ (x : FieldScanned). IsFieldEnd x (Some f)) (goes_next t _ u 92 [] s.0 on) (open_join, refl, kind, place ∙ s.1.begins)

    -- a string is
    pub quote_left : is_quote (lone_of run) ≡ true → (f : LineFault) → f.kind ≡ fault_kind.OpenString → f.place ≡ (string_start old).0 → EndsOpen old run (Some f)
    quote_left quote f kind place t u follow goes = let (begun, on) = after t u follow.quote goes (lone_of run) refl (quote_some (lone_of run) quote) in
        let string = string_begun old t (lone_of run) follow quote begun in
        subst (λ (x : FieldScanned). IsFieldEnd x (Some f)) (goes_next t _ u (lone_of run) [] string.step on) (
          open_short,
          (one_quote_open _ _ (lone_of run)).0 t.outer t.openers,
          kind,
          place ∙ string.at.begins ∙ ap (λ p. byte_len (before p t.outer ++ spelled string.done)) (sym string.at.place),
        )

    -- or what is innermost
    pub code_left : is_quote (lone_of run) ≡ false → (lone_of run ≡ 92 → ⊥) → (top : Option Frame) → IsInnermostFrame top old.frames → EndsOpen old run (frame_fault top)
    code_left no_quote no_slash top is t u follow goes = code_end u old.frames top
        ((code_over old t u follow code run (pending follow.quote) goes).ends no_quote (false_from_ne_true _ (λ slash. no_slash (slash_only _ slash)))) is

-- what doesn't tell in a string's text: it is such a `{`, or keeps the text open
text_part : (R : Type 0) (m : OpenMode) (run : List ℕ) → HasQuote m → is_text m ≡ true → is_pending m run ≡ true
    → ((host : StringWithFields) → mode_from m ≡ body (host_in host) literal false between → run ≡ 123 ∷ [] → R)
    → ((what : Unfinished) (place : Place) → StaysOpen what place (mode_from m) run → R) → R
text_part R (opens.Short q) run quote text part lone kept = kept open_short literal (short_part q run quote part)
text_part R (opens.Long q) run quote text part lone kept = kept open_long literal (long_part q run quote part)
text_part R (opens.Fields host region named) run quote text part lone kept =
    ⊎_elim (λ brace. let (place, none, is) = lone_brace region named run brace in lone host (rw (place, none) refl) is)
    (λ other. kept _ (region_in region) (body_part (host_in host) (region_in region) named run quote other))
    (or_cases (is_lone_brace region named run) (is_part_of_text host.is_long host.quote run) part)
text_part R m run quote text part lone kept = absurd (both_ways _ refl text)

-- no CR of a line end was read last, unless it is all that was, in code outside brackets and fields
pub pending_open : (old : Scan) (t u : FieldScanned) (run : List ℕ) → Follows old t → is_pending old.mode run ≡ true → Goes t run u
    → (is_text old.mode ≡ false → frames t == 0 ≡ true → run ≡ 13 ∷ [] → ⊥) → has_returned u ≡ false
pending_open old t u run follow pending goes other = by (is_text old.mode) refl where
  open_at : (s : FieldScanned) → s ≡ u → is_return_at s.mode ≡ false → has_returned u ≡ false
  open_at s same no_return = ap has_returned (sym same) ∙ ap (λ b. b && (frames s == 0)) no_return

  by : (b : Bool) → is_text old.mode ≡ b → has_returned u ≡ false
  by true text = text_part (has_returned u ≡ false) old.mode run follow.quote text pending
      (λ host is lone. open_at _ (goes_same t _ u (123 ∷ []) (goes_literal old t follow host is) (subst (λ (x : List ℕ). Goes t x u) lone goes)) refl)
      (λ what place kept.
      let e = text_end what place t u run (subst (λ (m : FieldMode). StaysOpen what place m run) follow.mode kept) goes in
      open_at _ (sym e.is) e.told.no_return)
  by false code = (code_over old t u follow code run pending goes).open_yet (other code)

-- what doesn't tell yet are characters of ASCII
part_low : (long : Bool) (q : ℕ) (run : List ℕ) → is_quote q ≡ true → is_part_of_text long q run ≡ true → AreLow run
part_low long q run quote part = let low = quote_ascii q quote in by_part AreLow long q refl refl refl refl (λ is. (one_low q low, two_low q low)) run part

pending_low : (m : OpenMode) (run : List ℕ) → HasQuote m → is_pending m run ≡ true → AreLow run
pending_low (opens.Short q) run quote part = part_low false q run quote part
pending_low (opens.Long q) run quote part = part_low true q run quote part
pending_low (opens.Fields host region named) run quote part =
    ⊎_elim (λ lone. subst AreLow (sym (lone_brace region named run lone).2) refl) (λ other. part_low host.is_long host.quote run quote other)
    (or_cases (is_lone_brace region named run) (is_part_of_text host.is_long host.quote run) part)
pending_low m run quote part =
    by_code AreLow refl refl refl refl (λ q is. (one_low q (quote_ascii q is), two_low q (quote_ascii q is))) run (code_parts m run refl part).0

-- these are all characters with which bytes begin that don't tell yet
pub pending_run : (m : OpenMode) (bytes run rest : List ℕ) → HasQuote m → HasPending m bytes → all_scalars run ≡ true → StartsWithNoChar rest → encode_utf8_all run ++ rest ≡ bytes → (is_pending m run ≡ true) × AreLow run
pending_run m bytes run rest quote p scalars none spell = let low = pending_low m p.run quote p.is in
    let same : p.run ≡ run = (one_decoding p.run run p.rest rest (low_scalars p.run low) scalars p.none none (p.spell ∙ sym spell)).0 in
    (subst (λ (x : List ℕ). is_pending m x ≡ true) same p.is, subst AreLow same low)

-- they are the longest prefix of the bytes that is text
pub whole_run : (bytes prefix run rest : List ℕ) → prefix ≡ take (length prefix) bytes → ((x : List ℕ) × ((all_scalars x ≡ true) × (encode_utf8_all x ≡ prefix))) → StartsWithNoChar (drop (length prefix) bytes)
    → all_scalars run ≡ true → StartsWithNoChar rest → encode_utf8_all run ++ rest ≡ bytes → (encode_utf8_all run ≡ prefix) × (rest ≡ drop (length prefix) bytes)
whole_run bytes prefix run rest is (x, (scalars, spelled_so)) bad fine none spell = let left : List ℕ = drop (length prefix) bytes in
    let whole : encode_utf8_all x ++ left ≡ bytes = ap (λ p. p ++ left) (spelled_so ∙ is) ∙ take-append-drop (length prefix) bytes in
    let same = one_decoding run x rest left fine scalars none bad (spell ∙ sym whole) in (ap encode_utf8_all same.0 ∙ spelled_so, same.1)

-- the line ends with CR
pub ends_returned : (old : Scan) (t : FieldScanned) (bytes : List ℕ) (new : Scan) → Follows old t → is_text old.mode ≡ false → old.frames ≡ [] → begins (λ c. c == 13) bytes ≡ true → new ≡ passed old 1 → EndsReturned t bytes old 1 new
ends_returned old t bytes new follow code none first like = let r = returns old t follow code in
    let goes : Goes t (13 ∷ []) _ = (follows_open old t follow, _, r.0.0, r.0.1, refl) in
    search (first, goes, ap (λ n. n == 0) (sym (open-length old t follow) ∙ ap length none), like)

-- CR stands first
pub begins_there : (bytes : List ℕ) → starts_with nat_eq bytes (13 ∷ []) ≡ true → begins (λ c. c == 13) bytes ≡ true
begins_there [] is = is
begins_there (b ∷ rest) is = grind arith

-- or the machine isn't after it
pub not_returned : (old : Scan) (t : FieldScanned) (bytes : List ℕ) → Follows old t → HasPending old.mode bytes → (all : GoesOverAll t bytes)
    → (is_text old.mode ≡ false → length old.frames == 0 ≡ true → starts_with nat_eq bytes (13 ∷ []) ≡ true → ⊥) → has_returned all.to ≡ false
not_returned old t bytes follow pending all other =
    pending_open old t all.to all.run follow (pending_run old.mode bytes all.run all.rest follow.quote pending all.scalars all.none all.spell).0 all.goes
    (λ code none is. other code (ap (λ n. n == 0) (open-length old t follow) ∙ none)
    (ap (λ (x : List ℕ). starts_with nat_eq x (13 ∷ [])) (sym (rw is at all.spell) ∙ ap (λ x. x ++ all.rest) (low_encoded (13 ∷ []) refl))))

-- nothing is in the list
pub no_members : {A : Type 0} (xs : List A) → length xs == 0 ≡ true → xs ≡ []
no_members [] is = refl
no_members (x ∷ xs) is = absurd (omega (arith, eqb-true (length (x ∷ xs)) 0 is))
