-- What bytes come to in code, by what their first character begins or adds to; and the quotes with which a string begins there: it is empty, or
-- its text is open.
use Rattle.py_lines.proofs.Prelude.{◌≡◌, ℕ, ◌+◌, ◌<◌, ◌==◌, Bool, true, false, Option, None, Some, List, [], ◌∷◌, ◌++◌, length, drop, refl, sym, ap, ◌∙◌, subst, arith, ◌&&◌, slice_index, codes, if◌then◌else◌, len_utf8, StartsWithNoChar, both_ways, cond_both, false_from_ne_true, eq-eqb, len_utf8_ascii, len_utf8_bounds, is_closing, is_backslash, is_break, is_mark, is_operator, is_quote, begins, Piece, Spelling, Progress, Scan, Frame, StringWithFields, Region, literal, OpenMode, BeginsWith}
use Rattle.py_lines.specs.Faults.{kind_of_cause}
use Rattle.py_lines.specs.declared.fault.FaultKind.TheVariants as kinds
use Rattle.py_lines.specs.declared.mode.Mode.TheVariants as opens
use Rattle.py_lines.specs.declared.scan.Progress.TheVariants as progress
use Rattle.py_lines.specs.Private.Machine.{Mode, move_of, start_of, Start as starts, begins_string, is_field_spelling, is_raw_spelling}
use Rattle.py_lines.specs.Private.Mode as modes
use Rattle.py_lines.specs.Private.FieldMachine.{FieldMode, FieldScanned, breaks, closes, field_closed, field_move, field_started, field_state, grows, plain, text_place, between, body, empty, frames, opened}
use Rattle.py_lines.specs.Private.LineEnds.{BeginsOuterEnd, HasOuterEnd}
use Rattle.py_lines.specs.Private.Scan.{ComesTo, Follows, GoesOver, HasQuote, HoldsCode, TakesOperator, begun_at, ends_before, grown, has_returned, is_text, line_end_progress, mode_from, passed, wrong_here, host_in, is_break_move, is_ending, is_part_of_code, is_return_at, quotes_in, string_from, string_mode, string_start}
use Rattle.py_lines.proofs.Machine.LiveTexts.{closing-operator}
use Rattle.py_lines.proofs.Machine.Soundness.{StartHolds, start_holds}
use Rattle.py_lines.proofs.Machine.Starts.{opens_no, start-operator, start-quote}
use Rattle.py_lines.proofs.Text.CharacterTests.{each_of, operator_ascii, quote-not-word, the_one}
use Rattle.py_lines.proofs.FieldScans.PlainCode.{operator_is}
use Rattle.py_lines.proofs.Text.FirstCharacters.{first_size}
use Rattle.py_lines.proofs.FieldScans.LineEnds.{at, breaks_before, code_before, code_breaks, line_ends_so, pending_code, pending_none, parts, return_breaks, return_waits, waits_low, Walks, breaks_mode, over_low, walks_on, walks_one}
use Rattle.py_lines.proofs.LineScan.AsciiRuns.{break_low, quote_ascii}
use Rattle.py_lines.proofs.FieldScans.StringBytes.{first_byte_is, first_is, by_quotes}
use Rattle.py_lines.proofs.FieldScans.Moves.{said, word_meets}
use Rattle.py_lines.proofs.FieldScans.Operators.{code_cause, fault_in_code}
use Rattle.py_lines.proofs.FieldScans.Taking.{follows_open, rests_exact, IsTaken, Opening, Shut, break_starts, StandsAt, follows_at, goes_on, no_line_end, no_step, one_comes, over_one, stands_at, stands_begun, stands_grown, stands_shut, wrong_at, StepsOn, rests_ended}
use Rattle.py_lines.specs.declared.mode.Region.TheVariants as regions
use Rattle.py_lines.specs.declared.mode.Spelling.TheVariants as spellings
use Rattle.py_lines.specs.Private.FieldFaults.{cause_in}
use Rattle.py_lines.proofs.Text.Utf8Prefixes.{nothing_bad}
use Rattle.py_lines.proofs.FieldScans.StringTexts.{first_other}
use Rattle.py_lines.proofs.FieldScans.TextItems.{IsTextMode, same_alike, text_is}

-- a quote begins a string, and an operator no quote
no_quote : (c : ℕ) (m : Mode) → start_of c ≡ starts.Open m → ((q : ℕ) → m ≡ modes.Opened q → ⊥) → is_quote c ≡ false
no_quote c m is other = false_from_ne_true _ (λ quote. let same : starts.Open (modes.Opened c) ≡ starts.Open m = sym (start-quote c quote) ∙ is in other c (cc))

-- what begins nothing
module _ (c : ℕ) (nothing : start_of c ≡ starts.Nothing) where
  nothing_quote : is_quote c ≡ false
  nothing_quote = false_from_ne_true _ (λ quote. let clash = sym (start-quote c quote) ∙ nothing in cc)

  nothing_break : is_break c ≡ false
  nothing_break = false_from_ne_true _ (λ break. subst IsTaken nothing (break_starts c break).0)

  nothing_cause : kind_of_cause (code_cause c) ≡ kinds.BadChar
  nothing_cause =
      let shuts : is_closing c ≡ false = false_from_ne_true _ (λ shuts. let clash = sym (start-operator c (closing-operator c shuts)) ∙ nothing in cc) in
      rw (shuts, opens_no c starts.Nothing nothing (λ is. cc)) refl

-- the scan of code where the open piece ends before the first character
module _ (old : Scan) (t : FieldScanned) (bytes : List ℕ) (c : ℕ) (follow : Follows old t) (first : BeginsWith bytes c) (after : ends_before old.mode c ≡ true) where
  code : is_text old.mode ≡ false
  code = code_before old.mode c after

  here : StandsAt t old.frames old.start old.stop
  here = at old t follow code

  open_yet : has_returned t ≡ false
  open_yet = follows_open old t follow

  -- it begins a word, space or a comment
  piece_begins : (m : Mode) (mode : OpenMode) → mode_from mode ≡ plain m → start_of c ≡ starts.Open m → ((q : ℕ) → m ≡ modes.Opened q → ⊥) → HoldsCode (plain m) (c ∷ []) → HasQuote mode
      → GoesOver t bytes (len_utf8 c) (begun_at old mode (len_utf8 c))
  piece_begins m mode same starts_with other holds quote = let ends = breaks_before old t c follow after (no_quote c m starts_with other) in
      let begun = stands_begun t old.frames old.start old.stop here c follow.holds ends m starts_with in let new = begun_at old mode (len_utf8 c) in
      over_one t (Opening t old.frames old.start old.stop here c m) c bytes new first open_yet begun.0
      (rests_exact new (Opening t old.frames old.start old.stop here c m) (drop (len_utf8 c) bytes) (follows_at _ old.frames old.stop (old.stop + len_utf8 c) mode begun.1 same holds quote))

  pub word_begins : (s : Spelling) → start_of c ≡ starts.Open (modes.Word s) → GoesOver t bytes (len_utf8 c) (begun_at old (opens.Word s) (len_utf8 c))
  word_begins s so = piece_begins (modes.Word s) (opens.Word s) refl so (λ q is. cc) (subst (StartHolds c) so (start_holds c)) tt

  pub space_begins : start_of c ≡ starts.Open modes.Space → GoesOver t bytes (len_utf8 c) (begun_at old opens.Space (len_utf8 c))
  space_begins so = piece_begins modes.Space opens.Space refl so (λ q is. cc) tt tt

  pub comment_begins : start_of c ≡ starts.Open modes.Comment → GoesOver t bytes (len_utf8 c) (begun_at old opens.Comment (len_utf8 c))
  comment_begins so = piece_begins modes.Comment opens.Comment refl so (λ q is. cc) tt tt

  -- it is an operator
  pub operator_comes : is_operator c ≡ true → (p : Progress) (new : Scan) → TakesOperator old c p new → ComesTo t bytes old p new
  operator_comes is p new takes =
      one_comes t c bytes old new p first (len_utf8_ascii c (operator_ascii c is)) follow (takes t follow (breaks_before old t c follow after (operator_is c is).1))

  -- it begins a line end
  pub line_end_comes : (len : ℕ) → BeginsOuterEnd bytes len → ComesTo t bytes old (line_end_progress (length old.frames == 0) len) (passed old len)
  line_end_comes len e = line_ends_so old t follow code bytes len e

  -- it is CR alone, and doesn't tell
  pub break_waits : is_break c ≡ true → HasOuterEnd bytes None → ComesTo t bytes old progress.Waits old
  break_waits is none = let alone : bytes ≡ 13 ∷ [] = none (ap (begins is_break) (sym (first_is bytes c (break_low c is) first)) ∙ is) in
      subst (λ x. ComesTo t x old progress.Waits old) (sym alone)
      (return_waits old t follow code (pending_code old.mode 13 [] (code_breaks old.mode 13 code return_breaks.0) parts.0))

  -- it begins nothing
  pub nothing_wrong : start_of c ≡ starts.Nothing → ComesTo t bytes old (wrong_here old kinds.BadChar) old
  nothing_wrong nothing = let ends = breaks_before old t c follow after (nothing_quote c nothing) in (
    wrong_at t c bytes (record { kind = kinds.BadChar; place = old.stop }) first open_yet
        (no_step t c breaks ends (ap (field_started t.outer (field_closed t.mode t.done t.held) t.openers c) nothing))
        (fault_in_code old t c kinds.BadChar follow here.place (nothing_break c nothing) (nothing_cause c nothing)),
    refl,
  )

-- what the callees ask for

-- no text of a string is open
pub code_mode : (m : OpenMode) → ((q : ℕ) → m ≡ opens.Short q → ⊥) → ((q : ℕ) → m ≡ opens.Long q → ⊥)
    → ((host : StringWithFields) (region : Region) (named : Bool) → m ≡ opens.Fields host region named → ⊥) → is_text m ≡ false
code_mode m short long fields = grind arith

pub some_first : {bytes : List ℕ} {c : ℕ} → BeginsWith bytes c → 0 < length bytes
some_first {bytes} {c} first = omega (arith, first_size first, len_utf8_bounds c)

pub begins_so : (passes : ℕ → Bool) (m : OpenMode) (bytes : List ℕ) (c : ℕ) → BeginsWith bytes c → ends_before m c ≡ true → c < 128 → passes c ≡ true
    → (begins passes bytes ≡ true) × (ends_before m (slice_index bytes 0) ≡ true)
begins_so passes m bytes c first after low is = (ap (begins passes) (sym (first_is bytes c low first)) ∙ is, ap (ends_before m) (first_byte_is bytes c low first) ∙ after)

pub slash_low : (c : ℕ) → is_backslash c ≡ true → c < 128
unfolding is_backslash
slash_low c is = omega (arith, the_one 92 c is)

-- the mark at the text's start
pub mark_taken : (old : Scan) (t : FieldScanned) (bytes : List ℕ) (c : ℕ) → Follows old t → BeginsWith bytes c → old.mode ≡ opens.Start → is_mark c ≡ true → (len : ℕ) → len ≡ len_utf8 c → GoesOver t bytes len (passed old len)
unfolding field_move move_of
mark_taken old t bytes c follow first start mark len size = let mode : plain modes.Start ≡ t.mode = sym (ap mode_from start) ∙ follow.mode in
    let at = stands_at old t follow (sym (ap text_place mode)) in
    let move : field_move t.mode t.held c ≡ closes = ap (λ (m : FieldMode). field_move m t.held c) (sym mode) ∙ rw mark refl in
    let shut = stands_shut t old.frames old.start old.stop at c follow.holds move in rw size
    (over_one t (Shut t old.frames old.start old.stop at c) c bytes (passed old (len_utf8 c)) first (follows_open old t follow)
    (shut.0, goes_on t c closes move (no_line_end t.mode closes c (λ e is. let clash = mode ∙ is in cc) (λ e. absurd (cc))))
    (rests_exact (passed old (len_utf8 c)) (Shut t old.frames old.start old.stop at c) (drop (len_utf8 c) bytes) shut.1))

-- the open piece of code grows
pub record Grown (m mode : OpenMode) (held : List ℕ) (c : ℕ) : Type 0 where
  pub move : field_move (mode_from m) held c ≡ grows (mode_from mode)
  pub quote : HasQuote mode
  pub place : text_place (mode_from m) ≡ literal

grown_so : (m mode : OpenMode) (held : List ℕ) (c : ℕ) → HoldsCode (mode_from m) held → Some mode ≡ grown m c → Grown m mode held c
unfolding field_move move_of
grown_so (opens.Word s) mode held c holds is = grind (arith, word_meets s held c holds)
grown_so m mode held c holds is = grind arith

pub piece_grows : (old : Scan) (t : FieldScanned) (bytes : List ℕ) (c : ℕ) → Follows old t → BeginsWith bytes c → (mode : OpenMode) (found : Option OpenMode) → found ≡ grown old.mode c → found ≡ Some mode → (len : ℕ) → len ≡ len_utf8 c
    → GoesOver t bytes len (record old { mode = mode; stop = old.stop + len })
piece_grows old t bytes c follow first mode found told is len size =
    let so = grown_so old.mode mode t.held c (subst (λ (m : FieldMode). HoldsCode m t.held) (sym follow.mode) follow.holds) (sym is ∙ told) in
    let move : field_move t.mode t.held c ≡ grows (mode_from mode) = ap (λ (m : FieldMode). field_move m t.held c) (sym follow.mode) ∙ so.move in
    let place : text_place t.mode ≡ literal = sym (ap text_place follow.mode) ∙ so.place in
    let k = said t.mode t.held c (grows (mode_from mode)) follow.holds move in
    let grown = stands_grown t old.frames old.start old.stop (stands_at old t follow place) c (mode_from mode) move (k.place ∙ place) in
    let u : FieldScanned = field_state t.outer t.done t.openers (mode_from mode) (t.held ++ c ∷ []) in
    let new : Scan = record old { mode = mode; stop = old.stop + len_utf8 c } in rw size (over_one t u c bytes new first (follows_open old t follow) grown.0
    (rests_exact new u (drop (len_utf8 c) bytes) (follows_at u old.frames old.start (old.stop + len_utf8 c) mode grown.1 refl k.holds so.quote)))

-- no character is there
pub nothing_waits : (old : Scan) (t : FieldScanned) (bytes : List ℕ) → Follows old t → is_text old.mode ≡ false → StartsWithNoChar bytes → ComesTo t bytes old progress.Waits old
nothing_waits old t bytes follow bare none =
    waits_low t t [] bytes (record { low = refl; goes = refl; one = tt }) old none (pending_none old.mode bare) (λ is. absurd (both_ways _ (follows_open old t follow) is))

-- The modes of a string that begins, with fields or without: after one quote, after two, and in its text.
abbrev host_with : Spelling → ℕ → StringWithFields
host_with s q = record { quote = q; is_long = false; is_raw = is_raw_spelling s }

abbrev pub one_quote : Bool → Spelling → ℕ → FieldMode
one_quote true s q = opened (host_in (host_with s q))
one_quote false s q = plain (modes.Opened q)

abbrev pub two_quotes : Bool → Spelling → ℕ → FieldMode
two_quotes true s q = empty (host_in (host_with s q))
two_quotes false s q = plain (modes.Empty q)

abbrev in_text_of : Bool → Bool → Spelling → ℕ → FieldMode
in_text_of true long s q = body (host_in (record { quote = q; is_long = long; is_raw = is_raw_spelling s })) literal false between
in_text_of false false s q = plain (modes.Inside q)
in_text_of false true s q = plain (modes.Long q)

-- which is the scan's
abbrev mode_by : Bool → Bool → Spelling → ℕ → OpenMode
mode_by b long s q =
    if b then opens.Fields (record { quote = q; is_long = long; is_raw = is_raw_spelling s }) regions.Literal false else (if long then opens.Long q else opens.Short q)

mode_is : (b long : Bool) (s : Spelling) (q : ℕ) → is_quote q ≡ true → (mode_from (mode_by b long s q) ≡ in_text_of b long s q) × HasQuote (mode_by b long s q)
mode_is b long s q quote = grind arith

-- a second quote, and a third
quote_goes : (b : Bool) (s : Spelling) (q : ℕ) (held : List ℕ)
    → (field_move (one_quote b s q) held q ≡ grows (two_quotes b s q)) × (field_move (two_quotes b s q) held q ≡ grows (in_text_of b true s q))
unfolding field_move move_of
quote_goes true s q held = let same = eq-eqb q q refl in (rw same refl, rw same refl)
quote_goes false s q held = let same = eq-eqb q q refl in (rw same refl, rw same refl)

-- another character after two of them ends the string, and after one it does what it does in the text
other_goes : (b : Bool) (s : Spelling) (q : ℕ) (held : List ℕ) (c : ℕ) → c == q ≡ false
    → (field_move (two_quotes b s q) held c ≡ breaks) × (field_move (one_quote b s q) held c ≡ field_move (in_text_of b false s q) held c)
unfolding field_move move_of
other_goes true s q held c other = (rw other refl, rw other refl)
other_goes false s q held c other = (rw other refl, rw other refl)

one_text : (b : Bool) (s : Spelling) (q : ℕ) → IsTextMode (one_quote b s q) × IsTextMode (in_text_of b false s q)
    × (text_place (one_quote b s q) ≡ literal) × ((depth c : ℕ) → cause_in depth (one_quote b s q) c ≡ cause_in depth (in_text_of b false s q) c)
one_text true s q = (record { class = refl; closed = λ done held. refl; no_return = refl; no_line = λ v c. refl; not_free = λ e. cc; not_shut = refl }, text_is _ tt, refl, λ depth c. refl)
one_text false s q = (record { class = refl; closed = λ done held. refl; no_return = refl; no_line = λ v c. refl; not_free = λ e. cc; not_shut = refl }, text_is _ tt, refl, λ depth c. refl)

two_facts : (b : Bool) (s : Spelling) (q : ℕ) (held : List ℕ) → (is_ending (two_quotes b s q) ≡ true) × HoldsCode (two_quotes b s q) held × (is_return_at (two_quotes b s q) ≡ false) × (text_place (two_quotes b s q) ≡ literal)
two_facts b s q held = grind arith

text_facts : (b long : Bool) (s : Spelling) (q : ℕ) (held : List ℕ) → HoldsCode (in_text_of b long s q) held × (text_place (in_text_of b long s q) ≡ literal)
text_facts b long s q held = grind arith

-- quotes alone don't tell
quote_parts : (q : ℕ) → is_quote q ≡ true → (is_part_of_code (q ∷ []) ≡ true) × (is_part_of_code (q ∷ q ∷ []) ≡ true)
unfolding is_quote is_backslash
quote_parts q quote = each_of (λ (x : ℕ). (is_part_of_code (x ∷ []) ≡ true) × (is_part_of_code (x ∷ x ∷ []) ≡ true)) (codes "'\"") q ((refl, refl), ((refl, refl), tt)) quote

-- the machine has taken the first quote of a string whose prefix spells so, with so much text
abbrev pub Quoted : FieldScanned → List Piece → FieldMode → List ℕ → FieldScanned
Quoted t done m text = field_state t.outer done t.openers m text

pub record StringBegun (old : Scan) (t : FieldScanned) (q : ℕ) (s : Spelling) (start : ℕ) : Type 0 where
  pub done : List Piece
  pub text : List ℕ
  pub step : StepsOn t q (Quoted t done (one_quote (is_field_spelling s) s q) text)
  pub at : StandsAt (Quoted t done (one_quote (is_field_spelling s) s q) text) old.frames start (old.stop + 1)

-- a quote is one byte
stands_on : (t : FieldScanned) (fs : List Frame) (start n m q : ℕ) → is_quote q ≡ true → n + 1 ≡ m
    → StandsAt t fs start (n + len_utf8 q) → StandsAt t fs start m
stands_on t fs start n m q quote same at = subst (StandsAt t fs start) (omega (arith, same, len_utf8_ascii q (quote_ascii q quote))) at

module _ (old : Scan) (t : FieldScanned) (q : ℕ) (quote : is_quote q ≡ true) (open_yet : has_returned t ≡ false) (s : Spelling) (start : ℕ) (begun : StringBegun old t q s start) where
  abbrev B : Bool
  B = is_field_spelling s

  abbrev S : FieldScanned
  S = Quoted t begun.done (one_quote B s q) begun.text

  abbrev Two : FieldScanned
  Two = Quoted t begun.done (two_quotes B s q) (begun.text ++ q ∷ [])

  abbrev Three : FieldScanned
  Three = Quoted t begun.done (in_text_of B true s q) ((begun.text ++ q ∷ []) ++ q ∷ [])

  abbrev InText : FieldScanned
  InText = Quoted t begun.done (in_text_of B false s q) begun.text

  pub two : StepsOn S q Two × StandsAt Two old.frames start (old.stop + 2)
  two = let grown = stands_grown S old.frames start (old.stop + 1) begun.at q (two_quotes B s q) (quote_goes B s q begun.text).0 (two_facts B s q []).3 in
      (grown.0, stands_on Two old.frames start (old.stop + 1) (old.stop + 2) q quote (omega arith) grown.1)

  three : StepsOn Two q Three × StandsAt Three old.frames start (old.stop + 3)
  three =
      let grown = stands_grown Two old.frames start (old.stop + 2) two.1 q (in_text_of B true s q) (quote_goes B s q (begun.text ++ q ∷ [])).1 (text_facts B true s q []).1 in
      (grown.0, stands_on Three old.frames start (old.stop + 2) (old.stop + 3) q quote (omega arith) grown.1)

  low : q < 128
  low = quote_ascii q quote

  one_walks : Walks t (q ∷ []) S
  one_walks = walks_one t S q low open_yet begun.step

  once : has_returned S ≡ false
  once = ap (λ b. b && (frames S == 0)) (one_text B s q).0.no_return

  twice : has_returned Two ≡ false
  twice = ap (λ b. b && (frames Two == 0)) (two_facts B s q []).2

  two_walks : Walks t (q ∷ q ∷ []) Two
  two_walks = walks_on t S Two q q [] low open_yet begun.step (ap is_break_move (quote_goes B s q begun.text).0) (walks_one S Two q low once two.0)

  three_walks : Walks t (q ∷ q ∷ q ∷ []) Three
  three_walks = walks_on t S Three q q (q ∷ []) low open_yet begun.step (ap is_break_move (quote_goes B s q begun.text).0)
      (walks_on S Two Three q q [] low once two.0 (ap is_break_move (quote_goes B s q (begun.text ++ q ∷ [])).1) (walks_one Two Three q low twice three.0))

  -- one quote: the text is open
  abbrev Opens : ℕ → Scan
  Opens n = record old { mode = string_mode s q (n == 3); start = start; stop = old.stop + n }

  opens_text : (b : ℕ) (rest : List ℕ) → b == q ≡ false → GoesOver t (q ∷ b ∷ rest) 1 (Opens 1)
  opens_text b rest other = let facts = text_facts B false s q begun.text in let mode = mode_is B false s q quote in
      let at : StandsAt InText old.frames start (old.stop + 1) = record { place = facts.1; frames = begun.at.frames; begins = begun.at.begins; ends = begun.at.ends } in
      let texts = one_text B s q in over_low t S (q ∷ []) (b ∷ rest) one_walks (Opens 1) (omega arith) (search (
        follows_at InText old.frames start (old.stop + 1) (string_mode s q false) at mode.0 facts.0 mode.1,
        same_alike t.outer begun.done t.openers (one_quote B s q) (in_text_of B false s q) begun.text b texts.0 texts.1 (texts.2 ∙ sym facts.1)
            (λ c first. (other_goes B s q begun.text c (first_other b c q first low other)).1) (λ c depth first. texts.3 depth c),
      ))

  -- two: the string is empty
  empty_string : (b : ℕ) (rest : List ℕ) → b == q ≡ false → GoesOver t (q ∷ q ∷ b ∷ rest) 2 (passed old 2)
  empty_string b rest other = let facts = two_facts B s q (begun.text ++ q ∷ []) in
      over_low t Two (q ∷ q ∷ []) (b ∷ rest) two_walks (passed old 2) (omega arith)
      (rests_ended Two old.frames start (old.stop + 2) b rest two.1 facts.0 facts.1 twice (λ c first. (other_goes B s q (begun.text ++ q ∷ []) c (first_other b c q first low other)).0))

  -- three: the text of a long string is open
  opens_long : (rest : List ℕ) → GoesOver t (q ∷ q ∷ q ∷ rest) 3 (Opens 3)
  opens_long rest = let mode = mode_is B true s q quote in over_low t Three (q ∷ q ∷ q ∷ []) rest three_walks (Opens 3) (omega arith)
      (rests_exact (Opens 3) Three rest (follows_at Three old.frames start (old.stop + 3) (string_mode s q true) three.1 mode.0 (text_facts B true s q _).0 mode.1))

  -- how many they are tells which, and nothing where they may be more
  abbrev pub QuotesCome : List ℕ → Option ℕ → Type 0
  QuotesCome bytes None = ComesTo t bytes old progress.Waits old
  QuotesCome bytes (Some n) = (n ≡ 2 → GoesOver t bytes 2 (passed old 2)) × ((n ≡ 2 → ⊥) → GoesOver t bytes n (Opens n))

  quotes_come : ends_before old.mode q ≡ true → (more : List ℕ) → QuotesCome (q ∷ more) (quotes_in (q ∷ more))
  quotes_come before_it = let parts = quote_parts q quote in
      by_quotes q QuotesCome (waits_low t S (q ∷ []) [] one_walks old nothing_bad (pending_code old.mode q [] before_it parts.0) (λ is. refl))
      (waits_low t Two (q ∷ q ∷ []) [] two_walks old nothing_bad (pending_code old.mode q (q ∷ []) before_it parts.1) (λ is. refl))
      (λ b rest other. (λ is. absurd (omega (arith, is)), λ no. opens_text b rest other)) (λ b rest other. (λ is. empty_string b rest other, λ no. absurd (no refl)))
      (λ rest. (λ is. absurd (omega (arith, is)), λ no. opens_long rest))

-- the prefix of the string
field_begins : (s : Spelling) → begins_string s ≡ false → is_field_spelling s ≡ false
field_begins s none = grind arith

prefix_grows : (s : Spelling) (held : List ℕ) (q : ℕ) → HoldsCode (plain (modes.Word s)) held → is_quote q ≡ true → begins_string s ≡ true → field_move (plain (modes.Word s)) held q ≡ grows (one_quote (is_field_spelling s) s q)
prefix_grows s held q holds quote prefix = grind (arith, word_meets s held q holds, quote-not-word q quote)

word_breaks : (s : Spelling) (held : List ℕ) (q : ℕ) → HoldsCode (plain (modes.Word s)) held → is_quote q ≡ true → begins_string s ≡ false → field_move (plain (modes.Word s)) held q ≡ breaks
word_breaks s held q holds quote none = grind (arith, word_meets s held q holds, quote-not-word q quote, field_begins s none)

-- no prefix is open: a word that is none, or no word
abbrev NoPrefix : Scan → Type 0
NoPrefix old = (s : Spelling) → old.mode ≡ opens.Word s → begins_string s ≡ false

pub other_word : (old : Scan) → ((s : Spelling) → old.mode ≡ opens.Word s → ⊥) → NoPrefix old
other_word old none s same = absurd (none s same)

module _ (old : Scan) (t : FieldScanned) (q : ℕ) (follow : Follows old t) (quote : is_quote q ≡ true) (before_it : ends_before old.mode q ≡ true) where
  at_code : StandsAt t old.frames old.start old.stop
  at_code = at old t follow (code_before old.mode q before_it)

  word_holds : (s : Spelling) → old.mode ≡ opens.Word s → (t.mode ≡ plain (modes.Word s)) × HoldsCode (plain (modes.Word s)) t.held
  word_holds s is = let mode : t.mode ≡ plain (modes.Word s) = sym follow.mode ∙ ap mode_from is in (mode, subst (λ (m : FieldMode). HoldsCode m t.held) mode follow.holds)

  pub after_prefix : (s : Spelling) → old.mode ≡ opens.Word s → begins_string s ≡ true → StringBegun old t q s old.start
  after_prefix s is prefix = let (mode, holds) = word_holds s is in
      let move = ap (λ (m : FieldMode). field_move m t.held q) mode ∙ prefix_grows s t.held q holds quote prefix in
      let grown = stands_grown t old.frames old.start old.stop at_code q (one_quote (is_field_spelling s) s q) move (one_text (is_field_spelling s) s q).2 in
      record { done = t.done; text = t.held ++ q ∷ []; step = grown.0; at = stands_on _ old.frames old.start old.stop (old.stop + 1) q quote refl grown.1 }

  pub after_piece : NoPrefix old → StringBegun old t q spellings.Name old.stop
  after_piece none =
      let move = ap (λ (m : FieldMode). field_move m t.held q) (sym follow.mode) ∙ breaks_mode old.mode t.held q before_it (λ s is. word_breaks s t.held q (word_holds s is).1 quote (none s is)) in
      let begun = stands_begun t old.frames old.start old.stop at_code q follow.holds move (modes.Opened q) (start-quote q quote) in
      search (begun, stands_on _ old.frames old.stop old.stop (old.stop + 1) q quote refl begun.1)

  -- as the scan has it
  pub string_begun : StringBegun old t q (string_start old).1 (string_start old).0
  string_begun = by old.mode refl where
    by : (m : OpenMode) → old.mode ≡ m → StringBegun old t q (string_from m old.start old.stop).1 (string_from m old.start old.stop).0
    by (opens.Word s) is = cond_both {A = ℕ × Spelling} (begins_string s) (old.start, s) (old.stop, spellings.Name) (λ p. StringBegun old t q p.1 p.0) (after_prefix s is)
        (λ none. after_piece (λ r same. let word : r ≡ s = cc (is, same) in ap begins_string word ∙ none))
    by m is = after_piece (λ r same. absurd (cc (is, same)))

-- the first byte is a quote
pub first_quote : (bytes : List ℕ) → begins is_quote bytes ≡ true → is_quote (slice_index bytes 0) ≡ true
first_quote [] quote = absurd (both_ways _ refl quote)
first_quote (q ∷ bs) quote = quote

-- what the code finds
module _ (old : Scan) (t : FieldScanned) (bytes : List ℕ) (follow : Follows old t) (quote : begins is_quote bytes ≡ true) (after : ends_before old.mode (slice_index bytes 0) ≡ true) where
  come : (s : Spelling) (start : ℕ) (begun : StringBegun old t (slice_index bytes 0) s start) (found : Option ℕ) → found ≡ quotes_in bytes
      → QuotesCome old t (slice_index bytes 0) (first_quote bytes quote) (follows_open old t follow) s start begun bytes found
  come s start begun found told = subst (QuotesCome old t _ (first_quote bytes quote) (follows_open old t follow) s start begun bytes) (sym told) (go bytes quote after begun)
    where
      go : (bs : List ℕ) (is : begins is_quote bs ≡ true) → ends_before old.mode (slice_index bs 0) ≡ true → (b : StringBegun old t (slice_index bs 0) s start)
          → QuotesCome old t (slice_index bs 0) (first_quote bs is) (follows_open old t follow) s start b bs (quotes_in bs)
      go [] is before_it b = absurd (both_ways _ refl is)
      go (q ∷ more) is before_it b = quotes_come old t q is (follows_open old t follow) s start b before_it more

  begun_so : StringBegun old t (slice_index bytes 0) (string_start old).1 (string_start old).0
  begun_so = string_begun old t (slice_index bytes 0) follow (first_quote bytes quote) after

  pub quotes_wait : None ≡ quotes_in bytes → ComesTo t bytes old progress.Waits old
  quotes_wait told = come _ _ begun_so None told

  pub quotes_empty : (n : ℕ) → Some n ≡ quotes_in bytes → n ≡ 2 → GoesOver t bytes 2 (passed old 2)
  quotes_empty n told is = (come _ _ begun_so (Some n) told).0 is

  pub quotes_open : (n : ℕ) (s : Spelling) (start : ℕ) → StringBegun old t (slice_index bytes 0) s start → Some n ≡ quotes_in bytes → (n ≡ 2 → ⊥)
      → GoesOver t bytes n (record old { mode = string_mode s (slice_index bytes 0) (n == 3); start = start; stop = old.stop + n })
  quotes_open n s start begun told other = (come s start begun (Some n) told).1 other
