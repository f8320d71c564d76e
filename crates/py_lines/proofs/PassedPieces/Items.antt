-- What a byte that isn't plain begins, after plain bytes, as the scan would take it: a bracket, a line end, a join of two lines, a short string
-- of ASCII, a long one without fields, or a comment.
use Rattle.py_lines.proofs.Prelude.{◌≡◌, ℕ, ◌+◌, ◌<◌, ◌==◌, not, nat_lt, Bool, true, false, Option, None, Some, List, [], ◌∷◌, ◌++◌, length, drop, refl, sym, ap, ◌∙◌, subst, arith, append_assoc, length-append, codes, encode_utf8_all, len_utf8, and_parts, both_ways, ltb-true, ne_eqb, not-true, len_utf8_ascii, add_assoc, transport, drop-append_seam, is_closing, is_opening, is_backslash, is_break, is_hash, is_operator, is_quote, Frame, Spelling, Scan, OpenMode, rest_is, rest_of, is_plain}
use Rattle.py_lines.specs.declared.frames.Frame.TheVariants as frame
use Rattle.py_lines.specs.declared.mode.Mode.TheVariants as opens
use Rattle.py_lines.specs.declared.mode.Spelling.TheVariants as spellings
use Rattle.py_lines.specs.declared.scan.Progress.TheVariants as progress
use Rattle.py_lines.specs.Private.Frames.{IsClosedBy, OpensFrame}
use Rattle.py_lines.specs.Private.FieldMachine.{FieldScanned, closes, closing_move, field_move, plain, text_place}
use Rattle.py_lines.specs.Private.LineEnds.{BeginsOuterEnd}
use Rattle.py_lines.specs.Private.Machine.{begins_string, is_field_spelling, move_of, short_move}
use Rattle.py_lines.specs.Private.Mode as modes
use Rattle.py_lines.specs.Private.LongStrings.{TakesLong}
use Rattle.py_lines.specs.Private.Passing.{EndsAfter, TellsFields, tail_of, with_frames}
use Rattle.py_lines.specs.Private.Run.{Spans, is_body_byte, is_line_byte, is_text_byte, stays}
use Rattle.py_lines.specs.Private.Scan.{ComesTo, Follows, GoesOver, GrowsInText, IsTextAt, QuotesInText, Steps, Takes, TakesOperator, TextGoes, begun_at, ends_before, grown, is_text, line_end_progress, mode_from, passed, quotes_in, string_mode, with_bytes}
use Rattle.py_lines.proofs.Machine.LiveTexts.{closing-operator}
use Rattle.py_lines.proofs.Machine.Starts.{opening_operator, start-hash}
use Rattle.py_lines.proofs.FieldScans.CodeItems.{comment_begins, line_end_comes, operator_comes, piece_grows, StringBegun, after_piece, after_prefix, other_word, quotes_empty, quotes_open}
use Rattle.py_lines.proofs.FieldScans.LineEnds.{joins}
use Rattle.py_lines.proofs.FieldScans.PlainCode.{over_code}
use Rattle.py_lines.proofs.FieldScans.Operators.{bracket_opens, closes_bracket}
use Rattle.py_lines.proofs.FieldScans.Runs.{holds_characters}
use Rattle.py_lines.proofs.FieldScans.StringBytes.{closes_short, grows_low, grows_other}
use Rattle.py_lines.proofs.FieldScans.StringTexts.{text_as-self}
use Rattle.py_lines.proofs.FieldScans.Takes.{takes_none, takes_on, takes_step}
use Rattle.py_lines.proofs.FieldScans.Taking.{free_at}
use Rattle.py_lines.proofs.FieldScans.TextItems.{closes_over, grows_over}
use Rattle.py_lines.proofs.FieldScans.TextLengths.{rest_within}
use Rattle.py_lines.proofs.LineScan.AsciiRuns.{break_low, is_low_from, quote_ascii}
use Rattle.py_lines.proofs.LineScan.Runs.{body_parts}
use Rattle.py_lines.proofs.LogicalLines.Cuts.{break-return}
use Rattle.py_lines.proofs.PassedPieces.Ends.{EndsBefore, takes_ended}
use Rattle.py_lines.proofs.PassedPieces.PlainBytes.{IsTail, PlainTo, low_first, tail_ends}
use Rattle.py_lines.proofs.Text.CharacterTests.{each_of, operator_ascii, slash-not-quote, the_one}
use Rattle.py_lines.proofs.Text.FirstBytes.{first_low}

-- where this mode is open, these bytes leave it so, whatever follows them
abbrev pub Stays : OpenMode → List ℕ → Type 0
Stays m text = (scan : Scan) → scan.mode ≡ m → (rest : List ℕ) → Takes scan (text ++ rest) (length text) (with_bytes scan (length text))

pub stays_none : (m : OpenMode) → Stays m []
stays_none m scan mode rest =
    let same : scan.stop ≡ scan.stop + 0 = omega arith in
    subst (Takes scan rest 0) (ap (λ (n : ℕ). record scan { stop = n }) same) (takes_none scan rest)

pub stays_on : (m : OpenMode) (xs ys : List ℕ) → Stays m xs → Stays m ys → Stays m (xs ++ ys)
stays_on m xs ys first second scan mode rest =
    let a : ℕ = length xs in let b : ℕ = length ys in
    let size : a + b ≡ length (xs ++ ys) = sym (length-append xs ys) in
    let far : scan.stop + a + b ≡ scan.stop + length (xs ++ ys) = omega (arith, size) in
    let more = subst (λ (t : List ℕ). Takes (with_bytes scan a) t b (with_bytes (with_bytes scan a) b)) (sym (drop-append_seam xs (ys ++ rest))) (second (with_bytes scan a) mode rest) in
    transport (λ i. Takes scan (sym (append_assoc xs ys rest) i) (size i) (record scan { stop = far i }))
    (takes_on scan (with_bytes scan a) (with_bytes (with_bytes scan a) b) (xs ++ (ys ++ rest)) a b (first scan mode (ys ++ rest)) more)

-- ASCII that ends no line stays in a comment
pub comment_byte : (c : ℕ) → is_line_byte c ≡ true → Stays opens.Comment (c ∷ [])
comment_byte c is old mode rest =
    let parts = and_parts (nat_lt c 128) (not (is_break c)) is in let low = ltb-true c 128 parts.0 in
    takes_step old (with_bytes old 1) (c ∷ rest) 1 (λ t follow.
    subst (λ m. GoesOver t (c ∷ rest) 1 (record old { mode = m; stop = old.stop + 1 })) (sym mode)
    (piece_grows old t (c ∷ rest) c follow (low_first c rest low) opens.Comment (grown old.mode c) refl (ap (λ m. grown m c) mode ∙ rw (not-true _ parts.1) refl) 1 (sym (len_utf8_ascii c low))))

pub text_parts : (q c : ℕ) → is_text_byte q c ≡ true → (c == q ≡ false) × (is_backslash c ≡ false) × (is_break c ≡ false) × (c < 128)
text_parts q c text =
    let both = and_parts (is_body_byte q c) (nat_lt c 128) text in let is = body_parts q c both.0 in
    (is.0, is.1, is.2, ltb-true c 128 both.1)

-- The text of a short string of ASCII. Each of its bytes stays in it, and its quote ends it.
module _ (q : ℕ) (quote : is_quote q ≡ true) where
  pub text_byte : (c : ℕ) → is_text_byte q c ≡ true → Stays (opens.Short q) (c ∷ [])
  text_byte c text old mode rest =
      let is = text_parts q c text in
      takes_step old (with_bytes old 1) (c ∷ rest) 1 (λ t follow.
      grows_over old t follow (ap is_text mode) (c ∷ rest) (opens.Short q) 1 (with_bytes old 1)
      (subst (λ n. GrowsInText t.mode (c ∷ rest) (opens.Short q) n) (len_utf8_ascii c is.3)
      (subst (λ m. GrowsInText m (c ∷ rest) (opens.Short q) (len_utf8 c)) (sym (ap mode_from mode) ∙ follow.mode)
      (grows_other (opens.Short q) q false c (c ∷ rest) quote (low_first c rest is.3) is.0 is.1 (rw is.2 refl) (refl, refl))))
      (ap (λ m. record old { mode = m; stop = old.stop + 1 }) mode))

  slash_goes : (c : ℕ) → is_break c ≡ false → TextGoes (plain (modes.Inside q)) (92 ∷ c ∷ []) (plain (modes.Inside q))
  unfolding field_move move_of short_move is_backslash
  slash_goes c none =
      let other : 92 == q ≡ false = ne_eqb 92 q (λ same. both_ways _ (slash-not-quote 92 refl) (ap is_quote same ∙ quote)) in
      (plain (modes.Escape q), rw other refl, (plain (modes.Inside q), rw (break-return c none) refl, refl))

  pub escape_stays : (c : ℕ) → c < 128 → is_break c ≡ false → Stays (opens.Short q) (92 ∷ c ∷ [])
  escape_stays c low none old mode rest =
      takes_step old (with_bytes old 2) (92 ∷ c ∷ rest) 2 (λ t follow.
      grows_over old t follow (ap is_text mode) (92 ∷ c ∷ rest) (opens.Short q) 2 (with_bytes old 2)
      (subst (λ m. GrowsInText m (92 ∷ c ∷ rest) (opens.Short q) 2) (sym (ap mode_from mode) ∙ follow.mode)
      (grows_low (plain (modes.Inside q)) (plain (modes.Inside q)) (opens.Short q) (92 ∷ c ∷ []) rest (refl, quote) (rw (is_low_from c low) refl) (omega arith) (slash_goes c none)
      (text_as-self rest (plain (modes.Inside q))))) (ap (λ m. record old { mode = m; stop = old.stop + 2 }) mode))

-- The text of a string of three quotes: a scan takes some bytes of it and then others, a run, an item and a run after it, or its end.
module _ (q : ℕ) where
  long_joined : (to : Scan → ℕ → Scan) → ((scan : Scan) (a n : ℕ) → to (with_bytes scan a) n ≡ to scan (a + n)) → (bytes : List ℕ) (a n : ℕ)
      → TakesLong with_bytes q bytes a → TakesLong to q (rest_of bytes a) n → TakesLong to q bytes (a + n)
  long_joined to same bytes a n first next = record {
    within = rest_within bytes a n first.within next.within;
    over = λ scan mode.
        let mid = with_bytes scan a in
        subst (Takes scan bytes (a + n)) (same scan a n) (takes_on scan mid (to mid n) bytes a n (first.over scan mode)
        (subst (λ xs. Takes mid xs n (to mid n)) (rest_is bytes a) (next.over mid mode)));
  }

  long_on : (bytes : List ℕ) (a n : ℕ) → TakesLong with_bytes q bytes a → TakesLong with_bytes q (rest_of bytes a) n → TakesLong with_bytes q bytes (a + n)
  long_on = long_joined with_bytes (λ scan a n. ap (λ (k : ℕ). record scan { stop = k }) (add_assoc scan.stop a n))

  pub long_run : is_quote q ≡ true → (bytes : List ℕ) (n : ℕ) → Spans (stays (opens.Long q)) bytes n → TakesLong with_bytes q bytes n
  long_run quote bytes n spans =
      record { within = spans.run.within; over = λ scan mode t follow. (holds_characters scan bytes n (rw mode quote) (rw mode spans) t follow).0 }

  pub long_grown : is_quote q ≡ true → (bytes : List ℕ) (a more n : ℕ) → TakesLong with_bytes q bytes a
      → GrowsInText (plain (modes.Long q)) (rest_of bytes a) (opens.Long q) more → Spans (stays (opens.Long q)) (rest_of bytes (a + more)) n
      → TakesLong with_bytes q bytes (a + more + n)
  long_grown quote bytes a more n first grows spans =
      let rest = rest_of bytes a in
      long_on bytes (a + more) n (long_on bytes a more first (record {
        within = omega (arith, grows.size, ap length grows.spell, length-append (encode_utf8_all grows.run) (drop more rest));
        over = λ scan mode. takes_step scan (with_bytes scan more) rest more (λ t follow.
            grows_over scan t follow (ap is_text mode) rest (opens.Long q) more (with_bytes scan more)
            (subst (λ m. GrowsInText m rest (opens.Long q) more) (sym (ap mode_from mode) ∙ follow.mode) grows)
            (ap (λ m. record scan { mode = m; stop = scan.stop + more }) mode));
      })) (long_run quote (rest_of bytes (a + more)) n spans)

  pub long_closed : (bytes : List ℕ) (a n : ℕ) → TakesLong with_bytes q bytes a → QuotesInText (plain (modes.Long q)) (rest_of bytes a) n closes
      → TakesLong passed q bytes (a + n)
  long_closed bytes a n first last =
      let rest = rest_of bytes a in
      long_joined passed (λ scan a n. ap (free_at scan.frames) (add_assoc scan.stop a n)) bytes a n first (record {
        within = omega (arith, last.size, ap length last.spell, length-append last.run (last.quote ∷ drop n rest));
        over = λ scan mode. takes_step scan (passed scan n) rest n (λ t follow.
            closes_over scan t follow (ap is_text mode) rest n (passed scan n)
            (subst (λ m. QuotesInText m rest n closes) (sym (ap mode_from mode) ∙ follow.mode) last) refl);
      })

-- what a byte that isn't plain begins, after plain bytes
module _ {scan : Scan} {run : List ℕ} (p : PlainTo scan run) (c : ℕ) (rest : List ℕ) (special : is_plain c ≡ false) where
  -- what the scan would be before it
  abbrev mid : Scan
  mid = over_code scan run

  ends_it : c < 128 → ends_before mid.mode c ≡ true
  ends_it low = tail_ends (tail_of run) mid.mode c p.tail low special

  -- so many bytes more are taken, after which these frames are open
  abbrev pub Over : ℕ → List Frame → Type 0
  Over k fs = Takes scan (run ++ c ∷ rest) (length run + k) (passed (with_frames scan fs) (length run + k))

  passed_as : (k : ℕ) (fs : List Frame) → passed (with_frames mid fs) k ≡ passed (with_frames scan fs) (length run + k)
  passed_as k fs = let same : mid.stop + k ≡ scan.stop + (length run + k) = omega (arith, p.stop) in ap (λ (n : ℕ). free_at fs n) same

  over : (k : ℕ) (fs : List Frame) → Takes mid (c ∷ rest) k (passed (with_frames mid fs) k) → Over k fs
  over k fs takes =
      takes_on scan mid (passed (with_frames scan fs) (length run + k)) (run ++ c ∷ rest) (length run) k (p.takes (c ∷ rest))
      (transport (λ i. Takes mid (sym (drop-append_seam run (c ∷ rest)) i) k (passed_as k fs i)) takes)

  -- a bracket
  bracket_over : (more : List Frame) → is_operator c ≡ true → TakesOperator mid c (progress.Going 1) (passed (with_frames mid more) 1) → Over 1 more
  bracket_over more stands takes =
      let low = operator_ascii c stands in
      over 1 more (takes_step mid (passed (with_frames mid more) 1) (c ∷ rest) 1 (λ t follow.
      operator_comes mid t (c ∷ rest) c follow (low_first c rest low) (ends_it low) stands (progress.Going 1) (passed (with_frames mid more) 1) takes))

  pub opening_over : (more : List Frame) → is_opening c ≡ true → OpensFrame mid.frames (frame.Bracket c mid.stop) true more → Over 1 more
  opening_over more opens met =
      let stands = opening_operator c opens in
      bracket_over more stands (λ u follows ends. bracket_opens mid c u follows ends stands opens more met _ refl)

  pub closing_over : (more : List Frame) → is_closing c ≡ true → IsClosedBy mid.frames c more → Over 1 more
  closing_over more shuts met =
      let stands = closing-operator c shuts in
      bracket_over more stands (λ u follows ends. closes_bracket mid c u follows ends stands shuts more met _ refl)

  -- a line end goes on with the line, or ends it
  module _ (len : ℕ) (ends : is_break c ≡ true) (begins : BeginsOuterEnd (c ∷ rest) len) where
    break_comes : (none : Bool) → length mid.frames == 0 ≡ none → Steps mid (c ∷ rest) (line_end_progress none len) (passed mid len)
    break_comes none is t follow =
        let low = break_low c ends in
        subst (λ b. ComesTo t (c ∷ rest) mid (line_end_progress b len) (passed mid len)) is (line_end_comes mid t (c ∷ rest) c follow (low_first c rest low) (ends_it low) len begins)

    pub break_over : length mid.frames == 0 ≡ false → Over len mid.frames
    break_over some = over len mid.frames (takes_step mid (passed mid len) (c ∷ rest) len (break_comes false some))

    pub break_ends : length mid.frames == 0 ≡ true → EndsAfter scan (run ++ c ∷ rest) (length run) len (passed (with_frames scan mid.frames) (length run + len))
    break_ends none = record {
      mid = mid;
      takes = p.takes (c ∷ rest);
      ends = transport (λ i. Steps mid (sym (drop-append_seam run (c ∷ rest)) i) (progress.LineEnded len) (passed_as len mid.frames i)) (break_comes true none);
    }

  -- a join of two lines
  pub join_over : (len : ℕ) → is_backslash c ≡ true → BeginsOuterEnd rest len → Over (1 + len) mid.frames
  unfolding is_backslash
  join_over len slash begins =
      let is : 92 ≡ c = sym (the_one 92 c slash) in
      over (1 + len) mid.frames (takes_step mid (passed mid (1 + len)) (c ∷ rest) (1 + len) (λ t follow.
      subst (λ (b : ℕ). GoesOver t (b ∷ rest) (1 + len) (passed mid (1 + len))) is
      (joins mid t follow (ap (ends_before mid.mode) is ∙ ends_it (omega (arith, is))) rest len begins)))

-- a short string
module _ {scan : Scan} {run : List ℕ} (p : PlainTo scan run) (q : ℕ) (special : is_plain q ≡ false) (quote : is_quote q ≡ true) where
  abbrev before_it : Scan
  before_it = over_code scan run

  before_quote : ends_before before_it.mode q ≡ true
  before_quote = tail_ends (tail_of run) before_it.mode q p.tail (quote_ascii q quote) special

  -- it begins with such a word before its quote
  abbrev Begins : Spelling → ℕ → Type 0
  Begins s start = (t : FieldScanned) → Follows before_it t → StringBegun before_it t q s start

  pub with_prefix : (s : Spelling) → IsTail (Some s) before_it.mode → begins_string s ≡ true → Begins s before_it.start
  with_prefix s is begins t follow = after_prefix before_it t q follow quote before_quote s is begins

  -- its text is open
  abbrev pub Opened : OpenMode → ℕ → Scan
  Opened m start = record before_it { mode = m; start = start; stop = before_it.stop + 1 }

  -- its first quote, text that leaves it open, and its last quote are taken
  pub string_taken : (s : Spelling) (start : ℕ) (m : OpenMode) (n : ℕ) (bytes rest : List ℕ) → Begins s start → string_mode s q false ≡ m
      → Some 1 ≡ quotes_in (q ∷ bytes) → is_text m ≡ true → closing_move (text_place (mode_from m)) ≡ closes → IsTextAt (mode_from m) q false q
      → drop n bytes ≡ q ∷ rest → Takes (Opened m start) bytes n (with_bytes (Opened m start) n) → Over p q bytes special (1 + (n + 1)) before_it.frames
  string_taken s start m n bytes rest begun mode alone text closing at last held =
      let first : Scan = Opened m start in let end : Scan = with_bytes first n in
      let opened = takes_step before_it first (q ∷ bytes) 1 (λ t follow.
      subst (λ (o : OpenMode). GoesOver t (q ∷ bytes) 1 (Opened o start)) mode
      (quotes_open before_it t (q ∷ bytes) follow quote before_quote 1 s start (begun t follow) alone (λ two. omega (arith, two)))) in
      let closed = takes_step end (passed end 1) (q ∷ rest) 1 (λ t follow.
      closes_over end t follow text (q ∷ rest) 1 (passed end 1) (transport (λ i. QuotesInText (follow.mode i) (q ∷ rest) 1 (closing i))
      (closes_short (mode_from m) q q (q ∷ rest) quote (low_first q rest (quote_ascii q quote)) refl at)) refl) in
      let far : before_it.stop + 1 + n + 1 ≡ before_it.stop + (1 + (n + 1)) = omega arith in
      over p q bytes special (1 + (n + 1)) before_it.frames (subst (Takes before_it (q ∷ bytes) (1 + (n + 1))) (ap (λ (k : ℕ). free_at before_it.frames k) far)
      (takes_on before_it first (passed end 1) (q ∷ bytes) 1 (n + 1) opened
      (takes_on first end (passed end 1) bytes n 1 held (subst (λ xs. Takes end xs 1 (passed end 1)) (sym last) closed))))

  -- an empty one
  pub empty_over : (rest : List ℕ) → Some 2 ≡ quotes_in (q ∷ rest) → Over p q rest special 2 before_it.frames
  empty_over rest two =
      over p q rest special 2 before_it.frames
      (takes_step before_it (passed before_it 2) (q ∷ rest) 2 (λ t follow. quotes_empty before_it t (q ∷ rest) follow quote before_quote 2 two refl))

  -- one without fields, before whose quote no word stands, or its prefix
  abbrev BeginsPlain : Type 0
  BeginsPlain = (s : Spelling) × (start : ℕ) × (is_field_spelling s ≡ false) × Begins s start

  begins_plain : TellsFields (tail_of run) (Some false) → BeginsPlain
  begins_plain before = go (tail_of run) p.tail before where
    go : (o : Option Spelling) → IsTail o before_it.mode → TellsFields o (Some false) → BeginsPlain
    go (Some s) is (begins, simple) = (s, before_it.start, sym simple, with_prefix s is begins)
    go None is none =
        let no_word = other_word before_it (λ s same. subst (IsTail None) same is) in
        (spellings.Name, before_it.stop, refl, λ t follow. after_piece before_it t q follow quote before_quote no_word)

  pub string_over : (text rest : List ℕ) → Some 1 ≡ quotes_in (q ∷ (text ++ q ∷ rest)) → Stays (opens.Short q) text → TellsFields (tail_of run) (Some false)
      → Over p q (text ++ q ∷ rest) special (1 + (length text + 1)) before_it.frames
  string_over text rest alone inside before =
      let (s, start, simple, begun) = begins_plain before in
      string_taken s start (opens.Short q) (length text) (text ++ q ∷ rest) rest begun (rw simple refl) alone
      refl refl (refl, refl) (drop-append_seam text (q ∷ rest)) (inside (Opened (opens.Short q) start) refl (q ∷ rest))

  -- so one of three quotes
  pub long_over : (rest : List ℕ) (n : ℕ) → Some 3 ≡ quotes_in (q ∷ rest) → TakesLong passed q (drop 2 rest) n → TellsFields (tail_of run) (Some false)
      → Over p q rest special (3 + n) before_it.frames
  long_over rest n three text before =
      let (s, start, simple, begun) = begins_plain before in
      let first : OpenMode → Scan = λ m. record before_it { mode = m; start = start; stop = before_it.stop + 3 } in
      let mid : Scan = first (opens.Long q) in let mode : string_mode s q true ≡ opens.Long q = rw simple refl in
      let opened = takes_step before_it mid (q ∷ rest) 3 (λ t follow.
      subst (λ (m : OpenMode). GoesOver t (q ∷ rest) 3 (first m)) mode
      (quotes_open before_it t (q ∷ rest) follow quote before_quote 3 s start (begun t follow) three (λ two. omega (arith, two)))) in
      let far : before_it.stop + 3 + n ≡ before_it.stop + (3 + n) = omega arith in
      over p q rest special (3 + n) before_it.frames
      (subst (Takes before_it (q ∷ rest) (3 + n)) (ap (λ (k : ℕ). free_at before_it.frames k) far)
      (takes_on before_it mid (passed mid n) (q ∷ rest) 3 n opened (text.over mid refl)))

-- a comment of ASCII, before a line end
hash_low : (c : ℕ) → is_hash c ≡ true → c < 128
unfolding is_hash
hash_low c h = each_of (λ x. x < 128) (codes "#") c (omega arith, tt) h

pub comment_over : {scan : Scan} {run : List ℕ} (p : PlainTo scan run) (c : ℕ) (special : is_plain c ≡ false) (text : List ℕ) (b : ℕ) (rest : List ℕ) → is_hash c ≡ true → Stays opens.Comment text → is_break b ≡ true
    → Over p c (text ++ b ∷ rest) special (length (c ∷ text)) (over_code scan run).frames
comment_over {scan} {run} p c special text b rest hash inside ends =
    let mid : Scan = over_code scan run in let low = hash_low c hash in
    let begun : Scan = begun_at mid opens.Comment 1 in let last : Scan = with_bytes begun (length text) in
    let first = takes_step mid begun (c ∷ (text ++ [])) 1 (λ t follow.
    subst (λ n. GoesOver t (c ∷ (text ++ [])) n (begun_at mid opens.Comment n)) (len_utf8_ascii c low)
    (comment_begins mid t (c ∷ (text ++ [])) c follow (low_first c (text ++ []) low) (tail_ends (tail_of run) mid.mode c p.tail low special) (start-hash c hash))) in
    let size : 1 + length text ≡ length (c ∷ text) = omega arith in
    let whole = subst (λ n. Takes mid (c ∷ (text ++ [])) n last) size (takes_on mid begun last (c ∷ (text ++ [])) 1 (length text) first (inside begun refl [])) in
    let ending : EndsBefore last b = record { code = refl; may = refl; ends = λ d starts. ap is_break (first_low b d (break_low b ends) starts) ∙ ends } in
    let far : mid.stop + 1 + length text + 0 ≡ mid.stop + length (c ∷ text) = omega arith in
    over p c (text ++ b ∷ rest) special (length (c ∷ text)) mid.frames
    (subst (Takes mid (c ∷ (text ++ b ∷ rest)) (length (c ∷ text))) (ap (λ (n : ℕ). free_at mid.frames n) far) (takes_ended mid last b rest ending (c ∷ text) (omega arith) whole))
