-- The line that a reader gives next, without its tokens and with them.
use Rattle.py_lines.proofs.Prelude.{◌≡◌, ℕ, ◌+◌, ◌<◌, ◌≤◌, Err, None, Ok, Result, Some, List, [], length, take, drop, refl, sym, ap, ◌∙◌, subst, transport, arith, length-drop, length-take-le, Piece, spelled, LineState, Token, EachLiesIn}
use Rattle.py_lines.specs.Lexed.{IsLexed}
use Rattle.py_lines.specs.LogicalLine.{LogicalLine, line_ends, line_of, tokens_from}
use Rattle.py_lines.specs.Outline.{IsOutlineOf, Outline}
use Rattle.py_lines.specs.Reader.{Ends, Fails, PassesLine, Reader}
use Rattle.py_lines.specs.UnitLine.{outline_in}
use Rattle.py_lines.specs.Private.LineState.{GivesNext, HasNextLine, HasReadNext, ScansLine, WhereLeft, passed, reread}
use Rattle.py_lines.specs.Private.LineTokens.{AreLineOf, AreLineText}
use Rattle.py_lines.specs.Private.Outline.{with_tokens}
use Rattle.py_lines.specs.Private.Source.{Advances, HasNextOf, IsOutlineNext, ReadsNextLine}
use Rattle.py_lines.specs.declared.fault.Fault.{Fault}
use Rattle.py_lines.specs.declared.fault.LexError.{LexError}
use Rattle.py_lines.specs.declared.unit.Line as given
use Rattle.py_lines.proofs.Lexings.FirstLines.{all_first}
use Rattle.py_lines.proofs.LineScan.LineCount.{line_ends-bytes}
use Rattle.py_lines.proofs.LineTokens.Outlines.{line_told, line_whole}
use Rattle.py_lines.proofs.LogicalLines.TokenPlaces.{each_after}
use Rattle.py_lines.proofs.Readers.NextLines.{further, passes_next}

-- this is the next line
pub record IsNext (r : Reader) (l : given.Line) : Type 0 where
  pub next : HasNextOf r (length l.text.now) l.end_len
  pub is : IsOutlineNext r l (length l.text.now) l.end_len

-- no line is left at the text's end
pub ends_there : (r : Reader) → r.fault ≡ None → r.place ≡ length r.text → Ends r r
ends_there r none end = record { all = λ lines given. all_first _ _ _ lines given.first end; place = end; fault = none; same = refl }

-- a fault that was met is met again
pub fails_again : (r : Reader) {fault : Fault} → r.fault ≡ Some fault → Fails r fault r
fails_again r is = grind arith

-- what was scanned is the next line
pub is_next : {r : Reader} {l : given.Line} {stop end_len : ℕ} → HasNextOf r stop end_len → IsOutlineNext r l stop end_len → IsNext r l
is_next {r} {l} {stop} {end_len} next is =
    let long : stop ≡ length l.text.now = sym (ap (λ (o : Outline). length o.text) is ∙ length-take-le stop (drop r.place r.text) next.is.within) in
    let end : end_len ≡ l.end_len = sym (ap (λ (o : Outline). o.end_len) is) in
    record { next = transport (λ i. HasNextOf r (long i) (end i)) next; is = transport (λ i. IsOutlineNext r l (long i) (end i)) is }

-- so too where a reader that stands there gave it
pub next_at : {r now : Reader} {l : given.Line} {stop end_len : ℕ} → now ≡ r → HasNextOf r stop end_len → IsOutlineNext now l stop end_len → IsNext r l
next_at {l = l} {stop} {end_len} same next is = is_next next (subst (λ q. IsOutlineNext q l stop end_len) same is)

module _ {r : Reader} {l : given.Line} (next : IsNext r l) where
  abbrev pub pieces : List Piece
  pieces = next.next.is.pieces

  abbrev pub logical : LogicalLine
  logical = line_of r.place r.line pieces

  -- its text
  pub text_is : take (length l.text.now) (drop r.place r.text) ≡ l.text.now
  text_is = sym (ap (λ (o : Outline). o.text) next.is)

  pub is_line : AreLineOf l.text.now l.end_len pieces
  is_line = (subst (λ t. AreLineText t pieces) text_is next.next.is.text, next.next.is.ends)

  -- it lies in the text, and holds few line ends
  pub bounds : (r.place + length l.text.now ≤ length r.text) × (line_ends (spelled pieces) ≤ length l.text.now)
  bounds = (
    omega (arith, next.next.is.within, next.next.is.some, length-drop r.place r.text),
    omega (arith, line_ends-bytes (spelled pieces), ap length is_line.0.spell),
  )

  -- without its tokens it is the outline of this line
  pub outline_is : IsOutlineOf (outline_in l) logical
  outline_is =
      let n = next.next.is in
      record {
        pieces = pieces;
        after = n.text.after;
        are = record { scalars = n.text.scalars; fit = n.text.fit; shallow = n.text.shallow; whole = n.whole };
        is = λ i. line_of (sym (ap (λ (o : Outline). o.offset) next.is) i) (sym (ap (λ (o : Outline). o.line) next.is) i) pieces;
        same = line_told _ n.text n.whole r.place r.line l.end_len n.ends ∙ sym next.is;
      }

  -- with its tokens it is this line
  module _ {tokens : List Token} (are : tokens ≡ tokens_from 0 r.line pieces) where
    pub whole_is : with_tokens (outline_in l) tokens ≡ logical
    whole_is = ap (λ (o : Outline). with_tokens o tokens) next.is
        ∙ line_whole _ next.next.is.text next.next.is.whole r.place r.line l.end_len next.next.is.ends are

    pub each_lies : EachLiesIn l.text.now tokens
    each_lies = transport (λ i. EachLiesIn (is_line.0.spell i) (sym are i)) (each_after [] r.line pieces next.next.is.text.scalars)

  -- the reader passes it
  pub passes_it : (new : Reader) → r.fault ≡ None → new ≡ further r (length l.text.now) (line_ends (spelled pieces))
      → PassesLine r logical new
  passes_it new none is = subst (PassesLine r logical) (sym is) (passes_next r next.next refl none)

-- the reader where a state stands in its text
abbrev pub reader_at : List ℕ → LineState → Reader
reader_at text t = record { text = text; place = t.place; line = t.line; fault = t.fault }

-- where that is passed which is the next line
pub moved : {text : List ℕ} {t new : LineState} {r : Reader} {after : ℕ} (len ends : ℕ) → reader_at text t ≡ r → new ≡ passed t len after → after ≡ r.line + ends
    → reader_at text new ≡ further r len ends
moved {text} {t} {new} {r} len ends same is after = λ i. record {
  text = ap (λ (q : Reader). q.text) same i;
  place = (ap (λ (s : LineState). s.place) is ∙ ap (λ (q : Reader). q.place + len) same) i;
  line = (ap (λ (s : LineState). s.line) is ∙ after) i;
  fault = (ap (λ (s : LineState). s.fault) is ∙ ap (λ (q : Reader). q.fault) same) i;
}

-- a line that was read with its tokens is passed
module _ (text : List ℕ) {bytes : List ℕ} {s t : LineState} (l : given.Line) {end_len after : ℕ} (from : bytes ≡ drop s.place text) (read : HasReadNext s bytes end_len after t)
    (line : IsOutlineNext (reader_at text t) l t.scan.stop end_len) where
  -- it is the next one
  pub is_read : IsNext (reader_at text s) l
  is_read = next_at (ap (reader_at text) read.same) (subst (λ b. HasNextLine s.place s.line b t.scan.stop end_len) from read.is) line

  -- with these pieces
  are_pieces : AreLineOf (take t.scan.stop bytes) end_len (pieces is_read)
  are_pieces =
      let text_same = ap (take t.scan.stop) from ∙ ap (λ (u : LineState). take t.scan.stop (drop u.place text)) (sym read.same) ∙ sym (ap (λ (o : Outline). o.text) line) in
      transport (λ i. AreLineOf (sym text_same i) (ap (λ (o : Outline). o.end_len) line i) (pieces is_read)) (is_line is_read)

  module _ {new : LineState} (to : new ≡ passed t (length l.text.now) after) where
    further_on : reader_at text new ≡ further (reader_at text s) (length l.text.now) (line_ends (spelled (pieces is_read)))
    further_on = moved _ _ (ap (reader_at text) read.same) to (read.after_is _ are_pieces)

    pub passes_read : s.fault ≡ None → Advances (reader_at text s) (Ok (Some l)) (reader_at text new) new.tokens.items
    passes_read none =
        let are = ap (λ (u : LineState). u.tokens.items) to ∙ read.tokens _ are_pieces in
        (transport (λ i. PassesLine (reader_at text s) (sym (whole_is is_read are) i) (sym further_on i)) (passes_it is_read _ none refl), each_lies is_read are)

    pub within_read : s.line ≤ s.place + 1 → (new.place ≤ length text) × (new.line ≤ new.place + 1)
    within_read few =
        let (within, ends) = bounds is_read in
        let place = ap (λ (q : Reader). q.place) further_on in
        (omega (arith, place, within), omega (arith, place, ap (λ (q : Reader). q.line) further_on, ends, few))

-- where a line was not scanned it was not read, and the reader stays there
module _ (s new : LineState) (bytes : List ℕ) where
  pub not_scanned : {mid : LineState} (error : LexError) → mid ≡ reread s mid → ScansLine mid bytes (Err error) new → GivesNext s bytes (Err error) new
  not_scanned (LexError.Fault f) same meets = record {
    same = meets.same ∙ ap (λ (t : LineState). record (reread t new) { fault = Some f }) same;
    lexed = subst (λ (t : LineState). WhereLeft t.place t.line bytes (λ text lines. IsLexed text lines (Some f))) same meets.lexed;
  }
  not_scanned LexError.Memory same never = absurd never

  pub stays : (result : Result (ℕ × ℕ) LexError) → GivesNext s bytes result new → (new.place ≡ s.place) × (new.line ≡ s.line)
  stays (Ok read) has = (ap (λ (t : LineState). t.place) has.same, ap (λ (t : LineState). t.line) has.same)
  stays (Err (LexError.Fault f)) meets = (ap (λ (t : LineState). t.place) meets.same, ap (λ (t : LineState). t.line) meets.same)
  stays (Err LexError.Memory) same = (ap (λ (t : LineState). t.place) same, ap (λ (t : LineState). t.line) same)

  pub stays_scanned : (result : Result ℕ LexError) → ScansLine s bytes result new → (new.place ≡ s.place) × (new.line ≡ s.line)
  stays_scanned (Ok end_len) scans = (ap (λ (t : LineState). t.place) scans.0, ap (λ (t : LineState). t.line) scans.0)
  stays_scanned (Err error) scans = stays (Err error) (not_scanned error refl scans)

-- no line was given
module _ (text : List ℕ) (s new : LineState) {bytes : List ℕ} (from : bytes ≡ drop s.place text) (none : s.fault ≡ None) (more : s.place < length text) where
  pub not_read : (error : LexError) → GivesNext s bytes (Err error) new → Advances (reader_at text s) (Err error) (reader_at text new) new.tokens.items
  not_read (LexError.Fault f) meets = let same = meets.same in record {
    all = λ lines given. meets.lexed _ lines given.first from;
    again = λ first is. let clash : None ≡ Some first = sym none ∙ is in absurd (cc);
    more = λ _. more;
    text = refl;
    place = ap (λ (t : LineState). t.place) same;
    line = ap (λ (t : LineState). t.line) same;
    kept = ap (λ (t : LineState). t.fault) same;
  }
  not_read LexError.Memory same = record { same = ap (reader_at text) same; more = more; fault = none }

  pub not_passed : (error : LexError) → ScansLine s bytes (Err error) new → ReadsNextLine (reader_at text s) (Err error) (reader_at text new)
  not_passed (LexError.Fault f) meets = not_read (LexError.Fault f) meets
  not_passed LexError.Memory never = absurd never
