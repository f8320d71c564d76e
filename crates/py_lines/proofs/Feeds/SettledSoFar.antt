-- What the known bytes settle: the lines given, where the machine has found no line end after them, or one line more.
use Rattle.py_lines.proofs.Prelude.{◌≡◌, Bool, true, ℕ, ◌<◌, ◌⊎◌, false, List, [], ◌∷◌, ◌++◌, length, refl, sym, ap, ◌∙◌, subst, ⊎_elim, inl, inr, append-nil, arith, length-append, encode_utf8_all, StartsWithNoChar, cases_lt, and_from, false_from_ne_true, nil_from_length, encodes-append, encodes_same, encode_ascii, low_scalar, is_line_feed, is_return, line_end, Piece, ends, spelled, depth_through, LogicalLine, byte_len, line_of, Scan, AreReadBefore, Decodes, IsBalancedReading, EndsLine, first_mode}
use Rattle.py_lines.specs.ScannerState.{EndsExactly}
use Rattle.py_lines.specs.Settled.{EndsForGood, IsSettled}
use Rattle.py_lines.specs.Private.FieldMachine.{field_closed}
use Rattle.py_lines.specs.Private.LineScan.{EndsNoLine, IsApart, IsAtLineEnd, IsUnderWay, begins_line}
use Rattle.py_lines.specs.Private.Scan.{has_returned}
use Rattle.py_lines.specs.Private.Machine.{Mode}
use Rattle.py_lines.proofs.Text.CharacterTests.{feed_is}
use Rattle.py_lines.proofs.Text.Utf8Prefixes.{goes_on, all_scalars-append, nothing_bad}
use Rattle.py_lines.proofs.Text.Utf8Shapes.{no_char}
use Rattle.py_lines.proofs.LogicalLines.NextLine.{texts, texts-lines}
use Rattle.py_lines.proofs.Lexings.LinePrefix.{EndsNoneYet, settled_at, settled_line}
use Rattle.py_lines.proofs.Lexings.LineEnds.{ended_reading, none_both}
use Rattle.py_lines.proofs.FieldMachine.OuterLists.{outer_alone, outer_pieces}
use Rattle.py_lines.proofs.LineScan.LineSteps.{returned_at, way_one_line}
use Rattle.py_lines.proofs.LineScan.TextSteps.{begun_sound}
use Rattle.py_lines.proofs.Readers.LineFaults.{open_line}
use Rattle.py_lines.proofs.Readers.LineAnswers.{fits_on, IsReadLine, balanced_after, ends_after, fits_after, shallow_after, spelled_after}
use Rattle.py_lines.proofs.Feeds.LastBytes.{ends-later}
use Rattle.py_lines.proofs.Feeds.Known as of
use Rattle.py_lines.proofs.Feeds.Known.{IsKnown}

-- No line has ended in what was read, where no byte is known after a CR that ends the line unless LF follows.
ends_none : {m : Mode} {read : List ℕ} (way : IsUnderWay m read) → begins_line m ≡ true → (rest : List ℕ)
    → (has_returned way.field ≡ true → rest ≡ []) → EndsNoneYet (outer_pieces way.field) rest
ends_none way start rest last = by (has_returned way.field) refl where
  by : (b : Bool) → has_returned way.field ≡ b → EndsNoneYet (outer_pieces way.field) rest
  by false open_yet = EndsNoneYet.none (open_line way start open_yet)
  by true is = let t = way.field in let r = returned_at way start is in let alone = outer_alone t r.outside in
      EndsNoneYet.by_return t.done t.held (alone.3 ∙ ap (λ m. field_closed m t.done t.held) r.mode) (subst (EndsNoLine 0) alone.0 (way_one_line way start)) r.held (last is)

module _ (text : List ℕ) (place line : ℕ) (lines : List LogicalLine) (read rest : List ℕ) (k : IsKnown text place line lines read rest) where
  -- no line has ended since
  pub settled_open : (way : IsUnderWay (first_mode place) read) → StartsWithNoChar rest → 0 < length (encode_utf8_all read ++ rest)
      → (has_returned way.field ≡ true → rest ≡ []) → IsSettled (of.bytes text place line lines read rest k) lines
  settled_open way bad some last = let j = of.joins text place line lines read rest k way.field way.goes in let good : EndsForGood k.base (read ++ rest) = (
    k.ended,
    λ none. let parts = none_both read rest none in
        absurd (omega (arith, some, length-append (encode_utf8_all read) rest, ap (λ t. length (encode_utf8_all t)) parts.0, ap length parts.1)),
  ) in record {
    characters = spelled k.base ++ read;
    tail = rest;
    pieces = k.base;
    decodes = of.decodes text place line lines read rest k bad;
    prefix = settled_at (spelled k.base ++ read) rest j.state k.base (outer_pieces way.field) read j.runs j.pieces (of.reading text place line lines read rest k) good (ends_none way (begun_sound place) rest last) refl;
    cut = k.cut;
  }

-- a line after the lines given, which may stand before what follows
pub record IsNextLine (place : ℕ) (read more : List ℕ) (u : List Piece) : Type 0 where
  pub body : List Piece
  pub last : Piece
  pub is : u ≡ body ++ last ∷ []
  pub class : last.class ≡ line_end
  pub level : depth_through 0 body ≡ 0
  pub fit : AreReadBefore u more
  pub line : IsReadLine (first_mode place) read u

pub next_line : {m : Mode} {place : ℕ} {scan : Scan} {read : List ℕ} {len : ℕ} (at : IsAtLineEnd m scan read [] len)
    → IsReadLine (first_mode place) read (at.body ++ at.last ∷ []) → (more : List ℕ) → IsApart read more → IsNextLine place read more (at.body ++ at.last ∷ [])
next_line at line more apart = record { body = at.body; last = at.last; is = refl; class = at.are.class; level = at.are.level; fit = fits_on at more apart; line = line }

module _ (text : List ℕ) (place line : ℕ) (lines : List LogicalLine) (read rest : List ℕ) (k : IsKnown text place line lines read rest) (u : List Piece) (next : IsNextLine place read k.more u) where
  all_spelled : spelled (k.base ++ u) ≡ spelled k.base ++ read
  all_spelled = spelled_after k next.line next.fit

  ends_line : EndsLine (k.base ++ u)
  ends_line = ends_after k next.line next.fit next.body next.last next.is next.class next.level

  all_reading : IsBalancedReading (k.base ++ u) (spelled (k.base ++ u))
  all_reading = ended_reading (k.base ++ u) k.more (fits_after k next.line next.fit) (balanced_after k next.line next.fit) (shallow_after k next.line next.fit)

  last_ends : ends is_return (spelled (k.base ++ u)) ≡ ends is_return read
  last_ends = ap (ends is_return) all_spelled ∙ ends-later is_return (spelled k.base) read (λ none. omega (arith, next.line.some, ap byte_len none))

  by_rest : (characters tail left : List ℕ) → Decodes (of.bytes text place line lines read rest k) characters tail → spelled (k.base ++ u) ++ left ≡ characters → EndsForGood (k.base ++ u) (left ++ tail) → (left ≡ []) ⊎ ((c : ℕ) × (left ≡ c ∷ []) × (is_line_feed c ≡ false) × (tail ≡ [])) → IsSettled (of.bytes text place line lines read rest k) (lines ++ line_of place line u ∷ [])
  by_rest characters tail left decodes spell good near = record { characters = characters; tail = tail; pieces = k.base ++ u; decodes = decodes; prefix = settled_line characters tail (k.base ++ u) left spell all_reading good near; cut = of.lines_more text place line lines read rest k u k.more next.line.whole (fits_after k next.line next.fit) }

  by_tail : StartsWithNoChar rest → (rest ≡ [] → ends is_return read ≡ false) → IsSettled (of.bytes text place line lines read rest k) (lines ++ line_of place line u ∷ [])
  by_tail bad good = by_rest (spelled k.base ++ read) rest [] (of.decodes text place line lines read rest k bad) (append-nil (spelled (k.base ++ u)) ∙ all_spelled) (ends_line, λ none. last_ends ∙ good none) (inl refl)

  -- one line more is settled
  pub settled_ready : EndsExactly read rest → IsSettled (of.bytes text place line lines read rest k) (lines ++ line_of place line u ∷ [])
  settled_ready (inl (no_cr, nothing)) = by_tail (subst StartsWithNoChar (sym nothing) nothing_bad) (λ none. no_cr)
  settled_ready (inr (returned, (b, is, other))) = ⊎_elim narrow
      (λ wide. by_tail (subst StartsWithNoChar (sym is) (no_char (b ∷ []) (λ n within g. omega arith))) (λ none. absurd (omega (arith, ap length (sym is ∙ none)))))
      (cases_lt b 128)
    where
      narrow : b < 128 → IsSettled (of.bytes text place line lines read rest k) (lines ++ line_of place line u ∷ [])
      narrow low = let scalars = all_scalars-append (spelled k.base ++ read) (b ∷ []) k.scalars (and_from _ _ (low_scalar b (omega arith)) refl) in
          let bytes : encode_utf8_all ((spelled k.base ++ read) ++ b ∷ []) ++ [] ≡ of.bytes text place line lines read rest k
          = append-nil _ ∙ encodes-append (spelled k.base ++ read) (b ∷ []) ∙ ap (λ t. encode_utf8_all (spelled k.base ++ read) ++ t) (append-nil _ ∙ encode_ascii b low ∙ sym is) ∙ sym k.known in
          by_rest ((spelled k.base ++ read) ++ b ∷ []) [] (b ∷ []) (record { are = scalars; spell = bytes; bad = nothing_bad })
          (ap (λ t. t ++ b ∷ []) all_spelled) (ends_line, λ none. absurd (omega (arith, ap length none)))
          (inr (b, refl, false_from_ne_true _ (λ feeds. other (feed_is b feeds)), refl))

  -- a line that has ended for good in the known bytes is settled: the lines given are then not all that is
  pub ended_before : IsSettled (of.bytes text place line lines read rest k) lines → (rest ≡ [] → ends is_return read ≡ false) → ⊥
  ended_before s good =
      let on = goes_on (spelled k.base ++ read) rest s.characters s.tail k.scalars s.decodes.are s.decodes.bad (sym k.known ∙ sym s.decodes.spell) in
      let spell : spelled (k.base ++ u) ++ on.rest ≡ s.characters = ap (λ t. t ++ on.rest) all_spelled ∙ sym on.split in
      let ended : EndsForGood (k.base ++ u) (on.rest ++ s.tail) = (
        ends_line,
        λ none. let parts = none_both on.rest s.tail none in last_ends ∙ good (sym on.left ∙ ap (λ t. encode_utf8_all t ++ s.tail) parts.0 ∙ parts.1),
      ) in let bound = s.prefix.longest (k.base ++ u) on.rest spell all_reading ended in
      let same : spelled s.pieces ≡ spelled k.base = encodes_same (spelled s.pieces) (spelled k.base) (sym (texts-lines s.pieces) ∙ ap texts (sym s.cut ∙ k.cut) ∙ texts-lines k.base) in
      let none : read ≡ [] = nil_from_length read (omega (arith, bound, ap length same, ap length all_spelled, length-append (spelled k.base) read)) in
      omega (arith, next.line.some, ap byte_len none)
