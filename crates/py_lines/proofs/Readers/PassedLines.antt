-- Lines that were passed over are the text's next.
use Rattle.py_lines.proofs.Prelude.{◌≡◌, ℕ, ◌+◌, ◌-◌, ◌<◌, ◌≤◌, ◌&&◌, inl, inr, false, None, List, [], ◌∷◌, ◌++◌, length, take, drop, refl, sym, ap, ◌∙◌, subst, append_assoc, append-nil, arith, length-append, ⊎_elim, encode_utf8_all, flat_map, drop-drop, length-take-le, length-drop, take-append-drop, take-append-le, encodes-append, drop-append_seam, and_parts, both_ways, cases_Bool, false_from_ne_true, is_line_feed, is_return, Piece, begins, ends, LogicalLine, byte_len, line_ends, line_of, first_mode, AreFirstLines}
use Rattle.py_lines.specs.Lines.{PassesUpTo}
use Rattle.py_lines.specs.Reader.{Reader, PassesLine, PassesLines}
use Rattle.py_lines.specs.Private.Machine.{Mode}
use Rattle.py_lines.specs.Private.Mode as modes
use Rattle.py_lines.specs.Private.LineScan.{EndsWhole, IsAtLineEnd}
use Rattle.py_lines.specs.Private.WholeLines.{AreWholeLines, BeginWithLines, IsWholeLine}
use Rattle.py_lines.proofs.LineScan.LineSteps.{follows_whole}
use Rattle.py_lines.proofs.LineScan.LineCount.{line_ends-bytes}
use Rattle.py_lines.proofs.LogicalLines.Cuts.{line_ends-append}
use Rattle.py_lines.proofs.Readers.LineAnswers.{IsEnded, IsReadLine, fits_on, line_at_end}
use Rattle.py_lines.proofs.Readers.NextLines.{HasRead, further, line_read, passes_next}
use Rattle.py_lines.proofs.Feeds.Known.{IsKnown, is_known}
use Rattle.py_lines.proofs.Feeds.SettledSoFar.{IsNextLine, next_line, settled_ready}
use Rattle.py_lines.proofs.Feeds.Released.{released}
use Rattle.py_lines.proofs.Text.LineEnds.{line_ends-encoded}
use Rattle.py_lines.specs.Settled.{IsSettled}
use Rattle.py_lines.specs.ScannerState.{EndsExactly, GoesOnWith}

-- the line where nothing follows it
abbrev alone : {read after : List ℕ} (line : IsWholeLine read after) → IsAtLineEnd modes.Free line.scan read [] line.len
alone line = line.is [] (λ returned. refl)

-- its pieces
abbrev pub pieces_of : {read after : List ℕ} → IsWholeLine read after → List Piece
pieces_of line = (alone line).body ++ (alone line).last ∷ []

-- it is read whole, also where a mark may stand
pub whole_read : (m : Mode) {read after : List ℕ} (line : IsWholeLine read after) → IsReadLine m read (pieces_of line)
whole_read m {read} line =
    let own = (line_at_end modes.Free line.scan read [] line.len (alone line) [] refl).line in
    record { spell = own.spell; whole = own.whole; balanced = own.balanced; shallow = own.shallow; unmarked = λ free. own.unmarked refl; some = own.some }

-- the first bytes of a slice
pub take_slice : (bytes : List ℕ) (n k : ℕ) → n ≤ length (take k bytes) → take n (take k bytes) ≡ take n bytes
take_slice bytes n k within = sym (take-append-le n (take k bytes) (drop k bytes) within) ∙ ap (take n) (take-append-drop k bytes)

-- the logical lines of the lines that were found, from this byte and line of a text on
abbrev pub lines_at : (texts : List (List ℕ)) (place line : ℕ) (read after : List ℕ) → AreWholeLines texts read after → List LogicalLine
lines_at [] place line read after are = []
lines_at (t ∷ texts) place line read after are = line_of place line (pieces_of are.whole) ∷ lines_at texts (place + byte_len t) (line + line_ends t) are.later after are.lines

-- what they spell
pub lines_spell : (texts : List (List ℕ)) (place line : ℕ) (read after : List ℕ) (are : AreWholeLines texts read after) → flat_map (λ (l : LogicalLine). l.text) (lines_at texts place line read after are) ≡ encode_utf8_all read
lines_spell [] place line read after are = ap encode_utf8_all (sym are)
lines_spell (t ∷ texts) place line read after are =
    let others = flat_map (λ (l : LogicalLine). l.text) (lines_at texts (place + byte_len t) (line + line_ends t) are.later after are.lines) in
    ap (λ u. u ++ others) (ap encode_utf8_all (alone are.whole).spell)
    ∙ ap (λ u. encode_utf8_all t ++ u) (lines_spell texts (place + byte_len t) (line + line_ends t) are.later after are.lines)
    ∙ sym (ap encode_utf8_all are.spell ∙ encodes-append t are.later)

-- after a line these bytes are known, which show that it has ended, and then come these
pub record IsShown (line following : List ℕ) : Type 0 where
  pub more : List ℕ
  pub unseen : List ℕ
  pub exact : EndsExactly line more
  pub spell : following ≡ more ++ unseen

pub shown : (line following : List ℕ) → EndsWhole line following → IsShown line following
shown line following whole = ⊎_elim (λ returned. ⊎_elim (λ feed. absurd (both_ways _ feed returned))
    (λ next. record { more = next.0 ∷ []; unseen = next.1; exact = inr (returned, (next.0, refl, next.3)); spell = next.2 }) whole)
    (λ other. record { more = []; unseen = following; exact = inl (other, refl); spell = refl }) (cases_Bool (ends is_return line))

exactly_whole : (line more : List ℕ) → EndsExactly line more → EndsWhole line more
exactly_whole line more (inl (feed, none)) = inl feed
exactly_whole line more (inr (is, (b, one, other))) = inr (b, [], one, other)

-- the bytes of a text up to a place, and so many more, settle these lines, and they are its first
abbrev pub AreSettledAt : List ℕ → ℕ → ℕ → ℕ → List LogicalLine → Type 0
AreSettledAt text place line known lines = AreFirstLines text place line lines × IsSettled (take (place + known) text) lines

-- a line that the text goes on with, and what is known after it
module _ (text : List ℕ) (place line : ℕ) (given : List LogicalLine) (first : AreFirstLines text place line given) (read more : List ℕ) (goes : GoesOnWith text place (encode_utf8_all read ++ more)) (exact : EndsExactly read more) (after : List ℕ) (whole : IsWholeLine read after) where
  abbrev pieces : List Piece
  pieces = pieces_of whole

  as_line : IsReadLine (first_mode place) read pieces
  as_line = whole_read (first_mode place) whole

  known : IsKnown text place line given read more
  known = is_known text place line given read more first whole.scalars goes (omega (arith, as_line.some, length-append (encode_utf8_all read) more))

  next : IsNextLine place read known.more pieces
  next = next_line (alone whole) as_line known.more (follows_whole read more known.more known.tail known.beyond (exactly_whole read more exact) known.follow)

  settled : IsSettled (take (place + length (encode_utf8_all read ++ more)) text) (given ++ line_of place line pieces ∷ [])
  settled = settled_ready text place line given read more known pieces next exact

  pub line_settled : AreSettledAt text (place + byte_len read) (line + line_ends read) (length more) (given ++ line_of place line pieces ∷ [])
  line_settled =
      let sizes : place + length (encode_utf8_all read ++ more) ≡ place + byte_len read + length more = omega (arith, length-append (encode_utf8_all read) more) in (
        released first read (line_of place line pieces) (ap encode_utf8_all as_line.spell) (place + length (encode_utf8_all read ++ more)) settled,
        subst (λ (m : ℕ). IsSettled (take m text) (given ++ line_of place line pieces ∷ [])) sizes settled,
      )

-- a line whose bytes those after the reader's place begin with
passes_line : (r : Reader) → r.fault ≡ None → (read after beyond : List ℕ) → encode_utf8_all read ++ (after ++ beyond) ≡ drop r.place r.text
    → (line : IsWholeLine read after) → PassesLine r (line_of r.place r.line (pieces_of line)) (further r (byte_len read) (line_ends read))
passes_line r no_fault read after beyond split line =
    let at = alone line in let own = line_at_end modes.Free line.scan read [] line.len at [] refl in let stop = own.stop in let ends = own.line.spell in
    let has : HasRead (drop r.place r.text) = record { read = read; rest = after ++ beyond; scalars = line.scalars; spell = split } in
    let next = line_read has r.place r.line {scan = line.scan} (record { line = whole_read (first_mode r.place) line; stop = stop; ends = own.ends; after = own.after; fit = own.fit }) (λ more tail follow. (
      fits_on at more (follows_whole read after more tail beyond line.whole follow),
      IsEnded.by_line at.body at.last refl at.are.class at.are.level,
    )) in subst (PassesLine r (line_of r.place r.line (pieces_of line))) (λ i. further r (stop i) (line_ends (ends i))) (passes_next r next refl no_fault)

-- CR at the end of a line that was passed has no LF after it
pub apart : (line later after : List ℕ) → EndsWhole line (encode_utf8_all later ++ after) → ends is_return line && begins is_line_feed later ≡ false
apart line later after whole = false_from_ne_true _ (λ both. let parts = and_parts _ _ both in
    both_ways _ (follows_whole line (encode_utf8_all later ++ after) later after [] whole (sym (append-nil (encode_utf8_all later ++ after))) parts.0) parts.1)

-- lines that they begin with
passes_all : (texts : List (List ℕ)) (r : Reader) (read after beyond : List ℕ) → r.fault ≡ None → encode_utf8_all read ++ (after ++ beyond) ≡ drop r.place r.text → (are : AreWholeLines texts read after) → PassesLines r (lines_at texts r.place r.line read after are) (further r (byte_len read) (line_ends read))
passes_all [] r read after beyond no_fault split are =
    let place : r.place + byte_len read ≡ r.place = omega (arith, ap byte_len are) in
    let line : r.line + line_ends read ≡ r.line = omega (arith, ap line_ends are) in
    λ i. record { text = r.text; place = place i; line = line i; fault = r.fault }
passes_all (t ∷ texts) r read after beyond no_fault split are =
    let own_bytes = encode_utf8_all t in let later_bytes = encode_utf8_all are.later in
    let all : encode_utf8_all read ≡ own_bytes ++ later_bytes = ap encode_utf8_all are.spell ∙ encodes-append t are.later in
    let parts : own_bytes ++ ((later_bytes ++ after) ++ beyond) ≡ drop r.place r.text =
    ap (λ u. own_bytes ++ u) (append_assoc later_bytes after beyond) ∙ sym (append_assoc own_bytes later_bytes (after ++ beyond)) ∙ ap (λ u. u ++ (after ++ beyond)) (sym all) ∙ split in
    let later_split : later_bytes ++ (after ++ beyond) ≡ drop (r.place + byte_len t) r.text =
    sym (append_assoc later_bytes after beyond) ∙ sym (drop-append_seam own_bytes ((later_bytes ++ after) ++ beyond)) ∙ ap (drop (byte_len t)) parts ∙ drop-drop (byte_len t) r.place r.text in
    let mid = further r (byte_len t) (line_ends t) in
    let place : r.place + byte_len read ≡ r.place + byte_len t + byte_len are.later = omega (arith, ap length all, length-append own_bytes later_bytes) in
    let line : r.line + line_ends read ≡ r.line + line_ends t + line_ends are.later = omega (arith, ap line_ends are.spell, line_ends-append t are.later (apart t are.later after are.whole.whole)) in (
      mid,
      passes_line r no_fault t (later_bytes ++ after) beyond parts are.whole,
      subst (PassesLines mid (lines_at texts mid.place mid.line are.later after are.lines)) (sym (λ i. record { text = r.text; place = place i; line = line i; fault = r.fault }))
          (passes_all texts mid are.later after beyond no_fault later_split are.lines),
    )

-- the lines that the code has found, with so many line ends
pub passes_found : (r : Reader) (before len ends : ℕ) → r.fault ≡ None → r.place < before → before ≤ length r.text → BeginWithLines (take (before - r.place) (drop r.place r.text)) len
    → ends ≡ line_ends (take len (take (before - r.place) (drop r.place r.text))) → PassesUpTo r before len (further r len ends)
passes_found r before len ends no_fault ordered within found count =
    let rest = drop r.place r.text in let slice = take (before - r.place) rest in let read = found.read in let after = drop len slice in let beyond = drop (before - r.place) rest in
    let long : length slice ≡ before - r.place = length-take-le (before - r.place) rest (omega (arith, length-drop r.place r.text, within)) in
    let size : byte_len read ≡ len = ap length found.spell ∙ length-take-le len slice found.within in
    let number : ends ≡ line_ends read = count ∙ ap line_ends (sym found.spell) ∙ line_ends-encoded read in
    let split : encode_utf8_all read ++ (after ++ beyond) ≡ rest
    = sym (append_assoc (encode_utf8_all read) after beyond) ∙ ap (λ t. (t ++ after) ++ beyond) found.spell ∙ ap (λ t. t ++ beyond) (take-append-drop len slice) ∙ take-append-drop (before - r.place) rest in
    record {
      lines = lines_at found.texts r.place r.line read after found.whole;
      passes = subst (PassesLines r (lines_at found.texts r.place r.line read after found.whole)) (λ i. further r (size i) (sym number i)) (passes_all found.texts r read after beyond no_fault split found.whole);
      place = refl;
      within = λ some. omega (arith, found.within, long, ordered);
      same = λ none. let place : r.place + len ≡ r.place = omega (arith, none) in
          let line : r.line + ends ≡ r.line = omega (arith, none, size, number, line_ends-bytes read) in
          λ i. record { text = r.text; place = place i; line = line i; fault = r.fault };
    }
