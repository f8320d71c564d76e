-- A text is the texts of its rows, after its byte order mark.
use Rattle.std.proofs.Common.{◌≡◌, ℕ, ◌+◌, None, List, [], ◌∷◌, ◌++◌, flat_map, length, take, drop, refl, sym, ap, ◌∙◌, append_assoc, append-nil, arith}
use Rattle.std.specs.Prelude.{encode_utf8_all}
use Rattle.std.proofs.lemmas.Str.{encodes-append}
use Rattle.std.proofs.lemmas.List.{take-append-drop, length-append}
use Rattle.py_lines.specs.Lexed.{IsLexed}
use Rattle.py_lines.specs.LogicalLine.{LogicalLine, line_of, cut, byte_len, line_ends, lines_from, lines_of}
use Rattle.py_lines.specs.Piece.{Piece, spelled}
use Rattle.py_lines.specs.Reader.{Reader, HasGiven}
use Rattle.py_imports.specs.Shape.{mark_len}
use Rattle.isort_sort.specs.Private.Markers.{HoldsLineAt}
use Rattle.isort_sort.specs.Private.Reading.{texts_of_lines, StandsAfter}
use Rattle.isort_sort.specs.Row.{Row, AreRows}
use Rattle.isort_sort.specs.Sorted.{texts_of, mark_of}
use Rattle.isort_sort.proofs.LineLaws.Parts.{spelled-append}
use Rattle.isort_sort.proofs.LineLaws.Units.{flat, flat_cut}

-- the characters of parts, one part after another
spelled_flat : (us : List (List Piece)) → spelled (flat us) ≡ flat_map spelled us
spelled_flat [] = refl
spelled_flat (u ∷ us) = spelled-append u (flat us) ∙ ap (λ (t : List ℕ). spelled u ++ t) (spelled_flat us)

pub cut_spelled : (depth : ℕ) (ps : List Piece) → flat_map spelled (cut depth ps) ≡ spelled ps
cut_spelled depth ps = sym (spelled_flat (cut depth ps)) ∙ ap spelled (flat_cut depth ps)

pub lines_spelled : (offset line : ℕ) (us : List (List Piece)) → texts_of_lines (lines_from offset line us) ≡ encode_utf8_all (flat_map spelled us)
lines_spelled offset line [] = refl
lines_spelled offset line (u ∷ us) = ap (λ (t : List ℕ). encode_utf8_all (spelled u) ++ t) (lines_spelled (offset + byte_len (spelled u)) (line + line_ends (spelled u)) us) ∙ sym (encodes-append (spelled u) (flat_map spelled us))

-- the byte at which a line stands: after the texts of the lines before it
line_place : (offset number : ℕ) (us : List (List Piece)) (before : List LogicalLine) (line : LogicalLine) → lines_from offset number us ≡ before ++ line ∷ [] → line.offset ≡ offset + length (texts_of_lines before)
line_place offset number [] [] line e = absurd cc
line_place offset number [] (l ∷ ls) line e = absurd cc
line_place offset number (u ∷ us) [] line e =
    let same : line_of offset number u ≡ line = cc in
    omega (arith, ap (λ (l : LogicalLine). l.offset) same)
line_place offset number (u ∷ us) (l ∷ ls) line e =
    let same : line_of offset number u ≡ l = cc in
    let others : lines_from (offset + byte_len (spelled u)) (number + line_ends (spelled u)) us ≡ ls ++ line ∷ [] = cc in
    omega (arith, length-append l.text (texts_of_lines ls), ap (λ (m : LogicalLine). length m.text) same, line_place (offset + byte_len (spelled u)) (number + line_ends (spelled u)) us ls line others)

pub texts_snoc : (before : List LogicalLine) (line : LogicalLine) → texts_of_lines (before ++ line ∷ []) ≡ texts_of_lines before ++ line.text
texts_snoc [] line = append-nil line.text
texts_snoc (l ∷ ls) line = ap (λ t. l.text ++ t) (texts_snoc ls line) ∙ sym (append_assoc l.text (texts_of_lines ls) line.text)

-- the texts of the lines of pieces
texts_are : (pieces : List Piece) (lines : List LogicalLine) → lines ≡ lines_of pieces → encode_utf8_all (spelled pieces) ≡ texts_of_lines lines
texts_are pieces lines are = ap encode_utf8_all (sym (cut_spelled 0 pieces)) ∙ sym (lines_spelled 0 1 (cut 0 pieces)) ∙ ap texts_of_lines (sym are)

-- lines that were given end where the reader stands
pub given_place : (r : Reader) (lines : List LogicalLine) → HasGiven r lines → r.place ≡ length (texts_of_lines lines)
given_place r lines given = given.first.here ∙ ap length (texts_are given.first.pieces lines given.first.cut)

-- a line that was given stands directly after those before it
pub given_after : (r : Reader) (before : List LogicalLine) (line : LogicalLine) → HasGiven r (before ++ line ∷ []) → StandsAfter before line
given_after r before line given = omega (arith, line_place 0 1 (cut 0 given.first.pieces) before line (sym given.first.cut))

-- a line that was given stands in the text, after those before it
pub line_stands : (r : Reader) (before : List LogicalLine) (line : LogicalLine) → HasGiven r (before ++ line ∷ []) → HoldsLineAt r.text line
line_stands r before line given =
    let first = given.first in
    let rest = encode_utf8_all first.rest in
    record {
      before = texts_of_lines before;
      after = rest ++ first.tail;
      whole =
          sym first.decodes.spell
          ∙ ap (λ t. t ++ first.tail) (ap encode_utf8_all (sym first.spell) ∙ encodes-append (spelled first.pieces) first.rest)
          ∙ append_assoc (encode_utf8_all (spelled first.pieces)) rest first.tail
          ∙ ap (λ t. t ++ (rest ++ first.tail)) (texts_are first.pieces (before ++ line ∷ []) first.cut ∙ texts_snoc before line)
          ∙ append_assoc (texts_of_lines before) line.text (rest ++ first.tail);
      place = omega (arith, line_place 0 1 (cut 0 first.pieces) before line (sym first.cut));
    }

-- a text is the texts of its lines
pub text_of_lines : (text : List ℕ) (lines : List LogicalLine) → IsLexed text lines None → text ≡ texts_of_lines lines
text_of_lines text lines is =
    sym is.decodes.spell ∙ append-nil (encode_utf8_all is.characters) ∙ ap encode_utf8_all (sym is.reading.reads.spell) ∙ texts_are is.pieces lines is.cut

-- rows after the first line have the texts of their lines
later_rows : (first : LogicalLine) (others lines : List LogicalLine) (rows : List Row) → AreRows (first ∷ others) lines rows → texts_of_lines lines ≡ texts_of rows
later_rows first others [] rows are = ap texts_of (sym are)
later_rows first others (line ∷ lines) rows are =
    (λ i. sym are.3.text i ++ later_rows first (others ++ line ∷ []) lines are.1 are.4 i) ∙ ap texts_of (sym are.2)

pub text_of_rows : (text : List ℕ) (lines : List LogicalLine) (rows : List Row) → IsLexed text lines None → AreRows [] lines rows → text ≡ mark_of lines ++ texts_of rows
text_of_rows text lines rows is are = text_of_lines text lines is ∙ whole lines are
  where
    whole : (all : List LogicalLine) → AreRows [] all rows → texts_of_lines all ≡ mark_of all ++ texts_of rows
    whole [] none = ap texts_of (sym none)
    whole (line ∷ others) each =
        ap (λ (t : List ℕ). t ++ texts_of_lines others) (sym (take-append-drop (mark_len line) line.text))
        ∙ append_assoc (take (mark_len line) line.text) (drop (mark_len line) line.text) (texts_of_lines others)
        ∙ ap (λ (t : List ℕ). take (mark_len line) line.text ++ t) ((λ i. sym each.3.text i ++ later_rows line [] others each.1 each.4 i) ∙ ap texts_of (sym each.2))
