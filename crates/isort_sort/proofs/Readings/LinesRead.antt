-- What is known of a text's lines as they are read, and what is found in the text.
use Rattle.std.proofs.Common.{◌≡◌, ℕ, ◌≤◌, true, false, None, List, [], ◌∷◌, ◌++◌, length, length-append, drop, refl, sym, ap, ◌∙◌, subst, arith}
use Rattle.std.specs.Str.{IsUtf8}
use Rattle.std.proofs.lemmas.Str.{IsUtf8-nil}
use Rattle.py_lines.specs.LogicalLine.{LogicalLine}
use Rattle.py_imports.specs.Shape.{mark_len}
use Rattle.isort_sort.specs.Private.Arranged.{AreUtf8, IsCutText}
use Rattle.isort_sort.specs.Blocks.{Cut}
use Rattle.isort_sort.specs.Private.Found.{Found, Finding, IsFinding, closed_found}
use Rattle.isort_sort.specs.Private.LineRole.{turned}
use Rattle.isort_sort.specs.Private.Reading.{is_some_line, texts_of_lines, StandsAfter, IsSkipSoFar, ReadsSkip, FindsLine, IsReadSoFar, IsReadBefore}
use Rattle.isort_sort.specs.Row.{mark_after}
use Rattle.isort_sort.specs.Sorted.{texts_of, mark_of, IsAccepted, HasBlocks}
use Rattle.isort_sort.specs.declared.read.LineReader.{LineReader}
use Rattle.isort_sort.proofs.Finding.Rows.{nothing_found, AreAll, all_found}
use Rattle.isort_sort.proofs.Readings.Lines.{rows_push, utf8_push, row_after}
use Rattle.isort_sort.proofs.Rows.Switches.{off_push}
use Rattle.isort_sort.proofs.Rows.Marks.{rest_utf8, mark_utf8, mark_taken, mark_within}
use Rattle.isort_sort.proofs.Rows.Texts.{text_of_rows, texts_snoc}

-- the first line
pub beginning : (lines : List LogicalLine) (line : LogicalLine) (old new : LineReader) (mark : ℕ) → old.begun ≡ false → mark ≡ mark_len line → new.blocks ≡ record { found = []; opened = None; place = mark } → new.begun ≡ true → new.off ≡ old.off → new.skip ≡ old.skip → IsReadSoFar lines old → IsReadBefore lines line new
beginning [] line old new mark begun m fresh started off skip h =
    let taken : mark ≡ length (mark_of (line ∷ [])) = m ∙ sym (mark_taken line) in
    record {
      rows = [];
      seen = refl;
      utf8 = tt;
      finding = subst (λ (n : ℕ). IsFinding n [] new.blocks) taken (subst (IsFinding mark []) (sym fresh) (nothing_found mark));
      place = omega (arith, ap (λ (f : Finding). f.place) fresh, m);
      begun = started;
      off = off ∙ h.off;
      skip = subst (IsSkipSoFar []) (sym skip) h.skip;
    }
beginning (l ∷ ls) line old new mark begun m fresh started off skip h = absurd (let both : true ≡ false = sym h.begun ∙ begun in cc)

-- a line after the first
pub still_before : (lines : List LogicalLine) (line : LogicalLine) (r : LineReader) → r.begun ≡ true → IsReadSoFar lines r → IsReadBefore lines line r
still_before [] line r some h = absurd (let both : true ≡ false = sym some ∙ h.begun in cc)
still_before (l ∷ ls) line r some h = record {
  rows = h.rows;
  seen = h.seen;
  utf8 = h.utf8;
  finding = h.finding;
  place = omega (arith, h.place);
  begun = some;
  off = h.off;
  skip = h.skip;
}

after_utf8 : (lines : List LogicalLine) (line : LogicalLine) → IsUtf8 line.text → IsUtf8 (drop (mark_after lines line) line.text)
after_utf8 [] line utf8 = rest_utf8 line utf8
after_utf8 (l ∷ ls) line utf8 = utf8

some_line : (lines : List LogicalLine) (line : LogicalLine) → true ≡ is_some_line (lines ++ line ∷ [])
some_line [] line = refl
some_line (l ∷ ls) line = refl

after_within : (lines : List LogicalLine) (line : LogicalLine) → mark_after lines line ≤ length line.text
after_within [] line = mark_within line
after_within (l ∷ ls) line = omega arith

-- a line was read
pub read_on : (lines : List LogicalLine) (line : LogicalLine) (old new : LineReader) → FindsLine old.off line old.blocks new.blocks → new.begun ≡ old.begun → new.off ≡ turned old.off line → ReadsSkip line old.skip new.skip → StandsAfter lines line → IsReadBefore lines line old → IsReadSoFar (lines ++ line ∷ []) new
read_on lines line old new finds begun turns skips stands h =
    let mark = mark_after lines line in
    let found = finds.finds mark (length (mark_of (lines ++ line ∷ []))) h.rows (omega (arith, h.place, stands)) (after_within lines line) h.finding in
    record {
      rows = h.rows ++ found.0 ∷ [];
      seen = rows_push [] lines h.rows line found.0 h.seen (row_after lines line old.off mark found.0 h.off refl found.1);
      utf8 = utf8_push h.rows found.0 h.utf8 (subst IsUtf8 (sym found.1.text) (after_utf8 lines line found.1.utf8));
      finding = found.2;
      place = omega (arith, finds.place, stands, ap length (texts_snoc lines line), length-append (texts_of_lines lines) line.text);
      begun = begun ∙ h.begun ∙ some_line lines line;
      off = turns ∙ ap (λ b. turned b line) h.off ∙ sym (off_push lines line);
      skip = skips lines h.skip;
    }

mark_is_utf8 : (lines : List LogicalLine) → IsUtf8 (mark_of lines)
mark_is_utf8 [] = IsUtf8-nil
mark_is_utf8 (line ∷ lines) = mark_utf8 line

-- the blocks of a text that was read to its end
pub found_in : (text : List ℕ) (lines : List LogicalLine) (r : LineReader) (found : List Found) → r.skip.skips ≡ false → found ≡ closed_found None r.blocks → IsReadSoFar lines r → IsAccepted text lines → (of : List LogicalLine) × (cut : Cut) × HasBlocks text of cut × IsCutText text (mark_of of) cut found
found_in text lines r found skips all h accepted =
    let blocks : AreAll (length (mark_of lines)) h.rows (closed_found None r.blocks) = all_found (length (mark_of lines)) h.rows r.blocks h.finding in (
      lines,
      blocks.cut,
      record { accepted = accepted; unskipped = sym h.skip.skips ∙ skips; rows = h.rows; seen = h.seen; cut_at = blocks.is },
      record {
        split = text_of_rows text lines h.rows accepted.lexed h.seen ∙ ap (λ rows. mark_of lines ++ texts_of rows) (sym blocks.is.all);
        spans = all ∙ blocks.found;
        utf8_mark = mark_is_utf8 lines;
        utf8 = subst AreUtf8 (sym blocks.is.all) h.utf8;
      },
    )
