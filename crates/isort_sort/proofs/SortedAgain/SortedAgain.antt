-- A sorted text is its own sorted text.
use Rattle.std.proofs.Common.{◌≡◌, ℕ, ◌+◌, Bool, false, ◌||◌, List, [], ◌∷◌, ◌++◌, map, take, drop, refl, sym, ap, ◌∙◌, subst, append_assoc, append-nil}
use Rattle.std.specs.Prelude.{encode_utf8_all}
use Rattle.std.specs.List.{list_any}
use Rattle.std.specs.Str.{all_scalars, StartsWithNoChar}
use Rattle.std.proofs.lemmas.Bool.{or_parts}
use Rattle.std.proofs.lemmas.List.{take-append-drop}
use Rattle.py_lines.specs.Reading.{IsBalancedReading}
use Rattle.py_lines.specs.LogicalLine.{LogicalLine, cut, byte_len, line_ends, lines_from}
use Rattle.py_lines.specs.Piece.{Piece, spelled}
use Rattle.py_imports.specs.ActionComment.{says}
use Rattle.py_imports.specs.Binds.{BindAll}
use Rattle.py_imports.specs.Shape.{mark_len}
use Rattle.py_imports.specs.declared.action_comment.ActionComment.TheVariants as action
use Rattle.isort_settings.specs.Values.{Values}
use Rattle.isort_sort.specs.Blocks.{Cut, rest, block, cut_rows, AreBlocks}
use Rattle.isort_sort.specs.BlocksReplaced.{AreReplaced, no_block, one_more}
use Rattle.isort_sort.specs.Line.{comment_texts}
use Rattle.isort_sort.specs.ReadBack.{AreReadBack}
use Rattle.isort_sort.specs.Row.{Row, IsRow, AreRows, is_off_after, first_string_skips}
use Rattle.isort_sort.specs.Sorted.{first_end, texts_of, IsSortedCut, HasBlocks, IsLaidOut}
use Rattle.isort_sort.proofs.Finding.Replaced.{blocks_again}
use Rattle.isort_sort.proofs.LineLaws.Units.{LineLaws, AreUnits, flat, read_units, cut_units, scalar_units, flat_cut, text_units}
use Rattle.isort_sort.specs.Private.LineRole.{turned}
use Rattle.isort_sort.proofs.Rows.Switches.{off_push}
use Rattle.isort_sort.proofs.WrittenLines.UnitRows.{TokenLaws, unit_line, IsUnitRow, AreUnitRows, rows_from, rows_to}
use Rattle.isort_sort.proofs.WrittenLines.LineUnits.{says_skip_file}
use Rattle.isort_sort.proofs.LineLaws.Joined.{bytes_of, bytes_of-cons}
use Rattle.isort_sort.proofs.WrittenLines.UnitBinds.{EachBinds, binds_from, binds_to, comments_skip, strings_skip}
use Rattle.isort_sort.proofs.WrittenLines.FirstEnds.{first_is_end, first_end_stays}
use Rattle.isort_sort.proofs.SortedAgain.Again.{SortLaws, strings_before, again}

-- a text cut into its logical lines, and their rows at blocks
pub record IsCutText (text : List ℕ) (us : List (List Piece)) (rows : Cut) : Type 0 where
  pub are : AreUnits us
  pub binds : EachBinds us
  pub unskipped : list_any says_skip_file us ≡ false
  pub no_string : first_string_skips (map unit_line us) ≡ false
  pub seen : AreRows [] (lines_from 0 1 us) (cut_rows rows)
  pub bytes : bytes_of us ≡ text
  pub blocks : AreBlocks rows
  pub done : StartsWithNoChar []

-- the first row, and those after it
pub first_seen : TokenLaws → (u : List Piece) (us : List (List Piece)) (row : Row) (rows : List Row) → AreRows [] (lines_from 0 1 (u ∷ us)) (row ∷ rows) → IsRow [] (unit_line u) row × AreUnitRows (turned false (unit_line u)) us rows
first_seen laws u us row rows h =
    let first : h.0 ≡ row = let e = h.2 in cc in
    let later : h.1 ≡ rows = let e = h.2 in cc in
    let after = rows_from laws (unit_line u) [] (0 + byte_len (spelled u)) (1 + line_ends (spelled u)) us h.1 h.4 in (
      subst (IsRow [] (unit_line u)) first h.3,
      subst (λ (b : Bool). AreUnitRows b us rows) (off_push [] (unit_line u)) (subst (AreUnitRows (is_off_after (unit_line u ∷ [])) us) later after),
    )

-- the row with the byte order mark that its line begins with, so that it is a row as those of other lines are
abbrev pub marked_row : List Piece → Row → Row
marked_row u row = record row { text = encode_utf8_all (spelled u) }

pub marked_seen : (u : List Piece) (row : Row) → IsRow [] (unit_line u) row → IsUnitRow false u (marked_row u row)
marked_seen u row h = record { role = h.role; text = refl; indentation = h.indentation; ended = h.ended }

-- logical lines and rows make a text that is cut at its blocks
pub text_again : (v : Values) → SortLaws v → (text : List ℕ) (u : List Piece) (us : List (List Piece)) (row : Row) (rows : List Row) (new : Cut) → AreUnits (u ∷ us) → bytes_of (u ∷ us) ≡ text → StartsWithNoChar [] → IsRow [] (unit_line u) row → AreUnitRows (turned false (unit_line u)) us rows → EachBinds (u ∷ us) → list_any says_skip_file (u ∷ us) ≡ false → first_string_skips (map unit_line (u ∷ us)) ≡ false → cut_rows new ≡ row ∷ rows → AreBlocks new → HasBlocks text (lines_from 0 1 (u ∷ us)) new
text_again v laws text u us row rows new are bytes done first later binds unskipped no_string all blocks =
    let values = binds_from laws.tokens 0 1 (u ∷ us) binds in
    let whole : List Piece = flat (u ∷ us) in
    record {
      accepted = record {
        values = values.0;
        lexed = record {
          characters = spelled whole;
          pieces = whole;
          decodes = record { are = scalar_units (u ∷ us) are; spell = append-nil (encode_utf8_all (spelled whole)) ∙ bytes; bad = done };
          reading = read_units laws.lines (u ∷ us) are;
          cut = ap (lines_from 0 1) (sym (cut_units laws.lines (u ∷ us) are));
        };
        good = values.1;
      };
      unskipped = λ i. (comments_skip laws.tokens 0 1 (u ∷ us) ∙ unskipped) i || (strings_skip laws.tokens 0 1 (u ∷ us) ∙ no_string) i;
      rows = row ∷ rows;
      seen = (row, rows, refl, first, rows_to laws.tokens (unit_line u) [] (0 + byte_len (spelled u)) (1 + line_ends (spelled u)) us rows (subst (λ (b : Bool). AreUnitRows b us rows) (sym (off_push [] (unit_line u))) later));
      cut_at = record { all = all; blocks = blocks };
    }

-- the logical lines of a text that is accepted
pub cut_text : LineLaws → TokenLaws → (text : List ℕ) (lines : List LogicalLine) (rows : Cut) → HasBlocks text lines rows → (us : List (List Piece)) × (lines ≡ lines_from 0 1 us) × IsCutText text us rows
cut_text line_laws tokens text lines rows h =
    let lexed = h.accepted.lexed in
    let us : List (List Piece) = cut 0 lexed.pieces in
    let reading : IsBalancedReading lexed.pieces (spelled lexed.pieces) = record { reads = record { spell = refl; fit = lexed.reading.reads.fit }; balanced = lexed.reading.balanced; shallow = lexed.reading.shallow } in
    let are = text_units line_laws us lexed.pieces refl reading (ap all_scalars lexed.reading.reads.spell ∙ lexed.decodes.are) in
    let asks = or_parts (list_any (λ l. list_any (says action.SkipFile) (comment_texts l)) lines) (first_string_skips lines) h.unskipped in (
      us,
      lexed.cut,
      record {
        are = are;
        binds = binds_to tokens 0 1 us h.accepted.values (subst (λ (l : List LogicalLine). BindAll l h.accepted.values) lexed.cut h.accepted.good);
        unskipped = sym (ap (list_any (λ l. list_any (says action.SkipFile) (comment_texts l))) lexed.cut ∙ comments_skip tokens 0 1 us) ∙ asks.0;
        no_string = sym (ap first_string_skips lexed.cut ∙ strings_skip tokens 0 1 us) ∙ asks.1;
        seen = subst (λ (l : List LogicalLine). AreRows [] l (cut_rows rows)) lexed.cut (subst (AreRows [] lines) (sym h.cut_at.all) h.seen);
        bytes = ap (λ l. encode_utf8_all (spelled l)) (flat_cut 0 lexed.pieces) ∙ ap encode_utf8_all lexed.reading.reads.spell ∙ sym (append-nil (encode_utf8_all lexed.characters)) ∙ lexed.decodes.spell;
        blocks = h.cut_at.blocks;
        done = lexed.decodes.bad;
      },
    )

-- one more row before a cut
abbrev pub prepend : Row → Cut → Cut
prepend row (rest rows) = rest (row ∷ rows)
prepend row (block before run blanks later) = block (row ∷ before) run blanks later

prepend_rows : (row : Row) (rows : Cut) → cut_rows (prepend row rows) ≡ row ∷ cut_rows rows
prepend_rows row (rest rows) = refl
prepend_rows row (block before run blanks later) = refl

prepend_replaced : (row : Row) (a b : Cut) → AreReplaced a b → AreReplaced (prepend row a) (prepend row b)
prepend_replaced row (rest rows) _ (no_block _) = no_block (row ∷ rows)
prepend_replaced row (block before run blanks later) _ (one_more _ above _ new _ others _ more alone is same blank w) = one_more (row ∷ before) above run new blanks others later more alone is same blank w

prepend_back : (v : Values) (end : List ℕ) (row : Row) (a b : Cut) → AreReadBack v end a b → AreReadBack v end (prepend row a) (prepend row b)
prepend_back v end row (rest rows) (rest others) h = ap (λ l. row ∷ l) h
prepend_back v end row (block before run blanks cut) (block ahead new others later) h = ((h.0.0, ap (λ l. row ∷ l) h.0.1, h.0.2), h.1)
prepend_back v end row _ _ h = absurd h

prepend_sorted : (v : Values) (end : List ℕ) (row : Row) (rows : Cut) (body : List ℕ) → IsSortedCut v end rows body → IsSortedCut v end (prepend row rows) (row.text ++ body)
prepend_sorted v end row (rest rows) body h = ap (λ (t : List ℕ). row.text ++ t) h
prepend_sorted v end row (block before run blanks later) body h =
    (h.0, h.1, ap (λ (t : List ℕ). row.text ++ t) h.2 ∙ sym (append_assoc row.text (texts_of before) (h.0 ++ h.1)), h.3, h.4)

-- a sorted text is laid out as itself, and its blocks are those of this cut, read back
pub record IsLaidBack (v : Values) (end : List ℕ) (old : Cut) (text sorted : List ℕ) : Type 0 where
  pub laid : IsLaidOut text v sorted
  pub back : AreReadBack v end old laid.cut

-- a text whose first line stands before all blocks
pub ahead : (v : Values) → SortLaws v → (text sorted : List ℕ) (u : List Piece) (us : List (List Piece)) (row : Row) (rows : Cut) (body : List ℕ) → IsCutText text (u ∷ us) (prepend row rows) → AreBlocks rows → IsSortedCut v (first_end text) rows body → sorted ≡ take (mark_len (unit_line u)) (encode_utf8_all (spelled u)) ++ (row.text ++ body) → IsLaidBack v (first_end text) (prepend row rows) sorted sorted
ahead v laws text sorted u us row rows body c blocks layouts is =
    let seen = first_seen laws.tokens u us row (cut_rows rows) (subst (AreRows [] (lines_from 0 1 (u ∷ us))) (prepend_rows row rows) c.seen) in
    let asks = or_parts (says_skip_file u) (list_any says_skip_file us) c.unskipped in
    let z = again v laws (first_end text) (first_is_end text) (turned false (unit_line u)) us rows body blocks c.are.2 seen.1 asks.1 layouts in
    let plain : List ℕ = encode_utf8_all (spelled u) in
    let n : ℕ = mark_len (unit_line u) in
    let bytes : bytes_of (u ∷ z.units) ≡ sorted =
    bytes_of-cons u z.units
    ∙ (λ i. sym (take-append-drop n plain) i ++ z.text i)
    ∙ append_assoc (take n plain) (drop n plain) body
    ∙ ap (λ (t : List ℕ). take n plain ++ (t ++ body)) (sym seen.0.text) ∙ sym is in
    let new : Cut = prepend row z.cut in
    let end : first_end sorted ≡ first_end text = first_end_stays u us z.units text sorted c.are.0 c.are.1 (z.follow u c.are.1) c.are.2 z.are z.none c.bytes bytes in
    record {
      laid = record {
        lines = lines_from 0 1 (u ∷ z.units);
        cut = new;
        blocks = text_again v laws sorted u z.units row (cut_rows z.cut) new (c.are.0, z.follow u c.are.1, z.are) bytes c.done seen.0 z.rows (c.binds.0, z.binds c.binds.1)
            (λ i. asks.0 i || z.unskipped i)
            (strings_before (unit_line u ∷ []) (map unit_line us) (map unit_line z.units) z.no_string c.no_string)
            (prepend_rows row z.cut) (blocks_again (prepend row rows) new c.blocks (prepend_replaced row rows z.cut z.replaced));
        body = row.text ++ body;
        layouts = subst (λ (e : List ℕ). IsSortedCut v e new (row.text ++ body)) (sym end) (prepend_sorted v (first_end text) row z.cut body z.sorted);
        is = is;
      };
      back = prepend_back v (first_end text) row rows z.cut z.back;
    }
