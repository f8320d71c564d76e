-- A text that begins with a block, perhaps after a byte order mark; and so any sorted text.
use Rattle.std.proofs.Common.{◌≡◌, ℕ, nat_eq, Bool, true, false, ◌&&◌, ◌||◌, ⊎_elim, inl, inr, List, [], ◌∷◌, ◌++◌, map, flat_map, take, refl, sym, ap, ◌∙◌, subst, append_assoc}
use Rattle.std.specs.Prelude.{count_by, encode_utf8_all, if◌then◌else◌}
use Rattle.std.specs.List.{list_any, starts_with}
use Rattle.std.specs.Str.{StartsWithNoChar}
use Rattle.std.proofs.Math.Utf8.{encode}
use Rattle.std.proofs.lemmas.Bool.{both_ways, or_parts}
use Rattle.std.proofs.lemmas.Bool.Decides.{Decides-eqb}
use Rattle.std.proofs.lemmas.List.{map-append}
use Rattle.std.proofs.lemmas.Slice.Eq.{starts_is}
use Rattle.py_lines.specs.PieceGrammar.{IsLineEnd}
use Rattle.py_lines.specs.Balance.{IsBalanced as balance}
use Rattle.py_lines.specs.Reading.{EndsLine}
use Rattle.py_lines.specs.Character.{is_mark, is_line_feed, is_return}
use Rattle.py_lines.specs.LogicalLine.{LogicalLine, put_first, lines_from}
use Rattle.py_lines.specs.Piece.{mark, Piece, begins, ends, begins_marked, spelled}
use Rattle.py_imports.specs.ActionComment.{says}
use Rattle.py_imports.specs.Shape.{mark_len}
use Rattle.py_imports.specs.declared.action_comment.ActionComment.TheVariants as action
use Rattle.isort_settings.specs.Values.{Values}
use Rattle.isort_sort.specs.Blocks.{is_member, Run, run_rows, further_rows, Cut, rest, block, cut_rows, AreBlocks}
use Rattle.isort_sort.specs.BlocksReplaced.{one_more}
use Rattle.isort_sort.specs.Layout.{block_lines, text_of_lines}
use Rattle.isort_sort.specs.ReadBack.{AreReadBack, HasBlocksBack}
use Rattle.isort_sort.specs.Row.{Row, AreRows, first_string_skips}
use Rattle.isort_sort.specs.Sorted.{HasBlocks, first_end, last_row, blanks_after, texts_of, mark_of, IsLayout, IsSortedCut, IsSkipped, IsLaidOut, IsSorted}
use Rattle.isort_sort.specs.WrittenLine.{mark_pieces, mark_bytes}
use Rattle.isort_sort.proofs.Finding.Replaced.{blocks_again}
use Rattle.isort_sort.proofs.Rows.OneRows.{BindsOneList}
use Rattle.isort_sort.proofs.Rows.Texts.{text_of_rows}
use Rattle.isort_sort.proofs.SortedTexts.OneSorted.{HasOneLexing, never_both, same_cut}
use Rattle.isort_sort.proofs.LineLaws.Units.{IsUnit, MayFollowUnit, first_character}
use Rattle.isort_sort.specs.Private.LineRole.{turned}
use Rattle.isort_sort.proofs.WrittenLines.UnitRows.{TokenLaws, unit_line, comments_of_unit, AreUnitRows, silent}
use Rattle.isort_sort.proofs.WrittenLines.LineUnits.{says_skip_file}
use Rattle.isort_sort.proofs.LineLaws.Joined.{some_append, bytes_of, bytes_of-cons, bytes_of-append, none-append}
use Rattle.isort_sort.proofs.WrittenLines.BlockUnits.{closing}
use Rattle.isort_sort.proofs.WrittenLines.UnitBinds.{UnitBinds, EachBinds, role_binds}
use Rattle.isort_sort.proofs.LineLaws.Each.{each-append, each-parts}
use Rattle.isort_sort.proofs.ReadMembers.OldBlock.{AreSeen, run_ended}
use Rattle.isort_sort.proofs.WrittenLines.FirstEnds.{is_end_byte, Breaks, first_is_end, breaks_first, ends_first}
use Rattle.isort_sort.proofs.SortedAgain.WrittenBlocks.{first_line, IsWrittenBlock, read_back}
use Rattle.isort_sort.proofs.SortedAgain.Again.{SortLaws, IsReadable, IsAgain, IsParted, each_unit, block_again, parted, after_block, again}
use Rattle.isort_sort.proofs.SortedAgain.SortedAgain.{IsCutText, first_seen, marked_row, marked_seen, text_again, cut_text, IsLaidBack, ahead}

-- a byte order mark before pieces
marked_unit : (marked : Bool) (u : List Piece) → IsUnit u → begins_marked u ≡ false → IsUnit (mark_pieces marked ++ u)
unfolding is_mark
marked_unit false u is plain = is
marked_unit true u is plain = record {
  reading = record {
    reads = record { spell = refl; fit = ((0xFEFF, refl, refl), tt, plain, is.reading.reads.fit) };
    balanced = balance.both (mark_pieces true ++ u) (mark_pieces true) u refl (balance.one (mark_pieces true) (record { class = mark; text = 0xFEFF ∷ [] }) refl refl) is.reading.balanced;
    shallow = ((λ e. absurd (cc)), (λ e. absurd (cc)), is.reading.shallow);
  };
  scalars = is.scalars;
  whole = ap (put_first (record { class = mark; text = 0xFEFF ∷ [] })) is.whole;
}

marked_ends : (u : List Piece) → IsUnit u → EndsLine u → EndsLine (mark_pieces true ++ u)
marked_ends u is (inl none) = absurd (let e = is.whole in cc)
marked_ends u is (inr (body, last, same, class, deep)) = inr (record { class = mark; text = 0xFEFF ∷ [] } ∷ body, last, ap (λ l. record { class = mark; text = 0xFEFF ∷ [] } ∷ l) same, class, deep)

marked_last : (u : List Piece) → IsUnit u → ends is_return (0xFEFF ∷ spelled u) ≡ ends is_return (spelled u)
marked_last [] is = absurd (let e = is.whole in cc)
marked_last (p ∷ ps) is =
    let c = first_character p.class p.text is.reading.reads.fit.0 in
    ap (λ (t : List ℕ). ends is_return (0xFEFF ∷ (t ++ spelled ps))) c.2 ∙ sym (ap (λ (t : List ℕ). ends is_return (t ++ spelled ps)) c.2)

marked_follows : (marked : Bool) (u : List Piece) (us : List (List Piece)) → IsUnit u → MayFollowUnit u us → MayFollowUnit (mark_pieces marked ++ u) us
marked_follows false u us is h = h
marked_follows true u [] is h = tt
marked_follows true u (w ∷ us) is h =
    (marked_ends u is h.0, record { unmarked = h.1.unmarked; uncut = ap (λ b. b && begins is_line_feed (spelled w)) (marked_last u is) ∙ h.1.uncut })

marked_bytes : (marked : Bool) (u : List Piece) (us : List (List Piece)) → bytes_of ((mark_pieces marked ++ u) ∷ us) ≡ encode_utf8_all (spelled (mark_pieces marked)) ++ bytes_of (u ∷ us)
unfolding encode
marked_bytes true u us = refl
marked_bytes false u us = refl

marked_skips : TokenLaws → (marked : Bool) (u : List Piece) → says_skip_file (mark_pieces marked ++ u) ≡ says_skip_file u
marked_skips laws false u = refl
marked_skips laws true u = ap (list_any (says action.SkipFile)) (comments_of_unit laws 0 1 (mark_pieces true ++ u) ∙ sym (comments_of_unit laws 0 1 u))

marked_take : (marked : Bool) (u : List Piece) → take (mark_bytes marked) (encode_utf8_all (spelled (mark_pieces marked ++ u))) ≡ encode_utf8_all (spelled (mark_pieces marked))
unfolding encode
marked_take true u = refl
marked_take false u = refl

-- whether a line begins with a byte order mark
abbrev pub HasMark : LogicalLine → Type 0
HasMark line = (marked : Bool) × (take (mark_len line) line.text ≡ encode_utf8_all (spelled (mark_pieces marked)))

pub has_mark : (line : LogicalLine) → HasMark line
unfolding encode
has_mark line = by (starts_with nat_eq line.text (0xef ∷ 0xbb ∷ 0xbf ∷ [])) refl
  where
    by : (b : Bool) → starts_with nat_eq line.text (0xef ∷ 0xbb ∷ 0xbf ∷ []) ≡ b → (marked : Bool) × (take (if b then 3 else 0) line.text ≡ encode_utf8_all (spelled (mark_pieces marked)))
    by true e = (true, ap (take 3) ((starts_is Decides-eqb line.text (0xef ∷ 0xbb ∷ 0xbf ∷ []) (starts_with nat_eq line.text (0xef ∷ 0xbb ∷ 0xbf ∷ [])) refl).0 e))
    by false e = (false, refl)

mark_unbroken : (marked : Bool) → list_any is_end_byte (encode_utf8_all (spelled (mark_pieces marked))) ≡ false
unfolding encode
mark_unbroken true = refl
mark_unbroken false = refl

-- a text that begins with a block, whose first row has the byte order mark
abbrev IsFirstBlock : List (List Piece) → List Piece → Run → Cut → Type 0
IsFirstBlock us u run later = IsParted false us [] (record run { first = marked_row u run.first }) later

first_rows : (us : List (List Piece)) (u : List Piece) (run : Run) (later : Cut) (f : IsFirstBlock us u run later) → AreSeen f.rs (run_rows run)
first_rows us u run later f = unmarked f.rs f.seen
  where
    unmarked : (rs : List (List Piece)) → AreSeen rs (run_rows (record run { first = marked_row u run.first })) → AreSeen rs (run_rows run)
    unmarked [] h = absurd h
    unmarked (r ∷ rs) h = (record { role = h.0.role; indentation = h.0.indentation; ended = h.0.ended }, h.1)

-- the rest of the text, and the block before it
rest_again : (v : Values) (laws : SortLaws v) (us : List (List Piece)) (u : List Piece) (run : Run) (later : Cut) (f : IsFirstBlock us u run later) (end others : List ℕ) → IsLineEnd end → AreBlocks later → IsSortedCut v end later others → IsAgain v end false f.cs later others
rest_again v laws us u run later f end others is blocks sorted = again v laws end is false f.cs later others blocks (after_block false us [] _ later f).1 f.others f.unskipped.2 sorted

-- such a text is its own sorted text, as soon as its first line end is the one that was written; its layouts may have been
-- found with another
laid_first : (v : Values) (laws : SortLaws v) (sorted : List ℕ) (us : List (List Piece)) (u : List Piece) (run : Run) (blanks : List Row) (later : Cut) (f : IsFirstBlock us u run later) (blocks : AreBlocks (block [] run blanks later)) (binds : EachBinds f.cs) (marked : Bool) (end wanted own others : List ℕ) → IsLineEnd end → (layout : IsLayout v end run blanks (cut_rows later) own) → own ≡ text_of_lines wanted (last_row run.first run.others).ended (blanks_after v run (count_by (λ (row : Row). row.ended) blanks) (cut_rows later)) (block_lines v run.first.indentation wanted layout.0) → IsSortedCut v end later others → ((new : Cut) → AreReadBack v end later new → AreReadBack v wanted later new) → sorted ≡ encode_utf8_all (spelled (mark_pieces marked)) ++ (own ++ others) → first_end sorted ≡ end → StartsWithNoChar [] → IsLaidBack v wanted (block [] run blanks later) sorted sorted
laid_first v laws sorted us u run blanks later f blocks binds marked end wanted own others is layout spelled_so layouts turns text same done =
    let z = rest_again v laws us u run later f end others is blocks.5 layouts in
    let w = block_again v laws end is f.rs f.bs f.cs run blanks later own others blocks.1 blocks.4 (after_block false us [] _ later f).0 (first_rows us u run later f) f.others f.unskipped.1 layout z in
    finish z w
  where
    finish : (z : IsAgain v end false f.cs later others) → IsWrittenBlock v end run layout.0 own z.units (cut_rows z.cut) → IsLaidBack v wanted (block [] run blanks later) sorted sorted
    finish z w =
        let line : List Piece = mark_pieces marked ++ w.first in
        let rest_units : List (List Piece) = w.later ++ z.units in
        let new : Cut = block w.above w.new w.blanks z.cut in
        let rows = subst (AreUnitRows false (w.first ∷ rest_units)) w.top.is w.rows in
        let row = w.top.starts marked in
        let plain : turned false (unit_line w.first) ≡ false = silent false false (unit_line w.first) w.top.row.role rows.0.role w.top.inside in
        let on : turned false (unit_line line) ≡ false = silent false false (unit_line line) w.top.row.role row.role w.top.inside in
        let below : AreUnitRows (turned false (unit_line line)) rest_units w.top.below = subst (λ (b : Bool). AreUnitRows b rest_units w.top.below) (plain ∙ sym on) rows.1 in
        let bytes : bytes_of (line ∷ rest_units) ≡ sorted =
        marked_bytes marked w.first rest_units
        ∙ ap (λ (t : List ℕ). encode_utf8_all (spelled (mark_pieces marked)) ++ t) (bytes_of-append (w.first ∷ w.later) z.units ∙ (λ i. w.text i ++ z.text i))
        ∙ sym text in
        let replaced = one_more [] w.above run w.new blanks w.blanks later z.cut w.comments w.is w.same w.blank z.replaced in
        let skip_rest = none-append says_skip_file (w.first ∷ w.later) z.units w.unskipped z.unskipped in
        let sorted_again : IsSortedCut v end new (own ++ others) = (w.mine, others, ap (λ (t : List ℕ). t ++ others) w.split ∙ append_assoc (texts_of w.above) w.mine others, w.layout, z.sorted) in
        record {
          laid = record {
            lines = lines_from 0 1 (line ∷ rest_units);
            cut = new;
            blocks = text_again v laws sorted line rest_units w.top.row w.top.below new
                (marked_unit marked w.first w.are.0 w.top.unmarked, marked_follows marked w.first rest_units w.are.0 w.are.1, w.are.2)
                bytes done row below
                (role_binds false 0 1 line w.top.row.role row.role w.top.inside, each-append UnitBinds w.later z.units w.binds.1 (z.binds binds))
                (ap (λ (b : Bool). b || list_any says_skip_file rest_units) (marked_skips laws.tokens marked w.first) ∙ skip_rest)
                (ap (λ l. first_string_skips (unit_line line ∷ l)) (map-append unit_line w.later z.units) ∙ w.top.no_string marked (map unit_line z.units))
                w.top.is (blocks_again (block [] run blanks later) new blocks replaced);
            body = own ++ others;
            layouts = subst (λ (e : List ℕ). IsSortedCut v e new (own ++ others)) (sym same) sorted_again;
            is = text ∙ ap (λ (t : List ℕ). t ++ (own ++ others)) (sym (ap (λ (n : ℕ). take n (encode_utf8_all (spelled line))) (w.top.mark marked) ∙ marked_take marked w.first));
          };
          back = ((w.above, refl, read_back v wanted end run blanks (cut_rows later) own z.units (cut_rows z.cut) (layout.0, layout.1, spelled_so) w), turns z.cut z.back);
        }

-- its first line end is the one that was written, or it is one line without any
nothing_later : (v : Values) (end other_end t : List ℕ) (later : Cut) → AreUnitRows false [] (cut_rows later) → IsSortedCut v end later t → IsSortedCut v other_end later t
nothing_later v end other_end t (rest rows) seen h = h
nothing_later v end other_end t (block [] run blanks later) seen h = absurd seen
nothing_later v end other_end t (block (b ∷ bs) run blanks later) seen h = absurd seen

nothing_back : (v : Values) (end wanted : List ℕ) (later new : Cut) → AreUnitRows false [] (cut_rows later) → AreReadBack v end later new → AreReadBack v wanted later new
nothing_back v end wanted (rest rows) (rest others) seen h = h
nothing_back v end wanted (rest rows) (block ahead new others later) seen h = absurd h
nothing_back v end wanted (block [] run blanks later) new seen h = absurd seen
nothing_back v end wanted (block (b ∷ bs) run blanks later) new seen h = absurd seen

-- a run without a line end is the last of its text
last_run : (us : List (List Piece)) (u : List Piece) (run : Run) (later : Cut) (f : IsFirstBlock us u run later) → (last_row run.first run.others).ended ≡ false → f.cs ≡ []
last_run us u run later f open_yet = by f.cs refl
  where
    by : (cs : List (List Piece)) → f.cs ≡ cs → f.cs ≡ []
    by [] e = e
    by (c ∷ cs) e = absurd (both_ways _ open_yet (run_ended f.rs (f.bs ++ f.cs) run (some_append f.bs f.cs (c, cs, e)) (after_block false us [] _ later f).0 (first_rows us u run later f)))

at_start : (v : Values) (laws : SortLaws v) (sorted : List ℕ) (us : List (List Piece)) (u : List Piece) (run : Run) (blanks : List Row) (later : Cut) (f : IsFirstBlock us u run later) (blocks : AreBlocks (block [] run blanks later)) (binds : EachBinds f.cs) (marked : Bool) (end own others : List ℕ) → IsLineEnd end → IsLayout v end run blanks (cut_rows later) own → IsSortedCut v end later others → sorted ≡ encode_utf8_all (spelled (mark_pieces marked)) ++ (own ++ others) → StartsWithNoChar [] → IsLaidBack v end (block [] run blanks later) sorted sorted
at_start v laws sorted us u run blanks later f blocks binds marked end own others is layout layouts text done =
    ⊎_elim
    (λ (b : Breaks end (line end)). as_written (found_so (ap (λ (t : List ℕ). first_end (p ++ (t ++ rest))) w.top.bytes ∙ ap (λ (t : List ℕ). first_end (p ++ t)) (append_assoc (line end) (closing w.top.ends end) rest) ∙ breaks_first p end (line end) (closing w.top.ends end ++ rest) (mark_unbroken marked) is b)))
    (λ (whole : (list_any is_end_byte (line end) ≡ false) × ((e : List ℕ) → line e ≡ line end)). unbroken whole w.top.ends refl)
    read.first
  where
    p : List ℕ
    p = encode_utf8_all (spelled (mark_pieces marked))

    ended : Bool
    ended = (last_row run.first run.others).ended

    n : ℕ
    n = blanks_after v run (count_by (λ (row : Row). row.ended) blanks) (cut_rows later)

    line : List ℕ → List ℕ
    line e = first_line v run.first.indentation e layout.0

    z : IsAgain v end false f.cs later others
    z = rest_again v laws us u run later f end others is blocks.5 layouts

    w : IsWrittenBlock v end run layout.0 own z.units (cut_rows z.cut)
    w = block_again v laws end is f.rs f.bs f.cs run blanks later own others blocks.1 blocks.4 (after_block false us [] _ later f).0 (first_rows us u run later f) f.others f.unskipped.1 layout z

    read : IsReadable v end run layout.0
    read = laws.reads end f.rs run layout.0 is (each-parts IsUnit f.rs (f.bs ++ f.cs) (each_unit (f.rs ++ (f.bs ++ f.cs)) (after_block false us [] _ later f).0)).0 (first_rows us u run later f) blocks.1 f.unskipped.1 layout.1

    rest : List ℕ
    rest = bytes_of (w.later ++ z.units)

    found_so : first_end (p ++ (encode_utf8_all (spelled w.first) ++ rest)) ≡ end → first_end sorted ≡ end
    found_so e = ap first_end (text ∙ ap (λ (t : List ℕ). p ++ t) ((λ i. sym w.text i ++ sym z.text i) ∙ sym (bytes_of-append (w.first ∷ w.later) z.units) ∙ bytes_of-cons w.first (w.later ++ z.units))) ∙ e

    as_written : first_end sorted ≡ end → IsLaidBack v end (block [] run blanks later) sorted sorted
    as_written e = laid_first v laws sorted us u run blanks later f blocks binds marked end end own others is layout layout.2 layouts (λ new h. h) text e done

    alone : (ended ≡ false) × ((e : List ℕ) → block_lines v run.first.indentation e layout.0 ≡ line e ∷ []) → ((e : List ℕ) → line e ≡ line end) → IsLaidBack v end (block [] run blanks later) sorted sorted
    alone one same =
        let none : AreUnitRows false [] (cut_rows later) = subst (λ (l : List (List Piece)). AreUnitRows false l (cut_rows later)) (last_run us u run later f one.0) f.others in
        let e : List ℕ = first_end sorted in
        let other : own ≡ text_of_lines e ended n (block_lines v run.first.indentation e layout.0) =
        layout.2 ∙ (λ i. text_of_lines end (one.0 i) n (one.1 end i)) ∙ ap (λ (t : List ℕ). t ++ []) (sym (same e)) ∙ (λ i. text_of_lines e (sym one.0 i) n (sym (one.1 e) i)) in
        laid_first v laws sorted us u run blanks later f blocks binds marked e end own others (first_is_end sorted) (layout.0, layout.1, other) layout.2
        (nothing_later v end e others later none layouts) (λ new. nothing_back v e end later new none) text refl done

    unbroken : (list_any is_end_byte (line end) ≡ false) × ((e : List ℕ) → line e ≡ line end) → (b : Bool) → w.top.ends ≡ b → IsLaidBack v end (block [] run blanks later) sorted sorted
    unbroken whole true e =
        as_written (found_so (ap (λ (t : List ℕ). first_end (p ++ (t ++ rest))) (w.top.bytes ∙ ap (λ x. line end ++ closing x end) e)
        ∙ ends_first p end (line end) w.first (w.later ++ z.units) (mark_unbroken marked) is whole.0 (w.top.ended e) w.are.1 w.are.2))
    unbroken whole false e = alone (w.top.alone e) whole.1

-- by what the text begins with
starts_with_row : (v : Values) → SortLaws v → (text sorted : List ℕ) (us : List (List Piece)) (row : Row) (before : List Row) (run : Run) (blanks : List Row) (later : Cut) (body : List ℕ) → IsCutText text us (block (row ∷ before) run blanks later) → IsSortedCut v (first_end text) (block (row ∷ before) run blanks later) body → sorted ≡ mark_of (lines_from 0 1 us) ++ body → IsLaidBack v (first_end text) (block (row ∷ before) run blanks later) sorted sorted
starts_with_row v laws text sorted [] row before run blanks later body c layouts is = absurd (let e = c.seen in cc)
starts_with_row v laws text sorted (u ∷ us) row before run blanks later body c layouts is =
    let parts = or_parts (is_member row) (list_any is_member before) c.blocks.0 in
    ahead v laws text sorted u us row (block before run blanks later) (texts_of before ++ (layouts.0 ++ layouts.1)) c
    (parts.1, c.blocks.1, c.blocks.2, c.blocks.3, c.blocks.4, c.blocks.5)
    (layouts.0, layouts.1, refl, layouts.3, layouts.4)
    (is ∙ ap (λ (t : List ℕ). take (mark_len (unit_line u)) (encode_utf8_all (spelled u)) ++ t) (layouts.2 ∙ append_assoc row.text (texts_of before) (layouts.0 ++ layouts.1)))

starts_with_block : (v : Values) → SortLaws v → (text sorted : List ℕ) (us : List (List Piece)) (run : Run) (blanks : List Row) (later : Cut) (body : List ℕ) → IsCutText text us (block [] run blanks later) → IsSortedCut v (first_end text) (block [] run blanks later) body → sorted ≡ mark_of (lines_from 0 1 us) ++ body → IsLaidBack v (first_end text) (block [] run blanks later) sorted sorted
starts_with_block v laws text sorted [] run blanks later body c layouts is = absurd (let e = c.seen in cc)
starts_with_block v laws text sorted (u ∷ us) run blanks later body c layouts is =
    let seen = first_seen laws.tokens u us run.first (flat_map further_rows run.others ++ (blanks ++ cut_rows later)) c.seen in
    let f : IsFirstBlock (u ∷ us) u run later = parted false (u ∷ us) [] (record run { first = marked_row u run.first }) blanks later c.blocks c.are (marked_seen u run.first seen.0, seen.1) c.unskipped in
    let binds = each-parts UnitBinds f.rs (f.bs ++ f.cs) (each-parts UnitBinds f.a (f.rs ++ (f.bs ++ f.cs)) (subst EachBinds f.whole c.binds)).1 in
    let m = has_mark (unit_line u) in
    at_start v laws sorted (u ∷ us) u run blanks later f c.blocks (each-parts UnitBinds f.bs f.cs binds.1).1 m.0 (first_end text) layouts.0 layouts.1 (first_is_end text) layouts.3 layouts.4
    (is ∙ (λ i. m.1 i ++ layouts.2 i)) c.done

by_cut : (v : Values) → SortLaws v → (text sorted : List ℕ) (lines : List LogicalLine) (old : Cut) (body : List ℕ) → HasBlocks text lines old → IsSortedCut v (first_end text) old body → sorted ≡ mark_of lines ++ body → IsLaidBack v (first_end text) old sorted sorted
by_cut v laws text sorted lines (rest rows) body h layouts is =
    let same : text ≡ sorted = text_of_rows text lines rows h.accepted.lexed (subst (AreRows [] lines) (sym h.cut_at.all) h.seen) ∙ ap (λ (t : List ℕ). mark_of lines ++ t) (sym layouts) ∙ sym is in
    subst (λ (t : List ℕ). IsLaidBack v (first_end text) (rest rows) t sorted) same
    (record { laid = record { lines = lines; cut = rest rows; blocks = h; body = body; layouts = layouts; is = is }; back = refl })
by_cut v laws text sorted lines (block (row ∷ before) run blanks later) body h layouts is =
    let c = cut_text laws.lines laws.tokens text lines (block (row ∷ before) run blanks later) h in
    starts_with_row v laws text sorted c.0 row before run blanks later body c.2 layouts (is ∙ ap (λ l. mark_of l ++ body) c.1)
by_cut v laws text sorted lines (block [] run blanks later) body h layouts is =
    let c = cut_text laws.lines laws.tokens text lines (block [] run blanks later) h in
    starts_with_block v laws text sorted c.0 run blanks later body c.2 layouts (is ∙ ap (λ l. mark_of l ++ body) c.1)

pub laid_again : (v : Values) → SortLaws v → (text sorted : List ℕ) → IsLaidOut text v sorted → IsLaidOut sorted v sorted
laid_again v laws text sorted h = (by_cut v laws text sorted h.lines h.cut h.body h.blocks h.layouts h.is).laid

pub sorted_again : (v : Values) → SortLaws v → (text sorted : List ℕ) → IsSorted text v sorted → IsSorted sorted v sorted
sorted_again v laws text sorted (inl (skipped, same)) = inl (subst IsSkipped (sym same) skipped, refl)
sorted_again v laws text sorted (inr h) = inr (laid_again v laws text sorted h)

-- whatever blocks a text has, its sorted text has them back
pub blocks_back : HasOneLexing → BindsOneList → (v : Values) → SortLaws v → (text sorted : List ℕ) → IsSorted text v sorted → HasBlocksBack text v sorted
blocks_back lexing one v laws text sorted (inl (skipped, _)) lines cut blocks = absurd (never_both lexing text lines cut skipped blocks)
blocks_back lexing one v laws text sorted (inr h) lines cut blocks =
    let same = same_cut lexing one text h.lines lines h.cut cut h.blocks blocks in
    let b = by_cut v laws text sorted h.lines h.cut h.body h.blocks h.layouts h.is in
    (b.laid.lines, b.laid.cut, b.laid.blocks, subst (λ (c : Cut). AreReadBack v (first_end text) c b.laid.cut) same.cut_same b.back)
