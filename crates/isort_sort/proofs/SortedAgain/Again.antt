-- The logical lines of a text in which each block was replaced by its layout, and their rows.
use Rattle.std.proofs.Common.{◌≡◌, ℕ, Bool, true, false, cond, ◌&&◌, ◌||◌, ◌⊎◌, inl, inr, Some, List, [], ◌∷◌, ◌++◌, map, refl, sym, ap, ◌∙◌, subst, append_assoc}
use Rattle.std.specs.Prelude.{count_by, slice_get}
use Rattle.std.specs.List.{AllByRecursion, list_any, list_all}
use Rattle.std.proofs.lemmas.Bool.{and_parts, both_ways, or_parts}
use Rattle.std.proofs.lemmas.Grind.{flat_map-append}
use Rattle.std.proofs.lemmas.List.{map-append}
use Rattle.py_lines.specs.Character.{is_space, is_return}
use Rattle.py_lines.specs.LogicalLine.{LogicalLine}
use Rattle.py_lines.specs.Piece.{line_end, Piece, ends, begins_marked, spelled}
use Rattle.py_lines.specs.PieceGrammar.{IsLineEnd}
use Rattle.py_imports.specs.Shape.{is_nothing}
use Rattle.py_imports.specs.Statement.{significant}
use Rattle.isort_settings.specs.Values.{Values}
use Rattle.isort_sort.specs.Blocks.{Run, run_rows, is_run, Cut, rest, block, cut_rows, begins_blank, AreBlocks, members_of}
use Rattle.isort_sort.specs.BlocksReplaced.{is_comments, AreReplaced, no_block, one_more}
use Rattle.isort_sort.specs.LaidAgain.{asked_by}
use Rattle.isort_sort.specs.Layout.{Laid, AreLaid, block_lines, text_of_lines}
use Rattle.isort_sort.specs.ReadBack.{AreReadBack}
use Rattle.isort_sort.specs.Row.{as_many, Row, string_skips, first_string_skips}
use Rattle.isort_sort.specs.Sorted.{last_row, blanks_after, texts_of, IsLayout, IsSortedCut}
use Rattle.isort_sort.specs.WrittenLine.{end_pieces}
use Rattle.isort_sort.proofs.Orders.Statements.{AreOrders}
use Rattle.isort_sort.proofs.SortedTexts.LaidAgain.{blanks_again, blanks_kept}
use Rattle.isort_sort.proofs.LineLaws.Units.{LineLaws, IsUnit, MayFollowUnit, AreUnits, units_after, units_before}
use Rattle.isort_sort.proofs.WrittenLines.UnitRows.{TokenLaws, unit_line, AreUnitRows, off_through, rows_spelled, rows_apart, rows_together}
use Rattle.isort_sort.proofs.WrittenLines.LineUnits.{NeighbourLaw, are_some, says_skip_file}
use Rattle.isort_sort.proofs.LineLaws.Joined.{AreSome, some_first, some_append, bytes_of, bytes_of-append, none-append}
use Rattle.isort_sort.proofs.WrittenLines.BlockUnits.{AreWritable}
use Rattle.isort_sort.proofs.WrittenLines.FirstEnds.{IsFirstLine}
use Rattle.isort_sort.proofs.ReadMembers.OldBlock.{AreSeen, run_in_block, blanks_in_block, through_block, seen_rows, member_off, run_ended}
use Rattle.isort_sort.proofs.WrittenLines.FirstCharacters.{WordsLaw, first_feed}
use Rattle.isort_sort.proofs.WrittenLines.UnitBinds.{UnitBinds, EachBinds}
use Rattle.isort_sort.proofs.LineLaws.Each.{each-append, each-parts}
use Rattle.isort_sort.proofs.SortedAgain.WrittenBlocks.{first_line, IsWrittenBlock, read_back, written_block}
use Rattle.isort_sort.proofs.Finding.Replaced.{run_member}
use Rattle.isort_sort.proofs.Finding.RoleTests.{of_member, of_comments}
use Rattle.std.proofs.Math.Bool.{and-false}

-- each is a logical line that is read
abbrev pub EachIsUnit : List (List Piece) → Type 0
EachIsUnit us = AllByRecursion IsUnit us

-- what the statements of a block are known for, as its members are read
pub record IsReadable (v : Values) (end : List ℕ) (run : Run) (laid : List Laid) : Type 0 where
  pub spaces : list_all is_space run.first.indentation ≡ true
  pub some : AreSome laid
  pub ready : AreWritable v run.first.indentation end laid
  pub first : IsFirstLine end (λ e. first_line v run.first.indentation e laid)

abbrev pub ReadsBlocks : Values → Type 0
ReadsBlocks v = (end : List ℕ) (us : List (List Piece)) (run : Run) (laid : List Laid) → IsLineEnd end → EachIsUnit us → AreSeen us (run_rows run) → is_run run ≡ true → list_any says_skip_file us ≡ false → AreLaid v run.first.indentation (members_of run) laid → IsReadable v end run laid

-- what sorting rests on
pub record SortLaws (v : Values) : Type 0 where
  pub lines : LineLaws
  pub neighbours : NeighbourLaw
  pub tokens : TokenLaws
  pub words : WordsLaw
  pub orders : AreOrders v
  pub reads : ReadsBlocks v

-- rows that ask the rows before them for the same, or now for as many blank lines as there are
abbrev pub AskAlike : List Row → List Row → Type 0
AskAlike others rows = (asked_by others ≡ asked_by rows) ⊎ ((asked_by others ≡ Some as_many) × AreSome rows)

-- the logical lines and rows of a sorted cut
pub record IsAgain (v : Values) (end : List ℕ) (off : Bool) (us : List (List Piece)) (old : Cut) (body : List ℕ) : Type 0 where
  pub units : List (List Piece)
  pub cut : Cut
  pub are : AreUnits units
  pub rows : AreUnitRows off units (cut_rows cut)
  pub replaced : AreReplaced old cut
  pub back : AreReadBack v end old cut
  pub sorted : IsSortedCut v end cut body
  pub text : bytes_of units ≡ body
  pub follow : (u : List Piece) → MayFollowUnit u us → MayFollowUnit u units
  pub none : are_some us ≡ false → are_some units ≡ false
  pub asked : AskAlike (cut_rows cut) (cut_rows old)
  pub unskipped : list_any says_skip_file units ≡ false
  pub binds : EachBinds us → EachBinds units
  pub no_string : first_string_skips (map unit_line us) ≡ false → first_string_skips (map unit_line units) ≡ false

-- the blank lines after a block are written again as they were
kept_again : (v : Values) (run new : Run) (kept : ℕ) (rows others : List Row) → new.first.indentation ≡ run.first.indentation → AskAlike others rows → blanks_after v new (blanks_after v run kept rows) others ≡ blanks_after v run kept rows
kept_again v run new kept rows others same (inl asks) = blanks_again v run new kept rows others same asks
kept_again v run new kept rows others same (inr (asks, (row, more, is))) =
    subst (λ (l : List Row). blanks_after v new (blanks_after v run kept l) others ≡ blanks_after v run kept l) (sym is) (blanks_kept v run new kept row more others same asks)

-- each of the units
pub each_unit : (us : List (List Piece)) → AreUnits us → EachIsUnit us
each_unit [] are = tt
each_unit (u ∷ us) are = (are.0, each_unit us are.2)

pub none_first : {X : Type 0} (test : X → Bool) (xs ys : List X) → list_any test (xs ++ ys) ≡ false → (list_any test xs ≡ false) × (list_any test ys ≡ false)
none_first test [] ys h = (refl, h)
none_first test (x ∷ xs) ys h =
    let parts = or_parts (test x) (list_any test (xs ++ ys)) h in
    let later = none_first test xs ys parts.1 in
    ((λ i. parts.0 i || later.0 i), later.1)

unmarked_after : (u : List Piece) (us : List (List Piece)) (c : List Piece) (cs : List (List Piece)) → AreUnits ((u ∷ us) ++ (c ∷ cs)) → begins_marked c ≡ false
unmarked_after u [] c cs are = are.1.1.unmarked
unmarked_after u (w ∷ us) c cs are = unmarked_after w us c cs are.2

pub can_follow : WordsLaw → (end : List ℕ) (us cs : List (List Piece)) (rows : List Row) → AreSome us → AreUnits (us ++ cs) → AreUnitRows false cs rows → begins_blank rows ≡ false → MayFollowUnit (end_pieces true end) cs
can_follow law end us [] rows some are seen h = tt
can_follow law end us (c ∷ cs) [] some are seen h = absurd seen
can_follow law end us (c ∷ cs) (row ∷ rows) some are seen h =
    let all = subst (λ (l : List (List Piece)). AreUnits (l ++ (c ∷ cs))) some.2 are in
    let unit = (units_after us (c ∷ cs) are).0 in (
      inr ([], record { class = line_end; text = end }, refl, refl, refl),
      record { unmarked = unmarked_after some.0 some.1 c cs all; uncut = ap (λ b. ends is_return (spelled (end_pieces true end)) && b) (first_feed law c unit false row.role seen.0.role h) ∙ and-false (ends is_return (spelled (end_pieces true end))) },
    )

pub some_from : (us : List (List Piece)) → are_some us ≡ true → AreSome us
some_from [] h = absurd (cc)
some_from (u ∷ us) h = (u, us, refl)

pub seen_some : (us : List (List Piece)) (run : Run) → AreSeen us (run_rows run) → AreSome us
seen_some [] run h = absurd h
seen_some (u ∷ us) run h = (u, us, refl)

-- the block, as it is written before the other lines
pub block_again : (v : Values) → SortLaws v → (end : List ℕ) → IsLineEnd end → (rs bs cs : List (List Piece)) (run : Run) (blanks : List Row) (cut : Cut) (own others : List ℕ) → is_run run ≡ true → begins_blank (cut_rows cut) ≡ false → AreUnits (rs ++ (bs ++ cs)) → AreSeen rs (run_rows run) → AreUnitRows false cs (cut_rows cut) → list_any says_skip_file rs ≡ false → (layout : IsLayout v end run blanks (cut_rows cut) own) → (z : IsAgain v end false cs cut others) → IsWrittenBlock v end run layout.0 own z.units (cut_rows z.cut)
block_again v laws end is rs bs cs run blanks cut own others run_is unblank are seen rows unskipped layout z =
    let read = laws.reads end rs run layout.0 is (each-parts IsUnit rs (bs ++ cs) (each_unit (rs ++ (bs ++ cs)) are)).0 seen run_is unskipped layout.1 in
    let s = read.some.0 in
    let ss = read.some.1 in
    let same = read.some.2 in
    let n : ℕ = blanks_after v run (count_by (λ (row : Row). row.ended) blanks) (cut_rows cut) in
    subst (λ (l : List Laid). IsWrittenBlock v end run l own z.units (cut_rows z.cut)) (sym same)
    (written_block laws.neighbours laws.tokens v laws.orders end run n s ss own z.units (cut_rows z.cut) is read.spaces
    (subst (AreWritable v run.first.indentation end) same read.ready)
    (subst (AreLaid v run.first.indentation (members_of run)) same layout.1)
    (layout.2 ∙ ap (λ l. text_of_lines end (last_row run.first run.others).ended n (block_lines v run.first.indentation end l)) same)
    (λ new indented ended. kept_again v run new (count_by (λ (row : Row). row.ended) blanks) (cut_rows cut) (cut_rows z.cut) indented z.asked)
    (λ some. closed some (are_some cs) refl)
    (z.follow (end_pieces true end) (can_follow laws.words end (rs ++ bs) cs (cut_rows cut) (some_first rs bs (seen_some rs run seen)) (subst AreUnits (sym (append_assoc rs bs cs)) are) rows unblank))
    z.are z.rows)
  where
    closed : are_some z.units ≡ true → (b : Bool) → are_some cs ≡ b → (last_row run.first run.others).ended ≡ true
    closed some true e = run_ended rs (bs ++ cs) run (some_append bs cs (some_from cs e)) are seen
    closed some false e = absurd (both_ways _ (z.none e) some)

-- the row after a block asks for what it did
asked_again : (before above : List Row) (run new : Run) (rows others : List Row) → list_all is_comments above ≡ true → is_run run ≡ true → is_run new ≡ true → AskAlike ((before ++ above) ++ (run_rows new ++ others)) (before ++ (run_rows run ++ rows))
asked_again (r ∷ rs) above run new rows others h k l = inl refl
asked_again [] [] run new rows others h k l = inl (ap Some ((of_member new.first.role (run_member new l)).asks ∙ sym (of_member run.first.role (run_member run k)).asks))
asked_again [] (c ∷ cs) run new rows others h k l =
    inr (ap Some (of_comments c.role (and_parts (is_comments c) (list_all is_comments cs) h).0).asks, (run.first, _, refl))

-- strings are looked for up to the first statement
pub strings_before : (lines ls ks : List LogicalLine) → (first_string_skips ls ≡ false → first_string_skips ks ≡ false) → first_string_skips (lines ++ ls) ≡ false → first_string_skips (lines ++ ks) ≡ false
strings_before [] ls ks h k = h k
strings_before (line ∷ lines) ls ks h k = by (is_nothing (significant line.tokens)) k (strings_before lines ls ks h)
  where
    by : (b : Bool) → cond b (first_string_skips (lines ++ ls)) (string_skips line (slice_get (significant line.tokens) 0)) ≡ false → (first_string_skips (lines ++ ls) ≡ false → first_string_skips (lines ++ ks) ≡ false) → cond b (first_string_skips (lines ++ ks)) (string_skips line (slice_get (significant line.tokens) 0)) ≡ false
    by true e later = later e
    by false e later = e

-- lines, a block and others
again_block : (v : Values) (end : List ℕ) (off : Bool) (a rs bs cs : List (List Piece)) (before : List Row) (run : Run) (blanks : List Row) (cut : Cut) (own others body : List ℕ) → is_run run ≡ true → AreUnits (a ++ (rs ++ (bs ++ cs))) → AreUnitRows off a before → off_through off a ≡ false → AreSeen rs (run_rows run) → list_any says_skip_file a ≡ false → body ≡ texts_of before ++ (own ++ others) → (layout : IsLayout v end run blanks (cut_rows cut) own) → (z : IsAgain v end false cs cut others) → IsWrittenBlock v end run layout.0 own z.units (cut_rows z.cut) → IsAgain v end off (a ++ (rs ++ (bs ++ cs))) (block before run blanks cut) body
again_block v end off a rs bs cs before run blanks cut own others body run_is are rows on seen unskipped text layout z w = record {
  units = a ++ us;
  cut = block (before ++ w.above) w.new w.blanks z.cut;
  are = units_before a (rs ++ more) us are follows w.are;
  rows = subst (AreUnitRows off (a ++ us)) (sym (append_assoc before w.above (run_rows w.new ++ (w.blanks ++ cut_rows z.cut)))) (rows_together off a us before (w.above ++ (run_rows w.new ++ (w.blanks ++ cut_rows z.cut))) rows (subst (λ (b : Bool). AreUnitRows b us (w.above ++ (run_rows w.new ++ (w.blanks ++ cut_rows z.cut)))) (sym on) w.rows));
  replaced = one_more before w.above run w.new blanks w.blanks cut z.cut w.comments w.is w.same w.blank z.replaced;
  back = ((w.above, refl, read_back v end end run blanks (cut_rows cut) own z.units (cut_rows z.cut) layout w), z.back);
  sorted = (w.mine, others, split, w.layout, z.sorted);
  text = bytes_of-append a us ∙ (λ i. sym (rows_spelled off a before rows) i ++ (bytes_of-append (w.first ∷ w.later) z.units ∙ (λ j. w.text j ++ z.text j)) i) ∙ sym text;
  follow = λ u. first a u;
  none = λ h. absurd (nothing a rs (seen_some rs run seen) h);
  asked = asked_again before w.above run w.new _ _ w.comments run_is w.is;
  unskipped = none-append says_skip_file a us unskipped (none-append says_skip_file (w.first ∷ w.later) z.units w.unskipped z.unskipped);
  binds = λ h.
      let parts = each-parts UnitBinds a (rs ++ more) h in
      let later = each-parts UnitBinds bs cs (each-parts UnitBinds rs more parts.1).1 in
      each-append UnitBinds a us parts.0 (each-append UnitBinds (w.first ∷ w.later) z.units w.binds (z.binds later.1));
  no_string = λ h.
      ap first_string_skips (map-append unit_line a us)
      ∙ strings_before (map unit_line a) (map unit_line (rs ++ more)) (map unit_line us) (λ k. ap (λ l. first_string_skips (unit_line w.first ∷ l)) (map-append unit_line w.later z.units) ∙ w.top.no_string false (map unit_line z.units)) (ap first_string_skips (sym (map-append unit_line a (rs ++ more))) ∙ h);
}
  where
    more : List (List Piece)
    more = bs ++ cs

    us : List (List Piece)
    us = (w.first ∷ w.later) ++ z.units

    follows_some : (u : List Piece) (l : List (List Piece)) → AreSome l → MayFollowUnit u (l ++ more) → MayFollowUnit u us
    follows_some u [] some h = absurd (let e = some.2 in cc)
    follows_some u (r ∷ l) some h = (h.0, record { unmarked = w.top.unmarked; uncut = ap (λ b. ends is_return (spelled u) && b) w.top.no_feed ∙ and-false (ends is_return (spelled u)) })

    follows : (u : List Piece) → MayFollowUnit u (rs ++ more) → MayFollowUnit u us
    follows u h = follows_some u rs (seen_some rs run seen) h

    first : (l : List (List Piece)) (u : List Piece) → MayFollowUnit u (l ++ (rs ++ more)) → MayFollowUnit u (l ++ us)
    first [] u h = follows u h
    first (x ∷ l) u h = h

    nothing : (l k : List (List Piece)) → AreSome k → are_some (l ++ (k ++ more)) ≡ false → ⊥
    nothing [] [] some h = let e = some.2 in cc
    nothing [] (x ∷ k) some h = cc
    nothing (x ∷ l) k some h = cc

    split : body ≡ texts_of (before ++ w.above) ++ (w.mine ++ others)
    split =
        text ∙ ap (λ (t : List ℕ). texts_of before ++ t) (ap (λ (t : List ℕ). t ++ others) w.split ∙ append_assoc (texts_of w.above) w.mine others)
        ∙ sym (append_assoc (texts_of before) (texts_of w.above) (w.mine ++ others))
        ∙ ap (λ (t : List ℕ). t ++ (w.mine ++ others)) (sym (flat_map-append (λ (row : Row). row.text) before w.above))

-- sorting is on where a block begins
run_on : (off : Bool) (us : List (List Piece)) (run : Run) (rows : List Row) → AreUnitRows off us (run_rows run ++ rows) → is_run run ≡ true → off ≡ false
run_on off [] run rows h k = absurd h
run_on off (u ∷ us) run rows h k = member_off off u run.first h.0.role (run_member run k)

-- the logical lines of a block: those before it, of its run, of the blank lines after that, and the others
pub record IsParted (off : Bool) (us : List (List Piece)) (before : List Row) (run : Run) (cut : Cut) : Type 0 where
  pub a : List (List Piece)
  pub rs : List (List Piece)
  pub bs : List (List Piece)
  pub cs : List (List Piece)
  pub whole : us ≡ a ++ (rs ++ (bs ++ cs))
  pub are : AreUnits (a ++ (rs ++ (bs ++ cs)))
  pub rows : AreUnitRows off a before
  pub on : off_through off a ≡ false
  pub seen : AreSeen rs (run_rows run)
  pub others : AreUnitRows false cs (cut_rows cut)
  pub unskipped : (list_any says_skip_file a ≡ false) × (list_any says_skip_file rs ≡ false) × (list_any says_skip_file cs ≡ false)

pub parted : (off : Bool) (us : List (List Piece)) (before : List Row) (run : Run) (blanks : List Row) (cut : Cut) → AreBlocks (block before run blanks cut) → AreUnits us → AreUnitRows off us (before ++ (run_rows run ++ (blanks ++ cut_rows cut))) → list_any says_skip_file us ≡ false → IsParted off us before run cut
parted off us before run blanks cut blocks are seen unskipped =
    let a = rows_apart off us before (run_rows run ++ (blanks ++ cut_rows cut)) seen in
    let on : off_through off a.front ≡ false = run_on (off_through off a.front) a.back run (blanks ++ cut_rows cut) a.second blocks.1 in
    let r = rows_apart false a.back (run_rows run) (blanks ++ cut_rows cut) (subst (λ (x : Bool). AreUnitRows x a.back (run_rows run ++ (blanks ++ cut_rows cut))) on a.second) in
    let after : off_through false r.front ≡ false = through_block false r.front (run_rows run) r.first (run_in_block run blocks.1) in
    let b = rows_apart false r.back blanks (cut_rows cut) (subst (λ (x : Bool). AreUnitRows x r.back (blanks ++ cut_rows cut)) after r.second) in
    let last : off_through false b.front ≡ false = through_block false b.front blanks b.first (blanks_in_block blanks blocks.3) in
    let whole : us ≡ a.front ++ (r.front ++ (b.front ++ b.back)) = a.split ∙ ap (λ l. a.front ++ l) (r.split ∙ ap (λ l. r.front ++ l) b.split) in
    let none_a = none_first says_skip_file a.front (r.front ++ (b.front ++ b.back)) (ap (list_any says_skip_file) (sym whole) ∙ unskipped) in
    let none_r = none_first says_skip_file r.front (b.front ++ b.back) none_a.1 in
    record {
      a = a.front;
      rs = r.front;
      bs = b.front;
      cs = b.back;
      whole = whole;
      are = subst AreUnits whole are;
      rows = a.first;
      on = on;
      seen = seen_rows r.front (run_rows run) r.first (run_in_block run blocks.1);
      others = subst (λ (x : Bool). AreUnitRows x b.back (cut_rows cut)) last b.second;
      unskipped = (none_a.0, none_r.0, (none_first says_skip_file b.front b.back none_r.1).1);
    }

-- the block, and the lines after it
pub after_block : (off : Bool) (us : List (List Piece)) (before : List Row) (run : Run) (cut : Cut) → (p : IsParted off us before run cut) → AreUnits (p.rs ++ (p.bs ++ p.cs)) × AreUnits p.cs
after_block off us before run cut p =
    let here = units_after p.a (p.rs ++ (p.bs ++ p.cs)) p.are in
    (here, units_after p.bs p.cs (units_after p.rs (p.bs ++ p.cs) here))

-- sorting is done block by block
pub again : (v : Values) → SortLaws v → (end : List ℕ) → IsLineEnd end → (off : Bool) (us : List (List Piece)) (cut : Cut) (body : List ℕ) → AreBlocks cut → AreUnits us → AreUnitRows off us (cut_rows cut) → list_any says_skip_file us ≡ false → IsSortedCut v end cut body → IsAgain v end off us cut body
again v laws end is off us (rest rows) body blocks are seen unskipped sorted = record {
  units = us;
  cut = rest rows;
  are = are;
  rows = seen;
  replaced = no_block rows;
  back = refl;
  sorted = sorted;
  text = sym (rows_spelled off us rows seen) ∙ sym sorted;
  follow = λ u h. h;
  none = λ h. h;
  asked = inl refl;
  unskipped = unskipped;
  binds = λ h. h;
  no_string = λ h. h;
}
again v laws end is off us (block before run blanks cut) body blocks are seen unskipped sorted =
    let p = parted off us before run blanks cut blocks are seen unskipped in
    let units = after_block off us before run cut p in
    let z = again v laws end is false p.cs cut sorted.1 blocks.5 units.1 p.others p.unskipped.2 sorted.4 in
    let w = block_again v laws end is p.rs p.bs p.cs run blanks cut sorted.0 sorted.1 blocks.1 blocks.4 units.0 p.seen p.others p.unskipped.1 sorted.3 z in
    subst (λ (l : List (List Piece)). IsAgain v end off l (block before run blanks cut) body) (sym p.whole)
    (again_block v end off p.a p.rs p.bs p.cs before run blanks cut sorted.0 sorted.1 body blocks.1 p.are p.rows p.on p.seen p.unskipped.0 sorted.2 sorted.3 z w)
