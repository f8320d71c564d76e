-- The members of each block of an accepted text, as they are read.
use Rattle.std.proofs.Common.{◌≡◌, ℕ, Bool, true, false, List, [], ◌∷◌, ◌++◌, flat_map}
use Rattle.std.specs.List.{list_any}
use Rattle.py_lines.specs.LogicalLine.{LogicalLine}
use Rattle.py_lines.specs.Piece.{Piece}
use Rattle.isort_sort.specs.Blocks.{Run, run_rows, further_rows, is_run, members_of, Cut, rest, block, cut_rows, AreBlocks}
use Rattle.isort_sort.specs.Sorted.{HasBlocks}
use Rattle.isort_sort.specs.WrittenLine.{AreReadBlocks, IsReadRun}
use Rattle.isort_sort.proofs.LineLaws.Each.{each-parts}
use Rattle.isort_sort.proofs.LineLaws.Units.{LineLaws, IsUnit, AreUnits}
use Rattle.isort_sort.proofs.WrittenLines.UnitRows.{TokenLaws, AreUnitRows}
use Rattle.isort_sort.proofs.WrittenLines.LineUnits.{says_skip_file}
use Rattle.isort_sort.proofs.ReadMembers.OldBlock.{AreSeen}
use Rattle.isort_sort.proofs.SortedAgain.Again.{each_unit, parted, after_block}
use Rattle.isort_sort.proofs.SortedAgain.SortedAgain.{IsCutText, first_seen, marked_row, marked_seen, cut_text}
use Rattle.isort_sort.proofs.ReadMembers.ReadImports.{ImportLaws}
use Rattle.isort_sort.proofs.ReadMembers.ReadMembers.{OwnLaw, fine_run, read_members}
use Rattle.isort_sort.proofs.SortedAgain.Sorted.{read_lines}

read_run : TokenLaws → ImportLaws → OwnLaw → (us vs : List (List Piece)) (run : Run) → AreUnits (us ++ vs) → list_any says_skip_file us ≡ false → AreSeen us (run_rows run) → is_run run ≡ true → IsReadRun run
read_run tokens imports own us vs run are skips seen run_is =
    let fine = fine_run tokens imports own us run (read_lines us (each-parts IsUnit us vs (each_unit (us ++ vs) are)).0 skips) seen run_is in
    record { spaces = fine.spaces; members = read_members (members_of run) fine.members }

-- block by block
read_later : TokenLaws → ImportLaws → OwnLaw → (off : Bool) (us : List (List Piece)) (cut : Cut) → AreBlocks cut → AreUnits us → AreUnitRows off us (cut_rows cut) → list_any says_skip_file us ≡ false → AreReadBlocks cut
read_later tokens imports own off us (rest rows) blocks are seen unskipped = tt
read_later tokens imports own off us (block before run blanks cut) blocks are seen unskipped =
    let p = parted off us before run blanks cut blocks are seen unskipped in
    let units = after_block off us before run cut p in
    (read_run tokens imports own p.rs (p.bs ++ p.cs) run units.0 p.unskipped.1 p.seen blocks.1, read_later tokens imports own false p.cs cut blocks.5 units.1 p.others p.unskipped.2)

-- the first row without the byte order mark
read_text : TokenLaws → ImportLaws → OwnLaw → (text : List ℕ) (us : List (List Piece)) (cut : Cut) → IsCutText text us cut → AreReadBlocks cut
read_text tokens imports own text us (rest rows) c = tt
read_text tokens imports own text [] (block (row ∷ before) run blanks cut) c = absurd (let e = c.seen in cc)
read_text tokens imports own text [] (block [] run blanks cut) c = absurd (let e = c.seen in cc)
read_text tokens imports own text (u ∷ us) (block (row ∷ before) run blanks cut) c =
    let seen = first_seen tokens u us row (cut_rows (block before run blanks cut)) c.seen in
    read_later tokens imports own false (u ∷ us) (block (marked_row u row ∷ before) run blanks cut) c.blocks c.are (marked_seen u row seen.0, seen.1) c.unskipped
read_text tokens imports own text (u ∷ us) (block [] run blanks cut) c =
    let seen = first_seen tokens u us run.first (flat_map further_rows run.others ++ (blanks ++ cut_rows cut)) c.seen in
    let r = read_later tokens imports own false (u ∷ us) (block [] (record run { first = marked_row u run.first }) blanks cut) c.blocks c.are (marked_seen u run.first seen.0, seen.1) c.unskipped in
    (record { spaces = r.0.spaces; members = r.0.members }, r.1)

-- the members of each block of a text are read
pub read_blocks : LineLaws → TokenLaws → ImportLaws → OwnLaw → (text : List ℕ) (lines : List LogicalLine) (cut : Cut) → HasBlocks text lines cut → AreReadBlocks cut
read_blocks line_laws tokens imports own text lines cut h =
    let c = cut_text line_laws tokens text lines cut h in
    read_text tokens imports own text c.0 cut c.2
