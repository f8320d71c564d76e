-- What sorting rests on, by the laws; and so a sorted text is its own sorted text.
use Rattle.std.proofs.Common.{◌≡◌, ℕ, true, false, List, [], ◌∷◌, sym, subst}
use Rattle.std.specs.List.{list_any, list_all}
use Rattle.py_lines.specs.Character.{is_space}
use Rattle.py_lines.specs.Piece.{Piece}
use Rattle.py_lines.specs.PieceGrammar.{IsLineEnd}
use Rattle.isort_settings.specs.Values.{Values}
use Rattle.isort_sort.specs.Blocks.{members_of}
use Rattle.isort_sort.specs.Layout.{Laid, AreLaid}
use Rattle.isort_sort.specs.Member.{Member}
use Rattle.isort_sort.specs.WrittenLine.{AreReadMembers, EachIsWritten}
use Rattle.isort_sort.proofs.Orders.Statements.{AreOrders}
use Rattle.std.proofs.lemmas.Bool.{or_parts}
use Rattle.isort_sort.proofs.WrittenLines.UnitRows.{TokenLaws}
use Rattle.isort_sort.proofs.WrittenLines.LineUnits.{says_skip_file}
use Rattle.isort_sort.proofs.WrittenLines.FirstCharacters.{WordsLaw}
use Rattle.isort_sort.proofs.SortedAgain.Again.{EachIsUnit, ReadsBlocks}
use Rattle.isort_sort.proofs.ReadMembers.ReadImports.{ImportLaws}
use Rattle.isort_sort.proofs.ReadMembers.ReadMembers.{OwnLaw, AreReadLines, fine_run, read_members, each_ready, some_laid}
use Rattle.isort_sort.proofs.ReadMembers.FirstLines.{first_of_block}
use Rattle.isort_sort.proofs.SortedAgain.WrittenBlocks.{first_line}
use Rattle.isort_sort.proofs.WrittenLines.FirstEnds.{IsFirstLine}

-- each statement of a block is written so
abbrev pub WrittenLaw : Values → Type 0
WrittenLaw v = (indentation end : List ℕ) (members : List Member) (laid : List Laid) → list_all is_space indentation ≡ true → IsLineEnd end → AreReadMembers members → AreLaid v indentation members laid → EachIsWritten v indentation end laid

pub read_lines : (us : List (List Piece)) → EachIsUnit us → list_any says_skip_file us ≡ false → AreReadLines us
read_lines [] h k = tt
read_lines (u ∷ us) h k = let parts = or_parts (says_skip_file u) (list_any says_skip_file us) k in (h.0, parts.0, read_lines us h.1 parts.1)

pub reads_blocks : TokenLaws → ImportLaws → OwnLaw → WordsLaw → (v : Values) → AreOrders v → WrittenLaw v → ReadsBlocks v
reads_blocks tokens imports own words v o written end us run laid is units seen run_is skips laid_is =
    let fine = fine_run tokens imports own us run (read_lines us units skips) seen run_is in
    let w = written run.first.indentation end (members_of run) laid fine.spaces is (read_members (members_of run) fine.members) laid_is in
    let some = some_laid v run.first.indentation (members_of run) laid fine.some laid_is in
    record {
      spaces = fine.spaces;
      some = some;
      ready = each_ready v run.first.indentation end (members_of run) laid fine.members laid_is.each w;
      first = subst (λ (l : List Laid). IsFirstLine end (λ e. first_line v run.first.indentation e l)) (sym some.2)
          (first_of_block words v o run.first.indentation end (members_of run) some.0 some.1 fine.spaces fine.members (subst (AreLaid v run.first.indentation (members_of run)) some.2 laid_is));
    }
