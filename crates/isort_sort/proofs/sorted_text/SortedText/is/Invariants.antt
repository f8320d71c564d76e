-- The pieces so far were compared.
use Rattle.std.proofs.Common.{take}
use Rattle.isort_sort.specs.Private.Compared.{IsCompared}
use Rattle.isort_sort.specs.Private.Parts.{bytes_of}
use Rattle.isort_sort.proofs.sorted_text.SortedText.is.Given as goal

abbrev pub invariant-pieces : goal.invariant-pieces
invariant-pieces l = IsCompared l.text (bytes_of (take l.piece-index l.piece-items)) l.compared
