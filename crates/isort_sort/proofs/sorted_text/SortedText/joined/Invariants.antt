-- The pieces so far were joined.
use Rattle.std.proofs.Common.{◌≡◌, take, string_bytes}
use Rattle.isort_sort.specs.Private.Parts.{bytes_of}
use Rattle.isort_sort.proofs.sorted_text.SortedText.joined.Given as goal

abbrev pub invariant-pieces : goal.invariant-pieces
invariant-pieces l = string_bytes l.sorted ≡ bytes_of (take l.piece-index l.piece-items)
