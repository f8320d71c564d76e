-- The parts so far were made, and blocks become fewer.
use Rattle.std.proofs.Common.{length}
use Rattle.isort_settings.specs.Values.{values}
use Rattle.isort_sort.specs.Private.Parts.{bytes_of, parts_left, AreTexts, HasMade}
use Rattle.isort_sort.proofs.sorted_text.SortedText.new.Given as goal

abbrev pub invariant-parts : goal.invariant-parts
invariant-parts l = record {
  made : HasMade l.text (values l.settings) l.made (bytes_of l.pieces.items);
  texts : AreTexts l.pieces.items;
}

abbrev pub decreases-parts : goal.decreases-parts
decreases-parts l = length (parts_left l.made)
