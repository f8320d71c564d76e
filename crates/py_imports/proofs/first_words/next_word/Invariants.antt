-- Neither word begins before the block.
use Rattle.std.proofs.Common.{◌<◌, ◌≤◌, ◌-◌, length}
use Rattle.memchr.specs.Find.{Nowhere}
use Rattle.py_imports.specs.Private.Gaps.{WordLetters}
use Rattle.py_imports.proofs.first_words.next_word.Given as goal

abbrev pub invariant-letters : goal.invariant-letters
invariant-letters l = record {
  further : l.place ≤ l.at;
  within : l.at < length l.text;
  none : Nowhere (WordLetters l.text) l.place l.at;
}

abbrev pub decreases-letters : goal.decreases-letters
decreases-letters l = length l.text - l.at
