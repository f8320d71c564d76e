use Rattle.std.proofs.Common.{[], sym, refl, ap, subst}
use Rattle.isort_sort.specs.Private.Found.{Finding, IsFinding}
use Rattle.isort_sort.proofs.Finding.Rows.{nothing_found}
use Rattle.isort_sort.proofs.read.LineReader.new.Goals as goal

pub returns : goal.returns
returns c = record {
  rows = [];
  seen = refl;
  utf8 = tt;
  finding = subst (IsFinding 0 []) (sym c.new-2.ensures) (nothing_found 0);
  place = ap (λ (f : Finding). f.place) c.new-2.ensures;
  begun = refl;
  off = refl;
  skip = c.new.ensures;
}
