use Rattle.std.proofs.Common.{refl, ap, map}
use Rattle.isort_settings.specs.Values.{values}
use Rattle.isort_sort.specs.Private.Found.{found_value}
use Rattle.isort_sort.proofs.SortedTexts.Parts.{begin_made}
use Rattle.isort_sort.proofs.parts.Parts.new.Goals as goal

pub returns : goal.returns
returns c = begin_made c.args.text.now (values c.args.settings.now) _ c.args.blocks c.requires refl refl c.first_of.ensures refl (ap (map found_value) c.into_iter.ensures.rest)
