-- The text is sorted where sorting doesn't change it.
use Rattle.isort_settings.specs.Values.{values}
use Rattle.isort_sort.proofs.SortedTexts.OfParts.{unchanged_is_sorted, changed_is_unsorted}
use Rattle.isort_sort.proofs.sort.check_code.Goals as goal

pub returns-in-Same : goal.returns-in-Same
returns-in-Same c = unchanged_is_sorted c.args.text.now (values c.args.settings.now) c.in_ok-sort_outcome.field-0 c.in-Same.is c.in_ok-sort_outcome.ensures

pub returns-in-Changed : goal.returns-in-Changed
returns-in-Changed c = changed_is_unsorted c.args.text.now (values c.args.settings.now) c.in_ok-sort_outcome.field-0 c.in-Changed.is c.in_ok-sort_outcome.ensures
