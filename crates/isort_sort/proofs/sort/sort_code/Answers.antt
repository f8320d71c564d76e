-- The text of `Changed` has the blocks of the text back.
use Rattle.std.proofs.Common.{inr, subst, sym}
use Rattle.std.specs.Prelude.{string_bytes}
use Rattle.isort_settings.specs.Values.{values}
use Rattle.isort_sort.specs.Answers.{ReadsBack}
use Rattle.isort_sort.specs.Sorted.{IsLaidOut}
use Rattle.isort_sort.proofs.sort.sort_code.Goals as goal
use Rattle.isort_sort.proofs.sort.sort_code.Goals.{then-is, else-is+in_ok-joined}

pub returns-clause-read_back : goal.returns-clause-read_back
returns-clause-read_back c =
    let text = c.args.text.now in
    let v = values c.args.settings.now in
    elim c.if-is.branch [
      | then-is w ↦ subst (ReadsBack text v) (sym w.result-is) tt
      | else-is+in_ok-joined w ↦
          subst (ReadsBack text v) (sym w.result-is)
          (c.sorted_texts_stay.ensures.read_back text v (string_bytes w.in_ok-joined.field-0) (inr (subst (IsLaidOut text v) (sym w.in_ok-joined.ensures) c.in_ok-sorted.ensures.laid)))
    ]
