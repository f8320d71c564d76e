-- The text that was read whole is sorted, and its sorted text was written.
use Rattle.std.proofs.Common.{None}
use Rattle.std.proofs.lemmas.Result.{err_from_is_err_and}
use Rattle.isort_settings.specs.Values.{values}
use Rattle.isort_cmd.proofs.InputLemmas.{sorted_failed, sorted_unread, sorted_well}
use Rattle.isort_cmd.proofs.sorting.sort_run.Goals as goal

pub returns-in_err-text : goal.returns-in_err-text
returns-in_err-text g c =
    let p = err_from_is_err_and c.from_residual.result c.from_residual.ensures.1 in
    let failed = c.in_err-text.ensures in
    rw (p.1, p.2) (sorted_unread (values c.args.settings.now) c.args.max c.in_err-text.field-0.0 _ None _ _ _ failed.errors failed.length failed.reader c.requires.writer_fine)

pub returns-in_err-sort_to : goal.returns-in_err-sort_to
returns-in_err-sort_to g c =
    let p = err_from_is_err_and c.from_residual-in_err-sort_to.result c.from_residual-in_err-sort_to.ensures.1 in
    let read = c.in_ok-text.ensures in
    let sorted = c.sort_to.ensures in
    rw (p.1, p.2) (sorted_failed (values c.args.settings.now) c.args.max c.sort_to.result c.in_err-sort_to.field-0.0 _ _ _ _ c.as_slice.result.now c.in_ok-text.text.items _ _ c.in_err-sort_to.was read.ok c.as_slice.ensures.value c.in_err-sort_to.ensures.err read.reader sorted.stopped sorted.fine)

pub returns : goal.returns
returns g c =
    let read = c.in_ok-text.ensures in
    sorted_well (values c.args.settings.now) c.args.max c.in_ok-sort_to.field-0 _ _ _ _ c.as_slice.result.now c.in_ok-text.text.items _ _ read.ok c.as_slice.ensures.value c.in_ok-sort_to.ensures.ok read.reader (c.in_ok-sort_to.ensures.fine (λ other. cc))
