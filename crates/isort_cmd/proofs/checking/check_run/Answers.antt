-- The text that was read whole is compared with its sorted text.
use Rattle.std.proofs.Common.{None}
use Rattle.std.proofs.lemmas.Result.{err_from_is_err_and}
use Rattle.isort_settings.specs.Values.{values}
use Rattle.isort_cmd.proofs.InputLemmas.{checked_failed, checked_unread, checked_well}
use Rattle.isort_cmd.proofs.checking.check_run.Goals as goal

pub returns-in_err-text : goal.returns-in_err-text
returns-in_err-text g c =
    let p = err_from_is_err_and c.from_residual.result c.from_residual.ensures.1 in
    let failed = c.in_err-text.ensures in
    rw (p.1, p.2) (checked_unread (values c.args.settings.now) c.args.max c.in_err-text.field-0.0 _ None _ failed.errors failed.length failed.reader)

pub returns-in_err-check_code : goal.returns-in_err-check_code
returns-in_err-check_code g c =
    let p = err_from_is_err_and c.from_residual-in_err-check_code.result c.from_residual-in_err-check_code.ensures.1 in
    let read = c.in_ok-text.ensures in
    rw (p.1, p.2) (checked_failed (values c.args.settings.now) c.args.max c.in_err-check_code.field-0.0 _ _ c.as_slice.result.now c.in_ok-text.text.items _ read.ok c.as_slice.ensures.value c.in_err-check_code.ensures read.reader)

pub returns : goal.returns
returns g c =
    let read = c.in_ok-text.ensures in
    checked_well (values c.args.settings.now) c.args.max c.in_ok-check_code.field-0 _ _ c.as_slice.result.now c.in_ok-text.text.items _ read.ok c.as_slice.ensures.value c.in_ok-check_code.ensures read.reader
