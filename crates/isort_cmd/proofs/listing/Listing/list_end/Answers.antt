-- What is ready after the end is the rest of what is found.
use Rattle.std.proofs.lemmas.Result.{err_from_is_err_and}
use Rattle.isort_cmd.proofs.StageLemmas.{ends_in_all, lists_at_rest, stops_after, stops_at_end, stops_after_end}
use Rattle.isort_cmd.proofs.listing.Listing.list_end.Goals as goal

pub returns-in_err-finish : goal.returns-in_err-finish
returns-in_err-finish g c =
    let p = err_from_is_err_and c.from_residual.result c.from_residual.ensures.1 in
    rw (p.1, p.2) (stops_at_end c.given_begin_the_found.ensures.stopped _ c.in_err-finish.field-0.0 c.finish.new.self c.requires.fine c.in_err-finish.ensures.finishes)

pub returns-in_err-list_ready : goal.returns-in_err-list_ready
returns-in_err-list_ready g c =
    let p = err_from_is_err_and c.from_residual-in_err-list_ready.result c.from_residual-in_err-list_ready.ensures.1 in
    rw (p.1, p.2) (stops_after_end _ _ c.finish.new.self c.in_err-list_ready.field-0.0 c.in_ok-finish.ensures.finishes c.in_err-list_ready.ensures.lists)

pub returns-in_err-list_next : goal.returns-in_err-list_next
returns-in_err-list_next g c =
    let p = err_from_is_err_and c.from_residual-in_err-list_next.result c.from_residual-in_err-list_next.ensures.1 in
    let stops = stops_after _ _ _ c.in_err-list_next.field-0.0 c.in_ok-list_ready.ensures.lists.keeps c.in_err-list_next.ensures.lists in
    rw (p.1, p.2) (stops_after_end _ _ c.finish.new.self c.in_err-list_next.field-0.0 c.in_ok-finish.ensures.finishes stops)

pub list_next-requires : goal.list_next-requires
list_next-requires g c = c.in_ok-list_ready.ensures.lists.keeps.goes_on.fine

pub returns : goal.returns
returns g c = ends_in_all _ _ c.finish.new.self c.in_ok-finish.ensures.finishes (lists_at_rest _ _ _ c.in_ok-list_next.field-0 c.in_ok-list_ready.ensures.lists c.in_ok-list_next.ensures.lists)
