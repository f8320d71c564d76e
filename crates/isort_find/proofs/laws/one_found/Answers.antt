-- A text has one lexing, and a line one list of bindings.
use Rattle.isort_find.proofs.Finds.Beginnings.{some_found}
use Rattle.isort_find.proofs.Finds.OneFound.{one_list_found, one_end_found}
use Rattle.isort_find.proofs.laws.one_found.Goals as goal
use Rattle.isort_find.specs.Private.KnownLaws.{EndLaws, BasicLaws}

pub returns : goal.returns
returns c =
    let lines : BasicLaws = record { one_lexing = c.one_lexing.ensures.one_list; begins = c.given_lines_begin_the_text.ensures.begin; one_list = c.binds_or_is_bad.ensures.one_list; not_both = c.binds_or_is_bad.ensures.not_both } in
    let ends : EndLaws = record { laws = lines; one_end = c.one_lexing.ensures.one_end; one_fault = c.binds_or_is_bad.ensures.one_fault } in
    record { some = some_found c.one_lexing.ensures.some c.binds_or_is_bad.ensures.some; one_list = one_list_found ends; one_end = one_end_found ends }
