-- Each import that was ready was listed.
use Rattle.std.proofs.Common.{sym, ◌∙◌}
use Rattle.std.proofs.lemmas.Result.{err_from_is_err_and}
use Rattle.isort_cmd.proofs.StageLemmas.{goes_nowhere, goes_further, empties_last, next_is_one, next_is_none, stops_after}
use Rattle.isort_cmd.proofs.StageLemmas.{tells_as, tells_more, tells_no_more, tells_none}
use Rattle.isort_cmd.proofs.listing.Listing.list_ready.Goals as goal

pub imports-init : goal.imports-init
imports-init g c = record { keeps = goes_nowhere _ c.requires; told = tells_none _ }

pub returns-in_err-list_next : goal.returns-in_err-list_next
returns-in_err-list_next g c =
    let p = err_from_is_err_and c.from_residual.result c.from_residual.ensures.1 in
    rw (p.1, p.2) (record { lists = stops_after _ _ _ c.in_err-list_next.field-0.0 c.imports.invariant.keeps c.in_err-list_next.ensures.lists; some = tt })

pub imports-preserved : goal.imports-preserved
imports-preserved g c = record {
  keeps = goes_further _ _ _ c.imports.invariant.keeps (next_is_one _ _ c.in_ok-list_next.field-0 c.if-branch.true c.in_ok-list_next.ensures.lists).keeps;
  told = tells_more c.imports.some _ _ _ c.imports.invariant.told (tells_as _ _ _ _ c.if-branch.true c.in_ok-list_next.ensures.some);
}

pub imports-smaller : goal.imports-smaller
imports-smaller g c = (next_is_one _ _ c.in_ok-list_next.field-0 c.if-branch.true c.in_ok-list_next.ensures.lists).falls

pub returns-else-branch : goal.returns-else-branch
returns-else-branch g c = record {
  lists = empties_last _ _ _ c.imports.invariant.keeps (next_is_none _ _ c.in_ok-list_next.field-0 c.if-branch.false c.in_ok-list_next.ensures.lists);
  some = tells_no_more c.imports.some _ _ _ c.imports.invariant.told (tells_as _ _ _ _ c.if-branch.false c.in_ok-list_next.ensures.some);
}

pub returns-after-imports : goal.returns-after-imports
returns-after-imports g c = record {
  lists = record { keeps = c.imports.invariant.keeps; none_ready = sym c.has_ready.ensures ∙ c.imports-test.false };
  some = c.imports.invariant.told;
}
