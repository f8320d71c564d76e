-- Each clause is a lemma on what settled lines hold.
use Rattle.isort_find.proofs.Finds.SettledFound.{settled_begin_found, decided_end, decided_all}
use Rattle.isort_find.proofs.Finds.SettledGrowing.{found_grow, some_found_settled, bad_decided}
use Rattle.isort_find.proofs.laws.settled_found_is_final.Goals as goal
use Rattle.isort_find.specs.Private.KnownLaws.{EndLaws, BasicLaws, SettledLaws}

pub returns : goal.returns
returns c =
    let lines : BasicLaws = record { one_lexing = c.one_lexing.ensures.one_list; begins = c.given_lines_begin_the_text.ensures.begin; one_list = c.binds_or_is_bad.ensures.one_list; not_both = c.binds_or_is_bad.ensures.not_both } in
    let ends : EndLaws = record { laws = lines; one_end = c.one_lexing.ensures.one_end; one_fault = c.binds_or_is_bad.ensures.one_fault } in
    let laws : SettledLaws = record { ends = ends; each = c.binds_or_is_bad.ensures.some; lines = c.settled_is_final.ensures.lines; fault = c.settled_is_final.ensures.fault; all = c.settled_is_final.ensures.all } in
    record {
      some = some_found_settled c.binds_or_is_bad.ensures.some c.settled_is_final.ensures.some;
      grow = found_grow ends c.binds_or_is_bad.ensures.some c.settled_is_final.ensures.grow;
      bad = bad_decided laws;
      bindings = settled_begin_found laws;
      fault = decided_end laws;
      all = decided_all laws;
    }
