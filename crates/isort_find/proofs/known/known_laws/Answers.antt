-- Each is a clause of a law below.
use Rattle.isort_find.specs.Private.KnownLaws.{BasicLaws, EndLaws, SettledLaws, AscentLaws}
use Rattle.isort_find.proofs.known.known_laws.Goals as goal

pub returns : goal.returns
returns c =
    let lines : BasicLaws = record { one_lexing = c.one_lexing.ensures.one_list; begins = c.given_lines_begin_the_text.ensures.begin; one_list = c.binds_or_is_bad.ensures.one_list; not_both = c.binds_or_is_bad.ensures.not_both } in
    let ends : EndLaws = record { laws = lines; one_end = c.one_lexing.ensures.one_end; one_fault = c.binds_or_is_bad.ensures.one_fault } in
    let settled : SettledLaws = record { ends = ends; each = c.binds_or_is_bad.ensures.some; lines = c.settled_is_final.ensures.lines; fault = c.settled_is_final.ensures.fault; all = c.settled_is_final.ensures.all } in
    let ascent : AscentLaws = record { within = c.settled_is_final.ensures.within; grow = c.settled_is_final.ensures.grow } in
    record { settled = settled; each_lexed = c.one_lexing.ensures.some; one_settled = c.settled_is_final.ensures.one; ascent = ascent }
