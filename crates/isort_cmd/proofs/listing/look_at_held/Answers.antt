-- An empty chunk was fed: the byte held decides no fault, or its fault is that of the text.
use Rattle.std.proofs.Common.{[], sym, ◌∙◌}
use Rattle.std.proofs.lemmas.Result.{err_from_is_err_and}
use Rattle.isort_cmd.proofs.AmidLemmas.{looks_at_fault, looks_at_memory, looks_at_none}
use Rattle.isort_cmd.proofs.ChunkLemmas.{FoundLaws, feeds_error, feeds_some}
use Rattle.isort_cmd.proofs.listing.look_at_held.Goals as goal

pub returns-in_err-feed : goal.returns-in_err-feed
returns-in_err-feed c =
    let laws : FoundLaws = record { begin = c.given_begin_the_found.ensures.stopped; one_list = c.one_found.ensures.one_list; some = c.settled_found_is_final.ensures.some; grow = c.settled_found_is_final.ensures.grow; all = c.settled_found_is_final.ensures.all } in
    let p = err_from_is_err_and c.from_residual.result c.from_residual.ensures.1 in
    let feeds = feeds_error c.args.finder.now [] c.feed.result c.in_err-feed.field-0.0 c.feed.new.self c.feed.ensures.feeds c.in_err-feed.was in
    rw (p.1, p.2) (looks_at_fault laws c.args.finder.now c.in_err-feed.field-0.0 c.feed.new.self feeds)

pub returns-then-has_ready : goal.returns-then-has_ready
returns-then-has_ready c = looks_at_memory c.given_begin_the_found.ensures.stopped c.args.finder.now c.feed.new.self

pub returns : goal.returns
returns c =
    let laws : FoundLaws = record { begin = c.given_begin_the_found.ensures.stopped; one_list = c.one_found.ensures.one_list; some = c.settled_found_is_final.ensures.some; grow = c.settled_found_is_final.ensures.grow; all = c.settled_found_is_final.ensures.all } in
    let takes = feeds_some c.args.finder.now [] c.feed.result c.in_ok-feed.field-0 c.feed.new.self c.feed.ensures.feeds c.in_ok-feed.was in
    looks_at_none laws c.args.finder.now c.in_ok-feed.field-0 c.feed.new.self c.requires.open_yet takes (sym c.has_ready.ensures ∙ c.if-has_ready.false)
