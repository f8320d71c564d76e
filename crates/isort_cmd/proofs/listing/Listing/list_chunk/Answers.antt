-- Each line that gets ready with the chunk was listed, and nothing is ready at its end.
use Rattle.std.proofs.Common.{◌≡◌, ◌≤◌, ◌<◌, ◌∙◌, ◌^◌, ℕ, ◌+◌, ◌-◌, ◌==◌, inl, inr, false, List, [], length, take, drop, length-append, length-take, length-drop, ap, arith, sym}
use Rattle.std.proofs.lemmas.Bool.{eqb-true, eqb-false}
use Rattle.std.proofs.lemmas.List.{nil_from_length}
use Rattle.std.proofs.lemmas.Result.{err_from_is_err_and}
use Rattle.isort_find.specs.Pieces.{PieceFinderState, TakesFromPiece, fed_by, has_ready}
use Rattle.isort_cmd.specs.Private.Stages.{ListingState}
use Rattle.isort_cmd.proofs.AmidLemmas.{IsAmid, amid_first, amid_next, amid_fed, amid_ready, amid_looked, amid_whole, flushed, stops_at_flush}
use Rattle.isort_cmd.proofs.ChunkLemmas.{FoundLaws, feeds_error, feeds_some}
use Rattle.isort_cmd.proofs.listing.Listing.list_chunk.Goals as goal

-- the bytes that are left fit too, and so those that were fed
rest_fits : (chunk rest : List ℕ) (old now : ListingState) → IsAmid chunk rest old now → fed_by old.finder + length chunk ≤ 2 ^ 62 → fed_by now.finder + length rest ≤ 2 ^ 62
rest_fits chunk rest old now amid few = omega (arith, amid.fed, length-append amid.taken rest, ap length amid.split)

fed_fits : (chunk rest : List ℕ) (old now : ListingState) → IsAmid chunk rest old now → fed_by old.finder + length chunk ≤ 2 ^ 62 → fed_by now.finder ≤ 2 ^ 62
fed_fits chunk rest old now amid few = omega (arith, rest_fits chunk rest old now amid few)

-- with nothing ready, some byte of the rest is taken
shorter : (old new : PieceFinderState) (rest : List ℕ) (n : ℕ) → TakesFromPiece old rest n new → has_ready old ≡ false → (length rest == 0) ≡ false
    → length (take (length rest - n) (drop n rest)) < length rest
shorter old new rest n takes none more =
    let some : (n ≡ 0 → ⊥) = λ zero. elim (takes.takes.some zero) [ inl nil ↦ eqb-false _ _ more (ap length nil) | inr ready ↦ cc ] in
    omega (arith, length-take (length rest - n) (drop n rest), length-drop n rest, takes.takes.within, some, eqb-false _ _ more)

pub lines-init : goal.lines-init
lines-init g c = amid_first c.args.chunk.now _ c.requires.fine c.requires.open_yet c.requires.none_ready

pub returns-in_err-taken : goal.returns-in_err-taken
returns-in_err-taken g c =
    let laws : FoundLaws = record { begin = c.given_begin_the_found.ensures.stopped; one_list = c.one_found.ensures.one_list; some = c.settled_found_is_final.ensures.some; grow = c.settled_found_is_final.ensures.grow; all = c.settled_found_is_final.ensures.all } in
    let p = err_from_is_err_and c.from_residual.result c.from_residual.ensures.1 in
    let feeds = feeds_error c.lines.self.finder c.lines.rest.now c.feed.result c.in_err-taken.field-0.0 c.feed.new.self c.feed.ensures.feeds c.in_err-taken.was in
    rw (p.1, p.2) (amid_fed laws c.args.chunk.now c.lines.rest.now _ _ c.in_err-taken.field-0.0 c.feed.new.self c.lines.invariant feeds)

pub returns-in_err-list_ready : goal.returns-in_err-list_ready
returns-in_err-list_ready g c =
    let laws : FoundLaws = record { begin = c.given_begin_the_found.ensures.stopped; one_list = c.one_found.ensures.one_list; some = c.settled_found_is_final.ensures.some; grow = c.settled_found_is_final.ensures.grow; all = c.settled_found_is_final.ensures.all } in
    let p = err_from_is_err_and c.from_residual-in_err-list_ready.result c.from_residual-in_err-list_ready.ensures.1 in
    let takes = feeds_some c.lines.self.finder c.lines.rest.now c.feed.result c.in_ok-taken.taken c.feed.new.self c.feed.ensures.feeds c.in_ok-taken.was in
    rw (p.1, p.2) (amid_ready laws c.args.chunk.now c.lines.rest.now _ _ c.in_ok-taken.taken c.feed.new.self c.in_err-list_ready.field-0.0 _ c.lines.invariant takes c.in_err-list_ready.ensures.lists)

pub lines-preserved-then-branch : goal.lines-preserved-then-branch
lines-preserved-then-branch g c =
    let laws : FoundLaws = record { begin = c.given_begin_the_found.ensures.stopped; one_list = c.one_found.ensures.one_list; some = c.settled_found_is_final.ensures.some; grow = c.settled_found_is_final.ensures.grow; all = c.settled_found_is_final.ensures.all } in
    let takes = feeds_some c.lines.self.finder c.lines.rest.now c.feed.result c.in_ok-taken.taken c.feed.new.self c.feed.ensures.feeds c.in_ok-taken.was in
    amid_next laws c.args.chunk.now c.lines.rest.now _ _ c.in_ok-taken.taken c.feed.new.self _ c.lines.invariant takes c.in_ok-list_ready.ensures.lists

pub lines-preserved : goal.lines-preserved
lines-preserved g c =
    let laws : FoundLaws = record { begin = c.given_begin_the_found.ensures.stopped; one_list = c.one_found.ensures.one_list; some = c.settled_found_is_final.ensures.some; grow = c.settled_found_is_final.ensures.grow; all = c.settled_found_is_final.ensures.all } in
    let takes = feeds_some c.lines.self.finder c.lines.rest.now c.feed.result c.in_ok-taken.taken c.feed.new.self c.feed.ensures.feeds c.in_ok-taken.was in
    amid_next laws c.args.chunk.now c.lines.rest.now _ _ c.in_ok-taken.taken c.feed.new.self _ c.lines.invariant takes c.in_ok-list_ready.ensures.lists

pub returns-in_err-look_at_held : goal.returns-in_err-look_at_held
returns-in_err-look_at_held g c =
    let p = err_from_is_err_and c.from_residual-in_err-look_at_held.result c.from_residual-in_err-look_at_held.ensures.1 in
    let none : c.lines.rest.now ≡ [] = nil_from_length c.lines.rest.now (eqb-true _ _ (sym c.is_empty.ensures ∙ c.lines-test.false)) in
    rw (p.1, p.2) (amid_looked c.args.chunk.now c.lines.rest.now _ _ c.in_err-look_at_held.field-0.0 c.look_at_held.new.finder c.lines.invariant none c.in_err-look_at_held.ensures)

pub returns-in_err-flush_whole : goal.returns-in_err-flush_whole
returns-in_err-flush_whole g c =
    let p = err_from_is_err_and c.from_residual-in_err-flush_whole.result c.from_residual-in_err-flush_whole.ensures.1 in
    let none : c.lines.rest.now ≡ [] = nil_from_length c.lines.rest.now (eqb-true _ _ (sym c.is_empty.ensures ∙ c.lines-test.false)) in
    let whole = amid_whole c.args.chunk.now c.lines.rest.now _ _ c.look_at_held.new.finder c.lines.invariant none c.in_ok-look_at_held.ensures in
    rw (p.1, p.2, c.in_err-flush_whole.ensures.err) (stops_at_flush c.given_begin_the_found.ensures.stopped c.args.chunk.now _ _ _ _ whole c.flush_whole.ensures.kept c.in_err-flush_whole.ensures.stopped)

pub returns-in_ok-flush_whole : goal.returns-in_ok-flush_whole
returns-in_ok-flush_whole g c =
    let none : c.lines.rest.now ≡ [] = nil_from_length c.lines.rest.now (eqb-true _ _ (sym c.is_empty.ensures ∙ c.lines-test.false)) in
    let whole = amid_whole c.args.chunk.now c.lines.rest.now _ _ c.look_at_held.new.finder c.lines.invariant none c.in_ok-look_at_held.ensures in
    flushed c.args.chunk.now _ _ _ _ whole c.flush_whole.ensures.kept c.in_ok-flush_whole.ensures.fine

pub returns-else-listed : goal.returns-else-listed
returns-else-listed g c =
    let none : c.lines.rest.now ≡ [] = nil_from_length c.lines.rest.now (eqb-true _ _ (sym c.is_empty.ensures ∙ c.lines-test.false)) in
    amid_whole c.args.chunk.now c.lines.rest.now _ _ c.look_at_held.new.finder c.lines.invariant none c.in_ok-look_at_held.ensures

pub feed-requires : goal.feed-requires
feed-requires g c = record {
  fits = rest_fits c.args.chunk.now c.lines.rest.now _ _ c.lines.invariant c.requires.fits;
  open_yet = λ no_fault. c.lines.invariant.open_yet;
}

pub lines-smaller : goal.lines-smaller
lines-smaller g c =
    let takes = feeds_some c.lines.self.finder c.lines.rest.now c.feed.result c.in_ok-taken.taken c.feed.new.self c.feed.ensures.feeds c.in_ok-taken.was in
    shorter c.lines.self.finder c.feed.new.self c.lines.rest.now c.in_ok-taken.taken takes c.lines.invariant.none_ready (sym c.is_empty.ensures ∙ c.lines-test.true)

pub lines-smaller-then-branch : goal.lines-smaller-then-branch
lines-smaller-then-branch g c =
    let takes = feeds_some c.lines.self.finder c.lines.rest.now c.feed.result c.in_ok-taken.taken c.feed.new.self c.feed.ensures.feeds c.in_ok-taken.was in
    shorter c.lines.self.finder c.feed.new.self c.lines.rest.now c.in_ok-taken.taken takes c.lines.invariant.none_ready (sym c.is_empty.ensures ∙ c.lines-test.true)

pub list_ready-requires : goal.list_ready-requires
list_ready-requires g c = c.lines.invariant.fine

pub look_at_held-requires : goal.look_at_held-requires
look_at_held-requires g c = record {
  fits = fed_fits c.args.chunk.now c.lines.rest.now _ _ c.lines.invariant c.requires.fits;
  open_yet = c.lines.invariant.open_yet;
}

pub flush_whole-requires : goal.flush_whole-requires
flush_whole-requires g c = record { fine = c.lines.invariant.fine }
