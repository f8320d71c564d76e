-- What the bytes read settle was listed at an error, and all that is found at the end.
use Rattle.std.proofs.Common.{refl}
use Rattle.std.proofs.lemmas.Result.{err_from_is_err_and}
use Rattle.isort_cmd.proofs.IdentifyLemmas.{identified_stopped, identified_ended}
use Rattle.isort_cmd.proofs.listing.Listing.list.Goals as goal

pub returns-in_err-list_chunks : goal.returns-in_err-list_chunks
returns-in_err-list_chunks g c =
    let p = err_from_is_err_and c.from_residual.result c.from_residual.ensures.1 in
    let laws = c.settled_found_is_final.ensures in
    rw (p.1, p.2) (identified_stopped laws.some laws.bad laws.bindings _ _ _ c.args.max _ _ c.in_err-list_chunks.field-0.0 _ refl c.in_err-list_chunks.ensures.lists c.in_err-list_chunks.ensures.reader)

pub returns : goal.returns
returns g c =
    let listed = c.in_ok-list_chunks.ensures in
    identified_ended _ _ _ _ c.args.max _ _ c.list_end.result _ refl listed.lists.0 listed.lists.1 listed.reader c.list_end.ensures
