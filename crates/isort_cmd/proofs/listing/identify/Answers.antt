-- Nothing was listed, or what the listing of the whole text tells.
use Rattle.std.proofs.Common.{ap, subst}
use Rattle.std.proofs.lemmas.Result.{err_from_is_err_and}
use Rattle.isort_sort.specs.Metered.{inner_of, last_of}
use Rattle.isort_cmd.specs.Private.Stages.{Identified}
use Rattle.isort_cmd.proofs.IdentifyLemmas.{nothing_fed, identified_nothing}
use Rattle.isort_cmd.proofs.listing.identify.Goals as goal

pub returns-in_err-new : goal.returns-in_err-new
returns-in_err-new g c =
    let p = err_from_is_err_and c.from_residual.result c.from_residual.ensures.1 in
    rw (p.1, p.2, c.in_err-new.ensures.err) (identified_nothing c.one_found.ensures.some c.args.path.now c.args.options c.args.max _ _ _ _ c.requires.reader_fine c.requires.writer_fine)

pub list-requires : goal.list-requires
list-requires g c =
    let new = c.in_ok-new.ensures in
    record {
      reader_fine = c.requires.reader_fine;
      writer_fine = c.requires.writer_fine;
      small = c.requires.small;
      fresh = nothing_fed c.args.path.now c.in_ok-new.field-0 _ new.fed new.none_ready new.open_yet new.is_open new.found new.settled new.undecided;
    }

pub returns : goal.returns
returns g c =
    let same = ap (λ x. x.options) c.in_ok-new.ensures.cursor in
    let remaining = g.R.Read.remaining in
    let contents = g.W.Write.contents in
    subst
    (λ o. Identified c.args.path.now o c.args.max c.list.result (remaining (inner_of c.args.reader.now)) (remaining (inner_of c.list.new.reader))
    (contents (inner_of c.args.writer.now)) (contents (inner_of c.list.new.writer)) (last_of c.list.new.reader) (last_of c.list.new.writer))
    same c.list.ensures
