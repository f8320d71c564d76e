-- Each chunk that was read was listed, up to `max` bytes.
use Rattle.std.proofs.Common.{refl, arith}
use Rattle.std.proofs.KnownBytes.{Consumes-nil}
use Rattle.std.proofs.lemmas.Result.{err_from_is_err_and}
use Rattle.isort_cmd.proofs.ReadLemmas.{ends_reading, fed_within, read_stops, takes_nothing, takes_no_more, read_well, chunk_stops, more_came, takes_more}
use Rattle.isort_cmd.proofs.listing.Listing.list_chunks.Goals as goal

pub chunks-init : goal.chunks-init
chunks-init g c = record {
  reader_fine = c.requires.reader_fine;
  room = c.told-buffer;
  takes = takes_nothing _ c.args.max _ c.requires.writer_fine (Consumes-nil _) c.requires.fresh;
}

pub returns-in_err-count : goal.returns-in_err-count
returns-in_err-count g c =
    let p = err_from_is_err_and c.from_residual.result c.from_residual.ensures.1 in
    rw (p.1, p.2) (record {
      lists = read_stops _ _ c.args.max _ _ _ c.in_err-count.field-0.0 _ c.chunks.invariant.takes c.in_err-count.ensures.bytes c.in_err-count.ensures.err;
      reader = ends_reading c.in_err-count.field-0.0 _ c.in_err-count.ensures.err;
    })

pub returns-then-count-eq0 : goal.returns-then-count-eq0
returns-then-count-eq0 g c = record {
  lists = (
    takes_no_more _ _ c.args.max c.in_ok-count.count c.read_chunk.new.chunk _ _ _ c.chunks.invariant.takes c.if-count-eq0.true c.in_ok-count.ensures.bytes.0,
    c.in_ok-count.ensures.bytes.1 c.if-count-eq0.true (omega (arith, c.chunks.invariant.room, c.read_chunk.auto.chunk)),
  );
  reader = c.in_ok-count.ensures.fine;
}

pub returns-in_err-list_chunk : goal.returns-in_err-list_chunk
returns-in_err-list_chunk g c =
    let p = err_from_is_err_and c.from_residual-in_err-list_chunk.result c.from_residual-in_err-list_chunk.ensures.1 in
    rw (p.1, p.2) (record {
      lists = chunk_stops _ _ _ c.args.max c.in_ok-count.count c.fed.result c.min-fitting.result c.read_chunk.new.chunk _ _ _ c.in_err-list_chunk.field-0.0 c.chunks.invariant.takes c.in_ok-count.ensures.bound.0 c.in_ok-count.ensures.bytes.0 c.fed.ensures c.min-fitting.ensures c.in_err-list_chunk.ensures;
      reader = read_well c.in_err-list_chunk.field-0.0 _ _ c.in_err-list_chunk.ensures.error c.in_ok-count.ensures.fine;
    })

pub returns-then-fitting-count : goal.returns-then-fitting-count
returns-then-fitting-count g c = record {
  lists = more_came _ _ _ c.args.max c.in_ok-count.count c.fed.result c.min-fitting.result c.read_chunk.new.chunk _ _ _ c.chunks.invariant.takes c.in_ok-count.ensures.bound.0 c.in_ok-count.ensures.bytes.0 c.fed.ensures c.min-fitting.ensures c.if-fitting-count.true c.in_ok-list_chunk.ensures;
  reader = c.in_ok-count.ensures.fine;
}

pub chunks-preserved : goal.chunks-preserved
chunks-preserved g c = record {
  reader_fine = c.in_ok-count.ensures.fine;
  room = omega (arith, c.chunks.invariant.room, c.read_chunk.auto.chunk);
  takes = takes_more _ _ _ c.args.max c.in_ok-count.count c.fed.result c.min-fitting.result c.read_chunk.new.chunk _ _ _ c.chunks.invariant.takes c.in_ok-count.ensures.bound.0 c.in_ok-count.ensures.bytes.0 c.fed.ensures c.min-fitting.ensures c.if-fitting-count.false c.in_ok-list_chunk.ensures;
}

pub list_chunk-requires : goal.list_chunk-requires
list_chunk-requires g c =
    let takes = c.chunks.invariant.takes in
    let within = fed_within _ _ c.args.max c.in_ok-count.count c.fed.result c.min-fitting.result c.read_chunk.new.chunk _ _ takes c.fed.ensures c.min-fitting.ensures in
    record {
      fine = takes.goes_on.fine;
      fits = omega (arith, within, c.requires.small);
      open_yet = takes.lists.listed.open_yet;
      none_ready = takes.lists.listed.none_ready;
    }
