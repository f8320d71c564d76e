-- What was read is a prefix of the text, and all of it at the end.
use Rattle.std.proofs.Common.{◌∙◌, arith, length-take, take}
use Rattle.std.proofs.KnownBytes.{Consumes-trans}
use Rattle.std.proofs.lemmas.Result.{err_from_is_err_and}
use Rattle.isort_cmd.proofs.InputLemmas.{error_of_read, read_whole}
use Rattle.isort_cmd.proofs.ReadLemmas.{ends_reading}
use Rattle.isort_cmd.proofs.read.read_text.Goals as goal

pub returns-in_err-count : goal.returns-in_err-count
returns-in_err-count g c =
    let p = err_from_is_err_and c.from_residual.result c.from_residual.ensures.1 in
    let failed = c.in_err-count.ensures.err in
    let says = error_of_read c.args.max c.in_err-count.field-0.0 _ _ failed in
    rw (p.1, p.2) (record { ok = tt; errors = says.0; length = says.1; reader = ends_reading c.in_err-count.field-0.0 _ failed })

pub returns-then-count-eq0 : goal.returns-then-count-eq0
returns-then-count-eq0 g c =
    let read = c.in_ok-count.ensures in
    let so_far = c.chunks.invariant in
    let ended = read.bytes.1 c.if-count-eq0.true (omega (arith, so_far.room, c.read_chunk.auto.chunk)) in
    record {
      ok = read_whole c.args.max c.in_ok-count.count c.chunks.text.items c.read_chunk.new.chunk _ _ _ so_far.taken c.if-count-eq0.true read.bytes.0 ended (omega (arith, so_far.within, c.chunks.text.ok.0));
      errors = tt;
      length = tt;
      reader = read.fine;
    }

pub chunks-preserved : goal.chunks-preserved
chunks-preserved g c =
    let so_far = c.chunks.invariant in
    let read = c.in_ok-count.ensures in
    record {
      fine = read.fine;
      within = rw c.len.ensures at c.if-len-max.false;
      room = c.read_chunk.auto.chunk ∙ so_far.room;
      taken = rw c.in_ok-extend_from_slice.ensures.items (Consumes-trans _ _ _ c.chunks.text.items (take c.in_ok-count.count c.read_chunk.new.chunk) so_far.taken read.bytes.0);
    }

pub chunks-smaller : goal.chunks-smaller
chunks-smaller g c =
    let bytes = length-take c.in_ok-count.count c.read_chunk.new.chunk in
    omega (arith, bytes, c.in_ok-extend_from_slice.ensures.len, c.in_ok-count.ensures.bound, c.if-count-eq0.false, c.chunks.invariant.within)
