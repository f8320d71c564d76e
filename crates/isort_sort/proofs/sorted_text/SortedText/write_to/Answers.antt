use Rattle.std.proofs.Common.{subst, sym}
use Rattle.std.specs.Io.KnownBytes.{Appends}
use Rattle.std.proofs.KnownBytes.{Appends-trans}
use Rattle.isort_sort.proofs.SortedTexts.OfParts.{appends_prefix, bytes_all, bytes_more, bytes_split, on_err}
use Rattle.isort_sort.proofs.sorted_text.SortedText.write_to.Goals as goal

pub returns-in_err-write_whole-clause-stopped : goal.returns-in_err-write_whole-clause-stopped
returns-in_err-write_whole-clause-stopped g c = on_err c.from_residual.result _ c.in_err-write_whole.ensures.stopped

pub returns-in_err-write_whole-clause-prefix : goal.returns-in_err-write_whole-clause-prefix
returns-in_err-write_whole-clause-prefix g c =
    on_err c.from_residual.result _
    (appends_prefix _ _ _ _ _ _ _ c.pieces.invariant.written c.in_err-write_whole.ensures.prefix
    (bytes_split c.deref-piece-items.result.now c.args.self.now.pieces.items c.pieces.piece-index c.piece-item.result _ c.deref-piece-items.ensures.value c.pieces-test.true c.piece-item.is c.as_bytes.ensures))

pub pieces-preserved : goal.pieces-preserved
pieces-preserved g c = record {
  fine = c.in_ok-write_whole.ensures.fine;
  written = subst (Appends _ _)
      (sym (bytes_more c.deref-piece-items.result.now c.pieces.piece-index c.piece-item.result _ c.pieces-test.true c.piece-item.is c.as_bytes.ensures))
      (Appends-trans _ _ _ _ _ c.pieces.invariant.written c.in_ok-write_whole.ensures.ok);
}

pub returns-clause-ok : goal.returns-clause-ok
returns-clause-ok g c =
    subst (Appends _ _) (bytes_all c.deref-piece-items.result.now c.args.self.now.pieces.items c.pieces.piece-index c.deref-piece-items.ensures.value c.pieces-test.false) c.pieces.invariant.written
