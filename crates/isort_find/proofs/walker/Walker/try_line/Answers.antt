-- A line without an import word binds nothing.
use Rattle.std.proofs.Common.{[], refl, sym, ap, ◌∙◌, subst, ◌≡◌, false, arith}
use Rattle.std.proofs.Math.Seq.{drop-nil}
use Rattle.py_lines.specs.UnitLine.{line_in}
use Rattle.isort_find.specs.Found.{ends_top}
use Rattle.isort_find.specs.Pending.{PendingState, pending_state}
use Rattle.isort_find.specs.Position.{skip_in}
use Rattle.isort_find.specs.Private.LineSteps.{binding}
use Rattle.isort_find.specs.Private.Walks.{WalkerState, StandsAtNew, walker_state, with_position}
use Rattle.isort_find.specs.declared.options.FindOptions.{FindOptions}
use Rattle.isort_find.specs.declared.walker.Position.TheVariants as position
use Rattle.isort_find.proofs.walker.Walker.try_line.Goals as goal

pub returns-then-is_plain : goal.returns-then-is_plain
returns-then-is_plain c =
    let rest = pending_state c.args.start 0 [] in
    let same = ap (λ (p : PendingState). walker_state (position.Within p) c.self.inside.cursor) c.none.ensures ∙ ap (λ (w : WalkerState). with_position w (position.Within rest)) c.self.view_is in
    record {
      learns = record {
        trial = binding [];
        turns = (c.if-is_plain.ensures.none refl, subst (λ (o : FindOptions). ends_top o (line_in c.args.unit.now) ≡ false) c.options.ensures (c.if-is_plain.ensures.counts refl));
        follows = (
          refl,
          record {
            rest = rest;
            passes = record { dropped = []; split = drop-nil (skip_in c.args.self.now.position); known = refl; start = refl; taken = omega arith };
            same = same;
          },
        );
      };
      next_new = subst StandsAtNew (sym same) tt;
    }
