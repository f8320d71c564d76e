-- A logical line is read, and then bindings are passed over whose keys were given.
use Rattle.std.proofs.Common.{◌≡◌, Result, Ok, Err, map, refl, sym, subst, ◌∙◌}
use Rattle.py_lines.specs.LogicalLine.{LogicalLine}
use Rattle.py_lines.specs.declared.fault.Fault.{Fault}
use Rattle.py_imports.specs.BindingValue.{binding_value}
use Rattle.isort_find.specs.Private.Walks.{WalkerState, FollowsStep, LooksAhead, ReadsOrLosesLine, StandsAtNew, TriesLine}
use Rattle.isort_find.specs.Private.LineSteps.{Judges, binding, ending, failing, lost}
use Rattle.isort_find.specs.declared.error.FindError.{FindError}
use Rattle.isort_find.specs.declared.error.FindError.TheVariants as error
use Rattle.isort_find.specs.declared.pending.LineStart.{LineStart}
use Rattle.isort_find.specs.declared.step.Step.{Step}
use Rattle.isort_find.specs.declared.step.Step.TheVariants as step

not_fault : (fault : Fault) (r : Result (Unit {0}) FindError) → r ≡ Ok tt → r ≡ Err (error.Fault fault) → ⊥
not_fault fault r h k = cc

memory_or_fault : (fault : Fault) (r : Result (Unit {0}) FindError) → r ≡ Err error.Memory → r ≡ Err (error.Fault fault) → ⊥
memory_or_fault fault r h k = cc

step_bad : (old mid : WalkerState) (line : LogicalLine) (start : LineStart) (s : Step) (read : Result (Unit {0}) FindError) (fault : Fault) → Judges old.cursor.options line s → FollowsStep old start s read mid → read ≡ Err (error.Fault fault) → TriesLine old line start (Err (error.Fault fault)) mid
step_bad old mid line start (step.Bindings bindings) read fault judged follows is = absurd (not_fault fault read follows.0 is)
step_bad old mid line start step.Plain read fault judged follows is = absurd judged
step_bad old mid line start step.End read fault judged follows is = absurd (not_fault fault read follows.0 is)
step_bad old mid line start (step.Fault other) read fault judged follows is = record { learns = record { trial = failing other; turns = judged; follows = (sym is ∙ follows.0, follows.1) }; next_new = subst StandsAtNew (sym follows.1) tt }
step_bad old mid line start step.LineLost read fault judged follows is = absurd (memory_or_fault fault read follows.0 is)
step_bad old mid line start step.NoMemory read fault judged follows is = absurd judged

-- reading met a fault
pub tries_bad : (old mid : WalkerState) (line : LogicalLine) (start : LineStart) (read : Result (Unit {0}) FindError) (fault : Fault) → ReadsOrLosesLine old line start read mid → read ≡ Err (error.Fault fault) → TriesLine old line start (Err (error.Fault fault)) mid
tries_bad old mid line start read fault r is = step_bad old mid line start r.step read fault r.judges r.follows is

step_fine : (old mid new : WalkerState) (line : LogicalLine) (start : LineStart) (s : Step) (read : Result (Unit {0}) FindError) → Judges old.cursor.options line s → FollowsStep old start s read mid → ((fault : Fault) → read ≡ Err (error.Fault fault) → ⊥) → LooksAhead mid new → TriesLine old line start (Ok tt) new
step_fine old mid new line start (step.Bindings bindings) read judged follows fine looks =
    let ahead = subst (λ (w : WalkerState). LooksAhead w new) follows.1 looks in
    record {
      learns = record { trial = binding (map binding_value bindings.items); turns = judged; follows = (refl, record { rest = ahead.rest; passes = ahead.passes; same = ahead.same }) };
      next_new = subst StandsAtNew (sym ahead.same) ahead.next_new;
    }
step_fine old mid new line start step.Plain read judged follows fine looks = absurd judged
step_fine old mid new line start step.End read judged follows fine looks =
    let same = subst (λ (w : WalkerState). LooksAhead w new) follows.1 looks in
    record { learns = record { trial = ending; turns = judged; follows = (refl, same) }; next_new = subst StandsAtNew (sym same) tt }
step_fine old mid new line start (step.Fault fault) read judged follows fine looks = absurd (fine fault follows.0)
step_fine old mid new line start step.LineLost read judged follows fine looks =
    let same = subst (λ (w : WalkerState). LooksAhead w new) follows.1 looks in
    record { learns = record { trial = lost; turns = tt; follows = (refl, same) }; next_new = subst StandsAtNew (sym same) tt }
step_fine old mid new line start step.NoMemory read judged follows fine looks = absurd judged

-- the line was read, or memory ran out
pub tries_fine : (old mid new : WalkerState) (line : LogicalLine) (start : LineStart) (read : Result (Unit {0}) FindError) → ReadsOrLosesLine old line start read mid → ((fault : Fault) → read ≡ Err (error.Fault fault) → ⊥) → LooksAhead mid new → TriesLine old line start (Ok tt) new
tries_fine old mid new line start read r fine looks = step_fine old mid new line start r.step read r.judges r.follows fine looks
