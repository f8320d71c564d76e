-- The walker goes on where the cursor stands.
use Rattle.std.proofs.Common.{ℕ, sym, subst}
use Rattle.py_lines.specs.Reader.{GoesOnAt}
use Rattle.isort_find.specs.Finder.{HasFound, finder_state}
use Rattle.isort_find.specs.Private.Walks.{WalkerState}
use Rattle.isort_find.proofs.Wholes.ReadLine.{resumes_at}
use Rattle.isort_find.proofs.finder.Finder.resume.Goals as goal

pub returns-in-Ok-clause-found : goal.returns-in-Ok-clause-found
returns-in-Ok-clause-found c = λ values h.
    let start = c.start_of_line-start in
    let goes_on = subst (λ (n : ℕ). GoesOnAt c.args.text.now n c.args.cursor.line c.in-Ok.lines) start.ensures.offset (subst (λ (n : ℕ). GoesOnAt c.args.text.now start.result.offset n c.in-Ok.lines) start.ensures.line c.in-Ok.ensures.goes_on) in
    subst (λ (w : WalkerState). HasFound (finder_state c.in-Ok.lines w.position w.cursor) values) (sym c.at-walker.ensures) (resumes_at c.args.text.now c.args.cursor c.in-Ok.lines values goes_on h)
