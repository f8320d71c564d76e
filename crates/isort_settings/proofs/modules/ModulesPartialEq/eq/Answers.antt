-- The lists are compared module by module.
use Rattle.std.proofs.Common.{◌+◌, ◌&&◌, not, sym, ◌∙◌, ap, drop, bytes_eq, arith}
use Rattle.std.specs.Cmp.Lexicographic.{pointwise}
use Rattle.isort_settings.specs.Modules.{modules_of}
use Rattle.isort_settings.proofs.ModuleLists.{same_after, same_at_end}
use Rattle.isort_settings.proofs.modules.ModulesPartialEq.eq.Goals as goal

pub loop-index-preserved : goal.loop-index-preserved
loop-index-preserved c =
    let xs = modules_of c.args.self.now in
    let ys = modules_of c.args.other.now in
    let i = c.loop-index.index in
    c.loop-index.invariant
    ∙ same_after xs ys i _ _ _ (omega arith) (omega arith) c.get.ensures c.get-in-loop-index.ensures c.ne.ensures
    ∙ ap (λ b. not b && pointwise bytes_eq (drop (i + 1) xs) (drop (i + 1) ys)) c.if-ne.false

pub returns-then-ne : goal.returns-then-ne
returns-then-ne c =
    let xs = modules_of c.args.self.now in
    let ys = modules_of c.args.other.now in
    let i = c.loop-index.index in
    sym (c.loop-index.invariant
    ∙ same_after xs ys i _ _ _ (omega arith) (omega arith) c.get.ensures c.get-in-loop-index.ensures c.ne.ensures
    ∙ ap (λ b. not b && pointwise bytes_eq (drop (i + 1) xs) (drop (i + 1) ys)) c.if-ne.true)

pub returns : goal.returns
returns c =
    sym (c.loop-index.invariant ∙ same_at_end (modules_of c.args.self.now) (modules_of c.args.other.now) c.loop-index.index (omega arith) (omega arith))
