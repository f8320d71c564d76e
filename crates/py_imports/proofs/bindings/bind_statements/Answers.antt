-- The statements passed bind what was put into the list.
use Rattle.std.proofs.Common.{◌+◌, get_or, arith, ap, true, sym, subst}
use Rattle.std.proofs.lemmas.Result.{err_from_is_err_and}
use Rattle.py_lines.specs.Lines.{line_in}
use Rattle.py_lines.specs.declared.token.TokKind.TheVariants as kind
use Rattle.py_imports.proofs.EndLemmas.{shallow_after}
use Rattle.py_imports.proofs.BindingLemmas.{BindsSoFar, binds_nothing, binds_all, passes_comment, passes_token, passes_start, refuses_start, same_so_far}
use Rattle.py_imports.proofs.bindings.bind_statements.Goals as goal
use Rattle.py_imports.proofs.bindings.bind_statements.Goals.{then-starts+in_ok-bind_statement, else-starts}

pub tokens-init : goal.tokens-init
tokens-init c = record { shallow = omega arith; so_far = subst (BindsSoFar (line_in c.args.unit.now) 0 0 true) (sym c.new-bindings.ensures.items) (binds_nothing (line_in c.args.unit.now)) }

pub returns-in_err-bind_statement-clause-err : goal.returns-in_err-bind_statement-clause-err
returns-in_err-bind_statement-clause-err c =
    let p = err_from_is_err_and c.from_residual.result c.from_residual.ensures.1 in
    let s = rw c.if-starts.true at c.tokens.invariant.so_far in
    rw (p.1, p.2) (refuses_start (line_in c.args.unit.now) c.tokens.place c.tokens.depth c.tokens.bindings.items (record { kind = kind.Name; start = 0; stop = 0; line = 0 }) c.in_err-bind_statement.field-0.0 s c.tokens-test.true (sym c.if-is_comment.ensures) c.in_err-bind_statement.ensures.err)

pub tokens-preserved : goal.tokens-preserved
tokens-preserved c = record {
  shallow = shallow_after c.tokens.depth c.tokens.place c.depth_past-depth.result (get_or c.args.unit.now.tokens.now c.tokens.place (record { kind = kind.Name; start = 0; stop = 0; line = 0 })).kind c.tokens.invariant.shallow c.depth_past-depth.ensures;
  so_far = elim c.if-starts.branch [
    | then-starts+in_ok-bind_statement w ↦
        let s = rw w.if-starts.true at c.tokens.invariant.so_far in
        same_so_far (line_in c.args.unit.now) (c.tokens.place + 1) _ _ _ _ _ _ (passes_start (line_in c.args.unit.now) c.tokens.place c.tokens.depth c.tokens.bindings.items _ (record { kind = kind.Name; start = 0; stop = 0; line = 0 }) s c.tokens-test.true (sym c.if-is_comment.ensures) w.in_ok-bind_statement.ensures.ok) c.depth_past-depth.ensures c.divides-starts.ensures (ap (λ v. v.items) w.bindings-is)
    | else-starts w ↦
        let s = rw w.if-starts.false at c.tokens.invariant.so_far in
        same_so_far (line_in c.args.unit.now) (c.tokens.place + 1) _ _ _ _ _ _ (passes_token (line_in c.args.unit.now) c.tokens.place c.tokens.depth c.tokens.bindings.items (record { kind = kind.Name; start = 0; stop = 0; line = 0 }) s c.tokens-test.true (sym c.if-is_comment.ensures)) c.depth_past-depth.ensures c.divides-starts.ensures (ap (λ v. v.items) w.bindings-is)
  ];
}

pub tokens-preserved-then-is_comment : goal.tokens-preserved-then-is_comment
tokens-preserved-then-is_comment c = record {
  shallow = omega arith;
  so_far = passes_comment (line_in c.args.unit.now) c.tokens.place c.tokens.depth c.tokens.starts c.tokens.bindings.items (record { kind = kind.Name; start = 0; stop = 0; line = 0 }) c.tokens.invariant.so_far c.tokens-test.true (sym c.if-is_comment.ensures);
}

pub returns-clause-ok : goal.returns-clause-ok
returns-clause-ok c = binds_all (line_in c.args.unit.now) c.tokens.place c.tokens.depth c.tokens.starts c.tokens.bindings.items c.tokens.invariant.so_far c.tokens-test.false
