-- The tokens passed have no `;` outside brackets.
use Rattle.std.proofs.Common.{◌+◌, sym, ◌∙◌, ap, drop, get_or, ◌++◌}
use Rattle.py_lines.specs.declared.token.TokKind.TheVariants as kind
use Rattle.py_imports.specs.Statement.{significant}
use Rattle.py_imports.specs.Private.Parsing.{up_to_semicolon}
use Rattle.py_imports.proofs.TokenLemmas.{window}
use Rattle.py_imports.proofs.EndLemmas.{passes_one, shallow_after}
use Rattle.py_imports.proofs.statement.statement_end.Goals as goal

pub tokens-preserved : goal.tokens-preserved
tokens-preserved c =
    let tokens = c.args.tokens.now in
    let passed = passes_one tokens _ c.args.start c.tokens.place c.tokens.depth (record { kind = kind.Name; start = 0; stop = 0; line = 0 }) c.tokens.invariant.passed c.tokens.auto.place c.tokens-test.true (sym c.if-ends_statement.ensures) in
    record {
      shallow = shallow_after c.tokens.depth c.tokens.place c.depth_past-depth.result (get_or tokens c.tokens.place (record { kind = kind.Name; start = 0; stop = 0; line = 0 })).kind c.tokens.invariant.shallow c.depth_past-depth.ensures;
      passed = passed ∙ ap (λ d. significant (window tokens c.args.start (c.tokens.place + 1)) ++ up_to_semicolon d (significant (drop (c.tokens.place + 1) tokens))) (sym c.depth_past-depth.ensures);
    }
