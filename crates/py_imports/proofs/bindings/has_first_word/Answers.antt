-- No token passed is spelled `import` or `from`.
use Rattle.std.proofs.Common.{true, false, refl, sym, ap, ◌∙◌}
use Rattle.std.proofs.lemmas.List.{drop_all}
use Rattle.std.specs.List.{list_any}
use Rattle.py_lines.specs.Lines.{line_in}
use Rattle.py_imports.specs.Private.Bindings.{is_first_word}
use Rattle.py_imports.proofs.FirstWordLemmas.{binds_no_word}
use Rattle.py_imports.proofs.ShapeLemmas.{any_here}
use Rattle.py_imports.proofs.bindings.has_first_word.Goals as goal

pub returns-then-not-may_have_first_word-clause-none : goal.returns-then-not-may_have_first_word-clause-none
returns-then-not-may_have_first_word-clause-none c = λ no_word. binds_no_word (line_in c.args.unit.now) (c.if-not-may_have_first_word.ensures refl)

pub returns-then-is_first_word-clause-word : goal.returns-then-is_first_word-clause-word
returns-then-is_first_word-clause-word c = sym (any_here (is_first_word c.args.unit.now.text.now) c.args.unit.now.tokens.now c.tokens.place true c.tokens-test.true c.tokens.invariant c.if-is_first_word.ensures)

pub tokens-preserved : goal.tokens-preserved
tokens-preserved c = any_here (is_first_word c.args.unit.now.text.now) c.args.unit.now.tokens.now c.tokens.place false c.tokens-test.true c.tokens.invariant c.if-is_first_word.ensures

pub returns-clause-none : goal.returns-clause-none
returns-clause-none c =
    let tokens = c.args.unit.now.tokens.now in
    let is_word = is_first_word c.args.unit.now.text.now in
    λ no_word. binds_no_word (line_in c.args.unit.now) (c.tokens.invariant ∙ ap (list_any is_word) (drop_all c.tokens.place tokens c.tokens-test.false))
