-- A token that may not be such a word is none.
use Rattle.std.proofs.Common.{false, sym, ap, ◌∙◌}
use Rattle.std.proofs.lemmas.List.{drop_all}
use Rattle.std.specs.List.{list_any}
use Rattle.py_imports.specs.Private.Bindings.{is_first_word}
use Rattle.py_imports.proofs.FirstWordLemmas.{first_fails, second_fails}
use Rattle.py_imports.proofs.ShapeLemmas.{any_here}
use Rattle.py_imports.proofs.bindings.may_have_first_word.Goals as goal

pub tokens-preserved : goal.tokens-preserved
tokens-preserved c = λ none.
    let is_word = is_first_word c.args.unit.now.text.now in
    any_here is_word c.args.unit.now.tokens.now c.tokens.place false c.tokens-test.true (c.tokens.invariant (first_fails _ _ none))
    (λ t here. sym (c.may_be_first_word_at-may.ensures (second_fails _ _ none) t here))

pub returns : goal.returns
returns c = λ none.
    let is_word = is_first_word c.args.unit.now.text.now in
    c.tokens.invariant none ∙ ap (list_any is_word) (drop_all c.tokens.place c.args.unit.now.tokens.now c.tokens-test.false)
