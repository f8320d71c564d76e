-- A word that begins a form is the first word of an import statement.
use Rattle.std.proofs.Common.{◌≡◌, ◌∷◌, [], get_or, slice_range, ap, ◌∙◌}
use Rattle.py_lines.specs.declared.token.Token.{Token}
use Rattle.py_lines.specs.declared.token.TokKind.TheVariants as kind
use Rattle.py_imports.specs.Grammar.{terminal_of, begins_import}
use Rattle.py_imports.proofs.FirstWordLemmas.{found_word}
use Rattle.py_imports.proofs.StatementLemmas.{token_at_place}
use Rattle.py_imports.proofs.bindings.is_first_word.Goals as goal

pub returns : goal.returns
returns c = λ t h.
    let none : Token = record { kind = kind.Name; start = 0; stop = 0; line = 0 } in
    let text = c.args.unit.now.text.now in
    let here = get_or c.args.unit.now.tokens.now c.args.place none in
    let e : here ≡ t = token_at_place c.args.unit.now.tokens.now c.args.place none t c.requires h in
    let w : c.word.result.now ≡ slice_range text t.start t.stop = c.word.ensures t h in
    found_word here.kind c.word.result.now c.form_of.result c.is_some.result c.is_some.ensures c.form_of.ensures.form ∙ ap (λ v. begins_import (terminal_of here.kind v ∷ [])) w ∙ ap (λ (x : Token). begins_import (terminal_of x.kind (slice_range text t.start t.stop) ∷ [])) e
