-- The length and the first byte rule out other words only.
use Rattle.std.proofs.Common.{◌≡◌, ◌∷◌, [], get_or, length, slice_range, ap, sym, ◌∙◌, arith}
use Rattle.std.proofs.lemmas.Option.{slice_get-get_or}
use Rattle.py_lines.specs.declared.token.Token.{Token}
use Rattle.py_lines.specs.declared.token.TokKind.TheVariants as kind
use Rattle.py_imports.specs.Grammar.{terminal_of, begins_import}
use Rattle.py_imports.proofs.FirstWordLemmas.{other_word}
use Rattle.py_imports.proofs.StatementLemmas.{token_at_place}
use Rattle.py_imports.proofs.bindings.may_be_first_word_at.Goals as goal

pub returns : goal.returns
returns c = λ told t h.
    let none : Token = record { kind = kind.Name; start = 0; stop = 0; line = 0 } in
    let bytes = c.as_bytes.result.now in
    let here = get_or c.args.unit.now.tokens.now c.args.place none in
    let e : here ≡ t = token_at_place c.args.unit.now.tokens.now c.args.place none t c.requires h in
    let other = other_word t.kind (slice_range bytes here.start here.stop) (c.may_be_first_word.ensures.import told) (c.may_be_first_word.ensures.from told) in
    ap (λ b. begins_import (terminal_of t.kind (slice_range b t.start t.stop) ∷ [])) (sym c.as_bytes.ensures.value)
    ∙ ap (λ (x : Token). begins_import (terminal_of t.kind (slice_range bytes x.start x.stop) ∷ [])) (sym e)
    ∙ other

-- the token lies in the line
pub slice_bounds-may_be_first_word-count : goal.slice_bounds-may_be_first_word-count
slice_bounds-may_be_first_word-count c = (c.args.unit.now.tokens_lie_in c.args.place _ (slice_get-get_or c.args.unit.now.tokens.now c.args.place _ c.requires)).ordered

pub slice_bounds-may_be_first_word-start : goal.slice_bounds-may_be_first_word-start
slice_bounds-may_be_first_word-start c = (c.args.unit.now.tokens_lie_in c.args.place _ (slice_get-get_or c.args.unit.now.tokens.now c.args.place _ c.requires)).ordered

pub slice_bounds-may_be_first_word-end : goal.slice_bounds-may_be_first_word-end
slice_bounds-may_be_first_word-end c =
    let lies = c.args.unit.now.tokens_lie_in c.args.place _ (slice_get-get_or c.args.unit.now.tokens.now c.args.place (record { kind = kind.Name; start = 0; stop = 0; line = 0 }) c.requires) in
    omega (arith, lies.within, ap length c.as_bytes.ensures.value)
