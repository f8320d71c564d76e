-- A comment says what its text says, and any other token says nothing.
use Rattle.std.proofs.Common.{◌≡◌, true, false, ◌&&◌, slice_range, ap, sym, ◌∙◌}
use Rattle.py_lines.specs.declared.token.Token.{Token}
use Rattle.py_lines.specs.declared.token.TokKind.TheVariants as kind
use Rattle.py_imports.specs.ActionComment.{says}
use Rattle.py_imports.specs.Statement.{is_comment}
use Rattle.py_imports.specs.declared.action_comment.ActionComment.TheVariants as action
use Rattle.py_imports.proofs.StatementLemmas.{token_at_place}
use Rattle.py_imports.proofs.sortable.is_skip.Goals as goal

pub returns-then-is_comment : goal.returns-then-is_comment
returns-then-is_comment c = λ t h.
    let none : Token = record { kind = kind.Name; start = 0; stop = 0; line = 0 } in
    let here = token_at_place c.args.unit.now.tokens.now c.args.place none t c.requires h in
    let comment : is_comment t.kind ≡ true = ap (λ (x : Token). is_comment x.kind) (sym here) ∙ sym c.is_comment.ensures ∙ c.if-is_comment.true in
    c.says.ensures ∙ ap (says action.Skip) (c.word.ensures t h) ∙ sym (ap (λ b. b && says action.Skip (slice_range c.args.unit.now.text.now t.start t.stop)) comment)

pub returns-else-is_comment : goal.returns-else-is_comment
returns-else-is_comment c = λ t h.
    let none : Token = record { kind = kind.Name; start = 0; stop = 0; line = 0 } in
    let here = token_at_place c.args.unit.now.tokens.now c.args.place none t c.requires h in
    let other : is_comment t.kind ≡ false = ap (λ (x : Token). is_comment x.kind) (sym here) ∙ sym c.is_comment.ensures ∙ c.if-is_comment.false in
    c.if-is_comment.false ∙ sym (ap (λ b. b && says action.Skip (slice_range c.args.unit.now.text.now t.start t.stop)) other)
