-- The statement binds its items, or nothing if it is no import statement.
use Rattle.std.proofs.Common.{◌≡◌, ◌+◌, ◌-◌, ◌∷◌, get_or, map, take, drop, slice_range, ap, sym, ◌∙◌, refl}
use Rattle.std.proofs.lemmas.Result.{IfErr-weaker, on_ok_weaker}
use Rattle.py_lines.specs.Lines.{line_in}
use Rattle.py_lines.specs.declared.token.Token.{Token}
use Rattle.py_lines.specs.declared.token.TokKind.TheVariants as kind
use Rattle.py_imports.specs.Binds.{terminal_in}
use Rattle.py_imports.specs.Grammar.{terminal_of, begins_import}
use Rattle.py_imports.specs.Private.Bindings.{BindsOne}
use Rattle.py_imports.specs.Private.Items.{AreLeft}
use Rattle.py_imports.specs.Statement.{significant}
use Rattle.py_imports.proofs.StatementLemmas.{binds_none, begun_word, binds_import, refuses_import, token_at_place}
use Rattle.py_imports.proofs.bindings.bind_statement.Goals as goal

pub returns-in_default-clause-ok : goal.returns-in_default-clause-ok
returns-in_default-clause-ok c = λ p h.
    let none : Token = record { kind = kind.Name; start = 0; stop = 0; line = 0 } in
    let unit = c.args.unit.now in
    let text = unit.text.now in
    let t = get_or unit.tokens.now c.args.place none in
    let e : t ≡ p.token = token_at_place unit.tokens.now c.args.place none p.token c.requires h.0 in
    let w : c.word.result.now ≡ slice_range text p.token.start p.token.stop = c.word.ensures p.token h.0 in
    binds_none (line_in unit) p _ (λ ts. ap (λ (x : Token). begins_import (terminal_of x.kind (slice_range text p.token.start p.token.stop) ∷ ts)) (sym e) ∙ ap (λ v. begins_import (terminal_of t.kind v ∷ ts)) (sym w) ∙ c.in_default.ensures.form ts)

pub returns-clause-ok : goal.returns-clause-ok
returns-clause-ok c =
    let none : Token = record { kind = kind.Name; start = 0; stop = 0; line = 0 } in
    let unit = c.args.unit.now in
    let rest = map (terminal_in unit.text.now) (significant (take (c.statement_end-end.result - (c.args.place + 1)) (drop (c.args.place + 1) unit.tokens.now))) in
    on_ok_weaker c.bind_items.result (λ (r : BindsOne (AreLeft c.new-items.result) _ c.args.bindings.now.items c.bind_items.new.bindings.items) p h.
    let at = begun_word (line_in unit) c.args.place c.statement_end-end.result p c.in-Some.form c.word.result.now none c.requires h (c.word.ensures p.token h.0) c.in-Some.ensures.form c.in-Some.ensures.name c.statement_end-end.ensures.tokens in
    binds_import (line_in unit) p c.in-Some.form rest _ _ _ at (ap (λ (x : Token). x.line) (token_at_place unit.tokens.now c.args.place none p.token c.requires h.0)) refl (record { imported = r.imported; are = c.new-items.ensures.from r.imported r.are; adds = r.adds })) c.bind_items.ensures.ok

pub returns-clause-err : goal.returns-clause-err
returns-clause-err c =
    let none : Token = record { kind = kind.Name; start = 0; stop = 0; line = 0 } in
    let unit = c.args.unit.now in
    let rest = map (terminal_in unit.text.now) (significant (take (c.statement_end-end.result - (c.args.place + 1)) (drop (c.args.place + 1) unit.tokens.now))) in
    IfErr-weaker c.bind_items.result _ _ (λ e r p h.
    let at = begun_word (line_in unit) c.args.place c.statement_end-end.result p c.in-Some.form c.word.result.now none c.requires h (c.word.ensures p.token h.0) c.in-Some.ensures.form c.in-Some.ensures.name c.statement_end-end.ensures.tokens in
    refuses_import (line_in unit) p c.in-Some.form rest (AreLeft c.new-items.result) _ e at c.new-items.ensures (c.fault_at.ensures p.token h.0) r) c.bind_items.ensures.err
