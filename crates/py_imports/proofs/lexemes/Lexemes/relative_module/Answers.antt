-- What is read is a relative module with `import` after it.
use Rattle.std.proofs.Common.{◌≡◌, ◌&&◌, ◌++◌, Some, sym, ap, ◌∙◌}
use Rattle.py_imports.specs.Private.Lexemes.{unread_of, lexemes_text, begins_import_word}
use Rattle.py_imports.proofs.ReadingLemmas.{relative_dots, relative_named}
use Rattle.py_imports.proofs.lexemes.Lexemes.relative_module.Goals as goal
use Rattle.py_imports.proofs.lexemes.Lexemes.relative_module.Goals.{then-dotted, else-dotted, then-not-is_at_import+in_ok-module, else-not-is_at_import}

pub returns-in-Import : goal.returns-in-Import
returns-in-Import c =
    let now = unread_of c.pass_dots-dotted.new.self in
    let dotted = c.pass_dots-dotted.result in
    let at : c.if-dotted.value ≡ dotted && begins_import_word now = elim c.if-dotted.branch [
      | then-dotted w ↦ w.value-is ∙ w.is_at_import.ensures ∙ ap (λ b. b && begins_import_word now) (sym w.if-dotted.true)
      | else-dotted w ↦ w.value-is ∙ w.if-dotted.false ∙ ap (λ b. b && begins_import_word now) (sym w.if-dotted.false)
    ] in
    elim c.if-not-is_at_import.branch [
      | then-not-is_at_import+in_ok-module w ↦ relative_named dotted _ now (unread_of c.if-not-is_at_import.self) (unread_of c.next.new.self) (unread_of c.since-path.result) (lexemes_text w.in_ok-module.field-0) c.pass_dots-dotted.ensures.dots (sym at ∙ w.if-not-is_at_import.true) (w.in_ok-module.ensures.path ∙ ap (λ s. Some (record { spelled = lexemes_text w.in_ok-module.field-0; rest = unread_of s })) (sym w.self-is)) c.in-Import.ensures.lexeme c.since-path.ensures
      | else-not-is_at_import w ↦ relative_dots dotted _ now (unread_of c.next.new.self) (unread_of c.since-path.result) c.pass_dots-dotted.ensures.dots (sym at ∙ w.if-not-is_at_import.false) (ap unread_of (sym w.self-is) ∙ c.in-Import.ensures.lexeme) (c.since-path.ensures ∙ ap (λ s. unread_of c.since-path.result ++ unread_of s) w.self-is)
    ]
