-- A module with its alias is the first item of a list of modules.
use Rattle.std.proofs.Common.{None, refl}
use Rattle.py_imports.specs.Grammar.{modules, AreItems, whole_module}
use Rattle.py_imports.specs.Private.Lexemes.{unread_of, lexemes_text}
use Rattle.py_imports.specs.declared.items.Stage.TheVariants as stage
use Rattle.py_imports.proofs.ListLemmas.{items_none, items_bad}
use Rattle.py_imports.proofs.ReaderLemmas.{module_none, module_then, item_first, item_fewer, no_lists}
use Rattle.py_imports.proofs.items.ImportItems.module_item.Goals as goal

pub returns-in_err-names-clause-item : goal.returns-in_err-names-clause-item
returns-in_err-names-clause-item c =
    let ts = unread_of c.args.self.now.tokens in
    rw c.from_residual.ensures (no_lists (AreItems modules ts) whole_module (items_none modules ts (module_none ts c.in_err-names.ensures.path)))

pub returns-in_err-alias-clause-item : goal.returns-in_err-alias-clause-item
returns-in_err-alias-clause-item c =
    let ts = unread_of c.args.self.now.tokens in
    let w = lexemes_text c.in_ok-names.names in
    rw c.from_residual-in_err-alias.ensures (no_lists (AreItems modules ts) whole_module (items_none modules ts (module_then ts (unread_of c.module.new.self) w None c.in_ok-names.ensures.path (c.in_err-alias.ensures w))))

pub returns-in_err-self-clause-item : goal.returns-in_err-self-clause-item
returns-in_err-self-clause-item c =
    let ts = unread_of c.args.self.now.tokens in
    let w = lexemes_text c.in_ok-names.names in
    rw c.from_residual-in_err-self.ensures (no_lists (AreItems modules ts) whole_module (items_bad modules ts (unread_of c.alias.new.self) _ (module_then ts (unread_of c.module.new.self) w _ c.in_ok-names.ensures.path (c.in_ok-alias.ensures w)) c.in_err-self.ensures))

pub returns-clause-item : goal.returns-clause-item
returns-clause-item c =
    let ts = unread_of c.args.self.now.tokens in
    item_first modules whole_module stage.Modules c.in_ok-self.field-0 ts (unread_of c.alias.new.self) (unread_of c.after_item.new.self.tokens) _ (module_then ts (unread_of c.module.new.self) (lexemes_text c.in_ok-names.names) _ c.in_ok-names.ensures.path (c.in_ok-alias.ensures (lexemes_text c.in_ok-names.names))) c.in_ok-self.ensures (λ is a. a) (λ is a. a)

pub returns-clause-fewer : goal.returns-clause-fewer
returns-clause-fewer c =
    let ts = unread_of c.args.self.now.tokens in
    item_fewer modules stage.Modules c.in_ok-self.field-0 ts (unread_of c.alias.new.self) (unread_of c.after_item.new.self.tokens) _ (module_then ts (unread_of c.module.new.self) (lexemes_text c.in_ok-names.names) _ c.in_ok-names.ensures.path (c.in_ok-alias.ensures (lexemes_text c.in_ok-names.names))) c.in_ok-self.ensures refl
