-- A name with its alias is the first item of a list without brackets.
use Rattle.std.proofs.Common.{refl}
use Rattle.std.specs.Option.{option_map}
use Rattle.py_imports.specs.Grammar.{identifiers, Item, AreItems, attribute_of}
use Rattle.py_imports.specs.Private.Items.{path_of}
use Rattle.py_imports.specs.Private.Lexemes.{unread_of}
use Rattle.py_imports.specs.declared.items.Stage.TheVariants as stage
use Rattle.py_imports.proofs.ListLemmas.{items_none, items_bad}
use Rattle.py_imports.proofs.ReaderLemmas.{item_first, item_fewer, no_lists}
use Rattle.py_imports.proofs.items.ImportItems.name_item.Goals as goal

pub returns-in_err-name-clause-item : goal.returns-in_err-name-clause-item
returns-in_err-name-clause-item c =
    let ts = unread_of c.args.self.now.tokens in
    rw c.from_residual.ensures (no_lists (AreItems identifiers ts) (attribute_of (path_of c.args.from)) (items_none identifiers ts c.in_err-name.ensures))

pub returns-in_err-self-clause-item : goal.returns-in_err-self-clause-item
returns-in_err-self-clause-item c =
    let ts = unread_of c.args.self.now.tokens in
    rw c.from_residual-in_err-self.ensures (no_lists (AreItems identifiers ts) (attribute_of (path_of c.args.from)) (items_bad identifiers ts (unread_of c.name_with_alias.new.self) _ c.in_ok-name.ensures c.in_err-self.ensures))

pub returns-clause-item : goal.returns-clause-item
returns-clause-item c =
    let ts = unread_of c.args.self.now.tokens in
    let item : Item = record { path = c.in_ok-name.name.now; alias = option_map (λ a. a.now) c.in_ok-name.alias } in
    item_first identifiers (attribute_of (path_of c.args.from)) (stage.Names c.args.from) c.in_ok-self.field-0 ts (unread_of c.name_with_alias.new.self) (unread_of c.after_item.new.self.tokens) item c.in_ok-name.ensures c.in_ok-self.ensures (λ is a. a) (λ is a. a)

pub returns-clause-fewer : goal.returns-clause-fewer
returns-clause-fewer c =
    let ts = unread_of c.args.self.now.tokens in
    let item : Item = record { path = c.in_ok-name.name.now; alias = option_map (λ a. a.now) c.in_ok-name.alias } in
    item_fewer identifiers (stage.Names c.args.from) c.in_ok-self.field-0 ts (unread_of c.name_with_alias.new.self) (unread_of c.after_item.new.self.tokens) item c.in_ok-name.ensures c.in_ok-self.ensures refl
