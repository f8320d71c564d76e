-- A name with its alias is the first item of a list in brackets.
use Rattle.std.specs.Option.{option_map}
use Rattle.py_imports.specs.Grammar.{Item, AreBracketed, attribute_of}
use Rattle.py_imports.specs.Private.Items.{path_of}
use Rattle.py_imports.specs.Private.Lexemes.{unread_of}
use Rattle.py_imports.proofs.ListLemmas.{bracketed_none, bracketed_bad}
use Rattle.py_imports.proofs.ReaderLemmas.{bracketed_first, bracketed_fewer, no_lists}
use Rattle.py_imports.proofs.items.ImportItems.bracketed_item.Goals as goal

pub returns-in_err-name-clause-item : goal.returns-in_err-name-clause-item
returns-in_err-name-clause-item c =
    let ts = unread_of c.args.self.now.tokens in
    rw c.from_residual.ensures (no_lists (AreBracketed ts) (attribute_of (path_of c.args.from)) (bracketed_none ts c.in_err-name.ensures))

pub returns-in_err-self-clause-item : goal.returns-in_err-self-clause-item
returns-in_err-self-clause-item c =
    let ts = unread_of c.args.self.now.tokens in
    rw c.from_residual-in_err-self.ensures (no_lists (AreBracketed ts) (attribute_of (path_of c.args.from)) (bracketed_bad ts (unread_of c.name_with_alias.new.self) _ c.in_ok-name.ensures c.in_err-self.ensures.not_closed c.in_err-self.ensures.stuck))

pub returns-clause-item : goal.returns-clause-item
returns-clause-item c =
    let ts = unread_of c.args.self.now.tokens in
    let item : Item = record { path = c.in_ok-name.name.now; alias = option_map (λ a. a.now) c.in_ok-name.alias } in
    bracketed_first c.args.from (attribute_of (path_of c.args.from)) c.in_ok-self.field-0 ts (unread_of c.name_with_alias.new.self) (unread_of c.after_bracketed.new.self.tokens) item c.in_ok-name.ensures c.in_ok-self.ensures (λ is a. a) (λ is a. a)

pub returns-clause-fewer : goal.returns-clause-fewer
returns-clause-fewer c =
    let ts = unread_of c.args.self.now.tokens in
    let item : Item = record { path = c.in_ok-name.name.now; alias = option_map (λ a. a.now) c.in_ok-name.alias } in
    bracketed_fewer c.args.from c.in_ok-self.field-0 ts (unread_of c.name_with_alias.new.self) (unread_of c.after_bracketed.new.self.tokens) item c.in_ok-name.ensures c.in_ok-self.ensures
