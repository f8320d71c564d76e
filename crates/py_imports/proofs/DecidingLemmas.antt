-- Whether a statement is in the import grammar can be decided, so a logical line binds a list or has a fault.
use Rattle.std.proofs.Common.{◌≡◌, ℕ, zero, suc, ◌+◌, ◌<◌, Bool, true, false, Option, None, Some, ◌⊎◌, inl, inr, List, [], ◌∷◌, ◌++◌, length, map, codes, refl, ap, arith}
use Rattle.py_lines.specs.LogicalLine.{LogicalLine}
use Rattle.py_lines.specs.declared.fault.FaultKind.TheVariants.{BadImport}
use Rattle.py_imports.specs.Grammar.{Terminal, import_word, from_word, as_word, name, dot, comma, star, opening, closing, other, begins_import, spelling, NameKind, modules, identifiers, Item, AreItems, AreBracketed, AreNames, plain_names, bracketed, all_names, whole_module, attribute_of, IsImport, import_statement, from_statement}
use Rattle.py_imports.specs.Private.Items.{begins_closing}
use Rattle.py_imports.specs.Private.Parsing.{ReadText, at_relative, ItemRead, at_item}
use Rattle.py_imports.specs.Statement.{significant, TokenPlace, starts}
use Rattle.py_imports.specs.BindingValue.{BindingValue}
use Rattle.py_imports.specs.Binds.{terminals_at, values_at, BindsAt, nothing, imports, IsBadStart, BindEach, BindsOrIsBad}
use Rattle.py_imports.proofs.ModuleLemmas.{at_relative-sound}
use Rattle.py_imports.proofs.ItemLemmas.{items_last, bracketed_closed, bracketed_comma}
use Rattle.py_imports.proofs.ListLemmas.{ListGoesOn, items_go_on, items_none, items_bad, bracketed_none, bracketed_goes_on, bracketed_bad, item_is_some, ends_alone, ends_alone-comma, begins_comma, neither_ends, comma_not_first}
use Rattle.py_imports.proofs.NamesLemmas.{star_bad, brackets_bad, begins_plain, plain_only}
use Rattle.py_imports.proofs.StatementLemmas.{import_reads, import_bad, from_bad, from_none}

-- some list is such, or none is
pub data SomeOrNone {A : Type 0} (Are : List A → Type 0) : Type 0 where
  some : (is : List A) → Are is → SomeOrNone Are
  none : ((is : List A) → ¬ (Are is)) → SomeOrNone Are

-- after an item there is a list or none, so there is one or none with the item
behind_item : (Are : List Terminal → List Item → Type 0) (now rest : List Terminal) (i : Item) → ListGoesOn Are now rest i → SomeOrNone (Are rest) → SomeOrNone (Are now)
behind_item Are now rest i g (some is a) = some (i ∷ is) (g.puts is a)
behind_item Are now rest i g (none bad) = none (λ is a. let t = g.takes is a in bad t.0 t.2)

-- an item was read, and of shorter lists it is known: by what follows the item
items_behind : (k : NameKind) (now rest : List Terminal) (i : Item) → ((ts : List Terminal) → length ts < length now → SomeOrNone (AreItems k ts)) → at_item k now ≡ Some (record { item = i; rest = rest }) → SomeOrNone (AreItems k now)
items_behind k now [] i known e = some (i ∷ []) (items_last k now i e)
items_behind k now (comma ∷ rest) i known e = behind_item (AreItems k) now rest i (items_go_on k now rest i e) (known rest (item_is_some k now rest i e))
items_behind k now (import_word ∷ rest) i known e = none (items_bad k now (import_word ∷ rest) i e refl)
items_behind k now (from_word ∷ rest) i known e = none (items_bad k now (from_word ∷ rest) i e refl)
items_behind k now (as_word ∷ rest) i known e = none (items_bad k now (as_word ∷ rest) i e refl)
items_behind k now (name w ∷ rest) i known e = none (items_bad k now (name w ∷ rest) i e refl)
items_behind k now (dot ∷ rest) i known e = none (items_bad k now (dot ∷ rest) i e refl)
items_behind k now (star ∷ rest) i known e = none (items_bad k now (star ∷ rest) i e refl)
items_behind k now (opening ∷ rest) i known e = none (items_bad k now (opening ∷ rest) i e refl)
items_behind k now (closing ∷ rest) i known e = none (items_bad k now (closing ∷ rest) i e refl)
items_behind k now (other ∷ rest) i known e = none (items_bad k now (other ∷ rest) i e refl)

items_by : (k : NameKind) (now : List Terminal) (o : Option ItemRead) → ((ts : List Terminal) → length ts < length now → SomeOrNone (AreItems k ts)) → at_item k now ≡ o → SomeOrNone (AreItems k now)
items_by k now None known e = none (items_none k now e)
items_by k now (Some r) known e = items_behind k now r.rest r.item known e

items_below : (n : ℕ) (k : NameKind) (now : List Terminal) → length now < n → SomeOrNone (AreItems k now)
items_below zero k now h = let z : ⊥ = omega arith in absurd z
items_below (suc n) k now h = items_by k now (at_item k now) (λ ts less. items_below n k ts (omega arith)) refl

-- terminals are a list of items, or no list: each item takes a terminal at least
items_or_none : (k : NameKind) (now : List Terminal) → SomeOrNone (AreItems k now)
items_or_none k now = items_below (length now + 1) k now (omega arith)

-- in brackets: what follows the item ends the list badly, as it begins with neither a comma nor the bracket
bracketed_stops : (now rest : List Terminal) (i : Item) → at_item identifiers now ≡ Some (record { item = i; rest = rest }) → begins_comma rest ≡ false → begins_closing rest ≡ false → SomeOrNone (AreBracketed now)
bracketed_stops now rest i e c d = none (bracketed_bad now rest i e (neither_ends rest c d) (comma_not_first rest c))

bracketed_behind-closing : (now rest : List Terminal) (i : Item) → at_item identifiers now ≡ Some (record { item = i; rest = closing ∷ rest }) → SomeOrNone (AreBracketed now)
bracketed_behind-closing now [] i e = some (i ∷ []) (bracketed_closed now i e)
bracketed_behind-closing now (t ∷ rest) i e = none (bracketed_bad now (closing ∷ t ∷ rest) i e (ends_alone (closing ∷ t ∷ rest) (t ∷ rest) refl (λ f. let z : ⊥ = cc in z)) (λ more f. absurd (let z : ⊥ = cc in z)))

bracketed_behind-comma_closing : (now rest : List Terminal) (i : Item) → at_item identifiers now ≡ Some (record { item = i; rest = comma ∷ closing ∷ rest }) → SomeOrNone (AreBracketed now)
bracketed_behind-comma_closing now [] i e = some (i ∷ []) (bracketed_comma now i e)
bracketed_behind-comma_closing now (t ∷ rest) i e = none (bracketed_bad now (comma ∷ closing ∷ t ∷ rest) i e (ends_alone-comma (comma ∷ closing ∷ t ∷ rest) (t ∷ rest) refl (λ f. let z : ⊥ = cc in z)) closing_first)
  where
    closing_first : (more : List Terminal) → comma ∷ closing ∷ t ∷ rest ≡ comma ∷ more → begins_closing more ≡ true
    closing_first more f = let g : more ≡ closing ∷ t ∷ rest = cc in ap begins_closing g

bracketed_behind-comma : (now rest : List Terminal) (i : Item) → ((ts : List Terminal) → length ts < length now → SomeOrNone (AreBracketed ts)) → at_item identifiers now ≡ Some (record { item = i; rest = comma ∷ rest }) → begins_closing rest ≡ false → SomeOrNone (AreBracketed now)
bracketed_behind-comma now rest i known e c = behind_item AreBracketed now rest i (bracketed_goes_on now rest i e c) (known rest (item_is_some identifiers now rest i e))

bracketed_behind : (now rest : List Terminal) (i : Item) → ((ts : List Terminal) → length ts < length now → SomeOrNone (AreBracketed ts)) → at_item identifiers now ≡ Some (record { item = i; rest = rest }) → SomeOrNone (AreBracketed now)
bracketed_behind now (closing ∷ rest) i known e = bracketed_behind-closing now rest i e
bracketed_behind now (comma ∷ closing ∷ rest) i known e = bracketed_behind-comma_closing now rest i e
bracketed_behind now (comma ∷ []) i known e = bracketed_behind-comma now [] i known e refl
bracketed_behind now (comma ∷ import_word ∷ rest) i known e = bracketed_behind-comma now (import_word ∷ rest) i known e refl
bracketed_behind now (comma ∷ from_word ∷ rest) i known e = bracketed_behind-comma now (from_word ∷ rest) i known e refl
bracketed_behind now (comma ∷ as_word ∷ rest) i known e = bracketed_behind-comma now (as_word ∷ rest) i known e refl
bracketed_behind now (comma ∷ name w ∷ rest) i known e = bracketed_behind-comma now (name w ∷ rest) i known e refl
bracketed_behind now (comma ∷ dot ∷ rest) i known e = bracketed_behind-comma now (dot ∷ rest) i known e refl
bracketed_behind now (comma ∷ comma ∷ rest) i known e = bracketed_behind-comma now (comma ∷ rest) i known e refl
bracketed_behind now (comma ∷ star ∷ rest) i known e = bracketed_behind-comma now (star ∷ rest) i known e refl
bracketed_behind now (comma ∷ opening ∷ rest) i known e = bracketed_behind-comma now (opening ∷ rest) i known e refl
bracketed_behind now (comma ∷ other ∷ rest) i known e = bracketed_behind-comma now (other ∷ rest) i known e refl
bracketed_behind now [] i known e = bracketed_stops now [] i e refl refl
bracketed_behind now (import_word ∷ rest) i known e = bracketed_stops now (import_word ∷ rest) i e refl refl
bracketed_behind now (from_word ∷ rest) i known e = bracketed_stops now (from_word ∷ rest) i e refl refl
bracketed_behind now (as_word ∷ rest) i known e = bracketed_stops now (as_word ∷ rest) i e refl refl
bracketed_behind now (name w ∷ rest) i known e = bracketed_stops now (name w ∷ rest) i e refl refl
bracketed_behind now (dot ∷ rest) i known e = bracketed_stops now (dot ∷ rest) i e refl refl
bracketed_behind now (star ∷ rest) i known e = bracketed_stops now (star ∷ rest) i e refl refl
bracketed_behind now (opening ∷ rest) i known e = bracketed_stops now (opening ∷ rest) i e refl refl
bracketed_behind now (other ∷ rest) i known e = bracketed_stops now (other ∷ rest) i e refl refl

bracketed_by : (now : List Terminal) (o : Option ItemRead) → ((ts : List Terminal) → length ts < length now → SomeOrNone (AreBracketed ts)) → at_item identifiers now ≡ o → SomeOrNone (AreBracketed now)
bracketed_by now None known e = none (bracketed_none now e)
bracketed_by now (Some r) known e = bracketed_behind now r.rest r.item known e

bracketed_below : (n : ℕ) (now : List Terminal) → length now < n → SomeOrNone (AreBracketed now)
bracketed_below zero now h = let z : ⊥ = omega arith in absurd z
bracketed_below (suc n) now h = bracketed_by now (at_item identifiers now) (λ ts less. bracketed_below n ts (omega arith)) refl

-- terminals are identifiers and the closing bracket, or they aren't
bracketed_or_none : (now : List Terminal) → SomeOrNone (AreBracketed now)
bracketed_or_none now = bracketed_below (length now + 1) now (omega arith)

plain_or_none : (ts : List Terminal) → begins_plain ts ≡ true → SomeOrNone (AreItems identifiers ts) → SomeOrNone (AreNames ts)
plain_or_none ts e (some is a) = some is (plain_names ts is a)
plain_or_none ts e (none bad) = none (λ is a. bad is (plain_only ts is a e))

brackets_or_none : (ts : List Terminal) → SomeOrNone (AreBracketed ts) → SomeOrNone (AreNames (opening ∷ ts))
brackets_or_none ts (some is a) = some is (bracketed ts is a)
brackets_or_none ts (none bad) = none (brackets_bad (opening ∷ ts) ts refl bad)

-- terminals are what may stand after `from .. import`, or they aren't: by the first of them
names_or_none : (ts : List Terminal) → SomeOrNone (AreNames ts)
names_or_none (star ∷ []) = some (record { path = codes "*"; alias = None } ∷ []) all_names
names_or_none (star ∷ t ∷ ts) = none (star_bad (star ∷ t ∷ ts) (t ∷ ts) refl (λ f. let z : ⊥ = cc in z))
names_or_none (opening ∷ ts) = brackets_or_none ts (bracketed_or_none ts)
names_or_none [] = plain_or_none [] refl (items_or_none identifiers [])
names_or_none (import_word ∷ ts) = plain_or_none (import_word ∷ ts) refl (items_or_none identifiers (import_word ∷ ts))
names_or_none (from_word ∷ ts) = plain_or_none (from_word ∷ ts) refl (items_or_none identifiers (from_word ∷ ts))
names_or_none (as_word ∷ ts) = plain_or_none (as_word ∷ ts) refl (items_or_none identifiers (as_word ∷ ts))
names_or_none (name w ∷ ts) = plain_or_none (name w ∷ ts) refl (items_or_none identifiers (name w ∷ ts))
names_or_none (dot ∷ ts) = plain_or_none (dot ∷ ts) refl (items_or_none identifiers (dot ∷ ts))
names_or_none (comma ∷ ts) = plain_or_none (comma ∷ ts) refl (items_or_none identifiers (comma ∷ ts))
names_or_none (closing ∷ ts) = plain_or_none (closing ∷ ts) refl (items_or_none identifiers (closing ∷ ts))
names_or_none (other ∷ ts) = plain_or_none (other ∷ ts) refl (items_or_none identifiers (other ∷ ts))

import_or_none : (rest : List Terminal) → SomeOrNone (AreItems modules rest) → SomeOrNone (IsImport (import_word ∷ rest))
import_or_none rest (some is a) = some (map whole_module is) (import_statement rest is a)
import_or_none rest (none bad) = none (import_bad rest bad)

from_or_none : (before : List Terminal) (r : ReadText) → at_relative false before ≡ Some r → SomeOrNone (AreNames r.rest) → SomeOrNone (IsImport (from_word ∷ before))
from_or_none before r e (some is a) =
    let off = at_relative-sound before r e in
    some (map (attribute_of (spelling off.from)) is) (from_statement (from_word ∷ before) off.from r.rest is (ap (λ x. from_word ∷ x) off.split) off.is a)
from_or_none before r e (none bad) = none (from_bad before r.rest r.spelled e bad)

from_by : (before : List Terminal) (o : Option ReadText) → at_relative false before ≡ o → SomeOrNone (IsImport (from_word ∷ before))
from_by before None e = none (from_none before e)
from_by before (Some r) e = from_or_none before r e (names_or_none r.rest)

-- the import grammar can be decided: terminals are an import statement, or they aren't
pub import_statement_or_none : (ts : List Terminal) → SomeOrNone (IsImport ts)
import_statement_or_none (import_word ∷ ts) = import_or_none ts (items_or_none modules ts)
import_statement_or_none (from_word ∷ ts) = from_by ts (at_relative false ts) refl
import_statement_or_none [] = none (λ is i. import_reads [] is i)
import_statement_or_none (as_word ∷ ts) = none (λ is i. import_reads (as_word ∷ ts) is i)
import_statement_or_none (name w ∷ ts) = none (λ is i. import_reads (name w ∷ ts) is i)
import_statement_or_none (dot ∷ ts) = none (λ is i. import_reads (dot ∷ ts) is i)
import_statement_or_none (comma ∷ ts) = none (λ is i. import_reads (comma ∷ ts) is i)
import_statement_or_none (star ∷ ts) = none (λ is i. import_reads (star ∷ ts) is i)
import_statement_or_none (opening ∷ ts) = none (λ is i. import_reads (opening ∷ ts) is i)
import_statement_or_none (closing ∷ ts) = none (λ is i. import_reads (closing ∷ ts) is i)
import_statement_or_none (other ∷ ts) = none (λ is i. import_reads (other ∷ ts) is i)

start_by : (line : LogicalLine) (p : TokenPlace) (b : Bool) → begins_import (terminals_at line p) ≡ b → SomeOrNone (IsImport (terminals_at line p)) → ((values : List BindingValue) × BindsAt line p values) ⊎ IsBadStart line p
start_by line p false e known = inl ([], nothing line p [] e refl)
start_by line p true e (some is i) = inl (values_at line p is, imports line p (values_at line p is) is e i refl)
start_by line p true e (none bad) = inr (record { begins = e; bad = bad })

-- a statement binds a list, or is bad
start_binds_or_bad : (line : LogicalLine) (p : TokenPlace) → ((values : List BindingValue) × BindsAt line p values) ⊎ IsBadStart line p
start_binds_or_bad line p = start_by line p (begins_import (terminals_at line p)) refl (import_statement_or_none (terminals_at line p))

-- the first bad statement among those that start at these places
record FirstBadStatement (line : LogicalLine) (ps : List TokenPlace) : Type 0 where
  pub before : List TokenPlace
  pub start : TokenPlace
  pub after : List TokenPlace
  pub values : List BindingValue
  pub split : ps ≡ before ++ start ∷ after
  pub good : BindEach line before values
  pub bad : IsBadStart line start

each_by : (line : LogicalLine) (p : TokenPlace) (ps : List TokenPlace) → ((values : List BindingValue) × BindsAt line p values) ⊎ IsBadStart line p → ((values : List BindingValue) × BindEach line ps values) ⊎ FirstBadStatement line ps → ((values : List BindingValue) × BindEach line (p ∷ ps) values) ⊎ FirstBadStatement line (p ∷ ps)
each_by line p ps (inr bad) known = inr (record { before = []; start = p; after = ps; values = []; split = refl; good = refl; bad = bad })
each_by line p ps (inl (first, b)) (inl (others, each)) = inl (first ++ others, (first, others, refl, b, each))
each_by line p ps (inl (first, b)) (inr f) = inr (record { before = p ∷ f.before; start = f.start; after = f.after; values = first ++ f.values; split = ap (λ x. p ∷ x) f.split; good = (first, f.values, refl, b, f.good); bad = f.bad })

-- the statements that start at these places all bind a list, or there is a first one that is bad
each_or_first_bad : (line : LogicalLine) (ps : List TokenPlace) → ((values : List BindingValue) × BindEach line ps values) ⊎ FirstBadStatement line ps
each_or_first_bad line [] = inl ([], refl)
each_or_first_bad line (p ∷ ps) = each_by line p ps (start_binds_or_bad line p) (each_or_first_bad line ps)

line_by : (line : LogicalLine) → ((values : List BindingValue) × BindEach line (starts (significant line.tokens)) values) ⊎ FirstBadStatement line (starts (significant line.tokens)) → BindsOrIsBad line
line_by line (inl b) = inl b
line_by line (inr f) = inr (record { kind = BadImport; offset = line.offset + f.start.token.start; line = f.start.token.line }, record { before = f.before; start = f.start; after = f.after; values = f.values; split = f.split; good = f.good; bad = f.bad; place = refl })

-- a logical line binds a list, or has a fault: its first bad statement
pub some_list_or_fault : (line : LogicalLine) → BindsOrIsBad line
some_list_or_fault line = line_by line (each_or_first_bad line (starts (significant line.tokens)))
