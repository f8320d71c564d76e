-- The items of an import statement, one after another.
use Rattle.std.proofs.Common.{◌≡◌, ◌≢◌, ℕ, suc, ◌+◌, ◌-◌, ◌≤◌, ◌<◌, true, false, Option, None, Some, option_and_then, List, [], ◌∷◌, ◌++◌, length, map, take, drop, codes, inl, inr, MatchOption, IfSome, refl, sym, ap, ◌∙◌, subst, append_assoc, arith, length-append}
use Rattle.std.proofs.lemmas.List.{map-append, drop-drop}
use Rattle.std.proofs.Math.Seq.{take-add}
use Rattle.py_lines.specs.declared.token.Token.{Token}
use Rattle.py_imports.specs.Binds.{terminal_in}
use Rattle.py_imports.specs.Grammar.{Terminal, import_word, from_word, comma, star, opening, closing, NameKind, modules, identifiers, Item, AreItems, AreBracketed, bracketed, AreNames, plain_names, all_names, whole_module, attribute_of, Imported, IsImport, import_statement, from_statement}
use Rattle.py_imports.specs.Statement.{significant}
use Rattle.py_imports.specs.Private.Lexemes.{lexeme_then, unread_of, IsFurther}
use Rattle.py_imports.specs.declared.lexemes.Lexemes.{Lexemes}
use Rattle.py_imports.specs.Private.Parsing.{at_module, at_relative, ItemRead, alias_after, at_item}
use Rattle.py_imports.specs.Private.Items.{item_imported, ListsOf, AreLeftAt, AreLeft, most_left_at, AreSameLists, StartWith, IsFirstOfLists, FollowsItem, begins_closing, IsClosing, by_bracket, by_comma, IsOutOfBrackets, FollowsBracketed, ReadsStar, ListsFrom, path_of}
use Rattle.py_imports.specs.declared.items.ImportItem.{ImportItem}
use Rattle.py_imports.specs.declared.items.ImportItems.{ImportItems}
use Rattle.py_imports.specs.declared.items.ModulePath.{ModulePath}
use Rattle.py_imports.specs.declared.items.Stage.{Stage}
use Rattle.py_imports.specs.declared.items.Stage.TheVariants as stage
use Rattle.py_imports.specs.declared.lexeme.Lexeme.{Lexeme}
use Rattle.py_imports.specs.declared.lexeme.Lexeme.TheVariants as lexeme
use Rattle.py_imports.proofs.TokenLemmas.{window}
use Rattle.py_imports.proofs.EndLemmas.{significant-append}
use Rattle.py_imports.proofs.ModuleLemmas.{at_relative-sound}
use Rattle.py_imports.proofs.ItemLemmas.{ListStarts, one_item, many, items_begin, items_last, BeginsBracketed, one_closed, one_comma, many_closed, bracketed_begin, bracketed_closed, bracketed_comma}
use Rattle.py_imports.proofs.ListLemmas.{ListGoesOn, one_way, items_go_on, items_none, bracketed_none, bracketed_goes_on, no_item_at_closing, item_is_some, ends_alone, ends_alone-comma, begins_comma, no_comma, no_closing, neither_ends, comma_not_first}
use Rattle.py_imports.proofs.NamesLemmas.{star_bad, opening_brackets, plain_only, begins_plain}
use Rattle.py_imports.proofs.StatementLemmas.{import_reads, one_from}

-- a window in two parts
window-split : (tokens : List Token) (a b c : ℕ) → a ≤ b → b ≤ c → window tokens a c ≡ window tokens a b ++ window tokens b c
window-split tokens a b c h k =
    let n : c - a ≡ (b - a) + (c - b) = omega arith in
    let m : a + (b - a) ≡ b = omega arith in
    ap (λ x. take x (drop a tokens)) n ∙ take-add (b - a) (c - b) (drop a tokens) ∙ ap (λ x. window tokens a b ++ take (c - b) x) (drop-drop (b - a) a tokens ∙ ap (λ x. drop x tokens) m)

pub terminals-split : (text : List ℕ) (tokens : List Token) (a b c : ℕ) → a ≤ b → b ≤ c → map (terminal_in text) (significant (window tokens a c)) ≡ map (terminal_in text) (significant (window tokens a b)) ++ map (terminal_in text) (significant (window tokens b c))
terminals-split text tokens a b c h k =
    ap (λ x. map (terminal_in text) (significant x)) (window-split tokens a b c h k) ∙ ap (map (terminal_in text)) (significant-append (window tokens a b) (window tokens b c)) ∙ map-append (terminal_in text) (significant (window tokens a b)) (significant (window tokens b c))

-- a reader stays, or goes on in two steps
pub further_same : (s : Lexemes) → IsFurther s s
further_same s = record { unit = refl; end = refl; place = omega arith }

pub follows_on : (a b c : Lexemes) → IsFurther a b → IsFurther b c → IsFurther a c
follows_on a b c f g = record { unit = g.unit ∙ f.unit; end = g.end ∙ f.end; place = omega (arith, f.place, g.place) }

-- the imports of lists that go on after an item
lists_go_on : (Are : List Terminal → List Item → Type 0) (import : Item → Imported) (now rest : List Terminal) (i : Item) → ListGoesOn Are now rest i → StartWith (ListsOf import (Are now)) (import i) (ListsOf import (Are rest))
lists_go_on Are import now rest i g = record { puts = puts; takes = takes }
  where
    puts : (is : List Imported) → ListsOf import (Are rest) is → ListsOf import (Are now) (import i ∷ is)
    puts is (items, a, e) = (i ∷ items, g.puts items a, ap (λ x. import i ∷ x) e)

    takes : (is : List Imported) → ListsOf import (Are now) is → (js : List Imported) × (is ≡ import i ∷ js) × ListsOf import (Are rest) js
    takes is (items, a, e) = let t = g.takes items a in (map import t.0, e ∙ ap (map import) t.1, (t.0, t.2, refl))

-- this item alone is such a list, and no other is
record IsOnly (Are : List Item → Type 0) (i : Item) : Type 0 where
  pub is : Are (i ∷ [])
  pub one : (is : List Item) → Are is → is ≡ i ∷ []

lists_end : (Are : List Item → Type 0) (import : Item → Imported) (i : Item) → IsOnly Are i → StartWith (ListsOf import Are) (import i) (λ is. is ≡ [])
lists_end Are import i only = record { puts = λ is e. (i ∷ [], only.is, ap (λ x. import i ∷ x) e); takes = takes }
  where
    takes : (is : List Imported) → ListsOf import Are is → (js : List Imported) × (is ≡ import i ∷ js) × (js ≡ [])
    takes is (items, a, e) = ([], e ∙ ap (map import) (only.one items a), refl)

items_only : (k : NameKind) (now : List Terminal) (i : Item) → at_item k now ≡ Some (record { item = i; rest = [] }) → IsOnly (AreItems k now) i
items_only k now i e = record { is = items_last k now i e; one = λ is a. by_first is (items_begin k now is a) }
  where
    by_first : (is : List Item) → ListStarts k now is → is ≡ i ∷ []
    by_first is (one_item js j f s) = s ∙ ap (λ x. x ∷ []) (one_way k now (record { item = j; rest = [] }) (record { item = i; rest = [] }) f e).0
    by_first is (many ks js j after f a s) = absurd (let h : [] ≡ comma ∷ after = (one_way k now (record { item = i; rest = [] }) (record { item = j; rest = comma ∷ after }) e f).1 in cc)

-- an item that was read is the first of the imports that are left
pub item_first : (k : NameKind) (import : Item → Imported) (s next : Stage) (now rest after : List Terminal) (i : Item) → at_item k now ≡ Some (record { item = i; rest = rest }) → FollowsItem s rest (Some next) after → ((is : List Imported) → AreLeftAt s after is → ListsOf import (AreItems k after) is) → ((is : List Imported) → ListsOf import (AreItems k after) is → AreLeftAt s after is) → StartWith (ListsOf import (AreItems k now)) (import i) (AreLeftAt next after)
item_first k import s next now rest after i e (inl (n, f)) to from =
    let g = lists_go_on (AreItems k) import now after i (items_go_on k now after i (e ∙ ap (λ x. Some (record { item = i; rest = x })) f)) in
    subst (λ x. StartWith (ListsOf import (AreItems k now)) (import i) (AreLeftAt x after)) (sym n) (record { puts = λ is a. g.puts is (to is a); takes = λ is a. let t = g.takes is a in (t.0, t.1, from t.0 t.2) })
item_first k import s next now rest after i e (inr (n, f)) to from =
    subst (λ x. StartWith (ListsOf import (AreItems k now)) (import i) (AreLeftAt x after)) (sym n) (lists_end (AreItems k now) import i (items_only k now i (e ∙ ap (λ x. Some (record { item = i; rest = x })) f)))

pub item_fewer : (k : NameKind) (s next : Stage) (now rest after : List Terminal) (i : Item) → at_item k now ≡ Some (record { item = i; rest = rest }) → FollowsItem s rest (Some next) after → most_left_at s after ≡ suc (length after) → most_left_at next after ≤ length now
item_fewer k s next now rest after i e (inl (n, f)) m =
    let less : length after < length now = item_is_some k now after i (e ∙ ap (λ x. Some (record { item = i; rest = x })) f) in
    let same : most_left_at next after ≡ suc (length after) = ap (λ x. most_left_at x after) n ∙ m in
    omega (arith, same)
item_fewer k s next now rest after i e (inr (n, f)) m =
    let same : most_left_at next after ≡ 0 = ap (λ x. most_left_at x after) n in
    omega (arith, same)

-- a module, and what follows it
pub module_none : (ts : List Terminal) → at_module ts ≡ None → at_item modules ts ≡ None
module_none ts e = ap (option_and_then (λ r. alias_after r.spelled r.rest)) e

pub module_then : (ts rest : List Terminal) (w : List ℕ) (o : Option ItemRead) → at_module ts ≡ Some (record { spelled = w; rest = rest }) → alias_after w rest ≡ o → at_item modules ts ≡ o
module_then ts rest w o e f = ap (option_and_then (λ r. alias_after r.spelled r.rest)) e ∙ f

-- no list of imports, where there is no such list of items
pub no_lists : (Are : List Item → Type 0) (import : Item → Imported) → ((items : List Item) → ¬ (Are items)) → (is : List Imported) → ¬ (ListsOf import Are is)
no_lists Are import bad is (items, a, e) = bad items a

bracketed_only : (now rest : List Terminal) (i : Item) → at_item identifiers now ≡ Some (record { item = i; rest = rest }) → IsClosing rest → IsOnly (AreBracketed now) i
bracketed_only now rest i e closes = record { is = alone closes; one = λ is a. by_first is (bracketed_begin now is a) }
  where
    alone : IsClosing rest → AreBracketed now (i ∷ [])
    alone (by_bracket ts f) = bracketed_closed now i (e ∙ ap (λ x. Some (record { item = i; rest = x })) f)
    alone (by_comma ts f) = bracketed_comma now i (e ∙ ap (λ x. Some (record { item = i; rest = x })) f)

    closed_after : (after : List Terminal) → rest ≡ comma ∷ after → IsClosing rest → begins_closing after ≡ true
    closed_after after f (by_bracket ts g) = absurd (let h : closing ∷ [] ≡ comma ∷ after = sym g ∙ f in cc)
    closed_after after f (by_comma ts g) = let h : comma ∷ closing ∷ [] ≡ comma ∷ after = sym g ∙ f in let q : closing ∷ [] ≡ after = cc in sym (ap begins_closing q)

    by_first : (is : List Item) → BeginsBracketed now is → is ≡ i ∷ []
    by_first is (one_closed js j f s) = s ∙ ap (λ x. x ∷ []) (one_way identifiers now (record { item = j; rest = closing ∷ [] }) (record { item = i; rest = rest }) f e).0
    by_first is (one_comma js j f s) = s ∙ ap (λ x. x ∷ []) (one_way identifiers now (record { item = j; rest = comma ∷ closing ∷ [] }) (record { item = i; rest = rest }) f e).0
    by_first is (many_closed ks js j after f a s) = absurd (bracketed_none after (no_item_at_closing after (closed_after after (one_way identifiers now (record { item = i; rest = rest }) (record { item = j; rest = comma ∷ after }) e f).1 closes)) js a)

-- in brackets
pub bracketed_first : (m : ModulePath) (import : Item → Imported) (next : Stage) (now rest after : List Terminal) (i : Item) → at_item identifiers now ≡ Some (record { item = i; rest = rest }) → FollowsBracketed m rest (Some next) after → ((is : List Imported) → AreLeftAt (stage.Bracketed m) after is → ListsOf import (AreBracketed after) is) → ((is : List Imported) → ListsOf import (AreBracketed after) is → AreLeftAt (stage.Bracketed m) after is) → StartWith (ListsOf import (AreBracketed now)) (import i) (AreLeftAt next after)
bracketed_first m import next now rest after i e (inl (n, f, c)) to from =
    let g = lists_go_on AreBracketed import now after i (bracketed_goes_on now after i (e ∙ ap (λ x. Some (record { item = i; rest = x })) f) c) in
    subst (λ x. StartWith (ListsOf import (AreBracketed now)) (import i) (AreLeftAt x after)) (sym n) (record { puts = λ is a. g.puts is (to is a); takes = λ is a. let t = g.takes is a in (t.0, t.1, from t.0 t.2) })
bracketed_first m import next now rest after i e (inr (n, closes)) to from =
    subst (λ x. StartWith (ListsOf import (AreBracketed now)) (import i) (AreLeftAt x after)) (sym n) (lists_end (AreBracketed now) import i (bracketed_only now rest i e closes))

pub bracketed_fewer : (m : ModulePath) (next : Stage) (now rest after : List Terminal) (i : Item) → at_item identifiers now ≡ Some (record { item = i; rest = rest }) → FollowsBracketed m rest (Some next) after → most_left_at next after ≤ length now
bracketed_fewer m next now rest after i e (inl (n, f, c)) =
    let less : length after < length now = item_is_some identifiers now after i (e ∙ ap (λ x. Some (record { item = i; rest = x })) f) in
    let same : most_left_at next after ≡ suc (length after) = ap (λ x. most_left_at x after) n in
    omega (arith, same)
bracketed_fewer m next now rest after i e (inr (n, closes)) =
    let same : most_left_at next after ≡ 0 = ap (λ x. most_left_at x after) n in
    omega (arith, same)

-- the same lists have the same first item
pub first_of_same : (Before Others After : List Imported → Type 0) (o : Option ImportItem) → AreSameLists Before Others → IsFirstOfLists Others o After → IsFirstOfLists Before o After
first_of_same Before Others After None same first = λ is a. first is (same.to is a)
first_of_same Before Others After (Some i) same first = record { puts = λ is a. same.from (item_imported i ∷ is) (first.puts is a); takes = λ is a. first.takes is (same.to is a) }

pub lists_are_same : (Are Others : List Item → Type 0) (import : Item → Imported) → ((is : List Item) → Are is → Others is) → ((is : List Item) → Others is → Are is) → AreSameLists (ListsOf import Are) (ListsOf import Others)
lists_are_same Are Others import to from = record { to = goes; from = comes }
  where
    goes : (is : List Imported) → ListsOf import Are is → ListsOf import Others is
    goes is (items, a, e) = (items, to items a, e)

    comes : (is : List Imported) → ListsOf import Others is → ListsOf import Are is
    comes is (items, a, e) = (items, from items a, e)

-- names in brackets are what stands in the brackets
pub same_in_brackets : (import : Item → Imported) (ts rest : List Terminal) → ts ≡ opening ∷ rest → AreSameLists (ListsOf import (AreNames ts)) (ListsOf import (AreBracketed rest))
same_in_brackets import ts rest e = lists_are_same (AreNames ts) (AreBracketed rest) import (λ is a. opening_brackets ts is a rest e) (λ is a. subst (λ x. AreNames x is) (sym e) (bracketed rest is a))

-- names without brackets
pub plain_names_same : (import : Item → Imported) (ts : List Terminal) → begins_plain ts ≡ true → AreSameLists (ListsOf import (AreNames ts)) (ListsOf import (AreItems identifiers ts))
plain_names_same import ts e = lists_are_same (AreNames ts) (AreItems identifiers ts) import (λ is a. plain_only ts is a e) (λ is a. plain_names ts is a)

-- `*` alone
pub star_first : (import : Item → Imported) (ts rest : List Terminal) → ts ≡ star ∷ rest → rest ≡ [] → StartWith (ListsOf import (AreNames ts)) (import (record { path = codes "*"; alias = None })) (λ is. is ≡ [])
star_first import ts rest e n = lists_end (AreNames ts) import all (record { is = subst (λ x. AreNames x (all ∷ [])) (sym whole) all_names; one = one ts whole })
  where
    all : Item
    all = record { path = codes "*"; alias = None }

    whole : ts ≡ star ∷ []
    whole = e ∙ ap (λ x. star ∷ x) n

    one : (us : List Terminal) → us ≡ star ∷ [] → (is : List Item) → AreNames us is → is ≡ all ∷ []
    one us w is (plain_names u js a) = absurd (items_none identifiers (star ∷ []) refl is (subst (λ x. AreItems identifiers x is) w a))
    one us w is (bracketed u js a) = absurd (let z : ⊥ = cc in z)
    one us w is all_names = refl

-- and no list where something comes after it
pub star_by : (m : ModulePath) (ts rest : List Terminal) (o : Option ImportItem) (after : ImportItems) → ts ≡ star ∷ rest → ReadsStar m rest o after.stage → IsFirstOfLists (ListsFrom m (AreNames ts)) o (AreLeft after)
star_by m ts rest None after e h = no_lists (AreNames ts) (attribute_of (path_of m)) (star_bad ts rest e h)
star_by m ts rest (Some i) after e all =
    let first = star_first (attribute_of (path_of m)) ts rest e all.nothing in
    subst (λ j. StartWith (ListsFrom m (AreNames ts)) j (AreLeft after)) (sym all.star) (record { puts = λ is a. first.puts is (subst (λ s. AreLeftAt s (unread_of after.tokens) is) all.ended a); takes = λ is a. let t = first.takes is a in (t.0, t.1, subst (λ s. AreLeftAt s (unread_of after.tokens) t.0) (sym all.ended) t.2) })

-- what the names after `from .. import` import, the statement does
pub same_from : (before later : List Terminal) (w : List ℕ) → at_relative false before ≡ Some (record { spelled = w; rest = later }) → AreSameLists (IsImport (from_word ∷ before)) (ListsOf (attribute_of w) (AreNames later))
same_from before later w e = record { to = goes; from = comes }
  where
    goes : (is : List Imported) → IsImport (from_word ∷ before) is → ListsOf (attribute_of w) (AreNames later) is
    goes is i =
        let r = import_reads (from_word ∷ before) is i in
        let off = at_relative-sound before (record { spelled = w; rest = later }) e in
        let one = one_from r.0 off.from r.1 later r.4 off.is (sym r.3 ∙ off.split) in
        (r.2, subst (λ x. AreNames x r.2) one.1 r.5, r.6 ∙ ap (λ x. map (attribute_of x) r.2) (one.0 ∙ sym off.spelled))

    comes : (is : List Imported) → ListsOf (attribute_of w) (AreNames later) is → IsImport (from_word ∷ before) is
    comes is (items, a, s) =
        let off = at_relative-sound before (record { spelled = w; rest = later }) e in
        subst (IsImport (from_word ∷ before)) (sym (s ∙ ap (λ x. map (attribute_of x) items) off.spelled)) (from_statement (from_word ∷ before) off.from later items (ap (λ x. from_word ∷ x) off.split) off.is a)

-- less is left after a relative module
pub relative_shorter : (before later : List Terminal) (w : List ℕ) → at_relative false before ≡ Some (record { spelled = w; rest = later }) → length later ≤ length before
relative_shorter before later w e = let off = at_relative-sound before _ e in rw off.split (omega (arith, length-append off.from (import_word ∷ later)))

pub fewer_yet : (o : Option ImportItem) (n a b : ℕ) → IfSome o (λ _. n ≤ a) → a ≤ b → IfSome o (λ _. n ≤ b)
fewer_yet None n a b h k = tt
fewer_yet (Some i) n a b h k = omega (arith, h, k)

-- the closing bracket after an item, by whether anything comes after it
pub closing_by : (m : ModulePath) (before after rest : List Terminal) (o : Option Stage) → before ≡ closing ∷ rest → MatchOption o (rest ≢ []) (λ s. (s ≡ stage.End) × (rest ≡ [])) → FollowsBracketed m before o after
closing_by m before after rest None e h = record { not_closed = ends_alone before rest e h; stuck = λ more f. absurd (let z : closing ∷ rest ≡ comma ∷ more = sym e ∙ f in cc) }
closing_by m before after rest (Some s) e (end, n) = inr (end, by_bracket before (e ∙ ap (λ x. closing ∷ x) n))

-- and a comma and that bracket
pub comma_closing_by : (m : ModulePath) (before mid after rest : List Terminal) (o : Option Stage) → before ≡ comma ∷ mid → mid ≡ closing ∷ rest → MatchOption o (rest ≢ []) (λ s. (s ≡ stage.End) × (rest ≡ [])) → FollowsBracketed m before o after
comma_closing_by m before mid after rest None e f h = record { not_closed = ends_alone-comma before rest (e ∙ ap (λ x. comma ∷ x) f) h; stuck = λ more g. closing_first more (sym e ∙ g) }
  where
    closing_first : (more : List Terminal) → comma ∷ mid ≡ comma ∷ more → begins_closing more ≡ true
    closing_first more g = let q : mid ≡ more = cc in ap begins_closing (sym q ∙ f)
comma_closing_by m before mid after rest (Some s) e f (end, n) = inr (end, by_comma before (e ∙ ap (λ x. comma ∷ x) (f ∙ ap (λ x. closing ∷ x) n)))

-- something else after an item in brackets
pub out_of_brackets : (after : Lexeme) (before rest : List Terminal) → before ≡ lexeme_then after rest → after ≢ lexeme.Comma → after ≢ lexeme.Closing → IsOutOfBrackets before
out_of_brackets after before rest e h n =
    let c : begins_comma before ≡ false = ap begins_comma e ∙ no_comma after rest h in
    record { not_closed = neither_ends before c (ap begins_closing e ∙ no_closing after rest n); stuck = comma_not_first before c }

-- the first item, by the stage
pub first_by_stage : (r : ImportItems) (s : Stage) (o p : Option ImportItem) (after now : ImportItems) → r.stage ≡ s → p ≡ o → now ≡ after → IsFirstOfLists (AreLeftAt s (unread_of r.tokens)) o (AreLeft after) → IsFirstOfLists (AreLeft r) p (AreLeft now)
first_by_stage r s o p after now e f g h = subst (λ x. IsFirstOfLists (AreLeftAt x (unread_of r.tokens)) p (AreLeft now)) (sym e) (subst (λ x. IsFirstOfLists (AreLeftAt s (unread_of r.tokens)) x (AreLeft now)) (sym f) (subst (λ x. IsFirstOfLists (AreLeftAt s (unread_of r.tokens)) o (AreLeft x)) (sym g) h))

-- the reader's answer, by its next item
pub next_some : (Before After : List Imported → Type 0) (o : Option ImportItem) (i : ImportItem) → o ≡ Some i → IsFirstOfLists Before o After → StartWith Before (item_imported i) After
next_some Before After o i e h = subst (λ x. IsFirstOfLists Before x After) e h

pub next_none : (Before After : List Imported → Type 0) (o : Option ImportItem) → o ≡ None → IsFirstOfLists Before o After → (is : List Imported) → ¬ (Before is)
next_none Before After o e h = subst (λ x. IsFirstOfLists Before x After) e h

-- and so do the modules after `import`
pub same_import : (rest : List Terminal) → AreSameLists (IsImport (import_word ∷ rest)) (ListsOf whole_module (AreItems modules rest))
same_import rest = record { to = λ is i. import_reads (import_word ∷ rest) is i; from = comes }
  where
    comes : (is : List Imported) → ListsOf whole_module (AreItems modules rest) is → IsImport (import_word ∷ rest) is
    comes is (items, a, e) = subst (IsImport (import_word ∷ rest)) (sym e) (import_statement rest items a)

-- these imports were read of lists that begin so, and this is left of them
pub record AreRead (Before Now : List Imported → Type 0) (done : List Imported) : Type 0 where
  pub closes : (js : List Imported) → Now js → Before (done ++ js)
  pub splits : (is : List Imported) → Before is → (js : List Imported) × (is ≡ done ++ js) × Now js

pub one_more_read : (Before Now After : List Imported → Type 0) (done : List Imported) (i : Imported) → AreRead Before Now done → StartWith Now i After → AreRead Before After (done ++ i ∷ [])
one_more_read Before Now After done i r s = record {
  closes = λ js a. subst Before (sym (append_assoc done (i ∷ []) js)) (r.closes (i ∷ js) (s.puts js a));
  splits = λ is a. let t = r.splits is a in let u = s.takes t.0 t.2 in (u.0, t.1 ∙ ap (λ x. done ++ x) u.1 ∙ sym (append_assoc done (i ∷ []) u.0), u.2);
}
