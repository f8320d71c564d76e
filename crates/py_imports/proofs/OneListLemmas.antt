-- A statement binds one list.
use Rattle.std.proofs.Common.{◌≡◌, Bool, true, false, None, Some, List, [], ◌∷◌, ◌++◌, map, codes, refl, sym, ap, ◌∙◌, subst, append_assoc}
use Rattle.std.proofs.lemmas.List.{append-nil}
use Rattle.py_imports.specs.Grammar.{Terminal, import_word, from_word, as_word, name, dot, comma, star, opening, closing, other, spelling, NameKind, modules, identifiers, Item, AreItems, last, then, AreBracketed, closed, closed_after_comma, AreNames, plain_names, bracketed, all_names, whole_module, attribute_of, Imported, IsImport}
use Rattle.py_imports.specs.Private.Items.{begins_closing}
use Rattle.py_imports.specs.Private.Parsing.{at_item}
use Rattle.py_imports.proofs.ItemLemmas.{at_item-whole, ListStarts, one_item, many, items_begin, BeginsBracketed, one_closed, one_comma, many_closed, bracketed_begin}
use Rattle.py_imports.proofs.ListLemmas.{one_way, no_item_at_closing, bracketed_none, items_none, items_go_on, bracketed_goes_on}
use Rattle.py_imports.proofs.NamesLemmas.{opening_brackets}
use Rattle.py_imports.proofs.StatementLemmas.{ImportsBy, import_reads, one_from}

-- a list that is read to its end by one item has no other
one_alone : (k : NameKind) (ts : List Terminal) (i : Item) (js : List Item) → at_item k ts ≡ Some (record { item = i; rest = [] }) → ListStarts k ts js → js ≡ i ∷ []
one_alone k ts i js e (one_item is j f s) = let h = one_way k ts (record { item = i; rest = [] }) (record { item = j; rest = [] }) e f in s ∙ ap (λ x. x ∷ []) (sym h.0)
one_alone k ts i js e (many is ks j rest f a s) = let h : [] ≡ comma ∷ rest = (one_way k ts (record { item = i; rest = [] }) (record { item = j; rest = comma ∷ rest }) e f).1 in absurd (let z : ⊥ = cc in z)

one_items : (k : NameKind) (ts : List Terminal) (is js : List Item) → AreItems k ts is → AreItems k ts js → is ≡ js
one_items k ts is js (last l t i p) b = sym (one_alone k ts i js (ap (at_item k) (sym (append-nil ts)) ∙ at_item-whole k ts i p [] refl) (items_begin k ts js b))
one_items k ts is js (then l t first rest i others e p a) b =
    let read = ap (at_item k) e ∙ at_item-whole k first i p (comma ∷ rest) refl in
    let goes = items_go_on k ts rest i read in
    let t = goes.takes js b in
    ap (λ x. i ∷ x) (one_items k rest others t.0 a t.2) ∙ sym t.1

not_closing-by : (ts : List Terminal) (is : List Item) (b : Bool) → begins_closing ts ≡ b → AreBracketed ts is → begins_closing ts ≡ false
not_closing-by ts is false e a = e
not_closing-by ts is true e a = absurd (bracketed_none ts (no_item_at_closing ts e) is a)

not_closing : (ts : List Terminal) (is : List Item) → AreBracketed ts is → begins_closing ts ≡ false
not_closing ts is a = not_closing-by ts is (begins_closing ts) refl a

one_closed_alone : (ts : List Terminal) (i : Item) (js : List Item) → at_item identifiers ts ≡ Some (record { item = i; rest = closing ∷ [] }) → BeginsBracketed ts js → js ≡ i ∷ []
one_closed_alone ts i js e (one_closed is j f s) = let h = one_way identifiers ts (record { item = i; rest = closing ∷ [] }) (record { item = j; rest = closing ∷ [] }) e f in s ∙ ap (λ x. x ∷ []) (sym h.0)
one_closed_alone ts i js e (one_comma is j f s) = let h : closing ∷ [] ≡ comma ∷ closing ∷ [] = (one_way identifiers ts (record { item = i; rest = closing ∷ [] }) (record { item = j; rest = comma ∷ closing ∷ [] }) e f).1 in absurd (let z : ⊥ = cc in z)
one_closed_alone ts i js e (many_closed is ks j rest f a s) = let h : closing ∷ [] ≡ comma ∷ rest = (one_way identifiers ts (record { item = i; rest = closing ∷ [] }) (record { item = j; rest = comma ∷ rest }) e f).1 in absurd (let z : ⊥ = cc in z)

one_comma_alone : (ts : List Terminal) (i : Item) (js : List Item) → at_item identifiers ts ≡ Some (record { item = i; rest = comma ∷ closing ∷ [] }) → BeginsBracketed ts js → js ≡ i ∷ []
one_comma_alone ts i js e (one_closed is j f s) = let h : comma ∷ closing ∷ [] ≡ closing ∷ [] = (one_way identifiers ts (record { item = i; rest = comma ∷ closing ∷ [] }) (record { item = j; rest = closing ∷ [] }) e f).1 in absurd (let z : ⊥ = cc in z)
one_comma_alone ts i js e (one_comma is j f s) = let h = one_way identifiers ts (record { item = i; rest = comma ∷ closing ∷ [] }) (record { item = j; rest = comma ∷ closing ∷ [] }) e f in s ∙ ap (λ x. x ∷ []) (sym h.0)
one_comma_alone ts i js e (many_closed is ks j rest f a s) =
    let h : comma ∷ closing ∷ [] ≡ comma ∷ rest = (one_way identifiers ts (record { item = i; rest = comma ∷ closing ∷ [] }) (record { item = j; rest = comma ∷ rest }) e f).1 in
    let g : rest ≡ closing ∷ [] = cc in
    let c : begins_closing rest ≡ true = ap begins_closing g in
    absurd (bracketed_none rest (no_item_at_closing rest c) ks a)

-- the same in brackets, by the identifiers of one of the two
one_bracketed-closed : (items : List Terminal) (is js : List Item) → AreItems identifiers items is → AreBracketed (items ++ closing ∷ []) js → is ≡ js
one_bracketed-closed items is js (last l t i p) b = sym (one_closed_alone (items ++ closing ∷ []) i js (at_item-whole identifiers items i p (closing ∷ []) refl) (bracketed_begin (items ++ closing ∷ []) js b))
one_bracketed-closed items is js (then l t first rest i others e p a) b =
    let read = ap (λ x. at_item identifiers (x ++ closing ∷ [])) e ∙ ap (at_item identifiers) (append_assoc first (comma ∷ rest) (closing ∷ [])) ∙ at_item-whole identifiers first i p (comma ∷ rest ++ closing ∷ []) refl in
    let goes = bracketed_goes_on (items ++ closing ∷ []) (rest ++ closing ∷ []) i read (not_closing (rest ++ closing ∷ []) others (closed _ rest others refl a)) in
    let t = goes.takes js b in
    ap (λ x. i ∷ x) (one_bracketed-closed rest others t.0 a t.2) ∙ sym t.1

one_bracketed-comma : (items : List Terminal) (is js : List Item) → AreItems identifiers items is → AreBracketed (items ++ comma ∷ closing ∷ []) js → is ≡ js
one_bracketed-comma items is js (last l t i p) b = sym (one_comma_alone (items ++ comma ∷ closing ∷ []) i js (at_item-whole identifiers items i p (comma ∷ closing ∷ []) refl) (bracketed_begin (items ++ comma ∷ closing ∷ []) js b))
one_bracketed-comma items is js (then l t first rest i others e p a) b =
    let read = ap (λ x. at_item identifiers (x ++ comma ∷ closing ∷ [])) e ∙ ap (at_item identifiers) (append_assoc first (comma ∷ rest) (comma ∷ closing ∷ [])) ∙ at_item-whole identifiers first i p (comma ∷ rest ++ comma ∷ closing ∷ []) refl in
    let goes = bracketed_goes_on (items ++ comma ∷ closing ∷ []) (rest ++ comma ∷ closing ∷ []) i read (not_closing (rest ++ comma ∷ closing ∷ []) others (closed_after_comma _ rest others refl a)) in
    let t = goes.takes js b in
    ap (λ x. i ∷ x) (one_bracketed-comma rest others t.0 a t.2) ∙ sym t.1

one_bracketed : (ts : List Terminal) (is js : List Item) → AreBracketed ts is → AreBracketed ts js → is ≡ js
one_bracketed ts is js (closed t items ks e a) b = one_bracketed-closed items is js a (subst (λ x. AreBracketed x js) e b)
one_bracketed ts is js (closed_after_comma t items ks e a) b = one_bracketed-comma items is js a (subst (λ x. AreBracketed x js) e b)

one_plain : (ts : List Terminal) (is js : List Item) → AreItems identifiers ts is → AreNames ts js → is ≡ js
one_plain ts is js a (plain_names t ks c) = one_items identifiers ts is js a c
one_plain ts is js a (bracketed t ks c) = absurd (items_none identifiers (opening ∷ t) refl is a)
one_plain ts is js a all_names = absurd (items_none identifiers (star ∷ []) refl is a)

one_star : (ts : List Terminal) (js : List Item) → AreNames ts js → ts ≡ star ∷ [] → record { path = codes "*"; alias = None } ∷ [] ≡ js
one_star ts js (plain_names t ks c) e = absurd (items_none identifiers (star ∷ []) refl js (subst (λ x. AreItems identifiers x js) e c))
one_star ts js (bracketed t ks c) e = absurd (let z : ⊥ = cc in z)
one_star ts js all_names e = refl

one_names : (ts : List Terminal) (is js : List Item) → AreNames ts is → AreNames ts js → is ≡ js
one_names ts is js (plain_names t ks a) b = one_plain ts is js a b
one_names ts is js (bracketed t ks a) b = one_bracketed t is js a (opening_brackets (opening ∷ t) js b t refl)
one_names ts is js all_names b = one_star (star ∷ []) js b refl

one_reads : (ts : List Terminal) (is js : List Imported) → ImportsBy ts is → ImportsBy ts js → is ≡ js
one_reads (import_word ∷ rest) is js a b = a.2 ∙ ap (map whole_module) (one_items modules rest a.0 b.0 a.1 b.1) ∙ sym b.2
one_reads (from_word ∷ rest) is js a b =
    let one = one_from a.0 b.0 a.1 b.1 a.4 b.4 (sym a.3 ∙ b.3) in
    let items = one_names b.1 a.2 b.2 (subst (λ x. AreNames x a.2) one.1 a.5) b.5 in
    a.6 ∙ ap (λ s. map (attribute_of s) a.2) one.0 ∙ ap (map (attribute_of (spelling b.0))) items ∙ sym b.6
one_reads [] is js a b = absurd a
one_reads (as_word ∷ rest) is js a b = absurd a
one_reads (name w ∷ rest) is js a b = absurd a
one_reads (dot ∷ rest) is js a b = absurd a
one_reads (comma ∷ rest) is js a b = absurd a
one_reads (star ∷ rest) is js a b = absurd a
one_reads (opening ∷ rest) is js a b = absurd a
one_reads (closing ∷ rest) is js a b = absurd a
one_reads (other ∷ rest) is js a b = absurd a

-- the grammar relates a statement to one list of bindings
pub one_import : (ts : List Terminal) (is js : List Imported) → IsImport ts is → IsImport ts js → is ≡ js
one_import ts is js p q = one_reads ts is js (import_reads ts is p) (import_reads ts js q)
