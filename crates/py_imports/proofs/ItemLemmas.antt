-- The program's reading of lists of items is the grammar's.
use Rattle.std.proofs.Common.{◌≡◌, ℕ, Bool, true, false, None, Some, option_and_then, List, [], ◌∷◌, ◌++◌, refl, sym, ap, ◌∙◌, subst, append_assoc}
use Rattle.std.proofs.lemmas.List.{append-nil}
use Rattle.py_imports.specs.Grammar.{Terminal, import_word, from_word, as_word, name, dot, comma, star, opening, closing, other, spelling, NameKind, modules, identifiers, IsPath, Item, IsItem, plain, renamed, AreItems, last, then, AreBracketed, closed, closed_after_comma}
use Rattle.py_imports.specs.Private.Lexemes.{begins_dot}
use Rattle.py_imports.specs.Private.Parsing.{ReadText, ItemRead, named_alias, alias_after, at_identifier, at_path, at_item}
use Rattle.py_imports.proofs.ModuleLemmas.{at_module-whole, at_module-sound, option_and_then-some}

-- whether an item goes on here: by a dot or its alias
abbrev pub item_goes_on : List Terminal → Bool
item_goes_on (dot ∷ ts) = true
item_goes_on (as_word ∷ ts) = true
item_goes_on _ = false

no_dot_where_ended : (ts : List Terminal) → item_goes_on ts ≡ false → begins_dot ts ≡ false
no_dot_where_ended [] e = refl
no_dot_where_ended (dot ∷ ts) e = absurd cc
no_dot_where_ended (import_word ∷ ts) e = refl
no_dot_where_ended (from_word ∷ ts) e = refl
no_dot_where_ended (as_word ∷ ts) e = refl
no_dot_where_ended (name w ∷ ts) e = refl
no_dot_where_ended (comma ∷ ts) e = refl
no_dot_where_ended (star ∷ ts) e = refl
no_dot_where_ended (opening ∷ ts) e = refl
no_dot_where_ended (closing ∷ ts) e = refl
no_dot_where_ended (other ∷ ts) e = refl

at_path-whole : (k : NameKind) (path : List Terminal) → IsPath k path → (rest : List Terminal) → begins_dot rest ≡ false → at_path k (path ++ rest) ≡ Some (record { spelled = spelling path; rest = rest })
at_path-whole modules path m rest e = at_module-whole path m rest e
at_path-whole identifiers path (w, p) rest e = ap (λ x. at_identifier (x ++ rest)) p ∙ ap (λ s. Some (record { spelled = s; rest = rest })) (sym (append-nil w) ∙ ap spelling (sym p))

alias_behind-none : (path : List ℕ) (ts : List Terminal) → item_goes_on ts ≡ false → alias_after path ts ≡ Some (record { item = record { path = path; alias = None }; rest = ts })
alias_behind-none path [] e = refl
alias_behind-none path (dot ∷ ts) e = refl
alias_behind-none path (import_word ∷ ts) e = refl
alias_behind-none path (from_word ∷ ts) e = refl
alias_behind-none path (as_word ∷ ts) e = absurd cc
alias_behind-none path (name w ∷ ts) e = refl
alias_behind-none path (comma ∷ ts) e = refl
alias_behind-none path (star ∷ ts) e = refl
alias_behind-none path (opening ∷ ts) e = refl
alias_behind-none path (closing ∷ ts) e = refl
alias_behind-none path (other ∷ ts) e = refl

-- an item is read whole, where nothing after it belongs to it
pub at_item-whole : (k : NameKind) (ts : List Terminal) (i : Item) → IsItem k ts i → (rest : List Terminal) → item_goes_on rest ≡ false → at_item k (ts ++ rest) ≡ Some (record { item = i; rest = rest })
at_item-whole k ts i (plain l t j p e) rest h =
    ap (option_and_then (λ r. alias_after r.spelled r.rest)) (at_path-whole k ts p rest (no_dot_where_ended rest h)) ∙ alias_behind-none (spelling ts) rest h ∙ ap (λ x. Some (record { item = x; rest = rest })) (sym e)
at_item-whole k ts i (renamed l t path w j s p e) rest h =
    ap (at_item k) (ap (λ x. x ++ rest) s ∙ append_assoc path (as_word ∷ name w ∷ []) rest) ∙ ap (option_and_then (λ r. alias_after r.spelled r.rest)) (at_path-whole k path p (as_word ∷ name w ∷ rest) refl) ∙ ap (λ x. Some (record { item = x; rest = rest })) (sym e)

-- these terminals begin with such a path
record ReadsOffPath (k : NameKind) (ts : List Terminal) (r : ReadText) : Type 0 where
  pub path : List Terminal
  pub split : ts ≡ path ++ r.rest
  pub is : IsPath k path
  pub spelled : r.spelled ≡ spelling path

at_path-sound : (k : NameKind) (ts : List Terminal) (r : ReadText) → at_path k ts ≡ Some r → ReadsOffPath k ts r
at_path-sound modules ts r e = let off = at_module-sound ts r e in record { path = off.path; split = off.split; is = off.is; spelled = off.spelled }
at_path-sound identifiers (name w ∷ ts) r e =
    let f : record { spelled = w; rest = ts } ≡ r = cc in
    subst (ReadsOffPath identifiers (name w ∷ ts)) f (record { path = name w ∷ []; split = refl; is = (w, refl); spelled = sym (append-nil w) })
at_path-sound identifiers ts r e = absurd cc

-- these terminals begin with such an item
pub record ReadsOffItem (k : NameKind) (ts : List Terminal) (r : ItemRead) : Type 0 where
  pub front : List Terminal
  pub split : ts ≡ front ++ r.rest
  pub is : IsItem k front r.item

bare : (k : NameKind) (ts path rest : List Terminal) (spelled : List ℕ) (r : ItemRead) → ts ≡ path ++ rest → IsPath k path → spelled ≡ spelling path → Some (record { item = record { path = spelled; alias = None }; rest = rest }) ≡ Some r → ReadsOffItem k ts r
bare k ts path rest spelled r split is s e =
    let f : record { item = record { path = spelled; alias = None }; rest = rest } ≡ r = cc in
    subst (ReadsOffItem k ts) f (record { front = path; split = split; is = plain k path _ is (ap (λ x. record { path = x; alias = None }) s) })

aliased : (k : NameKind) (ts path rest : List Terminal) (spelled : List ℕ) (r : ItemRead) → ts ≡ path ++ as_word ∷ rest → IsPath k path → spelled ≡ spelling path → named_alias spelled rest ≡ Some r → ReadsOffItem k ts r
aliased k ts path (name w ∷ rest) spelled r split is s e =
    let f : record { item = record { path = spelled; alias = Some w }; rest = rest } ≡ r = cc in
    subst (ReadsOffItem k ts) f (record { front = path ++ as_word ∷ name w ∷ []; split = split ∙ sym (append_assoc path (as_word ∷ name w ∷ []) rest); is = renamed k _ path w _ refl is (ap (λ x. record { path = x; alias = Some w }) s) })
aliased k ts path [] spelled r split is s e = absurd cc
aliased k ts path (import_word ∷ rest) spelled r split is s e = absurd cc
aliased k ts path (from_word ∷ rest) spelled r split is s e = absurd cc
aliased k ts path (as_word ∷ rest) spelled r split is s e = absurd cc
aliased k ts path (dot ∷ rest) spelled r split is s e = absurd cc
aliased k ts path (comma ∷ rest) spelled r split is s e = absurd cc
aliased k ts path (star ∷ rest) spelled r split is s e = absurd cc
aliased k ts path (opening ∷ rest) spelled r split is s e = absurd cc
aliased k ts path (closing ∷ rest) spelled r split is s e = absurd cc
aliased k ts path (other ∷ rest) spelled r split is s e = absurd cc

behind_path : (k : NameKind) (ts path rest : List Terminal) (spelled : List ℕ) (r : ItemRead) → ts ≡ path ++ rest → IsPath k path → spelled ≡ spelling path → alias_after spelled rest ≡ Some r → ReadsOffItem k ts r
behind_path k ts path (as_word ∷ rest) spelled r split is s e = aliased k ts path rest spelled r split is s e
behind_path k ts path [] spelled r split is s e = bare k ts path [] spelled r split is s e
behind_path k ts path (import_word ∷ rest) spelled r split is s e = bare k ts path (import_word ∷ rest) spelled r split is s e
behind_path k ts path (from_word ∷ rest) spelled r split is s e = bare k ts path (from_word ∷ rest) spelled r split is s e
behind_path k ts path (name w ∷ rest) spelled r split is s e = bare k ts path (name w ∷ rest) spelled r split is s e
behind_path k ts path (dot ∷ rest) spelled r split is s e = bare k ts path (dot ∷ rest) spelled r split is s e
behind_path k ts path (comma ∷ rest) spelled r split is s e = bare k ts path (comma ∷ rest) spelled r split is s e
behind_path k ts path (star ∷ rest) spelled r split is s e = bare k ts path (star ∷ rest) spelled r split is s e
behind_path k ts path (opening ∷ rest) spelled r split is s e = bare k ts path (opening ∷ rest) spelled r split is s e
behind_path k ts path (closing ∷ rest) spelled r split is s e = bare k ts path (closing ∷ rest) spelled r split is s e
behind_path k ts path (other ∷ rest) spelled r split is s e = bare k ts path (other ∷ rest) spelled r split is s e

-- what is read of an item is one
pub at_item-sound : (k : NameKind) (ts : List Terminal) (r : ItemRead) → at_item k ts ≡ Some r → ReadsOffItem k ts r
at_item-sound k ts r e =
    let inner = option_and_then-some (λ x. alias_after x.spelled x.rest) (at_path k ts) r e in
    let off = at_path-sound k ts inner.0 inner.1 in
    behind_path k ts off.path inner.0.rest inner.0.spelled r off.split off.is off.spelled inner.2

-- how a list of items begins: with its last item, or with one that a comma follows
pub data ListStarts (k : NameKind) (ts : List Terminal) : List Item → Type 0 where
  one_item : (is : List Item) (i : Item) → at_item k ts ≡ Some (record { item = i; rest = [] }) → is ≡ i ∷ [] → ListStarts k ts is
  many : (is js : List Item) (i : Item) (rest : List Terminal) → at_item k ts ≡ Some (record { item = i; rest = comma ∷ rest }) → AreItems k rest js → is ≡ i ∷ js → ListStarts k ts is

pub items_begin : (k : NameKind) (ts : List Terminal) (is : List Item) → AreItems k ts is → ListStarts k ts is
items_begin k ts is (last l t i p) = one_item _ i (ap (at_item k) (sym (append-nil ts)) ∙ at_item-whole k ts i p [] refl) refl
items_begin k ts is (then l t first rest i js e p others) = many _ js i rest (ap (at_item k) e ∙ at_item-whole k first i p (comma ∷ rest) refl) others refl

-- an item at the end is a list
pub items_last : (k : NameKind) (ts : List Terminal) (i : Item) → at_item k ts ≡ Some (record { item = i; rest = [] }) → AreItems k ts (i ∷ [])
items_last k ts i e = let off = at_item-sound k ts _ e in last k ts i (subst (λ x. IsItem k x i) (sym (off.split ∙ append-nil off.front)) off.is)

-- an item before a comma and a list is a list
pub items_then : (k : NameKind) (ts rest : List Terminal) (i : Item) (is : List Item) → at_item k ts ≡ Some (record { item = i; rest = comma ∷ rest }) → AreItems k rest is → AreItems k ts (i ∷ is)
items_then k ts rest i is e others = let off = at_item-sound k ts _ e in then k ts off.front rest i is off.split off.is others

-- how identifiers in brackets begin: with the last item, which the bracket or a comma and the bracket follow, or with
-- one that a comma and others follow
pub data BeginsBracketed (ts : List Terminal) : List Item → Type 0 where
  one_closed : (is : List Item) (i : Item) → at_item identifiers ts ≡ Some (record { item = i; rest = closing ∷ [] }) → is ≡ i ∷ [] → BeginsBracketed ts is
  one_comma : (is : List Item) (i : Item) → at_item identifiers ts ≡ Some (record { item = i; rest = comma ∷ closing ∷ [] }) → is ≡ i ∷ [] → BeginsBracketed ts is
  many_closed : (is js : List Item) (i : Item) (rest : List Terminal) → at_item identifiers ts ≡ Some (record { item = i; rest = comma ∷ rest }) → AreBracketed rest js → is ≡ i ∷ js → BeginsBracketed ts is

bracketed_begin-closed : (items : List Terminal) (is : List Item) → AreItems identifiers items is → BeginsBracketed (items ++ closing ∷ []) is
bracketed_begin-closed items is (last l t i p) = one_closed _ i (at_item-whole identifiers items i p (closing ∷ []) refl) refl
bracketed_begin-closed items is (then l t first rest i js e p others) = many_closed _ js i (rest ++ closing ∷ []) (ap (λ x. at_item identifiers (x ++ closing ∷ [])) e ∙ ap (at_item identifiers) (append_assoc first (comma ∷ rest) (closing ∷ [])) ∙ at_item-whole identifiers first i p (comma ∷ rest ++ closing ∷ []) refl) (closed _ rest js refl others) refl

bracketed_begin-comma : (items : List Terminal) (is : List Item) → AreItems identifiers items is → BeginsBracketed (items ++ comma ∷ closing ∷ []) is
bracketed_begin-comma items is (last l t i p) = one_comma _ i (at_item-whole identifiers items i p (comma ∷ closing ∷ []) refl) refl
bracketed_begin-comma items is (then l t first rest i js e p others) = many_closed _ js i (rest ++ comma ∷ closing ∷ []) (ap (λ x. at_item identifiers (x ++ comma ∷ closing ∷ [])) e ∙ ap (at_item identifiers) (append_assoc first (comma ∷ rest) (comma ∷ closing ∷ [])) ∙ at_item-whole identifiers first i p (comma ∷ rest ++ comma ∷ closing ∷ []) refl) (closed_after_comma _ rest js refl others) refl

pub bracketed_begin : (ts : List Terminal) (is : List Item) → AreBracketed ts is → BeginsBracketed ts is
bracketed_begin ts is (closed t items js e a) = subst (λ x. BeginsBracketed x is) (sym e) (bracketed_begin-closed items is a)
bracketed_begin ts is (closed_after_comma t items js e a) = subst (λ x. BeginsBracketed x is) (sym e) (bracketed_begin-comma items is a)

-- an item before the bracket
pub bracketed_closed : (ts : List Terminal) (i : Item) → at_item identifiers ts ≡ Some (record { item = i; rest = closing ∷ [] }) → AreBracketed ts (i ∷ [])
bracketed_closed ts i e = let off = at_item-sound identifiers ts _ e in closed ts off.front _ off.split (last identifiers off.front i off.is)

-- an item before a comma and the bracket
pub bracketed_comma : (ts : List Terminal) (i : Item) → at_item identifiers ts ≡ Some (record { item = i; rest = comma ∷ closing ∷ [] }) → AreBracketed ts (i ∷ [])
bracketed_comma ts i e = let off = at_item-sound identifiers ts _ e in closed_after_comma ts off.front _ off.split (last identifiers off.front i off.is)

behind_item : (ts rest : List Terminal) (i : Item) (is : List Item) (front : List Terminal) → ts ≡ front ++ comma ∷ rest → IsItem identifiers front i → AreBracketed rest is → AreBracketed ts (i ∷ is)
behind_item ts rest i is front split item (closed t items js e a) = closed ts (front ++ comma ∷ items) _ (split ∙ ap (λ x. front ++ comma ∷ x) e ∙ sym (append_assoc front (comma ∷ items) (closing ∷ []))) (then identifiers _ front items i is refl item a)
behind_item ts rest i is front split item (closed_after_comma t items js e a) = closed_after_comma ts (front ++ comma ∷ items) _ (split ∙ ap (λ x. front ++ comma ∷ x) e ∙ sym (append_assoc front (comma ∷ items) (comma ∷ closing ∷ []))) (then identifiers _ front items i is refl item a)

-- an item before a comma and others in brackets
pub bracketed_then : (ts rest : List Terminal) (i : Item) (is : List Item) → at_item identifiers ts ≡ Some (record { item = i; rest = comma ∷ rest }) → AreBracketed rest is → AreBracketed ts (i ∷ is)
bracketed_then ts rest i is e others = let off = at_item-sound identifiers ts _ e in behind_item ts rest i is off.front off.split off.is others
