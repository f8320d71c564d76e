-- How lists of items go on after their first item.
use Rattle.std.proofs.Common.{◌≡◌, ◌≢◌, ◌<◌, Bool, true, false, None, Some, List, [], ◌∷◌, length, refl, sym, ap, ◌∙◌, subst, arith, length-append}
use Rattle.py_imports.specs.Grammar.{Terminal, import_word, from_word, as_word, name, dot, comma, star, opening, closing, other, NameKind, identifiers, Item, AreItems, AreBracketed}
use Rattle.py_imports.specs.Private.Parsing.{ItemRead, at_item}
use Rattle.py_imports.specs.Private.Lexemes.{lexeme_then}
use Rattle.py_imports.specs.Private.Items.{may_follow, begins_closing, IsClosing, by_bracket, by_comma}
use Rattle.py_imports.specs.declared.lexeme.Lexeme.{Lexeme}
use Rattle.py_imports.specs.declared.lexeme.Lexeme.TheVariants as lexeme
use Rattle.py_imports.proofs.ItemLemmas.{at_item-sound, ListStarts, one_item, many, items_begin, items_then, BeginsBracketed, one_closed, one_comma, many_closed, bracketed_begin, bracketed_then}

-- a list that goes on so: an item, and a list of what is left
pub record ListGoesOn (Are : List Terminal → List Item → Type 0) (now rest : List Terminal) (i : Item) : Type 0 where
  pub puts : (js : List Item) → Are rest js → Are now (i ∷ js)
  pub takes : (is : List Item) → Are now is → (js : List Item) × (is ≡ i ∷ js) × Are rest js

-- two readings from one place are the same
pub one_way : (k : NameKind) (now : List Terminal) (a b : ItemRead) → at_item k now ≡ Some a → at_item k now ≡ Some b → (a.item ≡ b.item) × (a.rest ≡ b.rest)
one_way k now a b e f =
    let g : Some a ≡ Some b = sym e ∙ f in
    let h : a ≡ b = cc in
    (ap (λ x. x.item) h, ap (λ x. x.rest) h)

no_way : (k : NameKind) (now : List Terminal) (a : ItemRead) → at_item k now ≡ None → at_item k now ≡ Some a → ⊥
no_way k now a e f = let g : None ≡ Some a = sym e ∙ f in cc

takes_items : (k : NameKind) (now rest : List Terminal) (i : Item) → at_item k now ≡ Some (record { item = i; rest = comma ∷ rest }) → (is : List Item) → ListStarts k now is → (js : List Item) × (is ≡ i ∷ js) × AreItems k rest js
takes_items k now rest i e is (one_item js j f s) = absurd (let h = one_way k now (record { item = i; rest = comma ∷ rest }) (record { item = j; rest = [] }) e f in let q : comma ∷ rest ≡ [] = h.1 in cc)
takes_items k now rest i e is (many ks js j after f a s) =
    let h = one_way k now (record { item = i; rest = comma ∷ rest }) (record { item = j; rest = comma ∷ after }) e f in
    let t : comma ∷ rest ≡ comma ∷ after = h.1 in
    let q : after ≡ rest = cc in
    (js, s ∙ ap (λ x. x ∷ js) (sym h.0), subst (λ x. AreItems k x js) q a)

-- items go on after a comma
pub items_go_on : (k : NameKind) (now rest : List Terminal) (i : Item) → at_item k now ≡ Some (record { item = i; rest = comma ∷ rest }) → ListGoesOn (AreItems k) now rest i
items_go_on k now rest i e = record { puts = λ js a. items_then k now rest i js e a; takes = λ is a. takes_items k now rest i e is (items_begin k now is a) }

begins_no_import : (k : NameKind) (now : List Terminal) (is : List Item) → ListStarts k now is → at_item k now ≡ None → ⊥
begins_no_import k now is (one_item js j f s) e = no_way k now (record { item = j; rest = [] }) e f
begins_no_import k now is (many ks js j after f b s) e = no_way k now (record { item = j; rest = comma ∷ after }) e f

begins_bad : (k : NameKind) (now rest : List Terminal) (i : Item) (is : List Item) → ListStarts k now is → at_item k now ≡ Some (record { item = i; rest = rest }) → may_follow rest ≡ false → ⊥
begins_bad k now rest i is (one_item js j f s) e h =
    let q : rest ≡ [] = (one_way k now (record { item = i; rest = rest }) (record { item = j; rest = [] }) e f).1 in
    let t : may_follow rest ≡ true = ap may_follow q in cc
begins_bad k now rest i is (many ks js j after f b s) e h =
    let q : rest ≡ comma ∷ after = (one_way k now (record { item = i; rest = rest }) (record { item = j; rest = comma ∷ after }) e f).1 in
    let t : may_follow rest ≡ true = ap may_follow q in cc

-- there is no list where no item is read
pub items_none : (k : NameKind) (now : List Terminal) → at_item k now ≡ None → (is : List Item) → ¬ (AreItems k now is)
items_none k now e is a = begins_no_import k now is (items_begin k now is a) e

-- nor where something else follows the item
pub items_bad : (k : NameKind) (now rest : List Terminal) (i : Item) → at_item k now ≡ Some (record { item = i; rest = rest }) → may_follow rest ≡ false → (is : List Item) → ¬ (AreItems k now is)
items_bad k now rest i e h is a = begins_bad k now rest i is (items_begin k now is a) e h

pub no_item_at_closing : (ts : List Terminal) → begins_closing ts ≡ true → at_item identifiers ts ≡ None
no_item_at_closing (closing ∷ ts) h = refl
no_item_at_closing [] h = absurd cc
no_item_at_closing (import_word ∷ ts) h = absurd cc
no_item_at_closing (from_word ∷ ts) h = absurd cc
no_item_at_closing (as_word ∷ ts) h = absurd cc
no_item_at_closing (name w ∷ ts) h = absurd cc
no_item_at_closing (dot ∷ ts) h = absurd cc
no_item_at_closing (comma ∷ ts) h = absurd cc
no_item_at_closing (star ∷ ts) h = absurd cc
no_item_at_closing (opening ∷ ts) h = absurd cc
no_item_at_closing (other ∷ ts) h = absurd cc

begins_none_bracketed : (now : List Terminal) (is : List Item) → BeginsBracketed now is → at_item identifiers now ≡ None → ⊥
begins_none_bracketed now is (one_closed js j f s) e = no_way identifiers now (record { item = j; rest = closing ∷ [] }) e f
begins_none_bracketed now is (one_comma js j f s) e = no_way identifiers now (record { item = j; rest = comma ∷ closing ∷ [] }) e f
begins_none_bracketed now is (many_closed ks js j after f b s) e = no_way identifiers now (record { item = j; rest = comma ∷ after }) e f

-- there is no bracketed list where no identifier is read
pub bracketed_none : (now : List Terminal) → at_item identifiers now ≡ None → (is : List Item) → ¬ (AreBracketed now is)
bracketed_none now e is a = begins_none_bracketed now is (bracketed_begin now is a) e

takes_bracketed : (now rest : List Terminal) (i : Item) → at_item identifiers now ≡ Some (record { item = i; rest = comma ∷ rest }) → begins_closing rest ≡ false → (is : List Item) → BeginsBracketed now is → (js : List Item) × (is ≡ i ∷ js) × AreBracketed rest js
takes_bracketed now rest i e c is (one_closed js j f s) =
    let q : comma ∷ rest ≡ closing ∷ [] = (one_way identifiers now (record { item = i; rest = comma ∷ rest }) (record { item = j; rest = closing ∷ [] }) e f).1 in
    absurd (let z : ⊥ = cc in z)
takes_bracketed now rest i e c is (one_comma js j f s) =
    let h : comma ∷ rest ≡ comma ∷ closing ∷ [] = (one_way identifiers now (record { item = i; rest = comma ∷ rest }) (record { item = j; rest = comma ∷ closing ∷ [] }) e f).1 in
    let q : rest ≡ closing ∷ [] = cc in
    absurd (let t : begins_closing rest ≡ true = ap begins_closing q in cc)
takes_bracketed now rest i e c is (many_closed ks js j after f a s) =
    let h = one_way identifiers now (record { item = i; rest = comma ∷ rest }) (record { item = j; rest = comma ∷ after }) e f in
    let t : comma ∷ rest ≡ comma ∷ after = h.1 in
    let q : after ≡ rest = cc in
    (js, s ∙ ap (λ x. x ∷ js) (sym h.0), subst (λ x. AreBracketed x js) q a)

-- identifiers in brackets go on after a comma, where no bracket closes them
pub bracketed_goes_on : (now rest : List Terminal) (i : Item) → at_item identifiers now ≡ Some (record { item = i; rest = comma ∷ rest }) → begins_closing rest ≡ false → ListGoesOn AreBracketed now rest i
bracketed_goes_on now rest i e c = record { puts = λ js a. bracketed_then now rest i js e a; takes = λ is a. takes_bracketed now rest i e c is (bracketed_begin now is a) }

begins_bad_bracketed : (now rest : List Terminal) (i : Item) (is : List Item) → BeginsBracketed now is → at_item identifiers now ≡ Some (record { item = i; rest = rest }) → ¬ (IsClosing rest) → ((after : List Terminal) → rest ≡ comma ∷ after → begins_closing after ≡ true) → ⊥
begins_bad_bracketed now rest i is (one_closed js j f s) e h n = h (by_bracket rest (one_way identifiers now (record { item = i; rest = rest }) (record { item = j; rest = closing ∷ [] }) e f).1)
begins_bad_bracketed now rest i is (one_comma js j f s) e h n = h (by_comma rest (one_way identifiers now (record { item = i; rest = rest }) (record { item = j; rest = comma ∷ closing ∷ [] }) e f).1)
begins_bad_bracketed now rest i is (many_closed ks js j after f b s) e h n =
    let q : rest ≡ comma ∷ after = (one_way identifiers now (record { item = i; rest = rest }) (record { item = j; rest = comma ∷ after }) e f).1 in
    bracketed_none after (no_item_at_closing after (n after q)) js b

-- there is no bracketed list where something else follows the identifier, or the bracket that closes it
pub bracketed_bad : (now rest : List Terminal) (i : Item) → at_item identifiers now ≡ Some (record { item = i; rest = rest }) → ¬ (IsClosing rest) → ((after : List Terminal) → rest ≡ comma ∷ after → begins_closing after ≡ true) → (is : List Item) → ¬ (AreBracketed now is)
bracketed_bad now rest i e h n is a = begins_bad_bracketed now rest i is (bracketed_begin now is a) e h n

-- less is left after an item
pub item_is_some : (k : NameKind) (now rest : List Terminal) (i : Item) → at_item k now ≡ Some (record { item = i; rest = comma ∷ rest }) → length rest < length now
item_is_some k now rest i e = let off = at_item-sound k now _ e in rw off.split (omega (arith, length-append off.front (comma ∷ rest)))

pub ends_alone : (ts rest : List Terminal) → ts ≡ closing ∷ rest → rest ≢ [] → ¬ (IsClosing ts)
ends_alone ts rest e h (by_bracket t f) = let g : closing ∷ rest ≡ closing ∷ [] = sym e ∙ f in h cc
ends_alone ts rest e h (by_comma t f) = let g : closing ∷ rest ≡ comma ∷ closing ∷ [] = sym e ∙ f in cc

pub ends_alone-comma : (ts rest : List Terminal) → ts ≡ comma ∷ closing ∷ rest → rest ≢ [] → ¬ (IsClosing ts)
ends_alone-comma ts rest e h (by_bracket t f) = let g : comma ∷ closing ∷ rest ≡ closing ∷ [] = sym e ∙ f in cc
ends_alone-comma ts rest e h (by_comma t f) = let g : comma ∷ closing ∷ rest ≡ comma ∷ closing ∷ [] = sym e ∙ f in h cc

abbrev pub begins_comma : List Terminal → Bool
begins_comma (comma ∷ ts) = true
begins_comma _ = false

pub no_comma : (after : Lexeme) (ts : List Terminal) → after ≢ lexeme.Comma → begins_comma (lexeme_then after ts) ≡ false
no_comma lexeme.Comma ts h = absurd (h refl)
no_comma after ts h = refl

pub no_closing : (after : Lexeme) (ts : List Terminal) → after ≢ lexeme.Closing → begins_closing (lexeme_then after ts) ≡ false
no_closing lexeme.Closing ts h = absurd (h refl)
no_closing after ts h = refl

pub neither_ends : (ts : List Terminal) → begins_comma ts ≡ false → begins_closing ts ≡ false → ¬ (IsClosing ts)
neither_ends ts c d (by_bracket t e) = let f : begins_closing ts ≡ true = ap begins_closing e in cc
neither_ends ts c d (by_comma t e) = let f : begins_comma ts ≡ true = ap begins_comma e in cc

pub comma_not_first : (ts : List Terminal) → begins_comma ts ≡ false → (rest : List Terminal) → ts ≡ comma ∷ rest → begins_closing rest ≡ true
comma_not_first ts c rest e = absurd (let f : begins_comma ts ≡ true = ap begins_comma e in cc)
