-- What an import statement imports whose names are words.
use Rattle.std.proofs.Common.{◌≡◌, ℕ, List, [], ◌∷◌, ◌++◌, map, refl, sym, ap, ◌∙◌, subst, append-nil}
use Rattle.py_imports.specs.Grammar.{Terminal, import_word, as_word, name, comma, closing, spelling, modules, identifiers, Item, IsItem, plain, renamed, AreItems, last, then, AreBracketed, closed, closed_after_comma, AreNames, plain_names, bracketed, all_names, Imported, whole_module, attribute_of, IsImport, import_statement, from_statement}
use Rattle.py_imports.specs.Names.{HaveNames, IsName, IsModuleName, IsRelativeName, IsAlias, IsNameItem, whole, all, part, AreNamed}

parts : (a b : List Terminal) → HaveNames (a ++ b) → HaveNames a × HaveNames b
parts [] b h = (tt, h)
parts (t ∷ ts) b h = let more = parts ts b h.1 in ((h.0, more.0), more.1)

-- an item of an `import` statement
record IsModuleItem (i : Item) : Type 0 where
  path : IsModuleName i.path
  alias : IsAlias i.alias

module_item : (ts : List Terminal) (i : Item) → IsItem modules ts i → HaveNames ts → IsModuleItem i
module_item ts i (plain _ _ _ path is) h = subst IsModuleItem (sym is) (record { path = record { path = ts; is = path; names = h; spell = refl }; alias = tt })
module_item ts i (renamed _ _ path w _ cut of is) h =
    let found = parts path (as_word ∷ name w ∷ []) (subst HaveNames cut h) in
    subst IsModuleItem (sym is) (record { path = record { path = path; is = of; names = found.0; spell = refl }; alias = found.1.1.0 })

-- an item of a `from` statement
one_name : (ts : List Terminal) (w : List ℕ) → ts ≡ name w ∷ [] → HaveNames ts → IsName (spelling ts)
one_name ts w is h = subst IsName (sym (ap spelling is ∙ append-nil w)) (subst HaveNames is h).0

name_item : (ts : List Terminal) (i : Item) → IsItem identifiers ts i → HaveNames ts → IsNameItem i
name_item ts i (plain _ _ _ path is) h = subst IsNameItem (sym is) (record { path = one_name ts path.0 path.1 h; alias = tt })
name_item ts i (renamed _ _ path w _ cut of is) h =
    let found = parts path (as_word ∷ name w ∷ []) (subst HaveNames cut h) in
    subst IsNameItem (sym is) (record { path = one_name path of.0 of.1 found.0; alias = found.1.1.0 })

module_items : (ts : List Terminal) (is : List Item) → AreItems modules ts is → HaveNames ts → AreNamed (map whole_module is)
module_items ts _ (last _ _ i item) h = let found = module_item ts i item h in (whole found.path refl found.alias, tt)
module_items ts _ (then _ _ first rest i is cut item items) h =
    let both = parts first (comma ∷ rest) (subst HaveNames cut h) in
    let found = module_item first i item both.0 in
    (whole found.path refl found.alias, module_items rest is items both.1.1)

name_items : (from : List ℕ) → IsRelativeName from → (ts : List Terminal) (is : List Item) → AreItems identifiers ts is → HaveNames ts → AreNamed (map (attribute_of from) is)
name_items from r ts _ (last _ _ i item) h = let found = name_item ts i item h in (part i.path r refl found.path found.alias, tt)
name_items from r ts _ (then _ _ first rest i is cut item items) h =
    let both = parts first (comma ∷ rest) (subst HaveNames cut h) in
    let found = name_item first i item both.0 in
    (part i.path r refl found.path found.alias, name_items from r rest is items both.1.1)

bracketed_items : (from : List ℕ) → IsRelativeName from → (ts : List Terminal) (is : List Item) → AreBracketed ts is → HaveNames ts → AreNamed (map (attribute_of from) is)
bracketed_items from r ts is (closed _ items _ cut listed) h = name_items from r items is listed (parts items (closing ∷ []) (subst HaveNames cut h)).0
bracketed_items from r ts is (closed_after_comma _ items _ cut listed) h = name_items from r items is listed (parts items (comma ∷ closing ∷ []) (subst HaveNames cut h)).0

names_after : (from : List ℕ) → IsRelativeName from → (ts : List Terminal) (is : List Item) → AreNames ts is → HaveNames ts → AreNamed (map (attribute_of from) is)
names_after from r ts is (plain_names _ _ listed) h = name_items from r ts is listed h
names_after from r _ is (bracketed ts _ listed) h = bracketed_items from r ts is listed h.1
names_after from r _ _ all_names h = (all r refl refl, tt)

pub imported_named : (ts : List Terminal) (is : List Imported) → IsImport ts is → HaveNames ts → AreNamed is
imported_named _ _ (import_statement rest is listed) h = module_items rest is listed h.1
imported_named ts _ (from_statement _ from rest is cut relative listed) h =
    let both = parts from (import_word ∷ rest) (subst HaveNames cut h).1 in
    names_after (spelling from) (record { path = from; is = relative; names = both.0; spell = refl }) rest is listed both.1.1
