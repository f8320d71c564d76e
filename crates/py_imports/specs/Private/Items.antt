-- What is left of the items of an import statement, as its reader goes on.
use Rattle.std.specs.Prelude.{◌≡◌, ◌≢◌, ℕ, suc, ◌<◌, Bool, true, false, Option, None, Some, Result, Ok, Err, List, [], ◌∷◌, length, map, codes, ◌⊎◌}
use Rattle.std.specs.Option.{option_map}
use Rattle.py_imports.specs.Grammar.{Terminal, import_word, from_word, comma, closing, begins_import, modules, identifiers, Item, AreItems, AreBracketed, whole_module, attribute_of, Imported, IsImport}
use Rattle.py_imports.specs.Private.Lexemes.{unread_of, lexemes_text}
use Rattle.py_imports.specs.declared.items.BadStatement.{BadStatement}
use Rattle.py_imports.specs.declared.items.Form.{Form}
use Rattle.py_imports.specs.declared.items.Form.TheVariants as form
use Rattle.py_imports.specs.declared.items.ImportItem.{ImportItem}
use Rattle.py_imports.specs.declared.items.ImportItems.{ImportItems}
use Rattle.py_imports.specs.declared.items.ModulePath.{ModulePath}
use Rattle.py_imports.specs.declared.items.Stage.{Stage}
use Rattle.py_imports.specs.declared.items.Stage.TheVariants as stage

-- a statement with its first word
abbrev pub with_first_word : Form → List Terminal → List Terminal
with_first_word form.Import ts = import_word ∷ ts
with_first_word form.From ts = from_word ∷ ts

-- the terminal begins an import statement of this form, or none
abbrev pub BeginsForm : Terminal → Option Form → Type 0
BeginsForm t None = (ts : List Terminal) → begins_import (t ∷ ts) ≡ false
BeginsForm t (Some f) = (ts : List Terminal) → t ∷ ts ≡ with_first_word f ts

-- how a module is spelled
abbrev pub path_of : ModulePath → List ℕ
path_of m = lexemes_text m.names

-- what an item imports
abbrev pub item_imported : ImportItem → Imported
item_imported i = record {
  module_name = path_of i.module;
  attribute_name = option_map (λ a. a.now) i.attribute;
  alias_name = option_map (λ a. a.now) i.alias;
}

-- what is imported by the items of some such list
abbrev pub ListsOf : (Item → Imported) → (List Item → Type 0) → List Imported → Type 0
ListsOf import Are is = (items : List Item) × Are items × (is ≡ map import items)

-- what is imported from this module by the names of some such list
abbrev pub ListsFrom : ModulePath → (List Item → Type 0) → List Imported → Type 0
ListsFrom m Are is = ListsOf (attribute_of (path_of m)) Are is

-- what the terminals that are left import at this stage
abbrev pub AreLeftAt : Stage → List Terminal → List Imported → Type 0
AreLeftAt stage.Modules ts is = ListsOf whole_module (AreItems modules ts) is
AreLeftAt stage.From ts is = IsImport (from_word ∷ ts) is
AreLeftAt (stage.Names m) ts is = ListsFrom m (AreItems identifiers ts) is
AreLeftAt (stage.Bracketed m) ts is = ListsFrom m (AreBracketed ts) is
AreLeftAt stage.End ts is = is ≡ []

-- what is left to be read
abbrev pub AreLeft : ImportItems → List Imported → Type 0
AreLeft r is = AreLeftAt r.stage (unread_of r.tokens) is

-- how many items may be left at most
abbrev pub most_left_at : Stage → List Terminal → ℕ
most_left_at stage.Modules ts = suc (length ts)
most_left_at stage.From ts = suc (length ts)
most_left_at (stage.Names m) ts = suc (length ts)
most_left_at (stage.Bracketed m) ts = suc (length ts)
most_left_at stage.End ts = 0

abbrev pub most_left : ImportItems → ℕ
most_left r = most_left_at r.stage (unread_of r.tokens)

-- the same lists are meant
pub record AreSameLists (Before After : List Imported → Type 0) : Type 0 where
  pub to : (is : List Imported) → Before is → After is
  pub from : (is : List Imported) → After is → Before is

-- the lists before are those that begin with this and go on with one of those after
pub record StartWith (Before : List Imported → Type 0) (i : Imported) (After : List Imported → Type 0) : Type 0 where
  pub puts : (is : List Imported) → After is → Before (i ∷ is)
  pub takes : (is : List Imported) → Before is → (js : List Imported) × (is ≡ i ∷ js) × After js

-- the first item of the lists before, with those that are left; or there is no such list
abbrev pub IsFirstOfLists : (List Imported → Type 0) → Option ImportItem → (List Imported → Type 0) → Type 0
IsFirstOfLists Before None After = (is : List Imported) → ¬ (Before is)
IsFirstOfLists Before (Some i) After = StartWith Before (item_imported i) After

-- all names of this module are imported by a `*`, after which nothing is left
pub record ImportsAll (m : ModulePath) (i : ImportItem) (rest : List Terminal) (next : Stage) : Type 0 where
  pub nothing : rest ≡ []
  pub star : item_imported i ≡ attribute_of (path_of m) (record { path = codes "*"; alias = None })
  pub ended : next ≡ stage.End

-- a `*` was read with what it imports; there is no answer where something is left after it
abbrev pub ReadsStar : ModulePath → List Terminal → Option ImportItem → Stage → Type 0
ReadsStar m rest None next = rest ≢ []
ReadsStar m rest (Some i) next = ImportsAll m i rest next

-- an item is next, no item is left, or there is no list
abbrev pub IsNext : (List Imported → Type 0) → Result (Option ImportItem) BadStatement → (List Imported → Type 0) → Type 0
IsNext Before (Ok (Some i)) After = StartWith Before (item_imported i) After
IsNext Before (Ok None) After = (Before []) × ((is : List Imported) → Before is → is ≡ [])
IsNext Before (Err e) After = (is : List Imported) → ¬ (Before is)

-- fewer items may be left where one was read
abbrev pub GetFewer : Result (Option ImportItem) BadStatement → ℕ → ℕ → Type 0
GetFewer (Ok (Some i)) before after = after < before
GetFewer (Ok None) before after = Unit {0}
GetFewer (Err e) before after = Unit {0}

-- whether a list may end here, or go on after a comma
abbrev pub may_follow : List Terminal → Bool
may_follow [] = true
may_follow (comma ∷ ts) = true
may_follow _ = false

-- what follows an item: a comma and more at this stage, or nothing
abbrev pub FollowsItem : Stage → List Terminal → Option Stage → List Terminal → Type 0
FollowsItem s before None after = may_follow before ≡ false
FollowsItem s before (Some next) after = ((next ≡ s) × (before ≡ comma ∷ after)) ⊎ ((next ≡ stage.End) × (before ≡ []))

-- whether the closing bracket is next
abbrev pub begins_closing : List Terminal → Bool
begins_closing (closing ∷ ts) = true
begins_closing _ = false

-- what follows the last identifier in brackets: the bracket alone, or a comma and the bracket alone
pub data IsClosing : List Terminal → Type 0 where
  by_bracket : (ts : List Terminal) → ts ≡ closing ∷ [] → IsClosing ts
  by_comma : (ts : List Terminal) → ts ≡ comma ∷ closing ∷ [] → IsClosing ts

-- the brackets neither close here nor go on after a comma
pub record IsOutOfBrackets (ts : List Terminal) : Type 0 where
  pub not_closed : ¬ (IsClosing ts)
  pub stuck : (after : List Terminal) → ts ≡ comma ∷ after → begins_closing after ≡ true

-- what follows an item in brackets: a comma and more, or the closing bracket alone
abbrev pub FollowsBracketed : ModulePath → List Terminal → Option Stage → List Terminal → Type 0
FollowsBracketed m before None after = IsOutOfBrackets before
FollowsBracketed m before (Some next) after =
    ((next ≡ stage.Bracketed m) × (before ≡ comma ∷ after) × (begins_closing after ≡ false))
    ⊎ ((next ≡ stage.End) × IsClosing before)

-- whether some list is such, as a test has told
abbrev pub TellsWhether : Bool → (List Imported → Type 0) → Type 0
TellsWhether true Are = (is : List Imported) × Are is
TellsWhether false Are = (is : List Imported) → ¬ (Are is)
