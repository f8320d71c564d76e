-- Import statements. Python Language Reference, 7.11.
use Rattle.std.specs.Prelude.{◌≡◌, ℕ, Bool, true, false, ◌==◌, Option, None, Some, List, [], ◌∷◌, ◌++◌, map, codes, if◌then◌else◌}
use Rattle.std.specs.List.{list_any}
use Rattle.std.specs.Str.{byte, bytes_eq}
use Rattle.py_lines.specs.declared.token.TokKind.{TokKind}
use Rattle.py_lines.specs.declared.token.TokKind.TheVariants as kind

-- the words that are no names (2.3.1)
abbrev pub keywords : List (List ℕ)
keywords =
    codes "False" ∷ codes "None" ∷ codes "True" ∷ codes "and" ∷ codes "as" ∷ codes "assert" ∷ codes "async" ∷ codes "await" ∷
    codes "break" ∷ codes "class" ∷ codes "continue" ∷ codes "def" ∷ codes "del" ∷ codes "elif" ∷ codes "else" ∷ codes "except" ∷
    codes "finally" ∷ codes "for" ∷ codes "from" ∷ codes "global" ∷ codes "if" ∷ codes "import" ∷ codes "in" ∷ codes "is" ∷
    codes "lambda" ∷ codes "nonlocal" ∷ codes "not" ∷ codes "or" ∷ codes "pass" ∷ codes "raise" ∷ codes "return" ∷
    codes "try" ∷ codes "while" ∷ codes "with" ∷ codes "yield" ∷ []

unfoldable pub is_keyword : List ℕ → Bool
is_keyword word = list_any (λ k. bytes_eq k word) keywords

-- what the import grammar tells apart among words, strings and operators
pub data Terminal : Type 0 where
  import_word : Terminal
  from_word : Terminal
  as_word : Terminal
  name : List ℕ → Terminal
  dot : Terminal
  comma : Terminal
  star : Terminal
  opening : Terminal
  closing : Terminal
  other : Terminal

-- a word: one of the three that import statements hold, another keyword, or a name
abbrev pub terminal_of_word : List ℕ → Terminal
terminal_of_word word =
    if bytes_eq word (codes "import") then import_word else (
    if bytes_eq word (codes "from") then from_word else (
    if bytes_eq word (codes "as") then as_word else (
    if is_keyword word then other else name word)))

-- an operator: `.`, `,`, `*`, `(`, `)` or another
abbrev pub terminal_of_operator : ℕ → Terminal
terminal_of_operator c =
    if c == byte "." then dot else (
    if c == byte "," then comma else (
    if c == byte "*" then star else (
    if c == byte "(" then opening else (
    if c == byte ")" then closing else other))))

-- a token by its kind and its text
abbrev pub terminal_of : TokKind → List ℕ → Terminal
terminal_of kind.Name word = terminal_of_word word
terminal_of (kind.Op c) word = terminal_of_operator c
terminal_of _ word = other

-- whether a statement that starts so is an import statement
abbrev pub begins_import : List Terminal → Bool
begins_import (import_word ∷ ts) = true
begins_import (from_word ∷ ts) = true
begins_import _ = false

-- MODULE: one or more names with dots between them
pub data IsModule : List Terminal → Type 0 where
  one : (w : List ℕ) → IsModule (name w ∷ [])
  more : (w : List ℕ) (rest : List Terminal) → IsModule rest → IsModule (name w ∷ dot ∷ rest)

-- any number of dots
pub data AreDots : List Terminal → Type 0 where
  no_dot : AreDots []
  one_more : (rest : List Terminal) → AreDots rest → AreDots (dot ∷ rest)

-- RELATIVE_MODULE: one or more dots, or any number of dots and a module
pub data IsRelativeModule : List Terminal → Type 0 where
  dots : (rest : List Terminal) → AreDots rest → IsRelativeModule (dot ∷ rest)
  named : (ts before path : List Terminal) → ts ≡ before ++ path → AreDots before → IsModule path → IsRelativeModule ts

-- how a module is spelled: its names and dots without spaces
abbrev pub spelling : List Terminal → List ℕ
spelling [] = []
spelling (name w ∷ ts) = w ++ spelling ts
spelling (dot ∷ ts) = byte "." ∷ spelling ts
spelling (_ ∷ ts) = spelling ts

-- what a list of names lists: modules after `import`, identifiers after `from .. import`
pub data NameKind : Type 0 where
  modules : NameKind
  identifiers : NameKind

-- the names without their alias
abbrev pub IsPath : NameKind → List Terminal → Type 0
IsPath modules ts = IsModule ts
IsPath identifiers ts = (w : List ℕ) × (ts ≡ name w ∷ [])

-- an item of a list: what is named, and by which alias
pub record Item : Type 0 where
  pub path : List ℕ
  pub alias : Option (List ℕ)

-- `PATH` or `PATH as NAME`
pub data IsItem : NameKind → List Terminal → Item → Type 0 where
  plain : (k : NameKind) (ts : List Terminal) (i : Item) → IsPath k ts
      → i ≡ record { path = spelling ts; alias = None } → IsItem k ts i
  renamed : (k : NameKind) (ts path : List Terminal) (w : List ℕ) (i : Item) → ts ≡ path ++ as_word ∷ name w ∷ [] → IsPath k path
      → i ≡ record { path = spelling path; alias = Some w } → IsItem k ts i

-- one item, or several with commas between them
pub data AreItems : NameKind → List Terminal → List Item → Type 0 where
  last : (k : NameKind) (ts : List Terminal) (i : Item) → IsItem k ts i → AreItems k ts (i ∷ [])
  then : (k : NameKind) (ts first rest : List Terminal) (i : Item) (is : List Item) → ts ≡ first ++ comma ∷ rest
      → IsItem k first i → AreItems k rest is → AreItems k ts (i ∷ is)

-- identifiers, then `)`, or `,` and `)`
pub data AreBracketed : List Terminal → List Item → Type 0 where
  closed : (ts items : List Terminal) (is : List Item) → ts ≡ items ++ closing ∷ []
      → AreItems identifiers items is → AreBracketed ts is
  closed_after_comma : (ts items : List Terminal) (is : List Item) → ts ≡ items ++ comma ∷ closing ∷ []
      → AreItems identifiers items is → AreBracketed ts is

-- what may stand after `from .. import`: identifiers, identifiers in brackets, or `*`
pub data AreNames : List Terminal → List Item → Type 0 where
  plain_names : (ts : List Terminal) (is : List Item) → AreItems identifiers ts is → AreNames ts is
  bracketed : (ts : List Terminal) (is : List Item) → AreBracketed ts is → AreNames (opening ∷ ts) is
  all_names : AreNames (star ∷ []) (record { path = codes "*"; alias = None } ∷ [])

-- what one item of an import statement binds
pub record Imported : Type 0 where
  pub module_name : List ℕ
  pub attribute_name : Option (List ℕ)
  pub alias_name : Option (List ℕ)

-- an item of `import ..`
abbrev pub whole_module : Item → Imported
whole_module i = record { module_name = i.path; attribute_name = None; alias_name = i.alias }

-- an item of `from .. import ..`
abbrev pub attribute_of : List ℕ → Item → Imported
attribute_of from i = record { module_name = from; attribute_name = Some i.path; alias_name = i.alias }

-- an import statement, and what it binds in the order written
pub data IsImport : List Terminal → List Imported → Type 0 where
  import_statement : (rest : List Terminal) (is : List Item) → AreItems modules rest is
      → IsImport (import_word ∷ rest) (map whole_module is)
  from_statement : (ts from rest : List Terminal) (is : List Item) → ts ≡ from_word ∷ from ++ import_word ∷ rest
      → IsRelativeModule from → AreNames rest is → IsImport ts (map (attribute_of (spelling from)) is)
