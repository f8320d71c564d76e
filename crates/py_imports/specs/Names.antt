-- The words of a logical line as the import grammar sees them, and which of them are names. Python Language Reference, 2.3
-- and 7.11.
use Rattle.std.specs.Prelude.{◌≡◌, ℕ, true, false, not, Option, None, Some, List, [], ◌∷◌, map, filter, codes, encode_utf8_all}
use Rattle.std.specs.Str.{all_scalars}
use Rattle.py_lines.specs.Character.{is_digit}
use Rattle.py_lines.specs.Piece.{begins}
use Rattle.py_lines.specs.PieceGrammar.{IsWord}
use Rattle.py_lines.specs.Words.{Word}
use Rattle.py_imports.specs.Grammar.{Terminal, name, terminal_of, is_keyword, IsModule, IsRelativeModule, spelling, Item, Imported}
use Rattle.py_imports.specs.Statement.{is_comment}

-- words without the comments among them, as the import grammar sees them
abbrev pub terminals_in : List Word → List Terminal
terminals_in words = map (λ w. terminal_of w.kind w.bytes) (filter (λ w. not (is_comment w.kind)) words)

-- the bytes are a word, no number and no keyword
pub record IsName (bytes : List ℕ) : Type 0 where
  pub characters : List ℕ
  pub scalars : all_scalars characters ≡ true
  pub spell : encode_utf8_all characters ≡ bytes
  pub word : IsWord characters
  pub no_number : begins is_digit characters ≡ false
  pub no_keyword : is_keyword bytes ≡ false

-- where a terminal is a name, its bytes are one
abbrev pub HasName : Terminal → Type 0
HasName (name bytes) = IsName bytes
HasName _ = Unit {0}

-- where terminals are names, their bytes are names
abbrev pub HaveNames : List Terminal → Type 0
HaveNames [] = Unit {0}
HaveNames (t ∷ ts) = HasName t × HaveNames ts

-- the module of an `import` statement: names with dots between them
pub record IsModuleName (text : List ℕ) : Type 0 where
  pub path : List Terminal
  pub is : IsModule path
  pub names : HaveNames path
  pub spell : text ≡ spelling path

-- the module of a `from` statement: dots, or perhaps dots and then a module
pub record IsRelativeName (text : List ℕ) : Type 0 where
  pub path : List Terminal
  pub is : IsRelativeModule path
  pub names : HaveNames path
  pub spell : text ≡ spelling path

-- no alias, or one that is a name
abbrev pub IsAlias : Option (List ℕ) → Type 0
IsAlias None = Unit {0}
IsAlias (Some alias) = IsName alias

-- an item of a `from` statement whose names are words
pub record IsNameItem (i : Item) : Type 0 where
  pub path : IsName i.path
  pub alias : IsAlias i.alias

-- what an import statement imports whose names are words: a module, all names of one, or one of its names
pub data IsNamed (i : Imported) : Type 0 where
  whole : IsModuleName i.module_name → i.attribute_name ≡ None → IsAlias i.alias_name → IsNamed i
  all : IsRelativeName i.module_name → i.attribute_name ≡ Some (codes "*") → i.alias_name ≡ None → IsNamed i
  part : (attribute : List ℕ) → IsRelativeName i.module_name → i.attribute_name ≡ Some attribute → IsName attribute
      → IsAlias i.alias_name → IsNamed i

abbrev pub AreNamed : List Imported → Type 0
AreNamed [] = Unit {0}
AreNamed (i ∷ is) = IsNamed i × AreNamed is
