-- The imports that are found in a text, and its end or fault.
use Rattle.std.specs.Prelude.{◌≡◌, ℕ, Bool, false, not, ◌&&◌, Option, None, Some, List, [], ◌∷◌, ◌++◌, if◌then◌else◌, take_while}
use Rattle.std.specs.List.{list_any}
use Rattle.py_lines.specs.LogicalLine.{LogicalLine}
use Rattle.py_lines.specs.Dialect.{Dialect, fielded_dialect, plain_dialect}
use Rattle.py_lines.specs.Lexed.{IsLexedIn}
use Rattle.py_lines.specs.declared.fault.Fault.{Fault}
use Rattle.py_imports.specs.BindingValue.{BindingValue}
use Rattle.py_imports.specs.Binds.{BindAll, IsBadAt}
use Rattle.py_imports.specs.Declaration.{is_declaration}
use Rattle.isort_find.specs.Key.{key_of, key_eq}
use Rattle.isort_find.specs.declared.options.ImportKey.{ImportKey}
use Rattle.isort_find.specs.declared.options.FindOptions.{FindOptions}

-- whether one of these bindings has the key of this one; never without a key
abbrev pub has_one_like : Option ImportKey → List BindingValue → BindingValue → Bool
has_one_like None earlier b = false
has_one_like (Some key) earlier b = list_any (λ a. key_eq (key_of key b) (key_of key a)) earlier

-- the bindings after `earlier` that have none before them with an equal key, in order
abbrev pub firsts : Option ImportKey → List BindingValue → List BindingValue → List BindingValue
firsts unique earlier [] = []
firsts unique earlier (b ∷ bs) =
    if has_one_like unique earlier b then firsts unique (earlier ++ b ∷ []) bs
    else b ∷ firsts unique (earlier ++ b ∷ []) bs

-- whether the logical line ends the top: with `top_only` a declaration does
abbrev pub ends_top : FindOptions → LogicalLine → Bool
ends_top options line = options.top_only && is_declaration line

-- the logical lines that count: those before the first that ends the top
abbrev pub counted_lines : FindOptions → List LogicalLine → List LogicalLine
counted_lines options lines = take_while (λ l. not (ends_top options l)) lines

-- the lexical end that counts: no fault after a line that ends the top
abbrev pub counted_end : FindOptions → List LogicalLine → Option Fault → Option Fault
counted_end options lines end = if list_any (ends_top options) lines then None else end

-- What is found in logical lines with this lexical end: the first bindings of all of them; or, where one is bad,
-- those of the lines before the first bad one, and its fault.
pub data AreFound : Option ImportKey → List LogicalLine → Option Fault → List BindingValue → Option Fault → Type 0 where
  of_all : (unique : Option ImportKey) (lines : List LogicalLine) (last : Option Fault) (values : List BindingValue)
      (end : Option Fault) (all : List BindingValue)
      → BindAll lines all → values ≡ firsts unique [] all → end ≡ last
      → AreFound unique lines last values end
  before_bad : (unique : Option ImportKey) (lines : List LogicalLine) (last : Option Fault) (values : List BindingValue)
      (end : Option Fault) (before : List LogicalLine) (line : LogicalLine) (after : List LogicalLine) (all : List BindingValue)
      (fault : Fault)
      → lines ≡ before ++ line ∷ after → BindAll before all → IsBadAt line fault
      → values ≡ firsts unique [] all → end ≡ Some fault
      → AreFound unique lines last values end

-- the imports of a text that are found with these options, and then its end, or its fault
pub record IsFoundIn (dialect : Dialect) (text : List ℕ) (options : FindOptions) (values : List BindingValue) (end : Option Fault) : Type 0 where
  pub lines : List LogicalLine
  pub lexical : Option Fault
  pub lexed : IsLexedIn dialect text lines lexical
  pub found : AreFound options.unique (counted_lines options lines) (counted_end options lines lexical) values end

-- the imports of a text that are found with these options, and then its end, or its fault, where strings hold fields
abbrev pub IsFound : List ℕ → FindOptions → List BindingValue → Option Fault → Type 0
IsFound = IsFoundIn fielded_dialect

-- the imports of a text that are found with these options, and then its end, or its fault, where no string holds a field
abbrev pub IsPlainFound : List ℕ → FindOptions → List BindingValue → Option Fault → Type 0
IsPlainFound = IsFoundIn plain_dialect

-- bindings that begin what is found in the text: more come after them, and then its end or fault
pub record BeginsFound (text : List ℕ) (options : FindOptions) (values : List BindingValue) : Type 0 where
  pub more : List BindingValue
  pub end : Option Fault
  pub found : IsFound text options (values ++ more) end
