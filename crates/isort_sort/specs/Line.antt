-- A logical line as sorting sees it: its comments, and what it imports.
use Rattle.std.specs.Prelude.{◌≡◌, ℕ, ◌==◌, Bool, true, false, List, [], ◌∷◌, map, filter, slice_range, if◌then◌else◌}
use Rattle.std.specs.List.{list_all}
use Rattle.std.specs.Str.{byte}
use Rattle.py_lines.specs.Character.{is_space}
use Rattle.py_lines.specs.LogicalLine.{LogicalLine}
use Rattle.py_lines.specs.declared.token.Token.{Token}
use Rattle.py_imports.specs.BindingValue.{BindingValue}
use Rattle.py_imports.specs.Grammar.{Imported}
use Rattle.py_imports.specs.Statement.{is_comment}

-- the bytes of a token
abbrev pub word_of : LogicalLine → Token → List ℕ
word_of line t = slice_range line.text t.start t.stop

-- the comments of a line, with `#`
abbrev pub comment_texts : LogicalLine → List (List ℕ)
comment_texts line = map (word_of line) (filter (λ t. is_comment t.kind) line.tokens)

-- a text without the space that it begins with
abbrev pub without_start : List ℕ → List ℕ
without_start [] = []
without_start (b ∷ text) = if is_space b then without_start text else b ∷ text

-- a text without the space that it ends with
abbrev pub without_end : List ℕ → List ℕ
without_end [] = []
without_end (b ∷ text) = if list_all is_space (b ∷ text) then [] else b ∷ without_end text

-- a text without space at both ends
abbrev pub stripped : List ℕ → List ℕ
stripped t = without_end (without_start t)

-- whether there is a byte
abbrev pub is_text : List ℕ → Bool
is_text [] = false
is_text (b ∷ bs) = true

-- a text without the `#` that it begins with
abbrev pub without_hash : List ℕ → List ℕ
without_hash [] = []
without_hash (b ∷ text) = if b == byte "#" then text else b ∷ text

-- the line's comments as a statement joins them: each without its `#`, stripped, without the empty ones
abbrev pub own_comments : LogicalLine → List (List ℕ)
own_comments line = filter is_text (map (λ t. stripped (without_hash t)) (comment_texts line))

-- a comment as a statement joins it: there is a byte, and no space at either end
abbrev pub IsOwnComment : List ℕ → Type 0
IsOwnComment text = (is_text text ≡ true) × (stripped text ≡ text)

abbrev pub AreOwnComments : List (List ℕ) → Type 0
AreOwnComments [] = Unit {0}
AreOwnComments (c ∷ cs) = IsOwnComment c × AreOwnComments cs

-- what a binding imports
abbrev pub imported_of : BindingValue → Imported
imported_of b = record { module_name = b.module_name; attribute_name = b.attribute_name; alias_name = b.alias_name }
