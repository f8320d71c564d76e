-- What contracts see of a cursor, and what it is to have stopped.
use Rattle.std.specs.Prelude.{◌≡◌, ℕ, ◌+◌, ◌-◌, ◌^◌, Bool, true, false, not, ◌⊎◌, Option, None, Some, List, [], ◌∷◌, ◌++◌, length, map, min}
use Rattle.std.specs.List.{list_all, list_any}
use Rattle.py_lines.specs.LogicalLine.{LogicalLine}
use Rattle.py_lines.specs.Lexed.{BeginsLexing}
use Rattle.py_lines.specs.Reader.{HasGiven, standing_at}
use Rattle.py_imports.specs.BindingValue.{BindingValue}
use Rattle.py_imports.specs.Binds.{Binds, BindAll}
use Rattle.isort_find.specs.Key.{Key, key_of, key_eq}
use Rattle.isort_find.specs.Found.{firsts, ends_top}
use Rattle.isort_find.specs.declared.options.ImportKey.{ImportKey}
use Rattle.isort_find.specs.declared.options.FindOptions.{FindOptions}
use Rattle.isort_find.specs.declared.pending.LineStart.{LineStart}

-- the options, the byte to go on from with its line, how many bindings of the logical line there were looked at, how
-- many were given in all, and the keys of those
pub record CursorState : Type 0 where
  pub options : FindOptions
  pub offset : ℕ
  pub line : ℕ
  pub taken : ℕ
  pub given : ℕ
  pub keys : List Key

-- what a cursor is seen as, by its fields
abbrev pub cursor_state : FindOptions → LineStart → ℕ → ℕ → List Key → CursorState
cursor_state options start taken given keys = record {
  options = options;
  offset = start.offset;
  line = start.line;
  taken = taken;
  given = given;
  keys = keys;
}

-- at the start of a text
abbrev pub first_cursor : FindOptions → CursorState
first_cursor options = record { options = options; offset = 0; line = 1; taken = 0; given = 0; keys = [] }

-- one more than n, but never above what 64 bits hold
abbrev pub next_count : ℕ → ℕ
next_count n = min (n + 1) (2 ^ 64 - 1)

-- the keys of these bindings
abbrev pub keys_of : Option ImportKey → List BindingValue → List Key
keys_of None values = []
keys_of (Some key) values = map (key_of key) values

-- whether the key of the binding is among these
abbrev pub knows_key : Option ImportKey → List Key → BindingValue → Bool
knows_key None keys b = false
knows_key (Some key) keys b = list_any (key_eq (key_of key b)) keys

-- the binding to look at next, if there is one, has a key that wasn't given
abbrev pub BeginsNew : CursorState → List BindingValue → Type 0
BeginsNew s [] = Unit {0}
BeginsNew s (b ∷ bs) = knows_key s.options.unique s.keys b ≡ false

-- `part` are the first bindings of the logical line after `lines`
pub record BeginsNext (text : List ℕ) (options : FindOptions) (lines : List LogicalLine) (part : List BindingValue) : Type 0 where
  pub line : LogicalLine
  pub rest : List BindingValue
  pub begins : BeginsLexing text (lines ++ line ∷ [])
  pub binds : Binds line (part ++ rest)
  pub in_top : ends_top options line ≡ false

-- `part` are the first bindings, so many, of the logical line after `lines`: none, or some of a line that counts
abbrev pub IsPartOfNext : List ℕ → FindOptions → List LogicalLine → ℕ → List BindingValue → Type 0
IsPartOfNext text options lines taken part = (taken ≡ length part) × ((part ≡ []) ⊎ BeginsNext text options lines part)

-- After logical lines of the text, at this byte and line, and after the first bindings, so many, of the next line:
-- so far these bindings were found.
pub record IsAfter (text : List ℕ) (options : FindOptions) (offset line taken : ℕ) (values : List BindingValue) : Type 0 where
  pub lines : List LogicalLine
  pub before : List BindingValue
  pub part : List BindingValue
  pub given : HasGiven (standing_at text offset line) lines
  pub binds : BindAll lines before
  pub in_top : list_all (λ l. not (ends_top options l)) lines ≡ true
  pub is_part : IsPartOfNext text options lines taken part
  pub found : values ≡ firsts options.unique [] (before ++ part)

-- A finder of this text stopped here, once it had found just these first bindings.
pub record HasStopped (text : List ℕ) (cursor : CursorState) (values : List BindingValue) : Type 0 where
  pub after : IsAfter text cursor.options cursor.offset cursor.line cursor.taken values
  pub keys : cursor.keys ≡ keys_of cursor.options.unique values
  pub given : cursor.given ≡ min (length values) (2 ^ 64 - 1)
