-- The text of a string with fields that is simple enough to be taken at once: the machine with fields goes through it. It serves the
-- contracts of private functions.
use Rattle.std.specs.Prelude.{◌≡◌, ℕ, ◌+◌, ◌<◌, ◌≤◌, ◌==◌, ◌&&◌, not, nat_lt, Bool, true, false, Option, None, Some, List, [], ◌∷◌, length, take, codes}
use Rattle.std.specs.Str.{byte}
use Rattle.std.specs.List.{list_all}
use Rattle.py_lines.specs.Character.{is_brace, is_break, is_one_of}
pub use Rattle.py_lines.specs.Character.{is_quote}
use Rattle.py_lines.specs.Piece.{Piece}
pub use Rattle.py_lines.specs.Piece.{begins}
use Rattle.py_lines.specs.FieldStrings.{literal, specification}
pub use Rattle.py_lines.specs.FieldStrings.{begins_open}
use Rattle.py_lines.specs.Private.Machine.{Mode}
use Rattle.py_lines.specs.Private.Mode as modes
use Rattle.py_lines.specs.Private.FieldMachine.{between, after_brace, plain, body, Level, FieldScanned, field_state, levels_open}
use Rattle.py_lines.specs.Private.Run.{is_line_byte}
pub use Rattle.py_lines.specs.Private.Run.{BeginsPlainString, HasWholePlainString, IsRunOf, is_literal_byte}
use Rattle.py_lines.specs.Private.Scan.{Goes, KeepsOpen}

-- Where the machine stands in a string: `outer` are the fields round the string, and `l` says what stands before it in its list,
-- and which string it is. It is between two parts of the literal part.
abbrev pub InText : List Level → Level → FieldScanned → Type 0
InText outer l t = (held : List ℕ) × (t ≡ field_state outer l.done l.openers (body l.host literal false between) held)

-- or after a `{` of it
abbrev pub AtBrace : List Level → Level → FieldScanned → Type 0
AtBrace outer l t = (held : List ℕ) × (t ≡ field_state outer l.done l.openers (body l.host literal false after_brace) held)

-- the field that opens after this text of the string
abbrev pub level_after : Level → List ℕ → Level
level_after l front = record { done = l.done; openers = l.openers; host = l.host; place = literal; front = front }

-- whether no piece is open, or space, or a word
abbrev pub is_code_mode : Mode → Bool
is_code_mode modes.Free = true
is_code_mode modes.Space = true
is_code_mode (modes.Word s) = true
is_code_mode other = false

-- the same without words
abbrev pub is_apart_mode : Mode → Bool
is_apart_mode modes.Free = true
is_apart_mode modes.Space = true
is_apart_mode other = false

-- or in the code of such a field, where these brackets are open, and a piece that passes
pub record StandsInCode (passes : Mode → Bool) (openers : List ℕ) (outer : List Level) (l : Level) (t : FieldScanned) : Type 0 where
  pub front : List ℕ
  pub done : List Piece
  pub mode : Mode
  pub held : List ℕ
  pub is : t ≡ field_state (level_after l front ∷ outer) done openers (plain mode) held
  pub simple : passes mode ≡ true

abbrev pub InCode : List ℕ → List Level → Level → FieldScanned → Type 0
InCode = StandsInCode is_code_mode

-- so that a quote begins a string without a prefix
abbrev pub AtCode : List ℕ → List Level → Level → FieldScanned → Type 0
AtCode = StandsInCode is_apart_mode

-- or in its specification
abbrev pub AtSpecification : List Level → Level → FieldScanned → Type 0
AtSpecification outer l t =
    (front : List ℕ) × (held : List ℕ) × (t ≡ field_state (level_after l front ∷ outer) [] [] (body l.host specification false between) held)

-- these characters are ASCII on one line, and lead from one such place to another in each string of this quote, where at most a hundred brackets and
-- fields are open round it
pub record Leads (quote : ℕ) (From : List Level → Level → FieldScanned → Type 0) (run : List ℕ) (To : List Level → Level → FieldScanned → Type 0) : Type 0 where
  pub low : list_all is_line_byte run ≡ true
  pub goes : (outer : List Level) (l : Level) (t : FieldScanned) → l.host.quote ≡ quote → is_quote quote ≡ true
      → length l.openers + levels_open outer ≤ 100 → From outer l t
      → (u : FieldScanned) × Goes t run u × KeepsOpen t run × To outer l u

-- so do the first bytes, so many of them
abbrev pub LeadsBy : ℕ → (List Level → Level → FieldScanned → Type 0) → List ℕ → ℕ → (List Level → Level → FieldScanned → Type 0) → Type 0
LeadsBy quote From bytes len To = (len ≤ length bytes) × Leads quote From (take len bytes) To

-- the brackets that are looked for in a field's code
unfoldable pub is_code_bracket : ℕ → Bool
is_code_bracket = is_one_of (codes "([")

-- what may stand after a backslash and takes no more: no line end, no brace, and no `N`
abbrev pub is_escaped : ℕ → Bool
is_escaped c = nat_lt c 128 && (not (is_break c) && (not (is_brace c) && not (c == byte "N")))

-- the bytes begin with code that has so many of them: words, signs and strings without a prefix
pub record HasSimpleCode (bytes : List ℕ) (len : ℕ) : Type 0 where
  pub within : len ≤ length bytes
  pub leads : (openers : List ℕ) (quote : ℕ) → Leads quote (AtCode openers) (take len bytes) (InCode openers)

-- so with code that may have brackets, none of which stands in another
pub record HasCode (bytes : List ℕ) (len : ℕ) : Type 0 where
  pub within : len ≤ length bytes
  pub leads : (quote : ℕ) → Leads quote (AtCode []) (take len bytes) (InCode [])

-- a field after its `{`, if it is simple, and a part of a string's text that is none of its characters
abbrev pub HasField : ℕ → List ℕ → Option ℕ → Type 0
HasField quote bytes None = Unit {0}
HasField quote bytes (Some len) = LeadsBy quote AtBrace bytes len InText

abbrev pub HasPart : ℕ → List ℕ → Option ℕ → Type 0
HasPart quote bytes None = Unit {0}
HasPart quote bytes (Some len) = (0 < len) × LeadsBy quote InText bytes len InText

-- the text of a string that the bytes begin with, as far as it is simple
abbrev pub HasText : ℕ → List ℕ → ℕ → Type 0
HasText quote bytes len = LeadsBy quote InText bytes len InText
