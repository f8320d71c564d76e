-- Runs of bytes that a text begins with, which leave the open piece as it is.
use Rattle.std.specs.Prelude.{◌&&◌, Option, None, Some, ◌≡◌, ℕ, ◌+◌, ◌-◌, ◌<◌, ◌≤◌, ◌⊎◌, Bool, true, false, ◌==◌, ◌||◌, not, nat_lt, nat_le, if◌then◌else◌, map, List, [], ◌∷◌, ◌++◌, length, take, drop, slice_index, codes, encode_utf8, ℤ}
use Rattle.std.specs.Int.{w8, cast_unsigned}
use Rattle.std.specs.Str.{byte, IsUtf8}
use Rattle.std.specs.Char.{is_ascii_alphanumeric, len_utf8, IsScalar}
use Rattle.std.specs.List.{list_all}
use Rattle.py_lines.specs.Character.{is_one_of, is_brace, is_space, is_break, is_hash, is_backslash, is_quote}
use Rattle.py_lines.specs.PieceGrammar.{is_short_item, joined}
use Rattle.py_lines.specs.Private.Machine.{IsFull, first_spelling, spelling_on}
use Rattle.py_lines.specs.declared.mode.Mode.{Mode as OpenMode}
use Rattle.py_lines.specs.declared.mode.Mode.TheVariants as opens
use Rattle.py_lines.specs.declared.mode.Spelling.{Spelling}
use Rattle.py_lines.specs.declared.mode.Spelling.TheVariants as spellings
use Rattle.py_lines.specs.declared.run.ByteRun.{ByteRun}
use Rattle.py_lines.specs.declared.run.ByteRun.TheVariants as runs

-- as many bytes pass as there are before the first that doesn't
pub record IsRunOf (passes : ℕ → Bool) (bytes : List ℕ) (len : ℕ) : Type 0 where
  pub within : len ≤ length bytes
  pub each : (i : ℕ) → i < len → passes (slice_index bytes i) ≡ true
  pub ends : len < length bytes → passes (slice_index bytes len) ≡ false

-- the first bytes pass, so many of them
pub record HasRun (passes : ℕ → Bool) (bytes : List ℕ) (len : ℕ) : Type 0 where
  pub within : len ≤ length bytes
  pub each : (i : ℕ) → i < len → passes (slice_index bytes i) ≡ true

-- and they are whole characters
pub record Spans (passes : ℕ → Bool) (bytes : List ℕ) (len : ℕ) : Type 0 where
  pub run : HasRun passes bytes len
  pub utf8 : IsUtf8 (take len bytes)

-- ASCII that ends no line
abbrev pub is_line_byte : ℕ → Bool
is_line_byte c = nat_lt c 128 && not (is_break c)

-- the bytes from one to another
abbrev pub is_between : ℕ → ℕ → ℕ → Bool
is_between low high c = nat_le low c && nat_le c high

-- the lanes of a mask that are set, all ones, are those whose bytes pass
abbrev pub Marks : (ℕ → Bool) → List ℕ → List ℤ → Type 0
Marks passes lanes mask = map (cast_unsigned w8) mask ≡ map (λ c. if passes c then 255 else 0) lanes

-- the letters and digits of ASCII, and the underscore
unfoldable pub is_ascii_word : ℕ → Bool
is_ascii_word c = is_ascii_alphanumeric c || (c == byte "_")

-- the same, and the bytes of characters that aren't ASCII
abbrev pub is_wide_word : ℕ → Bool
is_wide_word c = is_ascii_word c || nat_le 128 c

-- what stands in the body of a string between these quotes, and neither escapes nor ends a line
unfoldable pub is_body_byte : ℕ → ℕ → Bool
is_body_byte quote c = not ((c == quote) || is_one_of (codes "\\\n\r") c)

-- the same, of ASCII
abbrev pub is_text_byte : ℕ → ℕ → Bool
is_text_byte quote c = is_body_byte quote c && nat_lt c 128

-- the same in a string with fields, where it is no brace either
abbrev pub is_literal_byte : ℕ → ℕ → Bool
is_literal_byte quote c = is_text_byte quote c && not (is_brace c)

-- what stands in a string of three such quotes, and neither escapes nor may end it
abbrev pub is_long_byte : ℕ → ℕ → Bool
is_long_byte quote c = not ((c == quote) || is_backslash c)

-- the same, of ASCII
abbrev pub is_long_text_byte : ℕ → ℕ → Bool
is_long_text_byte quote c = is_long_byte quote c && nat_lt c 128

-- a space, or one of the operators that code in fields has mostly: `!`, `=`, and those from `*` to `/`
unfoldable pub is_code_sign : ℕ → Bool
is_code_sign c = is_between 42 47 c || (is_between 32 33 c || (c == byte "="))

-- the same, or what stands in words
abbrev pub is_code_byte : ℕ → Bool
is_code_byte c = is_ascii_word c || is_code_sign c

-- what stands in a comment
abbrev pub is_comment_byte : ℕ → Bool
is_comment_byte c = not (is_break c)

-- whether a byte is one of a run's
abbrev pub is_in_run : ByteRun → ℕ → Bool
is_in_run runs.Word = is_ascii_word
is_in_run runs.WideWord = is_wide_word
is_in_run runs.Space = is_space
is_in_run (runs.Body q) = is_body_byte q
is_in_run (runs.Text q) = is_text_byte q
is_in_run (runs.Literal q) = is_literal_byte q
is_in_run (runs.LongText q) = is_long_text_byte q
is_in_run runs.Code = is_code_byte

-- whether a byte, or a character, leaves the open piece as it is, where that is no string with fields
abbrev pub stays : OpenMode → ℕ → Bool
stays opens.Space c = is_space c
stays (opens.Word spellings.Name) c = is_ascii_word c
stays opens.Comment c = is_comment_byte c
stays (opens.Short q) c = is_body_byte q c
stays (opens.Long q) c = is_long_byte q c
stays other c = false

-- a character that these bytes begin with
pub record BeginsWith (bytes : List ℕ) (c : ℕ) : Type 0 where
  pub scalar : IsScalar c
  pub spell : encode_utf8 c ++ drop (len_utf8 c) bytes ≡ bytes

-- what a line end, a comment or a join of lines begins with
abbrev pub is_apart : ℕ → Bool
is_apart c = is_break c || (is_hash c || is_backslash c)

-- the spelling of a word
abbrev pub word_spelling : List ℕ → Spelling
word_spelling [] = spellings.Name
word_spelling (c ∷ cs) = spelling_on (first_spelling c) cs

-- the bytes begin with a string between single quotes, of ASCII and with no escape in it, which has so many of them
pub record IsWholePlainString (bytes : List ℕ) (len : ℕ) : Type 0 where
  pub q : ℕ
  pub run : List ℕ
  pub after : List ℕ
  pub spell : q ∷ (run ++ q ∷ after) ≡ bytes
  pub size : length run + 2 ≡ len
  pub quote : is_quote q ≡ true
  pub full : IsFull run
  pub all : list_all (is_text_byte q) run ≡ true

abbrev pub HasWholePlainString : List ℕ → Option ℕ → Type 0
HasWholePlainString bytes None = Unit {0}
HasWholePlainString bytes (Some len) = IsWholePlainString bytes len

-- text of ASCII on one line that may stand in a string between single quotes: such items
pub record IsShortText (q : ℕ) (text : List ℕ) : Type 0 where
  pub items : List (List ℕ)
  pub spell : joined items ≡ text
  pub each : list_all (is_short_item q) items ≡ true
  pub inside : list_all is_line_byte text ≡ true

-- a string between single quotes, without a prefix, stands from one byte to another: quotes, and such text between them, which isn't empty
pub record IsShortStringAt (bytes : List ℕ) (at end : ℕ) : Type 0 where
  pub q : ℕ
  pub text : List ℕ
  pub spell : q ∷ (text ++ q ∷ drop end bytes) ≡ drop at bytes
  pub size : length text + 2 ≡ end - at
  pub quote : is_quote q ≡ true
  pub full : IsFull text
  pub is : IsShortText q text

-- a string without a prefix begins at this byte: a quote, after no letter, digit or underscore
pub record BeginsPlainString (bytes : List ℕ) (at : ℕ) : Type 0 where
  pub within : at < length bytes
  pub quote : is_quote (slice_index bytes at) ≡ true
  pub apart : (at ≡ 0) ⊎ (is_ascii_word (slice_index bytes (at - 1)) ≡ false)
