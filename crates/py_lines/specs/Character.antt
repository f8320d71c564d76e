-- Which characters the pieces of a text are made of. Python Language Reference, 2.1 to 2.6.
use Rattle.std.specs.Prelude.{ℕ, Bool, false, ◌==◌, ◌||◌, ◌&&◌, List, [], ◌∷◌, ◌++◌, nat_le, codes}
use Rattle.std.specs.Str.{byte}
use Rattle.unicode_ident.specs.Ident.{is_xid_start, is_xid_continue}

-- whether the character is one of the list
abbrev pub is_one_of : List ℕ → ℕ → Bool
is_one_of [] c = false
is_one_of (d ∷ ds) c = (c == d) || is_one_of ds c

-- U+FEFF, the byte order mark, may stand at the text's start (2.1.4)
unfoldable pub is_mark : ℕ → Bool
is_mark = is_one_of (0xFEFF ∷ [])

-- space, tab and form feed stand between tokens (2.1.9)
unfoldable pub is_space : ℕ → Bool
is_space = is_one_of (codes " \t" ++ 0x0C ∷ [])

-- names and numbers are runs of the characters that may continue an identifier (2.3)
unfoldable pub is_word_character : ℕ → Bool
is_word_character = is_xid_continue

-- a word that begins with a digit is a number (2.4)
unfoldable pub is_digit : ℕ → Bool
is_digit c = nat_le (byte "0") c && nat_le c (byte "9")

-- a word begins with a character that may begin an identifier, the underscore or a digit (2.3, 2.4)
unfoldable pub is_word_start : ℕ → Bool
is_word_start c = is_xid_start c || (c == byte "_") || is_digit c

-- `'` and `"` open and close strings (2.4.1)
unfoldable pub is_quote : ℕ → Bool
is_quote = is_one_of (codes "'\"")

-- the characters of operators and delimiters, brackets with them (2.5, 2.6)
unfoldable pub is_operator : ℕ → Bool
is_operator = is_one_of (codes "+-*/%@&|^~<>=!()[]{},:.;")

-- line feed
unfoldable pub is_line_feed : ℕ → Bool
is_line_feed = is_one_of (codes "\n")

-- carriage return
unfoldable pub is_return : ℕ → Bool
is_return = is_one_of (codes "\r")

-- the characters of line ends (2.1.2)
unfoldable pub is_break : ℕ → Bool
is_break = is_one_of (codes "\n\r")

-- `#` opens a comment (2.1.3)
unfoldable pub is_hash : ℕ → Bool
is_hash = is_one_of (codes "#")

-- the backslash joins lines and escapes in strings (2.1.5, 2.4.1)
unfoldable pub is_backslash : ℕ → Bool
is_backslash = is_one_of (codes "\\")

-- what doesn't stand bare in a short string between these quotes: its quote and the characters of line ends
unfoldable pub is_barred : ℕ → ℕ → Bool
is_barred quote = is_one_of (quote ∷ codes "\n\r")

-- `r`, in either case, in the prefix of a string (2.4.1)
unfoldable pub is_r : ℕ → Bool
is_r = is_one_of (codes "rR")

-- `b`, in either case
unfoldable pub is_b : ℕ → Bool
is_b = is_one_of (codes "bB")

-- `f`, in either case
unfoldable pub is_f : ℕ → Bool
is_f = is_one_of (codes "fF")

-- `u`, in either case
unfoldable pub is_u : ℕ → Bool
is_u = is_one_of (codes "uU")

-- `t`, in either case
unfoldable pub is_t : ℕ → Bool
is_t = is_one_of (codes "tT")

-- `{` and `}`
unfoldable pub is_brace : ℕ → Bool
is_brace = is_one_of (codes "{}")
