-- The grammar of pieces: how each class is spelled, and what may follow it. Python Language Reference, chapter 2.
use Rattle.std.specs.Prelude.{◌≡◌, ℕ, Bool, true, false, not, ◌==◌, ◌||◌, ◌&&◌, ◌⊎◌, List, [], ◌∷◌, ◌++◌, codes}
use Rattle.std.specs.List.{list_all, list_any}
use Rattle.py_lines.specs.Character.{is_mark, is_space, is_word_character, is_word_start, is_quote, is_operator, is_line_feed, is_return, is_break, is_hash, is_backslash, is_barred, is_r, is_b, is_f, is_u}
use Rattle.py_lines.specs.Piece.{Class, mark, space, word, string, operator, comment, join, line_end, Piece, begins, ends, spelled, begins_marked}

-- one character or more, and each passes
abbrev pub IsRun : (ℕ → Bool) → List ℕ → Type 0
IsRun passes text = (first : ℕ) × (others : List ℕ) × (text ≡ first ∷ others) × (list_all passes text ≡ true)

-- one character, and it passes
abbrev pub IsSingle : (ℕ → Bool) → List ℕ → Type 0
IsSingle passes text = (one : ℕ) × (text ≡ one ∷ []) × (passes one ≡ true)

-- a character that begins words, and others that continue them (2.3, 2.4)
abbrev pub IsWord : List ℕ → Type 0
IsWord text =
    (first : ℕ) × (others : List ℕ) × (text ≡ first ∷ others) × (is_word_start first ≡ true)
    × (list_all is_word_character others ≡ true)

-- LF, CR LF or CR (2.1.2)
pub data IsLineEnd (text : List ℕ) : Type 0 where
  feed : text ≡ codes "\n" → IsLineEnd text
  return_feed : text ≡ codes "\r\n" → IsLineEnd text
  return : text ≡ codes "\r" → IsLineEnd text

-- `#` and characters that break no line (2.1.3)
abbrev pub IsComment : List ℕ → Type 0
IsComment text = (hash : ℕ) × (body : List ℕ) × (text ≡ hash ∷ body) × (is_hash hash ≡ true) × (list_any is_break body ≡ false)

-- a backslash and a line end (2.1.5)
abbrev pub IsJoin : List ℕ → Type 0
IsJoin text = (slash : ℕ) × (end : List ℕ) × (text ≡ slash ∷ end) × (is_backslash slash ≡ true) × IsLineEnd end

-- whether the word is a string prefix: r, u, b, f, br, rb, fr, rf in either case (2.4.1)
abbrev pub is_prefix : List ℕ → Bool
is_prefix [] = false
is_prefix (a ∷ []) = is_r a || is_b a || is_f a || is_u a
is_prefix (a ∷ b ∷ []) = (is_r a && (is_b b || is_f b)) || ((is_b a || is_f a) && is_r b)
is_prefix (a ∷ b ∷ c ∷ cs) = false

-- no characters, or some that pass
abbrev pub IsNoneOr : (List ℕ → Bool) → List ℕ → Type 0
IsNoneOr passes text = (text ≡ []) ⊎ (passes text ≡ true)

-- what may stand before the quotes of a string: nothing or a prefix
abbrev pub IsPrefix : List ℕ → Type 0
IsPrefix prefix = IsNoneOr is_prefix prefix

-- An item of a string: a backslash with the line end or the one character after it, or any other one character
-- (2.4.1). A backslash and CR may be taken for an item before LF too: which strings there are doesn't change.
abbrev pub is_item : List ℕ → Bool
is_item [] = false
is_item (c ∷ []) = not (is_backslash c)
is_item (c ∷ d ∷ []) = is_backslash c
is_item (c ∷ d ∷ e ∷ []) = is_backslash c && is_return d && is_line_feed e
is_item (c ∷ d ∷ e ∷ f ∷ cs) = false

-- whether the item is one character, and passes
abbrev pub is_bare : (ℕ → Bool) → List ℕ → Bool
is_bare passes (c ∷ []) = passes c
is_bare passes other = false

-- an item of a short string: no bare quote of its own, and no bare line end
abbrev pub is_short_item : ℕ → List ℕ → Bool
is_short_item quote item = is_item item && not (is_bare (is_barred quote) item)

-- the items, one after another
abbrev pub joined : List (List ℕ) → List ℕ
joined [] = []
joined (item ∷ items) = item ++ joined items

-- whether the items begin with three quotes in a row
abbrev pub begins_triple : ℕ → List (List ℕ) → Bool
begins_triple quote (a ∷ b ∷ c ∷ items) = is_bare (λ d. d == quote) a && is_bare (λ d. d == quote) b && is_bare (λ d. d == quote) c
begins_triple quote other = false

-- whether three quotes stand in a row somewhere in the items
abbrev pub has_triple : ℕ → List (List ℕ) → Bool
has_triple quote [] = false
has_triple quote (item ∷ items) = begins_triple quote (item ∷ items) || has_triple quote items

-- a quote, items of a short string, and the same quote (2.4.1)
pub record IsShortString (text : List ℕ) : Type 0 where
  pub prefix : List ℕ
  pub quote : ℕ
  pub items : List (List ℕ)
  pub spell : text ≡ prefix ++ (quote ∷ joined items ++ quote ∷ [])
  pub begun : IsPrefix prefix
  pub opens : is_quote quote ≡ true
  pub each : list_all (is_short_item quote) items ≡ true

-- three quotes, items, and the same three quotes, which are the first three in a row after the opening ones (2.4.1)
pub record IsLongString (text : List ℕ) : Type 0 where
  pub prefix : List ℕ
  pub quote : ℕ
  pub items : List (List ℕ)
  pub spell : text ≡ prefix ++ (quote ∷ quote ∷ quote ∷ joined items ++ quote ∷ quote ∷ quote ∷ [])
  pub begun : IsPrefix prefix
  pub opens : is_quote quote ≡ true
  pub each : list_all is_item items ≡ true
  pub first : has_triple quote (items ++ (quote ∷ []) ∷ (quote ∷ []) ∷ []) ≡ false

-- strings are short or long
abbrev pub IsString : List ℕ → Type 0
IsString text = IsShortString text ⊎ IsLongString text

-- A grammar of strings: which words are their prefixes, and which texts are strings. Python 3.12 reads strings in another
-- way than Python 3.11, and all other pieces in the same.
pub record Grammar : Type 1 where
  pub is_prefix : List ℕ → Bool
  pub IsString : List ℕ → Type 0

-- strings as Python 3.11 reads them: what stands between the quotes is no more than characters, whatever the prefix
abbrev pub without_fields : Grammar
without_fields = record { is_prefix = is_prefix; IsString = IsString }

-- how each class is spelled
abbrev pub InClassIn : Grammar → Class → List ℕ → Type 0
InClassIn grammar mark text = IsSingle is_mark text
InClassIn grammar space text = IsRun is_space text
InClassIn grammar word text = IsWord text
InClassIn grammar string text = grammar.IsString text
InClassIn grammar operator text = IsSingle is_operator text
InClassIn grammar comment text = IsComment text
InClassIn grammar join text = IsJoin text
InClassIn grammar line_end text = IsLineEnd text

abbrev pub InPlainClass : Class → List ℕ → Type 0
InPlainClass class text = InClassIn without_fields class text

-- What a piece may stand before: `rest` is all that follows it. Spaces and words are as long as can be, a prefix
-- isn't cut from its string, two quotes aren't the beginning of three, a comment goes to the line's end, and CR isn't
-- cut from the LF after it.
abbrev pub MayPrecedeIn : Grammar → Class → List ℕ → List ℕ → Type 0
MayPrecedeIn grammar mark text rest = Unit {0}
MayPrecedeIn grammar space text rest = begins is_space rest ≡ false
MayPrecedeIn grammar word text rest = (begins is_word_character rest ≡ false) × (grammar.is_prefix text && begins is_quote rest ≡ false)
MayPrecedeIn grammar string text rest =
    (prefix : List ℕ) (quote : ℕ) → text ≡ prefix ++ quote ∷ quote ∷ [] → IsNoneOr grammar.is_prefix prefix → is_quote quote ≡ true
    → begins (λ c. c == quote) rest ≡ false
MayPrecedeIn grammar operator text rest = Unit {0}
MayPrecedeIn grammar comment text rest = (rest ≡ []) ⊎ (begins is_break rest ≡ true)
MayPrecedeIn grammar join text rest = ends is_return text && begins is_line_feed rest ≡ false
MayPrecedeIn grammar line_end text rest = ends is_return text && begins is_line_feed rest ≡ false

abbrev pub MayPrecedePlain : Class → List ℕ → List ℕ → Type 0
MayPrecedePlain class text rest = MayPrecedeIn without_fields class text rest

-- each piece is of its class and may precede what follows it, with `rest` at the end; no mark stands after a piece
abbrev pub AreReadIn : Grammar → List Piece → List ℕ → Type 0
AreReadIn grammar [] rest = Unit {0}
AreReadIn grammar (p ∷ ps) rest =
    InClassIn grammar p.class p.text × MayPrecedeIn grammar p.class p.text (spelled ps ++ rest) × (begins_marked ps ≡ false)
    × AreReadIn grammar ps rest

abbrev pub AreReadPlain : List Piece → List ℕ → Type 0
AreReadPlain pieces rest = AreReadIn without_fields pieces rest

-- the pieces read these characters, to the end of the text
pub record ReadsIn (grammar : Grammar) (pieces : List Piece) (characters : List ℕ) : Type 0 where
  pub spell : spelled pieces ≡ characters
  pub fit : AreReadIn grammar pieces []

abbrev pub ReadsPlain : List Piece → List ℕ → Type 0
ReadsPlain pieces characters = ReadsIn without_fields pieces characters
