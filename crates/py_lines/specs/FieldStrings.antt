-- Strings that hold fields, after Python 3.14: those with `f` or `t` in their prefix. Strings stand in
-- fields too, so they are told over the fields that there are: `Fields` says which texts are fields of which strings.
-- Python Language Reference of Python 3.14, the sections on f-strings and t-strings.
use Rattle.std.specs.Prelude.{◌≡◌, ℕ, Bool, true, false, not, ◌==◌, ◌||◌, ◌&&◌, ◌⊎◌, List, [], ◌∷◌, ◌++◌, if◌then◌else◌}
use Rattle.std.specs.Str.{byte}
use Rattle.std.specs.List.{list_any}
use Rattle.py_lines.specs.Character.{is_quote, is_line_feed, is_return, is_break, is_backslash, is_brace, is_barred, is_r, is_f, is_t}
use Rattle.py_lines.specs.Piece.{begins}
use Rattle.py_lines.specs.PieceGrammar.{is_prefix, joined, has_triple, IsShortString, IsLongString, Grammar}

-- whether the word is the prefix of a string with fields: f, t, fr, rf, tr, rt in either case
abbrev pub is_field_prefix : List ℕ → Bool
is_field_prefix [] = false
is_field_prefix (a ∷ []) = is_f a || is_t a
is_field_prefix (a ∷ b ∷ []) = (is_r a && (is_f b || is_t b)) || ((is_f a || is_t a) && is_r b)
is_field_prefix (a ∷ b ∷ c ∷ cs) = false

-- a string that may hold fields: its quote, whether there are three of it at each end, and whether `r` is in its prefix
pub record Host : Type 0 where
  pub quote : ℕ
  pub is_long : Bool
  pub is_raw : Bool

-- the quotes that open it, and close it
abbrev pub quotes_of : Host → List ℕ
quotes_of host = if host.is_long then host.quote ∷ host.quote ∷ host.quote ∷ [] else host.quote ∷ []

-- the two kinds of text that a string has outside its fields' code: its literal part, and the specifications of its fields
pub data Place : Type 0 where
  literal : Place
  specification : Place

-- Whether a character stands for itself. In a literal part `{` doesn't, and in a specification neither brace does. After
-- `\N{`, which `named` says, each brace does, up to and with the next `}`.
abbrev pub is_ordinary : Place → Bool → ℕ → Bool
is_ordinary literal named c = named || not (c == byte "{")
is_ordinary specification named c = named || not (is_brace c)

-- whether a character may stand without a backslash: in a short string no quote of its own, and no CR and no LF
abbrev pub may_stand : Host → ℕ → Bool
may_stand host c = host.is_long || not (is_barred host.quote c)

-- whether it may stand after a backslash: in a specification of a short string no CR and no LF
abbrev pub may_be_escaped : Host → Place → ℕ → Bool
may_be_escaped host literal c = true
may_be_escaped host specification c = host.is_long || not (is_break c)

-- `N`, whose name in braces may follow a backslash in a string without `r`
abbrev pub names : Host → ℕ → Bool
names host c = (c == byte "N") && not host.is_raw

-- whether the text begins with `{`
abbrev pub begins_open : List ℕ → Bool
begins_open text = begins (λ c. c == byte "{") text

-- whether the text begins with `{{`
abbrev pub begins_double : List ℕ → Bool
begins_double [] = false
begins_double (c ∷ cs) = (c == byte "{") && begins_open cs

-- What a literal part or a specification is made of, before the rest of it: a character, or a backslash directly before a
-- brace, which stands for itself; a backslash and what it takes; `\N{`; `{{` in a literal part; or a field. In a literal
-- part no field begins with `{{`.
pub data IsPart (Fields : Host → List ℕ → Type 0) (host : Host) (place : Place) (named : Bool) (part rest : List ℕ) : Type 0 where
  bare : (c : ℕ) → part ≡ c ∷ [] → is_backslash c ≡ false → may_stand host c ≡ true → is_ordinary place named c ≡ true
      → IsPart Fields host place named part rest
  slash : (s : ℕ) → part ≡ s ∷ [] → is_backslash s ≡ true → begins is_brace rest ≡ true → IsPart Fields host place named part rest
  escape : (s c : ℕ) → part ≡ s ∷ c ∷ [] → is_backslash s ≡ true → is_brace c ≡ false → may_be_escaped host place c ≡ true
      → names host c && begins_open rest ≡ false → is_return c && begins is_line_feed rest ≡ false
      → IsPart Fields host place named part rest
  escaped_end : (s r f : ℕ) → part ≡ s ∷ r ∷ f ∷ [] → is_backslash s ≡ true → is_return r ≡ true → is_line_feed f ≡ true
      → may_be_escaped host place r ≡ true → IsPart Fields host place named part rest
  name : (s c b : ℕ) → part ≡ s ∷ c ∷ b ∷ [] → is_backslash s ≡ true → names host c ≡ true → b ≡ byte "{"
      → IsPart Fields host place named part rest
  double : (b c : ℕ) → part ≡ b ∷ c ∷ [] → b ≡ byte "{" → c ≡ byte "{" → place ≡ literal → named ≡ false
      → IsPart Fields host place named part rest
  field : Fields host part → (place ≡ literal → begins_double part ≡ false) → named ≡ false → IsPart Fields host place named part rest

-- whether braces stand for themselves after a part: from `\N{` to the next `}`
abbrev pub named_after : Bool → List ℕ → Bool
named_after named (c ∷ []) = named && not (c == byte "}")
named_after named (s ∷ c ∷ b ∷ []) = named || (is_backslash s && (c == byte "N"))
named_after named other = named

-- and after parts
abbrev pub named_through : Bool → List (List ℕ) → Bool
named_through named [] = named
named_through named (p ∷ ps) = named_through (named_after named p) ps

-- parts, one after another, before the rest
abbrev pub AreParts : (Fields : Host → List ℕ → Type 0) → Host → Place → Bool → List (List ℕ) → List ℕ → Type 0
AreParts Fields host place named [] rest = Unit {0}
AreParts Fields host place named (p ∷ ps) rest =
    IsPart Fields host place named p (joined ps ++ rest) × AreParts Fields host place (named_after named p) ps rest

-- A string with fields: a prefix, quotes, parts, and the same quotes. Three closing quotes are the first three in a row.
pub record IsFieldString (Fields : Host → List ℕ → Type 0) (text : List ℕ) : Type 0 where
  pub prefix : List ℕ
  pub host : Host
  pub parts : List (List ℕ)
  pub spell : text ≡ prefix ++ (quotes_of host ++ (joined parts ++ quotes_of host))
  pub begun : is_field_prefix prefix ≡ true
  pub raw : host.is_raw ≡ list_any is_r prefix
  pub opens : is_quote host.quote ≡ true
  pub each : AreParts Fields host literal false parts (quotes_of host)
  pub first : has_triple host.quote (parts ++ (host.quote ∷ []) ∷ (host.quote ∷ []) ∷ []) ≡ false

-- a short or long string that has neither `f` nor `t` in its prefix
abbrev pub IsPlainString : List ℕ → Type 0
IsPlainString text =
    ((short : IsShortString text) × (is_field_prefix short.prefix ≡ false))
    ⊎ ((long : IsLongString text) × (is_field_prefix long.prefix ≡ false))

-- strings after Python 3.14, with these fields in those that have `f` or `t` in their prefix
abbrev pub with_fields : (Host → List ℕ → Type 0) → Grammar
with_fields Fields = record {
  is_prefix = λ prefix. is_prefix prefix || is_field_prefix prefix;
  IsString = λ text. IsPlainString text ⊎ IsFieldString Fields text;
}

-- whether the text begins with `r`, directly before a quote
abbrev pub begins_raw : List ℕ → Bool
begins_raw [] = false
begins_raw (c ∷ cs) = is_r c && begins is_quote cs

-- whether the text begins with `f` or `t`, alone or followed by `r`, directly before a quote
abbrev pub begins_fielded : List ℕ → Bool
begins_fielded [] = false
begins_fielded (c ∷ cs) = (is_f c || is_t c) && (begins is_quote cs || begins_raw cs)

-- whether these stand directly before a quote somewhere in the text: only then may it have a string with fields
abbrev pub may_have_fields : List ℕ → Bool
may_have_fields [] = false
may_have_fields (c ∷ cs) = begins_fielded (c ∷ cs) || may_have_fields cs
