-- What a character begins, by the class of its first byte.
use Rattle.py_lines.proofs.Prelude.{◌≡◌, ◌⊎◌, ℕ, ◌<◌, ◌≤◌, true, false, List, [], ◌∷◌, ◌++◌, slice_index, refl, ap, sym, ◌∙◌, arith, if◌then◌else◌, ⊎_elim, codes, nat_le, nat_lt, list_any, and_parts, cases_lt, le-leb, leb-true, ltb-true, nat_tests, byte_from_char, char_from_byte, len_utf8_bounds, BeginsWith}
use Rattle.unicode_ident.specs.Ident.{is_xid_start}
use Rattle.py_lines.specs.Character.{is_backslash, is_b, is_break, is_digit, is_f, is_hash, is_line_feed, is_one_of, is_operator, is_quote, is_r, is_return, is_space, is_t, is_u, is_word_start}
use Rattle.py_lines.specs.declared.class.Class.{Class}
use Rattle.py_lines.specs.declared.class.Class.TheVariants as class
use Rattle.py_lines.specs.Private.Machine.{Mode, Spelling, Start, first_spelling, start_of}
use Rattle.py_lines.specs.Private.Marks.{begins_nothing, is_of_class, is_plain}
use Rattle.py_lines.proofs.FieldMachine.PieceRuns.{opening_operator}
use Rattle.py_lines.proofs.LineScan.AsciiRuns.{word_byte_low, word_byte_starts}
use Rattle.py_lines.proofs.Machine.LiveTexts.{closing-operator}
use Rattle.py_lines.proofs.Text.CharacterTests.{excluded, none_of, operator_ascii}
use Rattle.py_lines.proofs.Text.FirstCharacters.{first_size}
use Rattle.py_lines.proofs.Machine.Starts.{start-word, start-space, start-operator, start-feed, start-return, start-quote, start-hash, start-slash}

-- what one of this class begins
abbrev pub start_by : Class → ℕ → Start
start_by class.Word c = Start.Open (Mode.Word (first_spelling c))
start_by class.Space c = Start.Open Mode.Space
start_by class.Operator c = Start.Operator
start_by class.Opening c = Start.Operator
start_by class.Closing c = Start.Operator
start_by class.Quote c = Start.Open (Mode.Opened c)
start_by class.LineFeed c = Start.LineEnd
start_by class.Return c = Start.Open Mode.Return
start_by class.Hash c = Start.Open Mode.Comment
start_by class.Backslash c = Start.Open Mode.Backslash
start_by _ c = Start.Nothing

nothing_low : (c : ℕ) → begins_nothing c ≡ true → c < 128
unfolding begins_nothing
nothing_low c h = ltb-true c 128 (and_parts (nat_lt c 128) _ h).0

nothing_starts : (c : ℕ) → c < 128 → begins_nothing c ≡ true → start_of c ≡ Start.Nothing
unfolding begins_nothing start_of is_plain is_break is_line_feed is_return
nothing_starts c low h = grind (arith, word_byte_starts c low)

pub starts_by : (k : Class) (c : ℕ) → c < 128 → is_of_class k c ≡ true → start_of c ≡ start_by k c
starts_by k c low h =
    grind (
      arith,
      nat_tests,
      word_byte_starts c low,
      start-word c,
      start-space c,
      start-operator c,
      opening_operator c,
      closing-operator c,
      start-quote c,
      start-feed c,
      start-return c,
      start-hash c,
      start-slash c,
      nothing_starts c low,
    )

-- one that isn't ASCII begins a word or nothing
high_spelling : (c : ℕ) → 128 ≤ c → first_spelling c ≡ Spelling.Name
unfolding first_spelling is_digit is_r is_b is_f is_t is_u
high_spelling c high = grind (arith, nat_tests)

high_word : (c : ℕ) → 128 ≤ c → is_word_start c ≡ is_xid_start c
unfolding is_word_start is_digit
high_word c high = grind (arith, nat_tests)

high_start : (c : ℕ) → 128 ≤ c → start_of c ≡ (if is_xid_start c then Start.Open (Mode.Word Spelling.Name) else Start.Nothing)
unfolding start_of is_space is_operator is_line_feed is_return is_quote is_hash is_backslash
high_start c high =
    let none : (ds : List ℕ) → list_any (nat_le 128) ds ≡ false → is_one_of ds c ≡ false
    = λ ds low. excluded (nat_le 128) (is_one_of ds) c (none_of (nat_le 128) ds c low) (le-leb 128 c high) in
    rw (high_word c high, high_spelling c high, none (codes " \t" ++ 0x0C ∷ []) refl, none (codes "+-*/%@&|^~<>=!()[]{},:.;") refl)
    (rw (none (codes "\n") refl, none (codes "\r") refl, none (codes "'\"") refl, none (codes "#") refl, none (codes "\\") refl) refl)

-- bytes of one class are bytes of wider characters, those of the others ASCII
abbrev InRange : Class → ℕ → Type 0
InRange class.Wide b = 128 ≤ b
InRange k b = b < 128

pub in_range : (k : Class) (b : ℕ) → is_of_class k b ≡ true → InRange k b
unfolding is_space is_quote is_line_feed is_return is_hash is_backslash
in_range k b h = grind (arith, nat_tests, word_byte_low b, opening_operator b, closing-operator b, operator_ascii b, nothing_low b)

-- what one of this class begins, in the code's words
abbrev pub BeginsBy : Class → ℕ → Type 0
BeginsBy class.Operator c = is_operator c ≡ true
BeginsBy class.Opening c = is_operator c ≡ true
BeginsBy class.Closing c = is_operator c ≡ true
BeginsBy class.Quote c = is_quote c ≡ true
BeginsBy class.LineFeed c = is_break c ≡ true
BeginsBy class.Return c = is_break c ≡ true
BeginsBy class.Backslash c = is_backslash c ≡ true
BeginsBy class.Wide c = start_of c ≡ (if is_xid_start c then Start.Open (Mode.Word Spelling.Name) else Start.Nothing)
BeginsBy k c = start_of c ≡ start_by k c

begins_by : (k : Class) (c : ℕ) → is_of_class k c ≡ true → BeginsBy k c
unfolding is_break is_line_feed is_return
begins_by class.Wide c h = high_start c (leb-true 128 c h)
begins_by k c h = grind (arith, opening_operator c, closing-operator c, starts_by k c, in_range k c)

-- what bytes begin with is of the class of the first of them
first_by : (k : Class) (bytes : List ℕ) (c : ℕ) → BeginsWith bytes c → is_of_class k (slice_index bytes 0) ≡ true → is_of_class k c ≡ true
first_by class.Wide bytes c first h =
    ⊎_elim (λ low. absurd (omega (arith, low, leb-true 128 _ h, byte_from_char bytes _ c (sym first.spell) low))) (λ high. le-leb 128 c high) (cases_lt c 128)
first_by k bytes c first h =
    ap (is_of_class k) (char_from_byte bytes _ c (sym first.spell) (in_range k (slice_index bytes 0) h)
    (omega (arith, first_size first, len_utf8_bounds c))) ∙ h

-- as the code compares them
pub begins_as : (k j : Class) (bytes : List ℕ) (c : ℕ) → BeginsWith bytes c → is_of_class j (slice_index bytes 0) ≡ true → j ≡ k → BeginsBy k c
begins_as k j bytes c first of is = begins_by k c (first_by k bytes c first (ap (λ (i : Class). is_of_class i (slice_index bytes 0)) (sym is) ∙ of))

pub operator_as : (j : Class) (bytes : List ℕ) (c : ℕ) → BeginsWith bytes c → is_of_class j (slice_index bytes 0) ≡ true
    → (j ≡ class.Operator) ⊎ ((j ≡ class.Opening) ⊎ (j ≡ class.Closing)) → is_operator c ≡ true
operator_as j bytes c first of is =
    let at = λ (k : Class). begins_as k j bytes c first of in
    ⊎_elim (at class.Operator) (λ brackets. ⊎_elim (at class.Opening) (at class.Closing) brackets) is
