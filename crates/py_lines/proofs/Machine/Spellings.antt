-- A word's spelling, as the machine keeps it, says whether the word is the prefix of a string, with fields or without.
use Rattle.py_lines.proofs.Prelude.{◌≡◌, ◌≤◌, ℕ, List, [], ◌∷◌, length, refl, arith, true, false, fold_stays, list_any}
use Rattle.py_lines.specs.PieceGrammar.{is_prefix}
use Rattle.py_lines.specs.Private.Machine.{Spelling, first_spelling, spelling_with, is_prefix_spelling, is_field_spelling, is_raw_spelling, begins_string, spelling_on, Mode, Holds}
use Rattle.py_lines.proofs.Text.CharacterTests.{r-not-others, t-not-u, b-not-others}
use Rattle.py_lines.specs.Character.{is_r}
use Rattle.py_lines.specs.FieldStrings.{is_field_prefix}
use Rattle.py_lines.specs.Private.Run.{word_spelling}

-- a word of three characters is no prefix
pub third : (s : Spelling) (b c : ℕ) → spelling_with (spelling_with s b) c ≡ Spelling.Name
unfolding spelling_with
third s b c = grind arith

pub long_word : (word : List ℕ) → 3 ≤ length word → word_spelling word ≡ Spelling.Name
unfolding spelling_with
long_word (a ∷ b ∷ c ∷ cs) long = rw (third (first_spelling a) b c) (fold_stays spelling_with Spelling.Name (λ x. refl) cs)
long_word other long = absurd (omega (arith, long))

-- what a spelling says is what the word is
abbrev pub Tells : List ℕ → Spelling → Type 0
Tells word s = (is_field_prefix word ≡ is_field_spelling s) × (is_field_spelling s ≡ true → list_any is_r word ≡ is_raw_spelling s)

abbrev TellsAll : List ℕ → Spelling → Type 0
TellsAll word s = (is_prefix word ≡ is_prefix_spelling s) × Tells word s

one_letter : (a : ℕ) → TellsAll (a ∷ []) (first_spelling a)
unfolding first_spelling
one_letter a = grind (arith, r-not-others a, b-not-others a, t-not-u a)

two_letters : (a b : ℕ) → TellsAll (a ∷ b ∷ []) (spelling_with (first_spelling a) b)
unfolding first_spelling spelling_with
two_letters a b = grind (arith, r-not-others a, b-not-others a, b-not-others b)

more_letters : (first b c : ℕ) (cs : List ℕ) → TellsAll (first ∷ b ∷ c ∷ cs) (spelling_on (spelling_with (spelling_with (first_spelling first) b) c) cs)
unfolding spelling_with
more_letters first b c cs = grind (arith, third (first_spelling first) b c, fold_stays spelling_with Spelling.Name (λ x. refl) cs)

all_told : (first : ℕ) (others : List ℕ) → TellsAll (first ∷ others) (spelling_on (first_spelling first) others)
all_told first [] = one_letter first
all_told first (b ∷ []) = two_letters first b
all_told first (b ∷ c ∷ cs) = more_letters first b c cs

-- a word is a prefix exactly where its spelling says so
pub prefix_spelling : (first : ℕ) (others : List ℕ) → is_prefix (first ∷ others) ≡ is_prefix_spelling (spelling_on (first_spelling first) others)
prefix_spelling first others = (all_told first others).0

pub word_tells : (first : ℕ) (others : List ℕ) → Tells (first ∷ others) (spelling_on (first_spelling first) others)
word_tells first others = (all_told first others).1

-- so does that of an open word
pub word_told : (s : Spelling) (held : List ℕ) → Holds (Mode.Word s) [] held → Tells held s
word_told s held (first, others, is, opens, run, spells) = rw (is, spells) (word_tells first others)

-- a prefix of a string with fields begins a string
pub field_begins : (s : Spelling) → is_field_spelling s ≡ true → begins_string s ≡ true
field_begins s h = grind arith

-- other words are prefixes as the machine without fields has them
pub other_begins : (s : Spelling) → is_field_spelling s ≡ false → begins_string s ≡ is_prefix_spelling s
other_begins s h = grind arith
