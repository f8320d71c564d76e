-- What each character begins.
use Rattle.py_lines.proofs.Prelude.{◌≡◌, ℕ, true, false, [], ◌∷◌, refl, sym, ◌∙◌, subst, arith, false_from_ne_true, is_opening}
use Rattle.unicode_ident.proofs.Computing.{unicode_ident}
use Rattle.py_lines.specs.Character.{is_mark, is_space, is_word_start, is_digit, is_quote, is_operator, is_line_feed, is_return, is_hash, is_backslash}
use Rattle.py_lines.specs.Private.Machine.{Mode, Start, start_of, first_spelling}
use Rattle.py_lines.proofs.Text.CharacterTests.{each_of, mark_is}

-- the words that `start_of` computes with
starts_at : Unit {0}
unfolding unicode_ident start_of is_space is_word_start is_digit is_quote is_operator is_line_feed is_return is_hash is_backslash
starts_at = tt

pub start-word : (c : ℕ) → is_word_start c ≡ true → start_of c ≡ Start.Open (Mode.Word (first_spelling c))
unfolding start_of
start-word c h = rw h

pub start-space : (c : ℕ) → is_space c ≡ true → start_of c ≡ Start.Open Mode.Space
unfolding starts_at
start-space c h = each_of (λ x. start_of x ≡ Start.Open Mode.Space) (32 ∷ 9 ∷ 12 ∷ []) c (refl, (refl, (refl, tt))) h

pub start-operator : (c : ℕ) → is_operator c ≡ true → start_of c ≡ Start.Operator
unfolding starts_at
start-operator c h =
    each_of (λ x. start_of x ≡ Start.Operator) (43 ∷ 45 ∷ 42 ∷ 47 ∷ 37 ∷ 64 ∷ 38 ∷ 124 ∷ 94 ∷ 126 ∷ 60 ∷ 62 ∷ 61 ∷ 33 ∷ 40 ∷ 41 ∷ 91 ∷ 93 ∷ 123 ∷ 125 ∷ 44 ∷ 58 ∷ 46 ∷ 59 ∷ []) c
    (refl, (refl, (refl, (refl, (refl, (refl, (refl, (refl, (refl, (refl, (refl, (refl, (refl, (refl, (refl, (refl, (refl, (refl, (refl, (refl, (refl, (refl, (refl, (refl, tt)))))))))))))))))))))))) h

pub start-feed : (c : ℕ) → is_line_feed c ≡ true → start_of c ≡ Start.LineEnd
unfolding starts_at
start-feed c h = each_of (λ x. start_of x ≡ Start.LineEnd) (10 ∷ []) c (refl, tt) h

pub start-return : (c : ℕ) → is_return c ≡ true → start_of c ≡ Start.Open Mode.Return
unfolding starts_at
start-return c h = each_of (λ x. start_of x ≡ Start.Open Mode.Return) (13 ∷ []) c (refl, tt) h

pub start-quote : (c : ℕ) → is_quote c ≡ true → start_of c ≡ Start.Open (Mode.Opened c)
unfolding starts_at
start-quote c h = each_of (λ x. start_of x ≡ Start.Open (Mode.Opened x)) (39 ∷ 34 ∷ []) c (refl, (refl, tt)) h

pub start-hash : (c : ℕ) → is_hash c ≡ true → start_of c ≡ Start.Open Mode.Comment
unfolding starts_at
start-hash c h = each_of (λ x. start_of x ≡ Start.Open Mode.Comment) (35 ∷ []) c (refl, tt) h

pub start-slash : (c : ℕ) → is_backslash c ≡ true → start_of c ≡ Start.Open Mode.Backslash
unfolding starts_at
start-slash c h = each_of (λ x. start_of x ≡ Start.Open Mode.Backslash) (92 ∷ []) c (refl, tt) h

-- a mark begins nothing after the text's start
pub start-mark : (c : ℕ) → is_mark c ≡ true → start_of c ≡ Start.Nothing
unfolding starts_at
start-mark c h = subst (λ x. start_of x ≡ Start.Nothing) (sym (mark_is c h)) refl

-- what a character passes that begins this
abbrev pub StartsSo : ℕ → Start → Type 0
StartsSo c (Start.Open Mode.Space) = is_space c ≡ true
StartsSo c (Start.Open (Mode.Word s)) = (is_word_start c ≡ true) × (s ≡ first_spelling c)
StartsSo c (Start.Open Mode.Comment) = is_hash c ≡ true
StartsSo c (Start.Open (Mode.Opened q)) = (is_quote c ≡ true) × (q ≡ c)
StartsSo c (Start.Open Mode.Return) = is_return c ≡ true
StartsSo c (Start.Open Mode.Backslash) = is_backslash c ≡ true
StartsSo c (Start.Open m) = ⊥
StartsSo c Start.Operator = is_operator c ≡ true
StartsSo c Start.LineEnd = is_line_feed c ≡ true
StartsSo c Start.Nothing = Unit {0}

pub starts_so : (c : ℕ) → StartsSo c (start_of c)
unfolding start_of
starts_so c = grind arith

-- an opening bracket is an operator
pub opening_operator : (c : ℕ) → is_opening c ≡ true → is_operator c ≡ true
unfolding is_opening is_operator
opening_operator c h = each_of (λ x. is_operator x ≡ true) (40 ∷ 91 ∷ 123 ∷ []) c (refl, (refl, (refl, tt))) h

-- what begins no operator is no opening bracket
pub opens_no : (c : ℕ) (x : Start) → start_of c ≡ x → (x ≡ Start.Operator → ⊥) → is_opening c ≡ false
opens_no c x is other = false_from_ne_true _ (λ opens. other (sym is ∙ start-operator c (opening_operator c opens)))
