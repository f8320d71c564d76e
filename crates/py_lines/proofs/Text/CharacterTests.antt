-- What a test of a character says where the character is one of a list.
use Rattle.py_lines.proofs.Prelude.{◌≡◌, ℕ, ◌<◌, leb, Bool, true, false, ◌||◌, eqb, List, [], ◌∷◌, refl, sym, ap, ◌∙◌, subst, ⊎_elim, arith, codes, list_any, list_all, leb-false, or_cases, or_parts, and_from, eqb-true, false_from_ne_true, both_ways, is_opening, is_closing}
use Rattle.unicode_ident.proofs.Computing.{unicode_ident}
use Rattle.py_lines.specs.Character.{is_one_of, is_mark, is_word_character, is_word_start, is_digit, is_quote, is_operator, is_line_feed, is_return, is_break, is_backslash, is_brace, is_barred, is_r, is_b, is_f, is_t, is_u}
use Rattle.py_lines.specs.PieceGrammar.{is_prefix}

-- what each one of a list is
abbrev pub Each : (ℕ → Type 0) → List ℕ → Type 0
Each P [] = Unit {0}
Each P (d ∷ ds) = P d × Each P ds

-- what each one of a list is, one of it is
pub each_of : (P : ℕ → Type 0) (ds : List ℕ) (c : ℕ) → Each P ds → is_one_of ds c ≡ true → P c
each_of P [] c each one = absurd (both_ways _ refl one)
each_of P (d ∷ ds) c each one =
    ⊎_elim (λ same. subst P (sym (eqb-true c d same)) each.0) (λ later. each_of P ds c each.1 later) (or_cases (eqb c d) (is_one_of ds c) one)

-- what is one of a list, none of which passes, doesn't pass
pub none_of : (p : ℕ → Bool) (ds : List ℕ) (c : ℕ) → list_any p ds ≡ false → is_one_of ds c ≡ true → p c ≡ false
none_of p [] c none one = absurd (both_ways _ refl one)
none_of p (d ∷ ds) c none one =
    ⊎_elim (λ same. ap p (eqb-true c d same) ∙ (or_parts (p d) (list_any p ds) none).0)
    (λ later. none_of p ds c (or_parts (p d) (list_any p ds) none).1 later) (or_cases (eqb c d) (is_one_of ds c) one)

-- what passes one test and fails what another one passes, fails that other one
pub excluded : (p q : ℕ → Bool) (c : ℕ) → (q c ≡ true → p c ≡ false) → p c ≡ true → q c ≡ false
excluded p q c apart passes = false_from_ne_true _ (λ other. both_ways _ (apart other) passes)

-- a test that singles out one character
pub the_one : (d c : ℕ) → is_one_of (d ∷ []) c ≡ true → c ≡ d
the_one d c one = each_of (λ x. x ≡ d) (d ∷ []) c (refl, tt) one

pub feed_is : (c : ℕ) → is_line_feed c ≡ true → c ≡ 10
unfolding is_line_feed
feed_is c h = the_one 10 c h

pub return_is : (c : ℕ) → is_return c ≡ true → c ≡ 13
unfolding is_return
return_is c h = the_one 13 c h

pub mark_is : (c : ℕ) → is_mark c ≡ true → c ≡ 65279
unfolding is_mark
mark_is c h = the_one 65279 c h

-- the letters of prefixes are told apart
pub r-not-others : (c : ℕ) → is_r c ≡ true → (is_b c ≡ false) × (is_f c ≡ false) × (is_t c ≡ false)
unfolding is_r is_b is_f is_t
r-not-others c h = (none_of is_b (codes "rR") c refl h, none_of is_f (codes "rR") c refl h, none_of is_t (codes "rR") c refl h)

pub b-not-others : (c : ℕ) → is_b c ≡ true → (is_f c ≡ false) × (is_t c ≡ false)
unfolding is_b is_f is_t
b-not-others c h = (none_of is_f (codes "bB") c refl h, none_of is_t (codes "bB") c refl h)

pub t-not-u : (c : ℕ) → is_t c ≡ true → is_u c ≡ false
unfolding is_t is_u
t-not-u c h = none_of is_u (codes "tT") c refl h

-- the letters of prefixes without fields begin words and go on with them
abbrev BeginsWord : ℕ → Type 0
BeginsWord c = (is_word_start c ≡ true) × (is_word_character c ≡ true)

one_letter : (c : ℕ) → is_r c || is_b c || is_f c || is_u c ≡ true → BeginsWord c
unfolding unicode_ident is_word_start is_word_character is_digit is_r is_b is_f is_u
one_letter c h =
    each_of BeginsWord (codes "rRbBfFuU") c ((refl, refl), ((refl, refl), ((refl, refl), ((refl, refl), ((refl, refl), ((refl, refl), ((refl, refl), ((refl, refl), tt)))))))) (grind (arith, h))

-- a prefix is a word
pub prefix_word : (a : ℕ) (bs : List ℕ) → is_prefix (a ∷ bs) ≡ true → (is_word_start a ≡ true) × (list_all is_word_character bs ≡ true)
prefix_word a [] h = ((one_letter a h).0, refl)
prefix_word a (b ∷ []) h = ((one_letter a (grind (arith, h))).0, and_from _ _ (one_letter b (grind (arith, h))).1 refl)
prefix_word a (b ∷ c ∷ cs) h = absurd (both_ways _ refl h)

pub quote-not-word : (q : ℕ) → is_quote q ≡ true → is_word_character q ≡ false
unfolding unicode_ident is_quote is_word_character
quote-not-word q h = none_of is_word_character (codes "'\"") q refl h

pub quote-not-start : (q : ℕ) → is_quote q ≡ true → is_word_start q ≡ false
unfolding unicode_ident is_quote is_word_start is_digit
quote-not-start q h = none_of is_word_start (codes "'\"") q refl h

-- what isn't a quote differs from each quote
pub not_quote : (c q : ℕ) → is_quote q ≡ true → is_quote c ≡ false → eqb c q ≡ false
not_quote c q quotes other = false_from_ne_true _ (λ same. both_ways _ other (ap is_quote (eqb-true c q same) ∙ quotes))

pub slash-not-quote : (c : ℕ) → is_backslash c ≡ true → is_quote c ≡ false
unfolding is_backslash is_quote
slash-not-quote c h = none_of is_quote (codes "\\") c refl h

pub feed-not-others : (c : ℕ) → is_line_feed c ≡ true → (is_quote c ≡ false) × (is_backslash c ≡ false) × (is_return c ≡ false)
unfolding is_line_feed is_quote is_backslash is_return
feed-not-others c h = (none_of is_quote (codes "\n") c refl h, none_of is_backslash (codes "\n") c refl h, none_of is_return (codes "\n") c refl h)

-- what a short string may hold bare
pub unbarred : (q c : ℕ) → is_barred q c ≡ false → (eqb c q ≡ false) × (is_line_feed c ≡ false) × (is_break c ≡ false)
unfolding is_barred is_break is_line_feed
unbarred q c h = grind (arith, h)

pub barred : (q c : ℕ) → eqb c q ≡ false → is_break c ≡ false → is_barred q c ≡ false
unfolding is_barred is_break
barred q c quote break = rw (quote, break)

pub operator_ascii : (c : ℕ) → is_operator c ≡ true → c < 128
unfolding is_operator
operator_ascii c h = leb-false 128 c (none_of (λ d. leb 128 d) (codes "+-*/%@&|^~<>=!()[]{},:.;") c refl h)

pub break-not-others : (c : ℕ) → is_break c ≡ true → (is_opening c ≡ false) × (is_closing c ≡ false) × (is_quote c ≡ false) × (is_backslash c ≡ false)
unfolding is_break is_opening is_closing is_quote is_backslash
break-not-others c h = grind arith

pub return-not-brace : (c : ℕ) → is_return c ≡ true → is_brace c ≡ false
unfolding is_return is_brace
return-not-brace c h = none_of is_brace (codes "\r") c refl h
