-- The parts of a text: what stands before its first digit, and then a number and the parts of what stands after it.
use Rattle.std.proofs.Common.{◌≡◌, ◌==◌, ◌⊎◌, ⊎_elim, ℕ, ◌+◌, ◌<◌, ◌≤◌, zero, suc, Bool, true, false, cond, not, List, [], ◌∷◌, map, length, take, drop, Ordering, Less, Greater, refl, sym, ◌∙◌, ap, subst, arith, length-drop, ◌-◌}
use Rattle.std.proofs.lemmas.Bool.{and_parts, cases_lt, eqb-true, leb-true}
use Rattle.std.proofs.lemmas.Bool.Decides.{nat_tests}
use Rattle.std.proofs.lemmas.List.{take-map, drop-map}
use Rattle.std.proofs.lemmas.Str.{digit_value_digit}
use Rattle.std.proofs.lemmas.Str.Ascii.{lowercase_is}
use Rattle.std.specs.Prelude.{nat_le}
use Rattle.std.specs.Char.{is_ascii_digit, to_ascii_lowercase, digit_value}
use Rattle.std.specs.Cmp.{nat_cmp_is}
use Rattle.std.specs.Cmp.Lexicographic.{slice_cmp}
use Rattle.std.specs.List.{flat_map, prefix_len, position_or_len}
use Rattle.std.specs.Ordering.{nat_cmp, is_ne, ordering_then}
use Rattle.std.specs.Str.Parse.{AllDigits, digits_value}
use Rattle.isort_settings.proofs.OrderThen.{then-tied_by_test, then-decided_by_test}
use Rattle.isort_settings.specs.Orders.{Numbered, NumberCut, digit_before, digit_before_cut, cut_at_numbers, Part, text, number, cased, parts, part_cmp}

-- where the first digit stands, and how many digits a text begins with
abbrev pub digits_start : List ℕ → ℕ
digits_start xs = position_or_len is_ascii_digit xs

abbrev pub digits_end : List ℕ → ℕ
digits_end xs = prefix_len is_ascii_digit xs

-- nothing, or a digit first
abbrev pub BeginsWithDigit : List ℕ → Type 0
BeginsWithDigit [] = Unit {0}
BeginsWithDigit (z ∷ zs) = is_ascii_digit z ≡ true

-- the parts of a cut text, and those after its first one
abbrev parts_after : List Numbered → List Part
parts_after ns = flat_map (λ n. number (digits_value 10 n.digits) ∷ text n.after ∷ []) ns

abbrev pub parts_of : NumberCut → List Part
parts_of c = text c.first ∷ parts_after c.others

-- the parts of what begins at the first digit
abbrev pub numbers : Bool → List ℕ → List Part
numbers s zs = parts_after (cut_at_numbers (cased s zs)).others

-- one more byte before it
drop_one_more : (n x : ℕ) (xs : List ℕ) → drop (1 + n) (x ∷ xs) ≡ drop n xs
drop_one_more n x xs = let e : 1 + n ≡ suc n = omega arith in ap (λ k. drop k (x ∷ xs)) e

take_one_more : (n x : ℕ) (xs : List ℕ) → take (1 + n) (x ∷ xs) ≡ x ∷ take n xs
take_one_more n x xs = let e : 1 + n ≡ suc n = omega arith in ap (λ k. take k (x ∷ xs)) e

digit_before-first : (d : ℕ) (first : List ℕ) (others : List Numbered) → (digit_before d first others).first ≡ []
digit_before-first d [] [] = refl
digit_before-first d [] (n ∷ ns) = refl
digit_before-first d (x ∷ xs) [] = refl
digit_before-first d (x ∷ xs) (n ∷ ns) = refl

-- a byte before a cut text
abbrev pub byte_before_cut : Bool → ℕ → NumberCut → NumberCut
byte_before_cut b x c = cond b (digit_before_cut x c) (record c { first = x ∷ c.first })

no_first : (b : Bool) (x : ℕ) (c : NumberCut) → b ≡ true → (byte_before_cut b x c).first ≡ []
no_first true x c e = digit_before-first x c.first c.others
no_first false x c e = cc

first_digit : (b : Bool) (x : ℕ) (c : NumberCut) → b ≡ true → byte_before_cut b x c ≡ digit_before_cut x c
first_digit true x c e = refl
first_digit false x c e = cc

first_text : (b : Bool) (x : ℕ) (c : NumberCut) → b ≡ false → byte_before_cut b x c ≡ record c { first = x ∷ c.first }
first_text true x c e = cc
first_text false x c e = refl

-- the text before the first digit is the first part, and the rest are the parts after it
abbrev cut_at : List ℕ → List ℕ → NumberCut
cut_at before rest = record { first = before; others = (cut_at_numbers rest).others }

cut_text_step : (b : Bool) (x : ℕ) (xs : List ℕ) → is_ascii_digit x ≡ b → cut_at_numbers xs ≡ cut_at (take (digits_start xs) xs) (drop (digits_start xs) xs)
    → cut_at_numbers (x ∷ xs) ≡ cut_at (take (cond (not b) (1 + digits_start xs) 0) (x ∷ xs)) (drop (cond (not b) (1 + digits_start xs) 0) (x ∷ xs))
cut_text_step true x xs e rest =
    let f : List ℕ → NumberCut = λ t. record { first = t; others = (cut_at_numbers (x ∷ xs)).others } in
    ap f (no_first (is_ascii_digit x) x (cut_at_numbers xs) e)
cut_text_step false x xs e rest =
    let k : ℕ = digits_start xs in
    first_text (is_ascii_digit x) x (cut_at_numbers xs) e
    ∙ ap (λ (c : NumberCut). record c { first = x ∷ c.first }) rest
    ∙ ap (λ t. cut_at t (drop k xs)) (sym (take_one_more k x xs))
    ∙ ap (λ t. cut_at (take (1 + k) (x ∷ xs)) t) (sym (drop_one_more k x xs))

cut_text : (xs : List ℕ) → cut_at_numbers xs ≡ cut_at (take (digits_start xs) xs) (drop (digits_start xs) xs)
cut_text [] = refl
cut_text (x ∷ xs) = cut_text_step (is_ascii_digit x) x xs refl (cut_text xs)

-- digits, and the cut of what stands after them
abbrev numbered : List ℕ → List ℕ → NumberCut
numbered ds rest = record { first = []; others = record { digits = ds; after = (cut_at_numbers rest).first } ∷ (cut_at_numbers rest).others }

before_text : (x y : ℕ) (first : List ℕ) (others : List Numbered) → digit_before x (y ∷ first) others ≡ record { first = []; others = record { digits = x ∷ []; after = y ∷ first } ∷ others }
before_text x y first [] = refl
before_text x y first (n ∷ ns) = refl

digit_alone : (x y : ℕ) (c d : NumberCut) → c ≡ record d { first = y ∷ d.first } → digit_before_cut x c ≡ record { first = []; others = record { digits = x ∷ []; after = c.first } ∷ c.others }
digit_alone x y c d e =
    let P : NumberCut → Type 0 = λ t. digit_before_cut x t ≡ record { first = []; others = record { digits = x ∷ []; after = t.first } ∷ t.others } in
    subst P (sym e) (before_text x y d.first d.others)

one_more_digit : (n x : ℕ) (ds xs : List ℕ) (more : List ℕ → List ℕ) → ds ≡ take n xs
    → numbered (more (x ∷ ds)) (drop n xs) ≡ numbered (more (take (1 + n) (x ∷ xs))) (drop (1 + n) (x ∷ xs))
one_more_digit n x ds xs more e =
    ap (λ t. numbered (more (x ∷ t)) (drop n xs)) e
    ∙ ap (λ t. numbered (more t) (drop n xs)) (sym (take_one_more n x xs))
    ∙ ap (λ t. numbered (more (take (1 + n) (x ∷ xs))) t) (sym (drop_one_more n x xs))

digits_step : (b : Bool) (x y : ℕ) (ys : List ℕ) → is_ascii_digit y ≡ b → (is_ascii_digit y ≡ true → cut_at_numbers (y ∷ ys) ≡ numbered (y ∷ take (digits_end ys) ys) (drop (digits_end ys) ys))
    → digit_before_cut x (cut_at_numbers (y ∷ ys)) ≡ numbered (x ∷ take (cond b (1 + digits_end ys) 0) (y ∷ ys)) (drop (cond b (1 + digits_end ys) 0) (y ∷ ys))
digits_step true x y ys e rest =
    ap (λ c. digit_before_cut x c) (rest e) ∙ one_more_digit (digits_end ys) y (take (digits_end ys) ys) ys (λ t. x ∷ t) refl
digits_step false x y ys e rest = digit_alone x y (cut_at_numbers (y ∷ ys)) (cut_at_numbers ys) (first_text (is_ascii_digit y) y (cut_at_numbers ys) e)

digits_before_cut : (x : ℕ) (xs : List ℕ) → digit_before_cut x (cut_at_numbers xs) ≡ numbered (x ∷ take (digits_end xs) xs) (drop (digits_end xs) xs)
digits_before_cut x [] = refl
digits_before_cut x (y ∷ ys) = digits_step (is_ascii_digit y) x y ys refl (λ e. first_digit (is_ascii_digit y) y (cut_at_numbers ys) e ∙ digits_before_cut y ys)

number_step : (b : Bool) (x : ℕ) (xs : List ℕ) → b ≡ true
    → numbered (x ∷ take (digits_end xs) xs) (drop (digits_end xs) xs) ≡ numbered (take (cond b (1 + digits_end xs) 0) (x ∷ xs)) (drop (cond b (1 + digits_end xs) 0) (x ∷ xs))
number_step true x xs e = one_more_digit (digits_end xs) x (take (digits_end xs) xs) xs (λ t. t) refl
number_step false x xs e = cc

-- a text that begins with a digit is cut after its first number
cut_number : (x : ℕ) (xs : List ℕ) → is_ascii_digit x ≡ true → cut_at_numbers (x ∷ xs) ≡ numbered (take (digits_end (x ∷ xs)) (x ∷ xs)) (drop (digits_end (x ∷ xs)) (x ∷ xs))
cut_number x xs e = first_digit (is_ascii_digit x) x (cut_at_numbers xs) e ∙ digits_before_cut x xs ∙ number_step (is_ascii_digit x) x xs e

-- the case of letters changes no digit
digit_bounds : (c : ℕ) → is_ascii_digit c ≡ true → (48 ≤ c) × (c ≤ 57)
digit_bounds c h =
    let parts = and_parts (nat_le 48 c) (nat_le c 57) h in
    (leb-true 48 c parts.0, leb-true c 57 parts.1)

no_digit : (c : ℕ) → 57 < c → is_ascii_digit c ≡ false
no_digit c h = grind (arith, nat_tests)

lower_digit : (c : ℕ) → is_ascii_digit c ≡ true → to_ascii_lowercase c ≡ c
lower_digit c h =
    let bounds = digit_bounds c h in
    let low : c < 65 = omega (arith, bounds.1) in
    (lowercase_is c).1 low

pub digit_lower : (c : ℕ) → is_ascii_digit (to_ascii_lowercase c) ≡ is_ascii_digit c
digit_lower c =
    ⊎_elim
    (λ (low : c < 65). ap is_ascii_digit ((lowercase_is c).1 low))
    (λ (from : 65 ≤ c). ⊎_elim
    (λ (high : 90 < c). ap is_ascii_digit ((lowercase_is c).2 high))
    (λ (to : c ≤ 90). ap is_ascii_digit ((lowercase_is c).0 (from, to)) ∙ no_digit (c + 32) (omega arith) ∙ sym (no_digit c (omega arith)))
    (cases_lt 90 c))
    (cases_lt c 65)

run_step : (b c : Bool) (m n : ℕ) → b ≡ c → m ≡ n → cond b (1 + m) 0 ≡ cond c (1 + n) 0
run_step b c m n e f = rw (e, f) refl

digits_start-map : (xs : List ℕ) → digits_start (map to_ascii_lowercase xs) ≡ digits_start xs
digits_start-map [] = refl
digits_start-map (x ∷ xs) = run_step _ _ _ _ (ap not (digit_lower x)) (digits_start-map xs)

digits_end-map : (xs : List ℕ) → digits_end (map to_ascii_lowercase xs) ≡ digits_end xs
digits_end-map [] = refl
digits_end-map (x ∷ xs) = run_step _ _ _ _ (digit_lower x) (digits_end-map xs)

digits-map_step : (b : Bool) (n x y : ℕ) (xs ys : List ℕ) → (b ≡ true → x ≡ y) → take n xs ≡ take n ys → take (cond b (1 + n) 0) (x ∷ xs) ≡ take (cond b (1 + n) 0) (y ∷ ys)
digits-map_step true n x y xs ys e f =
    take_one_more n x xs ∙ ap (λ t. x ∷ t) f ∙ ap (λ d. d ∷ take n ys) (e refl) ∙ sym (take_one_more n y ys)
digits-map_step false n x y xs ys e f = refl

digits-map : (xs : List ℕ) → take (digits_end xs) (map to_ascii_lowercase xs) ≡ take (digits_end xs) xs
digits-map [] = refl
digits-map (x ∷ xs) = digits-map_step (is_ascii_digit x) (digits_end xs) (to_ascii_lowercase x) x (map to_ascii_lowercase xs) xs (lower_digit x) (digits-map xs)

-- the parts of a text
parts_text : (s : Bool) (xs : List ℕ) → parts s xs ≡ text (cased s (take (digits_start xs) xs)) ∷ numbers s (drop (digits_start xs) xs)
parts_text true xs = ap parts_of (cut_text xs)
parts_text false xs =
    let ws : List ℕ = map to_ascii_lowercase xs in
    let k : ℕ = digits_start xs in
    ap parts_of (cut_text ws)
    ∙ ap (λ n. text (take n ws) ∷ parts_after (cut_at_numbers (drop n ws)).others) (digits_start-map xs)
    ∙ ap (λ t. text t ∷ parts_after (cut_at_numbers (drop k ws)).others) (take-map to_ascii_lowercase k xs)
    ∙ ap (λ t. text (map to_ascii_lowercase (take k xs)) ∷ parts_after (cut_at_numbers t).others) (drop-map to_ascii_lowercase k xs)

numbers-nil : (s : Bool) → numbers s [] ≡ []
numbers-nil true = refl
numbers-nil false = refl

numbers-digit : (s : Bool) (z : ℕ) (zs : List ℕ) → is_ascii_digit z ≡ true
    → numbers s (z ∷ zs) ≡ number (digits_value 10 (take (digits_end (z ∷ zs)) (z ∷ zs))) ∷ parts s (drop (digits_end (z ∷ zs)) (z ∷ zs))
numbers-digit true z zs e = ap (λ (c : NumberCut). parts_after c.others) (cut_number z zs e)
numbers-digit false z zs e =
    let xs : List ℕ = z ∷ zs in
    let ws : List ℕ = map to_ascii_lowercase xs in
    let k : ℕ = digits_end xs in
    ap (λ (c : NumberCut). parts_after c.others) (cut_number (to_ascii_lowercase z) (map to_ascii_lowercase zs) (digit_lower z ∙ e))
    ∙ ap (λ n. number (digits_value 10 (take n ws)) ∷ parts_of (cut_at_numbers (drop n ws))) (digits_end-map xs)
    ∙ ap (λ t. number (digits_value 10 t) ∷ parts_of (cut_at_numbers (drop k ws))) (digits-map xs)
    ∙ ap (λ t. number (digits_value 10 (take k xs)) ∷ parts_of (cut_at_numbers t)) (drop-map to_ascii_lowercase k xs)

-- what stands at the first digit begins with one, or is nothing
begins_step : (b : Bool) (x : ℕ) (xs : List ℕ) → is_ascii_digit x ≡ b → BeginsWithDigit (drop (digits_start xs) xs) → BeginsWithDigit (drop (cond (not b) (1 + digits_start xs) 0) (x ∷ xs))
begins_step true x xs e rest = e
begins_step false x xs e rest = subst BeginsWithDigit (sym (drop_one_more (digits_start xs) x xs)) rest

pub begins_with_digit : (xs : List ℕ) → BeginsWithDigit (drop (digits_start xs) xs)
begins_with_digit [] = tt
begins_with_digit (x ∷ xs) = begins_step (is_ascii_digit x) x xs refl (begins_with_digit xs)

-- the bytes of a number are digits
digit_below_ten : (c : ℕ) → is_ascii_digit c ≡ true → digit_value c < 10
digit_below_ten c h =
    let bounds = digit_bounds c h in
    let same : digit_value c + 48 ≡ c = digit_value_digit c bounds in
    omega (arith, bounds.1)

digits_all_step : (b : Bool) (x : ℕ) (xs : List ℕ) → (b ≡ true → digit_value x < 10) → AllDigits 10 (take (digits_end xs) xs) → AllDigits 10 (take (cond b (1 + digits_end xs) 0) (x ∷ xs))
digits_all_step true x xs e rest = subst (AllDigits 10) (sym (take_one_more (digits_end xs) x xs)) (e refl, rest)
digits_all_step false x xs e rest = tt

pub AllDigits-take : (xs : List ℕ) → AllDigits 10 (take (digits_end xs) xs)
AllDigits-take [] = tt
AllDigits-take (x ∷ xs) = digits_all_step (is_ascii_digit x) x xs (digit_below_ten x) (AllDigits-take xs)

-- a number has a digit
some_step : (b : Bool) (n : ℕ) → b ≡ true → 0 < cond b (1 + n) 0
some_step true n e = omega arith
some_step false n e = cc

pub some_digit : (zs : List ℕ) → BeginsWithDigit zs → 0 < length zs → 0 < digits_end zs
some_digit [] h lt = lt
some_digit (z ∷ zs) h lt = some_step (is_ascii_digit z) (digits_end zs) h

-- two texts: what stands before their first digits, and then the rest
pub compare_text : (s : Bool) (a b : List ℕ) → slice_cmp part_cmp (parts s a) (parts s b)
    ≡ ordering_then (slice_cmp nat_cmp (cased s (take (digits_start a) a)) (cased s (take (digits_start b) b)))
    (slice_cmp part_cmp (numbers s (drop (digits_start a) a)) (numbers s (drop (digits_start b) b)))
compare_text s a b =
    ap (λ ps. slice_cmp part_cmp ps (parts s b)) (parts_text s a)
    ∙ ap (λ ps. slice_cmp part_cmp (text (cased s (take (digits_start a) a)) ∷ numbers s (drop (digits_start a) a)) ps) (parts_text s b)

-- two texts that begin with a digit: the numbers, and then the rest
pub compare_number : (s : Bool) (a b : List ℕ) → BeginsWithDigit a → BeginsWithDigit b → 0 < length a → 0 < length b → slice_cmp part_cmp (numbers s a) (numbers s b)
    ≡ ordering_then (nat_cmp (digits_value 10 (take (digits_end a) a)) (digits_value 10 (take (digits_end b) b)))
    (slice_cmp part_cmp (parts s (drop (digits_end a) a)) (parts s (drop (digits_end b) b)))
compare_number s [] b ha hb la lb = absurd (omega arith)
compare_number s (x ∷ xs) [] ha hb la lb = absurd (omega arith)
compare_number s (x ∷ xs) (y ∷ ys) ha hb la lb =
    ap (λ ps. slice_cmp part_cmp ps (numbers s (y ∷ ys))) (numbers-digit s x xs ha)
    ∙ ap (λ ps. slice_cmp part_cmp (number (digits_value 10 (take (digits_end (x ∷ xs)) (x ∷ xs))) ∷ parts s (drop (digits_end (x ∷ xs)) (x ∷ xs))) ps) (numbers-digit s y ys hb)

-- one of two texts has ended: the other one has more parts, unless it has ended too
pub compare_end : (s : Bool) (a b : List ℕ) → BeginsWithDigit a → BeginsWithDigit b → (length a ≡ 0) ⊎ (length b ≡ 0)
    → slice_cmp part_cmp (numbers s a) (numbers s b) ≡ nat_cmp (length a) (length b)
compare_end s [] [] ha hb none = rw numbers-nil refl
compare_end s [] (y ∷ ys) ha hb none =
    let lt : 0 < length (y ∷ ys) = omega arith in
    ap (λ ps. slice_cmp part_cmp ps (numbers s (y ∷ ys))) (numbers-nil s)
    ∙ ap (λ ps. slice_cmp part_cmp [] ps) (numbers-digit s y ys hb)
    ∙ nat_cmp_is 0 (length (y ∷ ys)) Less lt
compare_end s (x ∷ xs) [] ha hb none =
    let lt : 0 < length (x ∷ xs) = omega arith in
    ap (λ ps. slice_cmp part_cmp ps (numbers s [])) (numbers-digit s x xs ha)
    ∙ ap (λ ps. slice_cmp part_cmp (number (digits_value 10 (take (digits_end (x ∷ xs)) (x ∷ xs))) ∷ parts s (drop (digits_end (x ∷ xs)) (x ∷ xs))) ps) (numbers-nil s)
    ∙ nat_cmp_is (length (x ∷ xs)) 0 Greater lt
compare_end s (x ∷ xs) (y ∷ ys) ha hb none = absurd (omega arith)

-- the order of two texts by their parts, and of what stands at their first digits
abbrev pub parts_order : Bool → List ℕ → List ℕ → Ordering
parts_order s a b = slice_cmp part_cmp (parts s a) (parts s b)

abbrev pub numbers_order : Bool → List ℕ → List ℕ → Ordering
numbers_order s a b = slice_cmp part_cmp (numbers s a) (numbers s b)

-- what stands before the first digits, and what begins there
pub order_at_text : (s : Bool) (a b a_text b_text a_rest b_rest : List ℕ)
    → a_text ≡ take (digits_start a) a → b_text ≡ take (digits_start b) b → a_rest ≡ drop (digits_start a) a → b_rest ≡ drop (digits_start b) b
    → parts_order s a b ≡ ordering_then (slice_cmp nat_cmp (cased s a_text) (cased s b_text)) (numbers_order s a_rest b_rest)
order_at_text s a b a_text b_text a_rest b_rest ta tb ra rb = rw (ta, tb, ra, rb) (compare_text s a b)

-- the numbers, and what stands after them
pub order_at_number : (s : Bool) (a b a_digits b_digits a_after b_after : List ℕ) → BeginsWithDigit a → BeginsWithDigit b → 0 < length a → 0 < length b
    → a_digits ≡ take (digits_end a) a → b_digits ≡ take (digits_end b) b → a_after ≡ drop (digits_end a) a → b_after ≡ drop (digits_end b) b
    → numbers_order s a b ≡ ordering_then (nat_cmp (digits_value 10 a_digits) (digits_value 10 b_digits)) (parts_order s a_after b_after)
order_at_number s a b a_digits b_digits a_after b_after ha hb la lb da db ba bb = rw (da, db, ba, bb) (compare_number s a b ha hb la lb)

pub BeginsWithDigit-rest : (a a_rest : List ℕ) → a_rest ≡ drop (digits_start a) a → BeginsWithDigit a_rest
BeginsWithDigit-rest a a_rest e = subst BeginsWithDigit (sym e) (begins_with_digit a)

pub AllDigits-digits : (a a_digits : List ℕ) → a_digits ≡ take (digits_end a) a → AllDigits 10 a_digits
AllDigits-digits a a_digits e = subst (AllDigits 10) (sym e) (AllDigits-take a)

-- what is left after a number is shorter
pub shorter_after : (a a_rest a_after : List ℕ) → a_rest ≡ drop (digits_start a) a → a_after ≡ drop (digits_end a_rest) a_rest → 0 < length a_rest → length a_after < length a
shorter_after a a_rest a_after r b lt =
    let some : 0 < digits_end a_rest = some_digit a_rest (BeginsWithDigit-rest a a_rest r) lt in
    let rest : length a_rest ≡ length a - digits_start a = ap length r ∙ length-drop (digits_start a) a in
    let after : length a_after ≡ length a_rest - digits_end a_rest = ap length b ∙ length-drop (digits_end a_rest) a_rest in
    omega arith

-- the texts before the first digits decide
pub text_decides : (s : Bool) (a b a_left b_left a_text b_text a_rest b_rest : List ℕ) (o : Ordering) (test : Bool) → parts_order s a b ≡ parts_order s a_left b_left
    → a_text ≡ take (digits_start a_left) a_left → b_text ≡ take (digits_start b_left) b_left → a_rest ≡ drop (digits_start a_left) a_left → b_rest ≡ drop (digits_start b_left) b_left
    → o ≡ slice_cmp nat_cmp (cased s a_text) (cased s b_text) → test ≡ is_ne o → test ≡ true → o ≡ parts_order s a b
text_decides s a b a_left b_left a_text b_text a_rest b_rest o test left ta tb ra rb e t h =
    then-decided_by_test o (numbers_order s a_rest b_rest) _ test e t h ∙ sym (order_at_text s a_left b_left a_text b_text a_rest b_rest ta tb ra rb) ∙ sym left

-- or they don't
pub text_ties : (s : Bool) (a b a_left b_left a_text b_text a_rest b_rest : List ℕ) (o : Ordering) (test : Bool) → parts_order s a b ≡ parts_order s a_left b_left
    → a_text ≡ take (digits_start a_left) a_left → b_text ≡ take (digits_start b_left) b_left → a_rest ≡ drop (digits_start a_left) a_left → b_rest ≡ drop (digits_start b_left) b_left
    → o ≡ slice_cmp nat_cmp (cased s a_text) (cased s b_text) → test ≡ is_ne o → test ≡ false → parts_order s a b ≡ numbers_order s a_rest b_rest
text_ties s a b a_left b_left a_text b_text a_rest b_rest o test left ta tb ra rb e t h =
    left ∙ order_at_text s a_left b_left a_text b_text a_rest b_rest ta tb ra rb ∙ sym (then-tied_by_test o (numbers_order s a_rest b_rest) _ test e t h)

-- the numbers decide
pub numbers_decide : (s : Bool) (a b a_digits b_digits a_after b_after : List ℕ) (o : Ordering) (test : Bool) → BeginsWithDigit a → BeginsWithDigit b → 0 < length a → 0 < length b
    → a_digits ≡ take (digits_end a) a → b_digits ≡ take (digits_end b) b → a_after ≡ drop (digits_end a) a → b_after ≡ drop (digits_end b) b
    → o ≡ nat_cmp (digits_value 10 a_digits) (digits_value 10 b_digits) → test ≡ is_ne o → test ≡ true → o ≡ numbers_order s a b
numbers_decide s a b a_digits b_digits a_after b_after o test ha hb la lb da db ba bb e t h =
    then-decided_by_test o (parts_order s a_after b_after) _ test e t h ∙ sym (order_at_number s a b a_digits b_digits a_after b_after ha hb la lb da db ba bb)

-- or they don't
pub numbers_tie : (s : Bool) (a b a_digits b_digits a_after b_after : List ℕ) (o : Ordering) (test : Bool) → BeginsWithDigit a → BeginsWithDigit b → 0 < length a → 0 < length b
    → a_digits ≡ take (digits_end a) a → b_digits ≡ take (digits_end b) b → a_after ≡ drop (digits_end a) a → b_after ≡ drop (digits_end b) b
    → o ≡ nat_cmp (digits_value 10 a_digits) (digits_value 10 b_digits) → test ≡ is_ne o → test ≡ false → numbers_order s a b ≡ parts_order s a_after b_after
numbers_tie s a b a_digits b_digits a_after b_after o test ha hb la lb da db ba bb e t h =
    order_at_number s a b a_digits b_digits a_after b_after ha hb la lb da db ba bb ∙ sym (then-tied_by_test o (parts_order s a_after b_after) _ test e t h)

-- what the test for an empty slice says
pub no_bytes : (n : ℕ) (empty : Bool) → empty ≡ (n == 0) → empty ≡ true → n ≡ 0
no_bytes n empty e h = eqb-true n 0 (sym e ∙ h)

pub some_bytes : (n : ℕ) (empty : Bool) → empty ≡ (n == 0) → empty ≡ false → 0 < n
some_bytes zero empty e h = cc
some_bytes (suc n) empty e h = omega arith
