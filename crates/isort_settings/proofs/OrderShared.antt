-- What two texts begin with alike doesn't count in the order of their parts, if it cuts no number.
use Rattle.std.proofs.Common.{◌≡◌, ◌==◌, ℕ, ◌+◌, ◌-◌, ◌<◌, ◌≤◌, zero, suc, Bool, true, false, cond, List, [], ◌∷◌, ◌++◌, map, length, take, drop, get_or, Option, Ordering, Less, Equal, Greater, refl, sym, ◌∙◌, ap, subst, arith, reverse}
use Rattle.std.proofs.lemmas.Bool.{eqb-true}
use Rattle.std.proofs.lemmas.List.{length-reverse, map-append, take-append-drop, take-take, length-take-le, get_or-reverse, get_or-take}
use Rattle.std.proofs.lemmas.List.Sums.{common_prefix_len-le, prefix_len_stops, suffix_len-le-length}
use Rattle.std.specs.Char.{is_ascii_digit, to_ascii_lowercase}
use Rattle.std.specs.Cmp.{nat_cmp_is}
use Rattle.std.specs.Cmp.Lexicographic.{slice_cmp}
use Rattle.std.specs.List.{common_prefix_len, slice_get, suffix_len}
use Rattle.std.specs.Option.{option_cmp}
use Rattle.std.specs.Ordering.{nat_cmp, ordering_then}
use Rattle.std.specs.Str.Parse.{digits_value}
use Rattle.isort_settings.proofs.OrderParts.{byte_before_cut, compare_text, digit_lower, digits_start, numbers, parts_of, parts_order}
use Rattle.isort_settings.specs.Orders.{Numbered, NumberCut, digit_before, cased, cut_at_numbers, part_cmp}

-- nothing, or a byte that is no digit last
abbrev pub EndsInText : List ℕ → Type 0
EndsInText [] = Unit {0}
EndsInText (x ∷ []) = is_ascii_digit x ≡ false
EndsInText (x ∷ y ∷ p) = EndsInText (y ∷ p)

-- two cuts that begin with the same byte of a text, or with the same number
abbrev Alike : List ℕ → List Numbered → List ℕ → List Numbered → Type 0
Alike (x ∷ f) ms (y ∷ g) ns = x ≡ y
Alike [] (m ∷ ms) [] (n ∷ ns) = m.digits ≡ n.digits
Alike [] (m ∷ ms) [] [] = ⊥
Alike [] [] g ns = ⊥
Alike [] (m ∷ ms) (y ∷ g) ns = ⊥
Alike (x ∷ f) ms [] ns = ⊥

abbrev AlikeCuts : NumberCut → NumberCut → Type 0
AlikeCuts c d = Alike c.first c.others d.first d.others

abbrev cuts_order : NumberCut → NumberCut → Ordering
cuts_order c d = slice_cmp part_cmp (parts_of c) (parts_of d)

-- the same byte or number on both sides ties
tied : (u v : ℕ) (o : Ordering) → u ≡ v → ordering_then (nat_cmp u v) o ≡ o
tied u v o e = ap (λ r. ordering_then r o) (sym (nat_cmp_is u v Equal e))

then-assoc : (o p q : Ordering) → ordering_then (ordering_then o p) q ≡ ordering_then o (ordering_then p q)
then-assoc Less p q = refl
then-assoc Equal p q = refl
then-assoc Greater p q = refl

-- a byte that is no digit before two cuts, and a digit before two that are alike
text_step : (b : Bool) (x : ℕ) (c d : NumberCut) → b ≡ false
    → (cuts_order (byte_before_cut b x c) (byte_before_cut b x d) ≡ cuts_order c d) × AlikeCuts (byte_before_cut b x c) (byte_before_cut b x d)
text_step false x c d e = (then-assoc (nat_cmp x x) (slice_cmp nat_cmp c.first d.first) _ ∙ tied x x _ refl, refl)
text_step true x c d e = cc

number_step : (x : ℕ) (f : List ℕ) (ms : List Numbered) (g : List ℕ) (ns : List Numbered) → Alike f ms g ns
    → (cuts_order (digit_before x f ms) (digit_before x g ns) ≡ cuts_order (record { first = f; others = ms }) (record { first = g; others = ns }))
    × AlikeCuts (digit_before x f ms) (digit_before x g ns)
number_step x (y ∷ f) [] (z ∷ g) [] h = (tied (digits_value 10 (x ∷ [])) (digits_value 10 (x ∷ [])) _ refl, refl)
number_step x (y ∷ f) [] (z ∷ g) (n ∷ ns) h = (tied (digits_value 10 (x ∷ [])) (digits_value 10 (x ∷ [])) _ refl, refl)
number_step x (y ∷ f) (m ∷ ms) (z ∷ g) [] h = (tied (digits_value 10 (x ∷ [])) (digits_value 10 (x ∷ [])) _ refl, refl)
number_step x (y ∷ f) (m ∷ ms) (z ∷ g) (n ∷ ns) h = (tied (digits_value 10 (x ∷ [])) (digits_value 10 (x ∷ [])) _ refl, refl)
number_step x [] (m ∷ ms) [] (n ∷ ns) h =
    (tied _ _ _ (ap (λ ds. digits_value 10 (x ∷ ds)) h) ∙ sym (tied _ _ _ (ap (digits_value 10) h)), ap (λ ds. x ∷ ds) h)
number_step x [] (m ∷ ms) [] [] h = absurd h
number_step x [] [] g ns h = absurd h
number_step x [] (m ∷ ms) (z ∷ g) ns h = absurd h
number_step x (y ∷ f) ms [] ns h = absurd h

byte_step : (b : Bool) (x : ℕ) (c d : NumberCut) → AlikeCuts c d
    → (cuts_order (byte_before_cut b x c) (byte_before_cut b x d) ≡ cuts_order c d) × AlikeCuts (byte_before_cut b x c) (byte_before_cut b x d)
byte_step false x c d h = text_step false x c d refl
byte_step true x c d h = number_step x c.first c.others d.first d.others h

-- the same text before two texts, where it cuts no number
shared_cut : (x : ℕ) (p a b : List ℕ) → EndsInText (x ∷ p)
    → (cuts_order (cut_at_numbers (x ∷ p ++ a)) (cut_at_numbers (x ∷ p ++ b)) ≡ cuts_order (cut_at_numbers a) (cut_at_numbers b))
    × AlikeCuts (cut_at_numbers (x ∷ p ++ a)) (cut_at_numbers (x ∷ p ++ b))
shared_cut x [] a b h = text_step (is_ascii_digit x) x (cut_at_numbers a) (cut_at_numbers b) h
shared_cut x (y ∷ p) a b h =
    let rest = shared_cut y p a b h in
    let all = byte_step (is_ascii_digit x) x (cut_at_numbers (y ∷ p ++ a)) (cut_at_numbers (y ∷ p ++ b)) rest.1 in
    (all.0 ∙ rest.0, all.1)

EndsInText-map : (p : List ℕ) → EndsInText p → EndsInText (map to_ascii_lowercase p)
EndsInText-map [] h = tt
EndsInText-map (x ∷ []) h = digit_lower x ∙ h
EndsInText-map (x ∷ y ∷ p) h = EndsInText-map (y ∷ p) h

shared_order : (s : Bool) (p a b : List ℕ) → EndsInText p → parts_order s (p ++ a) (p ++ b) ≡ parts_order s a b
shared_order s [] a b h = refl
shared_order true (x ∷ p) a b h = (shared_cut x p a b h).0
shared_order false (x ∷ p) a b h =
    rw (map-append to_ascii_lowercase p a, map-append to_ascii_lowercase p b) ((shared_cut (to_ascii_lowercase x) (map to_ascii_lowercase p) (map to_ascii_lowercase a) (map to_ascii_lowercase b) (EndsInText-map (x ∷ p) h)).0)

-- what stands before the digits at the end of a text
EndsInText-last : (p : List ℕ) → (0 < length p → is_ascii_digit (get_or p (length p - 1) 0) ≡ false) → EndsInText p
EndsInText-last [] h = tt
EndsInText-last (x ∷ []) h = h (omega arith)
EndsInText-last (x ∷ y ∷ p) h =
    EndsInText-last (y ∷ p) (λ lt. let e : suc (length (y ∷ p) - 1) ≡ length (x ∷ y ∷ p) - 1 = omega arith in ap (λ k. is_ascii_digit (get_or (x ∷ y ∷ p) k 0)) e ∙ h (omega arith))

EndsInText-before : (xs : List ℕ) → EndsInText (take (length xs - suffix_len is_ascii_digit xs) xs)
EndsInText-before xs =
    let n : ℕ = length xs - suffix_len is_ascii_digit xs in
    let long : length (take n xs) ≡ n = length-take-le n xs (omega arith) in
    EndsInText-last (take n xs) (λ lt.
    let k : ℕ = suffix_len is_ascii_digit xs in
    let less : k < length (reverse xs) = omega (arith, length-reverse xs) in
    let e : length xs - 1 - k ≡ length (take n xs) - 1 = omega arith in
    ap is_ascii_digit (get_or-take n xs (length (take n xs) - 1) 0 (omega arith) ∙ ap (λ j. get_or xs j 0) (sym e) ∙ sym (get_or-reverse xs k 0 (omega arith)))
    ∙ prefix_len_stops is_ascii_digit (reverse xs) 0 less)

-- as many bytes as are alike are the same
take_step : (t : Bool) (n m x y : ℕ) (a b : List ℕ) → (x == y) ≡ t → suc n ≤ cond t (1 + m) 0 → (n ≤ m → take n a ≡ take n b) → x ∷ take n a ≡ y ∷ take n b
take_step true n m x y a b e le rest = rw (eqb-true x y e, rest (omega arith)) refl
take_step false n m x y a b e le rest = absurd (omega arith)

take-shared : (n : ℕ) (a b : List ℕ) → n ≤ common_prefix_len (λ x y. x == y) a b → take n a ≡ take n b
take-shared zero a b le = refl
take-shared (suc n) [] b le = absurd (omega arith)
take-shared (suc n) (x ∷ a) [] le = absurd (omega arith)
take-shared (suc n) (x ∷ a) (y ∷ b) le = take_step (x == y) n (common_prefix_len (λ x y. x == y) a b) x y a b refl le (take-shared n a b)

-- where the texts are cut
pub shared_bounds : (a b : List ℕ) (shared digits : ℕ) → shared ≡ common_prefix_len (λ x y. x == y) a b → digits ≡ suffix_len is_ascii_digit (take shared a)
    → (shared ≡ length (take shared a)) × (digits ≤ shared) × (shared ≤ length a) × (shared ≤ length b)
shared_bounds a b shared digits h k =
    let le = common_prefix_len-le (λ x y. x == y) a b in
    let long : shared ≡ length (take shared a) = sym (length-take-le shared a (omega arith)) in
    (long, omega (arith, suffix_len-le-length is_ascii_digit (take shared a)), omega arith, omega arith)

-- what follows decides
pub order_after_shared : (s : Bool) (a b a_rest b_rest : List ℕ) (shared digits : ℕ) → shared ≡ common_prefix_len (λ x y. x == y) a b → digits ≡ suffix_len is_ascii_digit (take shared a)
    → a_rest ≡ drop (shared - digits) a → b_rest ≡ drop (shared - digits) b → parts_order s a_rest b_rest ≡ parts_order s a b
order_after_shared s a b a_rest b_rest shared digits h k ea eb =
    let start : ℕ = shared - digits in
    let long = (shared_bounds a b shared digits h k).0 in
    let at : length (take shared a) - suffix_len is_ascii_digit (take shared a) ≡ start = omega arith in
    let ends : EndsInText (take start a) = subst EndsInText (ap (λ n. take n (take shared a)) at ∙ take-take start shared a (omega arith)) (EndsInText-before (take shared a)) in
    rw (ea, eb) (
    sym (shared_order s (take start a) (drop start a) (drop start b) ends)
    ∙ ap (λ xs. parts_order s xs (take start a ++ drop start b)) (take-append-drop start a)
    ∙ ap (λ p. parts_order s a (p ++ drop start b)) (take-shared start a b (omega arith))
    ∙ ap (parts_order s a) (take-append-drop start b))

-- the first bytes of the texts before the first digits, and then all
firsts_then : (o p : Ordering) → ordering_then o p ≡ ordering_then o (ordering_then o p)
firsts_then Less p = refl
firsts_then Equal p = refl
firsts_then Greater p = refl

first_bytes : (u v : List ℕ) → slice_cmp nat_cmp u v ≡ ordering_then (option_cmp nat_cmp (slice_get u 0) (slice_get v 0)) (slice_cmp nat_cmp u v)
first_bytes [] [] = refl
first_bytes [] (y ∷ v) = refl
first_bytes (x ∷ u) [] = refl
first_bytes (x ∷ u) (y ∷ v) = firsts_then (nat_cmp x y) (slice_cmp nat_cmp u v)

pub order_by_first : (s : Bool) (a b : List ℕ) (x y : Option ℕ) → x ≡ slice_get (cased s (take (digits_start a) a)) 0 → y ≡ slice_get (cased s (take (digits_start b) b)) 0
    → ordering_then (option_cmp nat_cmp x y) (parts_order s a b) ≡ parts_order s a b
order_by_first s a b x y ex ey =
    let u : List ℕ = cased s (take (digits_start a) a) in
    let v : List ℕ = cased s (take (digits_start b) b) in
    let rest : Ordering = slice_cmp part_cmp (numbers s (drop (digits_start a) a)) (numbers s (drop (digits_start b) b)) in
    let o : Ordering = option_cmp nat_cmp (slice_get u 0) (slice_get v 0) in
    let all = compare_text s a b in
    rw (ex, ey) (sym (all ∙ ap (λ q. ordering_then q rest) (first_bytes u v) ∙ then-assoc o (slice_cmp nat_cmp u v) rest ∙ ap (ordering_then o) (sym all)))
