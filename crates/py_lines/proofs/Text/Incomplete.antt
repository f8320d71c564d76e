-- Which bytes that begin no character more bytes may complete, by what `error_len` says, and after how many bytes of characters they stand.
use Rattle.py_lines.proofs.Prelude.{nat_tests, ◌≡◌, ℕ, ◌+◌, ◌-◌, ◌*◌, ◌/◌, ◌<◌, ◌≤◌, ◌⊎◌, Bool, true, false, cond, Option, None, Some, List, [], ◌∷◌, ◌++◌, length, take, drop, refl, sym, ap, ◌∙◌, subst, ⊎_elim, inl, inr, arith, nat_lt, encode_utf8_all, is_some, StartsWithNoChar, IsUtf8, IsValidUpTo, utf8_error_len, error_len_of_some, error_len_after_one, error_len_after_two, second_byte_min, second_byte_max, is_in_range, IsInRange, IsOutOfRange, cases_lt, and_parts, le-ltb, ne_eqb, cases_Bool, next, low_scalar, drop_all, take_all}
use Rattle.py_lines.proofs.Text.Utf8Prefixes.{nothing_bad, opening_text}
use Rattle.py_lines.proofs.Text.Utf8Shapes.{Follows, no_longer, one, two, three, four, high_scalar}
use Rattle.py_lines.specs.Settled.{IsHopeless}

-- the second byte lies where the first one allows it
abbrev In : ℕ → ℕ → Type 0
In x y = (second_byte_min x ≤ y) × (y ≤ second_byte_max x)

-- so it follows a first one, and this is what the bounds are
bounds : (x y : ℕ) → In x y → Follows y × (x ≡ 224 → 160 ≤ y) × (x ≡ 237 → y < 160) × (x ≡ 240 → 144 ≤ y) × (x ≡ 244 → y < 144)
bounds x y i = grind (arith, nat_tests)

-- bytes that are a character
two_char : (x y : ℕ) (r : List ℕ) → 194 ≤ x → x < 224 → Follows y → StartsWithNoChar (x ∷ y ∷ r) → ⊥
two_char x y r low high f none =
    let c = (x - 192) * 64 + (y - 128) in let p : x ≡ 192 + c / 64 = omega arith in
    let q : y ≡ next c = omega arith in
    none c r (low_scalar c (omega arith)) ((λ i. p i ∷ q i ∷ r) ∙ ap (λ l. l ++ r) (sym (two c (omega arith) (omega arith))))

three_char : (x y z : ℕ) (r : List ℕ) → 224 ≤ x → x < 240 → In x y → Follows z → StartsWithNoChar (x ∷ y ∷ z ∷ r) → ⊥
three_char x y z r low high i f none =
    let b = bounds x y i in let c = (x - 224) * 4096 + (y - 128) * 64 + (z - 128) in
    let least : 2048 ≤ c = grind (arith, b) in
    let apart : (c < 55296) ⊎ (57344 ≤ c) = ⊎_elim inl (λ (h : 55296 ≤ c). inr (grind (arith, b))) (cases_lt c 55296) in
    let p : x ≡ 224 + c / 4096 = omega arith in let q : y ≡ next (c / 64) = omega arith in
    let t : z ≡ next c = omega arith in
    none c r (⊎_elim (λ (h : c < 55296). low_scalar c h) (λ (h : 57344 ≤ c). high_scalar c h (omega arith)) apart) ((λ i. p i ∷ q i ∷ t i ∷ r) ∙ ap (λ l. l ++ r) (sym (three c least (omega arith))))

four_char : (x y z w : ℕ) (r : List ℕ) → 240 ≤ x → x ≤ 244 → In x y → Follows z → Follows w → StartsWithNoChar (x ∷ y ∷ z ∷ w ∷ r) → ⊥
four_char x y z w r low high i f g none =
    let b = bounds x y i in let least : 16 ≤ (x - 240) * 64 + (y - 128) = grind (arith, b) in
    let most : (x - 240) * 64 + (y - 128) < 272 = grind (arith, b) in
    let c = (x - 240) * 262144 + (y - 128) * 4096 + (z - 128) * 64 + (w - 128) in
    let p : x ≡ 240 + c / 262144 = omega arith in let q : y ≡ next (c / 4096) = omega arith in
    let d : c / 64 ≡ (x - 240) * 4096 + (y - 128) * 64 + (z - 128) = omega arith in
    let t : z ≡ next (c / 64) = subst (λ (m : ℕ). z ≡ next m) (sym d) (omega arith) in
    let u : w ≡ next c = omega arith in
    none c r (high_scalar c (omega arith) (omega arith)) ((λ i. p i ∷ q i ∷ t i ∷ u i ∷ r) ∙ ap (λ l. l ++ r) (sym (four c (omega arith))))

-- bytes that more bytes complete
part_three : (x y z : ℕ) → 194 ≤ x → x ≤ 244 → In x y → Follows z → ¬ (IsHopeless (x ∷ y ∷ z ∷ []))
part_three x y z low high s f hopeless =
    ⊎_elim (λ (h : x < 224). two_char x y (z ∷ []) low h (bounds x y s).0 (hopeless []))
    (λ (h : 224 ≤ x). ⊎_elim (λ (g : x < 240). three_char x y z [] h g s f (hopeless [])) (λ (g : 240 ≤ x). four_char x y z 128 [] g high s f (omega arith, omega arith) (hopeless (128 ∷ []))) (cases_lt x 240)) (cases_lt x 224)

part_two : (x y : ℕ) → 194 ≤ x → x ≤ 244 → In x y → ¬ (IsHopeless (x ∷ y ∷ []))
part_two x y low high s hopeless = part_three x y 128 low high s (omega arith, omega arith) (λ more. hopeless (128 ∷ more))

pub part_none : ¬ (IsHopeless [])
part_none hopeless = hopeless (65 ∷ []) 65 [] refl (ap (λ l. l ++ []) (sym (one 65 (omega arith))))

-- a second byte out of its bounds begins nothing
out_of_bounds : (x y : ℕ) → 194 ≤ x → x ≤ 244 → (y < second_byte_min x) ⊎ (second_byte_max x < y) → Follows y
    → (224 ≤ x → x < 240 → let high : ℕ = (x - 224) * 64 + (y - 128) in (32 ≤ high) × (864 ≤ high → 896 ≤ high))
    → (240 ≤ x → let high : ℕ = (x - 240) * 64 + (y - 128) in (16 ≤ high) × (high < 272)) → ⊥
out_of_bounds x y low high out f three four = grind (arith, nat_tests)

-- what `error_len` says of bytes that begin no character
abbrev VerdictBy : List ℕ → Bool → Type 0
VerdictBy bytes true = IsHopeless bytes
VerdictBy bytes false = ¬ (IsHopeless bytes)

abbrev Verdict : List ℕ → Option ℕ → Type 0
Verdict bytes len = VerdictBy bytes (is_some len)

in_or_out : (a b c : ℕ) (P : Bool → Type 0) → (IsInRange a b c → P true) → (IsOutOfRange a b c → P false) → P (is_in_range a b c)
in_or_out a b c P inside outside =
    ⊎_elim (λ h. subst P (sym h) (inside (grind (arith, nat_tests, h)))) (λ h. subst P (sym h) (outside (grind (arith, nat_tests, h)))) (cases_Bool (is_in_range a b c))

-- from the third byte on
after_two : (x y : ℕ) (r : List ℕ) → 194 ≤ x → x ≤ 244 → In x y → StartsWithNoChar (x ∷ y ∷ r) → Verdict (x ∷ y ∷ r) (error_len_after_two (x ∷ y ∷ r))
after_two x y [] low high i none = part_two x y low high i
after_two x y (z ∷ r) low high i none = rw (le-ltb (length (x ∷ y ∷ z ∷ r)) 3 (omega arith))
    (in_or_out 128 191 z (λ b. Verdict (x ∷ y ∷ z ∷ r) (cond b (cond (nat_lt (length (x ∷ y ∷ z ∷ r)) 4) None (Some 3)) (Some 2))) (λ f. third r f none)
    (λ out. no_longer (x ∷ y ∷ z ∷ r) none (λ n more beyond g. omega arith)))
  where
    third : (q : List ℕ) → IsInRange 128 191 z → StartsWithNoChar (x ∷ y ∷ z ∷ q) → Verdict (x ∷ y ∷ z ∷ q) (cond (nat_lt (length (x ∷ y ∷ z ∷ q)) 4) None (Some 3))
    third [] f begins = part_three x y z low high i (f.0, omega (arith, f.1))
    third (w ∷ q) f begins = rw (le-ltb (length (x ∷ y ∷ z ∷ w ∷ q)) 4 (omega arith)) (no_longer (x ∷ y ∷ z ∷ w ∷ q) begins (λ n more beyond g. omega arith))

-- from the second byte on
after_one : (x : ℕ) (r : List ℕ) → 194 ≤ x → x ≤ 244 → StartsWithNoChar (x ∷ r) → Verdict (x ∷ r) (error_len_after_one (x ∷ r))
after_one x [] low high none = λ hopeless. part_two x (second_byte_min x) low high (grind (arith, nat_tests)) (λ more. hopeless (second_byte_min x ∷ more))
after_one x (y ∷ r) low high none = rw (le-ltb (length (x ∷ y ∷ r)) 2 (omega arith))
    (in_or_out (second_byte_min x) (second_byte_max x) y (λ b. Verdict (x ∷ y ∷ r) (cond b (error_len_after_two (x ∷ y ∷ r)) (Some 1)))
    (λ i. after_two x y r low high i none)
    (λ out. no_longer (x ∷ y ∷ r) none (λ n more beyond g. out_of_bounds x y low high out (g.second (omega arith)).2 g.in_three g.in_four)))

of_some : (x : ℕ) (r : List ℕ) → StartsWithNoChar (x ∷ r) → Verdict (x ∷ r) (error_len_of_some (x ∷ r))
of_some x r none = in_or_out 194 244 x (λ b. Verdict (x ∷ r) (cond b (error_len_after_one (x ∷ r)) (Some 1))) (λ i. after_one x r i.0 i.1 none)
    (λ out. no_longer (x ∷ r) none (λ n more beyond g. omega arith))

verdict : (bytes : List ℕ) → StartsWithNoChar bytes → Verdict bytes (utf8_error_len bytes)
unfolding utf8_error_len
verdict [] none = part_none
verdict (x ∷ r) none = rw (ne_eqb (length (x ∷ r)) 0 (λ is. omega arith)) (of_some x r none)

-- text that begins with no character is empty
pub text_none : (bytes : List ℕ) → IsUtf8 bytes → StartsWithNoChar bytes → bytes ≡ []
text_none bytes ([], (scalars, spell)) none = sym spell
text_none bytes (c ∷ cs, (scalars, spell)) none = absurd (none c (encode_utf8_all cs) (and_parts _ _ scalars).0 (sym spell))

-- after so many bytes of whole characters stand bytes that none complete, or none such
abbrev pub TellsHopeless : List ℕ → Option ℕ → Type 0
TellsHopeless bytes None = (n : ℕ) × IsUtf8 (take n bytes) × StartsWithNoChar (drop n bytes) × ¬ (IsHopeless (drop n bytes))
TellsHopeless bytes (Some n) = (n ≤ length bytes) × IsUtf8 (take n bytes) × IsHopeless (drop n bytes)

-- what `from_utf8` says of bytes: all are characters
pub tells_ok : (bytes : List ℕ) → IsUtf8 bytes → TellsHopeless bytes None
tells_ok bytes utf8 =
    let none : drop (length bytes) bytes ≡ [] = drop_all (length bytes) bytes (omega arith) in (
      length bytes,
      subst IsUtf8 (sym (take_all (length bytes) bytes (omega arith))) utf8,
      subst StartsWithNoChar (sym none) nothing_bad,
      subst (λ t. ¬ (IsHopeless t)) (sym none) part_none,
    )

-- or characters stand before bytes that begin none
module _ (bytes : List ℕ) (n : ℕ) (len : Option ℕ) (valid : IsValidUpTo bytes n) (is : len ≡ utf8_error_len (drop n bytes)) where
  bad : StartsWithNoChar (drop n bytes)
  bad = opening_text bytes n valid.front (λ m more within. valid.longest m more)

  by_len : (b : Bool) → is_some len ≡ b → VerdictBy (drop n bytes) b
  by_len b same = subst (VerdictBy (drop n bytes)) (ap is_some (sym is) ∙ same) (verdict (drop n bytes) bad)

  pub tells_hopeless : is_some len ≡ true → TellsHopeless bytes (Some n)
  tells_hopeless some = (omega (arith, valid.short), valid.front, by_len true some)

  pub tells_part : is_some len ≡ false → TellsHopeless bytes None
  tells_part none = (n, valid.front, bad, by_len false none)
