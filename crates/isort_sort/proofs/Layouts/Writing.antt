-- Texts that are written one after another.
use Rattle.std.proofs.Common.{◌≡◌, ℕ, ◌+◌, ◌<◌, ◌≤◌, Result, Ok, Err, OnOk, List, [], ◌∷◌, ◌++◌, length, get_or, map, take, drop, flat_map, replicate, codes, zero, suc, append-nil, refl, sym, ap, ◌∙◌, subst, append_assoc, length-append, arith}
use Rattle.std.specs.Str.{IsUtf8, IsCharBoundary}
use Rattle.std.specs.String.Boundary.{IsSplitPoint}
use Rattle.std.proofs.lemmas.Str.{IsCharBoundary-from_take}
use Rattle.std.specs.List.{join_by}
use Rattle.std.proofs.lemmas.List.{at_drop_more, at_drop_all, take_all, take-append-le}
use Rattle.isort_sort.specs.Private.Packing.{text_with}
use Rattle.isort_sort.specs.Wrapping.{remark}

-- one text after another
pub extend : (old a b mid new : List ℕ) → mid ≡ old ++ a → new ≡ mid ++ b → new ≡ old ++ (a ++ b)
extend old a b mid new e f = f ∙ ap (λ t. t ++ b) e ∙ append_assoc old a b

pub last_extended : {X E : Type 0} (r : Result X E) (old a b mid new text : List ℕ) → mid ≡ old ++ a → OnOk r (new ≡ mid ++ b) → a ++ b ≡ text → OnOk r (new ≡ old ++ text)
last_extended (Ok x) old a b mid new text e f g = extend old a b mid new e f ∙ ap (λ t. old ++ t) g
last_extended (Err x) old a b mid new text e f g = tt

-- the text of a statement, in the parts in which it was written
pub hung : (i h s e f j r : List ℕ) → (((i ++ (h ++ s)) ++ e) ++ (i ++ (f ++ j))) ++ (r ++ e) ≡ (i ++ (h ++ ((s ++ (e ++ (i ++ f))) ++ (j ++ r)))) ++ e
hung i h s e f j r = simp append_assoc

pub hung_in_brackets : (i h o r e f j t q : List ℕ) → (((i ++ (h ++ o)) ++ (r ++ e)) ++ (i ++ (f ++ j))) ++ (t ++ (e ++ (i ++ (q ++ e)))) ≡ (i ++ (h ++ (o ++ (r ++ ((e ++ (i ++ f)) ++ (j ++ (t ++ (e ++ (i ++ q))))))))) ++ e
hung_in_brackets i h o r e f j t q = simp append_assoc

-- texts, the first after `first` and each other one after `sep`
unfoldable pub following : {X : Type 0} → (X → List ℕ) → List ℕ → List ℕ → List X → List ℕ
following text first sep [] = []
following text first sep (x ∷ xs) = first ++ (text x ++ following text sep sep xs)

-- one text more
pub following-more : {X : Type 0} (text : X → List ℕ) (first sep at mid out whole : List ℕ) (xs : List X) (k : ℕ) (x : X) → k < length xs → x ≡ get_or xs k x → mid ≡ at ++ first → out ≡ mid ++ text x → at ++ following text first sep (drop k xs) ≡ whole → out ++ following text sep sep (drop (k + 1) xs) ≡ whole
unfolding following
following-more text first sep at mid out whole xs k x below is before written so_far =
    let rest : List ℕ = following text sep sep (drop (k + 1) xs) in
    let next : following text first sep (drop k xs) ≡ first ++ (text x ++ rest) = at_drop_more (following text first sep) xs k x below ∙ ap (λ y. following text first sep (y ∷ drop (k + 1) xs)) (sym is) in
    ap (λ t. t ++ rest) (extend at first (text x) mid out before written) ∙ append_assoc at (first ++ text x) rest
    ∙ ap (λ t. at ++ t) (append_assoc first (text x) rest ∙ sym next) ∙ so_far

-- all texts
pub following-all : {X : Type 0} (text : X → List ℕ) (first sep out whole : List ℕ) (xs : List X) (k : ℕ) → length xs ≤ k → out ++ following text first sep (drop k xs) ≡ whole → out ≡ whole
unfolding following
following-all text first sep out whole xs k end so_far =
    sym (append-nil out) ∙ ap (λ t. out ++ t) (sym (at_drop_all (following text first sep) xs k end)) ∙ so_far

following-others : {X Y : Type 0} (text : Y → List ℕ) (value : X → Y) (sep : List ℕ) (xs : List X) → following (λ x. text (value x)) sep sep xs ≡ flat_map (λ y. sep ++ text y) (map value xs)
unfolding following
following-others text value sep [] = refl
following-others text value sep (x ∷ xs) =
    ap (λ t. sep ++ (text (value x) ++ t)) (following-others text value sep xs)
    ∙ sym (append_assoc sep (text (value x)) (flat_map (λ y. sep ++ text y) (map value xs)))

-- joined items, and the joined comment
pub following-joined : {X Y : Type 0} (text : Y → List ℕ) (value : X → Y) (sep : List ℕ) (xs : List X) → following (λ x. text (value x)) [] sep xs ≡ join_by text sep (map value xs)
unfolding following
following-joined text value sep [] = refl
following-joined text value sep (x ∷ xs) = ap (λ t. text (value x) ++ t) (following-others text value sep xs)

pub following-remark : {X : Type 0} (value : X → List ℕ) (xs : List X) → following value (codes "  # ") (codes "; ") xs ≡ remark (map value xs)
unfolding following
following-remark value [] = refl
following-remark value (x ∷ xs) =
    ap (λ t. codes "  # " ++ (value x ++ t)) (following-others (λ t. t) value (codes "; ") xs)

-- a text written many times: spaces, and blank lines
pub spaces : (n : ℕ) → flat_map (λ (t : List ℕ). t) (replicate n (32 ∷ [])) ≡ replicate n 32
spaces zero = refl
spaces (suc n) = ap (λ t. 32 ∷ t) (spaces n)

pub blank_lines : (end : List ℕ) (n : ℕ) → flat_map (λ (t : List ℕ). t) (replicate n end) ≡ text_with end (replicate n [])
blank_lines end zero = refl
blank_lines end (suc n) = ap (λ t. end ++ t) (blank_lines end n)

-- where a text ends that another one follows, a character begins or the text ends
pub split_after : (old text new : List ℕ) (n : ℕ) → IsUtf8 old → IsUtf8 new → new ≡ old ++ text → n ≡ length old → IsSplitPoint new n
split_after old text new n before after e same =
    let long : n ≤ length new = omega (arith, ap length e, length-append {A = ℕ}) in
    let first : take n new ≡ old = ap (λ t. take n t) e ∙ ap (λ k. take k (old ++ text)) same ∙ take-append-le (length old) old text (omega arith) ∙ take_all (length old) old (omega arith) in
    let boundary : IsCharBoundary new n = IsCharBoundary-from_take new n after long (subst IsUtf8 (sym first) before) in
    (long, λ _ lt. boundary.1 lt)
