-- Where a run at the start of a list ends, as `position` finds it.
use Rattle.std.proofs.Common.{◌≡◌, ℕ, ◌+◌, ◌≤◌, ltb, Bool, true, false, cond, not, List, [], ◌∷◌, length, Option, Some, None, refl, sym, ◌∙◌, ap, arith}
use Rattle.std.proofs.lemmas.Bool.Decides.{Decides-ltb, not_from_Decides}
use Rattle.std.proofs.lemmas.List.Sums.{prefix_len-le-length}
use Rattle.std.specs.List.{prefix_len, position_or_len}
use Rattle.std.specs.Option.{unwrap_or}

end_step : (b : Bool) (k n : ℕ) → (b ≡ false → k ≡ n) → unwrap_or (cond b (Some k) None) n ≡ k
end_step true k n last = refl
end_step false k n last = sym (last refl)

-- the first place that passes, or the end
pub position-end : (p : ℕ → Bool) (xs : List ℕ) (r : Option ℕ)
    → r ≡ cond (ltb (position_or_len p xs) (length xs)) (Some (position_or_len p xs)) None → unwrap_or r (length xs) ≡ position_or_len p xs
position-end p xs r h =
    let le : position_or_len p xs ≤ length xs = prefix_len-le-length (λ x. not (p x)) xs in
    ap (λ o. unwrap_or o (length xs)) h
    ∙ end_step (ltb (position_or_len p xs) (length xs)) (position_or_len p xs) (length xs)
    (λ e. let ge = not_from_Decides (ltb (position_or_len p xs) (length xs)) (Decides-ltb (position_or_len p xs) (length xs)) e in omega arith)

not_not : (b : Bool) → not (not b) ≡ b
not_not true = refl
not_not false = refl

run_step : (b c : Bool) (m n : ℕ) → b ≡ c → m ≡ n → cond b (1 + m) 0 ≡ cond c (1 + n) 0
run_step b c m n e f = rw (e, f)

not_other : (p : ℕ → Bool) (xs : List ℕ) → position_or_len (λ x. not (p x)) xs ≡ prefix_len p xs
not_other p [] = refl
not_other p (x ∷ xs) = run_step _ _ _ _ (not_not (p x)) (not_other p xs)

-- the first place that doesn't pass, or the end
pub position-run : (p : ℕ → Bool) (xs : List ℕ) (r : Option ℕ)
    → r ≡ cond (ltb (position_or_len (λ x. not (p x)) xs) (length xs)) (Some (position_or_len (λ x. not (p x)) xs)) None
    → unwrap_or r (length xs) ≡ prefix_len p xs
position-run p xs r h = position-end (λ x. not (p x)) xs r h ∙ not_other p xs
