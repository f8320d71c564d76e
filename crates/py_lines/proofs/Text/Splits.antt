-- Two ways of cutting one text in two.
use Rattle.py_lines.proofs.Prelude.{◌≡◌, ℕ, List, [], ◌∷◌, ◌++◌, refl, sym, ap, ◌∙◌, subst, append_assoc, append-nil, append_cancel_left}

-- two prefixes of one text
pub data Either {A : Type 0} (xs zs ws : List A) : Type 0 where
  shorter : (k : List A) → zs ≡ xs ++ k → Either xs zs ws
  longer : (c : A) (k : List A) (after : List A) → xs ≡ zs ++ c ∷ k → ws ≡ c ∷ after → Either xs zs ws

pub either : {A : Type 0} (xs ys zs ws : List A) → xs ++ ys ≡ zs ++ ws → Either xs zs ws
either [] ys zs ws same = Either.shorter zs refl
either (x ∷ xs) ys [] ws same = Either.longer x xs (xs ++ ys) refl (sym same)
either (x ∷ xs) ys (z ∷ zs) ws same =
    let first : x ≡ z = cc in let later : xs ++ ys ≡ zs ++ ws = cc in
    go first (either xs ys zs ws later)
  where
    go : x ≡ z → Either xs zs ws → Either (x ∷ xs) (z ∷ zs) ws
    go first (Either.shorter k one) = Either.shorter k (ap (λ c. c ∷ zs) (sym first) ∙ ap (λ t. x ∷ t) one)
    go first (Either.longer c k after one two) = Either.longer c k after (ap (λ d. d ∷ xs) first ∙ ap (λ t. z ∷ t) one) two

-- the first character through which a text isn't live is one place, where each beginning of a live text is live
pub same_dying : (Live : List ℕ → Type 0) → ((xs ys : List ℕ) → Live (xs ++ ys) → Live xs) → (b d : List ℕ) (x y : ℕ) (more es : List ℕ) → b ++ x ∷ more ≡ d ++ y ∷ es → Live b → Live d → ¬ (Live (b ++ x ∷ [])) → ¬ (Live (d ++ y ∷ [])) → (b ≡ d) × (x ≡ y)
same_dying Live shorter_lives b d x y more es same live_b live_d dead_b dead_d = go (either b (x ∷ more) d (y ∷ es) same) where
  go : Either b d (y ∷ es) → (b ≡ d) × (x ≡ y)
  go (Either.shorter [] one) =
      let is : d ≡ b = one ∙ append-nil b in
      let rest : x ∷ more ≡ y ∷ es = append_cancel_left b (x ∷ more) (y ∷ es) (same ∙ ap (λ t. t ++ y ∷ es) is) in
      let first : x ≡ y = cc in
      (sym is, first)
  go (Either.shorter (k ∷ ks) one) =
      let rest : x ∷ more ≡ k ∷ (ks ++ y ∷ es) = append_cancel_left b (x ∷ more) (k ∷ (ks ++ y ∷ es)) (same ∙ ap (λ t. t ++ y ∷ es) one ∙ append_assoc b (k ∷ ks) (y ∷ es)) in
      let first : k ≡ x = cc in
      absurd (dead_b (subst (λ (n : ℕ). Live (b ++ n ∷ [])) first (shorter_lives (b ++ k ∷ []) ks (subst Live (one ∙ sym (append_assoc b (k ∷ []) ks)) live_d))))
  go (Either.longer k ks after one two) =
      let first : k ≡ y = cc in
      absurd (dead_d (subst (λ (n : ℕ). Live (d ++ n ∷ [])) first (shorter_lives (d ++ k ∷ []) ks (subst Live (one ∙ sym (append_assoc d (k ∷ []) ks)) live_b))))
