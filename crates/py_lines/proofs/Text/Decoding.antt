-- Each list of bytes is the UTF-8 of some characters, and then bytes that begin no character.
use Rattle.py_lines.proofs.Prelude.{◌≡◌, ℕ, zero, suc, ◌<◌, ◌≤◌, List, ◌++◌, length, take, drop, sym, ap, ◌∙◌, subst, ⊎_elim, arith, take-append-drop, IsUtf8, is_utf8, cases_lt, cases_Bool, both_ways, IsUtf8-nil, IsUtf8-from_is_utf8, is_utf8-from_IsUtf8, Decodes}
use Rattle.py_lines.proofs.Text.Utf8Prefixes.{NoneLonger, opening_text, one_decoding}

-- the longest prefix that is UTF-8: if one isn't and none longer is, then none longer than the next shorter one is
longest : (bytes : List ℕ) (most : ℕ) → NoneLonger bytes most → (n : ℕ) × (IsUtf8 (take n bytes)) × NoneLonger bytes n
longest bytes zero none = (0, IsUtf8-nil, none)
longest bytes (suc most) none =
    ⊎_elim (λ is. (suc most, IsUtf8-from_is_utf8 _ is, none)) (λ is_not. longest bytes most (λ m above within utf8. ⊎_elim
    (λ (more : suc most < m). none m more within utf8) (λ (no_more : m ≤ suc most).
    let same : m ≡ suc most = omega arith in
    both_ways _ is_not (is_utf8-from_IsUtf8 _ (subst (λ (k : ℕ). IsUtf8 (take k bytes)) same utf8))) (cases_lt (suc most) m)))
    (cases_Bool (is_utf8 (take (suc most) bytes)))

-- what a text decodes to
pub record Decoding (text : List ℕ) : Type 0 where
  pub characters : List ℕ
  pub tail : List ℕ
  pub decodes : Decodes text characters tail

pub decoding : (text : List ℕ) → Decoding text
decoding text =
    let (n, utf8, none) = longest text (length text) (λ m more within. absurd (omega arith)) in
    record {
      characters = utf8.0;
      tail = drop n text;
      decodes = record { are = utf8.1.0; spell = ap (λ t. t ++ drop n text) utf8.1.1 ∙ take-append-drop n text; bad = opening_text text n utf8 none };
    }

-- and they are one
pub decoded : (text a b s t : List ℕ) → Decodes text a s → Decodes text b t → (a ≡ b) × (s ≡ t)
decoded text a b s t d e = one_decoding a b s t d.are e.are d.bad e.bad (d.spell ∙ sym e.spell)
