-- How many bytes a text has with one more character.
use Rattle.py_lines.proofs.Prelude.{◌≡◌, ℕ, ◌+◌, List, [], ◌∷◌, ◌++◌, sym, ap, ◌∙◌, append_assoc, append-nil, arith, length, encode_utf8, len_utf8, length-encode, byte_len, byte_len-append}

pub byte_len-one : (c : ℕ) → byte_len (c ∷ []) ≡ len_utf8 c
byte_len-one c = ap length (append-nil (encode_utf8 c)) ∙ length-encode c

pub byte_len-more : (c : ℕ) (cs : List ℕ) → byte_len (c ∷ cs) ≡ len_utf8 c + byte_len cs
byte_len-more c cs = omega (arith, byte_len-append (c ∷ []) cs, byte_len-one c)

-- a text that consists of these
pub push_two : (a b : List ℕ) (c : ℕ) → byte_len (a ++ (b ++ c ∷ [])) ≡ byte_len (a ++ b) + len_utf8 c
push_two a b c = ap byte_len (sym (append_assoc a b (c ∷ []))) ∙ omega (arith, byte_len-append (a ++ b) (c ∷ []), byte_len-one c)

pub push_three : (a b d : List ℕ) (c : ℕ) → byte_len (a ++ (b ++ (d ++ c ∷ []))) ≡ byte_len (a ++ (b ++ d)) + len_utf8 c
push_three a b d c = ap (λ x. byte_len (a ++ x)) (sym (append_assoc b d (c ∷ []))) ∙ push_two a (b ++ d) c
