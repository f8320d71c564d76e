-- Characters that a text begins with.
use Rattle.py_lines.proofs.Prelude.{◌≡◌, ℕ, ◌+◌, ◌<◌, ◌≤◌, length, take, drop, arith, length-append, length-take-le, true, List, [], ◌∷◌, ◌++◌, refl, sym, ap, ◌∙◌, subst, append_assoc, append-nil, encode_utf8_all, encode_utf8, all_scalars, StartsWithNoChar, IsValidUpTo, IsUtf8, IsScalar, cons_from_encodes, encode_same, length-encode, len_utf8_bounds, IsUtf8-append, IsUtf8-encode, encodes-append, drop_all, length-drop, take-add, take-append_seam, and_parts, and_from}

-- characters whose bytes begin with those of others begin with these
pub prefix_chars : (prefix all : List ℕ) (rest : List ℕ) → encode_utf8_all all ≡ encode_utf8_all prefix ++ rest
    → (after : List ℕ) × (all ≡ prefix ++ after) × (encode_utf8_all after ≡ rest)
prefix_chars [] all rest e = (all, refl, e)
prefix_chars (c ∷ cs) all rest e =
    let (next, is, spell) = cons_from_encodes all (encode_utf8_all cs ++ rest) c (e ∙ append_assoc (encode_utf8 c) (encode_utf8_all cs) rest) in
    let (after, split, left) = prefix_chars cs next rest spell in
    (after, is ∙ ap (λ l. c ∷ l) split, left)

pub all_scalars-append : (a b : List ℕ) → all_scalars a ≡ true → all_scalars b ≡ true → all_scalars (a ++ b) ≡ true
all_scalars-append [] b h k = k
all_scalars-append (c ∷ cs) b h k = let parts = and_parts _ _ h in and_from _ _ parts.0 (all_scalars-append cs b parts.1 k)

pub all_scalars-parts : (a b : List ℕ) → all_scalars (a ++ b) ≡ true → (all_scalars a ≡ true) × (all_scalars b ≡ true)
all_scalars-parts [] b h = (refl, h)
all_scalars-parts (c ∷ cs) b h =
    let parts = and_parts _ _ h in let others = all_scalars-parts cs b parts.1 in
    (and_from _ _ parts.0 others.0, others.1)

-- the characters with one more, before what is left
pub spell_more : (read rest held : List ℕ) (c : ℕ) → encode_utf8_all read ++ (encode_utf8 c ++ rest) ≡ held → encode_utf8_all (read ++ c ∷ []) ++ rest ≡ held
spell_more read rest held c spell =
    let more = encodes-append read (c ∷ []) ∙ ap (λ t. encode_utf8_all read ++ t) (append-nil (encode_utf8 c)) in
    ap (λ t. t ++ rest) more ∙ append_assoc (encode_utf8_all read) (encode_utf8 c) rest ∙ spell

pub scalars_more : (read : List ℕ) (c : ℕ) → all_scalars read ≡ true → IsScalar c → all_scalars (read ++ c ∷ []) ≡ true
scalars_more read c fine scalar = all_scalars-append read (c ∷ []) fine (and_from _ _ scalar refl)

-- nothing begins with no character
pub nothing_bad : StartsWithNoChar []
nothing_bad c rest scalar is = let e = ap length is in omega (arith, length-append (encode_utf8 c) rest, length-encode c, len_utf8_bounds c, e)

pub whole_text : (text bytes : List ℕ) → text ≡ bytes → StartsWithNoChar (drop (length text) bytes)
whole_text text bytes is = subst StartsWithNoChar (sym (drop_all (length text) bytes (omega (arith, ap length is)))) nothing_bad

-- no prefix of more bytes than these is UTF-8
abbrev pub NoneLonger : List ℕ → ℕ → Type 0
NoneLonger bytes n = (m : ℕ) → n < m → m ≤ length bytes → ¬ (IsUtf8 (take m bytes))

-- after the longest prefix that is text, no character begins
pub opening_text : (bytes : List ℕ) (n : ℕ) → IsUtf8 (take n bytes) → NoneLonger bytes n → StartsWithNoChar (drop n bytes)
opening_text bytes n front longest c rest scalar e =
    let k = length (encode_utf8 c) in let some : 1 ≤ k = omega (arith, length-encode c, len_utf8_bounds c) in
    let room : length bytes ≡ n + k + length rest = omega (arith, ap length e, length-append (encode_utf8 c) rest, length-drop n bytes, some) in
    let grown = take-add n k bytes ∙ ap (λ t. take n bytes ++ t) (ap (take k) e ∙ take-append_seam (encode_utf8 c) rest) in
    longest (n + k) (omega (arith, some)) (omega (arith, room))
    (subst IsUtf8 (sym grown) (IsUtf8-append (take n bytes) (encode_utf8 c) front (IsUtf8-encode c scalar)))

-- the same of the longest front that is UTF-8
pub front_text : (text bytes : List ℕ) (n : ℕ) → text ≡ take n bytes → IsValidUpTo bytes n → StartsWithNoChar (drop (length text) bytes)
front_text text bytes n is longest =
    subst (λ (k : ℕ). StartsWithNoChar (drop k bytes)) (omega (arith, ap length is, length-take-le n bytes (omega (arith, longest.short))))
    (opening_text bytes n longest.front (λ m more within. longest.longest m more))

-- of a text that goes on, what its characters are after those that were known, and what is left
pub record IsContinued (prefix x all t : List ℕ) : Type 0 where
  pub rest : List ℕ
  pub split : all ≡ prefix ++ rest
  pub left : encode_utf8_all rest ++ t ≡ x

pub goes_on : (prefix x all t : List ℕ) → all_scalars prefix ≡ true → all_scalars all ≡ true → StartsWithNoChar t
    → encode_utf8_all prefix ++ x ≡ encode_utf8_all all ++ t → IsContinued prefix x all t
goes_on [] x all t fine are bad e = record { rest = all; split = refl; left = sym e }
goes_on (c ∷ cs) x [] t fine are bad e =
    absurd (bad c (encode_utf8_all cs ++ x) (and_parts _ _ fine).0 (sym e ∙ append_assoc (encode_utf8 c) (encode_utf8_all cs) x))
goes_on (c ∷ cs) x (d ∷ ds) t fine are bad e =
    let joined = sym (append_assoc (encode_utf8 c) (encode_utf8_all cs) x) ∙ e ∙ append_assoc (encode_utf8 d) (encode_utf8_all ds) t in
    let heads = encode_same c d (encode_utf8_all cs ++ x) (encode_utf8_all ds ++ t) joined in
    let others = goes_on cs x ds t (and_parts _ _ fine).1 (and_parts _ _ are).1 bad heads.1 in
    record { rest = others.rest; split = λ i. sym heads.0 i ∷ others.split i; left = others.left }

-- a text has one split into characters and bytes that begin with none
pub one_decoding : (a b s t : List ℕ) → all_scalars a ≡ true → all_scalars b ≡ true → StartsWithNoChar s → StartsWithNoChar t
    → encode_utf8_all a ++ s ≡ encode_utf8_all b ++ t → (a ≡ b) × (s ≡ t)
one_decoding a b s t are also bad worse e = let on = goes_on a s b t are also worse e in go on.rest on.split on.left
  where
    go : (rest : List ℕ) → b ≡ a ++ rest → encode_utf8_all rest ++ t ≡ s → (a ≡ b) × (s ≡ t)
    go [] split left = (sym (split ∙ append-nil a), sym left)
    go (d ∷ ds) split left =
        let scalars = (all_scalars-parts a (d ∷ ds) (ap all_scalars (sym split) ∙ also)).1 in
        absurd (bad d (encode_utf8_all ds ++ t) (and_parts _ _ scalars).0 (sym left ∙ append_assoc (encode_utf8 d) (encode_utf8_all ds) t))
