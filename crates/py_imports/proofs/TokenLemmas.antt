-- The terminals of tokens, one token after another.
use Rattle.std.proofs.Common.{◌≡◌, ℕ, suc, ◌+◌, ◌-◌, ◌<◌, ◌≤◌, false, true, List, [], ◌∷◌, ◌++◌, length, take, drop, get_or, refl, add-one, drop-cons, arith}
use Rattle.py_lines.specs.declared.token.Token.{Token}
use Rattle.py_imports.specs.Statement.{is_comment, significant, depth_past, depth_after_tokens}

-- a token that is no comment stands first
pub significant-cons : (t : Token) (ts : List Token) → is_comment t.kind ≡ false → significant (t ∷ ts) ≡ t ∷ significant ts
significant-cons t ts e = rw e

pub significant-comment : (t : Token) (ts : List Token) → is_comment t.kind ≡ true → significant (t ∷ ts) ≡ significant ts
significant-comment t ts e = rw e

-- the tokens of a window, from one place on up to an end
abbrev pub window : List Token → ℕ → ℕ → List Token
window tokens place end = take (end - place) (drop place tokens)

pub window-cons : (tokens : List Token) (place end : ℕ) (t : Token) → place < end → end ≤ length tokens → window tokens place end ≡ get_or tokens place t ∷ window tokens (place + 1) end
window-cons tokens place end t before within =
    let h : place < length tokens = omega arith in
    let e : end - place ≡ suc (end - (place + 1)) = omega arith in
    rw (e, drop-cons tokens place t, add-one)

-- from a place on that is no comment
pub window-significant : (tokens : List Token) (place end : ℕ) (t : Token) → place < end → end ≤ length tokens → is_comment (get_or tokens place t).kind ≡ false → significant (window tokens place end) ≡ get_or tokens place t ∷ significant (window tokens (place + 1) end)
window-significant tokens place end t before within code = rw (window-cons tokens place end t before within) (significant-cons (get_or tokens place t) (window tokens (place + 1) end) code)

pub window-comment : (tokens : List Token) (place end : ℕ) (t : Token) → place < end → end ≤ length tokens → is_comment (get_or tokens place t).kind ≡ true → significant (window tokens place end) ≡ significant (window tokens (place + 1) end)
window-comment tokens place end t before within code = rw (window-cons tokens place end t before within) (significant-comment (get_or tokens place t) (window tokens (place + 1) end) code)

-- one token more
pub depth_behind-snoc : (depth : ℕ) (ts : List Token) (t : Token) → depth_after_tokens depth (ts ++ t ∷ []) ≡ depth_past (depth_after_tokens depth ts) t.kind
depth_behind-snoc depth [] t = refl
depth_behind-snoc depth (u ∷ ts) t = depth_behind-snoc (depth_past depth u.kind) ts t
