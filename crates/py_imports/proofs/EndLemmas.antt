-- Where a statement ends.
use Rattle.std.proofs.Common.{◌≡◌, ℕ, ◌+◌, ◌-◌, ◌<◌, ◌≤◌, Bool, true, false, not, cond, ◌==◌, ◌&&◌, List, [], ◌∷◌, ◌++◌, length, map, take, take_while, drop, get_or, refl, sym, ap, ◌∙◌, append_assoc, arith}
use Rattle.std.proofs.lemmas.List.{append-nil, take_more, drop_more, get_or-drop}
use Rattle.std.proofs.lemmas.List.Sums.{take_while-cons}
use Rattle.std.proofs.Common.{length-drop, if◌then◌else◌}
use Rattle.py_lines.specs.Token.{opens_bracket, closes_bracket}
use Rattle.py_lines.specs.declared.token.Token.{Token}
use Rattle.py_lines.specs.declared.token.TokKind.{TokKind}
use Rattle.py_lines.specs.declared.token.TokKind.TheVariants as kind
use Rattle.py_imports.specs.Statement.{is_comment, significant, is_semicolon, depth_past, depth_after_tokens, TokenPlace, places_from, is_end, statement_at}
use Rattle.py_imports.specs.Private.Parsing.{up_to_semicolon}
use Rattle.py_imports.proofs.TokenLemmas.{depth_behind-snoc, window, significant-cons, significant-comment}

-- the tokens before the first `;` at depth 0, after others
before_end : (before ts : List Token) → map (λ q. q.token) (take_while (λ q. not (is_end q)) (places_from before ts)) ≡ up_to_semicolon (depth_after_tokens 0 before) ts
before_end before [] = refl
before_end before (t ∷ ts) =
    ap (map (λ q. q.token)) (take_while-cons (λ q. not (is_end q)) here others) ∙ by_end (before_end (before ++ t ∷ []) ts ∙ ap (λ d. up_to_semicolon d ts) (depth_behind-snoc 0 before t)) (is_end here) refl
  where
    here : TokenPlace
    here = record { before = before; token = t; after = ts }

    others : List TokenPlace
    others = places_from (before ++ t ∷ []) ts

    by_end : map (λ q. q.token) (take_while (λ q. not (is_end q)) others) ≡ up_to_semicolon (depth_past (depth_after_tokens 0 before) t.kind) ts → (b : Bool) → is_end here ≡ b → map (λ q. q.token) (cond (not (is_end here)) (here ∷ take_while (λ q. not (is_end q)) others) []) ≡ up_to_semicolon (depth_after_tokens 0 before) (t ∷ ts)
    by_end rest true e = rw e refl
    by_end rest false e = rw e (ap (λ l. t ∷ l) rest)

pub statement_is : (p : TokenPlace) → statement_at p ≡ up_to_semicolon 0 (p.token ∷ p.after)
statement_is p = before_end [] (p.token ∷ p.after)

comment_depth : (depth : ℕ) (k : TokKind) → is_comment k ≡ true → depth_past depth k ≡ depth
comment_depth depth kind.Remark e = refl
comment_depth depth kind.Name e = absurd cc
comment_depth depth kind.Number e = absurd cc
comment_depth depth kind.Str e = absurd cc
comment_depth depth (kind.Op c) e = absurd cc

significant-append-by : (x : Token) (xs ys : List Token) → significant (xs ++ ys) ≡ significant xs ++ significant ys → (b : Bool) → is_comment x.kind ≡ b → significant ((x ∷ xs) ++ ys) ≡ significant (x ∷ xs) ++ significant ys
significant-append-by x xs ys h true e = rw e h
significant-append-by x xs ys h false e = rw e (ap (λ l. x ∷ l) h)

pub significant-append : (xs ys : List Token) → significant (xs ++ ys) ≡ significant xs ++ significant ys
significant-append [] ys = refl
significant-append (x ∷ xs) ys = significant-append-by x xs ys (significant-append xs ys) (is_comment x.kind) refl

-- the tokens from `start` on up to one more
window-snoc : (tokens : List Token) (start i : ℕ) (t : Token) → start ≤ i → i < length tokens → window tokens start (i + 1) ≡ window tokens start i ++ get_or tokens i t ∷ []
window-snoc tokens start i t before within =
    let n : (i + 1) - start ≡ (i - start) + 1 = omega arith in
    let h : i - start < length (drop start tokens) = rw (length-drop start tokens) (omega arith) in
    let k : start + (i - start) ≡ i = omega arith in
    ap (λ m. take m (drop start tokens)) n ∙ take_more (drop start tokens) (i - start) t h ∙ ap (λ x. window tokens start i ++ x ∷ []) (get_or-drop start tokens (i - start) t ∙ ap (λ m. get_or tokens m t) k)

-- one token more was passed, by whether it is a comment
passes_by : (t : Token) (depth : ℕ) (whole passed more rest : List Token) → whole ≡ significant passed ++ up_to_semicolon depth (significant (t ∷ rest)) → more ≡ passed ++ t ∷ [] → is_semicolon t.kind && (depth == 0) ≡ false → (b : Bool) → is_comment t.kind ≡ b → whole ≡ significant more ++ up_to_semicolon (depth_past depth t.kind) (significant rest)
passes_by t depth whole passed more rest e m h true c =
    let one : significant (t ∷ []) ≡ [] = significant-comment t [] c in
    e ∙ ap (λ x. significant passed ++ up_to_semicolon depth x) (significant-comment t rest c) ∙ ap (λ d. significant passed ++ up_to_semicolon d (significant rest)) (sym (comment_depth depth t.kind c)) ∙ ap (λ x. x ++ up_to_semicolon (depth_past depth t.kind) (significant rest)) (sym (ap significant m ∙ significant-append passed (t ∷ []) ∙ ap (λ x. significant passed ++ x) one ∙ append-nil (significant passed)))
passes_by t depth whole passed more rest e m h false c =
    let one : significant (t ∷ []) ≡ t ∷ [] = significant-cons t [] c in
    let here : up_to_semicolon depth (significant (t ∷ rest)) ≡ t ∷ up_to_semicolon (depth_past depth t.kind) (significant rest) = ap (up_to_semicolon depth) (significant-cons t rest c) ∙ rw h refl in
    e ∙ ap (λ x. significant passed ++ x) here ∙ sym (append_assoc (significant passed) (t ∷ []) (up_to_semicolon (depth_past depth t.kind) (significant rest))) ∙ ap (λ x. x ++ up_to_semicolon (depth_past depth t.kind) (significant rest)) (sym (ap significant m ∙ significant-append passed (t ∷ []) ∙ ap (λ x. significant passed ++ x) one))

-- one token more was passed, which doesn't end the statement
pub passes_one : (tokens whole : List Token) (start i depth : ℕ) (t : Token) → whole ≡ significant (window tokens start i) ++ up_to_semicolon depth (significant (drop i tokens)) → start ≤ i → i < length tokens → is_semicolon (get_or tokens i t).kind && (depth == 0) ≡ false → whole ≡ significant (window tokens start (i + 1)) ++ up_to_semicolon (depth_past depth (get_or tokens i t).kind) (significant (drop (i + 1) tokens))
passes_one tokens whole start i depth t e before within h =
    passes_by (get_or tokens i t) depth whole (window tokens start i) (window tokens start (i + 1)) (drop (i + 1) tokens) (e ∙ ap (λ x. significant (window tokens start i) ++ up_to_semicolon depth (significant x)) (drop_more tokens i t within)) (window-snoc tokens start i t before within) h (is_comment (get_or tokens i t).kind) refl

-- the depth grows by one at most
depth_past-least : (depth : ℕ) (k : TokKind) → depth_past depth k ≤ depth + 1
depth_past-least depth kind.Remark = omega arith
depth_past-least depth kind.Name = omega arith
depth_past-least depth kind.Number = omega arith
depth_past-least depth kind.Str = omega arith
depth_past-least depth (kind.Op c) = by_bracket (opens_bracket (kind.Op c)) (closes_bracket (kind.Op c))
  where
    by_bracket : (a b : Bool) → (if a then depth + 1 else (if b then depth - 1 else depth)) ≤ depth + 1
    by_bracket true b = omega arith
    by_bracket false true = omega arith
    by_bracket false false = omega arith

pub shallow_after : (depth i after : ℕ) (k : TokKind) → depth ≤ i → after ≡ depth_past depth k → after ≤ i + 1
shallow_after depth i after k h e = omega (arith, depth_past-least depth k)
