-- Pieces that end a line: what they are read before, how deep they are, and how long.
use Rattle.py_lines.proofs.Prelude.{◌≡◌, ℕ, ◌+◌, List, [], ◌∷◌, ◌++◌, length, refl, sym, ap, ◌∙◌, subst, inl, inr, length-append, Bool, true, false, ◌&&◌, append-nil, both_ways, and_right, and_from, eq-eqb, arith, IsBalanced, depth_after, depth_through, is_return, is_line_feed, EndsLine, IsBalancedReading, piece}
use Rattle.py_lines.specs.Piece.{line_end, Piece, spelled, ends, begins, is_mark_class}
use Rattle.py_lines.specs.Fields.{fielded, InClass, AreReadBefore, IsShallow}
use Rattle.py_lines.specs.LogicalLine.{is_line_end_class}
use Rattle.py_lines.specs.Private.LineScan.{EndsNoLine}
use Rattle.py_lines.proofs.Pieces.PieceLists.{spelled-append, AreReadIn-append, AreReadIn-first, AreReadIn-second, follows_any}
use Rattle.py_lines.proofs.Pieces.OpenBrackets.{depth_through-append}
use Rattle.py_lines.proofs.LogicalLines.Cuts.{line_depth}
use Rattle.py_lines.specs.PieceGrammar.{Grammar, InClassIn, IsLineEnd, feed, return_feed, return, MayPrecedeIn, AreReadIn}
use Rattle.py_lines.proofs.Fields.OneReading.{read_before, read_nothing}

-- a line end has a first character
pub line_text : (text : List ℕ) → IsLineEnd text → (c : ℕ) × (cs : List ℕ) × (text ≡ c ∷ cs)
line_text text is = grind arith

-- the last characters of a text are those of its second part
pub ends-append : (p : ℕ → Bool) (xs : List ℕ) (c : ℕ) (ys : List ℕ) → ends p (xs ++ c ∷ ys) ≡ ends p (c ∷ ys)
ends-append p (x ∷ y ∷ xs) c ys = ends-append p (y ∷ xs) c ys
ends-append p xs c ys = refl

pub ends-last : (p : ℕ → Bool) (body : List Piece) (last : Piece) → IsLineEnd last.text → ends p (spelled (body ++ last ∷ [])) ≡ ends p last.text
ends-last p body last holds =
    let text = line_text last.text holds in
    ap (ends p) (spelled-append body (last ∷ []) ∙ ap (λ t. spelled body ++ t) (append-nil last.text ∙ text.2)) ∙ ends-append p (spelled body) text.0 text.1 ∙ ap (ends p) (sym text.2)

pub feed_unreturned : is_return 10 ≡ false
unfolding is_return
feed_unreturned = refl

pub return_returns : is_return 13 ≡ true
unfolding is_return
return_returns = refl

-- a line end that ends in CR is CR
pub returned_text : (text : List ℕ) → IsLineEnd text → ends is_return text ≡ true → text ≡ 13 ∷ []
returned_text text (feed same) cr = absurd (both_ways _ (ap (ends is_return) same ∙ feed_unreturned) cr)
returned_text text (return_feed same) cr = absurd (both_ways _ (ap (ends is_return) same ∙ feed_unreturned) cr)
returned_text text (return same) cr = same

module _ (grammar : Grammar) where
  -- the line end at the end of pieces
  pub line_end_of : (body : List Piece) (last : Piece) (rest : List ℕ) → last.class ≡ line_end → AreReadIn grammar (body ++ last ∷ []) rest → IsLineEnd last.text
  line_end_of body last rest class fit = subst (λ k. InClassIn grammar k last.text) class (AreReadIn-second grammar body (last ∷ []) rest fit).0

  -- pieces that end a line, before another rest
  pub read_on : (body : List Piece) (last : Piece) (rest after : List ℕ) → last.class ≡ line_end → AreReadIn grammar (body ++ last ∷ []) rest → ends is_return last.text && begins is_line_feed after ≡ false → AreReadIn grammar (body ++ last ∷ []) after
  read_on body last rest after is fit apart = let first = AreReadIn-first grammar body (last ∷ []) rest fit in
      let text = line_text last.text (line_end_of body last rest is fit) in let spell : last.text ++ [] ≡ text.0 ∷ text.1 = append-nil last.text ∙ text.2 in
      AreReadIn-append grammar body (last ∷ []) after
      (subst (AreReadIn grammar body) (ap (λ t. t ++ after) (sym spell)) (read_before grammar body text.0 (text.1 ++ rest) (text.1 ++ after) (subst (AreReadIn grammar body) (ap (λ t. t ++ rest) spell) first)))
      ((AreReadIn-second grammar body (last ∷ []) rest fit).0, subst (λ x. MayPrecedeIn grammar x last.text after) (sym is) apart, refl, tt)
      (follows_any body last.class last.text (ap is_mark_class is))

  -- the same pieces, with LF after the CR at their end
  pub fed_line : (body : List Piece) (last : Piece) → last.text ≡ 13 ∷ [] → AreReadIn grammar (body ++ last ∷ []) [] → AreReadIn grammar (body ++ piece line_end (13 ∷ 10 ∷ []) ∷ []) []
  fed_line body last text fit = AreReadIn-append grammar body (piece line_end (13 ∷ 10 ∷ []) ∷ []) []
      (read_before grammar body 13 [] (10 ∷ []) (subst (AreReadIn grammar body) (append-nil (last.text ++ []) ∙ append-nil last.text ∙ text) (AreReadIn-first grammar body (last ∷ []) [] fit)))
      (return_feed refl, and_right _ _ refl, refl, tt) (follows_any body line_end (13 ∷ 10 ∷ []) refl)

-- a line end has a first character
pub line_first : (p : Piece) → p.class ≡ line_end → InClass p.class p.text → (c : ℕ) × (cs : List ℕ) × (p.text ≡ c ∷ cs)
line_first p is holds = line_text p.text (subst (λ x. InClass x p.text) is holds)

-- the last characters of pieces are those of the last one
pub ends-line : (p : ℕ → Bool) (body : List Piece) (last : Piece) → last.class ≡ line_end → InClass last.class last.text → ends p (spelled (body ++ last ∷ [])) ≡ ends p last.text
ends-line p body last is holds = ends-last p body last (subst (λ k. InClass k last.text) is holds)

-- pieces that are read before a rest are a reading of their own
pub ended_reading : (base : List Piece) (rest : List ℕ) → AreReadBefore base rest → IsBalanced base → IsShallow 0 base → IsBalancedReading base (spelled base)
ended_reading base rest fit balanced shallow =
    record { reads = record { spell = refl; fit = read_nothing fielded base rest fit }; balanced = balanced; shallow = shallow }

-- a line end at depth 0 stands in no such pieces
pub no_end_in : (d : ℕ) (k : List Piece) (w : Piece) (ws : List Piece) → EndsNoLine d (k ++ w ∷ ws) → depth_through d k ≡ 0 → w.class ≡ line_end → ⊥
no_end_in d [] w ws none deep is = both_ways _ none.0 (and_from _ _ (ap is_line_end_class is) (eq-eqb d 0 deep))
no_end_in d (p ∷ k) w ws none deep is = no_end_in (depth_after d p) k w ws none.1 deep is

pub depth_prefix : (prefix : List Piece) → EndsLine prefix → depth_through 0 prefix ≡ 0
depth_prefix prefix (inl none) = ap (depth_through 0) none
depth_prefix prefix (inr (body, last, is, class, deep)) =
    ap (depth_through 0) is ∙ depth_through-append 0 body (last ∷ []) ∙ ap (λ (d : ℕ). depth_after d last) deep ∙ line_depth last 0 (ap is_line_end_class class)

-- the length of pieces, part by part
pub length_line : (body : List Piece) (p : Piece) (ps : List Piece) → length (spelled (body ++ p ∷ ps)) ≡ length (spelled body) + (length p.text + length (spelled ps))
length_line body p ps = ap length (spelled-append body (p ∷ ps)) ∙ length-append (spelled body) (p.text ++ spelled ps) ∙ ap (λ (n : ℕ). length (spelled body) + n) (length-append p.text (spelled ps))

-- no text in two parts
pub none_both : (a b : List ℕ) → a ++ b ≡ [] → (a ≡ []) × (b ≡ [])
none_both [] b e = (refl, e)
none_both (c ∷ cs) b e = absurd (cc)
