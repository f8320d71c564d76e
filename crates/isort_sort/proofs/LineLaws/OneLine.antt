-- Pieces that are one logical line: their brackets are in pairs, and no line end stands outside them.
use Rattle.std.proofs.Common.{◌≡◌, ℕ, ◌+◌, ◌-◌, ◌==◌, Bool, true, false, cond, not, lit<, ◌||◌, ◌&&◌, List, [], ◌∷◌, ◌++◌, refl, sym, ap, ◌∙◌, subst, append_assoc}
use Rattle.std.specs.List.{list_any}
use Rattle.std.proofs.lemmas.Bool.{and_parts, and_from, or_parts, both_ways}
use Rattle.std.proofs.lemmas.List.Folds.{list_any-append}
use Rattle.py_lines.specs.Balance.{is_opening, is_closing, is_opener, is_closer, IsBalanced, none, one, pair, both, depth_after, depth_through}
use Rattle.py_lines.specs.Fields.{IsShallow}
use Rattle.py_lines.specs.LogicalLine.{is_line_end_class, put_first, cut, byte_len, end_len_of}
use Rattle.py_lines.specs.Piece.{Class, string, operator, line_end, Piece}
use Rattle.isort_sort.proofs.LineLaws.Parts.{piece}
use Rattle.std.proofs.Math.Bool.{and-false}

abbrev pub is_string_class : Class → Bool
is_string_class string = true
is_string_class other = false

abbrev pub is_bracket_or_string : Piece → Bool
is_bracket_or_string p = is_string_class p.class || (is_opener p || is_closer p)

no_bracket : (p : Piece) → is_bracket_or_string p ≡ false → is_opener p || is_closer p ≡ false
no_bracket p h = (or_parts (is_string_class p.class) (is_opener p || is_closer p) h).1

abbrev pub is_line_end_piece : Piece → Bool
is_line_end_piece p = is_line_end_class p.class

-- whether no line end stands at depth 0 among pieces that begin at this depth
abbrev pub keeps : ℕ → List Piece → Bool
keeps d [] = true
keeps d (p ∷ ps) = not (is_line_end_piece p && (d == 0)) && keeps (depth_after d p) ps

pub record IsOneLine (pieces : List Piece) : Type 0 where
  pub balanced : IsBalanced pieces
  pub shallow : IsShallow 0 pieces
  pub deep : depth_through 0 pieces ≡ 0
  pub kept : keeps 0 pieces ≡ true

-- a piece that is no bracket leaves the depth
same_depth : (d : ℕ) (p : Piece) → is_bracket_or_string p ≡ false → depth_after d p ≡ d
same_depth d p h = by (is_opener p) (is_closer p) (no_bracket p h)
  where
    by : (o c : Bool) → o || c ≡ false → cond o (d + 1) (cond c (d - 1) d) ≡ d
    by true c k = absurd (cc)
    by false true k = absurd (cc)
    by false false k = refl

-- pieces without brackets
bare-balanced : (ps : List Piece) → list_any is_bracket_or_string ps ≡ false → IsBalanced ps
bare-balanced [] h = none [] refl
bare-balanced (p ∷ ps) h = let parts = or_parts (is_bracket_or_string p) (list_any is_bracket_or_string ps) h in both (p ∷ ps) (p ∷ []) ps refl (one (p ∷ []) p refl (no_bracket p parts.0)) (bare-balanced ps parts.1)

bare-shallow : (d : ℕ) (ps : List Piece) → list_any is_bracket_or_string ps ≡ false → IsShallow d ps
bare-shallow d [] h = tt
bare-shallow d (p ∷ ps) h =
    let parts = or_parts (is_bracket_or_string p) (list_any is_bracket_or_string ps) h in (
      (λ opens. absurd (both_ways _ (or_parts (is_opener p) (is_closer p) (no_bracket p parts.0)).0 opens)),
      (λ is. absurd (both_ways _ (or_parts (is_string_class p.class) _ parts.0).0 (ap is_string_class is))),
      bare-shallow (depth_after d p) ps parts.1,
    )

bare-depth : (d : ℕ) (ps : List Piece) → list_any is_bracket_or_string ps ≡ false → depth_through d ps ≡ d
bare-depth d [] h = refl
bare-depth d (p ∷ ps) h = let parts = or_parts (is_bracket_or_string p) (list_any is_bracket_or_string ps) h in bare-depth (depth_after d p) ps parts.1 ∙ same_depth d p parts.0

unended-kept : (d : ℕ) (ps : List Piece) → list_any is_line_end_piece ps ≡ false → keeps d ps ≡ true
unended-kept d [] h = refl
unended-kept d (p ∷ ps) h = let parts = or_parts (is_line_end_piece p) (list_any is_line_end_piece ps) h in and_from _ _ (ap (λ b. not (b && (d == 0))) parts.0) (unended-kept (depth_after d p) ps parts.1)

inside-kept : (ps : List Piece) → list_any is_bracket_or_string ps ≡ false → keeps 1 ps ≡ true
inside-kept [] h = refl
inside-kept (p ∷ ps) h =
    let parts = or_parts (is_bracket_or_string p) (list_any is_bracket_or_string ps) h in
    and_from _ _ (ap not (and-false (is_line_end_piece p))) (subst (λ (d : ℕ). keeps d ps ≡ true) (sym (same_depth 1 p parts.0)) (inside-kept ps parts.1))

-- no bracket, and no line end
pub plain-line : (ps : List Piece) → list_any is_bracket_or_string ps ≡ false → list_any is_line_end_piece ps ≡ false → IsOneLine ps
plain-line ps h k = record { balanced = bare-balanced ps h; shallow = bare-shallow 0 ps h; deep = bare-depth 0 ps h; kept = unended-kept 0 ps k }

-- pieces one after another
depth-append : (d : ℕ) (ps qs : List Piece) → depth_through d (ps ++ qs) ≡ depth_through (depth_through d ps) qs
depth-append d [] qs = refl
depth-append d (p ∷ ps) qs = depth-append (depth_after d p) ps qs

shallow-append : (d : ℕ) (ps qs : List Piece) → IsShallow d ps → IsShallow (depth_through d ps) qs → IsShallow d (ps ++ qs)
shallow-append d [] qs h k = k
shallow-append d (p ∷ ps) qs h k = (h.0, h.1, shallow-append (depth_after d p) ps qs h.2 k)

kept-append : (d : ℕ) (ps qs : List Piece) → keeps d ps ≡ true → keeps (depth_through d ps) qs ≡ true → keeps d (ps ++ qs) ≡ true
kept-append d [] qs h k = k
kept-append d (p ∷ ps) qs h k = let parts = and_parts _ _ h in and_from _ _ parts.0 (kept-append (depth_after d p) ps qs parts.1 k)

pub line-append : {ps qs : List Piece} → IsOneLine ps → IsOneLine qs → IsOneLine (ps ++ qs)
line-append {ps = ps} {qs = qs} p q = record {
  balanced = both (ps ++ qs) ps qs refl p.balanced q.balanced;
  shallow = shallow-append 0 ps qs p.shallow (subst (λ (d : ℕ). IsShallow d qs) (sym p.deep) q.shallow);
  deep = depth-append 0 ps qs ∙ ap (λ (d : ℕ). depth_through d qs) p.deep ∙ q.deep;
  kept = kept-append 0 ps qs p.kept (subst (λ (d : ℕ). keeps d qs ≡ true) (sym p.deep) q.kept);
}

-- pieces in parentheses, among which line ends may stand
abbrev pub opening_piece : Piece
opening_piece = piece operator (40 ∷ [])

abbrev pub closing_piece : Piece
closing_piece = piece operator (41 ∷ [])

bracketed-line : (inner : List Piece) → list_any is_bracket_or_string inner ≡ false → IsOneLine (opening_piece ∷ (inner ++ closing_piece ∷ []))
unfolding is_opening is_closing
bracketed-line inner h =
    let depth = bare-depth 1 inner h in
    record {
      balanced = pair _ inner opening_piece closing_piece refl (record { opens = refl; closes = refl; kind = refl }) (bare-balanced inner h);
      shallow = ((λ _. lit< tt), (λ k. absurd (cc)), shallow-append 1 inner (closing_piece ∷ []) (bare-shallow 1 inner h) (subst (λ (d : ℕ). IsShallow d (closing_piece ∷ [])) (sym depth) ((λ k. absurd (cc)), (λ k. absurd (cc)), tt)));
      deep = depth-append 1 inner (closing_piece ∷ []) ∙ ap (λ (d : ℕ). depth_through d (closing_piece ∷ [])) depth;
      kept = kept-append 1 inner (closing_piece ∷ []) (inside-kept inner h) (subst (λ (d : ℕ). keeps d (closing_piece ∷ []) ≡ true) (sym depth) refl);
    }

-- pieces after an opening parenthesis: the closing one, and one line after it
pub record Closes (pieces : List Piece) : Type 0 where
  pub inner : List Piece
  pub rest : List Piece
  pub is : pieces ≡ inner ++ closing_piece ∷ rest
  pub bare : list_any is_bracket_or_string inner ≡ false
  pub line : IsOneLine rest

pub closes-after : (ps qs : List Piece) → list_any is_bracket_or_string ps ≡ false → Closes qs → Closes (ps ++ qs)
closes-after ps qs h c = record {
  inner = ps ++ c.inner;
  rest = c.rest;
  is = ap (λ l. ps ++ l) c.is ∙ sym (append_assoc ps c.inner (closing_piece ∷ c.rest));
  bare = list_any-append is_bracket_or_string ps c.inner ∙ (λ i. h i || c.bare i);
  line = c.line;
}

pub opened-line : (pieces : List Piece) → Closes pieces → IsOneLine (opening_piece ∷ pieces)
opened-line pieces c =
    subst IsOneLine (ap (λ l. opening_piece ∷ l) (append_assoc c.inner (closing_piece ∷ []) c.rest ∙ sym c.is)) (line-append (bracketed-line c.inner c.bare) c.line)

-- one logical line, alone and before a line end
cut-alone : (d : ℕ) (p : Piece) (ps : List Piece) → keeps d (p ∷ ps) ≡ true → cut d (p ∷ ps) ≡ (p ∷ ps) ∷ []
cut-alone d p [] h = by (is_line_end_piece p && (d == 0)) (and_parts _ _ h).0
  where
    by : (b : Bool) → not b ≡ true → cond b ((p ∷ []) ∷ cut d []) (put_first p []) ≡ (p ∷ []) ∷ []
    by true k = absurd (cc)
    by false k = refl
cut-alone d p (q ∷ qs) h = by (is_line_end_piece p && (d == 0)) (and_parts _ _ h).0 (cut-alone (depth_after d p) q qs (and_parts _ _ h).1)
  where
    by : (b : Bool) → not b ≡ true → cut (depth_after d p) (q ∷ qs) ≡ (q ∷ qs) ∷ [] → cond b ((p ∷ []) ∷ cut d (q ∷ qs)) (put_first p (cut (depth_after d p) (q ∷ qs))) ≡ (p ∷ q ∷ qs) ∷ []
    by true k e = absurd (cc)
    by false k e = ap (put_first p) e

pub one-cut : (p : Piece) (ps : List Piece) → IsOneLine (p ∷ ps) → cut 0 (p ∷ ps) ≡ (p ∷ ps) ∷ []
one-cut p ps l = cut-alone 0 p ps l.kept

cut-end : (d : ℕ) (ps : List Piece) (end : List ℕ) (more : List Piece) → keeps d ps ≡ true → depth_through d ps ≡ 0 → cut d (ps ++ (piece line_end end ∷ more)) ≡ (ps ++ piece line_end end ∷ []) ∷ cut 0 more
cut-end d [] end more h k = ap (λ (n : ℕ). cut n (piece line_end end ∷ more)) k
cut-end d (p ∷ ps) end more h k = by (is_line_end_piece p && (d == 0)) (and_parts _ _ h).0 (cut-end (depth_after d p) ps end more (and_parts _ _ h).1 k)
  where
    by : (b : Bool) → not b ≡ true → cut (depth_after d p) (ps ++ (piece line_end end ∷ more)) ≡ (ps ++ piece line_end end ∷ []) ∷ cut 0 more → cond b ((p ∷ []) ∷ cut d (ps ++ (piece line_end end ∷ more))) (put_first p (cut (depth_after d p) (ps ++ (piece line_end end ∷ more)))) ≡ (p ∷ (ps ++ piece line_end end ∷ [])) ∷ cut 0 more
    by true l e = absurd (cc)
    by false l e = ap (put_first p) e

pub ended-cut : (ps : List Piece) (end : List ℕ) (more : List Piece) → IsOneLine ps → cut 0 (ps ++ (piece line_end end ∷ more)) ≡ (ps ++ piece line_end end ∷ []) ∷ cut 0 more
ended-cut ps end more l = cut-end 0 ps end more l.kept l.deep

-- the pieces end with no line end
end-depth : (d : ℕ) (c : Class) (t : List ℕ) → not (is_line_end_class c && (d == 0)) ≡ true → depth_after d (piece c t) ≡ 0 → is_line_end_class c ≡ false
end-depth d line_end t h k = let zero : not (0 == 0) ≡ true = subst (λ (n : ℕ). not (n == 0) ≡ true) k h in absurd (cc)
end-depth d _ t h k = refl

none-after : (d : ℕ) (ps : List Piece) → keeps d ps ≡ true → depth_through d ps ≡ 0 → end_len_of ps ≡ 0
none-after d [] h k = refl
none-after d (p ∷ []) h k = ap (λ b. cond b (byte_len p.text) 0) (end-depth d p.class p.text (and_parts _ _ h).0 k)
none-after d (p ∷ q ∷ ps) h k = none-after (depth_after d p) (q ∷ ps) (and_parts _ _ h).1 k

pub no-end : (ps : List Piece) → IsOneLine ps → end_len_of ps ≡ 0
no-end ps l = none-after 0 ps l.kept l.deep

pub some-end : (ps : List Piece) (end : List ℕ) → end_len_of (ps ++ piece line_end end ∷ []) ≡ byte_len end
some-end [] end = refl
some-end (p ∷ []) end = refl
some-end (p ∷ q ∷ ps) end = some-end (q ∷ ps) end
