-- Logical lines, one after another: where a line ends, the lines so far are done.
use Rattle.py_lines.proofs.Prelude.{codes, ◌≡◌, ℕ, ◌+◌, Bool, true, false, not, ◌&&◌, ◌==◌, List, [], ◌∷◌, ◌++◌, refl, sym, ap, ◌∙◌, ⊎_elim, inl, inr, append_assoc, append-nil, arith, list_any, length-le-encodes, nil_from_length, cond_both, both_ways, and_parts, and_left, or_parts, false_from_ne_true, cases_Bool, or_from, is_mark, is_space, is_quote, is_operator, is_line_feed, is_return, is_break, is_hash, depth_after, depth_through, InClass, MayPrecede, AreReadBefore, EndsLine, byte_len-append}
use Rattle.py_lines.specs.Piece.{Class, mark, space, word, string, operator, comment, join, line_end, Piece, begins, ends, spelled}
use Rattle.py_lines.specs.PieceGrammar.{joined}
use Rattle.py_lines.specs.FieldStrings.{Host, quotes_of}
use Rattle.py_lines.specs.LogicalLine.{is_line_end_class, put_first, cut, byte_len, ends_line, line_ends}
use Rattle.py_lines.proofs.Text.CharacterTests.{none_of, return_is}
use Rattle.py_lines.proofs.WordBreaks.{word-unbroken}
use Rattle.py_lines.proofs.Fields.Prefixes.{none_in}
use Rattle.py_lines.proofs.Text.Splits.{Either, either}
use Rattle.py_lines.specs.Private.LineScan.{EndsNoLine}

-- a CR at the end of a piece belongs to no LF after it
pub ends-last : (p : ℕ → Bool) (text : List ℕ) (c : ℕ) → ends p (text ++ c ∷ []) ≡ p c
ends-last p (d ∷ e ∷ text) c = ends-last p (e ∷ text) c
ends-last p text c = refl

-- CR does not pass this test
not_return : (p : ℕ → Bool) → p 13 ≡ false → (c : ℕ) → p c ≡ true → is_return c ≡ false
not_return p other c h = false_from_ne_true _ (λ k. both_ways _ (ap p (return_is c k) ∙ other) h)

pub break-return : (c : ℕ) → is_break c ≡ false → is_return c ≡ false
unfolding is_break
break-return c h = not_return (λ x. not (is_break x)) refl c (rw h)

-- a text without line ends ends in none
ends-unbroken : (text : List ℕ) → list_any is_break text ≡ false → ends is_return text ≡ false
ends-unbroken [] none = refl
ends-unbroken (c ∷ []) none = break-return c (or_parts (is_break c) false none).0
ends-unbroken (c ∷ d ∷ cs) none = ends-unbroken (d ∷ cs) (or_parts (is_break c) (list_any is_break (d ∷ cs)) none).1

ends-quote : (prefix body : List ℕ) (q : ℕ) → is_quote q ≡ true → ends is_return (prefix ++ (body ++ q ∷ [])) ≡ false
unfolding is_quote
ends-quote prefix body q quotes = ap (ends is_return) (sym (append_assoc prefix body (q ∷ []))) ∙ ends-last is_return (prefix ++ body) q ∙ not_return is_quote refl q quotes

ends-quotes : (prefix : List ℕ) (host : Host) (inside : List ℕ) → is_quote host.quote ≡ true → ends is_return (prefix ++ (quotes_of host ++ (inside ++ quotes_of host))) ≡ false
ends-quotes prefix host inside quotes = let q = host.quote in
    cond_both host.is_long (q ∷ q ∷ q ∷ []) (q ∷ []) (λ (t : List ℕ). ends is_return (prefix ++ (t ++ (inside ++ t))) ≡ false)
    (λ long. ap (λ t. ends is_return (prefix ++ (q ∷ q ∷ q ∷ t))) (sym (append_assoc inside (q ∷ q ∷ []) (q ∷ []))) ∙ ends-quote prefix (q ∷ q ∷ q ∷ (inside ++ q ∷ q ∷ [])) q quotes)
    (λ short. ends-quote prefix (q ∷ inside) q quotes)

-- no CR LF is cut between a piece and what follows
pub uncut : (class : Class) (text rest : List ℕ) → InClass class text → MayPrecede class text rest → ends is_return text && begins is_line_feed rest ≡ false
unfolding is_mark is_space is_operator is_break is_hash
uncut mark text rest (c, is, passes) before = and_left _ _ (ap (ends is_return) is ∙ not_return is_mark refl c passes)
uncut space text rest (first, others, is, run) before = and_left _ _ (ends-unbroken text (none_in is_space is_break (λ c. none_of is_space (10 ∷ 13 ∷ []) c refl) text run))
uncut word text rest is before = and_left _ _ (ends-unbroken text (word-unbroken text is))
uncut string text rest (inl (inl short)) before =
    let is = short.0 in
    and_left _ _ (ap (ends is_return) is.spell ∙ ends-quote is.prefix (is.quote ∷ joined is.items) is.quote is.opens)
uncut string text rest (inl (inr long)) before =
    let is = long.0 in let q = is.quote in
    and_left _ _ (ap (ends is_return) (is.spell ∙ ap (λ t. is.prefix ++ (q ∷ q ∷ q ∷ t)) (sym (append_assoc (joined is.items) (q ∷ q ∷ []) (q ∷ [])))) ∙ ends-quote is.prefix (q ∷ q ∷ q ∷ (joined is.items ++ q ∷ q ∷ [])) q is.opens)
uncut string text rest (inr is) before = and_left _ _ (ap (ends is_return) is.spell ∙ ends-quotes is.prefix is.host (joined is.parts) is.opens)
uncut operator text rest (c, is, passes) before = and_left _ _ (ap (ends is_return) is ∙ not_return is_operator refl c passes)
uncut comment text rest (hash, body, is, opens, holds) before = and_left _ _ (ends-unbroken text (ap (list_any is_break) is ∙ or_from _ _ (none_of is_break (codes "#") hash refl opens) holds))
uncut join text rest is before = before
uncut line_end text rest is before = before

-- line ends of two texts, between which no CR LF is cut
ends_line-first : (c : ℕ) (rest : List ℕ) → is_return c && begins is_line_feed rest ≡ false → ends_line c [] ≡ ends_line c rest
ends_line-first c rest h =
    ⊎_elim (λ (k : is_return c ≡ true). let none : begins is_line_feed rest ≡ false = rw k at h in rw (k, none)) (λ (k : is_return c ≡ false). rw k) (cases_Bool (is_return c))

pub line_ends-append : (xs ys : List ℕ) → ends is_return xs && begins is_line_feed ys ≡ false → line_ends (xs ++ ys) ≡ line_ends xs + line_ends ys
line_ends-append [] ys h = omega arith
line_ends-append (c ∷ []) ys h = rw (ends_line-first c ys h) (omega arith)
line_ends-append (c ∷ d ∷ xs) ys h = let later = line_ends-append (d ∷ xs) ys h in omega arith

-- the line ends of pieces are those of their texts
abbrev pub lines_in : List Piece → ℕ
lines_in [] = 0
lines_in (p ∷ ps) = line_ends p.text + lines_in ps

pub line_ends-pieces : (ps : List Piece) (rest : List ℕ) → AreReadBefore ps rest → line_ends (spelled ps ++ rest) ≡ lines_in ps + line_ends rest
line_ends-pieces [] rest fit = omega arith
line_ends-pieces (p ∷ ps) rest fit =
    let later = line_ends-pieces ps rest fit.3 in
    let one : line_ends ((p.text ++ spelled ps) ++ rest) ≡ line_ends p.text + line_ends (spelled ps ++ rest) = ap line_ends (append_assoc p.text (spelled ps) rest) ∙ line_ends-append p.text (spelled ps ++ rest) (uncut p.class p.text (spelled ps ++ rest) fit.0 fit.1) in
    omega arith

-- a byte of a text belongs to one prefix
pub no_bytes : (k : List ℕ) → byte_len k ≡ 0 → k ≡ []
no_bytes k none = let bound = length-le-encodes k in nil_from_length k (omega arith)

pub same_place : (b a d e : List ℕ) → b ++ a ≡ d ++ e → byte_len b ≡ byte_len d → b ≡ d
same_place b a d e same bytes = go (either b a d e same) where
  go : Either b d e → b ≡ d
  go (Either.shorter k one) = let sum : byte_len d ≡ byte_len b + byte_len k = ap byte_len one ∙ byte_len-append b k in
      sym (append-nil b) ∙ ap (λ t. b ++ t) (sym (no_bytes k (omega arith))) ∙ sym one
  go (Either.longer c k after one two) = let sum : byte_len b ≡ byte_len d + byte_len (c ∷ k) = ap byte_len one ∙ byte_len-append d (c ∷ k) in
      let none : c ∷ k ≡ [] = no_bytes (c ∷ k) (omega arith) in absurd (cc)

-- a piece before the parts that a list of some pieces is cut into, and others after them
put_twice : (p q : Piece) (us vs : List (List Piece)) → put_first p (put_first q us ++ vs) ≡ put_first p (put_first q us) ++ vs
put_twice p q [] vs = refl
put_twice p q (u ∷ us) vs = refl

put_cut : (p : Piece) (d : ℕ) (q : Piece) (ps : List Piece) (vs : List (List Piece)) → put_first p (cut d (q ∷ ps) ++ vs) ≡ put_first p (cut d (q ∷ ps)) ++ vs
put_cut p d q ps vs = cond_both (is_line_end_class q.class && (d == 0)) _ _ (λ us. put_first p (us ++ vs) ≡ put_first p us ++ vs) (λ h. refl) (λ h. put_twice p q (cut (depth_after d q) ps) vs)

put_line : (p : Piece) (d : ℕ) (body : List Piece) (last : Piece) (vs : List (List Piece)) → put_first p (cut d (body ++ last ∷ []) ++ vs) ≡ put_first p (cut d (body ++ last ∷ [])) ++ vs
put_line p d [] last vs = put_cut p d last [] vs
put_line p d (q ∷ body) last vs = put_cut p d q (body ++ last ∷ []) vs

pub line_depth : (p : Piece) (d : ℕ) → is_line_end_class p.class ≡ true → depth_after d p ≡ d
line_depth p d h = grind arith

-- the cut after a line end at depth 0
cut-line : (body : List Piece) (last : Piece) (qs : List Piece) (d : ℕ) → last.class ≡ line_end → depth_through d body ≡ 0 → cut d (body ++ last ∷ qs) ≡ cut d (body ++ last ∷ []) ++ cut 0 qs
cut-line [] last qs d is deep = rw (is, deep)
cut-line (p ∷ body) last qs d is deep = ⊎_elim (λ (h : is_line_end_class p.class && (d == 0) ≡ true).
    let level : depth_after d p ≡ d = line_depth p d (and_parts (is_line_end_class p.class) (d == 0) h).0 in
    rw h (ap (λ us. (p ∷ []) ∷ us) (cut-line body last qs d is (ap (λ (n : ℕ). depth_through n body) (sym level) ∙ deep))))
    (λ (h : is_line_end_class p.class && (d == 0) ≡ false).
    rw h (ap (put_first p) (cut-line body last qs (depth_after d p) is deep) ∙ put_line p (depth_after d p) body last (cut 0 qs)))
    (cases_Bool (is_line_end_class p.class && (d == 0)))

-- pieces that end a line are cut from those after them
pub cut-append : (ps qs : List Piece) → EndsLine ps → cut 0 (ps ++ qs) ≡ cut 0 ps ++ cut 0 qs
cut-append ps qs (inl none) = rw none
cut-append ps qs (inr (body, last, is, class, deep)) =
    ap (λ l. cut 0 (l ++ qs)) is ∙ ap (cut 0) (append_assoc body (last ∷ []) qs) ∙ cut-line body last qs 0 class deep ∙ ap (λ l. cut 0 l ++ cut 0 qs) (sym is)

-- pieces with no line end at depth 0 are one part
pub one_part : (d : ℕ) (p : Piece) (ps : List Piece) → EndsNoLine d (p ∷ ps) → cut d (p ∷ ps) ≡ (p ∷ ps) ∷ []
one_part d p [] none = rw none.0
one_part d p (q ∷ ps) none = rw (none.0, one_part (depth_after d p) q ps none.1)

-- and so they are with one after them
pub one_line : (d : ℕ) (body : List Piece) (last : Piece) → EndsNoLine d body → last.class ≡ line_end → depth_through d body ≡ 0 → cut d (body ++ last ∷ []) ≡ (body ++ last ∷ []) ∷ []
one_line d [] last none is deep = rw (is, deep)
one_line d (p ∷ body) last none is deep = rw (none.0, one_line (depth_after d p) body last none.1 is deep)
