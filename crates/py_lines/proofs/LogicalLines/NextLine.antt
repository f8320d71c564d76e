-- One more logical line after those given, and one more token after those of a line.
use Rattle.py_lines.proofs.Prelude.{◌≡◌, ℕ, ◌+◌, Bool, true, false, ◌&&◌, ◌==◌, List, [], ◌∷◌, ◌++◌, refl, sym, ap, ◌∙◌, subst, append_assoc, append-nil, add_assoc, add-zero, arith, encode_utf8_all, cond_both, encodes-append, is_line_feed, is_return, Piece, begins, ends, spelled, depth_after, AreReadBefore, EndsLine, byte_len-append}
use Rattle.py_lines.specs.LogicalLine.{is_line_end_class, put_first, cut, byte_len, line_ends, LogicalLine, line_of, lines_from, lines_of}
use Rattle.py_lines.proofs.Pieces.PieceLists.{AreReadBefore-first}
use Rattle.py_lines.proofs.LogicalLines.Cuts.{uncut, line_ends-append, lines_in, cut-append}

-- the characters of parts
abbrev parts_spelled : List (List Piece) → List ℕ
parts_spelled [] = []
parts_spelled (u ∷ us) = spelled u ++ parts_spelled us

abbrev parts_lines : List (List Piece) → ℕ
parts_lines [] = 0
parts_lines (u ∷ us) = line_ends (spelled u) + parts_lines us

put_spelled : (p : Piece) (us : List (List Piece)) → parts_spelled (put_first p us) ≡ p.text ++ parts_spelled us
put_spelled p [] = append-nil (p.text ++ [])
put_spelled p (u ∷ us) = append_assoc p.text (spelled u) (parts_spelled us)

cut_spelled : (d : ℕ) (ps : List Piece) → parts_spelled (cut d ps) ≡ spelled ps
cut_spelled d [] = refl
cut_spelled d (p ∷ ps) = cond_both (is_line_end_class p.class && (d == 0)) _ _ (λ us. parts_spelled us ≡ p.text ++ spelled ps)
    (λ h. ap (λ t. t ++ parts_spelled (cut d ps)) (append-nil p.text) ∙ ap (λ t. p.text ++ t) (cut_spelled d ps))
    (λ h. put_spelled p (cut (depth_after d p) ps) ∙ ap (λ t. p.text ++ t) (cut_spelled (depth_after d p) ps))

pub begins-prefix : (p : ℕ → Bool) (xs ys : List ℕ) → begins p (xs ++ ys) ≡ false → begins p xs ≡ false
begins-prefix p [] ys h = refl
begins-prefix p (x ∷ xs) ys h = h

uncut-prefix : (b : Bool) (xs ys : List ℕ) → b && begins is_line_feed (xs ++ ys) ≡ false → b && begins is_line_feed xs ≡ false
uncut-prefix true xs ys h = begins-prefix is_line_feed xs ys h
uncut-prefix false xs ys h = refl

put_lines : (p : Piece) (us : List (List Piece)) → ends is_return p.text && begins is_line_feed (parts_spelled us) ≡ false → parts_lines (put_first p us) ≡ line_ends p.text + parts_lines us
put_lines p [] h = ap (λ t. line_ends t + 0) (append-nil p.text)
put_lines p (u ∷ us) h = ap (λ (n : ℕ). n + parts_lines us) (line_ends-append p.text (spelled u) (uncut-prefix (ends is_return p.text) (spelled u) (parts_spelled us) h)) ∙ add_assoc (line_ends p.text) (line_ends (spelled u)) (parts_lines us)

cut_lines : (d : ℕ) (ps : List Piece) (rest : List ℕ) → AreReadBefore ps rest → parts_lines (cut d ps) ≡ lines_in ps
cut_lines d [] rest fit = refl
cut_lines d (p ∷ ps) rest fit =
    let whole = uncut-prefix (ends is_return p.text) (spelled ps) rest (uncut p.class p.text (spelled ps ++ rest) fit.0 fit.1) in
    cond_both (is_line_end_class p.class && (d == 0)) _ _ (λ us. parts_lines us ≡ line_ends p.text + lines_in ps)
    (λ h. ap (λ t. line_ends t + parts_lines (cut d ps)) (append-nil p.text) ∙ ap (λ (n : ℕ). line_ends p.text + n) (cut_lines d ps rest fit.3))
    (λ h.
    put_lines p (cut (depth_after d p) ps) (subst (λ t. ends is_return p.text && begins is_line_feed t ≡ false) (sym (cut_spelled (depth_after d p) ps)) whole)
    ∙ ap (λ (n : ℕ). line_ends p.text + n) (cut_lines (depth_after d p) ps rest fit.3))

-- the line ends of pieces are those of their texts together
pub line_ends-spelled : (ps : List Piece) (rest : List ℕ) → AreReadBefore ps rest → line_ends (spelled ps) ≡ lines_in ps
line_ends-spelled [] rest fit = refl
line_ends-spelled (p ∷ ps) rest fit =
    line_ends-append p.text (spelled ps) (uncut-prefix (ends is_return p.text) (spelled ps) rest (uncut p.class p.text (spelled ps ++ rest) fit.0 fit.1))
    ∙ ap (λ (n : ℕ). line_ends p.text + n) (line_ends-spelled ps rest fit.3)

lines_from-append : (offset line : ℕ) (us vs : List (List Piece)) → lines_from offset line (us ++ vs) ≡ lines_from offset line us ++ lines_from (offset + byte_len (parts_spelled us)) (line + parts_lines us) vs
lines_from-append offset line [] vs = simp add-zero
lines_from-append offset line (u ∷ us) vs = rw (lines_from-append (offset + byte_len (spelled u)) (line + line_ends (spelled u)) us vs) (simp (byte_len-append, add_assoc))

-- a logical line after those given: its offset and its line are those of its place
pub lines_of-push : (given unit : List Piece) (rest : List ℕ) → EndsLine given → cut 0 unit ≡ unit ∷ [] → AreReadBefore (given ++ unit) rest → lines_of (given ++ unit) ≡ lines_of given ++ line_of (byte_len (spelled given)) (1 + line_ends (spelled given)) unit ∷ []
lines_of-push given unit rest ended one fit =
    let first = AreReadBefore-first given unit rest fit in
    let lines : parts_lines (cut 0 given) ≡ line_ends (spelled given) = cut_lines 0 given (spelled unit ++ rest) first ∙ sym (line_ends-spelled given (spelled unit ++ rest) first) in
    let bytes : 0 + byte_len (parts_spelled (cut 0 given)) ≡ byte_len (spelled given) = omega (arith, ap byte_len (cut_spelled 0 given)) in
    rw (cut-append given unit ended, one, lines_from-append 0 1 (cut 0 given) (unit ∷ []), bytes, lines)

-- the logical lines of pieces that end a line stay, whatever pieces follow
pub lines_of-more : (given others : List Piece) → EndsLine given → (more : List LogicalLine) × (lines_of (given ++ others) ≡ lines_of given ++ more)
lines_of-more given others ended = (
  lines_from (0 + byte_len (parts_spelled (cut 0 given))) (1 + parts_lines (cut 0 given)) (cut 0 others),
  ap (lines_from 0 1) (cut-append given others ended) ∙ lines_from-append 0 1 (cut 0 given) (cut 0 others),
)

-- the bytes of logical lines, one after another
abbrev pub texts : List LogicalLine → List ℕ
texts [] = []
texts (l ∷ ls) = l.text ++ texts ls

pub texts-append : (ls ms : List LogicalLine) → texts (ls ++ ms) ≡ texts ls ++ texts ms
texts-append [] ms = refl
texts-append (l ∷ ls) ms = ap (λ t. l.text ++ t) (texts-append ls ms) ∙ sym (append_assoc l.text (texts ls) (texts ms))

texts_from : (offset line : ℕ) (us : List (List Piece)) → texts (lines_from offset line us) ≡ encode_utf8_all (parts_spelled us)
texts_from offset line [] = refl
texts_from offset line (u ∷ us) = ap (λ t. encode_utf8_all (spelled u) ++ t) (texts_from (offset + byte_len (spelled u)) (line + line_ends (spelled u)) us) ∙ sym (encodes-append (spelled u) (parts_spelled us))

-- the logical lines of pieces hold the bytes that the pieces spell
pub texts-lines : (ps : List Piece) → texts (lines_of ps) ≡ encode_utf8_all (spelled ps)
texts-lines ps = texts_from 0 1 (cut 0 ps) ∙ ap encode_utf8_all (cut_spelled 0 ps)
