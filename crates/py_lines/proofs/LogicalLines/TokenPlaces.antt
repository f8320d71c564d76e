-- The tokens of pieces lie in the text that the pieces spell.
use Rattle.py_lines.proofs.Prelude.{◌≡◌, ℕ, ◌+◌, ◌<◌, zero, suc, true, List, [], ◌∷◌, ◌++◌, length, get_or, refl, subst, append_assoc, arith, encode_utf8_all, all_scalars, IsCharBoundary, slice_get-get_or, same_Some, encodes-append, IsCharBoundary-at_seam, Token, TokKind, byte_len-append}
use Rattle.py_lines.specs.Piece.{Class, mark, space, join, line_end, Piece, spelled}
use Rattle.py_lines.specs.LogicalLine.{byte_len, line_ends, tokens_of_piece, tokens_from}
use Rattle.py_lines.specs.Token.{EachLiesIn, LiesIn}
use Rattle.py_lines.proofs.Text.Utf8Prefixes.{all_scalars-parts}

-- a token at a place of the list lies in the text
pub lies_at : (text : List ℕ) (tokens : List Token) (i : ℕ) (t : Token) → EachLiesIn text tokens → i < length tokens → LiesIn text (get_or tokens i t)
lies_at text tokens i t lie inside = lie i (get_or tokens i t) (slice_get-get_or tokens i t inside)

each_nil : (text : List ℕ) → EachLiesIn text []
each_nil text zero t found = absurd (cc)
each_nil text (suc i) t found = absurd (cc)

each_cons : (text : List ℕ) (t : Token) (ts : List Token) → LiesIn text t → EachLiesIn text ts → EachLiesIn text (t ∷ ts)
each_cons text t ts first others zero u found = subst (LiesIn text) (same_Some t u found) first
each_cons text t ts first others (suc i) u found = others i u found

-- the place after characters of a text is a boundary
seam : (before after : List ℕ) → all_scalars after ≡ true → IsCharBoundary (encode_utf8_all (before ++ after)) (byte_len before)
seam before after scalars = IsCharBoundary-at_seam (encode_utf8_all (before ++ after)) (encode_utf8_all before) (encode_utf8_all after) (encodes-append before after) (after, (scalars, refl))

-- one piece's token, if it has one
each_piece : (text : List ℕ) (start stop line : ℕ) (class : Class) (piece_text : List ℕ) (ts : List Token) → ((k : TokKind) → LiesIn text (record { kind = k; start = start; stop = stop; line = line })) → EachLiesIn text ts → EachLiesIn text (tokens_of_piece start stop line class piece_text ++ ts)
each_piece text start stop line mark p ts lies others = others
each_piece text start stop line join p ts lies others = others
each_piece text start stop line space p ts lies others = others
each_piece text start stop line line_end p ts lies others = others
each_piece text start stop line class p ts lies others = each_cons text _ ts (lies _) others

-- the tokens of pieces lie in the text, after what stands before them
pub each_after : (before : List ℕ) (line : ℕ) (ps : List Piece) → all_scalars (spelled ps) ≡ true → EachLiesIn (encode_utf8_all (before ++ spelled ps)) (tokens_from (byte_len before) line ps)
each_after before line [] scalars = each_nil (encode_utf8_all (before ++ []))
each_after before line (p ∷ ps) scalars =
    let parts = all_scalars-parts p.text (spelled ps) scalars in
    let regroup : (before ++ p.text) ++ spelled ps ≡ before ++ (p.text ++ spelled ps) = append_assoc before p.text (spelled ps) in
    let stop : byte_len (before ++ p.text) ≡ byte_len before + byte_len p.text = byte_len-append before p.text in
    let text : List ℕ = encode_utf8_all (before ++ (p.text ++ spelled ps)) in
    let others : EachLiesIn text (tokens_from (byte_len before + byte_len p.text) (line + line_ends p.text) ps)
    = subst (λ (n : ℕ). EachLiesIn text (tokens_from n (line + line_ends p.text) ps)) stop (subst (λ t. EachLiesIn (encode_utf8_all t) (tokens_from (byte_len (before ++ p.text)) (line + line_ends p.text) ps)) regroup (each_after (before ++ p.text) (line + line_ends p.text) ps parts.1)) in
    each_piece text (byte_len before) (byte_len before + byte_len p.text) line p.class p.text _ (λ k. record {
      ordered = omega arith;
      within = omega (arith, byte_len-append before (p.text ++ spelled ps), byte_len-append p.text (spelled ps));
      from = seam before (p.text ++ spelled ps) scalars;
      to = subst (IsCharBoundary text) stop (subst (λ t. IsCharBoundary (encode_utf8_all t) (byte_len (before ++ p.text))) regroup (seam (before ++ p.text) (spelled ps) parts.1));
    }) others
