-- The tokens of a logical line say what its pieces say.
use Rattle.py_lines.proofs.Prelude.{◌≡◌, ℕ, ◌+◌, ◌-◌, List, [], ◌∷◌, ◌++◌, map, length, length-append, take, drop, refl, sym, ap, ◌∙◌, append_assoc, arith, encode_utf8_all, slice_range, drop-append_seam, take-append_seam, map-append, encodes-append}
use Rattle.py_lines.specs.Piece.{Class, word, Piece, spelled}
use Rattle.py_lines.specs.LogicalLine.{byte_len, line_ends, tokens_of_piece, tokens_from}
use Rattle.py_lines.specs.Words.{word_in, words_of_piece, words_of, extent_of}

slice_seam : (b x c : List ℕ) → slice_range (b ++ (x ++ c)) (length b) (length b + length x) ≡ x
slice_seam b x c =
    let e : (length b + length x) - length b ≡ length x = omega arith in
    ap (λ (n : ℕ). take n (drop (length b) (b ++ (x ++ c)))) e ∙ ap (λ (t : List ℕ). take (length x) t) (drop-append_seam b (x ++ c)) ∙ take-append_seam x c

one_word : (b c : List ℕ) (line : ℕ) (class : Class) (text : List ℕ) → map (word_in (b ++ (encode_utf8_all text ++ c))) (tokens_of_piece (length b) (length b + byte_len text) line class text) ≡ words_of_piece class text
one_word b c line class text = grind (arith, slice_seam)

pub words_after : (b : List ℕ) (line : ℕ) (ps : List Piece) → map (word_in (b ++ encode_utf8_all (spelled ps))) (tokens_from (length b) line ps) ≡ words_of ps
words_after b line [] = refl
words_after b line (p ∷ ps) =
    let bytes = encode_utf8_all p.text in
    let parts : encode_utf8_all (p.text ++ spelled ps) ≡ bytes ++ encode_utf8_all (spelled ps) = encodes-append p.text (spelled ps) in
    let seam : length b + byte_len p.text ≡ length (b ++ bytes) = omega (arith, length-append {A = ℕ}) in
    let regroup = sym (append_assoc b bytes (encode_utf8_all (spelled ps))) in let others = words_after (b ++ bytes) (line + line_ends p.text) ps in
    let tokens = tokens_from (length b + byte_len p.text) (line + line_ends p.text) ps in
    ap (λ (t : List ℕ). map (word_in (b ++ t)) (tokens_of_piece (length b) (length b + byte_len p.text) line p.class p.text ++ tokens)) parts
    ∙ map-append (word_in (b ++ (bytes ++ encode_utf8_all (spelled ps)))) (tokens_of_piece (length b) (length b + byte_len p.text) line p.class p.text) tokens
    ∙ (λ i. one_word b (encode_utf8_all (spelled ps)) line p.class p.text i ++ map (word_in (regroup i)) (tokens_from (seam i) (line + line_ends p.text) ps))
    ∙ ap (λ l. words_of_piece p.class p.text ++ l) others

one_extent : (start stop line row : ℕ) (class : Class) (text : List ℕ) → map extent_of (tokens_of_piece start stop line class text) ≡ map extent_of (tokens_of_piece start stop row class text)
one_extent start stop line row word text = refl
one_extent start stop line row other text = refl

pub same_extents : (start line row : ℕ) (ps : List Piece) → map extent_of (tokens_from start line ps) ≡ map extent_of (tokens_from start row ps)
same_extents start line row [] = refl
same_extents start line row (p ∷ ps) =
    let stop = start + byte_len p.text in
    map-append extent_of (tokens_of_piece start stop line p.class p.text) (tokens_from stop (line + line_ends p.text) ps)
    ∙ (λ i. one_extent start stop line row p.class p.text i ++ same_extents stop (line + line_ends p.text) (row + line_ends p.text) ps i)
    ∙ sym (map-append extent_of (tokens_of_piece start stop row p.class p.text) (tokens_from stop (row + line_ends p.text) ps))
