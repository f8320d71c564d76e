-- What one more piece does to the line, and how many line ends characters have.
use Rattle.py_lines.proofs.Prelude.{◌≡◌, ℕ, ◌≤◌, false, ◌&&◌, ◌==◌, List, [], ◌∷◌, ◌++◌, length, take, arith, length-take, cond_both, length-le-encodes, Piece, depth_after, depth_through}
use Rattle.py_lines.specs.LogicalLine.{is_line_end_class, ends_line, line_ends, byte_len}
use Rattle.py_lines.specs.Private.LineScan.{EndsNoLine}

-- one more piece that doesn't end the line
pub EndsNoLine-push : (d : ℕ) (ps : List Piece) (p : Piece) → EndsNoLine d ps
    → is_line_end_class p.class && (depth_through d ps == 0) ≡ false → EndsNoLine d (ps ++ p ∷ [])
EndsNoLine-push d [] p none last = (last, tt)
EndsNoLine-push d (q ∷ ps) p none last = (none.0, EndsNoLine-push (depth_after d q) ps p none.1 last)

-- a text has no more line ends than characters
pub line_ends-le : (cs : List ℕ) → line_ends cs ≤ length cs
line_ends-le [] = omega arith
line_ends-le (c ∷ cs) = let one = cond_both (ends_line c cs) 1 0 (λ n. n ≤ 1) (λ h. omega arith) (λ h. omega arith) in omega (arith, one, line_ends-le cs)

pub few_first : (cs : List ℕ) (n : ℕ) → line_ends (take n cs) ≤ n
few_first cs n = omega (arith, line_ends-le (take n cs), length-take n cs)

pub line_ends-bytes : (cs : List ℕ) → line_ends cs ≤ byte_len cs
line_ends-bytes cs = omega (arith, line_ends-le cs, length-le-encodes cs)
