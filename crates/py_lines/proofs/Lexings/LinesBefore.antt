-- Whole lines before pieces: together they are read exactly if each is.
use Rattle.py_lines.proofs.Prelude.{◌≡◌, ℕ, false, ◌&&◌, List, [], ◌∷◌, ◌++◌, refl, sym, ap, ◌∙◌, subst, inl, inr, append-nil, is_line_feed, is_return, Piece, begins, ends, begins_marked, spelled, IsBalancedReading, EndsLine}
use Rattle.py_lines.specs.Balance.{IsBalanced as balance}
use Rattle.py_lines.specs.Fields.{fielded, AreReadBefore, IsShallow}
use Rattle.py_lines.specs.Neighbours.{MayFollowLines}
use Rattle.py_lines.proofs.Pieces.PieceLists.{MayFollow, AreReadIn-append, AreReadBefore-first, AreReadBefore-second}
use Rattle.py_lines.proofs.FieldSoundness.OpenLists.{balanced_first, balanced_second}
use Rattle.py_lines.proofs.Pieces.ShallowPieces.{IsShallow-append, IsShallow-parts}
use Rattle.py_lines.proofs.Lexings.LineEnds.{ends-line, read_on, ended_reading, depth_prefix}

follows_lines : (lines rest : List Piece) → begins_marked rest ≡ false → MayFollow lines rest
follows_lines [] rest h = tt
follows_lines (p ∷ ps) rest h = h

-- lines and what may follow them are read together
pub read_together : (lines rest : List Piece) → EndsLine lines → IsBalancedReading lines (spelled lines) → IsBalancedReading rest (spelled rest) → MayFollowLines lines rest → IsBalancedReading (lines ++ rest) (spelled (lines ++ rest))
read_together lines rest (inl none) first second follows = subst (λ (l : List Piece). IsBalancedReading (l ++ rest) (spelled (l ++ rest))) (sym none) second
read_together lines rest (inr (body, last, is, class, level)) first second follows =
    let fit = subst (λ (l : List Piece). AreReadBefore l []) is first.reads.fit in let holds = (AreReadBefore-second body (last ∷ []) [] fit).0 in
    let uncut : ends is_return last.text && begins is_line_feed (spelled rest ++ []) ≡ false =
    ap (λ t. ends is_return last.text && begins is_line_feed t) (append-nil (spelled rest))
    ∙ ap (λ b. b && begins is_line_feed (spelled rest)) (sym (ap (λ l. ends is_return (spelled l)) is ∙ ends-line is_return body last class holds)) ∙ follows.uncut in
    record {
      reads = record { spell = refl; fit = AreReadIn-append fielded lines rest [] (subst (λ (l : List Piece). AreReadBefore l (spelled rest ++ [])) (sym is) (read_on fielded body last [] (spelled rest ++ []) class fit uncut)) second.reads.fit (follows_lines lines rest follows.unmarked) };
      balanced = balance.both (lines ++ rest) lines rest refl first.balanced second.balanced;
      shallow = IsShallow-append 0 lines rest first.shallow (subst (λ (d : ℕ). IsShallow d rest) (sym (depth_prefix lines (inr (body, last, is, class, level)))) second.shallow);
    }

-- lines and what follows them are read, where both are read together
pub read_apart : (lines rest : List Piece) → EndsLine lines → IsBalancedReading (lines ++ rest) (spelled (lines ++ rest)) → IsBalancedReading lines (spelled lines) × IsBalancedReading rest (spelled rest)
read_apart lines rest ended reading =
    let shallow = IsShallow-parts 0 lines rest reading.shallow in
    let first = balanced_first lines rest reading.balanced (depth_prefix lines ended) in (
      ended_reading lines (spelled rest ++ []) (AreReadBefore-first lines rest [] reading.reads.fit) first shallow.0,
      record { reads = record { spell = refl; fit = AreReadBefore-second lines rest [] reading.reads.fit }; balanced = balanced_second lines rest reading.balanced first; shallow = subst (λ (d : ℕ). IsShallow d rest) (depth_prefix lines ended) shallow.1 },
    )
