-- A comment above a block at the start of a text, where a byte order mark may stand before it.
use Rattle.std.proofs.Common.{◌≡◌, ℕ, ◌<◌, Bool, true, false, List, [], ◌∷◌, ◌++◌, drop, refl, sym, ap, ◌∙◌, subst, arith}
use Rattle.std.specs.Prelude.{encode_utf8_all, nat_lt}
use Rattle.std.specs.List.{list_all}
use Rattle.std.proofs.lemmas.Bool.Decides.{nat_tests}
use Rattle.py_lines.specs.Character.{is_space, is_hash}
use Rattle.py_lines.specs.LogicalLine.{line_of, end_len_of}
use Rattle.py_lines.specs.Piece.{comment, line_end, Piece, spelled}
use Rattle.py_imports.specs.Shape.{mark_len}
use Rattle.isort_sort.specs.Row.{IsRow}
use Rattle.isort_sort.specs.WrittenLine.{mark_pieces, mark_bytes, end_pieces}
use Rattle.isort_sort.proofs.LineLaws.Indented.{AreIndented, indented, after_mark, line-mark, line-indentation}
use Rattle.isort_sort.proofs.LineLaws.Parts.{piece, space_pieces}
use Rattle.isort_sort.proofs.WrittenLines.UnitRows.{TokenLaws}
use Rattle.isort_sort.proofs.WrittenLines.LineUnits.{IsAbove, comment_unit, comment_row, comment_role}

hash_low : (c : ℕ) → is_hash c ≡ true → c < 128
unfolding is_hash
hash_low c h = grind (arith, nat_tests)

comment_indented : (indentation text end : List ℕ) (above : IsAbove text) → list_all is_space indentation ≡ true → AreIndented indentation (comment_unit indentation above.characters end)
comment_indented indentation text end above spaces =
    let is = above.is in
    subst (λ (t : List ℕ). AreIndented indentation (space_pieces indentation ++ (piece comment t ∷ end_pieces true end))) (sym is.2)
    (indented false indentation is.0 is.1 (piece line_end end) [] spaces (hash_low is.0 is.3))

pub comment_mark : (marked : Bool) (indentation text end : List ℕ) (above : IsAbove text) → list_all is_space indentation ≡ true → mark_len (line_of 0 1 (mark_pieces marked ++ comment_unit indentation above.characters end)) ≡ mark_bytes marked
comment_mark marked indentation text end above spaces = line-mark 0 1 marked indentation (comment_unit indentation above.characters end) (comment_indented indentation text end above spaces)

same_end : (marked : Bool) (indentation characters end : List ℕ) → end_len_of (comment_unit indentation characters end) ≡ end_len_of (mark_pieces marked ++ comment_unit indentation characters end)
same_end true [] characters end = refl
same_end true (c ∷ cs) characters end = refl
same_end false [] characters end = refl
same_end false (c ∷ cs) characters end = refl

pub comment_first : TokenLaws → (marked : Bool) (indentation text end : List ℕ) (above : IsAbove text) → list_all is_space indentation ≡ true → IsRow [] (line_of 0 1 (mark_pieces marked ++ comment_unit indentation above.characters end)) (comment_row indentation text end above)
comment_first laws marked indentation text end above spaces =
    let u : List Piece = comment_unit indentation above.characters end in
    let is = comment_indented indentation text end above spaces in
    record {
      role = comment_role laws false marked indentation text end above;
      text = after_mark marked u ∙ ap (λ (n : ℕ). drop n (encode_utf8_all (spelled (mark_pieces marked ++ u)))) (sym (comment_mark marked indentation text end above spaces));
      indentation = line-indentation 0 1 false indentation u is ∙ sym (line-indentation 0 1 marked indentation u is);
      ended = ap (nat_lt 0) (same_end marked indentation above.characters end);
    }
