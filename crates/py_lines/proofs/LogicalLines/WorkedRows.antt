-- Texts by their pieces, and the logical lines that these are cut into: rows worked out by hand.
use Rattle.py_lines.proofs.Prelude.{◌≡◌, ℕ, List, [], ◌∷◌, map, refl, codes, is_opening, is_closing, Token, piece}
use Rattle.py_lines.specs.Character.{is_digit, is_line_feed, is_return}
use Rattle.py_lines.specs.Piece.{mark, space, word, string, operator, comment, join, line_end, Piece}
use Rattle.py_lines.specs.LogicalLine.{token, LogicalLine, lines_of}
use Rattle.py_lines.specs.declared.token.TokKind.TheVariants.{Name, Number, Str, Op, Remark}
use Rattle.py_lines.specs.declared.unit.UnitKind.{UnitKind}
use Rattle.py_lines.specs.declared.unit.UnitKind.TheVariants as kinds

abbrev unit : UnitKind → List ℕ → List Token → ℕ → ℕ → ℕ → ℕ → LogicalLine
unit kind text tokens offset line indent end_len = record { kind = kind; text = text; tokens = tokens; offset = offset; line = line; indent = indent; end_len = end_len }

-- pieces, and the logical lines that they are cut into
record Row : Type 0 where
  pieces : List Piece
  lines : List LogicalLine

abbrev row : List Piece → List LogicalLine → Row
row pieces lines = record { pieces = pieces; lines = lines }

abbrev AreCut : List Row → Type 0
AreCut rows = map (λ r. lines_of r.pieces) rows ≡ map (λ r. r.lines) rows

cut_so : AreCut (
    row [] [] ∷
    row (piece mark (65279 ∷ []) ∷ []) (unit kinds.Blank (239 ∷ 187 ∷ 191 ∷ []) ([]) 0 1 0 0 ∷ []) ∷
    row (piece mark (65279 ∷ []) ∷ piece space (codes " \t") ∷ piece word (codes "x") ∷ []) (unit kinds.Code (239 ∷ 187 ∷ 191 ∷ 32 ∷ 9 ∷ 120 ∷ []) (token Name 5 6 1 ∷ []) 0 1 2 0 ∷ []) ∷
    row (piece word (codes "a") ∷ piece space (codes " ") ∷ piece operator (codes "=") ∷ piece space (codes " ") ∷ piece operator (codes "[") ∷ piece line_end (codes "\n") ∷ piece word (codes "1") ∷ piece operator (codes "]") ∷ piece line_end (codes "\n") ∷ piece line_end (codes "\n") ∷ piece comment (codes "# c") ∷ piece line_end (codes "\n") ∷ []) (unit kinds.Code (codes "a = [\n1]\n") (token Name 0 1 1 ∷ token (Op 61) 2 3 1 ∷ token (Op 91) 4 5 1 ∷ token Number 6 7 2 ∷ token (Op 93) 7 8 2 ∷ []) 0 1 0 1 ∷ unit kinds.Blank (codes "\n") ([]) 9 3 0 1 ∷ unit kinds.Comment (codes "# c\n") (token Remark 0 3 4 ∷ []) 10 4 0 1 ∷ []) ∷
    row (piece string (codes "'''a\r\nb'''") ∷ piece line_end (codes "\r") ∷ piece word (codes "x") ∷ []) (unit kinds.Code (codes "'''a\r\nb'''\r") (token Str 0 10 1 ∷ []) 0 1 0 1 ∷ unit kinds.Code (codes "x") (token Name 0 1 3 ∷ []) 11 3 0 0 ∷ []) ∷
    row (piece string (codes "rb'x'") ∷ piece space (codes " ") ∷ piece string (codes "u\"y\"") ∷ []) (unit kinds.Code (codes "rb'x' u\"y\"") (token Str 0 5 1 ∷ token Str 6 10 1 ∷ []) 0 1 0 0 ∷ []) ∷
    row (piece word (codes "ab") ∷ piece string (codes "'x'") ∷ []) (unit kinds.Code (codes "ab'x'") (token Name 0 2 1 ∷ token Str 2 5 1 ∷ []) 0 1 0 0 ∷ []) ∷
    row (piece word (codes "1if") ∷ piece space (codes " ") ∷ piece word (codes "x") ∷ []) (unit kinds.Code (codes "1if x") (token Number 0 3 1 ∷ token Name 4 5 1 ∷ []) 0 1 0 0 ∷ []) ∷
    row (piece join (codes "\\\n") ∷ []) (unit kinds.Code (codes "\\\n") ([]) 0 1 0 0 ∷ []) ∷
    row (piece word (codes "x") ∷ piece space (codes " ") ∷ piece operator (codes "=") ∷ piece space (codes " ") ∷ piece word (codes "1") ∷ piece space (codes " ") ∷ piece operator (codes "+") ∷ piece space (codes " ") ∷ piece join (codes "\\\r\n") ∷ piece space (codes "  ") ∷ piece word (codes "2") ∷ piece line_end (codes "\r\n") ∷ piece word (codes "y") ∷ []) (unit kinds.Code (codes "x = 1 + \\\r\n  2\r\n") (token Name 0 1 1 ∷ token (Op 61) 2 3 1 ∷ token Number 4 5 1 ∷ token (Op 43) 6 7 1 ∷ token Number 13 14 2 ∷ []) 0 1 0 2 ∷ unit kinds.Code (codes "y") (token Name 0 1 3 ∷ []) 16 3 0 0 ∷ []) ∷
    row (piece word (233 ∷ []) ∷ piece line_end (codes "\r\n") ∷ piece word (codes "y") ∷ []) (unit kinds.Code (195 ∷ 169 ∷ 13 ∷ 10 ∷ []) (token Name 0 2 1 ∷ []) 0 1 0 2 ∷ unit kinds.Code (codes "y") (token Name 0 1 2 ∷ []) 4 2 0 0 ∷ []) ∷
    row (piece space (12 ∷ []) ∷ piece word (codes "x") ∷ []) (unit kinds.Code (12 ∷ 120 ∷ []) (token Name 1 2 1 ∷ []) 0 1 1 0 ∷ []) ∷
    row (piece line_end (codes "\r") ∷ piece line_end (codes "\r\n") ∷ piece line_end (codes "\n") ∷ piece word (codes "x") ∷ []) (unit kinds.Blank (codes "\r") ([]) 0 1 0 1 ∷ unit kinds.Blank (codes "\r\n") ([]) 1 2 0 2 ∷ unit kinds.Blank (codes "\n") ([]) 3 3 0 1 ∷ unit kinds.Code (codes "x") (token Name 0 1 4 ∷ []) 4 4 0 0 ∷ []) ∷
    [])
unfolding is_digit is_line_feed is_return is_opening is_closing lib.Utf8.encode
cut_so = refl
