-- The logical line of a written statement.
use Rattle.std.proofs.Common.{◌≡◌, ℕ, ◌+◌, Bool, true, false, List, [], ◌∷◌, ◌++◌, length, codes, slice_get, lit<, refl, sym, ap, ◌∙◌, subst, eq-eqb}
use Rattle.std.specs.List.{list_all}
use Rattle.py_lines.specs.Character.{is_space, is_digit}
use Rattle.py_lines.specs.LogicalLine.{LogicalLine, byte_len, kind_of, line_of}
use Rattle.py_lines.specs.Piece.{word, Piece}
use Rattle.py_lines.specs.declared.token.TokKind.TheVariants as kind
use Rattle.py_lines.specs.declared.token.Token.{Token}
use Rattle.py_lines.specs.declared.unit.UnitKind.TheVariants as unit_kind
use Rattle.py_imports.specs.Shape.{mark_len, begins_at, stands_first}
use Rattle.py_imports.specs.Statement.{significant}
use Rattle.isort_sort.specs.WrittenLine.{mark_pieces, mark_bytes}
use Rattle.isort_sort.proofs.WrittenStatements.Rests.{a_space}
use Rattle.isort_sort.proofs.LineLaws.Indented.{AreIndented, indented, line-mark}
use Rattle.isort_sort.proofs.LineLaws.Parts.{piece, space_pieces, spaces_low, low-spell}

-- the word that a statement begins with
abbrev pub first_word : Bool → List ℕ
first_word true = codes "from"
first_word false = codes "import"

-- the pieces of a statement
abbrev pub statement_pieces : List ℕ → Bool → List Piece → List Piece
statement_pieces indentation from phrase = space_pieces indentation ++ (piece word (first_word from) ∷ a_space ∷ phrase)

-- with a byte order mark before them, and with a line end
abbrev pub line_pieces : Bool → List ℕ → Bool → List Piece → List Piece → List Piece
line_pieces marked indentation from phrase ends = mark_pieces marked ++ (statement_pieces indentation from phrase ++ ends)

abbrev pub written_line : ℕ → ℕ → Bool → List ℕ → Bool → List Piece → List Piece → LogicalLine
written_line offset row marked indentation from phrase ends = line_of offset row (line_pieces marked indentation from phrase ends)

pub line-code : (marked : Bool) (indentation : List ℕ) (from : Bool) (phrase ends : List Piece) → kind_of (line_pieces marked indentation from phrase ends) ≡ unit_kind.Code
line-code true [] from phrase ends = refl
line-code true (c ∷ cs) from phrase ends = refl
line-code false [] from phrase ends = refl
line-code false (c ∷ cs) from phrase ends = refl

-- the pieces in the order of their text
pub statement-apart : (indentation : List ℕ) (from : Bool) (phrase ends : List Piece) → space_pieces indentation ++ (piece word (first_word from) ∷ a_space ∷ (phrase ++ ends)) ≡ statement_pieces indentation from phrase ++ ends
statement-apart [] from phrase ends = refl
statement-apart (c ∷ cs) from phrase ends = refl

pub statement-indented : (indentation : List ℕ) (from : Bool) (phrase ends : List Piece) → list_all is_space indentation ≡ true → AreIndented indentation (statement_pieces indentation from phrase ++ ends)
statement-indented indentation from phrase ends h = subst (AreIndented indentation) (statement-apart indentation from phrase ends) (by from)
  where
    by : (b : Bool) → AreIndented indentation (space_pieces indentation ++ (piece word (first_word b) ∷ a_space ∷ (phrase ++ ends)))
    by true = indented true indentation 102 (codes "rom") a_space (phrase ++ ends) h (lit< tt)
    by false = indented true indentation 105 (codes "mport") a_space (phrase ++ ends) h (lit< tt)

-- the first token that is no comment
pub record IsFirstToken (line : LogicalLine) (place row : ℕ) : Type 0 where
  pub token : Token
  pub others : List Token
  pub all : significant line.tokens ≡ token ∷ others
  pub start : token.start ≡ place
  pub kind : token.kind ≡ kind.Name

pub line-first : (offset row : ℕ) (marked : Bool) (indentation : List ℕ) (from : Bool) (phrase ends : List Piece) → IsFirstToken (written_line offset row marked indentation from phrase ends) (mark_bytes marked + byte_len indentation) row
unfolding is_digit lib.Utf8.encode
line-first offset row true [] true phrase ends = record { token = _; others = _; all = refl; start = refl; kind = refl }
line-first offset row true [] false phrase ends = record { token = _; others = _; all = refl; start = refl; kind = refl }
line-first offset row true (c ∷ cs) true phrase ends = record { token = _; others = _; all = refl; start = refl; kind = refl }
line-first offset row true (c ∷ cs) false phrase ends = record { token = _; others = _; all = refl; start = refl; kind = refl }
line-first offset row false [] true phrase ends = record { token = _; others = _; all = refl; start = refl; kind = refl }
line-first offset row false [] false phrase ends = record { token = _; others = _; all = refl; start = refl; kind = refl }
line-first offset row false (c ∷ cs) true phrase ends = record { token = _; others = _; all = refl; start = refl; kind = refl }
line-first offset row false (c ∷ cs) false phrase ends = record { token = _; others = _; all = refl; start = refl; kind = refl }

-- the first token stands directly after mark and indentation
pub line-stands : (offset row : ℕ) (marked : Bool) (indentation : List ℕ) (from : Bool) (phrase ends : List Piece) → list_all is_space indentation ≡ true → stands_first (written_line offset row marked indentation from phrase ends) ≡ true
line-stands offset row marked indentation from phrase ends h =
    let l = written_line offset row marked indentation from phrase ends in
    let is = statement-indented indentation from phrase ends h in
    let first = line-first offset row marked indentation from phrase ends in
    let size : byte_len indentation ≡ length indentation = ap length (low-spell indentation (spaces_low indentation h)) in
    let place : mark_len l + l.indent ≡ mark_bytes marked + byte_len indentation = λ i. line-mark offset row marked indentation (statement_pieces indentation from phrase ++ ends) is i + (is.indent marked ∙ sym size) i in
    ap (λ ts. begins_at (mark_len l + l.indent) (slice_get ts 0)) first.all
    ∙ eq-eqb first.token.start (mark_len l + l.indent) (first.start ∙ sym place)
