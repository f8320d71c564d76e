-- The laws of the crates below that the proof takes.
use Rattle.std.proofs.Common.{◌≡◌, ℕ, true, false, List, ◌∷◌, ◌++◌, ◌⊎◌, map, codes, nat_lt}
use Rattle.std.specs.List.{list_any}
use Rattle.py_lines.specs.LogicalLine.{LogicalLine, line_of}
use Rattle.py_lines.specs.Piece.{Piece}
use Rattle.py_lines.specs.Words.{word_in, words_of}
use Rattle.py_lines.specs.declared.token.Token.{Token}
use Rattle.py_imports.specs.ActionComment.{says}
use Rattle.py_imports.specs.Binds.{Binds}
use Rattle.py_imports.specs.BindingValue.{binding_at}
use Rattle.py_imports.specs.Grammar.{Imported, IsImport, begins_import}
use Rattle.py_imports.specs.Names.{terminals_in}
use Rattle.py_imports.specs.Shape.{terminals_of}
use Rattle.py_imports.specs.Statement.{is_divider, significant}
use Rattle.py_imports.specs.declared.action_comment.ActionComment.{ActionComment}
use Rattle.isort_sort.proofs.LineLaws.Parts.{LettersAreWords}

pub record Laws : Type 0 where
  pub letters : LettersAreWords
  pub tokens : (offset line : ℕ) (pieces : List Piece) → map (word_in (line_of offset line pieces).text) (line_of offset line pieces).tokens ≡ words_of pieces
  pub terminals : (offset line : ℕ) (pieces : List Piece) → terminals_of (line_of offset line pieces) ≡ terminals_in (words_of pieces)
  pub binds : (line : LogicalLine) (token : Token) (tokens : List Token) (is : List Imported) → significant line.tokens ≡ token ∷ tokens → list_any (λ t. is_divider t.kind) (token ∷ tokens) ≡ false → begins_import (terminals_of line) ≡ true → IsImport (terminals_of line) is → Binds line (map (binding_at token.line (nat_lt 0 line.indent)) is)
  pub joined : (a : ActionComment) (text rest : List ℕ) → says a (text ++ (codes "; " ++ rest)) ≡ true → (says a text ≡ true) ⊎ (says a rest ≡ true)
