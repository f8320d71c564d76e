-- Which lines can be sorted.
use Rattle.std.proofs.Common.{◌≡◌, Bool, true, false, ◌&&◌, List, ◌∙◌, refl, ap, sym}
use Rattle.py_lines.specs.LogicalLine.{LogicalLine}
use Rattle.py_imports.specs.Declaration.{is_code}
use Rattle.py_imports.specs.Grammar.{Terminal, begins_import, Imported, IsImport, import_statement, from_statement}
use Rattle.py_imports.specs.Shape.{terminals_of, begins_so, IsSortable, HasShape}
use Rattle.py_imports.specs.declared.line_shape.Shape.{Shape}
use Rattle.py_imports.specs.declared.line_shape.Shape.TheVariants as shape

pub import_begins : (ts : List Terminal) (is : List Imported) → IsImport ts is → begins_import ts ≡ true
import_begins ts is (import_statement rest items h) = refl
import_begins ts is (from_statement all from rest items e h k) = ap begins_import e

pub sortable_begins : (line : LogicalLine) → IsSortable line → begins_so line ≡ true
sortable_begins line h = ap (λ k. is_code k && begins_import (terminals_of line)) h.code ∙ import_begins (terminals_of line) h.imported h.is

-- a line of another shape can't be sorted
pub unsortable : (line : LogicalLine) (s : Shape) (same : Shape → Bool) → same shape.Sortable ≡ true → HasShape line s → same s ≡ false → ¬ (IsSortable line)
unsortable line shape.Sortable same told h apart = absurd (cc)
unsortable line shape.Pinned same told h apart = h.1
unsortable line shape.Other same told h apart = λ is. let both : true ≡ false = sym (sortable_begins line is) ∙ h in absurd (cc)
