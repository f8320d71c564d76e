use Rattle.std.proofs.Common.{◌∙◌, sym, inl, inr, refl}
use denote.Enum.Bare.{sameb}
use Rattle.py_lines.specs.Lines.{line_in}
use Rattle.py_imports.specs.contracts.line_shape.Shape as shape_type
use Rattle.py_imports.specs.declared.line_shape.Shape.TheVariants as shape
use Rattle.isort_sort.proofs.Rows.Roles.{unsortable}
use Rattle.isort_sort.proofs.row.role_of_code.Goals as goal
use Rattle.isort_sort.proofs.row.role_of_code.Goals.{else-not-off-via-then-not-off+else-eq, else-not-off-via-else-not-off}

pub returns-else-not-off : goal.returns-else-not-off
returns-else-not-off c = (
  c.shape_of_binding-shape.result,
  c.shape_of_binding-shape.ensures,
  c.blank_lines_before.ensures,
  inl (
    c.requires.code,
    elim c.else-not-off.branch [
      | else-not-off-via-then-not-off+else-eq w ↦
          inr (unsortable (line_in c.args.unit.now) c.shape_of_binding-shape.result (λ s. sameb shape_type.the_type s shape.Sortable) refl c.shape_of_binding-shape.ensures (sym w.eq.ensures ∙ w.if-eq.false))
      | else-not-off-via-else-not-off w ↦ inl w.if-not-off.false
    ],
  ),
)
