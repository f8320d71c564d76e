-- What was seen so far, with what the rest of the imports bring, is what was seen before with what all bring.
use Rattle.std.proofs.Common.{◌≡◌, map, string_bytes}
use Rattle.std.specs.Vec.Iter.{into_iter_items}
use Rattle.py_imports.specs.BindingValue.{binding_value}
use Rattle.isort_settings.specs.Values.{values}
use Rattle.isort_sort.specs.Private.Gathered.{brings, found, seen_after}
use Rattle.isort_sort.specs.Line.{imported_of}
use Rattle.isort_sort.specs.Statement.{Statement}
use Rattle.isort_sort.proofs.group.gather_member.Given as goal

abbrev pub invariant-loop-binding : goal.invariant-loop-binding
invariant-loop-binding l =
    (s : Statement) → seen_after s (found s l.statements.entries) (brings (values l.settings) (map (λ b. imported_of (binding_value b)) (into_iter_items l.binding-iterator)) (map string_bytes l.comments.items) (map string_bytes l.above.items))
    ≡ seen_after s (found s l.fn.statements.entries) (brings (values l.settings) (map (λ b. imported_of (binding_value b)) l.fn.member.bindings.items) (map string_bytes l.fn.member.comments.items) (map string_bytes l.fn.member.above.items))
