-- The fault is that of the token at the place.
use Rattle.std.proofs.Common.{get_or, arith}
use Rattle.std.proofs.lemmas.Option.{slice_get-get_or}
use Rattle.py_lines.specs.declared.token.Token.{Token}
use Rattle.py_lines.specs.declared.token.TokKind.TheVariants as kind
use Rattle.py_imports.proofs.bindings.fault_at.Goals as goal

pub overflow_add-result : goal.overflow_add-result
overflow_add-result c =
    let none : Token = record { kind = kind.Name; start = 0; stop = 0; line = 0 } in
    let unit = c.args.unit.now in
    let lies = unit.tokens_lie_in c.args.place (get_or unit.tokens.now c.args.place none) (slice_get-get_or unit.tokens.now c.args.place none c.requires) in
    omega (arith, lies.ordered, lies.within, unit.places_fit)
