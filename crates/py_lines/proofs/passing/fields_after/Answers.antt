use Rattle.std.specs.Bool.{then_some}
use Rattle.py_lines.proofs.Prelude.{◌≡◌, Bool, Some, arith, false, true, refl, subst, sym, Spelling}
use Rattle.py_lines.specs.Private.Machine.{begins_string, is_field_spelling}
use Rattle.py_lines.specs.Private.Passing.{TellsFields}
use Rattle.py_lines.proofs.PassedPieces.WordsBefore.{no_word_there, word_there}
use Rattle.py_lines.proofs.passing.fields_after.Goals as goal

pub returns-then-start-plain : goal.returns-then-start-plain
returns-then-start-plain c =
    subst (λ o. TellsFields o (Some false)) (sym (no_word_there _ _ c.word_start-start.ensures (omega (arith, c.if-start-plain.true)))) refl

tells : (s : Spelling) (is has : Bool) → is ≡ begins_string s → has ≡ is_field_spelling s → TellsFields (Some s) (then_some is has)
tells s true has is same = (sym is, same)
tells s false has is same = tt

pub returns : goal.returns
returns c =
    let start = c.word_start-start.ensures in
    rw (word_there _ _ start (omega (arith, start.within, c.if-start-plain.false)), sym c.of_word-word.ensures, c.then_some.ensures)
    (tells c.of_word-word.result _ _ c.is_prefix.ensures c.has_fields.ensures)
