use Rattle.py_lines.proofs.Prelude.{◌+◌, ◌≤◌, ap, arith, length, length-drop, rules, take_rest, is_backslash, nat_tests}
use Rattle.py_lines.proofs.FieldScans.LineEnds.{half_join_waits, join_takes, join_waits, join_wrong, none_told}
use Rattle.py_lines.proofs.Text.FirstCharacters.{begins_some}
use Rattle.py_lines.proofs.scan.Scan.take_join.Goals as goal
use Rattle.py_lines.proofs.scan.Scan.take_join.Goals.{In-Some}

pub returns-in-Some : goal.returns-in-Some
returns-in-Some c = λ t follow. join_takes c.args.self.now t c.args.bytes.now follow c.requires.backslash c.requires.after c.in-Some.len c.in-Some.ensures c.pass.new.self c.pass.ensures

pub returns-in-Some-first_character : goal.returns-in-Some-first_character
returns-in-Some-first_character c = λ t follow.
    rw c.wrong.ensures (join_wrong c.args.self.now t c.args.bytes.now follow c.requires.backslash c.requires.after c.in-Some-first_character.field-0 c.in_default.ensures c.in-Some-first_character.ensures (search rules))

pub returns-in-None : goal.returns-in-None
returns-in-None c = λ t follow. join_waits c.args.self.now t c.args.bytes.now follow c.requires.backslash c.requires.after (none_told c.first_character.result _ c.first_character.ensures (search rules))

pub returns-in-None-2 : goal.returns-in-None-2
returns-in-None-2 c = λ t follow. half_join_waits c.args.self.now t c.args.bytes.now follow c.requires.backslash c.requires.after _ c.in_default.ensures c.in-None.ensures (omega arith)

pub slice_bounds-first_character-start : goal.slice_bounds-first_character-start
slice_bounds-first_character-start c = begins_some is_backslash c.args.bytes.now c.requires.backslash

-- the line end after the backslash
fits : (c : In-Some) → 1 + c.in-Some.len ≤ length c.args.bytes.now
fits c =
    let bytes = c.args.bytes.now in
    omega (arith, c.in-Some.ensures.within, begins_some is_backslash bytes c.requires.backslash, length-drop 1 bytes, ap length (take_rest bytes 1))

pub overflow_add-result : goal.overflow_add-result
overflow_add-result c = omega (arith, fits (goal.at.overflow_add-result c).In-Some, c.requires.bytes)

pub slice_bounds-first_character-count : goal.slice_bounds-first_character-count
slice_bounds-first_character-count c = grind (arith, nat_tests)
