use Rattle.py_lines.proofs.Prelude.{◌≡◌, List, ◌∷◌, arith, refl, sym, ◌∙◌, byte, Frame, OpenField}
use Rattle.py_lines.specs.declared.frames.Frame.TheVariants as frame
use Rattle.py_lines.proofs.FieldScans.Operators.{bracket_opens, bracket_too_deep, closes_bracket, closes_none, field_ends, field_specifies, innermost_is, sign_taken}
use Rattle.py_lines.proofs.scan.Scan.take_operator.Goals as goal
use Rattle.py_lines.proofs.scan.Scan.take_operator.Goals.{Joined-innermost, in-Some-Field+else-c-eq125+else-c-eq58, in-Some+in-Bracket-1, in-None-1, then-is_opening+else-not-open, else-is_opening+else-is_closing, else-is_closing-via-then-is_closing+else-not-close, else-is_closing-via-else-is_closing}

pub returns-then-c-eq125 : goal.returns-then-c-eq125
returns-then-c-eq125 c = λ t follow is.
    let (others, top) = rw c.in-Some-Field.field-0-is at c.in-Some-Field.ensures in
    field_ends c.args.self.now c.args.c t follow is c.requires.operator c.in-Some-Field.field others top c.if-c-eq125.true c.end_field.result c.end_field.new.self (c.end_field.ensures c.in-Some-Field.field others top)

pub returns-then-c-eq58 : goal.returns-then-c-eq58
returns-then-c-eq58 c = λ t follow is.
    let (others, top) = rw c.in-Some-Field.field-0-is at c.in-Some-Field.ensures in
    field_specifies c.args.self.now c.args.c t follow is c.requires.operator c.in-Some-Field.field others top c.if-c-eq125.false c.if-c-eq58.true _ refl

apart : (c : Joined-innermost) → (field : OpenField) (others : List Frame) → c.args.self.now.frames ≡ frame.Field field ∷ others
    → (c.args.c ≡ byte "}" → ⊥) × (c.args.c ≡ byte ":" → ⊥)
apart c field others top =
    let is = innermost_is c.innermost.result c.args.self.now.frames others (frame.Field field) c.innermost.ensures top in
    elim c.match-innermost.branch [
      | in-Some-Field+else-c-eq125+else-c-eq58 w ↦ (w.if-c-eq125.false, w.if-c-eq58.false)
      | in-Some+in-Bracket-1 w ↦ absurd (grind (arith, is))
      | in-None-1 w ↦ absurd (grind (arith, is))
    ]

pub returns-then-not-open : goal.returns-then-not-open
returns-then-not-open c = λ t follow is. let (full, same) = rw c.if-not-open.true at c.open.ensures in
    rw (c.wrong.ensures, same) (bracket_too_deep c.args.self.now c.args.c t follow is c.requires.operator (sym c.is_opening.ensures ∙ c.if-is_opening.true) full)

pub returns-then-not-close : goal.returns-then-not-close
returns-then-not-close c = λ t follow is. let (wrong, same) = rw c.if-not-close.true at c.close.ensures in
    rw (c.wrong-then-not-close.ensures, same)
    (closes_none c.args.self.now c.args.c t follow is c.requires.operator (apart (goal.at.returns-then-not-close c).Joined-innermost) (sym c.is_closing.ensures ∙ c.if-is_closing.true) wrong)

pub returns : goal.returns
returns c = λ t follow is. let old = c.args.self.now in
    elim c.if-is_opening.branch [
      | then-is_opening+else-not-open w ↦
          bracket_opens old c.args.c t follow is c.requires.operator (sym c.is_opening.ensures ∙ w.if-is_opening.true) w.open.new.self (rw w.if-not-open.false at w.open.ensures) c.pass.new.self
          (rw w.self-is at c.pass.ensures)
      | else-is_opening+else-is_closing w ↦
          elim w.else-is_closing.branch [
            | else-is_closing-via-then-is_closing+else-not-close v ↦
                closes_bracket old c.args.c t follow is c.requires.operator (sym w.is_closing.ensures ∙ v.if-is_closing.true) v.close.new.self (rw v.if-not-close.false at v.close.ensures)
                c.pass.new.self (rw (w.self-is ∙ v.self-is) at c.pass.ensures)
            | else-is_closing-via-else-is_closing v ↦
                sign_taken old c.args.c t follow is c.requires.operator (apart (goal.at.returns c).Joined-innermost) (sym c.is_opening.ensures ∙ w.if-is_opening.false)
                (sym w.is_closing.ensures ∙ v.if-is_closing.false) c.pass.new.self (rw (w.self-is ∙ v.self-is) at c.pass.ensures)
          ]
    ]

pub pass-requires : goal.pass-requires
pass-requires c = grind arith
