use Rattle.py_lines.proofs.Prelude.{◌≡◌, ◌==◌, ◌∷◌, arith, drop, length, length-append, refl, sym, subst, ap, ◌∙◌, byte, encode_utf8_all, specification}
use Rattle.py_lines.specs.Private.FieldMachine.{FieldMode, closes, refused, text_place}
use Rattle.py_lines.specs.Private.Scan.{GrowsInText, QuotesInText}
use Rattle.py_lines.proofs.FieldScans.Ends.{specification_place}
use Rattle.py_lines.proofs.FieldScans.Openings.{ends_over, opens_in}
use Rattle.py_lines.proofs.FieldScans.TextItems.{breaks_there, closes_over, ends_specification_there, grows_over, waits_over}
use Rattle.py_lines.proofs.Text.FirstCharacters.{begins_some}
use Rattle.py_lines.proofs.scan.Scan.take_text.Goals as goal

pub returns-in-Grows : goal.returns-in-Grows
returns-in-Grows c = λ t follow.
    let does = rw c.in-Grows.is at c.requires.does in
    grows_over c.args.self.now t follow c.requires.text c.args.bytes.now c.in-Grows.mode c.in-Grows.len _
    (subst (λ (m : FieldMode). GrowsInText m c.args.bytes.now c.in-Grows.mode c.in-Grows.len) follow.mode does) refl

pub returns-in-Closes : goal.returns-in-Closes
returns-in-Closes c = λ t follow.
    let does = rw c.in-Closes.is at c.requires.does in
    closes_over c.args.self.now t follow c.requires.text c.args.bytes.now c.in-Closes.len c.pass.new.self
    (subst (λ (m : FieldMode). QuotesInText m c.args.bytes.now c.in-Closes.len closes) follow.mode does) c.pass.ensures

pub returns-then-not-open : goal.returns-then-not-open
returns-then-not-open c = λ t follow.
    let does = rw c.in-OpensField.is at c.requires.does in let (full, same) = rw c.if-not-open.true at c.open.ensures in
    rw (c.wrong.ensures, same) ((opens_in c.args.self.now t follow c.in-OpensField.host c.in-OpensField.region c.args.bytes.now c.args.self.now does).1 full, refl)

pub returns-in-OpensField : goal.returns-in-OpensField
returns-in-OpensField c = λ t follow.
    let does = rw c.in-OpensField.is at c.requires.does in let (few, more) = rw c.if-not-open.false at c.open.ensures in
    (opens_in c.args.self.now t follow c.in-OpensField.host c.in-OpensField.region c.args.bytes.now _ does).0 few
    (rw more at c.pass-in-OpensField.ensures)

pub returns-in-EndsField : goal.returns-in-EndsField
returns-in-EndsField c = λ t follow.
    let does = rw c.in-EndsField.is at c.requires.does in
    ends_over c.args.self.now t c.args.bytes.now c.end_field.result c.end_field.new.self follow c.requires.text does.0 does.1 c.end_field.ensures

pub returns-in-Waits : goal.returns-in-Waits
returns-in-Waits c = λ t follow. let does = rw c.in-Waits.is at c.requires.does in waits_over c.args.self.now t follow c.requires.text c.args.bytes.now does

pub returns-in-BreaksString : goal.returns-in-BreaksString
returns-in-BreaksString c = λ t follow.
    let does = rw c.in-BreaksString.is at c.requires.does in
    (breaks_there c.args.self.now t follow c.requires.text c.args.bytes.now _ (rw follow.mode at does) refl, refl)

pub returns-in-EndsSpecification : goal.returns-in-EndsSpecification
returns-in-EndsSpecification c = λ t follow.
    let does = rw c.in-EndsSpecification.is at c.requires.does in
    let there : text_place t.mode ≡ specification = ap text_place (sym follow.mode) ∙ does.2 in
    let place = specification_place c.args.self.now t c.last_place.result follow there c.last_place.ensures in (
      ends_specification_there c.args.self.now t follow c.requires.text c.args.bytes.now does.0 c.last_place.result _
          (subst (λ (m : FieldMode). QuotesInText m c.args.bytes.now does.0 refused) follow.mode does.1) there place refl,
      refl,
    )

pub overflow_add-self : goal.overflow_add-self
overflow_add-self c =
    let does = rw c.in-Grows.is at c.requires.does in
    omega (arith, does.size, ap length does.spell, length-append (encode_utf8_all does.run) (drop c.in-Grows.len c.args.bytes.now), c.requires.bytes)

pub pass-requires : goal.pass-requires
pass-requires c =
    let does = rw c.in-Closes.is at c.requires.does in
    omega (arith, does.size, ap length does.spell, length-append does.run (does.quote ∷ drop c.in-Closes.len c.args.bytes.now), c.requires.bytes)

pub pass-requires-in-OpensField : goal.pass-requires-in-OpensField
pass-requires-in-OpensField c =
    let does = rw c.in-OpensField.is at c.requires.does in
    omega (arith, begins_some (λ c. c == byte "{") c.args.bytes.now does.brace, c.requires.bytes)

pub end_field-requires : goal.end_field-requires
end_field-requires c =
    let does = rw c.in-EndsField.is at c.requires.does in
    omega (arith, begins_some (λ c. c == byte "}") c.args.bytes.now does.1, c.requires.bytes)
