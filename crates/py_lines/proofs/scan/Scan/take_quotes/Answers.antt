use Rattle.py_lines.proofs.Prelude.{arith}
use Rattle.py_lines.proofs.PassedPieces.FirstBytes.{quotes_fit}
use Rattle.py_lines.proofs.FieldScans.CodeItems.{first_quote, quotes_empty, quotes_open, quotes_wait, string_begun}
use Rattle.py_lines.proofs.scan.Scan.take_quotes.Goals as goal

pub returns-in_default : goal.returns-in_default
returns-in_default c = λ t follow. quotes_wait c.args.self.now t c.args.bytes.now follow c.requires.quote c.requires.after c.in_default.ensures

pub returns-then-quotes-eq2 : goal.returns-then-quotes-eq2
returns-then-quotes-eq2 c = λ t follow. rw c.pass.ensures (quotes_empty c.args.self.now t c.args.bytes.now follow c.requires.quote c.requires.after c.in-Some.quotes c.in-Some.ensures c.if-quotes-eq2.true)

pub returns : goal.returns
returns c = λ t follow.
    let begun = string_begun c.args.self.now t _ follow (first_quote c.args.bytes.now c.requires.quote) c.requires.after in
    rw (c.of_string-self.ensures, c.string_start-start.ensures)
    (quotes_open c.args.self.now t c.args.bytes.now follow c.requires.quote c.requires.after c.in-Some.quotes _ _ begun c.in-Some.ensures c.if-quotes-eq2.false)

pub bounds-bytes-0 : goal.bounds-bytes-0
bounds-bytes-0 c = let fit = quotes_fit c.args.bytes.now c.in-Some.quotes c.in-Some.ensures in omega (arith, fit.0, fit.1)

pub overflow_add-self : goal.overflow_add-self
overflow_add-self c = omega (arith, (quotes_fit c.args.bytes.now c.in-Some.quotes c.in-Some.ensures).1, c.requires.bytes)
