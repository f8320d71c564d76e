use Rattle.py_lines.proofs.Prelude.{◌≡◌, List, ℕ, [], refl, sym, subst, IfOk-weaker}
use Rattle.py_lines.specs.Reader.{GoesOnAt, HasGiven, Reader, at_start}
use Rattle.py_lines.proofs.Lexings.Existence.{first_none}
use Rattle.py_lines.proofs.lines.Lines.new.Goals as goal

-- the text's start is after none of its lines
none_given : (text : List ℕ) → HasGiven (at_start text) []
none_given text = record { first = first_none text; no_fault = refl }

starts : (text : List ℕ) (reader : Reader) → GoesOnAt text 0 1 reader → reader ≡ at_start text
starts text reader goes_on = goes_on [] (none_given text)

pub returns-clause-start : goal.returns-clause-start
returns-clause-start c = IfOk-weaker c.at.result (GoesOnAt c.args.text.now 0 1) (λ l. l ≡ at_start c.args.text.now) (starts c.args.text.now) c.at.ensures.goes_on

pub returns-clause-given : goal.returns-clause-given
returns-clause-given c = IfOk-weaker c.at.result (GoesOnAt c.args.text.now 0 1) (λ l. HasGiven l [])
    (λ l goes_on. subst (λ r. HasGiven r []) (sym (starts c.args.text.now l goes_on)) (none_given c.args.text.now)) c.at.ensures.goes_on
