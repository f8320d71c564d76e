use Rattle.py_lines.proofs.Prelude.{[], IfOk-weaker}
use Rattle.py_lines.proofs.Lexings.Existence.{first_none}
use Rattle.py_lines.proofs.scanner.Scanner.new.Goals as goal

pub returns-clause-scans : goal.returns-clause-scans
returns-clause-scans c = IfOk-weaker c.at.result _ _ (λ s scans text. scans text [] (first_none text)) c.at.ensures.scans
