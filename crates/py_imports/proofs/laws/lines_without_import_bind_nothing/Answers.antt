-- The law is two lemmas of proofs/QuietLines and one of proofs/PassedLines.
use Rattle.py_imports.proofs.PassedLines.{passed_without}
use Rattle.py_imports.proofs.QuietLines.{quiet_lines}
use Rattle.py_imports.proofs.laws.lines_without_import_bind_nothing.Goals as goal

pub returns : goal.returns
returns c =
    let words = c.tokens_are_words.ensures.words in
    let breaks = c.words_hold_no_line_end.ensures in
    record {
      binds = λ lines lie. (quiet_lines words breaks lines lie).binds;
      begins = λ lines lie. (quiet_lines words breaks lines lie).begins;
      passed = passed_without;
    }
