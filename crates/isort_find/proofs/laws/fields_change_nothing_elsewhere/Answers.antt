-- What is found stands on the lexing alone.
use Rattle.isort_find.proofs.laws.fields_change_nothing_elsewhere.Goals as goal

pub returns : goal.returns
returns c =
    let lexing = c.fields_change_nothing_elsewhere.ensures in
    record {
      found_with = λ text options values end free is. record { lines = is.lines; lexical = is.lexical; lexed = lexing.lexed_with text is.lines is.lexical free is.lexed; found = is.found };
      found_without = λ text options values end free is. record { lines = is.lines; lexical = is.lexical; lexed = lexing.lexed_without text is.lines is.lexical free is.lexed; found = is.found };
    }
