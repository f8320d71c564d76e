-- A word's lane is 0: either its bit is set, or no lane is 0.
use Rattle.py_imports.proofs.WordLanes.{word_none, words_found}
use Rattle.py_imports.proofs.first_words.words64.Goals as goal

pub returns-then-holds_zero : goal.returns-then-holds_zero
returns-then-holds_zero c k less stand = words_found c.args.bytes.now c.requires k less stand

pub returns-else-holds_zero : goal.returns-else-holds_zero
returns-else-holds_zero c k less stand =
    let seen = c.holds_zero.ensures k less (word_none c.args.bytes.now c.requires k less stand) in
    absurd (cc (seen, c.if-holds_zero.false))
