use Rattle.py_lines.proofs.Text.FirstCharacters.{first_size}
use Rattle.py_lines.proofs.Prelude.{arith, sym, ◌∙◌, refl, ⊎_elim, is_backslash, is_quote}
use Rattle.py_lines.specs.declared.class.Class.{Class}
use Rattle.py_lines.specs.declared.class.Class.TheVariants as class
use Rattle.py_lines.proofs.FieldScans.CodeItems.{begins_so, break_waits, comment_begins, line_end_comes, nothing_wrong, operator_comes, slash_low, some_first, space_begins, word_begins}
use Rattle.py_lines.proofs.LineScan.AsciiRuns.{quote_ascii}
use Rattle.py_lines.proofs.LineScan.ClassStarts.{begins_as, operator_as}
use Rattle.py_lines.proofs.scan.Scan.take_piece.Goals as goal
use Rattle.py_lines.proofs.scan.Scan.take_piece.Goals.{in-Wide+else-is_xid_start, in-Other-1, in-Word, in-Wide, in-Space, in-Hash}

pub take_operator-requires-clause-operator : goal.take_operator-requires-clause-operator
take_operator-requires-clause-operator c = operator_as c.of.result c.args.bytes.now c.args.c c.requires.first c.of.ensures c.in-Operator.is

pub take_quotes-requires : goal.take_quotes-requires
take_quotes-requires c =
    let is = begins_as class.Quote c.of.result c.args.bytes.now c.args.c c.requires.first c.of.ensures c.in-Quote.is in
    let (quote, after) = begins_so is_quote c.args.self.now.mode c.args.bytes.now c.args.c c.requires.first c.requires.after (quote_ascii c.args.c is) is in
    record { bytes = c.requires.bytes; quote = quote; after = after }

pub take_join-requires : goal.take_join-requires
take_join-requires c =
    let is = begins_as class.Backslash c.of.result c.args.bytes.now c.args.c c.requires.first c.of.ensures c.in-Backslash.is in
    let (slash, after) = begins_so is_backslash c.args.self.now.mode c.args.bytes.now c.args.c c.requires.first c.requires.after (slash_low c.args.c is) is in
    record { bytes = c.requires.bytes; backslash = slash; after = after }

pub returns-in-Operator : goal.returns-in-Operator
returns-in-Operator c = λ t follow.
    operator_comes c.args.self.now t c.args.bytes.now c.args.c follow c.requires.first c.requires.after (operator_as c.of.result c.args.bytes.now c.args.c c.requires.first c.of.ensures c.in-Operator.is)
    c.take_operator.result c.take_operator.new.self c.take_operator.ensures

pub returns-in_default : goal.returns-in_default
returns-in_default c = λ t follow.
    let at = λ (k : Class). begins_as k c.of.result c.args.bytes.now c.args.c c.requires.first c.of.ensures in
    break_waits c.args.self.now t c.args.bytes.now c.args.c follow c.requires.first c.requires.after (⊎_elim (at class.LineFeed) (at class.Return) c.in-LineFeed.is) c.in_default.ensures

pub returns-then-is_empty : goal.returns-then-is_empty
returns-then-is_empty c = λ t follow. let empty = rw c.pass.ensures at c.is_empty.ensures in rw c.pass.ensures
    (rw (sym empty ∙ c.if-is_empty.true) at (line_end_comes c.args.self.now t c.args.bytes.now c.args.c follow c.requires.first c.requires.after c.in-Some.len c.in-Some.ensures))

pub returns-in-LineFeed : goal.returns-in-LineFeed
returns-in-LineFeed c = λ t follow. let empty = rw c.pass.ensures at c.is_empty.ensures in rw c.pass.ensures
    (rw (sym empty ∙ c.if-is_empty.false) at (line_end_comes c.args.self.now t c.args.bytes.now c.args.c follow c.requires.first c.requires.after c.in-Some.len c.in-Some.ensures))

pub returns-in-Wide-2 : goal.returns-in-Wide-2
returns-in-Wide-2 c = λ t follow.
    let at = λ (k : Class). begins_as k c.of.result c.args.bytes.now c.args.c c.requires.first c.of.ensures in
    rw c.wrong.ensures
    (nothing_wrong c.args.self.now t c.args.bytes.now c.args.c follow c.requires.first c.requires.after
    (elim c.in-Wide-2-1.branch [
      | in-Wide+else-is_xid_start w ↦ at class.Wide w.in-Wide.is ∙ rw (sym w.is_xid_start.ensures.value ∙ w.if-is_xid_start.false) refl
      | in-Other-1 w ↦ at class.Other (assumption w)
    ]))

pub returns : goal.returns
returns c = λ t follow.
    let at = λ (k : Class). begins_as k c.of.result c.args.bytes.now c.args.c c.requires.first c.of.ensures in
    rw c.len_utf8-len.ensures.value
    (elim c.match-of.branch [
      | in-Word w ↦ rw (w.mode-is, w.of-in-Word.ensures) (word_begins c.args.self.now t c.args.bytes.now c.args.c follow c.requires.first c.requires.after _ (at class.Word w.in-Word.is))
      | in-Wide w ↦
          rw w.mode-is
          (word_begins c.args.self.now t c.args.bytes.now c.args.c follow c.requires.first c.requires.after _ (at class.Wide w.in-Wide.is ∙ rw (sym w.is_xid_start.ensures.value ∙ w.if-is_xid_start.true) refl))
      | in-Space w ↦ rw w.mode-is (space_begins c.args.self.now t c.args.bytes.now c.args.c follow c.requires.first c.requires.after (at class.Space w.in-Space.is))
      | in-Hash w ↦ rw w.mode-is (comment_begins c.args.self.now t c.args.bytes.now c.args.c follow c.requires.first c.requires.after (at class.Hash w.in-Hash.is))
    ])

pub bounds-bytes-0 : goal.bounds-bytes-0
bounds-bytes-0 c = some_first c.requires.first

pub take_operator-requires-clause-bytes : goal.take_operator-requires-clause-bytes
take_operator-requires-clause-bytes c = omega (arith, some_first c.requires.first, c.requires.bytes)

pub pass-requires : goal.pass-requires
pass-requires c = omega (arith, c.in-Some.ensures.within, c.requires.bytes)

pub returns-in-Quote : goal.returns-in-Quote
returns-in-Quote c = c.take_quotes.ensures

pub returns-in-Backslash : goal.returns-in-Backslash
returns-in-Backslash c = c.take_join.ensures

pub overflow_add-self : goal.overflow_add-self
overflow_add-self c = omega (arith, first_size c.requires.first, c.len_utf8-len.ensures.value, c.requires.bytes)
