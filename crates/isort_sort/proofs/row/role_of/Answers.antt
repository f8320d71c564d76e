use Rattle.std.proofs.Common.{rules, sym, ap, ◌∙◌}
use Rattle.py_lines.specs.Lines.{line_in}
use Rattle.isort_sort.specs.Row.{is_comment_kind}
use Rattle.isort_sort.proofs.row.role_of.Goals as goal

pub returns-in-Comment : goal.returns-in-Comment
returns-in-Comment c = (ap is_comment_kind c.in-Comment.is, sym (c.parts_blocks.ensures (line_in c.args.unit.now) c.requires.actions) ∙ c.if-not-parts_blocks.true)

pub returns-in-Comment-2 : goal.returns-in-Comment-2
returns-in-Comment-2 c =
    let told = c.parts_blocks.ensures (line_in c.args.unit.now) c.requires.actions in
    search (rules, told)
