use Rattle.std.proofs.Common.{sym, ap, ◌∙◌, true, false}
use Rattle.py_lines.specs.Lines.{line_in}
use Rattle.py_imports.specs.ActionComment.{says}
use Rattle.py_imports.specs.declared.action_comment.ActionComment.TheVariants as action
use Rattle.isort_sort.proofs.Rows.Skips.{place_within, string_missing, string_at}
use Rattle.isort_sort.proofs.actions.string_skips.Goals as goal
use Rattle.isort_sort.proofs.Rows.Comments.{token_is_at}

pub returns-then-is_string : goal.returns-then-is_string
returns-then-is_string c =
    let line = line_in c.args.unit.now in
    c.says.ensures
    ∙ ap (says action.SkipFile) (c.word.ensures _ (token_is_at line.tokens c.in-Some.place (place_within line.tokens c.in-Some.place c.in-Some.ensures)))
    ∙ string_at line c.in-Some.place true c.in-Some.ensures (sym c.if-is_string.true ∙ c.is_string.ensures)

pub returns-else-is_string : goal.returns-else-is_string
returns-else-is_string c = c.if-is_string.false ∙ string_at (line_in c.args.unit.now) c.in-Some.place false c.in-Some.ensures (sym c.if-is_string.false ∙ c.is_string.ensures)

pub returns-in-None : goal.returns-in-None
returns-in-None c = sym (string_missing (line_in c.args.unit.now) c.in-None.ensures)
