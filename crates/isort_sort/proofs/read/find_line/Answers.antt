use Rattle.std.proofs.Common.{[], ◌≡◌, map, string_bytes, sym, ap, ◌∙◌, MatchOption}
use Rattle.std.proofs.lemmas.Result.{on_ok_weaker}
use Rattle.py_lines.specs.Lines.{line_in}
use Rattle.py_imports.specs.BindingValue.{binding_value}
use Rattle.isort_sort.specs.Line.{comment_texts, own_comments, imported_of}
use Rattle.isort_sort.specs.Private.LineRole.{before_of}
use Rattle.isort_sort.specs.Private.Values.{member_value}
use Rattle.isort_sort.proofs.Readings.Lines.{finds_blank, finds_comments, finds_member, finds_other, any_match, none_match}
use Rattle.isort_sort.proofs.Readings.ReadSoFar.{imports_of_bindings}
use Rattle.isort_sort.proofs.read.find_line.Goals as goal
use Rattle.isort_sort.proofs.read.find_line.Goals.{then-is_open+in_ok-comments-in-Comments, else-is_open}

pub returns-in-Blank : goal.returns-in-Blank
returns-in-Blank c = finds_blank c.args.off (line_in c.args.unit.now) c.of-line.ensures.utf8 c.args.blocks.now _ _ c.of-line.ensures.stop _ c.push_blank.ensures c.in-Blank.ensures c.of-line.ensures.ended

-- the comments that were copied, where a block may go on
pub returns-after-is_open : goal.returns-after-is_open
returns-after-is_open c =
    let line = line_in c.args.unit.now in
    let old = c.args.blocks.now in
    let same : MatchOption old.opened (Unit {0}) (λ o. map string_bytes c.if-is_open.comments.items ≡ comment_texts line) =
    elim c.if-is_open.branch [
      | then-is_open+in_ok-comments-in-Comments w ↦ any_match old.opened (ap (λ v. map string_bytes v.items) w.comments-is ∙ w.in_ok-comments-in-Comments.ensures)
      | else-is_open w ↦ none_match _ old.opened (sym c.is_open.ensures ∙ w.if-is_open.false)
    ] in
    on_ok_weaker c.push_comments.result (λ pushed. finds_comments c.args.off line c.of-line.ensures.utf8 old _ _ c.of-line.ensures.stop _ pushed c.in-Comments.ensures same) c.push_comments.ensures

pub returns-in_ok-own_comments-in-Member : goal.returns-in_ok-own_comments-in-Member
returns-in_ok-own_comments-in-Member c =
    let line = line_in c.args.unit.now in
    let value : member_value (record { bindings = c.args.bindings; comments = c.in_ok-own_comments-in-Member.field-0; above = c.new.result }) ≡ record { imports = map imported_of (map binding_value c.args.bindings.items); comments = own_comments line; above = [] } =
    λ i. record { imports = imports_of_bindings c.args.bindings.items i; comments = c.in_ok-own_comments-in-Member.ensures i; above = map string_bytes (c.new.ensures.items i) } in
    on_ok_weaker c.push_member.result
    (λ pushed. finds_member c.args.off line c.of-line.ensures.utf8 c.args.blocks.now _ _ c.of-line.ensures.stop _ _ _ (map binding_value c.args.bindings.items)
    pushed c.in-Member.ensures c.requires.binds value c.indentation.ensures c.of-line.ensures.ended)
    c.push_member.ensures

pub returns-in-Other : goal.returns-in-Other
returns-in-Other c =
    on_ok_weaker c.push_other.result (λ pushed. finds_other c.args.off (line_in c.args.unit.now) c.of-line.ensures.utf8 c.args.blocks.now _ _ c.of-line.ensures.stop (before_of c.in-Other.blank_lines) pushed c.in-Other.ensures) c.push_other.ensures
