-- What was put is the next piece of what was left.
use Rattle.std.proofs.Common.{◌≡◌, ℕ, List, [], map, replicate, flat_map, string_bytes, sym, ap, ◌∙◌, arith}
use Rattle.std.specs.Option.{option_map}
use Rattle.std.proofs.lemmas.List.{nil_from_length}
use Rattle.std.specs.Vec.Iter.{into_iter_items}
use Rattle.isort_settings.specs.Values.{values}
use Rattle.isort_sort.specs.Private.Arranged.{text_of_groups}
use Rattle.isort_sort.specs.Private.Group.{group_value}
use Rattle.isort_sort.specs.Private.LineEnd.{end_bytes}
use Rattle.isort_sort.specs.Private.Packing.{lines_left}
use Rattle.isort_sort.proofs.Layouts.Pieces.{blanks_left, left_none}
use Rattle.isort_sort.proofs.arrange.Arrangement.push_next.Goals as goal

pub returns-in_default-clause-piece : goal.returns-in_default-clause-piece
returns-in_default-clause-piece c =
    let a = c.args.self.now in
    let v = values a.settings.now in
    let indentation = string_bytes a.indentation in
    let before = option_map group_value a.before in
    let end = end_bytes a.end in
    let lines = lines_left v indentation end before in
    let none : a.groups.rest.items ≡ [] = nil_from_length _ (omega (arith, c.in_default.ensures.cases.0, a.groups.rest.ok)) in
    let nothing : into_iter_items c.next.new.self ≡ [] = sym c.in_default.ensures.items ∙ none in (
      flat_map (λ (t : List ℕ). t) (replicate c.replace-blanks.result c.as_str.result.now),
      c.in_ok-push_times.ensures,
      blanks_left end c.as_str.result.now a.ended a.blanks c.replace-blanks.result c.replace-blanks.new.dest
          (lines (map group_value a.groups.rest.items)) (lines (map group_value (into_iter_items c.next.new.self))) c.requires.blanks
          (ap (λ gs. lines (map group_value gs)) none ∙ left_none v indentation end before) (ap (λ gs. lines (map group_value gs)) nothing ∙ left_none v indentation end before)
          c.replace-blanks.ensures.value c.as_str.ensures c.replace-blanks.ensures.after,
    )

pub returns-clause-piece : goal.returns-clause-piece
returns-clause-piece c =
    let a = c.args.self.now in
    let p = rw c.in_ok-pushed.was at c.push_statement-pushed.ensures in
    (p.0, p.1, ap (λ gs. text_of_groups a (option_map group_value a.before) (map group_value gs)) c.in-Some.ensures.items ∙ p.2)
