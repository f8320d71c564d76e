use Rattle.std.proofs.Common.{cond, map, ap, ◌∙◌, sym, subst}
use Rattle.std.specs.List.{AllByRecursion}
use Rattle.isort_settings.specs.Values.{values}
use Rattle.isort_sort.specs.Layout.{block_lines, text_of_lines}
use Rattle.isort_sort.specs.Private.Arranged.{IsArranged}
use Rattle.isort_sort.specs.Private.Found.{blanks_of, found_value}
use Rattle.isort_sort.specs.Private.Group.{group_value}
use Rattle.isort_sort.specs.Private.LineEnd.{end_bytes}
use Rattle.isort_sort.specs.Private.Packing.{laid_of, HasSection}
use Rattle.isort_sort.proofs.Layouts.LaidOut.{sections_right, arranged}
use Rattle.isort_sort.proofs.arrange.arrange.Goals as goal

pub returns-clause-arranged : goal.returns-clause-arranged
returns-clause-arranged c =
    let v = values c.args.settings.now in
    let end = end_bytes c.args.end in
    let f = found_value c.args.block in
    subst (λ gs. IsArranged v end f (text_of_lines end f.ended c.blank_lines-blanks.result (block_lines v f.indentation end (map (laid_of v f.indentation) (map group_value gs)))))
    (sym c.into_iter.ensures.rest) (arranged v end f (map group_value c.in_ok-groups.groups.items) c.blank_lines-blanks.result c.in_ok-groups.ensures c.blank_lines-blanks.ensures)

pub returns-clause-ready : goal.returns-clause-ready
returns-clause-ready c =
    let v = values c.args.settings.now in
    let grouped = c.in_ok-groups.ensures in
    record {
      before = tt;
      sections = subst (AllByRecursion (HasSection v)) (sym c.into_iter.ensures.rest) (sections_right v _ _ grouped.each);
      blanks = λ none. c.blank_lines-blanks.ensures ∙ ap (λ b. cond b (blanks_of v (found_value c.args.block)) 0) none;
    }
