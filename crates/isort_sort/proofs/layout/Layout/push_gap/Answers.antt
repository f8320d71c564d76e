use Rattle.std.proofs.Common.{◌≡◌, ◌++◌, OnOk, string_bytes, flat_map, replicate, List, ℕ, append-nil, sym, ap, ◌∙◌, subst}
use Rattle.std.specs.Option.{option_map}
use Rattle.isort_settings.specs.Values.{values}
use Rattle.isort_sort.specs.Private.Group.{group_value}
use Rattle.isort_sort.specs.Private.Packing.{gap_lines, text_with}
use Rattle.isort_sort.proofs.Layouts.Writing.{blank_lines}
use Rattle.isort_sort.proofs.layout.Layout.push_gap.Goals as goal

pub returns-in-None : goal.returns-in-None
returns-in-None c =
    let out = string_bytes c.args.out.now in
    let v = values c.args.self.now.settings.now in
    sym (ap (λ b. out ++ text_with c.args.self.now.end.now (gap_lines v (option_map group_value b) (group_value c.args.group.now))) c.in-None.is ∙ append-nil out)

pub returns-in-Some : goal.returns-in-Some
returns-in-Some c =
    let out = string_bytes c.args.out.now in
    let v = values c.args.self.now.settings.now in
    let end = c.args.self.now.end.now in
    subst (λ (t : List ℕ). OnOk c.push_times.result (string_bytes c.push_times.new.out ≡ out ++ t))
    (ap (λ n. flat_map (λ (t : List ℕ). t) (replicate n end)) c.gap.ensures ∙ blank_lines end _
    ∙ ap (λ b. text_with end (gap_lines v (option_map group_value b) (group_value c.args.group.now))) (sym c.in-Some.is)) c.push_times.ensures
