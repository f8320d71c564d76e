-- What was put is the text of the statement.
use Rattle.std.proofs.Common.{◌≡◌, ◌++◌, ◌∷◌, Some, length, map, string_bytes, refl, ap, ◌∙◌, arith, false}
use Rattle.std.specs.Option.{option_map}
use Rattle.std.proofs.lemmas.List.{nil_from_length}
use Rattle.isort_settings.specs.Values.{values}
use Rattle.isort_sort.specs.Layout.{text_of_lines}
use Rattle.isort_sort.specs.Private.Group.{group_value}
use Rattle.isort_sort.specs.Private.LineEnd.{end_bytes}
use Rattle.isort_sort.specs.Private.Packing.{next_lines, text_with}
use Rattle.isort_sort.proofs.Layouts.Pieces.{last_text, left_line, next_line, next_text, split_before_end, text_trimmed}
use Rattle.isort_sort.proofs.arrange.Arrangement.push_statement.Goals as goal
use Rattle.isort_sort.proofs.arrange.Arrangement.push_statement.Goals.{else-not-self-via-then-not-self+else-len-eq0, else-not-self-via-else-not-self}

pub truncate-requires : goal.truncate-requires
truncate-requires c =
    let a = c.args.self.now in
    let v = values a.settings.now in
    let whole = c.push_next.new.out in
    let end = c.as_str-end.result.now in
    let before = option_map group_value a.before in
    let g = group_value c.args.group.now in
    λ _. split_before_end end (string_bytes c.args.out.now) (next_lines v c.as_str.result.now end before g) (string_bytes whole) c.saturating_sub.result c.as_str-end.utf8
    (next_line v c.as_str.result.now end before g) c.in_ok-push_next.ensures (omega (arith, whole.bytes.ok.0))

pub returns-then-len-eq0 : goal.returns-then-len-eq0
returns-then-len-eq0 c =
    let a = c.args.self.now in
    let v = values a.settings.now in
    let indentation = string_bytes a.indentation in
    let end = end_bytes a.end in
    let whole = c.push_next.new.out in
    let out = string_bytes c.args.out.now in
    let before = option_map group_value a.before in
    let g = group_value c.args.group.now in
    let lines = next_lines v indentation end before g in
    let left = a.groups.rest.items in
    let written : string_bytes whole ≡ out ++ text_with end lines =
    c.in_ok-push_next.ensures ∙ (λ i. out ++ text_with (c.as_str-end.ensures i) (next_lines v (c.as_str.ensures.value i) (c.as_str-end.ensures i) before g)) in (
      text_of_lines end false 0 lines,
      text_trimmed end out lines (string_bytes whole) _ c.saturating_sub.result (next_line v indentation end before g) written (omega (arith, whole.bytes.ok.0, ap length c.as_str-end.ensures)) c.truncate.ensures.bytes,
      last_text v end a.ended a.blanks indentation before g (map group_value left) (g ∷ map group_value left) refl
          (ap (map group_value) (nil_from_length left (omega (arith, a.groups.rest.ok, c.len.ensures, c.if-len-eq0.true)))) c.if-not-self.true,
    )

pub returns-else-not-self : goal.returns-else-not-self
returns-else-not-self c =
    let a = c.args.self.now in
    let v = values a.settings.now in
    let indentation = string_bytes a.indentation in
    let end = end_bytes a.end in
    let before = option_map group_value a.before in
    let g = group_value c.args.group.now in
    let left = a.groups.rest.items in (
      text_with end (next_lines v indentation end before g),
      c.in_ok-push_next.ensures ∙ (λ i. string_bytes c.args.out.now ++ text_with (c.as_str-end.ensures i) (next_lines v (c.as_str.ensures.value i) (c.as_str-end.ensures i) before g)),
      next_text v end a.ended a.blanks indentation before g (map group_value left) (g ∷ map group_value left) refl
          (elim c.else-not-self.branch [
            | else-not-self-via-then-not-self+else-len-eq0 o ↦ λ _. left_line v indentation end (Some g) left (λ none. omega (arith, a.groups.rest.ok, o.len.ensures, o.if-len-eq0.false, none))
            | else-not-self-via-else-not-self o ↦ λ unended. absurd (cc)
          ]),
    )
