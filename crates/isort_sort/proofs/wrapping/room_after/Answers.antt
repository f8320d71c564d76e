use Rattle.std.proofs.Common.{◌≡◌, ℕ, ◌+◌, ◌-◌, ◌≤◌, string_bytes, subst, ap, ◌∙◌, arith}
use Rattle.std.specs.Option.{SomeIff}
use Rattle.isort_sort.specs.Width.{width}
use Rattle.isort_sort.proofs.Layouts.Widths.{width-item, width-renamed, none_left, left_after}
use Rattle.isort_sort.proofs.wrapping.room_after.Goals as goal

pub returns-in_err-room : goal.returns-in_err-room
returns-in_err-room c =
    let name : c.width.result ≡ width (string_bytes c.args.item.now.name) = c.width.ensures.value ∙ ap width c.as_bytes.ensures.value in
    none_left _ _ _ _ c.from_residual.ensures (omega (arith, width-item c.args.item.now, c.in_err-room.ensures))

pub returns-in_err-checked_sub-in-Some : goal.returns-in_err-checked_sub-in-Some
returns-in_err-checked_sub-in-Some c =
    let name : c.width.result ≡ width (string_bytes c.args.item.now.name) = c.width.ensures.value ∙ ap width c.as_bytes.ensures.value in
    none_left _ _ _ _ c.from_residual-in_err-checked_sub-in-Some.ensures (omega (arith, width-renamed c.args.item.now c.in-Some.alias c.in-Some.is, c.in_ok-room.ensures, c.in_err-checked_sub-in-Some.ensures))

pub returns-in_ok-checked_sub-in-Some : goal.returns-in_ok-checked_sub-in-Some
returns-in_ok-checked_sub-in-Some c =
    let P : ℕ → Type 0 = λ n. SomeIff c.checked_sub-in-Some-2.result (n ≤ c.args.room) (c.args.room - n) in
    let name : c.width.result ≡ width (string_bytes c.args.item.now.name) = c.width.ensures.value ∙ ap width c.as_bytes.ensures.value in
    let alias : c.width-in-Some.result ≡ width (string_bytes c.in-Some.alias) = c.width-in-Some.ensures.value ∙ ap width c.as_bytes-in-Some.ensures.value in
    subst P (omega (arith, width-renamed c.args.item.now c.in-Some.alias c.in-Some.is))
    (left_after c.checked_sub-in-Some-2.result (c.width.result + 4) c.width-in-Some.result c.args.room c.in_ok-checked_sub-in-Some.field-0 (omega (arith, c.in_ok-room.ensures, c.in_ok-checked_sub-in-Some.ensures)) (omega (arith, c.in_ok-room.ensures, c.in_ok-checked_sub-in-Some.ensures)) c.checked_sub-in-Some-2.ensures)
