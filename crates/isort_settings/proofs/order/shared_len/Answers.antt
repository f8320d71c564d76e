-- At the end of the shorter text nothing is left to compare.
use Rattle.std.proofs.Common.{◌==◌, ℕ, drop, get_or, length-drop, arith}
use Rattle.std.proofs.lemmas.Bool.{ne_eqb}
use Rattle.std.proofs.lemmas.List.Sums.{common_prefix_len-drop_no, common_prefix_len-le}
use Rattle.isort_settings.proofs.order.shared_len.Goals as goal

pub returns-after-alike : goal.returns-after-alike
returns-after-alike c =
    let n : ℕ = c.alike.shared in
    let left = common_prefix_len-le (λ (x y : ℕ). x == y) (drop n c.args.a.now) (drop n c.args.b.now) in
    omega (arith, left.0, left.1, length-drop n c.args.a.now, length-drop n c.args.b.now, c.min-len.ensures)

pub returns-else-a-shared : goal.returns-else-a-shared
returns-else-a-shared c =
    let n : ℕ = c.alike.shared in
    let x = get_or c.args.a.now n 0 in
    let y = get_or c.args.b.now n 0 in
    let none = common_prefix_len-drop_no (λ (x y : ℕ). x == y) c.args.a.now c.args.b.now n 0 0 (omega arith) (omega arith) (ne_eqb x y c.if-a-shared.false) in
    omega (arith, none, c.alike.invariant.1)
