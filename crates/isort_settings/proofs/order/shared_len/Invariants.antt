-- The bytes before this place are alike.
use Rattle.std.proofs.Common.{◌≡◌, ◌==◌, ℕ, ◌+◌, ◌-◌, ◌≤◌, drop}
use Rattle.std.specs.List.{common_prefix_len}
use Rattle.isort_settings.proofs.order.shared_len.Given as goal

abbrev pub invariant-alike : goal.invariant-alike
invariant-alike l =
    (l.shared ≤ l.len)
    × (common_prefix_len (λ (x y : ℕ). x == y) l.a l.b ≡ l.shared + common_prefix_len (λ (x y : ℕ). x == y) (drop l.shared l.a) (drop l.shared l.b))

abbrev pub decreases-alike : goal.decreases-alike
decreases-alike l = l.len - l.shared
