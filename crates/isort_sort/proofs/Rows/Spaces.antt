-- Space, tab and form feed.
use Rattle.std.proofs.Common.{◌≡◌, ℕ, ◌<◌, true, false, arith}
use Rattle.std.proofs.lemmas.Bool.Decides.{nat_tests}
use Rattle.py_lines.specs.Character.{is_space, is_line_feed}

pub space_low : (c : ℕ) → is_space c ≡ true → c < 128
unfolding is_space
space_low c h = grind (arith, nat_tests)

pub space_no_feed : (c : ℕ) → is_space c ≡ true → is_line_feed c ≡ false
unfolding is_space is_line_feed
space_no_feed c h = grind (arith, nat_tests)
