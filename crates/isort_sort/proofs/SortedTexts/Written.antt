-- What was written so far and what is left are the bytes.
use Rattle.std.proofs.Common.{◌≡◌, ℕ, ◌-◌, ◌≤◌, List, ◌++◌, length, take, drop, arith}
use Rattle.std.proofs.lemmas.Grind.{common_steps}

pub split_more : (prefix rest bytes : List ℕ) (n : ℕ) → prefix ++ rest ≡ bytes → n ≤ length rest → prefix ++ take n rest ++ take (length rest - n) (drop n rest) ≡ bytes
split_more prefix rest bytes n whole within = grind (arith, common_steps)
