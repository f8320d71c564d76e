use Rattle.std.proofs.Common.{◌≡◌, ◌++◌, string_bytes, flat_map, replicate, List, ℕ}
use Rattle.isort_sort.proofs.texts.push_times.Given as goal

abbrev pub invariant-loop : goal.invariant-loop
invariant-loop l =
    string_bytes l.out ≡ string_bytes l.initial.out ++ flat_map (λ (t : List ℕ). t) (replicate l.counter l.text)
