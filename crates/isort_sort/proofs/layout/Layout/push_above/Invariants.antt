use Rattle.std.proofs.Common.{◌≡◌, ◌++◌, string_bytes, flat_map, take}
use Rattle.isort_sort.proofs.layout.Layout.push_above.Given as goal

abbrev pub invariant-loop-comment : goal.invariant-loop-comment
invariant-loop-comment l =
    string_bytes l.out ≡ string_bytes l.initial.out ++ flat_map (λ c. (l.self.indentation.now ++ string_bytes c) ++ l.self.end.now) (take l.comment-index l.above)
