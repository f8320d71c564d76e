-- The texts that were kept, with those of the rest that are new, are the first of all; and those that were kept were seen.
use Rattle.std.proofs.Common.{◌≡◌, ℕ, List, fold, map, string_bytes}
use Rattle.std.specs.BTreeSet.{contains_text}
use Rattle.std.specs.List.{list_any}
use Rattle.std.specs.Prelude.{bytes_eq}
use Rattle.std.specs.Vec.Iter.{into_iter_items}
use Rattle.isort_sort.specs.Member.{first_texts}
use Rattle.isort_sort.proofs.Groups.Firsts.{with_text}
use Rattle.isort_sort.proofs.group.each_once.Given as goal

abbrev pub invariant-loop-text : goal.invariant-loop-text
invariant-loop-text l =
    (fold with_text (map string_bytes l.kept.items) (map string_bytes (into_iter_items l.text-iterator)) ≡ first_texts (map string_bytes l.fn.texts.items))
    × ((q : List ℕ) → contains_text l.seen q ≡ list_any (bytes_eq q) (map string_bytes l.kept.items))
