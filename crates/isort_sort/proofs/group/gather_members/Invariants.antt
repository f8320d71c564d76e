-- What was seen so far, with what the rest of the members bring, is what all bring.
use Rattle.std.proofs.Common.{◌≡◌, None, map}
use Rattle.std.specs.Vec.Iter.{into_iter_items}
use Rattle.isort_settings.specs.Values.{values}
use Rattle.isort_sort.specs.Private.Gathered.{brought, found, seen_after}
use Rattle.isort_sort.specs.Statement.{Statement}
use Rattle.isort_sort.specs.Private.Values.{member_value}
use Rattle.isort_sort.proofs.group.gather_members.Given as goal

abbrev pub invariant-loop-member : goal.invariant-loop-member
invariant-loop-member l =
    (s : Statement) → seen_after s (found s l.statements.entries) (brought (values l.settings) (map member_value (into_iter_items l.member-iterator)))
    ≡ seen_after s None (brought (values l.settings) (map member_value l.fn.members.items))
