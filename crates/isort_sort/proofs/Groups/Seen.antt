-- What is seen of a statement after some imports.
use Rattle.std.proofs.Common.{◌≡◌, Option, List, [], ◌∷◌, ◌++◌, refl}
use Rattle.isort_sort.specs.Private.Gathered.{Brought, Seen, seen_with, seen_after}
use Rattle.isort_sort.specs.Statement.{Statement}

-- some imports, and then others
pub seen_after-append : (s : Statement) (o : Option Seen) (bs cs : List Brought) → seen_after s o (bs ++ cs) ≡ seen_after s (seen_after s o bs) cs
seen_after-append s o [] cs = refl
seen_after-append s o (b ∷ bs) cs = seen_after-append s (seen_with s o b) bs cs
