-- The pieces so far were compared.
use Rattle.std.proofs.Common.{◌≡◌, ◌++◌, ℕ, List, [], string_bytes}
use Rattle.isort_sort.specs.Private.Arranged.{pieces_left, text_left, IsReady}
use Rattle.isort_sort.specs.Private.Compared.{Takes}
use Rattle.isort_sort.proofs.arrange.Arrangement.compare.Given as goal

abbrev pub invariant-pieces : goal.invariant-pieces
invariant-pieces l = record {
  ready : IsReady l.self;
  empty : string_bytes l.buffer ≡ [];
  done : List ℕ;
  takes : Takes l.initial.compared done l.compared;
  text : text_left l.initial.self ≡ done ++ text_left l.self;
}

abbrev pub decreases-pieces : goal.decreases-pieces
decreases-pieces l = pieces_left l.self
