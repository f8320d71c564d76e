-- What was put and what is left are the text.
use Rattle.std.proofs.Common.{◌≡◌, ◌++◌, string_bytes}
use Rattle.isort_sort.specs.Private.Arranged.{pieces_left, text_left, IsReady}
use Rattle.isort_sort.proofs.arrange.Arrangement.take_text.Given as goal

abbrev pub invariant-pieces : goal.invariant-pieces
invariant-pieces l = record {
  ready : IsReady l.self;
  text : string_bytes l.text ++ text_left l.self ≡ text_left l.fn.self;
}

abbrev pub decreases-pieces : goal.decreases-pieces
decreases-pieces l = pieces_left l.self
