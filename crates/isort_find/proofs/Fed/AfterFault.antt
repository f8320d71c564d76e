-- What a finder over pieces answers once it has met a fault.
use Rattle.std.proofs.Common.{◌≡◌, ℕ, List, refl, sym, ap, arith}
use Rattle.py_lines.specs.ScannerState.{ScannerState}
use Rattle.py_lines.specs.declared.fault.Fault.{Fault}
use Rattle.isort_find.specs.Cursor.{CursorState}
use Rattle.isort_find.specs.Position.{phase_in}
use Rattle.isort_find.specs.Pieces.{PieceFinderState, piece_finder_state, StopsAtFault, MeetsFaultIn, GivesNone, EndsInFault}
use Rattle.isort_find.specs.declared.walker.Position.{Position}
use Rattle.isort_find.specs.declared.walker.Position.TheVariants as position
use Rattle.isort_find.specs.declared.walker.Phase.TheVariants as phase
use Rattle.isort_find.proofs.Fed.Known.{true_or_false}

-- nothing changes, and it is met again
pub record MeetsAgain (f : PieceFinderState) (fault : Fault) : Type 0 where
  pub fed : (piece : List ℕ) → MeetsFaultIn f piece fault f
  pub asked : GivesNone f f
  pub ended : EndsInFault f fault f

meets_again : (s : ScannerState) (at : Position) (cursor : CursorState) (fault : Fault) → phase_in at ≡ phase.Fault fault → MeetsAgain (piece_finder_state s at cursor) fault
meets_again s (position.Fault met) cursor fault is =
    let same : fault ≡ met = cc in
    let f = piece_finder_state s (position.Fault met) cursor in
    let stops : StopsAtFault f fault f = record { kept = ap position.Fault (sym same); met = (same, refl); counts = record { options = refl; given = refl } } in
    record {
      fed = λ piece. record {
        stops = stops;
        none_ready = refl;
        fed = omega arith;
        open_yet = refl;
        found = λ text values h goes. h;
        decided = λ opened. absurd cc;
      };
      asked = record {
        unfed = record { fed = refl; open_yet = refl; no_fault = λ fine. fine; stays = λ top. top };
        counts = record { options = refl; given = refl };
        none_ready = refl;
        unsure = λ ready. absurd (true_or_false _ refl ready);
        after_fault = λ other was. refl;
        texts = λ text values h. record { found = h; all = λ may none. absurd (may.no_fault met refl); holds = tt };
        rests = λ fine. absurd (fine met refl);
      };
      ended = record { stops = stops; fed = refl; found = λ text values h whole. h };
    }
meets_again s other cursor fault is = absurd cc

pub faulty_again : (f : PieceFinderState) (fault : Fault) → phase_in f.position ≡ phase.Fault fault → MeetsAgain f fault
faulty_again f fault is = meets_again f.scanning f.position f.cursor fault is
