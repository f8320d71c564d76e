-- What is listed where a text ends.
use Rattle.std.proofs.Common.{◌≡◌, ℕ, ◌∙◌, sym, ap, subst, ◌⊎◌, inl, inr, true, Option, Some, Err, List, take}
use Rattle.std.proofs.Math.Seq.{take-length}
use Rattle.py_lines.specs.declared.fault.Fault.{Fault}
use Rattle.isort_find.specs.Found.{IsFound}
use Rattle.isort_find.specs.Settled.{IsFoundSettled}
use Rattle.isort_find.specs.Pieces.{PieceFinderState, FinishesText, EndsInFault, EndsFeeding, fed_by, options_for}
use Rattle.isort_find.specs.declared.options.FindOptions.{FindOptions}
use Rattle.isort_find.specs.declared.error.FindError.{FindError}
use Rattle.isort_find.specs.Position.{phase_in}
use Rattle.isort_find.specs.declared.walker.Phase.TheVariants as phase
use Rattle.isort_find.specs.declared.error.FindError.TheVariants as find
use Rattle.isort_cmd.specs.RunError.{run_error_of}
use Rattle.isort_cmd.specs.Private.Steps.{GivenAreListed, HasListedSettled, LeavesReady}
use Rattle.isort_cmd.specs.Written.{ListsFound, LeavesAtError}
use Rattle.isort_cmd.specs.declared.error.RunError.{RunError}
use Rattle.isort_cmd.specs.declared.error.RunError.TheVariants as run
use Rattle.isort_cmd.proofs.ListingLemmas.{GivenBegin, found_fault, lists_prefix}

-- what was listed of the very bytes that were fed
pub listed_of : (path text : List ℕ) (options : FindOptions) (finder : PieceFinderState) (start now : Option (List ℕ)) → HasListedSettled path text options finder start now → GivenAreListed path text options finder start now
listed_of path text options finder start now h = (h.listed text (take-length text)).listed

-- the text ended, and its last logical line was made
pub ends_listed : (path text : List ℕ) (options : FindOptions) (finder next : PieceFinderState) (start now : Option (List ℕ)) → HasListedSettled path text options finder start now → FinishesText finder next → GivenAreListed path text options next start now
ends_listed path text options finder next start now h ends =
    let listed = listed_of path text options finder start now h in
    let same : options_for next ≡ options_for finder = ap (λ x. x.options) ends.cursor in
    record {
      values = listed.values;
      found = (ends.texts text listed.values listed.found (sym h.fed)).found;
      settled = λ open_yet found bad settled. listed.settled h.open_yet found bad (subst (λ n. IsFoundSettled (take n text) (options_for finder) found bad) ends.fed (subst (λ o. IsFoundSettled (take (fed_by next) text) o found bad) same settled));
      same_options = same ∙ listed.same_options;
      written = listed.written;
    }

-- and it stays so
pub still_ended : (next last : PieceFinderState) → (next.scanning.ended ≡ true) ⊎ (phase_in next.position ≡ phase.End) → last.scanning.ended ≡ next.scanning.ended → (phase_in next.position ≡ phase.End → phase_in last.position ≡ phase.End) → (last.scanning.ended ≡ true) ⊎ (phase_in last.position ≡ phase.End)
still_ended next last (inl ended) same stays = inl (same ∙ ended)
still_ended next last (inr top) same stays = inr (stays top)

-- the text ended in a fault
ends_in_fault : (path text : List ℕ) (options : FindOptions) (finder next : PieceFinderState) (fault : Fault) (start now : Option (List ℕ)) → HasListedSettled path text options finder start now → EndsInFault finder fault next → ListsFound path text options (Some fault) start now
ends_in_fault path text options finder next fault start now h ends =
    let listed = listed_of path text options finder start now h in
    let found = found_fault next text listed.values fault (ends.found text listed.values listed.found (sym h.fed)) ends.stops.kept in
    record {
      values = listed.values;
      found = subst (λ o. IsFound text o listed.values (Some fault)) (ends.stops.counts.options ∙ listed.same_options) found;
      written = listed.written;
    }

-- what an error of ending the text leaves
pub leaves_at_end : GivenBegin → (path text : List ℕ) (options : FindOptions) (finder next : PieceFinderState) (e : FindError) (start now : Option (List ℕ)) → EndsFeeding finder (Err e) next → HasListedSettled path text options finder start now → LeavesAtError path text options (run_error_of e) start now
leaves_at_end begin path text options finder next (find.Fault f) start now ends h = ends_in_fault path text options finder next f start now h ends
leaves_at_end begin path text options finder next find.Memory start now ends h = lists_prefix begin path text options finder start now (listed_of path text options finder start now h)

-- what an error of listing leaves
pub leaves_ready : (path text : List ℕ) (options : FindOptions) (finder : PieceFinderState) (e : RunError) (start now : Option (List ℕ)) → LeavesReady path text options finder e start now → LeavesAtError path text options e start now
leaves_ready path text options finder (run.Fault f) start now h = h.0
leaves_ready path text options finder run.Write start now h = h
leaves_ready path text options finder run.Memory start now h = h
leaves_ready path text options finder run.Read start now h = absurd h
leaves_ready path text options finder run.TooLong start now h = absurd h
leaves_ready path text options finder run.NeverEnds start now h = absurd h
