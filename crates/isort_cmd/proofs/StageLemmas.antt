-- What listing all that is ready leaves.
use Rattle.std.proofs.Common.{◌≡◌, ℕ, Bool, true, false, Option, None, Ok, Err, List, [], ◌∷◌, ◌++◌, refl, sym, ◌∙◌, subst, length, arith}
use Rattle.std.proofs.KnownBytes.{Appends-nil, Appends-trans}
use Rattle.std.specs.Io.KnownBytes.{Appends}
use Rattle.std.specs.List.{list_any}
use Rattle.py_imports.specs.BindingValue.{BindingValue}
use Rattle.isort_find.specs.Found.{IsFound}
use Rattle.isort_find.specs.Pieces.{PieceFinderState, due_by, due_in, has_ready, GivesBinding, GivesNone, GivesReady, EndsFeeding}
use Rattle.isort_find.specs.Position.{are_left, ready_in}
use Rattle.isort_find.specs.declared.options.FindOptions.{FindOptions}
use Rattle.isort_find.specs.declared.error.FindError.{FindError}
use Rattle.isort_find.specs.declared.error.FindError.TheVariants as find
use Rattle.isort_find.specs.declared.walker.Position.{Position}
use Rattle.isort_find.specs.declared.walker.Position.TheVariants as position
use Rattle.isort_sort.specs.Metered.{IsGivenUp}
use Rattle.isort_sort.specs.Written.{AppendsPrefix}
use Rattle.isort_sort.specs.declared.metered.Last.{Last}
use Rattle.isort_sort.specs.declared.metered.Last.TheVariants as last
use Rattle.isort_cmd.specs.Printed.{line_text}
use Rattle.isort_cmd.specs.RunError.{run_error_of}
use Rattle.isort_cmd.specs.Private.Stages.{ListingState, KeepsListed, EmptiesReady, ListsOne, ListsAll, ListsNext, StopsReady, EndsListing, StopsAtEnd, TellsWritten}
use Rattle.isort_cmd.specs.Private.Steps.{GivenAreListed, IsOutputError, LeavesReady}
use Rattle.isort_cmd.specs.Written.{ListsFound}
use Rattle.isort_cmd.specs.declared.error.RunError.{RunError}
use Rattle.isort_cmd.specs.declared.error.RunError.TheVariants as run
use Rattle.isort_cmd.proofs.EndLemmas.{ends_listed, leaves_at_end, leaves_ready, still_ended}
use Rattle.isort_cmd.proofs.ListingLemmas.{GivenBegin, leaves_at_find_error, leaves_from, listed_one_more, listed_none, lists_prefix, lists_stopped}

-- the errors of a finder are those of listing
pub error_of_find : (e : FindError) (l : Last) → l ≡ last.Fine → IsOutputError (run_error_of e) l
error_of_find find.Memory l fine = fine
error_of_find (find.Fault f) l fine = fine

-- ---- one import

-- an import was given, and its line written
pub lists_one : (old new : ListingState) (b : BindingValue) (out : List ℕ) → new.path ≡ old.path → new.last ≡ last.Fine → GivesBinding old.finder b new.finder → out ≡ line_text old.path b → Appends old.written new.written out → ListsOne old new
lists_one old new b out same fine gives put wrote = record {
  keeps = record {
    goes_on = record { same_path = same; fine = fine };
    unfed = gives.unfed;
    listed = λ text options start h. listed_one_more old.path text options old.finder new.finder b out start old.written new.written gives put wrote h;
  };
  falls = gives.falls;
}

-- nothing was ready
pub lists_none : (old : ListingState) (next : PieceFinderState) → old.last ≡ last.Fine → GivesNone old.finder next → ListsAll old (record old { finder = next })
lists_none old next fine none = record {
  keeps = record {
    goes_on = record { same_path = refl; fine = fine };
    unfed = none.unfed;
    listed = λ text options start h. listed_none old.path text options old.finder next start old.written none h;
  };
  none_ready = none.none_ready;
  whole = λ text options start h no_fault over. record {
    values = h.values;
    found = subst (λ (o : FindOptions). IsFound text o h.values None) (none.counts.options ∙ h.same_options) ((none.rests no_fault text h.values h.found).whole over).0;
    written = h.written;
  };
}

-- the finder failed
pub stops_at_find : GivenBegin → (old : ListingState) (e : FindError) (next : PieceFinderState) → old.last ≡ last.Fine → GivesReady old.finder (Err e) next → StopsReady old (run_error_of e) (record old { finder = next })
stops_at_find begin old e next fine gives = record {
  error = error_of_find e old.last fine;
  leaves = λ text options start h. leaves_at_find_error begin old.path text options old.finder next e start old.written gives h;
}

-- memory ran out before the line was written
pub stops_at_memory : GivenBegin → (old : ListingState) (next : PieceFinderState) → old.last ≡ last.Fine → StopsReady old run.Memory (record old { finder = next })
stops_at_memory begin old next fine = record {
  error = fine;
  leaves = λ text options start h. lists_prefix begin old.path text options old.finder start old.written h;
}

-- a write failed
pub stops_at_write : GivenBegin → (old new : ListingState) (b : BindingValue) (out : List ℕ) → IsGivenUp new.last → GivesBinding old.finder b new.finder → out ≡ line_text old.path b → AppendsPrefix old.written new.written out → StopsReady old run.Write new
stops_at_write begin old new b out given_up gives put wrote = record {
  error = given_up;
  leaves = λ text options start h. lists_stopped begin old.path text options old.finder new.finder b out start old.written new.written gives put wrote h;
}

-- ---- all that are ready

pub next_is_one : (old new : ListingState) (some : Bool) → some ≡ true → ListsNext old (Ok some) new → ListsOne old new
next_is_one old new some is h = subst (λ (b : Bool). ListsNext old (Ok b) new) is h

pub next_is_none : (old new : ListingState) (some : Bool) → some ≡ false → ListsNext old (Ok some) new → ListsAll old new
next_is_none old new some is h = subst (λ (b : Bool). ListsNext old (Ok b) new) is h

-- nothing was written
pub tells_none : (now : Option (List ℕ)) → TellsWritten false now now
tells_none now = record { bytes = []; written = Appends-nil now; any = refl }

line_is_some : (path : List ℕ) (b : BindingValue) → true ≡ list_any (λ b. true) (line_text path b)
line_is_some [] b = refl
line_is_some (c ∷ path) b = refl

-- the line of a binding was written
pub tells_line : (path : List ℕ) (b : BindingValue) (out : List ℕ) (old new : Option (List ℕ)) → out ≡ line_text path b → Appends old new out → TellsWritten true old new
tells_line path b out old new put wrote = record {
  bytes = line_text path b;
  written = subst (λ x. Appends old new x) put wrote;
  any = line_is_some path b;
}

later_some : (first more : List ℕ) → true ≡ list_any (λ b. true) more → true ≡ list_any (λ b. true) (first ++ more)
later_some [] more any = any
later_some (c ∷ first) more any = refl

later_none : (first more : List ℕ) → false ≡ list_any (λ b. true) more → list_any (λ b. true) first ≡ list_any (λ b. true) (first ++ more)
later_none [] more none = none
later_none (c ∷ first) more none = refl

-- the answer is this one
pub tells_as : (some same : Bool) (old new : Option (List ℕ)) → some ≡ same → TellsWritten some old new → TellsWritten same old new
tells_as some same old new is = subst (λ (b : Bool). TellsWritten b old new) is

-- more was written after something or nothing
pub tells_more : (some : Bool) (old mid new : Option (List ℕ)) → TellsWritten some old mid → TellsWritten true mid new → TellsWritten true old new
tells_more some old mid new first more = record {
  bytes = first.bytes ++ more.bytes;
  written = Appends-trans old mid new first.bytes more.bytes first.written more.written;
  any = later_some first.bytes more.bytes more.any;
}

-- no more was written
pub tells_no_more : (some : Bool) (old mid new : Option (List ℕ)) → TellsWritten some old mid → TellsWritten false mid new → TellsWritten some old new
tells_no_more some old mid new first none = record {
  bytes = first.bytes ++ none.bytes;
  written = Appends-trans old mid new first.bytes none.bytes first.written none.written;
  any = first.any ∙ later_none first.bytes none.bytes none.any;
}

-- at the same path
pub goes_at : (path : List ℕ) (old new : ListingState) → old.path ≡ path → KeepsListed old new → (text : List ℕ) (options : FindOptions) (start : Option (List ℕ)) → GivenAreListed path text options old.finder start old.written → GivenAreListed path text options new.finder start new.written
goes_at path old new same goes text options start h = subst (λ (p : List ℕ). GivenAreListed p text options new.finder start new.written) same (goes.listed text options start (subst (λ (p : List ℕ). GivenAreListed p text options old.finder start old.written) (sym same) h))

pub stops_ready : (path : List ℕ) (old new : ListingState) (e : RunError) → old.path ≡ path → StopsReady old e new → (text : List ℕ) (options : FindOptions) (start : Option (List ℕ)) → GivenAreListed path text options old.finder start old.written → LeavesReady path text options old.finder e start new.written
stops_ready path old new e same stops text options start h = subst (λ (p : List ℕ). LeavesReady p text options old.finder e start new.written) same (stops.leaves text options start (subst (λ (p : List ℕ). GivenAreListed p text options old.finder start old.written) (sym same) h))

-- nothing was given yet
pub goes_nowhere : (s : ListingState) → s.last ≡ last.Fine → KeepsListed s s
goes_nowhere s fine = record {
  goes_on = record { same_path = refl; fine = fine };
  unfed = record { fed = refl; open_yet = refl; no_fault = λ h. h; stays = λ h. h };
  listed = λ text options start h. h;
}

-- one more was listed
pub goes_further : (old mid new : ListingState) → KeepsListed old mid → KeepsListed mid new → KeepsListed old new
goes_further old mid new first second = record {
  goes_on = record { same_path = second.goes_on.same_path ∙ first.goes_on.same_path; fine = second.goes_on.fine };
  unfed = record {
    fed = second.unfed.fed ∙ first.unfed.fed;
    open_yet = second.unfed.open_yet ∙ first.unfed.open_yet;
    no_fault = λ h. second.unfed.no_fault (first.unfed.no_fault h);
    stays = λ h. second.unfed.stays (first.unfed.stays h);
  };
  listed = λ text options start h. goes_at old.path mid new first.goes_on.same_path second text options start (first.listed text options start h);
}

-- the last of those that were ready was listed
pub empties_last : (old mid new : ListingState) → KeepsListed old mid → ListsAll mid new → EmptiesReady old new
empties_last old mid new first all = record { keeps = goes_further old mid new first all.keeps; none_ready = all.none_ready }

-- all were listed
pub lists_all : (old mid new : ListingState) → KeepsListed old mid → ListsAll mid new → ListsAll old new
lists_all old mid new first all = record {
  keeps = goes_further old mid new first all.keeps;
  none_ready = all.none_ready;
  whole = λ text options start h no_fault over. subst (λ (p : List ℕ). ListsFound p text options None start new.written) first.goes_on.same_path (all.whole text options start (subst (λ (p : List ℕ). GivenAreListed p text options mid.finder start mid.written) (sym first.goes_on.same_path) (first.listed text options start h)) (first.unfed.no_fault no_fault) over);
}

-- where nothing is ready, nothing is due
nothing_due : (f : PieceFinderState) → has_ready f ≡ false → due_by f ≡ 0
nothing_due f none = by f.position none
  where
    by : (s : Position) → ready_in s ≡ false → due_in s ≡ 0
    by (position.Unread start skip) none = absurd cc
    by (position.Within pending) none = left pending.left none
      where
        left : (bs : List BindingValue) → are_left bs ≡ false → length bs ≡ 0
        left [] none = refl
        left (b ∷ bs) none = absurd cc
    by (position.Between skip) none = refl
    by (position.End passed) none = refl
    by (position.Fault fault) none = refl

-- nothing was ready, and the next was asked for
pub lists_at_rest : (old mid new : ListingState) (some : Bool) → EmptiesReady old mid → ListsNext mid (Ok some) new → ListsAll old new
lists_at_rest old mid new false first all = lists_all old mid new first.keeps all
lists_at_rest old mid new true first one = absurd (omega (arith, one.falls, nothing_due mid.finder first.none_ready))

-- one could not be
pub stops_after : (old mid new : ListingState) (e : RunError) → KeepsListed old mid → StopsReady mid e new → StopsReady old e new
stops_after old mid new e first stops = record {
  error = stops.error;
  leaves = λ text options start h. leaves_from old.path text options old.finder mid.finder e start new.written first.unfed.fed first.unfed.open_yet (stops_ready old.path mid new e first.goes_on.same_path stops text options start (first.listed text options start h));
}

-- ---- the end

-- the text ended, and all that was ready then was listed
pub ends_in_all : (old new : ListingState) (next : PieceFinderState) → EndsFeeding old.finder (Ok tt) next → ListsAll (record old { finder = next }) new → EndsListing old new
ends_in_all old new next ends all = record {
  fine = all.keeps.goes_on.fine;
  whole = λ text options start h. all.whole text options start (ends_listed old.path text options old.finder next start old.written h ends) ends.no_fault (still_ended next new.finder ends.ended all.keeps.unfed.open_yet all.keeps.unfed.stays);
}

-- the text ended in an error
pub stops_at_end : GivenBegin → (old : ListingState) (e : FindError) (next : PieceFinderState) → old.last ≡ last.Fine → EndsFeeding old.finder (Err e) next → StopsAtEnd old (run_error_of e) (record old { finder = next })
stops_at_end begin old e next fine ends = record {
  error = error_of_find e old.last fine;
  leaves = λ text options start h. leaves_at_end begin old.path text options old.finder next e start old.written ends h;
}

-- the text ended, and what was ready then could not be listed
pub stops_after_end : (old new : ListingState) (next : PieceFinderState) (e : RunError) → EndsFeeding old.finder (Ok tt) next → StopsReady (record old { finder = next }) e new → StopsAtEnd old e new
stops_after_end old new next e ends stops = record {
  error = stops.error;
  leaves = λ text options start h. leaves_ready old.path text options next e start new.written (stops.leaves text options start (ends_listed old.path text options old.finder next start old.written h ends));
}
