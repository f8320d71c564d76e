-- What listing a chunk leaves.
use Rattle.std.proofs.Common.{◌≡◌, ℕ, ◌+◌, ◌-◌, ◌≤◌, false, Option, Err, List, [], ◌++◌, length, take, drop, refl, sym, ap, ◌∙◌, subst, append_assoc, length-append, arith}
use Rattle.std.proofs.lemmas.Grind.{common_steps}
use Rattle.std.proofs.lemmas.List.{append-nil, length-take-le, take-append-drop}
use Rattle.std.specs.Io.KnownBytes.{Keeps}
use Rattle.isort_find.specs.Pieces.{PieceFinderState, TakesFromPiece, FeedsPiece, fed_by, has_ready}
use Rattle.isort_find.specs.declared.options.FindOptions.{FindOptions}
use Rattle.isort_find.specs.declared.error.FindError.{FindError}
use Rattle.isort_sort.specs.Metered.{IsGivenUp}
use Rattle.isort_sort.specs.declared.metered.Last.{Last}
use Rattle.isort_sort.specs.declared.metered.Last.TheVariants as last
use Rattle.isort_cmd.specs.RunError.{run_error_of}
use Rattle.isort_cmd.specs.Private.Stages.{ListingState, EmptiesReady, StopsReady, StopsInChunk, TakesWholeChunk}
use Rattle.isort_cmd.specs.Private.Steps.{IsOutputError, HasListedSettled, HasListedGiven, HoldsNone, LeavesChunk, LooksAtHeld}
use Rattle.isort_cmd.specs.declared.error.RunError.{RunError}
use Rattle.isort_cmd.specs.declared.error.RunError.TheVariants as run
use Rattle.isort_cmd.proofs.ListingLemmas.{GivenBegin}
use Rattle.isort_cmd.proofs.ChunkLemmas.{FoundLaws, prefix_each, has_listed_kept, leaves_each, leaves_fed, looked_listed, taken_listed, to_next}
use Rattle.isort_cmd.proofs.StageLemmas.{error_of_find, goes_at, stops_ready}

-- ---- the byte that is held

-- a look at it decides a fault
pub looks_at_fault : FoundLaws → (old : PieceFinderState) (e : FindError) (new : PieceFinderState) → FeedsPiece old [] (Err e) new → LooksAtHeld old (Err (run_error_of e)) new
looks_at_fault laws old e new feeds = (
  error_of_find e last.Fine refl,
  λ path known options start now to. subst (λ (k : List ℕ). LeavesChunk path k options (run_error_of e) start now) (append-nil known) (leaves_fed laws path known [] options old e new start now feeds to),
)

-- memory ran out
pub looks_at_memory : GivenBegin → (old new : PieceFinderState) → LooksAtHeld old (Err run.Memory) new
looks_at_memory begin old new = (refl, λ path known options start now to. prefix_each begin path known options old start now to.listed)

-- all is well
pub looks_at_none : FoundLaws → (old : PieceFinderState) (n : ℕ) (new : PieceFinderState) → old.scanning.ended ≡ false → TakesFromPiece old [] n new → has_ready new ≡ false → HoldsNone old new
looks_at_none laws old n new open_yet takes none =
    let no_byte : n ≡ 0 = takes.takes.whole none in
    record {
      fed = takes.takes.fed ∙ ap (λ (m : ℕ). fed_by old + m) no_byte ∙ omega arith;
      open_yet = takes.after.yet;
      none_ready = none;
      listed = λ path known options start now to. looked_listed laws path known options old n new start now open_yet takes none to;
    }

-- ---- inside a chunk

-- These bytes of a chunk are left. Of the others all that is ready was listed.
pub record IsAmid (chunk rest : List ℕ) (old now : ListingState) : Type 0 where
  pub same_path : now.path ≡ old.path
  pub fine : now.last ≡ last.Fine
  pub taken : List ℕ
  pub split : taken ++ rest ≡ chunk
  pub fed : fed_by now.finder ≡ fed_by old.finder + length taken
  pub open_yet : now.finder.scanning.ended ≡ false
  pub none_ready : has_ready now.finder ≡ false
  pub listed : (known : List ℕ) (options : FindOptions) (start : Option (List ℕ)) → HasListedSettled old.path known options old.finder start old.written → HasListedGiven old.path (known ++ taken) options now.finder start now.written

pub amid_first : (chunk : List ℕ) (s : ListingState) → s.last ≡ last.Fine → s.finder.scanning.ended ≡ false → has_ready s.finder ≡ false → IsAmid chunk chunk s s
amid_first chunk s fine open_yet none = record {
  same_path = refl;
  fine = fine;
  taken = [];
  split = refl;
  fed = omega arith;
  open_yet = open_yet;
  none_ready = none;
  listed = λ known options start listed. subst (λ (k : List ℕ). HasListedGiven s.path k options s.finder start s.written) (sym (append-nil known)) (record {
    fed = listed.fed;
    no_fault = listed.no_fault;
    listed = λ text goes. (listed.listed text goes).listed;
  });
}

-- the first bytes, and the others as a slice of them
parts_of : (n : ℕ) (bytes : List ℕ) → n ≤ length bytes → take n bytes ++ take (length bytes - n) (drop n bytes) ≡ bytes
parts_of n bytes within = grind (arith, common_steps)

-- more bytes of the chunk were taken, and what got ready was listed
pub amid_next : FoundLaws → (chunk rest : List ℕ) (old now : ListingState) (n : ℕ) (mid : PieceFinderState) (new : ListingState) → IsAmid chunk rest old now → TakesFromPiece now.finder rest n mid → EmptiesReady (record now { finder = mid }) new → IsAmid chunk (take (length rest - n) (drop n rest)) old new
amid_next laws chunk rest old now n mid new amid takes all =
    let keeps = all.keeps in
    let size = length-take-le n rest takes.takes.within in
    let joined = length-append amid.taken (take n rest) in
    let was = amid.fed in
    let is = takes.takes.fed in
    let same = keeps.unfed.fed in
    let left = take (length rest - n) (drop n rest) in
    record {
      same_path = keeps.goes_on.same_path ∙ amid.same_path;
      fine = keeps.goes_on.fine;
      taken = amid.taken ++ take n rest;
      split = append_assoc amid.taken (take n rest) left ∙ ap (λ x. amid.taken ++ x) (parts_of n rest takes.takes.within) ∙ amid.split;
      fed = omega arith;
      open_yet = keeps.unfed.open_yet ∙ takes.after.yet;
      none_ready = all.none_ready;
      listed = λ known options start so_far.
          let to = taken_listed laws old.path (known ++ amid.taken) rest options now.finder n mid start now.written amid.open_yet takes (amid.listed known options start so_far) in
          subst (λ (k : List ℕ). HasListedGiven old.path k options new.finder start new.written) (append_assoc known amid.taken (take n rest)) (to_next old.path ((known ++ amid.taken) ++ take n rest) options mid new.finder start now.written new.written keeps.unfed.fed keeps.unfed.no_fault (λ text. goes_at old.path (record now { finder = mid }) new amid.same_path keeps text options start) to);
    }

-- feeding more of the chunk failed
pub amid_fed : FoundLaws → (chunk rest : List ℕ) (old now : ListingState) (e : FindError) (mid : PieceFinderState) → IsAmid chunk rest old now → FeedsPiece now.finder rest (Err e) mid → StopsInChunk old chunk (run_error_of e) (record now { finder = mid })
amid_fed laws chunk rest old now e mid amid feeds = record {
  error = error_of_find e now.last amid.fine;
  leaves = λ known options start so_far.
      let whole : (known ++ amid.taken) ++ rest ≡ known ++ chunk = append_assoc known amid.taken rest ∙ ap (λ x. known ++ x) amid.split in
      subst (λ (k : List ℕ). LeavesChunk old.path k options (run_error_of e) start now.written) whole (leaves_fed laws old.path (known ++ amid.taken) rest options now.finder e mid start now.written feeds (amid.listed known options start so_far));
}

-- more of the chunk was taken, and listing what got ready failed
pub amid_ready : FoundLaws → (chunk rest : List ℕ) (old now : ListingState) (n : ℕ) (mid : PieceFinderState) (e : RunError) (new : ListingState) → IsAmid chunk rest old now → TakesFromPiece now.finder rest n mid → StopsReady (record now { finder = mid }) e new → StopsInChunk old chunk e new
amid_ready laws chunk rest old now n mid e new amid takes stops = record {
  error = stops.error;
  leaves = λ known options start so_far.
      let to = taken_listed laws old.path (known ++ amid.taken) rest options now.finder n mid start now.written amid.open_yet takes (amid.listed known options start so_far) in
      let whole : ((known ++ amid.taken) ++ take n rest) ++ drop n rest ≡ known ++ chunk = append_assoc (known ++ amid.taken) (take n rest) (drop n rest) ∙ ap (λ x. (known ++ amid.taken) ++ x) (take-append-drop n rest) ∙ append_assoc known amid.taken rest ∙ ap (λ x. known ++ x) amid.split in
      subst (λ (k : List ℕ). LeavesChunk old.path k options e start new.written) whole (leaves_each laws old.path ((known ++ amid.taken) ++ take n rest) (drop n rest) options mid e start new.written to.fed takes.after.yet (λ text goes. stops_ready old.path (record now { finder = mid }) new e amid.same_path stops text options start (to.listed text goes)));
}

-- ---- where the chunk was taken whole

-- what was listed of it
listed_whole : (chunk rest : List ℕ) (old now : ListingState) → (amid : IsAmid chunk rest old now) → rest ≡ [] → (known : List ℕ) (options : FindOptions) (start : Option (List ℕ)) → HasListedSettled old.path known options old.finder start old.written → HasListedGiven old.path (known ++ chunk) options now.finder start now.written
listed_whole chunk rest old now amid none known options start so_far = subst (λ (k : List ℕ). HasListedGiven old.path (known ++ k) options now.finder start now.written) (taken_whole amid none) (amid.listed known options start so_far)
  where
    taken_whole : (a : IsAmid chunk rest old now) → rest ≡ [] → a.taken ≡ chunk
    taken_whole a empty = sym (append-nil a.taken) ∙ ap (λ x. a.taken ++ x) (sym empty) ∙ a.split

-- the byte that is held decides a fault
pub amid_looked : (chunk rest : List ℕ) (old now : ListingState) (e : RunError) (mid : PieceFinderState) → IsAmid chunk rest old now → rest ≡ [] → LooksAtHeld now.finder (Err e) mid → StopsInChunk old chunk e (record now { finder = mid })
amid_looked chunk rest old now e mid amid none looks = record {
  error = subst (λ (l : Last). IsOutputError e l) (sym amid.fine) looks.0;
  leaves = λ known options start so_far. looks.1 old.path (known ++ chunk) options start now.written (listed_whole chunk rest old now amid none known options start so_far);
}

-- all is well
pub amid_whole : (chunk rest : List ℕ) (old now : ListingState) (mid : PieceFinderState) → IsAmid chunk rest old now → rest ≡ [] → HoldsNone now.finder mid → TakesWholeChunk old chunk (record now { finder = mid })
amid_whole chunk rest old now mid amid none holds =
    let whole : amid.taken ≡ chunk = sym (append-nil amid.taken) ∙ ap (λ x. amid.taken ++ x) (sym none) ∙ amid.split in
    record {
      goes_on = record { same_path = amid.same_path; fine = amid.fine };
      feeds = record {
        fed = holds.fed ∙ amid.fed ∙ ap (λ (x : List ℕ). fed_by old.finder + length x) whole;
        open_yet = holds.open_yet;
        none_ready = holds.none_ready;
      };
      listed = λ known options start so_far. holds.listed old.path (known ++ chunk) options start now.written (listed_whole chunk rest old now amid none known options start so_far);
    }

-- the writer was flushed
pub flushed : (chunk : List ℕ) (old now : ListingState) (written : Option (List ℕ)) (l : Last) → TakesWholeChunk old chunk now → Keeps now.written written → l ≡ last.Fine → TakesWholeChunk old chunk (record now { written = written; last = l })
flushed chunk old now written l takes kept fine = record {
  goes_on = record { same_path = takes.goes_on.same_path; fine = fine };
  feeds = takes.feeds;
  listed = λ known options start so_far. has_listed_kept old.path (known ++ chunk) options now.finder start now.written written kept (takes.listed known options start so_far);
}

-- flushing failed
pub stops_at_flush : GivenBegin → (chunk : List ℕ) (old now : ListingState) (written : Option (List ℕ)) (l : Last) → TakesWholeChunk old chunk now → Keeps now.written written → IsGivenUp l → StopsInChunk old chunk run.Write (record now { written = written; last = l })
stops_at_flush begin chunk old now written l takes kept given_up = record {
  error = given_up;
  leaves = λ known options start so_far.
      let all = has_listed_kept old.path (known ++ chunk) options now.finder start now.written written kept (takes.listed known options start so_far) in
      prefix_each begin old.path (known ++ chunk) options now.finder start written (λ text goes. (all.listed text goes).listed);
}
