-- What the calls of a listing promise one another, from one stage to the next. Contracts of private functions alone cite these.
use Rattle.std.specs.Prelude.{◌≡◌, ◌<◌, ◌+◌, ℕ, Bool, true, false, Option, None, IfSome, Result, Ok, Err, OnOk, IfErr, List, ◌++◌, length}
use Rattle.std.specs.Io.KnownBytes.{Appends, IsAtEnd}
use Rattle.std.specs.List.{list_any}
use Rattle.py_lines.specs.declared.fault.Fault.{Fault}
use Rattle.isort_find.specs.Pieces.{PieceFinderState, IsOver, HasNoFault, IsFedNothing, options_for, due_by, fed_by, has_ready}
use Rattle.isort_find.specs.declared.options.FindOptions.{FindOptions}
use Rattle.isort_sort.specs.Metered.{inner_of, last_of}
use Rattle.isort_sort.specs.declared.metered.Last.{Last}
use Rattle.isort_sort.specs.declared.metered.Last.TheVariants as last
use Rattle.isort_sort.specs.declared.metered.Metered.{Metered}
use Rattle.isort_cmd.specs.RunError.{EndsReading, EndsWriting, IsUnread, LeavesWriter}
use Rattle.isort_cmd.specs.Private.Steps.{IsOutputError, GivenAreListed, HasListedSettled, LeavesReady, LeavesChunk, ListsRead, LeavesFed}
use Rattle.isort_cmd.specs.Written.{ListsFound, ListsInput, ListsUnread, ListsFaulty, LeavesAtError, LeavesInput}
use Rattle.isort_cmd.specs.declared.error.RunError.{RunError}
use Rattle.isort_cmd.specs.declared.error.RunError.TheVariants as run
use Rattle.isort_cmd.specs.declared.listing.Listing.{Listing}

-- Where a listing stands: the path of its lines, its finder, what its writer has taken, and how the writer's last call ended.
pub record ListingState : Type 0 where
  pub path : List ℕ
  pub finder : PieceFinderState
  pub written : Option (List ℕ)
  pub last : Last

-- where a listing and its writer stand
abbrev pub listing_state : {W : Type 0} → (W → Option (List ℕ)) → Listing → Metered W → ListingState
listing_state contents listing writer = record {
  path = listing.path.now;
  finder = listing.finder;
  written = contents (inner_of writer);
  last = last_of writer;
}

-- a listing goes on: its path is the same, and its writer's last call was fine
pub record GoesOn (old new : ListingState) : Type 0 where
  pub same_path : new.path ≡ old.path
  pub fine : new.last ≡ last.Fine

-- what holds of each text, where what was given of it was listed
abbrev pub WhereGivenListed : ListingState → (List ℕ → FindOptions → Option (List ℕ) → Type 0) → Type 0
WhereGivenListed old Then =
    (text : List ℕ) (options : FindOptions) (start : Option (List ℕ))
    → GivenAreListed old.path text options old.finder start old.written → Then text options start

-- what was given was listed, and nothing was fed
pub record KeepsListed (old new : ListingState) : Type 0 where
  pub goes_on : GoesOn old new
  pub unfed : IsFedNothing old.finder new.finder
  pub listed : WhereGivenListed old (λ text options start. GivenAreListed old.path text options new.finder start new.written)

-- one import that was ready was listed
pub record ListsOne (old new : ListingState) : Type 0 where
  pub keeps : KeepsListed old new
  pub falls : due_by new.finder < due_by old.finder

-- nothing more is ready, and what was listed is all that is found once the text is over
pub record ListsAll (old new : ListingState) : Type 0 where
  pub keeps : KeepsListed old new
  pub none_ready : has_ready new.finder ≡ false
  pub whole : WhereGivenListed old (λ text options start.
      HasNoFault old.finder → IsOver new.finder → ListsFound old.path text options None start new.written)

-- all that was ready was listed
pub record EmptiesReady (old new : ListingState) : Type 0 where
  pub keeps : KeepsListed old new
  pub none_ready : has_ready new.finder ≡ false

-- listing what was ready failed
pub record StopsReady (old : ListingState) (e : RunError) (new : ListingState) : Type 0 where
  pub error : IsOutputError e new.last
  pub leaves : WhereGivenListed old (λ text options start. LeavesReady old.path text options old.finder e start new.written)

-- bytes joined what a writer had taken, and this is whether there were any
pub record TellsWritten (some : Bool) (old new : Option (List ℕ)) : Type 0 where
  pub bytes : List ℕ
  pub written : Appends old new bytes
  pub any : some ≡ list_any (λ b. true) bytes

-- what a call that lists the next import answers
abbrev pub ListsNext : ListingState → Result Bool RunError → ListingState → Type 0
ListsNext old (Ok true) new = ListsOne old new
ListsNext old (Ok false) new = ListsAll old new
ListsNext old (Err e) new = StopsReady old e new

-- what one that lists all that are ready answers
abbrev pub ListsReady : ListingState → Result Bool RunError → ListingState → Type 0
ListsReady old (Ok some) new = EmptiesReady old new
ListsReady old (Err e) new = StopsReady old e new

-- a finder was fed a chunk whole, and nothing is ready
pub record IsFedChunk (old : PieceFinderState) (chunk : List ℕ) (new : PieceFinderState) : Type 0 where
  pub fed : fed_by new ≡ fed_by old + length chunk
  pub open_yet : new.scanning.ended ≡ false
  pub none_ready : has_ready new ≡ false

-- what holds of the bytes that were fed, where what they settle was listed
abbrev pub WhereSettledListed : ListingState → (List ℕ → FindOptions → Option (List ℕ) → Type 0) → Type 0
WhereSettledListed old Then =
    (known : List ℕ) (options : FindOptions) (start : Option (List ℕ))
    → HasListedSettled old.path known options old.finder start old.written → Then known options start

-- a chunk was fed whole, and what it settles was listed
pub record TakesWholeChunk (old : ListingState) (chunk : List ℕ) (new : ListingState) : Type 0 where
  pub goes_on : GoesOn old new
  pub feeds : IsFedChunk old.finder chunk new.finder
  pub listed : WhereSettledListed old (λ known options start.
      HasListedSettled old.path (known ++ chunk) options new.finder start new.written)

-- listing a chunk failed
pub record StopsInChunk (old : ListingState) (chunk : List ℕ) (e : RunError) (new : ListingState) : Type 0 where
  pub error : IsOutputError e new.last
  pub leaves : WhereSettledListed old (λ known options start. LeavesChunk old.path (known ++ chunk) options e start new.written)

-- what a call that lists a chunk answers
abbrev pub ListsChunk : ListingState → List ℕ → Result (Unit {0}) RunError → ListingState → Type 0
ListsChunk old chunk (Ok done) new = TakesWholeChunk old chunk new
ListsChunk old chunk (Err e) new = StopsInChunk old chunk e new

-- all that was read, at most `max` bytes, was fed, and what it settles was listed
pub record TakesInput (old : ListingState) (max : ℕ) (given left : Option (List ℕ)) (new : ListingState) : Type 0 where
  pub goes_on : GoesOn old new
  pub lists : ListsRead old.path (options_for old.finder) max new.finder given left old.written new.written

-- reading or listing failed
pub record StopsInput (old : ListingState) (max : ℕ) (given : Option (List ℕ)) (e : RunError) (left : Option (List ℕ))
    (new : ListingState) : Type 0 where
  pub writer : LeavesWriter e new.last
  pub leaves : LeavesFed old.path (options_for old.finder) max new.finder e given left old.written new.written
  pub too_long : e ≡ run.TooLong → IfSome given (λ text. max < length text)

-- what a call that reads and lists to the end answers
abbrev pub ListsChunks : ListingState → ℕ → Option (List ℕ) → Result (Unit {0}) RunError → Option (List ℕ) → ListingState → Type 0
ListsChunks old max given (Ok done) left new = TakesInput old max given left new × IsAtEnd left
ListsChunks old max given (Err e) left new = StopsInput old max given e left new

-- the text ended, and the lines of all that is found in it were written
pub record EndsListing (old new : ListingState) : Type 0 where
  pub fine : new.last ≡ last.Fine
  pub whole : WhereSettledListed old (λ text options start. ListsFound old.path text options None start new.written)

-- listing what the end makes ready failed
pub record StopsAtEnd (old : ListingState) (e : RunError) (new : ListingState) : Type 0 where
  pub error : IsOutputError e new.last
  pub leaves : WhereSettledListed old (λ text options start. LeavesAtError old.path text options e start new.written)

-- what a call that ends the text answers
abbrev pub ListsEnd : ListingState → Result (Unit {0}) RunError → ListingState → Type 0
ListsEnd old (Ok done) new = EndsListing old new
ListsEnd old (Err e) new = StopsAtEnd old e new

-- what is listed of a reader's text, at its end or at an error
abbrev pub Identified : List ℕ → FindOptions → ℕ → Result (Unit {0}) RunError → Option (List ℕ) → Option (List ℕ)
    → Option (List ℕ) → Option (List ℕ) → Last → Last → Type 0
Identified path options max r given left old new reader writer = record {
  ok : OnOk r (ListsInput path options max given left old new);
  err : IfErr r (λ e. LeavesInput path options max e given old new);
  unread : IfErr r (λ e. IsUnread e → ListsUnread path options max given left old new);
  fault : IfErr r (λ e. (f : Fault) → e ≡ run.Fault f → ListsFaulty path options max f given left old new);
  reader : EndsReading r reader;
  writer : EndsWriting r writer;
}
