-- What the steps of a run promise one another. Contracts of private functions alone cite these.
--
-- Four definitions say what was listed. Two look at one text, `GivenAreListed` and `SettledAreListed`, and two at each text
-- that begins with the bytes fed, `HasListedGiven` and `HasListedSettled`. Given is what the finder has given so far. Settled
-- is all that the bytes fed settle, while these decide no fault.
use Rattle.std.specs.Prelude.{◌≡◌, ◌≤◌, ℕ, false, Option, Some, Result, Ok, Err, List, ◌++◌, length, take}
use Rattle.std.specs.Io.KnownBytes.{Appends, Consumes}
use Rattle.py_lines.specs.ScannerState.{GoesOnWith}
use Rattle.py_lines.specs.declared.fault.Fault.{Fault}
use Rattle.py_imports.specs.BindingValue.{BindingValue}
use Rattle.isort_find.specs.Found.{IsFound}
use Rattle.isort_find.specs.Settled.{DecidesFound}
use Rattle.isort_find.specs.Pieces.{PieceFinderState, HasNoFault, HasFoundIn, AreSettled, AreAllSettled, IsUndecided, options_for, fed_by, has_ready}
use Rattle.isort_find.specs.declared.options.FindOptions.{FindOptions}
use Rattle.isort_cmd.specs.Printed.{printed}
use Rattle.isort_cmd.specs.Written.{AreFed, ListsFound, ListsPrefix}
use Rattle.isort_sort.specs.Metered.{IsGivenUp}
use Rattle.isort_sort.specs.declared.metered.Last.{Last}
use Rattle.isort_sort.specs.declared.metered.Last.TheVariants as last
use Rattle.isort_cmd.specs.declared.error.RunError.{RunError}
use Rattle.isort_cmd.specs.declared.error.RunError.TheVariants as run

-- the errors of one read, and what the reader's last call then was
abbrev pub IsReadError : RunError → Last → Type 0
IsReadError run.Read l = l ≡ last.Failed
IsReadError run.NeverEnds l = l ≡ last.Interrupted 1000
IsReadError _ l = ⊥

-- the errors of listing what was read, and how the writer's last call then ended
abbrev pub IsOutputError : RunError → Last → Type 0
IsOutputError (run.Fault f) l = l ≡ last.Fine
IsOutputError run.Write l = IsGivenUp l
IsOutputError run.Memory l = l ≡ last.Fine
IsOutputError _ l = ⊥

-- What a finder over chunks gave of this text was listed, and before the text's end the bytes fed settle it.
pub record GivenAreListed (path text : List ℕ) (options : FindOptions) (finder : PieceFinderState)
    (start now : Option (List ℕ)) : Type 0 where
  pub values : List BindingValue
  pub found : HasFoundIn finder text values
  pub settled : finder.scanning.ended ≡ false → AreSettled finder text values
  pub same_options : options_for finder ≡ options
  pub written : Appends start now (printed path values)

-- the same, and it is all that the bytes fed settle, which decide no fault
pub record SettledAreListed (path text : List ℕ) (options : FindOptions) (finder : PieceFinderState)
    (start now : Option (List ℕ)) : Type 0 where
  pub listed : GivenAreListed path text options finder start now
  pub all : AreAllSettled finder text listed.values
  pub undecided : IsUndecided finder text

-- A finder that was fed just these bytes of a text has met no fault, and for each text that begins with them what it gave
-- was listed.
pub record HasListedGiven (path known : List ℕ) (options : FindOptions) (finder : PieceFinderState)
    (start now : Option (List ℕ)) : Type 0 where
  pub fed : fed_by finder ≡ length known
  pub no_fault : HasNoFault finder
  pub listed : (text : List ℕ) → GoesOnWith text 0 known → GivenAreListed path text options finder start now

-- A finder that was fed just these bytes of a text has nothing ready, and for each text that begins with them what they
-- settle was listed.
pub record HasListedSettled (path known : List ℕ) (options : FindOptions) (finder : PieceFinderState)
    (start now : Option (List ℕ)) : Type 0 where
  pub fed : fed_by finder ≡ length known
  pub none_ready : has_ready finder ≡ false
  pub open_yet : finder.scanning.ended ≡ false
  pub no_fault : HasNoFault finder
  pub listed : (text : List ℕ) → GoesOnWith text 0 known → SettledAreListed path text options finder start now

-- what an error leaves of what was ready in one text; a fault before the text's end is decided
abbrev pub LeavesReady : List ℕ → List ℕ → FindOptions → PieceFinderState → RunError → Option (List ℕ) → Option (List ℕ) → Type 0
LeavesReady path text options old (run.Fault f) start now =
    ListsFound path text options (Some f) start now
    × (old.scanning.ended ≡ false → DecidesFound (take (fed_by old) text) options f)
LeavesReady path text options old run.Write start now = ListsPrefix path text options start now
LeavesReady path text options old run.Memory start now = ListsPrefix path text options start now
LeavesReady path text options old _ start now = ⊥

-- all lines before this fault were written, which is that of each text that begins with these bytes
pub record MeetsFaultAfter (path known : List ℕ) (options : FindOptions) (fault : Fault) (start now : Option (List ℕ)) : Type 0 where
  pub values : List BindingValue
  pub found : (more : List ℕ) → IsFound (known ++ more) options values (Some fault)
  pub written : Appends start now (printed path values)

-- what an error leaves of each text that begins with these bytes
abbrev pub LeavesChunk : List ℕ → List ℕ → FindOptions → RunError → Option (List ℕ) → Option (List ℕ) → Type 0
LeavesChunk path known options (run.Fault f) start now = MeetsFaultAfter path known options f start now
LeavesChunk path known options run.Write start now = (more : List ℕ) → ListsPrefix path (known ++ more) options start now
LeavesChunk path known options run.Memory start now = (more : List ℕ) → ListsPrefix path (known ++ more) options start now
LeavesChunk path known options _ start now = ⊥

-- all that the bytes fed have ready was listed, and they decide no fault
pub record HoldsNone (old new : PieceFinderState) : Type 0 where
  pub fed : fed_by new ≡ fed_by old
  pub open_yet : new.scanning.ended ≡ false
  pub none_ready : has_ready new ≡ false
  pub listed : (path known : List ℕ) (options : FindOptions) (start now : Option (List ℕ))
      → HasListedGiven path known options old start now → HasListedSettled path known options new start now

-- what a look at the byte that is held answers
abbrev pub LooksAtHeld : PieceFinderState → Result (Unit {0}) RunError → PieceFinderState → Type 0
LooksAtHeld old (Ok done) new = HoldsNone old new
LooksAtHeld old (Err e) new = IsOutputError e last.Fine
    × ((path known : List ℕ) (options : FindOptions) (start now : Option (List ℕ))
    → HasListedGiven path known options old start now → LeavesChunk path known options e start now)

-- All that was read, at most `max` bytes, was fed, and what it settles was listed.
pub record ListsRead (path : List ℕ) (options : FindOptions) (max : ℕ) (finder : PieceFinderState)
    (old left start now : Option (List ℕ)) : Type 0 where
  pub known : List ℕ
  pub within : length known ≤ max
  pub consumed : Consumes old left known
  pub listed : HasListedSettled path known options finder start now

-- what an error leaves of each text that begins with these bytes: where reading failed, what they settle was listed
abbrev pub LeavesKnown : List ℕ → List ℕ → FindOptions → PieceFinderState → RunError → Option (List ℕ) → Option (List ℕ) → Type 0
LeavesKnown path known options finder run.Read start now = HasListedSettled path known options finder start now
LeavesKnown path known options finder run.TooLong start now = HasListedSettled path known options finder start now
LeavesKnown path known options finder run.NeverEnds start now = HasListedSettled path known options finder start now
LeavesKnown path known options finder e start now = LeavesChunk path known options e start now

-- what an error leaves of what was read and fed
pub record LeavesFed (path : List ℕ) (options : FindOptions) (max : ℕ) (finder : PieceFinderState) (e : RunError)
    (old left start now : Option (List ℕ)) : Type 0 where
  pub known : List ℕ
  pub fed : AreFed max known old left
  pub leaves : LeavesKnown path known options finder e start now
