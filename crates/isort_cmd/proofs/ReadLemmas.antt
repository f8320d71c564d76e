-- What is listed of chunks that are read and fed, one after the other.
use Rattle.std.proofs.Common.{◌≡◌, ℕ, ◌+◌, ◌-◌, ◌<◌, ◌≤◌, ◌∙◌, refl, sym, ap, subst, Bool, true, false, Option, None, Some, IfSome, List, [], ◌++◌, length, min, take, length-append, arith, nat_lt, ltb-true, ltb-false}
use Rattle.std.proofs.Math.Seq.{take-append-add}
use Rattle.std.proofs.lemmas.List.{append-nil, length-take, length-take-le, take-take, take_all}
use Rattle.std.proofs.KnownBytes.{Consumes-trans, Consumes-kept}
use Rattle.std.specs.Io.KnownBytes.{Consumes, Keeps}
use Rattle.isort_find.specs.Pieces.{PieceFinderState, fed_by, options_for}
use Rattle.isort_find.specs.declared.options.FindOptions.{FindOptions}
use Rattle.isort_sort.specs.declared.metered.Last.{Last}
use Rattle.isort_sort.specs.declared.metered.Last.TheVariants as last
use Rattle.isort_cmd.specs.RunError.{LeavesReader, LeavesWriter}
use Rattle.isort_cmd.specs.Private.Stages.{ListingState, StopsInChunk, StopsInput, TakesWholeChunk, TakesInput}
use Rattle.isort_cmd.specs.Private.Steps.{IsOutputError, IsReadError, HasListedSettled, LeavesChunk, LeavesKnown}
use Rattle.isort_cmd.specs.Written.{AreFed}
use Rattle.isort_cmd.specs.declared.error.RunError.{RunError}
use Rattle.isort_cmd.specs.declared.error.RunError.TheVariants as run

-- no more than `max` bytes are those that are fed
pub fed_whole : (max : ℕ) (known : List ℕ) (old left : Option (List ℕ)) → length known ≤ max → Consumes old left known → AreFed max known old left
fed_whole max known old left within consumed = record { read = known; consumed = consumed; first = sym (take_all max known within) }

-- of the bytes that came, those that fit
take_room : (max n : ℕ) (known buffer : List ℕ) → length known ≤ max → max - length known ≤ n → known ++ take (max - length known) buffer ≡ take max (known ++ take n buffer)
take_room max n known buffer within room =
    let whole : length known + (max - length known) ≡ max = omega (arith, within) in
    sym (ap (λ m. take m (known ++ take n buffer)) (sym whole) ∙ take-append-add known (take n buffer) (max - length known) ∙ ap (λ l. known ++ l) (take-take (max - length known) n buffer room))

-- those are the first `max` of all
take_fitting : (max n fitting : ℕ) (known buffer : List ℕ) → length known ≤ max → n ≤ length buffer → fitting ≡ min (max - length known) n → known ++ take fitting buffer ≡ take max (known ++ take n buffer)
take_fitting max n fitting known buffer within there is = go (nat_lt n (max - length known)) refl
  where
    go : (fits : Bool) → nat_lt n (max - length known) ≡ fits → known ++ take fitting buffer ≡ take max (known ++ take n buffer)
    go true t =
        let less = ltb-true _ _ t in
        let all : fitting ≡ n = omega (arith, less, is) in
        let size = length-append known (take n buffer) ∙ ap (λ m. length known + m) (length-take-le n buffer there) in
        ap (λ m. known ++ take m buffer) all ∙ sym (take_all max (known ++ take n buffer) (omega (arith, size, less, within)))
    go false t =
        let over = ltb-false _ _ t in
        let some : fitting ≡ max - length known = omega (arith, over, is) in
        ap (λ m. known ++ take m buffer) some ∙ take_room max n known buffer within (omega (arith, over))

leaves_read_error : (path known : List ℕ) (options : FindOptions) (finder : PieceFinderState) (e : RunError) (l : Last) (start now : Option (List ℕ)) → IsReadError e l → HasListedSettled path known options finder start now → LeavesKnown path known options finder e start now
leaves_read_error path known options finder (run.Fault f) l start now h listed = absurd h
leaves_read_error path known options finder run.Write l start now h listed = absurd h
leaves_read_error path known options finder run.Memory l start now h listed = absurd h
leaves_read_error path known options finder run.Read l start now h listed = listed
leaves_read_error path known options finder run.TooLong l start now h listed = listed
leaves_read_error path known options finder run.NeverEnds l start now h listed = listed

leaves_chunk_error : (path known : List ℕ) (options : FindOptions) (finder : PieceFinderState) (e : RunError) (start now : Option (List ℕ)) → LeavesChunk path known options e start now → LeavesKnown path known options finder e start now
leaves_chunk_error path known options finder (run.Fault f) start now h = h
leaves_chunk_error path known options finder run.Write start now h = h
leaves_chunk_error path known options finder run.Memory start now h = h
leaves_chunk_error path known options finder run.Read start now h = absurd h
leaves_chunk_error path known options finder run.TooLong start now h = absurd h
leaves_chunk_error path known options finder run.NeverEnds start now h = absurd h

-- ---- a read failed

-- what the reader's last call then was
pub ends_reading : (e : RunError) (l : Last) → IsReadError e l → LeavesReader e l
ends_reading (run.Fault f) l h = absurd h
ends_reading run.Write l h = absurd h
ends_reading run.Memory l h = absurd h
ends_reading run.Read l h = h
ends_reading run.TooLong l h = absurd h
ends_reading run.NeverEnds l h = h

unread_writer : (e : RunError) (l writer : Last) → IsReadError e l → writer ≡ last.Fine → LeavesWriter e writer
unread_writer (run.Fault f) l writer h fine = absurd h
unread_writer run.Write l writer h fine = absurd h
unread_writer run.Memory l writer h fine = absurd h
unread_writer run.Read l writer h fine = fine
unread_writer run.TooLong l writer h fine = absurd h
unread_writer run.NeverEnds l writer h fine = fine

no_read_is_too_long : (e : RunError) (l : Last) → IsReadError e l → e ≡ run.TooLong → ⊥
no_read_is_too_long e l h is = subst (λ x. IsReadError x l) is h

pub read_stops : (old now : ListingState) (max : ℕ) (given mid left : Option (List ℕ)) (e : RunError) (l : Last) → TakesInput old max given mid now → Keeps mid left → IsReadError e l → StopsInput old max given e left now
read_stops old now max given mid left e l takes kept h = record {
  writer = unread_writer e l now.last h takes.goes_on.fine;
  leaves = record {
    known = takes.lists.known;
    fed = fed_whole max takes.lists.known given left takes.lists.within (Consumes-kept given mid left takes.lists.known takes.lists.consumed kept);
    leaves = leaves_read_error old.path takes.lists.known (options_for old.finder) now.finder e l old.written now.written h takes.lists.listed;
  };
  too_long = λ is. absurd (no_read_is_too_long e l h is);
}

-- ---- a chunk was read

-- nothing was read yet
pub takes_nothing : (s : ListingState) (max : ℕ) (given : Option (List ℕ)) → s.last ≡ last.Fine → Consumes given given [] → HasListedSettled s.path [] (options_for s.finder) s.finder s.written s.written → TakesInput s max given given s
takes_nothing s max given fine none nothing_fed = record {
  goes_on = record { same_path = refl; fine = fine };
  lists = record { known = []; within = omega arith; consumed = none; listed = nothing_fed };
}

-- no byte came
pub takes_no_more : (old now : ListingState) (max n : ℕ) (buffer : List ℕ) (given mid left : Option (List ℕ)) → TakesInput old max given mid now → n ≡ 0 → Consumes mid left (take n buffer) → TakesInput old max given left now
takes_no_more old now max n buffer given mid left takes none read = record {
  goes_on = takes.goes_on;
  lists = record {
    known = takes.lists.known;
    within = takes.lists.within;
    consumed = subst (λ (bytes : List ℕ). Consumes given left bytes) (ap (λ m. takes.lists.known ++ take m buffer) none ∙ append-nil takes.lists.known) (Consumes-trans given mid left takes.lists.known (take n buffer) takes.lists.consumed read);
    listed = takes.lists.listed;
  };
}

-- how many of them fit
room_of : (old now : ListingState) (max n fed fitting : ℕ) (given mid : Option (List ℕ)) → (takes : TakesInput old max given mid now) → fed ≡ fed_by now.finder → fitting ≡ min (max - fed) n → fitting ≡ min (max - length takes.lists.known) n
room_of old now max n fed fitting given mid takes same is = is ∙ ap (λ m. min (max - m) n) (same ∙ takes.lists.listed.fed)

-- the bytes that are fed of what was read
fed_fitting : (old now : ListingState) (max n fed fitting : ℕ) (buffer : List ℕ) (given mid left : Option (List ℕ)) → (takes : TakesInput old max given mid now) → n ≤ length buffer → Consumes mid left (take n buffer) → fed ≡ fed_by now.finder → fitting ≡ min (max - fed) n → AreFed max (takes.lists.known ++ take fitting buffer) given left
fed_fitting old now max n fed fitting buffer given mid left takes there read same is = record {
  read = takes.lists.known ++ take n buffer;
  consumed = Consumes-trans given mid left takes.lists.known (take n buffer) takes.lists.consumed read;
  first = take_fitting max n fitting takes.lists.known buffer takes.lists.within there (room_of old now max n fed fitting given mid takes same is);
}

-- with them no more than `max` bytes are fed
pub fed_within : (old now : ListingState) (max n fed fitting : ℕ) (buffer : List ℕ) (given mid : Option (List ℕ)) → (takes : TakesInput old max given mid now) → fed ≡ fed_by now.finder → fitting ≡ min (max - fed) n → fed_by now.finder + length (take fitting buffer) ≤ max
fed_within old now max n fed fitting buffer given mid takes same is = omega (arith, same, is, takes.lists.listed.fed, takes.lists.within, length-take fitting buffer)

-- the writer, after listing failed
pub stopped_writer : (e : RunError) (l : Last) → IsOutputError e l → LeavesWriter e l
stopped_writer (run.Fault f) l h = h
stopped_writer run.Write l h = h
stopped_writer run.Memory l h = h
stopped_writer run.Read l h = absurd h
stopped_writer run.TooLong l h = absurd h
stopped_writer run.NeverEnds l h = absurd h

-- the reader, whose last call was fine
pub read_well : (e : RunError) (l writer : Last) → IsOutputError e writer → l ≡ last.Fine → LeavesReader e l
read_well (run.Fault f) l writer h fine = fine
read_well run.Write l writer h fine = fine
read_well run.Memory l writer h fine = fine
read_well run.Read l writer h fine = absurd h
read_well run.TooLong l writer h fine = fine
read_well run.NeverEnds l writer h fine = absurd h

pub no_output_is_too_long : (e : RunError) (l : Last) → IsOutputError e l → e ≡ run.TooLong → ⊥
no_output_is_too_long e l h is = subst (λ x. IsOutputError x l) is h

-- listing what fits failed
pub chunk_stops : (old now new : ListingState) (max n fed fitting : ℕ) (buffer : List ℕ) (given mid left : Option (List ℕ)) (e : RunError) → TakesInput old max given mid now → n ≤ length buffer → Consumes mid left (take n buffer) → fed ≡ fed_by now.finder → fitting ≡ min (max - fed) n → StopsInChunk now (take fitting buffer) e new → StopsInput old max given e left new
chunk_stops old now new max n fed fitting buffer given mid left e takes there read same is stops =
    let lists = takes.lists in
    let known = lists.known ++ take fitting buffer in
    let options = options_for old.finder in
    let listed = subst (λ (p : List ℕ). HasListedSettled p lists.known options now.finder old.written now.written) (sym takes.goes_on.same_path) lists.listed in
    let leaves = subst (λ (p : List ℕ). LeavesChunk p known options e old.written new.written) takes.goes_on.same_path (stops.leaves lists.known options old.written listed) in
    record {
      writer = stopped_writer e new.last stops.error;
      leaves = record {
        known = known;
        fed = fed_fitting old now max n fed fitting buffer given mid left takes there read same is;
        leaves = leaves_chunk_error old.path known options new.finder e old.written new.written leaves;
      };
      too_long = λ long. absurd (no_output_is_too_long e new.last stops.error long);
    }

-- what fits was listed
listed_fitting : (old now new : ListingState) (max : ℕ) (chunk : List ℕ) (given mid : Option (List ℕ)) → (takes : TakesInput old max given mid now) → TakesWholeChunk now chunk new → HasListedSettled old.path (takes.lists.known ++ chunk) (options_for old.finder) new.finder old.written new.written
listed_fitting old now new max chunk given mid takes all =
    let lists = takes.lists in
    let options = options_for old.finder in
    let listed = subst (λ (p : List ℕ). HasListedSettled p lists.known options now.finder old.written now.written) (sym takes.goes_on.same_path) lists.listed in
    subst (λ (p : List ℕ). HasListedSettled p (lists.known ++ chunk) options new.finder old.written new.written) takes.goes_on.same_path (all.listed lists.known options old.written listed)

consumed_long : (max : ℕ) (given left : Option (List ℕ)) (bytes : List ℕ) → Consumes given left bytes → max < length bytes → IfSome given (λ text. max < length text)
consumed_long max None left bytes consumed long = tt
consumed_long max (Some text) None bytes consumed long = absurd consumed
consumed_long max (Some text) (Some rest) bytes consumed long =
    let size = ap length consumed ∙ length-append bytes rest in
    omega (arith, size, long)

-- and more came
pub more_came : (old now new : ListingState) (max n fed fitting : ℕ) (buffer : List ℕ) (given mid left : Option (List ℕ)) → TakesInput old max given mid now → n ≤ length buffer → Consumes mid left (take n buffer) → fed ≡ fed_by now.finder → fitting ≡ min (max - fed) n → fitting < n → TakesWholeChunk now (take fitting buffer) new → StopsInput old max given run.TooLong left new
more_came old now new max n fed fitting buffer given mid left takes there read same is less all =
    let lists = takes.lists in
    let room = room_of old now max n fed fitting given mid takes same is in
    let size = length-append lists.known (take n buffer) ∙ ap (λ m. length lists.known + m) (length-take-le n buffer there) in
    record {
      writer = all.goes_on.fine;
      leaves = record {
        known = lists.known ++ take fitting buffer;
        fed = fed_fitting old now max n fed fitting buffer given mid left takes there read same is;
        leaves = listed_fitting old now new max (take fitting buffer) given mid takes all;
      };
      too_long = λ _. consumed_long max given left (lists.known ++ take n buffer) (Consumes-trans given mid left lists.known (take n buffer) lists.consumed read) (omega (arith, size, room, less));
    }

-- all of the chunk did fit
pub takes_more : (old now new : ListingState) (max n fed fitting : ℕ) (buffer : List ℕ) (given mid left : Option (List ℕ)) → TakesInput old max given mid now → n ≤ length buffer → Consumes mid left (take n buffer) → fed ≡ fed_by now.finder → fitting ≡ min (max - fed) n → n ≤ fitting → TakesWholeChunk now (take fitting buffer) new → TakesInput old max given left new
takes_more old now new max n fed fitting buffer given mid left takes there read same is whole all =
    let lists = takes.lists in
    let room = room_of old now max n fed fitting given mid takes same is in
    let every : fitting ≡ n = omega (arith, room, whole) in
    let size = length-append lists.known (take fitting buffer) ∙ ap (λ m. length lists.known + m) (length-take-le fitting buffer (omega (arith, every, there))) in
    record {
      goes_on = record { same_path = all.goes_on.same_path ∙ takes.goes_on.same_path; fine = all.goes_on.fine };
      lists = record {
        known = lists.known ++ take fitting buffer;
        within = omega (arith, size, room, lists.within);
        consumed = subst (λ (m : ℕ). Consumes given left (lists.known ++ take m buffer)) (sym every) (Consumes-trans given mid left lists.known (take n buffer) lists.consumed read);
        listed = listed_fitting old now new max (take fitting buffer) given mid takes all;
      };
    }
