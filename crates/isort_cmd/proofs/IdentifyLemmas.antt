-- What a listing leaves of the whole text of a reader.
use Rattle.std.proofs.Common.{◌≡◌, ℕ, ◌≤◌, ◌∙◌, refl, sym, ap, subst, inl, inr, false, Option, None, Some, IfSome, Result, Ok, Err, List, [], ◌++◌, length, take, drop, append_assoc, append-nil, take-append-drop, length-append, arith}
use Rattle.std.proofs.Math.Seq.{take-length}
use Rattle.std.proofs.lemmas.List.{nil_from_length}
use Rattle.std.proofs.KnownBytes.{Appends-nil, Consumes-whole}
use Rattle.std.specs.Io.KnownBytes.{Consumes, IsAtEnd}
use Rattle.py_lines.specs.declared.fault.Fault.{Fault}
use Rattle.py_imports.specs.BindingValue.{BindingValue}
use Rattle.isort_find.specs.Found.{IsFound, BeginsFound}
use Rattle.isort_find.specs.Settled.{IsFoundSettled, DecidesFound}
use Rattle.isort_find.specs.Pieces.{PieceFinderState, HasFoundIn, AreAllSettled, IsUndecided, fed_by, has_ready, options_for}
use Rattle.isort_find.specs.declared.options.FindOptions.{FindOptions}
use Rattle.isort_find.specs.Position.{phase_in}
use Rattle.isort_find.specs.declared.walker.Position.{Position}
use Rattle.isort_find.specs.declared.walker.Position.TheVariants as position
use Rattle.isort_find.specs.declared.walker.Phase.TheVariants as phase
use Rattle.isort_sort.specs.declared.metered.Last.{Last}
use Rattle.isort_sort.specs.declared.metered.Last.TheVariants as last
use Rattle.isort_cmd.specs.RunError.{IsUnread, LeavesReader}
use Rattle.isort_cmd.specs.Private.Stages.{Identified, ListingState, StopsInput, TakesInput, ListsEnd}
use Rattle.isort_cmd.specs.Private.Steps.{IsOutputError, HasListedSettled, LeavesKnown, LeavesFed}
use Rattle.isort_cmd.specs.Written.{AreFed, ListsFound, ListsPrefix, ListsSettled, ListsUnread, ListsFaulty, LeavesAtError}
use Rattle.isort_cmd.specs.declared.error.RunError.{RunError}
use Rattle.isort_cmd.specs.declared.error.RunError.TheVariants as run
use Rattle.isort_cmd.proofs.ListingLemmas.{SomeFound, lists_nothing, prefix_of_found}
use Rattle.isort_cmd.proofs.ReadLemmas.{fed_whole, no_output_is_too_long, read_well, stopped_writer}

-- the laws `some`, `bad` and `bindings` of `isort_find::laws::settled_found_is_final`
abbrev pub SomeFoundSettled : Type 0
SomeFoundSettled = (text : List ℕ) (options : FindOptions) → (values : List BindingValue) × (bad : Option Fault) × IsFoundSettled text options values bad

abbrev pub BadDecided : Type 0
BadDecided = (text : List ℕ) (options : FindOptions) (values : List BindingValue) (fault : Fault) → IsFoundSettled text options values (Some fault) → DecidesFound text options fault

abbrev pub SettledBegin : Type 0
SettledBegin = (text more : List ℕ) (options : FindOptions) (values : List BindingValue) (bad : Option Fault) → IsFoundSettled text options values bad → BeginsFound (text ++ more) options values

open_is_no_fault : (s : Position) (fault : Fault) → phase_in s ≡ phase.Open → s ≡ position.Fault fault → ⊥
open_is_no_fault s fault is other = let both : phase_in s ≡ phase.Fault fault = ap phase_in other in cc

-- a finder that was fed nothing
pub nothing_fed : (path : List ℕ) (finder : PieceFinderState) (start : Option (List ℕ)) → fed_by finder ≡ 0 → has_ready finder ≡ false → finder.scanning.ended ≡ false → phase_in finder.position ≡ phase.Open → ((text : List ℕ) → HasFoundIn finder text []) → ((text : List ℕ) → AreAllSettled finder text []) → ((text : List ℕ) → IsUndecided finder text) → HasListedSettled path [] (options_for finder) finder start start
nothing_fed path finder start fed none_ready open_yet is_open found all undecided = record {
  fed = fed;
  none_ready = none_ready;
  open_yet = open_yet;
  no_fault = λ fault is. open_is_no_fault finder.position fault is_open is;
  listed = λ text goes. record {
    listed = record {
      values = [];
      found = found text;
      settled = λ ended settled bad is. (settled, refl);
      same_options = refl;
      written = Appends-nil start;
    };
    all = all text;
    undecided = undecided text;
  };
}

-- each of two lists begins with the other
both_begin : (one other more rest : List BindingValue) → one ≡ other ++ more → other ≡ one ++ rest → one ≡ other
both_begin one other more rest begins back =
    let longer = ap length begins ∙ length-append other more in
    let as_long = ap length back ∙ length-append one rest in
    let none : length more ≡ 0 = omega (arith, longer, as_long) in
    begins ∙ ap (λ m. other ++ m) (nil_from_length more none) ∙ append-nil other

-- no bad line is settled where no fault is decided
no_bad : BadDecided → (known : List ℕ) (options : FindOptions) (values : List BindingValue) (bad : Option Fault) → ((fault : Fault) → ¬ (DecidesFound known options fault)) → IsFoundSettled known options values bad → IsFoundSettled known options values None
no_bad bad_decided known options values None undecided found = found
no_bad bad_decided known options values (Some fault) undecided found = absurd (undecided fault (bad_decided known options values fault found))

-- what the bytes fed settle was listed
lists_settled : SomeFoundSettled → BadDecided → (path known : List ℕ) (options : FindOptions) (finder : PieceFinderState) (start now : Option (List ℕ)) → HasListedSettled path known options finder start now → ListsSettled path known options start now
lists_settled some_settled bad_decided path known options finder start now h =
    let so_far = h.listed known (take-length known) in
    let listed = so_far.listed in
    let some = some_settled known options in
    let whole : known ≡ take (fed_by finder) known = sym (ap (λ n. take n known) h.fed ∙ take-length known) in
    let at_finder = subst (λ x. IsFoundSettled x (options_for finder) some.0 some.1) whole (subst (λ o. IsFoundSettled known o some.0 some.1) (sym listed.same_options) some.2) in
    let begins = listed.settled h.open_yet some.0 some.1 at_finder in
    let back = so_far.all some.0 some.1 at_finder in
    let same : some.0 ≡ listed.values = both_begin some.0 listed.values begins.0 back.0 begins.1 back.1 in
    let undecided : (fault : Fault) → ¬ (DecidesFound known options fault) = λ fault decides. so_far.undecided fault (subst (λ x. DecidesFound x (options_for finder) fault) whole (subst (λ o. DecidesFound known o fault) (sym listed.same_options) decides)) in
    record {
      values = listed.values;
      found = no_bad bad_decided known options listed.values some.1 undecided (subst (λ b. IsFoundSettled known options b some.1) same some.2);
      undecided = undecided;
      written = listed.written;
    }

-- and it is a prefix of the lines of each text that begins with these bytes
settled_prefix : SettledBegin → (path known more : List ℕ) (options : FindOptions) (start now : Option (List ℕ)) → ListsSettled path known options start now → ListsPrefix path (known ++ more) options start now
settled_prefix settled_begin path known more options start now lists = prefix_of_found path (known ++ more) options lists.values start now (settled_begin known more options lists.values None lists.found) lists.written

-- what an error leaves of each text that begins with the bytes fed
leaves_text : SomeFoundSettled → BadDecided → SettledBegin → (path known more : List ℕ) (options : FindOptions) (finder : PieceFinderState) (e : RunError) (start now : Option (List ℕ)) → LeavesKnown path known options finder e start now → LeavesAtError path (known ++ more) options e start now
leaves_text some_settled bad_decided settled_begin path known more options finder (run.Fault f) start now h = record { values = h.values; found = h.found more; written = h.written }
leaves_text some_settled bad_decided settled_begin path known more options finder run.Write start now h = h more
leaves_text some_settled bad_decided settled_begin path known more options finder run.Memory start now h = h more
leaves_text some_settled bad_decided settled_begin path known more options finder run.Read start now h = settled_prefix settled_begin path known more options start now (lists_settled some_settled bad_decided path known options finder start now h)
leaves_text some_settled bad_decided settled_begin path known more options finder run.TooLong start now h = settled_prefix settled_begin path known more options start now (lists_settled some_settled bad_decided path known options finder start now h)
leaves_text some_settled bad_decided settled_begin path known more options finder run.NeverEnds start now h = settled_prefix settled_begin path known more options start now (lists_settled some_settled bad_decided path known options finder start now h)

-- a text begins with the bytes that were fed of it
begins_with_fed : (max : ℕ) (text known read left : List ℕ) → text ≡ read ++ left → known ≡ take max read → text ≡ known ++ (drop max read ++ left)
begins_with_fed max text known read left all first = all ∙ ap (λ x. x ++ left) (sym (take-append-drop max read)) ∙ append_assoc (take max read) (drop max read) left ∙ ap (λ x. x ++ (drop max read ++ left)) (sym first)

of_fed : (P : List ℕ → Type 0) (max : ℕ) (known : List ℕ) (old left : Option (List ℕ)) → AreFed max known old left → ((more : List ℕ) → P (known ++ more)) → IfSome old P
of_fed P max known None left fed h = tt
of_fed P max known (Some text) None fed h = absurd fed.consumed
of_fed P max known (Some text) (Some rest) fed h = subst P (sym (begins_with_fed max text known fed.read rest fed.consumed fed.first)) (h (drop max fed.read ++ rest))

-- what an error leaves of the reader's text
leaves_read : SomeFoundSettled → BadDecided → SettledBegin → (path : List ℕ) (options : FindOptions) (max : ℕ) (finder : PieceFinderState) (e : RunError) (old left start now : Option (List ℕ)) → LeavesFed path options max finder e old left start now → IfSome old (λ text. LeavesAtError path text options e start now)
leaves_read some_settled bad_decided settled_begin path options max finder e old left start now h = of_fed (λ text. LeavesAtError path text options e start now) max h.known old left h.fed (λ more. leaves_text some_settled bad_decided settled_begin path h.known more options finder e start now h.leaves)

-- ---- what `identify` promises

nothing_known : SomeFound → (path : List ℕ) (options : FindOptions) (known start : Option (List ℕ)) → IfSome known (λ text. LeavesAtError path text options run.Memory start start)
nothing_known some path options None start = tt
nothing_known some path options (Some text) start = lists_nothing some path text options start

-- memory ran out before the first read
pub identified_nothing : SomeFound → (path : List ℕ) (options : FindOptions) (max : ℕ) (given start : Option (List ℕ)) (reader writer : Last) → reader ≡ last.Fine → writer ≡ last.Fine → Identified path options max (Err run.Memory) given given start start reader writer
identified_nothing some path options max given start reader writer reader_fine writer_fine = record {
  ok = tt;
  err = record { leaves = nothing_known some path options given start; too_long = λ is. absurd (memory_is_not_too_long is) };
  unread = λ h. absurd h;
  fault = λ f is. absurd (memory_is_no_fault f is);
  reader = reader_fine;
  writer = writer_fine;
}
  where
    memory_is_not_too_long : run.Memory ≡ run.TooLong → ⊥
    memory_is_not_too_long is = cc

    memory_is_no_fault : (f : Fault) → run.Memory ≡ run.Fault f → ⊥
    memory_is_no_fault f is = cc

-- ---- reading or listing failed

-- what an error of reading leaves
leaves_unread : SomeFoundSettled → BadDecided → (path : List ℕ) (options : FindOptions) (max : ℕ) (finder : PieceFinderState) (e : RunError) (given left old new : Option (List ℕ)) → LeavesFed path options max finder e given left old new → IsUnread e → ListsUnread path options max given left old new
leaves_unread some_settled bad_decided path options max finder (run.Fault f) given left old new h unread = absurd unread
leaves_unread some_settled bad_decided path options max finder run.Write given left old new h unread = absurd unread
leaves_unread some_settled bad_decided path options max finder run.Memory given left old new h unread = absurd unread
leaves_unread some_settled bad_decided path options max finder run.Read given left old new h unread = record { known = h.known; fed = h.fed; lists = lists_settled some_settled bad_decided path h.known options finder old new h.leaves }
leaves_unread some_settled bad_decided path options max finder run.TooLong given left old new h unread = record { known = h.known; fed = h.fed; lists = lists_settled some_settled bad_decided path h.known options finder old new h.leaves }
leaves_unread some_settled bad_decided path options max finder run.NeverEnds given left old new h unread = record { known = h.known; fed = h.fed; lists = lists_settled some_settled bad_decided path h.known options finder old new h.leaves }

-- what a fault leaves that the bytes fed decide
fault_decided : (path : List ℕ) (options : FindOptions) (max : ℕ) (finder : PieceFinderState) (fault : Fault) (given left old new : Option (List ℕ)) → LeavesFed path options max finder (run.Fault fault) given left old new → ListsFaulty path options max fault given left old new
fault_decided path options max finder fault given left old new h =
    let meets = h.leaves in
    record {
      known = h.known;
      fed = h.fed;
      lists = record {
        values = meets.values;
        found = subst (λ x. IsFound x options meets.values (Some fault)) (append-nil h.known) (meets.found []);
        stays = inr meets.found;
        written = meets.written;
      };
    }

pub identified_stopped : SomeFoundSettled → BadDecided → SettledBegin → (old new : ListingState) (options : FindOptions) (max : ℕ) (given left : Option (List ℕ)) (e : RunError) (reader : Last) → options_for old.finder ≡ options → StopsInput old max given e left new → LeavesReader e reader → Identified old.path options max (Err e) given left old.written new.written reader new.last
identified_stopped some_settled bad_decided settled_begin old new options max given left e reader same stops ends =
    let leaves = subst (λ o. LeavesFed old.path o max new.finder e given left old.written new.written) same stops.leaves in
    record {
      ok = tt;
      err = record { leaves = leaves_read some_settled bad_decided settled_begin old.path options max new.finder e given left old.written new.written leaves; too_long = stops.too_long };
      unread = leaves_unread some_settled bad_decided old.path options max new.finder e given left old.written new.written leaves;
      fault = λ f is. fault_decided old.path options max new.finder f given left old.written new.written (subst (λ x. LeavesFed old.path options max new.finder x given left old.written new.written) is leaves);
      reader = ends;
      writer = stops.writer;
    }

-- ---- the text ended

-- what was listed before it did
listed_before : (old now : ListingState) (options : FindOptions) (max : ℕ) (given left : Option (List ℕ)) → options_for old.finder ≡ options → (takes : TakesInput old max given left now) → HasListedSettled now.path takes.lists.known options now.finder old.written now.written
listed_before old now options max given left same takes = subst (λ (p : List ℕ). HasListedSettled p takes.lists.known options now.finder old.written now.written) (sym takes.goes_on.same_path) (subst (λ o. HasListedSettled old.path takes.lists.known o now.finder old.written now.written) same takes.lists.listed)

-- a fault that the end decides
fault_at_end : (old : ListingState) (options : FindOptions) (max : ℕ) (given left : Option (List ℕ)) (known : List ℕ) (f : Fault) (new : Option (List ℕ)) → length known ≤ max → Consumes given left known → IsAtEnd left → ListsFound old.path known options (Some f) old.written new → ListsFaulty old.path options max f given left old.written new
fault_at_end old options max given left known f new within consumed ended h = record {
  known = known;
  fed = fed_whole max known given left within consumed;
  lists = record { values = h.values; found = h.found; stays = inl ended; written = h.written };
}

no_output_is_unread : (e : RunError) (l : Last) → IsOutputError e l → IsUnread e → ⊥
no_output_is_unread (run.Fault f) l h unread = unread
no_output_is_unread run.Write l h unread = unread
no_output_is_unread run.Memory l h unread = unread
no_output_is_unread run.Read l h unread = h
no_output_is_unread run.TooLong l h unread = h
no_output_is_unread run.NeverEnds l h unread = h

pub identified_ended : (old now new : ListingState) (options : FindOptions) (max : ℕ) (given left : Option (List ℕ)) (r : Result (Unit {0}) RunError) (reader : Last) → options_for old.finder ≡ options → TakesInput old max given left now → IsAtEnd left → reader ≡ last.Fine → ListsEnd now r new → Identified old.path options max r given left old.written new.written reader new.last
identified_ended old now new options max given left (Ok done) reader same takes ended fine ends =
    let lists = takes.lists in
    let whole = ends.whole lists.known options old.written (listed_before old now options max given left same takes) in
    let at_path = subst (λ (p : List ℕ). ListsFound p lists.known options None old.written new.written) takes.goes_on.same_path whole in
    record {
      ok = record {
        lists = Consumes-whole given left lists.known (λ text. ListsFound old.path text options None old.written new.written) lists.consumed ended at_path;
        within = Consumes-whole given left lists.known (λ text. length text ≤ max) lists.consumed ended lists.within;
        end = ended;
      };
      err = tt;
      unread = tt;
      fault = tt;
      reader = fine;
      writer = ends.fine;
    }
identified_ended old now new options max given left (Err e) reader same takes ended fine stops =
    let lists = takes.lists in
    let left_there = stops.leaves lists.known options old.written (listed_before old now options max given left same takes) in
    let leaves = subst (λ (p : List ℕ). LeavesAtError p lists.known options e old.written new.written) takes.goes_on.same_path left_there in
    record {
      ok = tt;
      err = record {
        leaves = Consumes-whole given left lists.known (λ text. LeavesAtError old.path text options e old.written new.written) lists.consumed ended leaves;
        too_long = λ is. absurd (no_output_is_too_long e new.last stops.error is);
      };
      unread = λ h. absurd (no_output_is_unread e new.last stops.error h);
      fault = λ f is. fault_at_end old options max given left lists.known f new.written lists.within lists.consumed ended (subst (λ x. LeavesAtError old.path lists.known options x old.written new.written) is leaves);
      reader = read_well e reader new.last stops.error fine;
      writer = stopped_writer e new.last stops.error;
    }
