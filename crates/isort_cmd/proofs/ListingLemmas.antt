-- What was listed of a text so far.
use Rattle.std.proofs.Common.{◌≡◌, ℕ, Option, None, Some, Result, Ok, Err, List, [], ◌∷◌, ◌++◌, take, refl, sym, ap, ◌∙◌, subst, append_assoc}
use Rattle.std.specs.Io.KnownBytes.{Appends}
use Rattle.std.proofs.KnownBytes.{Appends-nil, Appends-trans}
use Rattle.py_lines.specs.declared.fault.Fault.{Fault}
use Rattle.py_imports.specs.BindingValue.{BindingValue, binding_value}
use Rattle.py_imports.specs.declared.binding.Binding.{Binding}
use Rattle.isort_find.specs.Cursor.{CursorState, HasStopped}
use Rattle.isort_find.specs.Found.{IsFound, BeginsFound}
use Rattle.isort_find.specs.Settled.{IsFoundSettled, DecidesFound}
use Rattle.isort_find.specs.Pieces.{PieceFinderState, HasFoundIn, HasReachedIn, GivesBinding, GivesNone, GivesReady, options_for, fed_by}
use Rattle.isort_find.specs.declared.options.FindOptions.{FindOptions}
use Rattle.isort_find.specs.declared.error.FindError.{FindError}
use Rattle.isort_find.specs.declared.error.FindError.TheVariants as find
use Rattle.isort_find.specs.declared.walker.Position.TheVariants as position
use Rattle.isort_cmd.specs.Printed.{printed, line_text}
use Rattle.isort_cmd.specs.RunError.{run_error_of}
use Rattle.isort_cmd.specs.Private.Steps.{GivenAreListed, LeavesReady}
use Rattle.isort_sort.specs.Written.{AppendsPrefix}
use Rattle.isort_cmd.specs.Written.{ListsPrefix}
use Rattle.isort_cmd.specs.declared.error.RunError.{RunError}
use Rattle.isort_cmd.specs.declared.error.RunError.TheVariants as run
use Rattle.isort_cmd.proofs.PrintedLemmas.{printed-append, printed-snoc}

-- the law `stopped` of `isort_find::laws::given_begin_the_found`
abbrev pub GivenBegin : Type 0
GivenBegin = (text : List ℕ) (cursor : CursorState) (values : List BindingValue) → HasStopped text cursor values → BeginsFound text cursor.options values

-- the law `some` of `isort_find::laws::one_found`
abbrev pub SomeFound : Type 0
SomeFound = (text : List ℕ) (options : FindOptions) → (values : List BindingValue) × (end : Option Fault) × IsFound text options values end

-- nothing is a prefix of the lines
pub lists_nothing : SomeFound → (path text : List ℕ) (options : FindOptions) (contents : Option (List ℕ)) → ListsPrefix path text options contents contents
lists_nothing some path text options contents =
    let all = some text options in
    record {
      values = all.0;
      end = all.1;
      found = all.2;
      written = record { prefix = []; rest = printed path all.0; split = refl; appended = Appends-nil contents };
    }

-- a finder that met a fault has found all before it
pub found_fault : (finder : PieceFinderState) (text : List ℕ) (values : List BindingValue) (fault : Fault) → HasFoundIn finder text values → finder.position ≡ position.Fault fault → IsFound text (options_for finder) values (Some fault)
found_fault finder text values fault found is =
    let at : HasReachedIn finder text values (position.Fault fault) = subst (HasReachedIn finder text values) is found.reached in
    at.0

-- one more binding was given, and its line was written
pub listed_one_more : (path text : List ℕ) (options : FindOptions) (finder next : PieceFinderState) (b : BindingValue) (out : List ℕ) (start mid now : Option (List ℕ)) → GivesBinding finder b next → out ≡ line_text path b → Appends mid now out → GivenAreListed path text options finder start mid → GivenAreListed path text options next start now
listed_one_more path text options finder next b out start mid now gives put wrote listed = record {
  values = listed.values ++ b ∷ [];
  found = (gives.texts text listed.values listed.found).found;
  settled = (gives.texts text listed.values listed.found).settled;
  same_options = gives.counts.options ∙ listed.same_options;
  written = subst (λ x. Appends start now x) (sym (printed-snoc path listed.values b)) (Appends-trans start mid now (printed path listed.values) (line_text path b) listed.written (subst (λ x. Appends mid now x) put wrote));
}

-- nothing was given
pub listed_none : (path text : List ℕ) (options : FindOptions) (finder next : PieceFinderState) (start now : Option (List ℕ)) → GivesNone finder next → GivenAreListed path text options finder start now → GivenAreListed path text options next start now
listed_none path text options finder next start now none listed = record {
  values = listed.values;
  found = (none.texts text listed.values listed.found).found;
  settled = λ open_yet found bad h. listed.settled (sym none.unfed.open_yet ∙ open_yet) found bad (subst (λ (o : FindOptions). IsFoundSettled (take (fed_by finder) text) o found bad) none.counts.options (subst (λ (n : ℕ). IsFoundSettled (take n text) (options_for next) found bad) none.unfed.fed h));
  same_options = none.counts.options ∙ listed.same_options;
  written = listed.written;
}

-- the lines of bindings that begin what is found in a text are a prefix of its lines
pub prefix_of_found : (path text : List ℕ) (options : FindOptions) (values : List BindingValue) (start now : Option (List ℕ)) → BeginsFound text options values → Appends start now (printed path values) → ListsPrefix path text options start now
prefix_of_found path text options values start now begins written = record {
  values = values ++ begins.more;
  end = begins.end;
  found = begins.found;
  written = record { prefix = printed path values; rest = printed path begins.more; split = sym (printed-append path values begins.more); appended = written };
}

-- the run gave up between two bindings
pub lists_prefix : GivenBegin → (path text : List ℕ) (options : FindOptions) (finder : PieceFinderState) (start now : Option (List ℕ)) → GivenAreListed path text options finder start now → ListsPrefix path text options start now
lists_prefix begin path text options finder start now listed = prefix_of_found path text options listed.values start now (subst (λ (o : FindOptions). BeginsFound text o listed.values) listed.same_options (begin text finder.cursor listed.values listed.found.stopped)) listed.written

-- the run gave up while it wrote the line of one more binding
pub lists_stopped : GivenBegin → (path text : List ℕ) (options : FindOptions) (finder next : PieceFinderState) (b : BindingValue) (out : List ℕ) (start mid now : Option (List ℕ)) → GivesBinding finder b next → out ≡ line_text path b → AppendsPrefix mid now out → GivenAreListed path text options finder start mid → ListsPrefix path text options start now
lists_stopped begin path text options finder next b out start mid now gives put wrote listed =
    let before = printed path listed.values in
    let values = listed.values ++ b ∷ [] in
    let begins = begin text next.cursor values (gives.texts text listed.values listed.found).found.stopped in
    let after = printed path begins.more in
    let line : (before ++ wrote.prefix) ++ wrote.rest ≡ printed path values = append_assoc before wrote.prefix wrote.rest ∙ ap (λ x. before ++ x) (wrote.split ∙ put) ∙ sym (printed-snoc path listed.values b) in
    record {
      values = values ++ begins.more;
      end = begins.end;
      found = subst (λ (o : FindOptions). IsFound text o (values ++ begins.more) begins.end) (gives.counts.options ∙ listed.same_options) begins.found;
      written = record {
        prefix = before ++ wrote.prefix;
        rest = wrote.rest ++ after;
        split = sym (append_assoc (before ++ wrote.prefix) wrote.rest after) ∙ ap (λ x. x ++ after) line ∙ sym (printed-append path values begins.more);
        appended = Appends-trans start mid now before wrote.prefix listed.written wrote.appended;
      };
    }

-- what a call that asks for what is ready says, at each of its answers
pub gave_one : (old : PieceFinderState) (r : Result (Option Binding) FindError) (b : Binding) (new : PieceFinderState) → GivesReady old r new → r ≡ Ok (Some b) → GivesBinding old (binding_value b) new
gave_one old r b new h e = subst (λ x. GivesReady old x new) e h

pub gave_none : (old : PieceFinderState) (r : Result (Option Binding) FindError) (new : PieceFinderState) → GivesReady old r new → r ≡ Ok None → GivesNone old new
gave_none old r new h e = subst (λ x. GivesReady old x new) e h

pub gave_error : (old : PieceFinderState) (r : Result (Option Binding) FindError) (e : FindError) (new : PieceFinderState) → GivesReady old r new → r ≡ Err e → GivesReady old (Err e) new
gave_error old r e new h same = subst (λ x. GivesReady old x new) same h

-- what the errors of a call that asks for what is ready leave
pub leaves_at_find_error : GivenBegin → (path text : List ℕ) (options : FindOptions) (finder next : PieceFinderState) (e : FindError) (start now : Option (List ℕ)) → GivesReady finder (Err e) next → GivenAreListed path text options finder start now → LeavesReady path text options finder (run_error_of e) start now
leaves_at_find_error begin path text options finder next (find.Fault f) start now gives listed =
    let found = found_fault next text listed.values f (gives.found text listed.values listed.found) gives.stops.kept in (
      record {
        values = listed.values;
        found = subst (λ (o : FindOptions). IsFound text o listed.values (Some f)) (gives.stops.counts.options ∙ listed.same_options) found;
        written = listed.written;
      },
      λ open_yet. subst (λ (o : FindOptions). DecidesFound (take (fed_by finder) text) o f) listed.same_options (gives.decided open_yet text listed.values listed.found),
    )
leaves_at_find_error begin path text options finder next find.Memory start now gives listed = lists_prefix begin path text options finder start now listed

-- what is left by an error at a finder is left at each one before it that was fed as much
pub leaves_from : (path text : List ℕ) (options : FindOptions) (old mid : PieceFinderState) (e : RunError) (start now : Option (List ℕ)) → fed_by mid ≡ fed_by old → mid.scanning.ended ≡ old.scanning.ended → LeavesReady path text options mid e start now → LeavesReady path text options old e start now
leaves_from path text options old mid (run.Fault f) start now fed ended leaves = (leaves.0, λ open_yet. subst (λ (n : ℕ). DecidesFound (take n text) options f) fed (leaves.1 (ended ∙ open_yet)))
leaves_from path text options old mid run.Write start now fed ended leaves = leaves
leaves_from path text options old mid run.Memory start now fed ended leaves = leaves
leaves_from path text options old mid run.Read start now fed ended leaves = leaves
leaves_from path text options old mid run.TooLong start now fed ended leaves = leaves
leaves_from path text options old mid run.NeverEnds start now fed ended leaves = leaves
