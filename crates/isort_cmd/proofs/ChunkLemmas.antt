-- What was listed of each text that begins with the bytes of some chunks.
use Rattle.std.proofs.Common.{◌≡◌, ℕ, ◌+◌, false, Option, Some, Result, Ok, Err, List, [], ◌++◌, length, take, drop, refl, sym, ap, ◌∙◌, subst, append_assoc, length-append}
use Rattle.std.proofs.Math.Seq.{take-add, take-append-add, take-append_seam, drop-append_seam}
use Rattle.std.proofs.lemmas.List.{append-nil, length-take-le, take-append-drop}
use Rattle.std.specs.Io.KnownBytes.{Keeps}
use Rattle.std.proofs.KnownBytes.{Appends-kept}
use Rattle.py_lines.specs.ScannerState.{GoesOnWith}
use Rattle.py_lines.specs.declared.fault.Fault.{Fault}
use Rattle.py_imports.specs.BindingValue.{BindingValue}
use Rattle.isort_find.specs.Cursor.{CursorState}
use Rattle.isort_find.specs.Found.{IsFound}
use Rattle.isort_find.specs.Settled.{IsFoundSettled, DecidesFound}
use Rattle.isort_find.specs.Pieces.{PieceFinderState, HasNoFault, AreSettled, MeetsAt, TakesFromPiece, MeetsFaultIn, FeedsPiece, options_for, fed_by, has_ready}
use Rattle.isort_find.specs.declared.options.FindOptions.{FindOptions}
use Rattle.isort_find.specs.declared.error.FindError.{FindError}
use Rattle.isort_find.specs.declared.error.FindError.TheVariants as find
use Rattle.isort_find.specs.Position.{phase_in}
use Rattle.isort_find.specs.declared.walker.Position.{Position}
use Rattle.isort_find.specs.declared.walker.Position.TheVariants as position
use Rattle.isort_find.specs.declared.walker.Phase.{Phase}
use Rattle.isort_find.specs.declared.walker.Phase.TheVariants as phase
use Rattle.isort_cmd.specs.Printed.{printed}
use Rattle.isort_cmd.specs.RunError.{run_error_of}
use Rattle.isort_cmd.specs.Private.Steps.{GivenAreListed, HasListedSettled, HasListedGiven, LeavesReady, LeavesChunk, MeetsFaultAfter}
use Rattle.isort_cmd.specs.Written.{ListsFound, ListsPrefix}
use Rattle.isort_cmd.specs.declared.error.RunError.{RunError}
use Rattle.isort_cmd.specs.declared.error.RunError.TheVariants as run
use Rattle.isort_cmd.proofs.ListingLemmas.{GivenBegin, found_fault, lists_prefix}

-- laws of `isort_find`
pub record FoundLaws : Type 0 where
  pub begin : GivenBegin
  pub one_list : (text : List ℕ) (options : FindOptions) (values others : List BindingValue) (end other : Option Fault) → IsFound text options values end → IsFound text options others other → values ≡ others
  pub some : (text : List ℕ) (options : FindOptions) → (values : List BindingValue) × (bad : Option Fault) × IsFoundSettled text options values bad
  pub grow : (text more : List ℕ) (options : FindOptions) (values later : List BindingValue) (bad last : Option Fault) → IsFoundSettled text options values bad → IsFoundSettled (text ++ more) options later last → (rest : List BindingValue) × (later ≡ values ++ rest)
  pub all : (text more : List ℕ) (options : FindOptions) (values : List BindingValue) (fault : Fault) → DecidesFound text options fault → IsFound text options values (Some fault) → IsFound (text ++ more) options values (Some fault)

-- ---- texts that begin with some bytes

-- known bytes begin a text where more come after them
pub goes_begin : (known more : List ℕ) → GoesOnWith (known ++ more) 0 known
goes_begin known more = take-append_seam known more

-- a text that begins with two parts begins with the first, and goes on with the second
pub begins_with_both : (text a b : List ℕ) → GoesOnWith text 0 (a ++ b) → GoesOnWith text 0 a × GoesOnWith text (length a) b
begins_with_both text a b goes =
    let left = drop (length (a ++ b)) text in
    let whole : a ++ (b ++ left) ≡ text = sym (append_assoc a b left) ∙ ap (λ x. x ++ left) (sym goes) ∙ take-append-drop (length (a ++ b)) text in (
      ap (take (length a)) (sym whole) ∙ take-append_seam a (b ++ left),
      ap (λ x. take (length b) (drop (length a) x)) (sym whole) ∙ ap (take (length b)) (drop-append_seam a (b ++ left)) ∙ take-append_seam b left,
    )

-- ---- a chunk is taken

-- what was settled stays so as more is fed
settled_more : FoundLaws → (old new : PieceFinderState) (text : List ℕ) (values : List BindingValue) (n : ℕ) → fed_by new ≡ fed_by old + n → new.cursor ≡ old.cursor → AreSettled old text values → AreSettled new text values
settled_more laws old new text values n fed cursor settled found bad h =
    let known = take (fed_by old) text in
    let more = take n (drop (fed_by old) text) in
    let options = options_for old in
    let at : IsFoundSettled (known ++ more) options found bad = subst (λ (k : List ℕ). IsFoundSettled k options found bad) (ap (λ (m : ℕ). take m text) fed ∙ take-add (fed_by old) n text) (subst (λ (c : CursorState). IsFoundSettled (take (fed_by new) text) c.options found bad) cursor h) in
    let before = laws.some known options in
    let grown = laws.grow known more options before.0 found before.1 bad before.2 at in
    let begun = settled before.0 before.1 before.2 in
    (begun.0 ++ grown.0, grown.1 ∙ ap (λ x. x ++ grown.0) begun.1 ∙ append_assoc values begun.0 grown.0)

-- some bytes of a chunk were taken: what was listed of each text that begins with them stays so
pub taken_listed : FoundLaws → (path known chunk : List ℕ) (options : FindOptions) (old : PieceFinderState) (n : ℕ) (new : PieceFinderState) (start now : Option (List ℕ)) → old.scanning.ended ≡ false → TakesFromPiece old chunk n new → HasListedGiven path known options old start now → HasListedGiven path (known ++ take n chunk) options new start now
taken_listed laws path known chunk options old n new start now open_yet takes to = record {
  fed = takes.takes.fed ∙ ap (λ (m : ℕ). m + n) to.fed ∙ ap (λ (m : ℕ). length known + m) (sym (length-take-le n chunk takes.takes.within)) ∙ sym (length-append known (take n chunk));
  no_fault = takes.after.no_fault;
  listed = λ text goes.
      let both = begins_with_both text known (take n chunk) goes in
      let listed = to.listed text both.0 in
      let after = subst (λ (m : ℕ). GoesOnWith text m (take n chunk)) (sym to.fed) both.1 in
      record {
        values = listed.values;
        found = (takes.texts text listed.values listed.found after).knows.found;
        settled = λ _. settled_more laws old new text listed.values n takes.takes.fed takes.cursor (listed.settled open_yet);
        same_options = ap (λ (c : CursorState). c.options) takes.cursor ∙ listed.same_options;
        written = listed.written;
      };
}

-- ---- errors

-- a fault that the known bytes decide is that of each text that begins with them
fault_after : FoundLaws → (path known rest : List ℕ) (options : FindOptions) (fault : Fault) (start now : Option (List ℕ)) → ListsFound path (known ++ rest) options (Some fault) start now → DecidesFound known options fault → MeetsFaultAfter path (known ++ rest) options fault start now
fault_after laws path known rest options fault start now lists decides =
    let each : (more : List ℕ) → IsFound (known ++ more) options decides.values (Some fault) = λ more. laws.all known more options decides.values fault decides decides.found in
    let same : decides.values ≡ lists.values = laws.one_list (known ++ rest) options decides.values lists.values (Some fault) (Some fault) (each rest) lists.found in
    record {
      values = lists.values;
      found = λ more. subst (λ (t : List ℕ). IsFound t options lists.values (Some fault)) (sym (append_assoc known rest more)) (subst (λ (bs : List BindingValue). IsFound (known ++ (rest ++ more)) options bs (Some fault)) same (each (rest ++ more)));
      written = lists.written;
    }

-- an error at a finder that was fed the known bytes, of which more of a chunk are left
pub leaves_each : FoundLaws → (path known rest : List ℕ) (options : FindOptions) (mid : PieceFinderState) (e : RunError) (start now : Option (List ℕ)) → fed_by mid ≡ length known → mid.scanning.ended ≡ false → ((text : List ℕ) → GoesOnWith text 0 known → LeavesReady path text options mid e start now) → LeavesChunk path (known ++ rest) options e start now
leaves_each laws path known rest options mid (run.Fault f) start now fed open_yet leaves =
    let left = leaves (known ++ rest) (goes_begin known rest) in
    let decides : DecidesFound known options f = subst (λ (k : List ℕ). DecidesFound k options f) (ap (λ (n : ℕ). take n (known ++ rest)) fed ∙ take-append_seam known rest) (left.1 open_yet) in
    fault_after laws path known rest options f start now left.0 decides
leaves_each laws path known rest options mid run.Write start now fed open_yet leaves = λ more. subst (λ (t : List ℕ). ListsPrefix path t options start now) (sym (append_assoc known rest more)) (leaves (known ++ (rest ++ more)) (goes_begin known (rest ++ more)))
leaves_each laws path known rest options mid run.Memory start now fed open_yet leaves = λ more. subst (λ (t : List ℕ). ListsPrefix path t options start now) (sym (append_assoc known rest more)) (leaves (known ++ (rest ++ more)) (goes_begin known (rest ++ more)))
leaves_each laws path known rest options mid run.Read start now fed open_yet leaves = leaves (known ++ rest) (goes_begin known rest)
leaves_each laws path known rest options mid run.TooLong start now fed open_yet leaves = leaves (known ++ rest) (goes_begin known rest)
leaves_each laws path known rest options mid run.NeverEnds start now fed open_yet leaves = leaves (known ++ rest) (goes_begin known rest)

is_open : (s : Position) → (phase_in s ≡ phase.End → ⊥) → ((fault : Fault) → s ≡ position.Fault fault → ⊥) → phase_in s ≡ phase.Open
is_open (position.End passed) top fault = absurd (top refl)
is_open (position.Fault f) top fault = absurd (fault f refl)
is_open other top fault = refl

-- a prefix of the lines was written, whatever follows the known bytes
pub prefix_each : GivenBegin → (path known : List ℕ) (options : FindOptions) (finder : PieceFinderState) (start now : Option (List ℕ)) → ((text : List ℕ) → GoesOnWith text 0 known → GivenAreListed path text options finder start now) → (more : List ℕ) → ListsPrefix path (known ++ more) options start now
prefix_each begin path known options finder start now listed more = lists_prefix begin path (known ++ more) options finder start now (listed (known ++ more) (goes_begin known more))

-- the chunk decides a fault
fed_fault : FoundLaws → (path known chunk : List ℕ) (options : FindOptions) (old : PieceFinderState) (fault : Fault) (new : PieceFinderState) (start now : Option (List ℕ)) → MeetsFaultIn old chunk fault new → HasListedGiven path known options old start now → MeetsFaultAfter path (known ++ chunk) options fault start now
fed_fault laws path known chunk options old fault new start now meets to =
    let text = known ++ chunk in
    let listed = to.listed text (goes_begin known chunk) in
    let at : GoesOnWith text (fed_by old) chunk = subst (λ (m : ℕ). GoesOnWith text m chunk) (sym to.fed) (ap (take (length chunk)) (drop-append_seam known chunk) ∙ ap (λ x. take (length chunk) x) (sym (append-nil chunk)) ∙ take-append_seam chunk []) in
    let found = found_fault new text listed.values fault (meets.found text listed.values listed.found at) meets.stops.kept in
    let lists : ListsFound path text options (Some fault) start now = record { values = listed.values; found = subst (λ (o : FindOptions). IsFound text o listed.values (Some fault)) (meets.stops.counts.options ∙ listed.same_options) found; written = listed.written } in
    let opened = is_open old.position (λ top. subst (λ (p : Phase). MeetsAt p old fault new) top meets.stops.met) to.no_fault in
    let decided = meets.decided opened text listed.values listed.found at in
    let n = decided.0 in
    let first = known ++ take n chunk in
    let rest = drop n chunk in
    let whole : first ++ rest ≡ text = append_assoc known (take n chunk) rest ∙ ap (λ x. known ++ x) (take-append-drop n chunk) in
    let is : take (fed_by old + n) text ≡ first = ap (λ (m : ℕ). take (m + n) text) to.fed ∙ take-append-add known chunk n in
    let decides : DecidesFound first options fault = subst (λ (o : FindOptions). DecidesFound first o fault) listed.same_options (subst (λ (k : List ℕ). DecidesFound k (options_for old) fault) is decided.2) in
    subst (λ (t : List ℕ). MeetsFaultAfter path t options fault start now) whole (fault_after laws path first rest options fault start now (subst (λ (t : List ℕ). ListsFound path t options (Some fault) start now) (sym whole) lists) decides)

-- what the errors of a call that is fed a chunk leave
pub leaves_fed : FoundLaws → (path known chunk : List ℕ) (options : FindOptions) (old : PieceFinderState) (e : FindError) (new : PieceFinderState) (start now : Option (List ℕ)) → FeedsPiece old chunk (Err e) new → HasListedGiven path known options old start now → LeavesChunk path (known ++ chunk) options (run_error_of e) start now
leaves_fed laws path known chunk options old (find.Fault f) new start now meets to = fed_fault laws path known chunk options old f new start now meets to
leaves_fed laws path known chunk options old find.Memory new start now keeps to = prefix_each laws.begin path (known ++ chunk) options old start now (λ text goes. to.listed text (begins_with_both text known chunk goes).0)

pub feeds_error : (old : PieceFinderState) (chunk : List ℕ) (r : Result ℕ FindError) (e : FindError) (new : PieceFinderState) → FeedsPiece old chunk r new → r ≡ Err e → FeedsPiece old chunk (Err e) new
feeds_error old chunk r e new h same = subst (λ (x : Result ℕ FindError). FeedsPiece old chunk x new) same h

pub feeds_some : (old : PieceFinderState) (chunk : List ℕ) (r : Result ℕ FindError) (n : ℕ) (new : PieceFinderState) → FeedsPiece old chunk r new → r ≡ Ok n → TakesFromPiece old chunk n new
feeds_some old chunk r n new h same = subst (λ (x : Result ℕ FindError). FeedsPiece old chunk x new) same h

-- ---- nothing is ready

-- Once no byte was fed and nothing is ready, what was listed is all that the bytes settle.
pub looked_listed : FoundLaws → (path known : List ℕ) (options : FindOptions) (old : PieceFinderState) (n : ℕ) (new : PieceFinderState) (start now : Option (List ℕ)) → old.scanning.ended ≡ false → TakesFromPiece old [] n new → has_ready new ≡ false → HasListedGiven path known options old start now → HasListedSettled path known options new start now
looked_listed laws path known options old n new start now open_yet takes none to =
    let no_byte : take n [] ≡ [] = ap (λ (m : ℕ). take m []) (takes.takes.whole none) in
    let same : known ++ take n [] ≡ known = ap (λ x. known ++ x) no_byte ∙ append-nil known in
    let done = subst (λ (k : List ℕ). HasListedGiven path k options new start now) same (taken_listed laws path known [] options old n new start now open_yet takes to) in
    record {
      fed = done.fed;
      none_ready = none;
      open_yet = takes.after.yet;
      no_fault = done.no_fault;
      listed = λ text goes.
          let before = to.listed text goes in
          let nothing : GoesOnWith text (fed_by old) (take n []) = subst (λ (x : List ℕ). GoesOnWith text (fed_by old) x) (sym no_byte) refl in
          let now = takes.texts text before.values before.found nothing in
          record {
            listed = record {
              values = before.values;
              found = now.knows.found;
              settled = λ _. settled_more laws old new text before.values n takes.takes.fed takes.cursor (before.settled open_yet);
              same_options = ap (λ (c : CursorState). c.options) takes.cursor ∙ before.same_options;
              written = before.written;
            };
            all = now.knows.all takes.after none;
            undecided = now.undecided none;
          };
    }

-- the writer kept what it has
pub has_listed_kept : (path known : List ℕ) (options : FindOptions) (finder : PieceFinderState) (start mid now : Option (List ℕ)) → Keeps mid now → HasListedSettled path known options finder start mid → HasListedSettled path known options finder start now
has_listed_kept path known options finder start mid now kept listed = record {
  fed = listed.fed;
  none_ready = listed.none_ready;
  open_yet = listed.open_yet;
  no_fault = listed.no_fault;
  listed = λ text goes.
      let before = listed.listed text goes in
      let was = before.listed in
      record {
        listed = record {
          values = was.values;
          found = was.found;
          settled = was.settled;
          same_options = was.same_options;
          written = Appends-kept start mid now (printed path was.values) was.written kept;
        };
        all = before.all;
        undecided = before.undecided;
      };
}

-- what is listed of each text stays so where each text's is, and as much was fed
pub to_next : (path known : List ℕ) (options : FindOptions) (mid new : PieceFinderState) (first before now : Option (List ℕ)) → fed_by new ≡ fed_by mid → (HasNoFault mid → HasNoFault new) → ((text : List ℕ) → GivenAreListed path text options mid first before → GivenAreListed path text options new first now) → HasListedGiven path known options mid first before → HasListedGiven path known options new first now
to_next path known options mid new first before now fed no_fault listed to = record {
  fed = fed ∙ to.fed;
  no_fault = no_fault to.no_fault;
  listed = λ text goes. listed text (to.listed text goes);
}
