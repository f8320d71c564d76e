-- What reading a text whole says, and what a run says that reads one first.
use Rattle.std.proofs.Common.{◌≡◌, ◌≢◌, ℕ, ◌≤◌, ◌∙◌, refl, sym, ap, subst, Bool, Option, None, Some, IfSome, Result, Ok, Err, IfOk, IfErr, List, ◌++◌, length, take, append-nil}
use Rattle.std.proofs.KnownBytes.{Consumes-trans, Keeps-refl}
use Rattle.std.specs.Io.KnownBytes.{Consumes, IsAtEnd, Keeps}
use Rattle.isort_settings.specs.Values.{Values}
use Rattle.isort_sort.specs.Answers.{Checks}
use Rattle.isort_sort.specs.Metered.{IsGivenUp}
use Rattle.isort_sort.specs.Written.{WritesSorted, LeavesUnwritten}
use Rattle.isort_sort.specs.declared.answer.Outcome.{Outcome}
use Rattle.isort_sort.specs.declared.answer.SortError.{SortError}
use Rattle.isort_sort.specs.declared.answer.SortError.TheVariants as sort
use Rattle.isort_sort.specs.declared.metered.Last.{Last}
use Rattle.isort_sort.specs.declared.metered.Last.TheVariants as last
use Rattle.isort_cmd.specs.Reading.{IsReadWhole, TellsLength}
use Rattle.isort_cmd.specs.RunError.{EndsReading, EndsWriting, IsInputError, LeavesReader, LeavesWriter, run_error_of_sort}
use Rattle.isort_cmd.specs.Sorting.{ChecksInput, IsUnwritten, LeavesUnsorted, SortsInput, TellsFault}
use Rattle.isort_cmd.specs.Private.Steps.{IsReadError}
use Rattle.isort_cmd.specs.declared.error.RunError.{RunError}
use Rattle.isort_cmd.specs.declared.error.RunError.TheVariants as run

-- ---- reading

-- the errors of one read are those of reading a text, and say nothing of its length
pub error_of_read : (max : ℕ) (e : RunError) (l : Last) (given : Option (List ℕ)) → IsReadError e l → IsInputError e × TellsLength max e given
error_of_read max (run.Fault f) l given h = absurd h
error_of_read max run.Write l given h = absurd h
error_of_read max run.Memory l given h = absurd h
error_of_read max run.Read l given h = (tt, tt)
error_of_read max run.TooLong l given h = absurd h
error_of_read max run.NeverEnds l given h = (tt, tt)

all_read : (given left : Option (List ℕ)) (text : List ℕ) → Consumes given left text → IsAtEnd left → IfSome given (λ all. all ≡ text)
all_read None left text consumed ended = tt
all_read (Some all) None text consumed ended = absurd consumed
all_read (Some all) (Some rest) text consumed ended = consumed ∙ ap (λ r. text ++ r) ended ∙ append-nil text

-- no byte came at the end
pub read_whole : (max n : ℕ) (text chunk : List ℕ) (given mid left : Option (List ℕ)) → Consumes given mid text → n ≡ 0 → Consumes mid left (take n chunk) → IsAtEnd left → length text ≤ max → IsReadWhole max text given left
read_whole max n text chunk given mid left consumed none read ended within = record {
  whole = all_read given left text (subst (λ bytes. Consumes given left bytes) (ap (λ m. text ++ take m chunk) none ∙ append-nil text) (Consumes-trans given mid left text (take n chunk) consumed read)) ended;
  within = within;
  end = ended;
}

-- ---- a run whose reader had a text

of_whole : (P : List ℕ → Type 0) (given : Option (List ℕ)) (text : List ℕ) → IfSome given (λ all. all ≡ text) → P text → IfSome given P
of_whole P None text whole h = tt
of_whole P (Some all) text whole h = subst P (sym whole) h

keeps_known : (given : Option (List ℕ)) (v : Values) (e : RunError) (now : Option (List ℕ)) → IsInputError e → IfSome given (λ text. LeavesUnsorted text v e now now)
keeps_known None v e now input = tt
keeps_known (Some text) v (run.Fault f) now input = absurd input
keeps_known (Some text) v run.Write now input = absurd input
keeps_known (Some text) v run.Memory now input = Keeps-refl now
keeps_known (Some text) v run.Read now input = Keeps-refl now
keeps_known (Some text) v run.TooLong now input = Keeps-refl now
keeps_known (Some text) v run.NeverEnds now input = Keeps-refl now

-- the writer of a run that read no text whole
unread_writer : (e : RunError) (l : Last) → IsInputError e → l ≡ last.Fine → LeavesWriter e l
unread_writer (run.Fault f) l input fine = absurd input
unread_writer run.Write l input fine = absurd input
unread_writer run.Memory l input fine = fine
unread_writer run.Read l input fine = fine
unread_writer run.TooLong l input fine = fine
unread_writer run.NeverEnds l input fine = fine

-- the reader of a run that failed after reading
reader_of_sort : (e : SortError) (l : Last) → l ≡ last.Fine → LeavesReader (run_error_of_sort e) l
reader_of_sort sort.Memory l fine = fine
reader_of_sort (sort.Fault f) l fine = fine
reader_of_sort sort.Write l fine = fine

length_of_sort : (max : ℕ) (e : SortError) (given left : Option (List ℕ)) (text : List ℕ) → IsReadWhole max text given left → TellsLength max (run_error_of_sort e) given
length_of_sort max sort.Memory given left text read = tt
length_of_sort max (sort.Fault f) given left text read = of_whole (λ t. length t ≤ max) given text read.whole read.within
length_of_sort max sort.Write given left text read = tt

-- ---- sorting

-- what `sort_run` promises
abbrev pub HasSorted : Values → ℕ → Result Outcome RunError → Option (List ℕ) → Option (List ℕ) → Option (List ℕ) → Option (List ℕ) → Last → Last → Type 0
HasSorted v max r given left old new reader writer = record {
  ok : IfOk r (λ outcome. SortsInput v max outcome given left old new);
  err : IfErr r (λ e. IfSome given (λ text. LeavesUnsorted text v e old new));
  length : IfErr r (λ e. TellsLength max e given);
  unwritten : IfErr r (λ e. IsUnwritten e → Keeps old new);
  reader : EndsReading r reader;
  writer : EndsWriting r writer;
}

pub sorted_unread : (v : Values) (max : ℕ) (e : RunError) (given left now : Option (List ℕ)) (reader writer : Last) → IsInputError e → TellsLength max e given → LeavesReader e reader → writer ≡ last.Fine → HasSorted v max (Err e) given left now now reader writer
sorted_unread v max e given left now reader writer input size ends fine = record {
  ok = tt;
  err = keeps_known given v e now input;
  length = size;
  unwritten = λ _. Keeps-refl now;
  reader = ends;
  writer = unread_writer e writer input fine;
}

leaves_of_sort : (text : List ℕ) (v : Values) (e : SortError) (old new : Option (List ℕ)) → LeavesUnwritten text v e old new → LeavesUnsorted text v (run_error_of_sort e) old new
leaves_of_sort text v sort.Memory old new h = h
leaves_of_sort text v (sort.Fault f) old new h = h
leaves_of_sort text v sort.Write old new h = h

keeps_of_sort : (text : List ℕ) (v : Values) (e : SortError) (old new : Option (List ℕ)) → LeavesUnwritten text v e old new → IsUnwritten (run_error_of_sort e) → Keeps old new
keeps_of_sort text v sort.Memory old new h unwritten = h
keeps_of_sort text v (sort.Fault f) old new h unwritten = h.1
keeps_of_sort text v sort.Write old new h unwritten = absurd unwritten

writer_of_sort : (r : Result Outcome SortError) (e : SortError) (l : Last) → r ≡ Err e → (r ≡ Err sort.Write → IsGivenUp l) → (r ≢ Err sort.Write → l ≡ last.Fine) → LeavesWriter (run_error_of_sort e) l
writer_of_sort r sort.Memory l is stopped fine = fine (λ other. cc)
writer_of_sort r (sort.Fault f) l is stopped fine = fine (λ other. cc)
writer_of_sort r sort.Write l is stopped fine = stopped is

pub sorted_failed : (v : Values) (max : ℕ) (r : Result Outcome SortError) (e : SortError) (given left old new : Option (List ℕ)) (text items : List ℕ) (reader writer : Last) → r ≡ Err e → IsReadWhole max items given left → text ≡ items → LeavesUnwritten text v e old new → reader ≡ last.Fine → (r ≡ Err sort.Write → IsGivenUp writer) → (r ≢ Err sort.Write → writer ≡ last.Fine) → HasSorted v max (Err (run_error_of_sort e)) given left old new reader writer
sorted_failed v max r e given left old new text items reader writer is read same leaves reader_fine stopped fine =
    let here = leaves_of_sort text v e old new leaves in
    record {
      ok = tt;
      err = of_whole (λ t. LeavesUnsorted t v (run_error_of_sort e) old new) given items read.whole (subst (λ t. LeavesUnsorted t v (run_error_of_sort e) old new) same here);
      length = length_of_sort max e given left items read;
      unwritten = keeps_of_sort text v e old new leaves;
      reader = reader_of_sort e reader reader_fine;
      writer = writer_of_sort r e writer is stopped fine;
    }

pub sorted_well : (v : Values) (max : ℕ) (outcome : Outcome) (given left old new : Option (List ℕ)) (text items : List ℕ) (reader writer : Last) → IsReadWhole max items given left → text ≡ items → WritesSorted text v outcome old new → reader ≡ last.Fine → writer ≡ last.Fine → HasSorted v max (Ok outcome) given left old new reader writer
sorted_well v max outcome given left old new text items reader writer read same writes reader_fine writer_fine = record {
  ok = record {
    sorts = of_whole (λ t. WritesSorted t v outcome old new) given items read.whole (subst (λ t. WritesSorted t v outcome old new) same writes);
    within = of_whole (λ t. length t ≤ max) given items read.whole read.within;
    end = read.end;
  };
  err = tt;
  length = tt;
  unwritten = tt;
  reader = reader_fine;
  writer = writer_fine;
}

-- ---- checking

-- what `check_run` promises
abbrev pub HasChecked : Values → ℕ → Result Bool RunError → Option (List ℕ) → Option (List ℕ) → Last → Type 0
HasChecked v max r given left reader = record {
  ok : IfOk r (λ same. ChecksInput v max same given left);
  fault : IfErr r (λ e. IfSome given (λ text. TellsFault text e));
  length : IfErr r (λ e. TellsLength max e given);
  never_written : r ≢ Err run.Write;
  reader : EndsReading r reader;
}

tells_none : (given : Option (List ℕ)) (e : RunError) → IsInputError e → IfSome given (λ text. TellsFault text e)
tells_none None e input = tt
tells_none (Some text) (run.Fault f) input = absurd input
tells_none (Some text) run.Write input = tt
tells_none (Some text) run.Memory input = tt
tells_none (Some text) run.Read input = tt
tells_none (Some text) run.TooLong input = tt
tells_none (Some text) run.NeverEnds input = tt

input_is_no_write : (e : RunError) → IsInputError e → e ≡ run.Write → ⊥
input_is_no_write e input is = subst IsInputError is input

error_in : (r : Result Bool RunError) (e d : RunError) → r ≡ Err e → r ≡ Err d → e ≡ d
error_in r e d h k = cc

pub checked_unread : (v : Values) (max : ℕ) (e : RunError) (given left : Option (List ℕ)) (reader : Last) → IsInputError e → TellsLength max e given → LeavesReader e reader → HasChecked v max (Err e) given left reader
checked_unread v max e given left reader input size ends = record {
  ok = tt;
  fault = tells_none given e input;
  length = size;
  never_written = λ is. input_is_no_write e input (error_in (Err e) e run.Write refl is);
  reader = ends;
}

tells_of_check : (text : List ℕ) (v : Values) (e : SortError) → Checks text v (Err e) → TellsFault text (run_error_of_sort e)
tells_of_check text v sort.Memory h = tt
tells_of_check text v (sort.Fault f) h = h
tells_of_check text v sort.Write h = absurd h

check_is_no_write : (text : List ℕ) (v : Values) (e : SortError) → Checks text v (Err e) → run_error_of_sort e ≡ run.Write → ⊥
check_is_no_write text v sort.Memory h is = cc
check_is_no_write text v (sort.Fault f) h is = cc
check_is_no_write text v sort.Write h is = h

pub checked_failed : (v : Values) (max : ℕ) (e : SortError) (given left : Option (List ℕ)) (text items : List ℕ) (reader : Last) → IsReadWhole max items given left → text ≡ items → Checks text v (Err e) → reader ≡ last.Fine → HasChecked v max (Err (run_error_of_sort e)) given left reader
checked_failed v max e given left text items reader read same checks fine = record {
  ok = tt;
  fault = of_whole (λ t. TellsFault t (run_error_of_sort e)) given items read.whole (subst (λ t. TellsFault t (run_error_of_sort e)) same (tells_of_check text v e checks));
  length = length_of_sort max e given left items read;
  never_written = λ is. check_is_no_write text v e checks (error_in (Err (run_error_of_sort e)) (run_error_of_sort e) run.Write refl is);
  reader = reader_of_sort e reader fine;
}

pub checked_well : (v : Values) (max : ℕ) (same_text : Bool) (given left : Option (List ℕ)) (text items : List ℕ) (reader : Last) → IsReadWhole max items given left → text ≡ items → Checks text v (Ok same_text) → reader ≡ last.Fine → HasChecked v max (Ok same_text) given left reader
checked_well v max same_text given left text items reader read same checks fine = record {
  ok = record {
    checks = of_whole (λ t. Checks t v (Ok same_text)) given items read.whole (subst (λ t. Checks t v (Ok same_text)) same checks);
    within = of_whole (λ t. length t ≤ max) given items read.whole read.within;
    end = read.end;
  };
  fault = tt;
  length = tt;
  never_written = λ is. cc;
  reader = fine;
}
