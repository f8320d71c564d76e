-- What is answered where there are no settings.
use Rattle.std.proofs.Common.{◌≡◌, ◌⊎◌, ℕ, List, Result, Ok, Err, refl, inl, inr}
use Rattle.isort_settings.specs.Values.{Values}
use Rattle.isort_sort.specs.declared.answer.SortError.TheVariants as error
use Rattle.isort_c.specs.Answers.{plain_answer}
use Rattle.isort_c.specs.Kept.{Answered, KeepsReading}
use Rattle.isort_c.specs.Sorting.{AnswersSort, AnswersCheck}
use Rattle.isort_c.specs.declared.answer.Answer.{Answer}
use Rattle.isort_c.specs.declared.answer.TheConstants.{MEMORY}

-- memory can run out whatever the settings stand for
pub sort_memory : (text : List ℕ) (r : Result (Values × List (List ℕ)) Answer) (out : List ℕ) → AnswersSort text r (plain_answer MEMORY) out out
sort_memory text (Ok (v, unknown)) out = (Err error.Memory, tt, refl, refl)
sort_memory text (Err e) out = (inr refl, refl)

pub check_memory : (text : List ℕ) (r : Result (Values × List (List ℕ)) Answer) → AnswersCheck text r (plain_answer MEMORY)
check_memory text (Ok (v, unknown)) = (Err error.Memory, tt, refl)
check_memory text (Err e) = inr refl

-- settings that can't be had
pub sort_unread : (text : List ℕ) (r : Result (Values × List (List ℕ)) Answer) (a : Answer) (out : List ℕ) → (r ≡ Err a) ⊎ (a ≡ plain_answer MEMORY) → AnswersSort text r a out out
sort_unread text r a out (inl is) = rw is (inl refl, refl)
sort_unread text r a out (inr is) = rw is (sort_memory text r out)

pub check_unread : (text : List ℕ) (r : Result (Values × List (List ℕ)) Answer) (a : Answer) → (r ≡ Err a) ⊎ (a ≡ plain_answer MEMORY) → AnswersCheck text r a
check_unread text r a (inl is) = rw is (inl refl)
check_unread text r a (inr is) = rw is (check_memory text r)

keeps_memory : (r old : Answered) → KeepsReading r (plain_answer MEMORY) old old
keeps_memory (Ok v) old = inr (refl, refl)
keeps_memory (Err e) old = (inr refl, refl)

pub keeps_unread : (r : Answered) (a : Answer) (old : Answered) → (r ≡ Err a) ⊎ (a ≡ plain_answer MEMORY) → KeepsReading r a old old
keeps_unread r a old (inl is) = rw is (inl refl, refl)
keeps_unread r a old (inr is) = rw is (keeps_memory r old)
