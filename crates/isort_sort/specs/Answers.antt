-- What the calls answer.
use Rattle.std.specs.Prelude.{◌≡◌, ◌≢◌, ◌⊎◌, ℕ, ◌+◌, ◌≤◌, Bool, MatchBool, List, [], ◌∷◌, ◌++◌}
use Rattle.std.specs.Prelude.{length, drop, slice_range, Result, Ok, Err, string_bytes}
use Rattle.py_lines.specs.LogicalLine.{LogicalLine}
use Rattle.isort_settings.specs.Values.{Values}
use Rattle.isort_sort.specs.Blocks.{run_rows, Cut, rest, block, members_of}
use Rattle.isort_sort.specs.ReadBack.{HasBlocksBack}
use Rattle.isort_sort.specs.Sorted.{texts_of, mark_of, HasFault, IsSkipped, HasBlocks, IsLaidOut, IsSorted}
use Rattle.isort_sort.specs.declared.answer.Block.{Block}
use Rattle.isort_sort.specs.declared.answer.Outcome.{Outcome}
use Rattle.isort_sort.specs.declared.answer.Outcome.TheVariants as outcome
use Rattle.isort_sort.specs.declared.answer.Sorted.{Sorted}
use Rattle.isort_sort.specs.declared.answer.Sorted.TheVariants as sorted
use Rattle.isort_sort.specs.declared.answer.SortError.{SortError}
use Rattle.isort_sort.specs.declared.answer.SortError.TheVariants as error

-- why a text isn't sorted: its fault, where it isn't accepted; or memory ran out
abbrev pub IsRefused : List ℕ → SortError → Type 0
IsRefused text (error.Fault fault) = HasFault text fault
IsRefused text error.Memory = Unit {0}
IsRefused text error.Write = ⊥

-- Skipped where the text is skipped; else Same where it is its own sorted text, or Changed with the sorted text
abbrev pub Sorts : List ℕ → Values → Result Sorted SortError → Type 0
Sorts text v (Ok sorted.Same) = IsLaidOut text v text
Sorts text v (Ok (sorted.Changed s)) = IsLaidOut text v (string_bytes s) × (string_bytes s ≢ text)
Sorts text v (Ok sorted.Skipped) = IsSkipped text
Sorts text v (Err e) = IsRefused text e

-- the text of `Changed`, sorted again under the same settings, is `Same`
abbrev pub StaysSorted : Values → Sorted → Type 0
StaysSorted v (sorted.Changed s) = Sorts (string_bytes s) v (Ok sorted.Same)
StaysSorted v _ = Unit {0}

-- the text of `Changed`, read as any text is, has the blocks of the text back
abbrev pub ReadsBack : List ℕ → Values → Sorted → Type 0
ReadsBack text v (sorted.Changed s) = HasBlocksBack text v (string_bytes s)
ReadsBack text v _ = Unit {0}

-- the sorted text, with what the outcome says of it
abbrev pub IsSortedAs : List ℕ → Values → Outcome → List ℕ → Type 0
IsSortedAs text v outcome.Same sorted = IsLaidOut text v sorted × (sorted ≡ text)
IsSortedAs text v outcome.Changed sorted = IsLaidOut text v sorted × (sorted ≢ text)
IsSortedAs text v outcome.Skipped sorted = IsSkipped text × (sorted ≡ text)

-- what sorting comes to
abbrev pub TellsOutcome : List ℕ → Values → Result Outcome SortError → Type 0
TellsOutcome text v (Ok outcome) = (sorted : List ℕ) × IsSortedAs text v outcome sorted
TellsOutcome text v (Err e) = IsRefused text e

-- whether the sorted text is the text
abbrev pub Checks : List ℕ → Values → Result Bool SortError → Type 0
Checks text v (Ok same) = (sorted : List ℕ) × IsSorted text v sorted × MatchBool same (sorted ≡ text) (sorted ≢ text)
Checks text v (Err e) = IsRefused text e

-- the blocks of a cut whose first row begins at this byte: the bytes of their spans, and how many members they have
abbrev pub spans_from : ℕ → Cut → List Block
spans_from at (rest rows) = []
spans_from at (block before run blanks cut) =
    let start = at + length (texts_of before) in
    let stop = start + length (texts_of (run_rows run)) + length (texts_of blanks) in
    record { start = start; stop = stop; members = length (members_of run) } ∷ spans_from stop cut

-- the blocks of a text: none where it is skipped
abbrev pub AreBlocksOf : List ℕ → List Block → Type 0
AreBlocksOf text blocks =
    IsSkipped text × (blocks ≡ [])
    ⊎ ((lines : List LogicalLine) × (cut : Cut) × HasBlocks text lines cut × (blocks ≡ spans_from (length (mark_of lines)) cut))

-- the text from this byte on, with the span of each block replaced by one of these texts
abbrev pub with_layouts : List ℕ → ℕ → List Block → List (List ℕ) → List ℕ
with_layouts text at [] layouts = drop at text
with_layouts text at (b ∷ bs) [] = drop at text
with_layouts text at (b ∷ bs) (layout ∷ layouts) = slice_range text at b.start ++ (layout ++ with_layouts text b.stop bs layouts)

-- blocks that stand one after another in so many bytes, from this byte on
abbrev pub StandBetween : ℕ → List Block → ℕ → Type 0
StandBetween at [] len = at ≤ len
StandBetween at (b ∷ bs) len = (at ≤ b.start) × (b.start ≤ b.stop) × StandBetween b.stop bs len
