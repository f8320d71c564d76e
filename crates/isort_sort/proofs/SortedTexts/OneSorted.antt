-- An accepted text has one sorted text, and one list of blocks.
use Rattle.std.proofs.Common.{◌≡◌, ℕ, Bool, true, false, None, Option, List, [], ◌++◌, ◌⊎◌, ⊎_elim, inl, inr, length, refl, sym, ap, ◌∙◌, subst}
use Rattle.std.proofs.lemmas.Bool.{both_ways}
use Rattle.py_lines.specs.LogicalLine.{LogicalLine}
use Rattle.py_lines.specs.Lexed.{IsLexed}
use Rattle.py_lines.specs.declared.fault.Fault.{Fault}
use Rattle.isort_settings.specs.Values.{Values}
use Rattle.isort_sort.specs.Answers.{spans_from, AreBlocksOf}
use Rattle.isort_sort.specs.Blocks.{Cut, IsCutAtBlocks}
use Rattle.isort_sort.specs.Row.{Row, AreRows, skips_file}
use Rattle.isort_sort.specs.Sorted.{first_end, mark_of, IsSortedCut, IsAccepted, IsSkipped, HasBlocks, IsLaidOut, IsSorted}
use Rattle.isort_sort.specs.declared.answer.Block.{Block}
use Rattle.isort_sort.proofs.Finding.OneBlocks.{one_cut_at_blocks}
use Rattle.isort_sort.proofs.Rows.OneRows.{BindsOneList, one_rows}
use Rattle.isort_sort.proofs.Finding.SomeBlocks.{some_cut_at_blocks}
use Rattle.isort_sort.proofs.Rows.SomeRows.{some_rows}
use Rattle.isort_sort.proofs.SortedTexts.SortedCuts.{some_sorted_cut, one_sorted_cut}
use Rattle.isort_sort.proofs.Orders.Statements.{AreOrders}

-- a text has one list of logical lines
abbrev pub HasOneLexing : Type 0
HasOneLexing = (text : List ℕ) (lines others : List LogicalLine) (end other : Option Fault) → IsLexed text lines end → IsLexed text others other → lines ≡ others

-- an accepted text is skipped or has blocks
abbrev Cuts : List ℕ → List LogicalLine → Type 0
Cuts text lines = IsSkipped text ⊎ ((cut : Cut) × HasBlocks text lines cut)

cuts : (text : List ℕ) (lines : List LogicalLine) → IsAccepted text lines → Cuts text lines
cuts text lines accepted = by (skips_file lines) refl
  where
    by : (b : Bool) → skips_file lines ≡ b → Cuts text lines
    by true e = inl (lines, accepted, e)
    by false e =
        let rows = some_rows [] lines accepted.values accepted.good in
        let cut = some_cut_at_blocks rows.0 in
        inr (cut.0, record { accepted = accepted; unskipped = e; rows = rows.0; seen = rows.1; cut_at = cut.1 })

pub some_sorted_text : (v : Values) → AreOrders v → (text : List ℕ) (lines : List LogicalLine) → IsAccepted text lines → (sorted : List ℕ) × IsSorted text v sorted
some_sorted_text v o text lines accepted =
    ⊎_elim
    (λ (skipped : IsSkipped text). (text, inl (skipped, refl)))
    (λ (h : (cut : Cut) × HasBlocks text lines cut).
    let body = some_sorted_cut v o (first_end text) h.0 in
    (mark_of lines ++ body.0, inr (record { lines = lines; cut = h.0; blocks = h.1; body = body.0; layouts = body.1; is = refl })))
    (cuts text lines accepted)

pub some_blocks : (text : List ℕ) (lines : List LogicalLine) → IsAccepted text lines → (blocks : List Block) × AreBlocksOf text blocks
some_blocks text lines accepted =
    ⊎_elim
    (λ (skipped : IsSkipped text). ([], inl (skipped, refl)))
    (λ (h : (cut : Cut) × HasBlocks text lines cut). (spans_from (length (mark_of lines)) h.0, inr (lines, h.0, h.1, refl)))
    (cuts text lines accepted)

-- a skipped text has no blocks
pub never_both : HasOneLexing → (text : List ℕ) (lines : List LogicalLine) (cut : Cut) → IsSkipped text → HasBlocks text lines cut → ⊥
never_both lexing text lines cut s h =
    let same = lexing text s.0 lines None None s.1.lexed h.accepted.lexed in
    both_ways _ (ap skips_file same ∙ h.unskipped) s.2

-- the same lines, and the same cut of their rows
pub record IsSameCut (lines others : List LogicalLine) (cut other : Cut) : Type 0 where
  pub lines_same : lines ≡ others
  pub cut_same : cut ≡ other

-- a text has one cut at blocks
pub same_cut : HasOneLexing → BindsOneList → (text : List ℕ) (lines others : List LogicalLine) (cut other : Cut) → HasBlocks text lines cut → HasBlocks text others other → IsSameCut lines others cut other
same_cut lexing one text lines others cut other a b =
    let same = lexing text lines others None None a.accepted.lexed b.accepted.lexed in
    let rows = one_rows one [] lines a.rows b.rows a.seen (subst (λ (ls : List LogicalLine). AreRows [] ls b.rows) (sym same) b.seen) in
    record { lines_same = same; cut_same = one_cut_at_blocks a.rows cut other a.cut_at (subst (λ (rs : List Row). IsCutAtBlocks rs other) (sym rows) b.cut_at) }

same_laid_out : HasOneLexing → BindsOneList → (v : Values) → AreOrders v → (text a b : List ℕ) → IsLaidOut text v a → IsLaidOut text v b → a ≡ b
same_laid_out lexing one v o text a b x y =
    let same = same_cut lexing one text x.lines y.lines x.cut y.cut x.blocks y.blocks in
    let body = one_sorted_cut v o (first_end text) x.cut x.body y.body x.layouts (subst (λ (c : Cut). IsSortedCut v (first_end text) c y.body) (sym same.cut_same) y.layouts) in
    x.is ∙ (λ i. mark_of (same.lines_same i) ++ body i) ∙ sym y.is

pub one_sorted_text : HasOneLexing → BindsOneList → (v : Values) → AreOrders v → (text a b : List ℕ) → IsSorted text v a → IsSorted text v b → a ≡ b
one_sorted_text lexing one v o text a b (inl x) (inl y) = x.1 ∙ sym y.1
one_sorted_text lexing one v o text a b (inl x) (inr y) = absurd (never_both lexing text y.lines y.cut x.0 y.blocks)
one_sorted_text lexing one v o text a b (inr x) (inl y) = absurd (never_both lexing text x.lines x.cut y.0 x.blocks)
one_sorted_text lexing one v o text a b (inr x) (inr y) = same_laid_out lexing one v o text a b x y

pub one_list_of_blocks : HasOneLexing → BindsOneList → (text : List ℕ) (a b : List Block) → AreBlocksOf text a → AreBlocksOf text b → a ≡ b
one_list_of_blocks lexing one text a b (inl x) (inl y) = x.1 ∙ sym y.1
one_list_of_blocks lexing one text a b (inl x) (inr y) = absurd (never_both lexing text y.0 y.1 x.0 y.2)
one_list_of_blocks lexing one text a b (inr x) (inl y) = absurd (never_both lexing text x.0 x.1 y.0 x.2)
one_list_of_blocks lexing one text a b (inr x) (inr y) =
    let same = same_cut lexing one text x.0 y.0 x.1 y.1 x.2 y.2 in
    x.3 ∙ (λ i. spans_from (length (mark_of (same.lines_same i))) (same.cut_same i)) ∙ sym y.3
