-- Sorting changes nothing outside the spans of blocks.
use Rattle.std.proofs.Common.{◌≡◌, ℕ, suc, ◌+◌, ◌≤◌, List, [], ◌∷◌, ◌++◌, inl, inr, length, length-append, drop, refl, sym, ap, ◌∙◌, subst, append_assoc, arith}
use Rattle.std.specs.Prelude.{slice_range}
use Rattle.std.proofs.Math.Seq.{drop-append_seam}
use Rattle.py_lines.specs.LogicalLine.{LogicalLine}
use Rattle.isort_settings.specs.Values.{Values}
use Rattle.isort_sort.specs.Answers.{spans_from, AreBlocksOf, with_layouts, StandBetween}
use Rattle.isort_sort.specs.Blocks.{Run, run_rows, Cut, rest, block, cut_rows}
use Rattle.isort_sort.specs.Row.{Row}
use Rattle.isort_sort.specs.Sorted.{texts_of, mark_of, first_end, IsSortedCut, HasBlocks, IsLaidOut, IsSorted}
use Rattle.isort_sort.specs.declared.answer.Block.{Block}
use Rattle.isort_sort.proofs.SortedTexts.Arranging.{part_between, regroup}
use Rattle.isort_sort.proofs.Rows.Texts.{text_of_rows}
use Rattle.isort_sort.proofs.Finding.Steps.{texts_append}

-- the texts of a block's rows, and of those before and after it
cut_texts : (before : List Row) (run : Run) (blanks : List Row) (cut : Cut) → texts_of (cut_rows (block before run blanks cut)) ≡ texts_of before ++ (texts_of (run_rows run) ++ (texts_of blanks ++ texts_of (cut_rows cut)))
cut_texts before run blanks cut = texts_append before (run_rows run ++ (blanks ++ cut_rows cut)) ∙ ap (λ (t : List ℕ). texts_of before ++ t) (texts_append (run_rows run) (blanks ++ cut_rows cut) ∙ ap (λ (t : List ℕ). texts_of (run_rows run) ++ t) (texts_append blanks (cut_rows cut)))

-- a text is the texts of the rows of its cut, after its byte order mark
text_of_cut : (text : List ℕ) (lines : List LogicalLine) (cut : Cut) → HasBlocks text lines cut → text ≡ mark_of lines ++ texts_of (cut_rows cut)
text_of_cut text lines cut h = text_of_rows text lines h.rows h.accepted.lexed h.seen ∙ ap (λ (rows : List Row). mark_of lines ++ texts_of rows) (sym h.cut_at.all)

four_lengths : (a b c d : List ℕ) → length (a ++ (b ++ (c ++ d))) ≡ length a + length b + length c + length d
four_lengths a b c d = omega (arith, length-append a (b ++ (c ++ d)), length-append b (c ++ d), length-append c d)

-- the spans of blocks stand one after another
apart_from : (text done : List ℕ) (low at : ℕ) (cut : Cut) → text ≡ done ++ texts_of (cut_rows cut) → at ≡ length done → low ≤ at → StandBetween low (spans_from at cut) (length text)
apart_from text done low at (rest rows) split place h = omega (arith, ap length split, length-append done (texts_of rows), place, h)
apart_from text done low at (block before run blanks cut) split place h =
    let start : ℕ = at + length (texts_of before) in
    let stop : ℕ = start + length (texts_of (run_rows run)) + length (texts_of blanks) in
    let passed : List ℕ = done ++ (texts_of before ++ (texts_of (run_rows run) ++ texts_of blanks)) in
    let others : text ≡ passed ++ texts_of (cut_rows cut) = split ∙ ap (λ (t : List ℕ). done ++ t) (cut_texts before run blanks cut) ∙ regroup done (texts_of before) (texts_of (run_rows run)) (texts_of blanks) (texts_of (cut_rows cut)) in
    let stops : stop ≡ length passed = omega (arith, place, four_lengths done (texts_of before) (texts_of (run_rows run)) (texts_of blanks)) in
    (omega (arith, h), omega arith, apart_from text passed stop stop cut others stops (omega arith))

pub blocks_stand_apart : (text : List ℕ) (blocks : List Block) → AreBlocksOf text blocks → StandBetween 0 blocks (length text)
blocks_stand_apart text blocks (inl (skipped, none)) = subst (λ (bs : List Block). StandBetween 0 bs (length text)) (sym none) (omega arith)
blocks_stand_apart text blocks (inr (lines, cut, has, are)) =
    subst (λ (bs : List Block). StandBetween 0 bs (length text)) (sym are) (apart_from text (mark_of lines) 0 (length (mark_of lines)) cut (text_of_cut text lines cut has) refl (omega arith))

-- sorted is the text, from this byte on, with the span of each block replaced by some text
abbrev pub IsReplaced : List ℕ → ℕ → List Block → List ℕ → Type 0
IsReplaced text low blocks sorted = (layouts : List (List ℕ)) × (length layouts ≡ length blocks) × (sorted ≡ with_layouts text low blocks layouts)

-- the same from any byte on that no block takes in: up to the next block stand the bytes `gap`
replaced_from : (v : Values) (end text done gap : List ℕ) (low at : ℕ) (cut : Cut) (body : List ℕ) → text ≡ done ++ (gap ++ texts_of (cut_rows cut)) → low ≡ length done → at ≡ low + length gap → IsSortedCut v end cut body → IsReplaced text low (spans_from at cut) (gap ++ body)
replaced_from v end text done gap low at (rest rows) body split place after x =
    ([], refl, ap (λ (t : List ℕ). gap ++ t) x ∙ sym (ap (λ (n : ℕ). drop n text) place ∙ ap (drop (length done)) split ∙ drop-append_seam done (gap ++ texts_of rows)))
replaced_from v end text done gap low at (block before run blanks cut) body split place after x =
    let start : ℕ = at + length (texts_of before) in
    let stop : ℕ = start + length (texts_of (run_rows run)) + length (texts_of blanks) in
    let kept : List ℕ = gap ++ texts_of before in
    let passed : List ℕ = done ++ (kept ++ (texts_of (run_rows run) ++ texts_of blanks)) in
    let parts : text ≡ done ++ (kept ++ (texts_of (run_rows run) ++ (texts_of blanks ++ texts_of (cut_rows cut)))) = split ∙ ap (λ (t : List ℕ). done ++ (gap ++ t)) (cut_texts before run blanks cut) ∙ ap (λ (t : List ℕ). done ++ t) (sym (append_assoc gap (texts_of before) (texts_of (run_rows run) ++ (texts_of blanks ++ texts_of (cut_rows cut))))) in
    let stops : stop ≡ length passed = omega (arith, place, after, four_lengths done kept (texts_of (run_rows run)) (texts_of blanks), length-append gap (texts_of before)) in
    let others = replaced_from v end text passed [] stop stop cut x.1 (parts ∙ regroup done kept (texts_of (run_rows run)) (texts_of blanks) (texts_of (cut_rows cut))) stops (omega arith) x.4 in
    let before_it : slice_range text low start ≡ kept = ap (λ (t : List ℕ). slice_range t low start) parts ∙ part_between done kept (texts_of (run_rows run) ++ (texts_of blanks ++ texts_of (cut_rows cut))) low start place (omega (arith, place, after, length-append gap (texts_of before))) in
    (x.0 ∷ others.0, ap suc others.1, ap (λ (t : List ℕ). gap ++ t) x.2 ∙ sym (append_assoc gap (texts_of before) (x.0 ++ x.1)) ∙ (λ i. sym before_it i ++ (x.0 ++ others.2 i)))

laid_out : (text : List ℕ) (v : Values) (sorted : List ℕ) (x : IsLaidOut text v sorted) → IsReplaced text 0 (spans_from (length (mark_of x.lines)) x.cut) sorted
laid_out text v sorted x =
    subst (IsReplaced text 0 (spans_from (length (mark_of x.lines)) x.cut)) (sym x.is)
    (replaced_from v (first_end text) text [] (mark_of x.lines) 0 (length (mark_of x.lines)) x.cut x.body (text_of_cut text x.lines x.cut x.blocks) refl (omega arith) x.layouts)

-- a text has one list of blocks
abbrev pub HasOneListOfBlocks : Type 0
HasOneListOfBlocks = (text : List ℕ) (a b : List Block) → AreBlocksOf text a → AreBlocksOf text b → a ≡ b

pub only_blocks_are_replaced : HasOneListOfBlocks → (text : List ℕ) (v : Values) (sorted : List ℕ) (blocks : List Block) → IsSorted text v sorted → AreBlocksOf text blocks → IsReplaced text 0 blocks sorted
only_blocks_are_replaced one text v sorted blocks (inl (skipped, same)) are =
    subst (λ (bs : List Block). IsReplaced text 0 bs sorted) (one text [] blocks (inl (skipped, refl)) are) ([], refl, same)
only_blocks_are_replaced one text v sorted blocks (inr x) are =
    subst (λ (bs : List Block). IsReplaced text 0 bs sorted) (one text (spans_from (length (mark_of x.lines)) x.cut) blocks (inr (x.lines, x.cut, x.blocks, refl)) are) (laid_out text v sorted x)
