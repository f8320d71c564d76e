-- The spans of the blocks of a cut.
use Rattle.std.proofs.Common.{Vec, Global, ◌≡◌, ℕ, ◌+◌, List, [], ◌∷◌, ◌++◌, append-nil, length, drop, ◌≤◌, map, inl, inr, refl, sym, ap, ◌∙◌, subst}
use Rattle.std.proofs.lemmas.List.{drop_all}
use Rattle.isort_sort.specs.Answers.{spans_from, AreBlocksOf}
use Rattle.isort_sort.specs.Blocks.{Cut, rest, block, cut_rows}
use Rattle.isort_sort.specs.Private.Found.{found_of, found_from, span_of, found_value}
use Rattle.isort_sort.specs.Private.Reading.{IsFoundIn}
use Rattle.isort_sort.specs.Sorted.{mark_of, texts_of}
use Rattle.isort_sort.specs.declared.answer.Block.{Block}
use Rattle.isort_sort.specs.declared.finder.FoundBlock as code
use Rattle.isort_sort.specs.declared.read.FoundText.{FoundText}
use Rattle.isort_sort.specs.declared.read.FoundText.TheVariants as found_text

pub spans_found : (at : ℕ) (cut : Cut) → map span_of (found_from at cut) ≡ spans_from at cut
spans_found at (rest rows) = refl
spans_found at (block before run blanks cut) =
    let f = found_of (at + length (texts_of before)) run blanks (cut_rows cut) in
    ap (λ (bs : List Block). span_of f ∷ bs) (spans_found f.stop cut)

-- the blocks that were found, as spans
abbrev pub spans : List code.FoundBlock → List Block
spans bs = map (λ b. span_of (found_value b)) bs

pub spans_are : (bs : List code.FoundBlock) (at : ℕ) (cut : Cut) → map found_value bs ≡ found_from at cut → spans bs ≡ spans_from at cut
spans_are bs at cut h = twice bs ∙ ap (map span_of) h ∙ spans_found at cut
  where
    twice : (bs : List code.FoundBlock) → spans bs ≡ map span_of (map found_value bs)
    twice [] = refl
    twice (b ∷ bs) = ap (λ l. span_of (found_value b) ∷ l) (twice bs)

-- what was found gives the blocks of the text
pub blocks_of_found : (text : List ℕ) (found : FoundText) (b : Vec code.FoundBlock Global) (blocks : List Block) → IsFoundIn text found → found ≡ found_text.Blocks b → blocks ≡ spans b.items → AreBlocksOf text blocks
blocks_of_found text found b blocks is same are =
    let h = subst (IsFoundIn text) same is in
    inr (h.0, h.1, h.2, are ∙ spans_are b.items (length (mark_of h.0)) h.1 h.3.spans)

-- no block is left
pub all_taken : (bs : List code.FoundBlock) (passed : List code.FoundBlock) (taken : List Block) (i : ℕ) → passed ≡ bs → taken ++ spans (drop i passed) ≡ spans passed → length passed ≤ i → taken ≡ spans bs
all_taken bs passed taken i same h past =
    sym (append-nil taken) ∙ ap (λ (l : List code.FoundBlock). taken ++ spans l) (sym (drop_all i passed past)) ∙ h ∙ ap spans same

-- nothing is found in a text that is skipped
pub none_of_skipped : (text : List ℕ) (found : FoundText) (blocks : List Block) → IsFoundIn text found → found ≡ found_text.Skipped → blocks ≡ [] → AreBlocksOf text blocks
none_of_skipped text found blocks is same none = inl (subst (IsFoundIn text) same is, none)
