-- Where blocks are replaced, those that come are blocks.
use Rattle.std.proofs.Common.{◌≡◌, ℕ, true, false, ◌||◌, ◌&&◌, List, [], ◌∷◌, ◌++◌, flat_map, refl, sym, ap, ◌∙◌, append_assoc}
use Rattle.std.specs.Prelude.{bytes_eq}
use Rattle.std.specs.List.{list_all, list_any}
use Rattle.std.proofs.lemmas.Bool.{and_parts, and_from}
use Rattle.isort_sort.specs.Row.{Row}
use Rattle.isort_sort.specs.Blocks.{is_member, stands_between, leads_to, further_rows, Run, goes_on, is_run, Cut, rest, block, cut_rows, begins_blank, AreBlocks}
use Rattle.isort_sort.specs.BlocksReplaced.{is_comments, AreReplaced, no_block, one_more}
use Rattle.isort_sort.proofs.Finding.RoleTests.{of_member, of_comments}
use Rattle.std.proofs.Math.Bool.{or-false}
use Rattle.isort_sort.proofs.Finding.Steps.{leads_over, blanks_between, none_between}
use Rattle.std.proofs.lemmas.List.Folds.{list_any-append}

-- comments may stand between members
comments_between : (rows : List Row) → list_all is_comments rows ≡ true → list_all stands_between rows ≡ true
comments_between [] h = refl
comments_between (r ∷ rs) h = let parts = and_parts (is_comments r) (list_all is_comments rs) h in and_from _ _ (of_comments r.role parts.0).between (comments_between rs parts.1)

comments_no_member : (before above : List Row) → list_any is_member before ≡ false → list_all is_comments above ≡ true → list_any is_member (before ++ above) ≡ false
comments_no_member before above h k = list_any-append is_member before above ∙ (λ i. h i || none_between above (comments_between above k) i)

leads_before : (indentation : List ℕ) (before a b : List Row) → leads_to indentation a ≡ leads_to indentation b → leads_to indentation (before ++ a) ≡ leads_to indentation (before ++ b)
leads_before indentation [] a b h = h
leads_before indentation (r ∷ rs) a b h = ap (λ x. (is_member r && bytes_eq r.indentation indentation) || (stands_between r && x)) (leads_before indentation rs a b h)

-- a member leads to its own indentation, and stops the search for another
leads_member : (indentation : List ℕ) (row : Row) (rows : List Row) → is_member row ≡ true → leads_to indentation (row ∷ rows) ≡ bytes_eq row.indentation indentation
leads_member indentation row rows h =
    ap (λ b. (b && bytes_eq row.indentation indentation) || (stands_between row && leads_to indentation rows)) h
    ∙ ap (λ b. bytes_eq row.indentation indentation || (b && leads_to indentation rows)) (of_member row.role h).between
    ∙ or-false (bytes_eq row.indentation indentation)

pub run_member : (run : Run) → is_run run ≡ true → is_member run.first ≡ true
run_member run h = (and_parts (is_member run.first) (list_all (goes_on run.first.indentation) run.others) h).0

leads_same : (indentation : List ℕ) (a b : Cut) → AreBlocks a → AreReplaced a b → leads_to indentation (cut_rows b) ≡ leads_to indentation (cut_rows a)
leads_same indentation (rest rows) _ p (no_block _) = refl
leads_same indentation (block before run blanks cut) _ p (one_more _ above _ new _ others _ later alone is same blank_rows w) =
    let after = flat_map further_rows new.others ++ (others ++ cut_rows later) in
    ap (leads_to indentation) (append_assoc before above (new.first ∷ after))
    ∙ leads_before indentation before _ _
    (leads_over indentation above (new.first ∷ after) (comments_between above alone)
    ∙ leads_member indentation new.first after (run_member new is)
    ∙ ap (λ (x : List ℕ). bytes_eq x indentation) same
    ∙ sym (leads_member indentation run.first (flat_map further_rows run.others ++ (blanks ++ cut_rows cut)) (run_member run p.1)))

no_blank_first : (before above : List Row) (first old : Row) (after more : List Row) → list_all is_comments above ≡ true → is_member first ≡ true → begins_blank (before ++ old ∷ more) ≡ false → begins_blank ((before ++ above) ++ first ∷ after) ≡ false
no_blank_first (r ∷ rs) above first old after more h k e = e
no_blank_first [] [] first old after more h k e = (of_member first.role k).no_blank
no_blank_first [] (r ∷ rs) first old after more h k e = (of_comments r.role (and_parts (is_comments r) (list_all is_comments rs) h).0).no_blank

begins_same : (a b : Cut) → AreBlocks a → AreReplaced a b → begins_blank (cut_rows a) ≡ false → begins_blank (cut_rows b) ≡ false
begins_same (rest rows) _ p (no_block _) h = h
begins_same (block before run blanks cut) _ p (one_more _ above _ new _ others _ later alone is same blank_rows w) h =
    no_blank_first before above new.first run.first _ _ alone (run_member new is) h

-- the blocks that come are blocks
pub blocks_again : (a b : Cut) → AreBlocks a → AreReplaced a b → AreBlocks b
blocks_again (rest rows) _ p (no_block _) = p
blocks_again (block before run blanks cut) _ p (one_more _ above _ new _ others _ later alone is same blank_rows w) =
    let leads : leads_to new.first.indentation (others ++ cut_rows later) ≡ false =
    ap (λ (x : List ℕ). leads_to x (others ++ cut_rows later)) same
    ∙ leads_over run.first.indentation others (cut_rows later) (blanks_between others blank_rows)
    ∙ leads_same run.first.indentation cut later p.5 w
    ∙ sym (leads_over run.first.indentation blanks (cut_rows cut) (blanks_between blanks p.3)) ∙ p.2 in
    (comments_no_member before above p.0 alone, is, leads, blank_rows, begins_same cut later p.5 w p.4, blocks_again cut later p.5 w)
