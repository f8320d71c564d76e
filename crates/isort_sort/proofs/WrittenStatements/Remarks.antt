-- The joined comment of a written statement, read back.
use Rattle.std.proofs.Common.{◌≡◌, ℕ, true, false, ◌||◌, ⊎_elim, List, [], ◌∷◌, ◌++◌, map, flat_map, codes, refl, sym, ap, ◌∙◌, append_assoc, append-nil}
use Rattle.std.specs.Prelude.{filter}
use Rattle.std.specs.List.{list_any, join_by}
use Rattle.std.proofs.lemmas.Bool.{or_parts, both_ways, false_from_ne_true}
use Rattle.py_imports.specs.ActionComment.{says}
use Rattle.py_imports.specs.declared.action_comment.ActionComment.{ActionComment}
use Rattle.py_imports.specs.declared.action_comment.ActionComment.TheVariants as action
use Rattle.isort_sort.specs.LaidAgain.{joined_comments}
use Rattle.isort_sort.specs.Line.{stripped, without_hash, is_text, AreOwnComments}
use Rattle.isort_sort.specs.WrittenLine.{AreRemarks}
use Rattle.isort_sort.proofs.Rows.ReadBack.{joined_read_back}
use Rattle.isort_sort.proofs.LineLaws.Laws.{Laws}
use Rattle.isort_sort.proofs.WrittenStatements.Rests.{remark_said}

remarks-own : (cs : List (List ℕ)) → AreRemarks cs → AreOwnComments cs
remarks-own [] h = tt
remarks-own (c ∷ cs) h = (h.0.own, remarks-own cs h.1)

text_first : (c rest : List ℕ) → is_text c ≡ true → is_text (c ++ rest) ≡ true
text_first [] rest h = absurd (cc)
text_first (b ∷ bs) rest h = refl

-- the comments of the written line
pub own-again : (cs : List (List ℕ)) → AreRemarks cs → joined_comments cs ≡ filter is_text (map (λ t. stripped (without_hash t)) (remark_said cs))
own-again [] h = refl
own-again (c ∷ cs) h =
    let joined : List ℕ = join_by (λ (t : List ℕ). t) (codes "; ") (c ∷ cs) in
    let kept : is_text joined ≡ true = text_first c (flat_map (λ (t : List ℕ). codes "; " ++ t) cs) h.0.own.0 in
    sym (ap (λ t. filter is_text (t ∷ [])) (joined_read_back c cs (remarks-own (c ∷ cs) h)) ∙ by joined kept)
  where
    by : (t : List ℕ) → is_text t ≡ true → filter is_text (t ∷ []) ≡ t ∷ []
    by [] e = absurd (cc)
    by (b ∷ bs) e = refl

-- what joined comments say, one of them says
joined-silent : Laws → (a : ActionComment) (c : List ℕ) (cs : List (List ℕ)) → list_any (says a) (c ∷ cs) ≡ false → says a (join_by (λ (t : List ℕ). t) (codes "; ") (c ∷ cs)) ≡ false
joined-silent laws a c [] h = ap (says a) (append-nil c) ∙ (or_parts (says a c) false h).0
joined-silent laws a c (d ∷ ds) h =
    let both = or_parts (says a c) (list_any (says a) (d ∷ ds)) h in
    let rest : List ℕ = join_by (λ (t : List ℕ). t) (codes "; ") (d ∷ ds) in
    let same : join_by (λ (t : List ℕ). t) (codes "; ") (c ∷ d ∷ ds) ≡ c ++ (codes "; " ++ rest) = ap (λ t. c ++ t) (append_assoc (codes "; ") d (flat_map (λ (t : List ℕ). codes "; " ++ t) ds)) in
    let others = joined-silent laws a d ds both.1 in
    ap (says a) same ∙ false_from_ne_true _ (λ e. ⊎_elim (λ k. both_ways _ both.0 k) (λ k. both_ways _ others k) (laws.joined a c rest e))

says-after : (a : ActionComment) (t : List ℕ) → says a t ≡ false → says a (codes "# " ++ t) ≡ false
says-after action.SkipFile t h = h
says-after _ t h = h

pub said-silent : Laws → (a : ActionComment) (cs : List (List ℕ)) → list_any (says a) cs ≡ false → list_any (says a) (remark_said cs) ≡ false
said-silent laws a [] h = refl
said-silent laws a (c ∷ cs) h = ap (λ b. b || false) (says-after a (join_by (λ (t : List ℕ). t) (codes "; ") (c ∷ cs)) (joined-silent laws a c cs h))

pub unskipped : (cs : List (List ℕ)) → AreRemarks cs → list_any (says action.Skip) cs ≡ false
unskipped [] h = refl
unskipped (c ∷ cs) h = λ i. h.0.unskipped i || unskipped cs h.1 i
