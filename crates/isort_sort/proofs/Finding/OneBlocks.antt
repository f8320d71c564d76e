-- Rows have one cut at blocks.
use Rattle.std.proofs.Common.{◌≡◌, ℕ, Bool, true, false, ◌||◌, ◌&&◌, List, [], ◌∷◌, ◌++◌, flat_map, refl, sym, ap, ◌∙◌, subst, append_assoc}
use Rattle.std.specs.Prelude.{bytes_eq}
use Rattle.std.specs.List.{list_all, list_any}
use Rattle.std.proofs.lemmas.Bool.{and_parts, or_parts, both_ways}
use Rattle.isort_sort.specs.Row.{Row}
use Rattle.isort_sort.specs.Blocks.{is_member, stands_between, is_blank, leads_to, Further, further_rows, goes_on, Cut, rest, block, cut_rows, begins_blank, AreBlocks, IsCutAtBlocks}
use Rattle.isort_sort.proofs.Finding.RoleTests.{no_member}
use Rattle.isort_sort.proofs.Finding.Steps.{none_between}

-- lists that are the same up to the first that passes
record Same {X : Type 0} (xs ys : List X) (x y : X) (more others : List X) : Type 0 where
  front : xs ≡ ys
  one : x ≡ y
  behind : more ≡ others

at_first : {X : Type 0} (p : X → Bool) (xs zs : List X) (x z : X) (ys ws : List X) → xs ++ x ∷ ys ≡ zs ++ z ∷ ws → list_any p xs ≡ false → list_any p zs ≡ false → p x ≡ true → p z ≡ true → Same xs zs x z ys ws
at_first p [] [] x z ys ws e h k m n = record { front = refl; one = cc; behind = cc }
at_first {X} p [] (c ∷ zs) x z ys ws e h k m n = let same : x ≡ c = cc in absurd (both_ways _ (or_parts (p c) (list_any p zs) k).0 (subst (λ (w : X). p w ≡ true) same m))
at_first {X} p (c ∷ xs) [] x z ys ws e h k m n = let same : c ≡ z = cc in absurd (both_ways _ (or_parts (p c) (list_any p xs) h).0 (subst (λ (w : X). p w ≡ true) (sym same) n))
at_first {X} p (c ∷ xs) (d ∷ zs) x z ys ws e h k m n =
    let same : c ≡ d = cc in
    let tail : xs ++ x ∷ ys ≡ zs ++ z ∷ ws = cc in
    let more = at_first p xs zs x z ys ws tail (or_parts (p c) (list_any p xs) h).1 (or_parts (p d) (list_any p zs) k).1 m n in
    record { front = λ i. same i ∷ more.front i; one = more.one; behind = more.behind }

abbrev begins_so : {X : Type 0} → (X → Bool) → List X → Bool
begins_so p [] = false
begins_so p (x ∷ xs) = p x

longest : {X : Type 0} (p : X → Bool) (xs zs ys ws : List X) → xs ++ ys ≡ zs ++ ws → list_all p xs ≡ true → list_all p zs ≡ true → begins_so p ys ≡ false → begins_so p ws ≡ false → (xs ≡ zs) × (ys ≡ ws)
longest p [] [] ys ws e h k m n = (refl, e)
longest {X} p [] (c ∷ zs) ys ws e h k m n = absurd (both_ways _ (sym (ap (begins_so p) e) ∙ m) (and_parts (p c) (list_all p zs) k).0)
longest {X} p (c ∷ xs) [] ys ws e h k m n = absurd (both_ways _ (ap (begins_so p) e ∙ n) (and_parts (p c) (list_all p xs) h).0)
longest {X} p (c ∷ xs) (d ∷ zs) ys ws e h k m n =
    let same : c ≡ d = cc in
    let tail : xs ++ ys ≡ zs ++ ws = cc in
    let more = longest p xs zs ys ws tail (and_parts (p c) (list_all p xs) h).1 (and_parts (p d) (list_all p zs) k).1 m n in
    ((λ i. same i ∷ more.0 i), more.1)

-- a further member is led to
led : (indentation : List ℕ) (between : List Row) (row : Row) (behind : List Row) → list_all stands_between between ≡ true → is_member row ≡ true → bytes_eq row.indentation indentation ≡ true → leads_to indentation (between ++ row ∷ behind) ≡ true
led indentation [] row behind h m same = rw (m, same)
led indentation (r ∷ rs) row behind h m same =
    let parts = and_parts (stands_between r) (list_all stands_between rs) h in
    rw (no_member r.role parts.0, parts.0, led indentation rs row behind parts.1 m same)

abbrev Going : List ℕ → Further → Type 0
Going indentation f = (list_all stands_between f.between ≡ true) × (is_member f.row ≡ true) × (bytes_eq f.row.indentation indentation ≡ true)

going : (indentation : List ℕ) (f : Further) → goes_on indentation f ≡ true → Going indentation f
going indentation f h = let parts = and_parts (list_all stands_between f.between && is_member f.row) (bytes_eq f.row.indentation indentation) h in let both = and_parts (list_all stands_between f.between) (is_member f.row) parts.0 in (both.0, both.1, parts.1)

leads_on : (indentation : List ℕ) (f : Further) (fs : List Further) (behind : List Row) → goes_on indentation f ≡ true → leads_to indentation (flat_map further_rows (f ∷ fs) ++ behind) ≡ true
leads_on indentation f fs behind h =
    let g = going indentation f h in
    ap (leads_to indentation) (append_assoc (f.between ++ f.row ∷ []) (flat_map further_rows fs) behind ∙ append_assoc f.between (f.row ∷ []) (flat_map further_rows fs ++ behind)) ∙ led indentation f.between f.row (flat_map further_rows fs ++ behind) g.0 g.1 g.2

same_others : (indentation : List ℕ) (fs gs : List Further) (xs ys : List Row) → flat_map further_rows fs ++ xs ≡ flat_map further_rows gs ++ ys → list_all (goes_on indentation) fs ≡ true → list_all (goes_on indentation) gs ≡ true → leads_to indentation xs ≡ false → leads_to indentation ys ≡ false → (fs ≡ gs) × (xs ≡ ys)
same_others indentation [] [] xs ys e h k m n = (refl, e)
same_others indentation [] (g ∷ gs) xs ys e h k m n = absurd (both_ways _ (sym (ap (leads_to indentation) e) ∙ m) (leads_on indentation g gs ys (and_parts _ _ k).0))
same_others indentation (f ∷ fs) [] xs ys e h k m n = absurd (both_ways _ (ap (leads_to indentation) e ∙ n) (leads_on indentation f fs xs (and_parts _ _ h).0))
same_others indentation (f ∷ fs) (g ∷ gs) xs ys e h k m n =
    let a = and_parts (goes_on indentation f) (list_all (goes_on indentation) fs) h in
    let b = and_parts (goes_on indentation g) (list_all (goes_on indentation) gs) k in
    let c = going indentation f a.0 in
    let d = going indentation g b.0 in
    let regroup : (u : Further) (us : List Further) (zs : List Row) → flat_map further_rows (u ∷ us) ++ zs ≡ u.between ++ u.row ∷ (flat_map further_rows us ++ zs) = λ u us zs. append_assoc (u.between ++ u.row ∷ []) (flat_map further_rows us) zs ∙ append_assoc u.between (u.row ∷ []) (flat_map further_rows us ++ zs) in
    let same = at_first is_member f.between g.between f.row g.row (flat_map further_rows fs ++ xs) (flat_map further_rows gs ++ ys) (sym (regroup f fs xs) ∙ e ∙ regroup g gs ys) (none_between f.between c.0) (none_between g.between d.0) c.1 d.1 in
    let more = same_others indentation fs gs xs ys same.behind a.1 b.1 m n in
    ((λ i. record { between = same.front i; row = same.one i } ∷ more.0 i), more.1)

any_first : (before : List Row) (row : Row) (behind : List Row) → is_member row ≡ true → list_any is_member (before ++ row ∷ behind) ≡ true
any_first [] row behind h = rw h
any_first (r ∷ rs) row behind h = ap (λ b. is_member r || b) (any_first rs row behind h) ∙ or_true (is_member r)
  where
    or_true : (b : Bool) → b || true ≡ true
    or_true true = refl
    or_true false = refl

begins_same : (rows : List Row) → begins_blank rows ≡ begins_so is_blank rows
begins_same [] = refl
begins_same (r ∷ rs) = refl

pub same_cuts : (a b : Cut) → AreBlocks a → AreBlocks b → cut_rows a ≡ cut_rows b → a ≡ b
same_cuts (rest x) (rest y) p q e = ap rest e
same_cuts (rest x) (block before run blanks c) p q e = absurd (both_ways _ (sym (ap (list_any is_member) e) ∙ p) (any_first before run.first _ (and_parts _ _ q.1).0))
same_cuts (block before run blanks c) (rest y) p q e = absurd (both_ways _ (ap (list_any is_member) e ∙ q) (any_first before run.first _ (and_parts _ _ p.1).0))
same_cuts (block before run blanks c) (block earlier other_run others d) p q e =
    let r = and_parts (is_member run.first) (list_all (goes_on run.first.indentation) run.others) p.1 in
    let s = and_parts (is_member other_run.first) (list_all (goes_on other_run.first.indentation) other_run.others) q.1 in
    let first = at_first is_member before earlier run.first other_run.first _ _ e p.0 q.0 r.0 s.0 in
    let going_on : list_all (goes_on run.first.indentation) other_run.others ≡ true = subst (λ (w : Row). list_all (goes_on w.indentation) other_run.others ≡ true) (sym first.one) s.1 in
    let stops : leads_to run.first.indentation (others ++ cut_rows d) ≡ false = subst (λ (w : Row). leads_to w.indentation (others ++ cut_rows d) ≡ false) (sym first.one) q.2 in
    let further = same_others run.first.indentation run.others other_run.others (blanks ++ cut_rows c) (others ++ cut_rows d) first.behind r.1 going_on p.2 stops in
    let blank_rows = longest is_blank blanks others (cut_rows c) (cut_rows d) further.1 p.3 q.3 (sym (begins_same (cut_rows c)) ∙ p.4) (sym (begins_same (cut_rows d)) ∙ q.4) in
    let more = same_cuts c d p.5 q.5 blank_rows.1 in
    λ i. block (first.front i) (record { first = first.one i; others = further.0 i }) (blank_rows.0 i) (more i)

pub one_cut_at_blocks : (rows : List Row) (a b : Cut) → IsCutAtBlocks rows a → IsCutAtBlocks rows b → a ≡ b
one_cut_at_blocks rows a b p q = same_cuts a b p.blocks q.blocks (p.all ∙ sym q.all)
