-- The text of a block is made statement by statement.
use Rattle.std.proofs.Common.{◌≡◌, ℕ, ◌-◌, Bool, true, false, Option, None, Some, List, [], ◌∷◌, ◌++◌, length, take, map, flat_map, replicate, refl, sym, ap, ◌∙◌, subst, append_assoc, append-nil, length-append, arith}
use Rattle.std.specs.List.{join_by}
use Rattle.std.specs.Str.{IsUtf8, IsCharBoundary}
use Rattle.std.specs.String.Boundary.{IsSplitPoint}
use Rattle.std.proofs.lemmas.List.{append_cancel_right, take_all, take-append-le}
use Rattle.std.proofs.lemmas.List.Concat.{flat_map-append}
use Rattle.std.proofs.lemmas.Str.{IsCharBoundary-at_seam}
use Rattle.isort_settings.specs.Values.{Values}
use Rattle.isort_sort.specs.Private.Group.{Group, group_value}
use Rattle.isort_sort.specs.Private.Packing.{laid_of, text_with, gap_lines, next_lines, lines_left}
use Rattle.isort_sort.specs.Layout.{own_lines, text_of_lines}
use Rattle.isort_sort.specs.declared.group.Group as code
use Rattle.isort_sort.proofs.Layouts.Writing.{blank_lines}
use Rattle.isort_sort.proofs.LineLaws.Joined.{AreSome, some_append, some_first}

-- the lines of a group
pub next_line : (v : Values) (indentation end : List ℕ) (before : Option Group) (g : Group) → AreSome (next_lines v indentation end before g)
next_line v indentation end before g = some_append (gap_lines v before g) _ (some_append (map (λ c. indentation ++ c) g.above) _ (_, [], refl))

-- the lines that are left begin with those of the next group
pub left_step : (v : Values) (indentation end : List ℕ) (before : Option Group) (g : Group) (gs : List Group) → lines_left v indentation end before (g ∷ gs) ≡ next_lines v indentation end before g ++ lines_left v indentation end (Some g) gs
left_step v indentation end None g gs = refl
left_step v indentation end (Some b) g gs = sym (append_assoc (gap_lines v (Some b) g) (own_lines v indentation end (laid_of v indentation g)) _)

pub left_none : (v : Values) (indentation end : List ℕ) (before : Option Group) → lines_left v indentation end before [] ≡ []
left_none v indentation end None = refl
left_none v indentation end (Some b) = refl

pub left_line : (v : Values) (indentation end : List ℕ) (before : Option Group) (gs : List code.Group) → (length gs ≡ 0 → ⊥) → AreSome (lines_left v indentation end before (map group_value gs))
left_line v indentation end before [] some = absurd (some refl)
left_line v indentation end before (g ∷ gs) some = subst AreSome (sym (left_step v indentation end before (group_value g) (map group_value gs))) (some_first _ _ (next_line v indentation end before (group_value g)))

-- lines with line ends are joined lines and a line end
turned : (end : List ℕ) (lines : List (List ℕ)) → end ++ text_with end lines ≡ flat_map (λ l. end ++ l) lines ++ end
turned end [] = append-nil end
turned end (l ∷ lines) = simp append_assoc (ap (λ t. end ++ (l ++ t)) (turned end lines))

abbrev joined : List ℕ → List (List ℕ) → List ℕ
joined end lines = join_by (λ (t : List ℕ). t) end lines

pub joined_ended : (end : List ℕ) (lines : List (List ℕ)) → AreSome lines → text_with end lines ≡ joined end lines ++ end
joined_ended end [] (l, ls, e) = absurd (let k : [] ≡ l ∷ ls = e in cc)
joined_ended end (l ∷ lines) h = append_assoc l end (text_with end lines) ∙ ap (λ t. l ++ t) (turned end lines) ∙ sym (append_assoc l (flat_map (λ l. end ++ l) lines) end)

-- the text of lines that others follow
joined_more : (end : List ℕ) (a b : List (List ℕ)) → AreSome b → joined end (a ++ b) ≡ text_with end a ++ joined end b
joined_more end a b h =
    append_cancel_right (joined end (a ++ b)) (text_with end a ++ joined end b) end
    (sym (joined_ended end (a ++ b) (some_append a b h)) ∙ flat_map-append (λ l. l ++ end) a b ∙ ap (λ t. text_with end a ++ t) (joined_ended end b h) ∙ sym (append_assoc (text_with end a) (joined end b) end))

ended_more : (end : List ℕ) (blanks : ℕ) (a b : List (List ℕ)) → text_of_lines end true blanks (a ++ b) ≡ text_with end a ++ text_of_lines end true blanks b
ended_more end blanks a b =
    ap (flat_map (λ l. l ++ end)) (append_assoc a b (replicate blanks [])) ∙ flat_map-append (λ l. l ++ end) a (b ++ replicate blanks [])

pub text_more : (end : List ℕ) (ended : Bool) (blanks : ℕ) (a b : List (List ℕ)) → (ended ≡ false → AreSome b) → text_of_lines end ended blanks (a ++ b) ≡ text_with end a ++ text_of_lines end ended blanks b
text_more end true blanks a b h = ended_more end blanks a b
text_more end false blanks a b h = joined_more end a b (h refl)

-- the text of the last lines, of which the last has no line end
trimmed : (end old : List ℕ) (lines : List (List ℕ)) (whole : List ℕ) (n : ℕ) → AreSome lines → whole ≡ old ++ text_with end lines → n ≡ length whole - length end → (whole ≡ (old ++ joined end lines) ++ end) × (n ≡ length (old ++ joined end lines))
trimmed end old lines whole n h e same =
    let is : whole ≡ (old ++ joined end lines) ++ end = e ∙ ap (λ t. old ++ t) (joined_ended end lines h) ∙ sym (append_assoc old (joined end lines) end) in
    (is, omega (arith, same, ap length is, length-append (old ++ joined end lines) end))

pub text_trimmed : (end old : List ℕ) (lines : List (List ℕ)) (whole text : List ℕ) (n : ℕ) → AreSome lines → whole ≡ old ++ text_with end lines → n ≡ length whole - length end → text ≡ take n whole → text ≡ old ++ text_of_lines end false 0 lines
text_trimmed end old lines whole text n h e same cut =
    let t = trimmed end old lines whole n h e same in
    let all : List ℕ = old ++ joined end lines in
    cut ∙ ap (λ k. take k whole) t.1 ∙ ap (take (length all)) t.0 ∙ take-append-le (length all) all end (omega arith) ∙ take_all (length all) all (omega arith)

pub split_before_end : (end old : List ℕ) (lines : List (List ℕ)) (whole : List ℕ) (n : ℕ) → IsUtf8 end → AreSome lines → whole ≡ old ++ text_with end lines → n ≡ length whole - length end → IsSplitPoint whole n
split_before_end end old lines whole n utf8 h e same =
    let t = trimmed end old lines whole n h e same in
    let boundary : IsCharBoundary whole n = subst (IsCharBoundary whole) (sym t.1) (IsCharBoundary-at_seam whole (old ++ joined end lines) end t.0 utf8) in
    (boundary.0, λ _ less. boundary.1 less)

-- the text that is left before and after the next group
pub next_text : (v : Values) (end : List ℕ) (ended : Bool) (blanks : ℕ) (indentation : List ℕ) (before : Option Group) (g : Group) (gs all : List Group) → all ≡ g ∷ gs → (ended ≡ false → AreSome (lines_left v indentation end (Some g) gs)) → text_of_lines end ended blanks (lines_left v indentation end before all) ≡ text_with end (next_lines v indentation end before g) ++ text_of_lines end ended blanks (lines_left v indentation end (Some g) gs)
next_text v end ended blanks indentation before g gs all is more =
    ap (λ x. text_of_lines end ended blanks (lines_left v indentation end before x)) is
    ∙ ap (text_of_lines end ended blanks) (left_step v indentation end before g gs)
    ∙ text_more end ended blanks (next_lines v indentation end before g) (lines_left v indentation end (Some g) gs) more

-- the same for the last group, where its last line has no line end
pub last_text : (v : Values) (end : List ℕ) (ended : Bool) (blanks : ℕ) (indentation : List ℕ) (before : Option Group) (g : Group) (gs all : List Group) → all ≡ g ∷ gs → gs ≡ [] → ended ≡ false → text_of_lines end ended blanks (lines_left v indentation end before all) ≡ text_of_lines end false 0 (next_lines v indentation end before g) ++ text_of_lines end ended blanks (lines_left v indentation end (Some g) gs)
last_text v end true blanks indentation before g gs all is last unended = absurd (cc)
last_text v end false blanks indentation before g gs all is last unended =
    let lines : List (List ℕ) = next_lines v indentation end before g in
    let none : lines_left v indentation end (Some g) gs ≡ [] = ap (lines_left v indentation end (Some g)) last in
    ap (λ x. joined end (lines_left v indentation end before x)) is
    ∙ ap (joined end) (left_step v indentation end before g gs ∙ ap (λ x. lines ++ x) none ∙ append-nil lines)
    ∙ sym (append-nil (joined end lines)) ∙ ap (λ x. joined end lines ++ joined end x) (sym none)

-- the text of blank lines, where no group is left
blanks_text : (end : List ℕ) (ended : Bool) (n : ℕ) → (ended ≡ false → n ≡ 0) → text_of_lines end ended n [] ≡ flat_map (λ (l : List ℕ). l) (replicate n end)
blanks_text end true n none = sym (blank_lines end n)
blanks_text end false n none = sym (ap (λ k. flat_map (λ (l : List ℕ). l) (replicate k end)) (none refl))

no_text : (end : List ℕ) (ended : Bool) → text_of_lines end ended 0 [] ≡ []
no_text end true = refl
no_text end false = refl

pub blanks_left : (end written : List ℕ) (ended : Bool) (n count rest : ℕ) (before after : List (List ℕ)) → (ended ≡ false → n ≡ 0) → before ≡ [] → after ≡ [] → count ≡ n → written ≡ end → rest ≡ 0 → text_of_lines end ended n before ≡ flat_map (λ (l : List ℕ). l) (replicate count written) ++ text_of_lines end ended rest after
blanks_left end written ended n count rest before after unended none nothing all same over =
    ap (text_of_lines end ended n) none ∙ blanks_text end ended n unended
    ∙ (λ i. flat_map (λ (l : List ℕ). l) (replicate (sym all i) (sym same i)))
    ∙ sym (append-nil (flat_map (λ (l : List ℕ). l) (replicate count written)))
    ∙ ap (λ t. flat_map (λ (l : List ℕ). l) (replicate count written) ++ t) (sym ((λ i. text_of_lines end ended (over i) (nothing i)) ∙ no_text end ended))
