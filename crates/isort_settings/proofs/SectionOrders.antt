-- In the order that a table gives each section stands once.
use Rattle.std.proofs.Common.{◌≡◌, codes, ℕ, ◌+◌, ◌==◌, ◌<◌, ◌≤◌, ◌⊎◌, zero, suc, nat_lt, lit<, Bool, true, false, not, cond, List, [], ◌∷◌, ◌++◌, map, length, Option, Some, None, option_map, option_and_then, is_some, ok_or, IfSome, Ok, String, Global, string_bytes, bytes_eq, refl, sym, ◌∙◌, ap, subst, arith, inl, inr, append_assoc, length-append}
use Rattle.std.proofs.lemmas.Bool.{cases_Bool, cases_eq, cases_lt, eq-eqb, ne_eqb, lt-ltb, le-ltb, and_parts, and_from, or_parts, or_from, not-true, not_from_false, false_from_ne_true}
use Rattle.std.proofs.lemmas.Iterator.Adapters.{position_from-zero}
use Rattle.std.proofs.lemmas.List.{length-map}
use Rattle.std.proofs.lemmas.List.Elements.{filter-append}
use Rattle.std.proofs.lemmas.List.Folds.{list_any-append}
use Rattle.std.proofs.lemmas.List.Sorted.{IsPermutation-refl, IsPermutation-sym, IsPermutation-trans, IsPermutation-cons, IsPermutation-middle, IsPermutation-append_left, IsPermutation-append_right, IsPermutation-append_comm, IsPermutation-filter_both, sum_by-IsPermutation}
use Rattle.std.proofs.lemmas.List.Sums.{sum_by-append, sum_by-cons}
use Rattle.std.proofs.lemmas.Slice.Eq.{bytes_eq-Decides}
use Rattle.std.specs.List.{count_by, filter, filter_map, cons_option, list_any, position, position_from, range_with_len}
use Rattle.std.specs.List.Sorted.{IsPermutation}
use Rattle.std.specs.Option.{option_or, option_map_or}
use Rattle.std.specs.Result.{result_unwrap_or}
use Rattle.std.specs.Str.{str_eq_ignore_ascii_case, str_to_ascii_lowercase}
use Rattle.toml.specs.Data.{Data, Members, get_member, as_array}
use Rattle.isort_settings.specs.declared.error.SettingsError.TheVariants.{BadValue}
use Rattle.isort_settings.specs.declared.key.SettingKey.TheVariants as key
use Rattle.isort_settings.specs.declared.section.Section.{Section}
use Rattle.isort_settings.specs.declared.section.Section.TheVariants.{Future, Stdlib, ThirdParty, FirstParty, LocalFolder, Own}
use Rattle.isort_settings.specs.declared.table_sections.Listed.{Listed}
use Rattle.isort_settings.specs.FiveSections.{usual_order, section_spelling, section_spelled, section_number, same_section, order_of, times_in, StandOnce}
use Rattle.isort_settings.specs.Keys.{name_of}
use Rattle.isort_settings.specs.Reading.{entries_of}
use Rattle.isort_settings.specs.SectionNames.{are_apart, are_sections, own_among, section_named, order_listed, SectionTable, five_alone, sections_of}
use Rattle.isort_settings.specs.TableSections.{read_sections, sections_in, own_names_in}
use Rattle.isort_settings.specs.TableSections.Steps.{listed_value}

-- a name that is another's whatever the case of its letters
abbrev same : List ℕ → List ℕ → Bool
same a b = str_eq_ignore_ascii_case a b

equal_same : (a b : List ℕ) → a ≡ b → same a b ≡ true
equal_same a b e = (bytes_eq-Decides (str_to_ascii_lowercase a) (str_to_ascii_lowercase b)).1 (ap str_to_ascii_lowercase e)

-- names that differ whatever the case differ
differ : (a b : List ℕ) → same a b ≡ false → bytes_eq a b ≡ false
differ a b h = false_from_ne_true _ (λ t. both (sym h ∙ equal_same a b ((bytes_eq-Decides a b).0 t)))
  where
    both : false ≡ true → ⊥
    both e = cc

none_equal : (name : List ℕ) (names : List (List ℕ)) → list_any (λ other. same other name) names ≡ false → list_any (λ other. bytes_eq other name) names ≡ false
none_equal name [] h = refl
none_equal name (other ∷ names) h =
    let parts = or_parts (same other name) (list_any (λ o. same o name) names) h in
    or_from _ _ (differ other name parts.0) (none_equal name names parts.1)

-- the first of names that are apart is like none of the others
head_apart : (name : List ℕ) (names : List (List ℕ)) → are_apart (name ∷ names) ≡ true → list_any (λ other. same other name) names ≡ false
head_apart name names h = not-true _ (and_parts _ _ h).0

tail_apart : (name : List ℕ) (names : List (List ℕ)) → are_apart (name ∷ names) ≡ true → are_apart names ≡ true
tail_apart name names h = (and_parts (not (list_any (λ other. same other name) names)) (are_apart names) h).1

-- some of the names
none_filtered : (p q : List ℕ → Bool) (names : List (List ℕ)) → list_any q names ≡ false → list_any q (filter p names) ≡ false
none_filtered p q [] h = refl
none_filtered p q (name ∷ names) h =
    let parts = or_parts (q name) (list_any q names) h in
    let rest : list_any q (filter p names) ≡ false = none_filtered p q names parts.1 in
    elim (p name) as (λ b. list_any q (cond b (name ∷ filter p names) (filter p names)) ≡ false) [
      | true ↦ or_from _ _ parts.0 rest
      | false ↦ rest
    ]

apart_filtered : (p : List ℕ → Bool) (names : List (List ℕ)) → are_apart names ≡ true → are_apart (filter p names) ≡ true
apart_filtered p [] h = refl
apart_filtered p (name ∷ names) h =
    let rest : are_apart (filter p names) ≡ true = apart_filtered p names (tail_apart name names h) in
    let none : list_any (λ other. same other name) (filter p names) ≡ false = none_filtered p (λ other. same other name) names (head_apart name names h) in
    elim (p name) as (λ b. are_apart (cond b (name ∷ filter p names) (filter p names)) ≡ true) [
      | true ↦ and_from _ _ (not_from_false _ none) rest
      | false ↦ rest
    ]

-- a name is none of those before it
none_before : (before : List (List ℕ)) (name : List ℕ) (left : List (List ℕ)) → are_apart (before ++ name ∷ left) ≡ true → list_any (λ other. bytes_eq other name) before ≡ false
none_before [] name left h = refl
none_before (first ∷ before) name left h =
    let others : list_any (λ other. same other first) (before ++ name ∷ left) ≡ false = head_apart first (before ++ name ∷ left) h in
    let later = or_parts (list_any (λ other. same other first) before) (list_any (λ other. same other first) (name ∷ left)) (sym (list_any-append _ before (name ∷ left)) ∙ others) in
    let this = or_parts (same name first) (list_any (λ other. same other first) left) later.1 in
    let other_way : bytes_eq first name ≡ false = false_from_ne_true _ (λ t. both (sym this.0 ∙ equal_same name first (sym ((bytes_eq-Decides first name).0 t)))) in
    or_from _ _ other_way (none_before before name left (tail_apart first (before ++ name ∷ left) h))
  where
    both : false ≡ true → ⊥
    both e = cc

place_after : (p : List ℕ → Bool) (before : List (List ℕ)) (name : List ℕ) (left : List (List ℕ)) (i : ℕ) → list_any p before ≡ false → p name ≡ true → position_from p i (before ++ name ∷ left) ≡ Some (i + length before)
place_after p [] name left i none here = rw here (ap Some (omega arith))
place_after p (first ∷ before) name left i none here =
    let parts = or_parts (p first) (list_any p before) none in
    rw parts.0 (place_after p before name left (i + 1) parts.1 here ∙ ap Some (omega arith))

-- the own section of a name
abbrev own_place : List (List ℕ) → List ℕ → Option Section
own_place own name = option_map (λ i. Own i) (position (λ other. bytes_eq other name) own)

at_its_place : (before : List (List ℕ)) (name : List ℕ) (left own : List (List ℕ)) → own ≡ before ++ name ∷ left → are_apart own ≡ true → own_place own name ≡ Some (Own (length before))
at_its_place before name left own is apart =
    let p : List ℕ → Bool = λ other. bytes_eq other name in
    let none = none_before before name left (rw is at apart) in
    ap (option_map (λ i. Own i))
    (ap (position p) is ∙ position_from-zero p (before ++ name ∷ left) ∙ place_after p before name left 0 none ((bytes_eq-Decides name name).1 refl) ∙ ap Some (omega arith))

-- own names give the own sections one after another
own_in_order : (own before left : List (List ℕ)) → own ≡ before ++ left → are_apart own ≡ true → filter_map (own_place own) left ≡ map (λ i. Own i) (range_with_len (length before) (length left))
own_in_order own before [] is apart = refl
own_in_order own before (name ∷ left) is apart =
    let grown : length (before ++ name ∷ []) ≡ length before + 1 = length-append before (name ∷ []) in
    ap (λ o. cons_option o (filter_map (own_place own) left)) (at_its_place before name left own is apart)
    ∙ ap (λ xs. Own (length before) ∷ xs)
    (own_in_order own (before ++ name ∷ []) left (is ∙ sym (append_assoc before (name ∷ []) left)) apart
    ∙ ap (λ n. map (λ i. Own i) (range_with_len n (length left))) grown)

-- the sections of names: those of the five, and then the own ones
add_own : (found : Option Section) (all five own : List Section) → IsPermutation all (five ++ own) → IsPermutation (cons_option found all) (five ++ cons_option found own)
add_own None all five own h = h
add_own (Some s) all five own h = IsPermutation-trans _ _ _ (IsPermutation-cons s all (five ++ own) h) (IsPermutation-sym _ _ (IsPermutation-middle five s own))

by_kind : (own names : List (List ℕ)) → IsPermutation (filter_map (section_named own) names) (filter_map section_spelled names ++ filter_map (own_place own) (own_among names))
by_kind own [] = IsPermutation-refl []
by_kind own (name ∷ names) =
    let place : Option Section = own_place own name in
    let all : List Section = filter_map (section_named own) names in
    let five : List Section = filter_map section_spelled names in
    let owned : List (List ℕ) = own_among names in
    elim (section_spelled name) as (λ o. IsPermutation (cons_option (option_or o place) all) (cons_option o five ++ filter_map (own_place own) (cond (not (is_some o)) (name ∷ owned) owned))) [
      | Some s ↦ IsPermutation-cons s _ _ (by_kind own names)
      | None ↦ add_own place all five (filter_map (own_place own) owned) (by_kind own names)
    ]

-- whether one of the names spells the section
abbrev listed : List (List ℕ) → Section → Bool
listed names s = list_any (λ name. bytes_eq name (section_spelling s)) names

-- one of the five is listed, which wasn't
one_listed : (f g : Section → Bool) (before : List Section) (s : Section) (after found : List Section) → filter g before ≡ filter f before → filter g after ≡ filter f after → f s ≡ false → g s ≡ true
    → IsPermutation found (filter f (before ++ s ∷ after)) → IsPermutation (s ∷ found) (filter g (before ++ s ∷ after))
one_listed f g before s after found same_before same_after wasnt is so_far =
    let old : filter f (before ++ s ∷ after) ≡ filter f before ++ filter f after =
    filter-append f before (s ∷ after) ∙ ap (λ b. filter f before ++ cond b (s ∷ filter f after) (filter f after)) wasnt in
    let new : filter g (before ++ s ∷ after) ≡ filter f before ++ s ∷ filter f after =
    filter-append g before (s ∷ after) ∙ ap (λ b. filter g before ++ cond b (s ∷ filter g after) (filter g after)) is
    ∙ ap (λ xs. xs ++ s ∷ filter g after) same_before ∙ ap (λ xs. filter f before ++ s ∷ xs) same_after in
    subst (λ xs. IsPermutation (s ∷ found) xs) (sym new)
    (IsPermutation-trans _ _ _ (IsPermutation-cons s found _ (subst (λ xs. IsPermutation found xs) old so_far)) (IsPermutation-sym _ _ (IsPermutation-middle (filter f before) s (filter f after))))

-- the sections of the five that names list, with a name more
abbrev OneNameMore : List ℕ → List (List ℕ) → Type 0
OneNameMore name names =
    list_any (λ other. bytes_eq other name) names ≡ false → IsPermutation (filter_map section_spelled names) (filter (listed names) usual_order)
    → IsPermutation (filter_map section_spelled (name ∷ names)) (filter (listed (name ∷ names)) usual_order)

spells : (names : List (List ℕ)) (text name : List ℕ) → bytes_eq text name ≡ true → OneNameMore text names → OneNameMore name names
spells names text name e step = subst (λ t. OneNameMore t names) ((bytes_eq-Decides text name).0 e) step

turned : (a b : List ℕ) → bytes_eq a b ≡ false → bytes_eq b a ≡ false
turned a b h = false_from_ne_true _ (λ t. both (sym h ∙ (bytes_eq-Decides a b).1 (sym ((bytes_eq-Decides b a).0 t))))
  where
    both : false ≡ true → ⊥
    both e = cc

spells_none : (names : List (List ℕ)) (name : List ℕ) → bytes_eq (codes "FUTURE") name ≡ false → bytes_eq (codes "STDLIB") name ≡ false → bytes_eq (codes "THIRDPARTY") name ≡ false
    → bytes_eq (codes "FIRSTPARTY") name ≡ false → bytes_eq (codes "LOCALFOLDER") name ≡ false → OneNameMore name names
spells_none names name a b c d e fresh so_far = rw (a, b, c, d, e, turned (codes "FUTURE") name a, turned (codes "STDLIB") name b, turned (codes "THIRDPARTY") name c, turned (codes "FIRSTPARTY") name d, turned (codes "LOCALFOLDER") name e) so_far

listed_more : (name : List ℕ) (names : List (List ℕ)) → OneNameMore name names
listed_more name names =
    elim (cases_Bool (bytes_eq (codes "FUTURE") name)) [
      | inl is ↦ spells names _ name is (λ fresh so_far. one_listed (listed names) (listed (codes "FUTURE" ∷ names)) [] Future (Stdlib ∷ ThirdParty ∷ FirstParty ∷ LocalFolder ∷ []) _ refl refl fresh refl so_far)
      | inr a ↦ elim (cases_Bool (bytes_eq (codes "STDLIB") name)) [
        | inl is ↦ spells names _ name is (λ fresh so_far. one_listed (listed names) (listed (codes "STDLIB" ∷ names)) (Future ∷ []) Stdlib (ThirdParty ∷ FirstParty ∷ LocalFolder ∷ []) _ refl refl fresh refl so_far)
        | inr b ↦ elim (cases_Bool (bytes_eq (codes "THIRDPARTY") name)) [
          | inl is ↦ spells names _ name is (λ fresh so_far. one_listed (listed names) (listed (codes "THIRDPARTY" ∷ names)) (Future ∷ Stdlib ∷ []) ThirdParty (FirstParty ∷ LocalFolder ∷ []) _ refl refl fresh refl so_far)
          | inr c ↦ elim (cases_Bool (bytes_eq (codes "FIRSTPARTY") name)) [
            | inl is ↦ spells names _ name is (λ fresh so_far. one_listed (listed names) (listed (codes "FIRSTPARTY" ∷ names)) (Future ∷ Stdlib ∷ ThirdParty ∷ []) FirstParty (LocalFolder ∷ []) _ refl refl fresh refl so_far)
            | inr d ↦ elim (cases_Bool (bytes_eq (codes "LOCALFOLDER") name)) [
              | inl is ↦ spells names _ name is (λ fresh so_far. one_listed (listed names) (listed (codes "LOCALFOLDER" ∷ names)) (Future ∷ Stdlib ∷ ThirdParty ∷ FirstParty ∷ []) LocalFolder [] _ refl refl fresh refl so_far)
              | inr e ↦ spells_none names name a b c d e
            ]
          ]
        ]
      ]
    ]

-- the sections of the five that names list are those that a name spells
five_listed : (names : List (List ℕ)) → are_apart names ≡ true → IsPermutation (filter_map section_spelled names) (filter (listed names) usual_order)
five_listed [] h = IsPermutation-refl []
five_listed (name ∷ names) h = listed_more name names (none_equal name names (head_apart name names h)) (five_listed names (tail_apart name names h))

exchanged : (xs ys zs : List Section) → IsPermutation (xs ++ ys ++ zs) (xs ++ zs ++ ys)
exchanged xs ys zs =
    rw (append_assoc xs ys zs, append_assoc xs zs ys) (IsPermutation-append_right xs (ys ++ zs) (zs ++ ys) (IsPermutation-append_comm ys zs))

-- so many own sections
abbrev own_sections : ℕ → List Section
own_sections count = map (λ i. Own i) (range_with_len 0 count)

-- the order of names is the five and the own sections, in some order
five_and_own : (names : List (List ℕ)) → are_apart names ≡ true → IsPermutation (usual_order ++ own_sections (length (own_among names))) (order_listed names)
five_and_own names apart =
    let own : List (List ℕ) = own_among names in
    let five : List Section = filter (listed names) usual_order in
    let missing : List Section = filter (λ s. not (listed names s)) usual_order in
    let owned : List Section = own_sections (length own) in
    let in_order : filter_map (own_place own) own ≡ owned = own_in_order own [] own refl (apart_filtered _ names apart) in
    let usual : IsPermutation usual_order (five ++ missing) = IsPermutation-filter_both (listed names) (λ s. not (listed names s)) (λ s. refl) usual_order in
    let kinds : IsPermutation (filter_map (section_named own) names) (filter_map section_spelled names ++ owned) =
    subst (λ xs. IsPermutation (filter_map (section_named own) names) (filter_map section_spelled names ++ xs)) in_order (by_kind own names) in
    let named : IsPermutation (five ++ owned) (filter_map (section_named own) names) =
    IsPermutation-sym _ _ (IsPermutation-trans _ _ _ kinds (IsPermutation-append_left owned _ five (five_listed names apart))) in
    IsPermutation-trans _ _ _ (IsPermutation-append_left owned usual_order _ usual)
    (IsPermutation-trans _ _ _ (exchanged five missing owned) (IsPermutation-append_left missing _ _ named))

-- how often the section of a number stands among own ones
abbrev times : ℕ → List Section → ℕ
times n order = count_by (λ s. n == section_number s) order

abbrev own_from : ℕ → ℕ → List Section
own_from first count = map (λ i. Own i) (range_with_len first count)

no_times : (n first count : ℕ) → (n < 5 + first) ⊎ (5 + first + count ≤ n) → times n (own_from first count) ≡ 0
no_times n first zero outside = refl
no_times n first (suc count) outside =
    let isnt : (n == 5 + first) ≡ false = ne_eqb n (5 + first) (λ e. elim outside [ inl low ↦ omega (arith, low, e) | inr high ↦ omega (arith, high, e) ]) in
    let rest : (n < 5 + (first + 1)) ⊎ (5 + (first + 1) + count ≤ n) = elim outside [ inl low ↦ inl (omega (arith, low)) | inr high ↦ inr (omega (arith, high)) ] in
    sum_by-cons (λ s. cond (n == section_number s) 1 0) (Own first) (own_from (first + 1) count) ∙ rw (isnt, no_times n (first + 1) count rest) refl

one_time : (n first count : ℕ) → 5 + first ≤ n → n < 5 + first + count → times n (own_from first count) ≡ 1
one_time n first zero low high = absurd (omega (arith, low, high))
one_time n first (suc count) low high =
    sum_by-cons (λ s. cond (n == section_number s) 1 0) (Own first) (own_from (first + 1) count)
    ∙ elim (cases_eq n (5 + first)) [
      | inl is ↦ rw (eq-eqb n (5 + first) is, no_times n (first + 1) count (inl (omega (arith, is)))) refl
      | inr isnt ↦ rw (ne_eqb n (5 + first) isnt, one_time n (first + 1) count (omega (arith, low, isnt)) (omega (arith, high))) refl
    ]

five_times : (s : Section) (count : ℕ) → section_number s < 5 → count_by (same_section s) usual_order ≡ 1 → count_by (same_section s) (usual_order ++ own_sections count) ≡ 1
five_times s count small once =
    sum_by-append (λ t. cond (same_section s t) 1 0) usual_order (own_sections count) ∙ rw (once, no_times (section_number s) 0 count (inl (omega (arith, small)))) refl

own_times : (i count : ℕ) → count_by (same_section (Own i)) (usual_order ++ own_sections count) ≡ cond (nat_lt i count) 1 0
own_times i count =
    let none : count_by (same_section (Own i)) usual_order ≡ 0 =
    rw (ne_eqb (5 + i) 0 (λ e. omega (arith, e)), ne_eqb (5 + i) 1 (λ e. omega (arith, e)), ne_eqb (5 + i) 2 (λ e. omega (arith, e)), ne_eqb (5 + i) 3 (λ e. omega (arith, e)), ne_eqb (5 + i) 4 (λ e. omega (arith, e))) refl in
    sum_by-append (λ t. cond (same_section (Own i) t) 1 0) usual_order (own_sections count)
    ∙ elim (cases_lt i count) [
      | inl below ↦ rw (none, one_time (5 + i) 0 count (omega arith) (omega (arith, below)), lt-ltb i count below) refl
      | inr above ↦ rw (none, no_times (5 + i) 0 count (inr (omega (arith, above))), le-ltb i count above) refl
    ]

-- among the five and so many own ones each section that is there stands once
times_there : (count : ℕ) → StandOnce count (usual_order ++ own_sections count)
unfolding times_in
times_there count Future = five_times Future count (lit< tt) refl
times_there count Stdlib = five_times Stdlib count (lit< tt) refl
times_there count ThirdParty = five_times ThirdParty count (lit< tt) refl
times_there count FirstParty = five_times FirstParty count (lit< tt) refl
times_there count LocalFolder = five_times LocalFolder count (lit< tt) refl
times_there count (Own i) = own_times i count

StandOnce-names : (names : List (List ℕ)) → are_apart names ≡ true → StandOnce (length (own_among names)) (order_listed names)
unfolding times_in
StandOnce-names names apart s =
    sum_by-IsPermutation (λ t. cond (same_section s t) 1 0) _ _ (five_and_own names apart) ∙ times_there (length (own_among names)) s

-- the order and how many own sections there are
abbrev Fits : SectionTable → Type 0
Fits t = StandOnce (length t.own_names) t.order

sections_fit : (names : List (List ℕ)) → IfSome (sections_of names) Fits
sections_fit names = judged (are_sections names) (λ yes. (and_parts _ _ yes).1)
  where
    judged : (b : Bool) → (b ≡ true → are_apart names ≡ true) → IfSome (cond b (Some (record { order = order_listed names; own_names = own_among names })) None) Fits
    judged true h = StandOnce-names names (h refl)
    judged false h = tt

-- the five alone, where there is no own name
pub StandOnce-five : (own : List (String Global)) → own ≡ [] → StandOnce (length own) usual_order
StandOnce-five own none = subst (λ names. StandOnce (length names) usual_order) (sym none) (times_there 0)

pub StandOnce-alone : (l : Listed) → listed_value l ≡ five_alone → StandOnce (length l.own_names.items) (order_of l.order)
StandOnce-alone l same =
    let fits : Fits (listed_value l) = subst Fits (sym same) (times_there 0) in
    subst (λ n. StandOnce n (order_of l.order)) (length-map l.own_names.items string_bytes) fits

-- each section of a table stands once
pub StandOnce-table : (ms : Members) → StandOnce (length (own_names_in ms)) (sections_in ms).order
StandOnce-table ms = of_value (get_member (name_of key.Sections) ms)
  where
    of_sections : (o : Option SectionTable) → IfSome o Fits → Fits (result_unwrap_or (ok_or o (BadValue key.Sections)) five_alone)
    of_sections None h = times_there 0
    of_sections (Some t) h = h

    of_names : (o : Option (List (List ℕ))) → IfSome (option_and_then sections_of o) Fits
    of_names None = tt
    of_names (Some names) = sections_fit names

    of_value : (m : Option Data) → Fits (result_unwrap_or (option_map_or read_sections m (Ok five_alone)) five_alone)
    of_value None = times_there 0
    of_value (Some d) = of_sections (option_and_then sections_of (option_and_then entries_of (as_array d))) (of_names (option_and_then entries_of (as_array d)))

-- the sections that were read are those of the table
pub StandOnce-read : (l : Listed) (ms : Members) → listed_value l ≡ sections_in ms → StandOnce (length l.own_names.items) (order_of l.order)
StandOnce-read l ms same =
    let fits : Fits (listed_value l) = subst Fits (sym same) (StandOnce-table ms) in
    subst (λ n. StandOnce n (order_of l.order)) (length-map l.own_names.items string_bytes) fits
