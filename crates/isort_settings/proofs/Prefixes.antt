-- The look-up of a module's prefixes, the longest first.
use Rattle.std.proofs.Common.{◌≡◌, ℕ, Bool, cond, suc, ◌==◌, true, false, List, [], ◌∷◌, map, filter, length, take, slice_index, Option, Some, None, option_map, refl, ◌∙◌, ap}
use Rattle.std.proofs.lemmas.Bool.{ne_eqb, eq-eqb}
use Rattle.std.proofs.lemmas.List.Folds.{find-append}
use Rattle.std.specs.List.{find, flat_map}
use Rattle.std.specs.Option.{option_or, option_map_or}
use Rattle.std.specs.Str.{byte}
use Rattle.isort_settings.specs.declared.section.Section.{Section}
use Rattle.isort_settings.specs.Sections.{lists_of, below, holds, section_in}
use Rattle.isort_settings.specs.Sections.OnePrefix.{section_holding}
use Rattle.isort_settings.specs.Values.{Values}

abbrev pub SectionLists : Type 0
SectionLists = List (Section × List (List ℕ))

abbrev pub Pair : Type 0
Pair = List ℕ × (Section × List (List ℕ))

-- the section of the first pair of one of these prefixes and a list that holds it
abbrev pub section_of_prefixes : SectionLists → List (List ℕ) → Option Section
section_of_prefixes lists prefixes = option_map (λ (p : Pair). p.1.0) (find (λ (p : Pair). holds p.1.1 p.0) (flat_map (λ prefix. map (λ l. (prefix, l)) lists) prefixes))

-- the same for the prefixes that end at a dot below n
abbrev pub section_of_cuts : SectionLists → List ℕ → ℕ → Option Section
section_of_cuts lists name n = section_of_prefixes lists (map (λ i. take i name) (filter (λ i. slice_index name i == byte ".") (below n)))

option_map-or : {A B : Type 0} (f : A → B) (o p : Option A) → option_map f (option_or o p) ≡ option_or (option_map f o) (option_map f p)
option_map-or f None p = refl
option_map-or f (Some x) p = refl

-- the first of two answers, seen as a pair or as a list
pick : {A B : Type 0} (b : Bool) (f : A → Section) (g : B → Section) (x : A) (y : B) (o : Option A) (p : Option B) → f x ≡ g y → option_map f o ≡ option_map g p → option_map f (cond b (Some x) o) ≡ option_map g (cond b (Some y) p)
pick true f g x y o p here rest = ap Some here
pick false f g x y o p here rest = rest

-- the pairs of one prefix
one_prefix : (prefix : List ℕ) (lists : SectionLists) → option_map (λ (p : Pair). p.1.0) (find (λ (p : Pair). holds p.1.1 p.0) (map (λ l. (prefix, l)) lists)) ≡ section_holding lists prefix
one_prefix prefix [] = refl
one_prefix prefix (l ∷ ls) = pick (holds l.1 prefix) _ _ (prefix, l) l _ _ refl (one_prefix prefix ls)

-- a prefix, then the others
pub section_of_prefixes-cons : (lists : SectionLists) (prefix : List ℕ) (more : List (List ℕ)) → section_of_prefixes lists (prefix ∷ more) ≡ option_or (section_holding lists prefix) (section_of_prefixes lists more)
section_of_prefixes-cons lists prefix more =
    ap (option_map (λ (p : Pair). p.1.0)) (find-append _ (map (λ l. (prefix, l)) lists) _)
    ∙ option_map-or _ (find _ (map (λ l. (prefix, l)) lists)) _
    ∙ ap (λ o. option_or o (section_of_prefixes lists more)) (one_prefix prefix lists)

-- no prefix ends at m
pub section_of_cuts-skip : (lists : SectionLists) (name : List ℕ) (n m : ℕ) → n ≡ suc m → (slice_index name m ≡ byte "." → ⊥) → section_of_cuts lists name n ≡ section_of_cuts lists name m
section_of_cuts-skip lists name n m next other = rw (next, ne_eqb _ _ other)

-- a prefix that ends at m decides, or the others do
pub section_of_cuts-at : (lists : SectionLists) (name : List ℕ) (n m : ℕ) (o : Option Section) → n ≡ suc m → slice_index name m ≡ byte "." → section_holding lists (take m name) ≡ o
    → section_of_cuts lists name n ≡ option_or o (section_of_cuts lists name m)
section_of_cuts-at lists name n m o next dot held = rw (next, eq-eqb _ _ dot, ← held) (section_of_prefixes-cons lists (take m name) _)

-- where no list holds the whole module, its prefixes that end at a dot decide
pub section_in-cuts : (v : Values) (name : List ℕ) → (slice_index name 0 == byte ".") ≡ false → section_holding (lists_of v) name ≡ None
    → section_in v name ≡ option_map_or (λ s. s) (section_of_cuts (lists_of v) name (length name)) v.default_section
section_in-cuts v name other none =
    rw other (ap (λ o. option_map_or (λ s. s) o v.default_section) (section_of_prefixes-cons (lists_of v) name _ ∙ ap (λ o. option_or o (section_of_cuts (lists_of v) name (length name))) none))

-- where a list holds the whole module, it decides
pub section_in-whole : (v : Values) (name : List ℕ) (s : Section) → (slice_index name 0 == byte ".") ≡ false → section_holding (lists_of v) name ≡ Some s → section_in v name ≡ s
section_in-whole v name s other held =
    rw other (ap (λ o. option_map_or (λ t. t) o v.default_section) (section_of_prefixes-cons (lists_of v) name _ ∙ ap (λ o. option_or o (section_of_cuts (lists_of v) name (length name))) held))
