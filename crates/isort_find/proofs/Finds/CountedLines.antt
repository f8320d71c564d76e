-- The logical lines that count.
use Rattle.std.proofs.Common.{◌≡◌, Bool, true, false, not, ◌&&◌, ◌||◌, Option, None, List, [], ◌∷◌, ◌++◌, cond, refl, sym, ap, ◌∙◌, if◌then◌else◌}
use Rattle.std.proofs.lemmas.List.Sums.{take_while-cons}
use Rattle.std.specs.List.{list_any, list_all}
use Rattle.py_lines.specs.LogicalLine.{LogicalLine}
use Rattle.py_lines.specs.declared.fault.Fault.{Fault}
use Rattle.isort_find.specs.Found.{ends_top, counted_lines, counted_end}
use Rattle.isort_find.specs.declared.options.FindOptions.{FindOptions}

-- all these logical lines count
abbrev pub AllCount : FindOptions → List LogicalLine → Type 0
AllCount options lines = list_all (λ l. not (ends_top options l)) lines ≡ true

first_counts : (a b : Bool) → not a && b ≡ true → (a ≡ false) × (b ≡ true)
first_counts true b h = absurd cc
first_counts false b h = (refl, h)

-- the first lines count, and then the rest decides
pub counted-append : (options : FindOptions) (lines rest : List LogicalLine) → AllCount options lines → counted_lines options (lines ++ rest) ≡ lines ++ counted_lines options rest
counted-append options [] rest all = refl
counted-append options (l ∷ ls) rest all =
    let parts = first_counts (ends_top options l) _ all in
    take_while-cons (λ x. not (ends_top options x)) l (ls ++ rest) ∙ ap (λ (h : Bool). cond (not h) (l ∷ counted_lines options (ls ++ rest)) []) parts.0 ∙ ap (λ t. l ∷ t) (counted-append options ls rest parts.1)

pub any_ends-append : (options : FindOptions) (lines rest : List LogicalLine) → AllCount options lines → list_any (ends_top options) (lines ++ rest) ≡ list_any (ends_top options) rest
any_ends-append options [] rest all = refl
any_ends-append options (l ∷ ls) rest all =
    let parts = first_counts (ends_top options l) _ all in
    ap (λ (h : Bool). h || list_any (ends_top options) (ls ++ rest)) parts.0 ∙ any_ends-append options ls rest parts.1

append-nil-lines : (lines : List LogicalLine) → lines ++ [] ≡ lines
append-nil-lines [] = refl
append-nil-lines (l ∷ ls) = ap (λ t. l ∷ t) (append-nil-lines ls)

pub counted-all : (options : FindOptions) (lines : List LogicalLine) → AllCount options lines → counted_lines options lines ≡ lines
counted-all options lines all = ap (counted_lines options) (sym (append-nil-lines lines)) ∙ counted-append options lines [] all ∙ append-nil-lines lines

pub end-all : (options : FindOptions) (lines : List LogicalLine) (end : Option Fault) → AllCount options lines → counted_end options lines end ≡ end
end-all options lines end all =
    let none : list_any (ends_top options) lines ≡ false = ap (list_any (ends_top options)) (sym (append-nil-lines lines)) ∙ any_ends-append options lines [] all in
    ap (λ (h : Bool). if h then None else end) none

-- a line that ends the top is the first that doesn't count
pub counted-cut : (options : FindOptions) (lines : List LogicalLine) (line : LogicalLine) (more : List LogicalLine) → AllCount options lines → ends_top options line ≡ true → counted_lines options (lines ++ line ∷ more) ≡ lines
counted-cut options lines line more all ends = counted-append options lines (line ∷ more) all ∙ ap (λ t. lines ++ t) (take_while-cons (λ x. not (ends_top options x)) line more ∙ ap (λ (h : Bool). cond (not h) (line ∷ counted_lines options more) []) ends) ∙ append-nil-lines lines

pub end-cut : (options : FindOptions) (lines : List LogicalLine) (line : LogicalLine) (more : List LogicalLine) (end : Option Fault) → AllCount options lines → ends_top options line ≡ true → counted_end options (lines ++ line ∷ more) end ≡ None
end-cut options lines line more end all ends = ap (λ (h : Bool). if h then None else end) (any_ends-append options lines (line ∷ more) all ∙ ap (λ (h : Bool). h || list_any (ends_top options) more) ends)

-- a line that counts after lines that count
pub counted-more : (options : FindOptions) (lines : List LogicalLine) (line : LogicalLine) (more : List LogicalLine) → AllCount options lines → ends_top options line ≡ false → counted_lines options (lines ++ line ∷ more) ≡ lines ++ line ∷ counted_lines options more
counted-more options lines line more all here = counted-append options lines (line ∷ more) all ∙ ap (λ t. lines ++ t) (take_while-cons (λ x. not (ends_top options x)) line more ∙ ap (λ (h : Bool). cond (not h) (line ∷ counted_lines options more) []) here)
