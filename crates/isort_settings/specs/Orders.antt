-- The two orders by which imports are sorted: of modules, and of names.
pub mod NameClasses
use Rattle.std.specs.Prelude.{ℕ, ◌==◌, Bool, not, ◌&&◌, if◌then◌else◌, List, [], ◌∷◌, map, flat_map, length, drop, slice_index, nat_le}
use Rattle.std.specs.List.{list_any, prefix_len}
use Rattle.std.specs.Char.{is_ascii_digit, is_ascii_uppercase, is_ascii_lowercase, to_ascii_lowercase}
use Rattle.std.specs.Str.{byte}
use Rattle.std.specs.Str.Parse.{digits_value}
use Rattle.std.specs.Ordering.{nat_cmp, ordering_then}
use Rattle.std.specs.declared.cmp.Ordering.{Ordering}
use Rattle.std.specs.declared.cmp.Ordering.TheVariants.{Less, Equal, Greater}
use Rattle.std.specs.Cmp.Lexicographic.{slice_cmp}
use Rattle.isort_settings.specs.Values.{Values}

-- a number in a text, as its digits, and the text after it, up to the next number
pub record Numbered : Type 0 where
  pub digits : List ℕ
  pub after : List ℕ

-- a text cut at its numbers, which are its longest runs of ASCII digits: the text before the first one, and each of
-- them with the text after it
pub record NumberCut : Type 0 where
  pub first : List ℕ
  pub others : List Numbered

-- a digit before a text and the numbers after it: where the text is empty, the digit belongs to the first number
abbrev pub digit_before : ℕ → List ℕ → List Numbered → NumberCut
digit_before d [] (n ∷ others) = record { first = []; others = record n { digits = d ∷ n.digits } ∷ others }
digit_before d after others = record { first = []; others = record { digits = d ∷ []; after = after } ∷ others }

-- a digit before a cut text: it belongs to the number that the text begins with, or is one by itself
abbrev pub digit_before_cut : ℕ → NumberCut → NumberCut
digit_before_cut d c = digit_before d c.first c.others

-- the cut of a text
abbrev pub cut_at_numbers : List ℕ → NumberCut
cut_at_numbers [] = record { first = []; others = [] }
cut_at_numbers (c ∷ text) =
    let rest = cut_at_numbers text in
    if is_ascii_digit c then digit_before_cut c rest else record rest { first = c ∷ rest.first }

-- what is compared: a text, or the value of a number
pub data Part : Type 0 where
  text : List ℕ → Part
  number : ℕ → Part

-- a text as it is compared: where the case doesn't count, its ASCII capitals were made small
abbrev pub cased : Bool → List ℕ → List ℕ
cased sensitive name = if sensitive then name else map to_ascii_lowercase name

-- text, number, text, number and so on, beginning with a text, which may be empty; where the case doesn't count, its
-- ASCII capitals were made small
abbrev pub parts : Bool → List ℕ → List Part
parts sensitive name =
    let c = cut_at_numbers (cased sensitive name) in
    text c.first ∷ flat_map (λ n. number (digits_value 10 n.digits) ∷ text n.after ∷ []) c.others

-- texts by their bytes, numbers by their value, of any length (a text and a number never stand at one place)
abbrev pub part_cmp : Part → Part → Ordering
part_cmp (text a) (text b) = slice_cmp nat_cmp a b
part_cmp (number m) (number n) = nat_cmp m n
part_cmp (text _) (number _) = Less
part_cmp (number _) (text _) = Greater

-- the natural order: the first difference of the parts decides, and parts that begin others come first; then the bytes
-- of the texts as they are
abbrev pub natural_cmp : Bool → List ℕ → List ℕ → Ordering
natural_cmp sensitive a b = ordering_then (slice_cmp part_cmp (parts sensitive a) (parts sensitive b)) (slice_cmp nat_cmp a b)

-- how many dots a module begins with
abbrev pub dots : List ℕ → ℕ
dots name = prefix_len (λ c. c == byte ".") name

-- the order of modules: more leading dots first, then the natural order of what follows the dots
abbrev pub module_cmp : Values → List ℕ → List ℕ → Ordering
module_cmp v a b = ordering_then (nat_cmp (dots b) (dots a)) (natural_cmp v.case_sensitive (drop (dots a) a) (drop (dots b) b))

-- a constant: two or more characters, of them an ASCII capital and no small ASCII letter; where one character is a
-- capital, which is one byte, the text has two bytes exactly where it has two characters
abbrev pub is_constant : List ℕ → Bool
is_constant name = nat_le 2 (length name) && list_any is_ascii_uppercase name && not (list_any is_ascii_lowercase name)

-- the place of a name's class: constants, then classes, which begin with an ASCII capital and are no constants, then
-- the rest
abbrev pub class_place : List ℕ → ℕ
class_place name = if is_constant name then 0 else if is_ascii_uppercase (slice_index name 0) then 1 else 2

-- the order of names: with `order_by_type` by class first, and then the natural order
abbrev pub name_cmp : Values → List ℕ → List ℕ → Ordering
name_cmp v a b =
    ordering_then
    (if v.order_by_type then nat_cmp (class_place a) (class_place b) else Equal)
    (natural_cmp v.case_sensitive a b)
