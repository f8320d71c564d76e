-- How long a text is in characters, and an item.
use Rattle.std.proofs.Common.{◌≡◌, ℕ, ◌+◌, ◌-◌, ◌<◌, ◌≤◌, cond, Option, None, Some, List, [], ◌∷◌, ◌∙◌, refl, ap, String, Global, string_bytes, arith}
use Rattle.std.specs.List.{count_by}
use Rattle.std.specs.Option.{SomeIff, option_map}
use Rattle.std.proofs.lemmas.List.Sums.{sum_by-cons}
use Rattle.py_imports.specs.Spelled.{alias_text}
use Rattle.isort_sort.specs.Private.Values.{item_value}
use Rattle.isort_sort.specs.Width.{begins_character, width}
use Rattle.isort_sort.specs.Wrapping.{item_text}
use Rattle.isort_sort.specs.declared.statement.FromItem.{FromItem}
use Rattle.isort_sort.proofs.Layouts.Lengths.{width-append}

-- a text has as many characters as bytes that begin one
pub count_by-begins : (text : List ℕ) → count_by begins_character text ≡ width text
count_by-begins [] = refl
count_by-begins (b ∷ text) = sum_by-cons (λ b. cond (begins_character b) 1 0) b text ∙ ap (λ n. cond (begins_character b) 1 0 + n) (count_by-begins text)

-- an item is as long as its name, and with an alias longer by it and by ` as `
pub width-item : (i : FromItem) → width (item_text (item_value i)) ≡ width (string_bytes i.name) + width (alias_text (option_map string_bytes i.alias))
width-item i = width-append (string_bytes i.name) (alias_text (option_map string_bytes i.alias))

pub width-renamed : (i : FromItem) (alias : String Global) → i.alias ≡ Some alias → width (item_text (item_value i)) ≡ width (string_bytes i.name) + (4 + width (string_bytes alias))
width-renamed i alias e =
    let renamed : width (alias_text (option_map string_bytes i.alias)) ≡ width (alias_text (Some (string_bytes alias))) = ap (λ a. width (alias_text (option_map string_bytes a))) e in
    omega (arith, width-item i, renamed)

-- what is left of a room after something longer: nothing
pub none_left : (left : Option ℕ) (long room value : ℕ) → left ≡ None → room < long → SomeIff left (long ≤ room) value
none_left None long room value e h = λ k. omega arith
none_left (Some x) long room value e h = cc

-- what is left after two parts
pub left_after : (left : Option ℕ) (first second room rest : ℕ) → first ≤ room → rest ≡ room - first → SomeIff left (second ≤ rest) (rest - second) → SomeIff left (first + second ≤ room) (room - (first + second))
left_after None first second room rest h e s = λ k. s (omega arith)
left_after (Some x) first second room rest h e s = (omega arith, omega arith)
