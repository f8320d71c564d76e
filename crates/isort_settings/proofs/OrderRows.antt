-- Rows that show what the definitions of the orders say.
use Rattle.std.proofs.Common.{◌≡◌, codes, true, false, [], ◌∷◌, Less, Greater, refl}
use Rattle.isort_settings.specs.Orders.{cut_at_numbers, parts, text, number, natural_cmp, class_place}

cut_nothing : cut_at_numbers [] ≡ record { first = []; others = [] }
cut_nothing = refl

cut_b10 : cut_at_numbers (codes "b10") ≡ record { first = codes "b"; others = record { digits = codes "10"; after = [] } ∷ [] }
cut_b10 = refl

parts_nothing : parts false [] ≡ text [] ∷ []
parts_nothing = refl

parts_b10 : parts false (codes "b10") ≡ text (codes "b") ∷ number 10 ∷ text [] ∷ []
parts_b10 = refl

parts_a01b : parts false (codes "a01b") ≡ text (codes "a") ∷ number 1 ∷ text (codes "b") ∷ []
parts_a01b = refl

parts_10 : parts false (codes "10") ≡ text [] ∷ number 10 ∷ text [] ∷ []
parts_10 = refl

parts_small : parts false (codes "B7c") ≡ text (codes "b") ∷ number 7 ∷ text (codes "c") ∷ []
parts_small = refl

parts_sensitive : parts true (codes "B7c") ≡ text (codes "B") ∷ number 7 ∷ text (codes "c") ∷ []
parts_sensitive = refl

b9_before_b10 : natural_cmp false (codes "b9") (codes "b10") ≡ Less
b9_before_b10 = refl

zero_is_a_number : natural_cmp false (codes "a") (codes "A0") ≡ Less
zero_is_a_number = refl

a1_after_a01 : natural_cmp false (codes "a1") (codes "a01") ≡ Greater
a1_after_a01 = refl

constant_place : class_place (codes "A_1") ≡ 0
constant_place = refl

class_of_one_capital : class_place (codes "A") ≡ 1
class_of_one_capital = refl

other_place : class_place (codes "_a") ≡ 2
other_place = refl
