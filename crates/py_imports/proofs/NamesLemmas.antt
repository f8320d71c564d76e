-- What may stand after `from .. import`, by its first terminal.
use Rattle.std.proofs.Common.{◌≡◌, ◌≢◌, Bool, true, false, List, [], ◌∷◌, refl, subst}
use Rattle.py_imports.specs.Grammar.{Terminal, star, opening, identifiers, Item, AreItems, AreBracketed, AreNames, plain_names, bracketed, all_names}
use Rattle.py_imports.specs.Private.Lexemes.{lexeme_then}
use Rattle.py_imports.specs.declared.lexeme.Lexeme.{Lexeme}
use Rattle.py_imports.specs.declared.lexeme.Lexeme.TheVariants as lexeme
use Rattle.py_imports.proofs.ListLemmas.{items_none}

star_alone-of : (ts : List Terminal) (is : List Item) → AreNames ts is → (rest : List Terminal) → ts ≡ star ∷ rest → rest ≡ []
star_alone-of ts is (plain_names t js a) rest e = absurd (items_none identifiers (star ∷ rest) refl is (subst (λ x. AreItems identifiers x is) e a))
star_alone-of ts is (bracketed t js a) rest e = absurd (let z : ⊥ = cc in z)
star_alone-of ts is all_names rest e = let f : star ∷ [] ≡ star ∷ rest = e in cc

pub opening_brackets : (ts : List Terminal) (is : List Item) → AreNames ts is → (rest : List Terminal) → ts ≡ opening ∷ rest → AreBracketed rest is
opening_brackets ts is (plain_names t js a) rest e = absurd (items_none identifiers (opening ∷ rest) refl is (subst (λ x. AreItems identifiers x is) e a))
opening_brackets ts is (bracketed t js a) rest e = let f : opening ∷ t ≡ opening ∷ rest = e in let g : t ≡ rest = cc in subst (λ x. AreBracketed x is) g a
opening_brackets ts is all_names rest e = let f : star ∷ [] ≡ opening ∷ rest = e in absurd (let z : ⊥ = cc in z)

-- whether names follow without brackets
abbrev pub begins_plain : List Terminal → Bool
begins_plain (star ∷ ts) = false
begins_plain (opening ∷ ts) = false
begins_plain _ = true

pub plain_only : (ts : List Terminal) (is : List Item) → AreNames ts is → begins_plain ts ≡ true → AreItems identifiers ts is
plain_only ts is (plain_names t js a) e = a
plain_only ts is (bracketed t js a) e = absurd cc
plain_only ts is all_names e = absurd cc

pub begins_plain-lexeme : (first : Lexeme) (ts : List Terminal) → first ≢ lexeme.Star → first ≢ lexeme.Opening → begins_plain (lexeme_then first ts) ≡ true
begins_plain-lexeme lexeme.Import ts h k = refl
begins_plain-lexeme lexeme.From ts h k = refl
begins_plain-lexeme lexeme.As ts h k = refl
begins_plain-lexeme (lexeme.Name w) ts h k = refl
begins_plain-lexeme lexeme.Dot ts h k = refl
begins_plain-lexeme lexeme.Comma ts h k = refl
begins_plain-lexeme lexeme.Star ts h k = absurd (h refl)
begins_plain-lexeme lexeme.Opening ts h k = absurd (k refl)
begins_plain-lexeme lexeme.Closing ts h k = refl
begins_plain-lexeme lexeme.Other ts h k = refl
begins_plain-lexeme lexeme.End ts h k = refl

-- `*` with something after it
pub star_bad : (ts rest : List Terminal) → ts ≡ star ∷ rest → rest ≢ [] → (is : List Item) → ¬ (AreNames ts is)
star_bad ts rest e n is a = n (star_alone-of ts is a rest e)

pub brackets_bad : (ts rest : List Terminal) → ts ≡ opening ∷ rest → ((is : List Item) → ¬ (AreBracketed rest is)) → (is : List Item) → ¬ (AreNames ts is)
brackets_bad ts rest e n is a = n is (opening_brackets ts is a rest e)
