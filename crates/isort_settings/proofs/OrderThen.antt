-- An order and then another: the first decides unless it is `Equal`.
use Rattle.std.proofs.Common.{◌≡◌, Bool, true, false, Ordering, Less, Equal, Greater, refl, sym, ◌∙◌}
use Rattle.std.specs.Ordering.{is_ne, ordering_then}

-- the first doesn't decide
pub then-tied : (o p q : Ordering) → o ≡ q → o ≡ Equal → p ≡ ordering_then q p
then-tied o p q e h = rw (← e, h) refl

-- the first decides
pub then-decided : (o p q : Ordering) → o ≡ q → (o ≡ Equal → ⊥) → o ≡ ordering_then q p
then-decided Less p q e h = rw (← e) refl
then-decided Equal p q e h = absurd (h refl)
then-decided Greater p q e h = rw (← e) refl

-- the same by the test that the code makes
is_ne-false : (o : Ordering) → is_ne o ≡ false → o ≡ Equal
is_ne-false Less h = cc
is_ne-false Equal h = refl
is_ne-false Greater h = cc

pub then-tied_by_test : (o p q : Ordering) (b : Bool) → o ≡ q → b ≡ is_ne o → b ≡ false → p ≡ ordering_then q p
then-tied_by_test o p q b e t h = then-tied o p q e (is_ne-false o (sym t ∙ h))

pub then-decided_by_test : (o p q : Ordering) (b : Bool) → o ≡ q → b ≡ is_ne o → b ≡ true → o ≡ ordering_then q p
then-decided_by_test Less p q b e t h = rw (← e) refl
then-decided_by_test Equal p q b e t h = cc
then-decided_by_test Greater p q b e t h = rw (← e) refl
