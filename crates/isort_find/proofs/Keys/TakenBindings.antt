-- What is taken of the bindings that are left of a logical line.
use Rattle.std.proofs.Common.{◌≡◌, ℕ, ◌+◌, Bool, true, false, not, ◌&&◌, Option, None, Some, Ok, List, [], ◌∷◌, ◌++◌, length, MatchOption, refl, sym, ap, ◌∙◌, subst, append_assoc, length-append, arith}
use Rattle.std.specs.List.{list_all}
use Rattle.py_imports.specs.BindingValue.{BindingValue, binding_value}
use Rattle.py_imports.specs.declared.binding.Binding.{Binding}
use Rattle.isort_find.specs.Cursor.{CursorState, knows_key}
use Rattle.isort_find.specs.Private.LooksAtBindings.{Looks, PassesBindings, TakesNew, TakesNextBinding}
use Rattle.isort_find.specs.Private.CursorMoves.{Admits, cursor_after}
use Rattle.isort_find.specs.Pending.{PendingState}
use Rattle.isort_find.specs.declared.pending.LineStart.{LineStart}

pub list_all-snoc : {A : Type 0} (p : A → Bool) (xs : List A) (x : A) → list_all p xs ≡ true → p x ≡ true → list_all p (xs ++ x ∷ []) ≡ true
list_all-snoc p [] x all here = ap (λ t. t && true) here
list_all-snoc p (y ∷ ys) x all here = both (p y) (list_all p ys) (list_all p (ys ++ x ∷ [])) all (λ rest. list_all-snoc p ys x rest here)
  where
    both : (a b d : Bool) → a && b ≡ true → (b ≡ true → d ≡ true) → a && d ≡ true
    both true b d h k = k h
    both false b d h k = h

-- where all keys are known, so is the first
pub first_known : (s : CursorState) (b : BindingValue) (bs : List BindingValue) → list_all (knows_key s.options.unique s.keys) (b ∷ bs) ≡ true → knows_key s.options.unique s.keys b ≡ true
first_known s b bs h = both _ _ h
  where
    both : (x y : Bool) → x && y ≡ true → x ≡ true
    both true y k = refl
    both false y k = absurd cc

-- one more was looked at whose key is known
pub passes_more : (s : CursorState) (old mid new : PendingState) (b : BindingValue) → PassesBindings s old mid → knows_key s.options.unique s.keys b ≡ true → Looks mid b new → PassesBindings s old new
passes_more s old mid new b passes known looks = record {
  dropped = passes.dropped ++ b ∷ [];
  split = passes.split ∙ ap (λ t. passes.dropped ++ t) looks.left ∙ sym (append_assoc passes.dropped (b ∷ []) new.left);
  known = list_all-snoc (knows_key s.options.unique s.keys) passes.dropped b passes.known known;
  start = looks.start ∙ passes.start;
  taken = omega (arith, looks.taken, passes.taken, length-append passes.dropped (b ∷ []));
}

-- what is at the front is what is taken
pub record IsTaken (old : PendingState) (b : BindingValue) (r : Option Binding) (new : PendingState) : Type 0 where
  pub binding : Binding
  pub some : r ≡ Some binding
  pub same : binding_value binding ≡ b
  pub looks : Looks old b new

pub taken_is_next : (old new : PendingState) (b : BindingValue) (rest : List BindingValue) (r : Option Binding) → old.left ≡ b ∷ rest → MatchOption r ((old.left ≡ []) × (new ≡ old)) (λ x. Looks old (binding_value x) new) → IsTaken old b r new
taken_is_next old new b rest None front took = absurd (none (sym took.0 ∙ front))
  where
    none : [] ≡ b ∷ rest → ⊥
    none h = cc
taken_is_next old new b rest (Some x) front took =
    let same : binding_value x ≡ b = head (sym took.left ∙ front) in
    record { binding = x; some = refl; same = same; looks = subst (λ (a : BindingValue). Looks old a new) same took }
  where
    head : binding_value x ∷ new.left ≡ b ∷ rest → binding_value x ≡ b
    head h = cc

not_true : (a : Bool) → false ≡ not a → a ≡ true
not_true true h = refl
not_true false h = h

unchanged : (s cursor new : CursorState) (b : BindingValue) (is_new : Bool) → cursor ≡ s → Admits cursor b is_new new → is_new ≡ false → (new ≡ s) × (knows_key s.options.unique s.keys b ≡ true)
unchanged s cursor new b true same admits is = absurd (ne is)
  where
    ne : true ≡ false → ⊥
    ne h = cc
unchanged s cursor new b false same admits is = (admits.same ∙ same, subst (λ (c : CursorState). knows_key c.options.unique c.keys b ≡ true) same (not_true _ admits.answer))

-- a binding with a known key was taken
pub record TakesKnown (s cursor : CursorState) (old new : PendingState) : Type 0 where
  pub passes : PassesBindings s old new
  pub cursor_is : cursor ≡ s

pub takes_known : (s cursor admitted : CursorState) (old mid new : PendingState) (b : BindingValue) (rest : List BindingValue) (is_new : Bool) (r : Option Binding) → PassesBindings s old mid → cursor ≡ s → mid.left ≡ b ∷ rest → Admits cursor b is_new admitted → is_new ≡ false → MatchOption r ((mid.left ≡ []) × (new ≡ mid)) (λ x. Looks mid (binding_value x) new) → TakesKnown s admitted old new
takes_known s cursor admitted old mid new b rest is_new r passes same front admits is took =
    let u = unchanged s cursor admitted b is_new same admits is in
    record { passes = passes_more s old mid new b passes u.1 (taken_is_next mid new b rest r front took).looks; cursor_is = u.0 }

-- fewer are left
pub takes_fewer : (mid new : PendingState) (b : BindingValue) (rest : List BindingValue) (r : Option Binding) → mid.left ≡ b ∷ rest → MatchOption r ((mid.left ≡ []) × (new ≡ mid)) (λ x. Looks mid (binding_value x) new) → length mid.left ≡ length new.left + 1
takes_fewer mid new b rest r front took = ap length (taken_is_next mid new b rest r front took).looks.left ∙ omega arith

-- a binding with a new key was taken
pub takes_new : (s cursor admitted t : CursorState) (old mid new : PendingState) (b : BindingValue) (rest : List BindingValue) (is_new : Bool) (r : Option Binding) (start : LineStart) (taken : ℕ) → PassesBindings s old mid → cursor ≡ s → mid.left ≡ b ∷ rest → Admits cursor b is_new admitted → is_new ≡ true → MatchOption r ((mid.left ≡ []) × (new ≡ mid)) (λ x. Looks mid (binding_value x) new) → t ≡ cursor_after admitted start taken → start ≡ new.start → taken ≡ new.taken → TakesNextBinding s old (Ok r) t new
takes_new s cursor admitted t old mid new b rest is_new r start taken passes same front admits is took gives here so_many =
    let it = taken_is_next mid new b rest r front took in
    let takes : TakesNew s old b t new = record {
      between = mid;
      admitted = admitted;
      passes = passes;
      looks = it.looks;
      admits = subst (λ (x : Bool). Admits s b x admitted) is (subst (λ (c : CursorState). Admits c b is_new admitted) same admits);
      gives = gives ∙ (λ i. cursor_after admitted (here i) (so_many i));
    } in
    subst (λ (x : Option Binding). TakesNextBinding s old (Ok x) t new) (sym it.some) (subst (λ (a : BindingValue). TakesNew s old a t new) (sym it.same) takes)

-- a binding with a known key was passed over
pub passed_known : (s : CursorState) (old mid new : PendingState) (b : BindingValue) (rest : List BindingValue) (known : Bool) (r : Option Binding) → PassesBindings s old mid → mid.left ≡ b ∷ rest → known ≡ knows_key s.options.unique s.keys b → known ≡ true → MatchOption r ((mid.left ≡ []) × (new ≡ mid)) (λ x. Looks mid (binding_value x) new) → PassesBindings s old new
passed_known s old mid new b rest known r passes front is known_is took = passes_more s old mid new b passes (sym is ∙ known_is) (taken_is_next mid new b rest r front took).looks
