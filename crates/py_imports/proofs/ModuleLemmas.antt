-- The program's reading of modules is the grammar's.
use Rattle.std.proofs.Common.{◌≡◌, ℕ, Bool, true, false, Option, None, Some, option_and_then, List, [], ◌∷◌, ◌++◌, refl, sym, ap, ◌∙◌, subst}
use Rattle.std.specs.Option.{option_map}
use Rattle.py_imports.specs.Grammar.{Terminal, import_word, from_word, as_word, name, dot, comma, star, opening, closing, other, IsModule, one, more, AreDots, no_dot, one_more, IsRelativeModule, dots, named, spelling}
use Rattle.py_imports.specs.Private.Lexemes.{begins_dot}
use Rattle.py_imports.specs.Private.Parsing.{ReadText, spelled_before, at_module, after_name, import_after, at_relative}

-- from an equation of what was mapped to its parts
pub option_map-some : {A B : Type 0} (f : A → B) (o : Option A) (y : B) → option_map f o ≡ Some y → (x : A) × (o ≡ Some x) × (f x ≡ y)
option_map-some f None y e = absurd cc
option_map-some f (Some x) y e = (x, refl, cc)

-- these terminals begin with a module that is spelled so
pub record ReadsOff (ts : List Terminal) (r : ReadText) : Type 0 where
  pub path : List Terminal
  pub split : ts ≡ path ++ r.rest
  pub is : IsModule path
  pub spelled : r.spelled ≡ spelling path

pub after_name-other : (ts : List Terminal) → begins_dot ts ≡ false → after_name ts ≡ Some (record { spelled = []; rest = ts })
after_name-other [] e = refl
after_name-other (dot ∷ ts) e = absurd cc
after_name-other (import_word ∷ ts) e = refl
after_name-other (from_word ∷ ts) e = refl
after_name-other (as_word ∷ ts) e = refl
after_name-other (name w ∷ ts) e = refl
after_name-other (comma ∷ ts) e = refl
after_name-other (star ∷ ts) e = refl
after_name-other (opening ∷ ts) e = refl
after_name-other (closing ∷ ts) e = refl
after_name-other (other ∷ ts) e = refl

-- a module is read whole, where nothing after it belongs to it
pub at_module-whole : (path : List Terminal) → IsModule path → (rest : List Terminal) → begins_dot rest ≡ false → at_module (path ++ rest) ≡ Some (record { spelled = spelling path; rest = rest })
at_module-whole path (one w) rest e = ap (option_map (spelled_before w)) (after_name-other rest e)
at_module-whole path (more w inner m) rest e = ap (λ o. option_map (spelled_before w) (option_map (spelled_before (46 ∷ [])) o)) (at_module-whole inner m rest e)

ends_here : (w : List ℕ) (ts : List Terminal) (r : ReadText) → Some (record { spelled = []; rest = ts }) ≡ Some r → ReadsOff (name w ∷ ts) (spelled_before w r)
ends_here w ts r e =
    let f : record { spelled = []; rest = ts } ≡ r = cc in
    subst (λ x. ReadsOff (name w ∷ ts) (spelled_before w x)) f (record { path = name w ∷ []; split = refl; is = one w; spelled = refl })

item_goes_on : (w : List ℕ) (ts : List Terminal) (r : ReadText) → ReadsOff ts r → ReadsOff (name w ∷ dot ∷ ts) (spelled_before w (spelled_before (46 ∷ []) r))
item_goes_on w ts r off = record {
  path = name w ∷ dot ∷ off.path;
  split = ap (λ x. name w ∷ dot ∷ x) off.split;
  is = more w off.path off.is;
  spelled = ap (λ s. w ++ 46 ∷ s) off.spelled;
}

mutual
  pub at_module-sound : (ts : List Terminal) (r : ReadText) → at_module ts ≡ Some r → ReadsOff ts r
  at_module-sound (name w ∷ ts) r e =
      let inner = option_map-some (spelled_before w) (after_name ts) r e in
      subst (ReadsOff (name w ∷ ts)) inner.2 (after_name-sound w ts inner.0 inner.1)
  at_module-sound [] r e = absurd cc
  at_module-sound (import_word ∷ ts) r e = absurd cc
  at_module-sound (from_word ∷ ts) r e = absurd cc
  at_module-sound (as_word ∷ ts) r e = absurd cc
  at_module-sound (dot ∷ ts) r e = absurd cc
  at_module-sound (comma ∷ ts) r e = absurd cc
  at_module-sound (star ∷ ts) r e = absurd cc
  at_module-sound (opening ∷ ts) r e = absurd cc
  at_module-sound (closing ∷ ts) r e = absurd cc
  at_module-sound (other ∷ ts) r e = absurd cc

  after_name-sound : (w : List ℕ) (ts : List Terminal) (r : ReadText) → after_name ts ≡ Some r → ReadsOff (name w ∷ ts) (spelled_before w r)
  after_name-sound w (dot ∷ ts) r e =
      let inner = option_map-some (spelled_before (46 ∷ [])) (at_module ts) r e in
      subst (λ x. ReadsOff (name w ∷ dot ∷ ts) (spelled_before w x)) inner.2 (item_goes_on w ts inner.0 (at_module-sound ts inner.0 inner.1))
  after_name-sound w [] r e = ends_here w [] r e
  after_name-sound w (import_word ∷ ts) r e = ends_here w (import_word ∷ ts) r e
  after_name-sound w (from_word ∷ ts) r e = ends_here w (from_word ∷ ts) r e
  after_name-sound w (as_word ∷ ts) r e = ends_here w (as_word ∷ ts) r e
  after_name-sound w (name v ∷ ts) r e = ends_here w (name v ∷ ts) r e
  after_name-sound w (comma ∷ ts) r e = ends_here w (comma ∷ ts) r e
  after_name-sound w (star ∷ ts) r e = ends_here w (star ∷ ts) r e
  after_name-sound w (opening ∷ ts) r e = ends_here w (opening ∷ ts) r e
  after_name-sound w (closing ∷ ts) r e = ends_here w (closing ∷ ts) r e
  after_name-sound w (other ∷ ts) r e = ends_here w (other ∷ ts) r e

at_relative-module : (dotted : Bool) (path : List Terminal) → IsModule path → (rest : List Terminal) → at_relative dotted (path ++ import_word ∷ rest) ≡ Some (record { spelled = spelling path; rest = rest })
at_relative-module dotted path (one w) rest = refl
at_relative-module dotted path (more w inner m) rest =
    ap (option_and_then (λ r. import_after r.spelled r.rest)) (at_module-whole (name w ∷ dot ∷ inner) (more w inner m) (import_word ∷ rest) refl)

at_relative-dots : (before : List Terminal) → AreDots before → (rest : List Terminal) → at_relative true (before ++ import_word ∷ rest) ≡ Some (record { spelled = spelling before; rest = rest })
at_relative-dots before no_dot rest = refl
at_relative-dots before (one_more others d) rest = ap (option_map (spelled_before (46 ∷ []))) (at_relative-dots others d rest)

at_relative-named : (dotted : Bool) (before : List Terminal) → AreDots before → (path : List Terminal) → IsModule path → (rest : List Terminal) → at_relative dotted ((before ++ path) ++ import_word ∷ rest) ≡ Some (record { spelled = spelling (before ++ path); rest = rest })
at_relative-named dotted before no_dot path m rest = at_relative-module dotted path m rest
at_relative-named dotted before (one_more others d) path m rest = ap (option_map (spelled_before (46 ∷ []))) (at_relative-named true others d path m rest)

-- a relative module with the word `import` after it is read whole
pub at_relative-whole : (from : List Terminal) → IsRelativeModule from → (rest : List Terminal) → at_relative false (from ++ import_word ∷ rest) ≡ Some (record { spelled = spelling from; rest = rest })
at_relative-whole from (dots others d) rest = ap (option_map (spelled_before (46 ∷ []))) (at_relative-dots others d rest)
at_relative-whole from (named ts before path e d m) rest = subst (λ x. at_relative false (x ++ import_word ∷ rest) ≡ Some (record { spelled = spelling x; rest = rest })) (sym e) (at_relative-named false before d path m rest)

-- after a dot: more dots or a module after dots, the word `import`, and what is left
data ReadsFrom : List Terminal → ReadText → Type 0 where
  only_dots : (ts before : List Terminal) (r : ReadText) → ts ≡ before ++ import_word ∷ r.rest → AreDots before → r.spelled ≡ spelling before → ReadsFrom ts r
  with_module : (ts before path : List Terminal) (r : ReadText) → ts ≡ (before ++ path) ++ import_word ∷ r.rest → AreDots before → IsModule path → r.spelled ≡ spelling (before ++ path) → ReadsFrom ts r

-- these terminals begin with a relative module that is spelled so, and the word `import`
pub record ReadsOffFrom (ts : List Terminal) (r : ReadText) : Type 0 where
  pub from : List Terminal
  pub split : ts ≡ from ++ import_word ∷ r.rest
  pub is : IsRelativeModule from
  pub spelled : r.spelled ≡ spelling from

import_after-some : (spelled : List ℕ) (ts : List Terminal) (r : ReadText) → import_after spelled ts ≡ Some r → (ts ≡ import_word ∷ r.rest) × (spelled ≡ r.spelled)
import_after-some spelled (import_word ∷ ts) r e =
    let f : record { spelled = spelled; rest = ts } ≡ r = cc in
    (ap (λ x. import_word ∷ x.rest) f, ap (λ x. x.spelled) f)
import_after-some spelled ts r e = absurd cc

pub option_and_then-some : {A B : Type 0} (f : A → Option B) (o : Option A) (y : B) → option_and_then f o ≡ Some y → (x : A) × (o ≡ Some x) × (f x ≡ Some y)
option_and_then-some f None y e = absurd cc
option_and_then-some f (Some x) y e = (x, refl, e)

module_first : (ts : List Terminal) (r : ReadText) → option_and_then (λ x. import_after x.spelled x.rest) (at_module ts) ≡ Some r → (path : List Terminal) × (ts ≡ path ++ import_word ∷ r.rest) × IsModule path × (r.spelled ≡ spelling path)
module_first ts r e =
    let inner = option_and_then-some (λ x. import_after x.spelled x.rest) (at_module ts) r e in
    let off = at_module-sound ts inner.0 inner.1 in
    let later = import_after-some inner.0.spelled inner.0.rest r inner.2 in
    (off.path, off.split ∙ ap (λ x. off.path ++ x) later.0, off.is, sym later.1 ∙ off.spelled)

module_behind : (ts : List Terminal) (r : ReadText) → option_and_then (λ x. import_after x.spelled x.rest) (at_module ts) ≡ Some r → ReadsFrom ts r
module_behind ts r e = let m = module_first ts r e in with_module ts [] m.0 r m.1 no_dot m.2 m.3

dot_first : (ts : List Terminal) (r : ReadText) → ReadsFrom ts r → ReadsFrom (dot ∷ ts) (spelled_before (46 ∷ []) r)
dot_first ts r (only_dots t before q e d s) = only_dots (dot ∷ t) (dot ∷ before) _ (ap (λ x. dot ∷ x) e) (one_more before d) (ap (λ x. 46 ∷ x) s)
dot_first ts r (with_module t before path q e d m s) = with_module (dot ∷ t) (dot ∷ before) path _ (ap (λ x. dot ∷ x) e) (one_more before d) m (ap (λ x. 46 ∷ x) s)

import_first : (ts : List Terminal) (r : ReadText) → Some (record { spelled = []; rest = ts }) ≡ Some r → ReadsFrom (import_word ∷ ts) r
import_first ts r e =
    let f : record { spelled = []; rest = ts } ≡ r = cc in
    subst (ReadsFrom (import_word ∷ ts)) f (only_dots _ [] _ refl no_dot refl)

behind_dot : (ts : List Terminal) (r : ReadText) → at_relative true ts ≡ Some r → ReadsFrom ts r
behind_dot (dot ∷ ts) r e =
    let inner = option_map-some (spelled_before (46 ∷ [])) (at_relative true ts) r e in
    subst (ReadsFrom (dot ∷ ts)) inner.2 (dot_first ts inner.0 (behind_dot ts inner.0 inner.1))
behind_dot (import_word ∷ ts) r e = import_first ts r e
behind_dot [] r e = module_behind [] r e
behind_dot (from_word ∷ ts) r e = module_behind (from_word ∷ ts) r e
behind_dot (as_word ∷ ts) r e = module_behind (as_word ∷ ts) r e
behind_dot (name w ∷ ts) r e = module_behind (name w ∷ ts) r e
behind_dot (comma ∷ ts) r e = module_behind (comma ∷ ts) r e
behind_dot (star ∷ ts) r e = module_behind (star ∷ ts) r e
behind_dot (opening ∷ ts) r e = module_behind (opening ∷ ts) r e
behind_dot (closing ∷ ts) r e = module_behind (closing ∷ ts) r e
behind_dot (other ∷ ts) r e = module_behind (other ∷ ts) r e

from_dot : (ts : List Terminal) (r : ReadText) → ReadsFrom ts r → ReadsOffFrom (dot ∷ ts) (spelled_before (46 ∷ []) r)
from_dot ts r (only_dots t before q e d s) = record { from = dot ∷ before; split = ap (λ x. dot ∷ x) e; is = dots before d; spelled = ap (λ x. 46 ∷ x) s }
from_dot ts r (with_module t before path q e d m s) = record { from = dot ∷ before ++ path; split = ap (λ x. dot ∷ x) e; is = named _ (dot ∷ before) path refl (one_more before d) m; spelled = ap (λ x. 46 ∷ x) s }

from_module : (ts : List Terminal) (r : ReadText) → option_and_then (λ x. import_after x.spelled x.rest) (at_module ts) ≡ Some r → ReadsOffFrom ts r
from_module ts r e = let m = module_first ts r e in record { from = m.0; split = m.1; is = named m.0 [] m.0 refl no_dot m.2; spelled = m.3 }

-- what is read of a relative module is one
pub at_relative-sound : (ts : List Terminal) (r : ReadText) → at_relative false ts ≡ Some r → ReadsOffFrom ts r
at_relative-sound (dot ∷ ts) r e =
    let inner = option_map-some (spelled_before (46 ∷ [])) (at_relative true ts) r e in
    subst (ReadsOffFrom (dot ∷ ts)) inner.2 (from_dot ts inner.0 (behind_dot ts inner.0 inner.1))
at_relative-sound (import_word ∷ ts) r e = absurd cc
at_relative-sound [] r e = from_module [] r e
at_relative-sound (from_word ∷ ts) r e = from_module (from_word ∷ ts) r e
at_relative-sound (as_word ∷ ts) r e = from_module (as_word ∷ ts) r e
at_relative-sound (name w ∷ ts) r e = from_module (name w ∷ ts) r e
at_relative-sound (comma ∷ ts) r e = from_module (comma ∷ ts) r e
at_relative-sound (star ∷ ts) r e = from_module (star ∷ ts) r e
at_relative-sound (opening ∷ ts) r e = from_module (opening ∷ ts) r e
at_relative-sound (closing ∷ ts) r e = from_module (closing ∷ ts) r e
at_relative-sound (other ∷ ts) r e = from_module (other ∷ ts) r e
