-- A call of `next_import`, from where it begins to the end or the fault.
use Rattle.std.proofs.Common.{◌≡◌, ℕ, ◌+◌, ◌⊎◌, ⊎_elim, None, List, inl, inr, refl, sym, ap, ◌∙◌, subst, arith}
use Rattle.py_lines.specs.declared.fault.Fault.{Fault}
use Rattle.py_imports.specs.BindingValue.{BindingValue}
use Rattle.isort_find.specs.Found.{IsFound}
use Rattle.isort_find.specs.Position.{phase_in, MeetsEndAt, EndsInFaultAt}
use Rattle.isort_find.specs.Finder.{FinderState, HasFound, HasReached, KeepsGiven, FindsEnd, FindsFault, finder_text, options_of}
use Rattle.isort_find.specs.Private.FinderSteps.{GoesThroughCall, LooksThrough, ReadsOn}
use Rattle.isort_find.specs.declared.options.FindOptions.{FindOptions}
use Rattle.isort_find.specs.declared.walker.Position.{Position}
use Rattle.isort_find.specs.declared.walker.Position.TheVariants as position
use Rattle.isort_find.specs.declared.walker.Phase.{Phase}
use Rattle.isort_find.specs.declared.walker.Phase.TheVariants as phase

-- how much is left to do
abbrev pub work : Phase → ℕ → ℕ
work phase.Open n = n + 1
work phase.End n = 0
work (phase.Fault fault) n = 0

-- the call has just begun
pub goes_start : (i : FinderState) → GoesThroughCall i i
goes_start i = record {
  keeps = record { kept = λ values h. h; task = record { text = refl; options = refl }; given = refl };
  falls = λ e. omega arith;
  cursor = λ e. refl;
  start = inr refl;
}

-- it goes on from where it is open
module _ {i f g : FinderState} (goes : GoesThroughCall i f) (opened : phase_in f.position ≡ phase.Open) where
  keeps_on : KeepsGiven f g → KeepsGiven i g
  keeps_on keeps = record {
    kept = λ values h. keeps.kept values (goes.keeps.kept values h);
    task = record { text = keeps.task.text ∙ goes.keeps.task.text; options = keeps.task.options ∙ goes.keeps.task.options };
    given = keeps.given ∙ goes.keeps.given;
  }

  began_open : (phase_in i.position ≡ phase.Open) ⊎ (g ≡ i)
  began_open = inl (⊎_elim (λ was. was) (λ same. ap (λ (x : FinderState). phase_in x.position) (sym same) ∙ opened) goes.start)

  pub looks_on : LooksThrough f g → GoesThroughCall i g
  looks_on looks = record {
    keeps = keeps_on looks.keeps;
    falls = λ e. omega (arith, looks.falls, goes.falls opened);
    cursor = λ e. looks.cursor ∙ goes.cursor opened;
    start = began_open;
  }

  pub reads_on : ReadsOn f g → GoesThroughCall i g
  reads_on reads = record {
    keeps = keeps_on reads.keeps;
    falls = λ e. omega (arith, reads.falls e, goes.falls opened);
    cursor = λ e. reads.cursor e ∙ goes.cursor opened;
    start = began_open;
  }

-- where a finder has got that has met the end
at_end : (f : FinderState) (values : List BindingValue) (s : Position) → phase_in s ≡ phase.End → HasReached f values s → IsFound (finder_text f) (options_of f) values None × MeetsEndAt (finder_text f) (options_of f) f.cursor.offset
at_end f values (position.End passed) at h = h
at_end f values (position.Between skip) at h = absurd cc
at_end f values (position.Unread start skip) at h = absurd cc
at_end f values (position.Within pending) at h = absurd cc
at_end f values (position.Fault fault) at h = absurd cc

-- a finder that has met a fault stands there
pub at_fault : (s : Position) (fault : Fault) → phase_in s ≡ phase.Fault fault → s ≡ position.Fault fault
at_fault (position.Fault other) fault at = let same : other ≡ fault = cc in ap (λ (f : Fault). position.Fault f) same
at_fault (position.Between skip) fault at = absurd cc
at_fault (position.Unread start skip) fault at = absurd cc
at_fault (position.Within pending) fault at = absurd cc
at_fault (position.End passed) fault at = absurd cc

-- a call that ends elsewhere than it began was open there
not_met : (i f : FinderState) (met other : Phase) → (phase_in i.position ≡ phase.Open) ⊎ (f ≡ i) → phase_in f.position ≡ met → phase_in i.position ≡ other → (phase.Open ≡ other → ⊥) → met ≡ other
not_met i f met other (inl opened) at is differs = absurd (differs (sym opened ∙ is))
not_met i f met other (inr same) at is differs = sym at ∙ ap (λ (x : FinderState). phase_in x.position) same ∙ is

-- the end was met
pub goes_to_end : (i f : FinderState) → GoesThroughCall i f → phase_in f.position ≡ phase.End → FindsEnd i f
goes_to_end i f goes at =
    let task = goes.keeps.task in
    let met : (values : List BindingValue) → HasFound i values → IsFound (finder_text i) (options_of i) values None × MeetsEndAt (finder_text i) (options_of i) f.cursor.offset = λ values h. subst (λ (t : List ℕ). IsFound t (options_of i) values None × MeetsEndAt t (options_of i) f.cursor.offset) task.text (subst (λ (o : FindOptions). IsFound (finder_text f) o values None × MeetsEndAt (finder_text f) o f.cursor.offset) task.options (at_end f values f.position at (goes.keeps.kept values h).reached)) in
    record {
      all = λ values h. (met values h).0;
      offset = λ values h. (met values h).1;
      keeps = goes.keeps;
      no_fault = λ fault e. let both = not_met i f phase.End (phase.Fault fault) goes.start at (ap phase_in e) (λ x. cc) in cc;
      ended = at;
    }

-- the fault was met
pub goes_to_fault : (i f : FinderState) (fault : Fault) → GoesThroughCall i f → phase_in f.position ≡ phase.Fault fault → FindsFault i fault f
goes_to_fault i f fault goes at =
    let task = goes.keeps.task in
    let stands = at_fault f.position fault at in
    let met : (values : List BindingValue) → HasFound i values → EndsInFaultAt (finder_text i) (options_of i) values f.cursor.offset fault = λ values h. subst (λ (t : List ℕ). EndsInFaultAt t (options_of i) values f.cursor.offset fault) task.text (subst (λ (o : FindOptions). EndsInFaultAt (finder_text f) o values f.cursor.offset fault) task.options (subst (HasReached f values) stands (goes.keeps.kept values h).reached)) in
    record {
      all = λ values h. (met values h).0;
      offset = λ values h. (met values h).1;
      keeps = goes.keeps;
      no_end = λ e. let both = not_met i f (phase.Fault fault) phase.End goes.start at e (λ x. cc) in cc;
      again = λ first e. let both = not_met i f (phase.Fault fault) (phase.Fault first) goes.start at (ap phase_in e) (λ x. cc) in cc;
      failed = stands;
    }

-- a phase that isn't open, and is open or the end, is the end
pub is_end_phase : (p here there : Phase) → p ≡ here → p ≡ there → (here ≡ phase.Open) ⊎ (here ≡ phase.End) → (there ≡ phase.Open → ⊥) → p ≡ phase.End
is_end_phase p here there e d (inl opened) closed = absurd (closed (sym d ∙ e ∙ opened))
is_end_phase p here there e d (inr ended) closed = e ∙ ended
