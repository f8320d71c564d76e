-- What a finder has given stands in records.
use Rattle.std.proofs.Common.{◌≡◌, ℕ, List, [], ◌∷◌, ◌++◌, Option, Some, Result, Ok, Err, sym, ap, ◌∙◌, subst}
use Rattle.std.proofs.lemmas.List.{append_assoc, append-nil}
use Rattle.py_imports.specs.BindingValue.{BindingValue, binding_value}
use Rattle.py_imports.specs.declared.binding.Binding.{Binding}
use Rattle.isort_find.specs.Finder.{FinderState, HasFound, FindsNext, GivesNext, finder_text, options_of}
use Rattle.isort_find.specs.Found.{IsFound}
use Rattle.isort_find.specs.declared.error.FindError.{FindError}
use Rattle.isort_find.specs.declared.error.FindError.TheVariants as error
use Rattle.isort_find.specs.declared.options.FindOptions.{FindOptions}
use Rattle.isort_c.specs.Listing.{IsListing}
use Rattle.isort_c.specs.Records.{value_record, value_records}

-- the records of what a finder of this text has given
pub record HasListed (text : List ℕ) (options : FindOptions) (f : FinderState) (bytes : List ℕ) : Type 0 where
  pub values : List BindingValue
  pub found : HasFound f values
  pub written : bytes ≡ value_records values
  pub text_is : finder_text f ≡ text
  pub options_is : options_of f ≡ options

pub records_more : (bs : List BindingValue) (b : BindingValue) → value_records (bs ++ b ∷ []) ≡ value_records bs ++ value_record b
records_more [] b = append-nil (value_record b)
records_more (a ∷ bs) b = ap (λ xs. value_record a ++ xs) (records_more bs b) ∙ sym (append_assoc (value_record a) (value_records bs) (value_record b))

pub listed_next : (text : List ℕ) (options : FindOptions) (old new : FinderState) (b : BindingValue) (before after : List ℕ) → HasListed text options old before → FindsNext old b new → after ≡ before ++ value_record b → HasListed text options new after
listed_next text options old new b before after h n e = record {
  values = h.values ++ b ∷ [];
  found = n.found h.values h.found;
  written = rw (e, h.written, records_more h.values b);
  text_is = n.task.text ∙ h.text_is;
  options_is = n.task.options ∙ h.options_is;
}

pub listed_some : (text : List ℕ) (options : FindOptions) (old new : FinderState) (r : Result (Option Binding) FindError) (b : Binding) (before after : List ℕ) → HasListed text options old before → GivesNext old r new → r ≡ Ok (Some b) → after ≡ before ++ value_record (binding_value b) → HasListed text options new after
listed_some text options old new r b before after h g is e = listed_next text options old new (binding_value b) before after h (subst (λ x. GivesNext old x new) is g) e

-- an error of the finder: its fault comes after all that was listed
listed_at : (text : List ℕ) (options : FindOptions) (old new : FinderState) (e : FindError) (bytes : List ℕ) → HasListed text options old bytes → GivesNext old (Err e) new → IsListing text options (Err e) bytes
listed_at text options old new (error.Fault fault) bytes h g = record {
  values = h.values;
  found = subst (λ (t : List ℕ). IsFound t options h.values (Some fault)) h.text_is (subst (λ (o : FindOptions). IsFound (finder_text old) o h.values (Some fault)) h.options_is (g.all h.values h.found));
  written = h.written;
}
listed_at text options old new error.Memory bytes h g = tt

pub listed_error : (text : List ℕ) (options : FindOptions) (old new : FinderState) (r : Result (Option Binding) FindError) (e : FindError) (answer : Result (Unit {0}) FindError) (bytes : List ℕ) → HasListed text options old bytes → GivesNext old r new → r ≡ Err e → answer ≡ Err e → IsListing text options answer bytes
listed_error text options old new r e answer bytes h g is same = subst (λ (x : Result (Unit {0}) FindError). IsListing text options x bytes) (sym same) (listed_at text options old new e bytes h (subst (λ x. GivesNext old x new) is g))
