-- A list that was read holds entries alone.
use Rattle.std.proofs.Common.{◌≡◌, codes, ℕ, Bool, true, false, cond, IsTrue, List, [], ◌∷◌, map, Option, Some, None, option_map, option_and_then, ok_or, IfSome, Result, Ok, Err, IfOk, refl}
use Rattle.std.proofs.lemmas.Bool.{and_from, not_from_false}
use Rattle.std.specs.List.{list_any}
use Rattle.std.specs.Option.{option_map_or}
use Rattle.std.specs.Result.{result_unwrap_or}
use Rattle.toml.specs.Data.{Data, Items, no_items, item, Members, as_str, as_array, get_member}
use Rattle.isort_settings.specs.declared.error.SettingsError.{SettingsError}
use Rattle.isort_settings.specs.declared.error.SettingsError.TheVariants.{BadValue}
use Rattle.isort_settings.specs.declared.key.SettingKey.{SettingKey}
use Rattle.isort_settings.specs.declared.key.SettingKey.TheVariants as key
use Rattle.isort_settings.specs.declared.profile.Profile.{Profile}
use Rattle.isort_settings.specs.declared.profile.Profile.TheVariants.{Black}
use Rattle.isort_settings.specs.Entries.{is_wildcard, are_entries, HoldEntries}
use Rattle.isort_settings.specs.Keys.{name_of, texts}
use Rattle.isort_settings.specs.Pyproject.{and_then, document_of, table_in, profile_of, first_refusal, base_value, values_in, unknown_names, settings_in, settings_of}
use Rattle.isort_settings.specs.Reading.{entry_of, entries_of, read_value}
use Rattle.isort_settings.specs.SectionNames.{list_key}
use Rattle.isort_settings.specs.StandardLibrary.{standard_library}
use Rattle.isort_settings.specs.TableSections.{own_names_in, entries_under, own_list}
use Rattle.isort_settings.specs.Values.{Values, all_lists, plain_values, black_values}

abbrev Fine : List (List ℕ) → Type 0
Fine modules = IsTrue (are_entries modules)

-- an entry holds no wildcard
entry_fine : (d : Data) → IfSome (entry_of d) (λ text. list_any is_wildcard text ≡ false)
entry_fine d = of_text (as_str d)
  where
    tested : (text : List ℕ) (b : Bool) → list_any is_wildcard text ≡ b → IfSome (cond b None (Some text)) (λ t. list_any is_wildcard t ≡ false)
    tested text true e = tt
    tested text false e = e

    of_text : (o : Option (List ℕ)) → IfSome (option_and_then (λ s. cond (list_any is_wildcard s) None (Some s)) o) (λ text. list_any is_wildcard text ≡ false)
    of_text None = tt
    of_text (Some text) = tested text (list_any is_wildcard text) refl

entries_fine : (ds : Items) → IfSome (entries_of ds) Fine
unfolding are_entries
entries_fine no_items = refl
entries_fine (item d ds) = one_more (entry_of d) (entries_of ds) (entry_fine d) (entries_fine ds)
  where
    one_more : (o : Option (List ℕ)) (more : Option (List (List ℕ))) → IfSome o (λ text. list_any is_wildcard text ≡ false) → IfSome more Fine
        → IfSome (option_and_then (λ s. option_map (λ rest. s ∷ rest) more) o) Fine
    one_more None more h k = tt
    one_more (Some text) None h k = tt
    one_more (Some text) (Some rest) h k = and_from _ _ (not_from_false _ h) k

array_fine : (o : Option Items) → IfSome (option_and_then entries_of o) Fine
array_fine None = tt
array_fine (Some ds) = entries_fine ds

-- the lists of own sections
own_fine : (ms : Members) (name : List ℕ) → IsTrue (are_entries (result_unwrap_or (own_list ms name) []))
unfolding are_entries
own_fine ms name = of_entries (BadValue (key.OwnList (list_key name))) (entries_under ms (list_key name)) (of_member (get_member (list_key name) ms))
  where
    of_member : (m : Option Data) → IfSome (option_map_or (λ d. option_and_then entries_of (as_array d)) m (Some [])) Fine
    of_member None = refl
    of_member (Some d) = array_fine (as_array d)

    of_entries : (e : SettingsError) (o : Option (List (List ℕ))) → IfSome o Fine → Fine (result_unwrap_or (ok_or o e) [])
    of_entries e None h = refl
    of_entries e (Some entries) h = h

pub HoldEntries-own : (ms : Members) (names : List (List ℕ)) → HoldEntries (map (λ name. result_unwrap_or (own_list ms name) []) names)
HoldEntries-own ms [] = refl
HoldEntries-own ms (name ∷ names) = and_from _ _ (own_fine ms name) (HoldEntries-own ms names)

-- the default lists
library_fine : Fine standard_library
unfolding are_entries standard_library
library_fine = refl

none_fine : Fine []
unfolding are_entries
none_fine = refl

future_fine : Fine (codes "__future__" ∷ [])
unfolding are_entries
future_fine = refl

all_fine : (a b c d e f : List (List ℕ)) (own : List (List (List ℕ))) → Fine a → Fine b → Fine c → Fine d → Fine e → Fine f → HoldEntries own → HoldEntries (a ∷ b ∷ c ∷ d ∷ e ∷ f ∷ own)
all_fine a b c d e f own p q r s t u v = and_from _ _ p (and_from _ _ q (and_from _ _ r (and_from _ _ s (and_from _ _ t (and_from _ _ u v)))))

pub HoldEntries-plain : HoldEntries (all_lists plain_values)
HoldEntries-plain = all_fine _ _ _ _ _ _ [] library_fine none_fine none_fine none_fine none_fine future_fine refl

pub HoldEntries-black : HoldEntries (all_lists black_values)
HoldEntries-black = all_fine _ _ _ _ _ _ [] library_fine none_fine none_fine none_fine none_fine future_fine refl

-- a list that a table has, or else the default one
read_fine : (own : List (List ℕ)) (k : SettingKey) (d : Data) (base : List (List ℕ)) → Fine base → Fine (result_unwrap_or (read_value own texts k d) base)
read_fine own k d base fine = of_list (option_and_then entries_of (as_array d)) (array_fine (as_array d))
  where
    of_list : (o : Option (List (List ℕ))) → IfSome o Fine → Fine (result_unwrap_or (ok_or o (BadValue k)) base)
    of_list None h = fine
    of_list (Some entries) h = h

member_fine : (own : List (List ℕ)) (k : SettingKey) (m : Option Data) (base : List (List ℕ)) → Fine base
    → Fine (option_map_or (λ d. result_unwrap_or (read_value own texts k d) base) m base)
member_fine own k None base fine = fine
member_fine own k (Some d) base fine = read_fine own k d base fine

-- the lists of a profile
bases_fine : (profile : Option Profile) → Fine (base_value profile key.KnownStandardLibrary) × Fine (base_value profile key.ExtraStandardLibrary) × Fine (base_value profile key.KnownThirdParty)
    × Fine (base_value profile key.KnownFirstParty) × Fine (base_value profile key.KnownLocalFolder) × Fine (base_value profile key.KnownFutureLibrary)
bases_fine None = (library_fine, none_fine, none_fine, none_fine, none_fine, future_fine)
bases_fine (Some Black) = (library_fine, none_fine, none_fine, none_fine, none_fine, future_fine)

at_key : (ms : Members) (k : SettingKey) (base : List (List ℕ)) → Fine base → Fine (option_map_or (λ d. result_unwrap_or (read_value (own_names_in ms) texts k d) base) (get_member (name_of k) ms) base)
at_key ms k base fine = member_fine (own_names_in ms) k (get_member (name_of k) ms) base fine

-- the lists of a table
values_fine : (ms : Members) (profile : Option Profile) → HoldEntries (all_lists (values_in ms profile))
unfolding values_in
values_fine ms profile =
    let base = bases_fine profile in
    all_fine _ _ _ _ _ _ _ (at_key ms key.KnownStandardLibrary _ base.0) (at_key ms key.ExtraStandardLibrary _ base.1) (at_key ms key.KnownThirdParty _ base.2) (at_key ms key.KnownFirstParty _ base.3) (at_key ms key.KnownLocalFolder _ base.4) (at_key ms key.KnownFutureLibrary _ base.5) (HoldEntries-own ms (own_names_in ms))

-- the lists of settings that were read
abbrev ReadFine : Values × List (List ℕ) → Type 0
ReadFine r = HoldEntries (all_lists r.0)

table_fine : (ms : Members) (profile : Option Profile) → IfOk (settings_in ms profile) ReadFine
table_fine ms profile = of_refusal (first_refusal ms)
  where
    of_refusal : (o : Option SettingsError) → IfOk (option_map_or (λ e. Err e) o (Ok (values_in ms profile, unknown_names ms))) ReadFine
    of_refusal None = values_fine ms profile
    of_refusal (Some e) = tt

step : {A B : Type 0} (P : B → Type 0) (r : Result A SettingsError) (f : A → Result B SettingsError) → ((a : A) → IfOk (f a) P) → IfOk (and_then r f) P
step P (Ok a) f h = h a
step P (Err e) f h = tt

pub HoldEntries-read : (text : List ℕ) (profile : Option Profile) → IfOk (settings_of text profile) (λ r. HoldEntries (all_lists r.0))
HoldEntries-read text handed_in =
    step ReadFine (document_of text) _ (λ document. step ReadFine (table_in document) _ (λ ms. step ReadFine (profile_of handed_in ms) _ (λ profile. table_fine ms profile)))
