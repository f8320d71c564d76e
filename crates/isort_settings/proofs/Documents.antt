-- When a text is a document, and what it says where the table isn't there.
use Rattle.std.proofs.Common.{◌≡◌, ◌∙◌, ap, sym, refl, not, filter, map, ℕ, List, [], Option, Some, None, Ok, Err, inl, inr, IsUtf8}
use Rattle.std.specs.Result.{result_unwrap_or}
use Rattle.std.specs.Str.{is_utf8}
use Rattle.std.proofs.lemmas.Bool.{cases_Bool}
use Rattle.std.proofs.lemmas.Str.{is_utf8-from_IsUtf8, IsUtf8-from_is_utf8}
use Rattle.toml.specs.Data.{Members, no_members}
use Rattle.toml.specs.Parse.{parse_document}
use Rattle.isort_settings.specs.declared.error.SettingsError.{SettingsError}
use Rattle.isort_settings.specs.declared.error.SettingsError.TheVariants.{BadToml}
use Rattle.isort_settings.specs.declared.profile.Profile.{Profile}
use Rattle.isort_settings.specs.declared.profile.Profile.TheVariants.{Black}
use Rattle.isort_settings.specs.Keys.{keys_in_order}
use Rattle.isort_settings.specs.Pyproject.{document_of, table_in, profile_of, first_refusal, base_value, values_in, is_key, names_of, settings_in, unknown_names, with_sections}
use Rattle.isort_settings.specs.Pyproject.Steps.{of_document, of_table, with_listed, with_profile}
use Rattle.isort_settings.specs.SectionNames.{SectionTable, list_key}
use Rattle.isort_settings.specs.TableSections.{own_list, own_names_in, sections_in}
use Rattle.isort_settings.specs.Values.{Values, plain_values, values_from}

pub document_of-ok : (text : List ℕ) (ms : Members) → IsUtf8 text → parse_document text ≡ Some ms → document_of text ≡ Ok ms
document_of-ok text ms utf8 parses = rw (is_utf8-from_IsUtf8 text utf8, parses)

pub document_of-bad : (text : List ℕ) → (IsUtf8 text → parse_document text ≡ None) → document_of text ≡ Err BadToml
document_of-bad text fails =
    elim (cases_Bool (is_utf8 text)) [
      | inl utf8 ↦ rw (utf8, fails (IsUtf8-from_is_utf8 text utf8))
      | inr other ↦ rw other
    ]

-- without a table the profile that is handed in gives all values
pub of_document-no_table : (document : Members) (handed_in : Option Profile) (v : Values) → table_in document ≡ Ok no_members
    → v ≡ values_from (base_value handed_in) → of_document handed_in document ≡ Ok (v, [])
unfolding keys_in_order values_in
of_document-no_table document None v empty base = rw (empty, base)
of_document-no_table document (Some p) v empty base = rw (empty, base)

own_names-values_in : (ms : Members) (p : Option Profile) → (values_in ms p).own_names ≡ own_names_in ms
unfolding values_in
own_names-values_in ms p = refl

-- where no key is refused, the values of a table count, and its names that are no key
pub settings_in-values : (ms : Members) (p : Option Profile) (v : Values) (unknown : List (List ℕ))
    → first_refusal ms ≡ None → v ≡ values_in ms p → unknown ≡ filter (λ name. not (is_key (map list_key v.own_names) name)) (names_of ms)
    → settings_in ms p ≡ Ok (v, unknown)
settings_in-values ms p v unknown fine is names =
    let own : v.own_names ≡ own_names_in ms = ap (λ w. w.own_names) is ∙ own_names-values_in ms p in
    let same : unknown ≡ unknown_names ms = names ∙ ap (λ own. filter (λ name. not (is_key (map list_key own) name)) (names_of ms)) own in
    rw fine (ap (λ w. Ok (w, unknown_names ms)) (sym is) ∙ ap (λ u. Ok (v, u)) (sym same))

pub settings_in-refused : (ms : Members) (p : Option Profile) (e : SettingsError) → first_refusal ms ≡ Some e → settings_in ms p ≡ Err e
settings_in-refused ms p e why = rw why refl

-- the settings of a table are those with the profile that counts
pub of_table-profile : (ms : Members) (handed_in p : Option Profile) → profile_of handed_in ms ≡ Ok p → of_table handed_in ms ≡ settings_in ms p
of_table-profile ms handed_in p chosen = rw chosen refl

pub of_table-refused : (ms : Members) (handed_in : Option Profile) (e : SettingsError) → profile_of handed_in ms ≡ Err e → of_table handed_in ms ≡ Err e
of_table-refused ms handed_in e why = rw why refl

-- the settings of a document are those of its table
pub of_document-table : (document ms : Members) (handed_in : Option Profile) → table_in document ≡ Ok ms → of_document handed_in document ≡ of_table handed_in ms
of_document-table document ms handed_in found = rw found refl

pub of_document-refused : (document : Members) (handed_in : Option Profile) (e : SettingsError) → table_in document ≡ Err e → of_document handed_in document ≡ Err e
of_document-refused document handed_in e why = rw why refl

-- the values of a profile are the default ones with what it says
pub with_profile-plain : (ms : Members) (p : Option Profile) → with_profile p (with_sections ms plain_values) ≡ with_sections ms (values_from (base_value p))
with_profile-plain ms None = refl
with_profile-plain ms (Some Black) = refl

-- with the sections that were read, and the lists
pub listed_read : (ms : Members) (v : Values) (table : SectionTable) (lists : List (List (List ℕ))) → table ≡ sections_in ms
    → lists ≡ map (λ name. result_unwrap_or (own_list ms name) []) (own_names_in ms) → with_listed table lists v ≡ with_sections ms v
listed_read ms v table lists listed own = ap (λ t. with_listed t lists v) listed ∙ ap (λ l. with_listed (sections_in ms) l v) own

-- a profile says nothing of sections
pub own_names-with_profile : (p : Option Profile) (v : Values) → (with_profile p v).own_names ≡ v.own_names
own_names-with_profile None v = refl
own_names-with_profile (Some Black) v = refl
