-- The lists of own sections, read one after another.
use Rattle.std.proofs.Common.{◌≡◌, ℕ, ◌+◌, ◌<◌, List, [], ◌∷◌, ◌++◌, map, length, take, get_or, Option, Some, None, option_map, ok_or, unwrap_or, string_bytes, String, Global, Vec, refl, sym, ◌∙◌, ap}
use Rattle.std.proofs.lemmas.List.{length-map, map-append}
use Rattle.std.proofs.lemmas.List.Elements.{filter_map-append}
use Rattle.std.specs.List.{cons_option}
use Rattle.std.specs.Result.{result_unwrap_or}
use Rattle.toml.specs.Data.{Members}
use Rattle.isort_settings.specs.declared.error.SettingsError.{SettingsError}
use Rattle.isort_settings.specs.declared.error.SettingsError.TheVariants.{BadValue}
use Rattle.isort_settings.specs.declared.key.SettingKey.{SettingKey}
use Rattle.isort_settings.specs.declared.key.SettingKey.TheVariants as key
use Rattle.isort_settings.specs.declared.table_sections.Listed.{Listed}
use Rattle.isort_settings.specs.OwnLists.{modules_of_lists}
use Rattle.isort_settings.specs.SectionNames.{list_key}
use Rattle.isort_settings.specs.TableSections.{entries_under, own_list, own_names_in, sections_in, Refused, refused_by, first_refused}
use Rattle.isort_settings.specs.TableSections.Steps.{listed_value, lists_refused, bad_key, earliest}
use Rattle.isort_settings.proofs.Names.{bytes_more}
use Rattle.isort_settings.proofs.Refusals.{first_refused-append}

-- the entries of an own list, none where it is refused
abbrev list_or_none : Members → List ℕ → List (List ℕ)
list_or_none ms name = result_unwrap_or (own_list ms name) []

-- the first refused key, with one list more
pub refused_more : (ms : Members) (names : List (String Global)) (i : ℕ) (name : String Global) (text : List ℕ) (bad new : Option SettingKey)
    → i < length names → name ≡ get_or names i name → text ≡ string_bytes name
    → option_map bad_key new ≡ earliest (option_map bad_key bad) (first_refused (lists_refused ms (text ∷ [])))
    → option_map bad_key bad ≡ first_refused (lists_refused ms (map string_bytes (take i names)))
    → option_map bad_key new ≡ first_refused (lists_refused ms (map string_bytes (take (i + 1) names)))
refused_more ms names i name text bad new within at same chosen so_far =
    let before : List (List ℕ) = map string_bytes (take i names) in
    chosen
    ∙ ap (λ o. earliest o (first_refused (lists_refused ms (text ∷ [])))) so_far
    ∙ ap (λ t. earliest (first_refused (lists_refused ms before)) (first_refused (lists_refused ms (t ∷ [])))) same
    ∙ sym (first_refused-append (lists_refused ms before) (lists_refused ms (string_bytes name ∷ [])))
    ∙ ap first_refused (sym (filter_map-append _ before (string_bytes name ∷ [])))
    ∙ ap (λ ns. first_refused (lists_refused ms ns)) (sym (bytes_more names i name within at))

-- what was found under the key of an own section is its list, or its refusal
pub list_added : (ms : Members) (name k : List ℕ) (found : Option (List (List ℕ))) (lists new : List (Vec (String Global) Global)) (list : Vec (String Global) Global)
    → k ≡ list_key name → found ≡ entries_under ms k → map string_bytes list.items ≡ unwrap_or found [] → new ≡ lists ++ list ∷ []
    → modules_of_lists new ≡ modules_of_lists lists ++ result_unwrap_or (own_list ms name) [] ∷ []
list_added ms name k found lists new list spelled is entries put =
    ap modules_of_lists put
    ∙ map-append (λ l. map string_bytes l.items) lists (list ∷ [])
    ∙ ap (λ t. modules_of_lists lists ++ t ∷ []) (entries ∙ sym (unwrapped (BadValue (key.OwnList (list_key name))) found))
    ∙ ap (λ o. modules_of_lists lists ++ result_unwrap_or (ok_or o (BadValue (key.OwnList (list_key name)))) [] ∷ []) (is ∙ ap (entries_under ms) spelled)
  where
    unwrapped : (e : SettingsError) (o : Option (List (List ℕ))) → result_unwrap_or (ok_or o e) [] ≡ unwrap_or o []
    unwrapped e None = refl
    unwrapped e (Some entries) = refl

-- whether a key whose list was found so is refused
abbrev pub refused_so : List ℕ → Option (List (List ℕ)) → List Refused
refused_so k found = cons_option (refused_by (key.OwnList k) (ok_or found (BadValue (key.OwnList k)))) []

pub refusal_added : (ms : Members) (name k : List ℕ) (found : Option (List (List ℕ))) (bad : Option Refused)
    → k ≡ list_key name → found ≡ entries_under ms k
    → earliest bad (first_refused (refused_so k found)) ≡ earliest bad (first_refused (lists_refused ms (name ∷ [])))
refusal_added ms name k found bad spelled is =
    ap (λ o. earliest bad (first_refused (refused_so k o))) is
    ∙ ap (λ j. earliest bad (first_refused (refused_so j (entries_under ms j)))) spelled

-- a list for each own section
pub list_for_each : (l : Listed) (ms : Members) (lists : List (List (List ℕ))) → listed_value l ≡ sections_in ms → lists ≡ map (λ n. result_unwrap_or (own_list ms n) []) (own_names_in ms)
    → length lists ≡ length l.own_names.items
list_for_each l ms lists listed read =
    ap length read ∙ length-map (own_names_in ms) (list_or_none ms) ∙ ap (λ t. length t.own_names) (sym listed) ∙ length-map l.own_names.items string_bytes
