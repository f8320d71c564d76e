-- The table of keys over the members of a table: what one key changes, and all keys in their order.
use Rattle.std.proofs.Common.{◌≡◌, ℕ, Bool, true, false, List, [], ◌∷◌, ◌++◌, map, filter, IfSome, option_map, Option, Some, None, Result, Ok, Err, IsOkAnd, refl, sym, ◌∙◌, ap, String, Global, string_bytes}
use Rattle.std.proofs.Common.{Less, subst, length, arith}
use Rattle.std.specs.List.{filter_map, cons_option}
use Rattle.std.specs.Option.{option_map_or}
use Rattle.std.specs.Result.{result_unwrap_or}
use Rattle.std.proofs.lemmas.List.Kept.{IsStrictlySortedBy-filter}
use Rattle.std.specs.Cmp.Lexicographic.{slice_cmp}
use Rattle.std.specs.List.{AllByRecursion}
use Rattle.std.specs.List.Sorted.{IsStrictlySortedBy}
use Rattle.std.specs.Map.{keys_of}
use Rattle.std.specs.Ordering.{nat_cmp, is_lt}
use Rattle.std.specs.String.{string_cmp}
use Rattle.toml.specs.Data.{Data, Members, get_member}
use Rattle.toml.specs.View.{members_view}
use Rattle.toml.specs.declared.value.Value.{Value}
use Rattle.isort_settings.specs.declared.error.SettingsError.{SettingsError}
use Rattle.isort_settings.specs.declared.error.SettingsError.TheVariants.{BadValue}
use Rattle.isort_settings.specs.declared.key.SettingKey.{SettingKey}
use Rattle.isort_settings.specs.declared.key.SettingKey.TheVariants as key
use Rattle.isort_settings.specs.declared.profile.Profile.{Profile}
use Rattle.isort_settings.specs.Keys.{Meaning, row_of, name_of, keys_in_order, Ascends}
use Rattle.isort_settings.specs.Pyproject.{refused_at, first_refusal, base_value, value_at, values_in, with_sections, names_of}
use Rattle.isort_settings.specs.Reading.{read_value}
use Rattle.isort_settings.specs.TableSections.{own_names_in, Refused, refused_by, first_refused, sections_refused}
use Rattle.isort_settings.specs.TableSections.Steps.{bad_key}
use Rattle.isort_settings.specs.Values.{Values, values_from}
use Rattle.isort_settings.specs.Values.OneKey.{with_value}
use Rattle.isort_settings.proofs.KeyLaws.{keys-ascend}
use Rattle.isort_settings.proofs.Refusals.{before, name_at, before-trans, before-not_after, not_before-trans, first_refused-head, first_refused-after, first_refused-none, first_refused-least, all_more}

-- the value that a key has
abbrev pub value_of : (k : SettingKey) → Values → Meaning (row_of k).kind
value_of key.LineLength v = v.line_length
value_of key.MultiLineOutput v = v.multi_line_output
value_of key.IncludeTrailingComma v = v.include_trailing_comma
value_of key.ForceGridWrap v = v.force_grid_wrap
value_of key.UseParentheses v = v.use_parentheses
value_of key.EnsureNewlineBeforeComments v = v.ensure_newline_before_comments
value_of key.ForceSingleLine v = v.force_single_line
value_of key.ForceSortWithinSections v = v.force_sort_within_sections
value_of key.CaseSensitive v = v.case_sensitive
value_of key.CombineAsImports v = v.combine_as_imports
value_of key.OrderByType v = v.order_by_type
value_of key.LinesBetweenSections v = v.lines_between_sections
value_of key.LinesBetweenTypes v = v.lines_between_types
value_of key.LinesAfterImports v = v.lines_after_imports
value_of key.DefaultSection v = v.default_section
value_of key.KnownStandardLibrary v = v.known_standard_library
value_of key.ExtraStandardLibrary v = v.extra_standard_library
value_of key.KnownThirdParty v = v.known_third_party
value_of key.KnownFirstParty v = v.known_first_party
value_of key.KnownLocalFolder v = v.known_local_folder
value_of key.KnownFutureLibrary v = v.known_future_library
value_of key.Profile v = tt
value_of key.Tool v = tt
value_of key.ToolIsort v = tt
value_of key.Sections v = tt
value_of (key.OwnList name) v = tt

-- the values once a key's value was taken from the table, and once each key's was
abbrev pub after_key : Members → SettingKey → Values → Values
after_key ms k v = with_value k (value_at ms k (value_of k v)) v

abbrev pub after_keys : Members → List SettingKey → Values → Values
after_keys ms [] v = v
after_keys ms (k ∷ ks) v = after_keys ms ks (after_key ms k v)

-- a key's own value changes nothing
pub with_value-value_of : (k : SettingKey) (v : Values) → with_value k (value_of k v) v ≡ v
with_value-value_of key.LineLength v = refl
with_value-value_of key.MultiLineOutput v = refl
with_value-value_of key.IncludeTrailingComma v = refl
with_value-value_of key.ForceGridWrap v = refl
with_value-value_of key.UseParentheses v = refl
with_value-value_of key.EnsureNewlineBeforeComments v = refl
with_value-value_of key.ForceSingleLine v = refl
with_value-value_of key.ForceSortWithinSections v = refl
with_value-value_of key.CaseSensitive v = refl
with_value-value_of key.CombineAsImports v = refl
with_value-value_of key.OrderByType v = refl
with_value-value_of key.LinesBetweenSections v = refl
with_value-value_of key.LinesBetweenTypes v = refl
with_value-value_of key.LinesAfterImports v = refl
with_value-value_of key.DefaultSection v = refl
with_value-value_of key.KnownStandardLibrary v = refl
with_value-value_of key.ExtraStandardLibrary v = refl
with_value-value_of key.KnownThirdParty v = refl
with_value-value_of key.KnownFirstParty v = refl
with_value-value_of key.KnownLocalFolder v = refl
with_value-value_of key.KnownFutureLibrary v = refl
with_value-value_of key.Profile v = refl
with_value-value_of key.Tool v = refl
with_value-value_of key.ToolIsort v = refl
with_value-value_of key.Sections v = refl
with_value-value_of (key.OwnList name) v = refl

pub after_key-none : (ms : Members) (k : SettingKey) (v : Values) → get_member (name_of k) ms ≡ None → after_key ms k v ≡ v
after_key-none ms k v h = rw h (with_value-value_of k v)

read_ok : (k : SettingKey) (v new : Values) (b : Meaning (row_of k).kind) (r : Result (Meaning (row_of k).kind) SettingsError) → IsOkAnd r (λ x. new ≡ with_value k x v) → with_value k (result_unwrap_or r b) v ≡ new
read_ok k v new b (Ok x) h = sym h
read_ok k v new b (Err e) h = absurd h

pub after_key-some : (ms : Members) (k : SettingKey) (v new : Values) (d : Data) → get_member (name_of k) ms ≡ Some d → IsOkAnd (read_value (own_names_in ms) (row_of k).kind k d) (λ x. new ≡ with_value k x v) → after_key ms k v ≡ new
after_key-some ms k v new d h read = rw h (read_ok k v new _ _ read)

-- all keys in their order give the values of the table
pub after_keys-in_order : (ms : Members) (p : Option Profile) → after_keys ms keys_in_order (with_sections ms (values_from (base_value p))) ≡ values_in ms p
unfolding keys_in_order values_in
after_keys-in_order ms p = refl

-- no key that is read alone changes the own names
own_names-with_value : (k : SettingKey) (x : Meaning (row_of k).kind) (v : Values) → (with_value k x v).own_names ≡ v.own_names
own_names-with_value key.LineLength x v = refl
own_names-with_value key.MultiLineOutput x v = refl
own_names-with_value key.IncludeTrailingComma x v = refl
own_names-with_value key.ForceGridWrap x v = refl
own_names-with_value key.UseParentheses x v = refl
own_names-with_value key.EnsureNewlineBeforeComments x v = refl
own_names-with_value key.ForceSingleLine x v = refl
own_names-with_value key.ForceSortWithinSections x v = refl
own_names-with_value key.CaseSensitive x v = refl
own_names-with_value key.CombineAsImports x v = refl
own_names-with_value key.OrderByType x v = refl
own_names-with_value key.LinesBetweenSections x v = refl
own_names-with_value key.LinesBetweenTypes x v = refl
own_names-with_value key.LinesAfterImports x v = refl
own_names-with_value key.DefaultSection x v = refl
own_names-with_value key.KnownStandardLibrary x v = refl
own_names-with_value key.ExtraStandardLibrary x v = refl
own_names-with_value key.KnownThirdParty x v = refl
own_names-with_value key.KnownFirstParty x v = refl
own_names-with_value key.KnownLocalFolder x v = refl
own_names-with_value key.KnownFutureLibrary x v = refl
own_names-with_value key.Profile x v = refl
own_names-with_value key.Tool x v = refl
own_names-with_value key.ToolIsort x v = refl
own_names-with_value key.Sections x v = refl
own_names-with_value (key.OwnList name) x v = refl

own_names_after : (k : SettingKey) (v new : Values) (r : Result (Meaning (row_of k).kind) SettingsError) → IsOkAnd r (λ x. new ≡ with_value k x v) → new.own_names ≡ v.own_names
own_names_after k v new (Ok x) h = ap (λ w. w.own_names) h ∙ own_names-with_value k x v
own_names_after k v new (Err e) h = absurd h

-- a key's refusal, by what the table has for it
pub refused_at-none : (ms : Members) (k : SettingKey) → get_member (name_of k) ms ≡ None → refused_at ms k ≡ None
refused_at-none ms k h = rw h

no_refusal : {A : Type 0} (k : SettingKey) (r : Result A SettingsError) (P : A → Type 0) → IsOkAnd r P → refused_by k r ≡ None
no_refusal k (Ok x) P h = refl
no_refusal k (Err e) P h = absurd h

pub refused_at-ok : (ms : Members) (k : SettingKey) (d : Data) (P : Meaning (row_of k).kind → Type 0) → get_member (name_of k) ms ≡ Some d → IsOkAnd (read_value (own_names_in ms) (row_of k).kind k d) P → refused_at ms k ≡ None
refused_at-ok ms k d P h read = rw h (no_refusal k _ P read)

-- a key that is refused
abbrev pub refused_as : SettingKey → SettingsError → Refused
refused_as k e = record { what = k; why = e }

pub refused_at-err : (ms : Members) (k : SettingKey) (d : Data) (e : SettingsError) → get_member (name_of k) ms ≡ Some d → read_value (own_names_in ms) (row_of k).kind k d ≡ Err e → refused_at ms k ≡ Some (refused_as k e)
refused_at-err ms k d e h read = rw h (ap (refused_by k) read)

-- what is refused at a key is that key
refused_by-what : {A : Type 0} (k : SettingKey) (r : Result A SettingsError) → IfSome (refused_by k r) (λ x. x.what ≡ k)
refused_by-what k (Ok x) = tt
refused_by-what k (Err e) = refl

refused_at-what : (ms : Members) (k : SettingKey) → IfSome (refused_at ms k) (λ x. x.what ≡ k)
refused_at-what ms k = of_member (get_member (name_of k) ms)
  where
    of_member : (m : Option Data) → IfSome (option_map_or (λ d. refused_by k (read_value (own_names_in ms) (row_of k).kind k d)) m None) (λ x. x.what ≡ k)
    of_member None = tt
    of_member (Some d) = refused_by-what k (read_value (own_names_in ms) (row_of k).kind k d)

-- what holds of the names of keys holds of those that are refused
pub refused_keys : (Q : List ℕ → Type 0) (ms : Members) (ks : List SettingKey) → AllByRecursion Q (map name_of ks) → AllByRecursion (λ r. Q (name_of r.what)) (filter_map (refused_at ms) ks)
refused_keys Q ms [] h = tt
refused_keys Q ms (k ∷ ks) h = one_more (refused_at ms k) (filter_map (refused_at ms) ks) (refused_at-what ms k) (refused_keys Q ms ks h.1)
  where
    one_more : (o : Option Refused) (rs : List Refused) → IfSome o (λ x. x.what ≡ k) → AllByRecursion (λ r. Q (name_of r.what)) rs → AllByRecursion (λ r. Q (name_of r.what)) (cons_option o rs)
    one_more None rs e rest = rest
    one_more (Some x) rs e rest = (let P : SettingKey → Type 0 = λ j. Q (name_of j) in subst P (sym e) h.0, rest)

-- the names of a table's members are the keys of its map
pub names_of-view : (es : List (String Global × Value)) → names_of (members_view es) ≡ map string_bytes (keys_of es)
names_of-view [] = refl
names_of-view (e ∷ es) = ap (λ t. string_bytes e.0 ∷ t) (names_of-view es)

AllByRecursion-string_bytes : (k : String Global) (ks : List (String Global)) → AllByRecursion (λ y. string_cmp k y ≡ Less) ks → AllByRecursion (λ y. slice_cmp nat_cmp (string_bytes k) y ≡ Less) (map string_bytes ks)
AllByRecursion-string_bytes k [] h = tt
AllByRecursion-string_bytes k (x ∷ xs) h = (h.0, AllByRecursion-string_bytes k xs h.1)

-- keys in order have names that ascend
pub Ascends-string_bytes : (ks : List (String Global)) → IsStrictlySortedBy string_cmp ks → Ascends (map string_bytes ks)
unfolding IsStrictlySortedBy
Ascends-string_bytes [] h = tt
Ascends-string_bytes (k ∷ ks) h = (AllByRecursion-string_bytes k ks h.0, Ascends-string_bytes ks h.1)

-- so the names of a table in order ascend, and some of them do
pub Ascends-names_of : (p : List ℕ → Bool) (es : List (String Global × Value)) → IsStrictlySortedBy string_cmp (keys_of es) → Ascends (filter p (names_of (members_view es)))
Ascends-names_of p es ordered = rw (names_of-view es) (IsStrictlySortedBy-filter _ _ _ (Ascends-string_bytes (keys_of es) ordered))

-- these keys are left: none before them is refused, their names ascend, and they make the values those of the table
pub record KeysLeft (ms : Members) (start : Values) (ks : List SettingKey) (v : Values) : Type 0 where
  pub unrefused : filter_map (refused_at ms) keys_in_order ≡ filter_map (refused_at ms) ks
  pub ascend : Ascends (map name_of ks)
  pub filled : after_keys ms ks v ≡ after_keys ms keys_in_order start
  pub own_names : v.own_names ≡ own_names_in ms

-- at the start all keys are left
pub KeysLeft-all : (ms : Members) (ks : List SettingKey) (v : Values) → ks ≡ keys_in_order → v.own_names ≡ own_names_in ms → KeysLeft ms v ks v
KeysLeft-all ms ks v all own = record { unrefused = rw all refl; ascend = rw all keys-ascend; filled = rw all refl; own_names = own }

tail_ascends : (k : SettingKey) (ks : List SettingKey) → Ascends (map name_of (k ∷ ks)) → Ascends (map name_of ks)
unfolding IsStrictlySortedBy
tail_ascends k ks h = h.1

pub head_first : (k : SettingKey) (ks : List SettingKey) → Ascends (map name_of (k ∷ ks)) → AllByRecursion (λ name. slice_cmp nat_cmp (name_of k) name ≡ Less) (map name_of ks)
unfolding IsStrictlySortedBy
head_first k ks h = h.0

KeysLeft-skip : (ms : Members) (start : Values) (k : SettingKey) (ks : List SettingKey) (v new : Values) → refused_at ms k ≡ None → after_key ms k v ≡ new → new.own_names ≡ v.own_names → KeysLeft ms start (k ∷ ks) v → KeysLeft ms start ks new
KeysLeft-skip ms start k ks v new fine put own left = record {
  unrefused = left.unrefused ∙ rw fine;
  ascend = tail_ascends k ks left.ascend;
  filled = ap (after_keys ms ks) (sym put) ∙ left.filled;
  own_names = own ∙ left.own_names;
}

-- a key that the table doesn't have
pub KeysLeft-none : (ms : Members) (start : Values) (k : SettingKey) (ks : List SettingKey) (v : Values) (name : List ℕ) → KeysLeft ms start (k ∷ ks) v
    → name ≡ name_of k → None ≡ get_member name ms → KeysLeft ms start ks v
KeysLeft-none ms start k ks v name left same found =
    let h : get_member (name_of k) ms ≡ None = rw (← same) (sym found) in
    KeysLeft-skip ms start k ks v v (refused_at-none ms k h) (after_key-none ms k v h) refl left

-- a key whose value was taken
pub KeysLeft-some : (ms : Members) (start : Values) (k : SettingKey) (ks : List SettingKey) (v new : Values) (name : List ℕ) (x : Data) → KeysLeft ms start (k ∷ ks) v
    → name ≡ name_of k → Some x ≡ get_member name ms → IsOkAnd (read_value v.own_names (row_of k).kind k x) (λ y. new ≡ with_value k y v) → KeysLeft ms start ks new
KeysLeft-some ms start k ks v new name x left same found read =
    let h : get_member (name_of k) ms ≡ Some x = rw (← same) (sym found) in
    let own : IsOkAnd (read_value (own_names_in ms) (row_of k).kind k x) (λ y. new ≡ with_value k y v) = subst (λ names. IsOkAnd (read_value names (row_of k).kind k x) (λ y. new ≡ with_value k y v)) left.own_names read in
    KeysLeft-skip ms start k ks v new (refused_at-ok ms k x _ h own) (after_key-some ms k v new x h own) (own_names_after k v new _ own) left

-- the refusals among `sections` and the lists of own sections, of which this key is the first
abbrev pub FirstBad : Members → Option SettingKey → Type 0
FirstBad ms bad = option_map bad_key bad ≡ first_refused (sections_refused ms)

-- the key is after the one that is refused
abbrev pub comes_after : SettingKey → Option SettingKey → Bool
comes_after k bad = option_map_or (λ b. before (name_of b) (name_of k)) bad false

pub not_after-none : (k : SettingKey) (bad : Option SettingKey) → bad ≡ None → comes_after k bad ≡ true → ⊥
not_after-none k None e after = cc
not_after-none k (Some b) e after = cc

-- the keys that are left, at the next one
pub KeysLeft-next : (ms : Members) (start : Values) (k : SettingKey) (all ks : List SettingKey) (v : Values) → all ≡ k ∷ ks → KeysLeft ms start all v → KeysLeft ms start (k ∷ ks) v
KeysLeft-next ms start k all ks v next left = let P : List SettingKey → Type 0 = λ xs. KeysLeft ms start xs v in subst P next left

pub none_left : (ks : List SettingKey) → length ks ≡ 0 → ks ≡ []
none_left [] h = refl
none_left (k ∷ ks) h = absurd (omega (arith, h))

all_after : (b : SettingKey) (k : SettingKey) (names : List (List ℕ)) → before (name_of b) (name_of k) ≡ true
    → AllByRecursion (λ name. slice_cmp nat_cmp (name_of k) name ≡ Less) names → AllByRecursion (λ name. before (name_of b) name ≡ true) names
all_after b k [] h more = tt
all_after b k (n ∷ ns) h more = (before-trans (name_of b) (name_of k) n h (ap is_lt more.0), all_after b k ns h more.1)

-- where a key comes after the one that is refused, that one is the first
pub first_refusal-bad : (ms : Members) (start : Values) (k : SettingKey) (ks : List SettingKey) (v : Values) (bad : Option SettingKey) → FirstBad ms bad → KeysLeft ms start (k ∷ ks) v → comes_after k bad ≡ true
    → first_refusal ms ≡ option_map (λ b. BadValue b) bad
first_refusal-bad ms start k ks v None first left after = cc
first_refusal-bad ms start k ks v (Some b) first left after =
    ap (option_map (λ r. r.why))
    (ap (λ rs. first_refused (rs ++ sections_refused ms)) left.unrefused
    ∙ first_refused-after (filter_map (refused_at ms) (k ∷ ks)) (sections_refused ms) (bad_key b) (sym first)
    (refused_keys (λ name. before (name_of b) name ≡ true) ms (k ∷ ks) (after, all_after b k (map name_of ks) after (head_first k ks left.ascend))))

-- at the end no key is left
pub first_refusal-end : (ms : Members) (start : Values) (ks : List SettingKey) (v : Values) (bad : Option SettingKey) → ks ≡ [] → FirstBad ms bad → KeysLeft ms start ks v → first_refusal ms ≡ option_map (λ b. BadValue b) bad
first_refusal-end ms start ks v bad none first left =
    ap (λ rs. option_map (λ (r : Refused). r.why) (first_refused (rs ++ sections_refused ms))) (left.unrefused ∙ ap (filter_map (refused_at ms)) none) ∙ ap (option_map (λ (r : Refused). r.why)) (sym first) ∙ whys bad
  where
    whys : (b : Option SettingKey) → option_map (λ (r : Refused). r.why) (option_map bad_key b) ≡ option_map (λ k. BadValue k) b
    whys None = refl
    whys (Some b) = refl

pub values-end : (ms : Members) (start : Values) (ks : List SettingKey) (v : Values) (p : Option Profile) → ks ≡ [] → KeysLeft ms start ks v → start ≡ with_sections ms (values_from (base_value p)) → v ≡ values_in ms p
values-end ms start ks v p none left base =
    sym (ap (λ xs. after_keys ms xs v) none) ∙ left.filled ∙ ap (after_keys ms keys_in_order) base ∙ after_keys-in_order ms p

all_append : (P : Refused → Type 0) (xs ys : List Refused) → AllByRecursion P xs → AllByRecursion P ys → AllByRecursion P (xs ++ ys)
all_append P [] ys h k = k
all_append P (x ∷ xs) ys h k = (h.0, all_append P xs ys h.1 k)

none_before : (k : SettingKey) (names : List (List ℕ)) → AllByRecursion (λ name. slice_cmp nat_cmp (name_of k) name ≡ Less) names → AllByRecursion (λ name. before name (name_of k) ≡ false) names
none_before k [] h = tt
none_before k (n ∷ ns) h = (before-not_after (name_of k) n (ap is_lt h.0), none_before k ns h.1)

-- no own key that is refused comes before a key that isn't after the first of them
bad_not_before : (ms : Members) (k : SettingKey) (bad : Option SettingKey) → FirstBad ms bad → comes_after k bad ≡ false → AllByRecursion (λ y. before (name_at y) (name_of k) ≡ false) (sections_refused ms)
bad_not_before ms k None first after =
    subst (AllByRecursion (λ y. before (name_at y) (name_of k) ≡ false)) (sym (first_refused-none (sections_refused ms) (sym first))) tt
bad_not_before ms k (Some b) first after =
    let least = rw (sym first) at (first_refused-least (sections_refused ms)) in
    all_more _ _ (sections_refused ms) (λ y h. not_before-trans (name_at y) (name_of b) (name_of k) h after) least

-- a key whose value is refused, where it isn't after the one that is refused already
pub first_refusal-at : (ms : Members) (start : Values) (k : SettingKey) (ks : List SettingKey) (v : Values) (bad : Option SettingKey) (name : List ℕ) (x : Data) (e : SettingsError) → FirstBad ms bad
    → comes_after k bad ≡ false → KeysLeft ms start (k ∷ ks) v → name ≡ name_of k → Some x ≡ get_member name ms → read_value v.own_names (row_of k).kind k x ≡ Err e → first_refusal ms ≡ Some e
first_refusal-at ms start k ks v bad name x e first after left same found read =
    let h : get_member (name_of k) ms ≡ Some x = rw (← same) (sym found) in
    let own : read_value (own_names_in ms) (row_of k).kind k x ≡ Err e = subst (λ names. read_value names (row_of k).kind k x ≡ Err e) left.own_names read in
    ap (option_map (λ (r : Refused). r.why))
    (ap (λ rs. first_refused (rs ++ sections_refused ms)) (left.unrefused ∙ ap (λ o. cons_option o (filter_map (refused_at ms) ks)) (refused_at-err ms k x e h own))
    ∙ first_refused-head (refused_as k e) (filter_map (refused_at ms) ks ++ sections_refused ms)
    (all_append _ (filter_map (refused_at ms) ks) (sections_refused ms)
    (refused_keys (λ n. before n (name_of k) ≡ false) ms ks (none_before k (map name_of ks) (head_first k ks left.ascend)))
    (bad_not_before ms k bad first after)))

-- no names ascend
pub Ascends-none : Ascends []
unfolding IsStrictlySortedBy
Ascends-none = tt
