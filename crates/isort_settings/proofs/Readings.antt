-- What taking a key's value does, where the code has matched the key.
use Rattle.std.proofs.Common.{◌≡◌, ◌≢◌, ◌≤◌, ◌⊎◌, inl, inr, ℕ, Bool, List, refl, [], String, Global, length, sym, subst, ap, Option, Some, None, option_map, ok_or, Result, Ok, Err, IsOkAnd, OnOk, IfOk, IfErr, MatchResult}
use Rattle.toml.specs.Data.{Data}
use Rattle.isort_settings.specs.declared.error.SettingsError.{SettingsError}
use Rattle.isort_settings.specs.declared.error.SettingsError.TheVariants.{BadValue, Memory}
use Rattle.isort_settings.specs.declared.key.SettingKey.{SettingKey}
use Rattle.isort_settings.specs.declared.key.SettingKey.TheVariants as key
use Rattle.isort_settings.specs.declared.limits.TheConstants.{LINE_LENGTH, MODES, GRID_WRAP, SECTION_GAP, TYPE_GAP, END_GAP}
use Rattle.isort_settings.specs.declared.modules.Modules.{Modules}
use Rattle.isort_settings.specs.declared.section.Section.{Section}
use Rattle.isort_settings.specs.declared.settings.Settings.{Settings}
use Rattle.isort_settings.specs.Entries.{HoldEntries}
use Rattle.isort_settings.specs.FiveSections.{order_of, StandOnce}
use Rattle.isort_settings.specs.Keys.{Meaning, row_of, flag, texts, wrap_mode}
use Rattle.isort_settings.specs.Limits.{IsWithin, IsWithinSigned}
use Rattle.isort_settings.specs.Modules.{modules_of}
use Rattle.isort_settings.specs.Reading.{read_value}
use Rattle.isort_settings.specs.Values.{Values}
use Rattle.isort_settings.specs.Values.OneKey.{with_flag, with_value}

-- a refusal that is known at the key which the code has matched
pub refused : (own : List (List ℕ)) (k j : SettingKey) (d : Data) (e : SettingsError) → k ≡ j → read_value own (row_of j).kind k d ≡ Err e → read_value own (row_of k).kind k d ≡ Err e
refused own k j d e same read =
    let P : SettingKey → Type 0 = λ i. read_value own (row_of i).kind k d ≡ Err e in
    subst P (sym same) read

read_so : (own : List (List ℕ)) (k : SettingKey) (d : Data) (new old : Values) (x : Meaning (row_of k).kind) → read_value own (row_of k).kind k d ≡ Ok x → new ≡ with_value k x old → IsOkAnd (read_value own (row_of k).kind k d) (λ y. new ≡ with_value k y old)
read_so own k d new old x read put = rw read put

-- a value that is known at the key which the code has matched
pub taken : (own : List (List ℕ)) (k j : SettingKey) (d : Data) (new old : Values) (x : Meaning (row_of j).kind) → k ≡ j → read_value own (row_of j).kind k d ≡ Ok x → new ≡ with_value j x old → IsOkAnd (read_value own (row_of k).kind k d) (λ y. new ≡ with_value k y old)
taken own k j d new old x same read put =
    let P : SettingKey → Type 0 = λ i. read_value own (row_of j).kind i d ≡ Ok x → IsOkAnd (read_value own (row_of i).kind i d) (λ y. new ≡ with_value i y old) in
    subst P (sym same) (λ r. read_so own j d new old x r put) read

-- a key's value was taken, or refused
abbrev pub TakesValue : SettingKey → Data → Result (Unit {0}) SettingsError → Values → Values → Type 0
TakesValue k d answer old new = record {
  ok : OnOk answer (IsOkAnd (read_value old.own_names (row_of k).kind k d) (λ x. new ≡ with_value k x old));
  refused : IfErr answer (λ e. e ≢ Memory → read_value old.own_names (row_of k).kind k d ≡ Err e);
}

-- what all settings keep: the ranges of numbers, and what is said of sections and of the lists of own ones
abbrev pub Kept : Settings → List (String Global) → List Section → List (List (List ℕ)) → Type 0
Kept s own_names order own_lists = record {
  line_length_in_range : IsWithin LINE_LENGTH s.line_length;
  mode_in_range : IsWithin MODES s.multi_line_output;
  grid_wrap_in_range : IsWithin GRID_WRAP s.force_grid_wrap;
  section_gap_in_range : IsWithin SECTION_GAP s.lines_between_sections;
  type_gap_in_range : IsWithin TYPE_GAP s.lines_between_types;
  end_gap_in_range : IsWithinSigned END_GAP s.lines_after_imports;
  few_own_sections : length own_names ≤ 64;
  list_for_each_own : length own_lists ≡ length own_names;
  each_section_once : StandOnce (length own_names) order;
  entries_in_own_lists : HoldEntries own_lists;
}

-- what they keep with other sections
pub kept_with : (s : Settings) (own_names : List (String Global)) (order : List Section) (own_lists : List (List (List ℕ)))
    → length own_names ≤ 64 → length own_lists ≡ length own_names → StandOnce (length own_names) order → HoldEntries own_lists → Kept s own_names order own_lists
kept_with s own_names order own_lists few for_each once entries = record {
  line_length_in_range = s.line_length_in_range;
  mode_in_range = s.mode_in_range;
  grid_wrap_in_range = s.grid_wrap_in_range;
  section_gap_in_range = s.section_gap_in_range;
  type_gap_in_range = s.type_gap_in_range;
  end_gap_in_range = s.end_gap_in_range;
  few_own_sections = few;
  list_for_each_own = for_each;
  each_section_once = once;
  entries_in_own_lists = entries;
}

pub kept : (s : Settings) → Kept s s.own_names.items (order_of s.sections) s.own_lists
kept s = kept_with s s.own_names.items (order_of s.sections) s.own_lists s.few_own_sections s.list_for_each_own s.each_section_once s.entries_in_own_lists

-- what was put in a field's place is what the key says, or its refusal
abbrev pub Puts : {T : Type 0} → Result T SettingsError → Result (Unit {0}) SettingsError → T → T → Type 0
Puts read answer before now = MatchResult read (λ x. (answer ≡ Ok tt) × (now ≡ x)) (λ e. (answer ≡ Err e) × (now ≡ before))

ok_of : {T : Type 0} (read said : Result T SettingsError) → read ≡ said → IfOk read (λ x. said ≡ Ok x)
ok_of (Ok x) said same = sym same
ok_of (Err e) said same = tt

err_of : {T : Type 0} (read said : Result T SettingsError) → read ≡ said → IfErr read (λ e. said ≡ Err e)
err_of (Ok x) said same = tt
err_of (Err e) said same = sym same

-- a reader's answer was put in the place of the key that the code has matched, where a value of the field is shown so
pub took_shown : {T : Type 0} (k j : SettingKey) (d : Data) (v : Values) (shown : T → Meaning (row_of j).kind) (read : Result T SettingsError)
    (answer : Result (Unit {0}) SettingsError) (before now : T) → k ≡ j
    → IfOk read (λ x. read_value v.own_names (row_of j).kind k d ≡ Ok (shown x)) → IfErr read (λ e. read_value v.own_names (row_of j).kind k d ≡ Err e)
    → Puts read answer before now → TakesValue k d answer v (with_value j (shown now) v)
took_shown k j d v shown (Ok x) answer before now same ok err put =
    rw put.0 (record { ok = taken v.own_names k j d _ v (shown x) same ok (ap (λ y. with_value j (shown y) v) put.1); refused = tt })
took_shown k j d v shown (Err e) answer before now same ok err put =
    rw put.0 (record { ok = tt; refused = λ _. refused v.own_names k j d e same err })

-- the same where the reader answers with the value itself
pub took : (k j : SettingKey) (d : Data) (v : Values) (read : Result (Meaning (row_of j).kind) SettingsError)
    (answer : Result (Unit {0}) SettingsError) (before now : Meaning (row_of j).kind) → k ≡ j → read ≡ read_value v.own_names (row_of j).kind k d
    → Puts read answer before now → TakesValue k d answer v (with_value j now v)
took k j d v read answer before now same said put =
    took_shown k j d v (λ x. x) read answer before now same (ok_of read _ said) (err_of read _ said) put

-- what a list of modules says for a key, if it is one
pub list_ok : (k : SettingKey) (list : Option Modules) (found : Option (List (List ℕ))) → option_map modules_of list ≡ found
    → IfOk (ok_or list (BadValue k)) (λ m. ok_or found (BadValue k) ≡ Ok (modules_of m))
list_ok k None found is = tt
list_ok k (Some m) found is = ap (λ o. ok_or o (BadValue k)) (sym is)

pub list_err : (k : SettingKey) (list : Option Modules) (found : Option (List (List ℕ))) → option_map modules_of list ≡ found
    → IfErr (ok_or list (BadValue k)) (λ e. ok_or found (BadValue k) ≡ Err e)
list_err k None found is = ap (λ o. ok_or o (BadValue k)) (sym is)
list_err k (Some m) found is = tt

-- a key that is true or false, and what taking its value says
abbrev pub IsFlag : SettingKey → Type 0
IsFlag k =
    (k ≡ key.CaseSensitive) ⊎ ((k ≡ key.CombineAsImports) ⊎ ((k ≡ key.EnsureNewlineBeforeComments) ⊎ ((k ≡ key.ForceSingleLine)
    ⊎ ((k ≡ key.ForceSortWithinSections) ⊎ ((k ≡ key.IncludeTrailingComma) ⊎ ((k ≡ key.OrderByType) ⊎ (k ≡ key.UseParentheses)))))))

abbrev pub TakesFlag : SettingKey → Data → Result (Unit {0}) SettingsError → Values → Values → Type 0
TakesFlag k d answer old new = record {
  ok : OnOk answer (IsOkAnd (read_value [] flag k d) (λ on. new ≡ with_flag k on old));
  refused : IfErr answer (λ e. e ≢ Memory → read_value [] flag k d ≡ Err e);
}

-- what holds at the key which the code has matched
abbrev pub at_key : (Q : SettingKey → Type 0) (k j : SettingKey) → k ≡ j → Q j → Q k
at_key Q k j same holds = subst Q (sym same) holds

pub took_flag : (k : SettingKey) (d : Data) (answer : Result (Unit {0}) SettingsError) (old new : Values) → IsFlag k → TakesFlag k d answer old new → TakesValue k d answer old new
took_flag k d answer old new is =
    let Q : SettingKey → Type 0 = λ i. TakesFlag i d answer old new → TakesValue i d answer old new in
    elim is [
      | inl e ↦ at_key Q k key.CaseSensitive e (λ t. t)
      | inr o ↦ elim o [
        | inl e ↦ at_key Q k key.CombineAsImports e (λ t. t)
        | inr o ↦ elim o [
          | inl e ↦ at_key Q k key.EnsureNewlineBeforeComments e (λ t. t)
          | inr o ↦ elim o [
            | inl e ↦ at_key Q k key.ForceSingleLine e (λ t. t)
            | inr o ↦ elim o [
              | inl e ↦ at_key Q k key.ForceSortWithinSections e (λ t. t)
              | inr o ↦ elim o [
                | inl e ↦ at_key Q k key.IncludeTrailingComma e (λ t. t)
                | inr o ↦ elim o [
                  | inl e ↦ at_key Q k key.OrderByType e (λ t. t)
                  | inr e ↦ at_key Q k key.UseParentheses e (λ t. t)
                ]
              ]
            ]
          ]
        ]
      ]
    ]

-- a key that is a list of modules
abbrev pub IsList : SettingKey → Type 0
IsList k =
    (k ≡ key.ExtraStandardLibrary) ⊎ ((k ≡ key.KnownFirstParty) ⊎ ((k ≡ key.KnownFutureLibrary) ⊎ ((k ≡ key.KnownLocalFolder)
    ⊎ ((k ≡ key.KnownStandardLibrary) ⊎ (k ≡ key.KnownThirdParty)))))

pub list_kind : (k : SettingKey) → IsList k → (row_of k).kind ≡ texts
list_kind k is =
    elim is [
      | inl e ↦ rw e
      | inr o ↦ elim o [
        | inl e ↦ rw e
        | inr o ↦ elim o [
          | inl e ↦ rw e
          | inr o ↦ elim o [
            | inl e ↦ rw e
            | inr o ↦ elim o [
              | inl e ↦ rw e
              | inr e ↦ rw e
            ]
          ]
        ]
      ]
    ]

pub is_list : (k : SettingKey) → (row_of k).kind ≡ texts → IsList k
is_list key.Tool kind = cc
is_list key.ToolIsort kind = cc
is_list key.Profile kind = cc
is_list key.CaseSensitive kind = cc
is_list key.CombineAsImports kind = cc
is_list key.DefaultSection kind = cc
is_list key.EnsureNewlineBeforeComments kind = cc
is_list key.ExtraStandardLibrary kind = inl refl
is_list key.ForceGridWrap kind = cc
is_list key.ForceSingleLine kind = cc
is_list key.ForceSortWithinSections kind = cc
is_list key.IncludeTrailingComma kind = cc
is_list key.KnownFirstParty kind = inr (inl refl)
is_list key.KnownFutureLibrary kind = inr (inr (inl refl))
is_list key.KnownLocalFolder kind = inr (inr (inr (inl refl)))
is_list key.KnownStandardLibrary kind = inr (inr (inr (inr (inl refl))))
is_list key.KnownThirdParty kind = inr (inr (inr (inr (inr refl))))
is_list key.LineLength kind = cc
is_list key.LinesAfterImports kind = cc
is_list key.LinesBetweenSections kind = cc
is_list key.LinesBetweenTypes kind = cc
is_list key.MultiLineOutput kind = cc
is_list key.OrderByType kind = cc
is_list key.UseParentheses kind = cc
is_list key.Sections kind = cc
is_list (key.OwnList own) kind = cc

-- the wrap mode, and what taking it says
abbrev pub TakesMode : Data → Result (Unit {0}) SettingsError → Values → Values → Type 0
TakesMode d answer old new = record {
  ok : OnOk answer (IsOkAnd (read_value [] wrap_mode key.MultiLineOutput d) (λ n. new ≡ record old { multi_line_output = n }));
  refused : IfErr answer (λ e. e ≢ Memory → read_value [] wrap_mode key.MultiLineOutput d ≡ Err e);
}

pub took_mode : (k : SettingKey) (d : Data) (answer : Result (Unit {0}) SettingsError) (old new : Values) → k ≡ key.MultiLineOutput → TakesMode d answer old new → TakesValue k d answer old new
took_mode k d answer old new same took = at_key (λ i. TakesValue i d answer old new) k key.MultiLineOutput same took

-- a key that is not
pub other_flag : (k : SettingKey) (x : Bool) (v : Values) → (IsFlag k → ⊥) → with_flag k x v ≡ v
other_flag key.Tool x v other = refl
other_flag key.ToolIsort x v other = refl
other_flag key.Profile x v other = refl
other_flag key.CaseSensitive x v other = absurd (other (inl refl))
other_flag key.CombineAsImports x v other = absurd (other (inr (inl refl)))
other_flag key.DefaultSection x v other = refl
other_flag key.EnsureNewlineBeforeComments x v other = absurd (other (inr (inr (inl refl))))
other_flag key.ExtraStandardLibrary x v other = refl
other_flag key.ForceGridWrap x v other = refl
other_flag key.ForceSingleLine x v other = absurd (other (inr (inr (inr (inl refl)))))
other_flag key.ForceSortWithinSections x v other = absurd (other (inr (inr (inr (inr (inl refl))))))
other_flag key.IncludeTrailingComma x v other = absurd (other (inr (inr (inr (inr (inr (inl refl)))))))
other_flag key.KnownFirstParty x v other = refl
other_flag key.KnownFutureLibrary x v other = refl
other_flag key.KnownLocalFolder x v other = refl
other_flag key.KnownStandardLibrary x v other = refl
other_flag key.KnownThirdParty x v other = refl
other_flag key.LineLength x v other = refl
other_flag key.LinesAfterImports x v other = refl
other_flag key.LinesBetweenSections x v other = refl
other_flag key.LinesBetweenTypes x v other = refl
other_flag key.MultiLineOutput x v other = refl
other_flag key.OrderByType x v other = absurd (other (inr (inr (inr (inr (inr (inr (inl refl))))))))
other_flag key.UseParentheses x v other = absurd (other (inr (inr (inr (inr (inr (inr (inr refl))))))))
other_flag key.Sections x v other = refl
other_flag (key.OwnList own) x v other = refl
