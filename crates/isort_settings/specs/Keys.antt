-- The table of keys: how each is spelled, what it may hold, its default, and its value under the profile `black`.
use Rattle.std.specs.Prelude.{◌≡◌, codes, ◌||◌, ℕ, ℤ, pos, negsuc, Bool, true, false, List, [], ◌∷◌, bytes_eq}
use Rattle.std.specs.Cmp.Lexicographic.{slice_cmp}
use Rattle.std.specs.List.{list_any}
use Rattle.std.specs.List.Sorted.{IsStrictlySortedBy}
use Rattle.std.specs.Ordering.{nat_cmp}
use Rattle.isort_settings.specs.declared.key.SettingKey.{SettingKey}
use Rattle.isort_settings.specs.declared.key.SettingKey.TheVariants as key
use Rattle.isort_settings.specs.declared.section.Section.{Section}
use Rattle.isort_settings.specs.declared.section.Section.TheVariants.{ThirdParty}
use Rattle.isort_settings.specs.StandardLibrary.{standard_library}

-- what a key may hold: a whole number from the first to the second (not negative, or of either sign), a wrap mode,
-- true or false, the name of a section, a list of texts; or nothing that this table tells: the tables around, the profile
-- (specs/Pyproject), `sections` and the lists of own sections (specs/SectionNames)
pub data Kind : Type 0 where
  count : ℕ → ℕ → Kind
  whole : ℤ → ℤ → Kind
  wrap_mode : Kind
  flag : Kind
  section : Kind
  texts : Kind
  no_field : Kind

-- what a field of each kind holds
abbrev pub Meaning : Kind → Type 0
Meaning (count low high) = ℕ
Meaning (whole low high) = ℤ
Meaning wrap_mode = ℕ
Meaning flag = Bool
Meaning section = Section
Meaning texts = List (List ℕ)
Meaning no_field = Unit {0}

-- a row of the table: the kind, the default, and the value under `black`
pub record KeyRow : Type 0 where
  pub kind : Kind
  pub plain : Meaning kind
  pub black : Meaning kind

abbrev pub row : (kind : Kind) → Meaning kind → Meaning kind → KeyRow
row k p b = record { kind = k; plain = p; black = b }

-- a row on which `black` says nothing
abbrev pub same : (kind : Kind) → Meaning kind → KeyRow
same k p = row k p p

-- the table of keys
abbrev pub row_of : SettingKey → KeyRow
row_of key.LineLength = row (count 1 10000) 79 88
row_of key.MultiLineOutput = row wrap_mode 0 3
row_of key.IncludeTrailingComma = row flag false true
row_of key.ForceGridWrap = row (count 0 10000) 0 0
row_of key.UseParentheses = row flag false true
row_of key.EnsureNewlineBeforeComments = row flag false true
row_of key.ForceSingleLine = same flag false
row_of key.ForceSortWithinSections = same flag false
row_of key.CaseSensitive = same flag false
row_of key.CombineAsImports = same flag false
row_of key.OrderByType = same flag true
row_of key.LinesBetweenSections = same (count 0 100) 1
row_of key.LinesBetweenTypes = same (count 0 100) 0
row_of key.LinesAfterImports = same (whole (negsuc 0) (pos 100)) (negsuc 0)
row_of key.DefaultSection = same section ThirdParty
row_of key.KnownStandardLibrary = same texts standard_library
row_of key.ExtraStandardLibrary = same texts []
row_of key.KnownThirdParty = same texts []
row_of key.KnownFirstParty = same texts []
row_of key.KnownLocalFolder = same texts []
row_of key.KnownFutureLibrary = same texts (codes "__future__" ∷ [])
row_of key.Profile = same no_field tt
row_of key.Sections = same no_field tt
row_of (key.OwnList name) = same no_field tt
row_of key.Tool = same no_field tt
row_of key.ToolIsort = same no_field tt

-- how the table spells a key
abbrev pub name_of : SettingKey → List ℕ
name_of key.Tool = codes "tool"
name_of key.ToolIsort = codes "tool.isort"
name_of key.Profile = codes "profile"
name_of key.CaseSensitive = codes "case_sensitive"
name_of key.CombineAsImports = codes "combine_as_imports"
name_of key.DefaultSection = codes "default_section"
name_of key.EnsureNewlineBeforeComments = codes "ensure_newline_before_comments"
name_of key.ExtraStandardLibrary = codes "extra_standard_library"
name_of key.ForceGridWrap = codes "force_grid_wrap"
name_of key.ForceSingleLine = codes "force_single_line"
name_of key.ForceSortWithinSections = codes "force_sort_within_sections"
name_of key.IncludeTrailingComma = codes "include_trailing_comma"
name_of key.KnownFirstParty = codes "known_first_party"
name_of key.KnownFutureLibrary = codes "known_future_library"
name_of key.KnownLocalFolder = codes "known_local_folder"
name_of key.KnownStandardLibrary = codes "known_standard_library"
name_of key.KnownThirdParty = codes "known_third_party"
name_of key.LineLength = codes "line_length"
name_of key.LinesAfterImports = codes "lines_after_imports"
name_of key.LinesBetweenSections = codes "lines_between_sections"
name_of key.LinesBetweenTypes = codes "lines_between_types"
name_of key.MultiLineOutput = codes "multi_line_output"
name_of key.OrderByType = codes "order_by_type"
name_of key.UseParentheses = codes "use_parentheses"
name_of key.Sections = codes "sections"
name_of (key.OwnList name) = name

-- the keys that are read one by one, by the bytes of their names
unfoldable pub keys_in_order : List SettingKey
keys_in_order =
    key.CaseSensitive ∷ key.CombineAsImports ∷ key.DefaultSection ∷ key.EnsureNewlineBeforeComments
    ∷ key.ExtraStandardLibrary ∷ key.ForceGridWrap ∷ key.ForceSingleLine ∷ key.ForceSortWithinSections
    ∷ key.IncludeTrailingComma ∷ key.KnownFirstParty ∷ key.KnownFutureLibrary ∷ key.KnownLocalFolder
    ∷ key.KnownStandardLibrary ∷ key.KnownThirdParty ∷ key.LineLength ∷ key.LinesAfterImports
    ∷ key.LinesBetweenSections ∷ key.LinesBetweenTypes ∷ key.MultiLineOutput ∷ key.OrderByType
    ∷ key.UseParentheses ∷ []

-- the key of an own section's list
abbrev pub IsOwnList : SettingKey → Type 0
IsOwnList k = (name : List ℕ) × (k ≡ key.OwnList name)

-- a name that is a key whatever own sections there are
unfoldable pub is_known : List ℕ → Bool
is_known name =
    bytes_eq (name_of key.Profile) name || bytes_eq (name_of key.Sections) name || list_any (λ k. bytes_eq (name_of k) name) keys_in_order

-- each text is below those after it, byte by byte
abbrev pub Ascends : List (List ℕ) → Type 0
Ascends names = IsStrictlySortedBy (slice_cmp nat_cmp) names
