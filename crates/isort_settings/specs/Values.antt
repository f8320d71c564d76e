-- The values of settings, one for each key that a field keeps.
pub mod OneKey
use Rattle.std.specs.Prelude.{ℕ, ℤ, Bool, List, [], ◌∷◌, map, string_bytes}
use Rattle.isort_settings.specs.declared.key.SettingKey.{SettingKey}
use Rattle.isort_settings.specs.declared.key.SettingKey.TheVariants as key
use Rattle.isort_settings.specs.declared.section.Section.{Section}
use Rattle.isort_settings.specs.declared.settings.Settings.{Settings}
use Rattle.isort_settings.specs.Keys.{Meaning, row_of}
use Rattle.isort_settings.specs.Modules.{modules_of}
use Rattle.isort_settings.specs.FiveSections.{usual_order, order_of}

-- what settings say: a value for each key, the lists as lists of bytes; and the sections in the order in which they are
-- printed, the names of the own ones, and the list of each
pub record Values : Type 0 where
  pub line_length : ℕ
  pub multi_line_output : ℕ
  pub include_trailing_comma : Bool
  pub force_grid_wrap : ℕ
  pub use_parentheses : Bool
  pub ensure_newline_before_comments : Bool
  pub force_single_line : Bool
  pub force_sort_within_sections : Bool
  pub case_sensitive : Bool
  pub combine_as_imports : Bool
  pub order_by_type : Bool
  pub lines_between_sections : ℕ
  pub lines_between_types : ℕ
  pub lines_after_imports : ℤ
  pub default_section : Section
  pub known_standard_library : List (List ℕ)
  pub extra_standard_library : List (List ℕ)
  pub known_third_party : List (List ℕ)
  pub known_first_party : List (List ℕ)
  pub known_local_folder : List (List ℕ)
  pub known_future_library : List (List ℕ)
  pub sections : List Section
  pub own_names : List (List ℕ)
  pub own_lists : List (List (List ℕ))

-- the values of some settings
abbrev pub values : Settings → Values
values s = record {
  line_length = s.line_length;
  multi_line_output = s.multi_line_output;
  include_trailing_comma = s.include_trailing_comma;
  force_grid_wrap = s.force_grid_wrap;
  use_parentheses = s.use_parentheses;
  ensure_newline_before_comments = s.ensure_newline_before_comments;
  force_single_line = s.force_single_line;
  force_sort_within_sections = s.force_sort_within_sections;
  case_sensitive = s.case_sensitive;
  combine_as_imports = s.combine_as_imports;
  order_by_type = s.order_by_type;
  lines_between_sections = s.lines_between_sections;
  lines_between_types = s.lines_between_types;
  lines_after_imports = s.lines_after_imports;
  default_section = s.default_section;
  known_standard_library = modules_of s.known_standard_library;
  extra_standard_library = modules_of s.extra_standard_library;
  known_third_party = modules_of s.known_third_party;
  known_first_party = modules_of s.known_first_party;
  known_local_folder = modules_of s.known_local_folder;
  known_future_library = modules_of s.known_future_library;
  sections = order_of s.sections;
  own_names = map string_bytes s.own_names.items;
  own_lists = s.own_lists;
}

-- the values that a rule gives to the keys, with the five sections alone
abbrev pub values_from : ((k : SettingKey) → Meaning (row_of k).kind) → Values
values_from value = record {
  line_length = value key.LineLength;
  multi_line_output = value key.MultiLineOutput;
  include_trailing_comma = value key.IncludeTrailingComma;
  force_grid_wrap = value key.ForceGridWrap;
  use_parentheses = value key.UseParentheses;
  ensure_newline_before_comments = value key.EnsureNewlineBeforeComments;
  force_single_line = value key.ForceSingleLine;
  force_sort_within_sections = value key.ForceSortWithinSections;
  case_sensitive = value key.CaseSensitive;
  combine_as_imports = value key.CombineAsImports;
  order_by_type = value key.OrderByType;
  lines_between_sections = value key.LinesBetweenSections;
  lines_between_types = value key.LinesBetweenTypes;
  lines_after_imports = value key.LinesAfterImports;
  default_section = value key.DefaultSection;
  known_standard_library = value key.KnownStandardLibrary;
  extra_standard_library = value key.ExtraStandardLibrary;
  known_third_party = value key.KnownThirdParty;
  known_first_party = value key.KnownFirstParty;
  known_local_folder = value key.KnownLocalFolder;
  known_future_library = value key.KnownFutureLibrary;
  sections = usual_order;
  own_names = [];
  own_lists = [];
}

-- each key's default, and each key's value under the profile `black`
abbrev pub plain_values : Values
plain_values = values_from (λ k. (row_of k).plain)

abbrev pub black_values : Values
black_values = values_from (λ k. (row_of k).black)

-- all lists of modules: those of the keys, and those of own sections
abbrev pub all_lists : Values → List (List (List ℕ))
all_lists v =
    v.known_standard_library ∷ v.extra_standard_library ∷ v.known_third_party ∷ v.known_first_party ∷ v.known_local_folder
    ∷ v.known_future_library ∷ v.own_lists
