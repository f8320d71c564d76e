-- Words for the code alone, which no public clause names: settings after one key of the table was read.
use Rattle.std.specs.Prelude.{Bool}
use Rattle.isort_settings.specs.declared.key.SettingKey.{SettingKey}
use Rattle.isort_settings.specs.declared.key.SettingKey.TheVariants as key
use Rattle.isort_settings.specs.Keys.{Meaning, row_of}
use Rattle.isort_settings.specs.Values.{Values}

-- the values with another one for a key
abbrev pub with_value : (k : SettingKey) → Meaning (row_of k).kind → Values → Values
with_value key.LineLength x v = record v { line_length = x }
with_value key.MultiLineOutput x v = record v { multi_line_output = x }
with_value key.IncludeTrailingComma x v = record v { include_trailing_comma = x }
with_value key.ForceGridWrap x v = record v { force_grid_wrap = x }
with_value key.UseParentheses x v = record v { use_parentheses = x }
with_value key.EnsureNewlineBeforeComments x v = record v { ensure_newline_before_comments = x }
with_value key.ForceSingleLine x v = record v { force_single_line = x }
with_value key.ForceSortWithinSections x v = record v { force_sort_within_sections = x }
with_value key.CaseSensitive x v = record v { case_sensitive = x }
with_value key.CombineAsImports x v = record v { combine_as_imports = x }
with_value key.OrderByType x v = record v { order_by_type = x }
with_value key.LinesBetweenSections x v = record v { lines_between_sections = x }
with_value key.LinesBetweenTypes x v = record v { lines_between_types = x }
with_value key.LinesAfterImports x v = record v { lines_after_imports = x }
with_value key.DefaultSection x v = record v { default_section = x }
with_value key.KnownStandardLibrary x v = record v { known_standard_library = x }
with_value key.ExtraStandardLibrary x v = record v { extra_standard_library = x }
with_value key.KnownThirdParty x v = record v { known_third_party = x }
with_value key.KnownFirstParty x v = record v { known_first_party = x }
with_value key.KnownLocalFolder x v = record v { known_local_folder = x }
with_value key.KnownFutureLibrary x v = record v { known_future_library = x }
with_value key.Profile x v = v
with_value key.Tool x v = v
with_value key.ToolIsort x v = v
with_value key.Sections x v = v
with_value (key.OwnList name) x v = v

-- the values with another one for a key that is true or false
abbrev pub with_flag : SettingKey → Bool → Values → Values
with_flag key.IncludeTrailingComma x v = record v { include_trailing_comma = x }
with_flag key.UseParentheses x v = record v { use_parentheses = x }
with_flag key.EnsureNewlineBeforeComments x v = record v { ensure_newline_before_comments = x }
with_flag key.ForceSingleLine x v = record v { force_single_line = x }
with_flag key.ForceSortWithinSections x v = record v { force_sort_within_sections = x }
with_flag key.CaseSensitive x v = record v { case_sensitive = x }
with_flag key.CombineAsImports x v = record v { combine_as_imports = x }
with_flag key.OrderByType x v = record v { order_by_type = x }
with_flag k x v = v
