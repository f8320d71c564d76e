-- What the options of a command line ask for, by the rows of what its parser found.
use Rattle.std.specs.Prelude.{◌≡◌, ◌&&◌, ◌||◌, ◌^◌, ℕ, Bool, true, false, List, [], ◌∷◌, map, Option, Some, None, option_map, option_and_then, if◌then◌else◌, nat_lt, count_by, codes, find, bytes_eq, unwrap_or, string_bytes, length}
use Rattle.std.specs.List.{list_all, list_any}
use Rattle.std.specs.Char.{digit_value}
use Rattle.std.specs.Str.Parse.{digits_value, without_leading_plus}
use Rattle.clap.specs.Words.{Row, Text, all_of, first_of, one_of}
use Rattle.clap.specs.declared.parser.matches.ValueSource.{ValueSource}
use Rattle.clap.specs.declared.parser.matches.ValueSource.TheVariants.{CommandLine}
use Rattle.isort_find.specs.declared.options.ImportKey.{ImportKey}
use Rattle.isort_find.specs.declared.options.ImportKey.TheVariants.{Package, Module, Attribute, Alias}
use Rattle.isort_cmd.specs.declared.job.Action.{Action}
use Rattle.isort_cmd.specs.declared.job.Action.TheVariants.{Identify, Sort}
use Rattle.isort_cmd.specs.declared.job.Job.{Job}

-- the words gave it, and no default
abbrev pub is_by_words : Option ValueSource → Bool
is_by_words (Some CommandLine) = true
is_by_words _ = false

-- the words gave this option
abbrev pub was_given : Text → List Row → Bool
was_given name rows = is_by_words (option_and_then (λ r. r.source) (find (λ r. bytes_eq r.id name) rows))

-- the options that name a key, and their keys
abbrev pub key_options : List (Text × ImportKey)
key_options = (codes "unique", Alias) ∷ (codes "packages", Package) ∷ (codes "modules", Module) ∷ (codes "attributes", Attribute) ∷ []

-- the options that go with sorting alone
abbrev pub sort_options : List Text
sort_options =
    codes "check-only" ∷ codes "check" ∷ codes "stdout" ∷ codes "settings-file" ∷ codes "profile" ∷ codes "line-length" ∷
    codes "multi-line" ∷ []

-- how many options that name a key were given
abbrev pub key_count : List Row → ℕ
key_count rows = count_by (λ option. was_given option.0 rows) key_options

-- an option was given that goes with sorting alone
abbrev pub wants_sorting : List Row → Bool
wants_sorting rows = list_any (λ name. was_given name rows) sort_options

-- Options were given that don't go together: with a listing, one of sorting or two keys; without one, a key or
-- `--top-only`.
abbrev pub is_forbidden : List Row → Bool
is_forbidden rows = if was_given (codes "identify") rows then wants_sorting rows || nat_lt 1 (key_count rows)
    else was_given (codes "top-only") rows || nat_lt 0 (key_count rows)

-- the key of the option that names one
abbrev pub key_option : List Row → Option ImportKey
key_option rows = option_map (λ option. option.1) (find (λ option. was_given option.0 rows) key_options)

-- the number below 2^32 that a text writes, in decimal digits, after a `+` or not
abbrev pub number_in : Text → Option ℕ
number_in text =
    let digits = without_leading_plus text in
    if nat_lt 0 (length digits) && list_all (λ d. nat_lt (digit_value d) 10) digits && nat_lt (digits_value 10 digits) (2 ^ 32)
    then Some (digits_value 10 digits) else None

-- the number that an option was given
abbrev pub option_number : Text → List Row → Option ℕ
option_number name rows = option_and_then number_in (one_of name rows)

-- the action that the options ask for
abbrev pub IsAction : List Row → Action → Type 0
IsAction rows (Identify options) = (was_given (codes "identify") rows ≡ true)
    × (options ≡ record { unique = key_option rows; top_only = was_given (codes "top-only") rows })
IsAction rows (Sort check to_stdout settings_file profile line_length multi_line) =
    (was_given (codes "identify") rows ≡ false)
    × (check ≡ (was_given (codes "check-only") rows || was_given (codes "check") rows))
    × (to_stdout ≡ was_given (codes "stdout") rows)
    × (option_map string_bytes settings_file ≡ first_of (codes "settings-file") rows)
    × (option_map string_bytes profile ≡ first_of (codes "profile") rows)
    × (line_length ≡ option_number (codes "line-length") rows)
    × (multi_line ≡ option_number (codes "multi-line") rows)

-- the job that the options and files ask for
pub record IsJob (rows : List Row) (job : Job) : Type 0 where
  pub together : is_forbidden rows ≡ false
  pub files : map string_bytes job.files.items ≡ unwrap_or (all_of (codes "FILE") rows) []
  pub action : IsAction rows job.action
