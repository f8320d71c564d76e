-- The options and files that the command line takes, as its parser sees them.
use Rattle.std.specs.Prelude.{codes, pos, Some, true, ℕ}
use Rattle.clap.specs.Lexer.{usize_max}
use Rattle.clap.specs.Words.{App, Rule, Text, new_app, new_rule, with_rule}
use Rattle.clap.specs.declared.builder.action.ArgAction.TheVariants.{SetTrue}
use Rattle.clap.specs.declared.builder.value_parser.ValueParser.TheVariants as parser

-- `--name`, which has no value
abbrev pub flag_rule : Text → Rule
flag_rule name = record (new_rule name) { long = Some name; action = Some SetTrue }

-- `--name TEXT`
abbrev pub text_rule : Text → Rule
text_rule name = record (new_rule name) { long = Some name; value_names = 1 }

-- `--name NUMBER`, a whole number from 0 to 2^32 - 1
abbrev pub number_rule : Text → Rule
number_rule name = record (text_rule name) { parser = Some (parser.Signed (pos 0) (pos 4294967295)) }

-- the same option by one letter too
abbrev pub with_letter : ℕ → Rule → Rule
with_letter letter r = record r { short = Some letter }

-- the files, of which there is one at least
abbrev pub files_rule : Rule
files_rule = record (new_rule (codes "FILE")) {
  required = true;
  range = Some (record { start_inclusive = 1; end_inclusive = usize_max });
}

-- the options of a listing
abbrev pub with_listing_rules : App → App
with_listing_rules app = with_rule (with_rule (with_rule (with_rule (with_rule (with_rule app
    (flag_rule (codes "identify")))
    (flag_rule (codes "unique")))
    (flag_rule (codes "packages")))
    (flag_rule (codes "modules")))
    (flag_rule (codes "attributes")))
    (flag_rule (codes "top-only"))

-- the options of sorting; `c` is 99, and `d` 100
abbrev pub with_sorting_rules : App → App
with_sorting_rules app = with_rule (with_rule (with_rule app
    (with_letter 99 (flag_rule (codes "check-only"))))
    (flag_rule (codes "check")))
    (with_letter 100 (flag_rule (codes "stdout")))

-- the options of its settings; `l` is 108, and `m` 109
abbrev pub with_settings_rules : App → App
with_settings_rules app = with_rule (with_rule (with_rule (with_rule app
    (text_rule (codes "settings-file")))
    (text_rule (codes "profile")))
    (with_letter 108 (number_rule (codes "line-length"))))
    (with_letter 109 (number_rule (codes "multi-line")))

-- the whole command line
unfoldable pub isort_app : App
isort_app = with_settings_rules (with_sorting_rules (with_listing_rules (with_rule (new_app (codes "isort")) files_rule)))
