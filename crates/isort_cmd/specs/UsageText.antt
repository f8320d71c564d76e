-- The text that tells why a command line gives no job.
use Rattle.std.specs.Prelude.{◌≡◌, ◌++◌, ◌∷◌, [], ℕ, List, codes, string_bytes}
use Rattle.isort_cmd.specs.FaultText.{memory_line}
use Rattle.isort_cmd.specs.declared.usage.UsageError.{UsageError}
use Rattle.isort_cmd.specs.declared.usage.UsageError.TheVariants as usage

-- what is printed: the parser's own text, or a line with the program's name
abbrev pub usage_text : UsageError → List ℕ
usage_text (usage.Help text) = string_bytes text
usage_text (usage.Refused text) = string_bytes text
usage_text usage.Together = codes "isort: U1 options do not go together\n"
usage_text usage.Memory = memory_line

-- a text whose last character is a line feed
abbrev pub EndsInLineFeed : List ℕ → Type 0
EndsInLineFeed text = (line : List ℕ) × (text ≡ line ++ (10 ∷ []))
