-- What the laws of py_lines and py_imports say, together.
use Rattle.std.specs.Prelude.{◌≡◌, ℕ, Option, Some, List, ◌++◌, take}
use Rattle.py_lines.specs.LogicalLine.{LogicalLine}
use Rattle.py_lines.specs.Lexed.{IsLexed, BeginsLexing}
use Rattle.py_lines.specs.Settled.{IsSettled, Decides}
use Rattle.py_lines.specs.Given.{AreFirstLines}
use Rattle.py_lines.specs.Reader.{Reader, HasGiven}
use Rattle.py_lines.specs.declared.fault.Fault.{Fault}
use Rattle.py_imports.specs.BindingValue.{BindingValue}
use Rattle.py_imports.specs.Binds.{Binds, BindsOrIsBad, IsBadAt}

-- the law of `py_lines::laws::given_lines_begin_the_text`
abbrev pub GivenLinesBegin : Type 0
GivenLinesBegin = (reader : Reader) (lines : List LogicalLine) → HasGiven reader lines → BeginsLexing reader.text lines

-- the laws of `py_lines` and of `py_imports::binds_or_is_bad` that these lemmas stand on
pub record BasicLaws : Type 0 where
  pub one_lexing : (text : List ℕ) (lines others : List LogicalLine) (end other : Option Fault)
      → IsLexed text lines end → IsLexed text others other → lines ≡ others
  pub begins : GivenLinesBegin
  pub one_list : (line : LogicalLine) (values others : List BindingValue) → Binds line values → Binds line others → values ≡ others
  pub not_both : (line : LogicalLine) (values : List BindingValue) (fault : Fault) → Binds line values → ¬ (IsBadAt line fault)

-- the laws that a text has one end and a logical line one fault, beside those of its lines
pub record EndLaws : Type 0 where
  pub laws : BasicLaws
  pub one_end : (text : List ℕ) (lines others : List LogicalLine) (end other : Option Fault)
      → IsLexed text lines end → IsLexed text others other → end ≡ other
  pub one_fault : (line : LogicalLine) (fault other : Fault) → IsBadAt line fault → IsBadAt line other → fault ≡ other

-- the law `some` of `py_imports::binds_or_is_bad`
abbrev pub EachBindsOrIsBad : Type 0
EachBindsOrIsBad = (line : LogicalLine) → BindsOrIsBad line

-- the laws of `py_lines::settled_is_final`, beside those of one lexing
pub record SettledLaws : Type 0 where
  pub ends : EndLaws
  pub each : EachBindsOrIsBad
  pub lines : (text more : List ℕ) (lines : List LogicalLine) → IsSettled text lines → BeginsLexing (text ++ more) lines
  pub fault : (text more : List ℕ) (fault : Fault) (lines : List LogicalLine) (end : Option Fault)
      → Decides text fault → IsLexed (text ++ more) lines end → end ≡ Some fault
  pub all : (text more : List ℕ) (fault : Fault) (lines : List LogicalLine)
      → Decides text fault → IsLexed text lines (Some fault) → IsLexed (text ++ more) lines (Some fault)

-- the law `one` of `py_lines::settled_is_final`
abbrev pub OneSettled : Type 0
OneSettled = (text : List ℕ) (lines others : List LogicalLine) → IsSettled text lines → IsSettled text others → lines ≡ others

-- the laws `within` and `grow` of `py_lines::settled_is_final`
pub record AscentLaws : Type 0 where
  pub within : (text : List ℕ) (place line : ℕ) (lines others : List LogicalLine)
      → AreFirstLines text place line lines → IsSettled (take place text) others → (more : List LogicalLine) × (lines ≡ others ++ more)
  pub grow : (text more : List ℕ) (lines others : List LogicalLine)
      → IsSettled text lines → IsSettled (text ++ more) others → (rest : List LogicalLine) × (others ≡ lines ++ rest)

-- the law `some` of `py_lines::one_lexing`
abbrev pub EachIsLexed : Type 0
EachIsLexed = (text : List ℕ) → (lines : List LogicalLine) × (end : Option Fault) × IsLexed text lines end

-- all of them
pub record KnownLaws : Type 0 where
  pub settled : SettledLaws
  pub each_lexed : EachIsLexed
  pub one_settled : OneSettled
  pub ascent : AscentLaws
