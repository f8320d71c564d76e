-- What a parse of a command line gives.
use Rattle.std.proofs.Common.{◌≡◌, ◌∙◌, true, refl, codes, Result, Ok, Err, IfOk, IfErr, List, [], inl, inr, subst, sym}
use Rattle.clap.specs.Words.{FailsBy, HasKind, IsAmong, Kinds, Row, Text, fault_of, is_simple, is_simple_and_free, kind_of}
use Rattle.clap.specs.declared.error.Error.{Error}
use Rattle.clap.specs.declared.error.kind.ErrorKind.{ErrorKind}
use Rattle.clap.specs.declared.error.kind.ErrorKind.TheVariants.{DisplayHelp, OutOfMemory}
use Rattle.isort_cmd.specs.CommandLine.{IsUsageError}
use Rattle.isort_cmd.specs.Options.{isort_app}
use Rattle.isort_cmd.specs.Private.ParserSteps.{IsNoJob, IsToldAs}
use Rattle.isort_cmd.specs.UsageText.{EndsInLineFeed, usage_text}
use Rattle.isort_cmd.specs.declared.usage.UsageError.{UsageError}
use Rattle.isort_cmd.specs.declared.usage.UsageError.TheVariants as usage

pub is_simple_app : is_simple isort_app ≡ true
unfolding isort_app
is_simple_app = refl

pub is_free_app : is_simple_and_free isort_app ≡ true
unfolding isort_app
is_free_app = refl

-- a parse that succeeds has no kind to fail by
pub fails_ok : {T : Type 0} (kinds : Kinds) (r : Result T Error) → FailsBy kinds r → IfOk r (λ _. kinds ≡ [])
fails_ok kinds (Ok x) h = h
fails_ok kinds (Err e) h = tt

-- one that fails has one of the kinds
pub fails_err : {T : Type 0} (kinds : Kinds) (r : Result T Error) → FailsBy kinds r → IfErr r (HasKind kinds)
fails_err kinds (Ok x) h = tt
fails_err kinds (Err e) h = h

-- an error of the parser is told as what the words give
pub told : (words : List Text) (e : Error) (r : UsageError) → IsToldAs (kind_of e) r → HasKind (fault_of isort_app words) e → IsUsageError words r
told words e (usage.Help text) is kind = elim kind [
  | inl memory ↦ let bad : OutOfMemory ≡ DisplayHelp = sym memory ∙ is in cc
  | inr among ↦ subst (λ (k : ErrorKind). IsAmong k (fault_of isort_app words)) is among
]
told words e (usage.Refused text) is kind = elim kind [
  | inl memory ↦ absurd (is.1 memory)
  | inr among ↦ (kind_of e, among, is.0)
]
told words e usage.Together is kind = absurd is
told words e usage.Memory is kind = tt

-- out of memory is told by a line
pub line_of_no_memory : EndsInLineFeed (usage_text usage.Memory)
line_of_no_memory = (codes "isort: R5 out of memory", refl)

-- and so are the reasons why rows give no job
pub line_of_no_job : (rows : List Row) (e : UsageError) → IsNoJob rows e → EndsInLineFeed (usage_text e)
line_of_no_job rows (usage.Help text) is = absurd is
line_of_no_job rows (usage.Refused text) is = absurd is
line_of_no_job rows usage.Together is = (codes "isort: U1 options do not go together", refl)
line_of_no_job rows usage.Memory is = line_of_no_memory
