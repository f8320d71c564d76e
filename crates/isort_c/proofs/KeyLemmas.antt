-- Each key except the lists of own sections stands at its number, and at no other number stands a key.
use Rattle.std.proofs.Common.{◌≡◌, ◌≢◌, ℕ, ◌<◌, None, zero, suc, refl, sym}
use Rattle.std.proofs.lemmas.Option.{slice_get_past}
use native.Mathlib.Omega.{arith}
use Rattle.isort_settings.specs.declared.key.SettingKey.{SettingKey}
use Rattle.isort_settings.specs.declared.key.SettingKey.TheVariants as key
use Rattle.isort_c.specs.KeyNumbers.{keys, key_at, IsAtItsNumber}

pub at_its_number : (k : SettingKey) → IsAtItsNumber k
unfolding keys
at_its_number key.Tool = refl
at_its_number key.ToolIsort = refl
at_its_number key.Profile = refl
at_its_number key.CaseSensitive = refl
at_its_number key.CombineAsImports = refl
at_its_number key.DefaultSection = refl
at_its_number key.EnsureNewlineBeforeComments = refl
at_its_number key.ExtraStandardLibrary = refl
at_its_number key.ForceGridWrap = refl
at_its_number key.ForceSingleLine = refl
at_its_number key.ForceSortWithinSections = refl
at_its_number key.IncludeTrailingComma = refl
at_its_number key.KnownFirstParty = refl
at_its_number key.KnownFutureLibrary = refl
at_its_number key.KnownLocalFolder = refl
at_its_number key.KnownStandardLibrary = refl
at_its_number key.KnownThirdParty = refl
at_its_number key.LineLength = refl
at_its_number key.LinesAfterImports = refl
at_its_number key.LinesBetweenSections = refl
at_its_number key.LinesBetweenTypes = refl
at_its_number key.MultiLineOutput = refl
at_its_number key.OrderByType = refl
at_its_number key.UseParentheses = refl
at_its_number key.Sections = refl
at_its_number (key.OwnList name) = refl

pub no_key : (n : ℕ) → (n ≢ 0 → 25 < n) → None ≡ key_at n
unfolding keys
no_key zero h = refl
no_key (suc n) h = let above : 25 < suc n = h (λ same. cc) in sym (slice_get_past keys n (omega arith))
