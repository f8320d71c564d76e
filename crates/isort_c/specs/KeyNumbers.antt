-- The keys of the settings, by numbers.
use Rattle.std.specs.Prelude.{◌≡◌, ℕ, zero, suc, List, [], ◌∷◌, length, slice_get, Option, None, Some}
use Rattle.isort_settings.specs.Keys.{name_of}
use Rattle.isort_settings.specs.declared.key.SettingKey.{SettingKey}
use Rattle.isort_settings.specs.declared.key.SettingKey.TheVariants as key
use Rattle.isort_c.specs.Answers.{filled}
use Rattle.isort_c.specs.declared.key.TheConstants.{OWN_LIST}

-- the two tables, `profile`, keys by the bytes of their names, and those that came later; not the lists of own sections
unfoldable pub keys : List SettingKey
keys =
    key.Tool ∷ key.ToolIsort ∷ key.Profile ∷ key.CaseSensitive ∷ key.CombineAsImports ∷ key.DefaultSection
    ∷ key.EnsureNewlineBeforeComments ∷ key.ExtraStandardLibrary ∷ key.ForceGridWrap ∷ key.ForceSingleLine
    ∷ key.ForceSortWithinSections ∷ key.IncludeTrailingComma ∷ key.KnownFirstParty ∷ key.KnownFutureLibrary
    ∷ key.KnownLocalFolder ∷ key.KnownStandardLibrary ∷ key.KnownThirdParty ∷ key.LineLength
    ∷ key.LinesAfterImports ∷ key.LinesBetweenSections ∷ key.LinesBetweenTypes ∷ key.MultiLineOutput
    ∷ key.OrderByType ∷ key.UseParentheses ∷ key.Sections ∷ []

-- the key with this number: the first has 1
abbrev pub key_at : ℕ → Option SettingKey
key_at zero = None
key_at (suc n) = slice_get keys n

-- the number of a key; the lists of own sections share one
abbrev pub key_number : SettingKey → ℕ
key_number key.Tool = 1
key_number key.ToolIsort = 2
key_number key.Profile = 3
key_number key.CaseSensitive = 4
key_number key.CombineAsImports = 5
key_number key.DefaultSection = 6
key_number key.EnsureNewlineBeforeComments = 7
key_number key.ExtraStandardLibrary = 8
key_number key.ForceGridWrap = 9
key_number key.ForceSingleLine = 10
key_number key.ForceSortWithinSections = 11
key_number key.IncludeTrailingComma = 12
key_number key.KnownFirstParty = 13
key_number key.KnownFutureLibrary = 14
key_number key.KnownLocalFolder = 15
key_number key.KnownStandardLibrary = 16
key_number key.KnownThirdParty = 17
key_number key.LineLength = 18
key_number key.LinesAfterImports = 19
key_number key.LinesBetweenSections = 20
key_number key.LinesBetweenTypes = 21
key_number key.MultiLineOutput = 22
key_number key.OrderByType = 23
key_number key.UseParentheses = 24
key_number key.Sections = 25
key_number (key.OwnList name) = OWN_LIST

-- the key stands at its number, unless it is the list of an own section: at that number stands none
abbrev pub IsAtItsNumber : SettingKey → Type 0
IsAtItsNumber (key.OwnList name) = key_at OWN_LIST ≡ None
IsAtItsNumber k = key_at (key_number k) ≡ Some k

-- a key's name in the buffer, and its length; nothing where there is no key
abbrev pub NamesKey : Option SettingKey → ℕ → List ℕ → List ℕ → Type 0
NamesKey (Some k) size old new = (size ≡ length (name_of k)) × (new ≡ filled (name_of k) old)
NamesKey None size old new = (size ≡ 0) × (new ≡ old)
