-- In each arm the value was read as the key's kind says, and put in the key's place.
use Rattle.std.proofs.Common.{refl, inl, inr, ap, ok_or}
use Rattle.isort_settings.specs.declared.error.SettingsError.TheVariants.{BadValue}
use Rattle.isort_settings.specs.declared.key.SettingKey.TheVariants as key
use Rattle.isort_settings.proofs.Readings.{list_kind, taken, took, took_flag, took_mode, kept}
use Rattle.isort_settings.proofs.settings.Settings.take_value.Goals as goal

pub returns-in-CaseSensitive : goal.returns-in-CaseSensitive
returns-in-CaseSensitive c = took_flag _ _ _ _ _ c.in-CaseSensitive.is c.take_flag.ensures

pub returns-in-ExtraStandardLibrary : goal.returns-in-ExtraStandardLibrary
returns-in-ExtraStandardLibrary c = c.take_modules.ensures

pub take_modules-requires : goal.take_modules-requires
take_modules-requires c = list_kind _ c.in-ExtraStandardLibrary.is

pub returns-in-MultiLineOutput : goal.returns-in-MultiLineOutput
returns-in-MultiLineOutput c = took_mode _ _ _ _ _ c.in-MultiLineOutput.is c.take_mode.ensures

pub returns-in-DefaultSection : goal.returns-in-DefaultSection
returns-in-DefaultSection c = took _ key.DefaultSection _ _ _ _ _ _ c.in-DefaultSection.is (ap (λ o. ok_or o (BadValue c.args.key)) (rw c.as_slice-own_names.ensures.value at c.read_section.ensures)) c.put.ensures

pub returns-in-ForceGridWrap : goal.returns-in-ForceGridWrap
returns-in-ForceGridWrap c = took _ key.ForceGridWrap _ _ _ _ _ _ c.in-ForceGridWrap.is (ap (λ o. ok_or o (BadValue c.args.key)) c.read_count.ensures) c.put-in-ForceGridWrap.ensures

pub returns-in-LineLength : goal.returns-in-LineLength
returns-in-LineLength c = took _ key.LineLength _ _ _ _ _ _ c.in-LineLength.is (ap (λ o. ok_or o (BadValue c.args.key)) c.read_count-in-LineLength.ensures) c.put-in-LineLength.ensures

pub returns-in-LinesAfterImports : goal.returns-in-LinesAfterImports
returns-in-LinesAfterImports c = took _ key.LinesAfterImports _ _ _ _ _ _ c.in-LinesAfterImports.is (ap (λ o. ok_or o (BadValue c.args.key)) c.read_whole.ensures) c.put-in-LinesAfterImports.ensures

pub returns-in-LinesBetweenSections : goal.returns-in-LinesBetweenSections
returns-in-LinesBetweenSections c = took _ key.LinesBetweenSections _ _ _ _ _ _ c.in-LinesBetweenSections.is (ap (λ o. ok_or o (BadValue c.args.key)) c.read_count-in-LinesBetweenSections.ensures) c.put-in-LinesBetweenSections.ensures

pub returns-in-LinesBetweenTypes : goal.returns-in-LinesBetweenTypes
returns-in-LinesBetweenTypes c = took _ key.LinesBetweenTypes _ _ _ _ _ _ c.in-LinesBetweenTypes.is (ap (λ o. ok_or o (BadValue c.args.key)) c.read_count-in-LinesBetweenTypes.ensures) c.put-in-LinesBetweenTypes.ensures

pub returns-in-Tool : goal.returns-in-Tool
returns-in-Tool c =
    elim c.in-Tool.is [
      | inl tool ↦ record { ok = taken _ _ key.Tool _ _ _ tt tool refl refl; refused = tt }
      | inr other ↦ elim other [
        | inl isort ↦ record { ok = taken _ _ key.ToolIsort _ _ _ tt isort refl refl; refused = tt }
        | inr more ↦ elim more [
          | inl profile ↦ record { ok = taken _ _ key.Profile _ _ _ tt profile refl refl; refused = tt }
          | inr others ↦ elim others [
            | inl sections ↦ record { ok = taken _ _ key.Sections _ _ _ tt sections refl refl; refused = tt }
            | inr own ↦ record { ok = taken _ _ (key.OwnList own.0) _ _ _ tt own.1 refl refl; refused = tt }
          ]
        ]
      ]
    ]

-- where no number was changed, the numbers are still in their ranges
pub invariant_of-self : goal.invariant_of-self
invariant_of-self c = kept c.args.self.now

pub invariant_of-self-in-ForceGridWrap-clause-few_own_sections : goal.invariant_of-self-in-ForceGridWrap-clause-few_own_sections
invariant_of-self-in-ForceGridWrap-clause-few_own_sections c = c.args.self.now.few_own_sections

pub invariant_of-self-in-ForceGridWrap-clause-list_for_each_own : goal.invariant_of-self-in-ForceGridWrap-clause-list_for_each_own
invariant_of-self-in-ForceGridWrap-clause-list_for_each_own c = c.args.self.now.list_for_each_own

pub invariant_of-self-in-LineLength-clause-few_own_sections : goal.invariant_of-self-in-LineLength-clause-few_own_sections
invariant_of-self-in-LineLength-clause-few_own_sections c = c.args.self.now.few_own_sections

pub invariant_of-self-in-LineLength-clause-list_for_each_own : goal.invariant_of-self-in-LineLength-clause-list_for_each_own
invariant_of-self-in-LineLength-clause-list_for_each_own c = c.args.self.now.list_for_each_own

pub invariant_of-self-in-LinesAfterImports-clause-few_own_sections : goal.invariant_of-self-in-LinesAfterImports-clause-few_own_sections
invariant_of-self-in-LinesAfterImports-clause-few_own_sections c = c.args.self.now.few_own_sections

pub invariant_of-self-in-LinesAfterImports-clause-list_for_each_own : goal.invariant_of-self-in-LinesAfterImports-clause-list_for_each_own
invariant_of-self-in-LinesAfterImports-clause-list_for_each_own c = c.args.self.now.list_for_each_own

pub invariant_of-self-in-LinesBetweenSections-clause-few_own_sections : goal.invariant_of-self-in-LinesBetweenSections-clause-few_own_sections
invariant_of-self-in-LinesBetweenSections-clause-few_own_sections c = c.args.self.now.few_own_sections

pub invariant_of-self-in-LinesBetweenSections-clause-list_for_each_own : goal.invariant_of-self-in-LinesBetweenSections-clause-list_for_each_own
invariant_of-self-in-LinesBetweenSections-clause-list_for_each_own c = c.args.self.now.list_for_each_own

pub invariant_of-self-in-LinesBetweenTypes-clause-few_own_sections : goal.invariant_of-self-in-LinesBetweenTypes-clause-few_own_sections
invariant_of-self-in-LinesBetweenTypes-clause-few_own_sections c = c.args.self.now.few_own_sections

pub invariant_of-self-in-LinesBetweenTypes-clause-list_for_each_own : goal.invariant_of-self-in-LinesBetweenTypes-clause-list_for_each_own
invariant_of-self-in-LinesBetweenTypes-clause-list_for_each_own c = c.args.self.now.list_for_each_own
