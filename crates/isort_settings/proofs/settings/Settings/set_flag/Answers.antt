-- The key's value alone is another one, and none where the key is no flag.
use Rattle.std.proofs.Common.{inl, inr, sym}
use Rattle.isort_settings.specs.Values.{values}
use Rattle.isort_settings.proofs.Readings.{other_flag, kept}
use Rattle.isort_settings.proofs.settings.Settings.set_flag.Goals as goal

pub returns-in-CaseSensitive : goal.returns-in-CaseSensitive
returns-in-CaseSensitive c = rw c.in-CaseSensitive.is

pub returns-in-CombineAsImports : goal.returns-in-CombineAsImports
returns-in-CombineAsImports c = rw c.in-CombineAsImports.is

pub returns-in-EnsureNewlineBeforeComments : goal.returns-in-EnsureNewlineBeforeComments
returns-in-EnsureNewlineBeforeComments c = rw c.in-EnsureNewlineBeforeComments.is

pub returns-in-ForceSingleLine : goal.returns-in-ForceSingleLine
returns-in-ForceSingleLine c = rw c.in-ForceSingleLine.is

pub returns-in-ForceSortWithinSections : goal.returns-in-ForceSortWithinSections
returns-in-ForceSortWithinSections c = rw c.in-ForceSortWithinSections.is

pub returns-in-IncludeTrailingComma : goal.returns-in-IncludeTrailingComma
returns-in-IncludeTrailingComma c = rw c.in-IncludeTrailingComma.is

pub returns-in-OrderByType : goal.returns-in-OrderByType
returns-in-OrderByType c = rw c.in-OrderByType.is

pub returns-in-UseParentheses : goal.returns-in-UseParentheses
returns-in-UseParentheses c = rw c.in-UseParentheses.is

pub returns-in_default : goal.returns-in_default
returns-in_default c =
    sym (other_flag c.args.key.now c.args.on (values c.args.self.now) (λ is. elim is [
      | inl e ↦ c.in_default.not-CaseSensitive e
      | inr o ↦ elim o [
        | inl e ↦ c.in_default.not-CombineAsImports e
        | inr o ↦ elim o [
          | inl e ↦ c.in_default.not-EnsureNewlineBeforeComments e
          | inr o ↦ elim o [
            | inl e ↦ c.in_default.not-ForceSingleLine e
            | inr o ↦ elim o [
              | inl e ↦ c.in_default.not-ForceSortWithinSections e
              | inr o ↦ elim o [
                | inl e ↦ c.in_default.not-IncludeTrailingComma e
                | inr o ↦ elim o [
                  | inl e ↦ c.in_default.not-OrderByType e
                  | inr e ↦ c.in_default.not-UseParentheses e
                ]
              ]
            ]
          ]
        ]
      ]
    ]))

pub invariant_of-self : goal.invariant_of-self
invariant_of-self c = kept c.args.self.now

pub invariant_of-self-in-CombineAsImports : goal.invariant_of-self-in-CombineAsImports
invariant_of-self-in-CombineAsImports c = kept c.args.self.now

pub invariant_of-self-in-EnsureNewlineBeforeComments : goal.invariant_of-self-in-EnsureNewlineBeforeComments
invariant_of-self-in-EnsureNewlineBeforeComments c = kept c.args.self.now

pub invariant_of-self-in-ForceSingleLine : goal.invariant_of-self-in-ForceSingleLine
invariant_of-self-in-ForceSingleLine c = kept c.args.self.now

pub invariant_of-self-in-ForceSortWithinSections : goal.invariant_of-self-in-ForceSortWithinSections
invariant_of-self-in-ForceSortWithinSections c = kept c.args.self.now

pub invariant_of-self-in-IncludeTrailingComma : goal.invariant_of-self-in-IncludeTrailingComma
invariant_of-self-in-IncludeTrailingComma c = kept c.args.self.now

pub invariant_of-self-in-OrderByType : goal.invariant_of-self-in-OrderByType
invariant_of-self-in-OrderByType c = kept c.args.self.now

pub invariant_of-self-in-UseParentheses : goal.invariant_of-self-in-UseParentheses
invariant_of-self-in-UseParentheses c = kept c.args.self.now
