use Rattle.std.proofs.Common.{List, ℕ, length, ap, ◌∙◌}
use Rattle.isort_settings.specs.FiveSections.{section_number}
use Rattle.isort_settings.specs.Sections.{section_in, section_name}
use Rattle.isort_settings.specs.Values.{values}
use Rattle.isort_c.specs.Answers.{plain_answer, filled}
use Rattle.isort_c.specs.declared.answer.Answer.{Answer}
use Rattle.isort_c.specs.declared.answer.TheConstants.{SAME}
use Rattle.isort_c.proofs.place.tell_section.Goals as goal

pub returns : goal.returns
returns c =
    let v = values c.args.settings.now in
    let section = section_in v c.args.module_name.now in
    let number = c.number.ensures ∙ ap section_number c.section_of-section.ensures in
    let name = c.as_bytes-name.ensures.value ∙ c.section_name.ensures ∙ ap (section_name v) c.section_of-section.ensures in (
      ap (λ (a : Answer). record a { section = c.number.result; size = length c.as_bytes-name.result.now }) c.plain-answer.ensures
          ∙ ap (λ (n : ℕ). record (plain_answer SAME) { section = n; size = length c.as_bytes-name.result.now }) number
          ∙ ap (λ (bytes : List ℕ). record (plain_answer SAME) { section = section_number section; size = length bytes }) name,
      c.fill.ensures ∙ ap (λ (bytes : List ℕ). filled bytes c.args.out.now) name,
    )
