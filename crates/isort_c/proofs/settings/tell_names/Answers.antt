use Rattle.std.proofs.Common.{List, ℕ, length, ap, ◌∙◌, inl}
use Rattle.isort_c.specs.Answers.{plain_answer, filled}
use Rattle.isort_c.specs.declared.answer.Answer.{Answer}
use Rattle.isort_c.specs.declared.answer.TheConstants.{SAME}
use Rattle.isort_c.proofs.settings.tell_names.Goals as goal

pub returns : goal.returns
returns c =
    let size = c.len.ensures ∙ c.in-Ok.records.ok.0 ∙ ap length c.in-Ok.ensures in
    inl (
      ap (λ (a : Answer). record a { size = c.len.result }) c.plain-answer.ensures ∙ ap (λ (n : ℕ). record (plain_answer SAME) { size = n }) size,
      c.fill.ensures ∙ ap (λ (bytes : List ℕ). filled bytes c.args.out.now) (c.deref.ensures.value ∙ c.in-Ok.ensures),
    )
