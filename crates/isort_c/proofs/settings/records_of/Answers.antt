use Rattle.std.proofs.Common.{◌++◌, ap, ◌∙◌, string_bytes}
use Rattle.isort_c.specs.Records.{text_record}
use Rattle.isort_c.proofs.RecordLemmas.{names_next}
use Rattle.isort_c.proofs.settings.records_of.Goals as goal

pub loop-name-preserved : goal.loop-name-preserved
loop-name-preserved c =
    let is = ap (λ t. c.loop-name.records.items ++ text_record t) (c.as_str.ensures.value ∙ ap string_bytes c.name-item.is) in
    names_next string_bytes c.args.names.now c.loop-name.name-index c.name-item.result _ _ c.loop-name-test.true c.loop-name.invariant (c.in_ok-push_text.ensures ∙ is)
