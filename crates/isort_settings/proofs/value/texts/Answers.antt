-- Each item of the array is one entry more.
use Rattle.std.proofs.Common.{ap, ◌∙◌, option_and_then}
use Rattle.toml.specs.View.{items_view}
use Rattle.isort_settings.specs.Reading.{entries_of}
use Rattle.isort_settings.proofs.Entries.{one_more_entry, refused_at, all_entries}
use Rattle.isort_settings.proofs.value.texts.Goals as goal

pub loop-item-preserved : goal.loop-item-preserved
loop-item-preserved c = one_more_entry c.deref-item-items.result.now c.loop-item.item-index c.item-item.result c.loop-item.list.items c.push_copy.new.texts.items c.in-Some-entry.text.now c.loop-item-test.true c.item-item.is c.loop-item.invariant c.in-Some-entry.ensures c.in_ok-push_copy.ensures

pub returns-in_default-entry : goal.returns-in_default-entry
returns-in_default-entry c =
    refused_at _ c.loop-item.item-index c.item-item.result c.loop-item.list.items c.loop-item-test.true c.item-item.is c.loop-item.invariant c.in_default-entry.ensures
    ∙ ap (λ vs. entries_of (items_view vs)) c.deref-item-items.ensures.value ∙ ap (option_and_then entries_of) c.in-Some.ensures

pub returns : goal.returns
returns c =
    all_entries _ c.loop-item.item-index c.loop-item.list.items c.loop-item-test.false c.loop-item.invariant
    ∙ ap (λ vs. entries_of (items_view vs)) c.deref-item-items.ensures.value ∙ ap (option_and_then entries_of) c.in-Some.ensures
