-- Each field has its default, and the lists that are made are empty.
use Rattle.std.proofs.Common.{refl, rules}
use Rattle.isort_settings.proofs.settings.Settings.with_sections.Goals as goal

pub returns : goal.returns
returns c = rw (c.new.ensures.items, c.new-2.ensures.items, c.new-3.ensures.items, c.new-4.ensures.items) refl

pub invariant_of-result : goal.invariant_of-result
invariant_of-result c = record {
  line_length_in_range = search rules;
  mode_in_range = search rules;
  grid_wrap_in_range = search rules;
  section_gap_in_range = search rules;
  type_gap_in_range = search rules;
  end_gap_in_range = search rules;
  few_own_sections = c.requires.few;
  list_for_each_own = c.requires.list_for_each;
  each_section_once = c.requires.each_once;
  entries_in_own_lists = c.requires.entries;
}
