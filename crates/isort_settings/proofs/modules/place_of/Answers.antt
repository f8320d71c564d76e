-- The place is the first at which the entry is the text.
use Rattle.std.proofs.Common.{bytes_eq, string_bytes, rules, tests, ◌∙◌}
use Rattle.std.proofs.lemmas.Iterator.{YieldsList-from_slice}
use Rattle.std.proofs.lemmas.Iterator.Search.{position_from_yields_List}
use Rattle.isort_settings.proofs.Names.{place-map}
use Rattle.isort_settings.proofs.modules.place_of.Goals as goal

pub returns-clause-place : goal.returns-clause-place
returns-clause-place c =
    position_from_yields_List (λ e. bytes_eq (string_bytes e) c.args.text.now) _ _ _ c.position.ensures.ran (YieldsList-from_slice c.args.entries.now c.iter.ensures.rest) (λ x b q k. search (rules, tests))
    ∙ place-map (λ entry. bytes_eq entry c.args.text.now) c.args.entries.now
