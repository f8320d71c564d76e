-- The text is among the entries just where it has a place.
use Rattle.std.proofs.Common.{bytes_eq, map, string_bytes, ◌∙◌, ap}
use Rattle.std.specs.Option.{is_some}
use Rattle.isort_settings.proofs.Places.{some_place}
use Rattle.isort_settings.proofs.modules.is_among.Goals as goal

pub returns : goal.returns
returns c =
    c.is_some.ensures ∙ ap is_some c.place_of.ensures.place
    ∙ some_place (λ entry. bytes_eq entry c.args.text.now) (map string_bytes c.args.entries.now)
