-- The first character is a letter, and then each one is tested.
use Rattle.std.proofs.Common.{◌≡◌, ◌==◌, ◌||◌, true, slice_index, rules, tests}
use Rattle.std.proofs.lemmas.Iterator.Adapters.{YieldsList-from_bytes}
use Rattle.std.proofs.lemmas.Iterator.Search.{all_from_yields_List}
use Rattle.std.specs.Char.{is_ascii_alphabetic, is_ascii_alphanumeric}
use Rattle.std.specs.List.{list_all}
use Rattle.std.specs.Str.{byte}
use Rattle.isort_settings.proofs.section_names.is_plain_name.Goals as goal

pub returns-in-Some : goal.returns-in-Some
returns-in-Some c =
    let each : c.all.result ≡ list_all (λ b. is_ascii_alphanumeric b || b == byte "_") c.args.name.now =
    all_from_yields_List (λ b. is_ascii_alphanumeric b || b == byte "_") _ _ _ c.all.ensures.ran (YieldsList-from_bytes _ c.bytes.ensures.rest) (λ x b q k. search (rules, tests)) in
    let first : is_ascii_alphabetic (slice_index c.args.name.now 0) ≡ true = search (rules, tests) in
    rw (each, first)
