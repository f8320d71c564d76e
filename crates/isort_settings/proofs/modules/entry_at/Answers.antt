-- The bytes of the entry that is there.
use Rattle.std.proofs.Common.{Some, ap, ◌∙◌, option_map, string_bytes, sym}
use Rattle.isort_settings.proofs.Names.{entry_found}
use Rattle.isort_settings.proofs.modules.entry_at.Goals as goal

pub returns : goal.returns
returns c =
    ap Some c.as_str.ensures.value ∙ sym (ap (option_map (λ e. string_bytes e.now)) c.in_ok-get.was) ∙ entry_found c.args.entries.now c.args.index _ c.get.ensures.lookup
