-- The next import was listed, or none is ready.
use Rattle.std.proofs.Common.{◌∙◌, ap, Ok, string_bytes, refl}
use Rattle.std.proofs.lemmas.Result.{err_from_is_err_and}
use Rattle.py_imports.specs.BindingValue.{binding_value}
use Rattle.isort_cmd.proofs.ListingLemmas.{gave_one, gave_none, gave_error}
use Rattle.isort_cmd.proofs.StageLemmas.{lists_one, lists_none, stops_at_find, stops_at_memory, stops_at_write, tells_line, tells_none}
use Rattle.isort_cmd.proofs.listing.Listing.list_next.Goals as goal

pub returns-in_err-binding : goal.returns-in_err-binding
returns-in_err-binding g c =
    let p = err_from_is_err_and c.from_residual.result c.from_residual.ensures.1 in
    let gives = gave_error _ c.next_ready.result c.in_err-binding.field-0.0 c.next_ready.new.self c.next_ready.ensures.next c.in_err-binding.was in
    rw (p.1, p.2) (record { lists = stops_at_find c.given_begin_the_found.ensures.stopped _ c.in_err-binding.field-0.0 c.next_ready.new.self c.requires gives; some = tt })

pub returns-in_default : goal.returns-in_default
returns-in_default g c =
    let gives = gave_none _ c.next_ready.result c.next_ready.new.self c.next_ready.ensures.next (c.in_ok-binding.was ∙ ap Ok c.in_default.is) in
    record { lists = lists_none _ c.next_ready.new.self c.requires gives; some = tells_none _ }

pub returns-in_err-made : goal.returns-in_err-made
returns-in_err-made g c =
    let p = err_from_is_err_and c.from_residual-in_err-made.result c.from_residual-in_err-made.ensures.1 in
    let memory = rw c.in_err-made.was at c.push_line-made.ensures.err in
    rw (p.1, p.2, memory) (record { lists = stops_at_memory c.given_begin_the_found.ensures.stopped _ c.next_ready.new.self c.requires; some = tt })

pub returns-in_err-write_whole : goal.returns-in_err-write_whole
returns-in_err-write_whole g c =
    let p = err_from_is_err_and c.from_residual-in_err-write_whole.result c.from_residual-in_err-write_whole.ensures.1 in
    let put = rw (c.in_ok-made.was, c.clear.ensures.bytes) at c.push_line-made.ensures.ok in
    let wrote = rw c.as_bytes.ensures.value at c.in_err-write_whole.ensures.prefix in
    let gives = gave_one _ c.next_ready.result c.in-Some.binding c.next_ready.new.self c.next_ready.ensures.next (c.in_ok-binding.was ∙ ap Ok c.in-Some.is) in
    rw (p.1, p.2, c.in_err-write_whole.ensures.err) (record { lists = stops_at_write c.given_begin_the_found.ensures.stopped _ _ (binding_value c.in-Some.binding) (string_bytes c.push_line-made.new.out) c.in_err-write_whole.ensures.stopped gives put wrote; some = tt })

pub returns : goal.returns
returns g c =
    let put = rw (c.in_ok-made.was, c.clear.ensures.bytes) at c.push_line-made.ensures.ok in
    let wrote = rw c.as_bytes.ensures.value at c.in_ok-write_whole.ensures.ok in
    let gives = gave_one _ c.next_ready.result c.in-Some.binding c.next_ready.new.self c.next_ready.ensures.next (c.in_ok-binding.was ∙ ap Ok c.in-Some.is) in
    record {
      lists = lists_one _ _ (binding_value c.in-Some.binding) (string_bytes c.push_line-made.new.out) refl c.in_ok-write_whole.ensures.fine gives put wrote;
      some = tells_line _ (binding_value c.in-Some.binding) (string_bytes c.push_line-made.new.out) _ _ put wrote;
    }
