use Rattle.py_lines.proofs.Prelude.{◌≡◌, ◌<◌, ◌≤◌, ℕ, true, length, drop, slice_index, Option, None, Some, arith, drop-cons, ne_eqb, nat_tests, get_or_past, is_brace, is_break, is_quote}
use Rattle.py_lines.specs.declared.mode.Mode.TheVariants as opens
use Rattle.py_lines.specs.Private.Scan.{host_in, escape_in}
use Rattle.py_lines.proofs.FieldScans.StringTexts.{HasNoName}
use Rattle.py_lines.proofs.FieldScans.StringBytes.{Comes, breaks_escape, escapes, grows_name, grows_slash, waits_name}
use Rattle.py_lines.proofs.string_text.escape_move.Goals as goal
use Rattle.py_lines.proofs.string_text.escape_move.Goals.{After-escape_len}

pub returns-in-123 : goal.returns-in-123
unfolding is_brace
returns-in-123 c quotes = grows_slash _ _ _ _ c.requires quotes (omega arith) (omega arith) (grind (arith, nat_tests))

pub returns-in-123-2 : goal.returns-in-123-2
unfolding is_brace
returns-in-123-2 c quotes = grows_slash _ _ _ _ c.requires quotes (omega arith) (omega arith) (grind (arith, nat_tests))

pub returns-in-10 : goal.returns-in-10
unfolding is_break is_brace
returns-in-10 c quotes = breaks_escape _ _ _ _ c.requires quotes (grind arith) (grind (arith, nat_tests)) (grind (arith, nat_tests)) (grind arith) (grind arith)

pub returns-in-78 : goal.returns-in-78
returns-in-78 c quotes = grows_name _ _ _ _ c.requires quotes (omega arith) (grind arith) (omega arith) (omega arith)

pub returns-in-78-2 : goal.returns-in-78-2
returns-in-78-2 c quotes = waits_name _ _ _ _ c.requires quotes (omega arith) (omega arith) (grind arith) (omega arith)

come_here : (c : After-escape_len) → is_quote c.args.host.quote ≡ true → (o : Option ℕ) → o ≡ escape_in c.args.bytes.now
    → Comes (opens.Fields c.args.host c.args.region c.args.named) c.args.bytes.now o
unfolding is_break is_brace
come_here c quotes o is = let bytes = c.args.bytes.now in let past : length bytes ≤ 1 → slice_index bytes 1 ≡ 0 = get_or_past bytes 1 0 in
    let no_name : HasNoName (host_in c.args.host) (slice_index bytes 1) (drop 2 bytes) = λ is.
    let some : 2 < length bytes = grind (arith, nat_tests) in
    (slice_index bytes 2, drop 3 bytes, drop-cons bytes 2 0 some, ne_eqb (slice_index bytes 2) 123 (λ same. grind (arith, nat_tests))) in
    escapes c.args.host c.args.region c.args.named bytes c.requires quotes o is (grind (arith, nat_tests))
    (λ breaks same. grind (arith, nat_tests)) no_name

pub returns-in-Some : goal.returns-in-Some
returns-in-Some c quotes = come_here (goal.at.returns-in-Some c).After-escape_len quotes (Some c.in-Some.len) c.in-Some.ensures

pub returns-in-None : goal.returns-in-None
returns-in-None c quotes = come_here (goal.at.returns-in-None c).After-escape_len quotes None c.in-None.ensures
