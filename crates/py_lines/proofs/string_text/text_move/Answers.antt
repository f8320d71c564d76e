use Rattle.py_lines.proofs.Prelude.{◌≡◌, ◌∙◌, ℕ, Option, Some, None, List, drop, slice_index, sym, ap, subst, arith, ne_eqb, nat_tests, is_backslash, is_break, BeginsWith}
use Rattle.py_lines.specs.Private.Scan.{IsTextAt, mode_from, quotes_in}
use Rattle.py_lines.proofs.FieldScans.StringTexts.{plain_escapes}
use Rattle.py_lines.proofs.FieldScans.StringBytes.{Comes, breaks_short, closes_short, escapes_come, first_byte_is, grows_other, quotes_come}
use Rattle.py_lines.proofs.string_text.text_move.Goals as goal
use Rattle.py_lines.proofs.string_text.text_move.Goals.{Joined-c-quote-2, then-c-quote-2+in_default, then-c-quote-2+in_default-2, else-c-quote-2+in-Some-eq92, else-c-quote-2+in-Some-3}

pub returns-in-Some-clause-does : goal.returns-in-Some-clause-does
returns-in-Some-clause-does c at = closes_short _ _ _ c.args.bytes.now c.requires.quote c.in-Some.ensures c.if-c-quote.true (rw (← c.if-not-is_long.true) at)

pub returns-in-Some-eq10-clause-does : goal.returns-in-Some-eq10-clause-does
unfolding is_break
returns-in-Some-eq10-clause-does c at =
    breaks_short _ _ _ c.args.bytes.now c.requires.quote c.in-Some.ensures (grind (arith, nat_tests)) (rw (← c.if-not-is_long-2.true) at)

pub returns-in-Some-eq3-clause-does : goal.returns-in-Some-eq3-clause-does
returns-in-Some-eq3-clause-does c at =
    (quotes_come c.args.mode _ _ _ c.args.bytes.now c.requires.quote c.in-Some.ensures c.if-c-quote-2.true (grind arith) at).0
    (sym c.in-Some-eq3.ensures ∙ ap Some c.in-Some-eq3.field-0-test)

come_here : (c : Joined-c-quote-2) → IsTextAt (mode_from c.args.mode) c.args.quote c.args.is_long (slice_index c.args.bytes.now 0)
    → (o : Option ℕ) → c.if-c-quote-2.len ≡ o → Comes c.args.mode c.args.bytes.now o
unfolding is_backslash is_break
come_here c at o told = rw (← told) (elim c.if-c-quote-2.branch [
  | then-c-quote-2+in_default w ↦ quotes w.if-c-quote-2.true (w.len-is ∙ w.in_default.ensures) (λ three. absurd (grind arith))
  | then-c-quote-2+in_default-2 w ↦ quotes w.if-c-quote-2.true (w.len-is ∙ w.quotes_len.ensures) (λ three. absurd (grind arith))
  | else-c-quote-2+in-Some-eq92 w ↦
      let first = first_byte_is bytes 92 (omega arith) (subst (BeginsWith bytes) w.in-Some-eq92.field-0-test c.in-Some.ensures) in
      rw (w.len-is, w.escape_len-len.ensures) (escapes_come c.args.mode _ _ _ bytes at c.requires.quote (ap is_backslash first)
      (plain_escapes _ c.args.quote c.args.is_long (slice_index bytes 1) (drop 2 bytes) (rw (← first) at) c.requires.quote))
  | else-c-quote-2+in-Some-3 w ↦ let size = w.len-is ∙ ap Some w.len_utf8.ensures.value in
      rw size (grows_other c.args.mode _ _ _ bytes c.requires.quote c.in-Some.ensures (ne_eqb _ c.args.quote w.if-c-quote-2.false)
      (grind (arith, nat_tests)) (grind (arith, nat_tests)) at)
]) where
  bytes : List ℕ
  bytes = c.args.bytes.now

  quotes : c.in-Some.c ≡ c.args.quote → c.if-c-quote-2.len ≡ quotes_in bytes → (c.if-c-quote-2.len ≡ Some 3 → ⊥) → Comes c.args.mode bytes c.if-c-quote-2.len
  quotes same is other = subst (Comes c.args.mode bytes) (sym is)
      ((quotes_come c.args.mode _ _ _ bytes c.requires.quote c.in-Some.ensures same (grind arith) at).1 (λ three. other (is ∙ three)))

pub returns-in-Some-len-clause-does : goal.returns-in-Some-len-clause-does
returns-in-Some-len-clause-does c at = come_here (goal.at.returns-in-Some-len-clause-does c).Joined-c-quote-2 at (Some c.in-Some-len.len) c.in-Some-len.is

pub returns-in-None-len-clause-does : goal.returns-in-None-len-clause-does
returns-in-None-len-clause-does c at = come_here (goal.at.returns-in-None-len-clause-does c).Joined-c-quote-2 at None c.in-None-len.is

pub returns-in-None-clause-does : goal.returns-in-None-clause-does
returns-in-None-clause-does c = grind arith
