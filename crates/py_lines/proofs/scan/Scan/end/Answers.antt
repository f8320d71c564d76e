use Rattle.py_lines.proofs.Text.FirstCharacters.{begins_some}
use Rattle.py_lines.proofs.Prelude.{◌≡◌, ◌+◌, ℕ, List, [], ◌++◌, true, false, inl, inr, drop, length, length-drop, take-append-drop, refl, sym, ap, ◌∙◌, subst, append-nil, arith, encode_utf8_all, both_ways, drop_all, take_all, ◌==◌, length-take}
use Rattle.py_lines.specs.Private.FieldMachine.{FieldScanned}
use Rattle.py_lines.specs.Private.Scan.{Follows, Goes, GoesOverAll, has_returned, is_pending}
use Rattle.py_lines.proofs.FieldScans.Ends.{begins_there, ends_returned, no_members, not_returned, pending_run, whole_run}
use Rattle.py_lines.proofs.FieldScans.TextItems.{low_encoded}
use Rattle.py_lines.proofs.scan.Scan.end.Goals as goal
use Rattle.py_lines.proofs.scan.Scan.end.Goals.{Else-characters-bytes, Joined-else-starts_with, else-starts_with-via-then-starts_with+then-not-is_text+else-is_empty, else-starts_with-via-then-starts_with+else-not-is_text, else-starts_with-via-else-starts_with}

pub returns-then-is_empty : goal.returns-then-is_empty
returns-then-is_empty c = λ t follow all.
    inl (ends_returned c.args.self.now t c.args.bytes.now c.pass.new.self follow (sym c.is_text.ensures ∙ c.if-not-is_text.true)
    (no_members c.args.self.now.frames (sym c.is_empty.ensures ∙ c.if-is_empty.true)) (begins_there c.args.bytes.now (sym c.starts_with.ensures.value ∙ c.if-starts_with.true)) c.pass.ensures)

-- the CR of a line end is not all that is left, outside brackets and fields
no_return : (c : Joined-else-starts_with) (t : FieldScanned) → Follows c.args.self.now t → (all : GoesOverAll t c.args.bytes.now) → has_returned all.to ≡ false
no_return c t follow all = not_returned c.args.self.now t c.args.bytes.now follow c.requires.pending all (λ code none returned. elim c.else-starts_with.branch [
  | else-starts_with-via-then-starts_with+then-not-is_text+else-is_empty w ↦ both_ways _ (sym w.is_empty.ensures ∙ w.if-is_empty.false) none
  | else-starts_with-via-then-starts_with+else-not-is_text w ↦ both_ways _ code (sym w.is_text.ensures ∙ w.if-not-is_text.false)
  | else-starts_with-via-else-starts_with w ↦ both_ways _ (sym c.starts_with.ensures.value ∙ w.if-starts_with.false) returned
])

pub returns-then-characters-bytes : goal.returns-then-characters-bytes
returns-then-characters-bytes c = λ t follow all.
    let w = whole_run c.args.bytes.now c.utf8_prefix-characters.result.now all.run all.rest c.utf8_prefix-characters.ensures.prefix c.utf8_prefix-characters.utf8 c.utf8_prefix-characters.ensures.bad all.scalars all.none all.spell in (
      refl,
      no_return (goal.at.returns-then-characters-bytes c).Joined-else-starts_with t follow all,
      inl (omega (arith, ap length w.1, length-drop (length c.utf8_prefix-characters.result.now) c.args.bytes.now, c.if-characters-bytes.true), refl, ap (λ (x : ℕ). c.args.self.now.stop + x) (sym (ap length w.0))),
    )

pub unfinished-requires : goal.unfinished-requires
unfinished-requires c = record {
  pending = λ quote.
      let (x, (scalars, spelled)) = c.utf8_prefix-characters.utf8 in let prefix = c.utf8_prefix-characters.result.now in
      let whole = take_all (length prefix) c.args.bytes.now c.if-characters-bytes.false in
      let run = pending_run c.args.self.now.mode c.args.bytes.now x (drop (length prefix) c.args.bytes.now) quote c.requires.pending scalars c.utf8_prefix-characters.ensures.bad
      (ap (λ p. p ++ drop (length prefix) c.args.bytes.now) (spelled ∙ c.utf8_prefix-characters.ensures.prefix) ∙ take-append-drop (length prefix) c.args.bytes.now) in
      subst (λ (bytes : List ℕ). is_pending c.args.self.now.mode bytes ≡ true) (sym (low_encoded x run.1) ∙ spelled ∙ c.utf8_prefix-characters.ensures.prefix ∙ whole) run.0;
}

-- the bytes are characters, all of which the machine has gone over
record GoesOverThem (c : Else-characters-bytes) (t : FieldScanned) (all : GoesOverAll t c.args.bytes.now) : Type 0 where
  pub rest : all.rest ≡ []
  pub goes : Goes t c.args.bytes.now all.to
  pub length_is : length c.utf8_prefix-characters.result.now ≡ length c.args.bytes.now

goes_over : (c : Else-characters-bytes) (t : FieldScanned) → Follows c.args.self.now t → (all : GoesOverAll t c.args.bytes.now) → GoesOverThem c t all
goes_over c t follow all = let prefix = c.utf8_prefix-characters.result.now in
    let w = whole_run c.args.bytes.now prefix all.run all.rest c.utf8_prefix-characters.ensures.prefix c.utf8_prefix-characters.utf8 c.utf8_prefix-characters.ensures.bad all.scalars all.none all.spell in
    let run = pending_run c.args.self.now.mode c.args.bytes.now all.run all.rest follow.quote c.requires.pending all.scalars all.none all.spell in
    let rest : all.rest ≡ [] = w.1 ∙ drop_all (length prefix) c.args.bytes.now c.if-characters-bytes.false in
    let same : all.run ≡ c.args.bytes.now = sym (low_encoded all.run run.1) ∙ sym (append-nil (encode_utf8_all all.run)) ∙ ap (λ x. encode_utf8_all all.run ++ x) (sym rest) ∙ all.spell in
    record {
      rest = rest;
      goes = subst (λ (x : List ℕ). Goes t x all.to) same all.goes;
      length_is = ap length (c.utf8_prefix-characters.ensures.prefix ∙ take_all (length prefix) c.args.bytes.now c.if-characters-bytes.false);
    }

pub returns-in-Some : goal.returns-in-Some
returns-in-Some c = λ t follow all.
    let g = goes_over (goal.at.returns-in-Some c).Else-characters-bytes t follow all in
    (refl, no_return (goal.at.returns-in-Some c).Joined-else-starts_with t follow all, inr (g.rest, c.in-Some.ensures t all.to follow g.goes))

pub returns : goal.returns
returns c = λ t follow all.
    let g = goes_over (goal.at.returns c).Else-characters-bytes t follow all in
    inr (record {
      size = refl;
      whole = g.rest;
      none = c.in_default.ensures t all.to follow g.goes;
      open_yet = no_return (goal.at.returns c).Joined-else-starts_with t follow all;
      stop = ap (λ (n : ℕ). record c.args.self.now { stop = c.args.self.now.stop + n }) g.length_is;
    })

pub pass-requires : goal.pass-requires
pass-requires c =
    let first = begins_there c.args.bytes.now (sym c.starts_with.ensures.value ∙ c.if-starts_with.true) in
    omega (arith, begins_some (λ c. c == 13) c.args.bytes.now first, c.requires.bytes)

pub overflow_add-result : goal.overflow_add-result
overflow_add-result c = omega (arith, c.if-characters-bytes.true, c.requires.bytes)

pub overflow_add-self : goal.overflow_add-self
overflow_add-self c =
    let prefix = c.utf8_prefix-characters.result.now in
    omega (arith, ap length c.utf8_prefix-characters.ensures.prefix, length-take (length prefix) c.args.bytes.now, c.requires.bytes)
