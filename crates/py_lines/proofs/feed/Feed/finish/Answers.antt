use Rattle.py_lines.proofs.Prelude.{◌≢◌, Err, Some, List, ℕ, sym, ap, ◌∙◌, subst, arith, vec_len, eqb-false, err_from_is_err_and, LineState}
use Rattle.py_lines.specs.Private.Feed.{StandsSo}
use Rattle.py_lines.specs.Private.LineState.{HasNextLine, ScansLine}
use Rattle.py_lines.proofs.Feeds.EndedHeld.{HasEndedText, ends_known, finish_errs, finish_read, finish_short, last_line, same_room, text_empty}
use Rattle.py_lines.proofs.Feeds.OpenLine.{none_held}
use Rattle.py_lines.proofs.feed.Feed.finish.Goals.{Joined-not-is_empty, then-not-is_empty+in_ok-end_len, else-not-is_empty}
use Rattle.py_lines.proofs.feed.Feed.finish.Goals as goal

pub returns-in-Some-clause-finishes : goal.returns-in-Some-clause-finishes
returns-in-Some-clause-finishes c = ends_known _ c.in-Some.is

pub scan_line-requires : goal.scan_line-requires
scan_line-requires c = let sound = c.requires.sound in record {
  some = omega (arith, eqb-false (vec_len c.args.self.now.held) 0 (sym c.is_empty.ensures ∙ c.if-not-is_empty.true), c.deref.ensures.len);
  places = omega (arith, sound.room.fits, c.deref.ensures.len);
  lines = omega (arith, sound.room.fits, sound.room.few_lines, c.deref.ensures.len);
}

pub returns-in_err-end_len : goal.returns-in_err-end_len
returns-in_err-end_len c =
    let f = c.args.self.now in
    let (error, is, same) = err_from_is_err_and c.from_residual.result c.from_residual.ensures.1 in
    let (faults, sound) = finish_errs c.in_err-end_len.field-0.0 c.requires.sound c.in_default.is c.requires.not_ready
    (subst (λ (t : List ℕ). ScansLine f.state t (Err c.in_err-end_len.field-0.0) c.scan_line.new.self) c.deref.ensures.value c.in_err-end_len.ensures) in
    record { finishes = rw (is, same) faults; sound = sound }

-- the text ends with what is held
ended : (c : Joined-not-is_empty) → HasEndedText c.args.self.now c.if-not-is_empty.self
ended c =
    let f = c.args.self.now in
    elim c.if-not-is_empty.branch [
      | then-not-is_empty+in_ok-end_len w ↦
          let state = w.scan_line.new.self in
          let (same, is) = w.in_ok-end_len.ensures in
          let other : vec_len f.held ≢ 0 = eqb-false (vec_len f.held) 0 (sym c.is_empty.ensures ∙ w.if-not-is_empty.true) in
          subst (HasEndedText f) (ap (λ (t : LineState). record f { state = t; ready = Some w.in_ok-end_len.end_len }) (sym same) ∙ sym w.self-is)
          (last_line f c.requires.not_ready (omega (arith, other)) state.scan (subst (λ (t : List ℕ). HasNextLine f.state.place f.state.line t state.scan.stop w.in_ok-end_len.end_len) w.deref.ensures.value is))
      | else-not-is_empty w ↦ subst (HasEndedText f) (sym w.self-is)
          (text_empty c.requires.not_ready (subst (StandsSo f) c.requires.not_ready c.requires.sound.state c.in_default.is) (none_held f.held c.is_empty.ensures w.if-not-is_empty.false))
    ]

pub read_tokens-requires-clause-holds : goal.read_tokens-requires-clause-holds
read_tokens-requires-clause-holds c = let e = ended (goal.at.read_tokens-requires-clause-holds c).Joined-not-is_empty in (e.line, e.holds)

pub read_tokens-requires-clause-no_fault : goal.read_tokens-requires-clause-no_fault
read_tokens-requires-clause-no_fault c = (ended (goal.at.read_tokens-requires-clause-no_fault c).Joined-not-is_empty).text.fault ∙ c.in_default.is

pub read_tokens-requires-clause-room : goal.read_tokens-requires-clause-room
read_tokens-requires-clause-room c = same_room c.requires.sound (ended (goal.at.read_tokens-requires-clause-room c).Joined-not-is_empty).text

pub returns : goal.returns
returns c =
    let (ends, sound) = finish_read c.requires.sound c.in_default.is (ended (goal.at.returns c).Joined-not-is_empty) c.in_ok-read_tokens.ensures in
    record { finishes = ends; sound = sound }

pub returns-in_err-read_tokens : goal.returns-in_err-read_tokens
returns-in_err-read_tokens c =
    let (error, is, same) = err_from_is_err_and c.from_residual-in_err-read_tokens.result c.from_residual-in_err-read_tokens.ensures.1 in
    let (short, sound) = finish_short c.requires.sound c.in_default.is (ended (goal.at.returns-in_err-read_tokens c).Joined-not-is_empty) c.requires.not_ready _ c.in_err-read_tokens.ensures in
    record { finishes = rw (is, same) short; sound = sound }
