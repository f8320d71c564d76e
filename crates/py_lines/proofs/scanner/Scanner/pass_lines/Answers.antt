use Rattle.py_lines.proofs.Prelude.{◌≡◌, ℕ, rules, take, length-take, arith, sym, subst, ap, ◌∙◌, length-take-le, line_ends}
use Rattle.py_lines.specs.ScannerState.{PassesPieceLines, ScannerState, StandsAtLine}
use Rattle.py_lines.specs.Private.LineState.{BeginsAnew}
use Rattle.py_lines.specs.Private.Feed.{Feed, IsSoundFeed, LineState, StandsBefore, scanning_of}
use Rattle.py_lines.proofs.Feeds.PassedLines.{begun_none, end_within, none_found, passed}
use Rattle.py_lines.proofs.Feeds.LastBytes.{ends_with_return, one_most}
use Rattle.py_lines.proofs.LineScan.LineCount.{few_first}
use Rattle.py_lines.proofs.Text.LineEnds.{line_ends-encoded}
use Rattle.py_lines.proofs.scanner.Scanner.pass_lines.Goals as goal

pub slice_bounds-extend_from_slice-end : goal.slice_bounds-extend_from_slice-end
slice_bounds-extend_from_slice-end c =
    let returns = c.ends_with.ensures.value ∙ ends_with_return (take c.pass_lines-len.result.0 (take c.min.result c.args.bytes.now)) in
    omega (arith, end_within _ _ c.pass_lines-len.ensures.lines c.ends_with.result returns)

pub overflow_add-line : goal.overflow_add-line
overflow_add-line c =
    let clear = take c.min.result c.args.bytes.now in
    let few = few_first clear c.pass_lines-len.result.0 in let size = length-take c.min.result c.args.bytes.now in
    let within = c.pass_lines-len.ensures.lines.within in let place = ap (λ (s : ScannerState). s.place) c.self.view_is in
    omega (arith, c.pass_lines-len.ensures.ends, few, within, size, c.self.invariant.room.few_lines, c.requires.fits, place)

-- there is no memory for the byte after CR
none_passed : (c : goal.After-restart) → StandsAtLine (scanning_of c.self.inside.feed)
    → PassesPieceLines (scanning_of c.self.inside.feed) c.args.bytes.now c.args.before 0 (scanning_of (record c.self.inside.feed { held = c.extend_from_slice.new.self; state = c.restart.new.self })) × IsSoundFeed (record c.self.inside.feed { held = c.extend_from_slice.new.self; state = c.restart.new.self })
none_passed c at = begun_none c.self.inside.feed c.extend_from_slice.new.self c.restart.new.self c.pass_lines-len.new.self at (search rules) c.restart.ensures c.args.bytes.now c.args.before c.self.invariant

pub invariant_of-self : goal.invariant_of-self
invariant_of-self c = (none_passed c c.in-Some.ensures.stands).1

pub returns-then-is_err : goal.returns-then-is_err
returns-then-is_err c = record {
  passes = subst (λ s. PassesPieceLines s c.args.bytes.now c.args.before 0 (scanning_of (record c.self.inside.feed { held = c.extend_from_slice.new.self; state = c.restart.new.self })))
      c.self.view_is (none_passed c c.in-Some.ensures.stands).0;
}

-- lines were passed, if any were found
some_passed : (c : goal.After-restart-2) {held : ℕ} → StandsBefore c.self.inside.feed c.args.bytes.now held
    → let new : Feed = record c.self.inside.feed { held = c.drop-drain.new.self.0; state = c.restart-2.new.self } in
    PassesPieceLines (scanning_of c.self.inside.feed) c.args.bytes.now c.args.before c.pass_lines-len.result.0 (scanning_of new) × IsSoundFeed new
some_passed c at =
    let f = c.self.inside.feed in let bytes = c.args.bytes.now in let lines = c.pass_lines-len.ensures.lines in
    let began = subst (λ n. take n bytes ≡ f.held.items) at.size at.began in
    passed f bytes c.args.before c.min.result c.pass_lines-len.result.0 at.stands began c.min.ensures lines c.drop-drain.new.self.0
    c.ends_with.result c.ends_with.ensures.value (search rules)
    (c.pass_lines-len.ensures.ends ∙ ap line_ends (sym lines.spell) ∙ line_ends-encoded lines.read)
    (subst (λ (s : LineState). BeginsAnew s c.restart-2.new.self) c.pass.ensures c.restart-2.ensures)
    (omega (arith, c.requires.fits, ap (λ (s : ScannerState). s.place) c.self.view_is)) c.self.invariant

pub invariant_of-self-2 : goal.invariant_of-self-2
invariant_of-self-2 c = (some_passed c c.in-Some.ensures).1

pub returns : goal.returns
returns c = record {
  passes = subst (λ s. PassesPieceLines s c.args.bytes.now c.args.before c.pass_lines-len.result.0 (scanning_of (record c.self.inside.feed { held = c.drop-drain.new.self.0; state = c.restart-2.new.self })))
      c.self.view_is (some_passed c c.in-Some.ensures).0;
}

pub slice_bounds-clear-end : goal.slice_bounds-clear-end
slice_bounds-clear-end c = sym (length-take-le c.min.result c.args.bytes.now (omega (arith, c.min.ensures)))

pub slice_bounds-ends_with-end : goal.slice_bounds-ends_with-end
slice_bounds-ends_with-end c = sym (length-take-le c.pass_lines-len.result.0 (take c.min.result c.args.bytes.now) c.pass_lines-len.ensures.lines.within)

pub overflow_cast-end : goal.overflow_cast-end
overflow_cast-end c = tt

pub overflow_add-end : goal.overflow_add-end
overflow_add-end c = omega (arith, c.pass_lines-len.ensures.lines.within, length-take c.min.result c.args.bytes.now, c.requires.fits, one_most c.ends_with.result)

pub slice_bounds-extend_from_slice-count : goal.slice_bounds-extend_from_slice-count
slice_bounds-extend_from_slice-count c = omega arith

pub drain-requires-clause-start_le_end : goal.drain-requires-clause-start_le_end
drain-requires-clause-start_le_end c = omega arith

pub drain-requires-clause-not_exhausted : goal.drain-requires-clause-not_exhausted
drain-requires-clause-not_exhausted c = tt

pub pass-requires : goal.pass-requires
pass-requires c = omega (arith, c.pass_lines-len.ensures.lines.within, length-take c.min.result c.args.bytes.now, c.requires.fits, ap (λ (s : ScannerState). s.place) c.self.view_is)

pub returns-in_default : goal.returns-in_default
returns-in_default c = record { passes = none_found c.args.self.now c.args.bytes.now c.args.before }

pub drain-requires-clause-in_bounds : goal.drain-requires-clause-in_bounds
drain-requires-clause-in_bounds c = grind arith

pub shape_of-self-inside : goal.shape_of-self-inside
shape_of-self-inside c = grind arith
