use Rattle.py_lines.proofs.Prelude.{◌≡◌, ◌∙◌, ℕ, zero, suc, ap, refl, IfSome_then, IfOk-weaker, first_mode}
use Rattle.py_lines.specs.Private.LineScan.{first_open}
use Rattle.py_lines.specs.Private.Scan.{opened_at}
use Rattle.py_lines.specs.declared.mode.Mode.TheVariants as opens
use Rattle.py_lines.proofs.LineScan.LineSteps.{begun_reached}
use Rattle.py_lines.proofs.LineScan.Reaching.{ends_over}
use Rattle.py_lines.proofs.LineScan.TextSteps.{begun_sound}
use Rattle.py_lines.proofs.line_state.LineState.read_simple.Goals as goal

-- after the text's start no mark may stand
free_there : (n : ℕ) → (n ≡ 0 → ⊥) → opens.Free ≡ first_open (first_mode n)
free_there zero some = absurd (some refl)
free_there (suc n) some = refl

pub returns-clause-reads : goal.returns-clause-reads
returns-clause-reads c =
    let s = c.args.self.now in
    let bytes = c.args.bytes.now in
    let begun = begun_reached (c.restart.ensures ∙ ap opened_at (free_there s.place c.if-self-eq0.false)) (begun_sound s.place) bytes in
    IfOk-weaker c.read_simple_line.result _ _ (λ r. λ some. IfSome_then r some (λ read is. record {
      scans = ends_over (begun_sound s.place) begun _ is.before read.0 is.ends;
      tokens = is.tokens;
      after_is = is.lines;
    })) c.read_simple_line.ensures
