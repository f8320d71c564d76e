use Rattle.py_lines.proofs.Feeds.ReadyLines.{held_within}
use Rattle.py_lines.proofs.Prelude.{◌≡◌, ℕ, drop, None, sym, ap, ◌∙◌, arith, rules, Vec, drop_all}
use Rattle.py_lines.specs.Private.Feed.{Feed, IsLineAfterHeld, LetsGo, LineState}
use Rattle.py_lines.specs.Private.LineState.{BeginsAnew, passed}
use Rattle.py_lines.proofs.Feeds.OpenLine.{begun_open}
use Rattle.py_lines.proofs.feed.Feed.let_go.Goals.{then-stop-len, else-stop-len}
use Rattle.py_lines.proofs.feed.Feed.let_go.Goals as goal

-- what is held begins after the line, and so does the scan of the next one
lets_go : (old mid : Feed) (state now : LineState) (held : Vec ℕ) → mid ≡ record old { held = held; state = state; ready = None }
    → held.items ≡ drop old.state.scan.stop old.held.items → {line : ℕ} → state ≡ passed old.state old.state.scan.stop line → IsLineAfterHeld old line → BeginsAnew mid.state now → LetsGo old (record mid { state = now })
lets_go old mid state now held is items {line} pass after begins =
    let at : mid.state ≡ passed old.state old.state.scan.stop line = ap (λ (f : Feed). f.state) is ∙ pass in
    record {
      place = ap (λ (s : LineState). s.place) begins.same ∙ ap (λ (s : LineState). s.place) at;
      line = λ read spell. ap (λ (s : LineState). s.line) begins.same ∙ ap (λ (s : LineState). s.line) at ∙ after read spell;
      held = ap (λ (f : Feed). f.held.items) is ∙ items;
      ready = ap (λ (f : Feed). f.ready) is;
      ended = ap (λ (f : Feed). f.ended) is;
      fault = ap (λ (s : LineState). s.fault) begins.same ∙ ap (λ (s : LineState). s.fault) at;
      opens = begun_open mid.state (record mid { state = now }) begins;
    }

pub returns : goal.returns
returns c =
    let f = c.args.self.now in
    elim c.if-stop-len.branch [
      | then-stop-len w ↦ lets_go f c.if-stop-len.self c.pass.new.self c.restart.new.self w.clear.new.self w.self-is
          (w.clear.ensures.items ∙ sym (drop_all f.state.scan.stop f.held.items (omega (arith, w.if-stop-len.true, c.len.ensures)))) c.pass.ensures c.requires.after c.restart.ensures
      | else-stop-len w ↦ lets_go f c.if-stop-len.self c.pass.new.self c.restart.new.self _ w.self-is (search rules) c.pass.ensures c.requires.after c.restart.ensures
    ]

pub pass-requires : goal.pass-requires
pass-requires c = let (end_len, h) = c.requires.holds in omega (arith, held_within c.args.self.now end_len h, c.requires.room.fits)

pub drain-requires-clause-in_bounds : goal.drain-requires-clause-in_bounds
drain-requires-clause-in_bounds c = let (end_len, h) = c.requires.holds in omega (arith, held_within c.args.self.now end_len h)
