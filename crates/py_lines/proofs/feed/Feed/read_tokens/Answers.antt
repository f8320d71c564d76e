use Rattle.std.proofs.lemmas.Grind.{common_steps}
use Rattle.py_lines.proofs.Prelude.{ℕ, List, ◌∙◌, ap, sym, subst, length-take, take, arith}
use Rattle.py_lines.specs.Private.Feed.{HasReadTokens, HoldsLine, HoldsSo, LineState}
use Rattle.py_lines.specs.Private.LineTokens.{HoldsTokens, IsLineAfter, IsLineText}
use Rattle.py_lines.proofs.Feeds.ReadyLines.{held_line_text, held_within, some_read}
use Rattle.py_lines.proofs.feed.Feed.read_tokens.Goals as goal
use Rattle.py_lines.proofs.feed.Feed.read_tokens.Goals.{In-Some}

-- the line that stands in what is held
stands : (c : In-Some) → HoldsLine c.args.self.now c.in-Some.end_len
stands c = let f = c.args.self.now in (subst (λ r. HoldsSo f r c.requires.holds.0) c.in-Some.is c.requires.holds.1).0

pub read_line-requires : goal.read_line-requires
read_line-requires c =
    let f = c.args.self.now in
    let h = stands (goal.at.read_line-requires c).In-Some in
    let held = c.deref.ensures.value in
    record {
      text = subst (λ (l : List ℕ). IsLineText (take f.state.scan.stop l) c.in-Some.end_len) (sym held) (held_line_text f c.in-Some.end_len h);
      lines = omega (arith, c.requires.room.fits, c.requires.room.few_lines, held_within f c.in-Some.end_len h, length-take f.state.scan.stop c.deref.result.now);
    }

pub returns-in-Ok : goal.returns-in-Ok
returns-in-Ok c =
    let f = c.args.self.now in
    let n = c.in-Some.end_len in
    let new = c.read_line.new.self in
    let line = c.in-Ok.line in
    let text = λ (l : List ℕ). take f.state.scan.stop l in
    let held = c.deref.ensures.value in
    let tokens = subst (λ (l : List ℕ). HoldsTokens (text l) n f.state.line new.tokens.items) held c.in-Ok.ensures.tokens in
    let after = subst (λ (l : List ℕ). IsLineAfter f.state.line (text l) n line) held c.in-Ok.ensures.after in
    subst (λ (s : LineState). HasReadTokens f (record f { state = s; next_line = line })) (sym (c.in-Ok.ensures.same ∙ ap (λ n. record f.state { tokens = new.tokens; scan = record new.scan { stop = n } }) c.in-Ok.ensures.stop))
    (some_read f new n line tokens after c.requires.no_fault c.requires.room c.in-Some.is (stands (goal.at.returns-in-Ok c).In-Some))

pub slice_bounds-read_line-end : goal.slice_bounds-read_line-end
slice_bounds-read_line-end c = grind (arith, common_steps)

pub returns-in_default : goal.returns-in_default
returns-in_default c = search (arith)
