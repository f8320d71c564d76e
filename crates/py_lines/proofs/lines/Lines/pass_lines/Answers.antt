use Rattle.py_lines.proofs.Prelude.{◌≡◌, ℕ, ◌+◌, ◌-◌, ◌≤◌, List, length, take, drop, ◌∙◌, sym, subst, arith, length-take, le_of_lt, le_trans, line_ends, LineState, reader_of}
use Rattle.py_lines.proofs.LineScan.LineCount.{few_first}
use Rattle.py_lines.specs.Lines.{PassesUpTo}
use Rattle.py_lines.specs.Reader.{Reader}
use Rattle.py_lines.proofs.Feeds.ReadyLines.{none_is}
use Rattle.py_lines.proofs.Readers.NextLines.{further}
use Rattle.py_lines.proofs.Readers.PassedLines.{passes_found}
use Rattle.py_lines.proofs.lines.Lines.pass_lines.Goals as goal

pub returns : goal.returns
returns c =
    let s = c.self.inside.source in let (len, ends) = c.pass_lines-len.result in
    let none = none_is s.state.fault (sym c.is_some.ensures ∙ c.if-is_some.false) in
    record {
      passes = subst (λ (t : LineState). PassesUpTo c.args.self.now c.args.before len (record { text = s.bytes.now; place = t.place; line = t.line; fault = t.fault })) (sym c.pass.ensures)
          (subst (λ (r : Reader). PassesUpTo r c.args.before len (further (reader_of s) len ends)) c.self.view_is
          (passes_found (reader_of s) c.args.before len ends none c.if-place-before.false c.if-before-source.false
          c.pass_lines-len.ensures.lines c.pass_lines-len.ensures.ends));
    }

-- lines that were passed are within these bytes, and hold few line ends
within_end : (place before len : ℕ) (bytes : List ℕ) → place ≤ before → len ≤ length (take (before - place) (drop place bytes)) → place + len ≤ before
within_end place before len bytes h within = omega (arith, length-take (before - place) (drop place bytes))

few_more : (place line len ends : ℕ) (bytes : List ℕ) → line ≤ place + 1 → ends ≡ line_ends (take len bytes) → line + ends ≤ place + len + 1
few_more place line len ends bytes few is = omega (arith, few_first bytes len)

pub overflow_add-line : goal.overflow_add-line
overflow_add-line c = omega (arith, within_end _ _ _ c.self.inside.source.bytes.now (le_of_lt c.if-place-before.false) c.pass_lines-len.ensures.lines.within, few_more _ _ _ _ _ c.self.inside.source.few_lines c.pass_lines-len.ensures.ends)

pub invariant_of-source : goal.invariant_of-source
invariant_of-source c = rw c.pass.ensures (record {
  within = le_trans (within_end _ _ _ c.self.inside.source.bytes.now (le_of_lt c.if-place-before.false) c.pass_lines-len.ensures.lines.within) c.if-before-source.false;
  few_lines = few_more _ _ _ _ _ c.self.inside.source.few_lines c.pass_lines-len.ensures.ends;
})

pub pass-requires : goal.pass-requires
pass-requires c = grind arith

pub returns-then-place-before : goal.returns-then-place-before
returns-then-place-before c = grind arith
