use Rattle.py_lines.proofs.Prelude.{◌≡◌, List, ℕ, ltb, arith, is_backslash, is_brace, is_space}
use Rattle.py_lines.specs.declared.run.ByteRun.{ByteRun}
use Rattle.py_lines.specs.Private.Run.{is_code_sign, is_in_run}
use Rattle.py_lines.proofs.Text.Lanes.{Shows, both, compared, either, none, same, set_first}
use Rattle.py_lines.proofs.run.ByteRun.len_in_lanes.Goals as goal
use Rattle.py_lines.proofs.run.ByteRun.len_in_lanes.Goals.{in-Word, in-WideWord, in-Space, in-Body, in-Text, in-Literal, in-LongText, in-Code}

by_arm : (vs : List ℕ) {r k : ByteRun} {m n : List ℕ} → r ≡ k → m ≡ n → Shows (is_in_run k) vs n → Shows (is_in_run r) vs m
by_arm vs is same h = rw (is, same) h

pub returns : goal.returns
unfolding is_space is_brace is_code_sign is_backslash
returns c =
    let v = c.args.lanes in
    let ascii = compared ltb v 128 c.fits-lanes.0 in
    set_first (is_in_run c.args.self) v c.fits-lanes.0 (elim c.match-self.branch [
      | in-Word w ↦ by_arm v w.in-Word.is w.passing-is w.words-passing.ensures
      | in-WideWord w ↦ by_arm v w.in-WideWord.is w.passing-is w.wide_words-passing.ensures
      | in-Space w ↦ by_arm v w.in-Space.is w.passing-is
          (same _ _ v (either _ _ v (either _ _ v w.equal.ensures w.equal-in-Space.ensures) w.equal-in-Space-2.ensures) (λ x. grind arith))
      | in-Body w ↦ by_arm v w.in-Body.is w.passing-is w.body-passing.ensures
      | in-Text w ↦ by_arm v w.in-Text.is w.passing-is (both _ _ v w.body.ensures ascii)
      | in-Literal w ↦ by_arm v w.in-Literal.is w.passing-is
          (let braces = either _ _ v w.equal-in-Literal.ensures w.equal-in-Literal-2.ensures in
          same _ _ v (both _ _ v (both _ _ v w.body-in-Literal.ensures ascii) (none _ v braces)) (λ x. grind arith))
      | in-LongText w ↦ by_arm v w.in-LongText.is w.passing-is
          (both _ _ v (same _ _ v (none _ v (either _ _ v w.equal-in-LongText.ensures w.equal-in-LongText-2.ensures)) (λ x. grind arith)) ascii)
      | in-Code w ↦ by_arm v w.in-Code.is w.passing-is
          (let signs = either _ _ v w.between.ensures w.between-in-Code.ensures in
          same _ _ v (either _ _ v (either _ _ v w.words.ensures signs) w.equal-in-Code.ensures) (λ x. grind arith))
    ]) c.trailing_ones.ensures

pub overflow_cast-result : goal.overflow_cast-result
overflow_cast-result c = omega (arith, c.trailing_ones.type_inv)
