use Rattle.py_lines.proofs.Prelude.{◌≡◌, ℕ, ◌&&◌, ltb, arith, nat_tests}
use Rattle.py_lines.specs.Private.Run.{is_ascii_word, is_wide_word}
use Rattle.py_lines.proofs.Text.Lanes.{both, compared, gives, same}
use Rattle.py_lines.proofs.run.words.Goals as goal

-- a byte of a word is ASCII
low : (b : ℕ) → (is_wide_word b && ltb b 128) ≡ is_ascii_word b
unfolding is_ascii_word
low b = grind (arith, nat_tests)

pub returns : goal.returns
returns c = gives _ _ (same _ _ _ (both _ _ _ c.wide_words.ensures (compared ltb c.args.lanes 128 c.fits-lanes.0)) low)
