use Rattle.py_lines.proofs.Prelude.{not, eqb, refl}
use Rattle.py_lines.specs.declared.run.TheConstants.{UPPER, WORD}
use Rattle.py_lines.specs.Private.Run.{is_ascii_word, is_wide_word}
use Rattle.py_lines.proofs.SpecialBytes.LookUps.{highs_fit, looked_up_shows, lows_fit}
use Rattle.py_lines.proofs.Text.Lanes.{gives}
use Rattle.py_lines.proofs.run.wide_words.Goals as goal

pub swizzle-uppers : goal.swizzle-uppers
swizzle-uppers c = lows_fit 1 c.args.lanes c.fits-lanes

pub swizzle-own : goal.swizzle-own
swizzle-own c = highs_fit 1 c.args.lanes c.fits-lanes

pub returns : goal.returns
unfolding is_ascii_word
returns c = gives _ _ (looked_up_shows 1 c.args.lanes c.fits-lanes WORD UPPER (λ a b. not (eqb a b)) is_wide_word refl refl refl)
