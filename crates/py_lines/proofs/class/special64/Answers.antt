use Rattle.py_lines.proofs.Prelude.{ℕ, Bool, not, eqb, refl, is_operator, is_space, is_closing, is_opening, is_ascii_word, is_plain}
use Rattle.py_lines.specs.declared.class.TheConstants.{PLAIN, UPPER}
use Rattle.py_lines.proofs.SpecialBytes.LookUps.{bit_shown, highs_fit, loaded, looked_up_shows, lows_fit}
use Rattle.py_lines.proofs.class.special64.Goals as goal

pub swizzle-uppers : goal.swizzle-uppers
swizzle-uppers c = lows_fit 4 _ (loaded c.args.bytes.now c.requires c.type_inv.bytes)

pub swizzle-own : goal.swizzle-own
swizzle-own c = highs_fit 4 _ (loaded c.args.bytes.now c.requires c.type_inv.bytes)

pub returns : goal.returns
unfolding is_plain is_ascii_word is_space is_operator is_opening is_closing
returns c =
    let special : ℕ → Bool = λ b. not (is_plain b) in
    bit_shown special c.args.bytes.now c.requires
    (looked_up_shows 4 _ (loaded c.args.bytes.now c.requires c.type_inv.bytes) PLAIN UPPER eqb special refl refl refl)
