use Rattle.py_lines.proofs.Prelude.{eqb, arith, length-chunk, is_line_feed}
use Rattle.memchr.specs.Find.{is_byte}
use Rattle.py_lines.proofs.SpecialBytes.LookUps.{bit_shown, ones_shown}
use Rattle.py_lines.proofs.Text.Lanes.{compared, same}
use Rattle.py_lines.proofs.class.feeds64.Goals as goal

pub returns : goal.returns
unfolding is_line_feed
returns c =
    let text = c.args.bytes.now in
    let shown = compared eqb _ 10 (length-chunk 0 64 text c.requires) in
    record {
      bits = bit_shown is_line_feed text c.requires (same _ _ _ shown (λ b. grind arith));
      count = ones_shown (is_byte 10) text c.requires shown;
    }
