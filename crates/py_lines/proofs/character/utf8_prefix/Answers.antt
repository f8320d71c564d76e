use Rattle.std.proofs.lemmas.Grind.{common_steps}
use Rattle.py_lines.proofs.Prelude.{◌≡◌, ℕ, length, take, sym, ap, ◌∙◌, arith, length-take-le, take_all, IsValidUpTo, nat_tests}
use Rattle.py_lines.proofs.Text.Utf8Prefixes.{whole_text, front_text}
use Rattle.py_lines.proofs.character.utf8_prefix.Goals as goal
use Rattle.py_lines.proofs.character.utf8_prefix.Goals.{After-valid_up_to}

-- how far the bytes are UTF-8, and how many bytes that is
front : (c : After-valid_up_to) → IsValidUpTo c.args.bytes.now c.valid_up_to.result
front c = rw c.valid_up_to.ensures c.in-Err.ensures.cases.1

length_front : (c : After-valid_up_to) → length (take c.valid_up_to.result c.args.bytes.now) ≡ c.valid_up_to.result
length_front c = length-take-le c.valid_up_to.result c.args.bytes.now (omega (arith, (front c).short))

pub returns-in-Ok : goal.returns-in-Ok
returns-in-Ok c = let is = c.in-Ok.ensures.cases.0 in record {
  prefix = is ∙ sym (take_all (length c.in-Ok.text.now) c.args.bytes.now (omega (arith, ap length is)));
  bad = whole_text c.in-Ok.text.now c.args.bytes.now is;
}

pub returns-in-Err : goal.returns-in-Err
returns-in-Err c =
    let told = (goal.at.returns-in-Err c).After-valid_up_to in
    let is = c.from_utf8_unchecked.ensures in
    record {
      prefix = is ∙ ap (λ (n : ℕ). take n c.args.bytes.now) (sym (ap length is ∙ length_front told));
      bad = front_text c.from_utf8_unchecked.result.now c.args.bytes.now c.valid_up_to.result is (front told);
    }

pub returns-in-Ok-text : goal.returns-in-Ok-text
returns-in-Ok-text c = grind (arith, nat_tests)

pub from_utf8_unchecked-requires : goal.from_utf8_unchecked-requires
from_utf8_unchecked-requires c = grind (arith, nat_tests)

pub slice_bounds-from_utf8_unchecked-end : goal.slice_bounds-from_utf8_unchecked-end
slice_bounds-from_utf8_unchecked-end c = grind (arith, common_steps)
