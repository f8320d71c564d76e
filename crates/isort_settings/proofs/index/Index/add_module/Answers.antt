-- The entry of the name is new or stays, and every other entry stays.
use Rattle.std.proofs.Common.{string_bytes, arith}
use Rattle.std.proofs.lemmas.Map.Text.{text_keys}
use Rattle.isort_settings.proofs.Indexes.{longer_has_no_place}
use Rattle.isort_settings.proofs.index.Index.add_module.Goals as goal

pub returns : goal.returns
returns c = λ text. grind (arith, text_keys)

-- neither an entry that was there nor the name is longer
pub invariant_of-self-2 : goal.invariant_of-self-2
invariant_of-self-2 c = record {
  none_is_longer = λ text longer. longer_has_no_place (string_bytes c.args.name.now) text c.args.place _ _ (grind (arith, text_keys)) (c.args.self.now.none_is_longer text (omega (arith, longer))) (omega (arith, longer));
}
