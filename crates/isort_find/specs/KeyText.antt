-- A key as contracts see it.
use Rattle.std.specs.Prelude.{string_bytes}
use Rattle.std.specs.Option.{option_map}
use Rattle.isort_find.specs.Key.{Key}
use Rattle.isort_find.specs.declared.key.KeyText.{KeyText}
use Rattle.isort_find.specs.declared.key.CountedTexts.{CountedTexts}

-- what a `KeyText` holds
abbrev pub key_in : KeyText → Key
key_in k = record {
  text = string_bytes k.text;
  attribute = option_map string_bytes k.attribute;
  alias = option_map string_bytes k.alias;
}

-- the texts of a binding that count, as a key
abbrev pub counted_key : CountedTexts → Key
counted_key c = record {
  text = c.text.now;
  attribute = option_map (λ t. t.now) c.attribute;
  alias = option_map (λ t. t.now) c.alias;
}
