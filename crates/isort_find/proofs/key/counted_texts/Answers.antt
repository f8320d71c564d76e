-- The module and the attribute count.
use Rattle.std.proofs.Common.{ℕ, List, Option, None, string_bytes, sym, ap, ◌∙◌}
use Rattle.std.specs.Option.{option_map}
use Rattle.py_imports.specs.BindingValue.{binding_value}
use Rattle.isort_find.specs.Key.{key_of, key_with}
use Rattle.isort_find.specs.declared.options.ImportKey.{ImportKey}
use Rattle.isort_find.proofs.key.counted_texts.Goals as goal

pub returns-in-Attribute : goal.returns-in-Attribute
returns-in-Attribute c =
    let binding = c.args.binding.now in
    ap (λ (attribute : Option (List ℕ)). key_with c.as_str.result.now attribute None) c.as_deref.ensures.value
    ∙ ap (λ (text : List ℕ). key_with text (option_map string_bytes binding.attribute_name) None) c.as_str.ensures.value
    ∙ ap (λ (key : ImportKey). key_of key (binding_value binding)) (sym c.in-Attribute.is)
