-- A binding, as contracts see it.
use Rattle.std.specs.Prelude.{ℕ, Bool, Option, List, string_bytes}
use Rattle.std.specs.Option.{option_map}
use Rattle.py_imports.specs.Grammar.{Imported}
use Rattle.py_imports.specs.declared.binding.Binding.{Binding}

-- the line of its statement's first token, whether its logical line is indented, and the names
pub record BindingValue : Type 0 where
  pub line : ℕ
  pub indented : Bool
  pub module_name : List ℕ
  pub attribute_name : Option (List ℕ)
  pub alias_name : Option (List ℕ)

-- what is imported by a statement on this line
abbrev pub binding_at : ℕ → Bool → Imported → BindingValue
binding_at line indented i = record {
  line = line;
  indented = indented;
  module_name = i.module_name;
  attribute_name = i.attribute_name;
  alias_name = i.alias_name;
}

-- what a `Binding` says
abbrev pub binding_value : Binding → BindingValue
binding_value b = record {
  line = b.line;
  indented = b.indented;
  module_name = string_bytes b.module_name;
  attribute_name = option_map string_bytes b.attribute_name;
  alias_name = option_map string_bytes b.alias_name;
}
