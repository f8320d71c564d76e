-- By what two bindings count as one.
use Rattle.std.specs.Prelude.{ℕ, Bool, ◌==◌, ◌&&◌, Option, None, List, [], ◌∷◌, if◌then◌else◌}
use Rattle.std.specs.Option.{option_eq}
use Rattle.std.specs.Str.{bytes_eq}
use Rattle.py_imports.specs.BindingValue.{BindingValue}
use Rattle.isort_find.specs.declared.options.ImportKey.{ImportKey}
use Rattle.isort_find.specs.declared.options.ImportKey.TheVariants.{Package, Module, Attribute, Alias}

-- a text, and an attribute and an alias that may be missing
pub record Key : Type 0 where
  pub text : List ℕ
  pub attribute : Option (List ℕ)
  pub alias : Option (List ℕ)

-- what stands before the first dot
abbrev pub first_name : List ℕ → List ℕ
first_name [] = []
first_name (c ∷ cs) = if c == 46 then [] else c ∷ first_name cs

-- the leading dots of a module, and the first name after them
abbrev pub package_of : List ℕ → List ℕ
package_of [] = []
package_of (c ∷ cs) = if c == 46 then c ∷ package_of cs else c ∷ first_name cs

-- a key by its parts
abbrev pub key_with : List ℕ → Option (List ℕ) → Option (List ℕ) → Key
key_with text attribute alias = record { text = text; attribute = attribute; alias = alias }

-- the key of a binding
abbrev pub key_of : ImportKey → BindingValue → Key
key_of Package b = key_with (package_of b.module_name) None None
key_of Module b = key_with b.module_name None None
key_of Attribute b = key_with b.module_name b.attribute_name None
key_of Alias b = key_with b.module_name b.attribute_name b.alias_name

-- whether two keys are equal; what is missing in both is
abbrev pub key_eq : Key → Key → Bool
key_eq a b = bytes_eq a.text b.text && (option_eq bytes_eq a.attribute b.attribute && option_eq bytes_eq a.alias b.alias)
