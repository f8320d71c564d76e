-- Texts and imports as records of bytes.
use Rattle.std.specs.Prelude.{ℕ, Bool, Option, None, Some, List, [], ◌∷◌, ◌++◌, length, if◌then◌else◌}
use Rattle.std.specs.Int.{w64, to_le_bytes}
use Rattle.py_imports.specs.BindingValue.{BindingValue}

-- the length of a text, in 8 bytes, the lowest first, and the text
unfoldable pub text_record : List ℕ → List ℕ
text_record text = to_le_bytes w64 (length text) ++ text

-- whether there is a text, and then that text
unfoldable pub option_record : Option (List ℕ) → List ℕ
option_record None = 0 ∷ []
option_record (Some text) = (1 ∷ []) ++ text_record text

-- a line in 8 bytes, and whether it is indented
unfoldable pub place_record : ℕ → Bool → List ℕ
place_record line indented = to_le_bytes w64 line ++ ((if indented then 1 else 0) ∷ [])

-- the place, the module, the attribute and the alias
abbrev pub value_record : BindingValue → List ℕ
value_record b =
    place_record b.line b.indented
    ++ (text_record b.module_name ++ (option_record b.attribute_name ++ option_record b.alias_name))

-- one record after another
abbrev pub value_records : List BindingValue → List ℕ
value_records [] = []
value_records (b ∷ bs) = value_record b ++ value_records bs

abbrev pub name_records : List (List ℕ) → List ℕ
name_records [] = []
name_records (name ∷ names) = text_record name ++ name_records names
