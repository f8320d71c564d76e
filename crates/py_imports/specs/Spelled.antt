-- A binding as a statement of its own. Python Language Reference, 7.11.
use Rattle.std.specs.Prelude.{ℕ, Option, None, Some, List, [], ◌++◌, codes}
use Rattle.py_imports.specs.BindingValue.{BindingValue}

-- ` as NAME`, where there is an alias
abbrev pub alias_text : Option (List ℕ) → List ℕ
alias_text None = []
alias_text (Some alias) = codes " as " ++ alias

-- `import MODULE` or `from MODULE import NAME`, with the alias
abbrev pub import_text : List ℕ → Option (List ℕ) → Option (List ℕ) → List ℕ
import_text path None alias = codes "import " ++ (path ++ alias_text alias)
import_text path (Some attribute) alias = codes "from " ++ (path ++ (codes " import " ++ (attribute ++ alias_text alias)))

-- the statement that binds this alone
abbrev pub statement_text : BindingValue → List ℕ
statement_text b = import_text b.module_name b.attribute_name b.alias_name
