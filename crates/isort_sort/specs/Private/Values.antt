-- Items, statements, members and groups as contracts see them.
use Rattle.std.specs.Prelude.{map, string_bytes}
use Rattle.std.specs.Option.{option_map}
use Rattle.py_imports.specs.BindingValue.{binding_value}
use Rattle.py_imports.specs.Grammar as grammar
use Rattle.isort_sort.specs.Line.{imported_of}
use Rattle.isort_sort.specs.Member as member
use Rattle.isort_sort.specs.Statement as statement
use Rattle.isort_sort.specs.declared.member.Member as code_member
use Rattle.isort_sort.specs.declared.statement.FromItem as code_item
use Rattle.isort_sort.specs.declared.statement.Statement as code
use Rattle.isort_sort.specs.declared.statement.Statement.TheVariants as form

-- an item
abbrev pub item_value : code_item.FromItem → grammar.Item
item_value i = record { path = string_bytes i.name; alias = option_map string_bytes i.alias }

-- a statement
abbrev pub statement_value : code.Statement → statement.Statement
statement_value (form.Straight m alias) = statement.straight (string_bytes m) (option_map string_bytes alias)
statement_value (form.Star m) = statement.star (string_bytes m)
statement_value (form.Names m) = statement.names (string_bytes m)
statement_value (form.Single m i) = statement.single (string_bytes m) (item_value i)

-- a member
abbrev pub member_value : code_member.Member → member.Member
member_value m = record {
  imports = map (λ b. imported_of (binding_value b)) m.bindings.items;
  comments = map string_bytes m.comments.items;
  above = map string_bytes m.above.items;
}
