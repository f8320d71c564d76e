-- The statements of a block with what each takes from the members, before they are cut into lines.
use Rattle.std.specs.Prelude.{◌≡◌, ℕ, None, List, [], ◌∷◌, map, codes, string_bytes}
use Rattle.std.specs.List.{AllByRecursion}
use Rattle.py_imports.specs.Grammar.{Item}
use Rattle.isort_settings.specs.Values.{Values}
use Rattle.isort_settings.specs.declared.section.Section.{Section}
use Rattle.isort_sort.specs.Member.{Member, AreStatements, AreItemsOf, comments_of, above_of}
use Rattle.isort_sort.specs.Statement.{Statement, straight, star, names, single, section_of, rank_of}
use Rattle.isort_sort.specs.Private.Values.{item_value, statement_value}
use Rattle.isort_sort.specs.declared.group.Group as code

-- a statement with its section and that section's rank, its items in order, the comments that it joins, and those above it
pub record Group : Type 0 where
  pub section : Section
  pub rank : ℕ
  pub statement : Statement
  pub items : List Item
  pub comments : List (List ℕ)
  pub above : List (List ℕ)

-- the items of a statement, of which `listed` are the items of names that share it
abbrev pub items_with : Statement → List Item → List Item
items_with (straight m alias) listed = record { path = []; alias = alias } ∷ []
items_with (star m) listed = record { path = codes "*"; alias = None } ∷ []
items_with (names m) listed = listed
items_with (single m i) listed = i ∷ []

-- a group
abbrev pub group_value : code.Group → Group
group_value g = record {
  section = g.section;
  rank = g.rank;
  statement = statement_value g.statement;
  items = items_with (statement_value g.statement) (map item_value g.items.items);
  comments = map string_bytes g.comments.items;
  above = map string_bytes g.above.items;
}

-- the group holds what its statement takes from the members
pub record IsGrouped (v : Values) (members : List Member) (g : Group) : Type 0 where
  pub section : g.section ≡ section_of v g.statement
  pub rank : g.rank ≡ rank_of v g.statement
  pub items : AreItemsOf v members g.statement g.items
  pub comments : g.comments ≡ comments_of v members g.statement
  pub above : g.above ≡ above_of v members g.statement

-- the statements of the members, in order, each with what it takes from them
pub record AreGrouped (v : Values) (members : List Member) (groups : List Group) : Type 0 where
  pub statements : AreStatements v members (map (λ g. g.statement) groups)
  pub each : AllByRecursion (IsGrouped v members) groups
