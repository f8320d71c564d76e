-- What is seen of a statement, import by import.
use Rattle.std.specs.Prelude.{◌≡◌, ℕ, Option, None, Some, List, [], ◌∷◌, ◌++◌, map, flat_map}
use Rattle.std.specs.Prelude.{unwrap_or, option_to_list, string_bytes, if◌then◌else◌}
use Rattle.std.specs.List.{IsDistinct}
use Rattle.std.specs.Option.{option_map}
use Rattle.py_imports.specs.Grammar.{Imported, Item}
use Rattle.isort_settings.specs.Values.{Values}
use Rattle.isort_sort.specs.Order.{AreInOrder}
use Rattle.isort_sort.specs.Member.{Member, item_of, first_texts}
use Rattle.isort_sort.specs.Statement.{Statement, names, statement_of, same_statement, section_of, rank_of, item_cmp}
use Rattle.isort_sort.specs.Private.Values.{item_value, statement_value}
use Rattle.isort_sort.specs.declared.group.Gathered as code
use Rattle.isort_sort.specs.declared.group.Group as code_group
use Rattle.isort_sort.specs.declared.group.Import as code_import
use Rattle.isort_sort.specs.declared.statement.Statement as code_statement

-- an item, if its statement is one of names
abbrev pub listed_by : Statement → Item → List Item
listed_by (names m) i = i ∷ []
listed_by other i = []

-- the item of an import, if its statement is one of names
abbrev pub listed_item : Values → Imported → List Item
listed_item v i = listed_by (statement_of v i) (item_of i)

-- what an import brings to its statement: its item, if that is one of names; own comments; and comments above
pub record Brought : Type 0 where
  pub statement : Statement
  pub listed : List Item
  pub comments : List (List ℕ)
  pub above : List (List ℕ)

-- what the imports of a member bring: its comments go with the first
abbrev pub brings : Values → List Imported → List (List ℕ) → List (List ℕ) → List Brought
brings v [] comments above = []
brings v (i ∷ is) comments above =
    record { statement = statement_of v i; listed = listed_item v i; comments = comments; above = above } ∷ brings v is [] []

-- what a member brings, and what members bring
abbrev pub brought_by : Values → Member → List Brought
brought_by v m = brings v m.imports m.comments m.above

abbrev pub brought : Values → List Member → List Brought
brought v members = flat_map (brought_by v) members

-- what was seen of a statement
pub record Seen : Type 0 where
  pub items : List Item
  pub comments : List (List ℕ)
  pub above : List (List ℕ)

abbrev pub nothing_seen : Seen
nothing_seen = record { items = []; comments = []; above = [] }

-- what was seen, with what an import brings
abbrev pub with_brought : Seen → Brought → Seen
with_brought s b = record { items = s.items ++ b.listed; comments = s.comments ++ b.comments; above = s.above ++ b.above }

-- what is seen of a statement after one more import
abbrev pub seen_with : Statement → Option Seen → Brought → Option Seen
seen_with s o b = if same_statement b.statement s then Some (with_brought (unwrap_or o nothing_seen) b) else o

-- what is seen of a statement after more imports
abbrev pub seen_after : Statement → Option Seen → List Brought → Option Seen
seen_after s o [] = o
seen_after s o (b ∷ bs) = seen_after s (seen_with s o b) bs

-- what the code has of an import
abbrev pub brought_value : code_import.Import → Brought
brought_value i = record {
  statement = statement_value i.statement;
  listed = option_to_list (option_map item_value i.item);
  comments = map string_bytes i.comments.items;
  above = map string_bytes i.above.items;
}

-- what the code has seen of a statement
abbrev pub seen_value : code.Gathered → Seen
seen_value g = record {
  items = map item_value g.items.items;
  comments = map string_bytes g.comments.items;
  above = map string_bytes g.above.items;
}

-- a statement, and what the code has seen of it
abbrev pub Entry : Type 0
Entry = code_statement.Statement × code.Gathered

-- what the code has seen of a statement, if it has
abbrev pub found : Statement → List Entry → Option Seen
found s [] = None
found s (e ∷ es) = if same_statement (statement_value e.0) s then Some (seen_value e.1) else found s es

-- after these imports the code has seen of each statement what they bring
abbrev pub Gathers : List Entry → List Brought → List Entry → Type 0
Gathers old bs new = (s : Statement) → found s new ≡ seen_after s (found s old) bs

-- no two of the statements are the same
abbrev pub AreDistinct : List code_statement.Statement → Type 0
AreDistinct statements = IsDistinct (λ a b. same_statement (statement_value a) (statement_value b)) statements

-- the group that is made of a statement and what was seen of it
pub record IsMade (v : Values) (s : code_statement.Statement) (g : code.Gathered) (group : code_group.Group) : Type 0 where
  pub section : group.section ≡ section_of v (statement_value s)
  pub rank : group.rank ≡ rank_of v (statement_value s)
  pub statement : statement_value group.statement ≡ statement_value s
  pub items : AreInOrder (item_cmp v) (seen_value g).items (map item_value group.items.items)
  pub comments : map string_bytes group.comments.items ≡ first_texts (seen_value g).comments
  pub above : map string_bytes group.above.items ≡ (seen_value g).above

-- the groups that are made of these statements
abbrev pub AreMade : Values → List Entry → List code_group.Group → Type 0
AreMade v [] groups = groups ≡ []
AreMade v (e ∷ es) groups =
    (first : code_group.Group) × (others : List code_group.Group) × (groups ≡ first ∷ others)
    × IsMade v e.0 e.1 first × AreMade v es others
