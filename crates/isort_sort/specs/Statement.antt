-- The statements that sorting writes, and their order.
use Rattle.std.specs.Prelude.{ℕ, ◌==◌, Bool, true, false, not, ◌&&◌, ◌||◌, Option, None}
use Rattle.std.specs.Prelude.{Some, List, [], codes, if◌then◌else◌, bytes_eq, is_some}
use Rattle.std.specs.Option.{option_cmp}
use Rattle.std.specs.Ordering.{nat_cmp, ordering_then}
use Rattle.std.specs.declared.cmp.Ordering.{Ordering}
use Rattle.py_imports.specs.Grammar.{Imported, Item}
use Rattle.isort_settings.specs.Values.{Values}
use Rattle.isort_settings.specs.Orders.{module_cmp, name_cmp}
use Rattle.isort_settings.specs.Sections.{section_in, section_rank}
use Rattle.isort_settings.specs.declared.section.Section.{Section}

-- `import MODULE`, perhaps with an alias; `from MODULE import *`; `from MODULE import` with names; the same with one item
pub data Statement : Type 0 where
  straight : List ℕ → Option (List ℕ) → Statement
  star : List ℕ → Statement
  names : List ℕ → Statement
  single : List ℕ → Item → Statement

-- whether an item with this alias has a statement of its own
abbrev pub stands_alone : Values → Option (List ℕ) → Bool
stands_alone v alias = v.force_single_line || (is_some alias && not v.combine_as_imports)

-- whether the item is `*`, which has no alias
abbrev pub is_star : Item → Bool
is_star i = bytes_eq i.path (codes "*") && not (is_some i.alias)

-- the statement of an item that is imported from a module
abbrev pub from_statement : Values → List ℕ → Item → Statement
from_statement v m i = if is_star i then star m else (if stands_alone v i.alias then single m i else names m)

-- the statement of what is imported, by its module, its attribute and its alias
abbrev pub statement_with : Values → List ℕ → Option (List ℕ) → Option (List ℕ) → Statement
statement_with v m None alias = straight m alias
statement_with v m (Some n) alias = from_statement v m (record { path = n; alias = alias })

-- which statement an import belongs to
abbrev pub statement_of : Values → Imported → Statement
statement_of v i = statement_with v i.module_name i.attribute_name i.alias_name

abbrev pub module_of : Statement → List ℕ
module_of (straight m alias) = m
module_of (star m) = m
module_of (names m) = m
module_of (single m i) = m

abbrev pub is_from : Statement → Bool
is_from (straight m alias) = false
is_from other = true

-- straight statements, then `*`, then names, then single items
abbrev pub form_place : Statement → ℕ
form_place (straight m alias) = 0
form_place (star m) = 1
form_place (names m) = 2
form_place (single m i) = 3

-- an item without name and alias
abbrev pub no_item : Item
no_item = record { path = []; alias = None }

-- what tells apart statements of one form and module
abbrev pub own_item : Statement → Item
own_item (straight m alias) = record { path = []; alias = alias }
own_item (single m i) = i
own_item other = no_item

abbrev pub section_of : Values → Statement → Section
section_of v s = section_in v (module_of s)

-- the place of a statement's section in the order of sections
abbrev pub rank_of : Values → Statement → ℕ
rank_of v s = section_rank v (section_of v s)

-- straight statements stand before the others of their section, unless the settings say otherwise
abbrev pub group_place : Values → Statement → ℕ
group_place v s = if v.force_sort_within_sections || not (is_from s) then 0 else 1

-- the order of items: by name, and then none before an alias
abbrev pub item_cmp : Values → Item → Item → Ordering
item_cmp v i j = ordering_then (name_cmp v i.path j.path) (option_cmp (name_cmp v) i.alias j.alias)

-- the order of statements: by section first
abbrev pub statement_cmp : Values → Statement → Statement → Ordering
statement_cmp v a b =
    ordering_then (nat_cmp (rank_of v a) (rank_of v b))
    (ordering_then (nat_cmp (group_place v a) (group_place v b))
    (ordering_then (module_cmp v (module_of a) (module_of b))
    (ordering_then (nat_cmp (form_place a) (form_place b)) (item_cmp v (own_item a) (own_item b)))))

-- whether two aliases are the same, or both are none
abbrev pub same_alias : Option (List ℕ) → Option (List ℕ) → Bool
same_alias None None = true
same_alias (Some a) (Some b) = bytes_eq a b
same_alias other another = false

-- whether two statements are the same
abbrev pub same_statement : Statement → Statement → Bool
same_statement a b =
    (form_place a == form_place b) && bytes_eq (module_of a) (module_of b)
    && bytes_eq (own_item a).path (own_item b).path && same_alias (own_item a).alias (own_item b).alias
