-- Where the blocks of a text stand.
use Rattle.std.specs.Prelude.{◌≡◌, ℕ, Bool, true, false, ◌&&◌, ◌||◌, List, [], ◌∷◌, ◌++◌, map, flat_map, bytes_eq}
use Rattle.std.specs.List.{list_any, list_all}
use Rattle.py_imports.specs.Grammar.{Imported}
use Rattle.isort_sort.specs.Member.{Member}
use Rattle.isort_sort.specs.Row.{Role, member, comments, blank, Row}

-- what a role has
abbrev pub role_is_member : Role → Bool
role_is_member (member is cs) = true
role_is_member _ = false

abbrev pub role_stands_between : Role → Bool
role_stands_between (comments cs) = true
role_stands_between blank = true
role_stands_between _ = false

abbrev pub role_is_blank : Role → Bool
role_is_blank blank = true
role_is_blank _ = false

abbrev pub role_comments : Role → List (List ℕ)
role_comments (comments cs) = cs
role_comments _ = []

abbrev pub role_imports : Role → List Imported
role_imports (member is cs) = is
role_imports _ = []

abbrev pub role_own : Role → List (List ℕ)
role_own (member is cs) = cs
role_own _ = []

abbrev pub is_member : Row → Bool
is_member row = role_is_member row.role

-- comments and blank lines may stand between members
abbrev pub stands_between : Row → Bool
stands_between row = role_stands_between row.role

abbrev pub is_blank : Row → Bool
is_blank row = role_is_blank row.role

-- whether after comments and blank lines there is a member with this indentation
abbrev pub leads_to : List ℕ → List Row → Bool
leads_to indentation [] = false
leads_to indentation (row ∷ rows) =
    (is_member row && bytes_eq row.indentation indentation) || (stands_between row && leads_to indentation rows)

-- a further member of a run, after comments and blank lines
pub record Further : Type 0 where
  pub between : List Row
  pub row : Row

abbrev pub further_rows : Further → List Row
further_rows f = f.between ++ f.row ∷ []

-- a member, and further ones
pub record Run : Type 0 where
  pub first : Row
  pub others : List Further

abbrev pub run_rows : Run → List Row
run_rows run = run.first ∷ flat_map further_rows run.others

-- a further member has the same indentation, and only comments and blank lines before it
abbrev pub goes_on : List ℕ → Further → Bool
goes_on indentation f = list_all stands_between f.between && is_member f.row && bytes_eq f.row.indentation indentation

abbrev pub is_run : Run → Bool
is_run run = is_member run.first && list_all (goes_on run.first.indentation) run.others

-- rows cut at blocks: what stands before a block, its run, the blank lines after it, and the rows after these; or rows
-- without a block
pub data Cut : Type 0 where
  rest : List Row → Cut
  block : List Row → Run → List Row → Cut → Cut

abbrev pub cut_rows : Cut → List Row
cut_rows (rest rows) = rows
cut_rows (block before run blanks cut) = before ++ (run_rows run ++ (blanks ++ cut_rows cut))

abbrev pub begins_blank : List Row → Bool
begins_blank [] = false
begins_blank (row ∷ rows) = is_blank row

-- Each member stands in a block; no block could go on after its last member; all blank lines after it are its own.
abbrev pub AreBlocks : Cut → Type 0
AreBlocks (rest rows) = list_any is_member rows ≡ false
AreBlocks (block before run blanks cut) =
    (list_any is_member before ≡ false) × (is_run run ≡ true) × (leads_to run.first.indentation (blanks ++ cut_rows cut) ≡ false)
    × (list_all is_blank blanks ≡ true) × (begins_blank (cut_rows cut) ≡ false) × AreBlocks cut

-- the blocks of rows
pub record IsCutAtBlocks (rows : List Row) (cut : Cut) : Type 0 where
  pub all : cut_rows cut ≡ rows
  pub blocks : AreBlocks cut

-- the comments among rows
abbrev pub comments_in : List Row → List (List ℕ)
comments_in rows = flat_map (λ row. role_comments row.role) rows

-- a member with the comments above it
abbrev pub member_of : List Row → Row → Member
member_of above row = record { imports = role_imports row.role; comments = role_own row.role; above = comments_in above }

-- the members of a run
abbrev pub members_of : Run → List Member
members_of run = member_of [] run.first ∷ map (λ f. member_of f.between f.row) run.others
