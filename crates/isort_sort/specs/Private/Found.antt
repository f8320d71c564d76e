-- Blocks that were found, as the program keeps them, and how far it is in finding those of some rows.
use Rattle.std.specs.Prelude.{◌≡◌, ℕ, ◌+◌, ◌<◌, Bool, true, false, Option, None, Some, List, [], ◌∷◌}
use Rattle.std.specs.Prelude.{◌++◌, length, map, count_by, nat_lt, MatchOption, bytes_eq, if◌then◌else◌, option_map, string_bytes}
use Rattle.std.specs.List.{list_any, list_all}
use Rattle.std.specs.Option.{option_map_or}
use Rattle.isort_settings.specs.Values.{Values}
use Rattle.isort_sort.specs.Blocks.{is_member, stands_between, is_blank, Run, run_rows, is_run}
use Rattle.isort_sort.specs.Blocks.{Cut, rest, block, cut_rows, members_of, IsCutAtBlocks, begins_blank, comments_in}
use Rattle.isort_sort.specs.Member.{Member}
use Rattle.isort_sort.specs.Private.LineRole.{before_of}
use Rattle.isort_sort.specs.Private.Values.{member_value}
use Rattle.isort_sort.specs.Row.{Before, as_many, one, Row}
use Rattle.isort_sort.specs.Sorted.{last_row, before_role, texts_of, number_before, asked}
use Rattle.isort_sort.specs.declared.answer.Block.{Block}
use Rattle.isort_sort.specs.declared.row.BlankLines.{BlankLines}
use Rattle.isort_sort.specs.declared.finder.FoundBlock as code_found
use Rattle.isort_sort.specs.declared.finder.OpenBlock as code_open

-- a block: the bytes of its span, its indentation and members, whether its last line has a line end, how many of the
-- blank lines after it have one, and what the row after these asks of the blank lines before it
pub record Found : Type 0 where
  pub start : ℕ
  pub stop : ℕ
  pub indentation : List ℕ
  pub members : List Member
  pub ended : Bool
  pub blanks : ℕ
  pub next : Option Before

-- what the first of these rows asks of the blank lines before it, if there is one
abbrev pub next_of : List Row → Option Before
next_of [] = None
next_of (row ∷ rows) = Some (before_role row.role)

-- how many of these rows have a line end
abbrev pub ended_among : List Row → ℕ
ended_among rows = count_by (λ row. row.ended) rows

-- the block of a run that begins at this byte, with the blank lines after it, before these rows
abbrev pub found_of : ℕ → Run → List Row → List Row → Found
found_of start run blanks after = record {
  start = start;
  stop = start + length (texts_of (run_rows run)) + length (texts_of blanks);
  indentation = run.first.indentation;
  members = members_of run;
  ended = (last_row run.first run.others).ended;
  blanks = ended_among blanks;
  next = next_of after;
}

-- the blocks of a cut whose first row begins at this byte
abbrev pub found_from : ℕ → Cut → List Found
found_from at (rest rows) = []
found_from at (block before run blanks cut) =
    let found = found_of (at + length (texts_of before)) run blanks (cut_rows cut) in
    found ∷ found_from found.stop cut

-- how many blank lines stand after the block in its layout
abbrev pub blanks_by : Values → Found → Option Before → ℕ
blanks_by v f None = f.blanks
blanks_by v f (Some b) = if nat_lt 0 (length f.indentation) then f.blanks else asked v.lines_after_imports (number_before f.blanks b)

abbrev pub blanks_of : Values → Found → ℕ
blanks_of v f = blanks_by v f f.next

-- the span of a block, and how many members it has
abbrev pub span_of : Found → Block
span_of f = record { start = f.start; stop = f.stop; members = length f.members }

-- a block that may go on: what is known of it, the comments after its last member, and whether there are lines with
-- comments among these
pub record Open : Type 0 where
  pub found : Found
  pub above : List (List ℕ)
  pub commented : Bool

-- the blocks that were found, the one that may go on, and the byte after the last row
pub record Finding : Type 0 where
  pub found : List Found
  pub opened : Option Open
  pub place : ℕ

-- where a block may go on, the byte comes after the rows so far
abbrev pub IsFurther : ℕ → Finding → Type 0
IsFurther stop f = MatchOption f.opened (Unit {0}) (λ o. f.place < stop)

-- a block that was found, and one that may go on, of the program

abbrev pub before_value : Option BlankLines → Option Before
before_value next = option_map before_of next

abbrev pub found_value : code_found.FoundBlock → Found
found_value b = record {
  start = b.start;
  stop = b.stop;
  indentation = string_bytes b.indentation;
  members = map member_value b.members.items;
  ended = b.ended;
  blanks = b.blanks;
  next = before_value b.next;
}

abbrev pub open_value : code_open.OpenBlock → Open
open_value o = record { found = found_value o.block; above = map string_bytes o.above.items; commented = o.commented }

abbrev pub is_some_row : List Row → Bool
is_some_row [] = false
is_some_row (row ∷ rows) = true

-- the rows, which begin at this byte, end in a run that may go on
pub record EndInOpenRun (at : ℕ) (rows : List Row) (o : Open) : Type 0 where
  pub before : List Row
  pub run : Run
  pub blanks : List Row
  pub later : List Row
  pub split : rows ≡ before ++ (run_rows run ++ (blanks ++ later))
  pub none : list_any is_member before ≡ false
  pub is : is_run run ≡ true
  pub blank_rows : list_all is_blank blanks ≡ true
  pub between : list_all stands_between later ≡ true
  pub ends : begins_blank later ≡ false
  pub found : o.found ≡ found_of (at + length (texts_of before)) run blanks []
  pub above : o.above ≡ comments_in later
  pub commented : o.commented ≡ is_some_row later

-- whatever follows these rows, a cut of those left of them and of what follows makes a cut of all, with the blocks found
pub record IsClosed (mark : ℕ) (rows left : List Row) (found : List Found) (at : ℕ) : Type 0 where
  pub wrap : Cut → Cut
  pub cuts : (more : List Row) (cut : Cut) → IsCutAtBlocks (left ++ more) cut → IsCutAtBlocks (rows ++ more) (wrap cut)
  pub spans : (more : List Row) (cut : Cut) → IsCutAtBlocks (left ++ more) cut
      → found_from mark (wrap cut) ≡ found ++ found_from at cut

-- the blocks of these rows, the first of which begins at this byte, were found as far as they are settled
pub record IsFinding (mark : ℕ) (rows : List Row) (f : Finding) : Type 0 where
  pub left : List Row
  pub at : ℕ
  pub closed : IsClosed mark rows left f.found at
  pub place : f.place ≡ at + length (texts_of left)
  pub now : MatchOption f.opened (list_any is_member left ≡ false) (EndInOpenRun at left)

-- what each kind of row makes of the state, where the row ends at `stop` and has a line end or not

abbrev pub with_blank : ℕ → Bool → Open → Open
with_blank stop ended o =
    if o.commented then o
    else record o { found = record o.found { stop = stop; blanks = o.found.blanks + (if ended then 1 else 0) } }

abbrev pub with_comments : List (List ℕ) → Open → Open
with_comments comments o = record o { above = o.above ++ comments; commented = true }

-- the run goes on by a member
abbrev pub with_member : ℕ → Bool → Member → Open → Open
with_member stop ended m o = record {
  found = record o.found { stop = stop; members = o.found.members ++ record m { above = o.above } ∷ []; ended = ended; blanks = 0 };
  above = [];
  commented = false;
}

-- a run begins with a member
abbrev pub begun_with : ℕ → ℕ → Bool → List ℕ → Member → Open
begun_with start stop ended indentation m = record {
  found = record { start = start; stop = stop; indentation = indentation; members = m ∷ []; ended = ended; blanks = 0; next = None };
  above = [];
  commented = false;
}

-- the block is known, before a row that asks for this, or at the text's end
abbrev pub closed_block : Option Before → Open → Found
closed_block next o = record o.found { next = if o.commented then Some as_many else next }

abbrev pub closed_found : Option Before → Finding → List Found
closed_found next f = option_map_or (λ o. f.found ++ closed_block next o ∷ []) f.opened f.found

-- no block may go on
abbrev pub closed_before : Option Before → Finding → Finding
closed_before next f = record { found = closed_found next f; opened = None; place = f.place }

abbrev pub after_blank : ℕ → Bool → Finding → Finding
after_blank stop ended f = record { found = f.found; opened = option_map (with_blank stop ended) f.opened; place = stop }

abbrev pub after_comments : ℕ → List (List ℕ) → Finding → Finding
after_comments stop comments f = record { found = f.found; opened = option_map (with_comments comments) f.opened; place = stop }

abbrev pub after_other : ℕ → Before → Finding → Finding
after_other stop before f = record { found = closed_found (Some before) f; opened = None; place = stop }

-- whether the block that may go on has this indentation
abbrev pub goes_on_at : List ℕ → Option Open → Bool
goes_on_at indentation None = false
goes_on_at indentation (Some o) = bytes_eq indentation o.found.indentation

abbrev pub after_member : ℕ → Bool → List ℕ → Member → Finding → Finding
after_member stop ended indentation m f =
    if goes_on_at indentation f.opened
    then record { found = f.found; opened = option_map (with_member stop ended m) f.opened; place = stop }
    else record { found = closed_found (Some one) f; opened = Some (begun_with f.place stop ended indentation m); place = stop }
