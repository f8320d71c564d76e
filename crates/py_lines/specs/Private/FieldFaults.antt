-- What is wrong where the machine with fields can't go on, and where a text ends that may not: told by its state. `depth` is how
-- many brackets and fields are open there.
use Rattle.std.specs.Prelude.{ℕ, ◌+◌, ◌-◌, Bool, true, false, ◌==◌, ◌&&◌, Option, None, Some, List, [], ◌∷◌, ◌++◌, length, nat_lt, if◌then◌else◌}
use Rattle.py_lines.specs.Character.{is_break}
use Rattle.py_lines.specs.Piece.{spelled}
use Rattle.py_lines.specs.Balance.{is_opening, is_closing}
use Rattle.py_lines.specs.Faults.{Cause, brace_too_deep, breaks_string, breaks_join, closes_wrong, opens_too_deep, ends_specification, begins_nothing, Unfinished, open_brace, open_short, open_long, open_join, open_bracket, open_inside}
use Rattle.py_lines.specs.LogicalLine.{byte_len}
use Rattle.py_lines.specs.FieldStrings.{Host, literal, specification}
use Rattle.py_lines.specs.Private.Machine.{in_short, in_long, is_after_backslash}
use Rattle.py_lines.specs.Private.FieldMachine.{At, after_brace, FieldMode, plain, opened, empty, body, Level, FieldScanned, levels_open, after_open_backslash, text_place, before}

-- whether a `{` of a literal part stands directly before, which may open a field
abbrev pub is_waiting : FieldMode → Bool
is_waiting (body host literal named after_brace) = true
is_waiting other = false

-- whether a quote would close the string whose specification is open
abbrev pub quotes_specification : FieldMode → ℕ → Bool
quotes_specification (body host specification named at) c = c == host.quote
quotes_specification other c = false

-- Why a character is refused in this mode, at this depth of brackets and fields: the first cause that fits. It is meant for a
-- character that has no step or no room there.
abbrev pub cause_in : ℕ → FieldMode → ℕ → Cause
cause_in depth mode c =
    if is_waiting mode && (depth == 200) then brace_too_deep
    else (if is_break c then breaks_string
    else (if after_open_backslash mode then breaks_join
    else (if is_closing c then closes_wrong
    else (if is_opening c then opens_too_deep
    else (if quotes_specification mode c then ends_specification
    else begins_nothing)))))

-- the byte where the machine stands, where the open piece starts, and where the field opened whose specification is open, or
-- whose code is
abbrev pub here : FieldScanned → ℕ
here s = byte_len (before (text_place s.mode) s.outer ++ (spelled s.done ++ s.held))

abbrev pub piece_start : FieldScanned → ℕ
piece_start s = byte_len (before (text_place s.mode) s.outer ++ spelled s.done)

abbrev pub field_start : FieldScanned → ℕ
field_start s = byte_len (before literal s.outer) - 1

-- the byte of the fault of a character that is refused for this cause
abbrev pub cause_place : FieldScanned → Cause → ℕ
cause_place s brace_too_deep = here s - 1
cause_place s breaks_string = piece_start s
cause_place s breaks_join = piece_start s
cause_place s closes_wrong = here s
cause_place s opens_too_deep = here s
cause_place s ends_specification = field_start s
cause_place s begins_nothing = here s

-- what is open at the end of code: a bracket of the innermost list, or the field whose code it is
abbrev pub unfinished_code : List Level → List ℕ → Option Unfinished
unfinished_code outer (o ∷ os) = Some open_bracket
unfinished_code [] [] = None
unfinished_code (l ∷ ls) [] = Some open_inside

-- in a literal part: the string, unless a `{` stands at the end, which would open a field
abbrev pub unfinished_literal : Host → At → ℕ → Unfinished
unfinished_literal host after_brace depth = if nat_lt depth 200 then open_inside else open_brace
unfinished_literal host at depth = if host.is_long then open_long else open_short

-- and in each mode
abbrev pub unfinished_in : List Level → List ℕ → FieldMode → Option Unfinished
unfinished_in outer openers (plain m) =
    if in_short m then Some open_short
    else (if in_long m then Some open_long
    else (if is_after_backslash m then Some open_join
    else unfinished_code outer openers))
unfinished_in outer openers (opened host) = Some open_short
unfinished_in outer openers (empty host) = unfinished_code outer openers
unfinished_in outer openers (body host literal named at) = Some (unfinished_literal host at (length openers + levels_open outer))
unfinished_in outer openers (body host specification named at) = Some open_inside

abbrev pub unfinished_at : FieldScanned → Option Unfinished
unfinished_at s = unfinished_in s.outer s.openers s.mode

-- the byte of the fault of a text that ends where this is open, if it is no bracket
abbrev pub unfinished_place : FieldScanned → Unfinished → ℕ
unfinished_place s open_brace = here s - 1
unfinished_place s open_inside = if is_waiting s.mode then here s - 1 else field_start s
unfinished_place s other = piece_start s
