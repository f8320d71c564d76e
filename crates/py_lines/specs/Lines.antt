-- What a `Lines` is to its callers, and what each call of `next_unit` leaves.
use Rattle.std.specs.Prelude.{◌≡◌, ℕ, ◌+◌, ◌<◌, ◌≤◌, Option, None, Some, Result, Ok, Err, List, [], ⊤}
use Rattle.std.specs.Borrow.{follows_so, MutBor, Fml}
use mathlib.Core.Option.{none}
use mir.Syntax.{named}
use Rattle.py_lines.specs.Reader.{Reader, Continues, PassesLine, PassesLines, Ends, Fails, ReaderRunsOut}
use Rattle.py_lines.specs.LogicalLine.{LogicalLine}
use Rattle.py_lines.specs.declared.fault.LexError.{LexError}
use Rattle.py_lines.specs.declared.fault.LexError.TheVariants as lex
use Rattle.py_lines.specs.declared.unit.Unit as unit
use Rattle.py_lines.specs.declared.unit.Line as given
pub use Rattle.py_lines.specs.Outline.{IsLine, IsOutlineOf}
pub use Rattle.py_lines.specs.UnitLine.{line_in, outline_in}
use Rattle.py_lines.specs.declared.lines.Lines as lines
use Rattle.py_lines.specs.contracts.lines.Lines as lines_rows

-- What a call that reads the next unit answers, from one state to the next. A unit continues the lines given so
-- far; None is the end, and a fault is the text's, after the lines given; Memory leaves all as it was.
abbrev pub ReadsNext : Reader → Result (Option unit.Unit) LexError → Reader → Type 0
ReadsNext old (Ok (Some u)) new = Continues old (line_in u) new
ReadsNext old (Ok None) new = Ends old new
ReadsNext old (Err (lex.Fault f)) new = Fails old f new
ReadsNext old (Err lex.Memory) new = ReaderRunsOut old new

-- What a call that gives the next line without its tokens answers. It takes no memory.
abbrev pub ReadsNextLine : Reader → Result (Option given.Line) LexError → Reader → Type 0
ReadsNextLine old (Ok (Some l)) new = (line : LogicalLine) × IsOutlineOf (outline_in l) line × PassesLine old line new
ReadsNextLine old (Ok None) new = Ends old new
ReadsNextLine old (Err (lex.Fault f)) new = Fails old f new
ReadsNextLine old (Err lex.Memory) new = ⊥

-- what a call that reads the tokens of a line answers: the logical line with them, or there is no memory for them
abbrev pub ReadsTokens : given.Line → Result unit.Unit LexError → Type 0
ReadsTokens l (Ok u) = (line : LogicalLine) → IsOutlineOf (outline_in l) line → line_in u ≡ line
ReadsTokens l (Err e) = e ≡ lex.Memory

-- What a call that passes over lines answers: so many bytes, which are these logical lines, one after another, and end no later than
-- this byte; or none, and nothing changed.
pub record PassesUpTo (old : Reader) (before len : ℕ) (new : Reader) : Type 0 where
  pub lines : List LogicalLine
  pub passes : PassesLines old lines new
  pub place : new.place ≡ old.place + len
  pub within : 0 < len → new.place ≤ before
  pub same : len ≡ 0 → new ≡ old

-- what `next_unit` answers, and the reader that it leaves once the unit is given back
abbrev pub LeavesNext : MutBor lines.Lines → Result (Option unit.Unit) LexError → Fml
LeavesNext self result =
    let row = lines_rows.the_row (record { mir = named 0; lft = [] }) in
    follows_so row row self.ghost_name none (λ _ _. ⊤) (λ new. ReadsNext self.now result new)

-- what `tokens` answers, and the reader that it leaves once the unit is given back: it is as it was
abbrev pub LeavesTokens : MutBor lines.Lines → given.Line → Result unit.Unit LexError → Fml
LeavesTokens self line result =
    let row = lines_rows.the_row (record { mir = named 0; lft = [] }) in
    follows_so row row self.ghost_name none (λ _ _. ⊤) (λ new. (new ≡ self.now) × ReadsTokens line result)
