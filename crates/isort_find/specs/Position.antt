-- Where a finder stands in its text, and what that says of the text.
use Rattle.std.specs.Prelude.{◌≡◌, ℕ, Bool, true, false, not, ◌⊎◌, Some, List, [], ◌∷◌, ◌++◌, length}
use Rattle.std.specs.List.{list_all}
use Rattle.py_lines.specs.LogicalLine.{LogicalLine}
use Rattle.py_lines.specs.Lexed.{IsLexed, BeginsLexing}
use Rattle.py_lines.specs.Reader.{HasGiven, standing_at}
use Rattle.py_lines.specs.declared.fault.Fault.{Fault}
use Rattle.py_imports.specs.BindingValue.{BindingValue}
use Rattle.py_imports.specs.Binds.{Binds, BindAll, IsBadAt}
use Rattle.isort_find.specs.Found.{firsts, ends_top, IsFound}
use Rattle.isort_find.specs.Lexing.{byte_count, LineAt}
use Rattle.isort_find.specs.Pending.{PendingState}
use Rattle.isort_find.specs.declared.options.FindOptions.{FindOptions}
use Rattle.isort_find.specs.declared.walker.Position.{Position}
use Rattle.isort_find.specs.declared.walker.Position.TheVariants as position
use Rattle.isort_find.specs.declared.walker.Phase.{Phase}
use Rattle.isort_find.specs.declared.walker.Phase.TheVariants as phase

-- whether a finder goes on, or has met the end of what counts or the text's fault
abbrev pub phase_in : Position → Phase
phase_in (position.End passed) = phase.End
phase_in (position.Fault fault) = phase.Fault fault
phase_in other = phase.Open

-- how many bindings of the next logical line were looked at
abbrev pub skip_in : Position → ℕ
skip_in (position.Between skip) = skip
skip_in (position.Unread start skip) = skip
skip_in other = 0

-- the bindings that are left of the logical line read last
abbrev pub left_in : Position → List BindingValue
left_in (position.Within pending) = pending.left
left_in other = []

-- whether a logical line was left unread
abbrev pub is_unread : Position → Bool
is_unread (position.Unread start skip) = true
is_unread other = false

-- whether any are left
abbrev pub are_left : List BindingValue → Bool
are_left [] = false
are_left (b ∷ bs) = true

-- whether something is to be given: a line that was left unread, or bindings that are left
abbrev pub ready_in : Position → Bool
ready_in (position.Unread start skip) = true
ready_in (position.Within pending) = are_left pending.left
ready_in other = false

-- Inside this logical line of the text, which comes after these lines: some of its bindings were looked at, and the others
-- are left. So far these bindings were found.
pub record IsInside (text : List ℕ) (options : FindOptions) (lines : List LogicalLine) (line : LogicalLine)
    (pending : PendingState) (values : List BindingValue) : Type 0 where
  pub before : List BindingValue
  pub part : List BindingValue
  pub begins : BeginsLexing text (lines ++ line ∷ [])
  pub start : HasGiven (standing_at text pending.start.offset pending.start.line) lines
  pub binds : BindAll lines before
  pub binds_line : Binds line (part ++ pending.left)
  pub taken : pending.taken ≡ length part
  pub in_top : list_all (λ l. not (ends_top options l)) lines ≡ true
  pub line_in_top : ends_top options line ≡ false
  pub found : values ≡ firsts options.unique [] (before ++ part)

-- where a binding comes from: its logical line begins at this byte
abbrev pub BindsFrom : List ℕ → ℕ → BindingValue → Type 0
BindsFrom text offset b =
    LineAt text offset (λ line. (earlier : List BindingValue) × (later : List BindingValue) × Binds line (earlier ++ b ∷ later))

-- where a finder ends: after the text, or at the logical line that ends the top
abbrev pub MeetsEndAt : List ℕ → FindOptions → ℕ → Type 0
MeetsEndAt text options offset = (offset ≡ length text) ⊎ LineAt text offset (λ line. ends_top options line ≡ true)

-- where a finder meets a fault: at the bad logical line, or after the lines before a lexical fault
abbrev pub MeetsFaultAt : List ℕ → ℕ → Fault → Type 0
MeetsFaultAt text offset fault =
    LineAt text offset (λ line. IsBadAt line fault)
    ⊎ ((lines : List LogicalLine) × IsLexed text lines (Some fault) × (byte_count lines ≡ offset))

-- what is found ends in this fault, which is met at this byte
abbrev pub EndsInFaultAt : List ℕ → FindOptions → List BindingValue → ℕ → Fault → Type 0
EndsInFaultAt text options values offset fault = IsFound text options values (Some fault) × MeetsFaultAt text offset fault
