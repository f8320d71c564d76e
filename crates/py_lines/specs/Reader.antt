-- The state of a reader of logical lines: the text, how far it has been given, on which line, and its fault once met.
pub mod View
use Rattle.std.specs.Prelude.{◌≡◌, ℕ, ◌+◌, ◌<◌, ◌≤◌, Option, None, Some, List, [], ◌∷◌, ◌++◌, length, slice_range}
use Rattle.std.specs.Str.{IsUtf8}
use Rattle.py_lines.specs.LogicalLine.{LogicalLine}
use Rattle.py_lines.specs.Lexed.{IsLexed, BeginsLexing}
use Rattle.py_lines.specs.Given.{AreFirstLines}
use Rattle.py_lines.specs.declared.fault.Fault.{Fault}

-- `place` is the byte up to which units were given, and `line` is its line
pub record Reader : Type 0 where
  pub text : List ℕ
  pub place : ℕ
  pub line : ℕ
  pub fault : Option Fault

-- a reader at this byte of the text, on this line
abbrev pub standing_at : List ℕ → ℕ → ℕ → Reader
standing_at text place line = record { text = text; place = place; line = line; fault = None }

-- a reader at the text's start
abbrev pub at_start : List ℕ → Reader
at_start text = standing_at text 0 1

-- these are the first logical lines of the reader's text, up to its place and line, and no fault was met yet
pub record HasGiven (reader : Reader) (lines : List LogicalLine) : Type 0 where
  pub first : AreFirstLines reader.text reader.place reader.line lines
  pub no_fault : reader.fault ≡ None

-- where the text's first logical lines reach to this byte, which is on this line, the reader stands after them
abbrev pub GoesOnAt : List ℕ → ℕ → ℕ → Reader → Type 0
GoesOnAt text offset line reader =
    (lines : List LogicalLine) → HasGiven (standing_at text offset line) lines → reader ≡ standing_at text offset line

-- one more logical line is given, and the lines still begin the lexing of the whole text
pub record Continues (old : Reader) (line : LogicalLine) (new : Reader) : Type 0 where
  pub given : (lines : List LogicalLine) → HasGiven old lines → HasGiven new (lines ++ line ∷ [])
  pub begins : (lines : List LogicalLine) → HasGiven old lines → BeginsLexing new.text (lines ++ line ∷ [])
  pub text : new.text ≡ old.text
  pub place : new.place ≡ old.place + length line.text
  pub some_text : 0 < length line.text
  pub within : new.place ≤ length new.text
  pub fault : old.fault ≡ None
  pub no_fault : new.fault ≡ None

-- one more logical line is given, and its bytes are the text's from the place before to the place after
pub record PassesLine (old : Reader) (line : LogicalLine) (new : Reader) : Type 0 where
  pub continues : Continues old line new
  pub text : line.text ≡ slice_range old.text old.place new.place
  pub utf8 : IsUtf8 line.text

-- these logical lines are given so, one after another
abbrev pub PassesLines : Reader → List LogicalLine → Reader → Type 0
PassesLines old [] new = new ≡ old
PassesLines old (line ∷ lines) new = (mid : Reader) × PassesLine old line mid × PassesLines mid lines new

-- all logical lines were given, and the text has no fault
pub record Ends (old new : Reader) : Type 0 where
  pub all : (lines : List LogicalLine) → HasGiven old lines → IsLexed old.text lines None
  pub place : old.place ≡ length old.text
  pub fault : old.fault ≡ None
  pub same : new ≡ old

-- All logical lines before the fault were given, and it is the text's; it is kept for good. A fault that wasn't known
-- before stands where text is left, so the text's end is for good too.
pub record Fails (old : Reader) (fault : Fault) (new : Reader) : Type 0 where
  pub all : (lines : List LogicalLine) → HasGiven old lines → IsLexed old.text lines (Some fault)
  pub again : (first : Fault) → old.fault ≡ Some first → fault ≡ first
  pub more : old.fault ≡ None → old.place < length old.text
  pub text : new.text ≡ old.text
  pub place : new.place ≡ old.place
  pub line : new.line ≡ old.line
  pub kept : new.fault ≡ Some fault

-- There was no memory for the next logical line: nothing changed. It is answered before the text's end alone, and
-- not where the fault is known.
pub record ReaderRunsOut (old new : Reader) : Type 0 where
  pub same : new ≡ old
  pub more : old.place < length old.text
  pub fault : old.fault ≡ None
