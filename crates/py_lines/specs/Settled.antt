-- What the bytes that are known of a text decide, whatever follows them: its first logical lines, and some faults.
use Rattle.std.specs.Prelude.{◌≡◌, ℕ, ◌⊎◌, false, List, [], ◌++◌}
use Rattle.std.specs.Str.{StartsWithNoChar}
use Rattle.py_lines.specs.Character.{is_return}
use Rattle.py_lines.specs.Piece.{Piece, ends, spelled}
use Rattle.py_lines.specs.LogicalLine.{LogicalLine, lines_of}
use Rattle.py_lines.specs.Reading.{Decodes, EndsLine, IsLongest}
use Rattle.py_lines.specs.Faults.{IsCharacterFault, IsLexicalFault}
use Rattle.py_lines.specs.declared.fault.FaultKind.{FaultKind}
use Rattle.py_lines.specs.declared.fault.FaultKind.TheVariants.{BadUtf8}
use Rattle.py_lines.specs.declared.fault.Fault.{Fault}

-- the pieces are none, or end a line, and stay so whatever comes after these bytes: a CR at their end may get LF (2.1.2)
abbrev pub EndsForGood : List Piece → List ℕ → Type 0
EndsForGood pieces rest = EndsLine pieces × (rest ≡ [] → ends is_return (spelled pieces) ≡ false)

-- a prefix that ends a line for good, where these bytes follow the characters
abbrev pub IsSettledPrefix : List Piece → List ℕ → List ℕ → Type 0
IsSettledPrefix pieces characters tail = IsLongest (λ others after. EndsForGood others (after ++ tail)) pieces characters

-- the logical lines that these bytes settle: every text that begins with them begins with these lines
pub record IsSettled (text : List ℕ) (lines : List LogicalLine) : Type 0 where
  pub characters : List ℕ
  pub tail : List ℕ
  pub pieces : List Piece
  pub decodes : Decodes text characters tail
  pub prefix : IsSettledPrefix pieces characters tail
  pub cut : lines ≡ lines_of pieces

-- bytes that begin no character, and that no bytes after them complete
abbrev pub IsHopeless : List ℕ → Type 0
IsHopeless tail = (more : List ℕ) → StartsWithNoChar (tail ++ more)

-- whether a fault stays, whatever follows: it stands at a character, or at bytes that nothing completes
abbrev pub StaysFaulty : FaultKind → List ℕ → List ℕ → ℕ → Type 0
StaysFaulty kind characters tail offset = IsCharacterFault kind characters offset ⊎ ((kind ≡ BadUtf8) × IsHopeless tail)

-- these bytes have a lexical fault that every text has which begins with them
pub record Decides (text : List ℕ) (fault : Fault) : Type 0 where
  pub characters : List ℕ
  pub tail : List ℕ
  pub decodes : Decodes text characters tail
  pub refused : IsLexicalFault characters tail fault
  pub stays : StaysFaulty fault.kind characters tail fault.offset

-- these bytes decide no fault
abbrev pub DecideNone : List ℕ → Type 0
DecideNone text = (fault : Fault) → ¬ (Decides text fault)
