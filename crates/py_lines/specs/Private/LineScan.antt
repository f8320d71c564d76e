-- How far the scan of one logical line has come, in the words of the machine. It serves the contracts of private functions.
use Rattle.std.specs.Prelude.{◌≡◌, ℕ, ◌==◌, ◌&&◌, not, Bool, true, false, None, List, [], ◌∷◌, ◌++◌, encode_utf8, encode_utf8_all, ◌⊎◌}
use Rattle.std.specs.Str.{all_scalars, StartsWithNoChar}
use Rattle.std.specs.Char.{IsScalar}
use Rattle.py_lines.specs.Character.{is_return, is_line_feed}
use Rattle.py_lines.specs.Piece.{line_end, Piece, ends, spelled, begins, begins_marked}
use Rattle.py_lines.specs.Balance.{IsBalanced, depth_after, depth_through}
use Rattle.py_lines.specs.Fields.{AreReadBefore, IsShallow}
use Rattle.py_lines.specs.LogicalLine.{byte_len, is_line_end_class}
use Rattle.py_lines.specs.Private.Machine.{Mode}
use Rattle.py_lines.specs.Private.Mode as modes
use Rattle.py_lines.specs.Private.FieldMachine.{FieldScanned, field_state, plain, room_step}
use Rattle.py_lines.specs.Private.Scan.{Goes, GoesOverAll, HasPending, IsFieldFault, Rests, StandsAs, has_returned, opened_at}
use Rattle.py_lines.specs.declared.mode.Mode.{Mode as OpenMode}
use Rattle.py_lines.specs.declared.mode.Mode.TheVariants as opens
use Rattle.py_lines.specs.declared.scan.LineFault.{LineFault}
use Rattle.py_lines.specs.declared.scan.Stop.{Stop}
use Rattle.py_lines.specs.declared.scan.Stop.TheVariants as stops
use Rattle.py_lines.specs.declared.scan.Scan.{Scan}

-- no line end stands at depth 0 in the pieces, which begin at this depth
abbrev pub EndsNoLine : ℕ → List Piece → Type 0
EndsNoLine d [] = Unit {0}
EndsNoLine d (p ∷ ps) = (is_line_end_class p.class && (d == 0) ≡ false) × EndsNoLine (depth_after d p) ps

-- whether a line begins in this mode
abbrev pub begins_line : Mode → Bool
begins_line modes.Start = true
begins_line modes.Free = true
begins_line other = false

-- the machine where nothing of a line is read, and this mode is open
abbrev pub line_begun : Mode → FieldScanned
line_begun m = field_state [] [] [] (plain m) []

-- the scan begins a line in this mode
abbrev pub first_open : Mode → OpenMode
first_open modes.Start = opens.Start
first_open other = opens.Free

abbrev pub HasBegun : Mode → Scan → Type 0
HasBegun m scan = scan ≡ opened_at (first_open m)

-- pieces of one line, which the last ends
pub record AreLine (body : List Piece) (last : Piece) (len : ℕ) : Type 0 where
  pub one_line : EndsNoLine 0 body
  pub class : last.class ≡ line_end
  pub level : depth_through 0 body ≡ 0
  pub size : len ≡ byte_len last.text

-- the machine has gone through these characters of a line, none of which ended it
pub record IsUnderWay (m : Mode) (read : List ℕ) : Type 0 where
  pub field : FieldScanned
  pub goes : Goes (line_begun m) read field

-- the scan of a text has come to `rest`
pub record Reached (m : Mode) (text : List ℕ) (scan : Scan) (rest : List ℕ) : Type 0 where
  pub read : List ℕ
  pub way : IsUnderWay m read
  pub rests : Rests scan way.field rest
  pub spell : encode_utf8_all read ++ rest ≡ text
  pub scalars : all_scalars read ≡ true

-- this holds of each text of which the scan has come to these bytes
abbrev pub WhereverReached : Scan → List ℕ → (Mode → List ℕ → Type 0) → Type 0
WhereverReached scan rest holds =
    (m : Mode) (whole : List ℕ) → begins_line m ≡ true → Reached m whole scan rest → holds m whole

-- it has come there in some line
abbrev pub ReachedInSomeLine : Scan → List ℕ → Type 0
ReachedInSomeLine scan rest =
    (m : Mode) × (whole : List ℕ) × (begins_line m ≡ true) × Reached m whole scan rest

-- these characters are a line with its line end, which may stand before what follows: a mark begins it at a text's start alone
pub record IsAtLineEnd (m : Mode) (scan : Scan) (read rest : List ℕ) (len : ℕ) : Type 0 where
  pub body : List Piece
  pub last : Piece
  pub are : AreLine body last len
  pub spell : spelled (body ++ last ∷ []) ≡ read
  pub fit : (after : List ℕ) → encode_utf8_all after ≡ rest → AreReadBefore (body ++ last ∷ []) after
  pub balanced : IsBalanced (body ++ last ∷ [])
  pub shallow : IsShallow 0 (body ++ last ∷ [])
  pub unmarked : m ≡ modes.Free → begins_marked (body ++ last ∷ []) ≡ false
  pub stop : scan.stop ≡ byte_len read

-- LF doesn't follow CR
abbrev pub IsApart : List ℕ → List ℕ → Type 0
IsApart read after = ends is_return read ≡ true → begins is_line_feed after ≡ false

-- these characters are a line with its line end, whatever follows, except LF after CR
abbrev pub IsLineBefore : Mode → Scan → List ℕ → ℕ → Type 0
IsLineBefore m scan read len = (after : List ℕ) → IsApart read after → IsAtLineEnd m scan read (encode_utf8_all after) len

-- What follows a line's end: nothing is known of it after LF, and after CR there is a byte that is no LF.
abbrev pub EndsWhole : List ℕ → List ℕ → Type 0
EndsWhole read rest = (ends is_return read ≡ false) ⊎ ((b : ℕ) × (more : List ℕ) × (rest ≡ b ∷ more) × (b ≡ 10 → ⊥))

-- All characters of a text were gone over, up to bytes that begin none, and the line may go on. The scan stops there, or before the last
-- of them, which don't tell yet what they are: the state that it keeps count of goes over them, to one that stands as the machine does.
-- After CR that ends the line no byte is known.
pub record IsLeft (m : Mode) (whole : List ℕ) (scan : Scan) (read rest : List ℕ) : Type 0 where
  pub way : IsUnderWay m read
  pub none : StartsWithNoChar rest
  pub left : List ℕ
  pub reached : Reached m whole scan left
  pub pending : HasPending scan.mode left
  pub all : GoesOverAll reached.rests.as_if left
  pub rest_is : all.rest ≡ rest
  pub stands : StandsAs rest way.field all.to
  pub alone : has_returned all.to ≡ true → rest ≡ []

-- the machine refuses the character after these of a line, which hadn't ended before it with CR
pub record IsRefused (m : Mode) (read rest : List ℕ) (line_fault : LineFault) : Type 0 where
  pub way : IsUnderWay m read
  pub c : ℕ
  pub after : List ℕ
  pub scalar : IsScalar c
  pub spell : rest ≡ encode_utf8 c ++ after
  pub none : room_step way.field c ≡ None
  pub open_yet : has_returned way.field && not (is_line_feed c) ≡ false
  pub fault : IsFieldFault way.field c line_fault

-- the scan of a line that began with these bytes stops so, where it has gone over these characters of it, with `rest` after them
abbrev pub StopsIn : Mode → List ℕ → Scan → Stop → List ℕ → List ℕ → Type 0
StopsIn m whole scan stops.TextEnd read rest = IsLeft m whole scan read rest
StopsIn m whole scan (stops.LineEnd len) read rest = IsLineBefore m scan read len × EndsWhole read rest
StopsIn m whole scan (stops.Wrong line_fault) read rest = IsRefused m read rest line_fault

pub record ScansIn (m : Mode) (whole : List ℕ) (scan : Scan) (stop : Stop) : Type 0 where
  pub read : List ℕ
  pub rest : List ℕ
  pub scalars : all_scalars read ≡ true
  pub spell : encode_utf8_all read ++ rest ≡ whole
  pub stops : StopsIn m whole scan stop read rest
