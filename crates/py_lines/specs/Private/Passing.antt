-- Bytes of a line that are passed over at one that isn't plain: what that comes to, wherever in a line they stand.
use Rattle.std.specs.Prelude.{◌≡◌, ◌⊎◌, ℕ, ◌+◌, ◌-◌, ◌<◌, ◌≤◌, Bool, true, false, Option, None, Some, List, [], ◌∷◌, length, take, drop, slice_index, if◌then◌else◌}
pub use Rattle.py_lines.specs.Character.{is_hash, is_quote}
use Rattle.py_lines.specs.declared.frames.Frame.{Frame}
use Rattle.py_lines.specs.declared.marks.Marks.{Marks}
use Rattle.py_lines.specs.declared.mode.Mode.TheVariants as opens
use Rattle.py_lines.specs.declared.mode.Spelling.{Spelling}
use Rattle.py_lines.specs.declared.passing.Passing.{Passing}
use Rattle.py_lines.specs.declared.passing.Special.{Special}
use Rattle.py_lines.specs.declared.passing.Special.TheVariants as special
use Rattle.py_lines.specs.declared.scan.Progress.TheVariants as progress
use Rattle.py_lines.specs.declared.scan.Scan.{Scan}
use Rattle.py_lines.specs.Private.Frames.{has_field}
use Rattle.py_lines.specs.LogicalLine.{line_ends}
use Rattle.py_lines.specs.Private.Machine.{begins_string, first_spelling, is_field_spelling, spelling_with}
use Rattle.py_lines.specs.Private.Marks.{EndInFeed, PassesFeedsTo}
pub use Rattle.py_lines.specs.Private.Marks.{FindsNext, HasMarks}
use Rattle.py_lines.specs.Private.Run.{is_ascii_word}
pub use Rattle.py_lines.specs.Private.Run.{IsShortStringAt, is_line_byte}
use Rattle.py_lines.specs.Private.Scan.{Steps, Takes, passed, quotes_in}

-- the spelling of the word of ASCII that a text ends with, if it ends with one: with one more character or byte, and with more of them
abbrev pub tail_with : Option Spelling → ℕ → Option Spelling
tail_with None c = if is_ascii_word c then Some (first_spelling c) else None
tail_with (Some s) c = if is_ascii_word c then Some (spelling_with s c) else None

abbrev pub tail_on : Option Spelling → List ℕ → Option Spelling
tail_on tail [] = tail
tail_on tail (c ∷ cs) = tail_on (tail_with tail c) cs

abbrev pub tail_of : List ℕ → Option Spelling
tail_of text = tail_on None text

-- whether a string has fields that begins after plain bytes with this word at their end, if that is a prefix or there is none
abbrev pub TellsFields : Option Spelling → Option Bool → Type 0
TellsFields o None = Unit {0}
TellsFields None (Some has) = has ≡ false
TellsFields (Some s) (Some has) = (begins_string s ≡ true) × (has ≡ is_field_spelling s)

-- no byte was passed
abbrev pub nothing_passed : Marks → Passing
nothing_passed marks = record { all = 0; ends = 0; lines = 0; marks = marks }

-- the line ends of the bytes that were passed are counted: those of the others come on top
abbrev pub IsCounted : List ℕ → Passing → Type 0
IsCounted bytes p = p.ends + line_ends (drop p.all bytes) ≡ line_ends bytes

-- and so they are of bytes more
abbrev pub CountsOn : List ℕ → Passing → Passing → Type 0
CountsOn bytes old new = new.ends + line_ends (drop new.all bytes) ≡ old.ends + line_ends (drop old.all bytes)

-- the bytes up to this one were passed, with so many line ends in all
abbrev pub passed_to : Passing → ℕ → ℕ → Marks → Passing
passed_to old to ends marks = record old { all = to; ends = ends; marks = marks }

-- with a line end up to this byte a line ends, where nothing is open
abbrev pub lines_with : List Frame → ℕ → ℕ → ℕ
lines_with [] old to = to
lines_with (f ∷ fs) old to = old

-- the bytes up to this one were passed, with a line end at their end
abbrev pub passed_line_end : List Frame → Passing → ℕ → Passing
passed_line_end fs old to = record old { all = to; ends = old.ends + 1; lines = lines_with fs old.lines to }

-- bytes up to this one, which is after LF, were passed, with so many line ends in all
abbrev pub passed_feeds : List Frame → Passing → ℕ → ℕ → Marks → Passing
passed_feeds fs old to ends marks = record { all = to; ends = ends; lines = lines_with fs old.lines to; marks = marks }

-- LF of the 64 bytes of the marks were passed, with all that stand before the last of them, or none
abbrev pub PassesBlock : List ℕ → ℕ → List Frame → Passing → Passing → Type 0
PassesBlock bytes from fs old new =
    (new ≡ old)
    ⊎ ((to feeds : ℕ) × PassesFeedsTo bytes from old.marks to feeds new.marks × (new ≡ passed_feeds fs old to (old.ends + feeds) new.marks))

-- the word that the bytes from the passed ones to this one end with
abbrev pub word_before : List ℕ → ℕ → Passing → Option Spelling
word_before bytes at p = tail_of (take (at - p.all) (drop p.all bytes))

-- the next byte that isn't plain is the first of so many quotes
pub record MeetsString (bytes : List ℕ) (at : ℕ) (p : Passing) (quotes : ℕ) : Type 0 where
  pub next : FindsNext bytes p.all at p.marks
  pub within : at < length bytes
  pub quote : is_quote (slice_index bytes at) ≡ true
  pub many : Some quotes ≡ quotes_in (drop at bytes)

-- no LF was passed, or bytes up to one were, with all that stand before it; and then the marks stand where these do
abbrev pub PassesLineFeeds : List ℕ → List Frame → Passing → Passing → Type 0
PassesLineFeeds bytes fs old new =
    (new ≡ record old { marks = new.marks })
    ⊎ (EndInFeed bytes old.all new.all × CountsOn bytes old new × (new ≡ passed_feeds fs old new.all new.ends new.marks))

-- the next byte that isn't plain stands at this place, or the bytes end there; lines that end with LF before it were passed
pub record FindsSpecial (bytes : List ℕ) (fs : List Frame) (old : Passing) (at : ℕ) (new : Passing) : Type 0 where
  pub passes : PassesLineFeeds bytes fs old new
  pub next : FindsNext bytes new.all at new.marks

-- what a line end comes to, where nothing is open or something is
abbrev pub line_end_special : List Frame → ℕ → Special
line_end_special [] len = special.LineEnd len
line_end_special (f ∷ fs) len = special.Passed

-- the scan with other frames
abbrev pub with_frames : Scan → List Frame → Scan
with_frames old fs = record old { frames = fs }

-- the scan stands at this byte of its line in code outside fields, with these frames
pub record StandsFree (start : ℕ) (fs : List Frame) (scan : Scan) : Type 0 where
  pub mode : scan.mode ≡ opens.Free
  pub stop : scan.stop ≡ start
  pub frames : scan.frames ≡ fs
  pub outside : has_field fs ≡ false

-- so many bytes of these can be passed: each scan that stands so before them stands so after them, with these frames
abbrev pub Passes : List ℕ → ℕ → ℕ → List Frame → List Frame → Type 0
Passes bytes len start before after =
    (scan : Scan) → StandsFree start before scan → Takes scan bytes len (passed (with_frames scan after) len)

-- What stands at a byte, which in its line is this one, was passed, with the plain bytes before it, where these frames are open; and then
-- those are.
pub record PassesSo (bytes : List ℕ) (at place : ℕ) (old : Passing) (b : List Frame) (new : Passing) (c : List Frame) : Type 0 where
  pub further : at < new.all
  pub within : new.all ≤ length bytes
  pub lines : new.lines ≡ old.lines
  pub counted : CountsOn bytes old new
  pub marked : HasMarks bytes new.all new.marks
  pub outside : has_field b ≡ false → has_field c ≡ false
  pub over : (start : ℕ) → place ≡ start + (at - old.all) → Passes (drop old.all bytes) (new.all - old.all) start b c

-- so a piece that leaves all frames as they are
abbrev pub PassesPiece : List ℕ → ℕ → Passing → Passing → Type 0
PassesPiece bytes at old new = (place : ℕ) (b : List Frame) → PassesSo bytes at place old b new b

-- a scan that stands so before bytes goes over so many of them, and the next are a line end of so many, which ends the line: the scan stops
-- after it
pub record EndsAfter (scan : Scan) (bytes : List ℕ) (before len : ℕ) (new : Scan) : Type 0 where
  pub mid : Scan
  pub takes : Takes scan bytes before mid
  pub ends : Steps mid (drop before bytes) (progress.LineEnded len) new

-- a line end of so many bytes was passed, which ends the line: nothing is open
pub record EndsLineSo (bytes : List ℕ) (at : ℕ) (old : Passing) (b : List Frame) (len : ℕ) (new : Passing) (c : List Frame) : Type 0 where
  pub all : new.all ≡ at + len
  pub within : new.all ≤ length bytes
  pub lines : new.lines ≡ new.all
  pub counted : CountsOn bytes old new
  pub marked : HasMarks bytes new.all new.marks
  pub some : 0 < len
  pub frames : c ≡ []
  pub over : (start : ℕ) (scan : Scan) → StandsFree start b scan
      → EndsAfter scan (drop old.all bytes) (at - old.all) len (passed (with_frames scan c) (new.all - old.all))

-- what a byte that isn't plain comes to
abbrev pub PassesSpecial : List ℕ → ℕ → ℕ → Passing → List Frame → Special → Passing → List Frame → Type 0
PassesSpecial bytes at place old b special.Unpassed new c = (new ≡ old) × (c ≡ b)
PassesSpecial bytes at place old b special.Passed new c = PassesSo bytes at place old b new c
PassesSpecial bytes at place old b (special.LineEnd len) new c = EndsLineSo bytes at old b len new c
