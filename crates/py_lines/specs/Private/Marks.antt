-- Bytes that aren't plain, and where they stand, in blocks of 64.
use Rattle.std.specs.Prelude.{◌≡◌, ℕ, ◌+◌, ◌-◌, ◌<◌, ◌≤◌, Bool, true, false, ◌==◌, ◌&&◌, ◌||◌, not, nat_lt, nat_le}
use Rattle.std.specs.Prelude.{Option, None, Some, List, length, drop, slice_index}
use Rattle.std.specs.Int.{bit_at}
use Rattle.std.specs.Int.Count.{ones}
use Rattle.std.specs.List.{count_by}
use Rattle.memchr.specs.Find.{is_byte}
use Rattle.py_lines.specs.Character.{is_backslash, is_hash, is_line_feed, is_operator, is_quote, is_return, is_space}
use Rattle.py_lines.specs.Balance.{is_closing, is_opening}
use Rattle.py_lines.specs.Private.LineEnds.{CountsTo}
use Rattle.py_lines.specs.Private.Run.{is_apart, is_ascii_word}
use Rattle.py_lines.specs.declared.class.Class.{Class}
use Rattle.py_lines.specs.declared.class.Class.TheVariants as class
use Rattle.py_lines.specs.declared.marks.Marks.{Marks}

-- what opens and closes nothing outside strings and comments: bytes of words, space, and operators that are no brackets
unfoldable pub is_plain : ℕ → Bool
is_plain c = is_ascii_word c || (is_space c || (is_operator c && not (is_opening c || is_closing c)))

-- ASCII that begins no piece
unfoldable pub begins_nothing : ℕ → Bool
begins_nothing c = nat_lt c 128 && not (is_plain c || (is_operator c || (is_quote c || is_apart c)))

-- as many bits are set as LF stand in the first 64 bytes
abbrev pub CountsFeeds : List ℕ → ℕ → Type 0
CountsFeeds bytes mask = ones mask + count_by (is_byte 10) (drop 64 bytes) ≡ count_by (is_byte 10) bytes

-- whether a byte is of this class
abbrev pub is_of_class : Class → ℕ → Bool
is_of_class class.Word b = is_ascii_word b
is_of_class class.Space b = is_space b
is_of_class class.Operator b = is_operator b && not (is_opening b || is_closing b)
is_of_class class.Opening b = is_opening b
is_of_class class.Closing b = is_closing b
is_of_class class.Quote b = is_quote b
is_of_class class.LineFeed b = is_line_feed b
is_of_class class.Return b = is_return b
is_of_class class.Hash b = is_hash b
is_of_class class.Backslash b = is_backslash b
is_of_class class.Wide b = nat_le 128 b
is_of_class class.Other b = begins_nothing b

-- whether this bit of a number is set
unfoldable pub is_set : ℕ → ℕ → Bool
is_set bits k = bit_at bits k == 1

-- whether a byte that isn't plain stands at this place of the text, and the text is not passed so far
abbrev pub is_mark : List ℕ → ℕ → ℕ → Bool
is_mark text from k = nat_le from k && (nat_lt k (length text) && not (is_plain (slice_index text k)))

-- whether LF stands at this place of the text
abbrev pub is_feed : List ℕ → ℕ → Bool
is_feed text k = nat_lt k (length text) && is_line_feed (slice_index text k)

-- the marks are those of the text that is passed up to this byte
pub record HasMarks (text : List ℕ) (from : ℕ) (marks : Marks) : Type 0 where
  pub base : marks.base ≤ from
  pub within : from ≤ length text
  pub reach : from ≤ marks.base + 64
  pub bits : (k : ℕ) → k < 64 → is_set marks.bits k ≡ is_mark text from (marks.base + k)
  pub feeds : (k : ℕ) → k < 64 → is_set marks.feeds k ≡ is_feed text (marks.base + k)

-- a byte that isn't plain stands at this place
abbrev pub IsSpecial : List ℕ → ℕ → Type 0
IsSpecial text place = (place < length text) × (is_plain (slice_index text place) ≡ false)

-- the next byte from there on that isn't plain stands at this place, or the text ends there; it is passed
pub record FindsNext (text : List ℕ) (from at : ℕ) (marks : Marks) : Type 0 where
  pub after : from ≤ at
  pub within : at ≤ length text
  pub plain : (i : ℕ) → from ≤ i → i < at → is_plain (slice_index text i) ≡ true
  pub special : at < length text → is_plain (slice_index text at) ≡ false
  pub rest : at < length text → HasMarks text (at + 1) marks
  pub held : at < length text → (marks.base ≤ at) × (at < marks.base + 64)

-- the bytes between these places of a text are plain
abbrev pub ArePlain : List ℕ → ℕ → ℕ → Type 0
ArePlain text from to = (i : ℕ) → from ≤ i → i < to → i < length text → is_plain (slice_index text i) ≡ true

-- the bytes between these places are plain or LF, and the last of them is LF
pub record EndInFeed (text : List ℕ) (from to : ℕ) : Type 0 where
  pub further : from < to
  pub within : to ≤ length text
  pub each : (i : ℕ) → from ≤ i → i < to → (is_plain (slice_index text i) || is_line_feed (slice_index text i)) ≡ true
  pub last : is_line_feed (slice_index text (to - 1)) ≡ true

-- bytes up to the last LF before any other byte that isn't plain are passed, if LF stands there, with so many line ends; the marks are of
-- the same 64 bytes
pub record PassesFeedsTo (text : List ℕ) (from : ℕ) (old : Marks) (to feeds : ℕ) (new : Marks) : Type 0 where
  pub base : new.base ≡ old.base
  pub ends : EndInFeed text from to
  pub marked : HasMarks text to new
  pub counted : CountsTo text from to feeds

abbrev pub PassesFeeds : List ℕ → ℕ → Marks → Option (ℕ × ℕ) → Marks → Type 0
PassesFeeds text from old None new = new ≡ old
PassesFeeds text from old (Some r) new = PassesFeedsTo text from old r.0 r.1 new

-- the marks go on to the next 64 bytes, as all that are left of these are plain, or these have a mark, or are the last
abbrev pub Advances : List ℕ → Marks → Bool → Marks → Type 0
Advances text old true new = (from : ℕ) → HasMarks text from old
    → ArePlain text from (old.base + 64) × HasMarks text (old.base + 64) new
Advances text old false new = (new ≡ old) × (old.bits ≡ 0 → length text ≤ old.base + 64)
