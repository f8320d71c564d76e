-- Where the fault of a text stands, and of what kind it is. A text is live up to a place if some text that begins with what
-- stands before is read. The fault stands at the first character through which the text isn't live; else at the first
-- bytes that begin no character; else at the text's end (`IsFaultAt`). What is open at a place is said by OpenFields. It is
-- said of any dialect: where one of two names has `In` at its end, it takes a dialect, and the other speaks of texts with
-- fields.
use Rattle.std.specs.Prelude.{◌≡◌, ℕ, ◌+◌, ◌⊎◌, true, false, List, [], ◌∷◌, ◌++◌}
use Rattle.std.specs.Str.{byte, all_scalars}
use Rattle.py_lines.specs.Character.{is_break}
use Rattle.py_lines.specs.Piece.{Piece, spelled}
use Rattle.py_lines.specs.Balance.{is_opening, is_closing, is_opener, IsBalanced, depth_through}
use Rattle.py_lines.specs.Reading.{IsReadingIn, IsBalancedReading}
use Rattle.py_lines.specs.OpenFields.{Spot, MayOpen, IsOpenStringIn, AreBegunIn, BeginsListIn, InOpenShortIn, InOpenLongIn, AfterOpenBackslashIn, InSpecificationIn, InOpenFieldIn}
use Rattle.py_lines.specs.LogicalLine.{byte_len, line_ends}
use Rattle.py_lines.specs.declared.fault.FaultKind.{FaultKind}
use Rattle.py_lines.specs.declared.fault.FaultKind.TheVariants.{BadUtf8, BadChar, OpenString, OpenTriple, WrongClose, OpenBracket, BadJoin, TooDeep, OpenField}
use Rattle.py_lines.specs.declared.fault.Fault.{Fault}
use Rattle.py_lines.specs.FieldStrings.{Host, Place, literal, specification}
use Rattle.py_lines.specs.Dialect.{Dialect, fielded_dialect}

-- some text that begins with these characters is read
pub record IsLiveIn (dialect : Dialect) (characters : List ℕ) : Type 0 where
  pub more : List ℕ
  pub pieces : List Piece
  pub scalars : all_scalars more ≡ true
  pub reading : IsReadingIn dialect pieces (characters ++ more)

-- a character through which the text isn't live, although it is before that character
pub record DiesAtIn (dialect : Dialect) (characters before : List ℕ) (c : ℕ) : Type 0 where
  pub after : List ℕ
  pub spell : before ++ c ∷ after ≡ characters
  pub live : IsLiveIn dialect before
  pub dead : ¬ (IsLiveIn dialect (before ++ c ∷ []))

-- A string is open up to a spot at this place, where a field may open before these characters, with so many brackets and fields
-- open. The string starts after `start`.
pub record IsFieldDueIn (dialect : Dialect) (place : Place) (depth : ℕ) (characters after : List ℕ) : Type 0 where
  pub outside : List ℕ
  pub base : ℕ
  pub pieces : List Piece
  pub front : List ℕ
  pub host : Host
  pub spot : Spot
  pub list : BeginsListIn dialect outside (spelled pieces ++ (front ++ byte "{" ∷ after)) base
  pub begun : AreBegunIn dialect base pieces (front ++ byte "{" ∷ after)
  pub string : IsOpenStringIn dialect host spot front (byte "{" ∷ after)
  pub may : MayOpen spot after
  pub spell : outside ++ (spelled pieces ++ front) ≡ characters
  pub place_is : spot.place ≡ place
  pub deep : base + depth_through 0 pieces + spot.specifications ≡ depth

-- pieces of a list go up to the characters' end, before `c`, with so many brackets and fields open
pub record IsAtDepthIn (dialect : Dialect) (characters : List ℕ) (c depth : ℕ) : Type 0 where
  pub outside : List ℕ
  pub base : ℕ
  pub pieces : List Piece
  pub list : BeginsListIn dialect outside (spelled pieces ++ c ∷ []) base
  pub begun : AreBegunIn dialect base pieces (c ∷ [])
  pub spell : outside ++ spelled pieces ≡ characters
  pub deep : base + depth_through 0 pieces ≡ depth

-- The `{` of a literal part that stands directly before these characters opens a field at depth 200. That it isn't the first of
-- two braces is known only here.
pub record OpensBraceTooDeepIn (dialect : Dialect) (before after : List ℕ) (offset : ℕ) : Type 0 where
  pub start : List ℕ
  pub spell : start ++ byte "{" ∷ [] ≡ before
  pub due : IsFieldDueIn dialect literal 200 start after
  pub place : offset ≡ byte_len start

-- a short string is open at its specification
pub record InShortSpecificationIn (dialect : Dialect) (characters start : List ℕ) : Type 0 where
  pub host : Host
  pub field : List ℕ
  pub inside : InSpecificationIn dialect host characters field
  pub short : host.is_long ≡ false
  pub before : inside.string ≡ start

-- a bare line end in an open short string, or any in a specification of one: that string starts at this byte
pub record BreaksStringIn (dialect : Dialect) (before : List ℕ) (c offset : ℕ) : Type 0 where
  pub start : List ℕ
  pub breaks : is_break c ≡ true
  pub inside : InOpenShortIn dialect before start ⊎ InShortSpecificationIn dialect before start
  pub place : offset ≡ byte_len start

-- a character directly after a backslash outside strings and comments, which stands at this byte
pub record BreaksJoinIn (dialect : Dialect) (before : List ℕ) (offset : ℕ) : Type 0 where
  pub start : List ℕ
  pub after : AfterOpenBackslashIn dialect before start
  pub place : offset ≡ byte_len start

-- a closing bracket
pub record ClosesWrong (before : List ℕ) (c offset : ℕ) : Type 0 where
  pub closes : is_closing c ≡ true
  pub place : offset ≡ byte_len before

-- an opening bracket, or the `{` of a field in a specification, at depth 200
pub record OpensTooDeepIn (dialect : Dialect) (before : List ℕ) (c offset : ℕ) : Type 0 where
  pub opens : is_opening c ≡ true
  pub deep : IsAtDepthIn dialect before c 200 ⊎ ((c ≡ byte "{") × IsFieldDueIn dialect specification 200 before [])
  pub place : offset ≡ byte_len before

-- a quote that would close the string whose specification is open: its field opened at this byte
pub record EndsSpecificationIn (dialect : Dialect) (before : List ℕ) (c offset : ℕ) : Type 0 where
  pub host : Host
  pub start : List ℕ
  pub inside : InSpecificationIn dialect host before start
  pub quotes : c ≡ host.quote
  pub place : offset ≡ byte_len start

-- why a character is refused
pub data Cause : Type 0 where
  brace_too_deep : Cause
  breaks_string : Cause
  breaks_join : Cause
  closes_wrong : Cause
  opens_too_deep : Cause
  ends_specification : Cause
  begins_nothing : Cause

-- the kind of its fault
abbrev pub kind_of_cause : Cause → FaultKind
kind_of_cause brace_too_deep = TooDeep
kind_of_cause breaks_string = OpenString
kind_of_cause breaks_join = BadJoin
kind_of_cause closes_wrong = WrongClose
kind_of_cause opens_too_deep = TooDeep
kind_of_cause ends_specification = OpenField
kind_of_cause begins_nothing = BadChar

-- the cause fits this character after those before it, and its fault stands at this byte
abbrev pub ExplainsIn : Dialect → Cause → List ℕ → ℕ → ℕ → Type 0
ExplainsIn dialect brace_too_deep before c offset = OpensBraceTooDeepIn dialect before (c ∷ []) offset
ExplainsIn dialect breaks_string before c offset = BreaksStringIn dialect before c offset
ExplainsIn dialect breaks_join before c offset = BreaksJoinIn dialect before offset
ExplainsIn dialect closes_wrong before c offset = ClosesWrong before c offset
ExplainsIn dialect opens_too_deep before c offset = OpensTooDeepIn dialect before c offset
ExplainsIn dialect ends_specification before c offset = EndsSpecificationIn dialect before c offset
ExplainsIn dialect begins_nothing before c offset = offset ≡ byte_len before

-- the causes that go before it where several fit
abbrev pub causes_before : Cause → List Cause
causes_before brace_too_deep = []
causes_before breaks_string = brace_too_deep ∷ []
causes_before breaks_join = brace_too_deep ∷ breaks_string ∷ []
causes_before closes_wrong = brace_too_deep ∷ breaks_string ∷ breaks_join ∷ []
causes_before opens_too_deep = brace_too_deep ∷ breaks_string ∷ breaks_join ∷ closes_wrong ∷ []
causes_before ends_specification = brace_too_deep ∷ breaks_string ∷ breaks_join ∷ closes_wrong ∷ opens_too_deep ∷ []
causes_before begins_nothing = brace_too_deep ∷ breaks_string ∷ breaks_join ∷ closes_wrong ∷ opens_too_deep ∷ ends_specification ∷ []

-- none of these causes fits the character, at any byte
abbrev pub NoneExplainsIn : Dialect → List Cause → List ℕ → ℕ → Type 0
NoneExplainsIn dialect [] before c = Unit {0}
NoneExplainsIn dialect (cause ∷ causes) before c =
    ((offset : ℕ) → ¬ (ExplainsIn dialect cause before c offset)) × NoneExplainsIn dialect causes before c

-- the fault of a text at the first character through which it isn't live: the first cause that fits says its kind
pub record IsCharacterFaultIn (dialect : Dialect) (kind : FaultKind) (characters : List ℕ) (offset : ℕ) : Type 0 where
  pub cause : Cause
  pub before : List ℕ
  pub c : ℕ
  pub is : kind ≡ kind_of_cause cause
  pub dies : DiesAtIn dialect characters before c
  pub fits : ExplainsIn dialect cause before c offset
  pub first : NoneExplainsIn dialect (causes_before cause) before c

-- a bracket of the innermost list is open, after `start`: what follows it is balanced, and goes to the end of the characters
pub record InOpenBracketIn (dialect : Dialect) (characters start : List ℕ) : Type 0 where
  pub outside : List ℕ
  pub depth : ℕ
  pub outer : List Piece
  pub opener : Piece
  pub inner : List Piece
  pub list : BeginsListIn dialect outside (spelled (outer ++ opener ∷ inner)) depth
  pub begun : AreBegunIn dialect depth (outer ++ opener ∷ inner) []
  pub opens : is_opener opener ≡ true
  pub balanced : IsBalanced inner
  pub spell : outside ++ spelled (outer ++ opener ∷ inner) ≡ characters
  pub before : outside ++ spelled outer ≡ start

-- what may be open where a text ends
pub data Unfinished : Type 0 where
  open_brace : Unfinished
  open_short : Unfinished
  open_long : Unfinished
  open_join : Unfinished
  open_bracket : Unfinished
  open_inside : Unfinished

-- the kind of its fault
abbrev pub kind_of_unfinished : Unfinished → FaultKind
kind_of_unfinished open_brace = TooDeep
kind_of_unfinished open_short = OpenString
kind_of_unfinished open_long = OpenTriple
kind_of_unfinished open_join = BadJoin
kind_of_unfinished open_bracket = OpenBracket
kind_of_unfinished open_inside = OpenField

-- It is open where these characters end, and its fault stands at this byte: what was opened last decides. A field whose `{` stands
-- at the end is not open at depth 200.
abbrev pub IsOpenAtEndIn : Dialect → Unfinished → List ℕ → ℕ → Type 0
IsOpenAtEndIn dialect open_brace characters offset = OpensBraceTooDeepIn dialect characters [] offset
IsOpenAtEndIn dialect open_short characters offset =
    (start : List ℕ) × InOpenShortIn dialect characters start × (offset ≡ byte_len start)
IsOpenAtEndIn dialect open_long characters offset =
    (start : List ℕ) × InOpenLongIn dialect characters start × (offset ≡ byte_len start)
IsOpenAtEndIn dialect open_join characters offset =
    (start : List ℕ) × AfterOpenBackslashIn dialect characters start × (offset ≡ byte_len start)
IsOpenAtEndIn dialect open_bracket characters offset =
    (start : List ℕ) × InOpenBracketIn dialect characters start × (offset ≡ byte_len start)
IsOpenAtEndIn dialect open_inside characters offset =
    (start : List ℕ) × InOpenFieldIn dialect characters start × (offset ≡ byte_len start)
    × ((place : ℕ) → ¬ (OpensBraceTooDeepIn dialect characters [] place))

-- the fault of a text that is UTF-8 and live, but has no reading
pub record IsEndFaultIn (dialect : Dialect) (kind : FaultKind) (characters tail : List ℕ) (offset : ℕ) : Type 0 where
  pub unfinished : Unfinished
  pub is : kind ≡ kind_of_unfinished unfinished
  pub whole : tail ≡ []
  pub live : IsLiveIn dialect characters
  pub ends_in : IsOpenAtEndIn dialect unfinished characters offset

-- bytes that begin no character, after a text that is live up to them
pub record IsUndecodableIn (dialect : Dialect) (kind : FaultKind) (characters tail : List ℕ) (offset : ℕ) : Type 0 where
  pub is : kind ≡ BadUtf8
  pub bad : ¬ (tail ≡ [])
  pub live : IsLiveIn dialect characters
  pub place : offset ≡ byte_len characters

-- Where each fault stands. The place is the first character through which the text isn't live, among those
-- before the first bytes that begin no character; else those bytes; else the text's end.
pub data IsFaultAtIn (dialect : Dialect) (kind : FaultKind) (characters tail : List ℕ) (offset : ℕ) : Type 0 where
  at_character : IsCharacterFaultIn dialect kind characters offset → IsFaultAtIn dialect kind characters tail offset
  at_bytes : IsUndecodableIn dialect kind characters tail offset → IsFaultAtIn dialect kind characters tail offset
  at_end : IsEndFaultIn dialect kind characters tail offset → IsFaultAtIn dialect kind characters tail offset

-- the text has no reading, and this is its lexical fault: its line is that of its offset
pub record IsLexicalFaultIn (dialect : Dialect) (characters tail : List ℕ) (fault : Fault) : Type 0 where
  pub unread : tail ≡ [] → (pieces : List Piece) → ¬ (IsReadingIn dialect pieces characters)
  pub place : IsFaultAtIn dialect fault.kind characters tail fault.offset
  pub line : (before after : List ℕ) → before ++ after ≡ characters → byte_len before ≡ fault.offset → fault.line ≡ 1 + line_ends before

-- all these with fields
abbrev pub IsLive : List ℕ → Type 0
IsLive = IsLiveIn fielded_dialect

abbrev pub DiesAt : List ℕ → List ℕ → ℕ → Type 0
DiesAt = DiesAtIn fielded_dialect

abbrev pub IsFieldDue : Place → ℕ → List ℕ → List ℕ → Type 0
IsFieldDue = IsFieldDueIn fielded_dialect

abbrev pub IsAtDepth : List ℕ → ℕ → ℕ → Type 0
IsAtDepth = IsAtDepthIn fielded_dialect

abbrev pub OpensBraceTooDeep : List ℕ → List ℕ → ℕ → Type 0
OpensBraceTooDeep = OpensBraceTooDeepIn fielded_dialect

abbrev pub InShortSpecification : List ℕ → List ℕ → Type 0
InShortSpecification = InShortSpecificationIn fielded_dialect

abbrev pub BreaksString : List ℕ → ℕ → ℕ → Type 0
BreaksString = BreaksStringIn fielded_dialect

abbrev pub OpensTooDeep : List ℕ → ℕ → ℕ → Type 0
OpensTooDeep = OpensTooDeepIn fielded_dialect

abbrev pub Explains : Cause → List ℕ → ℕ → ℕ → Type 0
Explains = ExplainsIn fielded_dialect

abbrev pub NoneExplains : List Cause → List ℕ → ℕ → Type 0
NoneExplains = NoneExplainsIn fielded_dialect

abbrev pub IsCharacterFault : FaultKind → List ℕ → ℕ → Type 0
IsCharacterFault = IsCharacterFaultIn fielded_dialect

abbrev pub InOpenBracket : List ℕ → List ℕ → Type 0
InOpenBracket = InOpenBracketIn fielded_dialect

abbrev pub IsOpenAtEnd : Unfinished → List ℕ → ℕ → Type 0
IsOpenAtEnd = IsOpenAtEndIn fielded_dialect

abbrev pub IsEndFault : FaultKind → List ℕ → List ℕ → ℕ → Type 0
IsEndFault = IsEndFaultIn fielded_dialect

abbrev pub IsUndecodable : FaultKind → List ℕ → List ℕ → ℕ → Type 0
IsUndecodable = IsUndecodableIn fielded_dialect

-- where each fault stands, where strings hold fields
abbrev pub IsFaultAt : FaultKind → List ℕ → List ℕ → ℕ → Type 0
IsFaultAt = IsFaultAtIn fielded_dialect

-- the text has no reading, and this is its lexical fault, where strings hold fields
abbrev pub IsLexicalFault : List ℕ → List ℕ → Fault → Type 0
IsLexicalFault = IsLexicalFaultIn fielded_dialect

-- the text is read whole, or has a lexical fault
abbrev pub IsReadOrFaulty : List ℕ → List ℕ → Type 0
IsReadOrFaulty characters tail =
    ((tail ≡ []) × ((pieces : List Piece) × IsBalancedReading pieces characters))
    ⊎ ((kind : FaultKind) × (offset : ℕ) × IsFaultAt kind characters tail offset)
