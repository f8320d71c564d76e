-- What the scan of a line keeps of what is open, in the words of the machine with fields. It serves the contracts of private
-- functions. The scan takes items of one character or more, and the machine characters. Where pieces end before the next byte, as an
-- empty string does before another byte than its quote, the scan has closed them, and the machine does so with that byte's character.
use Rattle.std.specs.Prelude.{◌≡◌, ℕ, ◌+◌, ◌-◌, ◌<◌, ◌==◌, ◌||◌, ◌&&◌, ◌⊎◌, not, nat_lt, Bool, true, false, Option, None, Some, Result, Ok, Err, List, [], ◌∷◌, ◌++◌, length, drop, map, slice_index, encode_utf8, encode_utf8_all, if◌then◌else◌}
use Rattle.std.specs.Char.{IsScalar}
pub use Rattle.std.specs.Char.{len_utf8}
use Rattle.std.specs.Str.{all_scalars, byte, StartsWithNoChar}
use Rattle.py_lines.specs.Character.{is_break, is_line_feed, is_mark, is_space, is_word_character}
pub use Rattle.py_lines.specs.Character.{is_backslash, is_operator, is_quote}
use Rattle.py_lines.specs.LogicalLine.{byte_len}
use Rattle.py_lines.specs.Faults.{kind_of_cause, Unfinished, open_bracket, kind_of_unfinished}
use Rattle.py_lines.specs.Piece.{Piece, spelled}
pub use Rattle.py_lines.specs.Piece.{begins}
use Rattle.py_lines.specs.FieldStrings.{Host, Place, literal, specification}
use Rattle.py_lines.specs.declared.fault.FaultKind.{FaultKind}
use Rattle.py_lines.specs.declared.fault.FaultKind.TheVariants.{BadUtf8}
use Rattle.py_lines.specs.declared.frames.OpenField.{OpenField}
use Rattle.py_lines.specs.declared.frames.Frame.{Frame}
use Rattle.py_lines.specs.declared.frames.Frame.TheVariants as frame
use Rattle.py_lines.specs.declared.mode.StringWithFields.{StringWithFields}
use Rattle.py_lines.specs.declared.mode.Region.{Region}
use Rattle.py_lines.specs.declared.mode.Region.TheVariants as regions
use Rattle.py_lines.specs.declared.mode.Mode.{Mode as OpenMode}
use Rattle.py_lines.specs.declared.mode.Mode.TheVariants as opens
use Rattle.py_lines.specs.declared.mode.Spelling.{Spelling}
use Rattle.py_lines.specs.declared.mode.Spelling.TheVariants as spellings
use Rattle.py_lines.specs.declared.scan.LineFault.{LineFault}
use Rattle.py_lines.specs.declared.scan.Scan.{Scan}
use Rattle.py_lines.specs.declared.scan.Progress.{Progress}
use Rattle.py_lines.specs.declared.scan.Progress.TheVariants as progress
use Rattle.py_lines.specs.declared.string_text.TextMove.{TextMove}
use Rattle.py_lines.specs.declared.string_text.TextMove.TheVariants as text_moves
use Rattle.py_lines.specs.Private.Frames.{has_field}
use Rattle.py_lines.specs.Private.Machine.{Holds, Bracket, begins_string, brackets_of, is_field_spelling, is_raw_spelling, spelling_with}
use Rattle.py_lines.specs.Private.Mode as modes
use Rattle.py_lines.specs.Private.FieldMachine.{FieldMode, FieldMove, plain, empty, body, between, grows, closes, breaks, ends_field, refused, closing_move, after_open_backslash, Level, FieldScanned, field_class_of, field_fresh, field_move, field_pieces, room_step, text_place, before, frames}
use Rattle.py_lines.specs.Private.FieldFaults.{here, piece_start, cause_in, cause_place, is_waiting, quotes_specification, unfinished_at, unfinished_place}
pub use Rattle.py_lines.specs.Private.Run.{BeginsWith}

-- what the code's words are in the machine's
abbrev pub host_in : StringWithFields → Host
host_in h = record { quote = h.quote; is_long = h.is_long; is_raw = h.is_raw }

abbrev pub region_in : Region → Place
region_in regions.Literal = literal
region_in regions.Specification = specification

abbrev pub mode_from : OpenMode → FieldMode
mode_from opens.Start = plain modes.Start
mode_from opens.Free = plain modes.Free
mode_from opens.Space = plain modes.Space
mode_from (opens.Word s) = plain (modes.Word s)
mode_from opens.Comment = plain modes.Comment
mode_from (opens.Short q) = plain (modes.Inside q)
mode_from (opens.Long q) = plain (modes.Long q)
mode_from (opens.Fields h region named) = body (host_in h) (region_in region) named between

-- whether no piece is open, after the text's start
abbrev pub is_free_mode : OpenMode → Bool
is_free_mode opens.Free = true
is_free_mode other = false

-- whether a string's text is open
abbrev pub is_text : OpenMode → Bool
is_text (opens.Short q) = true
is_text (opens.Long q) = true
is_text (opens.Fields h region named) = true
is_text other = false

-- the word, the space or the comment that is open with one more character, if that is a part of it
abbrev pub grown : OpenMode → ℕ → Option OpenMode
grown opens.Space c = if is_space c then Some opens.Space else None
grown (opens.Word s) c = if is_word_character c then Some (opens.Word (spelling_with s c)) else None
grown opens.Comment c = if is_break c then None else Some opens.Comment
grown other c = None

-- whether the open piece ends before a character, or is the prefix of a string that begins with it
abbrev pub ends_before : OpenMode → ℕ → Bool
ends_before opens.Start c = not (is_mark c)
ends_before opens.Free c = true
ends_before opens.Space c = not (is_space c)
ends_before (opens.Word s) c = not (is_word_character c)
ends_before opens.Comment c = is_break c
ends_before other c = false

-- in the text of a string with such a word before its quote
abbrev pub string_mode : Spelling → ℕ → Bool → OpenMode
string_mode s quote long =
    if is_field_spelling s
    then opens.Fields (record { quote = quote; is_long = long; is_raw = is_raw_spelling s }) regions.Literal false
    else (if long then opens.Long quote else opens.Short quote)

-- where a string begins whose quote comes next, and how its prefix is spelled: the word that is open, if it is a prefix
abbrev pub string_from : OpenMode → ℕ → ℕ → ℕ × Spelling
string_from (opens.Word s) start stop = if begins_string s then (start, s) else (stop, spellings.Name)
string_from other start stop = (stop, spellings.Name)

abbrev pub string_start : Scan → ℕ × Spelling
string_start scan = string_from scan.mode scan.start scan.stop

-- the quote of the string whose text is open is a quote
abbrev pub HasQuote : OpenMode → Type 0
HasQuote (opens.Short q) = is_quote q ≡ true
HasQuote (opens.Long q) = is_quote q ≡ true
HasQuote (opens.Fields h region named) = is_quote h.quote ≡ true
HasQuote other = Unit {0}

-- no piece is open and no field, so that code of the line goes on
abbrev pub is_in_code : Scan → Bool
is_in_code scan = is_free_mode scan.mode && not (has_field scan.frames)

-- the frames of brackets, of the line's own list, and of one that starts at this byte
abbrev pub frames_of : List Bracket → List Frame
frames_of bs = map (λ b. frame.Bracket b.opener b.place) bs

abbrev pub bracket_frames : ℕ → List Bracket → List Frame
bracket_frames start bs = map (λ b. frame.Bracket b.opener (start + b.place)) bs

abbrev pub bracket_openers : List Bracket → List ℕ
bracket_openers bs = map (λ b. b.opener) bs

-- a specification stands in a field, and no list within it
abbrev pub NoListAt : Place → List Level → List Piece → List ℕ → Type 0
NoListAt literal outer done openers = Unit {0}
NoListAt specification outer done openers = (done ≡ []) × (openers ≡ []) × (outer ≡ [] → ⊥)

abbrev pub HasNoList : FieldMode → List Level → List Piece → List ℕ → Type 0
HasNoList (body host place named at) outer done openers = NoListAt place outer done openers
HasNoList other outer done openers = Unit {0}

-- the scan keeps a field of this level within these, where this is known of the frames round the field's string
pub record FieldFollows (l : Level) (ls : List Level) (field : OpenField) (Others : Type 0) : Type 0 where
  pub place : field.place ≡ byte_len (before literal (l ∷ ls)) - 1
  pub host : host_in field.host ≡ l.host
  pub quote : is_quote l.host.quote ≡ true
  pub region : region_in field.region ≡ l.place
  pub start : field.start ≡ byte_len (before l.place ls ++ spelled l.done)
  pub bare : NoListAt l.place ls l.done l.openers
  pub round : Others

-- The frames of a state, the innermost first: the brackets of its innermost list, the field in which that stands, if it stands in one,
-- and the frames round that field's string.
abbrev pub FramesFollow : List Level → List Piece → List ℕ → List Frame → Type 0
FramesFollow [] done openers fs =
    (bs : List Bracket) × (brackets_of done ≡ Some bs) × (openers ≡ bracket_openers bs) × (fs ≡ frames_of bs)
FramesFollow (l ∷ ls) done openers fs =
    (bs : List Bracket) × (field : OpenField) × (others : List Frame) × (brackets_of done ≡ Some bs) × (openers ≡ bracket_openers bs)
    × (fs ≡ bracket_frames (byte_len (before literal (l ∷ ls))) bs ++ frame.Field field ∷ others)
    × FieldFollows l ls field (FramesFollow ls l.done l.openers others)

-- what the open piece of code spells, where that counts
abbrev pub HoldsCode : FieldMode → List ℕ → Type 0
HoldsCode (plain modes.Start) held = held ≡ []
HoldsCode (plain modes.Free) held = held ≡ []
HoldsCode (plain (modes.Word s)) held = Holds (modes.Word s) [] held
HoldsCode other held = Unit {0}

-- the scan keeps count of the machine
pub record Follows (scan : Scan) (t : FieldScanned) : Type 0 where
  pub mode : mode_from scan.mode ≡ t.mode
  pub holds : HoldsCode t.mode t.held
  pub no_list : HasNoList t.mode t.outer t.done t.openers
  pub quote : HasQuote scan.mode
  pub start : scan.start ≡ piece_start t
  pub frames : FramesFollow t.outer t.done t.openers scan.frames
  pub stop : scan.stop ≡ here t

-- it begins a line in this mode
abbrev pub opened_at : OpenMode → Scan
opened_at m = record { mode = m; start = 0; frames = []; stop = 0 }

-- whether a character ends a line, if no bracket and no field is open: LF that CR waits for, or with which a line end begins
abbrev pub is_line_ending : FieldMode → FieldMove → ℕ → Bool
is_line_ending (plain modes.Return) closes c = true
is_line_ending m breaks c = is_line_feed c
is_line_ending m move c = false

abbrev pub ends_line : FieldScanned → ℕ → Bool
ends_line t c = (frames t == 0) && is_line_ending t.mode (field_move t.mode t.held c) c

-- what is wrong where a character is refused
abbrev pub IsFieldFault : FieldScanned → ℕ → LineFault → Type 0
IsFieldFault t c line_fault =
    let cause = cause_in (frames t) t.mode c in
    (line_fault.kind ≡ kind_of_cause cause) × (line_fault.place ≡ cause_place t cause)

-- the byte of the fault of a text that ends there
abbrev pub IsUnfinishedAt : FieldScanned → Unfinished → ℕ → Type 0
IsUnfinishedAt t open_bracket place =
    (b : Bracket) × (others : List Bracket) × (brackets_of t.done ≡ Some (b ∷ others)) × (place ≡ byte_len (before literal t.outer) + b.place)
IsUnfinishedAt t what place = place ≡ unfinished_place t what

-- what is wrong where the text ends, if it may not
abbrev pub IsFieldEnd : FieldScanned → Option LineFault → Type 0
IsFieldEnd t None = unfinished_at t ≡ None
IsFieldEnd t (Some line_fault) =
    (what : Unfinished) × (unfinished_at t ≡ Some what) × (line_fault.kind ≡ kind_of_unfinished what) × IsUnfinishedAt t what line_fault.place

-- whether CR was read last, which ends the line unless LF follows
abbrev pub is_return_at : FieldMode → Bool
is_return_at (plain modes.Return) = true
is_return_at other = false

abbrev pub has_returned : FieldScanned → Bool
has_returned t = is_return_at t.mode && (frames t == 0)

-- the character begins with this byte
abbrev pub IsFirstByte : ℕ → ℕ → Type 0
IsFirstByte b c = IsScalar c × (slice_index (encode_utf8 c) 0 ≡ b)

-- whether what is open may end where it stands: a piece of code other than a word, or none
abbrev pub is_ending : FieldMode → Bool
is_ending (plain modes.Start) = true
is_ending (plain modes.Free) = true
is_ending (plain modes.Space) = true
is_ending (plain modes.Comment) = true
is_ending (plain (modes.Empty q)) = true
is_ending (plain modes.JoinReturn) = true
is_ending (plain modes.Return) = true
is_ending (empty host) = true
is_ending other = false

-- the piece that is open in the first state ends before each character that begins with this byte, and no field is open
pub record EndsThere (b : ℕ) (t u : FieldScanned) : Type 0 where
  pub outside : t.outer ≡ []
  pub pieces : field_pieces t ≡ u.done
  pub ends : (c : ℕ) → IsFirstByte b c → field_move t.mode t.held c ≡ breaks
  pub ending : is_ending t.mode ≡ true

-- whether no piece is open, or an empty string, which the next character may end
abbrev pub is_shut : FieldMode → Bool
is_shut (plain modes.Free) = true
is_shut (plain (modes.Empty q)) = true
is_shut (empty host) = true
is_shut other = false

-- The machine comes from both states to the same by each character that begins with this byte, or refuses it for the same reason. Where
-- no piece is open in the second and no field, the one that is open in the first ends there; and where none is open in the first, or an
-- empty string, it counts as finished in the second.
pub record GoAlike (b : ℕ) (t u : FieldScanned) : Type 0 where
  pub here_is : here t ≡ here u
  pub open_yet : has_returned t ≡ false
  pub step : (c : ℕ) → IsFirstByte b c → room_step t c ≡ room_step u c
  pub ending : (c : ℕ) → IsFirstByte b c → ends_line t c ≡ ends_line u c
  pub fault : (c : ℕ) → IsFirstByte b c → room_step t c ≡ None → (f : LineFault) → IsFieldFault u c f → IsFieldFault t c f
  pub free : u.mode ≡ plain modes.Free → u.outer ≡ [] → EndsThere b t u
  pub shut : is_shut t.mode ≡ true → (u ≡ t) ⊎ (u ≡ field_fresh t.outer (field_pieces t) t.openers)

-- before these bytes the first state is as good as the second: the same, where there are none
abbrev pub StandsAs : List ℕ → FieldScanned → FieldScanned → Type 0
StandsAs [] t u = t ≡ u
StandsAs (b ∷ rest) t u = GoAlike b t u

-- the scan stands as the machine does before these bytes
pub record Rests (scan : Scan) (t : FieldScanned) (rest : List ℕ) : Type 0 where
  pub as_if : FieldScanned
  pub follows : Follows scan as_if
  pub stands : StandsAs rest t as_if

-- the machine goes from one state to another through characters for each of which there is room, and none of which ends the line
abbrev pub Goes : FieldScanned → List ℕ → FieldScanned → Type 0
Goes t [] u = t ≡ u
Goes t (c ∷ cs) u =
    (has_returned t ≡ false) × (next : FieldScanned) × (room_step t c ≡ Some next) × (ends_line t c ≡ false) × Goes next cs u

-- whether the open piece ends before a character that does this
abbrev pub is_break_move : FieldMove → Bool
is_break_move breaks = true
is_break_move other = false

-- the open piece doesn't end before any of these characters but the first
abbrev pub IsOneItem : FieldScanned → List ℕ → Type 0
IsOneItem t [] = Unit {0}
IsOneItem t (c ∷ []) = Unit {0}
IsOneItem t (c ∷ d ∷ cs) =
    (next : FieldScanned) × (room_step t c ≡ Some next) × (is_break_move (field_move next.mode next.held d) ≡ false) × IsOneItem next (d ∷ cs)

-- so over the first of these bytes, so many of them, and the scan stands as it does before the others
pub record GoesOver (t : FieldScanned) (bytes : List ℕ) (len : ℕ) (new : Scan) : Type 0 where
  pub some : 0 < len
  pub run : List ℕ
  pub spell : encode_utf8_all run ++ drop len bytes ≡ bytes
  pub scalars : all_scalars run ≡ true
  pub size : byte_len run ≡ len
  pub to : FieldScanned
  pub goes : Goes t run to
  pub one : IsOneItem t run
  pub rests : Rests new to (drop len bytes)

-- so over all characters that the bytes begin with
pub record GoesOverAll (t : FieldScanned) (bytes : List ℕ) : Type 0 where
  pub run : List ℕ
  pub rest : List ℕ
  pub spell : encode_utf8_all run ++ rest ≡ bytes
  pub scalars : all_scalars run ≡ true
  pub none : StartsWithNoChar rest
  pub to : FieldScanned
  pub goes : Goes t run to
  pub one : IsOneItem t run

-- after some of them it refuses one, for this reason
pub record IsWrongIn (t : FieldScanned) (bytes : List ℕ) (line_fault : LineFault) : Type 0 where
  pub run : List ℕ
  pub c : ℕ
  pub after : List ℕ
  pub spell : encode_utf8_all run ++ (encode_utf8 c ++ after) ≡ bytes
  pub scalars : all_scalars run ≡ true
  pub scalar : IsScalar c
  pub to : FieldScanned
  pub goes : Goes t run to
  pub one : IsOneItem t (run ++ c ∷ [])
  pub open_yet : has_returned to && not (is_line_feed c) ≡ false
  pub none : room_step to c ≡ None
  pub fault : IsFieldFault to c line_fault

-- Bytes of which LF is the last end the line, where the machine has gone over the others: the scan follows. Or CR does, which another
-- byte than LF follows: the scan stops after it.
pub record EndsWithFeed (t : FieldScanned) (bytes : List ℕ) (len : ℕ) (new : Scan) : Type 0 where
  pub run : List ℕ
  pub rest : List ℕ
  pub spell : run ++ 10 ∷ rest ≡ bytes
  pub first : (run ≡ []) ⊎ (run ≡ 13 ∷ [])
  pub size : len ≡ length run + 1
  pub to : FieldScanned
  pub goes : Goes t run to
  pub ends : ends_line to 10 ≡ true
  pub ended : FieldScanned
  pub step : room_step to 10 ≡ Some ended
  pub stop : new.stop ≡ here ended

pub record EndsWithReturn (t : FieldScanned) (bytes : List ℕ) (len : ℕ) (new : Scan) : Type 0 where
  pub b : ℕ
  pub rest : List ℕ
  pub spell : bytes ≡ 13 ∷ b ∷ rest
  pub other : b ≡ 10 → ⊥
  pub size : len ≡ 1
  pub to : FieldScanned
  pub goes : Goes t (13 ∷ []) to
  pub returned : has_returned to ≡ true
  pub stop : new.stop ≡ here to

-- Whether characters that end there don't tell yet what they are. In code: a backslash, or CR after one; one quote or two; CR. In a
-- string's text: a backslash, or CR or `N` after one; in a long one, one quote or two; and in the literal part of one with fields `{`.
abbrev pub is_part_of_code : List ℕ → Bool
is_part_of_code [] = true
is_part_of_code (c ∷ []) = is_backslash c || (is_quote c || (c == 13))
is_part_of_code (c ∷ d ∷ []) = (is_backslash c && (d == 13)) || (is_quote c && (d == c))
is_part_of_code other = false

abbrev pub is_part_of_text : Bool → ℕ → List ℕ → Bool
is_part_of_text long quote [] = true
is_part_of_text long quote (c ∷ []) = is_backslash c || (long && (c == quote))
is_part_of_text long quote (c ∷ d ∷ []) = (is_backslash c && ((d == 13) || (d == byte "N"))) || (long && ((c == quote) && (d == quote)))
is_part_of_text long quote other = false

-- whether it is a `{` alone, in the literal part of a string where it doesn't stand for itself
abbrev pub is_lone_brace : Region → Bool → List ℕ → Bool
is_lone_brace regions.Literal false (c ∷ []) = c == byte "{"
is_lone_brace region named other = false

-- whether the open piece ends before the first of them, or is the prefix of the string that they begin
abbrev pub is_begun_after : OpenMode → List ℕ → Bool
is_begun_after m [] = true
is_begun_after m (c ∷ cs) = ends_before m c

abbrev pub is_pending : OpenMode → List ℕ → Bool
is_pending (opens.Short q) run = is_part_of_text false q run
is_pending (opens.Long q) run = is_part_of_text true q run
is_pending (opens.Fields h region named) run = is_lone_brace region named run || is_part_of_text h.is_long h.quote run
is_pending other run = is_part_of_code run && is_begun_after other run

-- bytes that don't tell yet, which a part of a character may follow
pub record HasPending (m : OpenMode) (bytes : List ℕ) : Type 0 where
  pub run : List ℕ
  pub rest : List ℕ
  pub spell : encode_utf8_all run ++ rest ≡ bytes
  pub none : StartsWithNoChar rest
  pub is : is_pending m run ≡ true

abbrev pub IsPending : OpenMode → List ℕ → Type 0
IsPending m bytes = HasQuote m → is_pending m bytes ≡ true

-- what the next bytes come to where the machine stands so
abbrev pub ComesTo : FieldScanned → List ℕ → Scan → Progress → Scan → Type 0
ComesTo t bytes old (progress.Going len) new = GoesOver t bytes len new
ComesTo t bytes old (progress.LineEnded len) new = EndsWithFeed t bytes len new ⊎ EndsWithReturn t bytes len new
ComesTo t bytes old progress.Waits new =
    (all : GoesOverAll t bytes) × (has_returned all.to ≡ true → all.rest ≡ []) × HasPending old.mode bytes × (new ≡ old)
ComesTo t bytes old (progress.Wrong line_fault) new = IsWrongIn t bytes line_fault × (new ≡ old)

-- so wherever the machine stands that the scan keeps count of
abbrev pub Steps : Scan → List ℕ → Progress → Scan → Type 0
Steps old bytes result new = (t : FieldScanned) → Follows old t → ComesTo t bytes old result new

-- what one character comes to that ends no line
abbrev pub TakesOne : FieldScanned → ℕ → Scan → Progress → Scan → Type 0
TakesOne t c old (progress.Going len) new =
    (len ≡ 1) × (u : FieldScanned) × (room_step t c ≡ Some u) × (ends_line t c ≡ false) × Follows new u
TakesOne t c old (progress.Wrong line_fault) new = (room_step t c ≡ None) × IsFieldFault t c line_fault × (new ≡ old)
TakesOne t c old other new = ⊥

-- so an operator before which the open piece ends
abbrev pub TakesOperator : Scan → ℕ → Progress → Scan → Type 0
TakesOperator old c result new = (t : FieldScanned) → Follows old t → field_move t.mode t.held c ≡ breaks → TakesOne t c old result new

-- after each of these characters a piece is open, where no field is
abbrev pub KeepsOpen : FieldScanned → List ℕ → Type 0
KeepsOpen t [] = Unit {0}
KeepsOpen t (c ∷ cs) = (next : FieldScanned) × (room_step t c ≡ Some next) × (next.outer ≡ [] → is_shut next.mode ≡ false) × KeepsOpen next cs

-- the machine goes through these characters, which may be none, and the scan follows before these bytes
abbrev pub ComesOver : FieldScanned → List ℕ → Scan → List ℕ → Type 0
ComesOver t [] new rest = Follows new t
ComesOver t (c ∷ cs) new rest = (u : FieldScanned) × Goes t (c ∷ cs) u × Rests new u rest

-- so through the first of these bytes, so many of them
pub record TakesFrom (t : FieldScanned) (bytes : List ℕ) (len : ℕ) (new : Scan) : Type 0 where
  pub run : List ℕ
  pub spell : encode_utf8_all run ++ drop len bytes ≡ bytes
  pub scalars : all_scalars run ≡ true
  pub size : byte_len run ≡ len
  pub comes : ComesOver t run new (drop len bytes)

-- wherever the scan keeps count of the machine
abbrev pub Takes : Scan → List ℕ → ℕ → Scan → Type 0
Takes old bytes len new = (t : FieldScanned) → Follows old t → TakesFrom t bytes len new

-- so that no piece is finished by them outside fields
abbrev pub HoldsField : Scan → List ℕ → ℕ → Scan → Type 0
HoldsField old bytes len new = (t : FieldScanned) → Follows old t → (takes : TakesFrom t bytes len new) × KeepsOpen t takes.run

-- these bytes are left of others, on the first of which it has gone on so
abbrev pub HoldsRun : Scan → List ℕ → List ℕ → Scan → Type 0
HoldsRun old bytes rest new = (len : ℕ) × HoldsField old bytes len new × (rest ≡ drop len bytes)

-- the scan with so many bytes more read, which leave what is open as it is
abbrev pub with_bytes : Scan → ℕ → Scan
with_bytes old len = record old { stop = old.stop + len }

-- after so many bytes more no piece is open
abbrev pub passed : Scan → ℕ → Scan
passed old len = record old { mode = opens.Free; start = old.stop + len; stop = old.stop + len }

-- the first bytes of a piece, so many of them, are read, and it is open
abbrev pub begun_at : Scan → OpenMode → ℕ → Scan
begun_at old mode len = record old { mode = mode; start = old.stop; stop = old.stop + len }

-- what is wrong where the scan stops
abbrev pub wrong_here : Scan → FaultKind → Progress
wrong_here scan kind = progress.Wrong (record { kind = kind; place = scan.stop })

-- what a line end comes to, where nothing is open or something is
abbrev pub line_end_progress : Bool → ℕ → Progress
line_end_progress true len = progress.LineEnded len
line_end_progress false len = progress.Going len

-- the scan back in the string round a field, which a `}` has ended, with these frames
abbrev pub ended_in : Scan → OpenField → List Frame → Scan
ended_in old field others = record {
  mode = opens.Fields field.host field.region false;
  start = field.start;
  frames = others;
  stop = old.stop + 1;
}

-- so the innermost field was ended, if a field is innermost
abbrev pub EndsField : Scan → Progress → Scan → Type 0
EndsField old result new = (field : OpenField) (others : List Frame) → old.frames ≡ frame.Field field ∷ others
    → (result ≡ progress.Going 1) × (new ≡ ended_in old field others)

-- the scan in the code of a field of the string that is open, whose `{` stands where it stopped
abbrev pub entered : Scan → StringWithFields → Region → Scan
entered old host region =
    passed (record old { frames = frame.Field (record { place = old.stop; host = host; region = region; start = old.start }) ∷ old.frames }) 1

-- how many quotes bytes begin with, up to three; None where they are fewer and end with them
abbrev pub quotes_in : List ℕ → Option ℕ
quotes_in (q ∷ c ∷ d ∷ rest) = if c == q then Some (if d == q then 3 else 2) else Some 1
quotes_in (q ∷ c ∷ []) = if c == q then None else Some 1
quotes_in other = None

-- how many bytes an escape has; None where the bytes don't tell
abbrev pub escape_in : List ℕ → Option ℕ
escape_in (slash ∷ c ∷ d ∷ rest) = Some (if c == 13 then (if d == 10 then 3 else 2) else (if nat_lt c 128 then 2 else 1))
escape_in (slash ∷ c ∷ []) = if c == 13 then None else Some (if nat_lt c 128 then 2 else 1)
escape_in other = None

-- what is open goes on in a string's text, character after character
abbrev pub TextGoes : FieldMode → List ℕ → FieldMode → Type 0
TextGoes m [] n = m ≡ n
TextGoes m (c ∷ cs) n = (next : FieldMode) × (field_move m [] c ≡ grows next) × TextGoes next cs n

-- each character that begins with this byte does the same in both, or is refused for the same reason
pub record TextAlike (b : ℕ) (m n : FieldMode) : Type 0 where
  pub place : text_place m ≡ text_place n
  pub class : field_class_of m ≡ field_class_of n
  pub move : (c : ℕ) → IsFirstByte b c → field_move m [] c ≡ field_move n [] c
  pub cause : (c depth : ℕ) → IsFirstByte b c → cause_in depth m c ≡ cause_in depth n c

abbrev pub TextAs : List ℕ → FieldMode → FieldMode → Type 0
TextAs [] m n = m ≡ n
TextAs (b ∷ rest) m n = TextAlike b m n

-- in the text of a string so many bytes go on in it, after which this is open
pub record GrowsInText (m : FieldMode) (bytes : List ℕ) (mode : OpenMode) (len : ℕ) : Type 0 where
  pub some : 0 < len
  pub text : is_text mode ≡ true
  pub quote : HasQuote mode
  pub run : List ℕ
  pub spell : encode_utf8_all run ++ drop len bytes ≡ bytes
  pub scalars : all_scalars run ≡ true
  pub size : byte_len run ≡ len
  pub to : FieldMode
  pub goes : TextGoes m run to
  pub alike : TextAs (drop len bytes) to (mode_from mode)

-- whether it is the text of a specification
abbrev pub is_specification : Place → Bool
is_specification literal = false
is_specification specification = true

-- so many quotes do this with the last of them
pub record QuotesInText (m : FieldMode) (bytes : List ℕ) (len : ℕ) (move : FieldMove) : Type 0 where
  pub run : List ℕ
  pub quote : ℕ
  pub is_one : is_quote quote ≡ true
  pub spell : run ++ quote ∷ drop len bytes ≡ bytes
  pub low : (run ≡ []) ⊎ (run ≡ quote ∷ quote ∷ [])
  pub size : length run + 1 ≡ len
  pub to : FieldMode
  pub goes : TextGoes m run to
  pub does : field_move to [] quote ≡ move
  pub waits : is_waiting to ≡ false
  pub apart : after_open_backslash to ≡ false
  pub specified : quotes_specification to quote ≡ is_specification (text_place m)

-- a line end may not stand there, or after a backslash
pub record BreaksInText (m : FieldMode) (bytes : List ℕ) : Type 0 where
  pub run : List ℕ
  pub c : ℕ
  pub after : List ℕ
  pub spell : run ++ c ∷ after ≡ bytes
  pub first : (run ≡ []) ⊎ (run ≡ 92 ∷ [])
  pub breaking : is_break c ≡ true
  pub to : FieldMode
  pub goes : TextGoes m run to
  pub does : field_move to [] c ≡ refused
  pub waits : is_waiting to ≡ false

-- a `{` opens a field of this string: in its literal part another character than `{` follows
pub record OpensInText (m : FieldMode) (bytes : List ℕ) (host : StringWithFields) (region : Region) : Type 0 where
  pub is : m ≡ body (host_in host) (region_in region) false between
  pub brace : begins (λ c. c == byte "{") bytes ≡ true
  pub next : region ≡ regions.Literal → (c : ℕ) × BeginsWith (drop 1 bytes) c × (c == byte "{" ≡ false)

-- the bytes don't tell yet
pub record WaitsInText (m : FieldMode) (bytes : List ℕ) : Type 0 where
  pub run : List ℕ
  pub rest : List ℕ
  pub spell : encode_utf8_all run ++ rest ≡ bytes
  pub scalars : all_scalars run ≡ true
  pub none : StartsWithNoChar rest
  pub to : FieldMode
  pub goes : TextGoes m run to
  pub pending : (mode : OpenMode) → mode_from mode ≡ m → is_pending mode run ≡ true

-- what bytes do to the text of a string that is open so
abbrev pub DoesText : FieldMode → List ℕ → TextMove → Type 0
DoesText m bytes (text_moves.Grows mode len) = GrowsInText m bytes mode len
DoesText m bytes (text_moves.Closes len) = QuotesInText m bytes len closes
DoesText m bytes (text_moves.OpensField host region) = OpensInText m bytes host region
DoesText m bytes text_moves.EndsField = (field_move m [] (byte "}") ≡ ends_field) × (begins (λ c. c == byte "}") bytes ≡ true)
DoesText m bytes text_moves.BreaksString = BreaksInText m bytes
DoesText m bytes text_moves.EndsSpecification =
    (len : ℕ) × QuotesInText m bytes len refused × (text_place m ≡ specification)
DoesText m bytes text_moves.Waits = WaitsInText m bytes

abbrev pub DoesInFields : StringWithFields → Region → Bool → List ℕ → TextMove → Type 0
DoesInFields host region named bytes result = is_quote host.quote ≡ true → DoesText (mode_from (opens.Fields host region named)) bytes result

-- the text of a string of this quote is open, where this character is no backslash and no brace that has a meaning of its own
abbrev pub IsTextAt : FieldMode → ℕ → Bool → ℕ → Type 0
IsTextAt (plain (modes.Inside q)) quote long c = (q ≡ quote) × (long ≡ false)
IsTextAt (plain (modes.Long q)) quote long c = (q ≡ quote) × (long ≡ true)
IsTextAt (body host place named between) quote long c =
    (host.quote ≡ quote) × (host.is_long ≡ long) × (is_backslash c ≡ false) × (c == byte "}" ≡ false) × ((c == byte "{") && not named ≡ false)
IsTextAt other quote long c = ⊥

-- what closes the string is told apart from what would, in a specification
abbrev pub WouldDo : FieldMode → List ℕ → TextMove → Type 0
WouldDo m bytes (text_moves.Closes len) = QuotesInText m bytes len (closing_move (text_place m))
WouldDo m bytes other = DoesText m bytes other

abbrev pub DoesInText : OpenMode → ℕ → Bool → List ℕ → TextMove → Type 0
DoesInText mode quote long bytes result = IsTextAt (mode_from mode) quote long (slice_index bytes 0) → WouldDo (mode_from mode) bytes result

-- what is open stays open, where it goes on
abbrev pub StaysIn : OpenMode → TextMove → Type 0
StaysIn mode (text_moves.Grows next len) = next ≡ mode
StaysIn mode other = Unit {0}

-- what is wrong where the text ends with these characters, if anything is
abbrev pub EndsOpen : Scan → List ℕ → Option LineFault → Type 0
EndsOpen scan run line_fault = (t u : FieldScanned) → Follows scan t → Goes t run u → IsFieldEnd u line_fault

-- The text ends with the line end CR. Or its last line has none, and nothing is wrong with its end.
pub record EndsReturned (t : FieldScanned) (bytes : List ℕ) (old : Scan) (len : ℕ) (new : Scan) : Type 0 where
  pub first : begins (λ c. c == 13) bytes ≡ true
  pub size : len ≡ 1
  pub to : FieldScanned
  pub goes : Goes t (13 ∷ []) to
  pub returned : has_returned to ≡ true
  pub stop : new ≡ passed old 1

pub record EndsBare (t : FieldScanned) (bytes : List ℕ) (all : GoesOverAll t bytes) (old : Scan) (len : ℕ) (new : Scan) : Type 0 where
  pub size : len ≡ 0
  pub whole : all.rest ≡ []
  pub none : unfinished_at all.to ≡ None
  pub open_yet : has_returned all.to ≡ false
  pub stop : new ≡ with_bytes old (length bytes)

abbrev pub EndsAs : (t : FieldScanned) (bytes : List ℕ) → GoesOverAll t bytes → Scan → Result ℕ LineFault → Scan → Type 0
EndsAs t bytes all old (Ok len) new = EndsReturned t bytes old len new ⊎ EndsBare t bytes all old len new
EndsAs t bytes all old (Err line_fault) new =
    (new ≡ old) × (has_returned all.to ≡ false)
    × (((0 < length all.rest) × (line_fault.kind ≡ BadUtf8) × (line_fault.place ≡ old.stop + byte_len all.run))
    ⊎ ((all.rest ≡ []) × IsFieldEnd all.to (Some line_fault)))

-- what the end of the text comes to
abbrev pub EndsTextSo : Scan → List ℕ → Result ℕ LineFault → Scan → Type 0
EndsTextSo old bytes result new = (t : FieldScanned) → Follows old t → (all : GoesOverAll t bytes) → EndsAs t bytes all old result new
