-- The machine that goes through a text whose strings hold fields, one character at a time, with code in the fields of strings: it keeps the
-- finished pieces, the fields that are open, and the piece that is. Proofs tie it to Fields. The scan of a line goes by it: what the scan keeps
-- of what is open is told in its words.
use Rattle.std.specs.Prelude.{◌≡◌, ℕ, ◌+◌, Bool, true, false, not, ◌==◌, ◌||◌, ◌&&◌, Option, None, Some, List, [], ◌∷◌, ◌++◌, length, nat_lt, if◌then◌else◌}
use Rattle.std.specs.Str.{byte}
use Rattle.std.specs.List.{list_any}
use Rattle.py_lines.specs.Character.{is_quote, is_line_feed, is_return, is_break, is_backslash, is_brace, is_r}
use Rattle.py_lines.specs.Piece.{Class, string, operator, line_end, Piece, spelled}
use Rattle.py_lines.specs.Balance.{is_opening, is_closing, closing_of}
use Rattle.py_lines.specs.LogicalLine.{first_or_zero}
use Rattle.py_lines.specs.FieldStrings.{is_field_prefix, Host, Place, literal, specification, names}
use Rattle.py_lines.specs.Private.Machine.{Mode, Move, Start, class_of, closed, move_of, start_of, is_final, in_short, in_long, is_after_backslash}

-- How far a string with fields has come: between two parts; after one quote of its own in a long string, or after two; after
-- a backslash; after a backslash and CR, to which LF may belong; after `\N`, to which `{` belongs; or after a `{` of the literal
-- part, which opens a field unless another follows.
pub data At : Type 0 where
  between : At
  after_one : At
  after_two : At
  after_slash : At
  after_return : At
  after_name : At
  after_brace : At

-- The piece that is open, and how far it has come: as the machine without fields has it; or a string with fields, after one
-- quote, after two, or in its literal part or a specification, where each brace may stand for itself.
pub data FieldMode : Type 0 where
  plain : Mode → FieldMode
  opened : Host → FieldMode
  empty : Host → FieldMode
  body : Host → Place → Bool → At → FieldMode

-- What a character does: the open piece grows by it, ends with it, or ends before it; the `{` before it opens a field of this
-- string, whose code it begins; it opens a field itself, in a specification; it ends the field whose specification is open; or
-- it may not stand there.
pub data FieldMove : Type 0 where
  grows : FieldMode → FieldMove
  closes : FieldMove
  breaks : FieldMove
  begins_code : Host → FieldMove
  opens_field : Host → FieldMove
  ends_field : FieldMove
  refused : FieldMove

-- A field that is open: the pieces before its string in their list, and the brackets that are open there, the innermost first;
-- the string, the place in it where the field opened, and its text up to and with the field's `{`. In a specification no
-- piece stands before the string and no bracket is open.
pub record Level : Type 0 where
  pub done : List Piece
  pub openers : List ℕ
  pub host : Host
  pub place : Place
  pub front : List ℕ

-- The open fields, the innermost first; of the innermost list of pieces those that are finished, and the brackets that are open
-- in it, the innermost first; and the piece that is open, with its text so far. While a specification is open, which is text of
-- a string, there is no list within its field.
pub record FieldScanned : Type 0 where
  pub outer : List Level
  pub done : List Piece
  pub openers : List ℕ
  pub mode : FieldMode
  pub held : List ℕ

abbrev pub field_state : List Level → List Piece → List ℕ → FieldMode → List ℕ → FieldScanned
field_state outer done openers mode held = record { outer = outer; done = done; openers = openers; mode = mode; held = held }

-- finished pieces, with none open after them
abbrev pub field_fresh : List Level → List Piece → List ℕ → FieldScanned
field_fresh outer done openers = field_state outer done openers (plain Mode.Free) []

-- at the text's start
abbrev pub field_text_start : FieldScanned
field_text_start = field_state [] [] [] (plain Mode.Start) []

-- whether a string with fields begins with this quote, after this text of the open piece
abbrev pub begins_host : Mode → List ℕ → ℕ → Bool
begins_host (Mode.Word s) held c = is_field_prefix held && is_quote c
begins_host other held c = false

-- the string with fields that has this prefix and this quote, a short one as far as it is known
abbrev pub host_of : List ℕ → ℕ → Host
host_of prefix quote = record { quote = quote; is_long = false; is_raw = list_any is_r prefix }

abbrev pub long_host : Host → Host
long_host host = record host { is_long = true }

-- a move of the machine without fields
abbrev pub plain_move : Move → FieldMove
plain_move (Move.Grows m) = grows (plain m)
plain_move Move.Closes = closes
plain_move Move.Breaks = breaks
plain_move Move.Refused = refused

-- whether two quotes of a long string stand directly before
abbrev pub is_after_two : At → Bool
is_after_two after_two = true
is_after_two other = false

-- after one more quote of a long string
abbrev pub with_quote : At → At
with_quote after_one = after_two
with_quote other = after_one

-- a quote that would close the string: in a specification it may not stand
abbrev pub closing_move : Place → FieldMove
closing_move literal = closes
closing_move specification = refused

-- a `{` that doesn't stand for itself
abbrev pub opening_move : Host → Place → FieldMove
opening_move host literal = grows (body host literal false after_brace)
opening_move host specification = opens_field host

-- a `}`
abbrev pub ending_move : Host → Place → Bool → FieldMove
ending_move host specification false = ends_field
ending_move host place named = grows (body host place false between)

-- what a character does between two parts of a string, or after a quote of its own
unfoldable pub between_move : Host → Place → Bool → At → ℕ → FieldMove
between_move host place named at c =
    if c == host.quote
    then (if host.is_long && not (is_after_two at) then grows (body host place named (with_quote at)) else closing_move place)
    else (if is_backslash c then grows (body host place named after_slash)
    else (if is_break c && not host.is_long then refused
    else (if (c == byte "{") && not named then opening_move host place
    else (if c == byte "}" then ending_move host place named
    else grows (body host place named between)))))

-- whether a character may not stand after a backslash
abbrev pub is_barred_escape : Host → Place → ℕ → Bool
is_barred_escape host literal c = false
is_barred_escape host specification c = is_break c && not host.is_long

-- what a character does after a backslash: a brace keeps its meaning
unfoldable pub escape_move : Host → Place → Bool → ℕ → FieldMove
escape_move host place named c =
    if is_brace c then between_move host place named between c
    else (if is_barred_escape host place c then refused
    else (if is_return c then grows (body host place named after_return)
    else (if names host c then grows (body host place named after_name)
    else grows (body host place named between))))

-- what a character does in the body of a string with fields
unfoldable pub body_move : Host → Place → Bool → At → ℕ → FieldMove
body_move host place named after_slash c = escape_move host place named c
body_move host place named after_return c =
    if is_line_feed c then grows (body host place named between) else between_move host place named between c
body_move host place named after_name c =
    if c == byte "{" then grows (body host place true between) else between_move host place named between c
body_move host place named after_brace c = if c == byte "{" then grows (body host place named between) else begins_code host
body_move host place named at c = between_move host place named at c

-- what a character does to the piece that is open, whose text so far is `held`
unfoldable pub field_move : FieldMode → List ℕ → ℕ → FieldMove
field_move (plain m) held c = if begins_host m held c then grows (opened (host_of held c)) else plain_move (move_of m c)
field_move (opened host) held c = if c == host.quote then grows (empty host) else body_move host literal false between c
field_move (empty host) held c = if c == host.quote then grows (body (long_host host) literal false between) else breaks
field_move (body host place named at) held c = body_move host place named at c

-- the class of the open piece
abbrev pub field_class_of : FieldMode → Class
field_class_of (plain m) = class_of m
field_class_of other = string

-- the pieces, the open one with them
abbrev pub field_closed : FieldMode → List Piece → List ℕ → List Piece
field_closed (plain m) done held = closed m done held
field_closed other done held = done ++ record { class = string; text = held } ∷ []

-- the open brackets after an operator, the innermost first; None where it closes another than the innermost
unfoldable pub openers_with : List ℕ → ℕ → Option (List ℕ)
openers_with [] c = if is_opening c then Some (c ∷ []) else (if is_closing c then None else Some [])
openers_with (o ∷ os) c =
    if is_opening c then Some (c ∷ o ∷ os)
    else (if is_closing c then (if c == closing_of o then Some os else None)
    else Some (o ∷ os))

-- the open brackets after a piece of this class and text
abbrev pub openers_by : List ℕ → Class → List ℕ → Option (List ℕ)
openers_by openers operator text = openers_with openers (first_or_zero text)
openers_by openers other text = Some openers

-- the open brackets after pieces
abbrev pub openers_through : Option (List ℕ) → List Piece → Option (List ℕ)
openers_through None ps = None
openers_through (Some openers) [] = Some openers
openers_through (Some openers) (p ∷ ps) = openers_through (openers_by openers p.class p.text) ps

-- an operator after finished pieces, with these brackets open after it
abbrev pub after_operator : List Level → List Piece → ℕ → Option (List ℕ) → Option FieldScanned
after_operator outer done c None = None
after_operator outer done c (Some openers) = Some (field_fresh outer (done ++ record { class = operator; text = c ∷ [] } ∷ []) openers)

-- back in the string of a field that has ended, after this text of it
abbrev pub field_ended : Level → List Level → List ℕ → FieldScanned
field_ended level outer held = field_state outer level.done level.openers (body level.host level.place false between) held

-- an operator in a field outside brackets: `}` ends the field, and `:` opens its specification
unfoldable pub code_operator : Level → List Level → List Piece → ℕ → Option FieldScanned
code_operator level outer done c =
    if c == byte "}" then Some (field_ended level outer (level.front ++ (spelled done ++ c ∷ [])))
    else (if c == byte ":"
    then Some (field_state (level ∷ outer) [] [] (body level.host specification false between) (level.front ++ (spelled done ++ c ∷ [])))
    else after_operator (level ∷ outer) done c (openers_with [] c))

-- an operator after finished pieces
abbrev pub field_operator : List Level → List Piece → List ℕ → ℕ → Option FieldScanned
field_operator [] done openers c = after_operator [] done c (openers_with openers c)
field_operator (level ∷ outer) done [] c = code_operator level outer done c
field_operator (level ∷ outer) done (o ∷ os) c = after_operator (level ∷ outer) done c (openers_with (o ∷ os) c)

-- a new piece after finished ones
abbrev pub field_started : List Level → List Piece → List ℕ → ℕ → Start → Option FieldScanned
field_started outer done openers c (Start.Open m) = Some (field_state outer done openers (plain m) (c ∷ []))
field_started outer done openers c Start.Operator = field_operator outer done openers c
field_started outer done openers c Start.LineEnd =
    Some (field_fresh outer (done ++ record { class = line_end; text = c ∷ [] } ∷ []) openers)
field_started outer done openers c Start.Nothing = None

-- the field that opens in a string in this state, where the string's text goes so far
abbrev pub opened_level : FieldScanned → Host → Place → List ℕ → Level
opened_level s host place front = record { done = s.done; openers = s.openers; host = host; place = place; front = front }

-- the end of the field whose specification is open
abbrev pub specification_ended : List Level → List ℕ → Option FieldScanned
specification_ended [] held = None
specification_ended (level ∷ outer) held = Some (field_ended level outer held)

-- the state after a character that does this
abbrev pub field_moved : FieldScanned → ℕ → FieldMove → Option FieldScanned
field_moved s c (grows m) = Some (field_state s.outer s.done s.openers m (s.held ++ c ∷ []))
field_moved s c closes =
    Some (field_fresh s.outer (s.done ++ record { class = field_class_of s.mode; text = s.held ++ c ∷ [] } ∷ []) s.openers)
field_moved s c breaks = field_started s.outer (field_closed s.mode s.done s.held) s.openers c (start_of c)
field_moved s c (begins_code host) = field_started (opened_level s host literal s.held ∷ s.outer) [] [] c (start_of c)
field_moved s c (opens_field host) = Some (field_fresh (opened_level s host specification (s.held ++ c ∷ []) ∷ s.outer) [] [])
field_moved s c ends_field = specification_ended s.outer (s.held ++ c ∷ [])
field_moved s c refused = None

-- one character
abbrev pub field_step : FieldScanned → ℕ → Option FieldScanned
field_step s c = field_moved s c (field_move s.mode s.held c)

-- characters, one after another
abbrev pub field_steps_from : Option FieldScanned → List ℕ → Option FieldScanned
field_steps_from None cs = None
field_steps_from (Some s) [] = Some s
field_steps_from (Some s) (c ∷ cs) = field_steps_from (field_step s c) cs

-- the brackets and fields that are open round the innermost list
abbrev pub levels_open : List Level → ℕ
levels_open [] = 0
levels_open (level ∷ outer) = length level.openers + levels_open outer + 1

-- the brackets and fields that are open
abbrev pub frames : FieldScanned → ℕ
frames s = length s.openers + levels_open s.outer

-- whether a character that does this opens no bracket and no field at depth 200, where so many are open before it
unfoldable pub has_room_at : ℕ → ℕ → FieldMove → Bool
has_room_at depth c breaks = not (is_opening c) || nat_lt depth 200
has_room_at depth c (begins_code host) = nat_lt (if is_opening c then depth + 1 else depth) 200
has_room_at depth c (opens_field host) = nat_lt depth 200
has_room_at depth c other = true

abbrev pub has_room : FieldScanned → ℕ → Bool
has_room s c = has_room_at (frames s) c (field_move s.mode s.held c)

-- a state, if there is room for what leads to it
abbrev pub roomy : Bool → Option FieldScanned → Option FieldScanned
roomy true next = next
roomy false next = None

-- one character, which opens no bracket and no field at depth 200
abbrev pub room_step : FieldScanned → ℕ → Option FieldScanned
room_step s c = roomy (has_room s c) (field_step s c)

-- whether each character of a text does so
abbrev pub have_room : Option FieldScanned → List ℕ → Bool
have_room None cs = true
have_room (Some s) [] = true
have_room (Some s) (c ∷ cs) = has_room s c && have_room (field_step s c) cs

-- whether the text may end there, brackets and fields aside
abbrev pub may_end : FieldMode → Bool
may_end (plain m) = is_final m
may_end (empty host) = true
may_end other = false

-- whether a `{` of the literal part stands directly before, which may open a field
abbrev pub is_after_brace : At → Bool
is_after_brace after_brace = true
is_after_brace other = false

-- whether a short string is open, not in a field of its own
abbrev pub in_open_short : FieldMode → Bool
in_open_short (plain m) = in_short m
in_open_short (opened host) = true
in_open_short (body host literal named at) = not (is_after_brace at) && not host.is_long
in_open_short other = false

-- whether a long one is
abbrev pub in_open_long : FieldMode → Bool
in_open_long (plain m) = in_long m
in_open_long (body host literal named at) = not (is_after_brace at) && host.is_long
in_open_long other = false

-- whether a backslash stands directly before, outside strings and comments
abbrev pub after_open_backslash : FieldMode → Bool
after_open_backslash (plain m) = is_after_backslash m
after_open_backslash other = false

-- whether the specification of a field of this string is open
abbrev pub InSpecificationOf : Host → FieldMode → Type 0
InSpecificationOf host (body own specification named at) = (own ≡ host) × (is_after_brace at ≡ false)
InSpecificationOf host other = ⊥

-- the text may end there
pub record IsFieldFinal (s : FieldScanned) : Type 0 where
  pub outside : s.outer ≡ []
  pub closed_all : s.openers ≡ []
  pub ends : may_end s.mode ≡ true

-- the pieces of the innermost list, the open one with them
abbrev pub field_pieces : FieldScanned → List Piece
field_pieces s = field_closed s.mode s.done s.held

-- the place where a mode is: code counts as a literal part
abbrev pub text_place : FieldMode → Place
text_place (body host place named at) = place
text_place other = literal

-- the characters before the innermost list; where a specification is open, those before its string
abbrev pub before : Place → List Level → List ℕ
before place [] = []
before literal (l ∷ ls) = before l.place ls ++ (spelled l.done ++ l.front)
before specification (l ∷ ls) = before l.place ls ++ spelled l.done
