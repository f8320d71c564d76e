-- What the machine with fields holds wherever it has come from the text's start: in each mode, of the innermost list of pieces, and of each field that is open.
--
-- It is stated for any `Limit`, which says what may stand at a depth of brackets and fields. Without a limit it gives the
-- readings of texts; with the limit of 200 it says besides that they are shallow.
use Rattle.py_lines.proofs.Prelude.{◌≡◌, ℕ, ◌+◌, Bool, true, false, List, [], ◌∷◌, ◌++◌, length, byte, list_any, string, Piece, begins_marked, spelled}
use Rattle.py_lines.specs.Character.{is_quote, is_return, is_backslash, is_r}
use Rattle.py_lines.specs.PieceGrammar.{joined, has_triple, InClassIn, AreReadIn}
use Rattle.py_lines.specs.Balance.{is_opener, depth_through}
use Rattle.py_lines.specs.Fields.{HasNoColon, AreInside, IsField, Fields, fielded}
use Rattle.py_lines.specs.FieldStrings.{is_field_prefix, Host, Place, literal, specification, quotes_of, may_be_escaped, names, begins_open, named_through, AreParts, with_fields}
use Rattle.py_lines.specs.Private.Mode as modes
use Rattle.py_lines.specs.Private.Machine.{IsFull, Holds, class_of}
use Rattle.py_lines.specs.Private.FieldMachine.{text_place, before, At, between, after_one, after_two, after_slash, after_return, after_name, after_brace, FieldMode, plain, opened, empty, body, Level, FieldScanned, levels_open, frames}
use Rattle.py_lines.proofs.FieldSoundness.OpenLists.{Opens}

-- what may stand at a depth: which fields have their `{` there, which pieces begin there, and whether one more bracket or field may open there
pub record Limit : Type 1 where
  pub FieldsAt : ℕ → Host → List ℕ → Type 0
  pub PiecesAt : ℕ → List Piece → Type 0
  pub Room : ℕ → Type 0
  -- they are fields
  pub are_fields : (depth : ℕ) (host : Host) (text : List ℕ) → FieldsAt depth host text → Fields host text
  -- a field that has room is made of such pieces and fields, one deeper
  pub makes_field : (depth : ℕ) (host : Host) (text : List ℕ) → Room depth → IsField fielded (PiecesAt (depth + 1)) (FieldsAt (depth + 1)) host text → FieldsAt depth host text
  -- no pieces, or one more
  pub none_at : (depth : ℕ) → PiecesAt depth []
  pub one_more : (depth : ℕ) (ps : List Piece) (p : Piece) → PiecesAt depth ps → (is_opener p ≡ true → Room (depth_through depth ps))
      → (p.class ≡ string → InClassIn (with_fields (FieldsAt (depth_through depth ps))) string p.text) → PiecesAt depth (ps ++ p ∷ [])

-- what a string with fields begins with
pub record OpensHost (host : Host) (quotes text : List ℕ) : Type 0 where
  pub prefix : List ℕ
  pub spell : text ≡ prefix ++ quotes
  pub begun : is_field_prefix prefix ≡ true
  pub raw : host.is_raw ≡ list_any is_r prefix

-- what a specification begins with: the text of its string up to the `{` of its field, the field's pieces, and `:`
pub record OpensSpecification (limit : Limit) (level : Level) (depth : ℕ) (host : Host) (text : List ℕ) : Type 0 where
  pub same_host : level.host ≡ host
  pub inside : List Piece
  pub spell : text ≡ level.front ++ (spelled inside ++ byte ":" ∷ [])
  pub are_inside : AreInside fielded inside (byte ":" ∷ [])
  pub passes : limit.PiecesAt depth inside
  pub single : level.place ≡ literal → (more : List ℕ) → begins_open (spelled inside ++ byte ":" ∷ more) ≡ false

abbrev pub OpensPlace : Limit → List Level → Host → Place → List ℕ → Type 0
OpensPlace limit outer host literal text = OpensHost host (quotes_of host) text
OpensPlace limit [] host specification text = ⊥
OpensPlace limit (l ∷ ls) host specification text = OpensSpecification limit l (levels_open (l ∷ ls)) host text

-- whole parts of a literal part or a specification, after what it begins with
pub record WholeParts (limit : Limit) (outer : List Level) (host : Host) (place : Place) (named : Bool) (text : List ℕ) : Type 0 where
  pub begin : List ℕ
  pub parts : List (List ℕ)
  pub spell : text ≡ begin ++ joined parts
  pub opens_with : OpensPlace limit outer host place begin
  pub quotes : is_quote host.quote ≡ true
  pub named_is : named_through false parts ≡ named
  pub open_yet : has_triple host.quote parts ≡ false

-- at this depth they are parts before this rest
pub record PartsAt (limit : Limit) (outer : List Level) (depth : ℕ) (host : Host) (place : Place) (named : Bool) (text rest : List ℕ) : Type 0 where
  pub whole : WholeParts limit outer host place named text
  pub open whole use *
  pub fit : AreParts (limit.FieldsAt depth) host place false whole.parts rest

-- whatever follows `next`, they are parts before that
pub record HoldsParts (limit : Limit) (outer : List Level) (depth : ℕ) (host : Host) (place : Place) (named : Bool) (held next : List ℕ) : Type 0 where
  pub whole : WholeParts limit outer host place named held
  pub open whole use *
  pub fit : (more : List ℕ) → AreParts (limit.FieldsAt depth) host place false whole.parts (next ++ more)

-- The same, not after a quote of its own: two more quotes don't close the string. A short string is not empty.
pub record HoldsBetween (limit : Limit) (outer : List Level) (depth : ℕ) (host : Host) (place : Place) (named : Bool) (held next : List ℕ) : Type 0 where
  pub all : HoldsParts limit outer depth host place named held next
  pub apart : has_triple host.quote (all.parts ++ (host.quote ∷ []) ∷ (host.quote ∷ []) ∷ []) ≡ false
  pub full : place ≡ literal → host.is_long ≡ false → IsFull (joined all.parts)

-- a string with fields that is open, at each place in it
abbrev pub HoldsAt : Limit → List Level → ℕ → Host → Place → Bool → At → List ℕ → Type 0
HoldsAt limit outer depth host place named between held = HoldsBetween limit outer depth host place named held []
HoldsAt limit outer depth host place named after_one held =
    (text : List ℕ) × (held ≡ text ++ host.quote ∷ []) × (host.is_long ≡ true) × HoldsBetween limit outer depth host place named text (host.quote ∷ [])
HoldsAt limit outer depth host place named after_two held =
    (text : List ℕ) × (held ≡ text ++ host.quote ∷ host.quote ∷ []) × (host.is_long ≡ true) × HoldsBetween limit outer depth host place named text (host.quote ∷ [])
HoldsAt limit outer depth host place named after_slash held =
    (text : List ℕ) × (s : ℕ) × (held ≡ text ++ s ∷ []) × (is_backslash s ≡ true) × HoldsParts limit outer depth host place named text (s ∷ [])
HoldsAt limit outer depth host place named after_return held =
    (text : List ℕ) × (s : ℕ) × (r : ℕ) × (held ≡ text ++ s ∷ r ∷ []) × (is_backslash s ≡ true) × (is_return r ≡ true) × (may_be_escaped host place r ≡ true)
    × HoldsParts limit outer depth host place named text (s ∷ [])
HoldsAt limit outer depth host place named after_name held =
    (text : List ℕ) × (s : ℕ) × (n : ℕ) × (held ≡ text ++ s ∷ n ∷ []) × (is_backslash s ≡ true) × (names host n ≡ true) × (may_be_escaped host place n ≡ true)
    × HoldsParts limit outer depth host place named text (s ∷ [])
HoldsAt limit outer depth host place named after_brace held = (text : List ℕ) × (held ≡ text ++ byte "{" ∷ []) × (place ≡ literal) × (named ≡ false)
    × HoldsParts limit outer depth host place named text (byte "{" ∷ [])

-- a string without fields begins so: its prefix has neither `f` nor `t`
pub record BeginsPlain (text : List ℕ) : Type 0 where
  pub prefix : List ℕ
  pub quote : ℕ
  pub body : List ℕ
  pub spell : text ≡ prefix ++ quote ∷ body
  pub none : list_any is_quote prefix ≡ false
  pub opens : is_quote quote ≡ true
  pub plain : is_field_prefix prefix ≡ false

-- the piece that is open
abbrev pub HoldsMode : Limit → List Level → ℕ → FieldMode → List ℕ → Type 0
HoldsMode limit outer depth (plain m) held = Holds m [] held × (class_of m ≡ string → BeginsPlain held)
HoldsMode limit outer depth (opened host) held = OpensHost host (host.quote ∷ []) held × (is_quote host.quote ≡ true) × (host.is_long ≡ false)
HoldsMode limit outer depth (empty host) held = OpensHost host (host.quote ∷ host.quote ∷ []) held × (is_quote host.quote ≡ true) × (host.is_long ≡ false)
HoldsMode limit outer depth (body host place named at) held = HoldsAt limit outer depth host place named at held

-- The innermost list: its finished pieces, whatever follows the open one. In a field none of them is a mark, and no `:` stands
-- outside brackets. While a specification is open there is none.
pub record HoldsList (limit : Limit) (outer : List Level) (place : Place) (done : List Piece) (openers held : List ℕ) : Type 0 where
  pub fit : (more : List ℕ) → AreReadIn fielded done (held ++ more)
  pub opens : Opens openers done
  pub passes : limit.PiecesAt (levels_open outer) done
  pub in_field : (l : Level) (ls : List Level) → outer ≡ l ∷ ls → (begins_marked done ≡ false) × HasNoColon 0 done
  pub no_list : place ≡ specification → (done ≡ []) × (openers ≡ [])

-- in a literal part no second `{` follows that of a field
abbrev pub IsSingle : Place → Place → List ℕ → Type 0
IsSingle literal literal text = (more : List ℕ) → begins_open (text ++ more) ≡ false
IsSingle inner outer text = Unit {0}

-- a field that is open, and the list and the string in which it stands
pub record HoldsLevel (limit : Limit) (level : Level) (outer : List Level) : Type 0 where
  pub text : List ℕ
  pub spell : level.front ≡ text ++ byte "{" ∷ []
  pub list : HoldsList limit outer level.place level.done level.openers level.front
  pub parts : HoldsParts limit outer (length level.openers + levels_open outer) level.host level.place false text (byte "{" ∷ [])
  pub room : limit.Room (length level.openers + levels_open outer)

-- every field that is open, where this text was read of the innermost one's code
abbrev pub HoldsLevels : Limit → Place → List Level → List ℕ → Type 0
HoldsLevels limit literal [] text = Unit {0}
HoldsLevels limit specification [] text = ⊥
HoldsLevels limit place (l ∷ ls) text = IsSingle place l.place text × HoldsLevel limit l ls × HoldsLevels limit l.place ls (spelled l.done ++ l.front)

-- the lists and strings that are open, with the text of the innermost piece, where these characters have been read
pub record Stands (limit : Limit) (place : Place) (outer : List Level) (done : List Piece) (openers held read : List ℕ) : Type 0 where
  pub spell : before place outer ++ (spelled done ++ held) ≡ read
  pub list : HoldsList limit outer place done openers held
  pub levels : HoldsLevels limit place outer (spelled done ++ held)

-- only the text's start is before a mark
abbrev pub AtStart : FieldMode → List Level → List Piece → Type 0
AtStart (plain modes.Start) outer done = (outer ≡ []) × (done ≡ [])
AtStart other outer done = Unit {0}

-- the machine has read these characters, and stands so
pub record IsFieldSound (limit : Limit) (s : FieldScanned) (read : List ℕ) : Type 0 where
  pub spell : before (text_place s.mode) s.outer ++ (spelled s.done ++ s.held) ≡ read
  pub mode : HoldsMode limit s.outer (frames s) s.mode s.held
  pub list : HoldsList limit s.outer (text_place s.mode) s.done s.openers s.held
  pub levels : HoldsLevels limit (text_place s.mode) s.outer (spelled s.done ++ s.held)
  pub start : AtStart s.mode s.outer s.done
