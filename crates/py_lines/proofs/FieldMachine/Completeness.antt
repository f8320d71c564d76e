-- The machine with fields goes through all fields, however many stand one in another, and so through every text that is read with fields: it finds its pieces.
use Rattle.py_lines.proofs.Prelude.{◌≡◌, ℕ, true, false, Some, List, [], ◌∷◌, ◌++◌, refl, sym, ap, ◌∙◌, subst, zero, suc, length, false_from_ne_true, is_mark, depth_after, IsBalancedReading, piece}
use Rattle.py_lines.specs.Piece.{Class, mark, Piece, begins, spelled, begins_marked}
use Rattle.py_lines.specs.PieceGrammar.{AreReadIn, InClassIn}
use Rattle.py_lines.specs.Fields.{Fields, fielded, ShallowFields, AnyPieces, FieldsWithin, IsShallowWith, ShallowWithin}
use Rattle.py_lines.specs.FieldStrings.{Host, with_fields}
use Rattle.py_lines.specs.Private.Machine.{Mode, move_of}
use Rattle.py_lines.specs.Private.FieldMachine.{plain, closes, breaks, FieldScanned, field_state, field_fresh, field_text_start, field_pieces, field_move, field_moved, field_started, field_step, field_steps_from, openers_through, have_room, IsFieldFinal, frames}
use Rattle.py_lines.proofs.Machine.Starts.{start-mark}
use Rattle.py_lines.proofs.Fields.Parts.{BeginOpen, fields_begin, field_begins, within_begin}
use Rattle.py_lines.proofs.FieldMachine.Runs.{MayBegin, NoLimit, BelowLimit, HasRoomFor, Goes, StopsAt, goes-append, goes-closes, stops-fresh, steps_of, room_of}
use Rattle.py_lines.proofs.FieldMachine.ListBrackets.{none_some, balanced_openers}
use Rattle.py_lines.proofs.FieldMachine.PieceRuns.{FieldFinds}
use Rattle.py_lines.proofs.FieldMachine.CodeRuns.{ArePassed, FieldsRun, all_found, HasNoColonIn, field_goes}

-- without a limit
pub passed_any : (H : Host → List ℕ → Type 0) (depth : ℕ) (ps : List Piece) (rest : List ℕ) → AreReadIn (with_fields H) ps rest → ArePassed NoLimit (λ d. H) depth ps
passed_any H depth [] rest fit = tt
passed_any H depth (p ∷ ps) rest fit = (λ is. tt, λ is. subst (λ c. InClassIn (with_fields H) c p.text) is fit.0, passed_any H (depth_after depth p) ps rest fit.3)

runs_within : (n : ℕ) → FieldsRun NoLimit (λ d. FieldsWithin n)
runs_within zero outer done openers host place at held text is quotes single here = absurd is
runs_within (suc n) outer done openers host place at held text is quotes single here =
    field_goes NoLimit outer done openers host (λ d. FieldsWithin n) (λ d. within_begin n) (runs_within n) (FieldsWithin n) AnyPieces (λ ps rest fit passes. passed_any (FieldsWithin n) _ ps rest fit) place at held text quotes tt is single here

pub fields_run : FieldsRun NoLimit (λ d. Fields)
fields_run outer done openers host place at held text (n, is) quotes single here = runs_within n outer done openers host place at held text is quotes single here

-- pieces that are read with fields, before the rest
pub fields_found : (from : FieldScanned) (ps : List Piece) (after rest : List ℕ) → AreReadIn fielded ps rest → begins_marked ps ≡ false → openers_through (Some from.openers) ps ≡ Some after → HasNoColonIn from.outer (length from.openers) ps → StopsAt from.mode from.held (spelled ps ++ rest) → FieldFinds NoLimit from (spelled ps) ps after rest
fields_found from ps after rest fit unmarked opens none stops =
    all_found NoLimit (λ d. Fields) (λ d. fields_begin) fields_run Fields from ps after rest fit unmarked (passed_any Fields (frames from) ps rest fit) opens none stops

-- within the limit of 200
pub passed_shallow : (Shallow : ℕ → Host → List ℕ → Type 0) (depth : ℕ) (ps : List Piece) → IsShallowWith Shallow depth ps → ArePassed BelowLimit Shallow depth ps
passed_shallow Shallow depth [] shallow = tt
passed_shallow Shallow depth (p ∷ ps) shallow = (shallow.0, shallow.1, passed_shallow Shallow (depth_after depth p) ps shallow.2)

begin_shallow_within : (n depth : ℕ) → BeginOpen (ShallowWithin n depth)
begin_shallow_within zero depth host text is = absurd is
begin_shallow_within (suc n) depth host text is = field_begins _ _ _ host text is.1

shallow_within : (n : ℕ) → FieldsRun BelowLimit (ShallowWithin n)
shallow_within zero outer done openers host place at held text is quotes single here = absurd is
shallow_within (suc n) outer done openers host place at held text is quotes single here =
    field_goes BelowLimit outer done openers host (ShallowWithin n) (begin_shallow_within n) (shallow_within n) Fields _ (λ ps rest fit passes. passed_shallow (ShallowWithin n) _ ps passes) place at held text quotes is.0 is.1 single here

pub begin_shallow : (depth : ℕ) → BeginOpen (ShallowFields depth)
begin_shallow depth host text (n, is) = begin_shallow_within n depth host text is

pub shallow_run : FieldsRun BelowLimit ShallowFields
shallow_run outer done openers host place at held text (n, is) quotes single here = shallow_within n outer done openers host place at held text is quotes single here

pub start_breaks : (c : ℕ) → is_mark c ≡ false → field_move (plain Mode.Start) [] c ≡ breaks
unfolding field_move move_of
start_breaks c h = rw h

stops_start : (rest : List ℕ) → begins is_mark rest ≡ false → StopsAt (plain Mode.Start) [] rest
stops_start [] h = refl
stops_start (c ∷ cs) h = start_breaks c h

no_mark : (c : ℕ) (next : FieldScanned) → field_step (field_fresh [] [] []) c ≡ Some next → is_mark c ≡ false
no_mark c next step = false_from_ne_true _ (λ is. none_some (sym (ap (field_started [] [] [] c) (start-mark c is)) ∙ sym (ap (field_moved (field_fresh [] [] []) c) (stops-fresh (c ∷ []))) ∙ step))

-- without a mark, the start is like any other place
start_goes : (Room : ℕ → Type 0) (text : List ℕ) (t : FieldScanned) (p : Piece) (ps : List Piece) → Goes Room (field_fresh [] [] []) text t → field_pieces t ≡ p ∷ ps → Goes Room field_text_start text t
start_goes Room [] t p ps goes found = let none : [] ≡ p ∷ ps = ap field_pieces goes ∙ found in absurd (cc)
start_goes Room (c ∷ cs) t p ps (next, step, room, others) found =
    let fresh_at : FieldScanned = field_fresh [] [] [] in let unmarked = no_mark c next step in
    let move = start_breaks c unmarked in (
      next,
      ap (field_moved field_text_start c) move ∙ sym (ap (field_moved fresh_at c) (stops-fresh (c ∷ []))) ∙ step,
      subst (HasRoomFor Room 0 c) (stops-fresh (c ∷ []) ∙ sym move) room,
      others,
    )

module _ (Room : ℕ → Type 0) (F : ℕ → Host → List ℕ → Type 0) (begin : (depth : ℕ) → BeginOpen (F depth)) (run : FieldsRun Room F) (G : Host → List ℕ → Type 0) where
  -- pieces that it finds from there it finds from the text's start, if it goes from the start to the same state
  found_from : (from : FieldScanned) (seen text : List ℕ) (ps all : List Piece) (after rest : List ℕ) (found : FieldFinds Room from seen ps after rest) → Goes Room field_text_start text (field_state [] found.done after found.mode found.held) → field_pieces from ++ ps ≡ all → FieldFinds Room field_text_start text all after rest
  found_from from seen text ps all after rest found goes are =
      record { done = found.done; mode = found.mode; held = found.held; goes = goes; pieces_are = found.pieces_are ∙ are; stops = found.stops }

  -- the machine goes through pieces from the text's start and finds them, where the rest begins with no mark if they are none
  pub reached : (ps : List Piece) (after rest : List ℕ) → AreReadIn (with_fields G) ps rest → ArePassed Room F 0 ps → openers_through (Some []) ps ≡ Some after → MayBegin ps rest → FieldFinds Room field_text_start (spelled ps) ps after rest
  unfolding field_move move_of
  reached [] after rest fit passed opens may = let same : [] ≡ after = cc in
      record { done = []; mode = plain Mode.Start; held = []; goes = ap (λ os. field_state [] [] os (plain Mode.Start) []) same; pieces_are = refl; stops = stops_start rest may }
  reached (p ∷ ps) after rest fit passed opens may = go p.class p.text fit passed opens where
    go : (class : Class) (text : List ℕ) → AreReadIn (with_fields G) (piece class text ∷ ps) rest → ArePassed Room F 0 (piece class text ∷ ps) → openers_through (Some []) (piece class text ∷ ps) ≡ Some after → FieldFinds Room field_text_start (spelled (piece class text ∷ ps)) (piece class text ∷ ps) after rest
    go mark text h k l = let c = h.0.0 in let move : field_move (plain Mode.Start) [] c ≡ closes = rw h.0.2 in
        let marked : FieldScanned = field_fresh [] (piece mark (c ∷ []) ∷ []) [] in
        let found = all_found Room F begin run G marked ps after rest h.3 h.2 k.2 l (λ some. absurd (some refl)) (stops-fresh _) in
        rw h.0.1 (found_from marked _ _ ps _ after rest found (goes-append Room field_text_start marked _ (c ∷ []) (spelled ps) (goes-closes Room field_text_start c move) found.goes) refl)
    go class text h k l =
        let found = all_found Room F begin run G (field_fresh [] [] []) (piece class text ∷ ps) after rest h refl k l (λ some. absurd (some refl)) (stops-fresh _) in
        found_from (field_fresh [] [] []) _ _ (piece class text ∷ ps) _ after rest found (start_goes Room (text ++ spelled ps) _ (piece class text) ps found.goes found.pieces_are) refl

-- The machine goes through pieces that are read before the rest, however deep they are.
pub fields_reached : (ps : List Piece) (after rest : List ℕ) → AreReadIn fielded ps rest → openers_through (Some []) ps ≡ Some after → MayBegin ps rest → FieldFinds NoLimit field_text_start (spelled ps) ps after rest
fields_reached ps after rest fit opens may = reached NoLimit (λ d. Fields) (λ d. fields_begin) fields_run Fields ps after rest fit (passed_any Fields 0 ps rest fit) opens may

-- The machine reads a text: it goes through it within the limit, to a state where it may end, and finds these pieces.
pub record FieldReads (pieces : List Piece) (characters : List ℕ) : Type 0 where
  pub to : FieldScanned
  pub steps : field_steps_from (Some field_text_start) characters ≡ Some to
  pub room : have_room (Some field_text_start) characters ≡ true
  pub final : IsFieldFinal to
  pub pieces_are : field_pieces to ≡ pieces

-- no mark stands at a text's end
pub may_begin : (ps : List Piece) → MayBegin ps []
may_begin [] = refl
may_begin (p ∷ ps) = tt

-- So every text that has a reading is read.
pub reading_reached : (pieces : List Piece) (characters : List ℕ) → IsBalancedReading pieces characters → FieldReads pieces characters
reading_reached pieces characters is =
    let found = reached BelowLimit ShallowFields begin_shallow shallow_run Fields pieces [] [] is.reads.fit (passed_shallow ShallowFields 0 pieces is.shallow) (balanced_openers pieces is.balanced []) (may_begin pieces) in
    let to : FieldScanned = field_state [] found.done [] found.mode found.held in record {
      to = to;
      steps = ap (field_steps_from (Some field_text_start)) (sym is.reads.spell) ∙ steps_of BelowLimit field_text_start to (spelled pieces) found.goes;
      room = ap (have_room (Some field_text_start)) (sym is.reads.spell) ∙ room_of field_text_start to (spelled pieces) found.goes;
      final = record { outside = refl; closed_all = refl; ends = found.stops };
      pieces_are = found.pieces_are;
    }
