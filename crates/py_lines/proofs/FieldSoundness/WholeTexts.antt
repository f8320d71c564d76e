-- Where the machine with fields may end, its pieces read the text, those of the innermost list with the open one. They are shallow if each character had room.
use Rattle.py_lines.proofs.Prelude.{◌≡◌, ℕ, ◌+◌, true, false, List, [], ◌∷◌, ◌++◌, length, refl, sym, ap, ◌∙◌, subst, inr, append-nil, ◌<◌, Option, None, Some, arith, and_left, and_right, both_ways, and_parts, IsBalancedReading, piece}
use Rattle.py_lines.specs.Piece.{Class, string, operator, Piece, is_mark_class, begins_marked, spelled}
use Rattle.py_lines.specs.PieceGrammar.{InClassIn, MayPrecedeIn, AreReadPlain, AreReadIn}
use Rattle.py_lines.specs.Fields.{HasNoColon, Fields, fielded, IsShallow, AnyPieces, ShallowFields}
use Rattle.py_lines.specs.FieldStrings.{literal, with_fields}
use Rattle.py_lines.specs.Private.Machine.{closed, class_of}
use Rattle.py_lines.specs.Private.FieldMachine.{text_place, FieldMode, plain, empty, body, Level, field_state, field_closed, levels_open, may_end, before, FieldMove, breaks, FieldScanned, field_text_start, field_move, field_step, field_steps_from, field_pieces, frames, has_room, has_room_at, have_room, IsFieldFinal}
use Rattle.py_lines.proofs.Pieces.PieceLists.{spelled-push, AreReadIn-push, follows_any}
use Rattle.py_lines.proofs.Fields.Nesting.{class_map, field_is, shallow_is, shallow_fields}
use Rattle.py_lines.proofs.Fields.Elsewhere.{IsPlainText, plain_class, plain_precede}
use Rattle.py_lines.proofs.Machine.Soundness.{end_holds}
use Rattle.py_lines.proofs.FieldSoundness.OpenLists.{Opens, opens-other, balanced_at}
use Rattle.py_lines.proofs.FieldSoundness.Holds.{Limit, IsFieldSound}
use Rattle.py_lines.proofs.FieldSoundness.Lists.{neutral, passes-push, colon-push, marked-push}
use Rattle.py_lines.proofs.FieldSoundness.CodeSteps.{plain_text, Ends, nothing, something, ends_of, HasRoom}
use Rattle.py_lines.proofs.FieldSoundness.HostSteps.{empty_string, HaveRoom, sound_at}
use Rattle.py_lines.specs.Balance.{is_opener, depth_after, depth_through}

-- the pieces are read to the text's end, and these brackets are open in them
pub record EndsList (limit : Limit) (outer : List Level) (openers : List ℕ) (pieces : List Piece) (text : List ℕ) : Type 0 where
  pub spell : spelled pieces ≡ text
  pub fit : AreReadIn fielded pieces []
  pub opens : Opens openers pieces
  pub passes : limit.PiecesAt (levels_open outer) pieces
  pub in_field : (l : Level) (ls : List Level) → outer ≡ l ∷ ls → (begins_marked pieces ≡ false) × HasNoColon 0 pieces

-- no string with fields is open there
pub code_at_end : (m : FieldMode) → may_end m ≡ true → text_place m ≡ literal
code_at_end (body host place named at) may = absurd (both_ways _ refl may)
code_at_end m may = refl

module _ (limit : Limit) (outer : List Level) (done : List Piece) (openers : List ℕ) (m : FieldMode) (held read : List ℕ) (sound : IsFieldSound limit (field_state outer done openers m held) read) where
  -- after no open piece, and after one
  ends_none : held ≡ [] → EndsList limit outer openers done (spelled done ++ held)
  ends_none none = record {
    spell = sym (append-nil (spelled done)) ∙ ap (λ t. spelled done ++ t) (sym none);
    fit = subst (AreReadIn fielded done) (append-nil held ∙ none) (sound.list.fit []);
    opens = sound.list.opens;
    passes = sound.list.passes;
    in_field = sound.list.in_field;
  }

  ends_piece : (class : Class) → (class ≡ operator → ⊥) → is_mark_class class ≡ false → InClassIn (with_fields (limit.FieldsAt (length openers + levels_open outer))) class held → MayPrecedeIn fielded class held [] → EndsList limit outer openers (done ++ piece class held ∷ []) (spelled done ++ held)
  ends_piece class other marked is precedes =
      let own = neutral class held other in let is_field = class_map _ Fields (limit.are_fields (length openers + levels_open outer)) class held is in record {
        spell = spelled-push done class held;
        fit = AreReadIn-push fielded done class held [] (sound.list.fit []) is_field precedes (follows_any done class held marked);
        opens = opens-other openers done (piece class held) sound.list.opens own.no_opener own.no_closer;
        passes = passes-push limit outer done openers class held sound.list.opens sound.list.passes is (λ opens. absurd (both_ways _ own.no_opener opens));
        in_field = λ l ls at. let before = sound.list.in_field l ls at in
            (marked-push done (piece class held) before.0 marked, colon-push 0 done (piece class held) before.1 (and_left _ _ own.no_colon));
      }

-- by its mode
pub list_ends : (limit : Limit) (outer : List Level) (done : List Piece) (openers : List ℕ) (m : FieldMode) (held read : List ℕ) → IsFieldSound limit (field_state outer done openers m held) read → may_end m ≡ true → EndsList limit outer openers (field_closed m done held) (spelled done ++ held)
list_ends limit outer done openers (plain m) held read sound may = go (ends_of m) where
  go : Ends m → EndsList limit outer openers (closed m done held) (spelled done ++ held)
  go (nothing is none) = subst (λ (l : List Piece). EndsList limit outer openers l (spelled done ++ held)) (sym (is done held)) (ends_none limit outer done openers (plain m) held read sound (none held sound.mode.0))
  go (something is class marked) =
      let fit : AreReadPlain (piece (class_of m) held ∷ []) [] = subst (λ (l : List Piece). AreReadPlain l []) (is [] held) (end_holds m held sound.mode.0 may) in
      let own : IsPlainText (class_of m) held [] = plain_text (class_of m) held [] sound.mode.1 (λ at. and_right _ _ refl) in
      subst (λ (l : List Piece). EndsList limit outer openers l (spelled done ++ held)) (sym (is done held))
      (ends_piece limit outer done openers (plain m) held read sound (class_of m) class marked (plain_class _ (class_of m) held [] own fit.0) (plain_precede Fields (class_of m) held [] own fit.1))
list_ends limit outer done openers (empty host) held read sound may =
    let own = sound.mode in
    ends_piece limit outer done openers (empty host) held read sound string (λ at. absurd (cc)) refl (inr (empty_string limit outer _ host held own.0 own.1 own.2)) (λ prefix r spell begun also. refl)
list_ends limit outer done openers m held read sound may = absurd (both_ways _ refl may)

-- no limit on the depth of brackets and fields
abbrev pub no_limit : Limit
no_limit = record {
  FieldsAt = λ depth. Fields;
  PiecesAt = λ depth. AnyPieces;
  Room = λ depth. Unit {0};
  are_fields = λ depth host text is. is;
  makes_field = λ depth host text room is. field_is host text is;
  none_at = λ depth. tt;
  one_more = λ depth ps p passes room holds. tt;
}

-- at most 200 brackets and fields
pub shallow-push : (depth : ℕ) (ps : List Piece) (p : Piece) → IsShallow depth ps → (is_opener p ≡ true → depth_through depth ps < 200) → (p.class ≡ string → InClassIn (with_fields (ShallowFields (depth_through depth ps))) string p.text) → IsShallow depth (ps ++ p ∷ [])
shallow-push depth [] p passes room holds = (room, holds, tt)
shallow-push depth (q ∷ ps) p passes room holds = (passes.0, passes.1, shallow-push (depth_after depth q) ps p passes.2 room holds)

abbrev pub two_hundred : Limit
two_hundred = record {
  FieldsAt = ShallowFields;
  PiecesAt = IsShallow;
  Room = λ depth. depth < 200;
  are_fields = λ depth host text is. shallow_fields is.0 depth host text is.1;
  makes_field = shallow_is;
  none_at = λ depth. tt;
  one_more = shallow-push;
}

-- each character has room where there is no limit
any_room : (depth c : ℕ) (v : FieldMove) → HasRoom no_limit depth c v
any_room depth c breaks = λ opens. tt
any_room depth c v = search tt

pub any_rooms : (o : Option FieldScanned) (cs : List ℕ) → HaveRoom no_limit o cs
any_rooms None cs = tt
any_rooms (Some s) [] = tt
any_rooms (Some s) (c ∷ cs) = (any_room (frames s) c (field_move s.mode s.held c), any_rooms (field_step s c) cs)

-- and where the machine says so
pub room_at : (depth c : ℕ) (v : FieldMove) → has_room_at depth c v ≡ true → HasRoom two_hundred depth c v
unfolding has_room_at
room_at depth c v h = grind arith

pub rooms_at : (o : Option FieldScanned) (cs : List ℕ) → have_room o cs ≡ true → HaveRoom two_hundred o cs
rooms_at None cs h = tt
rooms_at (Some s) [] h = tt
rooms_at (Some s) (c ∷ cs) h =
    let parts = and_parts (has_room s c) (have_room (field_step s c) cs) h in
    (room_at (frames s) c (field_move s.mode s.held c) parts.0, rooms_at (field_step s c) cs parts.1)

-- where the text may end, its pieces are a reading, and at most 200 brackets and fields are open, if each character had room
pub final_is_reading : (characters : List ℕ) (s : FieldScanned) → field_steps_from (Some field_text_start) characters ≡ Some s → have_room (Some field_text_start) characters ≡ true → IsFieldFinal s → IsBalancedReading (field_pieces s) characters
final_is_reading characters s steps room final =
    let sound : IsFieldSound two_hundred (field_state s.outer s.done s.openers s.mode s.held) characters = sound_at two_hundred characters s (rooms_at (Some field_text_start) characters room) steps in
    let own = rw (final.outside, final.closed_all) at sound in let list = list_ends two_hundred [] s.done [] s.mode s.held characters own final.ends in record {
      reads = record { spell = list.spell ∙ sym (ap (λ p. before p [] ++ (spelled s.done ++ s.held)) (code_at_end s.mode final.ends)) ∙ own.spell; fit = list.fit };
      balanced = balanced_at [] (field_pieces s) refl list.opens;
      shallow = list.passes;
    }
