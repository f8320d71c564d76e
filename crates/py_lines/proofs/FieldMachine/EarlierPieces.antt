-- From a state with pieces before the others of its outermost list, the machine with fields goes as it goes without them: those pieces stay,
-- and it finds the same after them.
use Rattle.py_lines.proofs.Prelude.{◌≡◌, ℕ, ◌+◌, ◌==◌, ◌&&◌, Bool, true, false, Option, None, Some, List, [], ◌∷◌, ◌++◌, refl, sym, ap, ◌∙◌, append_assoc, append-nil, arith, string, operator, line_end, Piece, spelled, byte_len, Place, literal, specification, piece, byte_len-append}
use Rattle.py_lines.specs.Private.Machine.{Start, start_of}
use Rattle.py_lines.specs.Private.FieldMachine.{between, FieldMode, plain, body, FieldMove, closes, breaks, begins_code, Level, FieldScanned, field_state, field_fresh, field_class_of, field_closed, field_move, openers_with, after_operator, field_moved, field_started, field_operator, field_step, code_operator, opened_level, levels_open, frames, has_room, has_room_at, room_step, roomy, text_place, before}
use Rattle.py_lines.specs.Private.FieldFaults.{here, piece_start}
use Rattle.py_lines.specs.Private.Scan.{Goes, ends_line, is_line_ending, is_return_at}
use Rattle.py_lines.proofs.Pieces.PieceLists.{spelled-append}
use Rattle.py_lines.proofs.Machine.EarlierPieces.{closed-after}
use Rattle.py_lines.proofs.FieldMachine.OuterLists.{outer_list, outer_text, outer_open, outer_done, outer_held, outer_mode, outer_pieces}

module _ (base : List Piece) where
  -- pieces before the others of the outermost list
  abbrev pub list_after : List Level → List Piece → List Piece
  list_after [] done = base ++ done
  list_after (l ∷ ls) done = done

  abbrev pub levels_after : List Level → List Level
  levels_after [] = []
  levels_after (l ∷ ls) = record l { done = list_after ls l.done } ∷ levels_after ls

  abbrev pub state_after : FieldScanned → FieldScanned
  state_after t = field_state (levels_after t.outer) (list_after t.outer t.done) t.openers t.mode t.held

  abbrev pub state_after_if : Option FieldScanned → Option FieldScanned
  state_after_if None = None
  state_after_if (Some t) = Some (state_after t)

  -- as many brackets and fields are open
  pub levels_same : (outer : List Level) → levels_open (levels_after outer) ≡ levels_open outer
  levels_same [] = refl
  levels_same (l ∷ ls) = omega (arith, levels_same ls)

  pub frames_same : (t : FieldScanned) → frames (state_after t) ≡ frames t
  frames_same t = omega (arith, levels_same t.outer)

  -- pieces that begin after those
  closed_after : (outer : List Level) (m : FieldMode) (done : List Piece) (held : List ℕ) → field_closed m (list_after outer done) held ≡ list_after outer (field_closed m done held)
  closed_after [] (plain m) done held = closed-after base done m held
  closed_after [] m done held = append_assoc base done (piece string held ∷ [])
  closed_after (l ∷ ls) m done held = refl

  after_operator_after : (outer : List Level) (done : List Piece) (c : ℕ) (o : Option (List ℕ)) → after_operator (levels_after outer) (list_after outer done) c o ≡ state_after_if (after_operator outer done c o)
  after_operator_after outer done c None = refl
  after_operator_after [] done c (Some os) = ap (λ l. Some (field_fresh [] l os)) (append_assoc base done (piece operator (c ∷ []) ∷ []))
  after_operator_after (l ∷ ls) done c (Some os) = refl

  operator_after : (outer : List Level) (done : List Piece) (os : List ℕ) (c : ℕ) → field_operator (levels_after outer) (list_after outer done) os c ≡ state_after_if (field_operator outer done os c)
  unfolding code_operator
  operator_after [] done os c = after_operator_after [] done c (openers_with os c)
  operator_after (l ∷ ls) done [] c = grind (arith, after_operator_after (l ∷ ls) done c (openers_with [] c))
  operator_after (l ∷ ls) done (o ∷ os) c = after_operator_after (l ∷ ls) done c (openers_with (o ∷ os) c)

  started_after : (outer : List Level) (done : List Piece) (os : List ℕ) (c : ℕ) (x : Start) → field_started (levels_after outer) (list_after outer done) os c x ≡ state_after_if (field_started outer done os c x)
  started_after outer done os c Start.Operator = operator_after outer done os c
  started_after [] done os c Start.LineEnd = ap (λ l. Some (field_fresh [] l os)) (append_assoc base done (piece line_end (c ∷ []) ∷ []))
  started_after (l ∷ ls) done os c Start.LineEnd = refl
  started_after outer done os c x = refl

  -- one character
  moved_after : (outer : List Level) (done : List Piece) (os : List ℕ) (m : FieldMode) (held : List ℕ) (c : ℕ) (v : FieldMove) → field_moved (state_after (field_state outer done os m held)) c v ≡ state_after_if (field_moved (field_state outer done os m held) c v)
  moved_after [] done os m held c closes = ap (λ l. Some (field_fresh [] l os)) (append_assoc base done (piece (field_class_of m) (held ++ c ∷ []) ∷ []))
  moved_after outer done os m held c breaks =
      ap (λ l. field_started (levels_after outer) l os c (start_of c)) (closed_after outer m done held) ∙ started_after outer (field_closed m done held) os c (start_of c)
  moved_after outer done os m held c (begins_code host) = started_after (opened_level (field_state outer done os m held) host literal held ∷ outer) [] [] c (start_of c)
  moved_after [] done os m held c v = refl
  moved_after (l ∷ ls) done os m held c v = refl

  -- there is room for the same
  pub room_step_after : (t : FieldScanned) (c : ℕ) → room_step (state_after t) c ≡ state_after_if (room_step t c)
  room_step_after t c = ap (λ n. roomy (has_room_at n c (field_move t.mode t.held c)) (field_step (state_after t) c)) (frames_same t)
      ∙ ap (roomy (has_room t c)) (moved_after t.outer t.done t.openers t.mode t.held c (field_move t.mode t.held c)) ∙ either (has_room t c)
    where
      either : (b : Bool) → roomy b (state_after_if (field_step t c)) ≡ state_after_if (roomy b (field_step t c))
      either true = refl
      either false = refl

  -- and the same ends a line
  pub ends_after : (t : FieldScanned) (c : ℕ) → ends_line (state_after t) c ≡ ends_line t c
  ends_after t c = ap (λ n. (n == 0) && is_line_ending t.mode (field_move t.mode t.held c) c) (frames_same t)

  pub goes_after : (t : FieldScanned) (cs : List ℕ) (u : FieldScanned) → Goes t cs u → Goes (state_after t) cs (state_after u)
  goes_after t [] u goes = ap state_after goes
  goes_after t (c ∷ cs) u (open_yet, next, step, other, goes) = (
    ap (λ n. is_return_at t.mode && (n == 0)) (frames_same t) ∙ open_yet,
    state_after next,
    room_step_after t c ∙ ap state_after_if step,
    ends_after t c ∙ other,
    goes_after next cs u goes,
  )

  -- what they spell stands before the rest
  pub text_after : (p : Place) (outer : List Level) (done : List Piece) (more : List ℕ) → before p (levels_after outer) ++ (spelled (list_after outer done) ++ more) ≡ spelled base ++ (before p outer ++ (spelled done ++ more))
  text_after p [] done more = ap (λ x. x ++ more) (spelled-append base done) ∙ append_assoc (spelled base) (spelled done) more
  text_after literal (l ∷ ls) done more =
      ap (λ x. x ++ (spelled done ++ more)) (text_after l.place ls l.done l.front) ∙ append_assoc (spelled base) (before l.place ls ++ (spelled l.done ++ l.front)) (spelled done ++ more)
  text_after specification (l ∷ ls) done more =
      ap (λ x. (before l.place (levels_after ls) ++ x) ++ (spelled done ++ more)) (sym (append-nil (spelled (list_after ls l.done))))
      ∙ ap (λ x. x ++ (spelled done ++ more)) (text_after l.place ls l.done [])
      ∙ append_assoc (spelled base) (before l.place ls ++ (spelled l.done ++ [])) (spelled done ++ more)
      ∙ ap (λ x. spelled base ++ ((before l.place ls ++ x) ++ (spelled done ++ more))) (append-nil (spelled l.done))

  pub here_after : (t : FieldScanned) → here (state_after t) ≡ byte_len (spelled base) + here t
  here_after t = ap byte_len (text_after (text_place t.mode) t.outer t.done t.held) ∙ byte_len-append (spelled base) _

  pub start_after : (t : FieldScanned) → piece_start (state_after t) ≡ byte_len (spelled base) + piece_start t
  start_after t = ap (λ x. byte_len (before (text_place t.mode) (levels_after t.outer) ++ x)) (sym (append-nil (spelled (list_after t.outer t.done))))
      ∙ ap byte_len (text_after (text_place t.mode) t.outer t.done [])
      ∙ byte_len-append (spelled base) (before (text_place t.mode) t.outer ++ (spelled t.done ++ []))
      ∙ ap (λ x. byte_len (spelled base) + byte_len (before (text_place t.mode) t.outer ++ x)) (append-nil (spelled t.done))

  -- in the outermost list the others are the same
  list_alike : (outer : List Level) (done : List Piece) → outer_list (levels_after outer) (list_after outer done) ≡ base ++ outer_list outer done
  list_alike [] done = refl
  list_alike (l ∷ ls) done = list_alike ls l.done

  text_alike : (p : Place) (outer : List Level) (done : List Piece) (held : List ℕ) → outer_text p (levels_after outer) (list_after outer done) held ≡ outer_text p outer done held
  text_alike p [] done held = refl
  text_alike literal (l ∷ ls) done held = text_alike l.place ls l.done (l.front ++ (spelled done ++ held))
  text_alike specification (l ∷ ls) done held = text_alike l.place ls l.done (spelled done ++ held)

  open_alike : (outer : List Level) (m : FieldMode) → outer_open (levels_after outer) m ≡ outer_open outer m
  open_alike [] m = refl
  open_alike (l ∷ ls) m = open_alike ls (body l.host l.place false between)

  pub outer_pieces_after : (t : FieldScanned) → outer_pieces (state_after t) ≡ base ++ outer_pieces t
  outer_pieces_after t = ap (λ m. field_closed m (outer_done (state_after t)) (outer_held (state_after t))) (open_alike t.outer t.mode)
      ∙ ap (λ x. field_closed (outer_mode t) (outer_done (state_after t)) x) (text_alike (text_place t.mode) t.outer t.done t.held)
      ∙ ap (λ l. field_closed (outer_mode t) l (outer_held t)) (list_alike t.outer t.done) ∙ closed_after [] (outer_mode t) (outer_done t) (outer_held t)
