-- The outermost list of pieces, where the machine with fields stands: its finished pieces, and the text after them, which is that of the
-- piece that is open there. While a field is open, that is the string in whose field all else stands.
use Rattle.py_lines.proofs.Prelude.{◌≡◌, ℕ, false, Option, None, Some, List, [], ◌∷◌, ◌++◌, refl, sym, ap, ◌∙◌, subst, append_assoc, append-nil, arith, string, Piece, spelled, Place, literal, specification, piece}
use Rattle.py_lines.specs.Private.Machine.{Start, start_of, closed}
use Rattle.py_lines.specs.Private.FieldMachine.{between, FieldMode, plain, body, FieldMove, closes, breaks, Level, FieldScanned, field_state, field_fresh, field_class_of, field_closed, field_pieces, field_move, field_moved, field_started, field_operator, field_step, field_steps_from, after_operator, openers_with, code_operator, text_place, before}
use Rattle.py_lines.proofs.Machine.EarlierPieces.{closed-after}
use Rattle.py_lines.proofs.Machine.PieceSteps.{some_is}
use Rattle.py_lines.proofs.FieldSoundness.Holds.{Limit, IsFieldSound}
use Rattle.py_lines.proofs.FieldSoundness.LiveTexts.{steps_before}

-- the finished pieces of the outermost list
abbrev pub outer_list : List Level → List Piece → List Piece
outer_list [] done = done
outer_list (l ∷ ls) done = outer_list ls l.done

-- the text after them
abbrev pub outer_text : Place → List Level → List Piece → List ℕ → List ℕ
outer_text place [] done held = held
outer_text literal (l ∷ ls) done held = outer_text l.place ls l.done (l.front ++ (spelled done ++ held))
outer_text specification (l ∷ ls) done held = outer_text l.place ls l.done (spelled done ++ held)

-- what is open there
abbrev pub outer_open : List Level → FieldMode → FieldMode
outer_open [] m = m
outer_open (l ∷ ls) m = outer_open ls (body l.host l.place false between)

abbrev pub outer_done : FieldScanned → List Piece
outer_done t = outer_list t.outer t.done

abbrev pub outer_held : FieldScanned → List ℕ
outer_held t = outer_text (text_place t.mode) t.outer t.done t.held

abbrev pub outer_mode : FieldScanned → FieldMode
outer_mode t = outer_open t.outer t.mode

-- all pieces of it, the open one with them
abbrev pub outer_pieces : FieldScanned → List Piece
outer_pieces t = field_closed (outer_mode t) (outer_done t) (outer_held t)

-- where no field is open, they are those of the innermost list
pub outer_alone : (t : FieldScanned) → t.outer ≡ [] → (outer_done t ≡ t.done) × (outer_held t ≡ t.held) × (outer_mode t ≡ t.mode) × (outer_pieces t ≡ field_pieces t)
outer_alone t none = grind arith

-- together they spell what was read
text_parts : (place : Place) (outer : List Level) (done : List Piece) (held : List ℕ) → before place outer ++ (spelled done ++ held) ≡ spelled (outer_list outer done) ++ outer_text place outer done held
text_parts place [] done held = refl
text_parts literal (l ∷ ls) done held = append_assoc (before l.place ls) (spelled l.done ++ l.front) (spelled done ++ held)
    ∙ ap (λ x. before l.place ls ++ x) (append_assoc (spelled l.done) l.front (spelled done ++ held))
    ∙ text_parts l.place ls l.done (l.front ++ (spelled done ++ held))
text_parts specification (l ∷ ls) done held = append_assoc (before l.place ls) (spelled l.done) (spelled done ++ held) ∙ text_parts l.place ls l.done (spelled done ++ held)

pub outer_spell : (limit : Limit) (t : FieldScanned) (read : List ℕ) → IsFieldSound limit t read → spelled (outer_done t) ++ outer_held t ≡ read
outer_spell limit t read sound = sym (text_parts (text_place t.mode) t.outer t.done t.held) ∙ sound.spell

-- What a character does to the outermost list: its open piece goes on, or ends with it, or ends before it.
pub data OuterStep (t : FieldScanned) (c : ℕ) (u : FieldScanned) : Type 0 where
  outer_stays : outer_done u ≡ outer_done t → OuterStep t c u
  outer_closes : t.outer ≡ [] → field_move t.mode t.held c ≡ closes
      → u ≡ field_fresh [] (t.done ++ record { class = field_class_of t.mode; text = t.held ++ c ∷ [] } ∷ []) t.openers → OuterStep t c u
  outer_breaks : t.outer ≡ [] → field_move t.mode t.held c ≡ breaks → field_started [] (field_pieces t) t.openers c (start_of c) ≡ Some u → OuterStep t c u

-- a character in a field leaves the outermost list as it is
abbrev KeepsList : List Piece → Option FieldScanned → Type 0
KeepsList done None = Unit {0}
KeepsList done (Some u) = outer_done u ≡ done

after_keeps : (l : Level) (ls : List Level) (done : List Piece) (c : ℕ) (o : Option (List ℕ)) → KeepsList (outer_list ls l.done) (after_operator (l ∷ ls) done c o)
after_keeps l ls done c None = tt
after_keeps l ls done c (Some os) = refl

operator_keeps : (l : Level) (ls : List Level) (done : List Piece) (os : List ℕ) (c : ℕ) → KeepsList (outer_list ls l.done) (field_operator (l ∷ ls) done os c)
unfolding code_operator
operator_keeps l ls done [] c = grind (arith, after_keeps l ls done c (openers_with [] c))
operator_keeps l ls done (o ∷ os) c = after_keeps l ls done c (openers_with (o ∷ os) c)

started_keeps : (l : Level) (ls : List Level) (done : List Piece) (os : List ℕ) (c : ℕ) (x : Start) → KeepsList (outer_list ls l.done) (field_started (l ∷ ls) done os c x)
started_keeps l ls done os c Start.Operator = operator_keeps l ls done os c
started_keeps l ls done os c Start.Nothing = tt
started_keeps l ls done os c x = grind arith

abbrev IsInField : List Level → FieldMove → Type 0
IsInField [] closes = ⊥
IsInField [] breaks = ⊥
IsInField outer v = Unit {0}

moved_keeps : (outer : List Level) (done : List Piece) (os : List ℕ) (m : FieldMode) (held : List ℕ) (c : ℕ) (v : FieldMove) → IsInField outer v → KeepsList (outer_list outer done) (field_moved (field_state outer done os m held) c v)
moved_keeps outer done os m held c v inside = grind (arith, started_keeps)

pub outer_steps : (t : FieldScanned) (c : ℕ) (u : FieldScanned) → field_step t c ≡ Some u → OuterStep t c u
outer_steps t c u step = go t.outer (field_move t.mode t.held c) refl refl where
  stays : (outer : List Level) (v : FieldMove) → t.outer ≡ outer → field_move t.mode t.held c ≡ v → IsInField outer v → OuterStep t c u
  stays outer v is move inside =
      outer_stays (subst (KeepsList (outer_done t)) step (moved_keeps t.outer t.done t.openers t.mode t.held c (field_move t.mode t.held c) (rw (is, move) inside)))

  go : (outer : List Level) (v : FieldMove) → t.outer ≡ outer → field_move t.mode t.held c ≡ v → OuterStep t c u
  go [] closes is move = outer_closes is move (rw is at (sym (some_is _ u (sym (ap (field_moved t c) move) ∙ step))))
  go [] breaks is move = outer_breaks is move (rw is at (sym (ap (field_moved t c) move) ∙ step))
  go outer v is move = stays outer v is move (grind arith)

-- a piece that begins there begins after all others
abbrev StartedIf : List Piece → Option FieldScanned → Type 0
StartedIf done None = Unit {0}
StartedIf done (Some u) = (u.outer ≡ []) × ((ps : List Piece) × (u.done ≡ done ++ ps))

pub started_outer : (done : List Piece) (openers : List ℕ) (c : ℕ) (x : Start) (u : FieldScanned) → field_started [] done openers c x ≡ Some u → (u.outer ≡ []) × ((ps : List Piece) × (u.done ≡ done ++ ps))
started_outer done openers c x u is = grind (arith, piece, append-nil)

-- the finished pieces stay, and others may come after them
pub closed_on : (m : FieldMode) (done : List Piece) (held : List ℕ) → (ps : List Piece) × (field_closed m done held ≡ done ++ ps)
closed_on (plain m) done held = (closed m [] held, ap (λ l. closed m l held) (sym (append-nil done)) ∙ closed-after done [] m held)
closed_on m done held = (piece string held ∷ [], refl)

pub outer_grows : (t : FieldScanned) (c : ℕ) (u : FieldScanned) → field_step t c ≡ Some u → (ps : List Piece) × (outer_done u ≡ outer_done t ++ ps)
outer_grows t c u step = go (outer_steps t c u step) where
  go : OuterStep t c u → (ps : List Piece) × (outer_done u ≡ outer_done t ++ ps)
  go (outer_stays same) = ([], same ∙ sym (append-nil (outer_done t)))
  go (outer_closes none move is) = let last : Piece = piece (field_class_of t.mode) (t.held ++ c ∷ []) in
      (last ∷ [], ap outer_done is ∙ ap (λ l. l ++ last ∷ []) (sym (outer_alone t none).0))
  go (outer_breaks none move is) = let (outside, (ps, more)) = started_outer (field_pieces t) t.openers c (start_of c) u is in
      let (qs, closed_so) = closed_on t.mode t.done t.held in
      (qs ++ ps, (outer_alone u outside).0 ∙ more ∙ ap (λ l. l ++ ps) closed_so ∙ append_assoc t.done qs ps ∙ ap (λ l. l ++ (qs ++ ps)) (sym (outer_alone t none).0))

pub outer_runs : (cs : List ℕ) (t u : FieldScanned) → field_steps_from (Some t) cs ≡ Some u → (ps : List Piece) × (outer_done u ≡ outer_done t ++ ps)
outer_runs [] t u steps = ([], ap outer_done (some_is u t (sym steps)) ∙ sym (append-nil (outer_done t)))
outer_runs (c ∷ cs) t u steps =
    let (n, first) = steps_before (field_step t c) cs u steps in let (ps, one) = outer_grows t c n first in
    let (qs, others) = outer_runs cs n u (ap (λ o. field_steps_from o cs) (sym first) ∙ steps) in
    (ps ++ qs, others ∙ ap (λ l. l ++ qs) one ∙ append_assoc (outer_done t) ps qs)
