-- What the machine with fields has found of the outermost list of a text: these pieces spell what was read, and finished ones stay.
use Rattle.py_lines.proofs.Prelude.{◌≡◌, ℕ, Some, List, [], ◌∷◌, ◌++◌, ap, ◌∙◌, append-nil, append_assoc, false, arith, string, Piece, spelled, Host, Place}
use Rattle.py_lines.specs.Private.FieldMachine.{between, FieldMode, body, Level, FieldScanned, field_state, field_closed, field_steps_from}
use Rattle.py_lines.proofs.Pieces.PieceLists.{spelled-push}
use Rattle.py_lines.proofs.FieldSoundness.Holds.{Limit, HoldsMode, IsFieldSound}
use Rattle.py_lines.proofs.FieldMachine.OuterLists.{outer_open, outer_done, outer_held, outer_mode, outer_pieces, outer_spell, outer_runs, closed_on}
use Rattle.py_lines.proofs.FieldMachine.WholeRuns.{RunsTo, runs_sound}

-- those that are finished are among those that are found later
pub found_on : (cs : List ℕ) (t u : FieldScanned) → field_steps_from (Some t) cs ≡ Some u → (ps : List Piece) × (outer_pieces u ≡ outer_done t ++ ps)
found_on cs t u steps =
    let kept = outer_runs cs t u steps in let last = closed_on (outer_mode u) (outer_done u) (outer_held u) in
    (kept.0 ++ last.0, last.1 ∙ ap (λ l. l ++ last.0) kept.1 ∙ append_assoc (outer_done t) kept.0 last.0)

-- the open piece spells the text after the finished ones
pub closed_spells : (limit : Limit) (outer : List Level) (depth : ℕ) (m : FieldMode) (done : List Piece) (held : List ℕ)
    → HoldsMode limit outer depth m held → spelled (field_closed m done held) ≡ spelled done ++ held
closed_spells limit outer depth m done held holds = grind (arith, append-nil, spelled-push)

string_spells : (outer : List Level) (host : Host) (place : Place) (done : List Piece) (held : List ℕ)
    → spelled (field_closed (outer_open outer (body host place false between)) done held) ≡ spelled done ++ held
string_spells [] host place done held = spelled-push done string held
string_spells (l ∷ ls) host place done held = string_spells ls l.host l.place done held

-- so all of them spell what was read
pub outer_spells : (limit : Limit) (t : FieldScanned) (read : List ℕ) → IsFieldSound limit t read → spelled (outer_pieces t) ≡ read
outer_spells limit t read sound = go t.outer t.done t.openers t.mode t.held sound where
  go : (outer : List Level) (done : List Piece) (openers : List ℕ) (m : FieldMode) (held : List ℕ)
      → IsFieldSound limit (field_state outer done openers m held) read → spelled (outer_pieces (field_state outer done openers m held)) ≡ read
  go [] done openers m held own = closed_spells limit [] _ m done held own.mode ∙ outer_spell limit (field_state [] done openers m held) read own
  go (l ∷ ls) done openers m held own = string_spells ls l.host l.place _ _ ∙ outer_spell limit (field_state (l ∷ ls) done openers m held) read own

pub runs_spell : (cs : List ℕ) (t : FieldScanned) → RunsTo cs t → spelled (outer_pieces t) ≡ cs
runs_spell cs t runs = outer_spells _ t cs (runs_sound cs t runs)
