-- The machine with fields, from a text's start: a text is live exactly where it goes through it, with room for each character; and where it
-- may end, its pieces read the text. It goes through every list of pieces that is read before what follows, and finds those pieces.
use Rattle.py_lines.proofs.Prelude.{◌≡◌, ℕ, Bool, true, false, Option, None, Some, List, [], ◌∷◌, ◌++◌, refl, sym, ap, ◌∙◌, subst, both_ways, arith, Piece, spelled, IsBalanced, literal, IsBalancedReading}
use Rattle.py_lines.specs.Fields.{AreReadBefore, Fields, IsShallow, ShallowFields}
use Rattle.py_lines.specs.Faults.{IsLive}
use Rattle.py_lines.specs.Private.Mode as modes
use Rattle.py_lines.specs.Private.Machine.{Mode}
use Rattle.py_lines.specs.Private.FieldMachine.{FieldScanned, field_state, field_text_start, field_pieces, field_steps_from, have_room, room_step, roomy, openers_through, IsFieldFinal}
use Rattle.py_lines.specs.Private.LineScan.{begins_line, line_begun}
use Rattle.py_lines.specs.Private.Scan.{Goes}
use Rattle.py_lines.proofs.Machine.PieceSteps.{some_is}
use Rattle.py_lines.proofs.FieldMachine.Runs.{MayBegin, BelowLimit, StopsAt, steps_of, room_of}
use Rattle.py_lines.proofs.FieldMachine.ListBrackets.{balanced_openers, none_some}
use Rattle.py_lines.proofs.FieldMachine.Completeness.{passed_shallow, begin_shallow, shallow_run, reached}
use Rattle.py_lines.proofs.FieldSoundness.Holds.{Limit, IsFieldSound}
use Rattle.py_lines.proofs.FieldSoundness.Lists.{FieldSoundIf, no_pieces}
use Rattle.py_lines.proofs.FieldSoundness.HostSteps as soundness
use Rattle.py_lines.proofs.FieldSoundness.WholeTexts.{two_hundred, rooms_at, final_is_reading}
use Rattle.py_lines.proofs.FieldSoundness.LiveTexts.{steps-append, room-append, room_parts, steps_before, live_goes, goes_live}

-- from the text's start the machine goes over these characters to a state, with room for each
abbrev pub RunsTo : List ℕ → FieldScanned → Type 0
RunsTo cs t = (field_steps_from (Some field_text_start) cs ≡ Some t) × (have_room (Some field_text_start) cs ≡ true)

-- from any state
abbrev pub RunsFrom : FieldScanned → List ℕ → FieldScanned → Type 0
RunsFrom s cs t = (field_steps_from (Some s) cs ≡ Some t) × (have_room (Some s) cs ≡ true)

pub live_runs : (cs : List ℕ) → IsLive cs → (t : FieldScanned) × RunsTo cs t
live_runs cs live = let run = live_goes cs live in (run.0, (run.1, run.2))

pub runs_live : (cs : List ℕ) (t : FieldScanned) → RunsTo cs t → IsLive cs
runs_live cs t runs = goes_live cs t runs.0 runs.1

pub runs_sound : (cs : List ℕ) (t : FieldScanned) → RunsTo cs t → IsFieldSound two_hundred t cs
runs_sound cs t runs = soundness.sound_at two_hundred cs t (rooms_at (Some field_text_start) cs runs.1) runs.0

pub reading_at : (cs : List ℕ) (t : FieldScanned) → RunsTo cs t → IsFieldFinal t → IsBalancedReading (field_pieces t) cs
reading_at cs t runs final = final_is_reading cs t runs.0 runs.1 final

-- two runs, one after the other; and a run in two parts
pub runs_both : (s : FieldScanned) (a b : List ℕ) (t u : FieldScanned) → RunsFrom s a t → RunsFrom t b u → RunsFrom s (a ++ b) u
runs_both s a b t u first second =
    (steps-append (Some s) a b ∙ ap (λ o. field_steps_from o b) first.0 ∙ second.0, room-append (Some s) a b t first.0 first.1 second.1)

pub runs_parts : (s : FieldScanned) (a b : List ℕ) (u : FieldScanned) → RunsFrom s (a ++ b) u → (t : FieldScanned) × RunsFrom s a t × RunsFrom t b u
runs_parts s a b u runs =
    let steps = sym (steps-append (Some s) a b) ∙ runs.0 in let (t, first) = steps_before (field_steps_from (Some s) a) b u steps in
    let rooms = room_parts (Some s) a b runs.1 in
    (t, (first, rooms.0), (ap (λ o. field_steps_from o b) (sym first) ∙ steps, ap (λ o. have_room o b) (sym first) ∙ rooms.1))

-- where there is room for a step, and it is taken
pub roomy_parts : (b : Bool) (o : Option FieldScanned) (t : FieldScanned) → roomy b o ≡ Some t → (b ≡ true) × (o ≡ Some t)
roomy_parts true o t is = (refl, is)
roomy_parts false o t is = absurd (none_some is)

-- a run of one character
pub runs_one : (s : FieldScanned) (c : ℕ) (t : FieldScanned) → room_step s c ≡ Some t → RunsFrom s (c ∷ []) t
runs_one s c t step = grind arith

pub one_runs : (s : FieldScanned) (c : ℕ) (t : FieldScanned) → RunsFrom s (c ∷ []) t → room_step s c ≡ Some t
one_runs s c t runs = grind arith

-- no text that begins with characters of which the last isn't taken is live
pub stops_there : (cs : List ℕ) (t : FieldScanned) (c : ℕ) → RunsTo cs t → room_step t c ≡ None → IsLive (cs ++ c ∷ []) → ⊥
stops_there cs t c runs none live =
    let (u, whole) = live_runs (cs ++ c ∷ []) live in let (s, first, last) = runs_parts field_text_start cs (c ∷ []) u whole in
    none_some (sym none ∙ ap (λ x. room_step x c) (some_is t s (sym runs.0 ∙ first.0)) ∙ one_runs s c u last)

-- a run none of whose characters ends the line
pub goes_runs : (s : FieldScanned) (cs : List ℕ) (t : FieldScanned) → Goes s cs t → RunsFrom s cs t
goes_runs s [] t goes = (ap (λ x. Some x) goes, refl)
goes_runs s (c ∷ cs) t (open_yet, next, step, other, goes) = runs_both s (c ∷ []) cs next t (runs_one s c next step) (goes_runs next cs t goes)

-- from a sound state to another
pub runs_on : (s : FieldScanned) (read cs : List ℕ) (t : FieldScanned) → IsFieldSound two_hundred s read → RunsFrom s cs t → IsFieldSound two_hundred t (read ++ cs)
runs_on s read cs t sound runs = subst (λ o. FieldSoundIf two_hundred o (read ++ cs)) runs.0 (soundness.run_sound two_hundred (Some s) read cs sound (rooms_at (Some s) cs runs.1))

-- a line begins soundly
pub begun_field : (limit : Limit) (m : Mode) → begins_line m ≡ true → IsFieldSound limit (line_begun m) []
begun_field limit modes.Start begins = soundness.start_is_sound limit
begun_field limit modes.Free begins = record { spell = refl; mode = (refl, λ at. absurd (cc)); list = no_pieces limit literal [] []; levels = tt; start = tt }
begun_field limit m begins = absurd (both_ways _ refl begins)

-- Pieces that are read before the rest are found from the start: the machine comes through them to no field, with these brackets open,
-- and the open piece may end before the rest.
pub record Reaches (pieces : List Piece) (openers rest : List ℕ) : Type 0 where
  pub to : FieldScanned
  pub runs : RunsTo (spelled pieces) to
  pub outside : to.outer ≡ []
  pub openers_are : to.openers ≡ openers
  pub pieces_are : field_pieces to ≡ pieces
  pub stops : StopsAt to.mode to.held rest

pub reach_open : (pieces : List Piece) (openers rest : List ℕ) → AreReadBefore pieces rest → openers_through (Some []) pieces ≡ Some openers → IsShallow 0 pieces → MayBegin pieces rest → Reaches pieces openers rest
reach_open pieces openers rest fit opens shallow begin =
    let found = reached BelowLimit ShallowFields begin_shallow shallow_run Fields pieces openers rest fit (passed_shallow ShallowFields 0 pieces shallow) opens begin in
    let to : FieldScanned = field_state [] found.done openers found.mode found.held in record {
      to = to;
      runs = (steps_of BelowLimit field_text_start to (spelled pieces) found.goes, room_of field_text_start to (spelled pieces) found.goes);
      outside = refl;
      openers_are = refl;
      pieces_are = found.pieces_are;
      stops = found.stops;
    }

-- no bracket is open after them
pub reach : (pieces : List Piece) (rest : List ℕ) → AreReadBefore pieces rest → IsBalanced pieces → IsShallow 0 pieces → MayBegin pieces rest → Reaches pieces [] rest
reach pieces rest fit balanced shallow begin = reach_open pieces [] rest fit (balanced_openers pieces balanced []) shallow begin
