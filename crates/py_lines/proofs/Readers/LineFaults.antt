-- The machine goes through a whole text as it goes through the line that stands last in it, with the pieces of the lines before among those
-- of its outermost list. So the fault that the scan of a line names is that of the whole text, and it stands in the line.
use Rattle.py_lines.proofs.Prelude.{◌≡◌, ℕ, ◌<◌, ◌==◌, ◌&&◌, true, false, None, Some, List, [], ◌∷◌, ◌++◌, refl, sym, ap, ◌∙◌, subst, append-nil, arith, zero, suc, ◌+◌, ◌-◌, Bool, length, append_assoc, length-append, if◌then◌else◌, same_from_push, append_cancel_left, both_ways, cond_both, length-le-encodes, is_line_feed, is_break, is_return, line_end, Piece, spelled, IsBalanced, depth_through, is_opening, is_closing, byte_len, FaultKind, LineFault, AreReadBefore, IsShallow, Place, literal, first_mode, piece, byte_len-append}
use Rattle.py_lines.specs.Faults.{IsLive, Cause, breaks_string, closes_wrong, opens_too_deep, begins_nothing, kind_of_cause, Unfinished, open_brace, open_bracket, open_inside, kind_of_unfinished, IsCharacterFault, IsEndFault, at_end}
use Rattle.py_lines.specs.Private.Machine.{Mode, move_of, start_of, Bracket, brackets_of}
use Rattle.py_lines.specs.Private.Mode as modes
use Rattle.py_lines.specs.Private.FieldMachine.{FieldMode, FieldScanned, IsFieldFinal, Level, before, between, body, breaks, field_closed, field_move, field_moved, field_pieces, field_started, field_state, field_text_start, frames, has_room_at, levels_open, plain, room_step, roomy, text_place, after_open_backslash, may_end}
use Rattle.py_lines.specs.Private.LineScan.{EndsNoLine, IsUnderWay, begins_line, line_begun}
use Rattle.py_lines.specs.Private.Scan.{Goes, has_returned, is_return_at, IsFieldEnd, IsFieldFault, IsUnfinishedAt}
use Rattle.py_lines.proofs.FieldMachine.EarlierPieces.{goes_after, outer_pieces_after, room_step_after, state_after, state_after_if, frames_same, here_after, levels_after, levels_same, list_after, start_after, text_after}
use Rattle.py_lines.proofs.FieldMachine.OuterLists.{outer_alone, outer_done, outer_held, outer_mode, outer_open, outer_pieces}
use Rattle.py_lines.proofs.FieldMachine.Runs.{StopsAt, stops-fresh}
use Rattle.py_lines.proofs.FieldMachine.WholeRuns.{RunsTo, goes_runs, reach, runs_both, runs_one, stops_there}
use Rattle.py_lines.proofs.FieldSoundness.Holds.{IsFieldSound, Limit, HoldsLevels}
use Rattle.py_lines.proofs.FieldSoundness.OpenLists.{balanced_at, opens-depth}
use Rattle.py_lines.proofs.FieldSoundness.WholeTexts.{code_at_end, list_ends, two_hundred}
use Rattle.py_lines.proofs.LineScan.LineSteps.{way_one_line, way_sound, way_here, closed_one_line}
use Rattle.py_lines.proofs.LineScan.TextSteps.{Base, begun_sound}
use Rattle.py_lines.specs.Balance as balance
use Rattle.py_lines.specs.PieceGrammar.{feed}
use Rattle.py_lines.specs.Private.FieldFaults.{is_waiting, quotes_specification, cause_in, cause_place, here, field_start, unfinished_code, unfinished_in, unfinished_at}
use Rattle.py_lines.proofs.Faults.CharacterFaults.{IsStuck, IsShortHere, cause_fits, short_here}
use Rattle.py_lines.proofs.Faults.Ends.{StandsThere, text_is, unfinished_fits}
use Rattle.py_lines.proofs.Faults.FaultPrefixes.{PrefixTo, explained, field_fault_prefix}
use Rattle.py_lines.proofs.Text.Splits.{Either, either}
use Rattle.py_lines.proofs.Pieces.OpenBrackets.{stack-from_balanced}
use Rattle.py_lines.proofs.Pieces.ShallowPieces.{brackets_shallow}
use Rattle.py_lines.proofs.Machine.EarlierPieces.{shift, shift_if, stack-after}

-- no piece is open, but perhaps the CR of a line end
abbrev pub IsBetweenLines : FieldMode → Type 0
IsBetweenLines (plain modes.Start) = Unit {0}
IsBetweenLines (plain modes.Free) = Unit {0}
IsBetweenLines (plain modes.Return) = Unit {0}
IsBetweenLines other = ⊥

-- so where the machine stands after pieces that end a line
ended_mode : (m : FieldMode) (done : List Piece) (held : List ℕ) (front : List Piece) (last : Piece) → field_closed m done held ≡ front ++ last ∷ []
    → last.class ≡ line_end → IsBetweenLines m
ended_mode m done held front last is class = grind (arith, same_from_push, piece, both_ways)

-- how the machine stands in the text, after pieces that end a line: as in the line, if something of it was read
abbrev pub StandsAfter : List Piece → List ℕ → FieldScanned → FieldScanned → Type 0
StandsAfter base [] t state = IsBetweenLines state.mode
StandsAfter base (c ∷ cs) t state = state_after base t ≡ state

-- so where something was
pub stands_on : (base : List Piece) (read : List ℕ) (t state : FieldScanned) → 0 < byte_len read → StandsAfter base read t state → state_after base t ≡ state
stands_on base [] t state some stands = absurd (omega (arith, some))
stands_on base (c ∷ cs) t state some stands = stands

-- the machine at a place of a line
pub record Joined (base : List Piece) (read : List ℕ) (t : FieldScanned) (after : List ℕ) : Type 0 where
  pub state : FieldScanned
  pub runs : RunsTo (spelled base ++ read) state
  pub pieces : outer_pieces state ≡ base ++ outer_pieces t
  pub next : (c : ℕ) (more : List ℕ) → after ≡ c ∷ more → room_step state c ≡ state_after_if base (room_step t c)
  pub stands : StandsAfter base read t state

-- outside fields and brackets a character begins a piece after the others
begins_there : (done : List Piece) (m : FieldMode) (held : List ℕ) (c : ℕ) → field_move m held c ≡ breaks
    → room_step (field_state [] done [] m held) c ≡ roomy (has_room_at 0 c breaks) (field_started [] (field_closed m done held) [] c (start_of c))
begins_there done m held c move = ap (λ v. roomy (has_room_at 0 c v) (field_moved (field_state [] done [] m held) c v)) move

-- so from the start of a line the machine goes as from the pieces before it
from_base : (base : List Piece) (t : FieldScanned) (c : ℕ) → t.outer ≡ [] → t.openers ≡ [] → field_pieces t ≡ base
    → field_move t.mode t.held c ≡ breaks → room_step t c ≡ state_after_if base (room_step (line_begun modes.Free) c)
from_base base t c outside level is move =
    ap (λ o. room_step (field_state o t.done t.openers t.mode t.held) c) outside ∙ ap (λ o. room_step (field_state [] t.done o t.mode t.held) c) level
    ∙ begins_there t.done t.mode t.held c move ∙ ap (λ l. roomy (has_room_at 0 c breaks) (field_started [] l [] c (start_of c))) (is ∙ sym (append-nil base))
    ∙ sym (begins_there (base ++ []) (plain modes.Free) [] c (stops-fresh (c ∷ []))) ∙ room_step_after base (line_begun modes.Free) c

module _ (n : ℕ) (base : List Piece) (after : List ℕ) (balanced : IsBalanced base) (shallow : IsShallow 0 base) where
  -- something was read
  joined_full : (c : ℕ) (cs : List ℕ) (t : FieldScanned) → AreReadBefore base ((c ∷ cs) ++ after) → Base n base
      → Goes (line_begun (first_mode n)) (c ∷ cs) t → Joined base (c ∷ cs) t after
  joined_full c cs t fit is goes = record {
    state = state_after base t;
    runs = run is;
    pieces = outer_pieces_after base t;
    next = λ d more follows. room_step_after base t d;
    stands = refl;
  } where
    run : Base n base → RunsTo (spelled base ++ c ∷ cs) (state_after base t)
    run (Base.bare none mode) = let own = goes_runs field_text_start (c ∷ cs) (state_after [] t)
        (goes_after [] (line_begun modes.Start) (c ∷ cs) t (subst (λ m. Goes (line_begun m) (c ∷ cs) t) mode goes)) in
        subst (λ l. RunsTo (spelled l ++ c ∷ cs) (state_after l t)) (sym none) own
    run (Base.lined front last ends class any mode) = let reached = reach base ((c ∷ cs) ++ after) fit balanced shallow (any ((c ∷ cs) ++ after)) in
        let (open_yet, next, step, going, others) = subst (λ m. Goes (line_begun m) (c ∷ cs) t) mode goes in
        let first : room_step reached.to c ≡ Some (state_after base next)
        = from_base base reached.to c reached.outside reached.openers_are reached.pieces_are reached.stops ∙ ap (state_after_if base) step in
        runs_both field_text_start (spelled base) (c ∷ cs) reached.to (state_after base t) reached.runs
        (runs_both reached.to (c ∷ []) cs (state_after base next) (state_after base t) (runs_one reached.to c (state_after base next) first)
        (goes_runs (state_after base next) cs (state_after base t) (goes_after base next cs t others)))

  -- nothing was read yet
  joined_none : (t : FieldScanned) → AreReadBefore base after → Base n base → line_begun (first_mode n) ≡ t → Joined base [] t after
  joined_none t fit (Base.bare none mode) is = let here : field_text_start ≡ t = ap line_begun (sym mode) ∙ is in
      subst (λ l. Joined l [] t after) (sym none) (subst (λ u. Joined [] [] u after) here (record {
        state = field_text_start;
        runs = (refl, refl);
        pieces = refl;
        next = λ d more follows. room_step_after [] field_text_start d;
        stands = tt;
      }))
  joined_none t fit (Base.lined front last ends class any mode) is =
      let reached = reach base after fit balanced shallow (any after) in let here : line_begun modes.Free ≡ t = ap line_begun (sym mode) ∙ is in
      subst (λ u. Joined base [] u after) here (record {
        state = reached.to;
        runs = subst (λ x. RunsTo x reached.to) (sym (append-nil (spelled base))) reached.runs;
        pieces = (outer_alone reached.to reached.outside).3 ∙ reached.pieces_are ∙ sym (append-nil base);
        next = λ d more follows. from_base base reached.to d reached.outside reached.openers_are reached.pieces_are
            (subst (StopsAt reached.to.mode reached.to.held) follows reached.stops);
        stands = ended_mode reached.to.mode reached.to.done reached.to.held front last (reached.pieces_are ∙ ends) class;
      })

  -- the machine where the line has come
  pub joined : (read : List ℕ) (t : FieldScanned) → AreReadBefore base (read ++ after) → Base n base → Goes (line_begun (first_mode n)) read t
      → Joined base read t after
  joined [] t fit is goes = joined_none t fit is goes
  joined (c ∷ cs) t fit is goes = joined_full c cs t fit is goes

-- a character that the line refuses isn't taken in the text
pub refused_at : {base : List Piece} {read after : List ℕ} {t : FieldScanned} (c : ℕ) (more : List ℕ) (j : Joined base read t after)
    → after ≡ c ∷ more → room_step t c ≡ None → room_step j.state c ≡ None
refused_at {base} c more j follows refuses = j.next c more follows ∙ ap (state_after_if base) refuses

-- so it ends the text's life
pub dead_at : {base : List Piece} {read after : List ℕ} {t : FieldScanned} (c : ℕ) (more : List ℕ) (j : Joined base read t after)
    → after ≡ c ∷ more → room_step t c ≡ None → ¬ (IsLive ((spelled base ++ read) ++ c ∷ []))
dead_at {base} {read} c more j follows refuses = stops_there (spelled base ++ read) j.state c j.runs (refused_at c more j follows refuses)

-- where a text may end, its pieces are read
pub record EndsAsRead (t : FieldScanned) (read : List ℕ) : Type 0 where
  pub spell : spelled (field_pieces t) ≡ read
  pub fit : AreReadBefore (field_pieces t) []
  pub balanced : IsBalanced (field_pieces t)
  pub shallow : IsShallow 0 (field_pieces t)

pub ends_as_read : (t : FieldScanned) (read : List ℕ) → IsFieldSound two_hundred t read → IsFieldFinal t → EndsAsRead t read
ends_as_read t read sound final =
    let own = rw (final.outside, final.closed_all) at sound in let list = list_ends two_hundred [] t.done [] t.mode t.held read own final.ends in record {
      spell = list.spell ∙ sym (ap (λ p. before p [] ++ (spelled t.done ++ t.held)) (code_at_end t.mode final.ends)) ∙ own.spell;
      fit = list.fit;
      balanced = balanced_at [] (field_pieces t) refl list.opens;
      shallow = list.passes;
    }

-- after CR LF is taken
pub feed_taken : (t : FieldScanned) (c : ℕ) → t.mode ≡ plain modes.Return → is_line_feed c ≡ true → room_step t c ≡ None → ⊥
unfolding field_move move_of has_room_at
feed_taken t c is feeds none = grind arith

-- in a field no CR is open
in_string : (l : Level) (ls : List Level) (m : FieldMode) → is_return_at (outer_open (l ∷ ls) m) ≡ false
in_string l [] m = refl
in_string l (k ∷ ks) m = in_string k ks (body l.host l.place false between)

-- and outside fields none does that ends the line
no_return : (t : FieldScanned) (read : List ℕ) → IsFieldSound two_hundred t read → has_returned t ≡ false → (outer : List Level) → t.outer ≡ outer
    → is_return_at (outer_mode t) && (depth_through 0 (outer_done t) == 0) ≡ false
no_return t read sound open_yet [] none =
    let alone = outer_alone t none in
    ap (λ m. is_return_at m && (depth_through 0 (outer_done t) == 0)) alone.2 ∙ ap (λ ps. is_return_at t.mode && (depth_through 0 ps == 0)) alone.0
    ∙ ap (λ n. is_return_at t.mode && (n == 0)) (opens-depth t.openers t.done 0 sound.list.opens ∙ omega (arith, ap levels_open none)) ∙ open_yet
no_return t read sound open_yet (l ∷ ls) is = ap (λ o. is_return_at (outer_open o t.mode) && (depth_through 0 (outer_done t) == 0)) is
    ∙ ap (λ b. b && (depth_through 0 (outer_done t) == 0)) (in_string l ls t.mode)

pub open_line : {m : Mode} {read : List ℕ} (way : IsUnderWay m read) → begins_line m ≡ true → has_returned way.field ≡ false
    → EndsNoLine 0 (outer_pieces way.field)
open_line {read = read} way start open_yet = let t = way.field in closed_one_line (outer_mode t) (outer_done t) (outer_held t) (way_one_line way start)
    (no_return t read (way_sound way start) open_yet t.outer refl)

-- Pieces before the others of the outermost list leave the rest as it is.
module _ (base : List Piece) where
  open_same : (outer : List Level) (os : List ℕ) (m : FieldMode) → unfinished_in (levels_after base outer) os m ≡ unfinished_in outer os m
  open_same outer os m = grind (arith, levels_same)

  field_after : (outer : List Level) → (outer ≡ [] → ⊥)
      → byte_len (before literal (levels_after base outer)) ≡ byte_len (spelled base) + byte_len (before literal outer)
  field_after [] some = absurd (some refl)
  field_after (l ∷ ls) some = ap byte_len (text_after base l.place ls l.done l.front) ∙ byte_len-append (spelled base) _

-- a field that is open has a `{`
field_full : (limit : Limit) (p : Place) (outer : List Level) (text : List ℕ) → HoldsLevels limit p outer text → (outer ≡ [] → ⊥) → 0 < byte_len (before literal outer)
field_full limit p [] text holds some = absurd (some refl)
field_full limit p (l ∷ ls) text holds some =
    let own = holds.1 in
    omega (arith, byte_len-append (before l.place ls) (spelled l.done ++ l.front), byte_len-append (spelled l.done) l.front, length-le-encodes l.front, ap length own.spell, length-append own.text (123 ∷ []))

-- a specification is that of a field
quoted_inside : (limit : Limit) (m : FieldMode) (outer : List Level) (text : List ℕ) (c : ℕ) → HoldsLevels limit (text_place m) outer text → quotes_specification m c ≡ true → outer ≡ [] → ⊥
quoted_inside limit m outer text c holds quotes none = grind arith

-- The machine with fields stands in the whole text as in the line, for this character: the cause is the same, and its place so many
-- bytes further.
record StandsAlike (k : ℕ) (t u : FieldScanned) (c : ℕ) : Type 0 where
  cause : cause_in (frames t) t.mode c ≡ cause_in (frames u) u.mode c
  place : cause_place t (cause_in (frames u) u.mode c) ≡ k + cause_place u (cause_in (frames u) u.mode c)

-- where some of the line was read
module _ (base : List Piece) (read : List ℕ) (u : FieldScanned) (sound : IsFieldSound two_hundred u read) (some : 0 < here u) where
  abbrev k : ℕ
  k = byte_len (spelled base)

  within_after : (u.outer ≡ [] → ⊥) → field_start (state_after base u) ≡ k + field_start u
  within_after within = omega (arith, field_after base u.outer within, field_full two_hundred (text_place u.mode) u.outer _ sound.levels within)

  alike_after : (c : ℕ) → StandsAlike k (state_after base u) u c
  alike_after c = record { cause = ap (λ n. cause_in n u.mode c) (frames_same base u); place = place } where
    place : cause_place (state_after base u) (cause_in (frames u) u.mode c) ≡ k + cause_place u (cause_in (frames u) u.mode c)
    place = let P : Cause → Type 0 = λ cause. cause_place (state_after base u) cause ≡ k + cause_place u cause in
        cond_both (is_waiting u.mode && (frames u == 200)) _ _ P (λ h. omega (arith, here_after base u, some))
        (λ h. cond_both (is_break c) _ _ P (λ i. start_after base u) (λ i. cond_both (after_open_backslash u.mode) _ _ P (λ l. start_after base u)
        (λ l. cond_both (is_closing c) _ _ P (λ n. here_after base u) (λ n. cond_both (is_opening c) _ _ P (λ o. here_after base u)
        (λ o. cond_both (quotes_specification u.mode c) _ _ P (λ quotes. within_after (quoted_inside two_hundred u.mode u.outer _ c sound.levels quotes)) (λ q. here_after base u))))))

  -- what is open at the end stands so many bytes further
  there_after : brackets_of base ≡ Some [] → (what : Unfinished) (place : ℕ) → IsUnfinishedAt u what place → (n : ℕ) → StandsThere (state_after base u) what n → n ≡ k + place
  there_after level open_brace place at n stands = omega (arith, stands, here_after base u, some, at)
  there_after level open_inside place at n stands = by (is_waiting u.mode) stands at where
    by : (waits : Bool) → n + 1 ≡ (if waits then here (state_after base u) else byte_len (before literal (levels_after base u.outer))) → place ≡ (if waits then here u - 1 else field_start u) → n ≡ k + place
    by true first second = omega (arith, first, second, here_after base u, some)
    by false first second = let within : u.outer ≡ [] → ⊥ = λ none. omega (arith, first, ap (λ l. byte_len (before literal (levels_after base l))) none) in
        omega (arith, first, second, field_after base u.outer within, field_full two_hundred (text_place u.mode) u.outer _ sound.levels within)
  there_after level open_bracket place (b, others, stack, at) n stands = by u.outer stack at stands where
    by : (outer : List Level) → brackets_of u.done ≡ Some (b ∷ others) → place ≡ byte_len (before literal outer) + b.place
        → ((a : Bracket) (bs : List Bracket) → brackets_of (list_after base outer u.done) ≡ Some (a ∷ bs) → n ≡ byte_len (before literal (levels_after base outer)) + a.place) → n ≡ k + place
    by [] stack at stands = omega (arith, stands (record { opener = b.opener; place = k + b.place }) (shift k others) (stack-after base u.done level ∙ ap (shift_if k) stack), at)
    by (l ∷ ls) stack at stands = omega (arith, stands b others stack, at, field_after base (l ∷ ls) (λ none. cc))
  there_after level what place at n stands = stands ∙ start_after base u ∙ ap (λ m. k + m) (sym at)

-- between lines a character is refused for these causes
abbrev between_cause : ℕ → Cause
between_cause c = if is_break c then breaks_string else (if is_closing c then closes_wrong else (if is_opening c then opens_too_deep else begins_nothing))

between_is : (m : FieldMode) (depth c : ℕ) → IsBetweenLines m → cause_in depth m c ≡ between_cause c
between_is m depth c is = grind arith

-- at the character itself
between_place : (t : FieldScanned) (c : ℕ) → (is_break c ≡ true → ⊥) → cause_place t (between_cause c) ≡ here t
between_place t c other = grind arith

-- no short string is open, in which a line end is refused
not_short : (m : FieldMode) → IsBetweenLines m → IsShortHere m → ⊥
not_short m is short = grind arith

not_waiting : (m : FieldMode) → IsBetweenLines m → is_waiting m ≡ false
not_waiting (plain m) is = refl
not_waiting m is = absurd is

first_between : (n : ℕ) → IsBetweenLines (plain (first_mode n))
first_between zero = tt
first_between (suc n) = tt

-- a character that isn't taken stops the machine
stuck_by : (t : FieldScanned) (c : ℕ) → room_step t c ≡ None → IsStuck t c
stuck_by t c none = grind arith

-- a place in what was scanned
pub record Within (read : List ℕ) (offset : ℕ) : Type 0 where
  pub prefix : List ℕ
  pub later : List ℕ
  pub split : prefix ++ later ≡ read
  pub size : offset ≡ byte_len prefix

-- a line under way, after pieces that end a line
module _ (n : ℕ) (base : List Piece) (balanced : IsBalanced base) (shallow : IsShallow 0 base) (is : Base n base) where
  level : brackets_of base ≡ Some []
  level = stack-from_balanced base balanced (brackets_shallow 0 base shallow)

  -- the next character is refused
  module _ (read : List ℕ) (way : IsUnderWay (first_mode n) read) (c : ℕ) (after : List ℕ) (fit : AreReadBefore base (read ++ c ∷ after))
      (refuses : room_step way.field c ≡ None) (line_fault : LineFault) (is_line_fault : IsFieldFault way.field c line_fault) where
    j : Joined base read way.field (c ∷ after)
    j = joined n base (c ∷ after) balanced shallow read way.field fit is way.goes

    stuck : IsStuck j.state c
    stuck = stuck_by j.state c (refused_at c after j refl refuses)

    begun_alike : read ≡ [] → IsBetweenLines j.state.mode → StandsAlike (byte_len (spelled base)) j.state way.field c
    begun_alike none lies = let t = j.state in let u = way.field in let k = byte_len (spelled base) in
        let begun : line_begun (first_mode n) ≡ u = subst (λ cs. Goes (line_begun (first_mode n)) cs u) none way.goes in
        let cause : cause_in (frames u) u.mode c ≡ between_cause c
        = ap (λ (x : FieldScanned). cause_in (frames u) x.mode c) (sym begun) ∙ between_is (plain (first_mode n)) (frames u) c (first_between n) in
        let apart : is_break c ≡ true → ⊥ = λ at_break. not_short t.mode lies (short_here t (spelled base ++ read) c after j.runs.0 j.runs.1 stuck
        (ap (λ b. b && (frames t == 200)) (not_waiting t.mode lies)) at_break) in
        let size : here t ≡ k + here u = omega (arith, text_is (spelled base ++ read) t j.runs.0 j.runs.1, byte_len-append (spelled base) read, way_here way (begun_sound n)) in
        record {
          cause = between_is t.mode (frames t) c lies ∙ sym cause;
          place = ap (cause_place t) cause ∙ between_place t c apart ∙ size ∙ ap (λ m. k + m) (sym (ap (cause_place u) cause ∙ between_place u c apart));
        }

    alike : (cs : List ℕ) → read ≡ cs → StandsAfter base cs way.field j.state → StandsAlike (byte_len (spelled base)) j.state way.field c
    alike [] none stands = begun_alike none stands
    alike (d ∷ ds) some stands = let full : 0 < here way.field = omega (arith, way_here way (begun_sound n), ap byte_len some, length-le-encodes (d ∷ ds)) in
        subst (λ t. StandsAlike (byte_len (spelled base)) t way.field c) stands (alike_after base read way.field (way_sound way (begun_sound n)) full c)

    pub refused_fault : IsCharacterFault line_fault.kind ((spelled base ++ read) ++ c ∷ after) (byte_len (spelled base) + line_fault.place)
    refused_fault = let text = (spelled base ++ read) ++ c ∷ after in let cause = cause_in (frames way.field) way.field.mode c in
        let same = alike read refl j.stands in
        subst (λ (kind : FaultKind). IsCharacterFault kind text (byte_len (spelled base) + line_fault.place)) (sym is_line_fault.0)
        (subst (IsCharacterFault (kind_of_cause cause) text) (same.place ∙ ap (λ m. byte_len (spelled base) + m) (sym is_line_fault.1))
        (subst (λ x. IsCharacterFault (kind_of_cause x) text (cause_place j.state x)) same.cause
        (cause_fits j.state (spelled base ++ read) c after j.runs.0 j.runs.1 stuck)))

  -- the text ends there, where something is open
  pub unfinished_fault : (read : List ℕ) (way : IsUnderWay (first_mode n) read) → AreReadBefore base (read ++ []) → 0 < byte_len read
      → (line_fault : LineFault) → IsFieldEnd way.field (Some line_fault)
      → IsEndFault line_fault.kind (spelled base ++ read) [] (byte_len (spelled base) + line_fault.place)
  unfinished_fault read way fit some line_fault (what, open_yet, kind, place) =
      let u = way.field in let j = joined n base [] balanced shallow read u fit is way.goes in let same = stands_on base read u j.state some j.stands in
      let found = unfinished_fits (spelled base ++ read) j.state j.runs.0 j.runs.1 what
      (ap unfinished_at (sym same) ∙ open_same base u.outer u.openers u.mode ∙ open_yet) in
      let at = there_after base read u (way_sound way (begun_sound n)) (omega (arith, way_here way (begun_sound n), some)) level what line_fault.place
      place found.0 (subst (λ t. StandsThere t what found.0) (sym same) found.2) in
      subst (λ (x : FaultKind). IsEndFault x (spelled base ++ read) [] (byte_len (spelled base) + line_fault.place)) (sym kind)
      (subst (IsEndFault (kind_of_unfinished what) (spelled base ++ read) []) at found.1)

-- where nothing is open at the end, the machine with fields may end
code_ends : (outer : List Level) (os : List ℕ) → unfinished_code outer os ≡ None → (outer ≡ []) × (os ≡ [])
code_ends outer os none = grind arith

none_open_at : (outer : List Level) (os : List ℕ) (m : FieldMode) → unfinished_in outer os m ≡ None → (outer ≡ []) × (os ≡ []) × (may_end m ≡ true)
none_open_at outer os m none = grind arith

-- so may a text
pub finished : (t : FieldScanned) → unfinished_at t ≡ None → IsFieldFinal t
finished t none = let parts = none_open_at t.outer t.openers t.mode none in record { outside = parts.0; closed_all = parts.1; ends = parts.2 }

-- a fault at a character stands before it
before_character : (read : List ℕ) (c : ℕ) (kind : FaultKind) (offset : ℕ) → IsCharacterFault kind (read ++ c ∷ []) offset → PrefixTo read offset
before_character read c kind offset fault = go (either fault.before (fault.c ∷ fault.dies.after) read (c ∷ []) fault.dies.spell) where
  go : Either fault.before read (c ∷ []) → PrefixTo read offset
  go (Either.shorter k one) = explained fault.cause fault.before k read fault.c offset (sym one) fault.fits
  go (Either.longer d k later one two) =
      absurd (omega (arith, ap length fault.dies.spell, length-append fault.before (fault.c ∷ fault.dies.after), length-append read (c ∷ []), ap length one, length-append read (d ∷ k)))

-- a place after the lines given is one in the line
within_line : (first read : List ℕ) (place : ℕ) → PrefixTo (first ++ read) (byte_len first + place) → Within read place
within_line first read place p = go (either p.prefix p.rest first read p.spell) where
  go : Either p.prefix first read → Within read place
  go (Either.shorter k one) = record { prefix = []; later = read; split = refl; size = omega (arith, p.place, ap byte_len one, byte_len-append p.prefix k) }
  go (Either.longer d k later one two) = record {
    prefix = d ∷ k;
    later = p.rest;
    split = append_cancel_left first ((d ∷ k) ++ p.rest) read (sym (append_assoc first (d ∷ k) p.rest) ∙ ap (λ t. t ++ p.rest) (sym one) ∙ p.spell);
    size = omega (arith, p.place, ap byte_len one, byte_len-append first (d ∷ k));
  }

-- some lines that may stand before
record Before (n : ℕ) : Type 0 where
  base : List Piece
  balanced : IsBalanced base
  shallow : IsShallow 0 base
  is : Base n base
  fit : (rest : List ℕ) → AreReadBefore base rest

lines_before : (n : ℕ) → Before n
unfolding is_return
lines_before zero = record { base = []; balanced = balance.none [] refl; shallow = tt; is = Base.bare refl refl; fit = λ rest. tt }
lines_before (suc n) = let end = piece line_end (10 ∷ []) in record {
  base = end ∷ [];
  balanced = balance.one (end ∷ []) end refl refl;
  shallow = ((λ h. cc), (λ h. cc), tt);
  is = Base.lined [] end refl refl (λ rest. tt) refl;
  fit = λ rest. (feed refl, refl, refl, tt);
}

-- the fault of a character that is refused stands in the line, and so does that of the text's end
pub refused_within : (n : ℕ) (read : List ℕ) (way : IsUnderWay (first_mode n) read) (c : ℕ) → room_step way.field c ≡ None
    → (line_fault : LineFault) → IsFieldFault way.field c line_fault → Within read line_fault.place
refused_within n read way c refuses line_fault is_line_fault = let b = lines_before n in within_line (spelled b.base) read line_fault.place
    (before_character (spelled b.base ++ read) c line_fault.kind (byte_len (spelled b.base) + line_fault.place) (refused_fault n b.base b.balanced b.shallow b.is read way c [] (b.fit (read ++ c ∷ [])) refuses line_fault is_line_fault))

pub unfinished_within : (n : ℕ) (read : List ℕ) (way : IsUnderWay (first_mode n) read) → 0 < byte_len read → (line_fault : LineFault) → IsFieldEnd way.field (Some line_fault) → Within read line_fault.place
unfinished_within n read way some line_fault is_line_fault = let b = lines_before n in within_line (spelled b.base) read line_fault.place
    (field_fault_prefix line_fault.kind (spelled b.base ++ read) [] (byte_len (spelled b.base) + line_fault.place) (at_end (unfinished_fault n b.base b.balanced b.shallow b.is read way (b.fit (read ++ [])) some line_fault is_line_fault)))
