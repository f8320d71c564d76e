-- Where the scan stands as the machine does before some bytes: what holds of the state that it keeps count of holds of the one in which
-- the machine is. And what one more character comes to, by what it does there: the open piece goes on, closes, or ends before another.
use Rattle.py_lines.proofs.Prelude.{◌≡◌, ℕ, ◌<◌, ◌==◌, ◌&&◌, not, inl, inr, ◌⊎◌, Bool, true, false, None, List, [], ◌∷◌, ◌++◌, length, refl, sym, ap, ◌∙◌, subst, arith, append_assoc, append-nil, slice_index, drop, ◌+◌, Some, ◌||◌, nat_lt, encode_utf8, encode_utf8_all, IsScalar, len_utf8, all_scalars, and_from, and_parts, both_ways, and_right, false_from_ne_true, encode_ascii, encodes-append, length-encode, len_utf8_bounds, len_utf8_ascii, LineFault, Progress, Scan, Piece, spelled, Class, is_line_feed, is_break, is_return, byte_len, is_opening, Frame, OpenMode, literal, BeginsWith, piece}
use Rattle.py_lines.proofs.Text.Utf8Prefixes.{all_scalars-append}
use Rattle.py_lines.specs.declared.mode.Mode.TheVariants as opens
use Rattle.py_lines.specs.declared.scan.Progress.TheVariants as progress
use Rattle.py_lines.specs.Private.Mode as modes
use Rattle.py_lines.specs.Private.Machine.{move_of, Mode, Start, Start as starts, start_of}
use Rattle.py_lines.specs.Private.FieldMachine.{FieldMode, FieldScanned, Level, field_move, field_state, frames, plain, room_step, FieldMove, closes, field_fresh, field_moved, before, has_room_at, roomy, grows, breaks, field_class_of, field_closed, field_started, text_place, field_pieces}
use Rattle.py_lines.specs.Private.FieldFaults.{here, cause_in, cause_place}
use Rattle.py_lines.specs.Private.Scan.{ComesTo, EndsThere, EndsWithFeed, Follows, GoAlike, Goes, IsFirstByte, IsOneItem, IsWrongIn, Rests, StandsAs, Steps, IsFieldFault, ends_line, has_returned, is_return_at, mode_from, FramesFollow, GoesOver, HasQuote, HoldsCode, TakesOne, is_line_ending, is_ending}
use Rattle.py_lines.proofs.Text.CharacterTests.{operator_ascii, each_of}
use Rattle.py_lines.proofs.Pieces.PieceLists.{spelled-push}
use Rattle.py_lines.proofs.Machine.Starts.{StartsSo, starts_so, opens_no, start-feed, start-return}
use Rattle.py_lines.proofs.FieldMachine.Runs.{room_grows, room_closes}
use Rattle.py_lines.proofs.FieldScans.Bytes.{byte_len-one, push_two, push_three}
use Rattle.py_lines.proofs.FieldScans.Frames.{frames_alike}
use Rattle.py_lines.proofs.FieldScans.Moves.{EndsBefore, ending_before, said}
use Rattle.py_lines.specs.Faults.{kind_of_cause}

-- what the scan keeps count of is never the CR of a line end
not_return : (m : OpenMode) → is_return_at (mode_from m) ≡ false
not_return m = grind arith

pub follows_open : (scan : Scan) (t : FieldScanned) → Follows scan t → has_returned t ≡ false
follows_open scan t follows = ap (λ b. b && (frames t == 0)) (ap is_return_at (sym follows.mode) ∙ not_return scan.mode)

-- where no piece is open, none goes on
ends_free : (b : ℕ) (outer : List Level) (done : List Piece) (openers : List ℕ) (m : FieldMode) (held : List ℕ) → m ≡ plain modes.Free → outer ≡ []
    → EndsThere b (field_state outer done openers m held) (field_state outer done openers m held)
unfolding field_move move_of
ends_free b outer done openers m held is none = grind arith

-- a state is as good as itself
pub alike_self : (b : ℕ) (t : FieldScanned) → has_returned t ≡ false → GoAlike b t t
alike_self b t open_yet = grind (arith, ends_free b t.outer t.done t.openers t.mode t.held)

pub stands_self : (rest : List ℕ) (t : FieldScanned) → has_returned t ≡ false → StandsAs rest t t
stands_self [] t open_yet = refl
stands_self (b ∷ rest) t open_yet = alike_self b t open_yet

pub rests_exact : (scan : Scan) (t : FieldScanned) (rest : List ℕ) → Follows scan t → Rests scan t rest
rests_exact scan t rest follows = record { as_if = t; follows = follows; stands = stands_self rest t (follows_open scan t follows) }

-- before more bytes too
stands_more : (rest more : List ℕ) (t u : FieldScanned) → has_returned u ≡ false → StandsAs rest t u → StandsAs (rest ++ more) t u
stands_more [] more t u open_yet same = subst (λ x. StandsAs more x u) (sym same) (stands_self more u open_yet)
stands_more (b ∷ rest) more t u open_yet alike = alike

pub rests_more : (scan : Scan) (t : FieldScanned) (rest more : List ℕ) → Rests scan t rest → Rests scan t (rest ++ more)
rests_more scan t rest more rests = search (rests.follows, stands_more rest more t rests.as_if (follows_open scan rests.as_if rests.follows) rests.stands)

-- it stops where the machine is
stands_here : (rest : List ℕ) (t u : FieldScanned) → StandsAs rest t u → here t ≡ here u
stands_here [] t u same = ap here same
stands_here (b ∷ rest) t u alike = alike.here_is

pub rests_stop : (scan : Scan) (t : FieldScanned) (rest : List ℕ) → Rests scan t rest → scan.stop ≡ here t
rests_stop scan t rest rests = rests.follows.stop ∙ sym (stands_here rest t rests.as_if rests.stands)

pub stands_open : (rest : List ℕ) (t u : FieldScanned) → has_returned u ≡ false → StandsAs rest t u → has_returned t ≡ false
stands_open [] t u open_yet same = ap has_returned same ∙ open_yet
stands_open (b ∷ rest) t u open_yet alike = alike.open_yet

-- a character with which bytes begin begins with their first
first_of : (code : List ℕ) (b : ℕ) (after rest : List ℕ) → 0 < length code → code ++ after ≡ b ∷ rest → slice_index code 0 ≡ b
first_of [] b after rest some spell = absurd (omega (arith, some))
first_of (x ∷ xs) b after rest some spell = let h = spell in cc

pub first_byte : (c b : ℕ) (after rest : List ℕ) → IsScalar c → encode_utf8 c ++ after ≡ b ∷ rest → IsFirstByte b c
first_byte c b after rest scalar spell = (scalar, first_of (encode_utf8 c) b after rest (omega (arith, length-encode c, len_utf8_bounds c)) spell)

-- where the machine is, it goes the same way
pub goes_real : (t u to : FieldScanned) (bytes run after : List ℕ) → StandsAs bytes t u → all_scalars run ≡ true → encode_utf8_all run ++ after ≡ bytes → 0 < length run → Goes u run to → Goes t run to
goes_real t u to bytes [] after stands scalars spell some goes = absurd (omega (arith, some))
goes_real t u to [] (c ∷ cs) after stands scalars spell some goes = subst (λ x. Goes x (c ∷ cs) to) (sym stands) goes
goes_real t u to (b ∷ bytes) (c ∷ cs) after alike scalars spell some (open_yet, next, step, going, others) =
    let first : IsFirstByte b c = first_byte c b (encode_utf8_all cs ++ after) bytes (and_parts _ _ scalars).0 (sym (append_assoc (encode_utf8 c) (encode_utf8_all cs) after) ∙ spell) in
    (alike.open_yet, next, alike.step c first ∙ step, alike.ending c first ∙ going, others)

-- its first step too
pub first_real : (t u : FieldScanned) (bytes : List ℕ) (c : ℕ) (cs after : List ℕ) → StandsAs bytes t u → IsScalar c → encode_utf8_all (c ∷ cs) ++ after ≡ bytes → room_step t c ≡ room_step u c
first_real t u [] c cs after same scalar spell = ap (λ x. room_step x c) same
first_real t u (b ∷ bytes) c cs after alike scalar spell =
    alike.step c (first_byte c b (encode_utf8_all cs ++ after) bytes scalar (sym (append_assoc (encode_utf8 c) (encode_utf8_all cs) after) ∙ spell))

-- by one item too
pub one_real : (t u : FieldScanned) (bytes run after : List ℕ) → StandsAs bytes t u → all_scalars run ≡ true → encode_utf8_all run ++ after ≡ bytes → IsOneItem u run → IsOneItem t run
one_real t u bytes [] after stands scalars spell one = tt
one_real t u bytes (c ∷ []) after stands scalars spell one = tt
one_real t u [] (c ∷ d ∷ cs) after stands scalars spell one = subst (λ x. IsOneItem x (c ∷ d ∷ cs)) (sym stands) one
one_real t u (b ∷ bytes) (c ∷ d ∷ cs) after alike scalars spell (next, step, on, others) =
    let first : IsFirstByte b c = first_byte c b (encode_utf8_all (d ∷ cs) ++ after) bytes (and_parts _ _ scalars).0 (sym (append_assoc (encode_utf8 c) (encode_utf8_all (d ∷ cs)) after) ∙ spell) in
    (next, alike.step c first ∙ step, on, others)

pub some_run : (run : List ℕ) (len : ℕ) → byte_len run ≡ len → 0 < len → 0 < length run
some_run [] len size some = absurd (omega (arith, size, some))
some_run (c ∷ cs) len size some = omega arith

-- over all characters
record OverAll (t u : FieldScanned) (run : List ℕ) (to : FieldScanned) : Type 0 where
  at : FieldScanned
  goes : Goes t run at
  returns : has_returned at ≡ true → has_returned to ≡ true

over_all : (t u : FieldScanned) (bytes run rest : List ℕ) (to : FieldScanned) → 0 < length bytes → StandsAs bytes t u → all_scalars run ≡ true → encode_utf8_all run ++ rest ≡ bytes → Goes u run to → OverAll t u run to
over_all t u [] run rest to some stands scalars spell goes = absurd (omega (arith, some))
over_all t u (b ∷ bytes) [] rest to some alike scalars spell goes = record { at = t; goes = refl; returns = λ is. absurd (both_ways _ alike.open_yet is) }
over_all t u (b ∷ bytes) (c ∷ cs) rest to some alike scalars spell goes =
    record { at = to; goes = goes_real t u to (b ∷ bytes) (c ∷ cs) rest alike scalars spell (omega arith) goes; returns = λ is. is }

-- LF or CR is one byte
low_spell : (c : ℕ) (after : List ℕ) → c < 128 → encode_utf8_all (c ∷ []) ++ after ≡ c ∷ after
low_spell c after low = ap (λ x. (x ++ []) ++ after) (encode_ascii c low)

low_run : (run after : List ℕ) → (run ≡ []) ⊎ (run ≡ 13 ∷ []) → (all_scalars run ≡ true) × (encode_utf8_all run ++ after ≡ run ++ after)
low_run run after (inl is) = rw is (refl, refl)
low_run run after (inr is) = rw is (refl, low_spell 13 after (omega arith))

-- where it comes to by all characters before another, that one does to it what it does where the scan keeps count
record Next (t : FieldScanned) (run : List ℕ) (c : ℕ) (to : FieldScanned) : Type 0 where
  at : FieldScanned
  goes : Goes t run at
  step : room_step at c ≡ room_step to c
  ending : ends_line at c ≡ ends_line to c
  fault : room_step at c ≡ None → (f : LineFault) → IsFieldFault to c f → IsFieldFault at c f
  returns : (b : Bool) → has_returned to && b ≡ false → has_returned at && b ≡ false

next_real : (t u to : FieldScanned) (bytes run after : List ℕ) (c : ℕ) → StandsAs bytes t u → all_scalars run ≡ true → IsScalar c → encode_utf8_all run ++ (encode_utf8 c ++ after) ≡ bytes → Goes u run to → Next t run c to
next_real t u to [] run after c same scalars scalar spell goes =
    record { at = to; goes = subst (λ x. Goes x run to) (sym same) goes; step = refl; ending = refl; fault = λ none f is. is; returns = λ b is. is }
next_real t u to (b ∷ bytes) [] after c alike scalars scalar spell goes = let first : IsFirstByte b c = first_byte c b after bytes scalar spell in
    subst (Next t [] c) goes
    (record { at = t; goes = refl; step = alike.step c first; ending = alike.ending c first; fault = alike.fault c first; returns = λ x is. ap (λ y. y && x) alike.open_yet })
next_real t u to (b ∷ bytes) (d ∷ ds) after c alike scalars scalar spell goes =
    let over = goes_real t u to (b ∷ bytes) (d ∷ ds) (encode_utf8 c ++ after) alike scalars spell (omega arith) goes in
    record { at = to; goes = over; step = refl; ending = refl; fault = λ none f is. is; returns = λ x is. is }

-- what ends with LF
feed_real : (t u : FieldScanned) (bytes : List ℕ) (len : ℕ) (new : Scan) → StandsAs bytes t u → EndsWithFeed u bytes len new → EndsWithFeed t bytes len new
feed_real t u bytes len new stands e = let low = low_run e.run (10 ∷ e.rest) e.first in
    let spell = ap (λ x. encode_utf8_all e.run ++ (x ++ e.rest)) (encode_ascii 10 (omega arith)) ∙ low.1 ∙ e.spell in
    let at = next_real t u e.to bytes e.run e.rest 10 stands low.0 refl spell e.goes in search (e, at.goes, at.ending ∙ e.ends, at.step ∙ e.step)

-- a character is refused for the same reason
wrong_real : (t u : FieldScanned) (bytes : List ℕ) (f : LineFault) → StandsAs bytes t u → IsWrongIn u bytes f → IsWrongIn t bytes f
wrong_real t u bytes f stands w = let last = w.c ∷ [] in
    let spell_all : encode_utf8_all (w.run ++ last) ++ w.after ≡ bytes =
    ap (λ x. x ++ w.after) (encodes-append w.run last) ∙ append_assoc (encode_utf8_all w.run) (encode_utf8_all last) w.after
    ∙ ap (λ x. encode_utf8_all w.run ++ (x ++ w.after)) (append-nil (encode_utf8 w.c)) ∙ w.spell in
    let at = next_real t u w.to bytes w.run w.after w.c stands w.scalars w.scalar w.spell w.goes in let none : room_step at.at w.c ≡ None = at.step ∙ w.none in
    let one = one_real t u bytes (w.run ++ last) w.after stands (all_scalars-append w.run last w.scalars (and_from _ _ w.scalar refl)) spell_all w.one in
    search (w, at.goes, one, at.returns (not (is_line_feed w.c)) w.open_yet, none, at.fault none f w.fault)

-- so what a step comes to
pub comes_real : (old new : Scan) (bytes : List ℕ) (p : Progress) (t : FieldScanned) → 0 < length bytes → Rests old t bytes → Steps old bytes p new → ComesTo t bytes old p new
comes_real old new bytes p t some rests steps = by p (steps rests.as_if rests.follows) where
  by : (q : Progress) → ComesTo rests.as_if bytes old q new → ComesTo t bytes old q new
  by (progress.Going len) o =
      search (o, goes_real t rests.as_if o.to bytes o.run (drop len bytes) rests.stands o.scalars o.spell (some_run o.run len o.size o.some) o.goes, one_real t rests.as_if bytes o.run (drop len bytes) rests.stands o.scalars o.spell o.one)
  by (progress.LineEnded len) (inl e) = inl (feed_real t rests.as_if bytes len new rests.stands e)
  by (progress.LineEnded len) (inr e) =
      inr (search (e, goes_real t rests.as_if e.to bytes (13 ∷ []) (e.b ∷ e.rest) rests.stands refl (low_spell 13 (e.b ∷ e.rest) (omega arith) ∙ sym e.spell) (omega arith) e.goes))
  by progress.Waits (all, alone, pending, same) =
      let o = over_all t rests.as_if bytes all.run all.rest all.to some rests.stands all.scalars all.spell all.goes in (
        search (all, o.goes, one_real t rests.as_if bytes all.run all.rest rests.stands all.scalars all.spell all.one),
        (λ is. alone (o.returns is)),
        pending,
        same,
      )
  by (progress.Wrong f) (wrong, same) = (wrong_real t rests.as_if bytes f rests.stands wrong, same)

-- a contradiction, which `cc` finds faster here than where much is known
pub some_level : (l : Level) (ls : List Level) → l ∷ ls ≡ [] → ⊥
some_level l ls none = cc

-- whether this closes the string
abbrev pub is_closing_move : FieldMove → Bool
is_closing_move closes = true
is_closing_move _ = false

pub keeps_open : (v : FieldMove) → is_closing_move v ≡ false → v ≡ closes → ⊥
keeps_open v other is = both_ways _ other (ap is_closing_move is)

-- the machine goes on by a character that ends no line
abbrev pub StepsOn : FieldScanned → ℕ → FieldScanned → Type 0
StepsOn t c u = (room_step t c ≡ Some u) × (ends_line t c ≡ false)

module _ (t : FieldScanned) (c : ℕ) (v : FieldMove) (is : field_move t.mode t.held c ≡ v) where
  -- what the machine does, where there is room
  pub by_room : room_step t c ≡ roomy (has_room_at (frames t) c v) (field_moved t c v)
  by_room = ap (λ w. roomy (has_room_at (frames t) c w) (field_moved t c w)) is

  pub by_line : ends_line t c ≡ (frames t == 0) && is_line_ending t.mode v c
  by_line = ap (λ w. (frames t == 0) && is_line_ending t.mode w c) is

  -- it is taken
  pub steps : (next : FieldScanned) → has_room_at (frames t) c v ≡ true → field_moved t c v ≡ Some next → room_step t c ≡ Some next
  steps next room comes = by_room ∙ ap (λ b. roomy b (field_moved t c v)) room ∙ comes

  -- and the line goes on
  pub goes_on : is_line_ending t.mode v c ≡ false → ends_line t c ≡ false
  goes_on on = by_line ∙ and_right (frames t == 0) (is_line_ending t.mode v c) on

  -- it finds no room
  pub no_room : has_room_at (frames t) c v ≡ false → room_step t c ≡ None
  no_room none = by_room ∙ ap (λ b. roomy b (field_moved t c v)) none

  -- it may not stand there
  pub no_step : field_moved t c v ≡ None → room_step t c ≡ None
  no_step none = by_room ∙ ap (roomy (has_room_at (frames t) c v)) none ∙ grind arith

-- only CR with LF after it, and LF alone, end a line
pub no_line_end : (m : FieldMode) (v : FieldMove) (c : ℕ) → (v ≡ closes → m ≡ plain modes.Return → ⊥) → (v ≡ breaks → is_line_feed c ≡ false) → is_line_ending m v c ≡ false
no_line_end m v c shuts feeds = grind arith

-- what begins no line end is no LF
pub no_line_before : (m : FieldMode) (c : ℕ) (x : Start) → start_of c ≡ x → (x ≡ starts.LineEnd → ⊥) → is_line_ending m breaks c ≡ false
no_line_before m c x is other = no_line_end m breaks c (λ e. absurd (keeps_open breaks refl e)) (λ e. false_from_ne_true _ (λ feed. other (sym is ∙ start-feed c feed)))

pub line_before : (m : FieldMode) (c : ℕ) → is_line_feed c ≡ true → is_line_ending m breaks c ≡ true
line_before m c feed = grind arith

-- the scan with no piece open after where it stops
abbrev pub freed : Scan → Scan
freed old = record old { mode = opens.Free; start = old.stop }

-- the innermost list goes on where the scan has come to
pub follows_free : (made : Scan) (outer : List Level) (done : List Piece) (openers : List ℕ) → FramesFollow outer done openers made.frames → made.stop ≡ byte_len (before literal outer ++ spelled done) → Follows (freed made) (field_fresh outer done openers)
follows_free made outer done openers follow at =
    record { mode = refl; holds = refl; no_list = tt; quote = tt; start = at; frames = follow; stop = at ∙ ap (λ x. byte_len (before literal outer ++ x)) (sym (append-nil (spelled done))) }

-- the byte after one more piece, of one character
pub piece_after : (stop : ℕ) (outer : List Level) (done : List Piece) (class : Class) (c : ℕ) → stop ≡ byte_len (before literal outer ++ spelled done) → stop + len_utf8 c ≡ byte_len (before literal outer ++ spelled (done ++ piece class (c ∷ []) ∷ []))
piece_after stop outer done class c at =
    ap (λ (n : ℕ). n + len_utf8 c) at ∙ sym (push_two (before literal outer) (spelled done) c) ∙ ap (λ x. byte_len (before literal outer ++ x)) (sym (spelled-push done class (c ∷ [])))

-- what opens no bracket finds room
pub no_opening : (depth c : ℕ) → is_opening c ≡ false → has_room_at depth c breaks ≡ true
unfolding has_room_at
no_opening depth c none = ap (λ b. not b || nat_lt depth 200) none

-- an operator is one byte
pub one_operator : (c : ℕ) → start_of c ≡ starts.Operator → len_utf8 c ≡ 1
one_operator c is = len_utf8_ascii c (operator_ascii c (subst (StartsSo c) is (starts_so c)))

-- Where the machine stands in code, or in the literal part of a string, these frames are open, and the open piece and its end are at
-- these bytes.
pub record StandsAt (t : FieldScanned) (fs : List Frame) (start stop : ℕ) : Type 0 where
  pub place : text_place t.mode ≡ literal
  pub frames : FramesFollow t.outer t.done t.openers fs
  pub begins : start ≡ byte_len (before literal t.outer ++ spelled t.done)
  pub ends : stop ≡ byte_len (before literal t.outer ++ (spelled t.done ++ t.held))

pub stands_at : (scan : Scan) (t : FieldScanned) → Follows scan t → text_place t.mode ≡ literal → StandsAt t scan.frames scan.start scan.stop
stands_at scan t follow place = let ends = follow.stop ∙ ap (λ p. byte_len (before p t.outer ++ (spelled t.done ++ t.held))) place in
    search (place, follow.frames, follow.start ∙ ap (λ p. byte_len (before p t.outer ++ spelled t.done)) place, ends)

-- the scan that follows there
pub follows_at : (t : FieldScanned) (fs : List Frame) (start stop : ℕ) (code : OpenMode) → StandsAt t fs start stop → mode_from code ≡ t.mode → HoldsCode t.mode t.held → HasQuote code
    → Follows (record { mode = code; start = start; frames = fs; stop = stop }) t
follows_at t fs start stop code at mode holds quote = grind arith

module _ (t : FieldScanned) (fs : List Frame) (start stop : ℕ) (at : StandsAt t fs start stop) (c : ℕ) where
  -- the open piece grows
  pub stands_grown : (m : FieldMode) → field_move t.mode t.held c ≡ grows m → text_place m ≡ literal
      → StepsOn t c (field_state t.outer t.done t.openers m (t.held ++ c ∷ [])) × StandsAt (field_state t.outer t.done t.openers m (t.held ++ c ∷ [])) fs start (stop + len_utf8 c)
  stands_grown m is place = let on = goes_on t c (grows m) is (no_line_end t.mode (grows m) c (λ e. absurd (cc)) (λ e. absurd (cc))) in
      let ends = ap (λ (n : ℕ). n + len_utf8 c) at.ends ∙ sym (push_three (before literal t.outer) (spelled t.done) t.held c) in
      ((steps t c (grows m) is (field_state t.outer t.done t.openers m (t.held ++ c ∷ [])) (room_grows (frames t) c m) refl, on), search (place, at, ends))

  -- it closes
  abbrev pub Shut : FieldScanned
  Shut = field_fresh t.outer (t.done ++ piece (field_class_of t.mode) (t.held ++ c ∷ []) ∷ []) t.openers

  pub stands_shut : HoldsCode t.mode t.held → field_move t.mode t.held c ≡ closes → (room_step t c ≡ Some Shut) × Follows (record { mode = opens.Free; start = stop + len_utf8 c; frames = fs; stop = stop + len_utf8 c }) Shut
  stands_shut holds is = let so = said t.mode t.held c closes holds is in
      let done : List Piece = t.done ++ piece (field_class_of t.mode) (t.held ++ c ∷ []) ∷ [] in
      let made : Scan = record { mode = opens.Free; start = start; frames = fs; stop = stop + len_utf8 c } in (
        steps t c closes is Shut (room_closes (frames t) c) refl,
        follows_free made t.outer done t.openers (frames_alike t.outer t.done done t.openers fs (so.1 t.done) at.frames)
            (ap (λ (n : ℕ). n + len_utf8 c) at.ends ∙ sym (push_three (before literal t.outer) (spelled t.done) t.held c)
            ∙ ap (λ x. byte_len (before literal t.outer ++ x)) (sym (spelled-push t.done (field_class_of t.mode) (t.held ++ c ∷ [])))),
      )

  -- it ends before the character
  pub record Broken : Type 0 where
    pub frames : FramesFollow t.outer (field_closed t.mode t.done t.held) t.openers fs
    pub after : stop ≡ byte_len (before literal t.outer ++ spelled (field_closed t.mode t.done t.held))

  pub broken : HoldsCode t.mode t.held → field_move t.mode t.held c ≡ breaks → Broken
  broken holds is = let b = said t.mode t.held c breaks holds is in
      search (frames_alike t.outer t.done (field_closed t.mode t.done t.held) t.openers fs (b.neutral t.done) at.frames, at.ends ∙ ap (λ x. byte_len (before literal t.outer ++ x)) (sym (b.spells t.done)))

  -- another begins with it
  abbrev pub Opening : Mode → FieldScanned
  Opening m = field_state t.outer (field_closed t.mode t.done t.held) t.openers (plain m) (c ∷ [])

  pub stands_begun : HoldsCode t.mode t.held → field_move t.mode t.held c ≡ breaks → (m : Mode) → start_of c ≡ starts.Open m → StepsOn t c (Opening m) × StandsAt (Opening m) fs stop (stop + len_utf8 c)
  stands_begun holds is m starts_with = let b = broken holds is in
      let step = steps t c breaks is (Opening m) (no_opening (frames t) c (opens_no c (starts.Open m) starts_with (λ other. absurd (cc))))
      (ap (field_started t.outer (field_closed t.mode t.done t.held) t.openers c) starts_with) in
      let ends = ap (λ (n : ℕ). n + len_utf8 c) b.after ∙ sym (push_two (before literal t.outer) (spelled (field_closed t.mode t.done t.held)) c) in
      ((step, goes_on t c breaks is (no_line_before t.mode c (starts.Open m) starts_with (λ other. absurd (cc)))), search (b, ends))

-- one character with which the bytes begin is taken
pub over_one : (t u : FieldScanned) (c : ℕ) (bytes : List ℕ) (new : Scan) → BeginsWith bytes c → has_returned t ≡ false → StepsOn t c u → Rests new u (drop (len_utf8 c) bytes) → GoesOver t bytes (len_utf8 c) new
over_one t u c bytes new first open_yet step rests = let goes : Goes t (c ∷ []) u = (open_yet, u, step.0, step.1, refl) in
    search ((len_utf8_bounds c).0, ap (λ x. x ++ drop (len_utf8 c) bytes) (append-nil (encode_utf8 c)) ∙ first.spell, and_from _ _ first.scalar refl, byte_len-one c, goes, rests)

-- or it is refused
pub wrong_at : (t : FieldScanned) (c : ℕ) (bytes : List ℕ) (line_fault : LineFault) → BeginsWith bytes c → has_returned t ≡ false → room_step t c ≡ None → IsFieldFault t c line_fault → IsWrongIn t bytes line_fault
wrong_at t c bytes line_fault first open_yet none fault =
    let goes : Goes t [] t = refl in let scalars : all_scalars [] ≡ true = refl in
    search (first, scalars, goes, ap (λ b. b && not (is_line_feed c)) open_yet, none, fault)

-- what one byte comes to that ends no line
pub one_comes : (t : FieldScanned) (c : ℕ) (bytes : List ℕ) (old new : Scan) (p : Progress) → BeginsWith bytes c → len_utf8 c ≡ 1 → Follows old t → TakesOne t c old p new → ComesTo t bytes old p new
one_comes t c bytes old new (progress.Going len) first one follow (is, u, step, on, follows) =
    subst (λ (n : ℕ). GoesOver t bytes n new) (one ∙ sym is) (over_one t u c bytes new first (follows_open old t follow) (step, on) (rests_exact new u (drop (len_utf8 c) bytes) follows))
one_comes t c bytes old new (progress.Wrong line_fault) first one follow (none, fault, same) = (wrong_at t c bytes line_fault first (follows_open old t follow) none fault, same)
one_comes t c bytes old new (progress.LineEnded len) first one follow none = absurd none
one_comes t c bytes old new progress.Waits first one follow none = absurd none

-- A piece that ends before the next byte counts as finished: the machine comes to the same from its state and from that after the piece.
ending_cause : (m : FieldMode) (depth c : ℕ) → is_ending m ≡ true → cause_in depth m c ≡ cause_in depth (plain modes.Free) c
ending_cause m depth c may = grind arith

-- LF ends a line before which a piece ends
ending_breaks : (m : FieldMode) (c : ℕ) → is_line_ending m breaks c ≡ is_line_ending (plain modes.Free) breaks c
ending_breaks m c = grind arith

-- a line end may stand wherever a piece ends
abbrev pub IsTaken : Start → Type 0
IsTaken (starts.Open m) = Unit {0}
IsTaken starts.LineEnd = Unit {0}
IsTaken other = ⊥

pub break_starts : (c : ℕ) → is_break c ≡ true → IsTaken (start_of c) × (is_opening c ≡ false)
unfolding is_break is_line_feed is_return
break_starts c h = grind (arith, each_of, start-feed, opens_no, start-return)

taken_some : (outer : List Level) (done : List Piece) (openers : List ℕ) (c : ℕ) (x : Start) → IsTaken x → field_started outer done openers c x ≡ None → ⊥
taken_some outer done openers c x taken none = grind arith

module _ (b : ℕ) (t : FieldScanned) (may : is_ending t.mode ≡ true) (holds : HoldsCode t.mode t.held) (open_yet : has_returned t ≡ false) (ends : (c : ℕ) → IsFirstByte b c → field_move t.mode t.held c ≡ breaks) where
  abbrev U : FieldScanned
  U = field_fresh t.outer (field_pieces t) t.openers

  before_it : EndsBefore t.mode t.held
  before_it = ending_before t.mode t.held may holds

  here_same : here t ≡ here U
  here_same = ap (λ p. byte_len (before p t.outer ++ (spelled t.done ++ t.held))) before_it.place
      ∙ ap (λ x. byte_len (before literal t.outer ++ x)) (sym (before_it.spells t.done) ∙ sym (append-nil (spelled (field_pieces t))))

  free_breaks : (c : ℕ) → field_move U.mode U.held c ≡ breaks
  unfolding field_move move_of
  free_breaks c = refl

  leads_to : (c : ℕ) → IsFirstByte b c → room_step t c ≡ roomy (has_room_at (frames t) c breaks) (field_started t.outer (field_pieces t) t.openers c (start_of c))
  leads_to c first = ap (λ v. roomy (has_room_at (frames t) c v) (field_moved t c v)) (ends c first)

  -- no line end is refused
  pub no_break : (c : ℕ) → IsFirstByte b c → room_step t c ≡ None → is_break c ≡ false
  unfolding has_room_at
  no_break c first none = false_from_ne_true _ (λ break. let fits = break_starts c break in
      taken_some t.outer (field_pieces t) t.openers c (start_of c) fits.0 (sym (leads_to c first ∙ rw fits.1 refl) ∙ none))

  -- the place of the fault
  place_same : (c depth : ℕ) → is_break c ≡ false → cause_place U (cause_in depth U.mode c) ≡ cause_place t (cause_in depth U.mode c)
  place_same c depth none = grind (arith, here_same)

  pub ends_alike : GoAlike b t U
  ends_alike = record {
    here_is = here_same;
    open_yet = open_yet;
    step = λ c first. leads_to c first ∙ sym (ap (λ v. roomy (has_room_at (frames t) c v) (field_moved U c v)) (free_breaks c));
    ending = λ c first. ap (λ v. (frames t == 0) && is_line_ending t.mode v c) (ends c first) ∙ ap (λ x. (frames t == 0) && x) (ending_breaks t.mode c)
        ∙ sym (ap (λ v. (frames t == 0) && is_line_ending U.mode v c) (free_breaks c));
    fault = λ c first none f is.
        let same : cause_in (frames t) U.mode c ≡ cause_in (frames t) t.mode c = sym (ending_cause t.mode (frames t) c may) in (
          is.0 ∙ ap kind_of_cause same,
          is.1 ∙ place_same c (frames t) (no_break c first none) ∙ ap (cause_place t) same,
        );
    free = λ free outside. record { outside = outside; pieces = refl; ends = ends; ending = may };
    shut = λ is. inr refl;
  }

-- the scan where no piece is open
abbrev pub free_at : List Frame → ℕ → Scan
free_at fs stop = record { mode = opens.Free; start = stop; frames = fs; stop = stop }

-- it stands as if before the next byte
pub rests_ended : (t : FieldScanned) (fs : List Frame) (start stop b : ℕ) (rest : List ℕ) → StandsAt t fs start stop → is_ending t.mode ≡ true → HoldsCode t.mode t.held → has_returned t ≡ false
    → ((c : ℕ) → IsFirstByte b c → field_move t.mode t.held c ≡ breaks) → Rests (free_at fs stop) t (b ∷ rest)
rests_ended t fs start stop b rest at may holds open_yet ends = let e = ending_before t.mode t.held may holds in
    let follows = follows_free (free_at fs stop) t.outer (field_pieces t) t.openers (frames_alike t.outer t.done (field_pieces t) t.openers fs (e.neutral t.done) at.frames)
    (at.ends ∙ ap (λ x. byte_len (before literal t.outer ++ x)) (sym (e.spells t.done))) in search (follows, ends_alike b t may holds open_yet ends)

-- a character that begins with another byte than one of ASCII isn't that one
pub not_first : (b c d : ℕ) → d < 128 → (b ≡ d → ⊥) → IsFirstByte b c → c ≡ d → ⊥
not_first b c d low other first is = other (sym first.1 ∙ ap (λ x. slice_index (encode_utf8 x) 0) is ∙ ap (λ (x : List ℕ). slice_index x 0) (encode_ascii d low))
