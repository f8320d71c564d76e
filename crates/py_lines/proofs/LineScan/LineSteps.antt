-- The scan of a line's characters, one after another: where it has come, the machine has, and where the line ends with one.
use Rattle.py_lines.proofs.Prelude.{◌≡◌, ℕ, ◌<◌, true, false, ◌&&◌, ◌==◌, List, [], ◌∷◌, ◌++◌, length, refl, sym, ap, ◌∙◌, arith, lit<, ◌+◌, inl, inr, ◌⊎◌, Option, None, Some, subst, append-nil, append_assoc, both_ways, and_parts, and_right, eqb-true, false_from_ne_true, encode_ascii, encodes_same, encode_utf8_all, and-true, nil_from_length, same_from_push, is_line_feed, is_mark, is_return, depth_through, Scan, piece, byte_len-append}
use Rattle.py_lines.specs.Piece.{Piece, Class, mark, line_end, operator, begins, begins_marked, ends, is_mark_class, spelled}
use Rattle.py_lines.specs.LogicalLine.{is_line_end_class, byte_len}
use Rattle.py_lines.specs.Private.Machine.{move_of, Mode, Start, start_of, Start as starts}
use Rattle.py_lines.specs.Private.Mode as modes
use Rattle.py_lines.specs.Private.FieldMachine.{FieldMode, breaks, closes, field_class_of, field_closed, field_move, plain, FieldMove, FieldScanned, Level, after_operator, field_fresh, field_moved, field_pieces, field_started, field_state, field_step, field_steps_from, frames, has_room, levels_open, openers_with, room_step}
use Rattle.py_lines.specs.Private.LineScan.{EndsNoLine, EndsWhole, HasBegun, IsAtLineEnd, IsLineBefore, IsUnderWay, Reached, begins_line, first_open, line_begun}
use Rattle.py_lines.specs.Private.Scan.{is_line_ending, is_return_at, EndsWithFeed, EndsWithReturn, Follows, Goes, Rests, ends_line, has_returned, opened_at}
use Rattle.py_lines.proofs.Pieces.OpenBrackets.{depth_through-append}
use Rattle.py_lines.proofs.Pieces.PieceLists.{AreReadBefore-first, AreReadIn-push, follows_any, spelled-push}
use Rattle.py_lines.proofs.Text.CharacterTests.{feed_is, return_is}
use Rattle.py_lines.proofs.LogicalLines.Cuts.{ends-last, uncut}
use Rattle.py_lines.proofs.LineScan.LineCount.{EndsNoLine-push}
use Rattle.py_lines.specs.Fields.{AreReadBefore, InClass, fielded}
use Rattle.py_lines.specs.PieceGrammar.{IsLineEnd, feed, return, return_feed}
use Rattle.py_lines.specs.Private.FieldFaults.{here}
use Rattle.py_lines.proofs.FieldMachine.OuterLists.{OuterStep, outer_done, outer_list, outer_steps}
use Rattle.py_lines.proofs.FieldMachine.WholeRuns.{RunsFrom, begun_field, goes_runs, roomy_parts, runs_both, runs_on, runs_one}
use Rattle.py_lines.proofs.FieldScans.Taking.{rests_exact, rests_stop}
use Rattle.py_lines.proofs.FieldScans.Takes.{goes-append}
use Rattle.py_lines.proofs.FieldSoundness.Holds.{HoldsMode, IsFieldSound}
use Rattle.py_lines.proofs.FieldSoundness.OpenLists.{balanced_at, opens-depth}
use Rattle.py_lines.proofs.FieldSoundness.WholeTexts.{EndsList, list_ends, two_hundred}
use Rattle.py_lines.proofs.Lexings.FirstLines.{piece_some}
use Rattle.py_lines.proofs.Lexings.LineEnds.{ends-append, line_end_of, return_returns}
use Rattle.py_lines.proofs.Machine.PieceSteps.{some_is}
use Rattle.py_lines.proofs.Machine.Starts.{StartsSo, start-feed, start-mark, starts_so}

-- the open piece ends a line where it is CR
pub line_class : (m : FieldMode) → is_line_end_class (field_class_of m) ≡ is_return_at m
line_class (plain modes.Return) = refl
line_class m = refl

pub return_at : (m : FieldMode) → is_return_at m ≡ true → m ≡ plain modes.Return
return_at (plain modes.Return) is = refl
return_at m is = absurd (both_ways _ refl is)

-- it is no bracket
pub closed_depth : (m : FieldMode) (done : List Piece) (held : List ℕ) → depth_through 0 (field_closed m done held) ≡ depth_through 0 done
closed_depth (plain modes.Start) done held = refl
closed_depth (plain modes.Free) done held = refl
closed_depth m done held = depth_through-append 0 done (piece (field_class_of m) held ∷ [])

-- and where it is no CR outside brackets, no line ends with it
pub closed_one_line : (m : FieldMode) (done : List Piece) (held : List ℕ) → EndsNoLine 0 done → is_return_at m && (depth_through 0 done == 0) ≡ false
    → EndsNoLine 0 (field_closed m done held)
closed_one_line (plain modes.Start) done held one other = one
closed_one_line (plain modes.Free) done held one other = one
closed_one_line m done held one other =
    EndsNoLine-push 0 done (piece (field_class_of m) held) one (ap (λ b. b && (depth_through 0 done == 0)) (line_class m) ∙ other)

pub line_ending_breaks : (m : FieldMode) (c : ℕ) → is_line_ending m breaks c ≡ is_line_feed c
line_ending_breaks (plain modes.Return) c = refl
line_ending_breaks m c = refl

-- LF after CR
pub return_feeds : (held : List ℕ) (c : ℕ) → field_move (plain modes.Return) held c ≡ closes → is_line_feed c ≡ true
unfolding field_move move_of
return_feeds held c is = grind arith

pub return_stays : (held : List ℕ) (c : ℕ) → is_line_feed c ≡ true → field_move (plain modes.Return) held c ≡ breaks → ⊥
unfolding field_move move_of
return_stays held c feeds is = let clash : closes ≡ breaks = (rw feeds) ∙ is in cc

-- how many bytes a line end has
pub one_low : (c : ℕ) → c < 128 → 1 ≡ byte_len (c ∷ [])
one_low c low = sym (ap length (ap (λ t. t ++ []) (encode_ascii c low)))

pub both_ends : (held : List ℕ) (c : ℕ) → held ≡ 13 ∷ [] → is_line_feed c ≡ true → 2 ≡ byte_len (held ++ c ∷ [])
both_ends held c is feeds =
    omega (arith, ap (λ t. byte_len (t ++ c ∷ [])) is, byte_len-append (13 ∷ []) (c ∷ []), one_low 13 (lit< tt), one_low c (omega (arith, feed_is c feeds)))

-- where a line begins, nothing is read, and the scan stands before all of it
begun_follows : (m : Mode) → begins_line m ≡ true → Follows (opened_at (first_open m)) (line_begun m)
begun_follows m start = grind arith

pub begun_reached : {m : Mode} {scan : Scan} → HasBegun m scan → begins_line m ≡ true → (text : List ℕ) → Reached m text scan text
begun_reached {m} {scan} begun start text = record {
  read = [];
  way = record { field = line_begun m; goes = refl };
  rests = rests_exact scan (line_begun m) text (subst (λ f. Follows f (line_begun m)) (sym begun) (begun_follows m start));
  spell = refl;
  scalars = refl;
}

-- one more character of a line
module _ (t : FieldScanned) (read : List ℕ) (c : ℕ) (sound : IsFieldSound two_hundred t read) where
  module _ (none : t.outer ≡ []) where
    depth_is : depth_through 0 t.done ≡ frames t
    depth_is = opens-depth t.openers t.done 0 sound.list.opens ∙ omega (arith, ap levels_open none)

    alone : EndsNoLine 0 (outer_done t) → EndsNoLine 0 t.done
    alone one = subst (λ o. EndsNoLine 0 (outer_list o t.done)) none one

    -- it begins no line end outside brackets
    begun_one_line : (x : Start) → StartsSo c x → (next : FieldScanned) → field_started [] (field_pieces t) t.openers c x ≡ Some next
        → EndsNoLine 0 (field_pieces t) → (frames t == 0) && is_line_feed c ≡ false → EndsNoLine 0 (outer_done next)
    begun_one_line (starts.Open k) so next is one going = subst (λ x. EndsNoLine 0 (outer_done x)) (some_is _ next is) one
    begun_one_line starts.Operator so next is one going = by (openers_with t.openers c) is where
      by : (o : Option (List ℕ)) → after_operator [] (field_pieces t) c o ≡ Some next → EndsNoLine 0 (outer_done next)
      by None e = absurd (cc)
      by (Some os) e = subst (λ x. EndsNoLine 0 (outer_done x)) (some_is _ next e) (EndsNoLine-push 0 (field_pieces t) (piece operator (c ∷ [])) one refl)
    begun_one_line starts.LineEnd so next is one going =
        subst (λ x. EndsNoLine 0 (outer_done x)) (some_is _ next is) (EndsNoLine-push 0 (field_pieces t) (piece line_end (c ∷ [])) one
        (ap (λ n. n == 0) (closed_depth t.mode t.done t.held ∙ depth_is) ∙ sym (and-true (frames t == 0)) ∙ ap (λ b. (frames t == 0) && b) (sym so) ∙ going))
    begun_one_line starts.Nothing so next is one going = absurd (cc)

    closed_line : EndsNoLine 0 (outer_done t) → has_returned t ≡ false → EndsNoLine 0 (field_pieces t)
    closed_line one open_yet = closed_one_line t.mode t.done t.held (alone one) (ap (λ n. is_return_at t.mode && (n == 0)) depth_is ∙ open_yet)

  -- where no line ended before it, and none ends with it, none has ended after it
  more_one_line : (next : FieldScanned) → field_step t c ≡ Some next → EndsNoLine 0 (outer_done t) → has_returned t ≡ false → ends_line t c ≡ false
      → EndsNoLine 0 (outer_done next)
  more_one_line next step one open_yet going = by (outer_steps t c next step) where
    by : OuterStep t c next → EndsNoLine 0 (outer_done next)
    by (OuterStep.outer_stays same) = subst (EndsNoLine 0) (sym same) one
    by (OuterStep.outer_closes none move is) =
        subst (λ x. EndsNoLine 0 (outer_done x)) (sym is) (EndsNoLine-push 0 t.done (piece (field_class_of t.mode) (t.held ++ c ∷ [])) (alone none one)
        (ap (λ b. b && (depth_through 0 t.done == 0)) (line_class t.mode) ∙ ap (λ n. is_return_at t.mode && (n == 0)) (depth_is none) ∙ open_yet))
    by (OuterStep.outer_breaks none move is) =
        begun_one_line none (start_of c) (starts_so c) next is (closed_line none one open_yet)
        (ap (λ b. (frames t == 0) && b) (sym (line_ending_breaks t.mode c) ∙ ap (λ v. is_line_ending t.mode v c) (sym move)) ∙ going)

-- so for more characters
goes_one_line : (t u : FieldScanned) (read run : List ℕ) → IsFieldSound two_hundred t read → EndsNoLine 0 (outer_done t) → Goes t run u
    → EndsNoLine 0 (outer_done u)
goes_one_line t u read [] sound one same = subst (λ x. EndsNoLine 0 (outer_done x)) same one
goes_one_line t u read (c ∷ cs) sound one (open_yet, next, step, going, others) =
    goes_one_line next u (read ++ c ∷ []) cs (runs_on t read (c ∷ []) next sound (runs_one t c next step))
    (more_one_line t read c sound next (roomy_parts (has_room t c) (field_step t c) next step).1 one open_yet going) others

-- a line after others begins with no mark
mark_stuck : (c : ℕ) → is_mark c ≡ true → field_step (line_begun modes.Free) c ≡ None
unfolding field_move move_of
mark_stuck c marks = ap (field_started [] [] [] c) (start-mark c marks)

pub unmarked : (pieces : List Piece) (rest : List ℕ) (t : FieldScanned) → AreReadBefore pieces rest
    → field_steps_from (Some (line_begun modes.Free)) (spelled pieces) ≡ Some t → begins_marked pieces ≡ false
unmarked [] rest t fit goes = refl
unmarked (p ∷ ps) rest t fit goes = no_mark p.class p.text (spelled ps) fit.0 goes where
  no_mark : (class : Class) (text others : List ℕ) → InClass class text
      → field_steps_from (Some (line_begun modes.Free)) (text ++ others) ≡ Some t → is_mark_class class ≡ false
  no_mark mark text others (c, same, marks) goes =
      let none : field_steps_from (Some (line_begun modes.Free)) (text ++ others) ≡ None =
      ap (λ x. field_steps_from (Some (line_begun modes.Free)) (x ++ others)) same ∙ ap (λ o. field_steps_from o others) (mark_stuck c marks) in
      absurd (let clash = sym none ∙ goes in cc)
  no_mark class text others holds goes = refl

-- how many bytes the line end has that ends there
abbrev line_end_size : FieldMode → ℕ
line_end_size (plain modes.Return) = 2
line_end_size other = 1

one_at : (m : FieldMode) → is_return_at m ≡ false → line_end_size m ≡ 1
one_at (plain modes.Return) other = absurd (both_ways _ other refl)
one_at m other = refl

-- where no frame is open, there is no field and no bracket
framed : (outer : List Level) (openers : List ℕ) → length openers + levels_open outer ≡ 0 → (outer ≡ []) × (openers ≡ [])
framed [] openers none = (refl, nil_from_length openers (omega (arith, none)))
framed (l ∷ ls) openers none = absurd (omega (arith, none))

-- CR is open
holds_return : (t : FieldScanned) (read : List ℕ) → IsFieldSound two_hundred t read → t.mode ≡ plain modes.Return → t.held ≡ 13 ∷ []
holds_return t read sound is =
    let (r, spell, returns) = (subst (λ n. HoldsMode two_hundred t.outer (frames t) n t.held) is sound.mode).0 in
    spell ∙ ap (λ d. d ∷ []) (return_is r returns)

pub record IsReturned (t : FieldScanned) : Type 0 where
  pub outside : t.outer ≡ []
  pub bare : t.openers ≡ []
  pub mode : t.mode ≡ plain modes.Return
  pub held : t.held ≡ 13 ∷ []

-- how a line ends with a character: CR closes with it, or a line end begins
abbrev pub EndsSo : ℕ → FieldMode → FieldMove → Type 0
EndsSo c n v = ((n ≡ plain modes.Return) × (v ≡ closes)) ⊎ ((v ≡ breaks) × (is_line_feed c ≡ true))

pub ends_so : (c : ℕ) (n : FieldMode) (v : FieldMove) → is_line_ending n v c ≡ true → EndsSo c n v
ends_so c n v is = grind arith

-- the pieces of the line that it ends
record LineWith (m : FieldMode) (next : FieldScanned) : Type 0 where
  body : List Piece
  text : List ℕ
  is : next ≡ field_fresh [] (body ++ piece line_end text ∷ []) []
  one_line : EndsNoLine 0 body
  size : line_end_size m ≡ byte_len text

line_with : (outer : List Level) (done : List Piece) (openers : List ℕ) (m : FieldMode) (held read : List ℕ) (c : ℕ) (next : FieldScanned)
    → IsFieldSound two_hundred (field_state outer done openers m held) read → outer ≡ [] → openers ≡ [] → EndsNoLine 0 (outer_list outer done)
    → field_step (field_state outer done openers m held) c ≡ Some next → is_line_ending m (field_move m held c) c ≡ true → LineWith m next
line_with outer done openers m held read c next sound none bare one step ends =
    by (rw (none, bare) at sound) (rw none at one) (rw (none, bare) at step) (ends_so c m (field_move m held c) ends)
  where
    alone : FieldScanned
    alone = field_state [] done [] m held

    moved_to : field_step alone c ≡ Some next → (v : FieldMove) → field_move m held c ≡ v → field_moved alone c v ≡ Some next
    moved_to is v move = ap (field_moved alone c) (sym move) ∙ is

    by : IsFieldSound two_hundred alone read → EndsNoLine 0 done → field_step alone c ≡ Some next → EndsSo c m (field_move m held c) → LineWith m next
    by there lines is (inl (returns, closing)) =
        record {
          body = done;
          text = held ++ c ∷ [];
          is = sym (some_is _ next (moved_to is closes closing)) ∙ ap (λ n. field_fresh [] (done ++ piece (field_class_of n) (held ++ c ∷ []) ∷ []) []) returns;
          one_line = lines;
          size = ap line_end_size returns
              ∙ both_ends held c (holds_return alone read there returns) (return_feeds held c (ap (λ n. field_move n held c) (sym returns) ∙ closing));
        }
    by there lines is (inr (breaking, feeds)) =
        let all = field_closed m done held in
        let other : is_return_at m ≡ false = false_from_ne_true _ (λ returns.
        return_stays held c feeds (ap (λ n. field_move n held c) (sym (return_at m returns)) ∙ breaking)) in
        record {
          body = all;
          text = c ∷ [];
          is = sym (some_is _ next (sym (ap (field_started [] all [] c) (start-feed c feeds)) ∙ moved_to is breaks breaking));
          one_line = closed_one_line m done held lines (ap (λ b. b && (depth_through 0 done == 0)) other);
          size = one_at m other ∙ one_low c (omega (arith, feed_is c feeds));
        }

-- the pieces with it, outside brackets and fields
return_list : (outer : List Level) (done : List Piece) (openers : List ℕ) (m : FieldMode) (held read : List ℕ)
    → IsFieldSound two_hundred (field_state outer done openers m held) read → outer ≡ [] → openers ≡ [] → m ≡ plain modes.Return
    → EndsList two_hundred [] [] (done ++ piece line_end held ∷ []) read
return_list outer done openers m held read sound none bare mode =
    let there = rw (none, bare, mode) at sound in
    subst (EndsList two_hundred [] [] (done ++ piece line_end held ∷ [])) there.spell
    (list_ends two_hundred [] done [] (plain modes.Return) held read there refl)

-- a line of such pieces, after which the scan stops
at_end : {scan : Scan} (m : Mode) (read rest : List ℕ) (len : ℕ) (body : List Piece) (text : List ℕ)
    → EndsList two_hundred [] [] (body ++ piece line_end text ∷ []) read → EndsNoLine 0 body → len ≡ byte_len text
    → ((after : List ℕ) → encode_utf8_all after ≡ rest → AreReadBefore (body ++ piece line_end text ∷ []) after)
    → (t : FieldScanned) → field_steps_from (Some (line_begun m)) read ≡ Some t → scan.stop ≡ byte_len read → IsAtLineEnd m scan read rest len
at_end m read rest len body text list one size fit t steps stop =
    let last = piece line_end text in
    record {
      body = body;
      last = last;
      are = record {
        one_line = one;
        class = refl;
        level = sym (depth_through-append 0 body (last ∷ [])) ∙ opens-depth [] (body ++ last ∷ []) 0 list.opens;
        size = size;
      };
      spell = list.spell;
      fit = fit;
      balanced = balanced_at [] (body ++ last ∷ []) refl list.opens;
      shallow = list.passes;
      unmarked = λ free. unmarked (body ++ last ∷ []) [] t list.fit
          (subst (λ n. field_steps_from (Some (line_begun n)) (spelled (body ++ last ∷ [])) ≡ Some t) free
          (ap (field_steps_from (Some (line_begun m))) list.spell ∙ steps));
      stop = stop;
    }

-- what is known where the scan of a line is under way
module _ {m : Mode} {read : List ℕ} (way : IsUnderWay m read) where
  pub way_runs : RunsFrom (line_begun m) read way.field
  way_runs = goes_runs (line_begun m) read way.field way.goes

  abbrev t : FieldScanned
  t = way.field

  module _ (start : begins_line m ≡ true) where
    pub way_sound : IsFieldSound two_hundred t read
    way_sound = runs_on (line_begun m) [] read t (begun_field two_hundred m start) way_runs

    pub way_here : here t ≡ byte_len read
    way_here = ap byte_len way_sound.spell

    -- where the scan stands as the machine does, it stops after what is read
    pub rests_end : {scan : Scan} {rest : List ℕ} → Rests scan t rest → scan.stop ≡ byte_len read
    rests_end {scan} {rest} rests = rests_stop scan t rest rests ∙ way_here

    -- no line end of what is read ended the line
    pub way_one_line : EndsNoLine 0 (outer_done t)
    way_one_line = goes_one_line (line_begun m) t [] read (begun_field two_hundred m start) tt way.goes

    -- where CR was read last, outside brackets and fields, it is a line with its end, unless LF follows
    pub returned_at : has_returned t ≡ true → IsReturned t
    returned_at is =
        let parts = and_parts (is_return_at t.mode) (frames t == 0) is in
        let (none, bare) = framed t.outer t.openers (eqb-true _ 0 parts.1) in let mode = return_at t.mode parts.0 in
        record { outside = none; bare = bare; mode = mode; held = holds_return t read way_sound mode }

    pub returned : {scan : Scan} {rest : List ℕ} → scan.stop ≡ here t → has_returned t ≡ true
        → ((after : List ℕ) → encode_utf8_all after ≡ rest → begins is_line_feed after ≡ false) → IsAtLineEnd m scan read rest 1
    returned {scan} {rest} at is follows =
        let r = returned_at is in
        at_end m read rest 1 t.done t.held (return_list t.outer t.done t.openers t.mode t.held read way_sound r.outside r.bare r.mode)
        (subst (λ o. EndsNoLine 0 (outer_list o t.done)) r.outside way_one_line) (one_low 13 (lit< tt) ∙ ap byte_len (sym r.held))
        (λ after is_rest. AreReadIn-push fielded t.done line_end t.held after (way_sound.list.fit after) (return r.held)
        (and_right _ _ (follows after is_rest)) (follows_any t.done line_end t.held refl)) t way_runs.0 (at ∙ way_here)

    -- or it ends with a character
    ended : (c : ℕ) (next : FieldScanned) → room_step t c ≡ Some next → {scan : Scan} → ends_line t c ≡ true → scan.stop ≡ here next → (rest : List ℕ)
        → IsAtLineEnd m scan (read ++ c ∷ []) rest (line_end_size t.mode)
    ended c next step {scan} ends stop rest =
        let parts = and_parts (frames t == 0) (is_line_ending t.mode (field_move t.mode t.held c) c) ends in
        let (none, bare) = framed t.outer t.openers (eqb-true _ 0 parts.0) in
        by (line_with t.outer t.done t.openers t.mode t.held read c next way_sound none bare way_one_line
        (roomy_parts (has_room t c) (field_step t c) next step).1 parts.1) (runs_on t read (c ∷ []) next way_sound (runs_one t c next step))
      where
        by : LineWith t.mode next → IsFieldSound two_hundred next (read ++ c ∷ []) → IsAtLineEnd m scan (read ++ c ∷ []) rest (line_end_size t.mode)
        by l sound =
            let all = read ++ c ∷ [] in let pieces = l.body ++ piece line_end l.text ∷ [] in
            let there : IsFieldSound two_hundred (field_fresh [] pieces []) all = subst (λ x. IsFieldSound two_hundred x all) l.is sound in
            at_end m all rest (line_end_size t.mode) l.body l.text
            (subst (EndsList two_hundred [] [] pieces) there.spell (list_ends two_hundred [] pieces [] (plain modes.Free) [] all there refl))
            l.one_line l.size (λ after is. there.list.fit after) next
            (runs_both (line_begun m) read (c ∷ []) t next way_runs (runs_one t c next step)).0 (stop ∙ ap byte_len sound.spell)

-- more characters, none of which ends the line
abbrev pub way_on : {m : Mode} {read : List ℕ} (way : IsUnderWay m read) (run : List ℕ) (to : FieldScanned) → Goes way.field run to → IsUnderWay m (read ++ run)
way_on {m} {read} way run to goes = record { field = to; goes = goes-append (line_begun m) way.field to read run way.goes goes }

-- characters whose first byte is no LF begin with no LF
no_feed_first : (cs tail rest : List ℕ) (b : ℕ) → encode_utf8_all cs ++ tail ≡ b ∷ rest → (b ≡ 10 → ⊥) → begins is_line_feed cs ≡ false
no_feed_first [] tail rest b spell other = refl
no_feed_first (c ∷ cs) tail rest b spell other =
    false_from_ne_true _ (λ feeds.
    let bytes : 10 ∷ (encode_utf8_all cs ++ tail) ≡ b ∷ rest =
    ap (λ t. (t ++ encode_utf8_all cs) ++ tail) (sym (encode_ascii 10 (omega arith)))
    ∙ ap (λ (n : ℕ). encode_utf8_all (n ∷ cs) ++ tail) (sym (feed_is c feeds)) ∙ spell in
    other (let h = bytes in cc))

-- nor do those after a line that has ended whole with CR
pub follows_whole : (read after more tail beyond : List ℕ) → EndsWhole read after → encode_utf8_all more ++ tail ≡ after ++ beyond
    → ends is_return read ≡ true → begins is_line_feed more ≡ false
follows_whole read after more tail beyond (inl feeds) spell is_one = absurd (both_ways _ feeds is_one)
follows_whole read after more tail beyond (inr (b, others, is, other)) spell is_one =
    no_feed_first more tail (others ++ beyond) b (spell ∙ ap (λ t. t ++ beyond) is) other

-- beyond the first of some characters the machine goes through the others
pub goes_on : (t x u : FieldScanned) (a b : List ℕ) → Goes t (a ++ b) x → Goes t a u → Goes u b x
goes_on t x u [] b all same = subst (λ (y : FieldScanned). Goes y b x) same all
goes_on t x u (c ∷ a) b (open_yet, n, step, on, all) (other, m, again, still, goes) =
    goes_on m x u a b (subst (λ (y : FieldScanned). Goes y (a ++ b) x) (some_is n m (sym step ∙ again)) all) goes

-- no piece ends with CR before LF
no_cut : (ps : List Piece) (more : List ℕ) → AreReadBefore ps more → begins is_line_feed more ≡ true → ends is_return (spelled ps) ≡ false
no_cut [] more fit feeds = refl
no_cut (p ∷ []) more fit feeds =
    ap (ends is_return) (append-nil p.text) ∙ sym (and-true (ends is_return p.text))
    ∙ ap (λ b. ends is_return p.text && b) (sym feeds) ∙ uncut p.class p.text more fit.0 fit.1
no_cut (p ∷ q ∷ ps) more fit feeds = by (no_cut (q ∷ ps) more fit.3 feeds) q.text (piece_some q.class q.text fit.3.0) refl where
  by : ends is_return (q.text ++ spelled ps) ≡ false → (text : List ℕ) → 0 < length text → q.text ≡ text
      → ends is_return (p.text ++ (q.text ++ spelled ps)) ≡ false
  by others [] some is = absurd (omega (arith, some))
  by others (c ∷ cs) some is =
      ap (λ t. ends is_return (p.text ++ (t ++ spelled ps))) is ∙ ends-append is_return p.text c (cs ++ spelled ps)
      ∙ ap (λ t. ends is_return (t ++ spelled ps)) (sym is) ∙ others

-- so the line end of pieces that spell CR LF at their end is both
two_bytes : (body : List Piece) (last : Piece) (read : List ℕ) → AreReadBefore (body ++ last ∷ []) [] → last.class ≡ line_end
    → spelled (body ++ last ∷ []) ≡ read ++ 10 ∷ [] → ends is_return read ≡ true → byte_len last.text ≡ 2
unfolding is_line_feed is_return
two_bytes body last read fit class spell returns = by (line_end_of fielded body last [] class fit) where
  whole : (c : ℕ) → last.text ≡ c ∷ [] → (spelled body ≡ read) × (c ≡ 10)
  whole c is = same_from_push (spelled body) read c 10 (ap (λ t. spelled body ++ t) (sym is) ∙ sym (spelled-push body last.class last.text) ∙ spell)

  by : IsLineEnd last.text → byte_len last.text ≡ 2
  by (feed is) =
      absurd (both_ways _ (ap (ends is_return) (sym (whole 10 is).0) ∙ no_cut body (spelled (last ∷ []) ++ []) (AreReadBefore-first body (last ∷ []) [] fit)
      (ap (λ t. begins is_line_feed ((t ++ []) ++ [])) is)) returns)
  by (return_feed is) = ap byte_len is ∙ sym (both_ends (13 ∷ []) 10 refl refl)
  by (return is) = absurd (omega (arith, (whole 13 is).1))

-- how the line ends with LF, before which perhaps CR stands
fed : {m : Mode} {read : List ℕ} {new : Scan} (way : IsUnderWay m read) → begins_line m ≡ true → has_returned way.field ≡ false
    → (run : List ℕ) (to next : FieldScanned) → (run ≡ []) ⊎ (run ≡ 13 ∷ []) → Goes way.field run to → ends_line to 10 ≡ true
    → room_step to 10 ≡ Some next → new.stop ≡ here next → (rest : List ℕ) → IsAtLineEnd m new (read ++ (run ++ 10 ∷ [])) rest (length run + 1)
unfolding is_line_feed is_return
fed {m} {read} {new} way start open_yet run to next (inl none) goes ends step stop rest =
    let same : way.field ≡ to = subst (λ r. Goes way.field r to) none goes in
    let parts = and_parts (frames way.field == 0) _ (ap (λ t. ends_line t 10) same ∙ ends) in
    let other : is_return_at way.field.mode ≡ false = sym (and-true _) ∙ ap (λ b. is_return_at way.field.mode && b) (sym parts.0) ∙ open_yet in
    let at = ended way start 10 next (ap (λ t. room_step t 10) same ∙ step) (ap (λ t. ends_line t 10) same ∙ ends) stop rest in
    subst (λ r. IsAtLineEnd m new (read ++ (r ++ 10 ∷ [])) rest (length r + 1)) (sym none)
    (subst (λ n. IsAtLineEnd m new (read ++ 10 ∷ []) rest n) (one_at way.field.mode other) at)
fed {m} {read} {new} way start open_yet run to next (inr one) goes ends step stop rest =
    let at = ended (way_on way (13 ∷ []) to (subst (λ r. Goes way.field r to) one goes)) start 10 next step ends stop in
    let alone = at [] in
    let size : line_end_size to.mode ≡ 2 = alone.are.size
    ∙ two_bytes alone.body alone.last (read ++ 13 ∷ []) (alone.fit [] refl) alone.are.class alone.spell (ends-last is_return read 13) in
    subst (λ r. IsAtLineEnd m new (read ++ (r ++ 10 ∷ [])) rest (length r + 1)) (sym one)
    (subst (λ r. IsAtLineEnd m new r rest 2) (append_assoc read (13 ∷ []) (10 ∷ []))
    (subst (λ n. IsAtLineEnd m new ((read ++ 13 ∷ []) ++ 10 ∷ []) rest n) size (at rest)))

pub line_fed : {m : Mode} {read bytes : List ℕ} {len : ℕ} {new : Scan} (way : IsUnderWay m read) → begins_line m ≡ true
    → has_returned way.field ≡ false → (e : EndsWithFeed way.field bytes len new) → IsLineBefore m new (read ++ (e.run ++ 10 ∷ [])) len
line_fed {m} {read} {new = new} way start open_yet e after apart =
    subst (λ n. IsAtLineEnd m new (read ++ (e.run ++ 10 ∷ [])) (encode_utf8_all after) n) (sym e.size)
    (fed way start open_yet e.run e.to e.ended e.first e.goes e.ends e.step e.stop (encode_utf8_all after))

-- and with CR, which something else follows
pub line_returned : {m : Mode} {read bytes : List ℕ} {len : ℕ} {new : Scan} (way : IsUnderWay m read) → begins_line m ≡ true
    → EndsWithReturn way.field bytes len new → IsLineBefore m new (read ++ 13 ∷ []) len
line_returned {m} {read} {new = new} way start e after apart =
    subst (λ n. IsAtLineEnd m new (read ++ 13 ∷ []) (encode_utf8_all after) n) (sym e.size) (returned (way_on way (13 ∷ []) e.to e.goes) start e.stop e.returned
    (λ a spells. ap (begins is_line_feed) (encodes_same a after spells) ∙ apart (ends-last is_return read 13 ∙ return_returns)))
