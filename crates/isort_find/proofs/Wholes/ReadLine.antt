-- What a finder is once it has gone back to a line that was left unread, and once it has read the next line.
use Rattle.std.proofs.Common.{◌≡◌, ℕ, ◌-◌, ◌^◌, ◌<◌, true, false, None, Some, Result, Ok, Err, List, [], ◌∷◌, ◌++◌, length, map, inl, inr, refl, sym, ap, ◌∙◌, subst, length-drop, arith}
use Rattle.std.proofs.lemmas.List.{length-map}
use Rattle.std.proofs.Math.Seq.{drop-nil}
use Rattle.py_lines.specs.LogicalLine.{LogicalLine}
use Rattle.py_lines.specs.Lexed.{BeginsLexing}
use Rattle.py_lines.specs.Reader as reader
use Rattle.py_lines.specs.Reader.{Reader, HasGiven, GoesOnAt, standing_at, Continues}
use Rattle.py_lines.specs.declared.fault.Fault.{Fault}
use Rattle.py_imports.specs.BindingValue.{BindingValue, binding_value}
use Rattle.py_imports.specs.Binds.{Binds, IsBadAt}
use Rattle.isort_find.specs.Found.{ends_top, IsFound}
use Rattle.isort_find.specs.Cursor.{CursorState, first_cursor, IsAfter, HasStopped}
use Rattle.isort_find.specs.Pending.{pending_after}
use Rattle.isort_find.specs.Position.{phase_in, skip_in, left_in, is_unread, IsInside, MeetsEndAt, EndsInFaultAt}
use Rattle.isort_find.specs.Finder.{FinderState, HasFound, IsBeforeLine, FinderRunsOut, finder_state, finder_text, options_of, bytes_to_read, KeepsGiven}
use Rattle.isort_find.specs.Private.CursorMoves.{cursor_before}
use Rattle.isort_find.specs.Private.FinderSteps.{StandsBefore, GoesBack, FollowsRead, ReadsOn, ReadsNextLine, ended_at_line, with_line, with_line_again}
use Rattle.isort_find.specs.Private.LineSteps.{GivesLine, StepsTo}
use Rattle.isort_find.specs.Private.Walks.{WalkerState, read_again, unread_in, walker_state, with_position}
use Rattle.isort_find.specs.declared.error.FindError.{FindError}
use Rattle.isort_find.specs.declared.error.FindError.TheVariants as error
use Rattle.isort_find.specs.declared.options.FindOptions.{FindOptions}
use Rattle.isort_find.specs.declared.pending.LineStart.{LineStart}
use Rattle.isort_find.specs.declared.step.Step.{Step}
use Rattle.isort_find.specs.declared.step.Step.TheVariants as step
use Rattle.isort_find.specs.declared.walker.Position.{Position}
use Rattle.isort_find.specs.declared.walker.Position.TheVariants as position
use Rattle.isort_find.specs.declared.walker.Phase.TheVariants as phase
use Rattle.isort_find.specs.Private.KnownLaws.{BasicLaws}
use Rattle.isort_find.proofs.Finds.NextLines.{reader_is}
use Rattle.isort_find.proofs.Walks.Starts.{stopped_first}
use Rattle.isort_find.proofs.Walks.Inside.{line_over}
use Rattle.isort_find.proofs.Walks.NextLine.{IsAtLine, IsAtNothing, nothing_at_end, nothing_at_top, nothing_at_bad, stops_before, reads_bindings, reads_bad, reads_top, meets_lexical, found_lexed}

-- where a reader stands
abbrev next_start : Reader → LineStart
next_start r = record { offset = r.place; line = r.line }

back_same : (old f : FinderState) → phase_in old.position ≡ phase.Open → left_in old.position ≡ [] → is_unread old.position ≡ false → f ≡ old → StandsBefore old f
back_same old f opened none read same = subst (StandsBefore old) (sym same) (record { found = λ values h. h; is_open = opened; none = none; read = read; text = refl; cursor = refl; falls = omega arith })

-- going back keeps what was given
pub goes_back : (r : Reader) (s : Position) (cursor : CursorState) (f : FinderState) → phase_in s ≡ phase.Open → left_in s ≡ [] → GoesBack (finder_state r s cursor) f → StandsBefore (finder_state r s cursor) f
goes_back r (position.Unread start skip) cursor f opened none back =
    let text = ap length back.text in
    subst (StandsBefore (finder_state r (position.Unread start skip) cursor)) (sym back.same) (record {
      found = λ values h.
          let at = back.goes_on h.reached.lines h.reached.given in
          subst (λ (q : Reader). HasFound (finder_state q (position.Between skip) cursor) values) (sym at) (record { stopped = h.stopped; reached = record { no_fault = refl; after = h.reached } });
      is_open = refl;
      none = refl;
      read = refl;
      text = back.text;
      cursor = refl;
      falls = omega (arith, text);
    })
goes_back r (position.Between skip) cursor f opened none back = back_same _ f refl none refl back
goes_back r (position.Within pending) cursor f opened none back = back_same _ f refl none refl back
goes_back r (position.End passed) cursor f opened none back = absurd cc
goes_back r (position.Fault fault) cursor f opened none back = absurd cc

-- where it stands it has given the same
pub stands_here : (f : FinderState) → phase_in f.position ≡ phase.Open → left_in f.position ≡ [] → is_unread f.position ≡ false → StandsBefore f f
stands_here f opened none read = back_same f f opened none read refl

-- one after another
pub stands_then : (old mid new : FinderState) → StandsBefore old mid → StandsBefore mid new → StandsBefore old new
stands_then old mid new first next = record {
  found = λ values h. next.found values (first.found values h);
  is_open = next.is_open;
  none = next.none;
  read = next.read;
  text = next.text ∙ first.text;
  cursor = next.cursor ∙ first.cursor;
  falls = let k = first.falls in let m = next.falls in omega (arith, k, m);
}

-- where nothing is left of the line read last, the finder is between two lines
pub before_line : (r : Reader) (s : Position) (cursor : CursorState) (values : List BindingValue) → phase_in s ≡ phase.Open → left_in s ≡ [] → is_unread s ≡ false → HasFound (finder_state r s cursor) values → IsBeforeLine (finder_state r s cursor) (skip_in s) values
before_line r (position.Between skip) cursor values opened none read h = h.reached
before_line r (position.Unread start skip) cursor values opened none read h = absurd cc
before_line r (position.Within pending) cursor values opened none read h =
    let w = h.reached in
    record {
      no_fault = w.given.no_fault;
      after = line_over r.text cursor.options r.place r.line w.lines w.line pending values none (subst (λ (q : Reader). HasGiven q (w.lines ++ w.line ∷ [])) (reader_is r w.given.no_fault) w.given) w.inside;
    }
before_line r (position.End passed) cursor values opened none read h = absurd cc
before_line r (position.Fault fault) cursor values opened none read h = absurd cc

-- a finder that has gone back is about to read the line that begins here
pub record IsAbout (old f : FinderState) (start : LineStart) (options : FindOptions) : Type 0 where
  pub was_open : phase_in old.position ≡ phase.Open
  pub back : StandsBefore old f
  pub offset : start.offset ≡ f.reader.place
  pub number : start.line ≡ f.reader.line
  pub options_are : options ≡ options_of f

here : (old f : FinderState) (start : LineStart) (options : FindOptions) → IsAbout old f start options → start ≡ next_start f.reader
here old f start options a = (λ i. record { offset = a.offset i; line = a.number i })

-- what is known there: the lines that the reader has given, and where the finder may stop
record IsThere (f : FinderState) (values : List BindingValue) : Type 0 where
  pub stopped : HasStopped (finder_text f) f.cursor values
  pub after : IsAfter (finder_text f) (options_of f) f.reader.place f.reader.line (skip_in f.position) values
  pub given : HasGiven f.reader after.lines

there : (old f : FinderState) (values : List BindingValue) → StandsBefore old f → HasFound old values → IsThere f values
there old f values back h =
    let q = back.found values h in
    let b = before_line f.reader f.position f.cursor values back.is_open back.none back.read q in
    record { stopped = q.stopped; after = b.after; given = subst (λ (r : Reader). HasGiven r b.after.lines) (sym (reader_is f.reader b.no_fault)) b.after.given }

-- one more line was given
abbrev at_line : (f : FinderState) (values : List BindingValue) (r : Reader) (line : LogicalLine) (t : IsThere f values) → Continues f.reader line r → IsAtLine (finder_text f) (options_of f) (next_start f.reader) (skip_in f.position) line values
at_line f values r line t continues = record { after = t.after; begins = subst (λ (x : List ℕ). BeginsLexing x (t.after.lines ++ line ∷ [])) continues.text (continues.begins t.after.lines t.given) }

pub bytes_read : (s : Position) (size place : ℕ) → is_unread s ≡ false → bytes_to_read s size place ≡ size - place
bytes_read (position.Between skip) size place read = refl
bytes_read (position.Unread start skip) size place read = absurd cc
bytes_read (position.Within pending) size place read = refl
bytes_read (position.End passed) size place read = refl
bytes_read (position.Fault fault) size place read = refl

-- what was given stays where one more line is read: its bindings are to be looked at
line_kept : BasicLaws → (old f : FinderState) (options : FindOptions) (r : Reader) (bs : List BindingValue) → StandsBefore old f → options ≡ options_of f → GivesLine f.reader (λ line. Binds line bs × (ends_top options line ≡ false)) r → (values : List BindingValue) → HasFound old values → HasFound (with_line (finder_state r f.position f.cursor) (next_start f.reader) bs) values
line_kept one old f options r bs back options_are gives values h =
    let line = gives.0 in
    let continues = gives.1 in
    let counts : ends_top (options_of f) line ≡ false = subst (λ (o : FindOptions). ends_top o line ≡ false) options_are gives.2.1 in
    let t = there old f values back h in
    let inside = reads_bindings one (finder_text f) (options_of f) (next_start f.reader) (skip_in f.position) line values bs (at_line f values r line t continues) gives.2.0 counts in
    let pending = pending_after (next_start f.reader) (skip_in f.position) bs in
    record {
      stopped = subst (λ (x : List ℕ). HasStopped x f.cursor values) (sym continues.text) t.stopped;
      reached = record { lines = t.after.lines; line = line; given = continues.given t.after.lines t.given; inside = subst (λ (x : List ℕ). IsInside x (options_of f) t.after.lines line pending values) (sym continues.text) inside };
    }

-- the text, the options and the count stay where the finder reads on
back_keeps : (old f : FinderState) (r : Reader) (s : Position) → StandsBefore old f → r.text ≡ finder_text f → ((values : List BindingValue) → HasFound old values → HasFound (finder_state r s f.cursor) values) → KeepsGiven old (finder_state r s f.cursor)
back_keeps old f r s back same kept = record { kept = kept; task = record { text = same ∙ back.text; options = ap (λ (c : CursorState). c.options) back.cursor }; given = ap (λ (c : CursorState). c.given) back.cursor }

-- the line's bindings are to be looked at
reads_on : BasicLaws → (old f : FinderState) (options : FindOptions) (r : Reader) (bs : List BindingValue) → StandsBefore old f → options ≡ options_of f → GivesLine f.reader (λ line. Binds line bs × (ends_top options line ≡ false)) r → length bs < 2 ^ 64 → ReadsOn old (with_line (finder_state r f.position f.cursor) (next_start f.reader) bs)
reads_on one old f options r bs back options_are gives few =
    let continues = gives.1 in
    let len = ap length continues.text in
    let size = bytes_read f.position (length (finder_text f)) f.reader.place back.read in
    let none = ap length back.none in
    let falls = back.falls in
    record {
      keeps = back_keeps old f r (position.Within (pending_after (next_start f.reader) (skip_in f.position) bs)) back continues.text (line_kept one old f options r bs back options_are gives);
      falls = λ _. omega (arith, size, none, falls, len, continues.place, continues.some_text, continues.within, length-drop (skip_in f.position) bs, few);
      cursor = λ _. back.cursor;
    }

-- nothing of a plain line is to be looked at: the finder is before the next one
pub passes_plain : BasicLaws → (old f : FinderState) (options : FindOptions) (r : Reader) → StandsBefore old f → options ≡ options_of f → GivesLine f.reader (λ line. Binds line [] × (ends_top options line ≡ false)) r → ReadsOn old (finder_state r (position.Between 0) f.cursor)
passes_plain one old f options r back options_are gives =
    let continues = gives.1 in
    let len = ap length continues.text in
    let size = bytes_read f.position (length (finder_text f)) f.reader.place back.read in
    let none = ap length back.none in
    let falls = back.falls in
    let line_is = position.Within (pending_after (next_start f.reader) (skip_in f.position) []) in
    record {
      keeps = back_keeps old f r (position.Between 0) back continues.text (λ values h.
          let q = line_kept one old f options r [] back options_are gives values h in
          let b = before_line r line_is f.cursor values refl (drop-nil (skip_in f.position)) refl q in
          record { stopped = q.stopped; reached = record { no_fault = b.no_fault; after = b.after } });
      falls = λ _. omega (arith, size, none, falls, len, continues.place, continues.some_text, continues.within);
      cursor = λ _. back.cursor;
    }

-- the end or a fault was met: the finder stands there, and so does its cursor
closes : (old f : FinderState) (r : Reader) (s : Position) → StandsBefore old f → r.text ≡ finder_text f → ((values : List BindingValue) → HasFound old values → HasFound (finder_state r s (cursor_before f.cursor (next_start f.reader))) values) → (phase_in s ≡ phase.Open → ⊥) → ReadsOn old (ended_at_line (finder_state r f.position f.cursor) (next_start f.reader) s)
closes old f r s back same kept closed = record {
  keeps = record { kept = kept; task = record { text = same ∙ back.text; options = ap (λ (c : CursorState). c.options) back.cursor }; given = ap (λ (c : CursorState). c.given) back.cursor };
  falls = λ e. absurd (closed e);
  cursor = λ e. absurd (closed e);
}

end_is_closed : phase.End ≡ phase.Open → ⊥
end_is_closed h = cc

fault_is_closed : (fault : Fault) → phase.Fault fault ≡ phase.Open → ⊥
fault_is_closed fault h = cc

-- what a finder is that has met the end or a fault, of its text by itself
ended_with : (f : FinderState) (r : Reader) (values : List BindingValue) → r.text ≡ finder_text f → HasStopped (finder_text f) (cursor_before f.cursor (next_start f.reader)) values → IsFound (finder_text f) (options_of f) values None × MeetsEndAt (finder_text f) (options_of f) f.reader.place → HasFound (finder_state r (position.End 0) (cursor_before f.cursor (next_start f.reader))) values
ended_with f r values same stopped met = record {
  stopped = subst (λ (x : List ℕ). HasStopped x (cursor_before f.cursor (next_start f.reader)) values) (sym same) stopped;
  reached = subst (λ (x : List ℕ). IsFound x (options_of f) values None × MeetsEndAt x (options_of f) f.reader.place) (sym same) met;
}

failed_with : (f : FinderState) (r : Reader) (values : List BindingValue) (fault : Fault) → r.text ≡ finder_text f → HasStopped (finder_text f) (cursor_before f.cursor (next_start f.reader)) values → EndsInFaultAt (finder_text f) (options_of f) values f.reader.place fault → HasFound (finder_state r (position.Fault fault) (cursor_before f.cursor (next_start f.reader))) values
failed_with f r values fault same stopped met = record {
  stopped = subst (λ (x : List ℕ). HasStopped x (cursor_before f.cursor (next_start f.reader)) values) (sym same) stopped;
  reached = subst (λ (x : List ℕ). EndsInFaultAt x (options_of f) values f.reader.place fault) (sym same) met;
}

stops_there : (f : FinderState) (values : List BindingValue) (t : IsThere f values) → IsAtNothing t.after → HasStopped (finder_text f) (cursor_before f.cursor (next_start f.reader)) values
stops_there f values t n = stops_before f.cursor (next_start f.reader) t.after n t.stopped

-- the text ends
reads_end : BasicLaws → (old f : FinderState) (r : Reader) → StandsBefore old f → reader.Ends f.reader r → ReadsOn old (ended_at_line (finder_state r f.position f.cursor) (next_start f.reader) (position.End 0))
reads_end one old f r back e =
    let same = ap (λ (q : Reader). q.text) e.same in
    closes old f r (position.End 0) back same (λ values h.
    let t = there old f values back h in
    let b = t.after in
    let lexed = e.all b.lines t.given in
    let n = nothing_at_end one b None lexed in
    ended_with f r values same (stops_there f values t n) (found_lexed (finder_text f) (options_of f) b.lines b.before values None lexed b.in_top b.binds n.found, inl e.place)) end_is_closed

-- a line ends the top
reads_at_top : BasicLaws → (old f : FinderState) (options : FindOptions) (r : Reader) → StandsBefore old f → options ≡ options_of f → GivesLine f.reader (λ line. ends_top options line ≡ true) r → ReadsOn old (ended_at_line (finder_state r f.position f.cursor) (next_start f.reader) (position.End 0))
reads_at_top one old f options r back options_are g =
    let line = g.0 in
    let continues = g.1 in
    let ends = subst (λ (o : FindOptions). ends_top o line ≡ true) options_are g.2 in
    closes old f r (position.End 0) back continues.text (λ values h.
    let t = there old f values back h in
    let at = at_line f values r line t continues in
    let found = reads_top one (finder_text f) (options_of f) (next_start f.reader) (skip_in f.position) line values at ends in
    ended_with f r values continues.text (stops_there f values t (nothing_at_top one t.after line at.begins ends)) (found.0, inr found.1)) end_is_closed

-- the text has a lexical fault
reads_bad_text : BasicLaws → (old f : FinderState) (r : Reader) (fault : Fault) → StandsBefore old f → reader.Fails f.reader fault r → ReadsOn old (ended_at_line (finder_state r f.position f.cursor) (next_start f.reader) (position.Fault fault))
reads_bad_text one old f r fault back e =
    closes old f r (position.Fault fault) back e.text (λ values h.
    let t = there old f values back h in
    let lexed = e.all t.after.lines t.given in
    failed_with f r values fault e.text (stops_there f values t (nothing_at_end one t.after (Some fault) lexed)) (meets_lexical one t.after fault lexed)) (fault_is_closed fault)

-- a line has a bad import statement
reads_bad_line : BasicLaws → (old f : FinderState) (options : FindOptions) (r : Reader) (fault : Fault) → StandsBefore old f → options ≡ options_of f → GivesLine f.reader (λ line. IsBadAt line fault × (ends_top options line ≡ false)) r → ReadsOn old (ended_at_line (finder_state r f.position f.cursor) (next_start f.reader) (position.Fault fault))
reads_bad_line one old f options r fault back options_are g =
    let line = g.0 in
    let continues = g.1 in
    let counts = subst (λ (o : FindOptions). ends_top o line ≡ false) options_are g.2.1 in
    closes old f r (position.Fault fault) back continues.text (λ values h.
    let t = there old f values back h in
    let at = at_line f values r line t continues in
    failed_with f r values fault continues.text (stops_there f values t (nothing_at_bad one t.after line fault at.begins g.2.0)) (reads_bad one (finder_text f) (options_of f) (next_start f.reader) (skip_in f.position) line values fault at g.2.0 counts)) (fault_is_closed fault)

-- there was no memory for the line's bindings
loses_line : (old f : FinderState) (r : Reader) → phase_in old.position ≡ phase.Open → StandsBefore old f → r.text ≡ finder_text f → FinderRunsOut old (with_line_again (finder_state r f.position f.cursor) (next_start f.reader))
loses_line old f r opened back same = record {
  kept = λ values h.
      let t = there old f values back h in
      record { stopped = subst (λ (x : List ℕ). HasStopped x f.cursor values) (sym same) t.stopped; reached = subst (λ (x : List ℕ). IsAfter x (options_of f) f.reader.place f.reader.line (skip_in f.position) values) (sym same) t.after };
  task = record { text = same ∙ back.text; options = ap (λ (c : CursorState). c.options) back.cursor };
  cursor = back.cursor;
  was_open = opened;
  is_open = refl;
}

-- there was no memory for the line
runs_out : (old f : FinderState) → phase_in old.position ≡ phase.Open → StandsBefore old f → FinderRunsOut old f
runs_out old f opened back = record { kept = back.found; task = record { text = back.text; options = ap (λ (c : CursorState). c.options) back.cursor }; cursor = back.cursor; was_open = opened; is_open = back.is_open }

answered : (old new : FinderState) (result : Result (Unit {0}) FindError) → result ≡ Ok tt → ReadsOn old new → ReadsNextLine old result new
answered old new result is reads = subst (λ (x : Result (Unit {0}) FindError). ReadsNextLine old x new) (sym is) reads

refused : (old new : FinderState) (result : Result (Unit {0}) FindError) → result ≡ Err error.Memory → FinderRunsOut old new → ReadsNextLine old result new
refused old new result is none = subst (λ (x : Result (Unit {0}) FindError). ReadsNextLine old x new) (sym is) (none, refl)

-- the finder reads the line that begins where its reader stands, and does what follows
follows : BasicLaws → (old f : FinderState) (options : FindOptions) (r : Reader) (read : Step) (result : Result (Unit {0}) FindError) (new : FinderState) → phase_in old.position ≡ phase.Open → StandsBefore old f → options ≡ options_of f → StepsTo options f.reader read r → FollowsRead (finder_state r f.position f.cursor) (next_start f.reader) read result new → ReadsNextLine old result new
follows one old f options r (step.Bindings bindings) result new opened back is g h =
    let bs = map binding_value bindings.items in
    let few : length bs < 2 ^ 64 = omega (arith, length-map bindings.items binding_value, bindings.ok, bindings.small) in
    answered old new result h.0 (subst (ReadsOn old) (sym h.1) (reads_on one old f options r bs back is g few))
follows one old f options r step.Plain result new opened back is g h = answered old new result h.0 (subst (ReadsOn old) (sym h.1) (passes_plain one old f options r back is g))
follows one old f options r step.End result new opened back is (inl g) h = answered old new result h.0 (subst (ReadsOn old) (sym h.1) (reads_at_top one old f options r back is g))
follows one old f options r step.End result new opened back is (inr e) h = answered old new result h.0 (subst (ReadsOn old) (sym h.1) (reads_end one old f r back e))
follows one old f options r (step.Fault fault) result new opened back is (inl g) h = answered old new result h.0 (subst (ReadsOn old) (sym h.1) (reads_bad_line one old f options r fault back is g))
follows one old f options r (step.Fault fault) result new opened back is (inr e) h = answered old new result h.0 (subst (ReadsOn old) (sym h.1) (reads_bad_text one old f r fault back e))
follows one old f options r step.LineLost result new opened back is g h = refused old new result h.0 (subst (FinderRunsOut old) (sym h.1) (loses_line old f r opened back g.1.text))
follows one old f options r step.NoMemory result new opened back is e h = refused old new result h.0 (subst (FinderRunsOut old) (sym (h.1 ∙ ap (λ (q : Reader). finder_state q f.position f.cursor) e.same)) (runs_out old f opened back))

-- the finder reads its next line
pub reads_line : BasicLaws → (old f : FinderState) (start : LineStart) (options : FindOptions) (r : Reader) (read : Step) (result : Result (Unit {0}) FindError) (new : FinderState) → IsAbout old f start options → StepsTo options f.reader read r → FollowsRead (finder_state r f.position f.cursor) start read result new → ReadsNextLine old result new
reads_line one old f start options r read result new a g h = follows one old f options r read result new a.was_open a.back a.options_are g (subst (λ (x : LineStart). FollowsRead (finder_state r f.position f.cursor) x read result new) (here old f start options a) h)

-- the reader went back to the line that was left unread
pub went_back : (l r : Reader) (text : List ℕ) (s : Position) (cursor : CursorState) (start : LineStart) (w : WalkerState) → l.text ≡ text → unread_in s ≡ Some start → GoesOnAt text start.offset start.line r → r.text ≡ text → w ≡ with_position (walker_state s cursor) (read_again s) → GoesBack (finder_state l s cursor) (finder_state r w.position w.cursor)
went_back l r text (position.Unread place skip) cursor start w same is goes_on text_is walker_is =
    let here : place ≡ start = cc in
    record {
      goes_on = subst (λ (x : LineStart). GoesOnAt l.text x.offset x.line r) (sym here) (subst (λ (t : List ℕ). GoesOnAt t start.offset start.line r) (sym same) goes_on);
      text = text_is ∙ sym same;
      same = ap (λ (x : WalkerState). finder_state r x.position x.cursor) walker_is;
    }
went_back l r text (position.Between skip) cursor start w same is goes_on text_is walker_is = absurd cc
went_back l r text (position.Within pending) cursor start w same is goes_on text_is walker_is = absurd cc
went_back l r text (position.End passed) cursor start w same is goes_on text_is walker_is = absurd cc
went_back l r text (position.Fault fault) cursor start w same is goes_on text_is walker_is = absurd cc

-- a finder that goes on from a cursor
pub resumes_at : (text : List ℕ) (cursor : CursorState) (r : Reader) (values : List BindingValue) → ((lines : List LogicalLine) → HasGiven (standing_at text cursor.offset cursor.line) lines → r ≡ standing_at text cursor.offset cursor.line) → HasStopped text cursor values → HasFound (finder_state r (position.Between cursor.taken) cursor) values
resumes_at text cursor r values goes_on h = subst (λ (q : Reader). HasFound (finder_state q (position.Between cursor.taken) cursor) values) (sym (goes_on h.after.lines h.after.given)) (record { stopped = h; reached = record { no_fault = refl; after = h.after } })

-- a finder at the start of its text
pub goes_from_start : (text : List ℕ) (options : FindOptions) (cursor : CursorState) (r : Reader) → cursor ≡ first_cursor options → r ≡ standing_at text 0 1 → HasGiven r [] → HasFound (finder_state r (position.Between cursor.taken) cursor) []
goes_from_start text options cursor r is start given =
    let stopped = stopped_first text options cursor is (subst (λ (q : Reader). HasGiven q []) start given) in
    resumes_at text cursor r [] (λ lines has. start ∙ ap (λ (c : CursorState). standing_at text c.offset c.line) (sym is)) stopped
