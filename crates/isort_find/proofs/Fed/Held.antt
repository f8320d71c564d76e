-- What a finder over pieces holds of a text, and what is known of it.
use Rattle.std.proofs.Common.{◌≡◌, ℕ, ◌<◌, Bool, true, false, Option, None, Some, List, [], ◌∷◌, ◌++◌, length, take, inl, inr, refl, sym, ◌∙◌, subst, append-nil, arith}
use Rattle.py_lines.specs.LogicalLine.{LogicalLine}
use Rattle.py_lines.specs.Lexed.{IsLexed}
use Rattle.py_lines.specs.Settled.{IsSettled}
use Rattle.py_lines.specs.Given.{AreFirstLines}
use Rattle.py_lines.specs.ScannerState.{ScannerState, fed_of, ready_lines, EndsExactly, HoldsReady, HoldsLast, IsScanning}
use Rattle.py_imports.specs.BindingValue.{BindingValue}
use Rattle.isort_find.specs.Cursor.{CursorState}
use Rattle.isort_find.specs.Pending.{PendingState}
use Rattle.isort_find.specs.Position.{phase_in, are_left, ready_in}
use Rattle.isort_find.specs.Pieces.{PieceFinderState, piece_finder_state, fed_in, has_ready, held_at_position, HasReleased, AreKnown, IsBetweenLines, HasFoundIn, HoldsRest, HoldsLine, HoldsBy, KnowsText}
use Rattle.isort_find.specs.Private.KnownLaws.{AscentLaws, OneSettled, SettledLaws}
use Rattle.isort_find.specs.declared.pending.LineStart.{LineStart}
use Rattle.isort_find.specs.declared.walker.Position.{Position}
use Rattle.isort_find.specs.declared.walker.Position.TheVariants as position
use Rattle.isort_find.specs.declared.walker.Phase.{Phase}
use Rattle.isort_find.specs.declared.walker.Phase.TheVariants as phase
use Rattle.isort_find.proofs.Finds.SettledFound.{append-nil-lines}
use Rattle.isort_find.proofs.Fed.Known.{true_or_false, none_or_some, still_scanning}
use Rattle.isort_find.proofs.Fed.Settled.{all_settled, top_settled}

-- the scanner stands in the text, and no line is ready
rest_of : (s : ScannerState) (skip : ℕ) (cursor : CursorState) (text : List ℕ) (lines : List LogicalLine) → s.ready ≡ None → IsScanning s text lines → HoldsRest (piece_finder_state s (position.Between skip) cursor) text
rest_of s skip cursor text lines none h = record {
  lines = lines;
  first = h.first;
  held = h.held;
  fed = refl;
  settled = λ some. subst (IsSettled (take (fed_of s) text)) (append-nil-lines lines) (subst (λ (r : Option LogicalLine). IsSettled (take (fed_of s) text) (lines ++ ready_lines r)) none (h.settled some));
}

-- between two lines
pub between_rest : (s : ScannerState) (skip : ℕ) (cursor : CursorState) (text : List ℕ) (values : List BindingValue) → s.ended ≡ false → s.ready ≡ None → IsBetweenLines s cursor text skip values → HoldsRest (piece_finder_state s (position.Between skip) cursor) text
between_rest s skip cursor text values yet none b = rest_of s skip cursor text b.after.lines none (still_scanning s text b.after.lines yet b.released)

-- where no line is ready
pub rest_any : (s : ScannerState) (at : Position) (cursor : CursorState) (text : List ℕ) (values : List BindingValue) → phase_in at ≡ phase.Open → s.ended ≡ false → s.ready ≡ None → HasFoundIn (piece_finder_state s at cursor) text values → HoldsRest (piece_finder_state s at cursor) text
rest_any s (position.Between skip) cursor text values opened yet none h = between_rest s skip cursor text values yet none h.reached.0
rest_any s (position.Unread start skip) cursor text values opened yet none h =
    let r = between_rest s skip cursor text values yet none h.reached in
    record { lines = r.lines; first = r.first; held = r.held; fed = r.fed; settled = r.settled }
rest_any s (position.Within p) cursor text values opened yet none h = absurd (none_or_some _ h.reached.line none h.reached.ready)
rest_any s (position.End passed) cursor text values opened yet none h = absurd cc
rest_any s (position.Fault fault) cursor text values opened yet none h = absurd cc

held_open : (s : ScannerState) (at : Position) → phase_in at ≡ phase.Open → held_at_position at s ≡ s.held
held_open s (position.Between skip) opened = refl
held_open s (position.Unread start skip) opened = refl
held_open s (position.Within p) opened = refl
held_open s (position.End passed) opened = absurd cc
held_open s (position.Fault fault) opened = refl

-- what is held is the line that is ready, and what comes after it
holds_line : (s : ScannerState) (at : Position) (cursor : CursorState) (text : List ℕ) (lines : List LogicalLine) (line : LogicalLine) (more : List ℕ) → phase_in at ≡ phase.Open → s.ready ≡ Some line → AreFirstLines text s.place s.line lines → s.held ≡ line.text ++ more → (s.ended ≡ false → EndsExactly line.text more) → (s.ended ≡ true → more ≡ []) → (0 < length s.held → AreKnown s text (lines ++ line ∷ [])) → HoldsLine (piece_finder_state s at cursor) text
holds_line s at cursor text lines line more opened ready first bytes exact last known =
    let held = held_open s at opened in
    record { lines = lines; line = line; more = more; first = first; ready = ready; held = held ∙ bytes; exact = exact; last = last; known = λ some. known (subst (λ (t : List ℕ). 0 < length t) held some) }

-- after these lines one is ready
line_ready_after : (s : ScannerState) (at : Position) (cursor : CursorState) (text : List ℕ) (lines : List LogicalLine) (line : LogicalLine) → phase_in at ≡ phase.Open → s.ready ≡ Some line → HasReleased s text lines → HoldsLine (piece_finder_state s at cursor) text
line_ready_after s at cursor text lines line opened ready (inl h) =
    let more = subst (HoldsReady s.held) ready h.whole in
    holds_line s at cursor text lines line more.0 opened ready h.first more.1 (λ yet. more.2) (λ over. absurd (true_or_false _ h.open_yet over)) (λ some. inl (subst (λ (r : Option LogicalLine). IsSettled (take (fed_of s) text) (lines ++ ready_lines r)) ready (h.settled some)))
line_ready_after s at cursor text lines line opened ready (inr h) =
    let bytes = subst (HoldsLast s.held) ready h.whole in
    holds_line s at cursor text lines line [] opened ready h.first (bytes ∙ sym (append-nil line.text)) (λ yet. absurd (true_or_false _ yet h.ended)) (λ over. refl) (λ some. inr (h.ended, subst (λ (r : Option LogicalLine). IsLexed text (lines ++ ready_lines r) None) ready h.lexed))

-- where a line is ready
pub line_any : (s : ScannerState) (at : Position) (cursor : CursorState) (text : List ℕ) (values : List BindingValue) (line : LogicalLine) → phase_in at ≡ phase.Open → s.ready ≡ Some line → HasFoundIn (piece_finder_state s at cursor) text values → HoldsLine (piece_finder_state s at cursor) text
line_any s (position.Between skip) cursor text values line opened ready h = line_ready_after s (position.Between skip) cursor text h.reached.0.after.lines line opened ready h.reached.0.released
line_any s (position.Unread start skip) cursor text values line opened ready h = line_ready_after s (position.Unread start skip) cursor text h.reached.after.lines line opened ready h.reached.released
line_any s (position.Within p) cursor text values line opened ready h = line_ready_after s (position.Within p) cursor text h.reached.lines line opened ready h.reached.released
line_any s (position.End passed) cursor text values line opened ready h = absurd cc
line_any s (position.Fault fault) cursor text values line opened ready h = absurd cc

pub open_ready : (s : Position) → ready_in s ≡ true → phase_in s ≡ phase.Open
open_ready (position.Between skip) ready = refl
open_ready (position.Unread start skip) ready = refl
open_ready (position.Within p) ready = refl
open_ready (position.End passed) ready = absurd cc
open_ready (position.Fault fault) ready = absurd cc

-- before a line that was left unread: it is ready, or it isn't whole yet
holds_unread : (s : ScannerState) (start : LineStart) (skip : ℕ) (cursor : CursorState) (text : List ℕ) (values : List BindingValue) → (s.ended ≡ true → (line : LogicalLine) × (s.ready ≡ Some line)) → HasFoundIn (piece_finder_state s (position.Unread start skip) cursor) text values → HoldsBy phase.Open true (piece_finder_state s (position.Unread start skip) cursor) text
holds_unread s start skip cursor text values whole h = by s.ready refl s.ended refl
  where
    by : (r : Option LogicalLine) → s.ready ≡ r → (over : Bool) → s.ended ≡ over → HoldsBy phase.Open true (piece_finder_state s (position.Unread start skip) cursor) text
    by (Some line) is over ended = inl (line_any s (position.Unread start skip) cursor text values line refl is h)
    by None is false yet = inr (record { unread = refl; yet = yet; rest = rest_any s (position.Unread start skip) cursor text values refl yet is h })
    by None is true over = let some = whole over in absurd (none_or_some _ some.0 is some.1)

-- inside a line, of which something is left or nothing
holds_within : (s : ScannerState) (p : PendingState) (cursor : CursorState) (text : List ℕ) (values : List BindingValue) → (s.ended ≡ false → are_left p.left ≡ false → s.ready ≡ None) → HasFoundIn (piece_finder_state s (position.Within p) cursor) text values → HoldsBy phase.Open (are_left p.left) (piece_finder_state s (position.Within p) cursor) text
holds_within s p cursor text values drained h = by (are_left p.left) refl
  where
    by : (some : Bool) → are_left p.left ≡ some → HoldsBy phase.Open some (piece_finder_state s (position.Within p) cursor) text
    by true left = inl (line_any s (position.Within p) cursor text values h.reached.line refl h.reached.ready h)
    by false none = λ yet. absurd (none_or_some _ h.reached.line (drained yet none) h.reached.ready)

-- what is held, wherever the finder stands
holds_any : (s : ScannerState) (at : Position) (cursor : CursorState) (text : List ℕ) (values : List BindingValue) → (s.ended ≡ false → ready_in at ≡ false → s.ready ≡ None) → (s.ended ≡ true → ready_in at ≡ true → (line : LogicalLine) × (s.ready ≡ Some line)) → HasFoundIn (piece_finder_state s at cursor) text values → HoldsBy (phase_in at) (ready_in at) (piece_finder_state s at cursor) text
holds_any s (position.Between skip) cursor text values drained whole h = λ yet. between_rest s skip cursor text values yet h.reached.1 h.reached.0
holds_any s (position.Unread start skip) cursor text values drained whole h = holds_unread s start skip cursor text values (λ over. whole over refl) h
holds_any s (position.Within p) cursor text values drained whole h = holds_within s p cursor text values drained h
holds_any s (position.End passed) cursor text values drained whole h = refl
holds_any s (position.Fault fault) cursor text values drained whole h = tt

-- What is known of a text: no line is held where nothing is ready, and after the text's end what is ready is a line.
pub knows_any : SettledLaws → OneSettled → AscentLaws → (f : PieceFinderState) (text : List ℕ) (values : List BindingValue) → (f.scanning.ended ≡ false → has_ready f ≡ false → f.scanning.ready ≡ None) → (f.scanning.ended ≡ true → has_ready f ≡ true → (line : LogicalLine) × (f.scanning.ready ≡ Some line)) → HasFoundIn f text values → KnowsText f text values
knows_any laws one ascent f text values drained whole h = record {
  found = h;
  all = λ may none. all_settled laws one ascent f.scanning f.position f.cursor text values may.yet may.no_fault none h;
  holds = holds_any f.scanning f.position f.cursor text values drained whole h;
}

-- the same, where a line is ready
pub knows_ready : (f : PieceFinderState) (text : List ℕ) (values : List BindingValue) (line : LogicalLine) → has_ready f ≡ true → f.scanning.ready ≡ Some line → HasFoundIn f text values → KnowsText f text values
knows_ready f text values line ready is h =
    let opened = open_ready f.position ready in
    let held : HoldsBy phase.Open true f text = inl (line_any f.scanning f.position f.cursor text values line opened is h) in
    record {
      found = h;
      all = λ may none. absurd (true_or_false _ none ready);
      holds = subst (λ (p : Phase). HoldsBy p (has_ready f) f text) (sym opened) (subst (λ (b : Bool). HoldsBy phase.Open b f text) (sym ready) held);
    }

-- and after the top
pub knows_top : SettledLaws → AscentLaws → (s : ScannerState) (passed : ℕ) (cursor : CursorState) (text : List ℕ) (values : List BindingValue) → HasFoundIn (piece_finder_state s (position.End passed) cursor) text values → KnowsText (piece_finder_state s (position.End passed) cursor) text values
knows_top laws ascent s passed cursor text values h = record {
  found = h;
  all = λ may none. top_settled laws ascent s cursor.options text (fed_in (position.End passed) s) values may.yet (omega arith) h.reached;
  holds = refl;
}
