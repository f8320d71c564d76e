-- A finder over pieces lets its logical line go, once nothing of it is left.
use Rattle.std.proofs.Common.{◌≡◌, ℕ, ◌<◌, ◌≤◌, false, None, Some, List, [], ◌∷◌, ◌++◌, length, inl, inr, refl, sym, ap, ◌∙◌, subst, length-append, arith}
use Rattle.py_lines.specs.LogicalLine.{LogicalLine}
use Rattle.py_lines.specs.ScannerState.{ScannerState, fed_of, IsScanning, HasEnded, Releases}
use Rattle.py_imports.specs.BindingValue.{BindingValue}
use Rattle.isort_find.specs.Cursor.{CursorState}
use Rattle.isort_find.specs.Pending.{PendingState}
use Rattle.isort_find.specs.Position.{phase_in, skip_in, are_left, ready_in}
use Rattle.isort_find.specs.Pieces.{PieceFinderState, piece_finder_state, fed_by, has_ready, HasReleased, IsBetweenLines, IsWithinLine, HasFoundIn}
use Rattle.isort_find.specs.Private.PieceSteps.{IsBetween, ReleasesAny, LetsLineGo}
use Rattle.isort_find.specs.Private.Walks.{after_line}
use Rattle.isort_find.specs.declared.walker.Position.{Position}
use Rattle.isort_find.specs.declared.walker.Position.TheVariants as position
use Rattle.isort_find.specs.declared.walker.Phase.{Phase}
use Rattle.isort_find.specs.declared.walker.Phase.TheVariants as phase
use Rattle.isort_find.proofs.Walks.Inside.{line_over}
use Rattle.isort_find.proofs.Fed.Known.{given_of, none_or_some, still_scanning}

-- a finder that goes on and has nothing ready, once its line was let go
abbrev pub line_begun : PieceFinderState → ScannerState → PieceFinderState
line_begun f s = piece_finder_state s (position.Between (skip_in f.position)) f.cursor

-- a finder of which nothing is ready lets its line go
pub record BeginsLine (old : PieceFinderState) (t : ScannerState) : Type 0 where
  pub opened : phase_in old.position ≡ phase.Open
  pub none : has_ready old ≡ false
  pub yet : old.scanning.ended ≡ false
  pub scanner : ReleasesAny old.scanning t
  pub none_ready : t.ready ≡ None
  pub some_text : (line : LogicalLine) → old.scanning.ready ≡ Some line → 0 < length line.text

pub none_are_left : (left : List BindingValue) → are_left left ≡ false → left ≡ []
none_are_left [] h = refl
none_are_left (b ∷ bs) h = absurd cc

after_idle : (s : Position) → phase_in s ≡ phase.Open → ready_in s ≡ false → after_line s ≡ position.Between (skip_in s)
after_idle (position.Between skip) opened none = refl
after_idle (position.Unread start skip) opened none = absurd cc
after_idle (position.Within pending) opened none = refl
after_idle (position.End passed) opened none = absurd cc
after_idle (position.Fault fault) opened none = absurd cc

-- where nothing is ready, nothing is left
pub fed_open : (f : PieceFinderState) → phase_in f.position ≡ phase.Open → fed_by f ≡ fed_of f.scanning
fed_open f opened = by f.position opened
  where
    by : (s : Position) → phase_in s ≡ phase.Open → fed_by (record f { position = s }) ≡ fed_of f.scanning
    by (position.Between skip) here = refl
    by (position.Unread start skip) here = refl
    by (position.Within pending) here = refl
    by (position.End passed) here = absurd cc
    by (position.Fault fault) here = refl

-- the phase that a walker has told is that of the finder
pub phase_at : (old f : PieceFinderState) (told is : Phase) → f ≡ old → told ≡ phase_in f.position → told ≡ is → phase_in old.position ≡ is
phase_at old f told is view ensures same = ap (λ (g : PieceFinderState). phase_in g.position) (sym view) ∙ sym ensures ∙ same

-- the finder then
pub begun_is : (old a : PieceFinderState) → phase_in old.position ≡ phase.Open → has_ready old ≡ false → LetsLineGo old a → a ≡ line_begun old a.scanning
begun_is old a opened none l = l.same ∙ ap (λ (s : Position). piece_finder_state a.scanning s old.cursor) (after_idle old.position opened none)

-- a finder of which nothing is ready has let its line go
pub record HasLetGo (old a : PieceFinderState) : Type 0 where
  pub begins : BeginsLine old a.scanning
  pub is : a ≡ line_begun old a.scanning

pub has_let_go : (old a : PieceFinderState) → phase_in old.position ≡ phase.Open → has_ready old ≡ false → old.scanning.ended ≡ false → LetsLineGo old a → HasLetGo old a
has_let_go old a opened none yet l = record {
  begins = record { opened = opened; none = none; yet = yet; scanner = l.scanner; none_ready = l.none_ready; some_text = l.some_text };
  is = begun_is old a opened none l;
}

-- between two lines, none of which is held, there is nothing to let go
pub begun_here : (old a : PieceFinderState) → a ≡ old → IsBetween old → old.scanning.ended ≡ false → HasLetGo old a
begun_here old a same b yet = subst (HasLetGo old) (sym same) (record {
  begins = record {
    opened = ap phase_in b.position;
    none = ap ready_in b.position;
    yet = yet;
    scanner = inl (b.none_ready, refl);
    none_ready = b.none_ready;
    some_text = λ line ready. absurd (none_or_some _ line b.none_ready ready);
  };
  is = ap (λ (s : Position). piece_finder_state old.scanning s old.cursor) b.position;
})

-- a line that was read is let go
within_gone : (s t : ScannerState) (cursor : CursorState) (text : List ℕ) (p : PendingState) (values : List BindingValue) → p.left ≡ [] → Releases s t → IsWithinLine s cursor.options text p values → IsBetweenLines t cursor text 0 values
within_gone s t cursor text p values none r w =
    let same : r.unit ≡ w.line = let e : Some r.unit ≡ Some w.line = sym r.was ∙ w.ready in cc in
    let released = gone w.lines w.line same w.released in
    record {
      after = line_over text cursor.options t.place t.line w.lines w.line p values none (given_of t text (w.lines ++ w.line ∷ []) released) w.inside;
      released = released;
      stands = inl refl;
    }
  where
    gone : (lines : List LogicalLine) (line : LogicalLine) → r.unit ≡ line → HasReleased s text lines → HasReleased t text (lines ++ line ∷ [])
    gone lines line same (inl h) = inl (subst (λ (l : LogicalLine). IsScanning t text (lines ++ l ∷ [])) same (r.scans text lines h).0)
    gone lines line same (inr h) = inr (subst (λ (l : LogicalLine). HasEnded t text (lines ++ l ∷ [])) same (r.ends text lines h))

-- the line was read, or none is ready: the finder is between two lines
pub gone_between : (s t : ScannerState) (at : Position) (cursor : CursorState) (text : List ℕ) (values : List BindingValue) → phase_in at ≡ phase.Open → ready_in at ≡ false → ReleasesAny s t → HasFoundIn (piece_finder_state s at cursor) text values → IsBetweenLines t cursor text (skip_in at) values
gone_between s t (position.Between skip) cursor text values opened none (inl same) h = subst (λ (x : ScannerState). IsBetweenLines x cursor text skip values) (sym same.1) h.reached.0
gone_between s t (position.Between skip) cursor text values opened none (inr r) h = absurd (none_or_some _ r.unit h.reached.1 r.was)
gone_between s t (position.Within p) cursor text values opened none (inl same) h = absurd (none_or_some _ h.reached.line same.0 h.reached.ready)
gone_between s t (position.Within p) cursor text values opened none (inr r) h = within_gone s t cursor text p values (none_are_left p.left none) r h.reached
gone_between s t (position.Unread start skip) cursor text values opened none goes h = absurd cc
gone_between s t (position.End passed) cursor text values opened none goes h = absurd cc
gone_between s t (position.Fault fault) cursor text values opened none goes h = absurd cc

pub begun_between : (old : PieceFinderState) (t : ScannerState) → BeginsLine old t → (text : List ℕ) (values : List BindingValue) → HasFoundIn old text values → IsBetweenLines t old.cursor text (skip_in old.position) values
begun_between old t b text values h = gone_between old.scanning t old.position old.cursor text values b.opened b.none b.scanner h

pub fed_gone : (s t : ScannerState) → ReleasesAny s t → fed_of t ≡ fed_of s
fed_gone s t (inl same) = ap fed_of same.1
fed_gone s t (inr r) = let len = ap length r.held in omega (arith, r.place, len, length-append r.unit.text t.held)

pub ended_gone : (s t : ScannerState) → ReleasesAny s t → t.ended ≡ s.ended
ended_gone s t (inl same) = ap (λ (x : ScannerState). x.ended) same.1
ended_gone s t (inr r) = r.ended

pub begun_fed : (old : PieceFinderState) (t : ScannerState) → BeginsLine old t → fed_by old ≡ fed_of t
begun_fed old t b = fed_open old b.opened ∙ sym (fed_gone old.scanning t b.scanner)

held_gone : (s t : ScannerState) → ReleasesAny s t → length t.held ≤ length s.held
held_gone s t (inl same) = let len = ap (λ (x : ScannerState). length x.held) same.1 in omega (arith, len)
held_gone s t (inr r) = let len = ap length r.held in omega (arith, len, length-append r.unit.text t.held)

pub begun_held : (old : PieceFinderState) (t : ScannerState) → BeginsLine old t → length t.held ≤ length old.scanning.held
begun_held old t b = held_gone old.scanning t b.scanner

pub begun_gone : (old : PieceFinderState) (t : ScannerState) → BeginsLine old t → (line : LogicalLine) → old.scanning.ready ≡ Some line → length t.held < length old.scanning.held
begun_gone old t b line ready = by b.scanner
  where
    by : ReleasesAny old.scanning t → length t.held < length old.scanning.held
    by (inl same) = absurd (none_or_some _ line same.0 ready)
    by (inr r) = let len = ap length r.held in let some = b.some_text r.unit r.was in omega (arith, len, some, length-append r.unit.text t.held)

-- the scanner stands in the text
pub begun_scanning : (old : PieceFinderState) (t : ScannerState) → BeginsLine old t → (text : List ℕ) (lines : List LogicalLine) → HasReleased t text lines → IsScanning t text lines
begun_scanning old t b text lines h = still_scanning t text lines (ended_gone old.scanning t b.scanner ∙ b.yet) h
