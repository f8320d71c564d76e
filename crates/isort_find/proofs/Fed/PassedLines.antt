-- A finder over pieces lets its line go, and passes over logical lines that bind nothing.
use Rattle.std.proofs.Common.{◌≡◌, ℕ, ◌+◌, ◌-◌, ◌<◌, ◌≤◌, zero, suc, false, List, [], ◌++◌, length, take, drop, inl, refl, sym, ap, ◌∙◌, subst, arith, length-drop}
use Rattle.std.specs.List.{flat_map}
use Rattle.py_lines.specs.Given.{AreFirstLines}
use Rattle.py_lines.specs.LogicalLine.{LogicalLine}
use Rattle.std.proofs.lemmas.List.{drop-drop, length-append}
use Rattle.std.proofs.Math.Seq.{take-add}
use Rattle.py_lines.specs.ScannerState.{ScannerState, GoesOnWith, IsScanning, PassesPieceLines, fed_of}
use Rattle.py_imports.specs.BindingValue.{BindingValue}
use Rattle.py_imports.specs.Binds.{BindAll}
use Rattle.py_imports.specs.FirstWords.{LieWithoutImport, NoImportBegins}
use Rattle.isort_find.specs.Cursor.{CursorState}
use Rattle.isort_find.specs.Pieces.{PieceFinderState, IsBetweenLines, HasFoundIn, InEachText, fed_by}
use Rattle.isort_find.specs.Position.{skip_in}
use Rattle.isort_find.specs.Private.PieceSteps.{PassesLines}
use Rattle.isort_find.proofs.Finds.PassedOn.{after_passed}
use Rattle.isort_find.proofs.Fed.LetGo.{BeginsLine, line_begun, begun_between, begun_fed, begun_held, begun_gone, begun_scanning, ended_gone}

-- after more lines, which bind nothing, the same was found
pub passed_between : (t s : ScannerState) (cursor : CursorState) (text : List ℕ) (skip : ℕ) (values : List BindingValue) (lines : List LogicalLine) (b : IsBetweenLines t cursor text skip values) → skip ≡ 0 → cursor.options.top_only ≡ false → BindAll lines [] → IsScanning s text (b.after.lines ++ lines) → IsBetweenLines s cursor text skip values
unfolding after_passed
passed_between t s cursor text skip values lines b fresh counts binds scanning = record {
  after = after_passed text cursor.options t.place t.line skip values b.after fresh counts lines binds s.place s.line scanning.first;
  released = inl scanning;
  stands = inl fresh;
}

-- the finder goes on after bytes that were passed over, with its line let go
pub gone_on : (old : PieceFinderState) (t : ScannerState) → BeginsLine old t → (s : ScannerState) (piece : List ℕ) (n : ℕ) → n ≤ length piece → t.place ≤ s.place → fed_of s ≡ fed_of t + n → s ≡ record t { place = s.place; line = s.line; held = s.held } → InEachText old (take n piece) (λ text values. IsBetweenLines s old.cursor text (skip_in old.position) values) → PassesLines old piece n (line_begun old s)
gone_on old t b s piece n within further fed same between =
    let none = ap (λ (x : ScannerState). x.ready) same ∙ b.none_ready in
    record {
      advances = record {
        within = within;
        found = λ text values h goes. record { stopped = h.stopped; reached = (between text values h goes, none) };
        held = (let k = begun_held old t b in omega (arith, further, fed, k));
        fed = (let k = begun_fed old t b in omega (arith, fed, k));
        cursor = refl;
        open_yet = ap (λ (x : ScannerState). x.ended) same ∙ ended_gone old.scanning t b.scanner;
      };
      between = record { position = refl; none_ready = none };
      gone = λ line ready. let k = begun_gone old t b line ready in omega (arith, further, fed, k);
    }

-- no line is passed over
pub passes_none : (old : PieceFinderState) (t : ScannerState) → BeginsLine old t → (piece : List ℕ) → PassesLines old piece 0 (line_begun old t)
passes_none old t b piece = gone_on old t b t piece 0 (omega arith) (omega arith) (omega arith) refl (λ text values h goes. begun_between old t b text values h)

-- the last lines of a text that was read so far bind nothing
abbrev pub BindNothing : List LogicalLine → Type 0
BindNothing lines = (text : List ℕ) (place row : ℕ) (before : List LogicalLine) → AreFirstLines text place row (before ++ lines) → BindAll lines []

-- what was fed goes on with what is held and with the bytes after it
goes_both : (text : List ℕ) (place : ℕ) (first later : List ℕ) → GoesOnWith text place first → GoesOnWith text (place + length first) later → GoesOnWith text place (first ++ later)
goes_both text place first later one two =
    ap (λ (k : ℕ). take k (drop place text)) (length-append first later)
    ∙ take-add (length first) (length later) (drop place text)
    ∙ ap (λ t. t ++ take (length later) (drop (length first) (drop place text))) one
    ∙ ap (λ t. first ++ take (length later) t) (drop-drop (length first) place text)
    ∙ ap (λ t. first ++ t) two

-- so many bytes were taken beyond those that were held before
abbrev pub taken_by : ScannerState → ℕ → ScannerState → ℕ
taken_by t len s = len + length s.held - length t.held

-- what was held is among the bytes that were passed over, with what is held then
pub held_within : (t s : ScannerState) (bytes : List ℕ) (before len : ℕ) → PassesPieceLines t bytes before len s → length t.held ≤ len + length s.held
held_within t s bytes before zero p = let held = ap (λ (x : ScannerState). length x.held) (p.same refl) in omega (arith, held)
held_within t s bytes before (suc n) p = let few = (p.stands (omega arith)).held in omega (arith, few)

pub len_within : (t s : ScannerState) (bytes : List ℕ) (before len : ℕ) → PassesPieceLines t bytes before len s → len ≤ length bytes
len_within t s bytes before zero p = omega arith
len_within t s bytes before (suc n) p = let room = (p.held (omega arith)).within in omega (arith, room)

-- lines are passed over that bind nothing
pub passes_lines : (old : PieceFinderState) (t : ScannerState) → BeginsLine old t → (s : ScannerState) (bytes : List ℕ) (before len : ℕ) (p : PassesPieceLines t bytes before len s) → skip_in old.position ≡ 0 → old.cursor.options.top_only ≡ false → BindNothing p.lines → PassesLines old (drop (length t.held) bytes) (taken_by t len s) (line_begun old s)
passes_lines old t b s bytes before len p fresh counts binds = gone_on old t b s (drop (length t.held) bytes) (taken_by t len s) (within len p) (omega (arith, p.place)) (let all = held_within t s bytes before len p in omega (arith, p.place, all)) p.others (by len p binds)
  where
    within : (n : ℕ) → PassesPieceLines t bytes before n s → taken_by t n s ≤ length (drop (length t.held) bytes)
    within zero q = let held = ap (λ (x : ScannerState). length x.held) (q.same refl) in omega (arith, held)
    within (suc n) q =
        let room = (q.held (omega arith)).within in
        omega (arith, room, length-drop (length t.held) bytes)

    by : (n : ℕ) (q : PassesPieceLines t bytes before n s) → BindNothing q.lines → (text : List ℕ) (values : List BindingValue) → HasFoundIn old text values → GoesOnWith text (fed_by old) (take (taken_by t n s) (drop (length t.held) bytes)) → IsBetweenLines s old.cursor text (skip_in old.position) values
    by zero q none text values h goes = subst (λ (x : ScannerState). IsBetweenLines x old.cursor text (skip_in old.position) values) (sym (q.same refl)) (begun_between old t b text values h)
    by (suc n) q none text values h goes =
        let between = begun_between old t b text values h in
        let lines = between.after.lines in
        let here = begun_scanning old t b text lines between.released in
        let some : 0 < suc n = omega arith in
        let all = held_within t s bytes before (suc n) q in
        let sum : length t.held + taken_by t (suc n) s ≡ suc n + length s.held = omega (arith, all) in
        let joined = goes_both text t.place t.held (take (taken_by t (suc n) s) (drop (length t.held) bytes)) here.held (subst (λ (k : ℕ). GoesOnWith text k (take (taken_by t (suc n) s) (drop (length t.held) bytes))) (begun_fed old t b) goes) in
        let spell : t.held ++ take (taken_by t (suc n) s) (drop (length t.held) bytes) ≡ take (suc n) bytes ++ s.held =
        ap (λ u. u ++ take (taken_by t (suc n) s) (drop (length t.held) bytes)) (sym (q.began some)) ∙ sym (take-add (length t.held) (taken_by t (suc n) s) bytes) ∙ ap (λ (k : ℕ). take k bytes) sum ∙ (q.held some).next in
        let scanning = (q.scans some text lines here (subst (GoesOnWith text t.place) spell joined)).0 in
        passed_between t s old.cursor text (skip_in old.position) values q.lines between fresh counts (none text s.place s.line lines scanning.first) scanning

-- the lines that a scanner passes over before an import statement may begin bind nothing
pub passed_bind : ((lines : List LogicalLine) → LieWithoutImport lines → BindAll lines []) → (piece : List ℕ) (start stop len : ℕ) (lines : List LogicalLine)
    → NoImportBegins piece start stop → start ≤ length piece → start + len ≤ stop → len ≤ length (drop start piece) → flat_map (λ (line : LogicalLine). line.text) lines ≡ take len (drop start piece) → BindNothing lines
passed_bind law piece start stop len lines none within clear fits texts text place row before first =
    let size : len ≡ start + len - start = omega arith in
    law lines (record {
      text = text;
      place = place;
      row = row;
      before = before;
      first = first;
      part = piece;
      start = start;
      to = start + len;
      stop = stop;
      none = none;
      ordered = omega arith;
      clear = clear;
      within = omega (arith, within, fits, length-drop start piece);
      bytes = texts ∙ ap (λ k. take k (drop start piece)) size;
    })
