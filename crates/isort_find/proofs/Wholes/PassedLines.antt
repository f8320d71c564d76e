-- A finder that has the whole text passes over logical lines that bind nothing.
use Rattle.std.proofs.Common.{◌≡◌, ℕ, ◌≤◌, Bool, true, false, nat_lt, List, [], ◌∷◌, ◌++◌, length, refl, sym, ap, ◌∙◌, subst, append_assoc, arith}
use Rattle.std.proofs.lemmas.Bool.{ltb-true, ltb-false}
use Rattle.py_lines.specs.Given.{AreFirstLines}
use Rattle.py_lines.specs.LogicalLine.{LogicalLine}
use Rattle.py_lines.specs.Lines.{PassesUpTo}
use Rattle.py_lines.specs.Reader.{Reader, HasGiven, PassesLines}
use Rattle.py_imports.specs.Binds.{BindAll}
use Rattle.py_imports.specs.FirstWords.{NoImportBegins}
use Rattle.isort_find.specs.Cursor.{HasStopped, IsAfter}
use Rattle.isort_find.specs.Finder.{FinderState, finder_state, finder_text, options_of}
use Rattle.isort_find.specs.Position.{phase_in, skip_in, is_unread}
use Rattle.isort_find.specs.Private.FinderSteps.{StandsBefore}
use Rattle.isort_find.specs.Private.Walks.{after_line}
use Rattle.isort_find.specs.declared.walker.Position.{Position}
use Rattle.isort_find.specs.declared.walker.Phase.TheVariants as phase
use Rattle.isort_find.specs.declared.walker.Position.TheVariants as position
use Rattle.isort_find.proofs.Finds.NextLines.{reader_is}
use Rattle.isort_find.proofs.Finds.PassedOn.{after_passed}
use Rattle.isort_find.proofs.Finds.SettledFound.{append-nil-lines}
use Rattle.isort_find.proofs.Wholes.ReadLine.{before_line, bytes_read}

-- where the line read last is left
pub left_position : (s : Position) → phase_in s ≡ phase.Open → is_unread s ≡ false → skip_in s ≡ 0 → after_line s ≡ position.Between 0
left_position (position.Between skip) opened read fresh = ap (λ n. position.Between n) fresh
left_position (position.Unread start skip) opened read fresh = absurd cc
left_position (position.Within pending) opened read fresh = refl
left_position (position.End passed) opened read fresh = absurd cc
left_position (position.Fault fault) opened read fresh = absurd cc

-- lines that are passed end no earlier than they begin
place_grows : (lines : List LogicalLine) (before after : Reader) → PassesLines before lines after → before.place ≤ after.place
place_grows [] before after passes = omega (arith, ap (λ (r : Reader). r.place) passes)
place_grows (line ∷ lines) before after (mid, passes, others) = omega (arith, passes.continues.place, place_grows lines mid after others)

-- they are passed in one text
pub passed_text : (lines : List LogicalLine) (before after : Reader) → PassesLines before lines after → after.text ≡ before.text
passed_text [] before after passes = ap (λ (r : Reader). r.text) passes
passed_text (line ∷ lines) before after (mid, passes, others) = passed_text lines mid after others ∙ passes.continues.text

-- they are given after those before
passed_given : (lines given : List LogicalLine) (before after : Reader) → PassesLines before lines after → HasGiven before given → HasGiven after (given ++ lines)
passed_given [] given before after passes h = subst (λ (r : Reader). HasGiven r (given ++ [])) (sym passes) (subst (HasGiven before) (sym (append-nil-lines given)) h)
passed_given (line ∷ lines) given before after (mid, passes, others) h = subst (HasGiven after) (append_assoc given (line ∷ []) lines) (passed_given lines (given ++ line ∷ []) mid after others (passes.continues.given given h))

-- the search begins where the reader stands, which is in the text
pub from_place : (text : List ℕ) (start stop place : ℕ) → (place ≤ length text → start ≡ place) → stop ≤ length text → NoImportBegins text start stop → NoImportBegins text place stop
from_place text start stop place same within none = by (nat_lt (length text) place) refl
  where
    by : (b : Bool) → nat_lt (length text) place ≡ b → NoImportBegins text place stop
    by true e = λ k above below. absurd (omega (arith, ltb-true (length text) place e, above, below, within))
    by false e = subst (λ (n : ℕ). NoImportBegins text n stop) (same (ltb-false (length text) place e)) none

-- lines are passed over that bind nothing, after those that were given
pub passes_lines : (f : FinderState) (stop len : ℕ) (r : Reader) (p : PassesUpTo f.reader stop len r) → ((given : List LogicalLine) → HasGiven f.reader given → BindAll p.lines [])
    → (options_of f).top_only ≡ false → skip_in f.position ≡ 0 → StandsBefore f f → StandsBefore f (finder_state r (position.Between 0) f.cursor)
passes_lines f stop len r p binds counts fresh b =
    let grows = place_grows p.lines f.reader r p.passes in
    let same = passed_text p.lines f.reader r p.passes in
    let size = bytes_read f.position (length (finder_text f)) f.reader.place b.read in
    let none = ap length b.none in
    record {
      found = λ values h.
          let q = before_line f.reader f.position f.cursor values b.is_open b.none b.read h in
          let given = subst (λ (x : Reader). HasGiven x q.after.lines) (sym (reader_is f.reader q.no_fault)) q.after.given in
          let all = passed_given p.lines q.after.lines f.reader r p.passes given in
          let first = subst (λ (t : List ℕ). AreFirstLines t r.place r.line (q.after.lines ++ p.lines)) same all.first in
          let after = after_passed (finder_text f) (options_of f) f.reader.place f.reader.line (skip_in f.position) values q.after fresh counts p.lines (binds q.after.lines given) r.place r.line first in
          record {
            stopped = subst (λ (t : List ℕ). HasStopped t f.cursor values) (sym same) h.stopped;
            reached = record { no_fault = all.no_fault; after = subst (λ (t : List ℕ). IsAfter t (options_of f) r.place r.line 0 values) (sym same) (subst (λ (n : ℕ). IsAfter (finder_text f) (options_of f) r.place r.line n values) fresh after) };
          };
      is_open = refl;
      none = refl;
      read = refl;
      text = same;
      cursor = refl;
      falls = omega (arith, size, none, grows, ap length same);
    }
