-- What stands at the next byte that isn't plain is passed, with the plain bytes before it.
use Rattle.py_lines.proofs.Prelude.{◌≡◌, ℕ, ◌+◌, ◌-◌, ◌<◌, ◌≤◌, ◌==◌, true, false, List, [], ◌∷◌, ◌++◌, length, take, drop, slice_index, refl, sym, ap, ◌∙◌, subst, arith, length-drop, get_or-drop, inl, take-append-drop, list_all, transport, ne_eqb, drop-drop, length-take-le, is_closing, is_opening, is_break, Frame, Marks, Passing, Scan}
use Rattle.py_lines.specs.declared.frames.Frame.TheVariants as frame
use Rattle.py_lines.specs.Private.Frames.{IsClosedBy, OpensFrame, has_field}
use Rattle.py_lines.specs.Private.LineEnds.{BeginsOuterEnd}
use Rattle.py_lines.specs.Private.Marks.{FindsNext, HasMarks, is_plain}
use Rattle.py_lines.specs.Private.Passing.{CountsOn, EndsAfter, PassesSo, PassesSpecial, StandsFree, line_end_special, passed_line_end, passed_to, with_frames}
use Rattle.py_lines.specs.Private.Scan.{Takes, passed}
use Rattle.py_lines.proofs.LineScan.AsciiRuns.{all_pass}
use Rattle.py_lines.proofs.FieldScans.PlainCode.{over_code}
use Rattle.py_lines.proofs.PassedPieces.Counts.{NoEnds, byte_counts, end_counts, plain_counts}
use Rattle.py_lines.proofs.PassedPieces.FirstBytes.{bytes_from}
use Rattle.py_lines.proofs.PassedPieces.Items.{Over, break_ends, break_over, closing_over, opening_over}
use Rattle.py_lines.proofs.PassedPieces.PlainBytes.{PlainTo, plain_run}

-- the bytes from one place to another, and those after it
pub cut : (bytes : List ℕ) (from at : ℕ) → from ≤ at → at < length bytes
    → drop from bytes ≡ take (at - from) (drop from bytes) ++ slice_index bytes at ∷ drop (at + 1) bytes
cut bytes from at more within =
    let there : from + (at - from) ≡ at = omega (arith, more) in
    sym (take-append-drop (at - from) (drop from bytes)) ∙ ap (λ x. take (at - from) (drop from bytes) ++ x)
    (drop-drop (at - from) from bytes ∙ ap (λ (n : ℕ). drop n bytes) there ∙ bytes_from bytes at within)

pub cut-length : (bytes : List ℕ) (from at : ℕ) → from ≤ at → at ≤ length bytes → length (take (at - from) (drop from bytes)) ≡ at - from
cut-length bytes from at more within = length-take-le (at - from) (drop from bytes) (omega (arith, more, within, length-drop from bytes))

-- which are plain, up to the next one that isn't
pub plain_between : (bytes : List ℕ) (from at : ℕ) (marks : Marks) → FindsNext bytes from at marks → (to : ℕ) → from ≤ to → to ≤ at
    → list_all is_plain (take (to - from) (drop from bytes)) ≡ true
plain_between bytes from at marks next to more upto =
    all_pass is_plain (drop from bytes) (to - from) (omega (arith, more, upto, next.within, length-drop from bytes))
    (λ i less. ap is_plain (get_or-drop from bytes i 0) ∙ next.plain (from + i) (omega arith) (omega (arith, less, upto)))

module _ (bytes : List ℕ) (at : ℕ) (old : Passing) (next : FindsNext bytes old.all at old.marks) (within : at < length bytes) where
  abbrev run : List ℕ
  run = take (at - old.all) (drop old.all bytes)

  abbrev first : ℕ
  first = slice_index bytes at

  abbrev after : List ℕ
  after = drop (at + 1) bytes

  abbrev special : is_plain first ≡ false
  special = next.special within

  seen : run ++ first ∷ after ≡ drop old.all bytes
  seen = sym (cut bytes old.all at next.after within)

  run-length : length run ≡ at - old.all
  run-length = cut-length bytes old.all at next.after next.within

  plain_to : (start : ℕ) (b : List Frame) (scan : Scan) → StandsFree start b scan → PlainTo scan run
  plain_to start b scan stands =
      plain_run scan run stands.mode (ap has_field stands.frames ∙ stands.outside) (plain_between bytes old.all at old.marks next at next.after (omega arith))

  run_counted : NoEnds bytes old.all at
  run_counted = plain_counts bytes old.all at next.after next.within next.plain

  -- the line ends of the bytes from there on are counted
  abbrev Counted : Passing → Type 0
  Counted new = CountsOn bytes (record old { all = at }) new

  -- so many bytes more are passed
  passes_so : (new : Passing) (b c : List Frame) (k place : ℕ) → 0 < k → at + k ≤ length bytes → new.all ≡ at + k → new.lines ≡ old.lines
      → Counted new → HasMarks bytes new.all new.marks → (has_field b ≡ false → has_field c ≡ false)
      → ((scan : Scan) (p : PlainTo scan run) → (over_code scan run).frames ≡ b → (over_code scan run).stop ≡ place
      → Over p first after special k c) → PassesSo bytes at place old b new c
  passes_so new b c k place some room all lines counted marked outside on =
      record {
        further = omega (arith, all, some);
        within = omega (arith, all, room);
        lines = lines;
        counted = omega (arith, counted, run_counted);
        marked = marked;
        outside = outside;
        over = λ start there scan stands.
            let p = plain_to start b scan stands in
            let size : length run + k ≡ new.all - old.all = omega (arith, all, run-length, next.after) in
            transport (λ i. Takes scan (seen i) (size i) (passed (with_frames scan c) (size i)))
            (on scan p (p.frames ∙ stands.frames) (omega (arith, p.stop, there, stands.stop, run-length)));
      }

  -- a bracket
  pub opening_passed : (m : Marks) (b c : List Frame) (place : ℕ) → HasMarks bytes (at + 1) m → is_opening first ≡ true
      → OpensFrame b (frame.Bracket first place) true c → PassesSo bytes at place old b (passed_to old (at + 1) old.ends m) c
  unfolding is_opening
  opening_passed m b c place marked opening met =
      passes_so _ b c 1 place (omega arith) (omega (arith, within)) refl refl
      (ap (λ n. old.ends + n) (byte_counts is_opening refl bytes at within opening)) marked (λ outside. ap has_field met.1 ∙ outside)
      (λ scan p frames there. opening_over p first after special c opening (rw (frames, there) met))

  pub closing_passed : (m : Marks) (b c : List Frame) (place : ℕ) → HasMarks bytes (at + 1) m → is_closing first ≡ true
      → IsClosedBy b first c → PassesSo bytes at place old b (passed_to old (at + 1) old.ends m) c
  unfolding is_closing
  closing_passed m b c place marked closing met =
      passes_so _ b c 1 place (omega arith) (omega (arith, within)) refl refl
      (ap (λ n. old.ends + n) (byte_counts is_closing refl bytes at within closing)) marked (λ outside. sym (ap has_field met.2) ∙ outside)
      (λ scan p frames there. closing_over p first after special c closing (rw frames met))

  -- a piece after which the same frames are open
  pub passes_same : (new : Passing) (b : List Frame) (k place : ℕ) → 0 < k → at + k ≤ length bytes → new.all ≡ at + k → new.lines ≡ old.lines
      → Counted new → HasMarks bytes new.all new.marks
      → ((scan : Scan) (p : PlainTo scan run) → (over_code scan run).frames ≡ b → Over p first after special k (over_code scan run).frames)
      → PassesSo bytes at place old b new b
  passes_same new b k place some room all lines counted marked on =
      passes_so new b b k place some room all lines counted marked (λ outside. outside)
      (λ scan p frames there. subst (Over p first after special k) frames (on scan p frames))

  -- a line end, by whether something is open
  module _ (len : ℕ) (ends : is_break first ≡ true) (begins : BeginsOuterEnd (drop at bytes) len) (m : Marks)
      (marked : HasMarks bytes (at + len) m) (place : ℕ) where
    there : BeginsOuterEnd (first ∷ after) len
    there = subst (λ xs. BeginsOuterEnd xs len) (bytes_from bytes at within) begins

    room : at + len ≤ length bytes
    room = omega (arith, begins.within, length-drop at bytes, within)

    counted : Counted (record old { all = at + len; ends = old.ends + 1 })
    counted = omega (arith, end_counts bytes at len begins)

    pub line_end_passed : (b : List Frame)
        → PassesSpecial bytes at place old b (line_end_special b len) (passed_line_end b (record old { marks = m }) (at + len)) b
    line_end_passed [] = record {
      all = refl;
      within = room;
      lines = refl;
      counted = omega (arith, counted, run_counted);
      marked = marked;
      some = begins.some;
      frames = refl;
      over = λ start scan stands.
          let p = plain_to start [] scan stands in let frames = p.frames ∙ stands.frames in
          let size : length run + len ≡ at + len - old.all = omega (arith, run-length, next.after) in
          transport (λ i. EndsAfter scan (seen i) (run-length i) len (passed (with_frames scan (frames i)) (size i)))
          (break_ends p first after special len ends there (ap (λ (fs : List Frame). length fs == 0) frames));
    }
    line_end_passed (f ∷ fs) =
        let some : length (f ∷ fs) == 0 ≡ false = ne_eqb _ 0 (λ none. absurd (omega (arith, none))) in
        passes_same _ (f ∷ fs) len place begins.some room refl refl counted marked
        (λ scan p frames. break_over p first after special len ends there (ap (λ (fs : List Frame). length fs == 0) frames ∙ some))

-- LF is a line end
pub feed_begins : (bytes : List ℕ) (at : ℕ) → at < length bytes → slice_index bytes at ≡ 10 → BeginsOuterEnd (drop at bytes) 1
feed_begins bytes at within is = rw (bytes_from bytes at within, is) (record { some = omega arith; within = omega arith; is = inl (false, refl) })
