-- Lines that end with LF are passed, up to another byte that isn't plain.
use Rattle.py_lines.proofs.Prelude.{◌⊎◌, ◌≡◌, ℕ, suc, ◌+◌, ◌-◌, ◌<◌, ◌≤◌, ◌==◌, false, inl, inr, List, [], ◌∷◌, ◌++◌, length, take, drop, slice_index, refl, sym, ap, ◌∙◌, subst, arith, length-drop, get_or-drop, transport, ne_eqb, Frame, Passing, Scan}
use Rattle.py_lines.specs.Private.LineEnds.{BeginsOuterEnd}
use Rattle.py_lines.specs.Private.Marks.{ArePlain, EndInFeed, is_plain}
use Rattle.py_lines.specs.Private.Passing.{EndsAfter, FindsSpecial, IsCounted, lines_with}
use Rattle.py_lines.specs.Private.Scan.{Takes}
use Rattle.py_lines.proofs.FieldScans.LineEnds.{feed_breaks}
use Rattle.py_lines.proofs.FieldScans.PlainCode.{over_code}
use Rattle.py_lines.proofs.FieldScans.Taking.{free_at}
use Rattle.py_lines.proofs.LineScan.AsciiRuns.{all_pass}
use Rattle.py_lines.proofs.LineScan.WholeLines.{HasPassedLines, HavePassed, ends_there, goes_on, here, left}
use Rattle.py_lines.proofs.PassedPieces.LineFeeds.{feeds_over, lines_again}
use Rattle.py_lines.proofs.PassedPieces.Items.{break_ends, break_over}
use Rattle.py_lines.proofs.PassedPieces.Passed.{cut, cut-length}
use Rattle.py_lines.proofs.PassedPieces.PlainBytes.{PlainTo, plain_run}
use Rattle.py_lines.proofs.SpecialBytes.Places.{ends_special}

-- over plain bytes and LF
module _ (bytes : List ℕ) (lines all at : ℕ) (more : all ≤ at) (within : at < length bytes) (plain : ArePlain bytes all at)
    (feed : slice_index bytes at ≡ 10) where
  abbrev run : List ℕ
  run = take (at - all) (drop all bytes)

  abbrev after : List ℕ
  after = drop (at + 1) bytes

  seen : run ++ 10 ∷ after ≡ drop all bytes
  seen = ap (λ b. run ++ b ∷ after) (sym feed) ∙ sym (cut bytes all at more within)

  size : length run ≡ at - all
  size = cut-length bytes all at more (omega (arith, within))

  begins : BeginsOuterEnd (10 ∷ after) 1
  begins = record { some = omega arith; within = omega arith; is = inl (false, refl) }

  plain_to : {fs : List Frame} (on : HavePassed bytes fs lines all) → PlainTo (here on) run
  plain_to on = plain_run (here on) run refl on.outside (all_pass is_plain (drop all bytes) (at - all) (omega (arith, within, length-drop all bytes))
      (λ i less. let before : all + i < at = omega (arith, less, more) in
      ap is_plain (get_or-drop all bytes i 0) ∙ plain (all + i) (omega arith) before (omega (arith, before, within))))

  one_feed : (fs : List Frame) → HavePassed bytes fs lines all → HavePassed bytes fs (lines_with fs lines (at + 1)) (at + 1)
  one_feed [] on =
      let p = plain_to on in
      let new : Scan = free_at (over_code (here on) run).frames (all - lines + (length run + 1)) in
      let there : at + 1 ≡ lines + new.stop = omega (arith, size, more, on.before) in
      ends_there on (length run) 1 (at + 1) new (subst (λ xs. EndsAfter (here on) xs (length run) 1 new) seen
      (break_ends p 10 after ends_special.0 1 feed_breaks.0 begins (ap (λ (fs : List Frame). length fs == 0) p.frames))) there
  one_feed (f ∷ fs) on =
      let p = plain_to on in
      let some : suc (length fs) == 0 ≡ false = ne_eqb (suc (length fs)) 0 (λ none. omega (arith, none)) in
      goes_on on (f ∷ fs) (length run + 1) (at + 1) (omega (arith, size, more)) on.outside
      (transport (λ i. Takes (here on) (seen i) (length run + 1) (free_at (p.frames i) (all - lines + (length run + 1))))
      (break_over p 10 after ends_special.0 1 feed_breaks.0 begins (ap (λ (fs : List Frame). length fs == 0) p.frames ∙ some)))

-- and over all LF up to `to`
pub feeds_passed : {bytes : List ℕ} (fs : List Frame) {from to : ℕ} → EndInFeed bytes from to → (lines : ℕ) → HavePassed bytes fs lines from
    → HavePassed bytes fs (lines_with fs lines to) to
feeds_passed {bytes} fs ends lines on = feeds_over ends Before After (λ n. inr) one (inl on) where
  After : ℕ → Type 0
  After n = HavePassed bytes fs (lines_with fs lines n) n

  Before : ℕ → Type 0
  Before n = HavePassed bytes fs lines n ⊎ After n

  one : (all at : ℕ) → all ≤ at → at < length bytes → ArePlain bytes all at → slice_index bytes at ≡ 10 → Before all → After (at + 1)
  one all at more within plain feed (inl first) = one_feed bytes lines all at more within plain feed fs first
  one all at more within plain feed (inr later) =
      subst (λ k. HavePassed bytes fs k (at + 1)) (lines_again fs lines all (at + 1)) (one_feed bytes _ all at more within plain feed fs later)

lines_more : (fs : List Frame) (lines to : ℕ) → lines ≤ to → lines ≤ lines_with fs lines to
lines_more [] lines to more = more
lines_more (f ∷ fs) lines to more = omega arith

-- so the next byte that isn't plain is found
pub record FindsOn (bytes : List ℕ) (fs : List Frame) (p : Passing) (at : ℕ) (q : Passing) : Type 0 where
  pub on : HasPassedLines bytes fs at q
  pub further : left bytes q ≤ left bytes p

pub finds_on : {bytes : List ℕ} {fs : List Frame} {p q : Passing} {at : ℕ} → HavePassed bytes fs p.lines p.all → IsCounted bytes p
    → FindsSpecial bytes fs p at q → FindsOn bytes fs p at q
finds_on {bytes} {fs} {p} {q} have counted finds = elim finds.passes [
  | inl same ↦
      let all = ap (λ (r : Passing). r.all) (sym same) in let lines = ap (λ (r : Passing). r.lines) (sym same) in
      record {
        on = record {
          have = transport (λ i. HavePassed bytes fs (lines i) (all i)) have;
          counted = subst (IsCounted bytes) (sym same) counted;
          next = finds.next;
        };
        further = omega (arith, all, lines);
      }
  | inr (ends, more, same) ↦
      let lines = ap (λ (r : Passing). r.lines) (sym same) in
      record {
        on = record { have = subst (λ n. HavePassed bytes fs n q.all) lines (feeds_passed fs ends p.lines have); counted = more ∙ counted; next = finds.next };
        further = omega (arith, ends.further, lines, lines_more fs p.lines q.all (omega (arith, have.before, ends.further)));
      }
]
