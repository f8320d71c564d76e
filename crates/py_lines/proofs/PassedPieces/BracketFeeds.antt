-- LF in brackets are passed, up to another byte that isn't plain.
use Rattle.py_lines.proofs.Prelude.{◌≡◌, ℕ, ◌+◌, ◌-◌, ◌<◌, ◌≤◌, ◌==◌, false, inl, inr, List, ◌∷◌, ◌++◌, length, take, drop, slice_index, refl, sym, ap, ◌∙◌, subst, arith, length-drop, get_or-drop, transport, Frame, Passing, Scan, has_field}
use Rattle.py_lines.specs.Private.LineEnds.{BeginsOuterEnd}
use Rattle.py_lines.specs.Private.Marks.{ArePlain, is_plain}
use Rattle.py_lines.specs.Private.Passing.{FindsSpecial, IsCounted, PassesSo, with_frames}
use Rattle.py_lines.specs.Private.Scan.{Takes, passed}
use Rattle.py_lines.proofs.FieldScans.LineEnds.{feed_breaks}
use Rattle.py_lines.proofs.FieldScans.Taking.{free_at}
use Rattle.py_lines.proofs.LineScan.AsciiRuns.{all_pass}
use Rattle.py_lines.proofs.PassedPieces.Items.{break_over}
use Rattle.py_lines.proofs.PassedPieces.LineFeeds.{feeds_over}
use Rattle.py_lines.proofs.PassedPieces.Passed.{cut, cut-length}
use Rattle.py_lines.proofs.PassedPieces.Pieces.{HasPassed, takes_further, takes_so}
use Rattle.py_lines.proofs.PassedPieces.PlainBytes.{PlainTo, plain_run}
use Rattle.py_lines.proofs.SpecialBytes.Places.{ends_special}

module _ (old scan : Scan) (bytes : List ℕ) (outside : has_field scan.frames ≡ false) (some : length scan.frames == 0 ≡ false) where
  -- bytes were passed, up to this one
  abbrev To : ℕ → Type 0
  To n = Takes old bytes n (passed scan n)

  -- over plain bytes and LF
  one_feed : (all at : ℕ) → all ≤ at → at < length bytes → ArePlain bytes all at → slice_index bytes at ≡ 10 → To all → To (at + 1)
  one_feed all at more within plain feed takes =
      let run = take (at - all) (drop all bytes) in
      let after = drop (at + 1) bytes in
      let seen : run ++ 10 ∷ after ≡ drop all bytes = ap (λ b. run ++ b ∷ after) (sym feed) ∙ sym (cut bytes all at more within) in
      let size : length run ≡ at - all = cut-length bytes all at more (omega (arith, within)) in
      let begins : BeginsOuterEnd (10 ∷ after) 1 = record { some = omega arith; within = omega arith; is = inl (false, refl) } in
      let here : Scan = passed scan all in
      let p : PlainTo here run =
      plain_run here run refl outside (all_pass is_plain (drop all bytes) (at - all) (omega (arith, within, length-drop all bytes))
      (λ i less. let before : all + i < at = omega (arith, less, more) in
      ap is_plain (get_or-drop all bytes i 0) ∙ plain (all + i) (omega arith) before (omega (arith, before, within)))) in
      let len : length run + 1 ≡ at + 1 - all = omega (arith, size, more) in
      let far : scan.stop + all + (length run + 1) ≡ scan.stop + (at + 1) = omega (arith, size, more) in
      takes_further old here (passed scan (at + 1)) bytes all (at + 1) (omega (arith, more)) takes
      (transport (λ i. Takes here (seen i) (len i) (free_at (p.frames i) (far i)))
      (break_over p 10 after ends_special.0 1 feed_breaks.0 begins (ap (λ (fs : List Frame). length fs == 0) p.frames ∙ some)))

-- so the next byte that isn't plain is found, where something is open
module _ (old scan : Scan) (bytes : List ℕ) (at to : ℕ) (p q r : Passing) (c : List Frame) (on : HasPassed old bytes at scan p)
    (so : PassesSo bytes at (scan.stop + at) p scan.frames q c) (finds : FindsSpecial bytes c q to r) where
  pub finds_further : (at < to) × (to ≤ length bytes)
  finds_further = grind arith

  pub passes_feeds : length c == 0 ≡ false → IsCounted bytes q → HasPassed old bytes to (with_frames scan c) r × IsCounted bytes r
  passes_feeds some counted =
      let outside = so.outside on.outside in
      let there = takes_so old bytes at scan p on c q so in
      let (takes, all) : Takes old bytes r.all (passed (with_frames scan c) r.all) × IsCounted bytes r = elim finds.passes [
        | inl same ↦
            (subst (λ n. Takes old bytes n (passed (with_frames scan c) n)) (ap (λ (r : Passing). r.all) (sym same)) there, subst (IsCounted bytes) (sym same) counted)
        | inr (ends, more, same) ↦ (feeds_over ends _ (To old (with_frames scan c) bytes outside some) (λ _ on. on) (one_feed old (with_frames scan c) bytes outside some) there, more ∙ counted)
      ] in
      (record { same = ap (λ (s : Scan). with_frames s c) on.same; outside = outside; takes = takes; next = finds.next }, all)
