-- Pieces of a line that are passed one after another.
use Rattle.py_lines.proofs.Prelude.{◌≡◌, ℕ, ◌+◌, ◌-◌, ◌<◌, ◌≤◌, not, true, false, None, List, [], ◌∷◌, ◌++◌, length, take, drop, slice_index, refl, sym, ap, ◌∙◌, subst, arith, length-drop, get_or-drop, inl, inr, both_ways, cases_lt, eq-eqb, false_from_ne_true, drop-drop, get_or-take, length-take-le, take-append-drop, take-take, list_all, transport, is_space, Frame, Marks, Passing, Scan, OpenMode, is_ascii_word, has_field}
use Rattle.py_lines.specs.declared.mode.Mode.TheVariants as opens
use Rattle.py_lines.specs.Private.Marks.{FindsNext, is_plain}
use Rattle.py_lines.specs.Private.Passing.{EndsAfter, EndsLineSo, PassesSo, StandsFree, tail_of, with_frames}
use Rattle.py_lines.specs.declared.scan.Progress.TheVariants as progress
use Rattle.py_lines.specs.Private.Scan.{IsFirstByte, Steps, Takes, ends_before, passed}
use Rattle.py_lines.specs.Private.TakenPieces.{IsOperatorEnd, IsWordStart, TakesOn}
use Rattle.py_lines.proofs.FieldScans.PlainCode.{over_code, over_operator}
use Rattle.py_lines.proofs.FieldScans.Takes.{takes_on}
use Rattle.py_lines.proofs.FieldScans.Taking.{free_at}
use Rattle.py_lines.proofs.LineScan.AsciiRuns.{space-no_word, space_low}
use Rattle.py_lines.proofs.PassedPieces.Ends.{EndsBefore, passes_none, takes_ended}
use Rattle.py_lines.proofs.PassedPieces.Passed.{cut, cut-length, plain_between}
use Rattle.py_lines.proofs.PassedPieces.PlainBytes.{IsTail, PlainTo, others, plain_run}
use Rattle.py_lines.proofs.PassedPieces.WordsBefore.{none_before}
use Rattle.py_lines.proofs.Text.CharacterTests.{excluded}
use Rattle.py_lines.proofs.Text.FirstBytes.{first_other}

-- up to one byte, and from there on to another
pub takes_further : (old mid new : Scan) (bytes : List ℕ) (a b : ℕ) → a ≤ b → Takes old bytes a mid → Takes mid (drop a bytes) (b - a) new → Takes old bytes b new
takes_further old mid new bytes a b more takes others =
    let size : a + (b - a) ≡ b = omega (arith, more) in
    subst (λ (n : ℕ). Takes old bytes n new) size (takes_on old mid new bytes a (b - a) takes others)

-- space or no piece ends before a byte that is no space
no_space : (m : OpenMode) (b c : ℕ) → IsTail None m → is_space b ≡ false → IsFirstByte b c → ends_before m c ≡ true
no_space opens.Free b c tail other first = refl
no_space opens.Space b c tail other first =
    ap not (false_from_ne_true (is_space c) (λ space.
    both_ways _ (first_other b c c first (space_low c space) (λ same. both_ways _ other (ap is_space same ∙ space))) (eq-eqb c c refl)))
no_space m b c tail other first = absurd tail

ends_there : (scan : Scan) (b : ℕ) → IsTail None scan.mode → is_space b ≡ false → EndsBefore scan b
ends_there scan b tail other = grind (arith, no_space)

-- The scan, which stood before the bytes, has passed pieces of them, and the next byte that isn't plain stands at `at`. Only its frames are
-- kept.
pub record HasPassed (old : Scan) (bytes : List ℕ) (at : ℕ) (scan : Scan) (p : Passing) : Type 0 where
  pub same : scan ≡ with_frames old scan.frames
  pub outside : has_field scan.frames ≡ false
  pub takes : Takes old bytes p.all (passed scan p.all)
  pub next : FindsNext bytes p.all at p.marks

module _ (old : Scan) (bytes : List ℕ) (at : ℕ) (scan : Scan) (p : Passing) (on : HasPassed old bytes at scan p) where
  -- the scan as if it stood there
  abbrev here : Scan
  here = passed scan p.all

  stands : StandsFree (scan.stop + p.all) scan.frames here
  stands = record { mode = refl; stop = refl; frames = refl; outside = on.outside }

  -- after what was passed there
  pub takes_so : (c : List Frame) (q : Passing) → PassesSo bytes at (scan.stop + at) p scan.frames q c → Takes old bytes q.all (passed (with_frames scan c) q.all)
  takes_so c q so =
      let more : p.all ≤ q.all = omega (arith, on.next.after, so.further) in
      let far : scan.stop + p.all + (q.all - p.all) ≡ scan.stop + q.all = omega (arith, more) in
      let place : scan.stop + at ≡ scan.stop + p.all + (at - p.all) = omega (arith, on.next.after) in
      takes_further old here (passed (with_frames scan c) q.all) bytes p.all q.all more on.takes
      (subst (Takes here (drop p.all bytes) (q.all - p.all)) (ap (λ (n : ℕ). free_at c n) far) (so.over (scan.stop + p.all) place here stands))

  pub passes_next : (c : List Frame) (q : Passing) (to : ℕ) (marks : Marks) → PassesSo bytes at (scan.stop + at) p scan.frames q c
      → FindsNext bytes q.all to marks → HasPassed old bytes to (with_frames scan c) (record q { marks = marks })
  passes_next c q to marks so next = record {
    same = ap (λ (s : Scan). with_frames s c) on.same;
    outside = so.outside on.outside;
    takes = takes_so c q so;
    next = next;
  }

  -- after a line end that ends the line
  pub passes_line : (len : ℕ) (new : Scan) (q : Passing) (c : List Frame) → EndsLineSo bytes at p scan.frames len q c
      → new ≡ passed (with_frames scan c) q.all → EndsAfter old bytes at len new
  passes_line len new q c so set =
      let ended = so.over (scan.stop + p.all) here stands in
      let far : scan.stop + p.all + (q.all - p.all) ≡ scan.stop + q.all = omega (arith, on.next.after, so.all) in
      let size : p.all + (at - p.all) ≡ at = omega (arith, on.next.after) in
      let there = drop-drop (at - p.all) p.all bytes ∙ ap (λ (n : ℕ). drop n bytes) size in
      record {
        mid = ended.mid;
        takes = takes_further old here ended.mid bytes p.all at on.next.after on.takes ended.takes;
        ends = transport (λ i. Steps ended.mid (there i) (progress.LineEnded len) ((ap (λ (n : ℕ). free_at c n) far ∙ sym set) i)) ended.ends;
      }

  -- after so many plain bytes more
  pub passes_left : (k : ℕ) → k ≤ length (take (at - p.all) (drop p.all bytes)) → Takes here (drop p.all bytes) k (passed here k)
      → TakesOn bytes old 0 (passed scan (p.all + k)) (p.all + k)
  passes_left k fits takes =
      let far : scan.stop + p.all + k ≡ scan.stop + (p.all + k) = omega arith in
      let size : p.all + k ≡ p.all + k - 0 = omega arith in
      record {
        further = omega arith;
        within = omega (arith, fits, cut-length bytes p.all at on.next.after on.next.within, on.next.after, on.next.within);
        takes = transport (λ i. Takes old bytes (size i) (free_at scan.frames (far i))) (takes_on old here (passed here k) bytes p.all k on.takes takes);
      }

-- from where no piece is open and no field, over plain bytes
module _ (here : Scan) (free : here.mode ≡ opens.Free) (outside : has_field here.frames ≡ false) (bytes : List ℕ) (from at : ℕ) (marks : Marks)
    (next : FindsNext bytes from at marks) (k : ℕ) where
  abbrev plain : List ℕ
  plain = take (at - from) (drop from bytes)

  abbrev rest : List ℕ
  rest = drop from bytes

  none_left : k ≤ 0 → Takes here rest k (passed here k)
  none_left none = let same : 0 ≡ k = omega (arith, none) in subst (λ (n : ℕ). Takes here rest n (passed here n)) same (passes_none here rest free)

  module _ (fits : k ≤ length plain) where
    plain-length : length plain ≡ at - from
    plain-length = cut-length bytes from at next.after next.within

    abbrev run : List ℕ
    run = take k rest

    run-length : length run ≡ k
    run-length = length-take-le k rest (omega (arith, fits, plain-length, next.within, length-drop from bytes))

    same_run : take k plain ≡ run
    same_run = take-take k (at - from) rest (omega (arith, fits, plain-length))

    plain_to : PlainTo here run
    plain_to =
        let size : from + k - from ≡ k = omega arith in
        plain_run here run free outside (subst (λ (n : ℕ). list_all is_plain (take n rest) ≡ true) size
        (plain_between bytes from at marks next (from + k) (omega arith) (omega (arith, fits, plain-length, next.after))))

  -- up to an operator
  pub operator_left : IsOperatorEnd plain k → Takes here rest k (passed here k)
  operator_left ends = elim (cases_lt 0 k) [
    | inl some ↦
        let passes = ap (over_code here) (sym (same_run ends.0)) ∙ over_operator here plain k ends some in
        transport (λ i. Takes here (take-append-drop k rest i) (run-length ends.0 i) (passes i)) ((plain_to ends.0).takes (drop k rest))
    | inr none ↦ none_left none
  ]

  -- up to a word, or a byte that isn't plain
  module _ (within : at < length bytes) (start : IsWordStart plain k) where
    abbrev fits : k ≤ length plain
    fits = start.within

    abbrev b : ℕ
    b = slice_index bytes (from + k)

    no_word : tail_of (run fits) ≡ None
    no_word = ap tail_of (sym (same_run fits)) ∙ none_before plain k start

    no_space_there : is_space b ≡ false
    no_space_there = elim (cases_lt k (at - from)) [
      | inl less ↦
          let there : slice_index plain k ≡ b = get_or-take (at - from) rest k 0 less ∙ get_or-drop from bytes k 0 in
          excluded is_ascii_word is_space b (space-no_word b) (ap is_ascii_word (sym there) ∙ start.each k (omega arith) (omega (arith, less, plain-length fits)))
      | inr all_plain ↦
          let there : at ≡ from + k = omega (arith, all_plain, fits, plain-length fits, next.after) in
          ap (λ (n : ℕ). is_space (slice_index bytes n)) (sym there) ∙ (others (slice_index bytes at) (next.special within)).1
    ]

    pub word_left : Takes here rest k (passed here k)
    word_left = elim (cases_lt 0 k) [
      | inl some ↦
          let to = plain_to fits in let last : Scan = over_code here (run fits) in
          let size : from + k - from ≡ k = omega arith in let after = drop (from + k + 1) bytes in
          let upto : from + k < length bytes = omega (arith, fits, plain-length fits, next.after, within) in
          let split : run fits ++ b ∷ after ≡ rest = ap (λ (n : ℕ). take n rest ++ b ∷ after) (sym size) ∙ sym (cut bytes from (from + k) (omega arith) upto) in
          let far : last.stop + 0 ≡ here.stop + k = omega (arith, to.stop, run-length fits) in
          let tail : IsTail None last.mode = subst (λ o. IsTail o last.mode) no_word to.tail in
          let full : 0 < length (run fits) = omega (arith, run-length fits, some) in
          let ended = takes_ended here last b after (ends_there last b tail no_space_there) (run fits) full (to.takes []) in
          transport (λ i. Takes here (split i) (run-length fits i) (free_at (to.frames i) (far i))) ended
      | inr none ↦ none_left none
    ]
