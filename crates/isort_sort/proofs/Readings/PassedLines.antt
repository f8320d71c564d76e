-- Lines that were passed over without their tokens bind nothing and say nothing, so they are read.
use Rattle.std.proofs.Common.{◌≡◌, ℕ, ◌+◌, ◌<◌, ◌≤◌, false, List, [], ◌∷◌, ◌++◌, length, refl, sym, ap, ◌∙◌, subst, arith}
use Rattle.py_lines.specs.LogicalLine.{LogicalLine}
use Rattle.py_lines.specs.Reader.{Reader, PassesLine, PassesLines}
use Rattle.std.specs.List.{list_any}
use Rattle.std.proofs.lemmas.Bool.{or_parts}
use Rattle.py_imports.specs.BindingValue.{BindingValue}
use Rattle.py_imports.specs.Binds.{Binds, BindAll}
use Rattle.py_imports.specs.Shape.{begins_so}
use Rattle.isort_sort.specs.Private.Markers.{HoldsBytesAt, IsSilentBetween}
use Rattle.isort_sort.specs.Private.Reading.{IsKnown, MayPass, stop_of}
use Rattle.isort_sort.specs.declared.read.LineReader.{LineReader}
use Rattle.isort_sort.proofs.Readings.Passing.{passed_on, passed_to}
use Rattle.isort_sort.proofs.Readings.ReadSoFar.{known_on, stands_after}
use Rattle.isort_sort.proofs.Rows.Markers.{later_silence, slice_stands, stays_silent}
use Rattle.isort_sort.proofs.Rows.Silence.{silent_actions}
use Rattle.isort_sort.proofs.Rows.Texts.{given_place}

-- the reader after lines up to this byte, which no block takes in
abbrev pub moved : LineReader → ℕ → LineReader
moved r stop = record r { blocks = passed_to stop r.blocks }

-- lines that are passed end no earlier than they begin, and the text stays
pub later_place : (lines : List LogicalLine) (before after : Reader) → PassesLines before lines after → before.place ≤ after.place
later_place [] before after passes = omega (arith, ap (λ (r : Reader). r.place) passes)
later_place (line ∷ lines) before after (mid, passes, others) = omega (arith, passes.continues.place, later_place lines mid after others)

pub same_text : (lines : List LogicalLine) (before after : Reader) → PassesLines before lines after → after.text ≡ before.text
same_text [] before after passes = ap (λ (r : Reader). r.text) passes
same_text (line ∷ lines) before after (mid, passes, others) = same_text lines mid after others ∙ passes.continues.text

-- where the finder stands, the reader does
same_place : (reader : Reader) (r : LineReader) → IsKnown reader r → r.blocks.place ≡ reader.place
same_place reader r known = known.so_far.place ∙ sym (given_place reader known.given known.are_given)

-- no bindings in two parts
no_first : (first others : List BindingValue) → [] ≡ first ++ others → first ≡ []
no_first [] others e = refl
no_first (b ∷ bs) others e = absurd cc

no_others : (first others : List BindingValue) → [] ≡ first ++ others → others ≡ []
no_others [] others e = sym e
no_others (b ∷ bs) others e = absurd cc

module _ (stop : ℕ) where
  -- one line
  one_passed : (before mid : Reader) (old : LineReader) (line : LogicalLine) → PassesLine before line mid → mid.place ≤ stop → Binds line [] → begins_so line ≡ false → IsSilentBetween before.text before.place stop → MayPass old → IsKnown before old → IsKnown mid (moved old mid.place)
  one_passed before mid old line passes within binds begins silent may known =
      let on = passes.continues in
      let stands : HoldsBytesAt before.text line.text before.place = subst (λ (t : List ℕ). HoldsBytesAt before.text t before.place) (sym passes.text) (slice_stands before.text before.place mid.place (omega (arith, on.place)) (omega (arith, on.within, ap length on.text))) in
      let ends : before.place + length line.text ≤ stop = omega (arith, within, on.place) in
      let here : stop_of line ≡ mid.place = omega (arith, on.place, stands_after before mid known.given line on known.are_given, given_place before known.given known.are_given) in
      subst (λ n. IsKnown mid (moved old n)) here
      (known_on before mid old (moved old (stop_of line)) line [] on binds (passed_on line old passes.utf8 (silent_actions line (stays_silent before.text line.text before.place stop stands silent ends)) begins may) known)

  -- and those after it
  pub all_passed : (lines : List LogicalLine) (before after : Reader) (old : LineReader) → PassesLines before lines after → (before.place < after.place → after.place ≤ stop) → BindAll lines [] → list_any begins_so lines ≡ false → IsSilentBetween before.text before.place stop → MayPass old → IsKnown before old → IsKnown after (moved old after.place)
  all_passed [] before after old passes within bind begins silent may known =
      let same = same_place before old known in
      subst (λ (r : Reader). IsKnown r (moved old r.place)) (sym passes) (subst (λ (r : LineReader). IsKnown before r) (λ i. record old { blocks = record old.blocks { place = same i } }) known)
  all_passed (line ∷ lines) before after old (mid, passes, others) within (first, later, e, binds, bind) begins silent may known =
      let on = passes.continues in
      let after_mid = later_place lines mid after others in
      let room : after.place ≤ stop = within (omega (arith, on.place, on.some_text, after_mid)) in
      let rest : IsSilentBetween mid.text mid.place stop = subst (λ (t : List ℕ). IsSilentBetween t mid.place stop) (sym on.text) (later_silence before.text before.place stop mid.place silent (omega (arith, on.place))) in
      let neither = or_parts (begins_so line) (list_any begins_so lines) begins in
      all_passed lines mid after (moved old mid.place) others (λ more. room) (subst (BindAll lines) (no_others first later e) bind) neither.1 rest may
      (one_passed before mid old line passes (omega (arith, after_mid, room)) (subst (Binds line) (no_first first later e) binds) neither.0 silent may known)
