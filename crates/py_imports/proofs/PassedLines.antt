-- Logical lines that a reader gives one after another are the last that were given, and their bytes are the text's.
use Rattle.std.proofs.Common.{◌≡◌, ℕ, ◌+◌, ◌-◌, ◌<◌, ◌≤◌, List, [], ◌∷◌, ◌++◌, length, take, drop, slice_range, refl, sym, ap, ◌∙◌, subst, append_assoc, append-nil, arith}
use Rattle.std.proofs.lemmas.List.{drop-drop}
use Rattle.std.proofs.Math.Seq.{take-add}
use Rattle.std.specs.List.{flat_map}
use Rattle.py_lines.specs.Given.{AreFirstLines}
use Rattle.py_lines.specs.LogicalLine.{LogicalLine}
use Rattle.py_lines.specs.Reader.{Reader, HasGiven, PassesLines}
use Rattle.py_imports.specs.FirstWords.{NoImportBegins, LieWithoutImport}

-- they end later than they begin, and no later than the text
place_grows : (lines : List LogicalLine) (before after : Reader) → PassesLines before lines after → before.place + length lines ≤ after.place
place_grows [] before after passes = omega (arith, ap (λ (r : Reader). r.place) passes)
place_grows (line ∷ lines) before after (mid, passes, others) = omega (arith, passes.continues.place, passes.continues.some_text, place_grows lines mid after others)

passed_text : (lines : List LogicalLine) (before after : Reader) → PassesLines before lines after → after.text ≡ before.text
passed_text [] before after passes = ap (λ (r : Reader). r.text) passes
passed_text (line ∷ lines) before after (mid, passes, others) = passed_text lines mid after others ∙ passes.continues.text

passed_within : (lines : List LogicalLine) (before after : Reader) → PassesLines before lines after → before.place ≤ length before.text → after.place ≤ length after.text
passed_within [] before after passes within = subst (λ (r : Reader). r.place ≤ length r.text) (sym passes) within
passed_within (line ∷ lines) before after (mid, passes, others) within = passed_within lines mid after others passes.continues.within

-- they are given after those before
passed_given : (lines given : List LogicalLine) (before after : Reader) → PassesLines before lines after → HasGiven before given → HasGiven after (given ++ lines)
passed_given [] given before after passes h = subst (λ (r : Reader). HasGiven r (given ++ [])) (sym passes) (subst (HasGiven before) (sym (append-nil given)) h)
passed_given (line ∷ lines) given before after (mid, passes, others) h = subst (HasGiven after) (append_assoc given (line ∷ []) lines) (passed_given lines (given ++ line ∷ []) mid after others (passes.continues.given given h))

-- two parts of a text, one after the other
joined_slices : (text : List ℕ) (a b c : ℕ) → a ≤ b → b ≤ c → slice_range text a b ++ slice_range text b c ≡ slice_range text a c
joined_slices text a b c low high =
    let there : a + (b - a) ≡ b = omega (arith, low) in
    let size : b - a + (c - b) ≡ c - a = omega (arith, low, high) in
    ap (λ t. slice_range text a b ++ take (c - b) t) (ap (λ n. drop n text) (sym there) ∙ sym (drop-drop (b - a) a text)) ∙ sym (take-add (b - a) (c - b) (drop a text)) ∙ ap (λ n. take n (drop a text)) size

passed_bytes : (lines : List LogicalLine) (before after : Reader) → PassesLines before lines after → flat_map (λ (line : LogicalLine). line.text) lines ≡ slice_range before.text before.place after.place
passed_bytes [] before after passes = let none : 0 ≡ after.place - before.place = omega (arith, ap (λ (r : Reader). r.place) passes) in ap (λ n. take n (drop before.place before.text)) none
passed_bytes (line ∷ lines) before after (mid, passes, others) =
    let later = flat_map (λ (l : LogicalLine). l.text) lines in
    ap (λ t. t ++ later) passes.text
    ∙ ap (λ t. slice_range before.text before.place mid.place ++ t) (passed_bytes lines mid after others ∙ ap (λ t. slice_range t mid.place after.place) passes.continues.text)
    ∙ joined_slices before.text before.place mid.place after.place (omega (arith, passes.continues.place)) (omega (arith, place_grows lines mid after others))

-- so where no import statement begins before their end, they lie without one
pub passed_without : (before after : Reader) (given lines : List LogicalLine) (stop : ℕ) → HasGiven before given → PassesLines before lines after → NoImportBegins before.text before.place stop → (before.place < after.place → after.place ≤ stop) → LieWithoutImport lines
passed_without before after given [] stop h passes none clear = record {
  text = before.text;
  place = before.place;
  row = before.line;
  before = given;
  first = subst (AreFirstLines before.text before.place before.line) (sym (append-nil given)) h.first;
  part = [];
  start = 0;
  to = 0;
  stop = 0;
  none = λ k above below. absurd (omega (arith, below));
  ordered = omega arith;
  clear = omega arith;
  within = omega arith;
  bytes = refl;
}
passed_without before after given (line ∷ lines) stop h (mid, passes, others) none clear =
    let grows = place_grows lines mid after others in
    let on = passes.continues in
    let more : before.place < after.place = omega (arith, on.place, on.some_text, grows) in
    let whole = passed_given (line ∷ lines) given before after (mid, passes, others) h in
    let within = passed_within lines mid after others on.within in
    let same = passed_text lines mid after others ∙ on.text in
    record {
      text = after.text;
      place = after.place;
      row = after.line;
      before = given;
      first = whole.first;
      part = before.text;
      start = before.place;
      to = after.place;
      stop = stop;
      none = none;
      ordered = omega (arith, more);
      clear = clear more;
      within = omega (arith, within, ap length same);
      bytes = passed_bytes (line ∷ lines) before after (mid, passes, others);
    }
