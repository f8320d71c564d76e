-- Where a word stands in a text, and the lines in which it stands nowhere.
use Rattle.std.proofs.Common.{◌≡◌, ℕ, ◌+◌, ◌-◌, ◌≤◌, None, Some, List, ◌++◌, length, take, drop, slice_range, get_or-drop, codes, sym, ap, ◌∙◌, subst, append_assoc, arith, length-append, length-drop}
use Rattle.std.proofs.lemmas.List.{length-take-le, take-append-drop, take_all}
use Rattle.std.proofs.lemmas.List.Folds.{drop_split}
use Rattle.std.proofs.Math.Seq.{drop-append_seam, take-append_seam}
use Rattle.std.specs.Prelude.{slice_index}
use Rattle.memchr.specs.Find.{FindsNeedle, OccursAt, Nowhere}
use Rattle.memchr.proofs.lemmas.MatchLemmas.{OccursAt-from_part}
use Rattle.py_imports.specs.FirstWords.{NoImportBegins}
use Rattle.isort_sort.specs.Private.Actions.{IsSilent}
use Rattle.isort_sort.specs.Private.Markers.{HoldsBytesAt, IsFree, IsSilentBetween}

-- the rest of a text
rest_is : (text : List ℕ) (start : ℕ) → slice_range text start (length text) ≡ drop start text
rest_is text start = take_all (length text - start) (drop start text) (omega (arith, length-drop start text))

-- a byte of the rest of a text
in_rest : (text : List ℕ) (start place : ℕ) → start ≤ place → slice_index (slice_range text start (length text)) (place - start) ≡ slice_index text place
in_rest text start place low =
    let same : start + (place - start) ≡ place = omega (arith, low) in
    ap (λ rest. slice_index rest (place - start)) (rest_is text start) ∙ get_or-drop start text (place - start) 0 ∙ ap (λ i. slice_index text i) same

-- `isort:` begins nowhere in a part of a silence
pub later_silence : (text : List ℕ) (start stop from : ℕ) → IsSilentBetween text start stop → start ≤ from → IsSilentBetween text from stop
later_silence text start stop from silent low = λ k above below. silent k (omega (arith, low, above)) below

-- as much as is free of both
pub both_free : (text : List ℕ) (start imports actions before : ℕ) → NoImportBegins text start imports → IsSilentBetween text start actions → before ≤ imports → before ≤ actions → IsFree text start before
both_free text start imports actions before none silent less few = ((λ k above below. none k above (omega (arith, below, less))), (λ k above below. silent k above (omega (arith, below, few))))

-- a word between two texts
between : (before word after : List ℕ) → OccursAt (before ++ (word ++ after)) word (length before)
between before word after =
    OccursAt-from_part (before ++ (word ++ after)) word (length before)
    (omega (arith, length-append before (word ++ after), length-append word after))
    (ap (take (length word)) (drop-append_seam before (word ++ after)) ∙ take-append_seam word after)

-- bytes that end before the next `isort:` do not hold it
pub stays_silent : (text bytes : List ℕ) (start stop : ℕ) → HoldsBytesAt text bytes start → IsSilentBetween text start stop → start + length bytes ≤ stop → IsSilent bytes
stays_silent text bytes start stop stands silent within = λ a b e.
    let word = codes "isort:" in
    let rest = b ++ stands.after in
    let split : text ≡ (stands.before ++ a) ++ (word ++ rest) =
    stands.whole
    ∙ ap (λ t. stands.before ++ (t ++ stands.after)) e
    ∙ ap (λ t. stands.before ++ t) (append_assoc a (word ++ b) stands.after ∙ ap (λ t. a ++ t) (append_assoc word b stands.after))
    ∙ sym (append_assoc stands.before a (word ++ rest)) in
    let place = stands.place in
    let before : length (stands.before ++ a) ≡ length stands.before + length a = length-append stands.before a in
    let len : length bytes ≡ length a + (length word + length b) = ap length e ∙ length-append a (word ++ b) ∙ ap (λ n. length a + n) (length-append word b) in
    silent (length (stands.before ++ a)) (omega (arith, place, before)) (omega (arith, place, before, len, within)) (subst (λ t. OccursAt t word (length (stands.before ++ a))) (sym split) (between (stands.before ++ a) word rest))

-- the bytes of a text from one place up to another
pub slice_stands : (text : List ℕ) (start stop : ℕ) → start ≤ stop → stop ≤ length text → HoldsBytesAt text (slice_range text start stop) start
slice_stands text start stop ordered within = record {
  before = take start text;
  after = drop stop text;
  whole = sym (take-append-drop start text) ∙ ap (λ t. take start text ++ t) (drop_split text start stop ordered);
  place = length-take-le start text (omega (arith, ordered, within));
}

-- the bytes of a text from one place on up to the first place of a word, or to the text's end, where it begins nowhere
in_part : (text word : List ℕ) (start place : ℕ) → start ≤ place → OccursAt text word place → OccursAt (slice_range text start (length text)) word (place - start)
in_part text word start place low h =
    let same : start + (place - start) ≡ place = omega (arith, low) in
    record {
      fits = omega (arith, low, h.fits, ap (λ (rest : List ℕ). length rest) (rest_is text start), length-drop start text);
      reads = λ j less.
          let there : place - start + j ≡ (place + j) - start = omega (arith, low) in
          ap (slice_index (slice_range text start (length text))) there ∙ in_rest text start (place + j) (omega (arith, low)) ∙ h.reads j less;
    }

pub none_found : (text word : List ℕ) (start : ℕ) → start ≤ length text → FindsNeedle (slice_range text start (length text)) word 0 None → Nowhere (OccursAt text word) start (length text)
none_found text word start within none place low less h =
    none (place - start) (omega arith) (omega (arith, low, less, within, ap (λ (rest : List ℕ). length rest) (rest_is text start), length-drop start text)) (in_part text word start place low h)

pub first_found : (text word : List ℕ) (start len : ℕ) → FindsNeedle (slice_range text start (length text)) word 0 (Some len) → Nowhere (OccursAt text word) start (start + len)
first_found text word start len found place low less h =
    found.0.before (place - start) (omega arith) (omega (arith, low, less)) (in_part text word start place low h)
