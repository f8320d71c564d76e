-- A sorted text is made part by part.
use Rattle.std.proofs.Common.{Vec, Global, ◌≡◌, ℕ, ◌+◌, ◌-◌, ◌≤◌, List, [], ◌∷◌, ◌++◌, length, length-append, take, drop, map, refl, sym, ap, ◌∙◌, subst, append_assoc, append-nil, arith}
use Rattle.std.specs.Prelude.{slice_range}
use Rattle.std.specs.Str.{IsUtf8}
use Rattle.std.proofs.lemmas.List.{drop-drop}
use Rattle.std.proofs.lemmas.Str.{IsUtf8-nil, IsUtf8-append}
use Rattle.std.proofs.Math.Seq.{take-add}
use Rattle.isort_settings.specs.Values.{Values, values}
use Rattle.isort_sort.specs.Private.Arranged.{IsArranged, IsArranging}
use Rattle.isort_sort.specs.Blocks.{cut_rows}
use Rattle.isort_sort.specs.Private.Found.{Found, found_value}
use Rattle.isort_sort.specs.Private.LineEnd.{end_bytes}
use Rattle.isort_sort.specs.Private.Parts.{parts_left, HasMade}
use Rattle.isort_sort.specs.Private.Reading.{IsFoundIn}
use Rattle.isort_sort.specs.Sorted.{first_end, mark_of, texts_of, IsLaidOut}
use Rattle.isort_sort.specs.declared.parts.Parts.{Parts}
use Rattle.isort_sort.specs.declared.finder.FoundBlock.{FoundBlock}
use Rattle.isort_sort.specs.declared.read.FoundText.TheVariants as found_text
use Rattle.isort_sort.proofs.SortedTexts.Arranging.{part_between, begin_at, IsGap, next_gap, one_more, last_gap, all_written}
use Rattle.isort_sort.proofs.SortedTexts.SortedCuts.{some_sorted_cut}
use Rattle.isort_sort.proofs.Orders.Statements.{AreOrders}

-- what stands between two places, and then from there to a third
slices_join : (l : List ℕ) (i j k : ℕ) → i ≤ j → j ≤ k → slice_range l i j ++ slice_range l j k ≡ slice_range l i k
slices_join l i j k h g =
    let after : drop j l ≡ drop (j - i) (drop i l) = ap (λ (n : ℕ). drop n l) (omega (arith, h)) ∙ sym (drop-drop (j - i) i l) in
    let all : (j - i) + (k - j) ≡ k - i = omega (arith, h, g) in
    ap (λ (t : List ℕ). take (j - i) (drop i l) ++ take (k - j) t) after ∙ sym (take-add (j - i) (k - j) (drop i l)) ∙ ap (λ (n : ℕ). take n (drop i l)) all

nothing_between : (l : List ℕ) (i : ℕ) → slice_range l i i ≡ []
nothing_between l i = let none : i - i ≡ 0 = omega arith in ap (λ (n : ℕ). take n (drop i l)) none

-- nothing is made yet
pub begin_made : (text : List ℕ) (v : Values) (p : Parts) (found : Vec FoundBlock Global) → IsFoundIn text (found_text.Blocks found) → p.text.now ≡ text → values p.settings.now ≡ v → end_bytes p.end ≡ first_end text → p.at ≡ 0 → parts_left p ≡ map found_value found.items → HasMade text v p []
begin_made text v p found is same_text same_values same_end start left =
    let cuts = is.3 in
    let mark = mark_of is.0 in
    let first : slice_range text p.at (length mark) ≡ mark =
    ap (λ (n : ℕ). slice_range text n (length mark)) start ∙ ap (λ (t : List ℕ). slice_range t 0 (length mark)) cuts.split ∙ part_between [] mark (texts_of (cut_rows is.1)) 0 (length mark) refl (omega arith) in
    record {
      lines = is.0;
      cut = is.1;
      blocks = is.2;
      same_text = same_text;
      same_values = same_values;
      same_end = same_end;
      at = length mark;
      ordered = omega (arith, start);
      within = omega (arith, ap length cuts.split ∙ length-append mark (texts_of (cut_rows is.1)));
      utf8 = subst IsUtf8 (sym first) cuts.utf8_mark;
      arranging = begin_at text v (first_end text) mark is.1 (map found_value found.items) (parts_left p) (length mark) (slice_range text p.at (length mark)) cuts left refl (ap (λ (n : ℕ). slice_range text n (length mark)) start);
    }

-- the text before the next block
pub made_gap : (text : List ℕ) (v : Values) (p : Parts) (out : List ℕ) (b : Found) (left : List Found) → HasMade text v p out → parts_left p ≡ b ∷ left → IsGap text p.at b.start
made_gap text v p out b left h is =
    let gap = next_gap text v (first_end text) (mark_of h.lines) h.cut b left h.at (out ++ slice_range text p.at h.at) (subst (λ (l : List Found). IsArranging text v (first_end text) (mark_of h.lines) h.cut l h.at (out ++ slice_range text p.at h.at)) is h.arranging) in
    record {
      ordered = omega (arith, h.ordered, gap.ordered);
      within = gap.within;
      utf8 = subst IsUtf8 (slices_join text p.at h.at b.start h.ordered gap.ordered) (IsUtf8-append _ _ h.utf8 gap.utf8);
    }

-- one part more is made
pub next_made : (text : List ℕ) (v : Values) (old new : Parts) (out before own : List ℕ) (b : Found) (left : List Found) → HasMade text v old out → parts_left old ≡ b ∷ left → new.text.now ≡ text → values new.settings.now ≡ v → end_bytes new.end ≡ first_end text → new.at ≡ b.stop → parts_left new ≡ left → before ≡ slice_range text old.at b.start → IsArranged v (first_end text) b own → HasMade text v new (out ++ (before ++ own))
next_made text v old new out before own b left h is same_text same_values same_end place rest gap arranged =
    let end = first_end text in
    let mark = mark_of h.lines in
    let written = out ++ slice_range text old.at h.at in
    let arranging : IsArranging text v end mark h.cut (b ∷ left) h.at written = subst (λ (l : List Found). IsArranging text v end mark h.cut l h.at written) is h.arranging in
    let ordered : h.at ≤ b.start = (next_gap text v end mark h.cut b left h.at written arranging).ordered in
    let joined : before ≡ slice_range text old.at h.at ++ slice_range text h.at b.start = gap ∙ sym (slices_join text old.at h.at b.start h.ordered ordered) in
    let all : (out ++ (before ++ own)) ++ slice_range text new.at b.stop ≡ (written ++ slice_range text h.at b.start) ++ own =
    ap (λ (t : List ℕ). (out ++ (before ++ own)) ++ t) (ap (λ (n : ℕ). slice_range text n b.stop) place ∙ nothing_between text b.stop)
    ∙ append-nil (out ++ (before ++ own)) ∙ ap (λ (t : List ℕ). out ++ (t ++ own)) joined ∙ simp append_assoc in
    let more = one_more text v end mark h.cut b left h.at written own ((out ++ (before ++ own)) ++ slice_range text new.at b.stop) arranging arranged all in
    record {
      lines = h.lines;
      cut = h.cut;
      blocks = h.blocks;
      same_text = same_text;
      same_values = same_values;
      same_end = same_end;
      at = b.stop;
      ordered = omega (arith, place);
      within = omega (arith, more.place, ap length more.split ∙ length-append more.passed (texts_of (cut_rows more.rest)));
      utf8 = subst IsUtf8 (sym (ap (λ (n : ℕ). slice_range text n b.stop) place ∙ nothing_between text b.stop)) IsUtf8-nil;
      arranging = subst (λ (l : List Found). IsArranging text v end mark h.cut l b.stop ((out ++ (before ++ own)) ++ slice_range text new.at b.stop)) (sym rest) more;
    }

-- nothing is made where no block is left
pub same_made : (text : List ℕ) (v : Values) (old new : Parts) (out : List ℕ) → HasMade text v old out → new.text.now ≡ old.text.now → values new.settings.now ≡ values old.settings.now → end_bytes new.end ≡ end_bytes old.end → new.at ≡ old.at → parts_left new ≡ parts_left old → HasMade text v new out
same_made text v old new out h t s e place rest = record {
  lines = h.lines;
  cut = h.cut;
  blocks = h.blocks;
  same_text = t ∙ h.same_text;
  same_values = s ∙ h.same_values;
  same_end = e ∙ h.same_end;
  at = h.at;
  ordered = omega (arith, h.ordered, place);
  within = h.within;
  utf8 = subst (λ (n : ℕ). IsUtf8 (slice_range text n h.at)) (sym place) h.utf8;
  arranging = subst (λ (l : List Found). IsArranging text v (first_end text) (mark_of h.lines) h.cut l h.at (out ++ slice_range text new.at h.at)) (sym rest) (subst (λ (n : ℕ). IsArranging text v (first_end text) (mark_of h.lines) h.cut (parts_left old) h.at (out ++ slice_range text n h.at)) (sym place) h.arranging);
}

last_arranging : (text : List ℕ) (v : Values) (p : Parts) (out : List ℕ) (h : HasMade text v p out) → parts_left p ≡ [] → IsArranging text v (first_end text) (mark_of h.lines) h.cut [] h.at (out ++ slice_range text p.at h.at)
last_arranging text v p out h none = subst (λ (l : List Found). IsArranging text v (first_end text) (mark_of h.lines) h.cut l h.at (out ++ slice_range text p.at h.at)) none h.arranging

last_part : (text : List ℕ) (v : Values) (p : Parts) (out : List ℕ) (h : HasMade text v p out) → parts_left p ≡ [] → slice_range text p.at (length text) ≡ slice_range text p.at h.at ++ slice_range text h.at (length text)
last_part text v p out h none = sym (slices_join text p.at h.at (length text) h.ordered h.within)

-- with what stays after the last block all is made
pub all_made : (text : List ℕ) (v : Values) (p : Parts) (out : List ℕ) → HasMade text v p out → parts_left p ≡ [] → IsLaidOut text v (out ++ slice_range text p.at (length text))
all_made text v p out h none =
    let all : out ++ slice_range text p.at (length text) ≡ (out ++ slice_range text p.at h.at) ++ slice_range text h.at (length text) =
    ap (λ (t : List ℕ). out ++ t) (last_part text v p out h none) ∙ sym (append_assoc out (slice_range text p.at h.at) (slice_range text h.at (length text))) in
    let w = all_written text v (first_end text) (mark_of h.lines) h.cut h.at (out ++ slice_range text p.at h.at) (out ++ slice_range text p.at (length text)) (last_arranging text v p out h none) all in
    record { lines = h.lines; cut = h.cut; blocks = h.blocks; body = w.0; layouts = w.2; is = w.1 }

pub rest_utf8 : (text : List ℕ) (v : Values) (p : Parts) (out : List ℕ) → HasMade text v p out → parts_left p ≡ [] → IsUtf8 (slice_range text p.at (length text))
rest_utf8 text v p out h none =
    let gap = last_gap text v (first_end text) (mark_of h.lines) h.cut h.at (out ++ slice_range text p.at h.at) (last_arranging text v p out h none) in
    subst IsUtf8 (sym (last_part text v p out h none)) (IsUtf8-append _ _ h.utf8 gap.utf8)

-- the sorted text begins with what is made
pub goes_on_sorted : (text : List ℕ) (v : Values) (p : Parts) (out : List ℕ) → AreOrders v → HasMade text v p out → (rest : List ℕ) × IsLaidOut text v (out ++ rest)
goes_on_sorted text v p out orders h =
    let a = h.arranging in
    let gap = slice_range text p.at h.at in
    let others = some_sorted_cut v orders (first_end text) a.rest in
    let regroup : (x y z w u : List ℕ) → x ++ y ≡ z ++ w → x ++ (y ++ u) ≡ z ++ (w ++ u) = λ x y z w u e. sym (append_assoc x y u) ∙ ap (λ (t : List ℕ). t ++ u) e ∙ append_assoc z w u in (
      gap ++ others.0,
      record {
        lines = h.lines;
        cut = h.cut;
        blocks = h.blocks;
        body = a.done ++ others.0;
        layouts = a.goes_on others.0 others.1;
        is = regroup out gap (mark_of h.lines) a.done others.0 a.written;
      },
    )
