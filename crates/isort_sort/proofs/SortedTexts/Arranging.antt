-- A text is sorted block by block.
use Rattle.std.proofs.Common.{◌≡◌, ℕ, ◌+◌, ◌-◌, ◌≤◌, List, [], ◌∷◌, ◌++◌, length, length-append, take, drop, refl, sym, ap, ◌∙◌, subst, append_assoc, append-nil, arith}
use Rattle.std.specs.Prelude.{slice_range}
use Rattle.std.specs.Str.{IsUtf8}
use Rattle.std.proofs.lemmas.Str.{IsUtf8-nil, IsUtf8-append}
use Rattle.std.proofs.Math.Seq.{drop-append_seam, take-append_seam}
use Rattle.isort_settings.specs.Values.{Values}
use Rattle.isort_sort.specs.Private.Arranged.{IsArranged, AreUtf8, IsCutText, IsArranging}
use Rattle.isort_sort.specs.Blocks.{Run, run_rows, Cut, rest, block, cut_rows}
use Rattle.isort_sort.specs.Private.Found.{Found, found_of, found_from}
use Rattle.isort_sort.specs.Row.{Row}
use Rattle.isort_sort.specs.Sorted.{texts_of, IsLayout, IsSortedCut}
use Rattle.isort_sort.proofs.Finding.Steps.{texts_append}

-- what stands between two places
pub part_between : (a b c : List ℕ) (n m : ℕ) → n ≡ length a → m ≡ length a + length b → slice_range (a ++ (b ++ c)) n m ≡ b
part_between a b c n m e f =
    let len : m - n ≡ length b = omega arith in
    ap (λ (i : ℕ). take (m - n) (drop i (a ++ (b ++ c)))) e ∙ ap (take (m - n)) (drop-append_seam a (b ++ c)) ∙ ap (λ (k : ℕ). take k (b ++ c)) len ∙ take-append_seam b c

pub utf8_texts : (rows : List Row) → AreUtf8 rows → IsUtf8 (texts_of rows)
utf8_texts [] h = IsUtf8-nil
utf8_texts (row ∷ rows) h = IsUtf8-append row.text (texts_of rows) h.0 (utf8_texts rows h.1)

utf8_first : (a b : List Row) → AreUtf8 (a ++ b) → AreUtf8 a
utf8_first [] b h = tt
utf8_first (row ∷ a) b h = (h.0, utf8_first a b h.1)

utf8_last : (a b : List Row) → AreUtf8 (a ++ b) → AreUtf8 b
utf8_last [] b h = h
utf8_last (row ∷ a) b h = utf8_last a b h.1

-- at the start
pub begin : (text : List ℕ) (v : Values) (end mark : List ℕ) (cut : Cut) (found : List Found) → IsCutText text mark cut found → IsArranging text v end mark cut found (length mark) mark
begin text v end mark cut found h = record {
  passed = mark;
  rest = cut;
  done = [];
  split = h.split;
  place = refl;
  spans = h.spans;
  utf8 = h.utf8;
  written = sym (append-nil mark);
  goes_on = λ others is. is;
}

-- the text before the next block
pub record IsGap (text : List ℕ) (at stop : ℕ) : Type 0 where
  pub ordered : at ≤ stop
  pub within : stop ≤ length text
  pub utf8 : IsUtf8 (slice_range text at stop)

gap_of : (text passed gap after : List ℕ) (at stop : ℕ) → text ≡ passed ++ (gap ++ after) → at ≡ length passed → stop ≡ at + length gap → IsUtf8 gap → IsGap text at stop
gap_of text passed gap after at stop split place stops utf8 = record {
  ordered = omega arith;
  within = omega (arith, ap length split ∙ length-append passed (gap ++ after), length-append gap after);
  utf8 = subst IsUtf8 (sym (ap (λ (t : List ℕ). slice_range t at stop) split ∙ part_between passed gap after at stop place (stops ∙ ap (λ (n : ℕ). n + length gap) place))) utf8;
}

-- the parts of what is left before a block's end
block_split : (text passed : List ℕ) (before : List Row) (run : Run) (blanks : List Row) (cut : Cut) → text ≡ passed ++ texts_of (before ++ (run_rows run ++ (blanks ++ cut_rows cut))) → text ≡ passed ++ (texts_of before ++ (texts_of (run_rows run) ++ (texts_of blanks ++ texts_of (cut_rows cut))))
block_split text passed before run blanks cut e = e ∙ ap (λ (t : List ℕ). passed ++ t) (texts_append before (run_rows run ++ (blanks ++ cut_rows cut)) ∙ ap (λ (t : List ℕ). texts_of before ++ t) (texts_append (run_rows run) (blanks ++ cut_rows cut) ∙ ap (λ (t : List ℕ). texts_of (run_rows run) ++ t) (texts_append blanks (cut_rows cut))))

pub next_gap : (text : List ℕ) (v : Values) (end mark : List ℕ) (cut : Cut) (b : Found) (left : List Found) (at : ℕ) (out : List ℕ) → IsArranging text v end mark cut (b ∷ left) at out → IsGap text at b.start
next_gap text v end mark cut b left at out h = by h.rest refl
  where
    by : (c : Cut) → h.rest ≡ c → IsGap text at b.start
    by (rest rows) e = absurd (let k : b ∷ left ≡ [] = h.spans ∙ ap (found_from at) e in cc)
    by (block before run blanks c) e =
        let k : b ∷ left ≡ found_from at (block before run blanks c) = h.spans ∙ ap (found_from at) e in
        let is : b ≡ found_of (at + length (texts_of before)) run blanks (cut_rows c) = cc in
        gap_of text h.passed (texts_of before) (texts_of (run_rows run) ++ (texts_of blanks ++ texts_of (cut_rows c))) at b.start
        (block_split text h.passed before run blanks c (h.split ∙ ap (λ (x : Cut). h.passed ++ texts_of (cut_rows x)) e)) h.place (ap (λ (f : Found). f.start) is)
        (utf8_texts before (utf8_first before (run_rows run ++ (blanks ++ cut_rows c)) (subst (λ (x : Cut). AreUtf8 (cut_rows x)) e h.utf8)))

-- four texts before a fifth
pub regroup : (a b c d x : List ℕ) → a ++ (b ++ (c ++ (d ++ x))) ≡ (a ++ (b ++ (c ++ d))) ++ x
regroup a b c d x = simp append_assoc

-- one block more is written
pub one_more : (text : List ℕ) (v : Values) (end mark : List ℕ) (cut : Cut) (b : Found) (left : List Found) (at : ℕ) (out own new : List ℕ) → IsArranging text v end mark cut (b ∷ left) at out → IsArranged v end b own → new ≡ (out ++ slice_range text at b.start) ++ own → IsArranging text v end mark cut left b.stop new
one_more text v end mark cut b left at out own new h is written = by h.rest refl
  where
    layout_of : (w : Values) (line_end : List ℕ) (start : ℕ) (run : Run) (blanks after : List Row) (text_of : List ℕ) → IsArranged w line_end (found_of start run blanks after) text_of → IsLayout w line_end run blanks after text_of
    layout_of w line_end start run blanks [] text_of a = a
    layout_of w line_end start run blanks (row ∷ rows) text_of a = a

    lengths : (a b c d : List ℕ) (n : ℕ) → n ≡ length a → n + length b + length c + length d ≡ length (a ++ (b ++ (c ++ d)))
    lengths a b c d n e = omega (arith, length-append a (b ++ (c ++ d)), length-append b (c ++ d), length-append c d)

    by : (c : Cut) → h.rest ≡ c → IsArranging text v end mark cut left b.stop new
    by (rest rows) e = absurd (let k : b ∷ left ≡ [] = h.spans ∙ ap (found_from at) e in cc)
    by (block before run blanks c) e =
        let k : b ∷ left ≡ found_from at (block before run blanks c) = h.spans ∙ ap (found_from at) e in
        let same : b ≡ found_of (at + length (texts_of before)) run blanks (cut_rows c) = cc in
        let others : left ≡ found_from (found_of (at + length (texts_of before)) run blanks (cut_rows c)).stop c = cc in
        let split = block_split text h.passed before run blanks c (h.split ∙ ap (λ (x : Cut). h.passed ++ texts_of (cut_rows x)) e) in
        let gap : slice_range text at b.start ≡ texts_of before = ap (λ (t : List ℕ). slice_range t at b.start) split ∙ part_between h.passed (texts_of before) _ at b.start h.place (ap (λ (f : Found). f.start) same ∙ ap (λ (n : ℕ). n + length (texts_of before)) h.place) in
        let layout : IsLayout v end run blanks (cut_rows c) own = layout_of v end (at + length (texts_of before)) run blanks (cut_rows c) own (subst (λ (f : Found). IsArranged v end f own) same is) in
        let goes : (x : List ℕ) → IsSortedCut v end h.rest x → IsSortedCut v end cut (h.done ++ x) = h.goes_on in
        record {
          passed = h.passed ++ (texts_of before ++ (texts_of (run_rows run) ++ texts_of blanks));
          rest = c;
          done = h.done ++ (texts_of before ++ own);
          split = split ∙ regroup h.passed (texts_of before) (texts_of (run_rows run)) (texts_of blanks) (texts_of (cut_rows c));
          place = ap (λ (f : Found). f.stop) same ∙ lengths h.passed (texts_of before) (texts_of (run_rows run)) (texts_of blanks) at h.place;
          spans = others ∙ ap (λ (f : Found). found_from f.stop c) (sym same);
          utf8 = utf8_last blanks (cut_rows c) (utf8_last (run_rows run) (blanks ++ cut_rows c) (utf8_last before (run_rows run ++ (blanks ++ cut_rows c)) (subst (λ (x : Cut). AreUtf8 (cut_rows x)) e h.utf8)));
          written = written ∙ (λ i. (h.written i ++ gap i) ++ own) ∙ simp append_assoc;
          goes_on = λ x sorted. subst (IsSortedCut v end cut) (sym (append_assoc h.done (texts_of before ++ own) x))
              (goes ((texts_of before ++ own) ++ x) (subst (λ (y : Cut). IsSortedCut v end y ((texts_of before ++ own) ++ x)) (sym e) (own, x, append_assoc (texts_of before) own x, layout, sorted)));
        }

-- all blocks are written
pub last_gap : (text : List ℕ) (v : Values) (end mark : List ℕ) (cut : Cut) (at : ℕ) (out : List ℕ) → IsArranging text v end mark cut [] at out → IsGap text at (length text)
last_gap text v end mark cut at out h = by h.rest refl
  where
    by : (c : Cut) → h.rest ≡ c → IsGap text at (length text)
    by (block before run blanks c) e = absurd (let k : [] ≡ found_from at (block before run blanks c) = h.spans ∙ ap (found_from at) e in cc)
    by (rest rows) e =
        let split : text ≡ h.passed ++ (texts_of rows ++ []) = h.split ∙ ap (λ (x : Cut). h.passed ++ texts_of (cut_rows x)) e ∙ ap (λ (t : List ℕ). h.passed ++ t) (sym (append-nil (texts_of rows))) in
        gap_of text h.passed (texts_of rows) [] at (length text) split h.place (ap length split ∙ length-append h.passed (texts_of rows ++ []) ∙ (λ i. sym h.place i + length (append-nil (texts_of rows) i))) (utf8_texts rows (subst (λ (x : Cut). AreUtf8 (cut_rows x)) e h.utf8))

pub all_written : (text : List ℕ) (v : Values) (end mark : List ℕ) (cut : Cut) (at : ℕ) (out new : List ℕ) → IsArranging text v end mark cut [] at out → new ≡ out ++ slice_range text at (length text) → (body : List ℕ) × (new ≡ mark ++ body) × IsSortedCut v end cut body
all_written text v end mark cut at out new h written = by h.rest refl
  where
    by : (c : Cut) → h.rest ≡ c → (body : List ℕ) × (new ≡ mark ++ body) × IsSortedCut v end cut body
    by (block before run blanks c) e = absurd (let k : [] ≡ found_from at (block before run blanks c) = h.spans ∙ ap (found_from at) e in cc)
    by (rest rows) e =
        let split : text ≡ h.passed ++ (texts_of rows ++ []) = h.split ∙ ap (λ (x : Cut). h.passed ++ texts_of (cut_rows x)) e ∙ ap (λ (t : List ℕ). h.passed ++ t) (sym (append-nil (texts_of rows))) in
        let stop : length text ≡ length h.passed + length (texts_of rows) = ap length split ∙ length-append h.passed (texts_of rows ++ []) ∙ ap (λ (t : List ℕ). length h.passed + length t) (append-nil (texts_of rows)) in
        let gap : slice_range text at (length text) ≡ texts_of rows = ap (λ (t : List ℕ). slice_range t at (length text)) split ∙ part_between h.passed (texts_of rows) [] at (length text) h.place stop in
        (h.done ++ texts_of rows, written ∙ (λ i. h.written i ++ gap i) ∙ append_assoc mark h.done (texts_of rows), h.goes_on (texts_of rows) (subst (λ (y : Cut). IsSortedCut v end y (texts_of rows)) (sym e) refl))

-- at the start, where the mark is what the text begins with
pub begin_at : (text : List ℕ) (v : Values) (end mark : List ℕ) (cut : Cut) (found left : List Found) (at : ℕ) (out : List ℕ) → IsCutText text mark cut found → left ≡ found → at ≡ length mark → out ≡ slice_range text 0 at → IsArranging text v end mark cut left at out
begin_at text v end mark cut found left at out h same place written =
    let first : slice_range text 0 at ≡ mark = ap (λ (t : List ℕ). slice_range t 0 at) h.split ∙ part_between [] mark (texts_of (cut_rows cut)) 0 at refl (place ∙ omega arith) in
    let b = begin text v end mark cut found h in
    subst (λ (l : List Found). IsArranging text v end mark cut l at out) (sym same)
    (subst (λ (n : ℕ). IsArranging text v end mark cut found n out) (sym place) (subst (IsArranging text v end mark cut found (length mark)) (sym (written ∙ first)) b))
