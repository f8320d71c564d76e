-- LF that are passed before the next other byte that isn't plain, in one block of 64 bytes after another.
use Rattle.py_lines.proofs.Prelude.{◌≡◌, ℕ, ◌+◌, ◌<◌, ◌≤◌, ◌||◌, true, List, [], ◌∷◌, drop, slice_index, refl, sym, ap, ◌∙◌, subst, arith, inl, inr, cases_lt, zero, suc, ◌-◌, length, ⊎_elim, or_cases, is_line_feed, Frame, Marks, Passing, line_ends}
use Rattle.py_lines.specs.Private.LineEnds.{CountsTo}
use Rattle.py_lines.specs.Private.Marks.{Advances, ArePlain, EndInFeed, FindsNext, HasMarks, is_plain}
use Rattle.py_lines.specs.Private.Passing.{CountsOn, FindsSpecial, IsCounted, PassesBlock, PassesLineFeeds, lines_with, passed_feeds}
use Rattle.py_lines.proofs.PassedPieces.Counts.{plain_counts}
use Rattle.py_lines.proofs.Text.CharacterTests.{feed_is}

-- the LF up to here were passed, and the bytes between them and those of the marks are plain
pub record ComesTo (bytes : List ℕ) (fs : List Frame) (old new : Passing) : Type 0 where
  pub passes : PassesLineFeeds bytes fs old new
  pub from : ℕ
  pub upto : new.all ≤ from
  pub plain : ArePlain bytes new.all from
  pub marked : HasMarks bytes from new.marks

pub begins_there : {bytes : List ℕ} (fs : List Frame) (old : Passing) → HasMarks bytes old.all old.marks → ComesTo bytes fs old old
begins_there fs old marked =
    record { passes = inl refl; from = old.all; upto = omega arith; plain = λ i more less. absurd (omega (arith, more, less)); marked = marked }

-- the marks are of the same 64 bytes
pub base_kept : (bytes : List ℕ) (from : ℕ) (fs : List Frame) (old new : Passing) → PassesBlock bytes from fs old new → new.marks.base ≡ old.marks.base
base_kept bytes from fs old new (inl same) = ap (λ (p : Passing). p.marks.base) same
base_kept bytes from fs old new (inr (to, feeds, passes, is)) = passes.base

-- other bytes before them are passed too
ends_later : {bytes : List ℕ} {b to : ℕ} (a : ℕ) → a ≤ b
    → ((i : ℕ) → a ≤ i → i < b → (is_plain (slice_index bytes i) || is_line_feed (slice_index bytes i)) ≡ true) → EndInFeed bytes b to → EndInFeed bytes a to
ends_later {b = b} a more before ends = grind arith

-- plain bytes follow plain ones
pub plain_on : (bytes : List ℕ) (a b c : ℕ) → ArePlain bytes a b → ArePlain bytes b c → ArePlain bytes a c
plain_on bytes a b c first second i from less within = elim (cases_lt i b) [ inl low ↦ first i from low within | inr high ↦ second i high less within ]

pub lines_again : (fs : List Frame) (lines a b : ℕ) → lines_with fs (lines_with fs lines a) b ≡ lines_with fs lines b
lines_again [] lines a b = refl
lines_again (f ∷ fs) lines a b = refl

-- Bytes up to LF, plain ones and LF, one LF after another: what holds of the bytes before them comes to what holds of those with each.
module _ {bytes : List ℕ} {from to : ℕ} (ends : EndInFeed bytes from to) (Before After : ℕ → Type 0) (kept : (n : ℕ) → After n → Before n)
    (one : (all at : ℕ) → all ≤ at → at < length bytes → ArePlain bytes all at → slice_index bytes at ≡ 10 → Before all → After (at + 1)) where
  -- where the bytes up to `at` are plain
  feeds_from : (n all at : ℕ) → at + n + 1 ≡ to → from ≤ at → all ≤ at → ArePlain bytes all at → Before all → After to
  feeds_from zero all at is first more plain on =
      let last : at ≡ to - 1 = omega (arith, is) in let there : at + 1 ≡ to = omega (arith, is) in
      let feed = ap (λ n. is_line_feed (slice_index bytes n)) last ∙ ends.last in
      subst After there (one all at more (omega (arith, is, ends.within)) plain (feed_is _ feed) on)
  feeds_from (suc n) all at is first more plain on =
      let next : at + 1 + n + 1 ≡ to = omega (arith, is) in
      elim (or_cases (is_plain (slice_index bytes at)) _ (ends.each at first (omega (arith, is)))) [
        | inl other ↦
            feeds_from n all (at + 1) next (omega (arith, first)) (omega (arith, more)) (λ i after upto within. ⊎_elim (λ less. plain i after less within)
            (λ later. let same : i ≡ at = omega (arith, later, upto) in ap (λ n. is_plain (slice_index bytes n)) same ∙ other) (cases_lt i at)) on
        | inr feed ↦
            feeds_from n (at + 1) (at + 1) next (omega (arith, first)) (omega arith) (λ i after upto within. absurd (omega (arith, after, upto)))
            (kept _ (one all at more (omega (arith, is, ends.within)) plain (feed_is _ feed) on))
      ]

  pub feeds_over : Before from → After to
  feeds_over =
      feeds_from (to - from - 1) from from (omega (arith, ends.further)) (omega arith) (omega arith)
      (λ i after upto within. absurd (omega (arith, after, upto)))

module _ {bytes : List ℕ} {fs : List Frame} {old mid : Passing} (come : ComesTo bytes fs old mid) where
  counts : CountsOn bytes old mid
  counts = elim come.passes [ inl is ↦ ap (λ (p : Passing). p.ends + line_ends (drop p.all bytes)) is | inr (ends, counted, is) ↦ counted ]

  pub counted_so : IsCounted bytes old → IsCounted bytes mid
  counted_so all = counts ∙ all

  -- up to LF
  feeds_passed : (to feeds : ℕ) (marks : Marks) → EndInFeed bytes come.from to → CountsTo bytes come.from to feeds → HasMarks bytes to marks
      → ComesTo bytes fs old (passed_feeds fs mid to (mid.ends + feeds) marks)
  feeds_passed to feeds marks ends counted marked =
      let plain : (i : ℕ) → mid.all ≤ i → i < come.from → is_plain (slice_index bytes i) ≡ true =
      λ i from less. come.plain i from less (omega (arith, less, ends.further, ends.within)) in
      let later = ends_later mid.all come.upto (λ i from less. ap (λ p. p || is_line_feed (slice_index bytes i)) (plain i from less)) ends in
      let all : mid.ends + feeds + line_ends (drop to bytes) ≡ old.ends + line_ends (drop old.all bytes) =
      omega (arith, counts, counted, plain_counts bytes mid.all come.from come.upto (omega (arith, ends.further, ends.within)) plain) in
      record {
        passes = elim come.passes [
          | inl is ↦
              inr (
                subst (λ (n : ℕ). EndInFeed bytes n to) (ap (λ (p : Passing). p.all) is) later,
                all,
                ap (λ (p : Passing). passed_feeds fs p to (mid.ends + feeds) marks) is,
              )
          | inr (first, before, is) ↦
              inr (
                ends_later old.all (omega (arith, first.further)) first.each later,
                all,
                ap (λ (p : Passing). passed_feeds fs p to (mid.ends + feeds) marks) is
                    ∙ ap (λ (n : ℕ). record { all = to; ends = mid.ends + feeds; lines = n; marks = marks }) (lines_again fs old.lines mid.all to),
              )
        ];
        from = to;
        upto = omega arith;
        plain = λ i more less. absurd (omega (arith, more, less));
        marked = marked;
      }

  pub block_passed : (new : Passing) → ((from : ℕ) → HasMarks bytes from mid.marks → PassesBlock bytes from fs mid new) → ComesTo bytes fs old new
  block_passed new block = by (block come.from come.marked) where
    by : PassesBlock bytes come.from fs mid new → ComesTo bytes fs old new
    by (inl same) = subst (ComesTo bytes fs old) (sym same) come
    by (inr (to, feeds, to_it, is)) = subst (ComesTo bytes fs old) (sym is) (feeds_passed to feeds new.marks to_it.ends to_it.counted to_it.marked)

  -- with other marks
  other_marks : (marks : Marks) → PassesLineFeeds bytes fs old (record mid { marks = marks })
  other_marks marks = grind arith

  -- to the next block
  pub block_next : (marks : Marks) → Advances bytes mid.marks true marks → ComesTo bytes fs old (record mid { marks = marks })
  block_next marks on =
      let next = on come.from come.marked in
      record {
        passes = other_marks marks;
        from = mid.marks.base + 64;
        upto = omega (arith, come.upto, come.marked.reach);
        plain = plain_on bytes mid.all come.from (mid.marks.base + 64) come.plain next.0;
        marked = next.1;
      }

  -- to the next other byte that isn't plain
  pub special_found : (at : ℕ) (marks : Marks) → ((from : ℕ) → HasMarks bytes from mid.marks → FindsNext bytes from at marks)
      → FindsSpecial bytes fs old at (record mid { marks = marks })
  special_found at marks find =
      let next = find come.from come.marked in
      record {
        passes = other_marks marks;
        next = record {
          after = omega (arith, come.upto, next.after);
          within = next.within;
          plain = λ i from less. elim (cases_lt i come.from) [
            | inl low ↦ come.plain i from low (omega (arith, less, next.within))
            | inr high ↦ next.plain i high less
          ];
          special = next.special;
          rest = next.rest;
          held = next.held;
        };
      }
