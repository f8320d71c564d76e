-- Where a statement may begin, byte by byte: after spaces it may where it might before them, and after an opening byte it may.
use Rattle.std.proofs.Common.{◌≡◌, ℕ, ◌+◌, ◌-◌, ◌<◌, ◌≤◌, Bool, true, false, nat_lt, inl, inr, List, [], ◌∷◌, ◌++◌, length, take, drop, slice_range, codes, refl, sym, ap, ◌∙◌, subst, ⊎_elim, arith, append_assoc, ◌==◌, length-append, length-drop}
use Rattle.std.specs.Prelude.{slice_index, encode_utf8_all}
use Rattle.std.specs.List.{list_all}
use Rattle.std.proofs.lemmas.Bool.{cases_lt, and_parts, or_cases, eqb-true, both_ways, ltb-true, ltb-false}
use Rattle.std.proofs.lemmas.List.{get_or_append_left, get_or-append-add, length-take-le}
use Rattle.std.proofs.lemmas.Str.{encode_ascii}
use Rattle.std.proofs.Math.Seq.{get_or-append_seam}
use Rattle.std.proofs.Math.Utf8.{encode}
use Rattle.std.proofs.lemmas.List.Folds.{list_all_at}
use Rattle.memchr.specs.Find.{OccursAt}
use Rattle.memchr.proofs.lemmas.MatchLemmas.{OccursAt-from_part}
use Rattle.py_lines.specs.Character.{is_one_of, is_space, is_mark, is_break}
use Rattle.py_lines.specs.PieceGrammar.{IsLineEnd, feed, return_feed, return, IsJoin, IsSingle}
use Rattle.py_imports.specs.FirstWords.{opens_statement, StandsOpen, MayBegin, NoImportBegins}
use Rattle.py_imports.specs.Private.Gaps.{IsGap}

-- what each one of a list is
abbrev Each : (ℕ → Type 0) → List ℕ → Type 0
Each P [] = Unit {0}
Each P (d ∷ ds) = P d × Each P ds

-- what each one of a list is, one of it is
each_of : (P : ℕ → Type 0) (ds : List ℕ) (c : ℕ) → Each P ds → is_one_of ds c ≡ true → P c
each_of P [] c each one = absurd (both_ways _ refl one)
each_of P (d ∷ ds) c each one =
    ⊎_elim
    (λ same. subst P (sym (eqb-true c d same)) each.0)
    (λ later. each_of P ds c each.1 later) (or_cases (c == d) (is_one_of ds c) one)

space_is_low : (c : ℕ) → is_space c ≡ true → c < 128
unfolding is_space
space_is_low c h = each_of (λ d. d < 128) (codes " \t" ++ 0x0C ∷ []) c (omega arith, (omega arith, (omega arith, tt))) h

-- no statement begins directly after a space for its sake
pub space_opens_none : (c : ℕ) → is_space c ≡ true → opens_statement c ≡ false
unfolding is_space
space_opens_none c h = each_of (λ d. opens_statement d ≡ false) (codes " \t" ++ 0x0C ∷ []) c (refl, (refl, (refl, tt))) h

-- a line end is no space
pub break_is_no_space : (c : ℕ) → is_break c ≡ true → is_space c ≡ false
unfolding is_break is_space
break_is_no_space c h = each_of (λ d. is_space d ≡ false) (codes "\n\r") c (refl, (refl, tt)) h

-- spaces are their own bytes
pub spaces_spelled : (text : List ℕ) → list_all is_space text ≡ true → encode_utf8_all text ≡ text
spaces_spelled [] h = refl
spaces_spelled (c ∷ cs) h =
    let both = and_parts (is_space c) (list_all is_space cs) h in
    λ k. encode_ascii c (space_is_low c both.0) k ++ spaces_spelled cs both.1 k

-- the bytes end with one after which a statement may begin
pub record EndsOpening (bytes : List ℕ) : Type 0 where
  pub front : List ℕ
  pub last : ℕ
  pub is : bytes ≡ front ++ last ∷ []
  pub opens : opens_statement last ≡ true

pub line_end_opens : (text : List ℕ) → IsLineEnd text → EndsOpening (encode_utf8_all text)
unfolding encode
line_end_opens text (feed e) = record { front = []; last = 10; is = ap encode_utf8_all e; opens = refl }
line_end_opens text (return_feed e) = record { front = 13 ∷ []; last = 10; is = ap encode_utf8_all e; opens = refl }
line_end_opens text (return e) = record { front = []; last = 13; is = ap encode_utf8_all e; opens = refl }

pub join_opens : (text : List ℕ) → IsJoin text → EndsOpening (encode_utf8_all text)
join_opens text (slash, end, e, back, is) =
    let o = line_end_opens end is in
    record { front = encode slash ++ o.front; last = o.last; is = ap encode_utf8_all e ∙ ap (λ t. encode slash ++ t) o.is ∙ sym (append_assoc (encode slash) o.front (o.last ∷ [])); opens = o.opens }

pub mark_opens : (text : List ℕ) → IsSingle is_mark text → EndsOpening (encode_utf8_all text)
unfolding encode is_mark
mark_opens text (one, e, is) =
    let same : one ≡ 0xFEFF = each_of (λ d. d ≡ 0xFEFF) (0xFEFF ∷ []) one (refl, tt) is in
    record { front = 239 ∷ 187 ∷ []; last = 191; is = ap encode_utf8_all e ∙ ap (λ c. encode_utf8_all (c ∷ [])) same; opens = refl }

-- one ASCII character that opens a statement
pub one_opens : (c : ℕ) → c < 128 → opens_statement c ≡ true → EndsOpening (encode_utf8_all (c ∷ []))
one_opens c low opens = record { front = []; last = c; is = ap (λ t. t ++ []) (encode_ascii c low); opens = opens }

-- two texts that stand one after the other
pub first_stands : (text a b : List ℕ) (place : ℕ) → OccursAt text (a ++ b) place → OccursAt text a place
first_stands text a b place h = record {
  fits = omega (arith, h.fits, length-append a b);
  reads = λ j less. h.reads j (omega (arith, less, length-append a b)) ∙ get_or_append_left a b 0 j less;
}

pub second_stands : (text a b : List ℕ) (place : ℕ) → OccursAt text (a ++ b) place → OccursAt text b (place + length a)
second_stands text a b place h = record {
  fits = omega (arith, h.fits, length-append a b);
  reads = λ j less.
      let there : place + length a + j ≡ place + (length a + j) = omega arith in
      ap (slice_index text) there ∙ h.reads (length a + j) (omega (arith, less, length-append a b)) ∙ get_or-append-add a b j 0;
}

-- the bytes of a text from one place up to another, and that they stand in it
pub slice_len : (text : List ℕ) (start to : ℕ) → start ≤ to → to ≤ length text → length (slice_range text start to) ≡ to - start
slice_len text start to ordered within = length-take-le (to - start) (drop start text) (omega (arith, length-drop start text, within))

pub part_stands : (text part : List ℕ) (start to : ℕ) → start ≤ to → to ≤ length text → part ≡ slice_range text start to → OccursAt text part start
part_stands text part start to ordered within e =
    let size : length part ≡ to - start = ap length e ∙ slice_len text start to ordered within in
    OccursAt-from_part text part start (omega (arith, size, ordered, within)) (ap (λ n. take n (drop start text)) size ∙ sym e)

-- where a line begins
pub begins_first : (text : List ℕ) (start : ℕ) → MayBegin text start start
begins_first text start = record { from = start; low = omega arith; high = omega arith; spaces = λ i above below. absurd (omega (arith, above, below)); opens = inl refl }

all_at : (bytes : List ℕ) (i : ℕ) → list_all is_space bytes ≡ true → i < length bytes → is_space (slice_index bytes i) ≡ true
all_at bytes i h less = by (is_space (slice_index bytes i)) refl
  where
    by : (b : Bool) → is_space (slice_index bytes i) ≡ b → b ≡ true
    by true e = refl
    by false e = absurd (both_ways _ (list_all_at is_space bytes i 0 less e) h)

-- after spaces
pub past_spaces : (text : List ℕ) (start place : ℕ) (bytes : List ℕ) → OccursAt text bytes place → list_all is_space bytes ≡ true → MayBegin text start place → MayBegin text start (place + length bytes)
past_spaces text start place bytes stands spaces may = record {
  from = may.from;
  low = may.low;
  high = omega (arith, may.high);
  spaces = λ i above below. by i above below (nat_lt i place) refl;
  opens = may.opens;
}
  where
    by : (i : ℕ) → may.from ≤ i → i < place + length bytes → (b : Bool) → nat_lt i place ≡ b → is_space (slice_index text i) ≡ true
    by i above below true e = may.spaces i above (ltb-true i place e)
    by i above below false e =
        let past = ltb-false i place e in
        let same : place + (i - place) ≡ i = omega (arith, past) in
        ap is_space (ap (slice_index text) (sym same) ∙ stands.reads (i - place) (omega (arith, past, below))) ∙ all_at bytes (i - place) spaces (omega (arith, past, below))

-- after bytes that end with an opening one
pub past_opening : (text : List ℕ) (start place : ℕ) (bytes : List ℕ) → start ≤ place → OccursAt text bytes place → EndsOpening bytes → MayBegin text start (place + length bytes)
past_opening text start place bytes low stands o =
    let size : length bytes ≡ length o.front + 1 = ap length o.is ∙ length-append o.front (o.last ∷ []) in
    record {
      from = place + length bytes;
      low = omega (arith, low);
      high = omega arith;
      spaces = λ i above below. absurd (omega (arith, above, below));
      opens = inr (place + length o.front, omega (arith, size), ap opens_statement (stands.reads (length o.front) (omega (arith, size)) ∙ ap (λ t. slice_index t (length o.front)) o.is ∙ get_or-append_seam o.front o.last [] 0) ∙ o.opens);
    }

-- where a line begins at a later byte too, no import statement begins after it
later_start : (text : List ℕ) (start stop from : ℕ) → NoImportBegins text start stop → start ≤ from → StandsOpen text start from → NoImportBegins text from stop
later_start text start stop from none low opens place above below (may, word) = none place (omega (arith, low, above)) below (record { from = may.from; low = omega (arith, low, may.low); high = may.high; spaces = may.spaces; opens = by may.opens }, word)
  where
    by : StandsOpen text from may.from → StandsOpen text start may.from
    by (inr o) = inr o
    by (inl e) = ⊎_elim (λ same. inl (e ∙ same)) (λ o. inr (o.0, e ∙ o.1, o.2)) opens

-- where a line begins later, before the place, a statement may begin at the place too
later_may : (text : List ℕ) (start from place : ℕ) → start ≤ from → from ≤ place → MayBegin text start place → MayBegin text from place
later_may text start from place low high may = ⊎_elim before after (cases_lt may.from from)
  where
    before : may.from < from → MayBegin text from place
    before less = record { from = from; low = omega arith; high = high; spaces = λ i above below. may.spaces i (omega (arith, less, above)) below; opens = inl refl }

    after : from ≤ may.from → MayBegin text from place
    after above = record {
      from = may.from;
      low = above;
      high = may.high;
      spaces = may.spaces;
      opens = ⊎_elim (λ same. inl (omega (arith, same, low, above))) (λ o. inr o) may.opens;
    }

-- a gap from a later byte on after which a statement may begin
pub later_gap : (text : List ℕ) (start stop from : ℕ) → IsGap text start stop → start ≤ from → from ≤ stop → StandsOpen text start from → IsGap text from stop
later_gap text start stop from gap low high opens = record {
  none = later_start text start stop from gap.none low opens;
  first = ⊎_elim (λ ends. inl ends) (λ (may, word). inr (later_may text start from stop low high may, word)) gap.first;
  further = high;
  within = gap.within;
}

-- where a byte stands before spaces that is no space and opens no statement
pub begins_nowhere : (text : List ℕ) (start place at : ℕ) → start ≤ at → at < place → ((i : ℕ) → at + 1 ≤ i → i < place → is_space (slice_index text i) ≡ true) → is_space (slice_index text at) ≡ false → opens_statement (slice_index text at) ≡ false → ¬ (MayBegin text start place)
begins_nowhere text start place at low high spaces other closed may = by (nat_lt at may.from) refl
  where
    opened : StandsOpen text start may.from → at < may.from → ⊥
    opened (inl e) past = omega (arith, e, low, past)
    opened (inr (i, e, opens)) past = last (nat_lt at i) refl
      where
        last : (b : Bool) → nat_lt at i ≡ b → ⊥
        last true more = both_ways _ (space_opens_none (slice_index text i) (spaces i (omega (arith, ltb-true at i more)) (omega (arith, e, may.high)))) opens
        last false none =
            let same : i ≡ at = omega (arith, ltb-false at i none, e, past) in
            both_ways _ closed (ap (λ j. opens_statement (slice_index text j)) (sym same) ∙ opens)

    by : (b : Bool) → nat_lt at may.from ≡ b → ⊥
    by true past = opened may.opens (ltb-true at may.from past)
    by false none = both_ways _ other (may.spaces at (omega (arith, ltb-false at may.from none)) high)

-- one more space before spaces
pub more_spaces : (text : List ℕ) (at place : ℕ) → is_space (slice_index text at) ≡ true → ((i : ℕ) → at + 1 ≤ i → i < place → is_space (slice_index text i) ≡ true) → (i : ℕ) → at ≤ i → i < place → is_space (slice_index text i) ≡ true
more_spaces text at place is spaces i low high = by (nat_lt at i) refl
  where
    by : (b : Bool) → nat_lt at i ≡ b → is_space (slice_index text i) ≡ true
    by true more = spaces i (omega (arith, ltb-true at i more)) high
    by false none = let same : i ≡ at = omega (arith, ltb-false at i none, low) in ap (λ j. is_space (slice_index text j)) same ∙ is
