-- Where a first word may stand in a text: where its first two letters do.
use Rattle.std.proofs.Common.{◌≡◌, ℕ, ◌+◌, ◌-◌, drop, take, ◌<◌, ◌≤◌, Bool, true, false, List, length, slice_index, slice_range, get_or-drop, sym, ap, ◌∙◌, ⊎_elim, inl, inr, arith, subst, length-drop}
use Rattle.std.specs.Int.{bit_at}
use Rattle.std.proofs.lemmas.List.{take_all}
use Rattle.std.proofs.lemmas.Bool.{cases_lt}
use Rattle.std.proofs.lemmas.Slice.Eq.{bytes_eq-Decides}
use Rattle.std.specs.Prelude.{nat_eq, IsTrue}
use Rattle.std.specs.List.{starts_with}
use Rattle.memchr.specs.Find.{Nowhere, OccursAt}
use Rattle.memchr.proofs.lemmas.MatchLemmas.{OccursAt-from_part, OccursAt-part}
use Rattle.py_imports.specs.FirstWords.{ImportMayBegin, NoImportBegins}
use Rattle.py_imports.specs.Private.Gaps.{WordLetters}

-- the rest of a text
rest_is : (text : List ℕ) (start : ℕ) → slice_range text start (length text) ≡ drop start text
rest_is text start = take_all (length text - start) (drop start text) (omega (arith, length-drop start text))

-- the rest of a text has the letters that the text has
pub in_rest : (text : List ℕ) (at k : ℕ) → at ≤ k → WordLetters text k → WordLetters (slice_range text at (length text)) (k - at)
in_rest text at k low stand = ⊎_elim (λ both. inl (is k low ∙ both.0, then ∙ both.1)) (λ both. inr (is k low ∙ both.0, then ∙ both.1)) stand
  where
    is : (j : ℕ) → at ≤ j → slice_index (slice_range text at (length text)) (j - at) ≡ slice_index text j
    is j above =
        let same : at + (j - at) ≡ j = omega (arith, above) in
        ap (λ rest. slice_index rest (j - at)) (rest_is text at) ∙ get_or-drop at text (j - at) 0 ∙ ap (slice_index text) same

    then : slice_index (slice_range text at (length text)) (k - at + 1) ≡ slice_index text (k + 1)
    then = let same : k - at + 1 ≡ k + 1 - at = omega (arith, low) in ap (slice_index (slice_range text at (length text))) same ∙ is (k + 1) (omega (arith, low))

-- the bits of a block say where neither word begins
pub none_below : (text : List ℕ) (at bits len : ℕ) → ((k : ℕ) → k < 64 → WordLetters (slice_range text at (length text)) k → bit_at bits k ≡ 1) → len ≤ 64
    → ((k : ℕ) → k < len → bit_at bits k ≡ 0) → Nowhere (WordLetters text) at (at + len)
none_below text at bits len set within unset k low high stand =
    let below : k - at < len = omega (arith, low, high) in
    let both : 0 ≡ 1 = sym (unset (k - at) below) ∙ set (k - at) (omega (arith, below, within)) (in_rest text at k low stand) in
    absurd (omega (arith, both))

-- two parts without, one after the other
pub nowhere_in_both : (P : ℕ → Type 0) (a b c : ℕ) → Nowhere P a b → Nowhere P b c → Nowhere P a c
nowhere_in_both P a b c first second k low high is = ⊎_elim (λ before. first k low before is) (λ after. second k after high is) (cases_lt k b)

-- an import statement begins with these letters
letters_of : (text : List ℕ) (start k : ℕ) → ImportMayBegin text start k → WordLetters text k
letters_of text start k (may, word) =
    let here : k ≡ k + 0 = omega arith in
    ⊎_elim (λ h. inl (ap (slice_index text) here ∙ h.reads 0 (omega arith), h.reads 1 (omega arith)))
    (λ h. inr (ap (slice_index text) here ∙ h.reads 0 (omega arith), h.reads 1 (omega arith))) word

-- a word stands where the rest of the text starts with it
pub stands_if : (text word : List ℕ) (place : ℕ) → place ≤ length text → (begins : Bool) → (IsTrue begins → length word ≤ length (slice_range text place (length text))) → begins ≡ starts_with nat_eq (slice_range text place (length text)) word → begins ≡ true → OccursAt text word place
stands_if text word place within begins room value is =
    OccursAt-from_part text word place (omega (arith, within, room is, ap (λ (rest : List ℕ). length rest) (rest_is text place), length-drop place text))
    (sym ((bytes_eq-Decides word (take (length word) (drop place text))).0 (ap (λ rest. starts_with nat_eq rest word) (sym (rest_is text place)) ∙ sym value ∙ is)))

-- and only there
pub stands_only_if : (text word : List ℕ) (place : ℕ) → starts_with nat_eq (slice_range text place (length text)) word ≡ false → ¬ (OccursAt text word place)
stands_only_if text word place differs h =
    let begins : starts_with nat_eq (slice_range text place (length text)) word ≡ true =
    ap (λ rest. starts_with nat_eq rest word) (rest_is text place) ∙ (bytes_eq-Decides word (take (length word) (drop place text))).1 (sym (OccursAt-part text word place h)) in
    let both : true ≡ false = sym begins ∙ differs in
    cc

-- one place more without
pub one_more : (P : ℕ → Type 0) (from to : ℕ) → Nowhere P from to → ¬ P to → Nowhere P from (to + 1)
one_more P from to before none k low high is = ⊎_elim (λ less. before k low less is) (λ more. let same : k ≡ to = omega (arith, more, high) in none (subst P same is)) (cases_lt k to)

-- where neither word begins up to another place, no import statement begins up to there
pub passed_words : (text : List ℕ) (start place found : ℕ) → NoImportBegins text start place → Nowhere (WordLetters text) place found → NoImportBegins text start found
passed_words text start place found before none = nowhere_in_both (ImportMayBegin text start) start place found before (λ k low high is. none k low high (letters_of text start k is))
