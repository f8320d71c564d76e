-- The word that bytes end with.
use Rattle.py_lines.proofs.Prelude.{take-suc, ◌≡◌, ℕ, suc, ◌+◌, ◌-◌, ◌<◌, ◌≤◌, true, false, Option, None, Some, List, [], ◌∷◌, ◌++◌, length, take, drop, slice_index, refl, sym, ap, ◌∙◌, arith, take_all, take-append-drop, zero, inl, inr, length-drop, get_or-drop, list_all, and_parts, length-take-le, Spelling, rest_is, rest_of}
use Rattle.py_lines.specs.Private.Machine.{first_spelling, spelling_on, spelling_with}
use Rattle.py_lines.specs.Private.Passing.{tail_of, tail_on, tail_with}
use Rattle.py_lines.specs.Private.Run.{is_ascii_word, word_spelling}
use Rattle.py_lines.specs.Private.TakenPieces.{IsWordStart}
use Rattle.py_lines.proofs.LineScan.AsciiRuns.{all_pass}

-- the word that a text ends with
pub tail_on-append : (t : Option Spelling) (xs ys : List ℕ) → tail_on t (xs ++ ys) ≡ tail_on (tail_on t xs) ys
tail_on-append t [] ys = refl
tail_on-append t (x ∷ xs) ys = tail_on-append (tail_with t x) xs ys

pub no_tail_with : (t : Option Spelling) (c : ℕ) → is_ascii_word c ≡ false → tail_with t c ≡ None
no_tail_with None c none = rw none refl
no_tail_with (Some s) c none = rw none refl

pub no_tail : (read : List ℕ) (c : ℕ) → is_ascii_word c ≡ false → tail_of (read ++ c ∷ []) ≡ None
no_tail read c none = tail_on-append None read (c ∷ []) ∙ no_tail_with (tail_of read) c none

-- no word ends where one begins, or none does
pub none_before : (bytes : List ℕ) (k : ℕ) → IsWordStart bytes k → tail_of (take k bytes) ≡ None
none_before bytes zero start = refl
none_before bytes (suc n) start =
    let before : suc n - 1 ≡ n = omega arith in
    elim start.apart [
      | inl none ↦ absurd (omega (arith, none))
      | inr other ↦ ap tail_of (take-suc bytes n 0 (omega (arith, start.within)))
          ∙ no_tail (take n bytes) (slice_index bytes n) (ap (λ i. is_ascii_word (slice_index bytes i)) (sym before) ∙ other)
    ]

-- a word of ASCII is the one that it ends with
word_goes_on : (s : Spelling) (cs : List ℕ) → list_all is_ascii_word cs ≡ true → tail_on (Some s) cs ≡ Some (spelling_on s cs)
word_goes_on s [] all = refl
word_goes_on s (c ∷ cs) all = let parts = and_parts (is_ascii_word c) (list_all is_ascii_word cs) all in rw (parts.0) (word_goes_on (spelling_with s c) cs parts.1)

word_tail : (word : List ℕ) → 0 < length word → list_all is_ascii_word word ≡ true → tail_of word ≡ Some (word_spelling word)
word_tail [] some all = absurd (omega (arith, some))
word_tail (c ∷ cs) some all = let parts = and_parts (is_ascii_word c) (list_all is_ascii_word cs) all in rw (parts.0) (word_goes_on (first_spelling c) cs parts.1)

-- the bytes end with the word that begins there, or with none
module _ (bytes : List ℕ) (k : ℕ) (start : IsWordStart bytes k) where
  pub no_word_there : length bytes ≤ k → tail_of bytes ≡ None
  no_word_there all = ap tail_of (sym (take_all k bytes all)) ∙ none_before bytes k start

  pub word_there : k < length bytes → tail_of bytes ≡ Some (word_spelling (rest_of bytes k))
  word_there some =
      let word = rest_of bytes k in
      let room : length bytes - k ≤ length (drop k bytes) = omega (arith, length-drop k bytes) in
      let all = all_pass is_ascii_word (drop k bytes) (length bytes - k) room
      (λ i less. ap is_ascii_word (get_or-drop k bytes i 0) ∙ start.each (k + i) (omega arith) (omega (arith, less))) in
      ap tail_of (sym (take-append-drop k bytes) ∙ ap (λ x. take k bytes ++ x) (sym (rest_is bytes k))) ∙ tail_on-append None (take k bytes) word
      ∙ ap (λ t. tail_on t word) (none_before bytes k start) ∙ word_tail word (omega (arith, some, length-take-le (length bytes - k) (drop k bytes) room)) all
