-- Line ends in bytes that are passed, by those of the bytes from there on.
use Rattle.py_lines.proofs.Prelude.{◌≡◌, ℕ, ◌+◌, ◌-◌, ◌<◌, ◌≤◌, Bool, true, false, List, [], ◌∷◌, ◌++◌, length, take, drop, slice_index, refl, sym, ap, ◌∙◌, subst, arith, length-drop, get_or-drop, take-append-drop, codes, list_all, list_any, and_from, and_parts, drop-drop, is_backslash, is_break, is_line_feed, is_quote, is_return, is_space, is_operator, is_closing, is_opening, Passing, line_ends, is_plain}
use Rattle.py_lines.specs.Private.LineEnds.{BeginsOuterEnd, CountsTo, IsOuterEnd}
use Rattle.py_lines.specs.Private.Passing.{IsCounted}
use Rattle.py_lines.specs.Private.Run.{is_ascii_word, is_line_byte}
use Rattle.py_lines.proofs.LineScan.AsciiRuns.{all_pass}
use Rattle.py_lines.proofs.LineScan.LineCount.{line_ends-le}
use Rattle.py_lines.proofs.PassedPieces.FirstBytes.{bytes_from}
use Rattle.py_lines.proofs.Text.CharacterTests.{excluded, none_of}

-- there are no more line ends than bytes
pub few_ends : (bytes : List ℕ) (p : Passing) → IsCounted bytes p → p.ends ≤ length bytes
few_ends bytes p counted = omega (arith, counted, line_ends-le bytes)

-- no line end stands from one byte to another
abbrev pub NoEnds : List ℕ → ℕ → ℕ → Type 0
NoEnds bytes from to = line_ends (drop to bytes) ≡ line_ends (drop from bytes)

-- bytes that pass a test that LF and CR don't
module _ (p : ℕ → Bool) (none : list_any p (codes "\n\r") ≡ false) where
  run_ends : (run rest : List ℕ) → list_all p run ≡ true → line_ends rest ≡ line_ends (run ++ rest)
  unfolding is_break is_line_feed is_return
  run_ends [] rest all = refl
  run_ends (c ∷ cs) rest all =
      let parts = and_parts (p c) (list_all p cs) all in
      grind (arith, excluded p is_break c (none_of p (codes "\n\r") c none) parts.0, run_ends cs rest parts.1)

  pub run_counts : (bytes : List ℕ) (at k : ℕ) → list_all p (take k (drop at bytes)) ≡ true → NoEnds bytes at (at + k)
  run_counts bytes at k all =
      ap line_ends (sym (drop-drop k at bytes)) ∙ run_ends (take k (drop at bytes)) (drop k (drop at bytes)) all
      ∙ ap line_ends (take-append-drop k (drop at bytes))

  pub byte_counts : (bytes : List ℕ) (at : ℕ) → at < length bytes → p (slice_index bytes at) ≡ true → NoEnds bytes at (at + 1)
  byte_counts bytes at within is = rw (bytes_from bytes at within) (run_ends (slice_index bytes at ∷ []) (drop (at + 1) bytes) (and_from _ _ is refl))

pub line_byte_counts : (bytes : List ℕ) (at : ℕ) → at < length bytes → is_line_byte (slice_index bytes at) ≡ true → NoEnds bytes at (at + 1)
unfolding is_break
line_byte_counts = byte_counts is_line_byte refl

pub plain_counts : (bytes : List ℕ) (from to : ℕ) → from ≤ to → to ≤ length bytes
    → ((i : ℕ) → from ≤ i → i < to → is_plain (slice_index bytes i) ≡ true) → NoEnds bytes from to
unfolding is_plain is_ascii_word is_space is_operator is_opening is_closing
plain_counts bytes from to more within plain =
    let there : from + (to - from) ≡ to = omega (arith, more) in
    subst (λ (n : ℕ). NoEnds bytes from n) there (run_counts is_plain refl bytes from (to - from)
    (all_pass is_plain (drop from bytes) (to - from) (omega (arith, more, within, length-drop from bytes))
    (λ i less. ap is_plain (get_or-drop from bytes i 0) ∙ plain (from + i) (omega arith) (omega (arith, less)))))

-- two quotes, and bytes between them
pub quoted_counts : (bytes : List ℕ) (at end to : ℕ) → to ≡ end + 1 → at < length bytes → end < length bytes → is_quote (slice_index bytes at) ≡ true
    → slice_index bytes end ≡ slice_index bytes at → NoEnds bytes (at + 1) end → NoEnds bytes at to
unfolding is_quote
quoted_counts bytes at end to next within upto quote closes between =
    ap (λ (n : ℕ). line_ends (drop n bytes)) next ∙ byte_counts is_quote refl bytes end upto (ap is_quote closes ∙ quote) ∙ between
    ∙ byte_counts is_quote refl bytes at within quote

-- bytes of a line
pub line_counts : (bytes : List ℕ) (at k : ℕ) → list_all is_line_byte (take k (drop at bytes)) ≡ true → NoEnds bytes at (at + k)
unfolding is_break
line_counts = run_counts is_line_byte refl

-- a line end
outer_counts : (text after : List ℕ) → IsOuterEnd text after → 1 + line_ends after ≡ line_ends (text ++ after)
unfolding is_line_feed is_return
outer_counts text after is = grind arith

pub end_counts : (bytes : List ℕ) (at len : ℕ) → BeginsOuterEnd (drop at bytes) len → CountsTo bytes at (at + len) 1
end_counts bytes at len begins =
    ap (λ xs. 1 + line_ends xs) (sym (drop-drop len at bytes)) ∙ outer_counts (take len (drop at bytes)) (drop len (drop at bytes)) begins.is
    ∙ ap line_ends (take-append-drop len (drop at bytes))

pub join_counts : (bytes : List ℕ) (at len : ℕ) → at < length bytes → is_backslash (slice_index bytes at) ≡ true
    → BeginsOuterEnd (drop (at + 1) bytes) len → CountsTo bytes at (at + 1 + len) 1
unfolding is_backslash
join_counts bytes at len within slash begins = end_counts bytes (at + 1) len begins ∙ byte_counts is_backslash refl bytes at within slash
