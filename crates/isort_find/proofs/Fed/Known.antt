-- The lines that a scanner has released, and those that are known.
use Rattle.std.proofs.Common.{◌≡◌, ℕ, ◌<◌, Bool, true, false, Option, None, Some, List, [], ◌∷◌, ◌++◌, length, take, drop, inl, inr, refl, sym, ap, subst, length-append, arith}
use Rattle.std.proofs.lemmas.List.{take-append-drop}
use Rattle.py_lines.specs.LogicalLine.{LogicalLine}
use Rattle.py_lines.specs.Lexed.{IsLexed, BeginsLexing}
use Rattle.py_lines.specs.Settled.{IsSettled}
use Rattle.py_lines.specs.Given.{AreFirstLines}
use Rattle.py_lines.specs.Reader.{HasGiven, standing_at}
use Rattle.py_lines.specs.ScannerState.{ScannerState, fed_of, ready_lines, HoldsReady, IsScanning}
use Rattle.isort_find.specs.Pieces.{HasReleased, AreKnown}
use Rattle.isort_find.specs.declared.pending.LineStart.{LineStart}
use Rattle.isort_find.specs.Private.KnownLaws.{SettledLaws}
use Rattle.isort_find.proofs.Finds.SettledFound.{append-nil-lines}

pub true_or_false : (b : Bool) → b ≡ false → b ≡ true → ⊥
true_or_false b h k = cc

pub none_or_some : (r : Option LogicalLine) (line : LogicalLine) → r ≡ None → r ≡ Some line → ⊥
none_or_some r line h k = cc

-- where the lines end that a scanner has released
abbrev pub next_start : ScannerState → LineStart
next_start s = record { offset = s.place; line = s.line }

-- the first lines of a text, said of a scanner and of a reader
pub given_first : (text : List ℕ) (place line : ℕ) (lines : List LogicalLine) → AreFirstLines text place line lines → HasGiven (standing_at text place line) lines
given_first text place line lines h = record { first = h; no_fault = refl }

-- the scanner's first lines of the text
first_of : (s : ScannerState) (text : List ℕ) (lines : List LogicalLine) → HasReleased s text lines → AreFirstLines text s.place s.line lines
first_of s text lines (inl h) = h.first
first_of s text lines (inr h) = h.first

pub given_of : (s : ScannerState) (text : List ℕ) (lines : List LogicalLine) → HasReleased s text lines → HasGiven (standing_at text s.place s.line) lines
given_of s text lines h = given_first text s.place s.line lines (first_of s text lines h)

-- lines that are known begin the lexing of the text
pub known_begins : SettledLaws → (s : ScannerState) (text : List ℕ) (lines : List LogicalLine) → AreKnown s text lines → BeginsLexing text lines
known_begins laws s text lines (inl settled) = subst (λ (t : List ℕ). BeginsLexing t lines) (take-append-drop (fed_of s) text) (laws.lines (take (fed_of s) text) (drop (fed_of s) text) lines settled)
known_begins laws s text lines (inr lexed) = record { more = []; end = None; lexed = subst (λ (ls : List LogicalLine). IsLexed text ls None) (sym (append-nil-lines lines)) lexed.1 }

holds_some : (held : List ℕ) (line : LogicalLine) → HoldsReady held (Some line) → 0 < length line.text → 0 < length held
holds_some held line whole some =
    let len = ap length whole.1 in
    omega (arith, len, length-append line.text whole.0, some)

-- the line that is ready is known, with those before it
pub ready_known : (s : ScannerState) (text : List ℕ) (lines : List LogicalLine) (line : LogicalLine) → HasReleased s text lines → s.ready ≡ Some line → 0 < length line.text → AreKnown s text (lines ++ line ∷ [])
ready_known s text lines line (inl h) ready some = inl (subst (λ (r : Option LogicalLine). IsSettled (take (fed_of s) text) (lines ++ ready_lines r)) ready (h.settled (holds_some s.held line (subst (HoldsReady s.held) ready h.whole) some)))
ready_known s text lines line (inr h) ready some = inr (h.ended, subst (λ (r : Option LogicalLine). IsLexed text (lines ++ ready_lines r) None) ready h.lexed)

-- before the text's end lines that are known are settled
pub known_settled : (s : ScannerState) (text : List ℕ) (lines : List LogicalLine) → s.ended ≡ false → AreKnown s text lines → IsSettled (take (fed_of s) text) lines
known_settled s text lines yet (inl settled) = settled
known_settled s text lines yet (inr ended) = absurd (true_or_false _ yet ended.0)

-- before the text's end the scanner stands in the text
pub still_scanning : (s : ScannerState) (text : List ℕ) (lines : List LogicalLine) → s.ended ≡ false → HasReleased s text lines → IsScanning s text lines
still_scanning s text lines yet (inl h) = h
still_scanning s text lines yet (inr h) = absurd (true_or_false _ yet h.ended)
