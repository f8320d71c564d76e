use Rattle.py_lines.proofs.Prelude.{◌≡◌, ◌<◌, ◌≤◌, ℕ, true, length, slice_index, is_ascii_word}
use Rattle.py_lines.proofs.line_scan.word_start.Given as goal

abbrev pub invariant-loop-start : goal.invariant-loop-start
invariant-loop-start l = record { within : l.start ≤ length l.plain; each : (i : ℕ) → l.start ≤ i → i < length l.plain → is_ascii_word (slice_index l.plain i) ≡ true }

abbrev pub decreases-loop-start : goal.decreases-loop-start
decreases-loop-start l = l.start
