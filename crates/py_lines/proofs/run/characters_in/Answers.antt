use Rattle.memchr.specs.Find.{IsFirstByte, is_byte2}
use Rattle.std.specs.Option.{unwrap_or}
use Rattle.std.proofs.lemmas.Grind.{common_steps}
use Rattle.py_lines.proofs.Prelude.{Option, length, arith, ◌≡◌, ◌<◌, ℕ, Bool, List, true, rules, sym, and_parts, ltb-true, length-take-le, OpenMode}
use Rattle.py_lines.specs.Character.{is_backslash, is_space}
use Rattle.py_lines.specs.Private.Run.{IsRunOf, Spans, is_ascii_word, is_long_byte, is_long_text_byte, stays}
use Rattle.py_lines.specs.declared.mode.Mode.TheVariants as opens
use Rattle.py_lines.specs.declared.mode.Spelling.{Spelling}
use Rattle.py_lines.specs.declared.mode.Spelling.TheVariants as spellings
use Rattle.py_lines.proofs.LineScan.AsciiRuns.{is_low, quote_fits, space_low, word_byte_low}
use Rattle.py_lines.proofs.LineScan.Spans.{low_spans, text_spans}
use Rattle.py_lines.proofs.run.characters_in.Goals as goal
use Rattle.py_lines.proofs.run.characters_in.Goals.{Joined-mode, in-Comment, in-Long+else-ascii-bytes+else-bytes-ascii-lt128, in-Short}

pub returns-in-Space : goal.returns-in-Space
returns-in-Space c = rw c.in-Space.is (low_spans is_space is_space c.args.bytes.now c.len_in.result c.len_in.ensures (λ b h. (h, space_low b h)))

-- a word that is no prefix
name : {mode : OpenMode} {spelling : Spelling} → mode ≡ opens.Word spelling → spelling ≡ spellings.Name → mode ≡ opens.Word spellings.Name
name is same = cc

pub returns-in-Word-Name : goal.returns-in-Word-Name
returns-in-Word-Name c =
    rw (name c.in-Word-Name.is (rw c.in-Word-Name.is at c.in-Word-Name.field-0-is))
    (low_spans is_ascii_word is_ascii_word c.args.bytes.now c.len_in-in-Word-Name.result c.len_in-in-Word-Name.ensures (λ b h. (h, word_byte_low b h)))

long_low : (q b : ℕ) → is_long_text_byte q b ≡ true → (is_long_byte q b ≡ true) × b < 128
long_low q b h = let parts = and_parts (is_long_byte q b) (is_low b) h in (parts.0, ltb-true b 128 parts.1)

pub returns-then-ascii-bytes : goal.returns-then-ascii-bytes
returns-then-ascii-bytes c =
    let q = c.in-Long.quote in
    rw c.in-Long.is (low_spans (is_long_byte q) (is_long_text_byte q) c.args.bytes.now c.len_in-ascii.result c.len_in-ascii.ensures (long_low q))

pub overflow_cast-quote : goal.overflow_cast-quote
overflow_cast-quote c = quote_fits c.in-Short.quote (rw c.in-Short.is at c.requires.quote)

pub overflow_cast-quote-in-Long : goal.overflow_cast-quote-in-Long
overflow_cast-quote-in-Long c = quote_fits c.in-Long.quote (rw c.in-Long.is at c.requires.quote)

pub overflow_cast-quote-in-Long-2 : goal.overflow_cast-quote-in-Long-2
overflow_cast-quote-in-Long-2 c = quote_fits c.in-Long.quote (rw c.in-Long.is at c.requires.quote)

-- no byte
none : (passes : ℕ → Bool) (bytes : List ℕ) → Spans passes bytes 0
none passes bytes = search rules

pub returns-in_default : goal.returns-in_default
returns-in_default c = none (stays c.args.mode) c.args.bytes.now

pub returns-in_default-2 : goal.returns-in_default-2
returns-in_default-2 c = none (stays c.args.mode) c.args.bytes.now

pub returns-in_default-3 : goal.returns-in_default-3
returns-in_default-3 c = none (stays c.args.mode) c.args.bytes.now

pub returns-in_default-4 : goal.returns-in_default-4
returns-in_default-4 c = none (stays c.args.mode) c.args.bytes.now

-- the bytes before the first quote or backslash
before_first : (q : ℕ) (bytes : List ℕ) (r : Option ℕ) → IsFirstByte (is_byte2 q 92) bytes r → IsRunOf (is_long_byte q) bytes (unwrap_or r (length bytes))
unfolding is_backslash
before_first q bytes r first = grind (arith, common_steps)

-- the run whose whole characters are taken
run : (c : Joined-mode) → IsRunOf (stays c.args.mode) c.args.bytes.now c.match-mode.run
unfolding is_backslash
run c = elim c.match-mode.branch [
  | in-Short w ↦ rw (w.run-is, w.in-Short.is) w.len_in-run.ensures
  | in-Long+else-ascii-bytes+else-bytes-ascii-lt128 w ↦ rw (w.run-is, w.in-Long.is, w.unwrap_or-run.ensures) (before_first w.in-Long.quote c.args.bytes.now w.memchr2.result w.memchr2.ensures)
  | in-Comment w ↦ rw (w.run-is, w.in-Comment.is) w.comment_run-run.ensures
]

pub slice_bounds-utf8_prefix-end : goal.slice_bounds-utf8_prefix-end
slice_bounds-utf8_prefix-end c = sym (length-take-le c.match-mode.run c.args.bytes.now (run c).within)

pub returns : goal.returns
returns c =
    text_spans (stays c.args.mode) c.args.bytes.now c.utf8_prefix.result.now c.match-mode.run (run (goal.at.returns c).Joined-mode)
    c.utf8_prefix.ensures.prefix c.utf8_prefix.utf8
