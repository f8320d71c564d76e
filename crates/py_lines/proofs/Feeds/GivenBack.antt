-- What stays held where a line is ready.
use mir.Val.{bool_byte}
use Rattle.py_lines.proofs.Prelude.{Bool, ◌≡◌, ℕ, zero, suc, ◌+◌, ◌-◌, ◌==◌, ◌<◌, ◌≤◌, ◌⊎◌, true, false, None, Some, Ok, Err, Result, List, ◌++◌, length, take, drop, refl, sym, ap, ◌∙◌, subst, ⊎_elim, inl, inr, arith, length-append, length-drop, length-take, encode_utf8_all, max, slice_index, min, take_all, Vec, cases_lt, length-take-le, take-take, take_min, take-add, take-append-add, take-append_seam, drop-append_seam, is_return, ends, byte_len}
use Rattle.py_lines.proofs.Feeds.OpenLine.{fails_later, holds_on}
use Rattle.py_lines.specs.Private.LineScan.{EndsWhole, ScansIn}
use Rattle.py_lines.specs.ScannerState.{EndsExactly}
use Rattle.py_lines.specs.Private.LineState.{reread}
use Rattle.py_lines.specs.Private.Feed.{EndsWithLine, FailsAfter, Holds, HoldsMore, IsScanned, IsUnchanged, LexError, LineState, Meets, StopsHeld, Scan, Stop, Feed, Mode, Takes}
use Rattle.py_lines.proofs.Feeds.LastBytes.{ends-encoded, exactly, last_test, one_most}
use Rattle.py_lines.proofs.Feeds.ReadyLines.{ended_alone, stopped_text}

-- a line's end stays whole where one byte after CR stays
whole_taken : (line after : List ℕ) (returns : Bool) (k : ℕ) → returns ≡ ends is_return line → bool_byte returns ≤ k → EndsWhole line after → EndsWhole line (take k after)
whole_taken line after returns k is within (inl feed) = inl feed
whole_taken line after false k is within whole = inl (sym is)
whole_taken line after true zero is within whole = absurd (omega (arith, within))
whole_taken line after true (suc k) is within (inr (b, more, spell, other)) = inr (b, take k more, ap (take (suc k)) spell, other)

-- a line that has ended in these bytes
module _ {m : Mode} {bytes : List ℕ} {scan : Scan} {end_len : ℕ} (s : ScansIn m bytes scan (Stop.LineEnd end_len)) where
  stop_is : scan.stop ≡ byte_len s.read
  stop_is = (ended_alone s).stop

  bytes_size : length bytes ≡ scan.stop + length s.rest
  bytes_size = omega (arith, stop_is, ap length (sym s.spell), length-append (encode_utf8_all s.read) s.rest)

  pub stop_within : scan.stop ≤ length bytes
  stop_within = omega (arith, bytes_size)

  pub stop_some : 0 < scan.stop
  stop_some = omega (arith, stop_is, (ended_alone s).line.some)

  -- what a test for CR says of its last byte
  pub returns_is : (slice_index bytes (scan.stop - 1) == 13) ≡ ends is_return s.read
  returns_is = last_test bytes scan.stop stop_some stop_within ∙ ap (ends is_return) (stopped_text scan.stop bytes s.read s.rest s.spell stop_is) ∙ ends-encoded s.read

  module _ (returns : Bool) (is : returns ≡ ends is_return s.read) where
    -- after CR one byte more is part of it
    exact : (bool_byte returns ≤ length s.rest) × EndsExactly s.read (take (bool_byte returns) s.rest)
    exact = exactly s.read s.rest returns is s.stops.1

    -- so many of the bytes, which the line is part of
    ends_in_first : (n : ℕ) (items : List ℕ) → items ≡ take n bytes → scan.stop + bool_byte returns ≤ n → ScansIn m items scan (Stop.LineEnd end_len)
    ends_in_first n items first within = let parts : n ≡ byte_len s.read + (n - byte_len s.read) = omega (arith, stop_is, within) in record {
      read = s.read;
      rest = take (n - byte_len s.read) s.rest;
      scalars = s.scalars;
      spell = sym (first ∙ ap (take n) (sym s.spell) ∙ ap (λ (k : ℕ). take k (encode_utf8_all s.read ++ s.rest)) parts ∙ take-append-add (encode_utf8_all s.read) s.rest (n - byte_len s.read));
      stops = (s.stops.0, whole_taken s.read s.rest returns (n - byte_len s.read) is (omega (arith, stop_is, within)) s.stops.1);
    }

-- so many bytes of a piece are held after those that were: some, if there are any, and as many as the scan stops in
pub record HoldsStop (m : Mode) (held piece : List ℕ) (scan : Scan) (stop : Stop) (n : ℕ) : Type 0 where
  pub some : n ≡ 0 → length piece ≡ 0
  pub within : n ≤ length piece
  pub stops : ScansIn m (held ++ take n piece) scan stop

module _ {m : Mode} (held piece : List ℕ) {scan : Scan} where
  -- all
  pub holds_bytes : {stop : Stop} → ScansIn m (held ++ piece) scan stop → HoldsStop m held piece scan stop (length piece)
  holds_bytes {stop} s = grind (arith, take_all)

  -- or up to the end of the line
  pub holds_line_end : {end_len : ℕ} (n : ℕ) → n ≡ min (length piece) (scan.stop + 1) → ScansIn m (held ++ piece) scan (Stop.LineEnd end_len) → HoldsStop m held piece scan (Stop.LineEnd end_len) n
  holds_line_end n is s = record {
    some = λ none. omega (arith, is, none);
    within = omega (arith, is);
    stops = let returns = ends is_return s.read in ends_in_first s returns refl (length held + n) (held ++ take n piece) (sym (take-append-add held piece n)) (omega (arith, is, one_most returns, (exact s returns refl).0, bytes_size s, length-append held piece));
  }

-- so many of the bytes that are held stay so: more than these first ones, if more are held
module _ (f : Feed) (before : ℕ) (within : before ≤ length f.held.items) where
  stays : (kept n : ℕ) (new : Feed) → n ≡ length new.held.items - before → Holds f (take kept f.held.items) f.state.fault new → (before < kept) ⊎ (length f.held.items ≤ kept) → EndsWithLine (take before f.held.items) new new.ready
      → Meets f before (Ok n) new
  stays kept n new count text more ends = let items = f.held.items in let size = ap length text.held ∙ length-take kept items in
      let parts : min kept (length items) ≡ before + n = ⊎_elim (λ some. omega (arith, some, size, within, count)) (λ all. omega (arith, all, size, within, count)) more in
      record {
        within = omega (arith, parts, length-drop before items);
        some = λ none. ⊎_elim (λ some. omega (arith, some, none, parts, length-drop before items)) (λ all. omega (arith, all, none, parts, length-drop before items)) more;
        text = subst (λ t. Holds f t f.state.fault new) (sym (take_min kept items) ∙ ap (λ (k : ℕ). take k items) parts ∙ take-add before n items) text;
        ends = ends;
      }

  -- all, where no line has ended
  pub stays_open : (n : ℕ) → n ≡ length f.held.items - before → f.ready ≡ None → IsScanned f None → Meets f before (Ok n) f
  stays_open n count none scanned = stays (length f.held.items) n f count (record { held = sym (take_all (length f.held.items) f.held.items (omega arith)); place = refl; line = refl; ended = refl; fault = refl }) (inr (omega arith))
      (subst (EndsWithLine (take before f.held.items) f) (sym none) scanned)

  -- or the line that has
  pub stays_line : {end_len : ℕ} (s : StopsHeld f (Stop.LineEnd end_len)) (returns : Bool) → returns ≡ ends is_return s.read → (v : Vec ℕ) (kept n : ℕ) → n ≡ length v.items - before → v.items ≡ take kept f.held.items
      → kept ≡ max (f.state.scan.stop + bool_byte returns) (before + 1) → Meets f before (Ok n) (record f { held = v; ready = Some end_len })
  unfolding ends_in_first
  stays_line {end_len} s returns is v kept n count held most = stays kept n (record f { held = v; ready = Some end_len }) count (record { held = held; place = refl; line = refl; ended = refl; fault = refl }) (inl (omega (arith, most))) (
    ends_in_first s returns is kept v.items held (omega (arith, most)),
    ⊎_elim (λ less. inl (let size : bool_byte returns ≡ kept - byte_len s.read = omega (arith, most, less, stop_is s) in subst (λ (k : ℕ). EndsExactly s.read (take k s.rest)) size (exact s returns is).1))
        (λ past. inr (ends_in_first s returns is before (take before f.held.items) refl past)) (cases_lt before (f.state.scan.stop + bool_byte returns)),
  )

-- the bytes that were held stay so, and so many after them
pub takes_met : (old mid new : Feed) (piece : List ℕ) (k before : ℕ) → Holds old (old.held.items ++ take k piece) old.state.fault mid → k ≤ length piece → (k ≡ 0 → length piece ≡ 0) → before ≡ length old.held.items
    → (result : Result ℕ LexError) → Meets mid before result new → Takes old piece result new
takes_met old mid new piece k before text within some at (Ok n) met =
    let first : take before mid.held.items ≡ old.held.items = ap (take before) text.held ∙ ap (λ (i : ℕ). take i (old.held.items ++ take k piece)) at ∙ take-append_seam old.held.items (take k piece) in
    let later : drop before mid.held.items ≡ take k piece = ap (drop before) text.held ∙ ap (λ (i : ℕ). drop i (old.held.items ++ take k piece)) at ∙ drop-append_seam old.held.items (take k piece) in
    let h : HoldsMore mid old.held.items old.held.items (take k piece) n new = rw (first, later) at met in record {
      within = omega (arith, h.within, within, length-take-le k piece within);
      some = λ none. some (omega (arith, h.some none, length-take-le k piece within));
      text = holds_on text h.text (ap (λ l. old.held.items ++ l) (take-take n k piece (omega (arith, h.within, length-take-le k piece within)))) text.fault;
      ends = h.ends;
    }
takes_met old mid new piece k before text within some at (Err (LexError.Fault f)) met = (k, within, fails_later old mid new text text.held met)
takes_met old mid new piece k before text within some at (Err LexError.Memory) never = absurd never

-- so they are whatever the scan and the tokens were
pub takes_reread : (old : Feed) (state : LineState) → state ≡ reread old.state state → (piece : List ℕ) (result : Result ℕ LexError) (new : Feed)
    → Takes (record old { state = state }) piece result new → Takes old piece result new
takes_reread old state same piece (Ok n) new takes =
    let h = subst (λ (s : LineState). HoldsMore (record old { state = s }) old.held.items old.held.items piece n new) same takes in
    record { within = h.within; some = h.some; text = h.text; ends = h.ends }
takes_reread old state same piece (Err (LexError.Fault f)) new takes = subst (λ (s : LineState). FailsAfter (record old { state = s }) piece f new) same takes
takes_reread old state same piece (Err LexError.Memory) new takes = subst (λ (s : LineState). IsUnchanged (record old { state = s }) new) same takes
