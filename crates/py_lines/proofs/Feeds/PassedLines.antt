-- Lines that a scanner passed over are the next ones of each text that goes on with them.
use mir.Val.{bool_byte}
use Rattle.py_lines.proofs.Prelude.{◌≡◌, ℕ, ◌+◌, ◌<◌, ◌≤◌, ◌^◌, ⊎_elim, inl, inr, Bool, Option, None, List, [], ◌∷◌, ◌++◌, ◌-◌, eqb, length, take, drop, refl, sym, ap, ◌∙◌, subst, append_assoc, append-nil, arith, length-append, encode_utf8_all, flat_map, min, Vec, cases_lt, ends_with, drop-append_seam, take-add, length-drop, length-take-le, length-take, encodes-append, length-le-encodes, is_return, ends}
use Rattle.py_lines.specs.LogicalLine.{LogicalLine, byte_len, first_or_zero, line_ends, line_of}
use Rattle.py_lines.specs.Settled.{IsSettled}
use Rattle.py_lines.specs.ScannerState.{EndsExactly, GoesOnWith, HasSettled, HoldsAfterLines, HoldsReady, IsScanning, PassesPieceLines, ScannerState, StandsAtLine, ready_lines}
use Rattle.py_lines.specs.Private.Feed.{IsSoundFeed, StandsSo, Scan, Feed, ready_of, scanning_of, LineState, AreFirstLines}
use Rattle.py_lines.specs.Private.LineState.{BeginsAnew}
use Rattle.py_lines.specs.Private.LineScan.{EndsWhole}
use Rattle.py_lines.specs.Private.WholeLines.{AreWholeLines, BeginWithLines}
use Rattle.py_lines.proofs.LineScan.LineCount.{line_ends-bytes}
use Rattle.py_lines.proofs.LineScan.WholeLines.{bytes_whole, last_ends}
use Rattle.py_lines.proofs.LogicalLines.Cuts.{line_ends-append}
use Rattle.py_lines.proofs.Readers.PassedLines.{AreSettledAt, apart, line_settled, lines_at, lines_spell, pieces_of, shown, take_slice}
use Rattle.py_lines.proofs.Feeds.Known.{goes_after, goes_with_first}
use Rattle.py_lines.proofs.Feeds.ReadyLines.{none_ready}
use Rattle.py_lines.proofs.Feeds.LastBytes.{ends-encoded, ends_with_return, exactly}
use Rattle.py_lines.proofs.Feeds.OpenLine.{begun_open, begun_unchanged, runs_out}

-- which bytes come after the first of those that follow is no matter
same_first : (line xs others more : List ℕ) → 0 < length xs → EndsWhole line (xs ++ others) → EndsWhole line (xs ++ more)
same_first line [] others more some whole = absurd (omega (arith, some))
same_first line (x ∷ xs) others more some (inl feed) = inl feed
same_first line (x ∷ xs) others more some (inr (b, rest, is, other)) = inr (x, xs ++ more, refl, λ feeds. other (ap first_or_zero (sym is) ∙ feeds))

-- so lines, of which there is one at least
all_settled : (texts : List (List ℕ)) (text : List ℕ) (place line : ℕ) (given : List LogicalLine) (read more after : List ℕ) (are : AreWholeLines texts read after) → 0 < byte_len read → AreFirstLines text place line given → GoesOnWith text place (encode_utf8_all read ++ more) → EndsExactly read more
    → AreSettledAt text (place + byte_len read) (line + line_ends read) (length more) (given ++ lines_at texts place line read after are)
all_settled [] text place line given read more after are full first goes exact = absurd (omega (arith, full, ap byte_len are))
all_settled (t ∷ []) text place line given read more after are full first goes exact =
    let all : read ≡ t = are.spell ∙ ap (λ u. t ++ u) are.lines ∙ append-nil t in
    subst (λ u. AreSettledAt text (place + byte_len u) (line + line_ends u) (length more) (given ++ lines_at (t ∷ []) place line read after are)) (sym all)
    (line_settled text place line given first t more (subst (λ u. GoesOnWith text place (encode_utf8_all u ++ more)) all goes) (subst (λ u. EndsExactly u more) all exact) (encode_utf8_all are.later ++ after) are.whole)
all_settled (t ∷ u ∷ texts) text place line given read more after are full first goes exact =
    let own_bytes = encode_utf8_all t in let later_bytes = encode_utf8_all are.later in
    let spell : encode_utf8_all read ≡ own_bytes ++ later_bytes = ap encode_utf8_all are.spell ∙ encodes-append t are.later in
    let split : GoesOnWith text place (own_bytes ++ (later_bytes ++ more)) = subst (GoesOnWith text place) (ap (λ b. b ++ more) spell ∙ append_assoc own_bytes later_bytes more) goes in
    let some : 0 < length are.later = omega (arith, ap length are.lines.spell, length-append u are.lines.later, are.lines.some) in
    let own = shown t (later_bytes ++ more) (same_first t later_bytes after more (omega (arith, some, length-le-encodes are.later)) are.whole.whole) in
    let near : GoesOnWith text place (own_bytes ++ own.more) = goes_with_first text place (own_bytes ++ own.more) own.unseen (subst (GoesOnWith text place) (ap (λ b. own_bytes ++ b) own.spell ∙ sym (append_assoc own_bytes own.more own.unseen)) split) in
    let one = line_settled text place line given first t own.more near own.exact (later_bytes ++ after) are.whole in
    let here = line_of place line (pieces_of are.whole) in
    let others = all_settled (u ∷ texts) text (place + byte_len t) (line + line_ends t) (given ++ here ∷ []) are.later more after are.lines (omega (arith, some, length-le-encodes are.later)) one.0 (goes_after text place own_bytes (later_bytes ++ more) split) (rw (last_ends read t are.later are.spell some) at exact) in
    let place_is : place + byte_len t + byte_len are.later ≡ place + byte_len read = omega (arith, ap length spell, length-append own_bytes later_bytes) in
    let line_is : line + line_ends t + line_ends are.later ≡ line + line_ends read = omega (arith, ap line_ends are.spell, line_ends-append t are.later (apart t are.later after are.whole.whole)) in
    let rest = lines_at (u ∷ texts) (place + byte_len t) (line + line_ends t) are.later after are.lines in
    rw (← append_assoc given (here ∷ []) rest, ← place_is, ← line_is) others

-- what is held after them: one byte more after CR
module _ (bytes : List ℕ) (len : ℕ) (found : BeginWithLines bytes len) (returns : Bool) (is : returns ≡ ends is_return (take len bytes)) where
  more_held : (bool_byte returns ≤ length (drop len bytes)) × EndsExactly (take len bytes) (take (bool_byte returns) (drop len bytes))
  more_held = exactly (take len bytes) (drop len bytes) returns is (bytes_whole bytes len found)

  pub end_within : len + bool_byte returns ≤ length bytes
  end_within = omega (arith, more_held.0, length-drop len bytes)

  pub holds_after : HoldsAfterLines bytes len (take (bool_byte returns) (drop len bytes))
  holds_after = let k = bool_byte returns in let size : length (take k (drop len bytes)) ≡ k = length-take-le k (drop len bytes) more_held.0 in
      record { exact = more_held.1; within = omega (arith, size, end_within); next = ap (λ (n : ℕ). take (len + n) bytes) size ∙ take-add len k bytes }

-- no line is passed over
pub none_found : (s : ScannerState) (bytes : List ℕ) (before : ℕ) → PassesPieceLines s bytes before 0 s
none_found s bytes before = grind arith

-- where no line is passed over the scan of the next one begins anew
module _ (f : Feed) (held : Vec ℕ) (state : LineState) (scan : Scan) (stands : StandsAtLine (scanning_of f)) (kept : held.items ≡ f.held.items) (anew : BeginsAnew (record f.state { scan = scan }) state) where
  abbrev begun : Feed
  begun = record f { state = state; held = held }

  pub begun_none : (bytes : List ℕ) (before : ℕ) → IsSoundFeed f → PassesPieceLines (scanning_of f) bytes before 0 (scanning_of begun) × IsSoundFeed begun
  begun_none bytes before sound = let none = none_ready f f.ready stands.ready in let short = runs_out sound stands.no_fault none
      (begun_unchanged f begun (record f.state { scan = scan }) none (record { held = kept; place = refl; line = refl; ended = refl; fault = refl }) anew) in
      let same = short.0.same in (
        subst (λ (s : ScannerState). PassesPieceLines (scanning_of f) bytes before 0 s) (sym same) (none_found (scanning_of f) bytes before),
        short.1,
      )

-- the lines that the code has found in the first of these bytes, after which the scan of the next line begins
module _ (f : Feed) (bytes : List ℕ) (before stop len : ℕ) (stands : StandsAtLine (scanning_of f)) (began : take (length f.held.items) bytes ≡ f.held.items) (stop_is : stop ≡ min before (length bytes)) (found : BeginWithLines (take stop bytes) len) where
  read_is : encode_utf8_all found.read ≡ take len bytes
  read_is = found.spell ∙ take_slice bytes len stop found.within

  up_to : len ≤ stop
  up_to = omega (arith, found.within, length-take stop bytes)

  read_size : byte_len found.read ≡ len
  read_size = ap length read_is ∙ length-take-le len bytes (omega (arith, up_to, stop_is))

  few : line_ends found.read ≤ len
  few = omega (arith, line_ends-bytes found.read, read_size)

  lines : List LogicalLine
  lines = lines_at found.texts f.state.place f.state.line found.read (drop len (take stop bytes)) found.whole

  not_ready : f.ready ≡ None
  not_ready = none_ready f f.ready stands.ready

  -- what is held then: the byte after CR alone, or what was where no line was found
  module _ (held : Vec ℕ) (returns : Bool) (is : returns ≡ ends_with eqb (take len (take stop bytes)) (13 ∷ []))
      (held_is : held.items ≡ drop (min (length f.held.items) len) (f.held.items ++ take (len + bool_byte returns - len) (drop len (take stop bytes)))) where
    returned : returns ≡ ends is_return (take len (take stop bytes))
    returned = is ∙ ends_with_return (take len (take stop bytes))

    same : len ≡ 0 → held.items ≡ f.held.items
    same zero = grind arith

    holds : 0 < len → HoldsAfterLines (take stop bytes) len held.items
    holds some = let more = take (bool_byte returns) (drop len (take stop bytes)) in
        let all : min (length f.held.items) len ≡ length f.held.items = omega (arith, some, stands.held) in let size : len + bool_byte returns - len ≡ bool_byte returns = omega arith in
        subst (HoldsAfterLines (take stop bytes) len) (sym (held_is ∙ rw (all, size) (drop-append_seam f.held.items more))) (holds_after (take stop bytes) len found returns returned)

    holds_here : 0 < len → HoldsAfterLines bytes len held.items
    holds_here some = let h = holds some in let room = h.within in record {
      exact = subst (λ t. EndsExactly t held.items) (take_slice bytes len stop found.within) h.exact;
      within = omega (arith, room, stop_is, length-take stop bytes);
      next = sym (take_slice bytes (len + length held.items) stop h.within) ∙ h.next ∙ ap (λ t. t ++ held.items) (take_slice bytes len stop found.within);
    }

    exact : 0 < len → EndsExactly found.read held.items
    exact some = rw (ap (ends is_return) (sym read_is) ∙ ends-encoded found.read) at (holds_here some).exact

    module _ (state : LineState) where
      abbrev after : Feed
      after = record f { state = record f.state { place = f.state.place + len; line = f.state.line + line_ends found.read; scan = state.scan; tokens = state.tokens }; held = held }

      ready : ready_of after f.ready ≡ None
      ready = ap (ready_of after) not_ready

      scans : 0 < len → (text : List ℕ) (given : List LogicalLine) → IsScanning (scanning_of f) text given → GoesOnWith text f.state.place (take len bytes ++ held.items) → HasSettled (scanning_of after) text (given ++ lines)
      unfolding lines
      scans some text given scanning goes =
          let next : GoesOnWith text f.state.place (encode_utf8_all found.read ++ held.items) = subst (λ t. GoesOnWith text f.state.place (t ++ held.items)) (sym read_is) goes in
          let at : AreSettledAt text after.state.place after.state.line (length held.items) (given ++ lines) = subst (λ (n : ℕ). AreSettledAt text (f.state.place + n) after.state.line (length held.items) (given ++ lines)) read_size
          (all_settled found.texts text f.state.place f.state.line given found.read held.items (drop len (take stop bytes)) found.whole (omega (arith, some, read_size)) scanning.first next (exact some)) in
          let none : (given ++ lines) ++ ready_lines (ready_of after f.ready) ≡ given ++ lines = ap (λ (r : Option LogicalLine). (given ++ lines) ++ ready_lines r) ready ∙ append-nil (given ++ lines) in (
            record {
              first = at.0;
              held = subst (λ (n : ℕ). GoesOnWith text (f.state.place + n) held.items) read_size (goes_after text f.state.place (encode_utf8_all found.read) held.items next);
              settled = λ (more : 0 < length held.items). subst (IsSettled (take (after.state.place + length held.items) text)) (sym none) at.1;
              whole = subst (HoldsReady held.items) (sym ready) tt;
              open_yet = stands.open_yet;
              no_fault = stands.no_fault;
            },
            at.1,
          )

      texts : flat_map (λ (l : LogicalLine). l.text) lines ≡ take len bytes
      unfolding lines
      texts = lines_spell found.texts f.state.place f.state.line found.read (drop len (take stop bytes)) found.whole ∙ read_is

      passes_lines : PassesPieceLines (scanning_of f) bytes before len (scanning_of after)
      passes_lines = let seen : ready_of after f.ready ≡ ready_of f f.ready = ready ∙ sym stands.ready in record {
        lines = lines;
        texts = texts;
        ends = omega (arith, up_to, stop_is);
        stands = λ more. stands;
        began = λ more. began;
        held = holds_here;
        scans = scans;
        place = refl;
        others = λ i. record { place = after.state.place; line = after.state.line; held = held.items; ready = seen i; ended = f.ended; fault = f.state.fault };
        same = λ none.
            let here : after.state.place ≡ f.state.place = omega (arith, none) in let number : after.state.line ≡ f.state.line = omega (arith, none, few) in
            (λ i. record { place = here i; line = number i; held = same none i; ready = seen i; ended = f.ended; fault = f.state.fault });
      }

    pub passed : {ends : ℕ} → ends ≡ line_ends found.read → {scan : Scan} {state : LineState} → BeginsAnew (record f.state { place = f.state.place + len; line = f.state.line + ends; scan = scan }) state → f.state.place + length bytes ≤ 2 ^ 62 → IsSoundFeed f
        → PassesPieceLines (scanning_of f) bytes before len (scanning_of (record f { state = state; held = held })) × IsSoundFeed (record f { state = state; held = held })
    passed ends_are {scan} {state} new_line fits sound =
        let anew = subst (λ (n : ℕ). BeginsAnew (record f.state { place = f.state.place + len; line = f.state.line + n; scan = scan }) state) ends_are new_line in
        let place : state.place ≡ f.state.place + len = ap (λ (s : LineState). s.place) anew.same in
        let line : state.line ≡ f.state.line + line_ends found.read = ap (λ (s : LineState). s.line) anew.same in
        let room : f.state.place + len + length held.items ≤ 2 ^ 62 = ⊎_elim (λ some. let h = (holds_here some).within in omega (arith, h, fits)) (λ none. let zero : len ≡ 0 = omega (arith, none) in omega (arith, zero, ap length (same zero), sound.room.fits)) (cases_lt 0 len) in (
          subst (λ (s : LineState). PassesPieceLines (scanning_of f) bytes before len (scanning_of (record f { state = s; held = held }))) (sym anew.same) (passes_lines state),
          record {
            room = record { fits = omega (arith, place, room); few_lines = omega (arith, place, line, few, sound.room.few_lines) };
            state = subst (StandsSo (record f { state = state; held = held })) (sym not_ready) (λ no_fault. (held.items, begun_open _ (record f { state = state; held = held }) anew));
          },
        )
