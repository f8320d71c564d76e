-- Bytes of a piece were taken: what they settle and decide, where they were scanned, and what the call that feeds it answers.
use Rattle.py_lines.proofs.Prelude.{◌≡◌, ℕ, ◌+◌, ◌<◌, false, None, Some, List, [], ◌∷◌, ◌++◌, length, take, sym, ap, ◌∙◌, subst, ⊎_elim, inl, inr, append-nil, arith, length-append, encode_utf8_all, ◌-◌, ◌≤◌, ◌^◌, Option, Err, drop, refl, append_assoc, length-drop, ◌⊎◌, true, is_some, cases_lt, all_scalars, length-take-le, nil_from_length, take-append-drop, take_all, take-add, is_return, ends, spelled, LogicalLine, line_of, first_mode}
use Rattle.py_lines.specs.Lexed.{IsLexed}
use Rattle.py_lines.specs.Settled.{IsSettled, Decides, DecideNone}
use Rattle.py_lines.specs.ScannerState.{GoesOnWith, EndsExactly, HoldsReady, ScannerState, IsScanning, TakesBytes, WhereFed, fed_of, ready_lines, Feeds, FeedsNaming, LacksBoth, MeetsFault, Releases, TakesNaming}
use Rattle.py_lines.specs.Private.LineScan.{EndsWhole, IsApart, ScansIn}
use Rattle.py_lines.specs.Private.Feed.{IsScanned, Scan, Stop, Feed, AreFirstLines, EndsWithLine, FailsAfter, Holds, HoldsLine, HoldsMore, HoldsSo, IsSoundFeed, IsUnchanged, StandsSo, Takes, TakesLine, TakesSo, line_held, Fault, LexError, ready_of, scanning_of, HasReadTokens, LetsGo, ReadsTokens, with_line, line_of_feed}
use Rattle.py_lines.proofs.Text.Utf8Prefixes.{all_scalars-parts, nothing_bad}
use Rattle.py_lines.proofs.Lexings.DecidedFaults.{decided_fault, decided_more}
use Rattle.py_lines.proofs.Lexings.FirstLines.{first_reading}
use Rattle.py_lines.proofs.Feeds.Known.{IsKnown, given_bytes, is_known, first_at, goes_at, goes_joined, goes_with_first}
use Rattle.py_lines.proofs.Feeds.SettledSoFar.{settled_open, settled_ready, ended_before, IsNextLine, next_line}
use Rattle.py_lines.proofs.Feeds.DecidedSoFar.{undecided}
use Rattle.py_lines.proofs.Feeds.ReadyLines.{ended_alone, line_alone, pieces_alone, ended_holds, held_within, line_stands, some_is, text_stands}
use Rattle.py_lines.proofs.Feeds.LastBytes.{exactly_encoded}
use Rattle.py_lines.proofs.LineScan.LineSteps.{follows_whole}
use Rattle.py_lines.proofs.Feeds.OpenLine.{fails_later, holds_on, room_more, left_none, dropped, runs_out}
use Rattle.py_lines.proofs.Feeds.Released.{released_sound, releases}

-- these bytes, if there are any, settle the lines given and no more
abbrev pub SettleNone : List ℕ → ℕ → List ℕ → List LogicalLine → Type 0
SettleNone text place items lines = 0 < length items → IsSettled (take (place + length items) text) lines

-- a line has ended in these bytes, which a text goes on with after the lines given
module _ (text : List ℕ) (place : ℕ) {line : ℕ} {bytes : List ℕ} {scan : Scan} {end_len : ℕ} (lines : List LogicalLine) (s : ScansIn (first_mode place) bytes scan (Stop.LineEnd end_len)) (first : AreFirstLines text place line lines) (goes : GoesOnWith text place bytes) where
  known : IsKnown text place line lines s.read s.rest
  known = is_known text place line lines s.read s.rest first s.scalars (subst (GoesOnWith text place) (sym s.spell) goes) (omega (arith, (ended_alone s).line.some, length-append (encode_utf8_all s.read) s.rest))

  -- after CR comes no LF
  apart : IsApart s.read known.more
  apart = follows_whole s.read s.rest known.more known.tail known.beyond s.stops.1 known.follow

  next : IsNextLine place s.read known.more (pieces_alone s)
  next = next_line (line_alone s) (ended_alone s).line known.more apart

  -- the lines given aren't all that is settled
  pub never_before : SettleNone text place bytes lines → ⊥
  never_before settled = let some = (ended_alone s).line.some in ended_before text place line lines s.read s.rest known (pieces_alone s) next
      (subst (λ l. IsSettled (take (place + length l) text) lines) (sym s.spell) (settled (omega (arith, some, ap length s.spell, length-append (encode_utf8_all s.read) s.rest))))
      (by_whole s.stops.1)
    where
      by_whole : EndsWhole s.read s.rest → s.rest ≡ [] → ends is_return s.read ≡ false
      by_whole (inl feed) none = feed
      by_whole (inr (b, more, is, other)) none = absurd (omega (arith, ap length (sym is ∙ none)))

  -- where they are the line, with one byte more after CR alone, it is settled
  pub settled_fed : EndsExactly s.read s.rest → IsSettled (take (place + length bytes) text) (lines ++ line_of place line (pieces_alone s) ∷ [])
  settled_fed exact = subst (λ t. IsSettled (take (place + length t) text) (lines ++ line_of place line (pieces_alone s) ∷ [])) s.spell
      (settled_ready text place line lines s.read s.rest known (pieces_alone s) next exact)

  -- and they are it
  pub holds_exactly : EndsExactly s.read s.rest → HoldsReady bytes (Some (line_of place line (pieces_alone s)))
  holds_exactly exact = (s.rest, sym s.spell ∙ ap (λ t. t ++ s.rest) (sym text_is), subst (λ t. EndsExactly t s.rest) (sym text_is) (exactly_encoded s.read s.rest exact))
    where
      text_is : encode_utf8_all (spelled (pieces_alone s)) ≡ encode_utf8_all s.read
      text_is = ap encode_utf8_all (ended_alone s).line.spell

-- nothing is decided where the lines given end: they are all the lines of the text up to there
pub undecided_first : (text : List ℕ) (place line : ℕ) (lines : List LogicalLine) (first : AreFirstLines text place line lines) → DecideNone (take (place + 0) text)
undecided_first text place line lines first fault d =
    let bytes : take (place + 0) text ≡ encode_utf8_all (spelled first.pieces) ++ [] = ap (λ (n : ℕ). take n text) (omega arith) ∙ given_bytes first ∙ sym (append-nil (encode_utf8_all (spelled first.pieces))) in
    let lexed : IsLexed (take (place + 0) text ++ []) lines None = record {
      characters = spelled first.pieces;
      pieces = first.pieces;
      decodes = record { are = (all_scalars-parts (spelled first.pieces) first.rest (ap all_scalars first.spell ∙ first.decodes.are)).0; spell = sym (append-nil (take (place + 0) text) ∙ bytes); bad = nothing_bad };
      reading = first_reading text place line lines first;
      cut = first.cut;
    } in absurd (let h = decided_fault (take (place + 0) text) [] fault lines None d lexed in cc)

-- no line has ended in what is held, which was scanned
module _ (f : Feed) (s : IsScanned f None) (text : List ℕ) (lines : List LogicalLine) (first : AreFirstLines text f.state.place f.state.line lines) (goes : GoesOnWith text f.state.place f.held.items) where
  module _ (some : 0 < length f.held.items) where
    known_open : IsKnown text f.state.place f.state.line lines s.0.read s.0.rest
    known_open = is_known text f.state.place f.state.line lines s.0.read s.0.rest first s.0.scalars (subst (GoesOnWith text f.state.place) (sym s.0.spell) goes) (omega (arith, some, ap length s.0.spell))

    settled_scanned : IsSettled (take (f.state.place + length f.held.items) text) lines
    settled_scanned = let left = s.0.stops in let way = left.way in subst (λ l. IsSettled (take (f.state.place + length l) text) lines) s.0.spell
        (settled_open text f.state.place f.state.line lines s.0.read s.0.rest known_open way left.none (omega (arith, some, ap length s.0.spell)) (left_none left))

    undecided_scanned : DecideNone (take (f.state.place + length f.held.items) text)
    undecided_scanned fault = let left = s.0.stops in let way = left.way in subst (λ l. ¬ (Decides (take (f.state.place + length l) text) fault)) s.0.spell
        (undecided text f.state.place f.state.line lines s.0.read s.0.rest known_open way left.none s.1 fault)

  -- the lines given are settled then, and no fault is decided
  pub scanned_open : SettleNone text f.state.place f.held.items lines × DecideNone (take (f.state.place + length f.held.items) text)
  scanned_open = (
    settled_scanned,
    λ fault d. ⊎_elim (λ some. undecided_scanned some fault d)
        (λ none. undecided_first text f.state.place f.state.line lines first fault (subst (λ (n : ℕ). Decides (take (f.state.place + n) text) fault) (omega (arith, none)) d))
        (cases_lt 0 (length f.held.items)),
  )

-- the lines given are settled where none is ready
pub settled_held : (text : List ℕ) (lines : List LogicalLine) (old : Feed) → old.ready ≡ None → IsScanning (scanning_of old) text lines → SettleNone text old.state.place old.held.items lines
settled_held text lines old not_ready s some = subst (IsSettled (take (old.state.place + length old.held.items) text)) (ap (λ r. lines ++ ready_lines (ready_of old r)) not_ready ∙ append-nil lines) (s.settled some)

-- a text that goes on with so many bytes of a piece holds these bytes before, which settle the lines given and no more
abbrev SettlesNone : Feed → List ℕ → ℕ → List ℕ → Type 0
SettlesNone old piece n before = WhereFed (scanning_of old) (take n piece) (λ text lines. GoesOnWith text old.state.place before × SettleNone text old.state.place before lines)

-- so many bytes of a piece were taken so far
pub record TakesSoFar (old : Feed) (piece : List ℕ) (n : ℕ) (new : Feed) : Type 0 where
  pub before : List ℕ
  pub none : SettlesNone old piece n before
  pub more : HoldsMore old old.held.items before piece n new

-- the bytes of a piece that aren't taken yet, as a slice has them
pub rest_is : (piece : List ℕ) (n : ℕ) → take (length piece - n) (drop n piece) ≡ drop n piece
rest_is piece n = take_all (length piece - n) (drop n piece) (omega (arith, length-drop n piece))

module _ {old new : Feed} {piece : List ℕ} {n : ℕ} (t : TakesSoFar old piece n new) where
  module _ {whole : List ℕ} {lines : List LogicalLine} (s : IsScanning (scanning_of old) whole lines) (go : GoesOnWith whole (fed_of (scanning_of old)) (take n piece)) where
    first_new : AreFirstLines whole new.state.place new.state.line lines
    first_new = first_at t.more.text.place t.more.text.line s.first

    goes_new : GoesOnWith whole new.state.place new.held.items
    goes_new = goes_at whole t.more.text.place t.more.text.held (goes_joined whole old.state.place old.held.items (take n piece) s.held go)

  all_held : (m : ℕ) {rest : List ℕ} → rest ≡ drop n piece → new.held.items ++ take m rest ≡ old.held.items ++ take (n + m) piece
  all_held m {rest} is = ap (λ l. l ++ take m rest) t.more.text.held ∙ append_assoc old.held.items (take n piece) (take m rest) ∙ ap (λ l. old.held.items ++ l) (ap (λ l. take n piece ++ take m l) is ∙ sym (take-add n m piece))

module _ {old mid new : Feed} {piece rest : List ℕ} {n : ℕ} (t : TakesSoFar old piece n mid) (is : rest ≡ drop n piece) where
  -- bytes were taken once more
  pub takes_more : {m : ℕ} → mid.ready ≡ None → HoldsMore mid mid.held.items mid.held.items rest m new → TakesSoFar old piece (n + m) new
  takes_more {m} none more = let text = t.more.text in let scanned : IsScanned mid None = subst (EndsWithLine t.before mid) none t.more.ends in record {
    before = mid.held.items;
    none = λ whole lines s go.
        let part = goes_with_first whole (fed_of (scanning_of old)) (take n piece) (take m (drop n piece)) (subst (GoesOnWith whole (fed_of (scanning_of old))) (take-add n m piece) go) in
        rw (← text.place) (goes_new t s part, (scanned_open mid scanned whole lines (first_new t s part) (goes_new t s part)).0);
    more = record {
      within = omega (arith, t.more.within, more.within, ap length is, length-drop n piece);
      some = λ zero. t.more.some (omega (arith, zero));
      text = holds_on text more.text (all_held t m is) text.fault;
      ends = more.ends;
    };
  }

  -- or a fault was met then
  pub fails_more : {fault : Fault} → FailsAfter mid rest fault new → FailsAfter old piece fault new
  fails_more (m, within, failed) = (n + m, omega (arith, t.more.within, within, ap length is, length-drop n piece), fails_later old mid new t.more.text (all_held t m is) failed)

module _ (old : Feed) (sound : IsSoundFeed old) (no_fault : old.state.fault ≡ None) (not_ready : old.ready ≡ None) (piece : List ℕ) (fits : old.state.place + length old.held.items + length piece ≤ 2 ^ 62) where
  few : (n : ℕ) → n ≤ length piece → old.state.place + length old.held.items + length (take n piece) ≤ 2 ^ 62
  few n within = omega (arith, fits, length-take-le n piece within, within)

  -- what the bytes that were taken come to
  module _ {n : ℕ} {new : Feed} (t : TakesSoFar old piece n new) where
    text : Holds old (old.held.items ++ take n piece) old.state.fault new
    text = t.more.text

    -- this line stands in what is held then: it is settled, and where there is none no fault is decided
    abbrev StandsFed : Option LogicalLine → Type 0
    StandsFed line = WhereFed (scanning_of old) (take n piece) (λ whole lines.
        (0 < length new.held.items → IsSettled (take (fed_of (scanning_of new)) whole) (lines ++ ready_lines line))
        × HoldsReady new.held.items line × (line ≡ None → DecideNone (take (fed_of (scanning_of new)) whole)))

    line_fed : (r : Option ℕ) → EndsWithLine t.before new r → (line : Option LogicalLine) × HoldsSo new r line × StandsFed line
    line_fed None s = (
      None,
      (refl, λ open_yet. (s.0.stops.left, s.0.stops.reached)),
      λ whole lines scanning go. let (settled, undecided) = scanned_open new s whole lines (first_new t scanning go) (goes_new t scanning go) in
          (λ some. subst (IsSettled (take (fed_of (scanning_of new)) whole)) (sym (append-nil lines)) (settled some), tt, λ none. undecided),
    )
    line_fed (Some end_len) (s, which) = (
      Some (line_held new end_len (ended_holds new end_len s)),
      (ended_holds new end_len s, refl),
      λ whole lines scanning go. let first = first_new t scanning go in let goes = goes_new t scanning go in ⊎_elim
          (λ exact. (λ some. settled_fed whole new.state.place lines s first goes exact, holds_exactly whole new.state.place lines s first goes exact, λ none. absurd (cc)))
          (λ had. let (held, none) = t.none whole lines scanning go in absurd (never_before whole new.state.place lines had first (goes_at whole text.place refl held) (rw text.place none)))
          which,
    )

    pub taken : TakesLine old piece n new
    taken = let (line, holds, stands) = line_fed new.ready t.more.ends in record {
      line = line;
      holds = holds;
      takes = record {
        within = t.more.within;
        scans = λ whole lines s go. let at = stands whole lines s go in record {
          first = first_new t s go;
          held = goes_new t s go;
          settled = at.0;
          whole = at.1;
          open_yet = text.ended ∙ s.open_yet;
          no_fault = text.fault ∙ no_fault;
        };
        undecided = λ whole lines s go. (stands whole lines s go).2;
        some = λ zero. inl (nil_from_length piece (t.more.some zero));
        waits = λ u seen. absurd (let none = ap (ready_of old) not_ready in cc);
        held = text.held;
        place = text.place;
        line = text.line;
        fault = no_fault;
        open_yet = text.ended;
        no_fault = text.fault ∙ no_fault;
      };
      room = room_more old new (take n piece) sound (few n t.more.within) text;
    }

  -- or they decide a fault with what was held
  pub meets : {fault : Fault} {new : Feed} → FailsAfter old piece fault new → TakesSo old piece (Err (LexError.Fault fault)) new
  meets {fault} {new} (n, within, (text, none, decided)) =
      let size = length-append old.held.items (take n piece) ∙ ap (λ (k : ℕ). length old.held.items + k) (length-take-le n piece within) in (
        record {
          decided = λ whole lines s go.
              let part = goes_with_first whole (fed_of (scanning_of old)) (take n piece) (drop n piece) (subst (GoesOnWith whole (fed_of (scanning_of old))) (sym (take-append-drop n piece)) go) in
              let at = decided whole lines s.first (goes_joined whole old.state.place old.held.items (take n piece) s.held part) in
              let more : ℕ = length old.held.items + n - at.n in
              let all : old.state.place + at.n + more ≡ fed_of (scanning_of old) + n = omega (arith, at.within, size) in
              (n, within, subst (λ t. Decides t fault) (sym (take-add (old.state.place + at.n) more whole) ∙ ap (λ (k : ℕ). take k whole) all) (decided_more (take (old.state.place + at.n) whole) (take more (drop (old.state.place + at.n) whole)) fault at.decided), at.lexed);
          again = λ first is. absurd (let h = sym no_fault ∙ is in cc);
          none_ready = λ h. ap (ready_of old) not_ready;
          place = text.place;
          line = text.line;
          fed = omega (arith, text.place, ap length text.held, size, within);
          ready = ap (ready_of new) none ∙ sym (ap (ready_of old) not_ready);
          open_yet = text.ended;
          kept = text.fault;
        },
        record { room = room_more old new (take n piece) sound (few n within) text; state = subst (StandsSo new) (sym none) (λ no_more. absurd (let h = sym text.fault ∙ no_more in cc)) },
      )

  pub errs : (new : Feed) (error : LexError) → Takes old piece (Err error) new → TakesSo old piece (Err error) new
  errs new (LexError.Fault fault) failed = meets failed
  errs new LexError.Memory short = runs_out sound no_fault not_ready short

-- so they were where lines are released at once, if none was
pub naming_same : (word other : List ℕ) (old new : ScannerState) (piece : List ℕ) (n : ℕ) → TakesBytes old piece n new
    → ((line : LogicalLine) → new.ready ≡ Some line → (old.ready ≡ Some line) ⊎ ¬ (LacksBoth word other line.text)) → TakesNaming word other old piece n new
naming_same word other old new piece n t kept = record { mid = new; takes = t; same = inl refl; kept = kept; waits = λ line is. (t.waits line is).1 }

-- the fault that is known is met again
pub known_fault : (f : Feed) (piece : List ℕ) (fault : Fault) → IsSoundFeed f → f.state.fault ≡ Some fault → MeetsFault (scanning_of f) piece fault (scanning_of f) × IsSoundFeed f
known_fault f piece fault sound is = grind arith

-- where lines are released at once, a call fails as any that is fed does
pub naming_fails : (word other : List ℕ) (old new : ScannerState) (piece : List ℕ) (error : LexError) → Feeds old piece (Err error) new → FeedsNaming word other old piece (Err error) new
naming_fails word other old new piece (LexError.Fault fault) fails = fails
naming_fails word other old new piece LexError.Memory short = short

-- where a line is ready, no byte is taken
pub waits_so : (f : Feed) (piece : List ℕ) → IsSoundFeed f → is_some f.ready ≡ true → TakesBytes (scanning_of f) piece 0 (scanning_of f)
waits_so f piece sound ready =
    let m = some_is f.ready ready in let line : ready_of f f.ready ≡ Some (line_of_feed f m.0) = ap (ready_of f) m.1 in
    let fault = (subst (StandsSo f) m.1 sound.state).no_fault in record {
      within = omega arith;
      scans = λ text lines s go. s;
      undecided = λ text lines s go none fault d. absurd (let h = sym line ∙ none in cc);
      some = λ zero. inr (line_of_feed f m.0, line);
      waits = λ u is. (refl, refl);
      held = sym (append-nil f.held.items);
      place = refl;
      line = refl;
      fault = fault;
      open_yet = refl;
      no_fault = fault;
    }

-- what the bytes taken come to in the end
module _ {old new : Feed} {piece : List ℕ} {n : ℕ} (t : TakesLine old piece n new) where
  -- the line that stands in what is held, if one does
  module _ (some : is_some new.ready ≡ true) where
    pub stands_taken : (end_len : ℕ) × HoldsLine new end_len
    stands_taken = let (end_len, ready, h, line) = line_stands new new.ready t.holds some in (end_len, h)

    pub size_taken : {held : List ℕ} → held ≡ new.held.items → new.state.scan.stop ≡ length (take new.state.scan.stop held)
    size_taken {held} is = rw is (sym (length-take-le new.state.scan.stop new.held.items (held_within new stands_taken.0 stands_taken.1)))

    pub some_taken : {held : List ℕ} → held ≡ new.held.items → 0 < length (take new.state.scan.stop held)
    some_taken {held} is = let h = stands_taken.1 in omega (arith, size_taken is, h.stop, h.some)

  -- once the tokens of the line that stands in what is held are read
  pub takes_read : {now : Feed} → HasReadTokens new now → TakesBytes (scanning_of old) piece n (scanning_of now)
  takes_read r = subst (TakesBytes (scanning_of old) piece n) (sym (r.seen t.line t.holds)) t.takes

  -- without a line, where there is no memory for more
  pub takes_short : new.ready ≡ None → {now : Feed} → IsUnchanged new now → TakesLine old piece n now
  takes_short none {now} unchanged = grind arith

  -- they are held after what was
  pub size_held : length old.held.items + n ≡ length new.held.items
  size_held = sym (ap length t.takes.held ∙ length-append old.held.items (take n piece) ∙ ap (λ (k : ℕ). length old.held.items + k) (length-take-le n piece t.takes.within))

  -- where there is no memory for the tokens
  pub fed_short : IsSoundFeed old → old.ready ≡ None → {now : Feed} (error : LexError) → ReadsTokens new n (Err error) now
      → Feeds (scanning_of old) piece (Err error) (scanning_of now) × IsSoundFeed now
  fed_short sound was (LexError.Fault f) never = absurd never
  fed_short sound was {now} LexError.Memory drops = runs_out sound t.takes.fault was (dropped old new now (take n piece) (record {
    held = t.takes.held;
    place = t.takes.place;
    line = t.takes.line;
    ended = t.takes.open_yet;
    fault = t.takes.no_fault ∙ sym t.takes.fault;
  }) (omega (arith, size_held)) drops)

  -- where it was not let go, and the tokens of the line that stands in what is held are read
  pub fed_named : {now : Feed} {word other : List ℕ} → (is_some new.ready ≡ true → ¬ (LacksBoth word other (take new.state.scan.stop new.held.items))) → HasReadTokens new now → TakesNaming word other (scanning_of old) piece n (scanning_of now)
  fed_named {now} {word} {other} stays read = naming_same word other (scanning_of old) (scanning_of now) piece n (takes_read read) (λ line is.
      let at = text_stands new new.ready t.holds (ap (λ (s : ScannerState). s.ready) (sym (read.seen t.line t.holds)) ∙ is) in
      inr (subst (λ text. ¬ (LacksBoth word other text)) (sym at.2) (stays (ap is_some at.1))))

  -- where it was let go
  pub fed_released : {now : Feed} {word other : List ℕ} → old.ready ≡ None → is_some new.ready ≡ true → LacksBoth word other (take new.state.scan.stop new.held.items) → LetsGo new now
      → TakesNaming word other (scanning_of old) piece n (scanning_of now) × IsSoundFeed now
  fed_released {now} {word} {other} was some lacks go = let (end_len, ready, h, line) = line_stands new new.ready t.holds some in (
    record {
      mid = with_line new t.line;
      takes = t.takes;
      same = inr (
        line_held new end_len h,
        line,
        subst (LacksBoth word other) (sym h.text.spell) lacks,
        subst (λ l. Releases (with_line new l) (scanning_of now)) (sym line) (releases new now end_len h go),
      );
      kept = λ line seen. absurd (let none = ap (ready_of now) go.ready in cc);
      waits = λ line seen. absurd (let none = ap (ready_of old) was in cc);
    },
    released_sound new now end_len h go t.room,
  )
