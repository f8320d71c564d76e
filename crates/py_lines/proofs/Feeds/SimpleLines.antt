-- A simple line was taken of a piece, with its tokens, or it wasn't.
use Rattle.py_lines.proofs.Prelude.{◌≡◌, ℕ, ◌+◌, ◌≤◌, ◌^◌, None, Some, Ok, Err, List, [], ◌++◌, length, take, sym, ap, ◌∙◌, refl, subst, arith, length-take-le, take-take}
use Rattle.py_lines.specs.ScannerState.{Feeds, TakesBytes}
use Rattle.py_lines.specs.Private.LineScan.{ScansIn}
use Rattle.py_lines.specs.Private.LineState.{BeginsAnew, ReadsLine, first_mode, reread}
use Rattle.py_lines.specs.Private.LineTokens.{HoldsTokens, IsLineAfter}
use Rattle.py_lines.specs.Private.Feed.{Feed, HoldsLine, HoldsSo, IsReadyAt, IsSoundFeed, LexError, LineState, ScansPiece, Stop, Takes, scanning_of}
use Rattle.py_lines.proofs.Feeds.FedScanner.{TakesSoFar, errs, settled_held, taken, takes_read}
use Rattle.py_lines.proofs.Feeds.GivenBack.{takes_reread}
use Rattle.py_lines.proofs.Feeds.OpenLine.{begun_unchanged, runs_out}
use Rattle.py_lines.proofs.Feeds.ReadyLines.{held_within, some_read}

-- where nothing is held, the line was read as a scan of what is held and the piece would read it
pub scans_piece : (old : Feed) (piece : List ℕ) {read : LineState} {end_len after : ℕ} → read ≡ reread old.state read → ReadsLine old.state piece end_len after read → old.held.items ≡ []
    → ScansPiece (record old { state = read }) piece (Stop.LineEnd end_len)
scans_piece old piece {read} {end_len} same line empty = subst (λ (n : ℕ). ScansIn (first_mode n) (old.held.items ++ piece) read.scan (Stop.LineEnd end_len)) (sym (ap (λ (s : LineState). s.place) same))
    (subst (λ l. ScansIn (first_mode old.state.place) (l ++ piece) read.scan (Stop.LineEnd end_len)) (sym empty) line.scans)

module _ (old : Feed) (sound : IsSoundFeed old) (no_fault : old.state.fault ≡ None) (not_ready : old.ready ≡ None) where
  -- it wasn't read
  pub not_taken : {read state : LineState} → read ≡ reread old.state read → BeginsAnew read state
      → let new = record old { state = state } in (scanning_of new ≡ scanning_of old) × (new.ready ≡ None) × IsSoundFeed new
  not_taken {read} {state} same begins =
      let (out, new) = runs_out sound no_fault not_ready (begun_unchanged old (record old { state = state }) read not_ready (record {
        held = refl;
        place = ap (λ (s : LineState). s.place) same;
        line = ap (λ (s : LineState). s.line) same;
        ended = refl;
        fault = ap (λ (s : LineState). s.fault) same;
      }) begins) in
      (out.same, not_ready, new)

  -- it was
  module _ (piece : List ℕ) (fits : old.state.place + length old.held.items + length piece ≤ 2 ^ 62) {read : LineState} (same : read ≡ reread old.state read) where
    abbrev mid : Feed
    mid = record old { state = read }

    -- but isn't held
    pub line_lost : (error : LexError) {new : Feed} → Takes mid piece (Err error) new → Feeds (scanning_of old) piece (Err error) (scanning_of new) × IsSoundFeed new
    line_lost error {new} takes = errs old sound no_fault not_ready piece fits new error (takes_reread old read same piece (Err error) new takes)

    -- and is held
    module _ {end_len after : ℕ} (line : ReadsLine old.state piece end_len after read) (empty : old.held.items ≡ []) where
      pub line_taken : {n : ℕ} {new : Feed} → Takes mid piece (Ok n) new → IsReadyAt mid (Stop.LineEnd end_len) new
          → let now = record new { next_line = after } in TakesBytes (scanning_of old) piece n (scanning_of now) × IsSoundFeed now
      line_taken {n} {new} takes ready =
          let more = takes_reread old read same piece (Ok n) new takes in
          let all : TakesSoFar old piece n new = record { before = old.held.items; none = λ text lines s go. (s.held, settled_held text lines old not_ready s); more = more } in
          let t = taken old sound no_fault not_ready piece fits all in
          let is : new.ready ≡ Some end_len = ap (λ (f : Feed). f.ready) ready in
          let state : new.state ≡ read = ap (λ (f : Feed). f.state) ready in
          let stands : HoldsLine new end_len = (subst (λ r. HoldsSo new r t.line) is t.holds).0 in
          let first : new.held.items ≡ take n piece = more.text.held ∙ ap (λ l. l ++ take n piece) empty in
          let text : take read.scan.stop piece ≡ take new.state.scan.stop new.held.items
          = sym (ap (take new.state.scan.stop) first ∙ take-take new.state.scan.stop n piece (omega (arith, held_within new end_len stands, ap length first, length-take-le n piece more.within)) ∙ ap (λ (s : LineState). take s.scan.stop piece) state) in
          let number : old.state.line ≡ new.state.line = sym (ap (λ (s : LineState). s.line) (state ∙ same)) in
          let tokens : HoldsTokens (take new.state.scan.stop new.held.items) end_len new.state.line new.state.tokens.items = rw (← text, ← number, state) line.tokens in
          let after_is : IsLineAfter new.state.line (take new.state.scan.stop new.held.items) end_len after = rw (← text, ← number) line.after_is in
          let done = some_read new new.state end_len after tokens after_is t.takes.no_fault t.room is stands in
          (takes_read t done, done.sound)
