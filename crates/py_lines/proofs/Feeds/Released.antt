-- A settled line is released, or the text's last: the lines before it and this one are the first of the whole text.
use Rattle.py_lines.proofs.Prelude.{◌≡◌, ℕ, ◌+◌, List, [], ◌∷◌, ◌++◌, length, take, drop, refl, sym, ap, ◌∙◌, subst, inr, append_assoc, append-nil, arith, None, Some, length-append, encode_utf8_all, IsSome, take-append-drop, append_cancel_left, drop-drop, encodes-append, encodes_same, drop-append_seam, spelled, LogicalLine, byte_len, line_ends, AreReadBefore, byte_len-append}
use Rattle.py_lines.specs.Lexed.{IsLexedWhole, IsLexed}
use Rattle.py_lines.specs.Settled.{IsSettled}
use Rattle.py_lines.proofs.Text.Decoding.{decoded}
use Rattle.py_lines.proofs.LogicalLines.NextLine.{texts, texts-append, texts-lines}
use Rattle.py_lines.proofs.Lexings.FirstLines.{base_lines, settled_first}
use Rattle.py_lines.proofs.Feeds.Known.{first_at, goes_after, goes_at}
use Rattle.py_lines.specs.ScannerState.{ScannerState, GoesOnWith, IsScanning, HasEnded, HoldsReady, HoldsLast, Releases, fed_of, ready_lines}
use Rattle.py_lines.specs.Private.Feed.{HasRoom, HoldsLine, IsReady, StandsSo, IsSoundFeed, LetsGo, line_held, with_line, Feed, ready_of, scanning_of, AreFirstLines}
use Rattle.py_lines.proofs.LineScan.LineCount.{line_ends-bytes}
use Rattle.py_lines.proofs.Feeds.ReadyLines.{ready_seen, stopped_text}

-- the lines given, and this one after them
module _ {text : List ℕ} {place line : ℕ} {lines : List LogicalLine} (first : AreFirstLines text place line lines) (read : List ℕ) (l : LogicalLine) (same : l.text ≡ encode_utf8_all read) where
  -- are the first lines of the text up to where it ends
  reached : {here number : ℕ} → AreFirstLines text here number (lines ++ l ∷ []) → AreFirstLines text (place + byte_len read) (line + line_ends read) (lines ++ l ∷ [])
  reached next = let spells : spelled next.pieces ≡ spelled first.pieces ++ read = encodes_same (spelled next.pieces) (spelled first.pieces ++ read)
      (sym (texts-lines next.pieces) ∙ ap texts (sym next.cut) ∙ texts-append lines (l ∷ []) ∙ ap (λ t. texts lines ++ t) (append-nil l.text ∙ same) ∙ ap (λ t. t ++ encode_utf8_all read) (ap texts first.cut ∙ texts-lines first.pieces)
      ∙ sym (encodes-append (spelled first.pieces) read)) in
      let characters = (decoded text first.characters next.characters first.tail next.tail first.decodes next.decodes).0 in
      let rest : first.rest ≡ read ++ next.rest = append_cancel_left (spelled first.pieces) first.rest (read ++ next.rest)
      (first.spell ∙ characters ∙ sym next.spell ∙ ap (λ t. t ++ next.rest) spells ∙ append_assoc (spelled first.pieces) read next.rest) in
      let sum = base_lines first.pieces read next.rest (subst (AreReadBefore first.pieces) rest first.fit) in
      first_at (omega (arith, first.here, next.here, ap byte_len spells, byte_len-append (spelled first.pieces) read)) (omega (arith, first.number, next.number, ap line_ends spells, sum)) next

  -- where bytes of the text settle them
  pub released : (n : ℕ) → IsSettled (take n text) (lines ++ l ∷ []) → AreFirstLines text (place + byte_len read) (line + line_ends read) (lines ++ l ∷ [])
  released n s = reached (subst (λ t. AreFirstLines t (byte_len (spelled s.pieces)) (1 + line_ends (spelled s.pieces)) (lines ++ l ∷ [])) (take-append-drop n text) (settled_first (take n text) (drop n text) (lines ++ l ∷ []) s).0)

  -- and where they are all its lines
  last_released : IsLexedWhole text (lines ++ l ∷ []) → AreFirstLines text (place + byte_len read) (line + line_ends read) (lines ++ l ∷ [])
  last_released all = reached (record {
    characters = all.characters;
    tail = [];
    pieces = all.pieces;
    rest = [];
    decodes = all.decodes;
    spell = append-nil (spelled all.pieces) ∙ all.reading.reads.spell;
    fit = all.reading.reads.fit;
    balanced = all.reading.balanced;
    shallow = all.reading.shallow;
    ended = inr refl;
    here = refl;
    number = refl;
    cut = all.cut;
  })

-- a line is ready where a caller sees one
pub ready_from : (f : Feed) → IsSoundFeed f → IsSome (ready_of f f.ready) → (n : ℕ) × (f.ready ≡ Some n) × IsReady f n
ready_from f sound some = grind arith

module _ (old new : Feed) (n : ℕ) (r : HoldsLine old n) (go : LetsGo old new) where
  abbrev unit : LogicalLine
  unit = line_held old n r

  -- the line and what comes after it
  text_is : unit.text ≡ encode_utf8_all r.read
  text_is = ap encode_utf8_all r.spells

  rest_is : new.held.items ≡ r.rest
  rest_is = go.held ∙ ap (λ (m : ℕ). drop m old.held.items) r.stop ∙ ap (drop (byte_len r.read)) (sym r.spell) ∙ drop-append_seam (encode_utf8_all r.read) r.rest

  size : length old.held.items ≡ byte_len r.read + length new.held.items
  size = ap length (sym r.spell) ∙ length-append (encode_utf8_all r.read) r.rest ∙ ap (λ l. byte_len r.read + length l) (sym rest_is)

  fed_is : fed_of (scanning_of new) ≡ fed_of (scanning_of old)
  fed_is = omega (arith, go.place, r.stop, size)

  none_ready : ready_of new new.ready ≡ None
  none_ready = ap (ready_of new) go.ready

  none_more : (lines : List LogicalLine) → lines ++ ready_lines (ready_of new new.ready) ≡ lines
  none_more lines = ap (λ r. lines ++ ready_lines r) none_ready ∙ append-nil lines

  place_is : new.state.place ≡ old.state.place + byte_len r.read
  place_is = go.place ∙ ap (λ (m : ℕ). old.state.place + m) r.stop

  line_is : new.state.line ≡ old.state.line + line_ends r.read
  line_is = go.line r.read (sym (stopped_text old.state.scan.stop old.held.items r.read r.rest r.spell r.stop))

  -- the lines that reach to the end of this line reach to where the scanner stands now
  first_here : (text : List ℕ) (lines : List LogicalLine) → AreFirstLines text (old.state.place + byte_len r.read) (old.state.line + line_ends r.read) lines → AreFirstLines text new.state.place new.state.line lines
  first_here text lines first = first_at place_is line_is first

  scans_on : (text : List ℕ) (lines : List LogicalLine) → IsScanning (with_line old (Some unit)) text lines
      → IsScanning (scanning_of new) text (lines ++ unit ∷ []) × IsSettled (take (fed_of (scanning_of new)) text) (lines ++ unit ∷ [])
  scans_on text lines scanning =
      let goes : GoesOnWith text old.state.place (encode_utf8_all r.read ++ r.rest) = subst (GoesOnWith text old.state.place) (sym r.spell) scanning.held in
      let settled_old : IsSettled (take (old.state.place + length old.held.items) text) (lines ++ unit ∷ []) = scanning.settled (omega (arith, size, r.some)) in
      let settled_new : IsSettled (take (fed_of (scanning_of new)) text) (lines ++ unit ∷ []) = rw fed_is settled_old in
      let first = released scanning.first r.read unit text_is (old.state.place + length old.held.items) settled_old in
      let held = goes_at text place_is rest_is (goes_after text old.state.place (encode_utf8_all r.read) r.rest goes) in (
        record {
          first = first_here text (lines ++ unit ∷ []) first;
          held = held;
          settled = λ more. subst (IsSettled (take (fed_of (scanning_of new)) text)) (sym (none_more (lines ++ unit ∷ []))) settled_new;
          whole = subst (HoldsReady new.held.items) (sym none_ready) tt;
          open_yet = go.ended ∙ scanning.open_yet;
          no_fault = go.fault ∙ scanning.no_fault;
        },
        settled_new,
      )

  ends_on : (text : List ℕ) (lines : List LogicalLine) → HasEnded (with_line old (Some unit)) text lines → HasEnded (scanning_of new) text (lines ++ unit ∷ [])
  ends_on text lines ended = let all : IsLexedWhole text (lines ++ unit ∷ []) = ended.lexed in record {
    first = first_here text (lines ++ unit ∷ []) (last_released ended.first r.read unit text_is all);
    lexed = subst (λ l. IsLexed text l None) (sym (none_more (lines ++ unit ∷ []))) all;
    held = go.held ∙ ap (drop old.state.scan.stop) ended.held ∙ drop-drop old.state.scan.stop old.state.place text ∙ ap (λ (m : ℕ). drop m text) (sym go.place);
    whole = subst (HoldsLast new.held.items) (sym none_ready) tt;
    ended = go.ended ∙ ended.ended;
    no_fault = go.fault ∙ ended.no_fault;
  }

  pub releases : Releases (with_line old (Some unit)) (scanning_of new)
  releases = record {
    unit = unit;
    was = refl;
    scans = scans_on;
    ends = ends_on;
    place = go.place ∙ ap (λ (m : ℕ). old.state.place + m) (r.stop ∙ ap length (sym text_is));
    held = sym (take-append-drop old.state.scan.stop old.held.items) ∙ ap (λ t. take old.state.scan.stop old.held.items ++ t) (sym go.held)
        ∙ ap (λ t. t ++ new.held.items) (sym r.text.spell);
    none_ready = none_ready;
    ended = go.ended;
    fault = go.fault;
  }

  -- the state after it
  pub released_sound : HasRoom old 0 → IsSoundFeed new
  released_sound room = record {
    room = record { fits = omega (arith, fed_is, room.fits); few_lines = omega (arith, go.place, line_is, r.stop, line_ends-bytes r.read, room.few_lines) };
    state = subst (StandsSo new) (sym go.ready) (λ no_fault. (new.held.items, go.opens));
  }

-- both, where a caller sees a line that is ready
pub release_seen : (old new : Feed) (seen : ScannerState) → scanning_of old ≡ seen → IsSoundFeed old → IsSome seen.ready → LetsGo old new → Releases seen (scanning_of new) × IsSoundFeed new
release_seen old new seen is sound some go =
    let at = ready_from old sound (subst (λ (s : ScannerState). IsSome s.ready) (sym is) some) in let h = at.2.holds in
    let seen_is : with_line old (Some (line_held old at.0 h)) ≡ seen = sym (ready_seen old at.0 at.1 at.2) ∙ is in (
      subst (λ (s : ScannerState). Releases s (scanning_of new)) seen_is (releases old new at.0 h go),
      released_sound old new at.0 h go sound.room,
    )
