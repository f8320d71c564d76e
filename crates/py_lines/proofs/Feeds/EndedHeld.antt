-- The text ends with what is held: its last line, or the fault that stands there.
use Rattle.py_lines.proofs.Prelude.{◌≡◌, ℕ, ◌+◌, ◌<◌, ⊎_elim, true, None, Some, Err, List, [], ◌∷◌, ◌++◌, length, refl, sym, ap, ◌∙◌, subst, append-nil, arith, Option, drop, length-drop, encode_utf8_all, length-append, length-take-le, take-append-drop, take_all, LogicalLine, byte_len, spelled, AreFirstLines, byte_len-append}
use Rattle.py_lines.specs.Lexed.{IsLexed}
use Rattle.py_lines.specs.ScannerState.{HoldsLast, IsScanning, WhereWhole, fed_of, EndsFaulty, EndsScan, Finishes, ScannerState, ready_lines}
use Rattle.py_lines.specs.Private.LineState.{HasNextLine, ScansLine}
use Rattle.py_lines.specs.Private.Feed.{Fault, HasRoom, HoldsLine, IsHeldOpen, Holds, HasReadTokens, HoldsSo, IsSoundFeed, ReadsTokens, StandsSo, with_line, LexError, LineState, Scan, Feed, scanning_of, ready_of}
use Rattle.py_lines.proofs.Feeds.Known.{first_at}
use Rattle.py_lines.proofs.Feeds.OpenLine.{dropped, runs_out}
use Rattle.py_lines.specs.Settled.{IsSettled}
use Rattle.py_lines.proofs.Lexings.FirstLines.{all_first, begins_settled}
use Rattle.py_lines.proofs.Lexings.LineEnds.{none_both}
use Rattle.py_lines.proofs.Feeds.FedScanner.{settled_held}

-- the text ends with what is held, and has no fault there: the line that stands there, if one does, is its last
pub record HasEndedText (old new : Feed) : Type 0 where
  pub text : Holds old old.held.items old.state.fault new
  pub line : Option LogicalLine
  pub holds : HoldsSo new new.ready line
  pub lexed : WhereWhole (scanning_of old) (λ text lines. IsLexed text (lines ++ ready_lines line) None × HoldsLast new.held.items line)

-- nothing is held
pub text_empty : {old : Feed} → old.ready ≡ None → IsHeldOpen old → old.held.items ≡ [] → HasEndedText old old
text_empty {old} not_ready opens none = record {
  text = record { held = refl; place = refl; line = refl; ended = refl; fault = refl };
  line = None;
  holds = subst (λ r. HoldsSo old r None) (sym not_ready) (refl, λ no_fault. opens);
  lexed = λ text lines scanning whole. (
    subst (λ l. IsLexed text l None) (sym (append-nil lines)) (all_first text old.state.place old.state.line lines scanning.first (omega (arith, whole, ap length none))),
    tt,
  );
}

-- the text ends with what is held
text_held : (old : Feed) (text : List ℕ) (lines : List LogicalLine) → IsScanning (scanning_of old) text lines → length text ≡ fed_of (scanning_of old) → old.held.items ≡ drop old.state.place text
text_held old text lines scanning whole = sym scanning.held ∙ take_all (length old.held.items) (drop old.state.place text) (omega (arith, whole, length-drop old.state.place text))

-- first lines of a text that settles all but the last of them reach to its end
reach_end : {text : List ℕ} {place line : ℕ} {lines : List LogicalLine} (last : LogicalLine) → AreFirstLines text place line (lines ++ last ∷ []) → IsSettled text lines → place ≡ length text
reach_end {text} {place} {line} {lines} last f settled = ⊎_elim
    (λ good. let (more, is) = begins_settled text place line (lines ++ last ∷ []) f good.0 good lines settled in absurd (omega (arith, ap length is, length-append (lines ++ last ∷ []) more, length-append lines (last ∷ []))))
    (λ nothing. let (none, bare) = none_both f.rest f.tail nothing in
    omega (arith, f.here, ap length f.decodes.spell, length-append (encode_utf8_all f.characters) f.tail, ap length bare, ap byte_len f.spell, byte_len-append (spelled f.pieces) f.rest, ap byte_len none)) f.ended

-- the text's last line
pub last_line : (old : Feed) → old.ready ≡ None → 0 < length old.held.items → (scan : Scan) {end_len : ℕ} → HasNextLine old.state.place old.state.line old.held.items scan.stop end_len
    → HasEndedText old (record old { state = record old.state { scan = scan }; ready = Some end_len })
last_line old not_ready some scan {end_len} h =
    let u = h.is.pieces in let items = old.held.items in let stop = scan.stop in let size : byte_len (spelled u) ≡ stop = ap length h.is.text.spell ∙ length-take-le stop items h.is.within in
    let held : HoldsLine (record old { state = record old.state { scan = scan }; ready = Some end_len }) end_len = record {
      read = spelled u;
      rest = drop stop items;
      pieces = u;
      scalars = h.is.text.scalars;
      spell = ap (λ t. t ++ drop stop items) h.is.text.spell ∙ take-append-drop stop items;
      spells = refl;
      text = h.is.text;
      whole = h.is.whole;
      ends = h.is.ends;
      stop = sym size;
      some = omega (arith, size, h.is.some);
    } in record {
      text = record { held = refl; place = refl; line = refl; ended = refl; fault = refl };
      line = _;
      holds = (held, refl);
      lexed = λ text lines scanning whole. let first = h.next text lines scanning.first (text_held old text lines scanning whole) in
          let settled = subst (λ t. IsSettled t lines) (take_all (old.state.place + length items) text (omega (arith, whole))) (settled_held text lines old not_ready scanning some) in
          let end = reach_end _ first settled in let all : length items ≡ stop = omega (arith, end, whole) in
          (all_first text _ _ _ first end, sym (h.is.text.spell ∙ take_all stop items (omega (arith, all))));
    }

-- the fault was known before
pub ends_known : (s : ScannerState) {fault : Fault} → s.fault ≡ Some fault → EndsFaulty s fault s
ends_known s is = grind arith

-- the text has ended
abbrev pub ended_now : Feed → Feed
ended_now f = record f { ended = true }

ended_ready : (f : Feed) (r : Option ℕ) → ready_of (ended_now f) r ≡ ready_of f r
ended_ready f None = refl
ended_ready f (Some n) = refl

ended_stands : (f : Feed) (r : Option ℕ) → StandsSo f r → StandsSo (ended_now f) r
ended_stands f None opens = opens
ended_stands f (Some n) r = record { no_fault = r.no_fault; holds = r.holds; after = r.after; line_is = r.line_is }

finish_now : (old f : Feed) → old.state.fault ≡ None → (e : HasEndedText old f) → EndsScan (scanning_of old) (with_line (ended_now f) e.line)
finish_now old f no_fault e = record {
  scans = λ text lines scanning whole. let lexed = e.lexed text lines scanning whole in record {
    first = first_at e.text.place e.text.line scanning.first;
    lexed = lexed.0;
    held = e.text.held ∙ text_held old text lines scanning whole ∙ ap (λ (n : ℕ). drop n text) (sym e.text.place);
    whole = lexed.1;
    ended = refl;
    no_fault = e.text.fault ∙ no_fault;
  };
  place = e.text.place;
  held = e.text.held;
  fault = no_fault;
  ended = refl;
  no_fault = e.text.fault ∙ no_fault;
}

-- where the same bytes are held from the same place on, there is as much room
pub same_room : {old new : Feed} {known : Option Fault} → IsSoundFeed old → Holds old old.held.items known new → HasRoom new 0
same_room sound text = record { fits = omega (arith, sound.room.fits, text.place, ap length text.held); few_lines = omega (arith, sound.room.few_lines, text.place, text.line) }

-- what a fault at the text's end comes to
pub finish_errs : {old : Feed} {state : LineState} (error : LexError) → IsSoundFeed old → old.state.fault ≡ None → old.ready ≡ None → ScansLine old.state old.held.items (Err error) state
    → let new = record old { state = state } in Finishes (scanning_of old) (Err error) (scanning_of new) × IsSoundFeed new
finish_errs {old} {state} (LexError.Fault fault) sound no_fault not_ready meets =
    let new = record old { state = state } in
    let place = ap (λ (t : LineState). t.place) meets.same in
    let line = ap (λ (t : LineState). t.line) meets.same in
    let kept = ap (λ (t : LineState). t.fault) meets.same in (
      record {
        all = λ text lines scanning whole. meets.lexed text lines scanning.first (text_held old text lines scanning whole);
        again = λ first is. absurd (let h = sym no_fault ∙ is in cc);
        place = place;
        line = line;
        held = refl;
        fed = omega (arith, place);
        ready = ap (ready_of new) not_ready ∙ sym (ap (ready_of old) not_ready);
        open_yet = refl;
        kept = kept;
      },
      record {
        room = same_room {new = new} sound (record { held = refl; place = place; line = line; ended = refl; fault = kept });
        state = subst (StandsSo new) (sym not_ready) (λ no_more. absurd (let h = sym kept ∙ no_more in cc));
      },
    )
finish_errs LexError.Memory sound no_fault not_ready never = absurd never

module _ {old f : Feed} (sound : IsSoundFeed old) (no_fault : old.state.fault ≡ None) (e : HasEndedText old f) where
  -- once the tokens of the line that is left are read, if one is
  pub finish_read : {new : Feed} → HasReadTokens f new → EndsScan (scanning_of old) (scanning_of (ended_now new)) × IsSoundFeed (ended_now new)
  finish_read {new} read = (
    subst (EndsScan (scanning_of old)) (sym (ap (with_line (ended_now new)) (ended_ready new new.ready) ∙ ap (λ (s : ScannerState). record s { ended = true }) (read.seen e.line e.holds))) (finish_now old f no_fault e),
    record { room = read.sound.room; state = ended_stands new new.ready read.sound.state },
  )

  -- where there is no memory for them
  pub finish_short : old.ready ≡ None → {new : Feed} (error : LexError) → ReadsTokens f 0 (Err error) new
      → Finishes (scanning_of old) (Err error) (scanning_of new) × IsSoundFeed new
  finish_short not_ready (LexError.Fault x) never = absurd never
  finish_short not_ready {new} LexError.Memory drops = runs_out sound no_fault not_ready (dropped old f new [] (subst (λ l. Holds old l old.state.fault f) (sym (append-nil old.held.items)) e.text) (omega (arith, ap length e.text.held)) drops)
