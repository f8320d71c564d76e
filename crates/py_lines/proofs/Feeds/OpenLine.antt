-- What is held of a line that is open, what a scan of it comes to, and what is left where the scan stops before bytes that do not tell.
use Rattle.py_lines.proofs.Prelude.{◌≡◌, ℕ, ◌+◌, ◌<◌, true, false, None, Some, List, [], ◌∷◌, ◌++◌, length, take, drop, refl, sym, ap, ◌∙◌, subst, arith, append-nil, length-append, encode_utf8_all, IsUtf8, length-take-le, take-append-drop, ◌-◌, ◌≤◌, Bool, append_assoc, length-drop, ◌^◌, Option, Err, ⊎_elim, ◌==◌, StartsWithNoChar, eqb-true, cases_lt, Vec, vec_len, encodes-append, nil_from_length, take_all, take-append_seam, drop-append_seam, byte_len, begins, byte_len-append}
use Rattle.py_lines.specs.Settled.{IsHopeless}
use Rattle.py_lines.specs.Private.FieldMachine.{FieldScanned}
use Rattle.py_lines.specs.Private.Scan.{StandsAs, has_returned}
use Rattle.py_lines.specs.Private.LineScan.{IsLeft, begins_line, Reached}
use Rattle.py_lines.specs.Private.Feed.{Mode, Scan, IsHeldOpen, IsOpen, StopsHeld, Stop, Feed, DropsLine, FailsIn, HasRoom, Holds, HoldsAt, IsDecidedAt, IsSoundFeed, IsUnchanged, Meets, WhereHeld, Fault, FaultKind, LexError, scanning_of, LineState, LineFault}
use Rattle.py_lines.proofs.Text.Utf8Prefixes.{one_decoding}
use Rattle.py_lines.proofs.LineScan.LineSteps.{rests_end, begun_reached}
use Rattle.py_lines.specs.Private.LineState.{first_mode, BeginsAnew, IsFaultAfter, KeepsFault}
use Rattle.py_lines.proofs.FieldScans.Taking.{rests_more}
use Rattle.py_lines.proofs.LineScan.TextSteps.{begun_sound}
use Rattle.py_lines.proofs.Readers.LineFaults.{Within, refused_within}
use Rattle.py_lines.specs.ScannerState.{ScannerRunsOut}
use Rattle.py_lines.proofs.Text.Incomplete.{TellsHopeless, part_none}
use Rattle.py_lines.proofs.Feeds.DecidedSoFar.{by_bytes, by_character}

-- before bytes the line hasn't ended with CR
open_before : (rest : List ℕ) (t u : FieldScanned) → StandsAs rest t u → 0 < length rest → has_returned t ≡ false
open_before [] t u same some = absurd (omega (arith, some))
open_before (b ∷ rest) t u alike some = alike.open_yet

module _ {m : Mode} {whole : List ℕ} {scan : Scan} {read rest : List ℕ} (l : IsLeft m whole scan read rest) where
  pub left_open : 0 < length rest → has_returned l.way.field ≡ false
  left_open some = open_before rest l.way.field l.all.to l.stands some

  -- after CR that ended it no byte follows
  pub left_none : has_returned l.way.field ≡ true → rest ≡ []
  left_none returned = grind arith

  left_spell : encode_utf8_all l.all.run ++ rest ≡ l.left
  left_spell = ap (λ t. encode_utf8_all l.all.run ++ t) (sym l.rest_is) ∙ l.all.spell

  -- characters that it begins with, and then bytes that begin none
  cut_is : (n : ℕ) (utf8 : IsUtf8 (take n l.left)) → StartsWithNoChar (drop n l.left) → (utf8.0 ≡ l.all.run) × (drop n l.left ≡ rest)
  cut_is n (cs, (scalars, taken)) bad = one_decoding cs l.all.run (drop n l.left) rest scalars l.all.scalars bad l.none (ap (λ t. t ++ drop n l.left) taken ∙ take-append-drop n l.left ∙ sym left_spell)

  module _ (start : begins_line m ≡ true) (spell : encode_utf8_all read ++ rest ≡ whole) where
    hopeless_left : (n : ℕ) → TellsHopeless l.left (Some n) → (scan.stop + n ≡ byte_len read) × IsHopeless rest
    hopeless_left n (within, utf8, hopeless) = let left_size : byte_len read ≡ scan.stop + byte_len l.all.run
        = omega (arith, rests_end l.reached.way start l.reached.rests, ap length spell, ap length l.reached.spell, ap length left_spell, length-append (encode_utf8_all read) rest, length-append (encode_utf8_all l.reached.read) l.left, length-append (encode_utf8_all l.all.run) rest) in
        let both = cut_is n utf8 (subst StartsWithNoChar (append-nil (drop n l.left)) (hopeless [])) in
        (omega (arith, left_size, ap byte_len both.0, ap length utf8.1.1, length-take-le n l.left within), subst IsHopeless both.1 hopeless)

pub none_held : (held : Vec ℕ) {empty : Bool} → empty ≡ (vec_len held == 0) → empty ≡ true → held.items ≡ []
none_held held is empty = nil_from_length held.items (let none : vec_len held ≡ 0 = eqb-true (vec_len held) 0 (sym is ∙ empty) in omega (arith, none))

-- with more bytes after those that are held, it stands before them too
reached_more : (f : Feed) (rest bytes : List ℕ) → IsOpen f rest → Reached (first_mode f.state.place) (f.held.items ++ bytes) f.state.scan (rest ++ bytes)
reached_more f rest bytes o = record {
  read = o.read;
  way = o.way;
  rests = rests_more f.state.scan o.way.field rest bytes o.rests;
  spell = sym (append_assoc (encode_utf8_all o.read) rest bytes) ∙ ap (λ t. t ++ bytes) o.spell;
  scalars = o.scalars;
}

-- a place in characters that what is held begins with
pub within_held : (f : Feed) (read rest : List ℕ) → encode_utf8_all read ++ rest ≡ f.held.items → (offset : ℕ) (w : Within read offset) → (offset ≤ length f.held.items) × (take offset f.held.items ≡ encode_utf8_all w.prefix)
within_held f read rest spelled offset w = grind (arith, byte_len-append, encodes-append, append_assoc, take-append_seam, length-append)

module _ (f : Feed) (rest : List ℕ) (o : IsOpen f rest) where
  pub open_stop : f.state.scan.stop ≡ byte_len o.read
  open_stop = rests_end o.way (begun_sound f.state.place) o.rests

  pub open_size : length f.held.items ≡ byte_len o.read + length rest
  open_size = ap length (sym o.spell) ∙ length-append (encode_utf8_all o.read) rest

  -- where the scan stopped in the bytes that are held
  pub open_within : (bytes : List ℕ) → bytes ≡ f.held.items → f.state.scan.stop ≤ length bytes
  open_within bytes is = omega (arith, open_stop, open_size, ap length is)

  -- the bytes after the place where the scan stands
  pub next_is : (held : List ℕ) → held ≡ f.held.items → take (length held - f.state.scan.stop) (drop f.state.scan.stop held) ≡ rest
  next_is held same = take_all (length held - f.state.scan.stop) (drop f.state.scan.stop held) (omega (arith, length-drop f.state.scan.stop held))
      ∙ ap (drop f.state.scan.stop) same ∙ ap (λ (n : ℕ). drop n f.held.items) open_stop
      ∙ ap (drop (byte_len o.read)) (sym o.spell) ∙ drop-append_seam (encode_utf8_all o.read) rest

-- more bytes are held: it stands before those that follow in what is held then
pub reached_held : (f : Feed) (v : Vec ℕ) (bytes : List ℕ) → v.items ≡ f.held.items ++ bytes → IsHeldOpen f → (held : List ℕ) → held ≡ v.items
    → Reached (first_mode f.state.place) v.items f.state.scan (take (length held - f.state.scan.stop) (drop f.state.scan.stop held))
reached_held f v bytes is (rest, o) held same =
    let opens : IsOpen (record f { held = v }) (rest ++ bytes) = subst (λ t. Reached (first_mode f.state.place) t f.state.scan (rest ++ bytes)) (sym is) (reached_more f rest bytes o) in
    subst (Reached (first_mode f.state.place) v.items f.state.scan) (sym (next_is (record f { held = v }) (rest ++ bytes) opens held same)) opens

-- what stands there tells of what is left
module _ (f : Feed) (s : StopsHeld f Stop.TextEnd) (held : List ℕ) (is : held ≡ f.held.items) where
  abbrev bytes_left : List ℕ
  bytes_left = take (length held - f.state.scan.stop) (drop f.state.scan.stop held)

  pub part_held : TellsHopeless bytes_left None → ¬ (IsHopeless s.rest)
  part_held tells = let (n, utf8, bad, more) = subst (λ t. TellsHopeless t None) (next_is f s.stops.left s.stops.reached held is) tells in
      subst (λ t. ¬ (IsHopeless t)) (cut_is s.stops n utf8 bad).1 more

  pub hopeless_held : (n : ℕ) → TellsHopeless bytes_left (Some n) → (f.state.scan.stop + n ≡ byte_len s.read) × IsHopeless s.rest
  hopeless_held n tells = hopeless_left s.stops (begun_sound f.state.place) s.spell n (subst (λ t. TellsHopeless t (Some n)) (next_is f s.stops.left s.stops.reached held is) tells)

-- where all that is held was scanned, it stands before the bytes that come next
pub reached_next : (f : Feed) (chunk : List ℕ) → IsHeldOpen f → length f.held.items ≤ f.state.scan.stop → Reached (first_mode f.state.place) (f.held.items ++ chunk) f.state.scan chunk
reached_next f chunk (rest, o) all =
    let none : rest ≡ [] = nil_from_length rest (omega (arith, all, open_stop f rest o, open_size f rest o)) in
    subst (λ t. Reached (first_mode f.state.place) (f.held.items ++ chunk) f.state.scan (t ++ chunk)) none (reached_more f rest chunk o)

-- what two calls leave, one after the other
pub holds_on : {place line : ℕ} {ended : Bool} {items more others : List ℕ} {fault known also : Option Fault} {mid new : Feed}
    → HoldsAt place line ended items fault mid → HoldsAt mid.state.place mid.state.line mid.ended more known new → more ≡ others → known ≡ also
    → HoldsAt place line ended others also new
holds_on a b is same = record { held = b.held ∙ is; place = b.place ∙ a.place; line = b.line ∙ a.line; ended = b.ended ∙ a.ended; fault = b.fault ∙ same }

-- a fault in what is held then is one after what was held before
pub fails_later : (old mid new : Feed) {items more all : List ℕ} {known : Option Fault} {fault : Fault} → Holds old items known mid → more ≡ all → FailsIn mid more fault new → FailsIn old all fault new
fails_later old mid new text is (later, ready, decided) = (holds_on text later is refl, ready, rw (← is, ← text.place, ← text.line) decided)

-- the state stays sound where more bytes are held
pub room_more : (old new : Feed) (bytes : List ℕ) {known : Option Fault} → IsSoundFeed old → old.state.place + length old.held.items + length bytes ≤ 2 ^ 62
    → Holds old (old.held.items ++ bytes) known new → HasRoom new 0
room_more old new bytes s fits more = grind (arith, length-append)

-- nothing that a caller sees has changed
pub runs_out : {old new : Feed} → IsSoundFeed old → old.state.fault ≡ None → old.ready ≡ None → IsUnchanged old new
    → ScannerRunsOut (scanning_of old) (scanning_of new) × IsSoundFeed new
runs_out {old} {new} sound no_fault ready (same, none, opens) = grind arith

-- the scan that was begun anew is that of a line of which nothing was read
pub begun_open : (was : LineState) (new : Feed) → BeginsAnew was new.state → IsOpen new new.held.items
begun_open was new b = subst (λ (n : ℕ). Reached (first_mode n) new.held.items new.state.scan new.held.items) (sym (ap (λ (s : LineState). s.place) b.same))
    (begun_reached b.begun (begun_sound was.place) new.held.items)

-- nothing that a caller sees has changed then
pub begun_unchanged : (old new : Feed) (was : LineState) → new.ready ≡ None → Holds old old.held.items old.state.fault (record new { state = was })
    → BeginsAnew was new.state → IsUnchanged old new
begun_unchanged old new was ready same begins = grind (arith, begun_open)

-- so many bytes stay held, and no line is ready
pub dropped : (old mid new : Feed) (bytes : List ℕ) {before : ℕ} → Holds old (old.held.items ++ bytes) old.state.fault mid
    → before ≡ length old.held.items → DropsLine mid before new → IsUnchanged old new
dropped old mid new bytes {before} more size d = begun_unchanged old new mid.state (ap (λ (f : Feed). f.ready) d.same) (record {
  held = d.held ∙ ap (take before) more.held ∙ ap (λ (n : ℕ). take n (old.held.items ++ bytes)) size ∙ take-append_seam old.held.items bytes;
  place = more.place;
  line = more.line;
  ended = ap (λ (f : Feed). f.ended) d.same ∙ more.ended;
  fault = more.fault;
}) d.begins

-- the text has this fault from now on, so far in what is held
pub record FailsAt (old : Feed) (kind : FaultKind) (offset : ℕ) (error : LexError) (new : Feed) : Type 0 where
  pub same : new ≡ record old { state = new.state }
  pub keeps : KeepsFault old.state kind offset (take offset old.held.items) error new.state

pub fails_so : (f : Feed) (state : LineState) (kind : FaultKind) (offset : ℕ) (error : LexError) {bytes : List ℕ} → bytes ≡ f.held.items
    → KeepsFault f.state kind offset (take offset bytes) error state → FailsAt f kind offset error (record f { state = state })
fails_so f state kind offset error is keeps = record { same = refl; keeps = subst (λ b. KeepsFault f.state kind offset (take offset b) error state) is keeps }

module _ (f new : Feed) (kind : FaultKind) (offset : ℕ) (error : LexError) (fails : FailsAt f kind offset error new) where
  -- a fault keeps all that is held
  pub fails_keep : Holds f f.held.items (Some fails.keeps.fault) new
  fails_keep = subst (Holds f f.held.items (Some fails.keeps.fault)) (sym (fails.same ∙ ap (λ (s : LineState). record f { state = s }) fails.keeps.same))
      (record { held = refl; place = refl; line = refl; ended = refl; fault = refl })

  -- it stands after these characters of what is held
  pub fault_after : (read rest : List ℕ) → encode_utf8_all read ++ rest ≡ f.held.items → (w : Within read offset) → IsFaultAfter f.state kind offset (encode_utf8_all w.prefix) fails.keeps.fault
  fault_after read rest spell w = subst (λ b. IsFaultAfter f.state kind offset b fails.keeps.fault) (within_held f read rest spell offset w).1 fails.keeps.at

  -- the scan of what is held meets a fault
  fails_held : f.ready ≡ None → (before : ℕ) → WhereHeld f.state.place f.state.line f.held.items (λ text lines. IsDecidedAt text f.state.place lines (length f.held.items) fails.keeps.fault)
      → Meets f before (Err error) new
  fails_held none before decided = subst (λ (e : LexError). Meets f before (Err e) new) (sym fails.keeps.error_is) (fails_keep, ap (λ (x : Feed). x.ready) fails.same ∙ none, decided)

module _ (f new : Feed) (before : ℕ) (error : LexError) (not_ready : f.ready ≡ None) where
  -- what is left begins no character, whatever follows
  pub part_fails : (offset : ℕ) (s : StopsHeld f Stop.TextEnd) → offset ≡ byte_len s.read → IsHopeless s.rest → FailsAt f FaultKind.BadUtf8 offset error new → Meets f before (Err error) new
  part_fails offset s at hopeless fails = let left = s.stops in
      let some : 0 < length s.rest = ⊎_elim (λ more. more) (λ none. absurd (part_none (subst IsHopeless (nil_from_length s.rest (omega (arith, none))) hopeless))) (cases_lt 0 (length s.rest)) in
      fails_held f new FaultKind.BadUtf8 offset error fails not_ready before (λ text lines first goes.
      by_bytes text f.state lines f.held.items s.read s.rest first goes s.scalars s.spell left.way (left_open left some) some hopeless fails.keeps.fault
      (subst (λ (n : ℕ). IsFaultAfter f.state FaultKind.BadUtf8 n (encode_utf8_all s.read) fails.keeps.fault) at
      (fault_after f new FaultKind.BadUtf8 offset error fails s.read s.rest s.spell (record { prefix = s.read; later = []; split = append-nil s.read; size = at }))))

  -- the next character is refused
  pub held_refused : (line_fault : LineFault) → StopsHeld f (Stop.Wrong line_fault) → FailsAt f line_fault.kind line_fault.place error new → Meets f before (Err error) new
  held_refused line_fault s fails = let no = s.stops in let w = refused_within f.state.place s.read no.way no.c no.none line_fault no.fault in
      fails_held f new line_fault.kind line_fault.place error fails not_ready before (λ text lines first goes.
      by_character text f.state lines f.held.items s.read s.rest first goes s.scalars s.spell no.way no.c no.after no.scalar no.spell no.none no.open_yet line_fault no.fault fails.keeps.fault w
      (fault_after f new line_fault.kind line_fault.place error fails s.read s.rest s.spell w))
