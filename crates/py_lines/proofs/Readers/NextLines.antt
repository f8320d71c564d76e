-- A line that the last bytes of a text begin with: what the scan of it comes to.
use Rattle.py_lines.proofs.Prelude.{◌≡◌, ℕ, ◌+◌, ◌-◌, ◌<◌, ◌≤◌, inl, inr, true, None, Some, Ok, Err, Result, List, [], ◌∷◌, ◌++◌, length, take, drop, refl, sym, ap, ◌∙◌, subst, append_assoc, append-nil, arith, length-append, length-drop, encode_utf8_all, all_scalars, length-take-le, nil_from_length, take_all, encodes-append, encodes_same, length-le-encodes, is_line_feed, Piece, begins, spelled, LogicalLine, byte_len, line_ends, line_of, Fault, FaultKind, LineState, LineFault, Scan, AreReadBefore, AreFirstLines, byte_len-append}
use Rattle.py_lines.specs.Lexed.{IsLexed}
use Rattle.py_lines.specs.Reader.{HasGiven, PassesLine, Reader}
use Rattle.py_lines.specs.ScannerState.{GoesOnWith}
use Rattle.py_lines.specs.declared.fault.LexError.{LexError}
use Rattle.py_lines.specs.declared.scan.Stop.{Stop}
use Rattle.py_lines.specs.declared.scan.Stop.TheVariants as stops
use Rattle.py_lines.specs.Private.Machine.{Mode}
use Rattle.py_lines.specs.Private.LineTokens.{AreLineText}
use Rattle.py_lines.specs.Private.FieldMachine.{field_pieces}
use Rattle.py_lines.specs.Private.LineScan.{IsUnderWay, ScansIn, begins_line}
use Rattle.py_lines.specs.Private.LineState.{HasNextLine, IsFaultAfter, KeepsFault, ScansLine, WhereLeft, first_mode, reread, rescanned}
use Rattle.py_lines.specs.Private.Scan.{EndsTextSo, HasPending}
use Rattle.py_lines.proofs.Feeds.DecidedSoFar.{by_character, ended_bytes, ended_unfinished}
use Rattle.py_lines.proofs.Feeds.Known.{IsKnown, first_at, is_known}
use Rattle.py_lines.proofs.Feeds.OpenLine.{left_none}
use Rattle.py_lines.proofs.Feeds.ReadyLines.{ended_alone, line_alone, stopped_text}
use Rattle.py_lines.proofs.Lexings.FirstLines.{given_begin}
use Rattle.py_lines.proofs.LineScan.LineCount.{line_ends-bytes}
use Rattle.py_lines.proofs.LineScan.LineSteps.{follows_whole, returned, way_here, way_sound}
use Rattle.py_lines.proofs.LineScan.TextSteps.{begun_sound}
use Rattle.py_lines.proofs.Readers.LineAnswers.{ComesToEnd, IsEnded, IsScannedLine, all_within, fits_on, left_ends, left_stop, left_text, line_at_end, line_at_text_end, line_text, one_more}
use Rattle.py_lines.proofs.Readers.LineFaults.{Within, ends_as_read, finished, refused_within, unfinished_within}

-- this is wrong in the line with which the bytes begin, so far from its start
pub record HasNextFault (s : LineState) (bytes : List ℕ) (line_fault : LineFault) : Type 0 where
  pub within : line_fault.place ≤ length bytes
  pub lexed : (fault : Fault) → IsFaultAfter s line_fault.kind line_fault.place (take line_fault.place bytes) fault
      → WhereLeft s.place s.line bytes (λ text lines. IsLexed text lines (Some fault))

-- the line was scanned, or this is wrong in it
abbrev pub IsScanned : LineState → List ℕ → Result ℕ LineFault → ℕ → Type 0
IsScanned s bytes (Ok end_len) stop = HasNextLine s.place s.line bytes stop end_len
IsScanned s bytes (Err line_fault) stop = HasNextFault s bytes line_fault

-- what is wrong is the text's fault then, and is kept
pub meets : {s mid new : LineState} {bytes : List ℕ} {f : LineFault} {error : LexError} → mid ≡ rescanned s mid → HasNextFault s bytes f
    → KeepsFault mid f.kind f.place (take f.place bytes) error new → ScansLine s bytes (Err error) new
meets {s} {mid} {new} {bytes} {f} same wrong kept =
    let at = subst (λ (t : LineState). IsFaultAfter t f.kind f.place (take f.place bytes) kept.fault) same kept.at in
    subst (λ e. ScansLine s bytes (Err e) new) (sym kept.error_is) (record {
      same = subst (λ t. t ≡ record (reread s t) { fault = Some kept.fault }) (sym (kept.same ∙ ap (λ (t : LineState). record t { fault = Some kept.fault }) same)) refl;
      lexed = wrong.lexed kept.fault (record { is = at.is; place = at.place; line = at.line });
    })

-- characters and bytes that are nothing together
both_none : (more tail : List ℕ) → encode_utf8_all more ++ tail ≡ [] → (more ≡ []) × (tail ≡ [])
both_none more tail none =
    let size : byte_len more + length tail ≡ 0 = sym (length-append (encode_utf8_all more) tail) ∙ ap length none in
    (nil_from_length more (omega (arith, size, length-le-encodes more)), nil_from_length tail (omega (arith, size)))

-- characters that were gone over, and the bytes that are left
pub record HasRead (bytes : List ℕ) : Type 0 where
  pub read : List ℕ
  pub rest : List ℕ
  pub scalars : all_scalars read ≡ true
  pub spell : encode_utf8_all read ++ rest ≡ bytes

abbrev read_in : {m : Mode} {bytes : List ℕ} {scan : Scan} {stop : Stop} → ScansIn m bytes scan stop → HasRead bytes
read_in l = record { read = l.read; rest = l.rest; scalars = l.scalars; spell = l.spell }

module _ {bytes : List ℕ} (has : HasRead bytes) where
  pub bytes_size : length bytes ≡ byte_len has.read + length has.rest
  bytes_size = ap length (sym has.spell) ∙ length-append (encode_utf8_all has.read) has.rest

  -- what is wrong stands among the characters
  faulty : (s : LineState) {f : LineFault} (w : Within has.read f.place)
      → ((fault : Fault) → IsFaultAfter s f.kind f.place (encode_utf8_all w.prefix) fault → WhereLeft s.place s.line bytes (λ text lines. IsLexed text lines (Some fault))) → HasNextFault s bytes f
  faulty s {f} w lexed = let later = encode_utf8_all w.later ++ has.rest in let parts : encode_utf8_all w.prefix ++ later ≡ bytes
      = sym (append_assoc (encode_utf8_all w.prefix) (encode_utf8_all w.later) has.rest) ∙ ap (λ t. t ++ has.rest) (sym (encodes-append w.prefix w.later) ∙ ap encode_utf8_all w.split) ∙ has.spell in
      record {
        within = omega (arith, w.size, ap length parts, length-append (encode_utf8_all w.prefix) later);
        lexed = λ fault at. lexed fault (subst (λ b. IsFaultAfter s f.kind f.place b fault) (stopped_text f.place bytes w.prefix later parts w.size) at);
      }

  module _ {place line : ℕ} (text : List ℕ) (lines : List LogicalLine) (first : AreFirstLines text place line lines) (is : bytes ≡ drop place text) where
    goes : GoesOnWith text place bytes
    goes = subst (λ b. take (length b) (drop place text) ≡ b) (sym is) (take_all (length (drop place text)) (drop place text) (omega arith))

    module _ (some : 0 < length bytes) where
      pub known : IsKnown text place line lines has.read has.rest
      known = is_known text place line lines has.read has.rest first has.scalars (subst (GoesOnWith text place) (sym has.spell) goes) (omega (arith, some, ap length has.spell))

      whole : length text ≡ place + length (encode_utf8_all has.read ++ has.rest)
      whole = omega (arith, some, ap length is, length-drop place text, ap length has.spell)

      -- what comes after them is decoded so
      pub left : encode_utf8_all known.more ++ known.tail ≡ has.rest
      left = let k = known in let size : length text ≡ byte_len (spelled k.base) + (byte_len has.read + byte_len k.more) + length k.tail
          = ap length (sym k.decodes.spell) ∙ length-append (encode_utf8_all (spelled k.base ++ (has.read ++ k.more))) k.tail
          ∙ ap (λ n. n + length k.tail) (byte_len-append (spelled k.base) (has.read ++ k.more) ∙ ap (λ n. byte_len (spelled k.base) + n) (byte_len-append has.read k.more)) in
          let beyond : k.beyond ≡ [] = nil_from_length k.beyond (omega (arith, size, whole, k.here, length-append (encode_utf8_all has.read) has.rest, ap length k.follow, length-append (encode_utf8_all k.more) k.tail, length-append has.rest k.beyond)) in
          k.follow ∙ ap (λ t. has.rest ++ t) beyond ∙ append-nil has.rest

  -- they are a line
  abbrev pub line_read : (place line : ℕ) {scan : Scan} {len : ℕ} {u : List Piece} (own : IsScannedLine (first_mode place) scan has.read len u)
      → ((more tail : List ℕ) → encode_utf8_all more ++ tail ≡ has.rest → AreReadBefore u more × IsEnded u (more ++ tail ≡ [])) → HasNextLine place line bytes scan.stop len
  line_read place line {scan} {len} {u} own follows = let stop = own.stop in let some : 0 < length bytes = omega (arith, own.line.some, bytes_size) in record {
    is = record {
      pieces = u;
      text = subst (λ t. AreLineText t u) (sym (stopped_text scan.stop bytes has.read has.rest has.spell stop)) (line_text (first_mode place) scan has.read len u has.scalars own);
      whole = own.line.whole;
      ends = own.ends;
      some = omega (arith, stop, own.line.some);
      within = omega (arith, stop, bytes_size);
    };
    next = λ text lines first is. let k = known text lines first is some in let (fit, ended) = follows k.more k.tail (left text lines first is some) in
        first_at (ap (λ (n : ℕ). place + n) stop) (ap (λ t. line + line_ends t) own.line.spell) (one_more k own.line fit ended);
  }

module _ (s : LineState) {bytes : List ℕ} {scan : Scan} where
  -- a line that its line end closes
  pub line_scanned : {len : ℕ} → ScansIn (first_mode s.place) bytes scan (stops.LineEnd len) → HasNextLine s.place s.line bytes scan.stop len
  line_scanned l = let at = line_alone l in line_read (read_in l) s.place s.line (ended_alone l) (λ more tail follow. (
    fits_on at more (follows_whole l.read l.rest more tail [] l.stops.1 (follow ∙ sym (append-nil l.rest))),
    IsEnded.by_line at.body at.last refl at.are.class at.are.level,
  ))

  -- a character that is refused
  pub character_refused : {f : LineFault} → ScansIn (first_mode s.place) bytes scan (stops.Wrong f) → HasNextFault s bytes f
  character_refused {f} l = let r = l.stops in let w = refused_within s.place l.read r.way r.c r.none f r.fault in
      faulty (read_in l) s w (λ fault at text lines first is.
      (by_character text s lines bytes l.read l.rest first (goes (read_in l) text lines first is) l.scalars l.spell r.way r.c r.after r.scalar r.spell r.none r.open_yet f r.fault fault w at).lexed)

-- the scan has stopped before bytes that don't tell, or after all
module _ (s : LineState) {bytes : List ℕ} {scan : Scan} (l : ScansIn (first_mode s.place) bytes scan stops.TextEnd) where
  start : begins_line (first_mode s.place) ≡ true
  start = begun_sound s.place

  pub stops_within : scan.stop ≤ length bytes
  stops_within = omega (arith, left_stop l.stops start, ap length l.stops.reached.spell, length-append (encode_utf8_all l.stops.reached.read) l.stops.left)

  bytes_left : take (length bytes - scan.stop) (drop scan.stop bytes) ≡ l.stops.left
  bytes_left = take_all (length bytes - scan.stop) (drop scan.stop bytes) (omega (arith, length-drop scan.stop bytes)) ∙ left_text l.stops start

  pub left_pending : HasPending scan.mode (take (length bytes - scan.stop) (drop scan.stop bytes))
  left_pending = subst (HasPending scan.mode) (sym bytes_left) l.stops.pending

  abbrev has : HasRead bytes
  has = read_in l

  abbrev way : IsUnderWay (first_mode s.place) l.read
  way = l.stops.way

  -- so the text ends
  pub text_ended : 0 < length bytes → (result : Result ℕ LineFault) (new : Scan) → EndsTextSo scan (take (length bytes - scan.stop) (drop scan.stop bytes)) result new → IsScanned s bytes result new.stop
  text_ended some result new ends = by result (left_ends l.stops start l.spell result new (subst (λ b. EndsTextSo scan b result new) bytes_left ends)) where
    some_read : l.rest ≡ [] → 0 < byte_len l.read
    some_read none = omega (arith, some, bytes_size (read_in l), ap length none)

    by : (result : Result ℕ LineFault) → ComesToEnd way.field l.rest result new → IsScanned s bytes result new.stop
    -- with the line end CR
    by (Ok len) (stop, inl (one, is)) = let none = left_none l.stops is in
        let at = returned way start stop is (λ after same. ap (begins is_line_feed) (encodes_same after [] same)) in
        subst (λ n. IsScanned s bytes (Ok n) new.stop) (sym one) (line_read (read_in l) s.place s.line (line_at_end (first_mode s.place) new l.read [] 1 at [] refl) (λ more tail follow. (
          subst (AreReadBefore (at.body ++ at.last ∷ [])) (sym (both_none more tail (follow ∙ none)).0) (at.fit [] refl),
          IsEnded.by_line at.body at.last refl at.are.class at.are.level,
        )))
    -- with none
    by (Ok len) (stop, inr (zero, none, open_yet, unfinished)) = let final = finished way.field unfinished in
        subst (λ n. IsScanned s bytes (Ok n) new.stop) (sym zero)
        (line_read (read_in l) s.place s.line (line_at_text_end (first_mode s.place) new l.read way start final open_yet (some_read none) (stop ∙ way_here way start)) (λ more tail follow.
        let (no_more, no_tail) = both_none more tail (follow ∙ none) in (
          subst (AreReadBefore (field_pieces way.field)) (sym no_more) (ends_as_read way.field l.read (way_sound way start) final).fit,
          IsEnded.by_text (ap (λ t. t ++ tail) no_more ∙ no_tail),
        )))
    -- with bytes that begin no character
    by (Err f) (open_yet, inl (more, kind, place)) = let size = place ∙ way_here way start in
        faulty (read_in l) s (all_within l.read f.place size) (λ fault at text lines first is.
        ended_bytes text s lines l.read l.rest (known (read_in l) text lines first is some) (whole (read_in l) text lines first is some) way open_yet more fault
        (subst (λ (k : FaultKind). IsFaultAfter s k (byte_len l.read) (encode_utf8_all l.read) fault) kind (subst (λ (n : ℕ). IsFaultAfter s f.kind n (encode_utf8_all l.read) fault) size at)) l.stops.none)
    -- or where it may not end
    by (Err f) (open_yet, inr (none, unfinished)) = let w = unfinished_within s.place l.read way (some_read none) f unfinished in
        faulty (read_in l) s w (λ fault at text lines first is.
        ended_unfinished text s lines l.read l.rest (known (read_in l) text lines first is some) (whole (read_in l) text lines first is some) way open_yet none (some_read none) f unfinished fault w at)

-- the reader after so many bytes and line ends
abbrev pub further : Reader → ℕ → ℕ → Reader
further r len feeds = record { text = r.text; place = r.place + len; line = r.line + feeds; fault = r.fault }

-- the reader passes the next line
pub passes_next : (r : Reader) {bytes : List ℕ} {stop len : ℕ} (h : HasNextLine r.place r.line bytes stop len) → bytes ≡ drop r.place r.text → r.fault ≡ None
    → PassesLine r (line_of r.place r.line h.is.pieces) (further r stop (line_ends (spelled h.is.pieces)))
passes_next r {bytes} {stop} h from no_fault =
    let u = h.is.pieces in let new = further r stop (line_ends (spelled u)) in let text = h.is.text.spell in
    let size : byte_len (spelled u) ≡ stop = ap length text ∙ length-take-le stop bytes h.is.within in
    let given : (lines : List LogicalLine) → HasGiven r lines → HasGiven new (lines ++ line_of r.place r.line u ∷ []) = λ lines had. record { first = h.next r.text lines had.first from; no_fault = no_fault } in
    record {
      continues = record {
        given = given;
        begins = λ lines had. given_begin new (lines ++ line_of r.place r.line u ∷ []) (given lines had);
        text = refl;
        place = ap (λ (n : ℕ). r.place + n) (sym size);
        some_text = omega (arith, size, h.is.some);
        within = omega (arith, h.is.some, h.is.within, ap length from, length-drop r.place r.text);
        fault = no_fault;
        no_fault = no_fault;
      };
      text = text ∙ (let n : stop ≡ r.place + stop - r.place = omega arith in λ i. take (n i) (from i));
      utf8 = (spelled u, (h.is.text.scalars, refl));
    }

-- a text's first lines reach to a place in it, and the lines before it are no more than its bytes
pub lines_within : {text : List ℕ} {place line : ℕ} {lines : List LogicalLine} → AreFirstLines text place line lines → (place ≤ length text) × (line ≤ place + 1)
lines_within first = let front = spelled first.pieces in (
  omega (arith, first.here, ap length first.decodes.spell, length-append (encode_utf8_all first.characters) first.tail, ap byte_len first.spell, byte_len-append front first.rest),
  omega (arith, first.here, first.number, line_ends-bytes front),
)
