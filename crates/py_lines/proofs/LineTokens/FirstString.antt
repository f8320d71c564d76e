-- The string that bytes begin with: the scan goes through it, item after item, and stops after it.
use Rattle.py_lines.proofs.Prelude.{◌≡◌, ℕ, ◌+◌, ◌<◌, ◌≤◌, ⊎_elim, not, true, false, None, Some, List, [], ◌∷◌, ◌++◌, length, drop, refl, sym, ap, ◌∙◌, subst, append_assoc, append-nil, arith, length-append, encode_utf8, encode_utf8_all, IsScalar, all_scalars, and_from, and_left, and_parts, both_ways, append_cancel_left, nil_from_length, encodes-append, len_utf8_bounds, length-encode, length-le-encodes, is_line_feed, is_return, begins, ends, string, Piece, spelled, byte_len, LineFault, Progress, Scan, OpenMode, has_field, piece}
use Rattle.py_lines.specs.declared.mode.Mode.TheVariants as opens
use Rattle.py_lines.specs.declared.scan.Progress.TheVariants as progress
use Rattle.py_lines.specs.Private.Mode as modes
use Rattle.py_lines.specs.Private.Machine.{start_of}
use Rattle.py_lines.specs.Private.FieldMachine.{FieldMode, FieldScanned, breaks, field_move, field_moved, field_pieces, field_started, plain}
use Rattle.py_lines.specs.Private.Scan.{ComesOver, ComesTo as Comes, EndsWithFeed, EndsWithReturn, Follows, Goes, GoesOver, GoesOverAll, HoldsRun, IsOneItem, IsWrongIn, KeepsOpen, Rests, StandsAs, Steps, has_returned, is_break_move, is_free_mode, is_return_at, is_in_code, is_shut, mode_from}
use Rattle.py_lines.specs.Private.LineScan.{HasBegun, IsUnderWay, Reached}
use Rattle.py_lines.specs.Private.LineTokens.{BeginWithPiece, FirstPiece, IsFirstPiece}
use Rattle.py_lines.proofs.FieldMachine.OuterLists.{outer_alone, started_outer}
use Rattle.py_lines.proofs.FieldScans.Frames.{frames-length}
use Rattle.py_lines.proofs.FieldScans.PlainCode.{outside_fields}
use Rattle.py_lines.proofs.FieldScans.Taking.{comes_real, first_byte, first_real, goes_real, some_run}
use Rattle.py_lines.proofs.FieldSoundness.WholeTexts.{two_hundred}
use Rattle.py_lines.proofs.Lexings.LineEnds.{return_returns}
use Rattle.py_lines.proofs.Lexings.OuterRuns.{outer_spells}
use Rattle.py_lines.proofs.LineScan.LineSteps.{begun_reached, goes_on, rests_end, way_sound}
use Rattle.py_lines.proofs.LineScan.LineStops.{Stands, stands_reached}
use Rattle.py_lines.proofs.LineScan.Reaching.{feed_bytes, reached_more, return_bytes}
use Rattle.py_lines.proofs.LineTokens.FirstCharacters.{spelled_bytes}
use Rattle.py_lines.proofs.LineTokens.StringRuns.{BeginsString, IsShutAlone, along, begins_string, breaks_there, goes_one, kept, runs_left, shut_there}
use Rattle.py_lines.proofs.LogicalLines.Cuts.{ends-last, no_bytes}
use Rattle.py_lines.proofs.Machine.PieceSteps.{some_is}
use Rattle.py_lines.proofs.PassedPieces.Ends.{in_code}
use Rattle.py_lines.proofs.Text.Incomplete.{text_none}
use Rattle.py_lines.proofs.Text.Splits.{Either, either}
use Rattle.py_lines.proofs.Text.Utf8Prefixes.{all_scalars-parts, prefix_chars}

-- so many bytes are its text
pub string_within : (bytes : List ℕ) (p : Piece) → BeginWithPiece bytes p → byte_len p.text ≤ length bytes
string_within bytes p b = omega (arith, ap length (spelled_bytes bytes p b), length-append (encode_utf8_all p.text) (encode_utf8_all (spelled b.others)))

-- and as many has the first piece, as it was read
pub first_within : {bytes : List ℕ} {x : FirstPiece} → (p : Piece) × BeginWithPiece bytes p → IsFirstPiece bytes x → x.len ≤ length bytes
first_within {bytes} (p, b) is = omega (arith, ap (λ (y : FirstPiece). y.len) (is p b), string_within bytes p b)

-- no piece ends between the characters of an item
item_at : (t x : FieldScanned) (z : List ℕ) (d : ℕ) (w : List ℕ) → 0 < length z → Goes t z x → IsOneItem t (z ++ d ∷ w)
    → is_break_move (field_move x.mode x.held d) ≡ false
item_at t x [] d w some goes one = absurd (omega (arith, some))
item_at t x (c ∷ []) d w some (open_yet, next, step, on, same) (n, again, stays, others) =
    subst (λ (y : FieldScanned). is_break_move (field_move y.mode y.held d) ≡ false) (some_is n next (sym again ∙ step) ∙ same) stays
item_at t x (c ∷ e ∷ z) d w some (open_yet, next, step, on, goes) (n, again, stays, others) =
    item_at next x (e ∷ z) d w (omega arith) goes (subst (λ (y : FieldScanned). IsOneItem y (e ∷ (z ++ d ∷ w))) (some_is n next (sym again ∙ step)) others)

-- nor between those that are held
open_at : (t x : FieldScanned) (z v : List ℕ) → 0 < length z → Goes t z x → KeepsOpen t (z ++ v) → x.outer ≡ [] → is_shut x.mode ≡ false
open_at t x [] v some goes keeps = absurd (omega (arith, some))
open_at t x (c ∷ []) v some (open_yet, next, step, on, same) (n, again, stays, others) =
    subst (λ (y : FieldScanned). y.outer ≡ [] → is_shut y.mode ≡ false) (some_is n next (sym again ∙ step) ∙ same) stays
open_at t x (c ∷ e ∷ z) v some (open_yet, next, step, on, goes) (n, again, stays, others) =
    open_at next x (e ∷ z) v (omega arith) goes (subst (λ (y : FieldScanned). KeepsOpen y (e ∷ (z ++ v))) (some_is n next (sym again ∙ step)) others)

-- a scan that keeps count of such a state has nothing open
shut_free : (m : OpenMode) → is_shut (mode_from m) ≡ true → is_free_mode m ≡ true
shut_free opens.Free shut = refl
shut_free m shut = absurd (both_ways _ refl shut)

shut_settled : (scan : Scan) (u : FieldScanned) → Follows scan u → IsShutAlone u → is_in_code scan ≡ true
shut_settled scan u follows (shut, none) =
    and_from _ _ (shut_free scan.mode (ap is_shut follows.mode ∙ shut))
    (ap (λ fs. not (has_field fs)) (nil_from_length scan.frames (frames-length u.outer u.done u.openers scan.frames follows.frames ∙ none)))

-- so the scan has nothing open where such a state is the machine's
settled_at : (t : FieldScanned) {scan : Scan} {rest : List ℕ} → IsShutAlone t → Rests scan t rest → is_in_code scan ≡ true
settled_at t {scan} {rest} shut rests = shut_settled scan rests.as_if rests.follows (by rest rests.stands) where
  by : (bytes : List ℕ) → StandsAs bytes t rests.as_if → IsShutAlone rests.as_if
  by [] stands = subst IsShutAlone stands shut
  by (c ∷ cs) stands = ⊎_elim (λ same. subst IsShutAlone (sym same) shut) (λ same. subst IsShutAlone (sym same) (refl, shut.1)) (stands.shut shut.0)

-- CR is open in none of them
shut_unreturned : (m : FieldMode) → is_shut m ≡ true → is_return_at m ≡ false
shut_unreturned (plain modes.Return) shut = absurd (both_ways _ refl shut)
shut_unreturned m shut = refl

-- where the scan has nothing open, the machine's piece ends before the next character
settled_ends : (t : FieldScanned) {scan : Scan} {rest : List ℕ} → Rests scan t rest → is_in_code scan ≡ true → (d : ℕ) (y : List ℕ) → IsScalar d
    → encode_utf8_all (d ∷ y) ≡ rest → (t.outer ≡ []) × (field_move t.mode t.held d ≡ breaks)
settled_ends t {scan} {rest} rests settled d y scalar spell = by rest spell rests.stands where
  u : FieldScanned
  u = rests.as_if

  by : (bytes : List ℕ) → encode_utf8_all (d ∷ y) ≡ bytes → StandsAs bytes t u → (t.outer ≡ []) × (field_move t.mode t.held d ≡ breaks)
  by [] is stands = absurd (omega (arith, ap length is, length-append (encode_utf8 d) (encode_utf8_all y), length-encode d, len_utf8_bounds d))
  by (b ∷ bytes) is stands =
      let (free, none) = in_code scan settled in
      let there = stands.free (sym rests.follows.mode ∙ ap mode_from free) (outside_fields u.outer u.done u.openers scan.frames rests.follows.frames none) in
      (there.outside, there.ends d (first_byte d b (encode_utf8_all y) bytes scalar is))

-- pieces that are found, of which the string is the first
as_long : (text : List ℕ) (ps qs : List Piece) → piece string text ∷ [] ≡ ps ++ qs → 0 < length (spelled ps) → length text ≤ length (spelled ps)
as_long text [] qs all some = absurd (omega (arith, some))
as_long text (p ∷ ps) qs all some =
    let first : piece string text ≡ p = cc in
    omega (arith, length-append p.text (spelled ps), ap (λ (q : Piece). length q.text) first)

-- before the string's end its piece doesn't end
no_stop : {bytes text read : List ℕ} (b : BeginsString bytes text) (way : IsUnderWay modes.Free read) (d : ℕ) (z : List ℕ) → text ≡ read ++ d ∷ z
    → 0 < length read → way.field.outer ≡ [] → field_move way.field.mode way.field.held d ≡ breaks → ⊥
no_stop {text = text} {read = read} b way d z at some none move =
    let t = way.field in let found = field_pieces t in
    let spell : spelled found ≡ read = ap spelled (sym (outer_alone t none).3) ∙ outer_spells two_hundred t read (way_sound way refl) in
    let o = goes_one b t d z (runs_left b t read (d ∷ z) way.goes at) in
    let starts = ap (λ ls. field_started ls found t.openers d (start_of d)) (sym none) ∙ sym (ap (field_moved t d) move) ∙ o.step in
    let (outside, (ps, on)) = started_outer found t.openers d (start_of d) o.next starts in
    let (qs, all) = kept b o.next z o.runs in
    let long = as_long text found (ps ++ qs)
    (all ∙ ap (λ l. l ++ qs) ((outer_alone o.next outside).0 ∙ on) ∙ append_assoc found ps qs) (omega (arith, some, ap length spell)) in
    omega (arith, long, ap length spell, ap length at, length-append read (d ∷ z))

-- some of the string's text is left after what was read
abbrev pub IsWithin : List ℕ → List ℕ → Type 0
IsWithin read text = (z : List ℕ) × (text ≡ read ++ z) × (0 < length z)

-- the scan of the bytes has come to these, within the string
pub record InFirst (bytes : List ℕ) (scan : Scan) (rest : List ℕ) : Type 0 where
  pub reached : Reached modes.Free bytes scan rest
  pub within : (p : Piece) → p.class ≡ string → BeginWithPiece bytes p → IsWithin reached.read p.text

-- at a line's start
pub at_start : (bytes : List ℕ) {scan : Scan} → HasBegun modes.Free scan → InFirst bytes scan bytes
at_start bytes begun =
    let reached = begun_reached begun refl bytes in
    record {
      reached = reached;
      within = λ p is begin.
          let none : reached.read ≡ [] = no_bytes reached.read (omega (arith, ap length reached.spell, length-append (encode_utf8_all reached.read) bytes)) in
          (p.text, ap (λ t. t ++ p.text) (sym none), (begins_string bytes p is begin).some);
    }

-- what goes on in the bytes goes on in the string
module _ {bytes : List ℕ} {scan : Scan} {rest : List ℕ} (at : InFirst bytes scan rest) where
  abbrev read : List ℕ
  read = at.reached.read

  abbrev way : IsUnderWay modes.Free read
  way = at.reached.way

  -- what this tells of the scan
  pub first_stands : Stands bytes scan rest
  first_stands = stands_reached modes.Free bytes scan rest refl at.reached

  module _ (p : Piece) (is : p.class ≡ string) (begin : BeginWithPiece bytes p) where
    b : BeginsString bytes p.text
    b = begins_string bytes p is begin

    abbrev z : List ℕ
    z = (at.within p is begin).0

    text_is : p.text ≡ read ++ z
    text_is = (at.within p is begin).1

    some : 0 < length z
    some = (at.within p is begin).2

    whole : p.text ++ b.more ≡ read ++ (z ++ b.more)
    whole = ap (λ t. t ++ b.more) text_is ∙ append_assoc read z b.more

    rest_is : encode_utf8_all (z ++ b.more) ≡ rest
    rest_is = append_cancel_left (encode_utf8_all read) (encode_utf8_all (z ++ b.more)) rest
        (sym (encodes-append read (z ++ b.more)) ∙ ap encode_utf8_all (sym whole) ∙ b.spell ∙ sym at.reached.spell)

    scalars : all_scalars (z ++ b.more) ≡ true
    scalars = (all_scalars-parts read (z ++ b.more) (ap all_scalars (sym whole) ∙ b.scalars)).1

    -- some bytes are left
    pub some_left : 0 < length rest
    some_left = omega (arith, some, ap length rest_is, length-le-encodes (z ++ b.more), length-append z b.more)

    -- the machine goes on in it to its end
    abbrev to : FieldScanned
    to = b.to

    goes_there : Goes way.field z to
    goes_there = along b way.field z (runs_left b way.field read z way.goes text_is)

    -- the characters that these begin with, which the string's end follows, or they go beyond it
    cut : (run after : List ℕ) → encode_utf8_all run ++ after ≡ rest → (y : List ℕ) × (z ++ b.more ≡ run ++ y) × (encode_utf8_all y ≡ after)
    cut run after spell = prefix_chars run (z ++ b.more) after (rest_is ∙ sym spell)

    meets : (run after : List ℕ) → encode_utf8_all run ++ after ≡ rest → Either run z b.more
    meets run after spell = let (y, same, spells) = cut run after spell in either run y z b.more (sym same)

    -- an item ends within the string
    item_within : (run after : List ℕ) → encode_utf8_all run ++ after ≡ rest → IsOneItem way.field run → (k : List ℕ) × (z ≡ run ++ k)
    item_within run after spell one = by (meets run after spell) where
      by : Either run z b.more → (k : List ℕ) × (z ≡ run ++ k)
      by (Either.shorter k before) = (k, before)
      by (Either.longer d w y beyond follows) =
          absurd (both_ways _ (item_at way.field to z d w some goes_there (subst (IsOneItem way.field) beyond one))
          (ap is_break_move (breaks_there b d y follows)))

    -- after which the machine goes on
    later : (run k : List ℕ) (mid : FieldScanned) → z ≡ run ++ k → Goes way.field run mid → Goes mid k to
    later run k mid before goes = goes_on way.field to mid run k (subst (λ t. Goes way.field t to) before goes_there) goes

    text_on : (run k : List ℕ) → z ≡ run ++ k → p.text ≡ (read ++ run) ++ k
    text_on run k before = text_is ∙ ap (λ t. read ++ t) before ∙ sym (append_assoc read run k)

    -- so does what is held
    held_within : (run after : List ℕ) → encode_utf8_all run ++ after ≡ rest → KeepsOpen way.field run → IsWithin (read ++ run) p.text
    held_within run after spell keeps_open = by (meets run after spell) where
      beyond_it : (v : List ℕ) → run ≡ z ++ v → ⊥
      beyond_it v beyond = both_ways _ (open_at way.field to z v some goes_there (subst (KeepsOpen way.field) beyond keeps_open) b.outside) (shut_there b).0

      by : Either run z b.more → IsWithin (read ++ run) p.text
      by (Either.shorter [] before) = absurd (beyond_it [] (sym (before ∙ append-nil run) ∙ sym (append-nil z)))
      by (Either.shorter (d ∷ ds) before) = (d ∷ ds, text_on run (d ∷ ds) before, omega arith)
      by (Either.longer d w y beyond follows) = absurd (beyond_it (d ∷ w) beyond)

    -- what else may come of a step is that nothing follows
    ends_there : (new : Scan) → b.more ≡ [] → new.stop ≡ scan.stop → new.stop + length rest ≡ byte_len p.text
    ends_there new none same =
        let all = ap byte_len text_is ∙ ap length (encodes-append read z) ∙ length-append (encode_utf8_all read) (encode_utf8_all z) in
        let left = ap length (sym rest_is) ∙ ap (λ m. byte_len (z ++ m)) none ∙ ap byte_len (append-nil z) in
        omega (arith, same, rests_end way refl at.reached.rests, all, left)

    waits_there : (all : GoesOverAll way.field rest) → b.more ≡ []
    waits_there all =
        let (y, same, spells) = cut all.run all.rest all.spell in
        let (k, before) = item_within all.run all.rest all.spell all.one in
        let whole = ap length same ∙ length-append all.run y in
        let none = ap length (spells ∙ (text_none all.rest (y, ((all_scalars-parts all.run y (ap all_scalars (sym same) ∙ scalars)).1, spells)) all.none)) in
        let taken = ap length before ∙ length-append all.run k in
        nil_from_length b.more (omega (arith, whole, none, taken, length-append z b.more, length-le-encodes y))

    not_wrong : (f : LineFault) → IsWrongIn way.field rest f → ⊥
    not_wrong f w =
        let spell = ap (λ t. t ++ w.after) (encodes-append w.run (w.c ∷ [])) ∙ append_assoc (encode_utf8_all w.run) (encode_utf8_all (w.c ∷ [])) w.after
        ∙ ap (λ t. encode_utf8_all w.run ++ (t ++ w.after)) (append-nil (encode_utf8 w.c)) ∙ w.spell in
        let (k, before) = item_within (w.run ++ w.c ∷ []) w.after spell w.one in
        let (open_yet, next, step, goes_yet, on) = later w.run (w.c ∷ k) w.to (before ∙ append_assoc w.run (w.c ∷ []) k) w.goes in
        let clash : None ≡ Some next = sym w.none ∙ step in
        cc

    -- it ends with no CR before LF
    cut_return : (w v : List ℕ) (d : ℕ) (y : List ℕ) → p.text ≡ read ++ w → 0 < length w → 13 ∷ 10 ∷ [] ≡ w ++ d ∷ v → b.more ≡ d ∷ y → ⊥
    unfolding is_line_feed
    cut_return [] v d y is full two follows = absurd (omega (arith, full))
    cut_return (c ∷ []) v d y is full two follows =
        let first : c ≡ 13 = cc in let second : d ≡ 10 = cc in
        both_ways _ b.uncut (and_from _ _ (ap (ends is_return) is ∙ ends-last is_return read c ∙ ap is_return first ∙ return_returns)
        (ap (λ t. begins is_line_feed (t ++ b.after)) follows ∙ ap is_line_feed second))
    cut_return (c ∷ e ∷ w) v d y is full two follows = absurd (omega (arith, ap length two, length-append w (d ∷ v)))

    not_fed : (len : ℕ) (new : Scan) → EndsWithFeed way.field rest len new → ⊥
    not_fed len new e =
        by (meets (e.run ++ 10 ∷ []) e.rest (ap (λ t. t ++ e.rest) (feed_bytes e.run e.first).1 ∙ append_assoc e.run (10 ∷ []) e.rest ∙ e.spell))
      where
        by : Either (e.run ++ 10 ∷ []) z b.more → ⊥
        by (Either.shorter k before) =
            let (open_yet, next, step, goes_yet, on) = later e.run (10 ∷ k) e.to (before ∙ append_assoc e.run (10 ∷ []) k) e.goes in
            both_ways _ goes_yet e.ends
        by (Either.longer d v y beyond follows) = ⊎_elim
            (λ (none : e.run ≡ []). omega (arith, some, ap length beyond, length-append e.run (10 ∷ []), ap length none, length-append z (d ∷ v)))
            (λ (one : e.run ≡ 13 ∷ []). cut_return z v d y text_is some (ap (λ r. r ++ 10 ∷ []) (sym one) ∙ beyond) follows) e.first

    not_returned : (len : ℕ) (new : Scan) → EndsWithReturn way.field rest len new → ⊥
    not_returned len new e = by (meets (13 ∷ []) (e.b ∷ e.rest) (ap (λ t. t ++ e.b ∷ e.rest) return_bytes ∙ sym e.spell)) where
      ends_not : (k : List ℕ) → Goes e.to k to → has_returned e.to ≡ false
      ends_not [] same = and_left _ _ (ap (λ (t : FieldScanned). is_return_at t.mode) same ∙ shut_unreturned to.mode (shut_there b).0)
      ends_not (d ∷ k) goes = goes.0

      by : Either (13 ∷ []) z b.more → ⊥
      by (Either.shorter k before) = both_ways _ (ends_not k (later (13 ∷ []) k e.to before e.goes)) e.returned
      by (Either.longer d v y beyond follows) = omega (arith, some, ap length beyond, length-append z (d ∷ v))

    pub stops_there : (q : Progress) (new : Scan) → Comes way.field rest scan q new → ((len : ℕ) → q ≡ progress.Going len → ⊥)
        → new.stop + length rest ≡ byte_len p.text
    stops_there (progress.Going len) new comes other = absurd (other len refl)
    stops_there (progress.LineEnded len) new comes other = absurd (⊎_elim (not_fed len new) (not_returned len new) comes)
    stops_there progress.Waits new (all, alone, pending, same) other = ends_there new (waits_there all) (ap (λ (s : Scan). s.stop) same)
    stops_there (progress.Wrong f) new (wrong, same) other = absurd (not_wrong f wrong)

  -- an item of it
  module _ {new : Scan} {len : ℕ} (over : GoesOver way.field rest len new) where
    abbrev on : Reached modes.Free bytes new (drop len rest)
    on = reached_more at.reached over.run (drop len rest) new over.to over.goes over.rests over.spell over.scalars

    module _ (p : Piece) (is : p.class ≡ string) (begin : BeginWithPiece bytes p) where
      left : (k : List ℕ) × (z p is begin ≡ over.run ++ k)
      left = item_within p is begin over.run (drop len rest) over.spell over.one

      -- where nothing is open after it, it ends the string
      pub passed_with : is_in_code new ≡ true → new.stop ≡ byte_len p.text
      passed_with settled = by left.0 left.1 where
        by : (k : List ℕ) → z p is begin ≡ over.run ++ k → new.stop ≡ byte_len p.text
        by [] before = rests_end on.way refl on.rests ∙ ap byte_len (sym (text_on p is begin over.run [] before ∙ append-nil (read ++ over.run)))
        by (d ∷ ds) before =
            let more = (b p is begin).more in
            let (y, same, spells) = cut p is begin over.run (drop len rest) over.spell in
            let follows : y ≡ (d ∷ ds) ++ more
            = append_cancel_left over.run y ((d ∷ ds) ++ more) (sym same ∙ ap (λ t. t ++ more) before ∙ append_assoc over.run (d ∷ ds) more) in
            let fine = all_scalars-parts over.run y (ap all_scalars (sym same) ∙ scalars p is begin) in
            let ends_so = settled_ends on.way.field on.rests settled d (ds ++ more) (and_parts _ _ (ap all_scalars (sym follows) ∙ fine.1)).0
            (ap encode_utf8_all (sym follows) ∙ spells) in
            absurd (no_stop (b p is begin) on.way d ds (text_on p is begin over.run (d ∷ ds) before)
            (omega (arith, some_run over.run len over.size over.some, length-append read over.run)) ends_so.0 ends_so.1)

      -- else the string goes on
      still_within : is_in_code new ≡ false → IsWithin (read ++ over.run) p.text
      still_within on_in = by left.0 left.1 where
        by : (k : List ℕ) → z p is begin ≡ over.run ++ k → IsWithin (read ++ over.run) p.text
        by [] before =
            absurd (both_ways _ on_in (settled_at over.to
            (subst IsShutAlone (sym (later p is begin over.run [] over.to before over.goes)) (shut_there (b p is begin))) over.rests))
        by (d ∷ ds) before = (d ∷ ds, text_on p is begin over.run (d ∷ ds) before, omega arith)

    pub step_on : is_in_code new ≡ false → InFirst bytes new (drop len rest)
    step_on on_in = record { reached = on; within = λ p is begin. still_within p is begin on_in }

-- so does a run that is held
pub first_run : {bytes : List ℕ} {old new : Scan} {mid rest : List ℕ} → InFirst bytes old mid → HoldsRun old mid rest new → InFirst bytes new rest
first_run {bytes} {old} {new} {mid} {rest} at (len, holds, left) =
    let (takes, keeps) = holds r.rests.as_if r.rests.follows in
    subst (InFirst bytes new) (sym left) (by takes.run takes.spell takes.scalars takes.comes keeps)
  where
    r : Reached modes.Free bytes old mid
    r = at.reached

    by : (run : List ℕ) → encode_utf8_all run ++ drop len mid ≡ mid → all_scalars run ≡ true → ComesOver r.rests.as_if run new (drop len mid)
        → KeepsOpen r.rests.as_if run → InFirst bytes new (drop len mid)
    by [] spell scalars follows keeps = record {
      reached = record {
        read = r.read;
        way = r.way;
        spell = ap (λ t. encode_utf8_all r.read ++ t) spell ∙ r.spell;
        scalars = r.scalars;
        rests = record { as_if = r.rests.as_if; follows = follows; stands = subst (λ t. StandsAs t r.way.field r.rests.as_if) (sym spell) r.rests.stands };
      };
      within = at.within;
    }
    by (c ∷ cs) spell scalars (u, goes, rests) keeps =
        let on = goes_real r.way.field r.rests.as_if u mid (c ∷ cs) (drop len mid) r.rests.stands scalars spell (omega arith) goes in
        let first = first_real r.way.field r.rests.as_if mid c cs (drop len mid) r.rests.stands (and_parts _ _ scalars).0 spell in
        record {
          reached = reached_more r (c ∷ cs) (drop len mid) new u on rests spell scalars;
          within = λ p is begin. held_within at p is begin (c ∷ cs) (drop len mid) spell (keeps.0, first ∙ keeps.1, keeps.2, keeps.3);
        }

-- what a step comes to where the machine is
pub step_comes : {bytes : List ℕ} {scan : Scan} {rest : List ℕ} (at : InFirst bytes scan rest) → 0 < length rest → (q : Progress) (new : Scan)
    → Steps scan rest q new → Comes at.reached.way.field rest scan q new
step_comes {scan = scan} {rest = rest} at some q new steps = comes_real scan new rest q at.reached.way.field some at.reached.rests steps

pub item_over : {bytes : List ℕ} {scan : Scan} {rest : List ℕ} (at : InFirst bytes scan rest) → 0 < length rest → (q : Progress) (len : ℕ)
    → (new : Scan) → Steps scan rest q new → q ≡ progress.Going len → GoesOver at.reached.way.field rest len new
item_over {scan = scan} {rest = rest} at some q len new steps is = step_comes at some (progress.Going len) new (subst (λ x. Steps scan rest x new) is steps)
