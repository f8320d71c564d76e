-- What the reader answers: its state after a line, and where a text ends, or is refused, its last line or the fault that stands there.
use Rattle.py_lines.proofs.Prelude.{◌≡◌, ℕ, ◌+◌, ◌<◌, ◌⊎◌, inl, inr, true, None, Some, List, [], ◌∷◌, ◌++◌, length, drop, refl, sym, ap, ◌∙◌, subst, append_assoc, append-nil, arith, length-append, Bool, false, ◌==◌, encode_utf8_all, if◌then◌else◌, encode_utf8, Result, Ok, Err, all_scalars, StartsWithNoChar, length-le-encodes, encode_ascii, encode_same, drop-append_seam, and_parts, both_ways, and_from, eq-eqb, false_from_ne_true, eqb-true, is_return, Class, line_end, Piece, begins, begins_marked, ends, spelled, IsBalanced, depth_through, depth_after, Scan, LineFault, AreFirstLines, first_mode, byte_len-append}
use Rattle.py_lines.specs.Fields.{AreReadBefore, IsShallow, fielded}
use Rattle.py_lines.specs.Reading as reading
use Rattle.py_lines.specs.LogicalLine.{LogicalLine, cut, byte_len, line_ends, line_of, end_len_of, is_line_end_class}
use Rattle.py_lines.specs.Balance as brackets
use Rattle.py_lines.specs.Settled.{EndsForGood}
use Rattle.py_lines.specs.declared.fault.FaultKind.TheVariants.{BadUtf8}
use Rattle.py_lines.specs.Private.Mode as modes
use Rattle.py_lines.specs.Private.LineScan.{EndsNoLine, IsApart, IsAtLineEnd, IsLeft, IsUnderWay, begins_line, line_begun}
use Rattle.py_lines.specs.Private.Scan.{EndsTextSo, IsFieldEnd, has_returned, EndsAs, Follows, Goes, GoesOverAll, StandsAs}
use Rattle.py_lines.specs.Private.FieldFaults.{here, unfinished_at}
use Rattle.py_lines.specs.Private.LineTokens.{AreLineText}
use Rattle.py_lines.specs.Private.Machine.{Mode}
use Rattle.py_lines.proofs.Pieces.PieceLists.{spelled-append, AreReadIn-append, AreReadBefore-second}
use Rattle.py_lines.proofs.LogicalLines.Cuts.{one_line, line_depth, one_part}
use Rattle.py_lines.proofs.Lexings.LineEnds.{ends-line, read_on}
use Rattle.py_lines.proofs.LineScan.LineSteps.{goes_on, rests_end, returned, unmarked, way_here, way_runs, way_sound}
use Rattle.py_lines.proofs.LineScan.TextSteps.{follows_base}
use Rattle.py_lines.proofs.Lexings.FirstLines.{base_lines, ends_for_good, piece_some}
use Rattle.py_lines.proofs.Feeds.Known.{IsKnown}
use Rattle.py_lines.proofs.Pieces.OpenBrackets.{balanced_depth, depth_through-append}
use Rattle.py_lines.proofs.Pieces.ShallowPieces.{IsShallow-append}
use Rattle.py_lines.proofs.Readers.LineFaults.{Within, ends_as_read, open_line}
use Rattle.py_lines.proofs.Feeds.Known as of
use Rattle.py_lines.specs.Private.FieldMachine.{FieldScanned, IsFieldFinal, field_pieces, field_steps_from}
use Rattle.py_lines.proofs.FieldMachine.OuterLists.{outer_alone}
use Rattle.py_lines.proofs.FieldScans.Taking.{stands_open}

-- What the scan says of the end of a text, which keeps count of a state that is as good as the machine's, holds of the machine.

-- What the end of a text comes to, where the machine has gone over all of its characters, and these bytes follow, which begin none: the
-- text ends with the line end CR, or its last line has none, or this is wrong.
abbrev pub ComesToEnd : FieldScanned → List ℕ → Result ℕ LineFault → Scan → Type 0
ComesToEnd t rest (Ok len) new = (new.stop ≡ here t)
    × (((len ≡ 1) × (has_returned t ≡ true)) ⊎ ((len ≡ 0) × (rest ≡ []) × (has_returned t ≡ false) × (unfinished_at t ≡ None)))
ComesToEnd t rest (Err line_fault) new = (has_returned t ≡ false)
    × (((0 < length rest) × (line_fault.kind ≡ BadUtf8) × (line_fault.place ≡ here t)) ⊎ ((rest ≡ []) × IsFieldEnd t (Some line_fault)))

-- the character with which bytes begin is the byte, where that is ASCII
first_is : (bytes rest : List ℕ) (c d : ℕ) → d < 128 → begins (λ x. x == d) bytes ≡ true → bytes ≡ encode_utf8 c ++ rest → c ≡ d
first_is [] rest c d low first spell = absurd (both_ways _ refl first)
first_is (b ∷ bs) rest c d low first spell =
    let is = eqb-true b d first in (encode_same c d rest bs (sym spell ∙ ap (λ x. x ∷ bs) is ∙ ap (λ x. x ++ bs) (sym (encode_ascii d low)))).0

-- bytes that begin no character don't begin with CR
none_first : (rest : List ℕ) → StartsWithNoChar rest → begins (λ c. c == 13) rest ≡ true → ⊥
none_first [] none first = both_ways _ refl first
none_first (b ∷ bs) none first = none 13 bs refl (ap (λ x. x ∷ bs) (eqb-true b 13 first) ∙ ap (λ x. x ++ bs) (sym (encode_ascii 13 (omega arith))))

-- where CR was gone over, which ends the line, nothing else was
record IsReturnAlone (run : List ℕ) (end : FieldScanned) : Type 0 where
  size : byte_len run ≡ 1
  returned : has_returned end ≡ true

return_alone : (u end to : FieldScanned) (run rest bytes : List ℕ) → StartsWithNoChar rest → begins (λ c. c == 13) bytes ≡ true → encode_utf8_all run ++ rest ≡ bytes → Goes u run end → Goes u (13 ∷ []) to → has_returned to ≡ true → IsReturnAlone run end
return_alone u end to [] rest bytes none first spell goes return returned = absurd (none_first rest none (subst (λ x. begins (λ c. c == 13) x ≡ true) (sym spell) first))
return_alone u end to (c ∷ cs) rest bytes none first spell goes return returned =
    let is : c ≡ 13 = first_is bytes (encode_utf8_all cs ++ rest) c 13 (omega arith) first (sym spell ∙ append_assoc (encode_utf8 c) (encode_utf8_all cs) rest) in
    by cs is (goes_on u end to (13 ∷ []) cs (subst (λ d. Goes u (d ∷ cs) end) is goes) return)
  where
    by : (ds : List ℕ) → c ≡ 13 → Goes to ds end → IsReturnAlone (c ∷ ds) end
    by [] is there = record {
      size = ap (λ (x : ℕ). byte_len (x ∷ [])) is ∙ ap (λ x. length (x ++ [])) (encode_ascii 13 (omega arith));
      returned = ap has_returned (sym there) ∙ returned;
    }
    by (d ∷ ds) is more = absurd (both_ways _ more.0 returned)

-- the state that the scan keeps count of goes over what is left to one that stands as the machine does
module _ (scan : Scan) (u t : FieldScanned) (left : List ℕ) (follows : Follows scan u) (all : GoesOverAll u left) (stands : StandsAs all.rest t all.to) (alone : has_returned all.to ≡ true → all.rest ≡ [])
    (size : here t ≡ scan.stop + byte_len all.run) where
  stands_there : all.rest ≡ [] → t ≡ all.to
  stands_there is = subst (λ rest. StandsAs rest t all.to) is stands

  by_end : (result : Result ℕ LineFault) (new : Scan) → EndsAs u left all scan result new → ComesToEnd t all.rest result new
  by_end (Ok len) new (inl e) = let last = return_alone u all.to e.to all.run all.rest left all.none e.first all.spell all.goes e.goes e.returned in
      (ap (λ (s : Scan). s.stop) e.stop ∙ omega (arith, size, last.size), inl (e.size, ap has_returned (stands_there (alone last.returned)) ∙ last.returned))
  by_end (Ok len) new (inr e) = let is = stands_there e.whole in
      let bytes : length left ≡ byte_len all.run = ap length (sym all.spell) ∙ ap (λ x. length (encode_utf8_all all.run ++ x)) e.whole ∙ ap length (append-nil (encode_utf8_all all.run)) in
      (ap (λ (s : Scan). s.stop) e.stop ∙ omega (arith, size, bytes), inr (e.size, e.whole, ap has_returned is ∙ e.open_yet, ap unfinished_at is ∙ e.none))
  by_end (Err line_fault) new (kept, open_yet, inl bad) = (stands_open all.rest t all.to open_yet stands, inl (bad.0, bad.1, bad.2 ∙ sym size))
  by_end (Err line_fault) new (kept, open_yet, inr (is, end)) =
      (stands_open all.rest t all.to open_yet stands, inr (is, subst (λ x. IsFieldEnd x (Some line_fault)) (sym (stands_there is)) end))

-- the scan of a line has left the last characters of a text
module _ {m : Mode} {whole : List ℕ} {scan : Scan} {read rest : List ℕ} (left : IsLeft m whole scan read rest) (start : begins_line m ≡ true) where
  pub left_stop : scan.stop ≡ byte_len left.reached.read
  left_stop = rests_end left.reached.way start left.reached.rests

  -- what it has left stands where it stops
  pub left_text : drop scan.stop whole ≡ left.left
  left_text = ap (λ (n : ℕ). drop n whole) left_stop ∙ ap (drop (byte_len left.reached.read)) (sym left.reached.spell) ∙ drop-append_seam (encode_utf8_all left.reached.read) left.left

  pub left_ends : encode_utf8_all read ++ rest ≡ whole → (result : Result ℕ LineFault) (new : Scan) → EndsTextSo scan left.left result new → ComesToEnd left.way.field rest result new
  left_ends spell result new ends = let size : here left.way.field ≡ scan.stop + byte_len left.all.run = omega (
    arith,
    way_here left.way start,
    left_stop,
    ap length left.rest_is,
    ap length (left.reached.spell ∙ sym spell),
    ap length left.all.spell,
    length-append (encode_utf8_all read) rest,
    length-append (encode_utf8_all left.reached.read) left.left,
    length-append (encode_utf8_all left.all.run) left.all.rest,
  ) in let own = left.reached.rests in subst (λ r. ComesToEnd left.way.field r result new) left.rest_is
      (by_end scan own.as_if left.way.field left.left own.follows left.all (subst (λ r. StandsAs r left.way.field left.all.to) (sym left.rest_is) left.stands)
      (λ returned. left.rest_is ∙ left.alone returned) size result new (ends own.as_if own.follows left.all))

-- the pieces of a line that was read whole
pub record IsReadLine (m : Mode) (read : List ℕ) (u : List Piece) : Type 0 where
  pub spell : spelled u ≡ read
  pub whole : cut 0 u ≡ u ∷ []
  pub balanced : IsBalanced u
  pub shallow : IsShallow 0 u
  pub unmarked : m ≡ modes.Free → begins_marked u ≡ false
  pub some : 0 < byte_len read

-- and what the scan says of them
pub record IsScannedLine (m : Mode) (scan : Scan) (read : List ℕ) (end_len : ℕ) (u : List Piece) : Type 0 where
  pub line : IsReadLine m read u
  pub stop : scan.stop ≡ byte_len read
  pub ends : end_len ≡ end_len_of u
  pub after : List ℕ
  pub fit : AreReadBefore u after

-- its text alone says what its pieces are
pub line_text : (m : Mode) (scan : Scan) (read : List ℕ) (end_len : ℕ) (u : List Piece) → all_scalars read ≡ true
    → IsScannedLine m scan read end_len u → AreLineText (encode_utf8_all read) u
line_text m scan read end_len u scalars line = record {
  scalars = ap all_scalars line.line.spell ∙ scalars;
  spell = ap encode_utf8_all line.line.spell;
  after = line.after;
  fit = line.fit;
  shallow = line.line.shallow;
}

-- the place after all that was read
abbrev pub all_within : (read : List ℕ) (n : ℕ) → n ≡ byte_len read → Within read n
all_within read n size = record { prefix = read; later = []; split = append-nil read; size = size }

-- a line that its end closed, or the text's end
pub data IsEnded (u : List Piece) (nothing : Type 0) : Type 0 where
  by_line : (body : List Piece) (last : Piece) → u ≡ body ++ last ∷ [] → last.class ≡ line_end → depth_through 0 body ≡ 0 → IsEnded u nothing
  by_text : nothing → IsEnded u nothing

-- a line that was read after the lines given
module _ {text : List ℕ} {place line : ℕ} {lines : List LogicalLine} {read rest : List ℕ} (k : IsKnown text place line lines read rest) {u : List Piece} (own : IsReadLine (first_mode place) read u) (fit : AreReadBefore u k.more) where
  pub fits_after : AreReadBefore (k.base ++ u) k.more
  fits_after = AreReadIn-append fielded k.base u k.more (subst (λ t. AreReadBefore k.base (t ++ k.more)) (sym own.spell) k.fit) fit (follows_base place k.base u (of.stands text place line lines read rest k) own.unmarked)

  pub spelled_after : spelled (k.base ++ u) ≡ spelled k.base ++ read
  spelled_after = spelled-append k.base u ∙ ap (λ t. spelled k.base ++ t) own.spell

  level : depth_through 0 k.base ≡ 0
  level = balanced_depth k.base k.balanced 0

  pub balanced_after : IsBalanced (k.base ++ u)
  balanced_after = brackets.both (k.base ++ u) k.base u refl k.balanced own.balanced

  pub shallow_after : IsShallow 0 (k.base ++ u)
  shallow_after = IsShallow-append 0 k.base u k.shallow (subst (λ (d : ℕ). IsShallow d u) (sym level) own.shallow)

  pub ends_after : (body : List Piece) (last : Piece) → u ≡ body ++ last ∷ [] → last.class ≡ line_end → depth_through 0 body ≡ 0 → reading.EndsLine (k.base ++ u)
  ends_after body last is class deep =
      inr (k.base ++ body, last, ap (λ l. k.base ++ l) is ∙ sym (append_assoc k.base body (last ∷ [])), class, depth_through-append 0 k.base body ∙ ap (λ (d : ℕ). depth_through d body) level ∙ deep)

  -- the lines given, and one more
  pub one_more : IsEnded u (k.more ++ k.tail ≡ []) → AreFirstLines text (place + byte_len read) (line + line_ends read) (lines ++ line_of place line u ∷ [])
  one_more ended = record {
    characters = spelled k.base ++ (read ++ k.more);
    tail = k.tail;
    pieces = k.base ++ u;
    rest = k.more;
    decodes = k.decodes;
    spell = ap (λ t. t ++ k.more) spelled_after ∙ append_assoc (spelled k.base) read k.more;
    fit = fits_after;
    balanced = balanced_after;
    shallow = shallow_after;
    ended = ends ended;
    here = omega (arith, k.here, byte_len-append (spelled k.base) read, ap byte_len spelled_after);
    number = omega (arith, k.number, base_lines k.base read k.more k.fit, ap line_ends spelled_after);
    cut = of.lines_more text place line lines read rest k u k.more own.whole fits_after;
  } where
    ends : IsEnded u (k.more ++ k.tail ≡ []) → EndsForGood (k.base ++ u) (k.more ++ k.tail) ⊎ (k.more ++ k.tail ≡ [])
    ends (IsEnded.by_line body last is class deep) = ends_for_good (k.base ++ u) (k.more ++ k.tail) (ends_after body last is class deep)
    ends (IsEnded.by_text none) = inr none

-- the bytes of the line end after pieces
pub end_len-push : (ps : List Piece) (p : Piece) → p.class ≡ line_end → end_len_of (ps ++ p ∷ []) ≡ byte_len p.text
end_len-push (q ∷ r ∷ rs) p ends = end_len-push (r ∷ rs) p ends
end_len-push ps p ends = ap (λ (k : Class). end_len_of (record { class = k; text = p.text } ∷ [])) ends

-- a line with its line end
pub line_at_end : (m : Mode) (scan : Scan) (read rest : List ℕ) (len : ℕ) (at : IsAtLineEnd m scan read rest len) (after : List ℕ)
    → encode_utf8_all after ≡ rest → IsScannedLine m scan read len (at.body ++ at.last ∷ [])
line_at_end m scan read rest len at after is = record {
  line = record {
    spell = at.spell;
    whole = one_line 0 at.body at.last at.are.one_line at.are.class at.are.level;
    balanced = at.balanced;
    shallow = at.shallow;
    unmarked = at.unmarked;
    some = let holds = (AreReadBefore-second at.body (at.last ∷ []) after (at.fit after is)).0 in
        omega (arith, ap byte_len (sym at.spell ∙ spelled-append at.body (at.last ∷ [])), byte_len-append (spelled at.body) (at.last.text ++ []), ap byte_len (append-nil at.last.text), piece_some at.last.class at.last.text holds, length-le-encodes at.last.text);
  };
  stop = at.stop;
  ends = at.are.size ∙ sym (end_len-push at.body at.last at.are.class);
  after = after;
  fit = at.fit after is;
}

-- which may stand before anything but LF after its CR
pub fits_on : {m : Mode} {scan : Scan} {read : List ℕ} {len : ℕ} (at : IsAtLineEnd m scan read [] len) (more : List ℕ) → IsApart read more
    → AreReadBefore (at.body ++ at.last ∷ []) more
fits_on at more apart =
    let fit = at.fit [] refl in let holds = (AreReadBefore-second at.body (at.last ∷ []) [] fit).0 in
    read_on fielded at.body at.last [] more at.are.class fit (false_from_ne_true _ (λ both. let parts = and_parts _ _ both in
    both_ways _ (apart (ap (ends is_return) (sym at.spell) ∙ ends-line is_return at.body at.last at.are.class holds ∙ parts.0)) parts.1))

-- a line whose last brackets are closed ends with no line end, if it has none
end_len-none : (d : ℕ) (ps : List Piece) → EndsNoLine d ps → depth_through d ps ≡ 0 → end_len_of ps ≡ 0
end_len-none d [] none deep = refl
end_len-none d (p ∷ []) none deep = ap (λ (b : Bool). if b then byte_len p.text else 0) (false_from_ne_true (is_line_end_class p.class)
    (λ is. both_ways _ none.0 (and_from _ _ is (eq-eqb d 0 (sym (line_depth p d is) ∙ deep)))))
end_len-none d (p ∷ q ∷ ps) none deep = end_len-none (depth_after d p) (q ∷ ps) none.1 deep

one_or : (ps : List Piece) → EndsNoLine 0 ps → (ps ≡ [] → ⊥) → cut 0 ps ≡ ps ∷ []
one_or [] none some = absurd (some refl)
one_or (p ∷ ps) none some = one_part 0 p ps none

-- the text's last line, which no line end closes: its pieces, with the open one, are one line
pub line_at_text_end : (m : Mode) (scan : Scan) (read : List ℕ) (way : IsUnderWay m read) → begins_line m ≡ true → IsFieldFinal way.field
    → has_returned way.field ≡ false → 0 < byte_len read → scan.stop ≡ byte_len read → IsScannedLine m scan read 0 (field_pieces way.field)
line_at_text_end m scan read way start final open_yet some stop =
    let u = field_pieces way.field in let ended = ends_as_read way.field read (way_sound way start) final in
    let none : EndsNoLine 0 u = subst (EndsNoLine 0) (outer_alone way.field final.outside).3 (open_line way start open_yet) in record {
      line = record {
        spell = ended.spell;
        whole = one_or u none (λ e. omega (arith, some, ap byte_len (sym ended.spell ∙ ap spelled e)));
        balanced = ended.balanced;
        shallow = ended.shallow;
        unmarked = λ free. unmarked u [] way.field ended.fit
            (ap (field_steps_from (Some (line_begun modes.Free))) ended.spell ∙ subst (λ k. field_steps_from (Some (line_begun k)) read ≡ Some way.field) free (way_runs way).0);
        some = some;
      };
      stop = stop;
      ends = sym (end_len-none 0 u none (balanced_depth u ended.balanced 0));
      after = [];
      fit = ended.fit;
    }
