-- Logical lines follow one another.
use Rattle.py_lines.proofs.Prelude.{◌≡◌, ◌⊎◌, inl, inr, ℕ, ◌+◌, ◌-◌, ◌<◌, ◌≤◌, ◌&&◌, false, List, [], ◌∷◌, ◌++◌, length, take, drop, refl, sym, ap, ◌∙◌, subst, arith, append-nil, append_assoc, length-append, length-drop, encode_utf8_all, transport, take-add, and_parts, false_from_ne_true, drop_at, drop-drop, take-append-drop, take_at, take_rest, encodes-append, length-le-encodes, is_line_feed, is_return, line_ends, begins, ends, spelled, Frame, Passing, Scan, has_field}
use Rattle.py_lines.specs.Private.Machine.{Mode}
use Rattle.py_lines.specs.Private.Mode as modes
use Rattle.py_lines.specs.Private.LineScan.{EndsWhole, IsAtLineEnd, Reached, ScansIn}
use Rattle.py_lines.specs.Private.Marks.{FindsNext, HasMarks}
use Rattle.py_lines.specs.Private.Passing.{EndsAfter, EndsLineSo, IsCounted, PassesSo, PassesSpecial, StandsFree, passed_to}
use Rattle.py_lines.specs.Private.Scan.{Takes}
use Rattle.py_lines.specs.Private.TakenPieces.{ComesToCode, IsWordStart, StopsSo}
use Rattle.py_lines.specs.Private.WholeLines.{AreWholeLines, BeginWithLines, IsWholeLine}
use Rattle.py_lines.specs.declared.passing.Special.{Special}
use Rattle.py_lines.specs.declared.passing.Special.TheVariants as specials
use Rattle.py_lines.specs.declared.scan.Stop.{Stop}
use Rattle.py_lines.specs.declared.scan.Stop.TheVariants as stops
use Rattle.py_lines.proofs.Feeds.LastBytes.{ends-encoded, ends-later}
use Rattle.py_lines.proofs.FieldScans.Taking.{free_at}
use Rattle.py_lines.proofs.Lexings.LineEnds.{line_first}
use Rattle.py_lines.proofs.LineScan.LineSteps.{begun_reached}
use Rattle.py_lines.proofs.LineScan.Reaching.{ends_over, reached_over}
use Rattle.py_lines.proofs.LogicalLines.Cuts.{line_ends-append}
use Rattle.py_lines.proofs.PassedPieces.Ends.{in_code, passes_none}
use Rattle.py_lines.proofs.PassedPieces.Pieces.{word_left}
use Rattle.py_lines.proofs.Pieces.PieceLists.{AreReadBefore-second, spelled-push}
use Rattle.py_lines.proofs.Text.CharacterTests.{feed_is}

-- one more line after others
line_push : (texts : List (List ℕ)) (read line after : List ℕ) → AreWholeLines texts read (encode_utf8_all line ++ after) → 0 < length line
    → IsWholeLine line after → AreWholeLines (texts ++ line ∷ []) (read ++ line) after
line_push [] read line after are some whole =
    record { later = []; some = some; spell = ap (λ t. t ++ line) are ∙ sym (append-nil line); whole = whole; lines = refl }
line_push (t ∷ texts) read line after are some whole = record {
  later = are.later ++ line;
  some = are.some;
  spell = ap (λ u. u ++ line) are.spell ∙ append_assoc t are.later line;
  whole = subst (IsWholeLine t)
      (sym (append_assoc (encode_utf8_all are.later) (encode_utf8_all line) after) ∙ ap (λ u. u ++ after) (sym (encodes-append are.later line)))
      are.whole;
  lines = line_push texts are.later line after are.lines some whole;
}

-- a line with its end has a character
some_line : {m : Mode} {scan : Scan} {read rest : List ℕ} {len : ℕ} → IsAtLineEnd m scan read rest len → (after : List ℕ)
    → encode_utf8_all after ≡ rest → 0 < length read
some_line at after is =
    let text = ap length (line_first at.last at.are.class (AreReadBefore-second at.body (at.last ∷ []) after (at.fit after is)).0).2 in
    let spell = ap length (sym at.spell ∙ spelled-push at.body at.last.class at.last.text) in
    omega (arith, text, spell, length-append (spelled at.body) at.last.text)

-- the next line
pub record NextLine (bytes : List ℕ) (len to : ℕ) : Type 0 where
  pub further : len < to
  pub lines : BeginWithLines bytes to

pub next_line : (bytes : List ℕ) (len size to : ℕ) (new : Scan) → BeginWithLines bytes len
    → ScansIn modes.Free (drop len bytes) new (stops.LineEnd size) → to ≡ len + new.stop → NextLine bytes len to
next_line bytes len size to new are s place =
    let line = s.read in let text = encode_utf8_all line in
    let at = s.stops.0 [] (λ returns. refl) in let some = some_line at [] refl in
    let there : len + length text ≡ to = omega (arith, place, at.stop) in
    let rest : s.rest ≡ drop to bytes =
    sym (drop_at text s.rest (length text) refl) ∙ ap (drop (length text)) s.spell ∙ drop-drop (length text) len bytes ∙ ap (λ n. drop n bytes) there in
    let within : length text + length s.rest ≡ length (drop len bytes) = omega (arith, ap length s.spell, length-append text s.rest) in
    record {
      further = omega (arith, there, some, length-le-encodes line);
      lines = record {
        within = omega (arith, there, within, are.within, length-drop len bytes);
        read = are.read ++ line;
        spell = encodes-append are.read line ∙ ap (λ t. t ++ text) are.spell
            ∙ ap (λ t. take len bytes ++ t) (sym (take_at text s.rest (length text) refl) ∙ ap (take (length text)) s.spell)
            ∙ sym (take-add len (length text) bytes) ∙ ap (λ n. take n bytes) there;
        texts = are.texts ++ line ∷ [];
        whole = subst (AreWholeLines (are.texts ++ line ∷ []) (are.read ++ line)) rest
            (line_push are.texts are.read line s.rest (subst (AreWholeLines are.texts are.read) (sym s.spell) are.whole) some
            (record { scalars = s.scalars; scan = new; len = size; is = s.stops.0; whole = s.stops.1 }));
      };
    }

-- the last of some lines ends as all of them do
pub last_ends : (read line later : List ℕ) → read ≡ line ++ later → 0 < length later → ends is_return read ≡ ends is_return later
last_ends read line later is some = ap (ends is_return) is ∙ ends-later is_return line later (λ none. omega (arith, some, ap length none))

-- what follows lines shows that the last one has ended
lines_whole : (t : List ℕ) (texts : List (List ℕ)) (read after : List ℕ) → AreWholeLines (t ∷ texts) read after → EndsWhole read after
lines_whole t [] read after are =
    let all : t ≡ read = sym (are.spell ∙ ap (λ u. t ++ u) are.lines ∙ append-nil t) in
    subst (λ u. EndsWhole u after) all (subst (λ u. EndsWhole t (encode_utf8_all u ++ after)) are.lines are.whole.whole)
lines_whole t (u ∷ texts) read after are =
    let some : 0 < length are.later = omega (arith, ap length are.lines.spell, length-append u are.lines.later, are.lines.some) in
    rw (← last_ends read t are.later are.spell some) at (lines_whole u texts are.later after are.lines)

pub bytes_whole : (bytes : List ℕ) (len : ℕ) → BeginWithLines bytes len → EndsWhole (take len bytes) (drop len bytes)
bytes_whole bytes len found = by found.texts found.whole where
  by : (texts : List (List ℕ)) → AreWholeLines texts found.read (drop len bytes) → EndsWhole (take len bytes) (drop len bytes)
  by [] are = inl (ap (ends is_return) (sym found.spell ∙ ap encode_utf8_all are))
  by (t ∷ texts) are = rw (sym (ends-encoded found.read) ∙ ap (ends is_return) found.spell) at (lines_whole t texts found.read (drop len bytes) are)

-- so the line ends of both parts are those of all
uncut : (read rest : List ℕ) → EndsWhole read rest → ends is_return read && begins is_line_feed rest ≡ false
uncut read rest (inl none) = rw none refl
uncut read rest (inr (b, more, is, other)) = rw is (false_from_ne_true _ (λ both. other (feed_is b (and_parts _ _ both).1)))

pub lines_parted : (bytes : List ℕ) (len : ℕ) → BeginWithLines bytes len → line_ends bytes ≡ line_ends (take len bytes) + line_ends (drop len bytes)
lines_parted bytes len found =
    ap line_ends (sym (take-append-drop len bytes))
    ∙ line_ends-append (take len bytes) (drop len bytes) (uncut (take len bytes) (drop len bytes) (bytes_whole bytes len found))

-- Lines were passed up to `lines`, and pieces of the next one up to `all`, over which the scan has come that stands in code with these frames.
pub record HavePassed (bytes : List ℕ) (fs : List Frame) (lines all : ℕ) : Type 0 where
  pub are : BeginWithLines bytes lines
  pub before : lines ≤ all
  pub outside : has_field fs ≡ false
  pub reached : Reached modes.Free (drop lines bytes) (free_at fs (all - lines)) (drop all bytes)

-- where a line begins
pub begins_next : (bytes : List ℕ) (lines : ℕ) → BeginWithLines bytes lines → HavePassed bytes [] lines lines
begins_next bytes lines are =
    let none : lines - lines ≡ 0 = omega arith in
    record { are = are; before = omega arith; outside = refl; reached = begun_reached (ap (free_at []) none) refl (drop lines bytes) }

pub no_line_passed : (bytes : List ℕ) → HavePassed bytes [] 0 0
no_line_passed bytes = begins_next bytes 0 (record { within = omega arith; read = []; spell = refl; texts = []; whole = refl })

module _ {bytes : List ℕ} {fs : List Frame} {lines all : ℕ} (on : HavePassed bytes fs lines all) where
  abbrev pub here : Scan
  here = free_at fs (all - lines)

  stands : StandsFree (all - lines) fs here
  stands = record { mode = refl; stop = refl; frames = refl; outside = on.outside }

  -- the scan comes over so many bytes more
  reached_on : (c : List Frame) (d to : ℕ) → all + d ≡ to → Takes here (drop all bytes) d (free_at c (all - lines + d))
      → Reached modes.Free (drop lines bytes) (free_at c (to - lines)) (drop to bytes)
  reached_on c d to is takes =
      let far : all - lines + d ≡ to - lines = omega (arith, is, on.before) in
      transport (λ i. Reached modes.Free (drop lines bytes) (free_at c (far i)) ((drop-drop d all bytes ∙ ap (λ n. drop n bytes) is) i))
      (reached_over on.reached _ d takes)

  -- the line goes on
  pub goes_on : (c : List Frame) (d to : ℕ) → all + d ≡ to → has_field c ≡ false → Takes here (drop all bytes) d (free_at c (all - lines + d))
      → HavePassed bytes c lines to
  goes_on c d to is outside takes = record { are = on.are; before = omega (arith, is, on.before); outside = outside; reached = reached_on c d to is takes }

  -- or it ends
  pub ends_there : (before len to : ℕ) (new : Scan) → EndsAfter here (drop all bytes) before len new → to ≡ lines + new.stop → HavePassed bytes [] to to
  ends_there before len to new ends is = begins_next bytes to (next_line bytes lines len to new on.are (ends_over refl on.reached new before len ends) is).lines

-- and the next byte that isn't plain stands at `at`
pub record HasPassedLines (bytes : List ℕ) (fs : List Frame) (at : ℕ) (p : Passing) : Type 0 where
  pub have : HavePassed bytes fs p.lines p.all
  pub counted : IsCounted bytes p
  pub next : FindsNext bytes p.all at p.marks

-- the line ends of the lines that were passed are all that were counted, but for those of the next line
pub ends_of_lines : {bytes : List ℕ} {fs : List Frame} {at : ℕ} {p : Passing} → HasPassedLines bytes fs at p → (last : ℕ)
    → last + line_ends (drop (p.all - p.lines) (drop p.lines bytes)) ≡ line_ends (drop p.lines bytes) → p.ends ≡ line_ends (take p.lines bytes) + last
ends_of_lines {bytes} {p = p} on last is = grind (arith, drop-drop, lines_parted)

-- where something is not passed, all is as before
pub unpassed : {bytes : List ℕ} {fs c : List Frame} {at : ℕ} {p q : Passing} → HasPassedLines bytes fs at p → (q ≡ p) × (c ≡ fs) → HasPassedLines bytes c at q
unpassed on (same, frames) = rw (same, frames) on

-- how much is left of the bytes, and of those that are no lines yet
abbrev pub left : List ℕ → Passing → ℕ
left bytes p = (length bytes - p.all) + (length bytes - p.lines)

-- more was passed: a line end leads beyond the line's start, and all else beyond what was passed
pub record PassesOn (bytes : List ℕ) (p : Passing) (c : List Frame) (q : Passing) : Type 0 where
  pub have : HavePassed bytes c q.lines q.all
  pub counted : IsCounted bytes q
  pub marked : HasMarks bytes q.all q.marks
  pub smaller : left bytes q < left bytes p

module _ {bytes : List ℕ} {fs : List Frame} {at : ℕ} {p : Passing} (on : HasPassedLines bytes fs at p) (inside : at < length bytes) where
  abbrev have : HavePassed bytes fs p.lines p.all
  have = on.have

  abbrev next : FindsNext bytes p.all at p.marks
  next = on.next

  passes_piece : {c : List Frame} {q : Passing} → PassesSo bytes at (at - p.lines) p fs q c → PassesOn bytes p c q
  passes_piece {c} {q} so =
      let start : at - p.lines ≡ p.all - p.lines + (at - p.all) = omega (arith, have.before, next.after) in
      let size : p.all + (q.all - p.all) ≡ q.all = omega (arith, next.after, so.further) in
      record {
        have = subst (λ n. HavePassed bytes c n q.all) (sym so.lines)
            (goes_on have c (q.all - p.all) q.all size (so.outside have.outside) (so.over (p.all - p.lines) start (here have) (stands have)));
        counted = so.counted ∙ on.counted;
        marked = so.marked;
        smaller = omega (arith, next.after, so.further, so.within, so.lines);
      }

  passes_line_end : {c : List Frame} {q : Passing} {len : ℕ} → EndsLineSo bytes at p fs len q c → PassesOn bytes p c q
  passes_line_end {q = q} {len} so =
      let place : q.all ≡ p.lines + (p.all - p.lines + (q.all - p.all)) = omega (arith, have.before, next.after, so.all) in
      record {
        have = rw (so.frames, so.lines) (ends_there have (at - p.all) len q.all _ (so.over (p.all - p.lines) (here have) (stands have)) place);
        counted = so.counted ∙ on.counted;
        marked = so.marked;
        smaller = omega (arith, have.before, next.after, so.all, so.some, so.within, so.lines);
      }

  pub passes_special : {s : Special} {c : List Frame} {q : Passing} → (s ≡ specials.Passed) ⊎ ((len : ℕ) × (s ≡ specials.LineEnd len))
      → PassesSpecial bytes at (at - p.lines) p fs s q c → PassesOn bytes p c q
  passes_special {s} {c} {q} which so =
      let came = λ (t : Special). PassesSpecial bytes at (at - p.lines) p fs t q c in
      elim which [ inl is ↦ passes_piece (subst came is so) | inr ends ↦ passes_line_end (subst came ends.1 so) ]

  -- where items are taken from a word or a byte that isn't plain, after so many bytes of lines
  module _ {k lines : ℕ} (are : lines ≡ p.lines) (start : IsWordStart (take (at - p.all) (drop p.all bytes)) k) {old : Scan}
      (set : old ≡ free_at fs (0 + (p.all + k - lines))) where
    abbrev line : List ℕ
    line = drop lines bytes

    abbrev rest : List ℕ
    rest = take (length bytes - (p.all + k)) (drop (p.all + k) bytes)

    there : HavePassed bytes fs lines p.all
    there = subst (λ n. HavePassed bytes fs n p.all) (sym are) have

    pub reached_word : Reached modes.Free line old rest
    reached_word =
        let stop : p.all + k - lines ≡ 0 + (p.all + k - lines) = omega arith in
        transport (λ i. Reached modes.Free line ((ap (free_at fs) stop ∙ sym set) i) (sym (take_rest bytes (p.all + k)) i))
        (reached_on there fs k (p.all + k) refl (word_left (here there) refl there.outside bytes p.all at p.marks next k inside start))

    begun : p.all + k ≡ lines + old.stop
    begun = omega (arith, ap (λ (s : Scan). s.stop) set, there.before)

    pub items_end : {new : Scan} {stop : Stop} {len : ℕ} → stop ≡ stops.LineEnd len → StopsSo rest old stop new → NextLine bytes lines (lines + new.stop)
    items_end {new} {len = len} is so =
        next_line bytes lines len (lines + new.stop) new there.are (subst (ScansIn modes.Free line new) is (so.scans modes.Free line refl reached_word)) refl

    -- what was taken lies within the bytes
    pub end_within : {new : Scan} {stop : Stop} {len : ℕ} → stop ≡ stops.LineEnd len → StopsSo rest old stop new
        → (p.all ≤ lines + new.stop) × (lines + new.stop ≤ length bytes)
    end_within is so = (omega (arith, begun, so.further), (items_end is so).lines.within)

    pub items_within : {new : Scan} → ComesToCode rest old new → (p.all ≤ lines + new.stop) × (lines + new.stop ≤ length bytes)
    items_within so = grind (arith, take_rest, length-drop)

    pub passes_end : {new : Scan} {stop : Stop} {len : ℕ} {c : List Frame} {q : Passing} → stop ≡ stops.LineEnd len
        → StopsSo rest old stop new → c ≡ [] → q ≡ passed_to p (lines + new.stop) q.ends q.marks → IsCounted bytes q
        → HasMarks bytes (lines + new.stop) q.marks → PassesOn bytes p c (record q { lines = q.all })
    passes_end {new} {c = c} {q} is so none to counted marked =
        let ends = items_end is so in let all : lines + new.stop ≡ q.all = ap (λ (p : Passing). p.all) (sym to) in
        record {
          have = subst (λ n. HavePassed bytes c n n) all (rw none (begins_next bytes _ ends.lines));
          counted = counted;
          marked = subst (λ n. HasMarks bytes n q.marks) all marked;
          smaller = omega (arith, all, are, ends.further, ends.lines.within, begun, so.further);
        }

    pub passes_items : {new : Scan} {q : Passing} → q ≡ passed_to p (lines + new.stop) q.ends q.marks → IsCounted bytes q
        → HasMarks bytes (lines + new.stop) q.marks → ComesToCode rest old new → PassesOn bytes p new.frames q
    passes_items {new} {q} to counted marked so =
        let code = in_code new so.code in
        let reach : p.all + k + so.len ≡ lines + new.stop = omega (arith, so.stop, begun) in
        let far : new.stop + 0 ≡ lines + new.stop - lines = omega arith in
        let after = ap (drop so.len) (take_rest bytes (p.all + k)) ∙ drop-drop so.len (p.all + k) bytes ∙ ap (λ n. drop n bytes) reach in
        subst (PassesOn bytes p new.frames) (sym to) (record {
          have = subst (λ n. HavePassed bytes new.frames n (lines + new.stop)) are (record {
            are = there.are;
            before = omega arith;
            outside = code.1;
            reached = transport (λ i. Reached modes.Free line (free_at new.frames (far i)) (after i))
                (reached_over (so.reached modes.Free line refl reached_word) _ 0 (passes_none new (drop so.len rest) code.0));
          });
          counted = subst (IsCounted bytes) to counted;
          marked = marked;
          smaller = omega (arith, reach, so.some, marked.within);
        })
