-- What a line end and a join of two lines come to in code, and which pieces end before which characters.
use Rattle.py_lines.proofs.Prelude.{◌≡◌, ℕ, ◌+◌, ◌-◌, ◌<◌, ◌==◌, ◌&&◌, ◌⊎◌, inl, inr, Bool, true, false, Option, None, Some, List, [], ◌∷◌, ◌++◌, length, take, drop, slice_index, refl, sym, ap, ◌∙◌, subst, arith, MatchOption, codes, encode_utf8, encode_utf8_all, len_utf8, StartsWithNoChar, and_from, both_ways, false_from_ne_true, not-true, and-true, drop-append_seam, length-take-le, take-append-drop, take_rest, is_backslash, is_break, is_line_feed, is_mark, is_quote, is_return, is_space, is_word_character, Piece, begins, line_end, Frame, Spelling, Progress, Scan, literal, OpenMode, BeginsWith, piece}
use Rattle.unicode_ident.proofs.Computing.{unicode_ident}
use Rattle.py_lines.specs.Faults.{breaks_join, kind_of_cause}
use Rattle.py_lines.specs.declared.fault.FaultKind.TheVariants as kinds
use Rattle.py_lines.specs.declared.mode.Mode.TheVariants as opens
use Rattle.py_lines.specs.declared.scan.Progress.TheVariants as progress
use Rattle.py_lines.specs.Private.Machine.{Start as starts, move_of}
use Rattle.py_lines.specs.Private.Mode as modes
use Rattle.py_lines.specs.Private.FieldMachine.{FieldMode, FieldScanned, breaks, closes, field_closed, field_fresh, field_move, field_started, field_state, frames, grows, plain, refused, room_step, text_place}
use Rattle.py_lines.specs.Private.FieldFaults.{cause_in, cause_place}
use Rattle.py_lines.specs.Private.LineEnds.{BeginsOuterEnd, HasOuterEnd, IsOuterEnd}
use Rattle.py_lines.specs.Private.Scan.{ComesTo, EndsWithFeed, EndsWithReturn, Follows, Goes, GoesOver, IsFieldFault, IsFirstByte, IsOneItem, Rests, ends_before, ends_line, has_returned, is_begun_after, is_break_move, is_part_of_code, is_pending, is_text, line_end_progress, mode_from, passed, wrong_here}
use Rattle.py_lines.proofs.Machine.Starts.{opens_no, start-feed, start-return, start-slash}
use Rattle.py_lines.proofs.Text.CharacterTests.{feed_is, none_of, the_one}
use Rattle.py_lines.proofs.Text.Utf8Prefixes.{nothing_bad}
use Rattle.py_lines.proofs.FieldScans.Frames.{frames-length, frames_alike, neutral_alike}
use Rattle.py_lines.proofs.FieldScans.Taking.{follows_open, rests_exact, Opening, Shut, StandsAt, StepsOn, broken, by_line, follows_free, goes_on, line_before, no_opening, no_step, piece_after, stands_at, stands_begun, stands_grown, stands_shut, steps, free_at, not_first, rests_ended}
use Rattle.py_lines.proofs.LineScan.AsciiRuns.{break_low, is_low_from}
use Rattle.py_lines.proofs.FieldScans.StringBytes.{first_is}
use Rattle.py_lines.proofs.FieldScans.TextItems.{one_low, AreLow, low_encoded, low_scalars}

-- no string's text ends before a character, and all code ends before a line end
pub code_before : (m : OpenMode) (c : ℕ) → ends_before m c ≡ true → is_text m ≡ false
code_before (opens.Word s) c ends = refl
code_before m c ends = grind arith

pub code_place : (m : OpenMode) → is_text m ≡ false → text_place (mode_from m) ≡ literal
code_place (opens.Word s) none = refl
code_place m none = grind arith

-- where the code ends a piece, the machine does, if so after a word
pub breaks_mode : (m : OpenMode) (held : List ℕ) (c : ℕ) → ends_before m c ≡ true → ((s : Spelling) → m ≡ opens.Word s → field_move (plain (modes.Word s)) held c ≡ breaks)
    → field_move (mode_from m) held c ≡ breaks
unfolding field_move move_of
breaks_mode (opens.Word s) held c ends word = word s refl
breaks_mode m held c ends word = grind arith

-- and if no string begins
pub breaks_before : (old : Scan) (t : FieldScanned) (c : ℕ) → Follows old t → ends_before old.mode c ≡ true → is_quote c ≡ false → field_move t.mode t.held c ≡ breaks
unfolding field_move move_of
breaks_before old t c follow ends quote = ap (λ (m : FieldMode). field_move m t.held c) (sym follow.mode)
    ∙ breaks_mode old.mode t.held c ends (λ s is. rw (quote, not-true _ (ap (λ (m : OpenMode). ends_before m c) (sym is) ∙ ends)) (grind arith))

break-not-word : (c : ℕ) → is_break c ≡ true → is_word_character c ≡ false
unfolding unicode_ident is_break is_word_character
break-not-word c h = none_of is_word_character (codes "\n\r") c refl h

break-others : (c : ℕ) → is_break c ≡ true → (is_space c ≡ false) × (is_mark c ≡ false) × (is_quote c ≡ false)
unfolding is_break is_space is_mark is_quote
break-others c h = (none_of is_space (codes "\n\r") c refl h, none_of is_mark (codes "\n\r") c refl h, none_of is_quote (codes "\n\r") c refl h)

pub code_breaks : (m : OpenMode) (c : ℕ) → is_text m ≡ false → is_break c ≡ true → ends_before m c ≡ true
code_breaks (opens.Word s) c none is = rw (break-not-word c is) refl
code_breaks m c none is = grind (arith, break-others c is)

-- LF and CR
pub feed_breaks : (is_break 10 ≡ true) × (is_line_feed 10 ≡ true)
unfolding is_break is_line_feed
feed_breaks = (refl, refl)

pub return_breaks : (is_break 13 ≡ true) × (is_return 13 ≡ true) × (is_line_feed 13 ≡ false)
unfolding is_break is_return is_line_feed
return_breaks = (refl, refl, refl)

-- what LF and CR do after CR, after a backslash, and after both, and what other characters do after CR
closing_feeds : (held : List ℕ) → (field_move (plain modes.Return) held 10 ≡ closes) × (field_move (plain modes.Backslash) held 10 ≡ closes) × (field_move (plain modes.JoinReturn) held 10 ≡ closes)
    × (field_move (plain modes.Backslash) held 13 ≡ grows (plain modes.JoinReturn))
unfolding field_move move_of is_line_feed is_return
closing_feeds held = (refl, refl, refl, refl)

before_other : (held : List ℕ) (c : ℕ) → is_line_feed c ≡ false → (field_move (plain modes.Return) held c ≡ breaks) × (field_move (plain modes.JoinReturn) held c ≡ breaks)
unfolding field_move move_of
before_other held c none = rw none (refl, refl)

-- the machine goes through characters of ASCII as one item
pub record Walks (t : FieldScanned) (run : List ℕ) (u : FieldScanned) : Type 0 where
  pub low : AreLow run
  pub goes : Goes t run u
  pub one : IsOneItem t run

pub walks_one : (t u : FieldScanned) (c : ℕ) → c < 128 → has_returned t ≡ false → StepsOn t c u → Walks t (c ∷ []) u
walks_one t u c low open_yet step = record { low = one_low c low; goes = (open_yet, u, step.0, step.1, refl); one = tt }

pub walks_on : (t mid u : FieldScanned) (c d : ℕ) (cs : List ℕ) → c < 128 → has_returned t ≡ false → StepsOn t c mid
    → is_break_move (field_move mid.mode mid.held d) ≡ false → Walks mid (d ∷ cs) u → Walks t (c ∷ d ∷ cs) u
walks_on t mid u c d cs low open_yet step on more =
    record { low = and_from _ _ (is_low_from c low) more.low; goes = (open_yet, mid, step.0, step.1, more.goes); one = (mid, step.0, on, more.one) }

module _ (t u : FieldScanned) (run rest : List ℕ) (walks : Walks t run u) where
  spells : encode_utf8_all run ++ rest ≡ run ++ rest
  spells = ap (λ x. x ++ rest) (low_encoded run walks.low)

  -- they are the first of the bytes
  pub over_low : (new : Scan) → 0 < length run → Rests new u rest → GoesOver t (run ++ rest) (length run) new
  over_low new some rests = let left : drop (length run) (run ++ rest) ≡ rest = drop-append_seam run rest in
      let spell : encode_utf8_all run ++ drop (length run) (run ++ rest) ≡ run ++ rest = ap (λ x. encode_utf8_all run ++ x) left ∙ spells in
      search (some, spell, low_scalars run walks.low, ap length (low_encoded run walks.low), walks, subst (Rests new u) (sym left) rests)

  -- or all of them, which don't tell
  pub waits_low : (old : Scan) → StartsWithNoChar rest → is_pending old.mode run ≡ true → (has_returned u ≡ true → rest ≡ []) → ComesTo t (run ++ rest) old progress.Waits old
  waits_low old none pending alone = (search (spells, low_scalars run walks.low, none, walks), alone, search (spells, none, pending), refl)

-- the scan follows further on
follows_on : (fs : List Frame) (a b : ℕ) (t : FieldScanned) → a ≡ b → Follows (free_at fs a) t → Follows (free_at fs b) t
follows_on fs a b t same follow = subst (λ n. Follows (free_at fs n) t) same follow

-- by the line end that the bytes begin with
by_outer_end : (P : List ℕ → ℕ → Type 0) → ((after : List ℕ) → P (10 ∷ after) 1) → ((after : List ℕ) → P (13 ∷ 10 ∷ after) 2)
    → ((b : ℕ) (after : List ℕ) → (b ≡ 10 → ⊥) → P (13 ∷ b ∷ after) 1) → (bytes : List ℕ) (len : ℕ) → BeginsOuterEnd bytes len → P bytes len
by_outer_end P feed both return bytes len e =
    subst (λ x. P x len) (take-append-drop len bytes) (subst (P (take len bytes ++ drop len bytes)) (length-take-le len bytes e.within) (go (take len bytes) (drop len bytes) e.is))
  where
    go : (text after : List ℕ) → IsOuterEnd text after → P (text ++ after) (length text)
    go text after (inl (false, line)) = subst (λ x. P (x ++ after) (length x)) (sym line) (feed after)
    go text after (inl (true, line)) = subst (λ x. P (x ++ after) (length x)) (sym line) (both after)
    go text [] (inr (line, other)) = absurd other
    go text (b ∷ after) (inr (line, other)) = subst (λ x. P (x ++ b ∷ after) (length x)) (sym line) (return b after other)

-- it ends the line, or the scan goes on after it
by_depth : (t : FieldScanned) (bytes : List ℕ) (len : ℕ) (old new : Scan) (b : Bool) → (b ≡ true → EndsWithFeed t bytes len new ⊎ EndsWithReturn t bytes len new)
    → (b ≡ false → GoesOver t bytes len new) → ComesTo t bytes old (line_end_progress b len) new
by_depth t bytes len old new true ends goes = ends refl
by_depth t bytes len old new false ends goes = goes refl

-- a character that begins with another byte than LF is none
other_feed : (b c : ℕ) → (b ≡ 10 → ⊥) → IsFirstByte b c → is_line_feed c ≡ false
other_feed b c other first = false_from_ne_true (is_line_feed c) (λ feed. not_first b c 10 (omega arith) other first (feed_is c feed))

module _ (old : Scan) (t : FieldScanned) (follow : Follows old t) (code : is_text old.mode ≡ false) where
  pub at : StandsAt t old.frames old.start old.stop
  at = stands_at old t follow (sym (ap text_place follow.mode) ∙ code_place old.mode code)

  ends : (c : ℕ) → is_break c ≡ true → field_move t.mode t.held c ≡ breaks
  ends c is = breaks_before old t c follow (code_breaks old.mode c code is) (break-others c is).2

  open_yet : has_returned t ≡ false
  open_yet = follows_open old t follow

  -- LF
  abbrev Closed : List Piece
  Closed = field_closed t.mode t.done t.held

  abbrev Fed : FieldScanned
  Fed = field_fresh t.outer (Closed ++ piece line_end (10 ∷ []) ∷ []) t.openers

  fed_step : room_step t 10 ≡ Some Fed
  fed_step =
      steps t 10 breaks (ends 10 feed_breaks.0) Fed (no_opening (frames t) 10 (opens_no 10 starts.LineEnd (start-feed 10 feed_breaks.1) (λ other. absurd (cc))))
      (ap (field_started t.outer Closed t.openers 10) (start-feed 10 feed_breaks.1))

  fed_line : ends_line t 10 ≡ (frames t == 0)
  fed_line = by_line t 10 breaks (ends 10 feed_breaks.0) ∙ ap (λ b. (frames t == 0) && b) (line_before t.mode 10 feed_breaks.1) ∙ and-true (frames t == 0)

  fed_follows : Follows (passed old 1) Fed
  fed_follows = let b = broken t old.frames old.start old.stop at 10 follow.holds (ends 10 feed_breaks.0) in
      follows_free (free_at old.frames (old.stop + 1)) t.outer (Closed ++ piece line_end (10 ∷ []) ∷ []) t.openers
      (frames_alike t.outer Closed (Closed ++ piece line_end (10 ∷ []) ∷ []) t.openers old.frames (neutral_alike Closed line_end (10 ∷ []) refl refl) b.frames)
      (piece_after old.stop t.outer Closed line_end 10 b.after)

  abbrev EndsSo : List ℕ → ℕ → Type 0
  EndsSo bytes len = ComesTo t bytes old (line_end_progress (frames t == 0) len) (passed old len)

  -- LF after nothing, or after CR
  feed_by : (run : List ℕ) (u v : FieldScanned) → (run ≡ []) ⊎ (run ≡ 13 ∷ []) → Goes t run u → room_step u 10 ≡ Some v → ends_line u 10 ≡ (frames t == 0)
      → Follows (passed old (length run + 1)) v → (frames t == 0 ≡ false → Walks t (run ++ 10 ∷ []) v) → length (run ++ 10 ∷ []) ≡ length run + 1
      → (after : List ℕ) → (run ++ 10 ∷ []) ++ after ≡ run ++ 10 ∷ after → EndsSo (run ++ 10 ∷ after) (length run + 1)
  feed_by run u v first goes step line follows walks size after spell = let n : ℕ = length run + 1 in
      by_depth t (run ++ 10 ∷ after) n old (passed old n) (frames t == 0)
      (λ is. inl (record { run = run; rest = after; spell = refl; first = first; size = refl; to = u; goes = goes; ends = line ∙ is; ended = v; step = step; stop = follows.stop }))
      (λ is. subst (λ x. GoesOver t x n (passed old n)) spell (subst (λ k. GoesOver t ((run ++ 10 ∷ []) ++ after) k (passed old n)) size
      (over_low t v (run ++ 10 ∷ []) after (walks is) (passed old n) (omega (arith, size)) (rests_exact (passed old n) v after follows))))

  -- CR
  abbrev Returned : FieldScanned
  Returned = Opening t old.frames old.start old.stop at 13 modes.Return

  pub returns : StepsOn t 13 Returned × StandsAt Returned old.frames old.stop (old.stop + 1)
  returns = stands_begun t old.frames old.start old.stop at 13 follow.holds (ends 13 return_breaks.0) modes.Return (start-return 13 return_breaks.1)

  return_walks : Walks t (13 ∷ []) Returned
  return_walks = walks_one t Returned 13 (omega arith) open_yet returns.0

  abbrev Both : FieldScanned
  Both = Shut Returned old.frames old.stop (old.stop + 1) returns.1 10

  both_so : (room_step Returned 10 ≡ Some Both) × Follows (free_at old.frames (old.stop + 1 + 1)) Both
  both_so = stands_shut Returned old.frames old.stop (old.stop + 1) returns.1 10 tt (closing_feeds _).0

  both_line : ends_line Returned 10 ≡ (frames t == 0)
  both_line = by_line Returned 10 closes (closing_feeds _).0 ∙ and-true (frames t == 0)

  both_follows : Follows (passed old 2) Both
  both_follows = follows_on old.frames (old.stop + 1 + 1) (old.stop + 2) Both (omega arith) both_so.1

  -- before another byte
  return_ends : (b : ℕ) (after : List ℕ) → (b ≡ 10 → ⊥) → EndsSo (13 ∷ b ∷ after) 1
  return_ends b after other = by_depth t (13 ∷ b ∷ after) 1 old (passed old 1) (frames t == 0)
      (λ line. let spell : 13 ∷ b ∷ after ≡ 13 ∷ b ∷ after = refl in inr (search (spell, other, return_walks.goes, line, returns.1.ends)))
      (λ line. over_low t Returned (13 ∷ []) (b ∷ after) return_walks (passed old 1) (omega arith)
      (rests_ended Returned old.frames old.stop (old.stop + 1) b after returns.1 refl tt line (λ c first. (before_other _ c (other_feed b c other first)).0)))

  pub line_ends_so : (bytes : List ℕ) (len : ℕ) → BeginsOuterEnd bytes len → ComesTo t bytes old (line_end_progress (length old.frames == 0) len) (passed old len)
  line_ends_so bytes len e =
      subst (λ n. ComesTo t bytes old (line_end_progress (n == 0) len) (passed old len)) (sym (frames-length t.outer t.done t.openers old.frames follow.frames))
      (by_outer_end EndsSo
      (λ after. feed_by [] t Fed (inl refl) refl fed_step fed_line fed_follows (λ is. walks_one t Fed 10 (omega arith) open_yet (fed_step, fed_line ∙ is)) refl after refl)
      (λ after. feed_by (13 ∷ []) Returned Both (inr refl) return_walks.goes both_so.0 both_line both_follows
      (λ is. walks_on t Returned Both 13 10 [] (omega arith) open_yet returns.0 (ap is_break_move (closing_feeds _).0) (walks_one Returned Both 10 (omega arith) is (both_so.0, both_line ∙ is))) refl after refl)
      return_ends bytes len e)

  -- CR alone doesn't tell
  pub return_waits : is_pending old.mode (13 ∷ []) ≡ true → ComesTo t (13 ∷ []) old progress.Waits old
  return_waits pending = waits_low t Returned (13 ∷ []) [] return_walks old nothing_bad pending (λ is. refl)

-- what doesn't tell in code
pending_as : (m : OpenMode) (run : List ℕ) → is_text m ≡ false → is_part_of_code run ≡ true → is_begun_after m run ≡ true → is_pending m run ≡ true
pending_as (opens.Word s) run none part after = and_from _ _ part after
pending_as m run none part after = grind arith

pub pending_code : (m : OpenMode) (c : ℕ) (cs : List ℕ) → ends_before m c ≡ true → is_part_of_code (c ∷ cs) ≡ true → is_pending m (c ∷ cs) ≡ true
pending_code m c cs ends part = pending_as m (c ∷ cs) (code_before m c ends) part ends

pub pending_none : (m : OpenMode) → is_text m ≡ false → is_pending m [] ≡ true
pending_none m none = pending_as m [] none refl refl

pub parts : (is_part_of_code (13 ∷ []) ≡ true) × (is_part_of_code (92 ∷ []) ≡ true) × (is_part_of_code (92 ∷ 13 ∷ []) ≡ true)
unfolding is_backslash is_quote
parts = (refl, refl, refl)

pub slash_is : (is_backslash 92 ≡ true) × (is_quote 92 ≡ false)
unfolding is_backslash is_quote
slash_is = (refl, refl)

-- what is neither LF nor CR
no_end : (c : ℕ) → is_break c ≡ false → (is_line_feed c ≡ false) × (is_return c ≡ false)
unfolding is_break is_line_feed is_return
no_end c none = grind arith

-- the bytes begin with a backslash
slash_bytes : (bytes : List ℕ) → begins is_backslash bytes ≡ true → bytes ≡ 92 ∷ drop 1 bytes
unfolding is_backslash
slash_bytes [] is = absurd (both_ways _ refl is)
slash_bytes (b ∷ bs) is = ap (λ (c : ℕ). c ∷ bs) (the_one 92 b is)

module _ (old : Scan) (t : FieldScanned) (follow : Follows old t) (before_it : ends_before old.mode 92 ≡ true) where
  pub there : StandsAt t old.frames old.start old.stop
  there = at old t follow (code_before old.mode 92 before_it)

  yet : has_returned t ≡ false
  yet = follows_open old t follow

  abbrev Slashed : FieldScanned
  Slashed = Opening t old.frames old.start old.stop there 92 modes.Backslash

  pub slashes : StepsOn t 92 Slashed × StandsAt Slashed old.frames old.stop (old.stop + 1)
  slashes = stands_begun t old.frames old.start old.stop there 92 follow.holds (breaks_before old t 92 follow before_it slash_is.1) modes.Backslash (start-slash 92 slash_is.0)

  slash_walks : Walks t (92 ∷ []) Slashed
  slash_walks = walks_one t Slashed 92 (omega arith) yet slashes.0

  abbrev Joins : List ℕ → ℕ → Type 0
  Joins bytes len = ComesTo t (92 ∷ bytes) old (progress.Going (1 + len)) (passed old (1 + len))

  -- LF
  abbrev Joined : FieldScanned
  Joined = Shut Slashed old.frames old.stop (old.stop + 1) slashes.1 10

  joined : (room_step Slashed 10 ≡ Some Joined) × Follows (free_at old.frames (old.stop + 1 + 1)) Joined
  joined = stands_shut Slashed old.frames old.stop (old.stop + 1) slashes.1 10 tt (closing_feeds _).1

  feed_joins : (after : List ℕ) → Joins (10 ∷ after) 1
  feed_joins after = over_low t Joined (92 ∷ 10 ∷ []) after
      (walks_on t Slashed Joined 92 10 [] (omega arith) yet slashes.0 (ap is_break_move (closing_feeds _).1)
      (walks_one Slashed Joined 10 (omega arith) refl (joined.0, goes_on Slashed 10 closes (closing_feeds _).1 refl)))
      (passed old 2) (omega arith) (rests_exact (passed old 2) Joined after (follows_on old.frames (old.stop + 1 + 1) (old.stop + 2) Joined (omega arith) joined.1))

  -- CR
  abbrev Half : FieldScanned
  Half = field_state t.outer (field_closed t.mode t.done t.held) t.openers (plain modes.JoinReturn) ((92 ∷ []) ++ 13 ∷ [])

  pub half : StepsOn Slashed 13 Half × StandsAt Half old.frames old.stop (old.stop + 1 + 1)
  half = stands_grown Slashed old.frames old.stop (old.stop + 1) slashes.1 13 (plain modes.JoinReturn) (closing_feeds _).3 refl

  half_walks : Walks t (92 ∷ 13 ∷ []) Half
  half_walks = walks_on t Slashed Half 92 13 [] (omega arith) yet slashes.0 (ap is_break_move (closing_feeds _).3) (walks_one Slashed Half 13 (omega arith) refl half.0)

  abbrev Whole : FieldScanned
  Whole = Shut Half old.frames old.stop (old.stop + 1 + 1) half.1 10

  whole : (room_step Half 10 ≡ Some Whole) × Follows (free_at old.frames (old.stop + 1 + 1 + 1)) Whole
  whole = stands_shut Half old.frames old.stop (old.stop + 1 + 1) half.1 10 tt (closing_feeds _).2

  both_join : (after : List ℕ) → Joins (13 ∷ 10 ∷ after) 2
  both_join after = over_low t Whole (92 ∷ 13 ∷ 10 ∷ []) after
      (walks_on t Slashed Whole 92 13 (10 ∷ []) (omega arith) yet slashes.0 (ap is_break_move (closing_feeds _).3)
      (walks_on Slashed Half Whole 13 10 [] (omega arith) refl half.0 (ap is_break_move (closing_feeds _).2)
      (walks_one Half Whole 10 (omega arith) refl (whole.0, goes_on Half 10 closes (closing_feeds _).2 refl))))
      (passed old 3) (omega arith) (rests_exact (passed old 3) Whole after (follows_on old.frames (old.stop + 1 + 1 + 1) (old.stop + 3) Whole (omega arith) whole.1))

  return_joins : (b : ℕ) (after : List ℕ) → (b ≡ 10 → ⊥) → Joins (13 ∷ b ∷ after) 1
  return_joins b after other = let same : old.stop + 1 + 1 ≡ old.stop + 2 = omega arith in
      over_low t Half (92 ∷ 13 ∷ []) (b ∷ after) half_walks (passed old 2) (omega arith) (subst (λ (n : ℕ). Rests (free_at old.frames n) Half (b ∷ after)) same
      (rests_ended Half old.frames old.stop (old.stop + 1 + 1) b after half.1 refl tt refl (λ c first. (before_other _ c (other_feed b c other first)).1)))

  pub joins : (more : List ℕ) (len : ℕ) → BeginsOuterEnd more len → Joins more len
  joins = by_outer_end Joins feed_joins both_join return_joins

  -- the bytes don't tell
  slash_waits : (more : List ℕ) → StartsWithNoChar more → ComesTo t (92 ∷ more) old progress.Waits old
  slash_waits more none =
      waits_low t Slashed (92 ∷ []) more slash_walks old none (pending_code old.mode 92 [] before_it parts.1) (λ is. absurd (both_ways _ refl is))

  half_waits : ComesTo t (92 ∷ 13 ∷ []) old progress.Waits old
  half_waits = waits_low t Half (92 ∷ 13 ∷ []) [] half_walks old nothing_bad (pending_code old.mode 92 (13 ∷ []) before_it parts.2) (λ is. refl)

  -- another character is wrong there
  slash_refuses : (c : ℕ) → is_break c ≡ false → field_move Slashed.mode Slashed.held c ≡ refused
  unfolding field_move move_of
  slash_refuses c none = rw ((no_end c none).0, (no_end c none).1) refl

  slash_wrong : (more : List ℕ) (c : ℕ) → BeginsWith more c → is_break c ≡ false → ComesTo t (92 ∷ more) old (wrong_here old kinds.BadJoin) old
  slash_wrong more c first none = let cause : breaks_join ≡ cause_in (frames Slashed) Slashed.mode c = rw none refl in
      let spell : encode_utf8_all (92 ∷ []) ++ (encode_utf8 c ++ drop (len_utf8 c) more) ≡ 92 ∷ more =
      spells t Slashed (92 ∷ []) (encode_utf8 c ++ drop (len_utf8 c) more) slash_walks ∙ ap (λ (x : List ℕ). 92 ∷ x) first.spell in
      let one : IsOneItem t (92 ∷ c ∷ []) = (Slashed, slashes.0.0, ap is_break_move (slash_refuses c none), tt) in
      let fault : IsFieldFault Slashed c (record { kind = kinds.BadJoin; place = old.stop }) = (ap kind_of_cause cause, slashes.1.begins ∙ ap (cause_place Slashed) cause) in
      (search (spell, low_scalars (92 ∷ []) slash_walks.low, first, slash_walks.goes, one, no_step Slashed c refused (slash_refuses c none) refl, fault), refl)

-- the bytes after a backslash, as the code takes them
abbrev pub After : List ℕ → List ℕ
After bytes = take (length bytes - 1) (drop 1 bytes)

module _ (old : Scan) (t : FieldScanned) (bytes : List ℕ) (follow : Follows old t) (slash : begins is_backslash bytes ≡ true) (after : ends_before old.mode (slice_index bytes 0) ≡ true) where
  is_slash : bytes ≡ 92 ∷ After bytes
  is_slash = slash_bytes bytes slash ∙ ap (λ (x : List ℕ). 92 ∷ x) (sym (take_rest bytes 1))

  before_slash : ends_before old.mode 92 ≡ true
  before_slash = ap (λ (x : List ℕ). ends_before old.mode (slice_index x 0)) (sym is_slash) ∙ after

  put_slash : (p : Progress) (new : Scan) → ComesTo t (92 ∷ After bytes) old p new → ComesTo t bytes old p new
  put_slash p new so = subst (λ (x : List ℕ). ComesTo t x old p new) (sym is_slash) so

  pub join_takes : (len : ℕ) → BeginsOuterEnd (After bytes) len → (new : Scan) → new ≡ passed old (1 + len) → GoesOver t bytes (1 + len) new
  join_takes len e new is = subst (GoesOver t bytes (1 + len)) (sym is) (put_slash (progress.Going (1 + len)) (passed old (1 + len)) (joins old t follow before_slash (After bytes) len e))

  pub join_waits : StartsWithNoChar (After bytes) → ComesTo t bytes old progress.Waits old
  join_waits none = put_slash progress.Waits old (slash_waits old t follow before_slash (After bytes) none)

  -- CR stands alone where no line end is known
  alone : (c : ℕ) → HasOuterEnd (After bytes) None → BeginsWith (After bytes) c → is_break c ≡ true → After bytes ≡ 13 ∷ []
  alone c none first break = none (ap (begins is_break) (sym (first_is (After bytes) c (break_low c break) first)) ∙ break)

  pub half_join_waits : (c : ℕ) → HasOuterEnd (After bytes) None → BeginsWith (After bytes) c → c ≡ 13 → ComesTo t bytes old progress.Waits old
  half_join_waits c none first is = subst (λ (x : List ℕ). ComesTo t x old progress.Waits old) (sym (is_slash ∙ ap (λ (x : List ℕ). 92 ∷ x) (alone c none first (ap is_break is ∙ return_breaks.0)))) (half_waits old t follow before_slash)

  pub join_wrong : (c : ℕ) → HasOuterEnd (After bytes) None → BeginsWith (After bytes) c → (c ≡ 13 → ⊥) → ComesTo t bytes old (wrong_here old kinds.BadJoin) old
  join_wrong c none first other = put_slash (wrong_here old kinds.BadJoin) old (slash_wrong old t follow before_slash (After bytes) c first
      (false_from_ne_true _ (λ break.
      let same = sym (first_is (After bytes) c (break_low c break) first) in
      other (ap (λ (x : List ℕ). slice_index x 0) (sym same ∙ alone c none first break)))))

-- where no first character was found, none begins the bytes
pub none_told : (found : Option ℕ) (bytes : List ℕ) → MatchOption found (StartsWithNoChar bytes) (BeginsWith bytes) → found ≡ None → StartsWithNoChar bytes
none_told None bytes told none = told
none_told (Some c) bytes told none = absurd (cc)
