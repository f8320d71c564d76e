-- The prefix of a text that isn't read, with what a reader answers there, and what a text's known bytes settle: the pieces up to the last
-- line end outside brackets that the machine has found.
use Rattle.py_lines.proofs.Prelude.{false, ◌≡◌, ℕ, ◌+◌, ◌≤◌, Some, List, [], ◌∷◌, ◌++◌, length, refl, sym, ap, ◌∙◌, subst, inl, inr, append_assoc, append-nil, length-append, arith, ◌⊎◌, true, same_from_push, append_cancel_left, both_ways, cond_both, is_line_feed, is_return, string, line_end, Piece, spelled, ends, depth_through, Fault, InClass, AreReadBefore, piece}
use Rattle.py_lines.specs.LogicalLine.{is_line_end_class, lines_of, byte_len}
use Rattle.py_lines.specs.Reading.{IsBalancedReading, EndsLine, IsReadPrefix, Decodes}
use Rattle.py_lines.specs.Faults.{IsLive, IsCharacterFault, IsEndFault, IsFaultAt, at_character, at_bytes, at_end}
use Rattle.py_lines.specs.PieceGrammar.{IsLineEnd, feed, return_feed, return}
use Rattle.py_lines.specs.Settled.{EndsForGood, IsSettledPrefix}
use Rattle.py_lines.specs.Lexed.{IsLexedToFault}
use Rattle.py_lines.specs.Private.Mode as modes
use Rattle.py_lines.specs.Private.Machine.{Move, class_of, move_of}
use Rattle.py_lines.specs.declared.fault.FaultKind.TheVariants as faults
use Rattle.py_lines.specs.Private.LineScan.{EndsNoLine}
use Rattle.py_lines.specs.Private.FieldMachine.{FieldMode, plain, plain_move, Level, FieldScanned, field_state, field_fresh, field_text_start, field_closed, field_move, field_moved, field_steps_from}
use Rattle.py_lines.proofs.Text.Splits.{Either, either}
use Rattle.py_lines.proofs.Pieces.PieceLists.{spelled-append, spelled-push, AreReadBefore-second}
use Rattle.py_lines.proofs.Pieces.OpenBrackets.{depth_through-append}
use Rattle.py_lines.proofs.Machine.PieceSteps.{some_is}
use Rattle.py_lines.proofs.FieldMachine.Completeness.{reading_reached}
use Rattle.py_lines.proofs.FieldMachine.OuterLists.{outer_done, outer_pieces}
use Rattle.py_lines.proofs.FieldMachine.WholeRuns.{RunsTo, runs_live}
use Rattle.py_lines.proofs.FieldSoundness.LiveTexts.{live_before, steps-append}
use Rattle.py_lines.proofs.Lexings.OuterRuns.{found_on, runs_spell}
use Rattle.py_lines.proofs.Lexings.Existence.{reading_live}
use Rattle.py_lines.proofs.Lexings.LineEnds.{no_end_in, depth_prefix, length_line, return_returns, none_both, line_first, ends-append, ends-line}
pub use Rattle.py_lines.proofs.Lexings.LineEnds.{line_first}
pub use Rattle.py_lines.proofs.Lexings.Existence.{reading_live, IsLineOf, lexical}

-- a line end that the machine has found stays, though CR may get LF after it
pub record Stays (body : List Piece) (last : Piece) (all : List Piece) : Type 0 where
  pub line : Piece
  pub others : List Piece
  pub is : all ≡ body ++ line ∷ others
  pub class : line.class ≡ line_end
  pub longer : length last.text ≤ length line.text

stays_as : (body : List Piece) (last : Piece) (all ps : List Piece) → last.class ≡ line_end → all ≡ (body ++ last ∷ []) ++ ps → Stays body last all
stays_as body last all ps is spell = record { line = last; others = ps; is = spell ∙ append_assoc body (last ∷ []) ps; class = is; longer = omega arith }

-- after a state, what grows from its finished pieces
stays_done : (body : List Piece) (last : Piece) (t : FieldScanned) (x : List ℕ) (u : FieldScanned) → last.class ≡ line_end
    → outer_done t ≡ body ++ last ∷ [] → field_steps_from (Some t) x ≡ Some u → Stays body last (outer_pieces u)
stays_done body last t x u class is steps =
    let found = found_on x t u steps in
    stays_as body last (outer_pieces u) found.0 class (found.1 ∙ ap (λ l. l ++ found.0) is)

stays_return : (body : List Piece) (last : Piece) (done : List Piece) (openers held x : List ℕ) (u : FieldScanned) → last.class ≡ line_end
    → done ++ piece line_end held ∷ [] ≡ body ++ last ∷ []
    → field_steps_from (Some (field_state [] done openers (plain modes.Return) held)) x ≡ Some u → Stays body last (outer_pieces u)
unfolding field_move move_of
stays_return body last done openers held [] u class is steps =
    stays_as body last (outer_pieces u) [] class (ap outer_pieces (sym (some_is _ u steps)) ∙ is ∙ sym (append-nil (body ++ last ∷ [])))
stays_return body last done openers held (c ∷ cs) u class is steps =
    let parts = same_from_push done body (piece line_end held) last is in
    let from = field_state [] done openers (plain modes.Return) held in
    cond_both (is_line_feed c) _ _ (λ (v : Move). field_steps_from (field_moved from c (plain_move v)) cs ≡ Some u → Stays body last (outer_pieces u))
    (λ h closed_runs. let line : Piece = piece line_end (held ++ c ∷ []) in
    let more = stays_done body line (field_fresh [] (done ++ line ∷ []) openers) cs u refl (ap (λ l. l ++ line ∷ []) parts.0) closed_runs in
    let longer : length last.text ≤ length more.line.text
    = omega (arith, ap (λ (p : Piece). length p.text) parts.1, length-append held (c ∷ []), more.longer) in search (more, longer))
    (λ h open_runs. stays_done body last (field_fresh [] (done ++ piece line_end held ∷ []) openers) (c ∷ cs) u class is open_runs) steps

last_class : (done body : List Piece) (p last : Piece) → done ++ p ∷ [] ≡ body ++ last ∷ [] → last.class ≡ line_end → is_line_end_class p.class ≡ true
last_class done body p last is class = ap is_line_end_class (ap (λ (q : Piece). q.class) (same_from_push done body p last is).1 ∙ class)

-- a line end at the end of the pieces that a state outside fields has found
pub line_stays : (m : FieldMode) (done : List Piece) (openers held x : List ℕ) (u : FieldScanned) (body : List Piece) (last : Piece)
    → field_steps_from (Some (field_state [] done openers m held)) x ≡ Some u → field_closed m done held ≡ body ++ last ∷ [] → last.class ≡ line_end
    → Stays body last (outer_pieces u)
line_stays (plain modes.Start) done openers held x u body last steps is class = stays_done body last _ x u class is steps
line_stays (plain modes.Free) done openers held x u body last steps is class = stays_done body last _ x u class is steps
line_stays (plain modes.Return) done openers held x u body last steps is class = stays_return body last done openers held x u class is steps
line_stays (plain m) done openers held x u body last steps is class = absurd (both_ways _ refl (last_class done body (piece (class_of m) held) last is class))
line_stays m done openers held x u body last steps is class = absurd (both_ways _ refl (last_class done body (piece string held) last is class))

-- so does the line end of pieces that are read whole, where the machine goes on from them
pub reading_stays : (pieces : List Piece) (more before : List ℕ) (u : FieldScanned) (body : List Piece) (last : Piece)
    → field_steps_from (Some field_text_start) before ≡ Some u → spelled pieces ++ more ≡ before → IsBalancedReading pieces (spelled pieces)
    → pieces ≡ body ++ last ∷ [] → last.class ≡ line_end → Stays body last (outer_pieces u)
reading_stays pieces more before u body last steps spell reading is class =
    let found = reading_reached pieces (spelled pieces) reading in
    let from : List Level → FieldScanned = λ ls. field_state ls found.to.done found.to.openers found.to.mode found.to.held in
    let on : field_steps_from (Some found.to) more ≡ Some u =
    ap (λ o. field_steps_from o more) (sym found.steps) ∙ sym (steps-append (Some field_text_start) (spelled pieces) more)
    ∙ ap (field_steps_from (Some field_text_start)) spell ∙ steps in line_stays found.to.mode found.to.done found.to.openers found.to.held more u body last
    (subst (λ ls. field_steps_from (Some (from ls)) more ≡ Some u) found.final.outside on) (found.pieces_are ∙ is) class

-- where a list begins with another, what follows that
second_is : (xs ys zs k ws : List Piece) → xs ++ ys ≡ zs ++ ws → zs ≡ xs ++ k → ys ≡ k ++ ws
second_is xs ys zs k ws same is = append_cancel_left xs ys (k ++ ws) (same ∙ ap (λ l. l ++ ws) is ∙ append_assoc xs k ws)

-- no line end stays after a prefix after which none ends a line
pub within : (prefix others rivals body : List Piece) (last : Piece) (all : List Piece) → all ≡ prefix ++ others → EndsLine prefix → EndsNoLine 0 others → rivals ≡ body ++ last ∷ [] → depth_through 0 body ≡ 0 → Stays body last all → length (spelled rivals) ≤ length (spelled prefix)
within prefix others rivals body last all pieces ended none is deep stays = go (either prefix others body (stays.line ∷ stays.others) same) where
  same : prefix ++ others ≡ body ++ stays.line ∷ stays.others
  same = sym pieces ∙ stays.is

  go : Either prefix body (stays.line ∷ stays.others) → length (spelled rivals) ≤ length (spelled prefix)
  go (Either.shorter k one) = let two = second_is prefix others body k (stays.line ∷ stays.others) same one in
      let level : depth_through 0 k ≡ 0 = ap (λ (d : ℕ). depth_through d k) (sym (depth_prefix prefix ended)) ∙ sym (depth_through-append 0 prefix k) ∙ ap (depth_through 0) (sym one) ∙ deep in
      absurd (no_end_in 0 k stays.line stays.others (subst (EndsNoLine 0) two none) level stays.class)
  go (Either.longer p k after one two) = let line : p ≡ stays.line = cc in let whole = one ∙ ap (λ q. body ++ q ∷ k) line in
      let mine : length (spelled prefix) ≡ length (spelled body) + (length stays.line.text + length (spelled k)) = ap (λ l. length (spelled l)) whole ∙ length_line body stays.line k in
      let theirs : length (spelled rivals) ≡ length (spelled body) + (length last.text + 0) = ap (λ l. length (spelled l)) is ∙ length_line body last [] in
      omega (arith, mine, theirs, stays.longer)

-- the prefix of a text that isn't read further
pub prefix_is : (before later characters : List ℕ) (u : FieldScanned) (prefix others : List Piece) → RunsTo before u → before ++ later ≡ characters
    → ((c : ℕ) (after : List ℕ) → later ≡ c ∷ after → ¬ (IsLive (before ++ c ∷ []))) → outer_pieces u ≡ prefix ++ others
    → IsBalancedReading prefix (spelled prefix) → EndsLine prefix → EndsNoLine 0 others → IsReadPrefix prefix characters
prefix_is before later characters u prefix others steps spell dead pieces reading ended none = record {
  rest = spelled others ++ later;
  spell = sym (append_assoc (spelled prefix) (spelled others) later) ∙ ap (λ t. t ++ later) (sym (spelled-append prefix others) ∙ ap spelled (sym pieces) ∙ runs_spell before u steps) ∙ spell;
  reading = reading;
  ended = ended;
  longest = longest;
} where
  -- no longer prefix ends a line
  longest : (rivals : List Piece) (after : List ℕ) → spelled rivals ++ after ≡ characters → IsBalancedReading rivals (spelled rivals) → EndsLine rivals → length (spelled rivals) ≤ length (spelled prefix)
  longest rivals after spells reads (inl empty) = omega (arith, ap (λ l. length (spelled l)) empty)
  longest rivals after spells reads (inr (body, last, is, class, deep)) = go (either (spelled rivals) after before later (spells ∙ sym spell)) where
    go : Either (spelled rivals) before later → length (spelled rivals) ≤ length (spelled prefix)
    go (Either.longer c k rest one two) =
        let live = subst IsLive (one ∙ sym (append_assoc before (c ∷ []) k)) (reading_live rivals (spelled rivals) reads) in
        absurd (dead c rest two (live_before (before ++ c ∷ []) k live))
    go (Either.shorter k one) = within prefix others rivals body last (outer_pieces u) pieces ended none is deep (reading_stays rivals k before u body last steps.0 (sym one) reads is class)

-- No line ends in the pieces after the lines given, or only by the CR with which the known bytes end.
pub data EndsNoneYet (others : List Piece) (tail : List ℕ) : Type 0 where
  none : EndsNoLine 0 others → EndsNoneYet others tail
  by_return : (local : List Piece) (text : List ℕ) → others ≡ local ++ piece line_end text ∷ [] → EndsNoLine 0 local → text ≡ 13 ∷ [] → tail ≡ [] → EndsNoneYet others tail

-- a piece of a list of one
pub one_of : (p w : Piece) (k ws : List Piece) → p ∷ [] ≡ k ++ w ∷ ws → (w ≡ p) × (ws ≡ [])
one_of p w [] ws same = (cc, cc)
one_of p w (q ∷ k) ws same = absurd (omega (arith, ap length same, length-append k (w ∷ ws)))

-- the machine has read the known characters: the lines given are settled, and no more
pub settled_at : (characters tail : List ℕ) (u : FieldScanned) (base others : List Piece) (rest : List ℕ) → RunsTo characters u
    → outer_pieces u ≡ base ++ others → IsBalancedReading base (spelled base) → EndsForGood base (rest ++ tail) → EndsNoneYet others tail
    → spelled base ++ rest ≡ characters → IsSettledPrefix base characters tail
settled_at characters tail u base others rest steps pieces reading good yet spell =
    record { rest = rest; spell = spell; reading = reading; ended = good; longest = longest }
  where
    whole : spelled (outer_pieces u) ≡ characters
    whole = runs_spell characters u steps

    -- a rival that ends with the CR ends with the known bytes, so not for good
    at_return : (rivals : List Piece) (after : List ℕ) (body : List Piece) (last line : Piece) → spelled rivals ++ after ≡ characters
        → rivals ≡ body ++ last ∷ [] → IsBalancedReading rivals (spelled rivals) → last.class ≡ line_end
        → (after ++ tail ≡ [] → ends is_return (spelled rivals) ≡ false) → outer_pieces u ≡ body ++ line ∷ [] → line.text ≡ 13 ∷ [] → tail ≡ [] → ⊥
    at_return rivals after body last line spells is reads class settles at cr bare =
        let holds = (AreReadBefore-second body (last ∷ []) [] (subst (λ l. AreReadBefore l []) is reads.reads.fit)).0 in
        let some = line_first last class holds in
        let left : last.text ++ after ≡ 13 ∷ [] = append_cancel_left (spelled body) (last.text ++ after) (13 ∷ []) (sym (append_assoc (spelled body) last.text after) ∙ ap (λ t. t ++ after) (sym (spelled-push body last.class last.text) ∙ ap spelled (sym is)) ∙ spells ∙ sym whole ∙ ap spelled at ∙ spelled-push body line.class line.text ∙ ap (λ t. spelled body ++ t) cr) in
        let first : some.0 ∷ (some.1 ++ after) ≡ 13 ∷ [] = ap (λ t. t ++ after) (sym some.2) ∙ left in let at_first : some.0 ≡ 13 = cc in let none_after : some.1 ++ after ≡ [] = cc in
        let none = none_both some.1 after none_after in let text : last.text ≡ 13 ∷ [] = some.2 ∙ (λ i. at_first i ∷ none.0 i) in
        both_ways _ (settles (ap (λ t. t ++ tail) none.1 ∙ bare)) (ap (λ l. ends is_return (spelled l)) is ∙ ends-line is_return body last class holds ∙ ap (ends is_return) text ∙ return_returns)

    bounded : (rivals : List Piece) (after : List ℕ) (body : List Piece) (last : Piece) → spelled rivals ++ after ≡ characters
        → rivals ≡ body ++ last ∷ [] → IsBalancedReading rivals (spelled rivals) → last.class ≡ line_end → depth_through 0 body ≡ 0
        → (after ++ tail ≡ [] → ends is_return (spelled rivals) ≡ false) → Stays body last (outer_pieces u) → EndsNoneYet others tail
        → length (spelled rivals) ≤ length (spelled base)
    bounded rivals after body last spells is reads class deep settles stays (EndsNoneYet.none free) = within base others rivals body last (outer_pieces u) pieces good.0 free is deep stays
    bounded rivals after body last spells is reads class deep settles stays (EndsNoneYet.by_return local text split_at free cr bare) =
        go (either (base ++ local) (piece line_end text ∷ []) body (stays.line ∷ stays.others) same)
      where
        same : (base ++ local) ++ piece line_end text ∷ [] ≡ body ++ stays.line ∷ stays.others
        same = append_assoc base local (piece line_end text ∷ []) ∙ ap (λ l. base ++ l) (sym split_at) ∙ sym pieces ∙ stays.is

        go : Either (base ++ local) body (stays.line ∷ stays.others) → length (spelled rivals) ≤ length (spelled base)
        go (Either.longer p k others_after one two) = let line : p ≡ stays.line = cc in
            within base local rivals body last (base ++ local) refl good.0 free is deep (search (stays, one ∙ ap (λ q. body ++ q ∷ k) line))
        go (Either.shorter k one) = let two = second_is (base ++ local) (piece line_end text ∷ []) body k (stays.line ∷ stays.others) same one in
            let (line, nothing) = one_of (piece line_end text) stays.line k stays.others two in
            absurd (at_return rivals after body last stays.line spells is reads class settles (stays.is ∙ ap (λ l. body ++ stays.line ∷ l) nothing) (ap (λ (p : Piece). p.text) line ∙ cr) bare)

    longest : (rivals : List Piece) (after : List ℕ) → spelled rivals ++ after ≡ characters → IsBalancedReading rivals (spelled rivals) → EndsForGood rivals (after ++ tail) → length (spelled rivals) ≤ length (spelled base)
    longest rivals after spells reads (inl empty, settles) = omega (arith, ap (λ l. length (spelled l)) empty)
    longest rivals after spells reads (inr (body, last, is, class, deep), settles) = bounded rivals after body last spells is reads class deep settles (reading_stays rivals after characters u body last steps.0 spells reads is class) yet

-- a line end ends in LF or CR
line_end-breaks : (text : List ℕ) → IsLineEnd text → ends is_return text ≡ false → ends is_line_feed text ≡ true
unfolding is_return is_line_feed
line_end-breaks text (feed same) h = ap (ends is_line_feed) same
line_end-breaks text (return_feed same) h = ap (ends is_line_feed) same
line_end-breaks text (return same) h = absurd (both_ways _ h (ap (ends is_return) same))

-- a line has just ended, and at most one character that is no LF follows it: it is settled, and nothing after it
pub settled_line : (characters tail : List ℕ) (prefix : List Piece) (rest : List ℕ) → spelled prefix ++ rest ≡ characters → IsBalancedReading prefix (spelled prefix) → EndsForGood prefix (rest ++ tail) → (rest ≡ []) ⊎ ((c : ℕ) × (rest ≡ c ∷ []) × (is_line_feed c ≡ false) × (tail ≡ [])) → IsSettledPrefix prefix characters tail
settled_line characters tail prefix rest spell reading good near = record { rest = rest; spell = spell; reading = reading; ended = good; longest = λ others after spells read ended. longest near others after spells read ended }
  where
    total : (others : List Piece) (after : List ℕ) → spelled others ++ after ≡ characters → length (spelled others) + length after ≡ length (spelled prefix) + length rest
    total others after spells = sym (length-append (spelled others) after) ∙ ap length (spells ∙ sym spell) ∙ length-append (spelled prefix) rest

    not_last : (c : ℕ) (others : List Piece) → rest ≡ c ∷ [] → is_line_feed c ≡ false → tail ≡ [] → spelled others ++ [] ≡ characters → IsBalancedReading others (spelled others) → EndsForGood others ([] ++ tail) → length (spelled others) ≤ length (spelled prefix)
    not_last c others is other bare spells read (inl empty, settles) = omega (arith, ap (λ l. length (spelled l)) empty)
    not_last c others is other bare spells read (inr (body, last, split_at, class, deep), settles) =
        let holds = (AreReadBefore-second body (last ∷ []) [] (subst (λ l. AreReadBefore l []) split_at read.reads.fit)).0 in
        let all : spelled others ≡ spelled prefix ++ c ∷ [] = sym (append-nil (spelled others)) ∙ spells ∙ sym spell ∙ ap (λ t. spelled prefix ++ t) is in
        let no_cr : ends is_return last.text ≡ false = sym (ends-line is_return body last class holds) ∙ ap (λ (l : List Piece). ends is_return (spelled l)) (sym split_at) ∙ settles bare in
        let lf : ends is_line_feed last.text ≡ true = line_end-breaks last.text (subst (λ k. InClass k last.text) class holds) no_cr in
        let ending : is_line_feed c ≡ true = sym (ends-append is_line_feed (spelled prefix) c []) ∙ ap (ends is_line_feed) (sym all ∙ ap spelled split_at) ∙ ends-line is_line_feed body last class holds ∙ lf in
        absurd (both_ways _ other ending)

    longest : (rest ≡ []) ⊎ ((c : ℕ) × (rest ≡ c ∷ []) × (is_line_feed c ≡ false) × (tail ≡ [])) → (others : List Piece) (after : List ℕ) → spelled others ++ after ≡ characters → IsBalancedReading others (spelled others) → EndsForGood others (after ++ tail) → length (spelled others) ≤ length (spelled prefix)
    longest (inl empty) others after spells read ended = omega (arith, total others after spells, ap length empty)
    longest (inr (c, is, other, bare)) others [] spells read ended = not_last c others is other bare spells read ended
    longest (inr (c, is, other, bare)) others (d ∷ ds) spells read ended = omega (arith, total others (d ∷ ds) spells, ap length is)

-- the prefix that a reader has given: up to the last line end at depth 0
pub record HasPrefix (u : FieldScanned) (prefix : List Piece) : Type 0 where
  pub others : List Piece
  pub spell : outer_pieces u ≡ prefix ++ others
  pub reading : IsBalancedReading prefix (spelled prefix)
  pub ended : EndsLine prefix
  pub none : EndsNoLine 0 others

-- the text is refused where the machine has come, and may not go on
refused : (text characters tail before later : List ℕ) (u : FieldScanned) (prefix : List Piece) (fault : Fault) → Decodes text characters tail
    → before ++ later ≡ characters → RunsTo before u → ((c : ℕ) (after : List ℕ) → later ≡ c ∷ after → ¬ (IsLive (before ++ c ∷ [])))
    → HasPrefix u prefix → IsFaultAt fault.kind characters tail fault.offset → IsLineOf fault characters → IsLexedToFault text (lines_of prefix) fault
refused text characters tail before later u prefix fault decodes spell steps dead has place line = record {
  characters = characters;
  tail = tail;
  pieces = prefix;
  decodes = decodes;
  prefix = prefix_is before later characters u prefix has.others steps spell dead has.spell has.reading has.ended has.none;
  refused = lexical characters tail fault place line;
  cut = refl;
}

-- at a character
pub refused_at_character : (text characters tail before after : List ℕ) (c : ℕ) (u : FieldScanned) (prefix : List Piece) (fault : Fault)
    → Decodes text characters tail → before ++ c ∷ after ≡ characters → RunsTo before u → ¬ (IsLive (before ++ c ∷ [])) → HasPrefix u prefix
    → IsCharacterFault fault.kind characters fault.offset → IsLineOf fault characters → IsLexedToFault text (lines_of prefix) fault
refused_at_character text characters tail before after c u prefix fault decodes spell steps dead has is line =
    refused text characters tail before (c ∷ after) u prefix fault decodes spell steps (λ d ds same. let first : c ≡ d = cc in subst (λ (x : ℕ). ¬ (IsLive (before ++ x ∷ []))) first dead) has (at_character is) line

-- at its end
pub refused_at_end : (text characters : List ℕ) (u : FieldScanned) (prefix : List Piece) (fault : Fault) → Decodes text characters []
    → RunsTo characters u → HasPrefix u prefix → IsEndFault fault.kind characters [] fault.offset → IsLineOf fault characters
    → IsLexedToFault text (lines_of prefix) fault
refused_at_end text characters u prefix fault decodes steps has is line =
    refused text characters [] characters [] u prefix fault decodes (append-nil characters) steps (λ c after same. absurd (cc)) has (at_end is) line

-- at bytes that begin no character
pub refused_at_bytes : (text characters : List ℕ) (d : ℕ) (ds : List ℕ) (u : FieldScanned) (prefix : List Piece) (fault : Fault)
    → Decodes text characters (d ∷ ds) → RunsTo characters u → HasPrefix u prefix → fault.kind ≡ faults.BadUtf8 → fault.offset ≡ byte_len characters
    → IsLineOf fault characters → IsLexedToFault text (lines_of prefix) fault
refused_at_bytes text characters d ds u prefix fault decodes steps has kind place line =
    refused text characters (d ∷ ds) characters [] u prefix fault decodes (append-nil characters) steps (λ c after same. absurd (cc)) has
    (at_bytes (record { is = kind; bad = λ (h : d ∷ ds ≡ []). cc; live = runs_live characters u steps; place = place })) line
