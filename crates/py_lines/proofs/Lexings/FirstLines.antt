-- The first lines of a text, which a reader has given, and those that its known bytes settle: they begin the lexing of the whole text, and
-- of every text that goes on. Of two lists of them, the one of no more bytes begins the other; settled lines are among first lines.
use Rattle.py_lines.proofs.Prelude.{◌≡◌, ℕ, ◌+◌, ◌≤◌, Bool, true, false, List, [], ◌∷◌, ◌++◌, ◌&&◌, inl, inr, length, refl, sym, ap, ◌∙◌, subst, ⊎_elim, append_assoc, append-nil, length-append, arith, Option, None, Some, ◌⊎◌, add-zero, ◌<◌, take, drop, encode_utf8_all, StartsWithNoChar, all_scalars, both_ways, false_from_ne_true, append_cancel_left, nil_from_length, take-append-drop, length-take, encodes-append, length-le-encodes, encode_ascii, is_return, is_line_feed, begins, line_end, Piece, ends, spelled, Class, depth_through, Fault, EndsLine, IsBalancedReading, Decodes, AreFirstLines, piece, byte_len-append}
use Rattle.py_lines.specs.PieceGrammar.{IsLineEnd}
use Rattle.py_lines.specs.Balance as balance
use Rattle.py_lines.specs.Fields.{InClass, fielded, AreReadBefore, Fields}
use Rattle.py_lines.specs.Settled.{EndsForGood, IsSettledPrefix, IsSettled}
use Rattle.py_lines.specs.LogicalLine.{LogicalLine, byte_len, line_ends, lines_of}
use Rattle.py_lines.specs.Lexed.{IsLexed, BeginsLexing}
use Rattle.py_lines.specs.Reader.{Reader, HasGiven, standing_at}
use Rattle.py_lines.proofs.Text.Utf8Prefixes.{IsContinued, goes_on, all_scalars-parts}
use Rattle.py_lines.proofs.Text.Decoding.{decoding, decoded}
use Rattle.py_lines.proofs.Pieces.PieceLists.{spelled-append, spelled-push}
use Rattle.py_lines.proofs.Pieces.ShallowPieces.{IsShallow-parts}
use Rattle.py_lines.proofs.FieldSoundness.OpenLists.{balanced_first}
use Rattle.py_lines.proofs.LogicalLines.NextLine.{lines_of-more, line_ends-spelled}
use Rattle.py_lines.proofs.Fields.Prefixes.{Compared}
use Rattle.py_lines.proofs.Fields.OneReading.{compare_pieces, read_before, ends_there, full}
use Rattle.py_lines.proofs.FieldSoundness.WholeTexts.{shallow-push}
use Rattle.py_lines.proofs.Lexings.LineEnds.{ends-append, ends-last, feed_unreturned, returned_text, fed_line, line_end_of, read_on, none_both, ended_reading}
use Rattle.py_lines.proofs.Text.Splits.{Either, either}
use Rattle.py_lines.proofs.Text.CharacterTests.{feed_is}
use Rattle.py_lines.proofs.LogicalLines.Cuts.{line_ends-pieces}
use Rattle.py_lines.proofs.Lexings.Prefixes.{some_lexing_of}

-- the same pieces, with LF after the CR at their end, are a reading of their own
fed_reading : (body : List Piece) (last : Piece) → last.text ≡ 13 ∷ [] → depth_through 0 body ≡ 0 → IsBalancedReading (body ++ last ∷ []) (spelled (body ++ last ∷ [])) → IsBalancedReading (body ++ piece line_end (13 ∷ 10 ∷ []) ∷ []) (spelled (body ++ piece line_end (13 ∷ 10 ∷ []) ∷ []))
fed_reading body last text deep reading =
    let all = body ++ last ∷ [] in let other = piece line_end (13 ∷ 10 ∷ []) in
    let level = balanced_first body (last ∷ []) reading.balanced deep in record {
      reads = record { spell = refl; fit = fed_line fielded body last text reading.reads.fit };
      balanced = balance.both (body ++ other ∷ []) body (other ∷ []) refl level (balance.one (other ∷ []) other refl refl);
      shallow = shallow-push 0 body other (IsShallow-parts 0 body (last ∷ []) reading.shallow).0 (λ opens. absurd (both_ways _ refl opens)) (λ at. absurd (cc));
    }

-- the text goes on: what follows the settled pieces doesn't begin with LF where they end in CR
module _ (characters tail more : List ℕ) (pieces : List Piece) (settled : IsSettledPrefix pieces characters tail) (fine : all_scalars settled.rest ≡ true) (bad : StartsWithNoChar tail) (after t : List ℕ) (are : all_scalars after ≡ true) (none : StartsWithNoChar t) (same : encode_utf8_all after ++ t ≡ (encode_utf8_all settled.rest ++ tail) ++ more) where
  module _ (body : List Piece) (last : Piece) (is : pieces ≡ body ++ last ∷ []) (class : last.class ≡ line_end) where
    own_reading : IsBalancedReading (body ++ last ∷ []) (spelled (body ++ last ∷ []))
    own_reading = subst (λ l. IsBalancedReading l (spelled l)) is settled.reading

    end : IsLineEnd last.text
    end = line_end_of fielded body last [] class own_reading.reads.fit

    module _ (deep : depth_through 0 body ≡ 0) (cr : ends is_return last.text ≡ true) (later : List ℕ) (feeds : after ≡ 10 ∷ later) where
      -- a longer prefix would end a line, if LF were known
      not_known : (cs : List ℕ) → settled.rest ≡ 10 ∷ cs → ⊥
      not_known cs left = let others = body ++ piece line_end (13 ∷ 10 ∷ []) ∷ [] in let text = returned_text last.text end cr in
          let whole : spelled pieces ≡ spelled body ++ 13 ∷ [] = ap spelled is ∙ spelled-push body last.class last.text ∙ ap (λ x. spelled body ++ x) text in
          let longer : spelled others ≡ spelled pieces ++ 10 ∷ [] = spelled-push body line_end (13 ∷ 10 ∷ []) ∙ sym (append_assoc (spelled body) (13 ∷ []) (10 ∷ [])) ∙ ap (λ x. x ++ 10 ∷ []) (sym whole) in
          let spell : spelled others ++ cs ≡ characters = ap (λ x. x ++ cs) longer ∙ append_assoc (spelled pieces) (10 ∷ []) cs ∙ ap (λ x. spelled pieces ++ x) (sym left) ∙ settled.spell in
          let unreturned : ends is_return (spelled others) ≡ false = ap (ends is_return) longer ∙ ends-append is_return (spelled pieces) 10 [] ∙ feed_unreturned in
          let bound = settled.longest others cs spell (fed_reading body last text deep own_reading) (inr (body, piece line_end (13 ∷ 10 ∷ []), refl, refl, deep), λ nothing. unreturned) in
          omega (arith, bound, ap length longer, length-append (spelled pieces) (10 ∷ []))

      -- nor does it stand in the bytes that begin no character, or after all that are known
      not_next : (d : List ℕ) → d ≡ tail → settled.rest ≡ [] → ⊥
      not_next [] known left = both_ways _ (settled.ended.1 (ap (λ x. x ++ tail) left ∙ sym known)) (ap (λ (l : List Piece). ends is_return (spelled l)) is ∙ ends-last is_return body last end ∙ cr)
      not_next (d ∷ ds) known left = let one = encode_ascii 10 (omega arith) in
          let bytes : ((10 ∷ []) ++ encode_utf8_all later) ++ t ≡ (d ∷ ds) ++ more = ap (λ x. (x ++ encode_utf8_all later) ++ t) (sym one) ∙ ap (λ x. encode_utf8_all x ++ t) (sym feeds) ∙ same ∙ ap (λ x. (encode_utf8_all x ++ tail) ++ more) left ∙ ap (λ x. x ++ more) (sym known) in
          let first : d ≡ 10 = cc in bad 10 ds refl (sym known ∙ ap (λ (n : ℕ). n ∷ ds) first ∙ ap (λ x. x ++ ds) (sym one))

      never_fed : ⊥
      never_fed = by settled.rest refl where
        on : IsContinued settled.rest (tail ++ more) after t
        on = goes_on settled.rest (tail ++ more) after t fine are none (sym (append_assoc (encode_utf8_all settled.rest) tail more) ∙ sym same)

        by : (left : List ℕ) → settled.rest ≡ left → ⊥
        by [] left = not_next tail refl left
        by (c ∷ cs) left = let first : 10 ∷ later ≡ c ∷ (cs ++ on.rest) = sym feeds ∙ on.split ∙ ap (λ x. x ++ on.rest) left in let ten : c ≡ 10 = cc in
            not_known cs (left ∙ ap (λ (n : ℕ). n ∷ cs) ten)

  settled_fits : AreReadBefore pieces after
  settled_fits = by_end settled.ended.0 where
    by_end : EndsLine pieces → AreReadBefore pieces after
    by_end (inl empty) = subst (λ l. AreReadBefore l after) (sym empty) tt
    by_end (inr (body, last, is, class, deep)) =
        subst (λ l. AreReadBefore l after) (sym is) (read_on fielded body last [] after class (own_reading body last is class).reads.fit (apart (ends is_return last.text) refl after refl))
      where
        apart : (cr : Bool) → ends is_return last.text ≡ cr → (all : List ℕ) → after ≡ all → cr && begins is_line_feed all ≡ false
        apart false returned all begin = refl
        apart true returned [] begin = refl
        apart true returned (c ∷ cs) begin = false_from_ne_true _ (λ feeds. never_fed body last is class deep returned cs (begin ∙ ap (λ (n : ℕ). n ∷ cs) (feed_is c feeds)))

-- the bytes of the settled pieces, and those after them
spelled_first : (text more : List ℕ) (pieces : List Piece) (rest characters tail : List ℕ) → spelled pieces ++ rest ≡ characters → encode_utf8_all characters ++ tail ≡ text → encode_utf8_all (spelled pieces) ++ ((encode_utf8_all rest ++ tail) ++ more) ≡ text ++ more
spelled_first text more pieces rest characters tail spell bytes = sym (append_assoc (encode_utf8_all (spelled pieces)) (encode_utf8_all rest ++ tail) more)
    ∙ ap (λ x. x ++ more) (sym (append_assoc (encode_utf8_all (spelled pieces)) (encode_utf8_all rest) tail) ∙ ap (λ x. x ++ tail) (sym (encodes-append (spelled pieces) rest) ∙ ap encode_utf8_all spell) ∙ bytes)

-- pieces that end a line for good do so where the text goes on
still_ends : (pieces : List Piece) (rest tail more after t : List ℕ) → encode_utf8_all after ++ t ≡ (encode_utf8_all rest ++ tail) ++ more → EndsForGood pieces (rest ++ tail) → EndsForGood pieces (after ++ t)
still_ends pieces rest tail more after t same ended = (
  ended.0,
  λ none. let parts = none_both after t none in
      let bytes : length (encode_utf8_all rest) + length tail + length more ≡ 0 = omega (arith, ap length same, ap byte_len parts.0, ap length parts.1, length-append (encode_utf8_all after) t, length-append (encode_utf8_all rest ++ tail) more, length-append (encode_utf8_all rest) tail) in
      ended.1 (nil_from_length (rest ++ tail) (omega (arith, bytes, length-append rest tail, length-le-encodes rest))),
)

-- pieces that are read before what follows begin those that read more
begins_with : (pieces others : List Piece) (after rest : List ℕ) → AreReadBefore pieces after → IsBalancedReading pieces (spelled pieces) → IsBalancedReading others (spelled others) → spelled pieces ++ after ≡ spelled others ++ rest → length (spelled pieces) ≤ length (spelled others) → (more : List Piece) × (others ≡ pieces ++ more)
begins_with pieces others after rest fit reading read spell few = go (either (spelled pieces) after (spelled others) rest spell) where
  before_mid : (mid : List ℕ) → after ≡ mid ++ rest → AreReadBefore pieces mid
  before_mid [] is = reading.reads.fit
  before_mid (c ∷ cs) is = read_before fielded pieces c (cs ++ rest) cs (subst (AreReadBefore pieces) is fit)

  by : (mid : List ℕ) → spelled pieces ++ mid ≡ spelled others → Compared Piece pieces others → (more : List Piece) × (others ≡ pieces ++ more)
  by mid at compared = grind (arith, append-nil, nil_from_length, length-append, spelled-append, ends_there)

  go : Either (spelled pieces) (spelled others) rest → (more : List Piece) × (others ≡ pieces ++ more)
  go (Either.shorter mid at) =
      let is = append_cancel_left (spelled pieces) after (mid ++ rest) (spell ∙ ap (λ t. t ++ rest) at ∙ append_assoc (spelled pieces) mid rest) in
      by mid (sym at) (compare_pieces pieces others mid [] (before_mid mid is) read.reads.fit (sym at ∙ sym (append-nil (spelled others))))
  go (Either.longer c k later at left) = absurd (omega (arith, few, ap length at, length-append (spelled others) (c ∷ k)))

-- settled lines are the first of every text that goes on
pub settled_first : (text more : List ℕ) (lines : List LogicalLine) (s : IsSettled text lines) → (f : AreFirstLines (text ++ more) (byte_len (spelled s.pieces)) (1 + line_ends (spelled s.pieces)) lines) × EndsForGood f.pieces (f.rest ++ f.tail)
settled_first text more lines s =
    let prefix = s.prefix in let whole = decoding (text ++ more) in
    let parts = all_scalars-parts (spelled s.pieces) prefix.rest (ap all_scalars prefix.spell ∙ s.decodes.are) in
    let on = goes_on (spelled s.pieces) ((encode_utf8_all prefix.rest ++ s.tail) ++ more) whole.characters whole.tail parts.0 whole.decodes.are whole.decodes.bad (spelled_first text more s.pieces prefix.rest s.characters s.tail prefix.spell s.decodes.spell ∙ sym whole.decodes.spell) in
    let good = still_ends s.pieces prefix.rest s.tail more on.rest whole.tail on.left prefix.ended in (
      record {
        characters = whole.characters;
        tail = whole.tail;
        pieces = s.pieces;
        rest = on.rest;
        decodes = whole.decodes;
        spell = sym on.split;
        fit = settled_fits s.characters s.tail more s.pieces prefix parts.1 s.decodes.bad on.rest whole.tail (all_scalars-parts (spelled s.pieces) on.rest (ap all_scalars (sym on.split) ∙ whole.decodes.are)).1 whole.decodes.bad on.left;
        balanced = prefix.reading.balanced;
        shallow = prefix.reading.shallow;
        ended = inl good;
        here = refl;
        number = refl;
        cut = s.cut;
      },
      good,
    )

-- the line ends of pieces and of a prefix of what follows
pub base_lines : (base : List Piece) (prefix rest : List ℕ) → AreReadBefore base (prefix ++ rest) → line_ends (spelled base ++ prefix) ≡ line_ends (spelled base) + line_ends prefix
base_lines base [] rest fit = ap line_ends (append-nil (spelled base)) ∙ sym (add-zero (line_ends (spelled base)))
base_lines base (c ∷ cs) rest fit =
    let near = read_before fielded base c (cs ++ rest) cs fit in
    line_ends-pieces base (c ∷ cs) near ∙ ap (λ (n : ℕ). n + line_ends (c ∷ cs)) (sym (line_ends-spelled base (c ∷ cs) near))

-- pieces that end a line do so for good, or the text ends there
pub ends_for_good : (pieces : List Piece) (left : List ℕ) → EndsLine pieces → EndsForGood pieces left ⊎ (left ≡ [])
ends_for_good pieces [] ended = inr refl
ends_for_good pieces (c ∷ cs) ended = inl (ended, λ none. absurd (cc))

-- first lines are read by themselves
pub first_reading : (text : List ℕ) (place line : ℕ) (lines : List LogicalLine) (f : AreFirstLines text place line lines) → IsBalancedReading f.pieces (spelled f.pieces)
first_reading text place line lines f = ended_reading f.pieces f.rest f.fit f.balanced f.shallow

-- where nothing follows them, or they reach to the text's end, they are all its lines
all_before : (text : List ℕ) (place line : ℕ) (lines : List LogicalLine) (f : AreFirstLines text place line lines) → f.rest ++ f.tail ≡ [] → IsLexed text lines None
all_before text place line lines f none = grind (arith, none_both, append-nil, first_reading)

pub all_first : (text : List ℕ) (place line : ℕ) (lines : List LogicalLine) → AreFirstLines text place line lines → place ≡ length text → IsLexed text lines None
all_first text place line lines f ends = all_before text place line lines f (nil_from_length (f.rest ++ f.tail)
    (omega (arith, f.here, ends, ap byte_len f.spell, byte_len-append (spelled f.pieces) f.rest, ap length f.decodes.spell, length-append (encode_utf8_all f.characters) f.tail, length-append f.rest f.tail, length-le-encodes f.rest)))

-- of two prefixes of a text, the one of no more bytes has no more characters
fewer : (xs ys zs ws : List ℕ) → xs ++ ys ≡ zs ++ ws → byte_len xs ≤ byte_len zs → length xs ≤ length zs
fewer xs ys zs ws same few = grind (arith, either, length-append, byte_len-append, length-le-encodes)

-- lines that end a line begin all lines of their text that go as far
module _ (text : List ℕ) (place line : ℕ) (lines : List LogicalLine) (f : AreFirstLines text place line lines) (ended : EndsLine f.pieces) where
  reading : IsBalancedReading f.pieces (spelled f.pieces)
  reading = first_reading text place line lines f

  begins_pieces : (characters tail : List ℕ) (others : List Piece) (rest : List ℕ) (all : List LogicalLine) → Decodes text characters tail → spelled others ++ rest ≡ characters → IsBalancedReading others (spelled others) → all ≡ lines_of others → (spelled f.pieces ++ f.rest ≡ characters → f.tail ≡ tail → length (spelled f.pieces) ≤ length (spelled others)) → (more : List LogicalLine) × (all ≡ lines ++ more)
  begins_pieces characters tail others rest all decodes spell read cut bound = let same = decoded text f.characters characters f.tail tail f.decodes decodes in
      let begun = begins_with f.pieces others f.rest rest f.fit reading read (f.spell ∙ same.0 ∙ sym spell) (bound (f.spell ∙ same.0) same.1) in
      let first = lines_of-more f.pieces begun.0 ended in (first.0, cut ∙ ap lines_of begun.1 ∙ first.1 ∙ ap (λ l. l ++ first.0) (sym f.cut))

  begins_so : (all : List LogicalLine) (end : Option Fault) → IsLexed text all end → (more : List LogicalLine) × (all ≡ lines ++ more)
  begins_so all None lexed = let whole : spelled lexed.pieces ≡ lexed.characters = lexed.reading.reads.spell in
      begins_pieces lexed.characters [] lexed.pieces [] all lexed.decodes (append-nil (spelled lexed.pieces) ∙ whole) (subst (IsBalancedReading lexed.pieces) (sym whole) lexed.reading) lexed.cut
      (λ spell same. omega (arith, ap length (spell ∙ sym whole), length-append (spelled f.pieces) f.rest))
  begins_so all (Some fault) lexed = begins_pieces lexed.characters lexed.tail lexed.pieces lexed.prefix.rest all lexed.decodes lexed.prefix.spell lexed.prefix.reading lexed.cut (λ spell same. lexed.prefix.longest f.pieces f.rest spell reading ended)

  pub begins_settled : EndsForGood f.pieces (f.rest ++ f.tail) → (all : List LogicalLine) → IsSettled text all → (more : List LogicalLine) × (all ≡ lines ++ more)
  begins_settled good all s = begins_pieces s.characters s.tail s.pieces s.prefix.rest all s.decodes s.prefix.spell s.prefix.reading s.cut (λ spell same. s.prefix.longest f.pieces f.rest spell reading (subst (λ t. EndsForGood f.pieces (f.rest ++ t)) same good))

  pub begins_first : (here number : ℕ) (all : List LogicalLine) → AreFirstLines text here number all → place ≤ here → (more : List LogicalLine) × (all ≡ lines ++ more)
  begins_first here number all g within = begins_pieces g.characters g.tail g.pieces g.rest all g.decodes g.spell (first_reading text here number all g) g.cut (λ spell same. fewer (spelled f.pieces) f.rest (spelled g.pieces) g.rest (spell ∙ sym g.spell) (omega (arith, f.here, g.here, within)))

  begins_lexing : BeginsLexing text lines
  begins_lexing = let all = some_lexing_of text in let first = begins_so all.0 all.1 all.2 in
      record { more = first.0; end = all.1; lexed = subst (λ l. IsLexed text l all.1) first.1 all.2 }

-- lines that a reader has given begin the lexing of its text
pub given_begin : (reader : Reader) (lines : List LogicalLine) → HasGiven reader lines → BeginsLexing reader.text lines
given_begin reader lines given = let f = given.first in ⊎_elim (λ ended. begins_lexing reader.text reader.place reader.line lines f ended.0)
    (λ none. let lexed = all_before reader.text reader.place reader.line lines f none in
    record { more = []; end = None; lexed = subst (λ l. IsLexed reader.text l None) (sym (append-nil lines)) lexed }) f.ended

-- a piece has a character
pub piece_some : (class : Class) (text : List ℕ) → InClass class text → 0 < length text
piece_some class [] is = absurd (full Fields class [] is refl)
piece_some class (c ∷ cs) is = omega arith

-- settled lines begin the lexing of every text that goes on
pub settled_begin : (text more : List ℕ) (lines : List LogicalLine) → IsSettled text lines → BeginsLexing (text ++ more) lines
settled_begin text more lines settled = given_begin (standing_at (text ++ more) _ _) lines (record { first = (settled_first text more lines settled).0; no_fault = refl })

-- and those that more bytes settle
pub settled_before_settled : (text more : List ℕ) (lines others : List LogicalLine) → IsSettled text lines → IsSettled (text ++ more) others → (later : List LogicalLine) × (others ≡ lines ++ later)
settled_before_settled text more lines others first second =
    let f = settled_first text more lines first in
    begins_settled (text ++ more) _ _ lines f.0 f.1.0 f.1 others second

-- the lines that bytes settle begin the first lines up to the place where these bytes end
pub settled_begin_first : (text : List ℕ) (place line : ℕ) (lines others : List LogicalLine) → AreFirstLines text place line lines → IsSettled (take place text) others → (more : List LogicalLine) × (lines ≡ others ++ more)
settled_begin_first text place line lines others first s =
    let f = settled_first (take place text) (drop place text) others s in
    let within : byte_len (spelled s.pieces) ≤ place = omega (arith, ap byte_len s.prefix.spell, byte_len-append (spelled s.pieces) s.prefix.rest, ap length s.decodes.spell, length-append (encode_utf8_all s.characters) s.tail, length-take place text) in
    begins_first (take place text ++ drop place text) _ _ others f.0 f.1.0 place line lines (subst (λ t. AreFirstLines t place line lines) (sym (take-append-drop place text)) first) within
