-- The bytes of a text that are known: those of the lines given, characters after them, and a part of a character.
use Rattle.py_lines.proofs.Prelude.{◌≡◌, ℕ, ◌+◌, ◌<◌, true, List, [], ◌∷◌, ◌++◌, length, take, drop, refl, sym, ap, ◌∙◌, subst, ⊎_elim, append_assoc, arith, length-append, encode_utf8_all, all_scalars, StartsWithNoChar, drop-drop, drop-take, length-take, take-append-drop, take-take, encodes-append, take-add, take-append_seam, drop-append_seam, Piece, spelled, IsBalanced, Decodes, EndsLine, IsBalancedReading, AreFirstLines, first_mode}
use Rattle.py_lines.specs.Fields.{fielded, AreReadBefore, IsShallow}
use Rattle.py_lines.specs.LogicalLine.{LogicalLine, cut, line_of, lines_of, byte_len, line_ends}
use Rattle.py_lines.specs.ScannerState.{GoesOnWith}
use Rattle.py_lines.specs.Private.FieldMachine.{FieldScanned}
use Rattle.py_lines.specs.Private.LineScan.{line_begun}
use Rattle.py_lines.specs.Private.Scan.{Goes}
use Rattle.py_lines.proofs.Text.Utf8Prefixes.{goes_on, all_scalars-parts, all_scalars-append}
use Rattle.py_lines.proofs.LogicalLines.NextLine.{lines_of-push}
use Rattle.py_lines.proofs.Fields.OneReading.{read_before}
use Rattle.py_lines.proofs.Lexings.LineEnds.{ended_reading, none_both}
use Rattle.py_lines.proofs.LineScan.TextSteps.{Base, base_of}
use Rattle.py_lines.proofs.Readers.LineFaults.{Joined, joined}

-- some of the bytes that the text goes on with
pub goes_with_first : (text : List ℕ) (place : ℕ) (first later : List ℕ) → GoesOnWith text place (first ++ later) → GoesOnWith text place first
goes_with_first text place first later goes =
    rw (← take-take (length first) (length (first ++ later)) (drop place text) (omega (arith, length-append first later)), goes) (take-append_seam first later)

-- what it goes on with after the first of these bytes
pub goes_after : (text : List ℕ) (place : ℕ) (first later : List ℕ) → GoesOnWith text place (first ++ later) → GoesOnWith text (place + length first) later
goes_after text place first later goes =
    rw (← drop-drop (length first) place text, ← drop-take (length first) (length later) (drop place text), ← length-append first later, goes)
    (drop-append_seam first later)

-- bytes that the text goes on with, and then more
pub goes_joined : (text : List ℕ) (place : ℕ) (a b : List ℕ) → GoesOnWith text place a → GoesOnWith text (place + length a) b → GoesOnWith text place (a ++ b)
goes_joined text place a b one two = rw (length-append a b, take-add (length a) (length b) (drop place text), one, drop-drop (length a) place text, two)

-- the same from the same place on
pub goes_at : (text : List ℕ) {place here : ℕ} {held items : List ℕ} → here ≡ place → items ≡ held → GoesOnWith text place held → GoesOnWith text here items
goes_at text at is goes = rw (at, is) goes

pub first_at : {text : List ℕ} {lines : List LogicalLine} {place here line number : ℕ} → here ≡ place → number ≡ line → AreFirstLines text place line lines → AreFirstLines text here number lines
first_at at is first = rw (at, is) first

-- the lines given, the characters read after them and the bytes left, which are all that is known of the text
pub record IsKnown (text : List ℕ) (place line : ℕ) (lines : List LogicalLine) (read rest : List ℕ) : Type 0 where
  pub base : List Piece
  pub more : List ℕ
  pub fit : AreReadBefore base (read ++ more)
  pub balanced : IsBalanced base
  pub shallow : IsShallow 0 base
  pub ended : EndsLine base
  pub here : place ≡ byte_len (spelled base)
  pub number : line ≡ 1 + line_ends (spelled base)
  pub cut : lines ≡ lines_of base
  pub scalars : all_scalars (spelled base ++ read) ≡ true
  pub known : take (place + length (encode_utf8_all read ++ rest)) text ≡ encode_utf8_all (spelled base ++ read) ++ rest
  pub tail : List ℕ
  pub decodes : Decodes text (spelled base ++ (read ++ more)) tail
  pub beyond : List ℕ
  pub follow : encode_utf8_all more ++ tail ≡ rest ++ beyond

-- what comes after the lines given
left_after : {text : List ℕ} {place line : ℕ} {lines : List LogicalLine} (first : AreFirstLines text place line lines) → text ≡ encode_utf8_all (spelled first.pieces) ++ (encode_utf8_all first.rest ++ first.tail)
left_after first =
    sym first.decodes.spell ∙ ap (λ t. encode_utf8_all t ++ first.tail) (sym first.spell) ∙ ap (λ t. t ++ first.tail) (encodes-append (spelled first.pieces) first.rest)
    ∙ append_assoc (encode_utf8_all (spelled first.pieces)) (encode_utf8_all first.rest) first.tail

from_there : {text : List ℕ} {place line : ℕ} {lines : List LogicalLine} (first : AreFirstLines text place line lines) → drop place text ≡ encode_utf8_all first.rest ++ first.tail
from_there {text} first = ap (λ (n : ℕ). drop n text) first.here ∙ ap (drop (byte_len (spelled first.pieces))) (left_after first) ∙ drop-append_seam (encode_utf8_all (spelled first.pieces)) (encode_utf8_all first.rest ++ first.tail)

-- the bytes of the lines given
pub given_bytes : {text : List ℕ} {place line : ℕ} {lines : List LogicalLine} (first : AreFirstLines text place line lines) → take place text ≡ encode_utf8_all (spelled first.pieces)
given_bytes {text} first = ap (λ (n : ℕ). take n text) first.here ∙ ap (take (byte_len (spelled first.pieces))) (left_after first) ∙ take-append_seam (encode_utf8_all (spelled first.pieces)) (encode_utf8_all first.rest ++ first.tail)

-- where bytes follow them they end a line
pub is_known : (text : List ℕ) (place line : ℕ) (lines : List LogicalLine) (read rest : List ℕ) → AreFirstLines text place line lines → all_scalars read ≡ true → GoesOnWith text place (encode_utf8_all read ++ rest) → 0 < length (encode_utf8_all read ++ rest) → IsKnown text place line lines read rest
is_known text place line lines read rest first fine goes some =
    let base = first.pieces in let held = encode_utf8_all read ++ rest in let left = encode_utf8_all first.rest ++ first.tail in
    let taken : take (length held) left ≡ held = ap (take (length held)) (sym (from_there first)) ∙ goes in
    let split : encode_utf8_all read ++ (rest ++ drop (length held) left) ≡ left = sym (append_assoc (encode_utf8_all read) rest (drop (length held) left)) ∙ ap (λ t. t ++ drop (length held) left) (sym taken) ∙ take-append-drop (length held) left in
    let parts = all_scalars-parts (spelled base) first.rest (ap all_scalars first.spell ∙ first.decodes.are) in
    let on = goes_on read (rest ++ drop (length held) left) first.rest first.tail fine parts.1 first.decodes.bad split in record {
      base = base;
      more = on.rest;
      fit = subst (AreReadBefore base) on.split first.fit;
      balanced = first.balanced;
      shallow = first.shallow;
      ended = ⊎_elim (λ good. good.0) (λ nothing. absurd (
          let none = none_both first.rest first.tail nothing in
          omega (arith, some, length-append (encode_utf8_all first.rest) first.tail, ap byte_len none.0, ap length none.1, ap length taken, length-take (length held) left))) first.ended;
      here = first.here;
      number = first.number;
      cut = first.cut;
      scalars = all_scalars-append (spelled base) read parts.0 fine;
      known = take-add place (length held) text ∙ ap (λ t. t ++ take (length held) (drop place text)) (given_bytes first) ∙ ap (λ t. encode_utf8_all (spelled base) ++ t) goes ∙ sym (append_assoc (encode_utf8_all (spelled base)) (encode_utf8_all read) rest) ∙ ap (λ t. t ++ rest) (sym (encodes-append (spelled base) read));
      tail = first.tail;
      decodes = subst (λ t. Decodes text t first.tail) (sym first.spell ∙ ap (λ t. spelled base ++ t) on.split) first.decodes;
      beyond = drop (length held) left;
      follow = on.left;
    }

module _ (text : List ℕ) (place line : ℕ) (lines : List LogicalLine) (read rest : List ℕ) (k : IsKnown text place line lines read rest) where
  abbrev pub bytes : List ℕ
  bytes = take (place + length (encode_utf8_all read ++ rest)) text

  pub decodes : StartsWithNoChar rest → Decodes bytes (spelled k.base ++ read) rest
  decodes bad = record { are = k.scalars; spell = sym k.known; bad = bad }

  pub reading : IsBalancedReading k.base (spelled k.base)
  reading = ended_reading k.base (read ++ k.more) k.fit k.balanced k.shallow

  pub stands : Base place k.base
  stands = base_of place k.base (read ++ k.more) k.fit k.ended k.here

  -- with a line more
  pub lines_more : (u : List Piece) (rest : List ℕ) → cut 0 u ≡ u ∷ [] → AreReadBefore (k.base ++ u) rest → lines ++ line_of place line u ∷ [] ≡ lines_of (k.base ++ u)
  lines_more u rest one fit =
      ap (λ l. l ++ line_of place line u ∷ []) k.cut ∙ ap (λ (n : ℕ). lines_of k.base ++ line_of n line u ∷ []) k.here ∙ ap (λ (n : ℕ). lines_of k.base ++ line_of (byte_len (spelled k.base)) n u ∷ []) k.number
      ∙ sym (lines_of-push k.base u rest k.ended one fit)

  -- the machine over the whole text so far
  pub joins : (t : FieldScanned) → Goes (line_begun (first_mode place)) read t → Joined k.base read t k.more
  joins t goes = joined place k.base k.more k.balanced k.shallow read t k.fit stands goes

-- the lines given are read before what was read, whatever follows that
pub read_then : (base : List Piece) (read more others : List ℕ) → (read ≡ [] → ⊥) → AreReadBefore base (read ++ more) → AreReadBefore base (read ++ others)
read_then base [] more others some fit = absurd (some refl)
read_then base (c ∷ cs) more others some fit = read_before fielded base c (cs ++ more) (cs ++ others) fit
