-- A string of ASCII without fields that stands on one line, and is passed at once, is the first piece of the bytes.
use Rattle.py_lines.proofs.Prelude.{◌≡◌, ℕ, ◌+◌, ◌-◌, ◌≤◌, inl, inr, true, false, List, [], ◌∷◌, ◌++◌, length, drop, refl, sym, ap, ◌∙◌, subst, append_assoc, append-nil, arith, length-append, take, encode_utf8_all, list_all, and_parts, nat_tests, list_all-append, drop-append_seam, take-add, take-append_seam, length-take, same_from_push, take-append-drop, encodes-append, is_break, is_quote, string, Piece, spelled, begins, byte_len, line_ends, rest_is, rest_of, piece}
use Rattle.py_lines.specs.PieceGrammar.{IsNoneOr, IsPrefix}
use Rattle.py_lines.specs.FieldStrings.{is_field_prefix}
use Rattle.py_lines.specs.Fields.{InClass, MayPrecede, fielded}
use Rattle.py_lines.specs.Private.Machine.{IsFull, first_spelling, is_field_spelling, spelling_on}
use Rattle.py_lines.specs.Private.Run.{IsShortStringAt, IsShortText, IsWholePlainString, is_comment_byte, is_line_byte, word_spelling}
use Rattle.py_lines.specs.Private.LineTokens.{BeginWithPiece, IsFirstPiece, is_prefix_word, string_piece}
use Rattle.py_lines.proofs.Text.Utf8Prefixes.{prefix_chars}
use Rattle.py_lines.proofs.Fields.OneReading.{compare_pieces}
use Rattle.py_lines.proofs.Fields.Prefixes.{Compared, first_quote, longer, same, shorter}
use Rattle.py_lines.proofs.FieldSoundness.BodyMoves.{quoted_prefix}
use Rattle.py_lines.proofs.Machine.Spellings.{other_begins, prefix_spelling, word_tells}
use Rattle.py_lines.proofs.LineScan.AsciiRuns.{all_also, is_low, low_encodes, low_is, quote_ascii}
use Rattle.py_lines.proofs.LineScan.PlainStrings.{text_run}
use Rattle.py_lines.proofs.Text.Utf8Shapes.{one}
use Rattle.py_lines.proofs.LineTokens.FirstPieces.{all_other, begins_at, taken}
use Rattle.py_lines.proofs.LineTokens.FirstCharacters.{prefix_is_word}
use Rattle.py_lines.proofs.Text.LineEnds.{unbroken}
use Rattle.py_lines.proofs.WordBreaks.{word-unbroken}
use Rattle.py_lines.proofs.LineTokens.Spellings.{fielded_spelling, prefix_low}

-- a word that is the prefix of a string without fields, or nothing
record IsPlainPrefix (word : List ℕ) : Type 0 where
  begun : IsPrefix word
  no_field : is_field_prefix word ≡ false
  any : IsNoneOr fielded.is_prefix word
  low : encode_utf8_all word ≡ word
  unbroken : list_all is_comment_byte word ≡ true

plain_prefix : (word : List ℕ) → is_prefix_word word ≡ true → is_field_spelling (word_spelling word) ≡ false → IsPlainPrefix word
plain_prefix [] is plain = record { begun = inl refl; no_field = refl; any = inl refl; low = refl; unbroken = refl }
plain_prefix (c ∷ cs) is plain = let begins = fielded_spelling c cs ∙ is in record {
  begun = inr (prefix_spelling c cs ∙ sym (other_begins (spelling_on (first_spelling c) cs) plain) ∙ is);
  no_field = (word_tells c cs).0 ∙ plain;
  any = inr begins;
  low = (low_encodes is_low (c ∷ cs) low_is (prefix_low (c ∷ cs) is)).0;
  unbroken =
      let (first, others, shape, starts, low, run) = prefix_is_word (c ∷ cs) begins in
      all_other (c ∷ cs) (word-unbroken (c ∷ cs) (first, others, shape, starts, run));
}

-- of two lists that are compared, with one piece in the first, the first pieces are the same
first_same : (w p : Piece) (others : List Piece) → Compared Piece (w ∷ []) (p ∷ others) → w ≡ p
first_same w p others (same is) = cc
first_same w p others (longer y ys is) = cc
first_same w p others (shorter x xs is) = cc

low_quote : (q : ℕ) (text : List ℕ) → is_quote q ≡ true → encode_utf8_all (q ∷ text) ≡ q ∷ encode_utf8_all text
low_quote q text is = ap (λ t. t ++ encode_utf8_all text) (one q (quote_ascii q is))

quote_unbroken : (q : ℕ) → is_quote q ≡ true → is_comment_byte q ≡ true
unfolding is_quote is_break
quote_unbroken q h = grind (arith, nat_tests)

-- a string that was passed after its prefix, or with none
module _ (word : List ℕ) (q : ℕ) (text : List ℕ) (w : IsPlainPrefix word) (quote : is_quote q ≡ true) (full : IsFull text)
    (short : IsShortText q text) where
  whole : List ℕ
  whole = word ++ (q ∷ (text ++ q ∷ []))

  low : encode_utf8_all whole ≡ whole
  unfolding whole
  low =
      let ascii = (low_encodes is_line_byte text (λ c h. low_is c (and_parts (is_low c) (is_comment_byte c) h).0) short.inside).0 in
      let last : encode_utf8_all (text ++ q ∷ []) ≡ text ++ q ∷ []
      = encodes-append text (q ∷ []) ∙ ap (λ t. t ++ encode_utf8_all (q ∷ [])) ascii
      ∙ ap (λ t. text ++ t) (low_quote q [] quote) in
      encodes-append word (q ∷ (text ++ q ∷ [])) ∙ ap (λ t. t ++ encode_utf8_all (q ∷ (text ++ q ∷ []))) w.low
      ∙ ap (λ t. word ++ t) (low_quote q (text ++ q ∷ []) quote ∙ ap (λ t. q ∷ t) last)

  in_class : InClass string whole
  unfolding whole
  in_class =
      let spell = ap (λ t. word ++ (q ∷ (t ++ q ∷ []))) (sym short.spell) in
      inl (inl (record { prefix = word; quote = q; items = short.items; spell = spell; begun = w.begun; opens = quote; each = short.each }, w.no_field))

  -- it isn't empty, so that no quote after it matters
  precedes : (rest : List ℕ) → MayPrecede string whole rest
  unfolding whole
  precedes rest prefix d is begun opens =
      let front = same_from_push (word ++ q ∷ text) (prefix ++ d ∷ []) q d
      (append_assoc word (q ∷ text) (q ∷ []) ∙ is ∙ sym (append_assoc prefix (d ∷ []) (d ∷ []))) in
      let none : text ≡ [] = cc ((first_quote word prefix text [] q d (quoted_prefix word w.any) (quoted_prefix prefix begun) quote opens front.0).1) in
      absurd (subst IsFull none full)

  is_first : (bytes after : List ℕ) (p : Piece) → whole ++ after ≡ bytes → BeginWithPiece bytes p → piece string whole ≡ p
  is_first bytes after p spell b =
      let (y, cut, spells) = prefix_chars whole (p.text ++ spelled b.others) after (b.text.spell ∙ sym (ap (λ t. t ++ after) low ∙ spell)) in
      let at : spelled (piece string whole ∷ []) ++ (y ++ b.text.after) ≡ spelled (p ∷ b.others) ++ b.text.after
      = ap (λ t. t ++ (y ++ b.text.after)) (append-nil whole) ∙ sym (append_assoc whole y b.text.after) ∙ ap (λ t. t ++ b.text.after) (sym cut) in
      first_same (piece string whole) p b.others (compare_pieces (piece string whole ∷ []) (p ∷ b.others) (y ++ b.text.after) b.text.after
      (in_class, precedes (y ++ b.text.after), refl, tt) b.text.fit at)

  size : length whole ≡ length word + (length text + 2)
  unfolding whole
  size = omega (arith, length-append word (q ∷ (text ++ q ∷ [])), length-append text (q ∷ []))

  -- nor ends a line in it
  string_first : (bytes after : List ℕ) (len : ℕ) → whole ++ after ≡ bytes → len ≡ length word + (length text + 2) → IsFirstPiece bytes (string_piece len 0)
  unfolding whole
  string_first bytes after len spell long p b =
      let is = is_first bytes after p spell b in
      let inside = all_also is_line_byte is_comment_byte (λ c h. (and_parts (is_low c) (is_comment_byte c) h).1) text short.inside in
      let one_line : 0 ≡ line_ends whole = unbroken whole (simp (list_all-append, w.unbroken, inside, quote_unbroken q quote)) in
      taken b string (sym (ap (λ (x : Piece). x.class) is)) refl
      (omega (arith, long, size, sym (ap (λ (x : Piece). byte_len x.text) is) ∙ ap length low)) (one_line ∙ ap (λ (x : Piece). line_ends x.text) is)

pub plain_taken : (bytes : List ℕ) (n len : ℕ) → begins is_quote (drop n bytes) ≡ true → is_prefix_word (take n bytes) ≡ true
    → is_field_spelling (word_spelling (take n bytes)) ≡ false → IsWholePlainString (rest_of bytes n) len → IsFirstPiece bytes (string_piece (n + len) 0)
unfolding whole
plain_taken bytes n len quotes prefix plain s =
    let word = take n bytes in
    string_first word s.q s.run (plain_prefix word prefix plain) s.quote s.full (text_run s.q s.run s.all) bytes s.after (n + len)
    (append_assoc word (s.q ∷ (s.run ++ s.q ∷ [])) s.after ∙ ap (λ t. word ++ (s.q ∷ t)) (append_assoc s.run (s.q ∷ []) s.after)
    ∙ ap (λ t. word ++ t) (s.spell ∙ rest_is bytes n) ∙ take-append-drop n bytes)
    (omega (arith, s.size, (begins_at is_quote bytes n quotes).0, length-take n bytes))

-- one without a prefix, with which so many of the bytes begin
pub short_taken : (bytes : List ℕ) (at end : ℕ) → IsShortStringAt bytes at end → (n : ℕ) → end - at ≤ n
    → IsFirstPiece (take n (drop at bytes)) (string_piece (end - at) 0)
unfolding whole
short_taken bytes at end s n room =
    let w = plain_prefix [] refl refl in
    let text : List ℕ = whole [] s.q s.text w s.quote s.full s.is in
    let long : length text ≡ end - at = omega (arith, size [] s.q s.text w s.quote s.full s.is, s.size) in
    let whole_spell : text ++ drop end bytes ≡ drop at bytes = ap (λ t. s.q ∷ t) (append_assoc s.text (s.q ∷ []) (drop end bytes)) ∙ s.spell in
    let cut : length text + (n - length text) ≡ n = omega (arith, long, room) in
    string_first [] s.q s.text w s.quote s.full s.is (take n (drop at bytes)) (take (n - length text) (drop end bytes)) (end - at)
    (sym (ap (λ (k : ℕ). take k (drop at bytes)) (sym cut) ∙ ap (take (length text + (n - length text))) (sym whole_spell)
    ∙ take-add (length text) (n - length text) (text ++ drop end bytes)
    ∙ (λ i. take-append_seam text (drop end bytes) i ++ take (n - length text) (drop-append_seam text (drop end bytes) i))))
    (omega (arith, s.size))
