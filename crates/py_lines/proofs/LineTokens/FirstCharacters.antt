-- What each class of pieces begins with, and what the first byte tells of the piece that bytes begin with, and of what follows it.
use Rattle.py_lines.proofs.Prelude.{◌≡◌, ℕ, ◌<◌, ◌⊎◌, inl, inr, true, false, List, [], ◌∷◌, ◌++◌, refl, sym, ap, ◌∙◌, subst, arith, ⊎_elim, ◌≤◌, ◌||◌, ◌&&◌, length, slice_index, list_all, and_parts, both_ways, false_from_ne_true, or_cases, or_left, or_right, cases_lt, encode_utf8, encode_utf8_all, nat_le, ◌==◌, nat_tests, byte_from_char, char_from_byte, encodes-append, length-encode, len_utf8_bounds, length-append, is_of_class}
use Rattle.unicode_ident.specs.Ident.{is_xid_start}
use Rattle.unicode_ident.proofs.IdentLemmas.{is_xid_start-is_xid_continue}
use Rattle.py_lines.specs.Character.{is_mark, is_space, is_word_character, is_word_start, is_quote, is_line_feed, is_return, is_hash, is_digit}
use Rattle.py_lines.specs.Piece.{Class, mark, space, word, string, operator, comment, join, line_end, is_mark_class, Piece, begins, begins_marked, spelled}
use Rattle.py_lines.specs.PieceGrammar.{joined, is_prefix, IsPrefix, IsNoneOr, feed, return_feed, return}
use Rattle.py_lines.specs.FieldStrings.{is_field_prefix, quotes_of}
use Rattle.py_lines.specs.Fields.{fielded, InClass, AreReadBefore}
use Rattle.py_lines.specs.Private.Mode as modes
use Rattle.py_lines.specs.Private.Machine.{Start, start_of, Start as starts}
use Rattle.py_lines.specs.declared.class.Class.{Class as ByteClass}
use Rattle.py_lines.specs.declared.class.Class.TheVariants as class
use Rattle.py_lines.specs.Private.Run.{is_ascii_word, is_wide_word}
use Rattle.py_lines.specs.Private.LineTokens.{BeginWithPiece}
use Rattle.py_lines.proofs.Text.CharacterTests.{operator_ascii, prefix_word, the_one}
use Rattle.py_lines.proofs.Machine.Starts.{start-mark, start-word, start-space, start-operator, start-feed, start-return, start-quote, start-hash, start-slash}
use Rattle.py_lines.proofs.Fields.Elsewhere.{quotes_begin}
use Rattle.py_lines.proofs.Fields.Prefixes.{field_letters}
use Rattle.py_lines.proofs.LineScan.AsciiRuns.{space_low, quote_ascii, word_byte_continues, is_low, low_is}
use Rattle.py_lines.proofs.LineScan.ClassStarts.{in_range, start_by, starts_by}
use Rattle.py_lines.proofs.FieldScans.Ends.{slash_only}
use Rattle.py_lines.proofs.LineTokens.Spellings.{fielded_spelling, prefix_low}

-- a string: its prefix, if it has one, its first quote, and the rest
pub record IsQuoted (text : List ℕ) : Type 0 where
  pub prefix : List ℕ
  pub quote : ℕ
  pub body : List ℕ
  pub spell : text ≡ prefix ++ quote ∷ body
  pub begun : IsNoneOr fielded.is_prefix prefix
  pub opens : is_quote quote ≡ true

plain_begun : (prefix : List ℕ) → IsPrefix prefix → IsNoneOr fielded.is_prefix prefix
plain_begun prefix (inl none) = inl none
plain_begun prefix (inr is) = inr (or_left (is_prefix prefix) (is_field_prefix prefix) is)

pub quoted : (text : List ℕ) → InClass string text → IsQuoted text
quoted text (inl (inl (short, plain))) = search (short, plain_begun short.prefix short.begun)
quoted text (inl (inr (long, plain))) = search (long, plain_begun long.prefix long.begun)
quoted text (inr is) =
    record {
      prefix = is.prefix;
      quote = is.host.quote;
      body = _;
      spell = is.spell ∙ ap (λ t. is.prefix ++ (t ++ (joined is.parts ++ quotes_of is.host))) (quotes_begin is.host).1;
      begun = inr (or_right (is_prefix is.prefix) (is_field_prefix is.prefix) is.begun);
      opens = is.opens;
    }

as_word : (a : ℕ) (bs : List ℕ) → fielded.is_prefix (a ∷ bs) ≡ true → (is_word_start a ≡ true) × (list_all is_word_character bs ≡ true)
as_word a bs h = ⊎_elim (λ plain. prefix_word a bs plain) with_fields (or_cases (is_prefix (a ∷ bs)) (is_field_prefix (a ∷ bs)) h) where
  with_fields : is_field_prefix (a ∷ bs) ≡ true → (is_word_start a ≡ true) × (list_all is_word_character bs ≡ true)
  with_fields is =
      let l = field_letters (a ∷ bs) is in let first : l.first ≡ a = cc in
      (ap is_word_start (sym first) ∙ l.starts, (and_parts (is_word_character a) (list_all is_word_character bs) l.all).1)

-- a prefix is a word
pub prefix_is_word : (prefix : List ℕ) → fielded.is_prefix prefix ≡ true
    → (first : ℕ) × (others : List ℕ) × (prefix ≡ first ∷ others) × (is_word_start first ≡ true) × (first < 128)
    × (list_all is_word_character others ≡ true)
prefix_is_word [] none = absurd (both_ways _ refl none)
prefix_is_word (a ∷ bs) is =
    let parts = as_word a bs is in
    (a, bs, refl, parts.0, low_is a (and_parts (is_low a) _ (prefix_low (a ∷ bs) (sym (fielded_spelling a bs) ∙ is))).0, parts.1)

-- the class of a piece whose first character begins this
abbrev pub OfStart : Start → Class → Type 0
OfStart (starts.Open modes.Space) p = p ≡ space
OfStart (starts.Open (modes.Word s)) p = (p ≡ word) ⊎ (p ≡ string)
OfStart (starts.Open (modes.Opened q)) p = p ≡ string
OfStart (starts.Open modes.Comment) p = p ≡ comment
OfStart (starts.Open modes.Backslash) p = p ≡ join
OfStart (starts.Open modes.Return) p = p ≡ line_end
OfStart starts.Operator p = p ≡ operator
OfStart starts.LineEnd p = p ≡ line_end
OfStart _ p = ⊥

-- a word or ASCII
abbrev pub IsWordOrLow : Class → ℕ → Type 0
IsWordOrLow p c = ((p ≡ word) × (is_word_start c ≡ true)) ⊎ (c < 128)

-- what a piece begins with
pub record BeginsSo (p : Class) (text : List ℕ) : Type 0 where
  pub first : ℕ
  pub others : List ℕ
  pub is : text ≡ first ∷ others
  pub so : OfStart (start_of first) p
  pub low : IsWordOrLow p first

by_start : (p : Class) (text : List ℕ) (c : ℕ) (cs : List ℕ) (s : Start) → text ≡ c ∷ cs → start_of c ≡ s → OfStart s p → IsWordOrLow p c → BeginsSo p text
by_start p text c cs s is starts of low = record { first = c; others = cs; is = is; so = subst (λ (t : Start). OfStart t p) (sym starts) of; low = low }

pub hash_is : (c : ℕ) → is_hash c ≡ true → c ≡ 35
unfolding is_hash
hash_is c h = the_one 35 c h

pub begins_so : (p : Class) (text : List ℕ) → is_mark_class p ≡ false → InClass p text → BeginsSo p text
unfolding is_line_feed is_return
begins_so mark text unmarked fit = absurd (both_ways _ unmarked refl)
begins_so space text unmarked (c, cs, is, run) =
    let so = (and_parts (is_space c) (list_all is_space cs) (ap (list_all is_space) (sym is) ∙ run)).0 in
    by_start space text c cs _ is (start-space c so) refl (inr (space_low c so))
begins_so word text unmarked (c, cs, is, so, run) = by_start word text c cs _ is (start-word c so) (inl refl) (inl (refl, so))
begins_so string text unmarked is = by_prefix (quoted text is) where
  by_prefix : IsQuoted text → BeginsSo string text
  by_prefix q = ⊎_elim (λ none. by_start string text q.quote q.body _ (q.spell ∙ ap (λ t. t ++ q.quote ∷ q.body) none) (start-quote q.quote q.opens)
      refl (inr (quote_ascii q.quote q.opens))) (λ is.
      let (first, others, shape, starts, low, run) = prefix_is_word q.prefix is in
      by_start string text first (others ++ q.quote ∷ q.body) _ (q.spell ∙ ap (λ t. t ++ q.quote ∷ q.body) shape)
      (start-word first starts) (inr refl) (inr low)) q.begun
begins_so operator text unmarked (c, is, so) = by_start operator text c [] _ is (start-operator c so) refl (inr (operator_ascii c so))
begins_so comment text unmarked (c, cs, is, so, body) = by_start comment text c cs _ is (start-hash c so) refl (inr (omega (arith, hash_is c so)))
begins_so join text unmarked (c, cs, is, so, end) = by_start join text c cs _ is (start-slash c so) refl (inr (omega (arith, slash_only c so)))
begins_so line_end text unmarked (feed is) = by_start line_end text 10 [] _ is (start-feed 10 refl) refl (inr (omega arith))
begins_so line_end text unmarked (return_feed is) = by_start line_end text 13 (10 ∷ []) _ is (start-return 13 refl) refl (inr (omega arith))
begins_so line_end text unmarked (return is) = by_start line_end text 13 [] _ is (start-return 13 refl) refl (inr (omega arith))

-- which is no mark
pub unmarked_first : {p : Class} {text : List ℕ} → (b : BeginsSo p text) → is_mark b.first ≡ false
unmarked_first {p} b = false_from_ne_true _ (λ marks. subst (λ (s : Start). OfStart s p) (start-mark b.first marks) b.so)

-- the pieces' bytes
pub spelled_bytes : (bytes : List ℕ) (p : Piece) → (b : BeginWithPiece bytes p) → bytes ≡ encode_utf8_all p.text ++ encode_utf8_all (spelled b.others)
spelled_bytes bytes p b = sym b.text.spell ∙ encodes-append p.text (spelled b.others)

-- the first character of the bytes
pub record FirstOf (bytes : List ℕ) (p : Piece) : Type 0 where
  pub begun : BeginsSo p.class p.text
  pub some : 0 < length bytes
  pub low : slice_index bytes 0 < 128 → begun.first ≡ slice_index bytes 0
  pub high : 128 ≤ slice_index bytes 0 → 128 ≤ begun.first

pub first_of : (bytes : List ℕ) (p : Piece) → BeginWithPiece bytes p → FirstOf bytes p
first_of bytes p b =
    let begun = begins_so p.class p.text b.unmarked b.text.fit.0 in
    let rest = encode_utf8_all (begun.others ++ spelled b.others) in
    let is : bytes ≡ encode_utf8 begun.first ++ rest = sym b.text.spell ∙ ap (λ t. encode_utf8_all (t ++ spelled b.others)) begun.is in
    let some : 0 < length bytes
    = omega (arith, ap length is, length-append (encode_utf8 begun.first) rest, length-encode begun.first, len_utf8_bounds begun.first) in
    record {
      begun = begun;
      some = some;
      low = λ low. char_from_byte bytes rest begun.first is low some;
      high = λ high. ⊎_elim (λ (low : begun.first < 128). absurd (omega (arith, high, low, byte_from_char bytes rest begun.first is low)))
          (λ h. h) (cases_lt begun.first 128);
    }

pub some_bytes : (bytes : List ℕ) → (p : Piece) × BeginWithPiece bytes p → 0 < length bytes
some_bytes bytes (p, b) = (first_of bytes p b).some

-- the class of the piece that any byte of this class begins
abbrev pub OfByte : ByteClass → Class → Type 0
OfByte class.Wide p = p ≡ word
OfByte k p = OfStart (start_by k 0) p

pub class_told : (bytes : List ℕ) (p : Piece) (k : ByteClass) → BeginWithPiece bytes p → is_of_class k (slice_index bytes 0) ≡ true → OfByte k p.class
class_told bytes p k b so = go k so where
  f : FirstOf bytes p
  f = first_of bytes p b

  c : ℕ
  c = slice_index bytes 0

  at : (j : ByteClass) → c < 128 → is_of_class j c ≡ true → OfStart (start_by j c) p.class
  at j low h = subst (λ (t : Start). OfStart t p.class) (ap start_of (f.low low) ∙ starts_by j c low h) f.begun.so

  go : (j : ByteClass) → is_of_class j c ≡ true → OfByte j p.class
  go class.Wide h = ⊎_elim (λ is. is.0) (λ low. absurd (omega (arith, low, f.high (grind (arith, nat_tests))))) f.begun.low
  go j h = at j (in_range j c h) h

pub class_is : {bytes : List ℕ} {p : Piece} {j k : ByteClass} → BeginWithPiece bytes p → is_of_class j (slice_index bytes 0) ≡ true → j ≡ k → OfByte k p.class
class_is {bytes = bytes} {p = p} {j = j} b so is = subst (λ (i : ByteClass). OfByte i p.class) is (class_told bytes p j b so)

-- what begins a word goes on with one, if it isn't ASCII
start_continues : (c : ℕ) → 128 ≤ c → is_word_start c ≡ true → is_word_character c ≡ true
unfolding is_word_start is_word_character is_digit
start_continues c high h = ⊎_elim
    (λ word. ⊎_elim (λ letter. is_xid_start-is_xid_continue c letter) (λ (underscore : c == 95 ≡ true). absurd (grind (arith, nat_tests)))
    (or_cases (is_xid_start c) (c == 95) word)) (λ digit. absurd (grind (arith, nat_tests)))
    (or_cases (is_xid_start c || (c == 95)) (nat_le 48 c && nat_le c 57) h)

-- a character that isn't ASCII continues a word, where it follows a piece
next_high : (others : List Piece) (after : List ℕ) (c : ℕ) (cs : List ℕ) → AreReadBefore others after → begins_marked others ≡ false
    → spelled others ≡ c ∷ cs → 128 ≤ c → is_word_character c ≡ true
next_high [] after c cs fit unmarked is high = absurd (cc)
next_high (q ∷ qs) after c cs fit unmarked is high =
    let begun = begins_so q.class q.text unmarked fit.0 in
    let whole : begun.first ∷ (begun.others ++ spelled qs) ≡ c ∷ cs = ap (λ t. t ++ spelled qs) (sym begun.is) ∙ is in
    let first : begun.first ≡ c = cc in
    ⊎_elim (λ starts. start_continues c high (ap is_word_start (sym first) ∙ starts.1)) (λ low. absurd (omega (arith, high, low, first))) begun.low

-- where a word ends, no byte of a word follows
pub word_ends : (others : List Piece) (after : List ℕ) → AreReadBefore others after → begins_marked others ≡ false
    → begins is_word_character (spelled others ++ after) ≡ false → begins is_wide_word (spelled others) ≡ false
word_ends others after fit unmarked none = go (spelled others) refl none where
  go : (text : List ℕ) → spelled others ≡ text → begins is_word_character (text ++ after) ≡ false → begins is_wide_word text ≡ false
  go [] is none = refl
  go (c ∷ cs) is none = ⊎_elim (λ (low : c < 128).
      let ascii : is_ascii_word c ≡ false = sym (word_byte_continues c low) ∙ none in
      rw ascii (grind (arith, nat_tests))) (λ (high : 128 ≤ c). absurd (both_ways _ none (next_high others after c cs fit unmarked is high))) (cases_lt c 128)
