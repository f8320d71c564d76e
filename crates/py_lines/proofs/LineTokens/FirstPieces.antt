-- The piece that bytes begin with, where it is no string, as its line takes it: how long it is, and what tells a word from a prefix.
use Rattle.py_lines.proofs.Prelude.{◌≡◌, ℕ, zero, suc, ◌≤◌, Bool, true, false, Option, None, Some, List, [], ◌∷◌, ◌++◌, length, refl, ap, ◌∙◌, arith, min, zero-add, ⊎_elim, ◌+◌, ◌<◌, ◌⊎◌, inl, inr, ◌&&◌, drop, slice_index, sym, subst, take, append_assoc, encode_utf8_all, not, codes, nat_le, list_all, list_any, is_ascii_digit, and_from, and_parts, both_ways, cases_lt, or_parts, or_cases, get_or-take, length-take, encode, nat_tests, encodes-append, take-append_seam, drop-append_seam, drop-cons, rest_is, rest_of, TokKind}
use Rattle.py_lines.specs.Piece.{begins, Class, space, operator, comment, join, line_end, Piece, ends, spelled, word, string}
use Rattle.py_lines.specs.Character.{is_break, is_line_feed, is_return, is_space, is_digit, is_quote, is_word_character, is_word_start}
use Rattle.py_lines.specs.PieceGrammar.{IsLineEnd, feed, return_feed, return}
use Rattle.py_lines.specs.Fields.{InClass, MayPrecede, fielded}
use Rattle.py_lines.specs.LogicalLine.{byte_len, first_or_zero, line_ends}
use Rattle.py_lines.specs.declared.token.TokKind.TheVariants as kind
use Rattle.py_lines.specs.declared.class.Class.TheVariants as class
use Rattle.py_lines.specs.Private.Run.{IsRunOf, is_comment_byte, is_ascii_word, is_wide_word, word_spelling}
use Rattle.py_lines.specs.Private.LineTokens.{BeginWithPiece, IsTakenFor, line_end_len, role_of, word_kind}
use Rattle.py_lines.specs.Private.Machine.{begins_string}
use Rattle.py_lines.proofs.Text.CharacterTests.{feed_is, operator_ascii, none_of}
use Rattle.py_lines.proofs.Text.HighBytes.{IsEvenAbove, encoded_begins, encoded_passes, low_even}
use Rattle.py_lines.proofs.Text.LineEnds.{unbroken}
use Rattle.py_lines.proofs.Text.Utf8Shapes.{one}
use Rattle.py_lines.proofs.LineTokens.Spellings.{fielded_spelling, prefix_encoded}
use Rattle.py_lines.proofs.Lexings.LineEnds.{line_text}
use Rattle.py_lines.proofs.FieldScans.Ends.{slash_only}
use Rattle.py_lines.proofs.Fields.Prefixes.{none_in}
use Rattle.py_lines.proofs.WordBreaks.{word-unbroken}
use Rattle.py_lines.proofs.LogicalLines.NextLine.{begins-prefix}
use Rattle.py_lines.proofs.LineScan.AsciiRuns.{all_also, break_low, space_low, quote_ascii, word_byte_continues, word_byte_starts, operator-no_break}
use Rattle.py_lines.proofs.LineTokens.FirstCharacters.{hash_is, spelled_bytes, IsQuoted, class_told, first_of, prefix_is_word, quoted, word_ends}

-- a run that ends where it may not go on
pub run_length : (passes : ℕ → Bool) (xs ys : List ℕ) (n : ℕ) → IsRunOf passes (xs ++ ys) n → list_all passes xs ≡ true
    → begins passes ys ≡ false → n ≡ length xs
run_length passes [] [] n run all ends = omega (arith, run.within)
run_length passes [] (y ∷ ys) zero run all ends = refl
run_length passes [] (y ∷ ys) (suc n) run all ends = absurd (both_ways _ ends (run.each 0 (omega arith)))
run_length passes (x ∷ xs) ys zero run all ends = absurd (both_ways _ (run.ends (omega arith)) (and_parts (passes x) (list_all passes xs) all).0)
run_length passes (x ∷ xs) ys (suc n) run all ends =
    ap suc (run_length passes xs ys n (record {
      within = omega (arith, run.within);
      each = λ i less. run.each (suc i) (omega (arith, less));
      ends = λ less. run.ends (omega (arith, less));
    }) (and_parts (passes x) (list_all passes xs) all).1 ends)

-- so a run of characters is a run of their bytes
pub encoded_length : (passes : ℕ → Bool) (cs rest : List ℕ) (n : ℕ) → IsEvenAbove passes
    → IsRunOf passes (encode_utf8_all cs ++ encode_utf8_all rest) n → list_all passes cs ≡ true → begins passes rest ≡ false → n ≡ length (encode_utf8_all cs)
encoded_length passes cs rest n even run all ends =
    run_length passes (encode_utf8_all cs) (encode_utf8_all rest) n run (encoded_passes passes even cs all) (encoded_begins passes even rest ∙ ends)

comment_even : IsEvenAbove is_comment_byte
comment_even c b one two = ap not (low_even is_break break_low c b one two)

pub all_other : (cs : List ℕ) → list_any is_break cs ≡ false → list_all is_comment_byte cs ≡ true
all_other [] none = refl
all_other (c ∷ cs) none =
    let parts = or_parts (is_break c) (list_any is_break cs) none in and_from (is_comment_byte c) (list_all is_comment_byte cs)
    (ap not parts.0) (all_other cs parts.1)

after_return : (bytes : List ℕ) → begins is_line_feed bytes ≡ false → line_end_len (13 ∷ bytes) ≡ 1
unfolding is_line_feed
after_return [] none = refl
after_return (d ∷ ds) none = grind (arith, nat_tests)

-- how long a line end is, and that it is one
end_len : (end rest after : List ℕ) → IsLineEnd end → ends is_return end && begins is_line_feed (rest ++ after) ≡ false
    → line_end_len (encode_utf8_all end ++ encode_utf8_all rest) ≡ byte_len end
unfolding is_return encode
end_len end rest after (feed is) uncut = rw is refl
end_len end rest after (return_feed is) uncut = rw is refl
end_len end rest after (return is) uncut =
    let same = encoded_begins is_line_feed (low_even is_line_feed (λ c h. omega (arith, feed_is c h))) rest in
    rw is (after_return (encode_utf8_all rest) (same ∙ begins-prefix is_line_feed rest after (rw is at uncut)))

one_end : (end : List ℕ) → IsLineEnd end → 1 ≡ line_ends end
unfolding is_return is_line_feed
one_end end (feed is) = rw is refl
one_end end (return_feed is) = rw is refl
one_end end (return is) = rw is refl

ends_later : (slash : ℕ) (end : List ℕ) → IsLineEnd end → ends is_return (slash ∷ end) ≡ ends is_return end
ends_later slash end is = let (c, cs, shape) = line_text end is in rw shape

module _ {bytes : List ℕ} {p : Piece} (b : BeginWithPiece bytes p) where
  abbrev pub rest : List ℕ
  rest = spelled b.others

  pub in_class : (class : Class) → p.class ≡ class → InClass class p.text
  in_class class is = subst (λ (k : Class). InClass k p.text) is b.text.fit.0

  pub precedes : (class : Class) → p.class ≡ class → MayPrecede class p.text (spelled b.others ++ b.text.after)
  precedes class is = subst (λ (k : Class). MayPrecede k p.text (spelled b.others ++ b.text.after)) is b.text.fit.1

  pub taken : (class : Class) {role : Option TokKind} {len ends : ℕ} → p.class ≡ class → role ≡ role_of class p.text → len ≡ byte_len p.text
      → ends ≡ line_ends p.text → IsTakenFor p (record { role = role; len = len; line_ends = ends })
  taken class is role len ends =
      let role_is = role ∙ ap (λ (k : Class). role_of k p.text) (sym is) in λ i. record { role = role_is i; len = len i; line_ends = ends i }

  -- the run of bytes that the piece is
  pub run_taken : (passes : ℕ → Bool) (n : ℕ) → IsEvenAbove passes → IsRunOf passes bytes n → list_all passes p.text ≡ true
      → begins passes rest ≡ false → n ≡ byte_len p.text
  run_taken passes n even run all none =
      encoded_length passes p.text rest n even (subst (λ (t : List ℕ). IsRunOf passes t n) (spelled_bytes bytes p b) run) all none

  -- space is taken as what adds nothing to its line
  pub spaces : (n : ℕ) → p.class ≡ space → IsRunOf is_space bytes n → n ≡ byte_len p.text
  spaces n is run = run_taken is_space n (low_even is_space space_low) run (in_class space is).3 (begins-prefix is_space rest b.text.after (precedes space is))

  pub space_unbroken : p.class ≡ space → 0 ≡ line_ends p.text
  unfolding is_space is_break
  space_unbroken is =
      unbroken p.text (all_other p.text (none_in is_space is_break (λ d. none_of is_space (10 ∷ 13 ∷ []) d refl) p.text (in_class space is).3))

  pub space_taken : (n : ℕ) → p.class ≡ space → IsRunOf is_space bytes n → IsTakenFor p (record { role = None; len = n; line_ends = 0 })
  space_taken n is run = taken space is refl (spaces n is run) (space_unbroken is)

  -- the bytes after the first, which is ASCII
  pub after_first : (c : ℕ) (cs : List ℕ) → p.text ≡ c ∷ cs → c < 128 → bytes ≡ c ∷ (encode_utf8_all cs ++ encode_utf8_all rest)
  after_first c cs is low =
      spelled_bytes bytes p b ∙ ap (λ t. encode_utf8_all t ++ encode_utf8_all rest) is ∙ ap (λ t. (t ++ encode_utf8_all cs) ++ encode_utf8_all rest) (one c low)

  pub longer : (c : ℕ) (cs : List ℕ) (n : ℕ) → p.text ≡ c ∷ cs → c < 128 → n ≡ byte_len cs → 1 + n ≡ byte_len p.text
  longer c cs n is low same =
      let whole : byte_len p.text ≡ length (c ∷ encode_utf8_all cs) = ap byte_len is ∙ ap (λ t. length (t ++ encode_utf8_all cs)) (one c low) in
      omega (arith, whole, same)

  pub operator_taken : p.class ≡ operator → IsTakenFor p (record { role = Some (kind.Op (slice_index bytes 0)); len = 1; line_ends = 0 })
  operator_taken is =
      let shape = in_class operator is in let c : ℕ = shape.0 in
      let low = operator_ascii c shape.2 in
      taken operator is (ap (λ d. Some (kind.Op d)) (ap (λ t. slice_index t 0) (after_first c [] shape.1 low) ∙ ap first_or_zero (sym shape.1)))
      (longer c [] 0 shape.1 low refl) (unbroken p.text (ap (list_all is_comment_byte) shape.1 ∙ and_from _ true (ap not (operator-no_break c shape.2)) refl))

  comment_ends : (text after : List ℕ) → (text ++ after ≡ []) ⊎ (begins is_break (text ++ after) ≡ true) → begins is_comment_byte text ≡ false
  comment_ends [] after h = refl
  comment_ends (c ∷ cs) after (inl none) = absurd (cc)
  comment_ends (c ∷ cs) after (inr breaks) = ap not breaks

  pub comment_taken : (n : ℕ) → p.class ≡ comment → IsRunOf is_comment_byte (rest_of bytes 1) n
      → IsTakenFor p (record { role = Some kind.Remark; len = 1 + n; line_ends = 0 })
  unfolding is_break
  comment_taken n is run =
      let shape = in_class comment is in let body : List ℕ = shape.1 in
      let text : p.text ≡ 35 ∷ body = shape.2 ∙ ap (λ (c : ℕ). c ∷ body) (hash_is shape.0 shape.3) in
      taken comment is refl (longer 35 body n text (omega arith) (encoded_length is_comment_byte body rest n comment_even
      (subst (λ (t : List ℕ). IsRunOf is_comment_byte t n) (rest_is bytes 1 ∙ ap (drop 1) (after_first 35 body text (omega arith))) run)
      (all_other body shape.4) (comment_ends rest b.text.after (precedes comment is))))
      (unbroken p.text (ap (list_all is_comment_byte) text ∙ all_other body shape.4))

  pub line_end_taken : p.class ≡ line_end → IsTakenFor p (record { role = None; len = line_end_len bytes; line_ends = 1 })
  line_end_taken is =
      taken line_end is refl (ap line_end_len (spelled_bytes bytes p b) ∙ end_len p.text rest b.text.after (in_class line_end is) (precedes line_end is))
      (one_end p.text (in_class line_end is))

  -- a join, and the line end in it
  record Joined : Type 0 where
    end : List ℕ
    text : p.text ≡ 92 ∷ end
    is : IsLineEnd end
    later : rest_of bytes 1 ≡ encode_utf8_all end ++ encode_utf8_all rest

  joined : p.class ≡ join → Joined
  joined is =
      let shape = in_class join is in
      let text : p.text ≡ 92 ∷ shape.1 = shape.2 ∙ ap (λ (c : ℕ). c ∷ shape.1) (slash_only shape.0 shape.3) in
      record { end = shape.1; text = text; is = shape.4; later = rest_is bytes 1 ∙ ap (drop 1) (after_first 92 shape.1 text (omega arith)) }

  pub join_taken : p.class ≡ join → IsTakenFor p (record { role = None; len = 1 + line_end_len (rest_of bytes 1); line_ends = 1 })
  unfolding is_line_feed is_return
  join_taken is =
      let j = joined is in
      let uncut : ends is_return j.end && begins is_line_feed (rest ++ b.text.after) ≡ false
      = ap (λ t. t && begins is_line_feed (rest ++ b.text.after)) (sym (ends_later 92 j.end j.is) ∙ ap (ends is_return) (sym j.text)) ∙ precedes join is in
      taken join is refl (longer 92 j.end _ j.text (omega arith) (ap line_end_len j.later ∙ end_len j.end rest b.text.after j.is uncut))
      (one_end j.end j.is ∙ sym (ap line_ends j.text ∙ zero-add (line_ends j.end)))

-- the characters of a word are bytes of words, or not ASCII
wide_even : IsEvenAbove is_wide_word
wide_even c b one two = grind (arith, nat_tests)

by_range : (c : ℕ) → (c < 128 → is_ascii_word c ≡ true) → is_wide_word c ≡ true
by_range c low = ⊎_elim (λ less. rw (low less) refl) (λ (more : 128 ≤ c). grind (arith, nat_tests)) (cases_lt c 128)

pub word_wide : (c : ℕ) (cs : List ℕ) → is_word_start c ≡ true → list_all is_word_character cs ≡ true → list_all is_wide_word (c ∷ cs) ≡ true
word_wide c cs starts all =
    and_from (is_wide_word c) (list_all is_wide_word cs) (by_range c (λ low. sym (word_byte_starts c low) ∙ starts))
    (all_also is_word_character is_wide_word (λ d h. by_range d (λ low. sym (word_byte_continues d low) ∙ h)) cs all)

quote_not_wide : (q : ℕ) → is_quote q ≡ true → is_wide_word q ≡ false
unfolding is_quote is_ascii_word
quote_not_wide q h = none_of is_wide_word (codes "'\"") q refl h

-- what begins the bytes after so many
pub begins_at : (passes : ℕ → Bool) (bytes : List ℕ) (n : ℕ) → begins passes (drop n bytes) ≡ true → (n < length bytes) × (passes (slice_index bytes n) ≡ true)
begins_at passes [] zero h = absurd (both_ways _ refl h)
begins_at passes [] (suc n) h = absurd (both_ways _ refl h)
begins_at passes (b ∷ bs) zero h = (omega arith, h)
begins_at passes (b ∷ bs) (suc n) h = let (within, is) = begins_at passes bs n h in (omega (arith, within), is)

-- a run ends at the end of the bytes too, where these go on
pub run_within : (passes : ℕ → Bool) (bytes ahead : List ℕ) (n k : ℕ) → take (length bytes) ahead ≡ bytes → IsRunOf passes ahead n
    → k ≡ min n (length bytes) → IsRunOf passes bytes k
run_within passes bytes ahead n k is run least = record {
  within = omega (arith, least);
  each = λ i less. ap passes (same i (omega (arith, less, least))) ∙ run.each i (omega (arith, less, least));
  ends = λ less.
      let whole : k ≡ n = omega (arith, less, least) in
      ap passes (same k less ∙ ap (slice_index ahead) whole) ∙ run.ends (omega (arith, less, whole, ap length is, length-take (length bytes) ahead));
} where
  same : (i : ℕ) → i < length bytes → slice_index bytes i ≡ slice_index ahead i
  same i less = ap (λ l. slice_index l i) (sym is) ∙ get_or-take (length bytes) ahead i 0 less

-- the first bytes, so many of them, are the prefix of a string, whose quote follows
abbrev EndsPrefix : List ℕ → ℕ → Type 0
EndsPrefix bytes n = (n < length bytes) × (is_quote (slice_index bytes n) ≡ true) × (begins_string (word_spelling (take n bytes)) ≡ true)

-- where bytes are cut that begin with these
pub cut_at : (bytes xs ys : List ℕ) (n : ℕ) → bytes ≡ xs ++ ys → n ≡ length xs → (take n bytes ≡ xs) × (drop n bytes ≡ ys)
cut_at bytes xs ys n is size = rw (is, size) (take-append_seam xs ys, drop-append_seam xs ys)

-- the spelling of the word
prefix_told : (prefix : List ℕ) (c : ℕ) (cs : List ℕ) → prefix ≡ c ∷ cs → begins_string (word_spelling (encode_utf8_all prefix)) ≡ fielded.is_prefix prefix
prefix_told prefix c cs is = prefix_encoded prefix ∙ rw is (sym (fielded_spelling c cs))

digit_told : (b c : ℕ) → (b < 128 → c ≡ b) → (128 ≤ b → 128 ≤ c) → is_ascii_digit b ≡ is_digit c
unfolding is_digit
digit_told b c low high =
    ⊎_elim (λ less. ap (λ d. nat_le 48 d && nat_le d 57) (sym (low less)))
    (λ (more : 128 ≤ b). let above : 128 ≤ c = high more in grind (arith, nat_tests)) (cases_lt b 128)

module _ {bytes : List ℕ} {p : Piece} (b : BeginWithPiece bytes p) where
  pub word_or_string : begins is_wide_word bytes ≡ true → (p.class ≡ word) ⊎ (p.class ≡ string)
  word_or_string wide = ⊎_elim (class_told bytes p class.Word b) (λ high. inl (class_told bytes p class.Wide b high))
      (or_cases (is_ascii_word (slice_index bytes 0)) (nat_le 128 (slice_index bytes 0)) (begins_at is_wide_word bytes 0 wide).1)

  -- a word is the run of its bytes
  text_wide : p.class ≡ word → list_all is_wide_word p.text ≡ true
  text_wide is = let shape = in_class b word is in ap (list_all is_wide_word) shape.2 ∙ word_wide shape.0 shape.1 shape.3 shape.4

  word_len : (n : ℕ) → p.class ≡ word → IsRunOf is_wide_word bytes n → n ≡ byte_len p.text
  word_len n is run = run_taken b is_wide_word n wide_even run (text_wide is) (word_ends b.others b.text.after b.text.fit.3 b.text.fit.2 (precedes b word is).0)

  -- which is no prefix before a quote
  word_no_prefix : (n : ℕ) → p.class ≡ word → IsRunOf is_wide_word bytes n → EndsPrefix bytes n → ⊥
  word_no_prefix n is run (within, quote, told) =
      let shape = in_class b word is in let rest = spelled b.others in
      let (front, later) = cut_at bytes (encode_utf8_all p.text) (encode_utf8_all rest) n (spelled_bytes bytes p b) (word_len n is run) in
      let quotes : begins is_quote rest ≡ true
      = sym (encoded_begins is_quote (low_even is_quote quote_ascii) rest) ∙ ap (begins is_quote) (sym later ∙ drop-cons bytes n 0 within) ∙ quote in
      let prefix : fielded.is_prefix p.text ≡ true
      = sym (prefix_told p.text shape.0 shape.1 shape.2) ∙ ap (λ t. begins_string (word_spelling t)) (sym front) ∙ told in
      let follows = ap (λ d. d && begins is_quote (rest ++ b.text.after)) (sym prefix) ∙ (precedes b word is).1 in
      both_ways _ (begins-prefix is_quote rest b.text.after follows) quotes

  -- and a string's prefix is one
  string_prefix : (n : ℕ) → p.class ≡ string → begins is_wide_word bytes ≡ true → IsRunOf is_wide_word bytes n → EndsPrefix bytes n
  string_prefix n is wide run = ⊎_elim (λ none. absurd (no_prefix none)) some q.begun where
    q : IsQuoted p.text
    q = quoted p.text (in_class b string is)

    after : List ℕ
    after = encode_utf8_all q.body ++ encode_utf8_all (spelled b.others)

    bytes_are : bytes ≡ encode_utf8_all q.prefix ++ q.quote ∷ after
    bytes_are =
        spelled_bytes bytes p b ∙ ap (λ t. encode_utf8_all t ++ encode_utf8_all (spelled b.others)) q.spell
        ∙ ap (λ t. t ++ encode_utf8_all (spelled b.others)) (encodes-append q.prefix (q.quote ∷ q.body))
        ∙ append_assoc (encode_utf8_all q.prefix) (encode_utf8_all (q.quote ∷ q.body)) _
        ∙ ap (λ t. encode_utf8_all q.prefix ++ ((t ++ encode_utf8_all q.body) ++ encode_utf8_all (spelled b.others)))
        (one q.quote (quote_ascii q.quote q.opens))

    no_prefix : q.prefix ≡ [] → ⊥
    no_prefix none =
        both_ways _ (quote_not_wide q.quote q.opens) (ap (begins is_wide_word) (sym (bytes_are ∙ ap (λ t. encode_utf8_all t ++ q.quote ∷ after) none)) ∙ wide)

    some : fielded.is_prefix q.prefix ≡ true → EndsPrefix bytes n
    some begun =
        let (first, others, shape, starts, low, word_run) = prefix_is_word q.prefix begun in
        let all : list_all is_wide_word q.prefix ≡ true = ap (list_all is_wide_word) shape ∙ word_wide first others starts word_run in
        let len : n ≡ byte_len q.prefix = run_length is_wide_word (encode_utf8_all q.prefix) (q.quote ∷ after) n
        (subst (λ (t : List ℕ). IsRunOf is_wide_word t n) bytes_are run) (encoded_passes is_wide_word wide_even q.prefix all)
        (quote_not_wide q.quote q.opens) in
        let (front, later) = cut_at bytes (encode_utf8_all q.prefix) (q.quote ∷ after) n bytes_are len in
        let (within, quote) = begins_at is_quote bytes n (ap (begins is_quote) later ∙ q.opens) in
        (within, quote, ap (λ t. begins_string (word_spelling t)) front ∙ prefix_told q.prefix first others shape ∙ begun)

  -- so what follows the run tells which it is
  pub is_string : (n : ℕ) → begins is_wide_word bytes ≡ true → IsRunOf is_wide_word bytes n → EndsPrefix bytes n → p.class ≡ string
  is_string n wide run told = ⊎_elim (λ is. absurd (word_no_prefix n is run told)) (λ is. is) (word_or_string wide)

  pub word_taken : (n : ℕ) (k : TokKind) → begins is_wide_word bytes ≡ true → IsRunOf is_wide_word bytes n → (EndsPrefix bytes n → ⊥)
      → k ≡ word_kind (is_ascii_digit (slice_index bytes 0)) → IsTakenFor p (record { role = Some k; len = n; line_ends = 0 })
  word_taken n k wide run other told =
      let is = ⊎_elim (λ is. is) (λ is. absurd (other (string_prefix n is wide run))) (word_or_string wide) in
      let shape = in_class b word is in let f = first_of bytes p b in
      let first : f.begun.first ≡ shape.0 = cc (sym f.begun.is ∙ shape.2) in
      let digit : is_ascii_digit (slice_index bytes 0) ≡ begins is_digit p.text
      = digit_told (slice_index bytes 0) shape.0 (λ low. sym first ∙ f.low low) (λ high. subst (λ c. 128 ≤ c) first (f.high high))
      ∙ ap (begins is_digit) (sym shape.2) in
      taken b word is (ap Some (told ∙ ap word_kind digit)) (word_len n is run)
      (unbroken p.text (all_other p.text (word-unbroken p.text (in_class b word is))))
