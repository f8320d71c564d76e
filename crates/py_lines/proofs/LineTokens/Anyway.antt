-- Pieces that are the same wherever after them a line ends, and how they are read one after another.
use mir.Val.{bool_byte}
use Rattle.py_lines.proofs.Prelude.{◌≡◌, ℕ, ◌+◌, ◌-◌, ◌<◌, ◌≤◌, Bool, true, false, zero, suc, Option, None, Some, List, [], ◌∷◌, length, take, drop, slice_index, refl, sym, ap, ◌∙◌, subst, arith, length-drop, add-zero, MatchOption, ◌&&◌, if◌then◌else◌, nat_eq, nat_lt, starts_with, is_ascii_digit, both_ways, lt-ltb, ne_eqb, or_left, drop-take, get_or-take, length-take-le, is_line_feed, is_quote, is_space, Piece, begins, operator, Token, rest_is, rest_of, is_of_class}
use Rattle.py_lines.specs.LogicalLine.{end_len_of}
use Rattle.py_lines.specs.declared.class.Class.{Class as ByteClass}
use Rattle.py_lines.specs.declared.class.Class.TheVariants as class
use Rattle.py_lines.specs.declared.token.TokKind.TheVariants as kind
use Rattle.py_lines.specs.Private.LineTokens.{AreLineOf, BeginWithPiece, HaveReadAnyway, HoldsTokens, IsFirstAnyway, IsFirstPiece, IsLineAfter, IsTakenFor, ReadsAnyway, ReadsPiece, StaysUnread, line_end_len, mark_bytes, mark_len, token_piece, word_kind}
use Rattle.py_lines.specs.Private.Run.{IsRunOf, is_ascii_word, is_comment_byte, is_wide_word}
use Rattle.py_lines.proofs.Text.CharacterTests.{the_one}
use Rattle.py_lines.proofs.LineTokens.FirstCharacters.{OfByte, class_told}
use Rattle.py_lines.proofs.LineTokens.FirstPieces.{comment_taken, line_end_taken, operator_taken, run_within, space_taken, word_taken}
use Rattle.py_lines.proofs.LineTokens.Lines.{IsWholeRead, before_end, begun, past_byte, read_next, whole_read}

pub begins_from : (passes : ℕ → Bool) (bytes : List ℕ) → 0 < length bytes → passes (slice_index bytes 0) ≡ true → begins passes bytes ≡ true
begins_from passes [] some is = absurd (omega (arith, some))
begins_from passes (b ∷ bs) some is = is

-- the first of these bytes, so many of them
module _ (bytes : List ℕ) (n : ℕ) (within : n ≤ length bytes) where
  size : length (take n bytes) ≡ n
  size = length-take-le n bytes within

  first_same : 0 < n → slice_index (take n bytes) 0 ≡ slice_index bytes 0
  first_same some = get_or-take n bytes 0 0 some

  run_same : (passes : ℕ → Bool) (len : ℕ) → len ≤ n → IsRunOf passes bytes len → IsRunOf passes (take n bytes) len
  run_same passes len fits run = run_within passes (take n bytes) bytes len len (ap (λ k. take k bytes) size) run (omega (arith, size, fits))

  class_there : (k : ByteClass) (p : Piece) → 0 < n → is_of_class k (slice_index bytes 0) ≡ true → BeginWithPiece (take n bytes) p → OfByte k p.class
  class_there k p some is b = class_told (take n bytes) p k b (ap (is_of_class k) (first_same some) ∙ is)

pub run_some : (passes : ℕ → Bool) (bytes : List ℕ) (len : ℕ) → 0 < length bytes → passes (slice_index bytes 0) ≡ true → IsRunOf passes bytes len → 0 < len
run_some passes bytes zero some is run = absurd (both_ways _ (run.ends some) is)
run_some passes bytes (suc n) some is run = omega arith

-- a word, after which no quote stands
pub word_anyway : (bytes : List ℕ) (len : ℕ) → is_ascii_word (slice_index bytes 0) ≡ true → IsRunOf is_wide_word bytes len → 0 < len
    → (len < length bytes → is_quote (slice_index bytes len) ≡ false) → IsFirstAnyway bytes (token_piece (word_kind (is_ascii_digit (slice_index bytes 0))) len 0)
word_anyway bytes len word run some other n fits within p b =
    let same = first_same bytes n within (omega (arith, some, fits)) in
    let wide = begins_from is_wide_word (take n bytes) (omega (arith, size bytes n within, some, fits)) (or_left _ _ (ap is_ascii_word same ∙ word)) in
    word_taken b len _ wide (run_same bytes n within is_wide_word len fits run)
    (λ told. let less : len < n = omega (arith, told.0, size bytes n within) in
    both_ways _ (other (omega (arith, less, within))) (sym (ap is_quote (get_or-take n bytes len 0 less)) ∙ told.1))
    (ap (λ c. word_kind (is_ascii_digit c)) (sym same))

pub operator_anyway : (bytes : List ℕ) (k : ByteClass) → is_of_class k (slice_index bytes 0) ≡ true → ((p : Piece) → OfByte k p.class → p.class ≡ operator)
    → IsFirstAnyway bytes (token_piece (kind.Op (slice_index bytes 0)) 1 0)
operator_anyway bytes k is of n fits within p b =
    let some : 0 < n = omega (arith, fits) in
    subst (λ c. IsTakenFor p (token_piece (kind.Op c) 1 0)) (first_same bytes n within some) (operator_taken b (of p (class_there bytes n within k p some is b)))

pub space_anyway : (bytes : List ℕ) (len : ℕ) → is_space (slice_index bytes 0) ≡ true → IsRunOf is_space bytes len → 0 < len
    → IsFirstAnyway bytes (record { role = None; len = len; line_ends = 0 })
space_anyway bytes len is run some n fits within p b =
    space_taken b len (class_there bytes n within class.Space p (omega (arith, some, fits)) is b) (run_same bytes n within is_space len fits run)

feed_len : (bytes : List ℕ) → slice_index bytes 0 ≡ 10 → line_end_len bytes ≡ 1
feed_len [] is = refl
feed_len (b ∷ bs) is = rw is refl

pub feed_anyway : (bytes : List ℕ) → is_line_feed (slice_index bytes 0) ≡ true → IsFirstAnyway bytes (record { role = None; len = 1; line_ends = 1 })
unfolding is_line_feed
feed_anyway bytes is n fits within p b =
    let some : 0 < n = omega (arith, fits) in
    let len = feed_len (take n bytes) (first_same bytes n within some ∙ the_one 10 (slice_index bytes 0) is) in
    subst (λ k. IsTakenFor p (record { role = None; len = k; line_ends = 1 })) len
    (line_end_taken b (class_there bytes n within class.LineFeed p some is b))

pub comment_anyway : (bytes : List ℕ) (len : ℕ) → is_of_class class.Hash (slice_index bytes 0) ≡ true → IsRunOf is_comment_byte (rest_of bytes 1) len
    → IsFirstAnyway bytes (token_piece kind.Remark (1 + len) 0)
comment_anyway bytes len is run n fits within p b =
    let some : 0 < n = omega (arith, fits) in
    let one : 1 + (n - 1) ≡ n = omega (arith, some) in
    let cut : take (n - 1) (drop 1 bytes) ≡ rest_of (take n bytes) 1
    = sym (drop-take 1 (n - 1) bytes) ∙ ap (λ k. drop 1 (take k bytes)) one ∙ sym (rest_is (take n bytes) 1) in
    let held = run_same (drop 1 bytes) (n - 1) (omega (arith, within, length-drop 1 bytes)) is_comment_byte len (omega (arith, fits))
    (subst (λ l. IsRunOf is_comment_byte l len) (rest_is bytes 1) run) in
    comment_taken b len (class_there bytes n within class.Hash p some is b) (subst (λ l. IsRunOf is_comment_byte l len) cut held)

starts_cut : (n : ℕ) (bytes : List ℕ) → 0 < n → starts_with nat_eq (take n bytes) (32 ∷ []) ≡ starts_with nat_eq bytes (32 ∷ [])
starts_cut zero bytes some = absurd (omega (arith, some))
starts_cut (suc n) [] some = refl
starts_cut (suc n) (b ∷ bs) some = refl

no_mark : (bytes : List ℕ) → slice_index bytes 0 < 128 → mark_len bytes ≡ 0
no_mark [] low = refl
no_mark (b ∷ bs) low =
    let none : starts_with nat_eq (b ∷ bs) mark_bytes ≡ false
    = ap (λ (x : Bool). x && starts_with nat_eq bs (0xBB ∷ 0xBF ∷ [])) (ne_eqb 0xEF b (λ is. omega (arith, low, is))) in
    ap (λ (x : Bool). if x then 3 else 0) none

no_mark_anyway : (n : ℕ) (bytes : List ℕ) → slice_index bytes 0 < 128 → mark_len (take n bytes) ≡ 0
no_mark_anyway zero bytes low = refl
no_mark_anyway (suc n) bytes low = no_mark (take (suc n) bytes) (omega (arith, low, get_or-take (suc n) bytes 0 0 (omega arith)))

-- the bytes from one to another, as a slice has them
cut_rest : (bytes : List ℕ) (n start : ℕ) → start ≤ n → rest_of (take n bytes) start ≡ take (n - start) (drop start bytes)
cut_rest bytes n start less =
    let whole : start + (n - start) ≡ n = omega (arith, less) in
    rest_is (take n bytes) start ∙ ap (λ k. drop start (take k bytes)) (sym whole) ∙ drop-take start (n - start) bytes

-- a line has begun
pub begun_anyway : (bytes : List ℕ) (first : ℕ) → slice_index bytes 0 < 128 → HaveReadAnyway bytes first 0 first []
begun_anyway bytes first low k end_len within fits = begun (take k bytes) 0 first end_len (sym (no_mark_anyway k bytes low))

-- the piece that was read
pub piece_read : (k : ByteClass) {bytes : List ℕ} {old new : List Token} {start line : ℕ} {o : Option (ℕ × ℕ)} {p : ℕ × ℕ} → o ≡ Some p
    → MatchOption o (StaysUnread k old new) (λ p. ReadsAnyway bytes old start line p.0 p.1 new) → ReadsAnyway bytes old start line p.0 p.1 new
piece_read k {bytes} {old} {new} {start} {line} is = subst (λ o. MatchOption o (StaysUnread k old new) (λ p. ReadsAnyway bytes old start line p.0 p.1 new)) is

module _ {bytes : List ℕ} {first start line : ℕ} {t : List Token} (h : HaveReadAnyway bytes first start line t) where
  -- the next piece is read
  pub reads_on : {len ends : ℕ} {u : List Token} → ReadsAnyway (drop start bytes) t start line len ends u → HaveReadAnyway bytes first (start + len) (line + ends) u
  reads_on {len} {ends} r n end_len within fits ps is =
      let whole = length-take-le n bytes within in
      let (left, g) = h n end_len within (omega (arith, fits)) ps is in
      let before = before_end left g (omega (arith, whole, fits, r.some, g.ends, is.1)) in
      let first : IsFirstPiece (take (n - start) (drop start bytes)) (record { role = r.role; len = len; line_ends = ends })
      = r.is (n - start) (omega (arith, fits)) (omega (arith, within, length-drop start bytes)) in
      let piece : ReadsPiece (rest_of (take n bytes) start) t start line len ends _ = record {
        role = r.role;
        is = subst (λ l. IsFirstPiece l (record { role = r.role; len = len; line_ends = ends })) (sym (cut_rest bytes n start (omega (arith, fits)))) first;
        adds = r.adds;
      } in
      let next = read_next left is.0 g (omega (arith, whole, fits, r.some)) before piece in (next.left, next.more)

  -- and a space after it
  pub space_on : (is : Bool) → is ≡ starts_with nat_eq (rest_of bytes start) (32 ∷ []) → HaveReadAnyway bytes first (start + bool_byte is) line t
  space_on false starts = subst (λ k. HaveReadAnyway bytes first k line t) (sym (add-zero start)) h
  space_on true starts = λ n end_len within fits ps is.
      let (left, g) = h n end_len within (omega (arith, fits)) ps is in
      past_byte left true g (starts ∙ ap (λ l. starts_with nat_eq l (32 ∷ [])) (rest_is bytes start)
      ∙ sym (starts_cut (n - start) (drop start bytes) (omega (arith, fits)))
      ∙ ap (λ l. starts_with nat_eq l (32 ∷ [])) (sym (cut_rest bytes n start (omega (arith, fits)))))

  -- a line end of so many bytes follows: the line is read
  pub line_read : (len : ℕ) → 0 < len → start + len ≤ length bytes
      → HoldsTokens (take (start + len) bytes) len first t × IsLineAfter first (take (start + len) bytes) len (line + 1)
  line_read len some within = (λ ps is. (whole ps is).0, λ ps is. one ps is.1 ∙ (whole ps is).1) where
    whole : (ps : List Piece) → AreLineOf (take (start + len) bytes) len ps → IsWholeRead (take (start + len) bytes) ps first line t
    whole ps is =
        let (left, g) = h (start + len) len within (omega arith) ps is in
        whole_read left g (omega (arith, length-take-le (start + len) bytes within, g.ends, is.1))

    one : (ps : List Piece) → len ≡ end_len_of ps → line + 1 ≡ line + bool_byte (nat_lt 0 (end_len_of ps))
    one ps is = ap (λ b. line + bool_byte b) (sym (lt-ltb 0 len some)) ∙ ap (λ k. line + bool_byte (nat_lt 0 k)) is
