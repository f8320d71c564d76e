-- Bytes that are read from one that isn't plain to the next, up to the end of a string or a comment.
use Rattle.py_lines.proofs.Prelude.{◌≡◌, ℕ, ◌+◌, ◌-◌, ◌<◌, ◌==◌, not, nat_lt, true, false, List, Some, [], ◌∷◌, ◌++◌, length, take, drop, slice_index, refl, sym, ap, ◌∙◌, subst, arith, length-drop, get_or-drop, ◌≤◌, codes, list_all, and_from, and_parts, both_ways, eqb-true, false_from_ne_true, ltb-true, ne_eqb, not-true, or_parts, transport, take-add, drop-drop, is_closing, is_opening, Frame, Marks, Passing, line_ends, OpenMode}
use Rattle.py_lines.specs.Character.{is_backslash, is_break, is_hash, is_one_of, is_operator, is_quote, is_space}
use Rattle.py_lines.specs.declared.mode.Mode.TheVariants as opens
use Rattle.py_lines.specs.Private.Marks.{FindsNext, HasMarks, is_plain}
use Rattle.py_lines.specs.Private.Passing.{PassesSo, TellsFields, passed_to, word_before}
use Rattle.py_lines.proofs.PassedPieces.Counts.{NoEnds, byte_counts, line_byte_counts, plain_counts, quoted_counts}
use Rattle.py_lines.specs.Private.Machine.{IsFull}
use Rattle.py_lines.specs.Private.Run.{IsShortStringAt, IsShortText, is_ascii_word, is_body_byte, is_line_byte, is_text_byte}
use Rattle.py_lines.specs.Private.Scan.{quotes_in}
use Rattle.py_lines.proofs.LineScan.AsciiRuns.{is_low_from}
use Rattle.py_lines.proofs.LineScan.PlainStrings.{text_none, text_on, text_one}
use Rattle.py_lines.proofs.PassedPieces.FirstBytes.{bytes_from, first_later, taken_one, taken_two}
use Rattle.py_lines.proofs.PassedPieces.Items.{Over, Stays, comment_byte, comment_over, escape_stays, stays_none, stays_on, string_over, text_byte}
use Rattle.py_lines.proofs.PassedPieces.Passed.{cut, cut-length, passes_same, plain_between}
use Rattle.py_lines.proofs.FieldScans.PlainCode.{over_code, plain_low}
use Rattle.py_lines.proofs.Text.CharacterTests.{excluded, none_of}

-- the bytes from one place to another
abbrev between : List ℕ → ℕ → ℕ → List ℕ
between bytes from to = take (to - from) (drop from bytes)

between-append : (bytes : List ℕ) (a b c : ℕ) → a ≤ b → b ≤ c → between bytes a c ≡ between bytes a b ++ between bytes b c
between-append bytes a b c first second =
    let size : c - a ≡ (b - a) + (c - b) = omega (arith, first, second) in
    let there : a + (b - a) ≡ b = omega (arith, first) in
    ap (λ (n : ℕ). take n (drop a bytes)) size ∙ take-add (b - a) (c - b) (drop a bytes)
    ∙ ap (λ x. between bytes a b ++ take (c - b) x) (drop-drop (b - a) a bytes ∙ ap (λ (n : ℕ). drop n bytes) there)

-- one byte
pub one_between : (bytes : List ℕ) (end : ℕ) → end < length bytes → between bytes end (end + 1) ≡ slice_index bytes end ∷ []
one_between bytes end within = grind (arith, taken_one, length-drop, first_later)

-- a plain byte is no backslash and no line end
plain_whole : (c : ℕ) → is_plain c ≡ true → is_one_of (codes "\\\n\r") c ≡ false
unfolding is_plain is_ascii_word is_space is_operator is_opening is_closing
plain_whole c plain = excluded is_plain (is_one_of (codes "\\\n\r")) c (none_of is_plain (codes "\\\n\r") c refl) plain

-- a plain byte may stand in a string
plain_text : (q c : ℕ) → is_plain q ≡ false → is_plain c ≡ true → is_text_byte q c ≡ true
unfolding is_body_byte
plain_text q c special plain =
    let other : c == q ≡ false = false_from_ne_true _ (λ same. both_ways _ special (ap is_plain (sym (eqb-true c q same)) ∙ plain)) in
    and_from _ _ (rw (other, plain_whole c plain) refl) (is_low_from c (plain_low c plain))

-- bytes leave this mode as it is, and in a short string they are text of it
abbrev Keeps : OpenMode → List ℕ → Type 0
Keeps (opens.Short q) text = Stays (opens.Short q) text × IsShortText q text
Keeps other text = Stays other text

keeps_none : (m : OpenMode) → Keeps m []
keeps_none (opens.Short q) = (stays_none (opens.Short q), text_none q)
keeps_none other = stays_none other

keeps_on : (m : OpenMode) (xs ys : List ℕ) → Keeps m xs → Keeps m ys → Keeps m (xs ++ ys)
keeps_on (opens.Short q) xs ys first second = (stays_on (opens.Short q) xs ys first.0 second.0, text_on q xs ys first.1 second.1)
keeps_on other xs ys first second = stays_on other xs ys first second

-- plain bytes do
abbrev TakesPlain : OpenMode → Type 0
TakesPlain m = (c : ℕ) → is_plain c ≡ true → Keeps m (c ∷ [])

keeps_plain : (m : OpenMode) → TakesPlain m → (text : List ℕ) → list_all is_plain text ≡ true → Keeps m text
keeps_plain m each [] all = keeps_none m
keeps_plain m each (c ∷ cs) all =
    let parts = and_parts (is_plain c) (list_all is_plain cs) all in keeps_on m (c ∷ []) cs (each c parts.0) (keeps_plain m each cs parts.1)

-- so do the bytes after this one, up to a byte that isn't plain, or all; they hold no line end
pub record Reads (m : OpenMode) (bytes : List ℕ) (at end : ℕ) (marks : Marks) : Type 0 where
  pub plain : TakesPlain m
  pub further : at < end
  pub keeps : Keeps m (between bytes (at + 1) end)
  pub counted : NoEnds bytes (at + 1) end
  pub from : ℕ
  pub next : FindsNext bytes from end marks

-- a byte that isn't plain does so, or some, after which the marks are these
pub record Item (m : OpenMode) (bytes : List ℕ) (end : ℕ) (marks : Marks) : Type 0 where
  pub len : ℕ
  pub some : 0 < len
  pub marked : HasMarks bytes (end + len) marks
  pub keeps : Keeps m (between bytes end (end + len))
  pub counted : NoEnds bytes end (end + len)

keeps_between : (m : OpenMode) {bytes : List ℕ} (from end : ℕ) {marks : Marks} → TakesPlain m → FindsNext bytes from end marks
    → Keeps m (between bytes from end)
keeps_between m {bytes} from end {marks} plain next =
    keeps_plain m plain (between bytes from end) (plain_between bytes from end marks next end next.after (omega arith))

module _ {m : OpenMode} {bytes : List ℕ} {end : ℕ} {marks : Marks} where
  abbrev one_item : end < length bytes → HasMarks bytes (end + 1) marks → is_line_byte (slice_index bytes end) ≡ true
      → Keeps m (slice_index bytes end ∷ []) → Item m bytes end marks
  one_item within marked is keeps =
      let some : 0 < 1 = omega arith in let all = subst (Keeps m) (sym (one_between bytes end within)) keeps in
      record { len = 1; some = some; marked = marked; keeps = all; counted = line_byte_counts bytes end within is }

  reads_begun : TakesPlain m → {at : ℕ} → FindsNext bytes (at + 1) end marks → Reads m bytes at end marks
  reads_begun plain {at} next = record {
    plain = plain;
    further = omega (arith, next.after);
    keeps = keeps_between m (at + 1) end plain next;
    counted = plain_counts bytes (at + 1) end next.after next.within next.plain;
    from = at + 1;
    next = next;
  }

-- from one byte that isn't plain to the next
pub reads_on : {m : OpenMode} {bytes : List ℕ} {at end to : ℕ} {marks mid_marks next_marks : Marks} → Reads m bytes at end marks
    → (item : Item m bytes end mid_marks) → FindsNext bytes (end + item.len) to next_marks → Reads m bytes at to next_marks
reads_on {m} {bytes} {at} {end} {to} {next_marks = next_marks} reads item next =
    let then : ℕ = end + item.len in
    let all : between bytes (at + 1) to ≡ between bytes (at + 1) end ++ (between bytes end then ++ between bytes then to) =
    between-append bytes (at + 1) end to (omega (arith, reads.further)) (omega (arith, next.after))
    ∙ ap (λ x. between bytes (at + 1) end ++ x) (between-append bytes end then to (omega arith) next.after) in
    record {
      plain = reads.plain;
      further = omega (arith, reads.further, next.after);
      keeps = subst (Keeps m) (sym all) (keeps_on m (between bytes (at + 1) end) _ reads.keeps
          (keeps_on m (between bytes end then) (between bytes then to) item.keeps (keeps_between m then to reads.plain next)));
      counted = plain_counts bytes then to next.after next.within next.plain ∙ item.counted ∙ reads.counted;
      from = then;
      next = next;
    }

-- two bytes
two_between : (bytes : List ℕ) (end : ℕ) → end + 1 < length bytes → between bytes end (end + 2) ≡ slice_index bytes end ∷ slice_index bytes (end + 1) ∷ []
two_between bytes end within = grind (arith, taken_two, length-drop, first_later, get_or-drop)

-- of two quotes the second is as the first
pub second_quote : (bytes : List ℕ) → Some 2 ≡ quotes_in bytes → (1 < length bytes) × (slice_index bytes 1 ≡ slice_index bytes 0)
second_quote bytes two = grind arith

-- a comment
abbrev pub ReadsComment : List ℕ → ℕ → ℕ → Marks → Type 0
ReadsComment = Reads opens.Comment

pub comment_begun : {bytes : List ℕ} {at end : ℕ} {marks : Marks} → FindsNext bytes (at + 1) end marks → ReadsComment bytes at end marks
unfolding is_break
comment_begun =
    reads_begun (λ c plain. comment_byte c
    (and_from _ _ (is_low_from c (plain_low c plain)) (ap not (or_parts (c == 92) (is_break c) (plain_whole c plain)).1)))

abbrev pub comment_item : {bytes : List ℕ} {end : ℕ} {marks : Marks} → end < length bytes → HasMarks bytes (end + 1) marks
    → is_line_byte (slice_index bytes end) ≡ true → Item opens.Comment bytes end marks
comment_item within marked is = one_item within marked is (comment_byte _ is)

pub comment_passed : (bytes : List ℕ) (at end : ℕ) (last_marks : Marks) (old : Passing) (m : Marks) (b : List Frame) (place : ℕ)
    → FindsNext bytes old.all at old.marks → ReadsComment bytes at end last_marks → end < length bytes
    → is_hash (slice_index bytes at) ≡ true → is_break (slice_index bytes end) ≡ true → HasMarks bytes end m
    → PassesSo bytes at place old b (passed_to old end old.ends m) b
unfolding is_hash
comment_passed bytes at end last_marks old m b place next reads within hash ends marked =
    let text : List ℕ = between bytes (at + 1) end in let upto : at + 1 ≤ end = omega (arith, reads.further) in
    let size : length (slice_index bytes at ∷ text) ≡ end - at = omega (arith, cut-length bytes (at + 1) end upto (omega (arith, within)), reads.further) in
    let split : text ++ slice_index bytes end ∷ drop (end + 1) bytes ≡ drop (at + 1) bytes = sym (cut bytes (at + 1) end upto within) in
    let here : at < length bytes = omega (arith, reads.further, within) in
    passes_same bytes at old next here _ b (end - at) place (omega (arith, reads.further)) (omega (arith, reads.further, within))
    (omega (arith, reads.further)) refl (ap (λ n. old.ends + n) (reads.counted ∙ byte_counts is_hash refl bytes at here hash)) marked
    (λ scan p frames. transport (λ i. Over p (slice_index bytes at) (split i) (next.special here) (size i) (over_code scan (between bytes old.all at)).frames)
    (comment_over p (slice_index bytes at) (next.special here) text (slice_index bytes end) (drop (end + 1) bytes) hash reads.keeps ends))

-- a string
abbrev pub ReadsText : ℕ → List ℕ → ℕ → ℕ → Marks → Type 0
ReadsText q = Reads (opens.Short q)

abbrev pub TextItem : ℕ → List ℕ → ℕ → Marks → Type 0
TextItem q = Item (opens.Short q)

module _ (q : ℕ) (quote : is_quote q ≡ true) {bytes : List ℕ} {end : ℕ} {marks : Marks} where
  pub text_begun : is_plain q ≡ false → {at : ℕ} → FindsNext bytes (at + 1) end marks → ReadsText q bytes at end marks
  text_begun special = reads_begun (λ c plain. let is = plain_text q c special plain in (text_byte q quote c is, text_one q c is))

  pub text_item : end < length bytes → HasMarks bytes (end + 1) marks → (slice_index bytes end ≡ q → ⊥) → (slice_index bytes end ≡ 92 → ⊥)
      → is_line_byte (slice_index bytes end) ≡ true → TextItem q bytes end marks
  unfolding is_body_byte is_backslash is_break
  text_item within marked other apart is =
      let c = slice_index bytes end in let parts = and_parts (nat_lt c 128) (not (is_break c)) is in
      let text : is_text_byte q c ≡ true = and_from _ _ (rw (ne_eqb c q other, ne_eqb c 92 apart) parts.1) parts.0 in
      one_item within marked is (text_byte q quote c text, text_one q c text)

  pub escape_item : HasMarks bytes (end + 2) marks → slice_index bytes end ≡ 92 → end + 1 < length bytes
      → is_line_byte (slice_index bytes (end + 1)) ≡ true → TextItem q bytes end marks
  unfolding is_break is_backslash
  escape_item marked slash within is =
      let two : 0 < 2 = omega arith in let c = slice_index bytes (end + 1) in
      let both : end + 2 ≡ end + 1 + 1 = omega arith in let low = and_parts (nat_lt c 128) (not (is_break c)) is in
      record {
        len = 2;
        some = two;
        marked = marked;
        keeps = subst (Keeps (opens.Short q)) (sym (two_between bytes end within ∙ ap (λ (x : ℕ). x ∷ c ∷ []) slash)) (
          escape_stays q quote c (ltb-true c 128 low.0) (not-true _ low.1),
          record { items = (92 ∷ c ∷ []) ∷ []; spell = refl; each = refl; inside = and_from (is_line_byte c) true is refl },
        );
        counted = ap (λ (n : ℕ). line_ends (drop n bytes)) both ∙ line_byte_counts bytes (end + 1) within is
            ∙ byte_counts is_backslash refl bytes end (omega (arith, within)) (ap is_backslash slash);
      }

-- text isn't empty between quotes of which the first stands alone
full_between : (q : ℕ) (text rest : List ℕ) → Some 1 ≡ quotes_in (q ∷ (text ++ q ∷ rest)) → IsFull text
full_between q text rest one = grind arith

module _ (bytes : List ℕ) (at end : ℕ) {marks : Marks} (reads : ReadsText (slice_index bytes at) bytes at end marks) (within : end < length bytes)
    (quote : is_quote (slice_index bytes at) ≡ true) (closes : slice_index bytes end ≡ slice_index bytes at) (alone : Some 1 ≡ quotes_in (drop at bytes)) where
  abbrev q : ℕ
  q = slice_index bytes at

  here : at < length bytes
  here = omega (arith, reads.further, within)

  upto : at + 1 ≤ end
  upto = omega (arith, reads.further)

  split : between bytes (at + 1) end ++ q ∷ drop (end + 1) bytes ≡ drop (at + 1) bytes
  split = ap (λ c. between bytes (at + 1) end ++ c ∷ drop (end + 1) bytes) (sym closes) ∙ sym (cut bytes (at + 1) end upto within)

  pub string_at : IsShortStringAt bytes at (end + 1)
  string_at =
      let text = between bytes (at + 1) end in let spell = ap (λ x. q ∷ x) split ∙ sym (bytes_from bytes at here) in
      let size : length text + 2 ≡ end + 1 - at = omega (arith, cut-length bytes (at + 1) end upto (omega (arith, within)), upto) in
      let full = full_between q text (drop (end + 1) bytes) (alone ∙ ap quotes_in (sym spell)) in
      record { q = q; text = text; spell = spell; size = size; quote = quote; full = full; is = reads.keeps.1 }

  pub string_passed : (old : Passing) (b : List Frame) (place : ℕ) → FindsNext bytes old.all at old.marks
      → TellsFields (word_before bytes at old) (Some false) → PassesSo bytes at place old b (passed_to old (end + 1) old.ends marks) b
  unfolding string_at
  string_passed old b place next before =
      let s = string_at in let far : 1 + (length s.text + 1) ≡ end + 1 - at = omega (arith, s.size) in
      passes_same bytes at old next here _ b (end + 1 - at) place (omega (arith, reads.further)) (omega (arith, reads.further, within))
      (omega (arith, reads.further)) refl
      (ap (λ n. old.ends + n) (quoted_counts bytes at end (end + 1) refl here within quote closes reads.counted)) (reads.next.rest within)
      (λ scan p frames. transport (λ i. Over p q (split i) (next.special here) (far i) (over_code scan (between bytes old.all at)).frames)
      (string_over p q (next.special here) quote s.text (drop (end + 1) bytes) (alone ∙ ap quotes_in (sym s.spell)) reads.keeps.0 before))
