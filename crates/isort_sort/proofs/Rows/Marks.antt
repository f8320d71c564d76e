-- The byte order mark of a line, and what stands after it.
use Rattle.std.proofs.Common.{◌≡◌, ℕ, ◌+◌, ◌≤◌, Bool, true, false, not, cond, Option, None, Some, List, [], ◌∷◌, ◌++◌, length, take, drop, slice_get, suc, nat_eq, refl, sym, ap, ◌∙◌, subst, arith}
use Rattle.std.specs.List.{starts_with}
use Rattle.std.specs.Str.{IsUtf8, IsCharBoundary}
use Rattle.std.proofs.lemmas.Bool.{eqb-true}
use Rattle.std.proofs.lemmas.Bool.Decides.{Decides-eqb}
use Rattle.std.proofs.lemmas.List.{length-take-le}
use Rattle.std.proofs.lemmas.Slice.Eq.{starts_is}
use Rattle.std.proofs.Math.Utf8.{encode}
use Rattle.std.proofs.lemmas.Str.{IsCharBoundary-start, IsCharBoundary-past_char, IsUtf8-drop, IsUtf8-nil, IsUtf8-encode}
use Rattle.py_lines.specs.LogicalLine.{LogicalLine}
use Rattle.py_lines.specs.Token.{EachLiesIn}
use Rattle.py_lines.specs.declared.token.Token.{Token}
use Rattle.py_imports.specs.Shape.{mark_len, begins_at, stands_first}
use Rattle.py_imports.specs.Statement.{is_comment, significant}

-- U+FEFF in UTF-8
abbrev pub mark_bytes : List ℕ
mark_bytes = 239 ∷ 187 ∷ 191 ∷ []

-- a text that begins with a mark
marked : (text : List ℕ) → starts_with nat_eq text mark_bytes ≡ true → text ≡ mark_bytes ++ drop 3 text
marked text h = (starts_is Decides-eqb text mark_bytes (starts_with nat_eq text mark_bytes) refl).0 h

-- what holds at the start, and after a mark, holds after the mark of a line if there is one
by_mark : (P : ℕ → Type 0) (line : LogicalLine) → P 0 → (line.text ≡ mark_bytes ++ drop 3 line.text → P 3) → P (mark_len line)
by_mark P line none some = by (starts_with nat_eq line.text mark_bytes) refl
  where
    by : (b : Bool) → starts_with nat_eq line.text mark_bytes ≡ b → P (cond b 3 0)
    by true e = some (marked line.text e)
    by false e = none

pub mark_within : (line : LogicalLine) → mark_len line ≤ length line.text
mark_within line = by_mark (λ n. n ≤ length line.text) line (omega arith) (λ e. let long : length line.text ≡ suc (suc (suc (length (drop 3 line.text)))) = ap length e in omega arith)

pub mark_boundary : (line : LogicalLine) → IsUtf8 line.text → IsCharBoundary line.text (mark_len line)
unfolding encode
mark_boundary line utf8 = by_mark (IsCharBoundary line.text) line (IsCharBoundary-start line.text utf8) (λ e. IsCharBoundary-past_char line.text (drop 3 line.text) 0 65279 (omega arith) utf8 e)

-- what stands after the mark is UTF-8, and so is the mark
pub rest_utf8 : (line : LogicalLine) → IsUtf8 line.text → IsUtf8 (drop (mark_len line) line.text)
rest_utf8 line utf8 = IsUtf8-drop line.text (mark_len line) utf8 (mark_boundary line utf8)

pub mark_utf8 : (line : LogicalLine) → IsUtf8 (take (mark_len line) line.text)
unfolding encode
mark_utf8 line = by_mark (λ n. IsUtf8 (take n line.text)) line IsUtf8-nil (λ e. subst IsUtf8 (sym (ap (take 3) e)) (IsUtf8-encode 65279 refl))

pub mark_taken : (line : LogicalLine) → length (take (mark_len line) line.text) ≡ mark_len line
mark_taken line = length-take-le (mark_len line) line.text (mark_within line)

-- the first token that is no comment is a token
first_among : (tokens : List Token) (t : Token) → slice_get (significant tokens) 0 ≡ Some t → (i : ℕ) × (slice_get tokens i ≡ Some t)
first_among [] t e = absurd (cc)
first_among (u ∷ us) t e = by (is_comment u.kind) refl (first_among us t)
  where
    by : (b : Bool) → is_comment u.kind ≡ b → (slice_get (significant us) 0 ≡ Some t → (i : ℕ) × (slice_get us i ≡ Some t)) → (i : ℕ) × (slice_get (u ∷ us) i ≡ Some t)
    by true c later = let found = later (sym (ap (λ x. slice_get (cond (not x) (u ∷ significant us) (significant us)) 0) c) ∙ e) in (suc found.0, found.1)
    by false c later = (0, sym (ap (λ x. slice_get (cond (not x) (u ∷ significant us) (significant us)) 0) c) ∙ e)

-- the indentation ends where a character begins
pub indentation_boundary : (line : LogicalLine) → EachLiesIn line.text line.tokens → stands_first line ≡ true → IsCharBoundary line.text (mark_len line + line.indent)
indentation_boundary line each first = by (slice_get (significant line.tokens) 0) refl first
  where
    by : (found : Option Token) → slice_get (significant line.tokens) 0 ≡ found → begins_at (mark_len line + line.indent) found ≡ true → IsCharBoundary line.text (mark_len line + line.indent)
    by None e h = absurd (cc)
    by (Some t) e h =
        let here = first_among line.tokens t e in
        subst (IsCharBoundary line.text) (eqb-true t.start (mark_len line + line.indent) h) (each here.0 t here.1).from
