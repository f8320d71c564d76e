-- Whether the lines of a text ask for it to be left as it is, one line after another.
use Rattle.std.proofs.Common.{◌≡◌, ℕ, suc, ◌+◌, ◌<◌, Bool, true, false, not, cond, ◌&&◌, ◌||◌, nat_lt, Option, None, Some, List, [], ◌∷◌, ◌++◌, length, slice_get, is_some, refl, sym, ap, ◌∙◌, arith}
use Rattle.std.specs.List.{list_any, position, position_or_len}
use Rattle.std.proofs.Math.Bool.{or-false}
use Rattle.std.proofs.lemmas.Bool.{ltb-false}
use Rattle.std.proofs.lemmas.List.Folds.{list_any-append}
use Rattle.std.proofs.lemmas.List.Quantifiers.{position-Some}
use Rattle.std.proofs.lemmas.Option.{slice_get_past}
use Rattle.py_lines.specs.LogicalLine.{LogicalLine}
use Rattle.py_lines.specs.declared.token.TokKind.TheVariants as kind
use Rattle.py_lines.specs.declared.token.Token.{Token}
use Rattle.py_imports.specs.ActionComment.{says}
use Rattle.py_imports.specs.Shape.{is_nothing}
use Rattle.py_imports.specs.Statement.{is_comment, significant}
use Rattle.py_imports.specs.declared.action_comment.ActionComment.TheVariants as action
use Rattle.isort_sort.specs.Line.{comment_texts}
use Rattle.isort_sort.specs.Private.Actions.{asks_to_skip}
use Rattle.isort_sort.specs.Private.Reading.{has_code, ReadsSkip}
use Rattle.isort_sort.specs.Row.{is_string, string_skips, first_string_skips}
use Rattle.isort_sort.specs.declared.skip.SkipReader.{SkipReader}
use Rattle.isort_sort.proofs.Rows.Comments.{token_at, word_at, token_is_at}

-- whether a token is no comment
abbrev is_no_comment : Token → Bool
is_no_comment t = not (is_comment t.kind)

first_at : (tokens : List Token) → slice_get (significant tokens) 0 ≡ slice_get tokens (position_or_len is_no_comment tokens)
first_at [] = refl
first_at (t ∷ ts) = by_kind (first_at ts) (is_comment t.kind) refl
  where
    by_kind : slice_get (significant ts) 0 ≡ slice_get ts (position_or_len is_no_comment ts) → (b : Bool) → is_comment t.kind ≡ b → slice_get (significant (t ∷ ts)) 0 ≡ slice_get (t ∷ ts) (position_or_len is_no_comment (t ∷ ts))
    by_kind later true e = let next : 1 + position_or_len is_no_comment ts ≡ suc (position_or_len is_no_comment ts) = omega arith in rw (e, next) later
    by_kind later false e = rw e refl

-- what was found at the place of the first token that is no comment
first_found : (tokens : List Token) (place : ℕ) → Some place ≡ position is_no_comment tokens → slice_get (significant tokens) 0 ≡ slice_get tokens place
first_found tokens place e = by (nat_lt (position_or_len is_no_comment tokens) (length tokens)) refl
  where
    by : (b : Bool) → nat_lt (position_or_len is_no_comment tokens) (length tokens) ≡ b → slice_get (significant tokens) 0 ≡ slice_get tokens place
    by true h =
        let found : Some place ≡ Some (position_or_len is_no_comment tokens) = e ∙ ap (λ b. cond b (Some (position_or_len is_no_comment tokens)) None) h in
        let same : position_or_len is_no_comment tokens ≡ place = cc in
        first_at tokens ∙ ap (slice_get tokens) same
    by false h = absurd (let missing : Some place ≡ None = e ∙ ap (λ b. cond b (Some (position_or_len is_no_comment tokens)) None) h in cc)

first_missing : (tokens : List Token) → None ≡ position is_no_comment tokens → slice_get (significant tokens) 0 ≡ None
first_missing tokens e = by (nat_lt (position_or_len is_no_comment tokens) (length tokens)) refl
  where
    by : (b : Bool) → nat_lt (position_or_len is_no_comment tokens) (length tokens) ≡ b → slice_get (significant tokens) 0 ≡ None
    by true h = absurd (let found : None ≡ Some (position_or_len is_no_comment tokens) = e ∙ ap (λ b. cond b (Some (position_or_len is_no_comment tokens)) None) h in cc)
    by false h = first_at tokens ∙ slice_get_past tokens (position_or_len is_no_comment tokens) (ltb-false (position_or_len is_no_comment tokens) (length tokens) h)

pub place_within : (tokens : List Token) (place : ℕ) → Some place ≡ position (λ t. not (is_comment t.kind)) tokens → place < length tokens
place_within tokens place e = (position-Some is_no_comment tokens place (record { kind = kind.Name; start = 0; stop = 0; line = 0 }) (sym e)).0

something : (tokens : List Token) → not (is_nothing tokens) ≡ is_some (slice_get tokens 0)
something [] = refl
something (t ∷ ts) = refl

-- whether there is a token that is no comment, by where the first one was found
pub code_found : (line : LogicalLine) (found : Option ℕ) → found ≡ position (λ t. not (is_comment t.kind)) line.tokens → is_some found ≡ has_code line
code_found line None e = sym (something (significant line.tokens) ∙ ap is_some (first_missing line.tokens e))
code_found line (Some place) e = sym (something (significant line.tokens) ∙ ap is_some (first_found line.tokens place e ∙ token_is_at line.tokens place (place_within line.tokens place e)))

-- whether what was found is a string that skips
pub string_at : (line : LogicalLine) (place : ℕ) (is : Bool) → Some place ≡ position (λ t. not (is_comment t.kind)) line.tokens → is ≡ is_string (token_at line.tokens place).kind → is && says action.SkipFile (word_at line.text line.tokens place) ≡ string_skips line (slice_get (significant line.tokens) 0)
string_at line place is e same =
    ap (λ b. b && says action.SkipFile (word_at line.text line.tokens place)) same
    ∙ sym (ap (string_skips line) (first_found line.tokens place e ∙ token_is_at line.tokens place (place_within line.tokens place e)))

pub string_missing : (line : LogicalLine) → None ≡ position (λ t. not (is_comment t.kind)) line.tokens → string_skips line (slice_get (significant line.tokens) 0) ≡ false
string_missing line e = ap (string_skips line) (first_missing line.tokens e)

-- whether one of the lines passes, where one more stands last
pub any_push : (p : LogicalLine → Bool) (lines : List LogicalLine) (line : LogicalLine) → list_any p (lines ++ line ∷ []) ≡ list_any p lines || p line
any_push p lines line = list_any-append p lines (line ∷ []) ∙ ap (λ b. list_any p lines || b) (or-false (p line))

-- the string that the text begins with stands in the first line with a token that is no comment
string_snoc : (ls : List LogicalLine) (l : LogicalLine) → first_string_skips (ls ++ l ∷ []) ≡ first_string_skips ls || (not (list_any has_code ls) && string_skips l (slice_get (significant l.tokens) 0))
string_snoc [] l = by (significant l.tokens)
  where
    by : (ts : List Token) → cond (is_nothing ts) false (string_skips l (slice_get ts 0)) ≡ string_skips l (slice_get ts 0)
    by [] = refl
    by (t ∷ ts) = refl
string_snoc (x ∷ xs) l = by (is_nothing (significant x.tokens)) (string_snoc xs l)
  where
    by : (b : Bool) → first_string_skips (xs ++ l ∷ []) ≡ first_string_skips xs || (not (list_any has_code xs) && string_skips l (slice_get (significant l.tokens) 0)) → cond b (first_string_skips (xs ++ l ∷ [])) (string_skips x (slice_get (significant x.tokens) 0)) ≡ cond b (first_string_skips xs) (string_skips x (slice_get (significant x.tokens) 0)) || (not (not b || list_any has_code xs) && string_skips l (slice_get (significant l.tokens) 0))
    by true later = later
    by false later = sym (or-false (string_skips x (slice_get (significant x.tokens) 0)))

-- one more line
pub skip_pushed : (line : LogicalLine) (old new : SkipReader) → new.skips ≡ old.skips || asks_to_skip old.begun line → new.begun ≡ old.begun || has_code line → ReadsSkip line old new
skip_pushed line old new skips begun lines h = record {
  skips =
      skips
      ∙ (λ i. h.skips i || (says_so line || (not (h.begun i) && string)))
      ∙ mixed (list_any says_so lines) (first_string_skips lines) (says_so line) (not (list_any has_code lines) && string)
      ∙ sym (λ i. any_push says_so lines line i || string_snoc lines line i);
  begun = begun ∙ ap (λ b. b || has_code line) h.begun ∙ sym (any_push has_code lines line);
}
  where
    says_so : LogicalLine → Bool
    says_so l = list_any (says action.SkipFile) (comment_texts l)

    string : Bool
    string = string_skips line (slice_get (significant line.tokens) 0)

    mixed : (a b c d : Bool) → (a || b) || (c || d) ≡ (a || c) || (b || d)
    mixed true b c d = refl
    mixed false true true d = refl
    mixed false true false d = refl
    mixed false false true d = refl
    mixed false false false d = refl
