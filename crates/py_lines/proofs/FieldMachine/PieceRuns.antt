-- The machine with fields goes through the text of a piece that has no fields.
use Rattle.py_lines.proofs.Prelude.{◌≡◌, ℕ, true, false, ◌&&◌, ◌==◌, Some, List, [], ◌∷◌, ◌++◌, length, refl, sym, ap, ◌∙◌, subst, inl, inr, append_assoc, arith, list_all, is_opening, is_closing, piece}
use Rattle.py_lines.specs.Character.{is_word_character, is_word_start, is_quote, is_operator}
use Rattle.py_lines.specs.Piece.{Class, word, string, operator, line_end, Piece, begins}
use Rattle.py_lines.specs.PieceGrammar.{is_prefix, IsPrefix, InPlainClass, MayPrecedeIn}
use Rattle.py_lines.specs.FieldStrings.{is_field_prefix, Host, with_fields}
use Rattle.py_lines.specs.Private.Machine.{Spelling, Mode, Start, class_of, start_of, first_spelling, spelling_on}
use Rattle.py_lines.specs.Private.FieldMachine.{FieldMode, plain, grows, Level, FieldScanned, field_state, field_fresh, plain_move, field_pieces, field_closed, field_move, openers_with, code_operator, field_operator, field_started, frames}
use Rattle.py_lines.proofs.Text.CharacterTests.{prefix_word}
pub use Rattle.py_lines.proofs.Machine.Starts.{opening_operator}
use Rattle.py_lines.proofs.Machine.Starts.{start-word, start-operator, start-quote}
use Rattle.py_lines.proofs.Machine.LiveTexts.{feed-starts}
use Rattle.py_lines.proofs.Machine.PieceSteps.{StopsBefore, EndsWith, ends_before, ends_at, grown-word, IsQuiet, IsRead, at_once, opened, IsPlainClass, is_read}
use Rattle.py_lines.proofs.Machine.Spellings.{prefix_spelling}
use Rattle.py_lines.proofs.Machine.StringSteps.{opens_at}
use Rattle.py_lines.proofs.Fields.Prefixes.{word_quotes}
use Rattle.py_lines.proofs.Fields.Elsewhere.{precede_without, either_prefix}
use Rattle.py_lines.proofs.FieldMachine.Runs.{Goes, StopsAt, goes-append, goes-grown, goes-to, goes-grows, goes-closes, goes-begins, stops-fresh}
use Rattle.py_lines.proofs.FieldMachine.PlainSteps.{no_host, plain_moves, grown-alike, grown-quiet, front_quiet}

-- the machine goes from a state through a text, finds these pieces after those it had, with these brackets open after them, and may stop before the rest
pub record FieldFinds (Room : ℕ → Type 0) (from : FieldScanned) (text : List ℕ) (pieces : List Piece) (after rest : List ℕ) : Type 0 where
  pub done : List Piece
  pub mode : FieldMode
  pub held : List ℕ
  pub goes : Goes Room from text (field_state from.outer done after mode held)
  pub pieces_are : field_closed mode done held ≡ field_pieces from ++ pieces
  pub stops : StopsAt mode held rest

-- where a word ends, it is no prefix of a string with fields
abbrev EndsNoPrefix : Class → List ℕ → List ℕ → Type 0
EndsNoPrefix class text rest = class ≡ word → is_field_prefix text && begins is_quote rest ≡ false

stops_after : (m : Mode) (class : Class) (text rest : List ℕ) → class_of m ≡ class → EndsNoPrefix class text rest → StopsBefore m rest → StopsAt (plain m) text rest
stops_after m class text rest is none stops = grind (arith, plain_moves)

ends_no_prefix : (F : Host → List ℕ → Type 0) (class : Class) (text rest : List ℕ) → MayPrecedeIn (with_fields F) class text rest → EndsNoPrefix class text rest
ends_no_prefix F word text rest before is = (either_prefix (is_prefix text) (is_field_prefix text) (begins is_quote rest) before.1).1
ends_no_prefix F class text rest before is = absurd (cc)

-- an operator in a list, where it neither ends a field nor opens its specification
abbrev pub IsNoColon : List Level → List ℕ → ℕ → Type 0
IsNoColon [] openers c = Unit {0}
IsNoColon (level ∷ outer) openers c = (c == 58) && (length openers == 0) ≡ false

pub operator_stays : (outer : List Level) (done : List Piece) (openers after : List ℕ) (c : ℕ) → openers_with openers c ≡ Some after → IsNoColon outer openers c → field_operator outer done openers c ≡ Some (field_fresh outer (done ++ piece operator (c ∷ []) ∷ []) after)
unfolding code_operator openers_with is_opening is_closing
operator_stays outer done openers after c h none = grind arith

-- the state in which a piece is open after those of another state
abbrev open_at : FieldScanned → Mode → List ℕ → FieldScanned
open_at from m held = field_state from.outer (field_pieces from) from.openers (plain m) held

module _ (Room : ℕ → Type 0) where
  -- a character that opens a piece
  goes-opens : (from : FieldScanned) (c : ℕ) (after : List ℕ) (m : Mode) → StopsAt from.mode from.held (c ∷ after) → start_of c ≡ Start.Open m → Goes Room from (c ∷ []) (open_at from m (c ∷ []))
  goes-opens from c after m stops starts_as =
      goes-begins Room from (open_at from m (c ∷ [])) _ c [] stops (ap (field_started from.outer (field_pieces from) from.openers c) starts_as) (λ opens. absurd (cc (start-operator c (opening_operator c opens), starts_as))) refl

  -- a piece is found that a character ends, with none open after it
  pub fresh_found : (from : FieldScanned) (class : Class) (text after rest : List ℕ) → Goes Room from text (field_fresh from.outer (field_pieces from ++ piece class text ∷ []) after) → FieldFinds Room from text (piece class text ∷ []) after rest
  fresh_found from class text after rest goes = record { done = field_pieces from ++ piece class text ∷ []; mode = plain Mode.Free; held = []; goes = goes; pieces_are = refl; stops = stops-fresh rest }

  -- the open piece goes on and ends as in the other machine
  ends_found : (from : FieldScanned) (class : Class) (text first others rest : List ℕ) (m : Mode) → text ≡ first ++ others → Goes Room from first (open_at from m first) → IsQuiet m others → EndsWith class m others rest → EndsNoPrefix class text rest → FieldFinds Room from text (piece class text ∷ []) from.openers rest
  ends_found from class text first others rest m is goes quiet (ends_before n grown shape stops) none = record {
    done = field_pieces from;
    mode = plain n;
    held = text;
    goes = subst (λ t. Goes Room from t (open_at from n t)) (sym is)
        (goes-append Room from (open_at from m first) _ first others goes (goes-grown Room from.outer (field_pieces from) from.openers (plain m) (plain n) first others (grown-alike m n others quiet grown)));
    pieces_are = shape.1 (field_pieces from) text ∙ ap (λ k. field_pieces from ++ piece k text ∷ []) shape.0;
    stops = stops_after n class text rest shape.0 none stops;
  }
  ends_found from class text first others rest m is goes quiet (ends_at n front c cut grown class_is closing) none =
      let last : FieldScanned = open_at from n (first ++ front) in
      let whole : first ++ others ≡ (first ++ front) ++ c ∷ [] = ap (λ t. first ++ t) cut ∙ sym (append_assoc first front (c ∷ [])) in
      let silent = grown-quiet m n front (c ∷ []) (subst (IsQuiet m) cut quiet) grown in
      let run = goes-append Room from (open_at from m first) last first front goes
      (goes-grown Room from.outer (field_pieces from) from.openers (plain m) (plain n) first front (grown-alike m n front (front_quiet m front (c ∷ []) (subst (IsQuiet m) cut quiet)) grown)) in
      fresh_found from class text from.openers rest
      (subst (λ t. Goes Room from t (field_fresh from.outer (field_pieces from ++ piece class t ∷ []) from.openers)) (sym (is ∙ whole))
      (goes-to Room from _ _ ((first ++ front) ++ c ∷ []) (goes-append Room from last _ (first ++ front) (c ∷ []) run
      (goes-closes Room last c (plain_moves n (first ++ front) c (no_host n (first ++ front) c [] silent) ∙ ap plain_move closing)))
      (ap (λ k. field_fresh from.outer (field_pieces from ++ piece k ((first ++ front) ++ c ∷ []) ∷ []) from.openers) class_is)))

  -- a space, a word, a comment, a join or a line end
  pub plain_found : (F : Host → List ℕ → Type 0) (from : FieldScanned) (class : Class) (text rest : List ℕ) → IsPlainClass class → InPlainClass class text → MayPrecedeIn (with_fields F) class text rest → StopsAt from.mode from.held (text ++ rest) → FieldFinds Room from text (piece class text ∷ []) from.openers rest
  unfolding is_opening
  plain_found F from class text rest plain_class is before stops = go (is_read class text rest plain_class is (precede_without F class text rest before)) where
    go : IsRead class text rest → FieldFinds Room from text (piece class text ∷ []) from.openers rest
    go (at_once so feed) =
        subst (λ p. FieldFinds Room from p.text (p ∷ []) from.openers rest) (ap (λ k. piece k (10 ∷ [])) (sym so) ∙ ap (piece class) (sym feed))
        (fresh_found from line_end (10 ∷ []) from.openers rest
        (goes-begins Room from _ _ 10 [] (subst (λ t. StopsAt from.mode from.held (t ++ rest)) feed stops)
        (ap (field_started from.outer (field_pieces from) from.openers 10) feed-starts) (λ opens. absurd (cc)) refl))
    go (opened c cs m spell starts_as quiet ends) =
        ends_found from class text (c ∷ []) cs rest m spell (goes-opens from c (cs ++ rest) m (subst (λ t. StopsAt from.mode from.held (t ++ rest)) spell stops) starts_as) quiet ends (ends_no_prefix F class text rest before)

  -- the characters of a word
  pub word_goes : (from : FieldScanned) (a : ℕ) (bs after : List ℕ) → is_word_start a ≡ true → list_all is_word_character bs ≡ true → StopsAt from.mode from.held (a ∷ bs ++ after) → Goes Room from (a ∷ bs) (open_at from (Mode.Word (spelling_on (first_spelling a) bs)) (a ∷ bs))
  word_goes from a bs after starts_so run stops =
      goes-append Room from (open_at from (Mode.Word (first_spelling a)) (a ∷ [])) _ (a ∷ []) bs (goes-opens from a (bs ++ after) _ stops (start-word a starts_so))
      (goes-grown Room from.outer (field_pieces from) from.openers (plain (Mode.Word (first_spelling a))) (plain _) (a ∷ []) bs (grown-alike (Mode.Word (first_spelling a)) _ bs (inr (word_quotes bs run)) (grown-word (first_spelling a) bs run)))

  -- a prefix without `f` and `t`, and the quote after it
  pub plain_opens : (from : FieldScanned) (prefix : List ℕ) (q : ℕ) (after : List ℕ) → IsPrefix prefix → is_field_prefix prefix ≡ false → is_quote q ≡ true → StopsAt from.mode from.held (prefix ++ q ∷ after) → Goes Room from (prefix ++ q ∷ []) (open_at from (Mode.Opened q) (prefix ++ q ∷ []))
  plain_opens from [] q after is no_field quotes stops = goes-opens from q after (Mode.Opened q) stops (start-quote q quotes)
  plain_opens from (a ∷ bs) q after (inl none) no_field quotes stops = absurd (cc)
  plain_opens from (a ∷ bs) q after (inr is) no_field quotes stops =
      let letters = prefix_word a bs is in let s : Spelling = spelling_on (first_spelling a) bs in
      let named_at : FieldScanned = open_at from (Mode.Word s) (a ∷ bs) in
      let quote_moves : field_move (plain (Mode.Word s)) (a ∷ bs) q ≡ grows (plain (Mode.Opened q)) =
      plain_moves (Mode.Word s) (a ∷ bs) q (ap (λ b. b && is_quote q) no_field) ∙ ap plain_move (opens_at s q (sym (prefix_spelling a bs) ∙ is) quotes) in
      goes-append Room from named_at _ (a ∷ bs) (q ∷ []) (word_goes from a bs (q ∷ after) letters.0 letters.1 stops) (goes-grows Room named_at _ (plain (Mode.Opened q)) q [] quote_moves refl)

  -- a string without fields
  pub string_found : (from : FieldScanned) (text prefix : List ℕ) (q : ℕ) (body rest : List ℕ) → text ≡ prefix ++ q ∷ body → IsPrefix prefix → is_field_prefix prefix ≡ false → is_quote q ≡ true → EndsWith string (Mode.Opened q) body rest → StopsAt from.mode from.held (text ++ rest) → FieldFinds Room from text (piece string text ∷ []) from.openers rest
  string_found from text prefix q body rest is begins_so no_field quotes ends stops =
      ends_found from string text (prefix ++ q ∷ []) body rest (Mode.Opened q) (is ∙ sym (append_assoc prefix (q ∷ []) body))
      (plain_opens from prefix q (body ++ rest) begins_so no_field quotes (subst (StopsAt from.mode from.held) (ap (λ t. t ++ rest) is ∙ append_assoc prefix (q ∷ body) rest) stops))
      (inl refl) ends (λ so. absurd (cc))

  -- an operator in its list
  pub operator_found : (from : FieldScanned) (c : ℕ) (after rest : List ℕ) → is_operator c ≡ true → openers_with from.openers c ≡ Some after → IsNoColon from.outer from.openers c → (is_opening c ≡ true → Room (frames from)) → StopsAt from.mode from.held (c ∷ rest) → FieldFinds Room from (c ∷ []) (piece operator (c ∷ []) ∷ []) after rest
  operator_found from c after rest passes opens none room stops = fresh_found from operator (c ∷ []) after rest
      (goes-begins Room from (field_fresh from.outer (field_pieces from ++ piece operator (c ∷ []) ∷ []) after) _ c [] stops
      (ap (field_started from.outer (field_pieces from) from.openers c) (start-operator c passes) ∙ operator_stays from.outer (field_pieces from) from.openers after c opens none) room refl)
