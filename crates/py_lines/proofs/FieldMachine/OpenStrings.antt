-- The machine with fields goes from the start of a string that is open up to a spot into that spot.
use Rattle.py_lines.proofs.Prelude.{◌≡◌, ℕ, ◌+◌, ◌==◌, eqb, Bool, true, false, List, [], ◌∷◌, ◌++◌, inl, inr, length, refl, sym, ap, ◌∙◌, subst, append_assoc, append-nil, arith, is_mark, is_quote, Piece, begins, spelled}
use Rattle.py_lines.specs.PieceGrammar.{joined, has_triple}
use Rattle.py_lines.specs.Fields.{Fields}
use Rattle.py_lines.specs.OpenFields.{Spot, literal_after, specification_after, IsOpenString, in_literal, in_specification, IsOpenUpTo, IsUnescaped}
use Rattle.py_lines.specs.FieldStrings.{Host, Place, literal, specification, quotes_of, begins_open, named_through}
use Rattle.py_lines.specs.Private.FieldMachine.{before, At, between, after_slash, FieldMode, opened, body, Level, FieldScanned, field_state, field_pieces, field_move, opening_move, between_move, levels_open}
use Rattle.py_lines.proofs.Text.CharacterTests.{not_quote, slash-not-quote}
use Rattle.py_lines.proofs.Machine.OpenStrings.{start-not-mark}
use Rattle.py_lines.proofs.Fields.Elsewhere.{quotes_begin}
use Rattle.py_lines.proofs.Fields.Prefixes.{field_letters}
use Rattle.py_lines.proofs.Fields.Parts.{begins_same, some_head, fields_begin}
use Rattle.py_lines.proofs.FieldMachine.Runs.{NoLimit, Goes, StopsAt, goes-append, goes-grows}
use Rattle.py_lines.proofs.FieldMachine.StringParts.{settled, MayGoOn, goes_on, body_moves, slash_grows, open_moves}
use Rattle.py_lines.proofs.FieldMachine.StringRuns.{opened_moves, IsInLiteral, in_body, at_quote, literal_goes}
use Rattle.py_lines.proofs.FieldMachine.CodeRuns.{opens_text, specification_goes}
use Rattle.py_lines.proofs.FieldMachine.Completeness.{fields_run, passed_any}

-- The mode of a string that is open up to a spot, before the rest: in its body; or after its first quote, if it is short and holds nothing yet.
pub data IsInString (host : Host) (place : Place) (named : Bool) (mode : FieldMode) (rest : List ℕ) : Type 0 where
  in_part : (at : At) → mode ≡ body host place named at → MayGoOn host place named at rest → IsInString host place named mode rest
  at_first : mode ≡ opened host → place ≡ literal → named ≡ false → host.is_long ≡ false → IsInString host place named mode rest

from_literal : (host : Host) (named : Bool) (mode : FieldMode) (text rest : List ℕ) (tail : List (List ℕ)) → IsInLiteral host named mode text rest tail → IsInString host literal named mode rest
from_literal host named mode text rest tail (in_body at is on open_yet) = in_part at is on
from_literal host named mode text rest tail (at_quote prefix is spell begun short unnamed) = at_first is refl unnamed short

-- its quote, and its first character
pub open_quotes : (host : Host) (spot : Spot) (front rest : List ℕ) → IsOpenString host spot front rest → is_quote host.quote ≡ true
open_quotes host spot front rest (in_literal _ _ _ prefix parts is spell begun raw quotes each open_yet) = quotes
open_quotes host spot front rest (in_specification _ round _ _ opening inside parts is spell string may are_inside each open_yet) = open_quotes host round opening _ string

pub open_begins : (host : Host) (spot : Spot) (front rest more : List ℕ) → IsOpenString host spot front rest → (c : ℕ) × (cs : List ℕ) × (front ++ more ≡ c ∷ cs) × (is_mark c ≡ false)
open_begins host spot front rest more (in_literal _ _ _ prefix parts is spell begun raw quotes each open_yet) =
    let letters = field_letters prefix begun in
    (letters.first, _, ap (λ t. t ++ more) (spell ∙ ap (λ t. t ++ (quotes_of host ++ joined parts)) letters.is), start-not-mark letters.first letters.starts)
open_begins host spot front rest more (in_specification _ round _ _ opening inside parts is spell string may are_inside each open_yet) =
    let inner = open_begins host round opening _ ((123 ∷ spelled inside ++ (58 ∷ joined parts)) ++ more) string in
    (inner.0, inner.1, ap (λ t. t ++ more) spell ∙ append_assoc opening (123 ∷ spelled inside ++ (58 ∷ joined parts)) more ∙ inner.2, inner.3)

pub open_unmarked : (host : Host) (spot : Spot) (front rest more : List ℕ) → IsOpenString host spot front rest → begins is_mark (front ++ more) ≡ false
open_unmarked host spot front rest more string =
    let first = open_begins host spot front rest more string in subst (λ t. begins is_mark t ≡ false) (sym first.2) first.3

-- what another character than its quote does there
string_moves : (host : Host) (place : Place) (named : Bool) (mode : FieldMode) (held : List ℕ) (c : ℕ) (rest : List ℕ) → IsInString host place named mode (c ∷ rest) → eqb c host.quote ≡ false → (at : At) × (field_move mode held c ≡ between_move host place named at c)
string_moves host place named mode held c rest (in_part at is on) other = (settled at, ap (λ m. field_move m held c) is ∙ body_moves host place named at held c rest on)
string_moves host place named mode held c rest (at_first is place_is unnamed short) other =
    (between, rw (is, place_is, unnamed) (opened_moves host held c other ∙ body_moves host literal false between held c rest (goes_on host literal false (c ∷ rest))))

-- the `{` of a field
pub brace_opens : (host : Host) (place : Place) (mode : FieldMode) (held rest : List ℕ) → IsInString host place false mode (123 ∷ rest) → is_quote host.quote ≡ true → field_move mode held 123 ≡ opening_move host place
unfolding is_quote
brace_opens host place mode held rest stands quotes =
    let move = string_moves host place false mode held 123 rest stands (not_quote 123 host.quote quotes refl) in move.1 ∙ open_moves host place move.0 quotes

-- in a specification, the field whose specification it is opened after this text of the string
abbrev pub HasOpened : Place → List Level → List ℕ → Type 0
HasOpened literal outer text = Unit {0}
HasOpened specification [] text = ⊥
HasOpened specification (l ∷ ls) text = l.front ≡ text ++ 123 ∷ []

-- the machine goes from the string's start to the spot
pub record StringRun (from : FieldScanned) (host : Host) (spot : Spot) (front rest : List ℕ) : Type 0 where
  pub outer : List Level
  pub done : List Piece
  pub openers : List ℕ
  pub mode : FieldMode
  pub goes : Goes NoLimit from front (field_state outer done openers mode front)
  pub stands : IsInString host spot.place spot.named mode rest
  pub start_is : before spot.place outer ++ spelled done ≡ before literal from.outer ++ spelled (field_pieces from)
  pub depth_is : length openers + levels_open outer ≡ length from.openers + levels_open from.outer + spot.specifications
  pub field_is : HasOpened spot.place outer spot.field

first_quote : (host : Host) (prefix later more : List ℕ) → (after : List ℕ) × ((prefix ++ (quotes_of host ++ later)) ++ more ≡ prefix ++ host.quote ∷ after)
first_quote host prefix later more =
    let begin_quotes = quotes_begin host in
    ((begin_quotes.0 ++ later) ++ more, ap (λ t. (prefix ++ (t ++ later)) ++ more) begin_quotes.1 ∙ append_assoc prefix (host.quote ∷ (begin_quotes.0 ++ later)) more)

pub string_runs : (from : FieldScanned) (host : Host) (spot : Spot) (front rest : List ℕ) → IsOpenString host spot front rest → StopsAt from.mode from.held (front ++ rest) → StringRun from host spot front rest
string_runs from host spot front rest (in_literal _ _ _ prefix parts is spell begun raw quotes each open_yet) stops =
    let text : List ℕ = prefix ++ (quotes_of host ++ joined parts) in let first = first_quote host prefix (joined parts) rest in
    let run = literal_goes NoLimit from Fields fields_begin (fields_run from.outer (field_pieces from) from.openers) host prefix parts rest first.0 [] begun raw quotes each
    (subst (λ l. has_triple host.quote l ≡ false) (sym (append-nil parts)) open_yet) (subst (StopsAt from.mode from.held) (ap (λ t. t ++ rest) spell ∙ first.1) stops) in
    subst (λ s. StringRun from host s front rest) (sym is) (subst (λ t. StringRun from host (literal_after parts) t rest) (sym spell) (record {
      outer = from.outer;
      done = field_pieces from;
      openers = from.openers;
      mode = run.mode;
      goes = run.goes;
      stands = from_literal host _ run.mode text rest [] run.stands;
      start_is = refl;
      depth_is = omega arith;
      field_is = tt;
    }))
string_runs from host spot front rest (in_specification _ round _ _ opening inside parts is spell string may are_inside each open_yet) stops =
    let code : List ℕ = spelled inside ++ (58 ∷ joined parts) in let later : List ℕ = 123 ∷ spelled inside ++ (58 ∷ joined parts ++ rest) in
    let whole : front ++ rest ≡ opening ++ later = simp (spell, append_assoc) in
    let inner = string_runs from host round opening later string (subst (StopsAt from.mode from.held) whole stops) in
    let quotes = open_quotes host round opening later string in
    let outer : List Level = record { done = inner.done; openers = inner.openers; host = host; place = round.place; front = opening ++ 123 ∷ [] } ∷ inner.outer in
    let run = specification_goes NoLimit inner.outer inner.done inner.openers host (λ d. Fields) (λ d. fields_begin) fields_run Fields round.place opening inside parts rest quotes are_inside
    (passed_any Fields _ inside (58 ∷ []) are_inside.fit) each open_yet in let mode : FieldMode = body host specification (named_through false parts) run.to in
    let last : FieldScanned = field_state outer [] [] mode (opening ++ (123 ∷ code)) in let full = some_head (spelled inside) 58 (joined parts) in
    let stands = subst (λ n. IsInString host round.place n inner.mode later) may.unnamed inner.stands in
    let single : round.place ≡ literal → begins_open code ≡ false = λ at. begins_same (λ c. c == 123) (spelled inside) 58 (joined parts) [] ∙ may.single at in
    let opened_run = opens_text NoLimit inner.outer inner.done inner.openers host round.place inner.mode opening code full.0 full.1 last full.2 (brace_opens host round.place inner.mode opening _ stands quotes) tt single run.goes in
    subst (λ s. StringRun from host s front rest) (sym is) (subst (λ t. StringRun from host (specification_after round opening parts) t rest) (sym spell) (record {
      outer = outer;
      done = [];
      openers = [];
      mode = mode;
      goes = goes-append NoLimit from (field_state inner.outer inner.done inner.openers inner.mode opening) last opening (123 ∷ code) inner.goes opened_run;
      stands = in_part run.to refl run.on;
      start_is = append-nil _ ∙ inner.start_is;
      depth_is = omega (arith, inner.depth_is);
      field_is = refl;
    }))

-- where the string is open up to a backslash after the spot
pub up_to_runs : (from : FieldScanned) (host : Host) (spot : Spot) (front : List ℕ) → IsOpenUpTo host spot front → StopsAt from.mode from.held front → StringRun from host spot front []
up_to_runs from host spot front is stops = go is.escapes where
  run : StringRun from host spot is.body is.last
  run = string_runs from host spot is.body is.last is.string (subst (StopsAt from.mode from.held) is.spell stops)

  go : IsUnescaped is.last → StringRun from host spot front []
  go (inl none) =
      subst (λ t. StringRun from host spot t []) (sym (append-nil is.body) ∙ ap (λ t. is.body ++ t) (sym none) ∙ sym is.spell) (subst (StringRun from host spot is.body) none run)
  go (inr (s, one, slashes)) =
      let quotes = open_quotes host spot is.body is.last is.string in let other = not_quote s host.quote quotes (slash-not-quote s slashes) in
      let move = string_moves host spot.place spot.named run.mode is.body s [] (subst (IsInString host spot.place spot.named run.mode) one run.stands) other in
      let before_slash : FieldScanned = field_state run.outer run.done run.openers run.mode is.body in
      subst (λ t. StringRun from host spot t []) (ap (λ t. is.body ++ t) (sym one) ∙ sym is.spell) (record {
        outer = run.outer;
        done = run.done;
        openers = run.openers;
        mode = body host spot.place spot.named after_slash;
        goes = goes-append NoLimit from before_slash _ is.body (s ∷ []) run.goes
            (goes-grows NoLimit before_slash _ (body host spot.place spot.named after_slash) s [] (move.1 ∙ slash_grows host spot.place spot.named move.0 s quotes slashes) refl);
        stands = in_part after_slash refl refl;
        start_is = run.start_is;
        depth_is = run.depth_is;
        field_is = run.field_is;
      })
