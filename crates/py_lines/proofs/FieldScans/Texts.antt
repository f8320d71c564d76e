-- Simple text of a string with fields: the machine goes through it, from one place to another.
use Rattle.py_lines.proofs.Prelude.{◌≡◌, ℕ, ◌+◌, ◌<◌, ◌≤◌, Bool, true, false, not, ◌&&◌, ◌==◌, Some, List, [], ◌∷◌, ◌++◌, length, refl, sym, ap, ◌∙◌, subst, arith, nat_lt, nat_tests, list_all, and_from, and_parts, and_right, both_ways, eq-eqb, list_all-append, is_space, is_quote, is_operator, is_break, is_backslash, is_brace, is_line_feed, Piece, spelled, operator, string, is_opening, is_closing, closing_of, Host, Place, literal, specification, is_plain, piece, eqb-true, false_from_ne_true}
use Rattle.py_lines.specs.Private.Machine.{Mode, Move as moves, Start as starts, IsFull, closed, short_move, move_of, start_of, first_spelling}
use Rattle.py_lines.specs.Private.Mode as modes
use Rattle.py_lines.specs.Private.FieldMachine.{At, FieldMode, between, after_brace, after_slash, plain, body, FieldMove, grows, closes, breaks, begins_code, ends_field, Level, FieldScanned, field_state, field_fresh, field_ended, begins_host, plain_move, between_move, body_move, field_move, field_moved, field_started, field_step, code_operator, openers_with, levels_open, frames, has_room, has_room_at, room_step}
use Rattle.py_lines.specs.Private.Scan.{Goes, KeepsOpen, is_return_at, is_shut}
use Rattle.py_lines.specs.Private.FieldText.{is_apart_mode, is_escaped, InText, AtBrace, AtCode, InCode, StandsInCode, AtSpecification, Leads, level_after, is_code_mode, is_code_bracket}
use Rattle.py_lines.specs.Private.Run.{is_ascii_word, is_text_byte, is_body_byte, is_line_byte, is_literal_byte, is_code_sign, is_code_byte}
use Rattle.py_lines.proofs.Text.CharacterTests.{none_of, not_quote, operator_ascii, excluded}
use Rattle.py_lines.proofs.Machine.Starts.{opens_no, start-word, start-space, start-operator, start-quote}
use Rattle.py_lines.proofs.FieldMachine.Runs.{room_at, room_closes, room_grows, stops-fresh}
use Rattle.py_lines.proofs.FieldMachine.PlainSteps.{plain_moves}
use Rattle.py_lines.proofs.FieldMachine.PieceRuns.{operator_stays}
use Rattle.py_lines.proofs.FieldMachine.ListBrackets.{opening_pushes, closing_pops, others_keep}
use Rattle.py_lines.proofs.FieldMachine.StringParts.{open_moves, other_escaped, second_brace, slash_grows}
use Rattle.py_lines.proofs.FieldMachine.CodeRuns.{brace_ends, code_moves, colon_opens, end_moves}
use Rattle.py_lines.proofs.FieldScans.PlainCode.{code_result, code_results, operator_is, plain_operator, space_is, word_is}
use Rattle.py_lines.proofs.FieldScans.Taking.{goes_on, no_line_end, no_opening, some_level, steps}
use Rattle.py_lines.proofs.FieldScans.Takes.{goes-append}
use Rattle.py_lines.proofs.LineScan.AsciiRuns.{line_byte, operator-no_break, word_starts, low_is, quote_ascii, quote-no_break, space-not-quote, word-no_break}
use Rattle.py_lines.proofs.LineScan.Runs.{body_parts}
use Rattle.py_lines.proofs.FieldMachine.WholeRuns.{roomy_parts}
use Rattle.py_lines.proofs.LogicalLines.Cuts.{break-return}
use Rattle.py_lines.proofs.Machine.PieceSteps.{some_is}

-- where the machine stands: round the string are these fields, and this says which string it is
abbrev pub Spot : Type 1
Spot = List Level → Level → FieldScanned → Type 0

-- the machine goes through these characters so, and leaves a piece open after each that stands in no field
abbrev GoesOpen : FieldScanned → List ℕ → FieldScanned → Type 0
GoesOpen t run u = Goes t run u × KeepsOpen t run

-- one character
one_step : (t next : FieldScanned) (c : ℕ) (v : FieldMove) → is_return_at t.mode ≡ false → is_break c ≡ false → field_move t.mode t.held c ≡ v
    → has_room_at (frames t) c v ≡ true → field_moved t c v ≡ Some next → (next.outer ≡ [] → is_shut next.mode ≡ false) → GoesOpen t (c ∷ []) next
unfolding is_break is_line_feed
one_step t next c v apart none is room comes still = grind (arith, steps, no_line_end, both_ways, goes_on)

-- one by which the text of a string grows
grows_to : (t : FieldScanned) (c : ℕ) (m : FieldMode) → is_return_at t.mode ≡ false → is_break c ≡ false → (t.outer ≡ [] → is_shut m ≡ false)
    → field_move t.mode t.held c ≡ grows m → GoesOpen t (c ∷ []) (field_state t.outer t.done t.openers m (t.held ++ c ∷ []))
grows_to t c m apart none still move =
    one_step t (field_state t.outer t.done t.openers m (t.held ++ c ∷ [])) c (grows m) apart none move (room_grows (frames t) c m) refl still

-- two runs, one after the other
keeps-append : (t u : FieldScanned) (a b : List ℕ) → Goes t a u → KeepsOpen t a → KeepsOpen u b → KeepsOpen t (a ++ b)
keeps-append t u [] b goes keeps second = subst (λ x. KeepsOpen x b) (sym goes) second
keeps-append t u (c ∷ a) b (open_yet, next, step, on, others) (same, again, still, keeps) second =
    (same, again, still, keeps-append same u a b (subst (λ x. Goes x a u) (some_is next same (sym step ∙ again)) others) keeps second)

open-append : (t u v : FieldScanned) (a b : List ℕ) → GoesOpen t a u → GoesOpen u b v → GoesOpen t (a ++ b) v
open-append t u v a b first second = (goes-append t u v a b first.0 second.0, keeps-append t u a b first.0 first.1 second.1)

pub leads-append : (quote : ℕ) (P Q R : Spot) (a b : List ℕ) → Leads quote P a Q → Leads quote Q b R → Leads quote P (a ++ b) R
leads-append quote P Q R a b first second = record {
  low = list_all-append is_line_byte a b ∙ and_from _ _ first.low second.low;
  goes = λ outer l t same quotes room at.
      let (u, goes, keeps, to) = first.goes outer l t same quotes room at in let (v, on, more, end) = second.goes outer l u same quotes room to in
      let all = open-append t u v a b (goes, keeps) (on, more) in (v, all.0, all.1, end);
}

-- what leads so, wherever the string stands
abbrev Few : ℕ → List Level → Level → Type 0
Few quote outer l = (l.host.quote ≡ quote) × (is_quote quote ≡ true) × (length l.openers + levels_open outer ≤ 100)

leads_by : (quote : ℕ) (P Q : Spot) (run : List ℕ) → list_all is_line_byte run ≡ true
    → ((outer : List Level) (l : Level) (t : FieldScanned) → Few quote outer l → P outer l t → (u : FieldScanned) × GoesOpen t run u × Q outer l u)
    → Leads quote P run Q
leads_by quote P Q run low by =
    record { low = low; goes = λ outer l t same quotes room at. let (u, goes, to) = by outer l t (same, quotes, room) at in (u, goes.0, goes.1, to) }

one_low : (c : ℕ) → c < 128 → is_break c ≡ false → list_all is_line_byte (c ∷ []) ≡ true
one_low c low none = and_from _ _ (line_byte c low none) refl

operator_line : (c : ℕ) → is_operator c ≡ true → list_all is_line_byte (c ∷ []) ≡ true
operator_line c h = one_low c (operator_ascii c h) (operator-no_break c h)

-- whether a word stands last, where one stands before or none does
abbrev pub ends_in_word : Bool → List ℕ → Bool
ends_in_word word [] = word
ends_in_word word (c ∷ cs) = ends_in_word (is_ascii_word c) cs

-- a run of characters each of which leads on from where a word stands last, or none does
leads-run : (passes : ℕ → Bool) (quote : ℕ) (P : Bool → Spot) → ((word : Bool) (c : ℕ) → passes c ≡ true → Leads quote (P word) (c ∷ []) (P (is_ascii_word c)))
    → (word : Bool) (run : List ℕ) → list_all passes run ≡ true → Leads quote (P word) run (P (ends_in_word word run))
leads-run passes quote P each word [] all = record { low = refl; goes = λ outer l t same quotes room at. (t, refl, tt, at) }
leads-run passes quote P each word (c ∷ cs) all =
    let parts = and_parts (passes c) (list_all passes cs) all in
    leads-append quote _ _ _ (c ∷ []) cs (each word c parts.0) (leads-run passes quote P each (is_ascii_word c) cs parts.1)

-- or leads back
leads-back : (passes : ℕ → Bool) (quote : ℕ) (P : Spot) → ((c : ℕ) → passes c ≡ true → Leads quote P (c ∷ []) P) → (run : List ℕ)
    → list_all passes run ≡ true → Leads quote P run P
leads-back passes quote P each = leads-run passes quote (λ word. P) (λ word. each) false

-- what grows a string's text
pub text_stays : (h : Host) (place : Place) (named : Bool) (c : ℕ) → c == h.quote ≡ false → is_backslash c ≡ false → is_break c ≡ false
    → is_brace c ≡ false → body_move h place named between c ≡ grows (body h place named between)
unfolding body_move between_move is_brace
text_stays h place named c quote slash none brace = grind (arith, nat_tests)

-- what a character of text is
pub record IsLiteral (quote c : ℕ) : Type 0 where
  pub low : c < 128
  pub other : c == quote ≡ false
  pub slash : is_backslash c ≡ false
  pub none : is_break c ≡ false
  pub brace : is_brace c ≡ false

pub literal_parts : (quote c : ℕ) → is_literal_byte quote c ≡ true → IsLiteral quote c
literal_parts quote c h = grind (arith, nat_tests, body_parts quote c)

text_grows : (h : Host) (quote c : ℕ) → h.quote ≡ quote → IsLiteral quote c → (held : List ℕ) → (place : Place)
    → field_move (body h place false between) held c ≡ grows (body h place false between)
unfolding field_move
text_grows h quote c same is held place = text_stays h place false c (ap (λ (q : ℕ). c == q) same ∙ is.other) is.slash is.none is.brace

-- in the literal part of a string, which has come so far
abbrev InPart : At → Spot
InPart at outer l t = (held : List ℕ) × (t ≡ field_state outer l.done l.openers (body l.host literal false at) held)

part_leads : (quote c : ℕ) (a b : At) → c < 128 → is_break c ≡ false
    → ((host : Host) (held : List ℕ) → host.quote ≡ quote → is_quote host.quote ≡ true → field_move (body host literal false a) held c ≡ grows (body host literal false b))
    → Leads quote (InPart a) (c ∷ []) (InPart b)
part_leads quote c a b low none moves = leads_by quote (InPart a) (InPart b) (c ∷ []) (one_low c low none) (λ outer l t few (held, is).
    let next : FieldScanned = field_state outer l.done l.openers (body l.host literal false b) (held ++ c ∷ []) in
    let goes = grows_to (field_state outer l.done l.openers (body l.host literal false a) held) c (body l.host literal false b) refl none (λ outside. refl)
    (moves l.host held few.0 (ap is_quote few.0 ∙ few.1)) in
    (next, subst (λ x. GoesOpen x (c ∷ []) next) (sym is) goes, (held ++ c ∷ [], refl)))

pub texts_lead : (quote : ℕ) (run : List ℕ) → list_all (is_literal_byte quote) run ≡ true → Leads quote InText run InText
texts_lead quote = leads-back (is_literal_byte quote) quote InText (λ c h. let is = literal_parts quote c h in
    part_leads quote c between between is.low is.none (λ host held same quotes. text_grows host quote c same is held literal))

-- `}` and `{{`
pub brace_leads : (quote : ℕ) → Leads quote InText (125 ∷ []) InText
unfolding field_move body_move between_move is_backslash is_break is_quote
brace_leads quote = part_leads quote 125 between between (omega arith) refl (λ host held same quotes. rw (not_quote 125 host.quote quotes refl))

pub open_leads : (quote : ℕ) → Leads quote InText (123 ∷ []) AtBrace
unfolding field_move body_move is_break
open_leads quote = part_leads quote 123 between after_brace (omega arith) refl (λ host held same quotes. open_moves host literal between quotes)

pub two_lead : (quote : ℕ) → Leads quote InText (123 ∷ 123 ∷ []) InText
unfolding is_break
two_lead quote = leads-append quote InText AtBrace InText (123 ∷ []) (123 ∷ []) (open_leads quote)
    (part_leads quote 123 after_brace between (omega arith) refl (λ host held same quotes. second_brace host literal false held))

-- a backslash and a character
pub escape_leads : (quote c : ℕ) → is_escaped c ≡ true → Leads quote InText (92 ∷ c ∷ []) InText
unfolding field_move body_move is_backslash is_break
escape_leads quote c h =
    let low : c < 128 = grind (arith, nat_tests) in let none : is_break c ≡ false = grind arith in let brace : is_brace c ≡ false = grind arith in
    let name : c == 78 ≡ false = grind arith in leads-append quote InText (InPart after_slash) InText (92 ∷ []) (c ∷ [])
    (part_leads quote 92 between after_slash (omega arith) refl (λ host held same quotes. slash_grows host literal false between 92 quotes refl))
    (part_leads quote c after_slash between low none (λ host held same quotes. other_escaped host literal false held c brace refl (break-return c none) (ap (λ b. b && not host.is_raw) name)))

-- after `{`, code begins with what is no brace of that kind
abbrev fresh : List Level → Level → List ℕ → FieldScanned
fresh outer l held = field_fresh (level_after l held ∷ outer) [] []

pub code_after : (quote : ℕ) (Q : Spot) (c : ℕ) (cs : List ℕ) → c == 123 ≡ false → Leads quote (AtCode []) (c ∷ cs) Q → Leads quote AtBrace (c ∷ cs) Q
code_after quote Q c cs other leads = leads_by quote AtBrace Q (c ∷ cs) leads.low (λ outer l t (same, quotes, room) (held, is).
    let T : FieldScanned = field_state outer l.done l.openers (body l.host literal false after_brace) held in let F : FieldScanned = fresh outer l held in
    let (u, (open_yet, next, step, line, others), (again, once, still, keeps), to) =
    leads.goes outer l F same quotes room (record { front = held; done = []; mode = modes.Free; held = []; is = refl; simple = refl }) in
    let begins : field_move (body l.host literal false after_brace) held c ≡ begins_code l.host = code_moves l.host false held c other in
    let free : has_room_at (frames T) c (begins_code l.host) ≡ true = room_at (frames T) c (begins_code l.host) (omega (arith, room), λ opens. omega (arith, room)) in
    let real : (x : FieldScanned) → room_step F c ≡ Some x → room_step T c ≡ Some x = λ x is. steps T c (begins_code l.host) begins x free (sym (ap (field_moved F c) (stops-fresh (c ∷ []))) ∙ (roomy_parts (has_room F c) (field_step F c) x is).1) in
    subst (λ x. (u : FieldScanned) × GoesOpen x (c ∷ cs) u × Q outer l u) (sym is)
    (u, ((refl, next, real next step, goes_on T c (begins_code l.host) begins refl, others), (again, real again once, still, keeps)), to))

-- wherever the code stands
abbrev in_code : List Level → Level → List ℕ → List Piece → List ℕ → Mode → List ℕ → FieldScanned
in_code outer l front done openers m held = field_state (level_after l front ∷ outer) done openers (plain m) held

from_code : (passes : Mode → Bool) (os : List ℕ) (quote : ℕ) (run : List ℕ) (Q : Spot) → list_all is_line_byte run ≡ true
    → ((outer : List Level) (l : Level) (front : List ℕ) (done : List Piece) (held : List ℕ) (m : Mode) → passes m ≡ true → Few quote outer l → (u : FieldScanned) × GoesOpen (in_code outer l front done os m held) run u × Q outer l u)
    → Leads quote (StandsInCode passes os) run Q
from_code passes os quote run Q low from = leads_by quote (StandsInCode passes os) Q run low (λ outer l t few at.
    subst (λ x. (u : FieldScanned) × GoesOpen x run u × Q outer l u) (sym at.is) (from outer l at.front at.done at.held at.mode at.simple few))

-- what a character of a word, and a space, does to a word, to space, and where no piece is open: that goes on in such a mode, or ends
abbrev Fits : (Mode → Bool) → FieldMove → Type 0
Fits passes (grows (plain n)) = passes n ≡ true
Fits passes breaks = Unit {0}
Fits passes other = ⊥

space-no_break : (c : ℕ) → is_space c ≡ true → is_break c ≡ false
unfolding is_space is_break
space-no_break c h = none_of is_break (32 ∷ 9 ∷ 12 ∷ []) c refl h

-- an operator
operator_breaks : (m : Mode) (held : List ℕ) (c : ℕ) → is_code_mode m ≡ true → is_operator c ≡ true → field_move (plain m) held c ≡ breaks
operator_breaks m held c simple h = let is = operator_is c h in code_results m held c simple is.1 ∙ grind (arith, is.0, is.2)

-- the bytes that code has mostly
pub code_plain : (c : ℕ) → is_code_byte c ≡ true → (is_plain c ≡ true) × (c == 58 ≡ false)
unfolding is_plain is_ascii_word is_code_sign is_space is_operator is_opening is_closing
code_plain c h = (grind (arith, nat_tests), false_from_ne_true _ (λ colon. both_ways (is_code_byte 58) refl (subst (λ x. is_code_byte x ≡ true) (eqb-true c 58 colon) h)))

code_line : (c : ℕ) → is_code_byte c ≡ true → is_line_byte c ≡ true
unfolding is_ascii_word is_code_sign is_break
code_line c h = grind (arith, nat_tests)

-- the modes of code where a word may be open, or where none is
abbrev pub passing : Bool → Mode → Bool
passing true = is_code_mode
passing false = is_apart_mode

passes_code : (word : Bool) (m : Mode) → passing word m ≡ true → is_code_mode m ≡ true
passes_code word m h = grind arith

pub leads_to_code : (word : Bool) (os : List ℕ) (quote : ℕ) (P : Spot) (run : List ℕ) → Leads quote P run (StandsInCode (passing word) os)
    → Leads quote P run (InCode os)
leads_to_code word os quote P run leads = leads_by quote P (InCode os) run leads.low (λ outer l t few at.
    let (u, goes, keeps, to) = leads.goes outer l t few.0 few.1 few.2 at in (u, (goes, keeps), search (to, passes_code word to.mode to.simple)))

standing : (passes : Mode → Bool) (os : List ℕ) (outer : List Level) (l : Level) (front : List ℕ) (done : List Piece) (m : Mode) (held : List ℕ)
    → passes m ≡ true → StandsInCode passes os outer l (in_code outer l front done os m held)
standing passes os outer l front done m held simple = record { front = front; done = done; mode = m; held = held; is = refl; simple = simple }

code_apart : (m : Mode) → is_code_mode m ≡ true → is_return_at (plain m) ≡ false
code_apart m simple = grind arith

module _ (outer : List Level) (l : Level) (front os : List ℕ) (ps : List Piece) (m : Mode) (held : List ℕ) (simple : is_code_mode m ≡ true) (c : ℕ) where
  abbrev T : FieldScanned
  T = in_code outer l front ps os m held

  abbrev To : (Mode → Bool) → Type 0
  To passes = (u : FieldScanned) × GoesOpen T (c ∷ []) u × StandsInCode passes os outer l u

  abbrev Ends : FieldScanned → Type 0
  Ends next = field_started (level_after l front ∷ outer) (closed m ps held) os c (start_of c) ≡ Some next

  inside : (n : FieldMode) → level_after l front ∷ outer ≡ [] → is_shut n ≡ false
  inside n none = absurd (some_level (level_after l front) outer none)

  -- the open piece ends before one
  breaks_to : (next : FieldScanned) → is_break c ≡ false → field_move (plain m) held c ≡ breaks → has_room_at (frames T) c breaks ≡ true → Ends next
      → (next.outer ≡ [] → is_shut next.mode ≡ false) → GoesOpen T (c ∷ []) next
  breaks_to next none move room begins still = one_step T next c breaks (code_apart m simple) none move room begins still

  -- it begins a piece, or goes on in one
  piece_goes : (passes : Mode → Bool) (begun : Mode) → is_quote c ≡ false → is_break c ≡ false
      → start_of c ≡ starts.Open begun → passes begun ≡ true → Fits passes (code_result m c) → To passes
  piece_goes passes begun quote none opens fits moves = go (code_result m c) (code_results m held c simple quote) moves where
    go : (v : FieldMove) → field_move (plain m) held c ≡ v → Fits passes v → To passes
    go (grows (plain n)) move more = let goes = grows_to T c (plain n) (code_apart m simple) none (inside (plain n)) move in
        (in_code outer l front ps os n (held ++ c ∷ []), goes, standing passes os outer l front ps n (held ++ c ∷ []) more)
    go breaks move more = let next : FieldScanned = in_code outer l front (closed m ps held) os begun (c ∷ []) in
        let room = no_opening _ c (opens_no c (starts.Open begun) opens (λ other. absurd (cc))) in (
          next,
          breaks_to next none move room (ap (field_started (level_after l front ∷ outer) (closed m ps held) os c) opens) (inside (plain begun)),
          standing passes os outer l front (closed m ps held) begun (c ∷ []) fits,
        )
    go v move none_so = absurd none_so

  -- it is an operator
  abbrev Operated : List ℕ → FieldScanned
  Operated after = field_fresh (level_after l front ∷ outer) (closed m ps held ++ piece operator (c ∷ []) ∷ []) after

  operator_goes : (after : List ℕ) → is_operator c ≡ true → openers_with os c ≡ Some after → (c == 58) && (length os == 0) ≡ false
      → has_room_at (frames T) c breaks ≡ true → GoesOpen T (c ∷ []) (Operated after)
  operator_goes after h stands colon room = breaks_to (Operated after) (operator-no_break c h) (operator_breaks m held c simple h) room
      (ap (field_started (level_after l front ∷ outer) (closed m ps held) os c) (start-operator c h) ∙ operator_stays (level_after l front ∷ outer) (closed m ps held) os after c stands colon) (inside (plain modes.Free))

  -- a letter or digit, a space or a sign
  signs_go : (is_operator c ≡ true) × (is_opening c ≡ false) × (is_closing c ≡ false) → c == 58 ≡ false → To is_apart_mode
  signs_go (is, opens, shuts) colon =
      let goes = operator_goes os is (others_keep os c opens shuts) (ap (λ b. b && (length os == 0)) colon) (no_opening _ c opens) in
      (Operated os, goes, standing is_apart_mode os outer l front (closed m ps held ++ piece operator (c ∷ []) ∷ []) modes.Free [] refl)

  code_goes : is_code_byte c ≡ true → To (passing (is_ascii_word c))
  code_goes h = go (is_ascii_word c) (is_space c) refl refl where
    go : (word space : Bool) → is_ascii_word c ≡ word → is_space c ≡ space → To (passing word)
    go true space word is =
        piece_goes is_code_mode (modes.Word (first_spelling c)) (word_is c word).1 (word-no_break c word) (start-word c (word_starts c word)) refl (grind arith)
    go false true word is =
        piece_goes is_apart_mode modes.Space (space_is c is).1 (space-no_break c is) (start-space c is) refl (grind (arith, (space_is c is).0))
    go false false word is = let plain_so = code_plain c h in signs_go (plain_operator c plain_so.0 word is) plain_so.1

-- and a run of them
code_leads : (word : Bool) (os : List ℕ) (quote c : ℕ) → is_code_byte c ≡ true
    → Leads quote (StandsInCode (passing word) os) (c ∷ []) (StandsInCode (passing (is_ascii_word c)) os)
code_leads word os quote c h = from_code (passing word) os quote (c ∷ []) (StandsInCode (passing (is_ascii_word c)) os) (and_from _ _ (code_line c h) refl)
    (λ outer l front done held m simple few. code_goes outer l front os done m held (passes_code word m simple) c h)

pub codes_lead : (os : List ℕ) (quote : ℕ) (run : List ℕ) → list_all is_code_byte run ≡ true
    → Leads quote (AtCode os) run (StandsInCode (passing (ends_in_word false run)) os)
codes_lead os quote = leads-run is_code_byte quote (λ word. StandsInCode (passing word) os) (λ word c. code_leads word os quote c) false

-- in a string without a prefix, whose mode is this one
abbrev InString : Mode → List ℕ → Spot
InString m os outer l t = (front : List ℕ) × (done : List Piece) × (held : List ℕ) × (t ≡ in_code outer l front done os m held)

-- no word is open where it begins
quote_breaks : (m : Mode) (held : List ℕ) (q : ℕ) → is_apart_mode m ≡ true → is_quote q ≡ true → field_move (plain m) held q ≡ breaks
unfolding field_move move_of
quote_breaks m held q apart quotes = grind (arith, excluded is_quote is_space q (space-not-quote q) quotes)

module _ (os : List ℕ) (quote q : ℕ) (quotes : is_quote q ≡ true) where
  one_quote : list_all is_line_byte (q ∷ []) ≡ true
  one_quote = one_low q (quote_ascii q quotes) (quote-no_break q quotes)

  quote_opens : Leads quote (AtCode os) (q ∷ []) (InString (modes.Opened q) os)
  quote_opens = from_code is_apart_mode os quote (q ∷ []) (InString (modes.Opened q) os) one_quote (λ outer l front done held m apart few.
      let ps : List Piece = closed m done held in let opened : FieldScanned = in_code outer l front ps os (modes.Opened q) (q ∷ []) in
      let opens = start-quote q quotes in let room = no_opening _ q (opens_no q (starts.Open (modes.Opened q)) opens (λ other. absurd (cc))) in (
        opened,
        breaks_to outer l front os done m held (passes_code false m apart) q opened (quote-no_break q quotes) (quote_breaks m held q apart quotes) room
            (ap (field_started (level_after l front ∷ outer) ps os q) opens) (λ none. absurd (some_level (level_after l front) outer none)),
        (front, ps, q ∷ [], refl),
      ))

  -- its text grows over a character
  string_grows : (m : Mode) (c : ℕ) → is_return_at (plain m) ≡ false → ((held : List ℕ) → begins_host m held c ≡ false)
      → move_of m c ≡ moves.Grows (modes.Inside q) → is_text_byte q c ≡ true → Leads quote (InString m os) (c ∷ []) (InString (modes.Inside q) os)
  string_grows m c apart none move passes = let is = and_parts (is_body_byte q c) (nat_lt c 128) passes in let break = (body_parts q c is.0).2 in
      leads_by quote (InString m os) (InString (modes.Inside q) os) (c ∷ []) (one_low c (low_is c is.1) break) (λ outer l t few (front, done, held, at).
      let next : FieldScanned = in_code outer l front done os (modes.Inside q) (held ++ c ∷ []) in
      let goes = grows_to (in_code outer l front done os m held) c (plain (modes.Inside q)) apart break (λ outside. refl)
      (plain_moves m held c (none held) ∙ ap plain_move move) in
      (next, subst (λ x. GoesOpen x (c ∷ []) next) (sym at) goes, (front, done, held ++ c ∷ [], refl)))

  inside_grows : (c : ℕ) → is_text_byte q c ≡ true
      → (move_of (modes.Inside q) c ≡ moves.Grows (modes.Inside q)) × (move_of (modes.Opened q) c ≡ moves.Grows (modes.Inside q))
  unfolding move_of short_move
  inside_grows c passes =
      let parts = body_parts q c (and_parts (is_body_byte q c) (nat_lt c 128) passes).0 in (rw (parts.0, parts.1, parts.2) refl, rw (parts.0, parts.1, parts.2) refl)

  -- its quote closes it
  quote_closes : Leads quote (InString (modes.Inside q) os) (q ∷ []) (AtCode os)
  unfolding move_of
  quote_closes = leads_by quote (InString (modes.Inside q) os) (AtCode os) (q ∷ []) one_quote (λ outer l t few (front, done, held, at).
      let ps : List Piece = done ++ piece string (held ++ q ∷ []) ∷ [] in let next : FieldScanned = in_code outer l front ps os modes.Free [] in
      let move = plain_moves (modes.Inside q) held q refl ∙ rw (eq-eqb q q refl) refl in
      let goes = one_step (in_code outer l front done os (modes.Inside q) held) next q closes refl (quote-no_break q quotes) move (room_closes _ q) refl
      (λ none. absurd (some_level (level_after l front) outer none)) in
      (next, subst (λ x. GoesOpen x (q ∷ []) next) (sym at) goes, standing is_apart_mode os outer l front ps modes.Free [] refl))

  string_on : (d : ℕ) (ds : List ℕ) → list_all (is_text_byte q) (d ∷ ds) ≡ true → Leads quote (AtCode os) (q ∷ ((d ∷ ds) ++ q ∷ [])) (AtCode os)
  string_on d ds all = let parts = and_parts (is_text_byte q d) (list_all (is_text_byte q) ds) all in
      let first = string_grows (modes.Opened q) d refl (λ held. refl) (inside_grows d parts.0).1 parts.0 in
      let others = leads-back (is_text_byte q) quote (InString (modes.Inside q) os)
      (λ c h. string_grows (modes.Inside q) c refl (λ held. refl) (inside_grows c h).0 h) ds parts.1 in
      leads-append quote _ _ _ (q ∷ []) ((d ∷ ds) ++ q ∷ []) quote_opens
      (leads-append quote _ _ _ (d ∷ []) (ds ++ q ∷ []) first (leads-append quote _ _ _ ds (q ∷ []) others quote_closes))

pub string_leads : (os : List ℕ) (quote q : ℕ) (run : List ℕ) → is_quote q ≡ true → IsFull run → list_all (is_text_byte q) run ≡ true
    → Leads quote (AtCode os) (q ∷ (run ++ q ∷ [])) (AtCode os)
string_leads os quote q [] quotes full all = absurd full
string_leads os quote q (d ∷ ds) quotes full all = string_on os quote q quotes d ds all

-- a bracket, and the one that closes it
operator_leads : (os after : List ℕ) (quote c : ℕ) → is_operator c ≡ true → openers_with os c ≡ Some after → (c == 58) && (length os == 0) ≡ false
    → ((n : ℕ) → n ≤ 101 → has_room_at (length os + n) c breaks ≡ true) → Leads quote (InCode os) (c ∷ []) (AtCode after)
operator_leads os after quote c h stands colon rooms =
    from_code is_code_mode os quote (c ∷ []) (AtCode after) (operator_line c h) (λ outer l front done held m simple few. (
      field_fresh (level_after l front ∷ outer) (closed m done held ++ piece operator (c ∷ []) ∷ []) after,
      operator_goes outer l front os done m held simple c after h stands colon (rooms (length l.openers + levels_open outer + 1) (let room = few.2 in omega (arith, room))),
      standing is_apart_mode after outer l front (closed m done held ++ piece operator (c ∷ []) ∷ []) modes.Free [] refl,
    ))

bracket_is : (c : ℕ) → is_code_bracket c ≡ true
    → (is_operator c ≡ true) × (is_opening c ≡ true) × (c == 58 ≡ false) × (is_operator (closing_of c) ≡ true) × (is_closing (closing_of c) ≡ true)
unfolding is_code_bracket is_operator is_opening is_closing
bracket_is c h = grind (arith, nat_tests)

pub opening_leads : (quote c : ℕ) → is_code_bracket c ≡ true → Leads quote (InCode []) (c ∷ []) (AtCode (c ∷ []))
opening_leads quote c h = let is = bracket_is c h in
    operator_leads [] (c ∷ []) quote c is.0 (opening_pushes [] c is.1) (ap (λ b. b && true) is.2) (λ n few. room_at (length {A = ℕ} [] + n) c breaks (λ opens. omega (arith, few)))

pub closing_leads : (quote o c : ℕ) → is_code_bracket o ≡ true → c ≡ closing_of o → Leads quote (InCode (o ∷ [])) (c ∷ []) (AtCode [])
closing_leads quote o c h same = subst (λ (x : ℕ). Leads quote (InCode (o ∷ [])) (x ∷ []) (AtCode [])) (sym same) (
    let is = bracket_is o h in
    operator_leads (o ∷ []) [] quote (closing_of o) is.3 (closing_pops o [] (closing_of o) is.4 (eq-eqb (closing_of o) (closing_of o) refl)) (and_right (closing_of o == 58) _ refl) (λ n few. room_at (1 + n) (closing_of o) breaks (λ opens. omega (arith, few)))
    )

-- the end of the code
end_leads : (quote c : ℕ) (Q : Spot) (to : Level → List Level → List Piece → FieldScanned) → is_operator c ≡ true → is_opening c ≡ false
    → ((level : Level) (outer : List Level) (ps : List Piece) → code_operator level outer ps c ≡ Some (to level outer ps))
    → ((level : Level) (outer : List Level) (ps : List Piece) → is_shut (to level outer ps).mode ≡ false)
    → ((outer : List Level) (l : Level) (front : List ℕ) (ps : List Piece) → Q outer l (to (level_after l front) outer ps)) → Leads quote (InCode []) (c ∷ []) Q
end_leads quote c Q to h opens ends still there = from_code is_code_mode [] quote (c ∷ []) Q (operator_line c h) (λ outer l front done held m simple few.
    let level = level_after l front in let ps : List Piece = closed m done held in (
      to level outer ps,
      breaks_to outer l front [] done m held simple c (to level outer ps) (operator-no_break c h) (operator_breaks m held c simple h) (no_opening _ c opens)
          (ap (field_started (level ∷ outer) ps [] c) (start-operator c h) ∙ ends level outer ps) (λ outside. still level outer ps),
      there outer l front ps,
    ))

pub field_ends : (quote : ℕ) → Leads quote (InCode []) (125 ∷ []) InText
unfolding is_operator is_opening
field_ends quote =
    end_leads quote 125 InText (λ level outer ps. field_ended level outer (level.front ++ (spelled ps ++ 125 ∷ []))) refl refl brace_ends (λ level outer ps. refl) (λ outer l front ps. (front ++ (spelled ps ++ 125 ∷ []), refl))

pub specification_begins : (quote : ℕ) → Leads quote (InCode []) (58 ∷ []) AtSpecification
unfolding is_operator is_opening
specification_begins quote =
    end_leads quote 58 AtSpecification (λ level outer ps. field_state (level ∷ outer) [] [] (body level.host specification false between) (level.front ++ (spelled ps ++ 58 ∷ []))) refl refl colon_opens (λ level outer ps. refl)
    (λ outer l front ps. (front, front ++ (spelled ps ++ 58 ∷ []), refl))

-- a specification
abbrev specified : List Level → Level → List ℕ → List ℕ → FieldScanned
specified outer l front held = field_state (level_after l front ∷ outer) [] [] (body l.host specification false between) held

specified_leads : (quote c : ℕ) → is_literal_byte quote c ≡ true → Leads quote AtSpecification (c ∷ []) AtSpecification
specified_leads quote c h =
    let own = literal_parts quote c h in
    leads_by quote AtSpecification AtSpecification (c ∷ []) (one_low c own.low own.none) (λ outer l t few (front, held, is).
    let next : FieldScanned = specified outer l front (held ++ c ∷ []) in
    let goes = grows_to (specified outer l front held) c (body l.host specification false between) refl own.none (λ outside. refl)
    (text_grows l.host quote c few.0 own held specification) in
    (next, subst (λ x. GoesOpen x (c ∷ []) next) (sym is) goes, (front, held ++ c ∷ [], refl)))

pub specifications_lead : (quote : ℕ) (run : List ℕ) → list_all (is_literal_byte quote) run ≡ true → Leads quote AtSpecification run AtSpecification
specifications_lead quote = leads-back (is_literal_byte quote) quote AtSpecification (specified_leads quote)

pub specification_ends : (quote : ℕ) → Leads quote AtSpecification (125 ∷ []) InText
unfolding field_move body_move has_room_at is_break
specification_ends quote = leads_by quote AtSpecification InText (125 ∷ []) refl (λ outer l t few (front, held, is).
    let ended : FieldScanned = field_state outer l.done l.openers (body l.host literal false between) (held ++ 125 ∷ []) in
    let ends = end_moves l.host between (ap is_quote few.0 ∙ few.1) in
    let goes = one_step (specified outer l front held) ended 125 ends_field refl refl ends refl refl (λ outside. refl) in
    (ended, subst (λ x. GoesOpen x (125 ∷ []) ended) (sym is) goes, (held ++ 125 ∷ [], refl)))
