-- What a character does to the text of a string: its own quote, a backslash and what it escapes, and any other character.
use Rattle.py_lines.proofs.Prelude.{◌≡◌, ℕ, ◌<◌, ◌≤◌, Bool, true, false, not, ◌&&◌, ◌==◌, List, [], ◌∷◌, slice_index, refl, sym, ap, ◌∙◌, subst, arith, ⊎_elim, and_left, both_ways, cases_Bool, cases_lt, eq-eqb, ne_eqb, or_from, encode_ascii, is_backslash, is_brace, is_break, is_line_feed, is_quote, is_return, OpenMode, BeginsWith}
use Rattle.py_lines.specs.FieldStrings.{Host, Place, literal, specification, names}
use Rattle.py_lines.specs.declared.mode.Mode.TheVariants as opens
use Rattle.py_lines.specs.Private.Mode as modes
use Rattle.py_lines.specs.Private.Machine.{Mode, class_of, is_after_backslash, long_move, move_of, short_move}
use Rattle.py_lines.specs.Private.FieldMachine.{At, FieldMode, after_name, after_open_backslash, after_return, after_slash, between, between_move, body, body_move, closing_move, escape_move, field_move, grows, is_after_brace, is_barred_escape, plain, refused, text_place, with_quote}
use Rattle.py_lines.specs.Private.FieldFaults.{is_waiting, quotes_specification}
use Rattle.py_lines.specs.Private.Scan.{HasQuote, IsFirstByte, IsTextAt, TextAlike, TextAs, is_part_of_text, is_pending, is_specification, is_text, mode_from}
use Rattle.py_lines.proofs.Text.CharacterTests.{break-not-others, not_quote}
pub use Rattle.py_lines.proofs.Text.FirstBytes.{first_low as the_low}
use Rattle.py_lines.proofs.Text.FirstBytes.{first_other as differs_by, first_self}
use Rattle.py_lines.proofs.LineScan.AsciiRuns.{quote_ascii}

-- what a character's first byte tells of it
first_high : (b c : ℕ) → IsFirstByte b c → 128 ≤ b → 128 ≤ c
first_high b c first high = ⊎_elim (λ (low : c < 128). absurd (omega (arith, (first_self c low).1, first.1, high))) (λ is. is) (cases_lt c 128)

pub first_other : (b c d : ℕ) → IsFirstByte b c → d < 128 → b == d ≡ false → c == d ≡ false
first_other b c d first low other = differs_by b c d first low (λ same. both_ways _ other (eq-eqb b d same))

-- what is not ASCII
high_other : (c d : ℕ) → 128 ≤ c → d < 128 → c == d ≡ false
high_other c d high low = ne_eqb c d (λ same. omega (arith, same))

record IsApart (c : ℕ) : Type 0 where
  slash : is_backslash c ≡ false
  break : is_break c ≡ false
  return : is_return c ≡ false
  brace : is_brace c ≡ false
  quote : is_quote c ≡ false

high_apart : (c : ℕ) → 128 ≤ c → IsApart c
unfolding is_backslash is_break is_return is_brace is_quote
high_apart c high =
    grind (arith, high_other c 92 high, high_other c 10 high, high_other c 13 high, high_other c 123 high, high_other c 125 high, high_other c 39 high, high_other c 34 high)

-- each character that begins with this byte does the same
plain_alike : (b : ℕ) (m n : Mode) → class_of m ≡ class_of n → is_after_backslash m ≡ is_after_backslash n → ((c : ℕ) → IsFirstByte b c → field_move (plain m) [] c ≡ field_move (plain n) [] c) → TextAlike b (plain m) (plain n)
plain_alike b m n class slash move = record { place = refl; class = class; move = move; cause = λ c depth first. rw slash refl }

pub waits_not : (host : Host) (place : Place) (named : Bool) (at : At) → is_after_brace at ≡ false → is_waiting (body host place named at) ≡ false
waits_not host literal named after_slash none = refl
waits_not host place named at none = grind arith

pub body_alike : (b : ℕ) (host : Host) (place : Place) (named : Bool) (at : At) → is_after_brace at ≡ false → ((c : ℕ) → IsFirstByte b c → body_move host place named at c ≡ body_move host place named between c) → TextAlike b (body host place named at) (body host place named between)
unfolding field_move
body_alike b host place named at none move = grind arith

pub text_as-self : (rest : List ℕ) (m : FieldMode) → TextAs rest m m
text_as-self [] m = refl
text_as-self (b ∷ rest) m = record { place = refl; class = refl; move = λ c first. refl; cause = λ c depth first. refl }

-- where a string's text is open
pub text_mode : (mode : OpenMode) (quote : ℕ) (long : Bool) (c : ℕ) → IsTextAt (mode_from mode) quote long c → is_quote quote ≡ true → (is_text mode ≡ true) × HasQuote mode
text_mode (opens.Short q) quote long c at quotes = (refl, ap is_quote at.0 ∙ quotes)
text_mode m quote long c at quotes = grind arith

pub pending_text : (mode : OpenMode) (m : FieldMode) (quote : ℕ) (long : Bool) (c : ℕ) (run : List ℕ) → IsTextAt m quote long c → is_part_of_text long quote run ≡ true → mode_from mode ≡ m → is_pending mode run ≡ true
pending_text mode m quote long c run at part same = grind arith

-- what holds of the first byte holds of the character
pub text_at : (m : FieldMode) (quote : ℕ) (long : Bool) (bytes : List ℕ) (c : ℕ) → BeginsWith bytes c → IsTextAt m quote long (slice_index bytes 0) → IsTextAt m quote long c
text_at m quote long bytes c next at = grind (arith, cases_lt, encode_ascii, high_apart, high_other)

-- after one quote more of a long string
abbrev pub with_one : FieldMode → FieldMode
with_one (plain (modes.Long q)) = plain (modes.LongOne q)
with_one (plain (modes.LongOne q)) = plain (modes.LongTwo q)
with_one (body host place named at) = body host place named (with_quote at)
with_one other = other

-- a quote
pub record IsAtQuote (m : FieldMode) (quote : ℕ) (is : FieldMode) : Type 0 where
  pub waits : is_waiting is ≡ false
  pub apart : after_open_backslash is ≡ false
  pub specified : quotes_specification is quote ≡ is_specification (text_place m)
  pub does : field_move is [] quote ≡ closing_move (text_place m)

pub quote_closes : (m : FieldMode) (q : ℕ) → IsTextAt m q false q → IsAtQuote m q m
unfolding field_move move_of body_move between_move
quote_closes m q at = grind arith

pub record TakesQuotes (m : FieldMode) (quote : ℕ) : Type 0 where
  pub first : field_move m [] quote ≡ grows (with_one m)
  pub second : field_move (with_one m) [] quote ≡ grows (with_one (with_one m))
  pub third : IsAtQuote m quote (with_one (with_one m))

pub quotes_long : (m : FieldMode) (q : ℕ) → IsTextAt m q true q → TakesQuotes m q
unfolding field_move move_of body_move between_move
quotes_long m q at = grind arith

-- before another byte than the quote they are as if they weren't there
pub quotes_apart : (m : FieldMode) (q b : ℕ) → IsTextAt m q true q → is_quote q ≡ true → b == q ≡ false → TextAlike b (with_one m) m × TextAlike b (with_one (with_one m)) m
unfolding field_move move_of body_move between_move
quotes_apart m q b at quotes other = grind (arith, first_other, quote_ascii, plain_alike, body_alike)

-- another character than quote, backslash and line end
pub other_grows : (m : FieldMode) (q : ℕ) (long : Bool) (c : ℕ) → IsTextAt m q long c → c == q ≡ false → is_backslash c ≡ false → is_break c && not long ≡ false → field_move m [] c ≡ grows m
unfolding field_move move_of short_move long_move body_move between_move
other_grows m q long c at other slash break = grind arith

-- a line end in a short string
pub break_refused : (m : FieldMode) (q c : ℕ) → IsTextAt m q false c → is_quote q ≡ true → is_break c ≡ true → (field_move m [] c ≡ refused) × (is_waiting m ≡ false)
unfolding field_move move_of short_move body_move between_move
break_refused m q c at quotes break = grind (arith, break-not-others c break, not_quote c q quotes)

-- A backslash, and what this byte and others after it come to: a character of more bytes is as good as any other; CR may be the first of
-- a line end; another one stands for itself.
abbrev pub slashed : FieldMode → FieldMode
slashed (plain (modes.Inside q)) = plain (modes.Escape q)
slashed (plain (modes.Long q)) = plain (modes.LongEscape q)
slashed (body host place named at) = body host place named after_slash
slashed other = other

abbrev pub returned : FieldMode → FieldMode
returned (plain (modes.Inside q)) = plain (modes.EscapeReturn q)
returned (body host place named at) = body host place named after_return
returned other = other

pub record EscapesBy (m : FieldMode) (c : ℕ) (rest : List ℕ) : Type 0 where
  pub slash : field_move m [] 92 ≡ grows (slashed m)
  pub wide : 128 ≤ c → TextAlike c (slashed m) m
  pub low : c < 128 → c == 13 ≡ false → (to : FieldMode) × (field_move (slashed m) [] c ≡ grows to) × TextAs rest to m
  pub return : c ≡ 13 → field_move (slashed m) [] 13 ≡ grows (returned m)
  pub feed : field_move (returned m) [] 10 ≡ grows m
  pub no_feed : (b : ℕ) → b == 10 ≡ false → TextAlike b (returned m) m

-- in a string without fields
pub plain_escapes : (m : FieldMode) (q : ℕ) (long : Bool) (c : ℕ) (rest : List ℕ) → IsTextAt m q long 92 → is_quote q ≡ true → EscapesBy m c rest
unfolding field_move move_of short_move long_move is_backslash is_return is_line_feed is_quote
plain_escapes (plain (modes.Inside p)) q long c rest at quotes = let own : is_quote p ≡ true = ap is_quote at.0 ∙ quotes in record {
  slash = rw (not_quote 92 p own refl);
  wide = λ high. plain_alike c (modes.Escape p) (modes.Inside p) refl refl (λ d first.
      let is = first_high c d first high in let apart = high_apart d is in
      rw (apart.return, high_other d p is (quote_ascii p own), apart.slash, apart.break) refl);
  low = λ low other. (plain (modes.Inside p), rw other, text_as-self rest (plain (modes.Inside p)));
  return = λ is. refl;
  feed = refl;
  no_feed = λ b other. plain_alike b (modes.EscapeReturn p) (modes.Inside p) refl refl (λ d first. rw (first_other b d 10 first (omega arith) other) refl);
}
plain_escapes (plain (modes.Long p)) q long c rest at quotes = let own : is_quote p ≡ true = ap is_quote at.0 ∙ quotes in record {
  slash = rw (not_quote 92 p own refl);
  wide = λ high. plain_alike c (modes.LongEscape p) (modes.Long p) refl refl (λ d first.
      let is = first_high c d first high in rw (high_other d p is (quote_ascii p own), (high_apart d is).slash) refl);
  low = λ low other. (plain (modes.Long p), refl, text_as-self rest (plain (modes.Long p)));
  return = λ is. refl;
  feed = rw (not_quote 10 p own refl);
  no_feed = λ b other. text_as-self (b ∷ []) (plain (modes.Long p));
}
plain_escapes (body host place named between) q long c rest at quotes = absurd (both_ways _ at.2 refl)
plain_escapes m q long c rest at quotes = absurd at

-- in one with fields
abbrev pub HasNoName : Host → ℕ → List ℕ → Type 0
HasNoName host c rest = names host c ≡ true → (d : ℕ) × (after : List ℕ) × (rest ≡ d ∷ after) × (d == 123 ≡ false)

pub not_barred : (host : Host) (place : Place) (d : ℕ) → is_break d ≡ false → is_barred_escape host place d ≡ false
not_barred host literal d none = refl
not_barred host specification d none = and_left (is_break d) (not host.is_long) none

-- a character that isn't ASCII stands for itself, after a backslash too
wide_alike : (host : Host) (place : Place) (named : Bool) (d : ℕ) → is_quote host.quote ≡ true → 128 ≤ d → body_move host place named after_slash d ≡ body_move host place named between d
unfolding body_move between_move escape_move
wide_alike host place named d quotes is = let apart = high_apart d is in
    grind (arith, apart, not_barred host place d apart.break, high_other d 78 is, not_quote d host.quote quotes apart.quote, high_other d 123 is, high_other d 125 is)

-- another one after a backslash
low_escaped : (host : Host) (place : Place) (named : Bool) (c : ℕ) (rest : List ℕ) → is_brace c ≡ false → is_barred_escape host place c ≡ false → is_return c ≡ false → HasNoName host c rest
    → (to : FieldMode) × (body_move host place named after_slash c ≡ grows to) × TextAs rest to (body host place named between)
unfolding body_move escape_move
low_escaped host place named c rest brace barred return named_so = ⊎_elim (λ (is : names host c ≡ true). let (d, after, same, other) = named_so is in
    let alike = body_alike d host place named after_name refl (λ e first. rw (first_other d e 123 first (omega arith) other) refl) in
    (body host place named after_name, grind arith, subst (λ x. TextAs x (body host place named after_name) (body host place named between)) (sym same) alike))
    (λ (none : names host c ≡ false). (body host place named between, grind arith, text_as-self rest (body host place named between))) (cases_Bool (names host c))

pub body_escapes : (host : Host) (place : Place) (named : Bool) (c : ℕ) (rest : List ℕ) → is_quote host.quote ≡ true → is_brace c ≡ false → is_barred_escape host place c ≡ false → HasNoName host c rest → EscapesBy (body host place named between) c rest
unfolding field_move body_move between_move escape_move is_backslash is_quote is_return is_line_feed is_brace
body_escapes host place named c rest quotes brace barred named_so = record {
  slash = rw (not_quote 92 host.quote quotes refl);
  wide = λ high. body_alike c host place named after_slash refl (λ d first. wide_alike host place named d quotes (first_high c d first high));
  low = λ small other. low_escaped host place named c rest brace barred (or_from (c == 13) false other refl) named_so;
  return = λ is. rw (ap (is_barred_escape host place) (sym is) ∙ barred) refl;
  feed = refl;
  no_feed = λ b other. body_alike b host place named after_return refl (λ d first. rw (first_other b d 10 first (omega arith) other) refl);
}
