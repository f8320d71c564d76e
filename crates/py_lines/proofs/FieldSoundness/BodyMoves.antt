-- What each character does in a string with fields, at each place in it: how the string grows, in its literal part and in specifications, and how it ends.
use Rattle.py_lines.proofs.Prelude.{◌≡◌, ◌==◌, ℕ, Bool, true, false, not, ◌||◌, ◌&&◌, List, [], ◌∷◌, ◌++◌, refl, sym, ap, ◌∙◌, subst, inl, inr, ◌⊎◌, ⊎_elim, append_assoc, append-nil, if◌then◌else◌, byte, list_any, and-true, cond_both, and_parts, and_from, or_cases, eqb-true, both_ways, not_from_false, and_left, and_right, or_right, not-true, arith, string, Piece}
use Rattle.py_lines.specs.Character.{is_quote, is_return, is_break, is_backslash, is_brace, is_barred, is_line_feed}
use Rattle.py_lines.specs.PieceGrammar.{is_prefix, IsNoneOr, is_bare, joined, has_triple, InClassIn, MayPrecedeIn}
use Rattle.py_lines.specs.Fields.{fielded}
use Rattle.py_lines.specs.FieldStrings.{is_field_prefix, Host, Place, literal, specification, quotes_of, is_ordinary, IsPart, bare, named_after, named_through, AreParts, IsFieldString, with_fields, may_be_escaped, names, slash, escape, escaped_end, name, double}
use Rattle.py_lines.specs.Private.Machine.{IsFull}
use Rattle.py_lines.specs.Private.FieldMachine.{text_place, At, between, after_one, after_two, body, FieldMove, grows, closes, breaks, begins_code, opens_field, ends_field, refused, Level, is_after_two, with_quote, closing_move, opening_move, ending_move, between_move, after_slash, after_return, after_name, after_brace, is_after_brace, is_barred_escape, escape_move, body_move}
use Rattle.py_lines.proofs.Pieces.TripleQuotes.{triple-left, triple-other}
use Rattle.py_lines.proofs.Text.CharacterTests.{none_of, barred, slash-not-quote, not_quote, return-not-brace}
use Rattle.py_lines.proofs.Machine.OpenPieces.{full-append, joined-push, not_one, quote-not-slash}
use Rattle.py_lines.proofs.Fields.Parts.{quote-not-open, names_letter, name-not-brace, name-not-return}
use Rattle.py_lines.proofs.Fields.Prefixes.{plain_quotes, field_letters, first_quote}
use Rattle.py_lines.proofs.FieldSoundness.Holds.{Limit, OpensPlace, AtStart, WholeParts, HoldsParts, HoldsBetween, HoldsAt, HoldsMode}
use Rattle.py_lines.proofs.FieldMachine.StringParts.{quote_no_end, kept_or}

-- parts, one more after others
pub parts-push : (F : Host → List ℕ → Type 0) (host : Host) (place : Place) (named : Bool) (parts : List (List ℕ)) (part rest : List ℕ) → AreParts F host place named parts (part ++ rest) → IsPart F host place (named_through named parts) part rest → AreParts F host place named (parts ++ part ∷ []) rest
parts-push F host place named [] part rest each one = (one, tt)
parts-push F host place named (p ∷ ps) part rest each one = (
  subst (IsPart F host place named p) (sym (ap (λ t. t ++ rest) (joined-push ps part) ∙ append_assoc (joined ps) part rest)) each.0,
  parts-push F host place (named_after named p) ps part rest each.1 one,
)

pub named-push : (named : Bool) (parts : List (List ℕ)) (part : List ℕ) → named_through named (parts ++ part ∷ []) ≡ named_after (named_through named parts) part
named-push named [] part = refl
named-push named (p ∷ ps) part = named-push (named_after named p) ps part

-- Booleans
pub and_not : (a b : Bool) → a && not b ≡ true → (a ≡ true) × (b ≡ false)
and_not a b h = let parts = and_parts a (not b) h in (parts.0, not-true b parts.1)

pub plain_one : (b : Bool) → b && true ≡ false → b ≡ false
plain_one b h = sym (and-true b) ∙ h

-- characters
pub slash-not-closing : (c : ℕ) → is_backslash c ≡ true → c == 125 ≡ false
unfolding is_backslash
slash-not-closing c h = none_of (λ d. d == 125) (92 ∷ []) c refl h

pub return-not-letter : (c : ℕ) → is_return c ≡ true → c == 78 ≡ false
unfolding is_return
return-not-letter c h = none_of (λ d. d == 78) (13 ∷ []) c refl h

no_brace : (c : ℕ) → c == 123 ≡ false → c == 125 ≡ false → is_brace c ≡ false
unfolding is_brace
no_brace c one two = rw (one, two)

ordinary_character : (place : Place) (named : Bool) (c : ℕ) → (c == 123) && not named ≡ false → c == 125 ≡ false → is_ordinary place named c ≡ true
ordinary_character place named c h k = grind (arith, not_from_false, plain_one, no_brace)

stands : (long : Bool) (q c : ℕ) → is_break c && not long ≡ false → c == q ≡ false → long || not (is_barred q c) ≡ true
stands true q c h other = refl
stands false q c h other = not_from_false _ (barred q c other (plain_one (is_break c) h))

-- a string that holds something is no empty one
pub quoted_prefix : (prefix : List ℕ) → IsNoneOr (λ p. is_prefix p || is_field_prefix p) prefix → list_any is_quote prefix ≡ false
quoted_prefix prefix (inl none) = ap (list_any is_quote) none
quoted_prefix prefix (inr some) = ⊎_elim (λ is. plain_quotes prefix (inr is)) (λ is. (field_letters prefix is).quotes) (or_cases (is_prefix prefix) (is_field_prefix prefix) some)

full_string : (prefix inner text rest : List ℕ) (q : ℕ) → text ≡ prefix ++ (q ∷ inner) → is_field_prefix prefix ≡ true → is_quote q ≡ true → ((r : ℕ) → inner ≡ r ∷ [] → ⊥) → MayPrecedeIn fielded string text rest
full_string prefix inner text rest q is begun quotes more other r spell also same =
    let cut = first_quote prefix other inner (r ∷ []) q r (field_letters prefix begun).quotes (quoted_prefix other also) quotes same (sym is ∙ spell) in
    let all : q ∷ inner ≡ r ∷ r ∷ [] = cut.1 in let own : inner ≡ r ∷ [] = cc in absurd (more r own)

more_than_one : (xs : List ℕ) (q r : ℕ) → IsFull xs → xs ++ q ∷ [] ≡ r ∷ [] → ⊥
more_than_one [] q r full same = full
more_than_one (x ∷ xs) q r full same = not_one x xs q r same

pub short_quotes : (host : Host) → host.is_long ≡ false → quotes_of host ≡ host.quote ∷ []
short_quotes host h = rw h

-- no part yet, and one more part
abbrev pub no_parts : (limit : Limit) (outer : List Level) (depth : ℕ) (host : Host) (place : Place) (held next : List ℕ) → OpensPlace limit outer host place held → is_quote host.quote ≡ true → HoldsParts limit outer depth host place false held next
no_parts limit outer depth host place held next opens quotes = record {
  whole = record { begin = held; parts = []; spell = sym (append-nil held); opens_with = opens; quotes = quotes; named_is = refl; open_yet = refl };
  fit = λ more. tt;
}

abbrev pub push_part : (limit : Limit) (outer : List Level) (host : Host) (place : Place) (named after : Bool) (held part : List ℕ) (h : WholeParts limit outer host place named held) → has_triple host.quote (h.parts ++ part ∷ []) ≡ false → named_after named part ≡ after → WholeParts limit outer host place after (held ++ part)
push_part limit outer host place named after held part h open_yet is = record {
  begin = h.begin;
  parts = h.parts ++ part ∷ [];
  spell = ap (λ t. t ++ part) h.spell ∙ append_assoc h.begin (joined h.parts) part ∙ ap (λ t. h.begin ++ t) (sym (joined-push h.parts part));
  opens_with = h.opens_with;
  quotes = h.quotes;
  named_is = named-push false h.parts part ∙ ap (λ n. named_after n part) h.named_is ∙ is;
  open_yet = open_yet;
}

module _ (limit : Limit) (outer : List Level) (depth : ℕ) (host : Host) where
  -- before texts that begin with more
  abbrev pub longer_next : (place : Place) (named : Bool) (held next more : List ℕ) → HoldsParts limit outer depth host place named held next → HoldsParts limit outer depth host place named held (next ++ more)
  longer_next place named held next more h =
      record { whole = h.whole; fit = λ rest. subst (AreParts (limit.FieldsAt depth) host place false h.parts) (sym (append_assoc next more rest)) (h.fit (more ++ rest)) }

  -- one more part
  push : (place : Place) (named after : Bool) (held part next : List ℕ) (h : HoldsParts limit outer depth host place named held part) → ((more : List ℕ) → IsPart (limit.FieldsAt depth) host place named part (next ++ more)) → has_triple host.quote (h.parts ++ part ∷ []) ≡ false → named_after named part ≡ after → HoldsParts limit outer depth host place after (held ++ part) next
  push place named after held part next h each open_yet is = record {
    whole = push_part limit outer host place named after held part h.whole open_yet is;
    fit = λ more. parts-push (limit.FieldsAt depth) host place false h.parts part (next ++ more) (h.fit (next ++ more)) (subst (λ n. IsPart (limit.FieldsAt depth) host place n part (next ++ more)) (sym h.named_is) (each more));
  }

  -- one that is no quote
  pub push_between : (place : Place) (named after : Bool) (held part next : List ℕ) → HoldsParts limit outer depth host place named held part → ((more : List ℕ) → IsPart (limit.FieldsAt depth) host place named part (next ++ more)) → is_bare (λ d. d == host.quote) part ≡ false → IsFull part → named_after named part ≡ after → HoldsBetween limit outer depth host place after (held ++ part) next
  unfolding push
  push_between place named after held part next h each other full is = record {
    all = push place named after held part next h each (triple-other host.quote h.parts part [] other h.open_yet refl) is;
    apart = ap (has_triple host.quote) (append_assoc h.parts (part ∷ []) ((host.quote ∷ []) ∷ (host.quote ∷ []) ∷ [])) ∙ triple-other host.quote h.parts part ((host.quote ∷ []) ∷ (host.quote ∷ []) ∷ []) other h.open_yet refl;
    full = λ at short. subst IsFull (sym (joined-push h.parts part)) (full-append (joined h.parts) part full);
  }

  -- what a character does in a string with fields, where a `{` may wait
  abbrev pub Moved : Place → Bool → List ℕ → ℕ → FieldMove → Type 0
  Moved place waits held c (grows m) = (text_place m ≡ place) × ((done : List Piece) → AtStart m outer done) × HoldsMode limit outer depth m (held ++ c ∷ [])
  Moved place waits held c closes = (place ≡ literal) × InClassIn (with_fields (limit.FieldsAt depth)) string (held ++ c ∷ []) × ((more : List ℕ) → MayPrecedeIn fielded string (held ++ c ∷ []) more)
  Moved place waits held c (begins_code h) = (waits ≡ true) × (place ≡ literal) × (c == byte "{" ≡ false) × (text : List ℕ) × (held ≡ text ++ byte "{" ∷ []) × HoldsParts limit outer depth h literal false text (byte "{" ∷ [])
  Moved place waits held c (opens_field h) = (place ≡ specification) × (c ≡ byte "{") × HoldsParts limit outer depth h specification false held (byte "{" ∷ [])
  Moved place waits held c ends_field = (place ≡ specification) × (c ≡ byte "}") × HoldsParts limit outer depth host specification false held (byte "}" ∷ [])
  Moved place waits held c refused = ((is_break c ≡ true) × (host.is_long ≡ false)) ⊎ ((place ≡ specification) × (c ≡ host.quote))
  Moved place waits held c breaks = ⊥

  -- a character that stands for itself
  pub bare_one : (place : Place) (named after : Bool) (held : List ℕ) (c : ℕ) → HoldsParts limit outer depth host place named held (c ∷ []) → c == host.quote ≡ false → is_backslash c ≡ false → is_break c && not host.is_long ≡ false → is_ordinary place named c ≡ true → named && not (c == 125) ≡ after → HoldsBetween limit outer depth host place after (held ++ c ∷ []) []
  bare_one place named after held c h other no_slash stays itself is =
      push_between place named after held (c ∷ []) [] h (λ more. bare c refl no_slash (stands host.is_long host.quote c stays other) itself) other tt is

  opening : (waits : Bool) (place : Place) (held : List ℕ) (c : ℕ) → HoldsParts limit outer depth host place false held (c ∷ []) → c ≡ 123 → Moved place waits held c (opening_move host place)
  opening waits literal held c h is = (refl, λ done. tt, (held, ap (λ (d : ℕ). held ++ d ∷ []) is, refl, refl, subst (λ (d : ℕ). HoldsParts limit outer depth host literal false held (d ∷ [])) is h))
  opening waits specification held c h is = (refl, is, subst (λ (d : ℕ). HoldsParts limit outer depth host specification false held (d ∷ [])) is h)

  ending : (waits : Bool) (place : Place) (named : Bool) (held : List ℕ) (c : ℕ) → HoldsParts limit outer depth host place named held (c ∷ []) → c == 125 ≡ true → c == host.quote ≡ false → is_backslash c ≡ false → is_break c && not host.is_long ≡ false → Moved place waits held c (ending_move host place named)
  ending waits literal named held c h is other no_slash stays =
      let itself : is_ordinary literal named c ≡ true = subst (λ (d : ℕ). named || not (d == 123) ≡ true) (sym (eqb-true c 125 is)) (or_right named true refl) in
      (refl, λ done. tt, bare_one literal named false held c h other no_slash stays itself (rw is (and_right named false refl)))
  ending waits specification true held c h is other no_slash stays = (refl, λ done. tt, bare_one specification true false held c h other no_slash stays refl (rw is refl))
  ending waits specification false held c h is other no_slash stays = (refl, eqb-true c 125 is, subst (λ (d : ℕ). HoldsParts limit outer depth host specification false held (d ∷ [])) (eqb-true c 125 is) h)

  -- what a quote of the string does
  abbrev pub quote_move : Place → Bool → At → FieldMove
  quote_move place named at = if host.is_long && not (is_after_two at) then grows (body host place named (with_quote at)) else closing_move place

  -- a character between two parts, or after a quote of the string
  pub between_moves : (waits : Bool) (place : Place) (named : Bool) (at : At) (held : List ℕ) (c : ℕ) → HoldsParts limit outer depth host place named held (c ∷ []) → (c ≡ host.quote → Moved place waits held c (quote_move place named at)) → Moved place waits held c (between_move host place named at c)
  unfolding between_move
  between_moves waits place named at held c h quoted = let P : FieldMove → Type 0 = Moved place waits held c in
      cond_both (c == host.quote) _ _ P (λ same. quoted (eqb-true c host.quote same))
      (λ other. cond_both (is_backslash c) _ _ P (λ slashes. (refl, λ done. tt, (held, c, refl, slashes, h)))
      (λ no_slash. cond_both (is_break c && not host.is_long) _ _ P (λ ended. inl (and_not (is_break c) host.is_long ended))
      (λ stays. cond_both ((c == 123) && not named) _ _ P (λ opens. let parts = and_not (c == 123) named opens in
      opening waits place held c (subst (λ n. HoldsParts limit outer depth host place n held (c ∷ [])) parts.1 h) (eqb-true c 123 parts.0))
      (λ no_open. cond_both (c == 125) _ _ P (λ is. ending waits place named held c h is other no_slash stays)
      (λ no_close. (refl, λ done. tt, bare_one place named named held c h other no_slash stays (ordinary_character place named c no_open no_close) (rw no_close (and-true named))))))))

  -- after a quote that is a part of its own, of a long string
  quote_on : (place : Place) (named : Bool) (text next : List ℕ) → host.is_long ≡ true → (h : HoldsParts limit outer depth host place named text (host.quote ∷ [])) → has_triple host.quote (h.parts ++ (host.quote ∷ []) ∷ []) ≡ false → HoldsParts limit outer depth host place named (text ++ host.quote ∷ []) next
  unfolding push
  quote_on place named text next long h open_yet =
      let itself = ordinary_character place named host.quote (and_left _ _ (quote-not-open host.quote h.quotes)) (quote_no_end host.quote h.quotes) in
      let whole : (rest : List ℕ) → IsPart (limit.FieldsAt depth) host place named (host.quote ∷ []) rest = λ rest. bare host.quote refl (quote-not-slash host.quote h.quotes) (ap (λ b. b || not (is_barred host.quote host.quote)) long) itself in
      push place named named text (host.quote ∷ []) next h (λ more. whole (next ++ more)) open_yet (rw (quote_no_end host.quote h.quotes) (and-true named))

  apart_after : (parts : List (List ℕ)) → has_triple host.quote (parts ++ (host.quote ∷ []) ∷ (host.quote ∷ []) ∷ []) ≡ false → has_triple host.quote ((parts ++ (host.quote ∷ []) ∷ []) ++ (host.quote ∷ []) ∷ []) ≡ false
  apart_after parts apart = ap (has_triple host.quote) (append_assoc parts ((host.quote ∷ []) ∷ []) ((host.quote ∷ []) ∷ [])) ∙ apart

  -- after one quote of a long string, and after two
  pub one_quote : (place : Place) (named : Bool) (text next : List ℕ) → host.is_long ≡ true → HoldsBetween limit outer depth host place named text (host.quote ∷ []) → HoldsParts limit outer depth host place named (text ++ host.quote ∷ []) next
  one_quote place named text next long h = quote_on place named text next long h.all (triple-left host.quote (h.all.parts ++ (host.quote ∷ []) ∷ []) ((host.quote ∷ []) ∷ []) (apart_after h.all.parts h.apart))

  pub two_quotes : (place : Place) (named : Bool) (text next : List ℕ) → host.is_long ≡ true → HoldsBetween limit outer depth host place named text (host.quote ∷ []) → HoldsParts limit outer depth host place named (text ++ host.quote ∷ host.quote ∷ []) next
  unfolding one_quote quote_on
  two_quotes place named text next long h =
      subst (λ t. HoldsParts limit outer depth host place named t next) (append_assoc text (host.quote ∷ []) (host.quote ∷ []))
      (quote_on place named (text ++ host.quote ∷ []) next long (one_quote place named text (host.quote ∷ []) long h) (apart_after h.all.parts h.apart))

  -- the quotes that close the string
  pub whole_string : (named : Bool) (text more : List ℕ) → quotes_of host ≡ host.quote ∷ more → (own : HoldsParts limit outer depth host literal named text (host.quote ∷ [])) → has_triple host.quote (own.parts ++ (host.quote ∷ []) ∷ (host.quote ∷ []) ∷ []) ≡ false → IsFieldString (limit.FieldsAt depth) (text ++ host.quote ∷ more)
  whole_string named text more quotes own apart = grind arith

  -- with them a literal part ends the string, which is no empty one; in a specification they may not stand
  closes_at : (waits : Bool) (place : Place) (named : Bool) (held text more : List ℕ) (c : ℕ) → held ++ c ∷ [] ≡ text ++ host.quote ∷ more → quotes_of host ≡ host.quote ∷ more → c ≡ host.quote → (h : HoldsBetween limit outer depth host place named text (host.quote ∷ [])) → (place ≡ literal → (r : ℕ) → more ++ (joined h.all.parts ++ host.quote ∷ more) ≡ r ∷ [] → ⊥) → Moved place waits held c (closing_move place)
  unfolding whole_string
  closes_at waits literal named held text more c is quotes same h other = let own = whole_string named text more quotes h.all h.apart in (
    refl,
    subst (InClassIn (with_fields (limit.FieldsAt depth)) string) (sym is) (inr own),
    λ after. full_string own.prefix (more ++ (joined own.parts ++ host.quote ∷ more)) (held ++ c ∷ []) after host.quote (is ∙ own.spell ∙ ap (λ t. own.prefix ++ (t ++ (joined own.parts ++ t))) quotes) own.begun h.all.quotes (other refl),
  )
  closes_at waits specification named held text more c is quotes same h other = inr (refl, same)

  -- a quote of the string: the first one, the second one of a long string, and the third
  pub first_quotes : (waits : Bool) (place : Place) (named : Bool) (held : List ℕ) (c : ℕ) → HoldsBetween limit outer depth host place named held (c ∷ []) → c ≡ host.quote → Moved place waits held c (quote_move place named between)
  first_quotes waits place named held c h is =
      let own : HoldsBetween limit outer depth host place named held (host.quote ∷ []) = subst (λ (d : ℕ). HoldsBetween limit outer depth host place named held (d ∷ [])) is h in
      let spell : held ++ c ∷ [] ≡ held ++ host.quote ∷ [] = ap (λ (d : ℕ). held ++ d ∷ []) is in
      cond_both (host.is_long && true) _ _ (Moved place waits held c) (λ long. (refl, λ done. tt, (held, spell, (and_parts _ _ long).0, own))) (λ one.
      let short = plain_one host.is_long one in
      closes_at waits place named held held [] c spell (short_quotes host short) is own (λ at r single. more_than_one (joined own.all.parts) host.quote r (own.full at short) single))

  pub second_quote : (waits : Bool) (place : Place) (named : Bool) (held : List ℕ) (c : ℕ) → HoldsAt limit outer depth host place named after_one held → c ≡ host.quote → Moved place waits held c (quote_move place named after_one)
  second_quote waits place named held c (text, spell, long, h) is = cond_both (host.is_long && true) _ _ (Moved place waits held c)
      (λ two. (refl, λ done. tt, (text, ap (λ t. t ++ c ∷ []) spell ∙ append_assoc text (host.quote ∷ []) (c ∷ []) ∙ ap (λ (d : ℕ). text ++ host.quote ∷ d ∷ []) is, long, h)))
      (λ short. absurd (both_ways _ short (and_from _ _ long refl)))

  pub third_quote : (waits : Bool) (place : Place) (named : Bool) (held : List ℕ) (c : ℕ) → HoldsAt limit outer depth host place named after_two held → c ≡ host.quote → Moved place waits held c (quote_move place named after_two)
  third_quote waits place named held c (text, spell, long, h) is = cond_both (host.is_long && false) _ _ (Moved place waits held c)
      (λ two. absurd (both_ways _ (and_right host.is_long false refl) two)) (λ three. closes_at waits place named held text (host.quote ∷ host.quote ∷ []) c
      (ap (λ t. t ++ c ∷ []) spell ∙ append_assoc text (host.quote ∷ host.quote ∷ []) (c ∷ []) ∙ ap (λ (d : ℕ). text ++ host.quote ∷ host.quote ∷ d ∷ []) is) (rw long) is h
      (λ at r one. absurd (cc)))

may_stand_escaped : (host : Host) (place : Place) (c : ℕ) → is_barred_escape host place c ≡ false → may_be_escaped host place c ≡ true
may_stand_escaped host place c h = grind arith

barred_short : (host : Host) (place : Place) (c : ℕ) → is_barred_escape host place c ≡ true → (is_break c ≡ true) × (host.is_long ≡ false)
barred_short host literal c h = absurd (both_ways _ refl h)
barred_short host specification c h = and_not (is_break c) host.is_long h

module _ (limit : Limit) (outer : List Level) (depth : ℕ) (host : Host) where
  -- between two parts
  between_two : (waits : Bool) (place : Place) (named : Bool) (held : List ℕ) (c : ℕ) → HoldsBetween limit outer depth host place named held (c ∷ []) → Moved limit outer depth host place waits held c (between_move host place named between c)
  between_two waits place named held c h = between_moves limit outer depth host waits place named between held c h.all (λ same. first_quotes limit outer depth host waits place named held c h same)

  -- where what follows whole parts is one more part, which is no quote
  pushed : (place : Place) (named after : Bool) (held text first more next : List ℕ) → held ≡ text ++ (first ++ more) → HoldsParts limit outer depth host place named text first → ((rest : List ℕ) → IsPart (limit.FieldsAt depth) host place named (first ++ more) (next ++ rest)) → is_bare (λ d. d == host.quote) (first ++ more) ≡ false → IsFull (first ++ more) → named_after named (first ++ more) ≡ after → HoldsBetween limit outer depth host place after held next
  pushed place named after held text first more next is h each other full names = subst (λ t. HoldsBetween limit outer depth host place after t next) (sym is)
      (push_between limit outer depth host place named after text (first ++ more) next (longer_next limit outer depth host place named text first more h) each other full names)

  -- what each character does
  pub body_moves : (place : Place) (named : Bool) (at : At) (held : List ℕ) (c : ℕ) → HoldsAt limit outer depth host place named at held → Moved limit outer depth host place (is_after_brace at) held c (body_move host place named at c)
  unfolding body_move escape_move
  body_moves place named between held c h = between_two false place named held c (record { all = longer_next limit outer depth host place named held [] (c ∷ []) h.all; apart = h.apart; full = h.full })
  body_moves place named after_one held c h = between_moves limit outer depth host false place named after_one held c
      (subst (λ t. HoldsParts limit outer depth host place named t (c ∷ [])) (sym h.1) (one_quote limit outer depth host place named h.0 (c ∷ []) h.2 h.3)) (λ same. second_quote limit outer depth host false place named held c h same)
  body_moves place named after_two held c h = between_moves limit outer depth host false place named after_two held c
      (subst (λ t. HoldsParts limit outer depth host place named t (c ∷ [])) (sym h.1) (two_quotes limit outer depth host place named h.0 (c ∷ []) h.2 h.3)) (λ same. third_quote limit outer depth host false place named held c h same)
  body_moves place named after_slash held c (text, s, is, slashes, h) = let P : FieldMove → Type 0 = Moved limit outer depth host place false held c in
      let spell : held ++ c ∷ [] ≡ text ++ s ∷ c ∷ [] = ap (λ t. t ++ c ∷ []) is ∙ append_assoc text (s ∷ []) (c ∷ []) in cond_both (is_brace c) _ _ P (λ brace.
      between_two false place named held c
      (pushed place named named held text (s ∷ []) [] (c ∷ []) is h (λ more. slash s refl slashes brace) (not_quote s host.quote h.quotes (slash-not-quote s slashes)) tt (rw (slash-not-closing s slashes) (and-true named))))
      (λ no_brace. cond_both (is_barred_escape host place c) _ _ P (λ barred. inl (barred_short host place c barred)) (λ free. cond_both (is_return c) _ _ P
      (λ returns. (refl, λ done. tt, (text, s, c, spell, slashes, returns, may_stand_escaped host place c free, h)))
      (λ no_return. cond_both (names host c) _ _ P
      (λ named_one. (refl, λ done. tt, (text, s, c, spell, slashes, named_one, may_stand_escaped host place c free, h))) (λ no_name.
      (refl, λ done. tt, pushed place named named (held ++ c ∷ []) text (s ∷ []) (c ∷ []) [] spell h (λ more. escape s c refl slashes no_brace (may_stand_escaped host place c free) (and_left _ _ no_name) (and_left _ _ no_return)) refl tt refl)))))
  body_moves place named after_return held c (text, s, r, is, slashes, returns, may, h) =
      cond_both (is_line_feed c) _ _ (Moved limit outer depth host place false held c) (λ feeds.
      let own = pushed place named named (held ++ c ∷ []) text (s ∷ []) (r ∷ c ∷ []) [] (ap (λ t. t ++ c ∷ []) is ∙ append_assoc text (s ∷ r ∷ []) (c ∷ [])) h
      (λ more. escaped_end s r c refl slashes returns feeds may) refl tt (kept_or named (is_backslash s && (r == 78)) (and_right _ _ (return-not-letter r returns))) in
      (refl, λ done. tt, own)) (λ no_feed. between_two false place named held c (pushed place named named held text (s ∷ []) (r ∷ []) (c ∷ []) is h
      (λ more. escape s r refl slashes (return-not-brace r returns) may (and_left _ _ (and_left _ _ (return-not-letter r returns))) (and_right _ _ no_feed)) refl tt refl))
  body_moves place named after_name held c (text, s, n, is, slashes, is_name, may, h) =
      cond_both (c == 123) _ _ (Moved limit outer depth host place false held c) (λ braces.
      let own = pushed place named true (held ++ c ∷ []) text (s ∷ []) (n ∷ c ∷ []) [] (ap (λ t. t ++ c ∷ []) is ∙ append_assoc text (s ∷ n ∷ []) (c ∷ [])) h
      (λ more. name s n c refl slashes is_name (eqb-true c 123 braces)) refl tt (or_right named (is_backslash s && (n == 78)) (and_from _ _ slashes (names_letter host n is_name))) in
      (refl, λ done. tt, own)) (λ no_brace. between_two false place named held c (pushed place named named held text (s ∷ []) (n ∷ []) (c ∷ []) is h
      (λ more. escape s n refl slashes (name-not-brace host n is_name) may (and_right _ _ no_brace) (and_left _ _ (name-not-return host n is_name))) refl tt refl))
  body_moves place named after_brace held c (text, is, at, unnamed, h) = cond_both (c == 123) _ _ (Moved limit outer depth host place true held c) (λ braces.
      (refl, λ done. tt, pushed place named named (held ++ c ∷ []) text (123 ∷ []) (c ∷ []) [] (ap (λ t. t ++ c ∷ []) is ∙ append_assoc text (123 ∷ []) (c ∷ [])) h (λ more. double 123 c refl refl (eqb-true c 123 braces) at unnamed) refl tt refl))
      (λ no_brace. (refl, at, no_brace, text, is, subst (λ p. HoldsParts limit outer depth host p false text (123 ∷ [])) at (subst (λ n. HoldsParts limit outer depth host place n text (123 ∷ [])) unnamed h)))
