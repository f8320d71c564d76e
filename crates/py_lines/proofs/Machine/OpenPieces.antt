-- What the open piece spells in each mode of the machine, and how it grows.
use Rattle.py_lines.proofs.Prelude.{◌≡◌, ℕ, Bool, true, false, ◌==◌, eqb, List, [], ◌∷◌, ◌++◌, refl, sym, ap, ◌∙◌, subst, append_assoc, append-nil, list_all, list_any, list_all-append, list_any-append, and_from, or_from, eqb-true, both_ways, false_from_ne_true, not_from_false, arith, is_quote, is_backslash, string}
use Rattle.py_lines.specs.PieceGrammar.{IsPrefix, is_item, is_bare, is_short_item, joined, has_triple, IsShortString, IsLongString, MayPrecedePlain}
use Rattle.py_lines.specs.Private.Machine.{IsFull, HoldsItems, HoldsShort, HoldsSome, HoldsQuotes, HoldsPrefix, HoldsLong}
use Rattle.py_lines.proofs.Pieces.PieceLists.{joined-append}
use Rattle.py_lines.proofs.Text.CharacterTests.{slash-not-quote}
use Rattle.py_lines.proofs.Fields.Prefixes.{plain_quotes, first_quote}
use Rattle.py_lines.proofs.Pieces.TripleQuotes.{triple-left, triple-other}

pub full-append : (xs ys : List ℕ) → IsFull ys → IsFull (xs ++ ys)
full-append [] ys h = h
full-append (x ∷ xs) ys h = tt

pub list_all-push : {A : Type 0} (p : A → Bool) (cs : List A) (c : A) → list_all p cs ≡ true → p c ≡ true → list_all p (cs ++ c ∷ []) ≡ true
list_all-push p cs c all one = list_all-append p cs (c ∷ []) ∙ and_from _ _ all (and_from (p c) true one refl)

pub list_any-push : (p : ℕ → Bool) (cs : List ℕ) (c : ℕ) → list_any p cs ≡ false → p c ≡ false → list_any p (cs ++ c ∷ []) ≡ false
list_any-push p cs c none one = list_any-append p cs (c ∷ []) ∙ or_from _ _ none (or_from (p c) false one refl)

pub push : {x : ℕ} {xs : List ℕ} (held : List ℕ) (c : ℕ) → held ≡ x ∷ xs → held ++ c ∷ [] ≡ x ∷ (xs ++ c ∷ [])
push held c is = ap (λ t. t ++ c ∷ []) is

pub joined-push : (items : List (List ℕ)) (i : List ℕ) → joined (items ++ i ∷ []) ≡ joined items ++ i
joined-push items i = joined-append items (i ∷ []) ∙ ap (λ t. joined items ++ t) (append-nil i)

-- the quote that a string begins with, and what follows, are the same however its prefix is told
pub same_quotes : (prefix other : List ℕ) (q r : ℕ) (body rest : List ℕ) → prefix ++ q ∷ body ≡ other ++ r ∷ rest → IsPrefix prefix → IsPrefix other → is_quote q ≡ true → is_quote r ≡ true → q ∷ body ≡ r ∷ rest
same_quotes prefix other q r body rest same one two quotes also = (first_quote prefix other body rest q r (plain_quotes prefix one) (plain_quotes other two) quotes also same).1

pub not_one : (b : ℕ) (bs : List ℕ) (q r : ℕ) → b ∷ (bs ++ q ∷ []) ≡ r ∷ [] → ⊥
not_one b [] q r h = cc
not_one b (c ∷ cs) q r h = cc

-- a short string that holds something is no empty one
pub something : (prefix body : List ℕ) (q : ℕ) (text rest : List ℕ) → text ≡ prefix ++ (q ∷ body ++ q ∷ []) → IsPrefix prefix → is_quote q ≡ true → IsFull body → MayPrecedePlain string text rest
something prefix [] q text rest is begun opens full other r spell also quotes = absurd full
something prefix (b ∷ bs) q text rest is begun opens full other r spell also quotes =
    absurd (not_one b bs q r (cc (same_quotes prefix other q r (b ∷ (bs ++ q ∷ [])) (r ∷ []) (sym is ∙ spell) begun also opens quotes)))

-- nor is a long one
pub long_something : (prefix body : List ℕ) (q : ℕ) (text rest : List ℕ) → text ≡ prefix ++ (q ∷ q ∷ q ∷ body) → IsPrefix prefix → is_quote q ≡ true → MayPrecedePlain string text rest
long_something prefix body q text rest is begun opens other r spell also quotes =
    absurd (cc (same_quotes prefix other q r (q ∷ q ∷ body) (r ∷ []) (sym is ∙ spell) begun also opens quotes))

-- more items
items_push : (quotes : List ℕ) (MayHold MayGoOn : List (List ℕ) → Type 0) (q : ℕ) (held : List ℕ) (more : List (List ℕ)) → ((items : List (List ℕ)) → MayHold items → MayGoOn (items ++ more)) → HoldsItems quotes MayHold q held → HoldsItems quotes MayGoOn q (held ++ joined more)
items_push quotes MayHold MayGoOn q held more may before = grind (arith, append_assoc, joined-append)

-- one more item of a short string
pub short_push : (q : ℕ) (held item : List ℕ) → HoldsShort q held → is_short_item q item ≡ true → IsFull (joined (item ∷ [])) → HoldsSome q (held ++ joined (item ∷ []))
unfolding items_push
short_push q held item before is full = (
  items_push (q ∷ []) _ _ q held (item ∷ []) (λ items each. list_all-push (is_short_item q) items item each is) before,
  subst IsFull (sym (joined-append before.items (item ∷ []))) (full-append (joined before.items) (joined (item ∷ [])) full),
)

-- one more item of a long string, which is no quote
pub prefix_push : (q : ℕ) (held item : List ℕ) → HoldsPrefix q held → is_item item ≡ true → is_bare (λ d. d == q) item ≡ false → HoldsLong q (held ++ joined (item ∷ []))
prefix_push q held item before is other =
    let two = (q ∷ []) ∷ (q ∷ []) ∷ [] in
    items_push (q ∷ q ∷ q ∷ []) _ _ q held (item ∷ [])
    (λ items holds. (list_all-push is_item items item holds.0 is, ap (has_triple q) (append_assoc items (item ∷ []) two) ∙ triple-other q items item two other holds.1 refl)) before

pub quote-not-slash : (q : ℕ) → is_quote q ≡ true → is_backslash q ≡ false
quote-not-slash q quotes = false_from_ne_true _ (λ slash. both_ways _ (slash-not-quote q slash) quotes)

-- quotes are items of a long string
quote_item : (q : ℕ) → is_quote q ≡ true → is_item (q ∷ []) ≡ true
quote_item q quotes = not_from_false _ (quote-not-slash q quotes)

pub quotes_items : (q : ℕ) → is_quote q ≡ true → list_all is_item ((q ∷ []) ∷ (q ∷ []) ∷ []) ≡ true
quotes_items q quotes = and_from _ _ (quote_item q quotes) (and_from _ _ (quote_item q quotes) refl)

-- a long string that more items and others don't close is open after the first of these
opening_more : (q : ℕ) (held : List ℕ) (more others : List (List ℕ)) → more ++ others ≡ (q ∷ []) ∷ (q ∷ []) ∷ [] → list_all is_item more ≡ true → HoldsLong q held → HoldsPrefix q (held ++ joined more)
opening_more q held more others two each long = items_push (q ∷ q ∷ q ∷ []) _ _ q held more
    (λ items holds. (list_all-append is_item items more ∙ and_from _ _ holds.0 each, triple-left q (items ++ more) others (ap (has_triple q) (append_assoc items more others ∙ ap (λ l. items ++ l) two) ∙ holds.1))) long

-- so it is after none, one or two quotes
pub opening_none : (q : ℕ) (held : List ℕ) → HoldsLong q held → HoldsPrefix q held
opening_none q held long = subst (HoldsPrefix q) (append-nil held) (opening_more q held [] ((q ∷ []) ∷ (q ∷ []) ∷ []) refl refl long)

pub opening_one : (q : ℕ) (held : List ℕ) → HoldsLong q held → HoldsPrefix q (held ++ q ∷ [])
opening_one q held long = opening_more q held ((q ∷ []) ∷ []) ((q ∷ []) ∷ []) refl (and_from _ _ (quote_item q long.opens) refl) long

pub opening_two : (q : ℕ) (held : List ℕ) → HoldsLong q held → HoldsPrefix q (held ++ q ∷ q ∷ [])
opening_two q held long = opening_more q held ((q ∷ []) ∷ (q ∷ []) ∷ []) [] refl (quotes_items q long.opens) long

-- after the opening quotes
pub none_yet : (quotes : List ℕ) (MayHold : List (List ℕ) → Type 0) (q : ℕ) (held : List ℕ) → MayHold [] → HoldsQuotes quotes q held → HoldsItems quotes MayHold q held
none_yet quotes MayHold q held may opened =
    record { prefix = opened.prefix; items = []; spell = opened.spell ∙ ap (λ t. opened.prefix ++ t) (sym (append-nil quotes)); begun = opened.begun; opens = opened.opens; holds = may }

pub one_more_quote : (quotes : List ℕ) (q : ℕ) (held : List ℕ) (c : ℕ) → eqb c q ≡ true → HoldsQuotes quotes q held → HoldsQuotes (quotes ++ q ∷ []) q (held ++ c ∷ [])
one_more_quote quotes q held c same before = grind arith

-- the closing quote of a short string
unfoldable pub short_string : (q : ℕ) (held : List ℕ) (c : ℕ) → eqb c q ≡ true → HoldsShort q held → IsShortString (held ++ c ∷ [])
short_string q held c same before = record {
  prefix = before.prefix;
  quote = q;
  items = before.items;
  spell = ap (λ t. t ++ c ∷ []) before.spell ∙ append_assoc before.prefix (q ∷ joined before.items) (c ∷ []) ∙ ap (λ (d : ℕ). before.prefix ++ (q ∷ joined before.items ++ d ∷ [])) (eqb-true c q same);
  begun = before.begun;
  opens = before.opens;
  each = before.holds;
}

-- the last quote of a long string
unfoldable pub long_string : (q : ℕ) (before : List ℕ) → HoldsLong q before → IsLongString (before ++ q ∷ q ∷ q ∷ [])
long_string q before long = record {
  prefix = long.prefix;
  quote = q;
  items = long.items;
  spell = ap (λ t. t ++ q ∷ q ∷ q ∷ []) long.spell ∙ append_assoc long.prefix (q ∷ q ∷ q ∷ joined long.items) (q ∷ q ∷ q ∷ []);
  begun = long.begun;
  opens = long.opens;
  each = long.holds.0;
  first = long.holds.1;
}
