-- The machine with fields goes through the parts of a string, where it goes through the fields among them.
use Rattle.py_lines.proofs.Prelude.{◌≡◌, ℕ, Bool, true, false, not, ◌&&◌, ◌||◌, eqb, List, [], ◌∷◌, ◌++◌, refl, sym, ap, ◌∙◌, subst, append_assoc, append-nil, arith, and-true, eq-eqb, eqb-true, nat_tests, Piece, begins}
use Rattle.py_lines.specs.Character.{is_quote, is_line_feed, is_return, is_break, is_backslash, is_barred, is_brace}
use Rattle.py_lines.specs.PieceGrammar.{joined, has_triple}
use Rattle.py_lines.specs.FieldStrings.{Host, Place, literal, specification, is_ordinary, may_stand, may_be_escaped, names, begins_open, begins_double, IsPart, bare, slash, escape, escaped_end, name, double, field, named_after, named_through, AreParts}
use Rattle.py_lines.specs.Private.FieldMachine.{At, between, after_one, after_two, after_slash, after_return, after_name, after_brace, FieldMode, body, grows, Level, FieldScanned, field_state, is_after_brace, is_after_two, with_quote, opening_move, between_move, escape_move, body_move, field_move}
use Rattle.py_lines.proofs.Text.CharacterTests.{none_of, not_quote, slash-not-quote, return-not-brace}
use Rattle.py_lines.proofs.Fields.Parts.{BeginOpen, ordinary, names_is}
use Rattle.py_lines.proofs.Machine.StringSteps.{later_triple}
use Rattle.py_lines.proofs.FieldMachine.Runs.{Goes, GrowsTo, goes-append, goes-to, goes-grown}

pub kept_or : (a b : Bool) → b ≡ false → a || b ≡ a
kept_or true b h = refl
kept_or false b h = h

-- what counts of a place for the next quote of the string: how many stand directly before
abbrev pub settled : At → At
settled after_one = after_one
settled after_two = after_two
settled other = between

-- the quotes directly before, as parts
abbrev pub quotes_seen : ℕ → At → List (List ℕ)
quotes_seen quote after_one = (quote ∷ []) ∷ []
quotes_seen quote after_two = (quote ∷ []) ∷ (quote ∷ []) ∷ []
quotes_seen quote other = []

-- A part may begin with this text: what stands before doesn't change its meaning. At the text's end no field is about to open.
abbrev pub MayGoOn : Host → Place → Bool → At → List ℕ → Type 0
MayGoOn host place named at [] = is_after_brace at ≡ false
MayGoOn host place named at (c ∷ cs) = body_move host place named at c ≡ between_move host place named (settled at) c

-- what a part may begin with after such a place, so that it does
abbrev MayFollow : At → List ℕ → Type 0
MayFollow after_slash rest = begins is_brace rest ≡ true
MayFollow after_return rest = begins is_line_feed rest ≡ false
MayFollow after_name rest = begins_open rest ≡ false
MayFollow after_brace rest = ⊥
MayFollow at rest = Unit {0}

goes_on_so : (host : Host) (place : Place) (named : Bool) (at : At) (rest : List ℕ) → MayFollow at rest → MayGoOn host place named at rest
unfolding body_move escape_move
goes_on_so host place named at rest may = grind arith

pub goes_on : (host : Host) (place : Place) (named : Bool) (rest : List ℕ) → MayGoOn host place named between rest
goes_on host place named rest = goes_on_so host place named between rest tt

pub goes_on-quotes : (host : Host) (place : Place) (named : Bool) (at : At) (rest : List ℕ) → MayGoOn host place named (with_quote at) rest
goes_on-quotes host place named after_one rest = goes_on_so host place named after_two rest tt
goes_on-quotes host place named at rest = goes_on_so host place named after_one rest tt

pub body_moves : (host : Host) (place : Place) (named : Bool) (at : At) (held : List ℕ) (c : ℕ) (cs : List ℕ) → MayGoOn host place named at (c ∷ cs) → field_move (body host place named at) held c ≡ between_move host place named (settled at) c
unfolding field_move
body_moves host place named at held c cs on = on

-- a quote of its own in a long string
pub quote_grows : (host : Host) (place : Place) (named : Bool) (at : At) → host.is_long ≡ true → is_after_two at ≡ false → between_move host place named at host.quote ≡ grows (body host place named (with_quote at))
unfolding between_move
quote_grows host place named at long two = rw (eq-eqb host.quote host.quote refl, long, two)

pub slash_grows : (host : Host) (place : Place) (named : Bool) (at : At) (s : ℕ) → is_quote host.quote ≡ true → is_backslash s ≡ true → between_move host place named at s ≡ grows (body host place named after_slash)
unfolding between_move
slash_grows host place named at s quotes slashes = rw (not_quote s host.quote quotes (slash-not-quote s slashes), slashes)

-- a character that stands for itself
itself_grows : (host : Host) (place : Place) (named : Bool) (at : At) (c : ℕ) → eqb c host.quote ≡ false → is_backslash c ≡ false → is_break c && not host.is_long ≡ false → is_ordinary place named c ≡ true → between_move host place named at c ≡ grows (body host place (named_after named (c ∷ [])) between)
unfolding between_move is_brace
itself_grows host literal named at c other no_slash no_break itself = grind (arith, ordinary literal named c itself)
itself_grows host specification named at c other no_slash no_break itself = grind (arith, ordinary specification named c itself)

-- after one quote more
quote_seen : (q : ℕ) (at : At) (tail : List (List ℕ)) → has_triple q (quotes_seen q at ++ (q ∷ []) ∷ tail) ≡ false → (is_after_two (settled at) ≡ false) × (has_triple q (quotes_seen q (with_quote (settled at)) ++ tail) ≡ false)
quote_seen q at tail h = grind (arith, eq-eqb q q refl)

-- a backslash and another character
pub other_escaped : (host : Host) (place : Place) (named : Bool) (held : List ℕ) (c : ℕ) → is_brace c ≡ false → may_be_escaped host place c ≡ true → is_return c ≡ false → names host c ≡ false → field_move (body host place named after_slash) held c ≡ grows (body host place named between)
unfolding field_move body_move escape_move
other_escaped host place named held c no_brace may other no_name = grind arith

pub second_brace : (host : Host) (place : Place) (named : Bool) (held : List ℕ) → field_move (body host place named after_brace) held 123 ≡ grows (body host place named between)
unfolding field_move body_move
second_brace host place named held = refl

-- `{` where it doesn't stand for itself
pub open_moves : (host : Host) (place : Place) (at : At) → is_quote host.quote ≡ true → between_move host place false at 123 ≡ opening_move host place
unfolding between_move is_backslash is_break is_quote
open_moves host place at quotes = rw (not_quote 123 host.quote quotes refl)

pub quote_no_end : (q : ℕ) → is_quote q ≡ true → eqb q 125 ≡ false
unfolding is_quote
quote_no_end q quotes = none_of (λ d. eqb d 125) (39 ∷ 34 ∷ []) q refl quotes

pub field_unnamed : (rest : List ℕ) → named_after false (123 ∷ rest) ≡ false
unfolding is_backslash
field_unnamed (c ∷ d ∷ []) = refl
field_unnamed rest = refl

-- a part by each character of which the string's text grows, and other parts or the string's end may follow
record PartGrows (host : Host) (place : Place) (named after : Bool) (at : At) (part rest : List ℕ) (tail : List (List ℕ)) : Type 0 where
  to : At
  grown : GrowsTo (body host place named at) part (body host place after to)
  on : MayGoOn host place after to rest
  open_yet : has_triple host.quote (quotes_seen host.quote to ++ tail) ≡ false

-- the part before the rest, as far as it is known
abbrev Passes : Host → Place → Bool → At → List ℕ → List (List ℕ) → List ℕ → Type 0
Passes host place named at rest tail part =
    MayGoOn host place named at (part ++ rest) → has_triple host.quote (quotes_seen host.quote at ++ part ∷ tail) ≡ false
    → PartGrows host place named (named_after named part) at part rest tail

module _ (host : Host) (place : Place) (named : Bool) (at : At) (rest : List ℕ) (tail : List (List ℕ)) (quotes : is_quote host.quote ≡ true) where
  -- one character
  one_grows : (after : Bool) (to : At) (c : ℕ) → MayGoOn host place named at (c ∷ rest) → between_move host place named (settled at) c ≡ grows (body host place after to) → MayGoOn host place after to rest → has_triple host.quote (quotes_seen host.quote to ++ tail) ≡ false → PartGrows host place named after at (c ∷ []) rest tail
  one_grows after to c here moves on open_yet = record { to = to; grown = (body host place after to, λ held. body_moves host place named at held c rest here ∙ moves, refl); on = on; open_yet = open_yet }

  -- one that stands for itself
  bare_passes : (c : ℕ) → is_backslash c ≡ false → may_stand host c ≡ true → is_ordinary place named c ≡ true → Passes host place named at rest tail (c ∷ [])
  unfolding is_barred is_break
  bare_passes c no_slash stands itself = go (eqb c host.quote) refl where
    own_quote : may_stand host host.quote ≡ true → Passes host place named at rest tail (host.quote ∷ [])
    own_quote may here open_yet = let seen = quote_seen host.quote at tail open_yet in
        subst (λ n. PartGrows host place named n at (host.quote ∷ []) rest tail) (sym (ap (λ b. named && not b) (quote_no_end host.quote quotes) ∙ and-true named))
        (one_grows named (with_quote (settled at)) host.quote here (quote_grows host place named (settled at) (grind (arith, eq-eqb host.quote host.quote refl)) seen.0) (goes_on-quotes host place named (settled at) rest) seen.1)

    go : (b : Bool) → eqb c host.quote ≡ b → Passes host place named at rest tail (c ∷ [])
    go true same = subst (λ x. may_stand host x ≡ true → Passes host place named at rest tail (x ∷ [])) (sym (eqb-true c host.quote same)) own_quote stands
    go false other = λ here open_yet. one_grows _ between c here (itself_grows host place named (settled at) c other no_slash (grind arith) itself)
        (goes_on host place _ rest) (later_triple host.quote (quotes_seen host.quote at) (c ∷ []) tail open_yet)

  -- a backslash, and what the string's text grows by after it
  slash_then : (text : List ℕ) (s : ℕ) (to : FieldMode) → is_backslash s ≡ true → MayGoOn host place named at (s ∷ text ++ rest) → GrowsTo (body host place named after_slash) text to → GrowsTo (body host place named at) (s ∷ text) to
  slash_then text s to slashes here grown =
      (body host place named after_slash, λ held. body_moves host place named at held s (text ++ rest) here ∙ slash_grows host place named (settled at) s quotes slashes, grown)

  -- a part with no quote of the string at its end
  passes_to : (part : List ℕ) (to : At) → quotes_seen host.quote to ≡ [] → MayFollow to rest → (MayGoOn host place named at (part ++ rest) → GrowsTo (body host place named at) part (body host place (named_after named part) to)) → Passes host place named at rest tail part
  passes_to part to none may grown here open_yet =
      record { to = to; grown = grown here; on = goes_on_so host place _ to rest may; open_yet = ap (λ l. has_triple host.quote (l ++ tail)) none ∙ later_triple host.quote (quotes_seen host.quote at) part tail open_yet }

  slash_passes : (s : ℕ) → is_backslash s ≡ true → begins is_brace rest ≡ true → Passes host place named at rest tail (s ∷ [])
  unfolding is_backslash
  slash_passes s slashes braces = passes_to (s ∷ []) after_slash refl braces (λ here. slash_then [] s _ slashes here (grind (arith, nat_tests)))

  -- a backslash and a character that is no brace
  escape_passes : (s c : ℕ) → is_backslash s ≡ true → is_brace c ≡ false → may_be_escaped host place c ≡ true → names host c && begins_open rest ≡ false → is_return c && begins is_line_feed rest ≡ false → Passes host place named at rest tail (s ∷ c ∷ [])
  unfolding field_move body_move escape_move
  escape_passes s c slashes brace may none ended = go (is_return c) (names host c) refl refl where
    by : (to : At) → quotes_seen host.quote to ≡ [] → MayFollow to rest → ((held : List ℕ) → field_move (body host place named after_slash) held c ≡ grows (body host place named to)) → Passes host place named at rest tail (s ∷ c ∷ [])
    by to seen follows moves = passes_to (s ∷ c ∷ []) to seen follows (λ here. slash_then (c ∷ []) s _ slashes here (body host place named to, moves, refl))

    go : (r n : Bool) → is_return c ≡ r → names host c ≡ n → Passes host place named at rest tail (s ∷ c ∷ [])
    go true n returns is_name = by after_return refl (rw returns at ended) (λ held. grind arith)
    go false true other is_name = by after_name refl (rw is_name at none) (λ held. grind arith)
    go false false other no_name = by between refl tt (λ held. grind arith)

  -- a backslash, CR and LF
  end_passes : (s r f : ℕ) → is_backslash s ≡ true → is_return r ≡ true → is_line_feed f ≡ true → may_be_escaped host place r ≡ true → Passes host place named at rest tail (s ∷ r ∷ f ∷ [])
  unfolding field_move body_move escape_move is_return
  end_passes s r f slashes returns feeds may = passes_to (s ∷ r ∷ f ∷ []) between refl tt (λ here. slash_then (r ∷ f ∷ []) s _ slashes here (
    body host place named after_return,
    λ held. grind (arith, return-not-brace r returns),
    (body host place named between, λ held. rw feeds, grind (arith, nat_tests)),
  ))

  -- `\N{`
  name_passes : (s c : ℕ) → is_backslash s ≡ true → names host c ≡ true → Passes host place named at rest tail (s ∷ c ∷ 123 ∷ [])
  unfolding field_move body_move escape_move is_break is_brace is_return
  name_passes s c slashes is_name = passes_to (s ∷ c ∷ 123 ∷ []) between refl tt (λ here. slash_then (c ∷ 123 ∷ []) s _ slashes here (
    body host place named after_name,
    λ held. grind (arith, names_is host c is_name),
    (body host place true between, λ held. refl, grind (arith, names_is host c is_name)),
  ))

-- `{{`
double_passes : (host : Host) (at : At) (rest : List ℕ) (tail : List (List ℕ)) → is_quote host.quote ≡ true → Passes host literal false at rest tail (123 ∷ 123 ∷ [])
double_passes host at rest tail quotes = passes_to host literal false at rest tail quotes (123 ∷ 123 ∷ []) between refl tt (λ here. (
  body host literal false after_brace,
  λ held. body_moves host literal false at held 123 (123 ∷ rest) here ∙ open_moves host literal (settled at) quotes,
  (body host literal false between, λ held. second_brace host literal false held, refl),
))

module _ (Room : ℕ → Type 0) (outer : List Level) (done : List Piece) (openers : List ℕ) where
  -- the string is open in this list
  abbrev pub within : FieldMode → List ℕ → FieldScanned
  within mode held = field_state outer done openers mode held

  -- the machine goes through these fields of strings that are open here
  abbrev pub FieldsGo : (Host → List ℕ → Type 0) → Type 0
  FieldsGo F =
      (host : Host) (place : Place) (at : At) (held text : List ℕ) → F host text → is_quote host.quote ≡ true → (place ≡ literal → begins_double text ≡ false)
      → MayGoOn host place false at text → Goes Room (within (body host place false at) held) text (within (body host place false between) (held ++ text))

  -- it goes through a part, and other parts or the string's end may follow
  pub record PartGoes (host : Host) (place : Place) (named after : Bool) (at : At) (held part rest : List ℕ) (tail : List (List ℕ)) : Type 0 where
    pub to : At
    pub goes : Goes Room (within (body host place named at) held) part (within (body host place after to) (held ++ part))
    pub on : MayGoOn host place after to rest
    pub open_yet : has_triple host.quote (quotes_seen host.quote to ++ tail) ≡ false

  -- a field
  field_goes : (F : Host → List ℕ → Type 0) → BeginOpen F → FieldsGo F → (host : Host) (place : Place) (at : At) (held part rest : List ℕ) (tail : List (List ℕ)) → is_quote host.quote ≡ true → F host part → (place ≡ literal → begins_double part ≡ false) → MayGoOn host place false at (part ++ rest) → has_triple host.quote (quotes_seen host.quote at ++ part ∷ tail) ≡ false → PartGoes host place false (named_after false part) at held part rest tail
  field_goes F begin go host place at held part rest tail quotes is single here open_yet = let head = begin host part is in record {
    to = between;
    goes = goes-to Room _ _ _ part (go host place at held part is quotes single (rw head.2 (rw head.2 at here)))
        (ap (λ n. within (body host place n between) (held ++ part)) (sym (subst (λ t. named_after false t ≡ false) (sym head.2) (field_unnamed (head.0 ∷ head.1)))));
    on = goes_on host place _ rest;
    open_yet = later_triple host.quote (quotes_seen host.quote at) part tail open_yet;
  }

  -- a part
  part_goes : (F : Host → List ℕ → Type 0) → BeginOpen F → FieldsGo F → (host : Host) (place : Place) (named : Bool) (at : At) (held part rest : List ℕ) (tail : List (List ℕ)) → is_quote host.quote ≡ true → MayGoOn host place named at (part ++ rest) → has_triple host.quote (quotes_seen host.quote at ++ part ∷ tail) ≡ false → IsPart F host place named part rest → PartGoes host place named (named_after named part) at held part rest tail
  part_goes F begin go host place named at held part rest tail quotes here open_yet is_part = by is_part where
    grown : (text : List ℕ) → part ≡ text → Passes host place named at rest tail text → PartGoes host place named (named_after named part) at held part rest tail
    grown text is passes = let own = subst (Passes host place named at rest tail) (sym is) passes here open_yet in
        record { to = own.to; goes = goes-grown Room outer done openers _ _ held part own.grown; on = own.on; open_yet = own.open_yet }

    by : IsPart F host place named part rest → PartGoes host place named (named_after named part) at held part rest tail
    by (bare c is no_slash stands itself) = grown (c ∷ []) is (bare_passes host place named at rest tail quotes c no_slash stands itself)
    by (slash s is slashes braces) = grown (s ∷ []) is (slash_passes host place named at rest tail quotes s slashes braces)
    by (escape s c is slashes brace may none ended) = grown (s ∷ c ∷ []) is (escape_passes host place named at rest tail quotes s c slashes brace may none ended)
    by (escaped_end s r f is slashes returns feeds may) = grown (s ∷ r ∷ f ∷ []) is (end_passes host place named at rest tail quotes s r f slashes returns feeds may)
    by (name s c b is slashes is_name braces) = grown (s ∷ c ∷ 123 ∷ []) (is ∙ ap (λ x. s ∷ c ∷ x ∷ []) braces) (name_passes host place named at rest tail quotes s c slashes is_name)
    by (double b c is one two at_literal unnamed) = let P : Place → Bool → Type 0 = λ p n. Passes host p n at rest tail (123 ∷ 123 ∷ []) in
        grown (123 ∷ 123 ∷ []) (is ∙ ap (λ x. x ∷ c ∷ []) one ∙ ap (λ x. 123 ∷ x ∷ []) two) (subst (λ p. P p named) (sym at_literal) (subst (P literal) (sym unnamed) (double_passes host at rest tail quotes)))
    by (field is single unnamed) =
        let P : Bool → Type 0 = λ n. MayGoOn host place n at (part ++ rest) → PartGoes host place n (named_after n part) at held part rest tail in
        subst P (sym unnamed) (λ h. field_goes F begin go host place at held part rest tail quotes is single h open_yet) here

  -- parts, one after another
  pub parts_go : (F : Host → List ℕ → Type 0) → BeginOpen F → FieldsGo F → (host : Host) (place : Place) (named : Bool) (at : At) (held : List ℕ) (parts : List (List ℕ)) (rest : List ℕ) (tail : List (List ℕ)) → is_quote host.quote ≡ true → AreParts F host place named parts rest → MayGoOn host place named at (joined parts ++ rest) → has_triple host.quote (quotes_seen host.quote at ++ (parts ++ tail)) ≡ false → PartGoes host place named (named_through named parts) at held (joined parts) rest tail
  parts_go F begin go host place named at held [] rest tail quotes each here yet = record { to = at; goes = ap (within (body host place named at)) (sym (append-nil held)); on = here; open_yet = yet }
  parts_go F begin go host place named at held (p ∷ ps) rest tail quotes each here yet =
      let first = part_goes F begin go host place named at held p (joined ps ++ rest) (ps ++ tail) quotes (subst (MayGoOn host place named at) (append_assoc p (joined ps) rest) here) yet each.0 in
      let others = parts_go F begin go host place (named_after named p) first.to (held ++ p) ps rest tail quotes each.1 first.on first.open_yet in record {
        to = others.to;
        goes = goes-to Room _ _ _ (p ++ joined ps) (goes-append Room _ _ _ p (joined ps) first.goes others.goes) (ap (within (body host place _ others.to)) (append_assoc held p (joined ps)));
        on = others.on;
        open_yet = others.open_yet;
      }
