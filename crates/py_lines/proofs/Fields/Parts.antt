-- The parts of a string with fields, by their first characters: fields begin with `{` and hold more.
use Rattle.py_lines.proofs.Prelude.{◌≡◌, ◌==◌, ℕ, zero, suc, Bool, true, false, not, ◌&&◌, List, [], ◌∷◌, ◌++◌, refl, sym, ap, ◌∙◌, subst, codes, and_parts, or_parts, both_ways, eqb-true, eq-eqb, not-true, Piece, begins, spelled}
use Rattle.py_lines.specs.Character.{is_quote, is_return, is_backslash, is_brace, is_barred}
use Rattle.py_lines.specs.PieceGrammar.{joined, Grammar}
use Rattle.py_lines.specs.Fields.{IsField, simple, specified, FieldsWithin, Fields}
use Rattle.py_lines.specs.FieldStrings.{Host, Place, literal, specification, is_ordinary, names, IsPart, bare, slash, escape, escaped_end, name, double, field}
use Rattle.py_lines.proofs.Text.CharacterTests.{none_of}
use Rattle.py_lines.proofs.Machine.OpenPieces.{quote-not-slash}
use Rattle.py_lines.proofs.Fields.Elsewhere.{none_false}

-- fields begin with `{` and hold more
abbrev pub BeginOpen : (Host → List ℕ → Type 0) → Type 0
BeginOpen F = (host : Host) (t : List ℕ) → F host t → (c : ℕ) × (cs : List ℕ) × (t ≡ 123 ∷ c ∷ cs)

pub some_head : (x : List ℕ) (d : ℕ) (y : List ℕ) → (c : ℕ) × (cs : List ℕ) × (x ++ d ∷ y ≡ c ∷ cs)
some_head [] d y = (d, y, refl)
some_head (c ∷ x) d y = (c, x ++ d ∷ y, refl)

pub field_begins : (grammar : Grammar) (P : List Piece → Type 0) (D : Host → List ℕ → Type 0) (host : Host) (text : List ℕ) → IsField grammar P D host text → (c : ℕ) × (cs : List ℕ) × (text ≡ 123 ∷ c ∷ cs)
field_begins grammar P D host text (simple inside is fit passes) =
    let head = some_head (spelled inside) 125 [] in
    (head.0, head.1, is ∙ ap (λ t. 123 ∷ t) head.2)
field_begins grammar P D host text (specified inside parts is fit passes own) =
    let head = some_head (spelled inside) 58 (joined parts ++ 125 ∷ []) in
    (head.0, head.1, is ∙ ap (λ t. 123 ∷ t) head.2)

pub within_begin : (n : ℕ) → BeginOpen (FieldsWithin n)
within_begin zero host text is = absurd is
within_begin (suc n) host text is = field_begins _ _ _ host text is

pub fields_begin : BeginOpen Fields
fields_begin host text (n, is) = within_begin n host text is

pub not_nothing : (x : List ℕ) (c : ℕ) (r : List ℕ) → x ++ c ∷ r ≡ [] → ⊥
not_nothing [] c r h = cc
not_nothing (d ∷ x) c r h = cc

-- characters
brace_open : (c : ℕ) → is_brace c ≡ false → (c == 123) ≡ false
unfolding is_brace
brace_open c h = (or_parts _ _ h).0

pub ordinary : (place : Place) (named : Bool) (c : ℕ) → is_ordinary place named c ≡ true → (c == 123) && not named ≡ false
ordinary place true c h = none_false (c == 123)
ordinary literal false c h = rw (not-true (c == 123) h)
ordinary specification false c h = rw (brace_open c (not-true (is_brace c) h))

pub names_letter : (host : Host) (c : ℕ) → names host c ≡ true → c == 78 ≡ true
names_letter host c h = (and_parts (c == 78) (not host.is_raw) h).0

pub names_is : (host : Host) (c : ℕ) → names host c ≡ true → c ≡ 78
names_is host c h = eqb-true c 78 (names_letter host c h)

pub name-not-brace : (host : Host) (c : ℕ) → names host c ≡ true → is_brace c ≡ false
unfolding is_brace
name-not-brace host c h = subst (λ x. is_brace x ≡ false) (sym (names_is host c h)) refl

pub name-not-return : (host : Host) (c : ℕ) → names host c ≡ true → is_return c ≡ false
unfolding is_return
name-not-return host c h = subst (λ x. is_return x ≡ false) (sym (names_is host c h)) refl

-- what follows parts counts by its first character
pub begins_same : (f : ℕ → Bool) (x : List ℕ) (c : ℕ) (r s : List ℕ) → begins f (x ++ c ∷ r) ≡ begins f (x ++ c ∷ s)
begins_same f [] c r s = refl
begins_same f (d ∷ x) c r s = refl

-- a string's quotes
pub quote-not-open : (q : ℕ) → is_quote q ≡ true → q == 123 ≡ false
unfolding is_quote
quote-not-open q h = none_of (λ c. c == 123) (codes "'\"") q refl h

barred_quote : (q : ℕ) → not (is_barred q q) ≡ false
unfolding is_barred
barred_quote q = rw (eq-eqb q q refl)

-- a part of a short string doesn't begin with its quote
pub short_part : (F : Host → List ℕ → Type 0) → BeginOpen F → (q : ℕ) (raw named : Bool) (part rest w v : List ℕ) → is_quote q ≡ true → IsPart F (record { quote = q; is_long = false; is_raw = raw }) literal named part rest → part ++ w ≡ q ∷ v → ⊥
short_part F begin q raw named part rest w v quotes is at = go is where
  first : (s : ℕ) (x : List ℕ) → part ≡ s ∷ x → s ≡ q
  first s x shape = let shown : s ∷ (x ++ w) ≡ q ∷ v = ap (λ t. t ++ w) (sym shape) ∙ at in cc

  no_slash : (s : ℕ) → s ≡ q → is_backslash s ≡ true → ⊥
  no_slash s here slashes = both_ways _ (quote-not-slash q quotes) (ap is_backslash (sym here) ∙ slashes)

  no_brace : 123 ≡ q → ⊥
  no_brace here = both_ways _ (quote-not-open q quotes) (ap (λ c. c == 123) (sym here))

  go : IsPart F (record { quote = q; is_long = false; is_raw = raw }) literal named part rest → ⊥
  go (bare c shape a b e) = both_ways _ (barred_quote q) (subst (λ x. not (is_barred q x) ≡ true) (first c [] shape) b)
  go (slash s shape a b) = no_slash s (first s [] shape) a
  go (escape s c shape a b e f g) = no_slash s (first s (c ∷ []) shape) a
  go (escaped_end s c d shape a b f g) = no_slash s (first s (c ∷ d ∷ []) shape) a
  go (name s c d shape a b f) = no_slash s (first s (c ∷ d ∷ []) shape) a
  go (double b c shape one two e f) = no_brace (sym one ∙ first b (c ∷ []) shape)
  go (field own a b) = let head = begin _ part own in no_brace (first 123 (head.0 ∷ head.1) head.2)
