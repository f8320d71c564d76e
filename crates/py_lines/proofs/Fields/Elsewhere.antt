-- A text that has no string with fields reads the same with them and without.
use Rattle.py_lines.proofs.Prelude.{◌≡◌, ℕ, Bool, true, false, ◌||◌, ◌&&◌, List, [], ◌∷◌, ◌++◌, refl, sym, ap, ◌∙◌, subst, inl, inr, ⊎_elim, append_assoc, append-nil, and-true, cond_both, and_parts, and_right, or_parts, or_from, or_cases, both_ways, false_from_ne_true, list_any, arith, IsBalancedReading}
use Rattle.py_lines.specs.Character.{is_quote, is_r, is_f, is_t}
use Rattle.py_lines.specs.Piece.{Class, word, string, Piece, begins, spelled}
use Rattle.py_lines.specs.PieceGrammar.{is_prefix, IsNoneOr, InPlainClass, InClassIn, MayPrecedePlain, MayPrecedeIn, AreReadPlain, AreReadIn, ReadsPlain, ReadsIn, joined}
use Rattle.py_lines.specs.Balance.{IsShallowPlain, depth_after}
use Rattle.py_lines.specs.Fields.{Fields, fielded, IsShallowWith, ShallowFields}
use Rattle.py_lines.specs.WithoutFields.{IsPlainReading}
use Rattle.py_lines.specs.FieldStrings.{is_field_prefix, Host, quotes_of, IsFieldString, with_fields, may_have_fields}
pub use Rattle.std.proofs.Math.Bool.{and-false as none_false}
use Rattle.py_lines.proofs.Fields.Prefixes.{plain_quotes, field_letters, first_quote}
use Rattle.py_lines.proofs.FieldSoundness.Holds.{BeginsPlain}

-- what follows some of the text has none either
pub later : (a b : List ℕ) → may_have_fields (a ++ b) ≡ false → may_have_fields b ≡ false
later [] b h = h
later (c ∷ a) b h = later a b (or_parts _ (may_have_fields (a ++ b)) h).1

two_false : (x y z : Bool) → x && (y || (z && true)) ≡ false → x && z ≡ false
two_false true false false h = refl
two_false x y z h = cc

-- so no prefix of a string with fields stands directly before a quote
pub no_field_prefix : (prefix : List ℕ) (q : ℕ) (after : List ℕ) → is_quote q ≡ true → may_have_fields (prefix ++ q ∷ after) ≡ false → is_field_prefix prefix ≡ false
no_field_prefix [] q after quotes h = refl
no_field_prefix (a ∷ []) q after quotes h = sym (and-true (is_f a || is_t a)) ∙ (rw quotes at (or_parts _ (may_have_fields (q ∷ after)) h).0)
no_field_prefix (a ∷ b ∷ []) q after quotes h =
    let parts = or_parts _ (may_have_fields (b ∷ q ∷ after)) h in
    let second = no_field_prefix (b ∷ []) q after quotes parts.1 in
    or_from _ _ (ap (λ x. is_r a && x) second ∙ none_false (is_r a))
    (two_false (is_f a || is_t a) (is_quote b) (is_r b) (subst (λ x. (is_f a || is_t a) && (is_quote b || (is_r b && x)) ≡ false) quotes parts.0))
no_field_prefix (a ∷ b ∷ c ∷ cs) q after quotes h = refl

-- a string of these characters begins with no such prefix
pub no_field_string : (text prefix body rest : List ℕ) (q : ℕ) → text ≡ prefix ++ q ∷ body → is_quote q ≡ true → may_have_fields (text ++ rest) ≡ false → is_field_prefix prefix ≡ false
no_field_string text prefix body rest q is quotes h =
    no_field_prefix prefix q (body ++ rest) quotes (subst (λ t. may_have_fields t ≡ false) (ap (λ t. t ++ rest) is ∙ append_assoc prefix (q ∷ body) rest) h)

pub quotes_begin : (host : Host) → (others : List ℕ) × (quotes_of host ≡ host.quote ∷ others)
quotes_begin host = cond_both host.is_long _ _ (λ (qs : List ℕ). (others : List ℕ) × (qs ≡ host.quote ∷ others)) (λ long. (host.quote ∷ host.quote ∷ [], refl)) (λ short. ([], refl))

-- a string with fields has a quote after its prefix
pub first_quote_at : (F : Host → List ℕ → Type 0) (text : List ℕ) (is : IsFieldString F text) → text ≡ is.prefix ++ is.host.quote ∷ ((quotes_begin is.host).0 ++ (joined is.parts ++ quotes_of is.host))
first_quote_at F text is = is.spell ∙ ap (λ t. is.prefix ++ (t ++ (joined is.parts ++ quotes_of is.host))) (quotes_begin is.host).1

-- and begins with such a prefix
has_prefix : (F : Host → List ℕ → Type 0) (text rest : List ℕ) → may_have_fields (text ++ rest) ≡ false → ¬ (IsFieldString F text)
has_prefix F text rest h is = both_ways _ (no_field_string text is.prefix _ rest is.host.quote (first_quote_at F text is) is.opens h) is.begun

-- a text whose first quote comes after no prefix of a string with fields has no such prefix
pub other_prefix : (text prefix body : List ℕ) (q : ℕ) → BeginsPlain text → text ≡ prefix ++ q ∷ body → list_any is_quote prefix ≡ false → is_quote q ≡ true → is_field_prefix prefix ≡ false
other_prefix text prefix body q is spell none quotes =
    let cut = first_quote prefix is.prefix body is.body q is.quote none is.none quotes is.opens (sym spell ∙ is.spell) in ap is_field_prefix cut.0 ∙ is.plain

-- so it is none with fields
pub plain_unfielded : (F : Host → List ℕ → Type 0) (text : List ℕ) → BeginsPlain text → ¬ (IsFieldString F text)
plain_unfielded F text plain is =
    both_ways _ (other_prefix text is.prefix _ is.host.quote plain (first_quote_at F text is) (field_letters is.prefix is.begun).quotes is.opens) is.begun

-- what keeps a piece from being part of a string with fields
abbrev pub IsPlainText : Class → List ℕ → List ℕ → Type 0
IsPlainText word text rest = is_field_prefix text && begins is_quote rest ≡ false
IsPlainText string text rest = BeginsPlain text
IsPlainText other text rest = Unit {0}

pub plain_class : (F : Host → List ℕ → Type 0) (class : Class) (text rest : List ℕ) → IsPlainText class text rest → InPlainClass class text → InClassIn (with_fields F) class text
plain_class F string text rest plain (inl short) = inl (inl (short, other_prefix text short.prefix _ short.quote plain short.spell (plain_quotes short.prefix short.begun) short.opens))
plain_class F string text rest plain (inr long) = inl (inr (long, other_prefix text long.prefix _ long.quote plain long.spell (plain_quotes long.prefix long.begun) long.opens))
plain_class F class text rest plain is = is

neither : (a b c : Bool) → a && c ≡ false → b && c ≡ false → (a || b) && c ≡ false
neither true b c h k = h
neither false b c h k = k

pub plain_precede : (F : Host → List ℕ → Type 0) (class : Class) (text rest : List ℕ) → IsPlainText class text rest → MayPrecedePlain class text rest → MayPrecedeIn (with_fields F) class text rest
plain_precede F word text rest plain before = (before.0, neither (is_prefix text) (is_field_prefix text) (begins is_quote rest) before.1 plain)
plain_precede F string text rest plain before = λ prefix q spell begun quotes. before prefix q spell (fewer prefix q spell quotes begun) quotes where
  fewer : (prefix : List ℕ) (q : ℕ) → text ≡ prefix ++ q ∷ q ∷ [] → is_quote q ≡ true → IsNoneOr (λ p. is_prefix p || is_field_prefix p) prefix → IsNoneOr is_prefix prefix
  fewer prefix q spell quotes (inl none) = inl none
  fewer prefix q spell quotes (inr some) = inr (⊎_elim (λ is. is)
      (λ is. absurd (both_ways _ (other_prefix text prefix (q ∷ []) q plain spell (field_letters prefix is).quotes quotes) is)) (or_cases (is_prefix prefix) (is_field_prefix prefix) some))
plain_precede F class text rest plain before = before

-- so are the pieces of a text that has no string with fields
class_plain : (class : Class) (text rest : List ℕ) → may_have_fields (text ++ rest) ≡ false → InPlainClass class text → IsPlainText class text rest
class_plain word text [] h is = none_false (is_field_prefix text)
class_plain word text (q ∷ cs) h is = false_from_ne_true _ (λ both. let parts = and_parts (is_field_prefix text) (is_quote q) both in both_ways _ (no_field_prefix text q cs parts.1 h) parts.0)
class_plain string text rest h (inl is) = record { prefix = is.prefix; quote = is.quote; body = _; spell = is.spell; none = plain_quotes is.prefix is.begun; opens = is.opens; plain = no_field_string text is.prefix _ rest is.quote is.spell is.opens h }
class_plain string text rest h (inr is) = record { prefix = is.prefix; quote = is.quote; body = _; spell = is.spell; none = plain_quotes is.prefix is.begun; opens = is.opens; plain = no_field_string text is.prefix _ rest is.quote is.spell is.opens h }
class_plain class text rest h is = tt

class_with : (F : Host → List ℕ → Type 0) (class : Class) (text rest : List ℕ) → may_have_fields (text ++ rest) ≡ false → InPlainClass class text → InClassIn (with_fields F) class text
class_with F class text rest h is = plain_class F class text rest (class_plain class text rest h is) is

-- pieces of which no string has fields
abbrev pub AreUnfielded : (Host → List ℕ → Type 0) → List Piece → Type 0
AreUnfielded F [] = Unit {0}
AreUnfielded F (p ∷ ps) = (p.class ≡ string → ¬ (IsFieldString F p.text)) × AreUnfielded F ps

pub unfielded-push : (F : Host → List ℕ → Type 0) (ps : List Piece) (p : Piece) → AreUnfielded F ps → (p.class ≡ string → ¬ (IsFieldString F p.text)) → AreUnfielded F (ps ++ p ∷ [])
unfielded-push F [] p own last = (last, tt)
unfielded-push F (q ∷ ps) p own last = (own.0, unfielded-push F ps p own.1 last)

unfielded_in : (F : Host → List ℕ → Type 0) (ps : List Piece) (rest : List ℕ) → may_have_fields (spelled ps ++ rest) ≡ false → AreUnfielded F ps
unfielded_in F [] rest h = tt
unfielded_in F (p ∷ ps) rest h =
    let here : may_have_fields (p.text ++ (spelled ps ++ rest)) ≡ false = ap may_have_fields (sym (append_assoc p.text (spelled ps) rest)) ∙ h in
    (λ is. has_prefix F p.text (spelled ps ++ rest) here, unfielded_in F ps rest (later p.text (spelled ps ++ rest) here))

class_without : (F : Host → List ℕ → Type 0) (class : Class) (text : List ℕ) → (class ≡ string → ¬ (IsFieldString F text)) → InClassIn (with_fields F) class text → InPlainClass class text
class_without F class text none is = grind arith

-- and what it may precede
pub either_prefix : (x y z : Bool) → (x || y) && z ≡ false → (x && z ≡ false) × (y && z ≡ false)
either_prefix true y z h = (h, and_right y z h)
either_prefix false y z h = (refl, h)

pub precede_without : (F : Host → List ℕ → Type 0) (class : Class) (text rest : List ℕ) → MayPrecedeIn (with_fields F) class text rest → MayPrecedePlain class text rest
precede_without F class text rest before = grind arith

-- so all pieces of the text
pub read_with : (F : Host → List ℕ → Type 0) (ps : List Piece) (rest : List ℕ) → may_have_fields (spelled ps ++ rest) ≡ false → AreReadPlain ps rest → AreReadIn (with_fields F) ps rest
read_with F [] rest h fit = tt
read_with F (p ∷ ps) rest h fit =
    let here : may_have_fields (p.text ++ (spelled ps ++ rest)) ≡ false = subst (λ t. may_have_fields t ≡ false) (append_assoc p.text (spelled ps) rest) h in
    (class_with F p.class p.text _ here fit.0, plain_precede F p.class p.text _ (class_plain p.class p.text _ here fit.0) fit.1, fit.2, read_with F ps rest (later p.text (spelled ps ++ rest) here) fit.3)

pub read_unfielded : (F : Host → List ℕ → Type 0) (ps : List Piece) (rest : List ℕ) → AreUnfielded F ps → AreReadIn (with_fields F) ps rest → AreReadPlain ps rest
read_unfielded F [] rest own fit = tt
read_unfielded F (p ∷ ps) rest own fit = (class_without F p.class p.text own.0 fit.0, precede_without F p.class p.text _ fit.1, fit.2, read_unfielded F ps rest own.1 fit.3)

pub read_without : (F : Host → List ℕ → Type 0) (ps : List Piece) (rest : List ℕ) → may_have_fields (spelled ps ++ rest) ≡ false → AreReadIn (with_fields F) ps rest → AreReadPlain ps rest
read_without F ps rest h fit = read_unfielded F ps rest (unfielded_in F ps rest h) fit

none_after : (pieces : List Piece) (characters : List ℕ) → may_have_fields characters ≡ false → spelled pieces ≡ characters → may_have_fields (spelled pieces ++ []) ≡ false
none_after pieces characters h is = ap may_have_fields (append-nil (spelled pieces) ∙ is) ∙ h

pub reads_with : (pieces : List Piece) (characters : List ℕ) → may_have_fields characters ≡ false → ReadsPlain pieces characters → ReadsIn fielded pieces characters
reads_with pieces characters h reads = record { spell = reads.spell; fit = read_with Fields pieces [] (none_after pieces characters h reads.spell) reads.fit }

pub reads_without : (pieces : List Piece) (characters : List ℕ) → may_have_fields characters ≡ false → ReadsIn fielded pieces characters → ReadsPlain pieces characters
reads_without pieces characters h reads = record { spell = reads.spell; fit = read_without Fields pieces [] (none_after pieces characters h reads.spell) reads.fit }

-- and their depth: strings without fields are shallow at each
pub shallow_with : (Shallow : ℕ → Host → List ℕ → Type 0) (ps : List Piece) (rest : List ℕ) (depth : ℕ) → may_have_fields (spelled ps ++ rest) ≡ false → AreReadPlain ps rest → IsShallowPlain depth ps → IsShallowWith Shallow depth ps
shallow_with Shallow [] rest depth h fit shallow = tt
shallow_with Shallow (p ∷ ps) rest depth h fit shallow =
    let here : may_have_fields (p.text ++ (spelled ps ++ rest)) ≡ false = subst (λ t. may_have_fields t ≡ false) (append_assoc p.text (spelled ps) rest) h in (
      shallow.0,
      λ is. class_with (Shallow depth) string p.text _ here (subst (λ c. InPlainClass c p.text) is fit.0),
      shallow_with Shallow ps rest (depth_after depth p) (later p.text (spelled ps ++ rest) here) fit.3 shallow.1,
    )

pub shallow_without : (Shallow : ℕ → Host → List ℕ → Type 0) (ps : List Piece) (depth : ℕ) → IsShallowWith Shallow depth ps → IsShallowPlain depth ps
shallow_without Shallow [] depth shallow = tt
shallow_without Shallow (p ∷ ps) depth shallow = (shallow.0, shallow_without Shallow ps (depth_after depth p) shallow.2)

pub balanced_with : (pieces : List Piece) (characters : List ℕ) → may_have_fields characters ≡ false → IsPlainReading pieces characters → IsBalancedReading pieces characters
balanced_with pieces characters h is = record {
  reads = reads_with pieces characters h is.reads;
  balanced = is.balanced;
  shallow = shallow_with ShallowFields pieces [] 0 (none_after pieces characters h is.reads.spell) is.reads.fit is.shallow;
}

pub balanced_without : (pieces : List Piece) (characters : List ℕ) → may_have_fields characters ≡ false → IsBalancedReading pieces characters → IsPlainReading pieces characters
balanced_without pieces characters h is = record { reads = reads_without pieces characters h is.reads; balanced = is.balanced; shallow = shallow_without ShallowFields pieces 0 is.shallow }
