-- A field whose own fields are fields is one: what holds of some number of them, one in another, holds of more.
use Rattle.py_lines.proofs.Prelude.{◌≡◌, ℕ, zero, suc, ◌+◌, ◌<◌, ◌≤◌, Bool, List, [], ◌∷◌, ◌++◌, refl, inl, inr, arith, Class, string, Piece, depth_after}
use Rattle.py_lines.specs.PieceGrammar.{joined, InClassIn, AreReadIn}
use Rattle.py_lines.specs.Fields.{IsShallow, AreInside, IsSpecification, IsField, simple, specified, FieldsWithin, Fields, fielded, IsShallowWith, ShallowWithin, ShallowFields, AnyPieces}
use Rattle.py_lines.specs.FieldStrings.{Host, Place, IsPart, bare, slash, escape, escaped_end, name, double, field, named_after, AreParts, with_fields}

-- more fields than others: what is made of these is made of those
abbrev pub Within : (Host → List ℕ → Type 0) → (Host → List ℕ → Type 0) → Type 0
Within F G = (host : Host) (text : List ℕ) → F host text → G host text

-- what holds of every number that is no less than some one
abbrev Later : (ℕ → Type 0) → Type 0
Later P = (n : ℕ) × ((m : ℕ) → n ≤ m → P m)

both_later : (P Q : ℕ → Type 0) → Later P → Later Q → Later (λ m. P m × Q m)
both_later P Q (n, first) (m, second) = (n + m, λ k le. (first k (omega arith), second k (omega arith)))

-- where fields are others of every later number, what is made of these is made of those
module _ (F : Host → List ℕ → Type 0) (W : ℕ → Host → List ℕ → Type 0) (into : (host : Host) (text : List ℕ) → F host text → Later (λ n. W n host text)) where
  part_within : (host : Host) (place : Place) (named : Bool) (part rest : List ℕ) → IsPart F host place named part rest → Later (λ n. IsPart (W n) host place named part rest)
  part_within host place named part rest (bare c a b d e) = (zero, λ m le. bare c a b d e)
  part_within host place named part rest (slash s a b d) = (zero, λ m le. slash s a b d)
  part_within host place named part rest (escape s c a b d e g h) = (zero, λ m le. escape s c a b d e g h)
  part_within host place named part rest (escaped_end s r c a b d e g) = (zero, λ m le. escaped_end s r c a b d e g)
  part_within host place named part rest (name s c d a b e g) = (zero, λ m le. name s c d a b e g)
  part_within host place named part rest (double c d a b e g h) = (zero, λ m le. double c d a b e g h)
  part_within host place named part rest (field is a b) = let own = into host part is in (own.0, λ m le. field (own.1 m le) a b)

  parts_within : (host : Host) (place : Place) (named : Bool) (parts : List (List ℕ)) (rest : List ℕ) → AreParts F host place named parts rest → Later (λ n. AreParts (W n) host place named parts rest)
  parts_within host place named [] rest each = (zero, λ m le. tt)
  parts_within host place named (p ∷ ps) rest each = both_later _ _ (part_within host place named p (joined ps ++ rest) each.0) (parts_within host place (named_after named p) ps rest each.1)

  pub string_within : (text : List ℕ) → InClassIn (with_fields F) string text → Later (λ n. InClassIn (with_fields (W n)) string text)
  string_within text (inl plain) = (zero, λ m le. inl plain)
  string_within text (inr is) = let each = parts_within is.host _ _ is.parts _ is.each in
      (each.0, λ m le. inr (record { prefix = is.prefix; host = is.host; parts = is.parts; spell = is.spell; begun = is.begun; raw = is.raw; opens = is.opens; each = each.1 m le; first = is.first }))

  class_within : (class : Class) (text : List ℕ) → InClassIn (with_fields F) class text → Later (λ n. InClassIn (with_fields (W n)) class text)
  class_within string text is = string_within text is
  class_within class text is = (zero, λ m le. is)

  read_within : (ps : List Piece) (rest : List ℕ) → AreReadIn (with_fields F) ps rest → Later (λ n. AreReadIn (with_fields (W n)) ps rest)
  read_within [] rest fit = (zero, λ m le. tt)
  read_within (p ∷ ps) rest fit = let both = both_later _ _ (class_within p.class p.text fit.0) (read_within ps rest fit.3) in
      (both.0, λ m le. let own = both.1 m le in (own.0, fit.1, fit.2, own.1))

  pub inside_within : (ps : List Piece) (rest : List ℕ) → AreInside (with_fields F) ps rest → Later (λ n. AreInside (with_fields (W n)) ps rest)
  inside_within ps rest is = let fit = read_within ps rest is.fit in
      (fit.0, λ m le. record { fit = fit.1 m le; unmarked = is.unmarked; balanced = is.balanced; colon = is.colon })

  pub specification_within : (host : Host) (parts : List (List ℕ)) → IsSpecification F host parts → Later (λ n. IsSpecification (W n) host parts)
  specification_within host parts is = let each = parts_within host _ _ parts _ is.each in
      (each.0, λ m le. record { each = each.1 m le; ended = is.ended; open_yet = is.open_yet })

  -- a field, by its pieces, what they meet, and its specification
  field_within : (D : Host → List ℕ → Type 0) (V : ℕ → Host → List ℕ → Type 0) (P : List Piece → Type 0) (Q : ℕ → List Piece → Type 0) → ((host : Host) (parts : List (List ℕ)) → IsSpecification D host parts → Later (λ n. IsSpecification (V n) host parts)) → ((ps : List Piece) → P ps → Later (λ n. Q n ps)) → (host : Host) (text : List ℕ) → IsField (with_fields F) P D host text → Later (λ n. IsField (with_fields (W n)) (Q n) (V n) host text)
  field_within D V P Q specify meet host text (simple inside spell is passes) = let own = both_later _ _ (inside_within inside _ is) (meet inside passes) in
      (own.0, λ m le. simple inside spell (own.1 m le).0 (own.1 m le).1)
  field_within D V P Q specify meet host text (specified inside parts spell is passes specification) =
      let own = both_later _ _ (inside_within inside _ is) (both_later _ _ (meet inside passes) (specify host parts specification)) in
      (own.0, λ m le. let all = own.1 m le in specified inside parts spell all.0 all.1.0 all.1.1)

-- what is made of some fields is made of more
always : {P : Type 0} → Later (λ n. P) → P
always (n, holds) = holds n (omega arith)

module _ (F G : Host → List ℕ → Type 0) (f : Within F G) where
  abbrev into_all : (host : Host) (text : List ℕ) → F host text → Later (λ n. G host text)
  into_all host text is = (zero, λ m le. f host text is)

  pub parts_map : (host : Host) (place : Place) (named : Bool) (parts : List (List ℕ)) (rest : List ℕ) → AreParts F host place named parts rest → AreParts G host place named parts rest
  parts_map host place named parts rest each = always (parts_within F (λ n. G) into_all host place named parts rest each)

  pub string_map : (text : List ℕ) → InClassIn (with_fields F) string text → InClassIn (with_fields G) string text
  string_map text is = always (string_within F (λ n. G) into_all text is)

  pub class_map : (class : Class) (text : List ℕ) → InClassIn (with_fields F) class text → InClassIn (with_fields G) class text
  class_map class text is = always (class_within F (λ n. G) into_all class text is)

-- so a field
pub field_map : (F G D E : Host → List ℕ → Type 0) (P Q : List Piece → Type 0) → Within F G → Within D E → ((ps : List Piece) → P ps → Q ps) → (host : Host) (text : List ℕ) → IsField (with_fields F) P D host text → IsField (with_fields G) Q E host text
field_map F G D E P Q f g h host text is =
    always (field_within F (λ n. G) (into_all F G f) D (λ n. E) P (λ n. Q) (specification_within D (λ n. E) (into_all D E g)) (λ ps passes. (zero, λ m le. h ps passes)) host text is)

within_more : (n m : ℕ) → n ≤ m → Within (FieldsWithin n) (FieldsWithin m)
within_more zero m le host text is = absurd is
within_more (suc n) zero le host text is = absurd (omega arith)
within_more (suc n) (suc m) le host text is =
    let f : Within (FieldsWithin n) (FieldsWithin m) = within_more n m (omega arith) in
    field_map (FieldsWithin n) (FieldsWithin m) (FieldsWithin n) (FieldsWithin m) _ _ f f (λ ps passes. passes) host text is

-- fields of some number are fields of every later one
later_fields : (host : Host) (text : List ℕ) → Fields host text → Later (λ n. FieldsWithin n host text)
later_fields host text (n, is) = (n, λ m le. within_more n m le host text is)

-- so a field of strings whose fields are fields is one
pub field_is : (host : Host) (text : List ℕ) → IsField fielded AnyPieces Fields host text → Fields host text
field_is host text is =
    let own = field_within Fields FieldsWithin later_fields Fields FieldsWithin AnyPieces (λ n. AnyPieces) (specification_within Fields FieldsWithin later_fields) (λ ps passes. (zero, λ m le. passes)) host text is in
    (suc own.0, own.1 own.0 (omega arith))

-- and each field is such a one
pub field_of : (host : Host) (text : List ℕ) → Fields host text → IsField fielded AnyPieces Fields host text
field_of host text (zero, is) = absurd is
field_of host text (suc n, is) =
    let f : Within (FieldsWithin n) Fields = λ h t one. (n, one) in
    field_map (FieldsWithin n) Fields (FieldsWithin n) Fields _ _ f f (λ ps passes. passes) host text is

-- the same at each depth
shallow_map : (A B : ℕ → Host → List ℕ → Type 0) → ((depth : ℕ) → Within (A depth) (B depth)) → (depth : ℕ) (ps : List Piece) → IsShallowWith A depth ps → IsShallowWith B depth ps
shallow_map A B f depth [] shallow = tt
shallow_map A B f depth (p ∷ ps) shallow = (shallow.0, λ is. string_map (A depth) (B depth) (f depth) p.text (shallow.1 is), shallow_map A B f (depth_after depth p) ps shallow.2)

shallow_more : (n m : ℕ) → n ≤ m → (depth : ℕ) → Within (ShallowWithin n depth) (ShallowWithin m depth)
shallow_more zero m le depth host text is = absurd is
shallow_more (suc n) zero le depth host text is = absurd (omega arith)
shallow_more (suc n) (suc m) le depth host text is =
    let f : (d : ℕ) → Within (ShallowWithin n d) (ShallowWithin m d) = shallow_more n m (omega arith) in
    (is.0, field_map Fields Fields (ShallowWithin n (depth + 1)) (ShallowWithin m (depth + 1)) _ _ (λ h t one. one) (f (depth + 1)) (shallow_map (ShallowWithin n) (ShallowWithin m) f (depth + 1)) host text is.1)

later_shallow : (depth : ℕ) (host : Host) (text : List ℕ) → ShallowFields depth host text → Later (λ n. ShallowWithin n depth host text)
later_shallow depth host text (n, is) = (n, λ m le. shallow_more n m le depth host text is)

shallow_within : (depth : ℕ) (ps : List Piece) → IsShallow depth ps → Later (λ n. IsShallowWith (ShallowWithin n) depth ps)
shallow_within depth [] shallow = (zero, λ m le. tt)
shallow_within depth (p ∷ ps) shallow =
    let both = both_later _ _ (at p.class shallow.1) (shallow_within (depth_after depth p) ps shallow.2) in
    (both.0, λ m le. let own = both.1 m le in (shallow.0, own.0, own.1))
  where
    at : (class : Class) → (class ≡ string → InClassIn (with_fields (ShallowFields depth)) string p.text) → Later (λ n. class ≡ string → InClassIn (with_fields (ShallowWithin n depth)) string p.text)
    at string h = let own = string_within (ShallowFields depth) (λ n. ShallowWithin n depth) (later_shallow depth) p.text (h refl) in
        (own.0, λ m le is. own.1 m le)
    at class h = (zero, λ m le is. absurd (cc))

pub shallow_is : (depth : ℕ) (host : Host) (text : List ℕ) → depth < 200 → IsField fielded (IsShallow (depth + 1)) (ShallowFields (depth + 1)) host text → ShallowFields depth host text
shallow_is depth host text room is =
    let W : ℕ → Host → List ℕ → Type 0 = λ n. ShallowWithin n (depth + 1) in
    let own = field_within Fields (λ n. Fields) (λ h t one. (zero, λ m le. one)) (ShallowFields (depth + 1)) W (IsShallow (depth + 1)) (λ n. IsShallowWith (ShallowWithin n) (depth + 1)) (specification_within (ShallowFields (depth + 1)) W (later_shallow (depth + 1))) (shallow_within (depth + 1)) host text is in
    (suc own.0, (room, own.1 own.0 (omega arith)))

pub shallow_of : (depth : ℕ) (host : Host) (text : List ℕ) → ShallowFields depth host text → (depth < 200) × IsField fielded (IsShallow (depth + 1)) (ShallowFields (depth + 1)) host text
shallow_of depth host text (zero, is) = absurd is
shallow_of depth host text (suc n, is) =
    let f : (d : ℕ) → Within (ShallowWithin n d) (ShallowFields d) = λ d h t one. (n, one) in
    (is.0, field_map Fields Fields (ShallowWithin n (depth + 1)) (ShallowFields (depth + 1)) _ _ (λ h t one. one) (f (depth + 1)) (shallow_map (ShallowWithin n) ShallowFields f (depth + 1)) host text is.1)

-- shallow fields are fields
pub shallow_fields : (n depth : ℕ) (host : Host) (text : List ℕ) → ShallowWithin n depth host text → Fields host text
shallow_fields zero depth host text is = absurd is
shallow_fields (suc n) depth host text is = field_is host text (field_map Fields Fields (ShallowWithin n (depth + 1)) Fields _ AnyPieces (λ h t one. one) (shallow_fields n (depth + 1)) (λ ps passes. tt) host text is.1)
