-- Parts of a written statement: pieces, with the bytes that they spell and what they say.
use Rattle.std.proofs.Common.{◌≡◌, ℕ, ◌<◌, Bool, true, false, not, cond, ◌||◌, nat_lt, ltb-true, List, [], ◌∷◌, ◌++◌, map, codes, refl, sym, ap, ◌∙◌, subst, append-nil, append_assoc, arith}
use Rattle.std.specs.Prelude.{encode_utf8_all, filter}
use Rattle.std.specs.Char.{is_ascii_alphabetic}
use Rattle.std.specs.List.{list_any, list_all}
use Rattle.std.specs.Str.{all_scalars}
use Rattle.std.proofs.Math.Utf8.{low_scalar}
use Rattle.std.proofs.lemmas.Bool.{and_parts, and_from, or_parts, false_from_ne_true, lt-ltb}
use Rattle.std.proofs.lemmas.List.{map-append}
use Rattle.std.proofs.lemmas.List.Elements.{filter-append}
use Rattle.std.proofs.lemmas.List.Folds.{list_any-append}
use Rattle.std.proofs.lemmas.Str.{encodes-append, encode_ascii}
use Rattle.py_lines.specs.Character.{is_space, is_digit, is_operator, is_break, is_hash, is_backslash}
use Rattle.py_lines.specs.Fields.{InClass}
use Rattle.py_lines.specs.Neighbours.{is_simple, AreSimple}
use Rattle.py_lines.specs.Piece.{Class, space, word, operator, comment, join, line_end, Piece, begins, spelled}
use Rattle.py_lines.specs.PieceGrammar.{IsWord, IsLineEnd, feed, return_feed, return}
use Rattle.py_lines.specs.Words.{Word, words_of_piece, words_of}
use Rattle.py_lines.specs.declared.token.TokKind.TheVariants as kind
use Rattle.py_imports.specs.Grammar.{Terminal, import_word, from_word, as_word, name, other, terminal_of, terminal_of_word, terminal_of_operator, is_keyword, keywords}
use Rattle.py_imports.specs.Names.{terminals_in, IsName}
use Rattle.py_imports.specs.Statement.{is_comment, is_divider}
use Rattle.std.specs.Str.{bytes_eq}
use Rattle.std.proofs.Common.{get_or, length, zero, suc, lit<}
use Rattle.std.proofs.lemmas.Slice.Eq.{bytes_eq-Decides}
use Rattle.std.proofs.lemmas.Bool.{both_ways}
use Rattle.isort_sort.proofs.Rows.Spaces.{space_low}

abbrev pub piece : Class → List ℕ → Piece
piece class text = record { class = class; text = text }

-- the comments among words
abbrev pub remarks_in : List Word → List (List ℕ)
remarks_in words = map (λ w. w.bytes) (filter (λ w. is_comment w.kind) words)

-- whether a word is `;` or `:`
abbrev pub divides : Word → Bool
divides w = is_divider w.kind

-- characters of a text without line ends
pub record IsUnbrokenText (text : List ℕ) : Type 0 where
  pub characters : List ℕ
  pub spell : encode_utf8_all characters ≡ text
  pub scalars : all_scalars characters ≡ true
  pub unbroken : list_any is_break characters ≡ false

-- simple pieces of scalar characters, with their bytes, what they say to the import grammar, and their comments
pub record IsStatementPart (pieces : List Piece) (bytes : List ℕ) (terminals : List Terminal) (said : List (List ℕ)) : Type 0 where
  pub simple : AreSimple pieces
  pub scalars : all_scalars (spelled pieces) ≡ true
  pub spell : encode_utf8_all (spelled pieces) ≡ bytes
  pub says : terminals_in (words_of pieces) ≡ terminals
  pub remarks : remarks_in (words_of pieces) ≡ said
  pub undivided : list_any divides (words_of pieces) ≡ false

-- pieces one after another
pub spelled-append : (ps qs : List Piece) → spelled (ps ++ qs) ≡ spelled ps ++ spelled qs
spelled-append [] qs = refl
spelled-append (p ∷ ps) qs = ap (λ t. p.text ++ t) (spelled-append ps qs) ∙ sym (append_assoc p.text (spelled ps) (spelled qs))

pub words-append : (ps qs : List Piece) → words_of (ps ++ qs) ≡ words_of ps ++ words_of qs
words-append [] qs = refl
words-append (p ∷ ps) qs = ap (λ l. words_of_piece p.class p.text ++ l) (words-append ps qs) ∙ sym (append_assoc (words_of_piece p.class p.text) (words_of ps) (words_of qs))

pub simple-append : (ps qs : List Piece) → AreSimple ps → AreSimple qs → AreSimple (ps ++ qs)
simple-append [] qs s t = t
simple-append (p ∷ ps) qs s t = (s.0, s.1, simple-append ps qs s.2 t)

pub scalars-append : (a b : List ℕ) → all_scalars a ≡ true → all_scalars b ≡ true → all_scalars (a ++ b) ≡ true
scalars-append [] b h k = k
scalars-append (c ∷ cs) b h k = let parts = and_parts _ _ h in and_from _ _ parts.0 (scalars-append cs b parts.1 k)

terminals-append : (a b : List Word) → terminals_in (a ++ b) ≡ terminals_in a ++ terminals_in b
terminals-append a b =
    ap (map (λ w. terminal_of w.kind w.bytes)) (filter-append (λ w. not (is_comment w.kind)) a b)
    ∙ map-append (λ w. terminal_of w.kind w.bytes) (filter (λ w. not (is_comment w.kind)) a) (filter (λ w. not (is_comment w.kind)) b)

remarks-append : (a b : List Word) → remarks_in (a ++ b) ≡ remarks_in a ++ remarks_in b
remarks-append a b =
    ap (map (λ w. w.bytes)) (filter-append (λ w. is_comment w.kind) a b)
    ∙ map-append (λ w. w.bytes) (filter (λ w. is_comment w.kind) a) (filter (λ w. is_comment w.kind) b)

pub part-append : {ps qs : List Piece} {b c : List ℕ} {t u : List Terminal} {r s : List (List ℕ)} → IsStatementPart ps b t r → IsStatementPart qs c u s → IsStatementPart (ps ++ qs) (b ++ c) (t ++ u) (r ++ s)
part-append {ps = ps} {qs = qs} p q = record {
  simple = simple-append ps qs p.simple q.simple;
  scalars = ap all_scalars (spelled-append ps qs) ∙ scalars-append (spelled ps) (spelled qs) p.scalars q.scalars;
  spell = ap encode_utf8_all (spelled-append ps qs) ∙ encodes-append (spelled ps) (spelled qs) ∙ (λ i. p.spell i ++ q.spell i);
  says = ap terminals_in (words-append ps qs) ∙ terminals-append (words_of ps) (words_of qs) ∙ (λ i. p.says i ++ q.says i);
  remarks = ap remarks_in (words-append ps qs) ∙ remarks-append (words_of ps) (words_of qs) ∙ (λ i. p.remarks i ++ q.remarks i);
  undivided = ap (list_any divides) (words-append ps qs) ∙ list_any-append divides (words_of ps) (words_of qs) ∙ (λ i. p.undivided i || q.undivided i);
}

pub part-nil : IsStatementPart [] [] [] []
part-nil = record { simple = tt; scalars = refl; spell = refl; says = refl; remarks = refl; undivided = refl }

-- ASCII is spelled by itself
pub low-spell : (cs : List ℕ) → list_all (λ c. nat_lt c 128) cs ≡ true → encode_utf8_all cs ≡ cs
low-spell [] h = refl
low-spell (c ∷ cs) h = let both = and_parts _ _ h in (λ i. encode_ascii c (ltb-true c 128 both.0) i ++ low-spell cs both.1 i)

pub low-scalars : (cs : List ℕ) → list_all (λ c. nat_lt c 128) cs ≡ true → all_scalars cs ≡ true
low-scalars [] h = refl
low-scalars (c ∷ cs) h = let both = and_parts _ _ h in and_from _ _ (low_scalar c (let k = ltb-true c 128 both.0 in omega arith)) (low-scalars cs both.1)

-- space
abbrev pub space_pieces : List ℕ → List Piece
space_pieces [] = []
space_pieces (c ∷ cs) = piece space (c ∷ cs) ∷ []

pub spaces_low : (cs : List ℕ) → list_all is_space cs ≡ true → list_all (λ c. nat_lt c 128) cs ≡ true
spaces_low [] h = refl
spaces_low (c ∷ cs) h = let both = and_parts _ _ h in and_from _ _ (lt-ltb c 128 (space_low c both.0)) (spaces_low cs both.1)

-- a piece of ASCII that has no words
part-silent : (class : Class) (t : List ℕ) → is_simple class ≡ true → InClass class t → list_all (λ c. nat_lt c 128) t ≡ true → words_of (piece class t ∷ []) ≡ [] → IsStatementPart (piece class t ∷ []) t [] []
part-silent class t simple is low none = record {
  simple = (simple, is, tt);
  scalars = ap all_scalars (append-nil t) ∙ low-scalars t low;
  spell = ap encode_utf8_all (append-nil t) ∙ low-spell t low;
  says = ap terminals_in none;
  remarks = ap remarks_in none;
  undivided = ap (list_any divides) none;
}

pub part-space : (t : List ℕ) → list_all is_space t ≡ true → IsStatementPart (space_pieces t) t [] []
part-space [] h = part-nil
part-space (c ∷ cs) h = part-silent space (c ∷ cs) refl (c, cs, refl, h) (spaces_low (c ∷ cs) h) refl

-- one character of an operator
pub part-operator : (c : ℕ) → is_operator c ≡ true → nat_lt c 128 ≡ true → is_divider (kind.Op c) ≡ false → IsStatementPart (piece operator (c ∷ []) ∷ []) (c ∷ []) (terminal_of_operator c ∷ []) []
part-operator c o low h =
    let one = and_from _ _ low refl in
    record {
      simple = (refl, (c, refl, o), tt);
      scalars = low-scalars (c ∷ []) one;
      spell = low-spell (c ∷ []) one;
      says = refl;
      remarks = refl;
      undivided = ap (λ b. b || false) h;
    }

-- what holds of each line end
pub by_end : (P : List ℕ → Type 0) (end : List ℕ) → P (10 ∷ []) → P (13 ∷ 10 ∷ []) → P (13 ∷ []) → IsLineEnd end → P end
by_end P end a b c (feed e) = subst P (sym e) a
by_end P end a b c (return_feed e) = subst P (sym e) b
by_end P end a b c (return e) = subst P (sym e) c

-- a line end, and a join
pub end_low : (end : List ℕ) → IsLineEnd end → list_all (λ c. nat_lt c 128) end ≡ true
end_low end is = by_end (λ e. list_all (λ c. nat_lt c 128) e ≡ true) end refl refl refl is

pub part-end : (end : List ℕ) → IsLineEnd end → IsStatementPart (piece line_end end ∷ []) end [] []
part-end end e = part-silent line_end end refl e (end_low end e) refl

pub part-join : (end : List ℕ) → IsLineEnd end → IsStatementPart (piece join (92 ∷ end) ∷ []) (92 ∷ end) [] []
unfolding is_backslash
part-join end e = part-silent join (92 ∷ end) refl (92, end, refl, refl, e) (end_low end e) refl

-- a comment, by what follows the `#`
pub part-comment : {b : List ℕ} (t : IsUnbrokenText b) → IsStatementPart (piece comment (35 ∷ t.characters) ∷ []) (35 ∷ b) [] ((35 ∷ b) ∷ [])
unfolding is_hash
part-comment {b = b} t =
    let nil = append-nil (35 ∷ t.characters) in
    let bytes : encode_utf8_all (35 ∷ t.characters) ≡ 35 ∷ b = ap (λ x. x ++ encode_utf8_all t.characters) (encode_ascii 35 (omega arith)) ∙ ap (λ x. 35 ∷ x) t.spell in
    record {
      simple = (refl, (35, t.characters, refl, refl, t.unbroken), tt);
      scalars = ap all_scalars nil ∙ and_from _ _ (low_scalar 35 (omega arith)) t.scalars;
      spell = ap encode_utf8_all nil ∙ bytes;
      says = refl;
      remarks = ap (λ x. x ∷ []) bytes;
      undivided = refl;
    }

-- a word that is no number
part-word : (t b : List ℕ) (u : Terminal) → IsWord t → all_scalars t ≡ true → encode_utf8_all t ≡ b → begins is_digit t ≡ false → terminal_of_word b ≡ u → IsStatementPart (piece word t ∷ []) b (u ∷ []) []
part-word t b u is scalars spell no_number says =
    let words : words_of (piece word t ∷ []) ≡ record { kind = kind.Name; bytes = b } ∷ [] = λ i. record { kind = cond (no_number i) kind.Number kind.Name; bytes = spell i } ∷ [] in
    record {
      simple = (refl, is, tt);
      scalars = ap all_scalars (append-nil t) ∙ scalars;
      spell = ap encode_utf8_all (append-nil t) ∙ spell;
      says = ap terminals_in words ∙ ap (λ x. x ∷ []) says;
      remarks = ap remarks_in words;
      undivided = ap (list_any divides) words;
    }

-- words of letters are words, as a law of py_lines has it
abbrev pub LettersAreWords : Type 0
LettersAreWords = (first : ℕ) (others : List ℕ) → list_all is_ascii_alphabetic (first ∷ others) ≡ true → IsWord (first ∷ others)

pub part-letters : LettersAreWords → (c : ℕ) (cs : List ℕ) → list_all is_ascii_alphabetic (c ∷ cs) ≡ true → list_all (λ d. nat_lt d 128) (c ∷ cs) ≡ true → is_digit c ≡ false → IsStatementPart (piece word (c ∷ cs) ∷ []) (c ∷ cs) (terminal_of_word (c ∷ cs) ∷ []) []
part-letters law c cs letters low no_digit = part-word (c ∷ cs) (c ∷ cs) _ (law c cs letters) (low-scalars (c ∷ cs) low) (low-spell (c ∷ cs) low) no_digit refl

-- a name is none of the keywords
none_at : (p : List ℕ → Bool) (ws : List (List ℕ)) (i : ℕ) → list_any p ws ≡ false → p (get_or ws i []) ≡ true → i < length ws → ⊥
none_at p [] i h k below = omega arith
none_at p (w ∷ ws) zero h k below = both_ways _ (or_parts (p w) (list_any p ws) h).0 k
none_at p (w ∷ ws) (suc i) h k below = none_at p ws i (or_parts (p w) (list_any p ws) h).1 k (omega (arith, below))

other_word : (b k : List ℕ) → (bytes_eq k b ≡ true → ⊥) → bytes_eq b k ≡ false
other_word b k h = false_from_ne_true _ (λ same. h ((bytes_eq-Decides k b).1 (sym ((bytes_eq-Decides b k).0 same))))

name_terminal : (b : List ℕ) → is_keyword b ≡ false → terminal_of_word b ≡ name b
unfolding is_keyword
name_terminal b h =
    let not : (i : ℕ) → i < length keywords → bytes_eq b (get_or keywords i []) ≡ false = λ i below. other_word b (get_or keywords i []) (λ same. none_at (λ k. bytes_eq k b) keywords i h same below) in
    let no_import : bytes_eq b (codes "import") ≡ false = not 21 (lit< tt) in
    let no_from : bytes_eq b (codes "from") ≡ false = not 18 (lit< tt) in
    let no_as : bytes_eq b (codes "as") ≡ false = not 4 (lit< tt) in
    let other : is_keyword b ≡ false = h in
    by_tests _ _ _ _ b no_import no_from no_as other
  where
    by_tests : (i f a k : Bool) (b : List ℕ) → i ≡ false → f ≡ false → a ≡ false → k ≡ false → cond i import_word (cond f from_word (cond a as_word (cond k other (name b)))) ≡ name b
    by_tests true f a k b h x y z = absurd (cc)
    by_tests false true a k b h x y z = absurd (cc)
    by_tests false false true k b h x y z = absurd (cc)
    by_tests false false false true b h x y z = absurd (cc)
    by_tests false false false false b h x y z = refl

-- a name
pub part-name : (b : List ℕ) (n : IsName b) → IsStatementPart (piece word n.characters ∷ []) b (name b ∷ []) []
part-name b n = part-word n.characters b (name b) n.word n.scalars n.spell n.no_number (name_terminal b n.no_keyword)
