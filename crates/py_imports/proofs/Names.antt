-- The names in a line that is read are words.
use Rattle.std.proofs.Common.{◌≡◌, ℕ, Bool, true, false, cond, not, List, [], ◌∷◌, ◌++◌, map, refl, sym, ap, ◌∙◌, subst}
use Rattle.std.specs.Prelude.{encode_utf8_all, filter, ◌==◌}
use Rattle.std.specs.Str.{all_scalars}
use Rattle.std.proofs.lemmas.Bool.{and_parts, and_from}
use Rattle.py_lines.specs.Character.{is_digit}
use Rattle.py_lines.specs.Piece.{Class, mark, space, word, string, operator, comment, join, line_end, Piece, begins, spelled}
use Rattle.py_lines.specs.Fields.{InClass, AreReadBefore}
use Rattle.py_lines.specs.LogicalLine.{first_or_zero, line_of, tokens_from}
use Rattle.py_lines.specs.Words.{Word, word_in, words_of_piece, words_of}
use Rattle.py_lines.specs.declared.token.TokKind.TheVariants as kind
use Rattle.py_lines.specs.declared.token.Token.{Token}
use Rattle.py_imports.specs.Grammar.{import_word, from_word, as_word, name, dot, comma, star, opening, closing, other, terminal_of, terminal_of_operator}
use Rattle.py_imports.specs.Binds.{terminal_in}
use Rattle.py_imports.specs.Names.{terminals_in, HasName, HaveNames, IsName}
use Rattle.py_imports.specs.Shape.{terminals_of}
use Rattle.py_imports.specs.Statement.{is_comment, significant}

significant_words : (text : List ℕ) (ts : List Token) → map (terminal_in text) (significant ts) ≡ terminals_in (map (word_in text) ts)
significant_words text [] = refl
significant_words text (t ∷ ts) = by (is_comment t.kind) (significant_words text ts)
  where
    by : (b : Bool) → map (terminal_in text) (significant ts) ≡ terminals_in (map (word_in text) ts) → map (terminal_in text) (cond (not b) (t ∷ significant ts) (significant ts)) ≡ map (λ w. terminal_of w.kind w.bytes) (cond (not b) (word_in text t ∷ filter (λ w. not (is_comment w.kind)) (map (word_in text) ts)) (filter (λ w. not (is_comment w.kind)) (map (word_in text) ts)))
    by true others = others
    by false others = ap (λ l. terminal_in text t ∷ l) others

-- the law of py_lines that tokens are words
abbrev pub TokensAreWords : Type 0
TokensAreWords = (offset line : ℕ) (ps : List Piece) → map (word_in (line_of offset line ps).text) (line_of offset line ps).tokens ≡ words_of ps

-- the terminals of the logical line of pieces
pub terminals_of_pieces : TokensAreWords → (offset line : ℕ) (ps : List Piece) → terminals_of (line_of offset line ps) ≡ terminals_in (words_of ps)
terminals_of_pieces law offset line ps = significant_words (encode_utf8_all (spelled ps)) (tokens_from 0 line ps) ∙ ap terminals_in (law offset line ps)

name_of_word : (b : List ℕ) (i f a k : Bool) → (k ≡ false → IsName b) → HasName (cond i import_word (cond f from_word (cond a as_word (cond k other (name b)))))
name_of_word b true f a k n = tt
name_of_word b false true a k n = tt
name_of_word b false false true k n = tt
name_of_word b false false false true n = tt
name_of_word b false false false false n = n refl

operator_good : (c : ℕ) → HasName (terminal_of_operator c)
operator_good c = by (c == 46) (c == 44) (c == 42) (c == 40) (c == 41)
  where
    by : (v w x y z : Bool) → HasName (cond v dot (cond w comma (cond x star (cond y opening (cond z closing other)))))
    by true w x y z = tt
    by false true x y z = tt
    by false false true y z = tt
    by false false false true z = tt
    by false false false false true = tt
    by false false false false false = tt

word_good : (text : List ℕ) → InClass word text → all_scalars text ≡ true → (d : Bool) → begins is_digit text ≡ d → HasName (terminal_of (cond d kind.Number kind.Name) (encode_utf8_all text))
word_good text is fine true h = tt
word_good text is fine false h = name_of_word (encode_utf8_all text) _ _ _ _ (λ k. record { characters = text; scalars = fine; spell = refl; word = is; no_number = h; no_keyword = k })

piece_good : (class : Class) (text : List ℕ) (ws : List Word) → InClass class text → all_scalars text ≡ true → HaveNames (terminals_in ws) → HaveNames (terminals_in (words_of_piece class text ++ ws))
piece_good mark text ws is fine h = h
piece_good space text ws is fine h = h
piece_good join text ws is fine h = h
piece_good line_end text ws is fine h = h
piece_good comment text ws is fine h = h
piece_good string text ws is fine h = (tt, h)
piece_good operator text ws is fine h = (operator_good (first_or_zero text), h)
piece_good word text ws is fine h = by (begins is_digit text) refl
  where
    by : (d : Bool) → begins is_digit text ≡ d → HaveNames (terminals_in (record { kind = cond d kind.Number kind.Name; bytes = encode_utf8_all text } ∷ ws))
    by true e = (tt, h)
    by false e = (word_good text is fine false e, h)

parts : (a b : List ℕ) → all_scalars (a ++ b) ≡ true → (all_scalars a ≡ true) × (all_scalars b ≡ true)
parts [] b h = (refl, h)
parts (c ∷ cs) b h =
    let both = and_parts _ _ h in
    let others = parts cs b both.1 in
    (and_from _ _ both.0 others.0, others.1)

words_good : (ps : List Piece) (rest : List ℕ) → AreReadBefore ps rest → all_scalars (spelled ps) ≡ true → HaveNames (terminals_in (words_of ps))
words_good [] rest fit fine = tt
words_good (p ∷ ps) rest fit fine = let both = parts p.text (spelled ps) fine in piece_good p.class p.text (words_of ps) fit.0 both.0 (words_good ps rest fit.3 both.1)

pub names_in_line : TokensAreWords → (offset line : ℕ) (ps : List Piece) (rest : List ℕ) → AreReadBefore ps rest → all_scalars (spelled ps) ≡ true → HaveNames (terminals_of (line_of offset line ps))
names_in_line law offset line ps rest fit fine = subst HaveNames (sym (terminals_of_pieces law offset line ps)) (words_good ps rest fit fine)
