-- Pieces of which each may touch the next are read.
use Rattle.py_lines.proofs.Prelude.{◌≡◌, ℕ, Bool, true, false, not, List, [], ◌∷◌, ◌++◌, refl, sym, ap, subst, append_assoc, codes, list_all, and_parts, not-true, arith, InClass, MayPrecede, AreReadBefore}
use Rattle.unicode_ident.proofs.Computing.{unicode_ident}
use Rattle.py_lines.specs.Character.{is_one_of, is_space, is_word_start, is_word_character, is_digit, is_quote, is_operator, is_line_feed, is_return, is_break, is_hash, is_backslash}
use Rattle.py_lines.specs.Piece.{Class, mark, space, word, operator, comment, join, line_end, Piece, begins, is_mark_class, spelled}
use Rattle.py_lines.specs.PieceGrammar.{feed, return_feed, return}
use Rattle.py_lines.specs.LogicalLine.{is_line_end_class}
use Rattle.py_lines.proofs.Text.CharacterTests.{none_of, excluded}
use Rattle.py_lines.proofs.Fields.Elsewhere.{none_false}
use Rattle.py_lines.specs.Neighbours.{is_simple, is_space_class, is_word_class, may_touch, AreSimple, MayTouch}
use Rattle.py_lines.proofs.FieldScans.PlainCode.{operator_is, space_is}

-- what computes here
unfoldable computes : Unit {0}
unfolding unicode_ident is_space is_word_start is_word_character is_digit is_quote is_line_feed is_return is_operator
computes = tt

-- the characters of which the first one of a class other than word is one, and the test that the first one of a class passes
abbrev starts_of : Class → List ℕ
starts_of space = codes " \t" ++ 0x0C ∷ []
starts_of operator = codes "+-*/%@&|^~<>=!()[]{},:.;"
starts_of comment = codes "#"
starts_of join = codes "\\"
starts_of line_end = codes "\n\r"
starts_of _ = []

abbrev opens : Class → ℕ → Bool
opens word c = is_word_start c
opens class c = is_one_of (starts_of class) c

-- the first character of a piece
record Opens (class : Class) (text : List ℕ) : Type 0 where
  first : ℕ
  others : List ℕ
  is : text ≡ first ∷ others
  passes : opens class first ≡ true

opened : (class : Class) (text : List ℕ) → is_simple class ≡ true → InClass class text → Opens class text
unfolding computes is_break is_hash is_backslash
opened space text s h = record { first = h.0; others = h.1; is = h.2; passes = (and_parts _ _ (subst (λ (t : List ℕ). list_all is_space t ≡ true) h.2 h.3)).0 }
opened word text s h = record { first = h.0; others = h.1; is = h.2; passes = h.3 }
opened operator text s h = record { first = h.0; others = []; is = h.1; passes = h.2 }
opened comment text s h = record { first = h.0; others = h.1; is = h.2; passes = h.3 }
opened join text s h = record { first = h.0; others = h.1; is = h.2; passes = h.3 }
opened line_end text s (feed e) = record { first = 10; others = []; is = e; passes = refl }
opened line_end text s (return_feed e) = record { first = 13; others = 10 ∷ []; is = e; passes = refl }
opened line_end text s (return e) = record { first = 13; others = []; is = e; passes = refl }
opened class text s h = absurd (cc)

-- what opens no space, no word and no line end
no_space : (class : Class) (c : ℕ) → not (is_space_class class) ≡ true → opens class c ≡ true → is_space c ≡ false
unfolding computes
no_space space c n h = absurd (cc)
no_space word c n h = excluded is_word_start is_space c (λ one. none_of is_word_start (starts_of space) c refl one) h
no_space class c n h = none_of is_space (starts_of class) c refl h

no_word : (class : Class) (c : ℕ) → not (is_word_class class) ≡ true → opens class c ≡ true → (is_word_character c ≡ false) × (is_quote c ≡ false)
unfolding computes
no_word word c n h = absurd (cc)
no_word operator c n h = let is = operator_is c h in (is.0, is.1)
no_word space c n h = space_is c h
no_word class c n h = (none_of is_word_character (starts_of class) c refl h, none_of is_quote (starts_of class) c refl h)

end_breaks : (class : Class) (c : ℕ) → is_line_end_class class ≡ true → opens class c ≡ true → is_break c ≡ true
unfolding is_break
end_breaks line_end c n h = h
end_breaks class c n h = absurd (cc)

-- what a text begins with
first_of : {class : Class} (test : ℕ → Bool) (text rest : List ℕ) (o : Opens class text) → begins test (text ++ rest) ≡ test o.first
first_of test text rest o = ap (λ (t : List ℕ). begins test (t ++ rest)) o.is

touches : (class : Class) (text : List ℕ) (next_class : Class) (next rest : List ℕ) → Opens next_class next → may_touch class text next_class next ≡ true → MayPrecede class text (next ++ rest)
touches class text next_class next rest o h = grind (arith, first_of, no_space, no_word, none_false, end_breaks, not-true)

ends_so : (class : Class) (text : List ℕ) → is_simple class ≡ true → MayPrecede class text []
ends_so class text s = grind arith

no_mark : (class : Class) → is_simple class ≡ true → is_mark_class class ≡ false
no_mark mark s = absurd (cc)
no_mark other s = refl

pub neighbours_read : (ps : List Piece) → AreSimple ps → MayTouch ps → AreReadBefore ps []
neighbours_read [] s t = tt
neighbours_read (p ∷ []) s t = (s.1, ends_so p.class p.text s.0, refl, tt)
neighbours_read (p ∷ q ∷ ps) s t = (
  s.1,
  subst (MayPrecede p.class p.text) (sym (append_assoc q.text (spelled ps) [])) (touches p.class p.text q.class q.text (spelled ps ++ []) (opened q.class q.text s.2.0 s.2.1) t.0),
  no_mark q.class s.2.0,
  neighbours_read (q ∷ ps) s.2 t.1,
)
