-- A text has one reading with fields: the machine with fields goes over one piece, and then over no other.
use Rattle.py_lines.proofs.Prelude.{◌≡◌, ℕ, true, false, Option, None, Some, List, [], ◌∷◌, ◌++◌, refl, sym, ap, ◌∙◌, subst, append_assoc, append-nil, arith, and_right, both_ways, false_from_ne_true, append_cancel_left, chars, chars-encodes, is_mark, is_operator, Class, operator, Piece, spelled, IsBalancedReading, piece}
use Rattle.py_lines.specs.PieceGrammar.{Grammar, InClassIn, MayPrecedeIn, AreReadIn, ReadsIn}
use Rattle.py_lines.specs.LogicalLine.{LogicalLine, lines_of}
use Rattle.py_lines.specs.Lexed.{IsLexedWhole}
use Rattle.py_lines.specs.Fields.{ReadsText, Fields, fielded}
use Rattle.py_lines.specs.FieldStrings.{Host, with_fields}
use Rattle.py_lines.specs.Private.Machine.{start_of}
use Rattle.py_lines.specs.Private.FieldMachine.{FieldScanned, field_state, field_text_start, field_started, field_moved, field_step, field_steps_from, field_pieces}
use Rattle.py_lines.proofs.Pieces.PieceLists.{spelled-append, AreReadIn-second}
use Rattle.py_lines.proofs.Text.CharacterTests.{none_of}
use Rattle.py_lines.proofs.Text.Decoding.{decoded}
use Rattle.py_lines.proofs.Text.Splits.{Either, either}
use Rattle.py_lines.proofs.Machine.Starts.{start-operator}
use Rattle.py_lines.proofs.Fields.Prefixes.{Compared, same, longer, shorter, compared_more}
use Rattle.py_lines.proofs.Fields.Parts.{not_nothing, begins_same}
use Rattle.py_lines.proofs.FieldMachine.Runs.{NoLimit, StopsAt, steps_of}
use Rattle.py_lines.proofs.FieldSoundness.LiveTexts.{steps-append}
use Rattle.py_lines.proofs.FieldMachine.Completeness.{start_breaks, fields_reached}
use Rattle.py_lines.proofs.FieldMachine.PieceRuns.{FieldFinds}
use Rattle.py_lines.proofs.FieldMachine.ListBrackets.{none_some}
use Rattle.py_lines.proofs.FieldMachine.OuterLists.{outer_done, outer_alone, started_outer, closed_on, outer_runs}

-- what follows pieces counts by its first character
precede_before : (grammar : Grammar) (class : Class) (text x : List ℕ) (c : ℕ) (r s : List ℕ) → MayPrecedeIn grammar class text (x ++ c ∷ r) → MayPrecedeIn grammar class text (x ++ c ∷ s)
precede_before grammar class text x c r s before = grind (arith, begins_same, not_nothing)

pub read_before : (grammar : Grammar) (ps : List Piece) (c : ℕ) (r s : List ℕ) → AreReadIn grammar ps (c ∷ r) → AreReadIn grammar ps (c ∷ s)
read_before grammar [] c r s fit = tt
read_before grammar (p ∷ ps) c r s fit = (fit.0, precede_before grammar p.class p.text (spelled ps) c r s fit.1, fit.2, read_before grammar ps c r s fit.3)

-- and all may stand at a text's end
precede_end : (grammar : Grammar) (class : Class) (text next rest : List ℕ) → MayPrecedeIn grammar class text (next ++ rest) → MayPrecedeIn grammar class text (next ++ [])
precede_end grammar class text [] rest before = grind (arith, and_right)
precede_end grammar class text (c ∷ cs) rest before = precede_before grammar class text [] c (cs ++ rest) (cs ++ []) before

pub read_nothing : (grammar : Grammar) (ps : List Piece) (rest : List ℕ) → AreReadIn grammar ps rest → AreReadIn grammar ps []
read_nothing grammar [] rest fit = tt
read_nothing grammar (p ∷ ps) rest fit = (fit.0, precede_end grammar p.class p.text (spelled ps) rest fit.1, fit.2, read_nothing grammar ps rest fit.3)

-- the outermost list begins with some pieces
abbrev BeginIf : List Piece → Option FieldScanned → Type 0
BeginIf first None = Unit {0}
BeginIf first (Some s) = (ps : List Piece) × (outer_done s ≡ first ++ ps)

started_begin : (first ps : List Piece) (c : ℕ) → BeginIf first (field_started [] (first ++ ps) [] c (start_of c))
started_begin first ps c = grind (arith, started_outer, outer_alone, append_assoc)

-- the machine goes over a piece, and may stop there; or the piece is an operator
data IsAlone (class : Class) (text rest : List ℕ) : Type 0 where
  single : (c : ℕ) → piece class text ≡ piece operator (c ∷ []) → is_operator c ≡ true → IsAlone class text rest
  over : FieldFinds NoLimit field_text_start text (piece class text ∷ []) [] rest → IsAlone class text rest

is_alone : (class : Class) (text rest : List ℕ) → InClassIn fielded class text → MayPrecedeIn fielded class text rest → IsAlone class text rest
is_alone operator text rest (c, is, passes) before = single c (ap (piece operator) is) passes
is_alone class text rest is before = over (subst (λ t. FieldFinds NoLimit field_text_start t (piece class text ∷ []) [] rest) (append-nil text) (fields_reached (piece class text ∷ []) [] rest (is, before, refl, tt) refl tt))

-- where it goes on from one piece to another one alone, that is the same
module _ (p q : Piece) (t u : List ℕ) (two : FieldFinds NoLimit field_text_start t (q ∷ []) [] u) where
  abbrev end_of : FieldScanned
  end_of = field_state [] two.done [] two.mode two.held

  goes_on : (o : Option FieldScanned) (text : List ℕ) → field_steps_from o text ≡ Some end_of → BeginIf (p ∷ []) o → p ≡ q
  goes_on None text steps begin = absurd (none_some steps)
  goes_on (Some s) text steps (ps, begin) = let (qs, more) = outer_runs text s end_of steps in let (rs, last) = closed_on two.mode two.done two.held in
      let is : p ∷ (ps ++ (qs ++ rs)) ≡ q ∷ [] = sym (last ∙ ap (λ l. l ++ rs) (more ∙ ap (λ l. l ++ qs) begin) ∙ simp append_assoc) ∙ two.pieces_are in cc

  after_piece : (s r x : List ℕ) → FieldFinds NoLimit field_text_start s (p ∷ []) [] r → t ≡ s ++ x → r ≡ x ++ u → p ≡ q
  after_piece s r x one is left =
      go x left (ap (λ o. field_steps_from o x) (sym (steps_of NoLimit field_text_start end s one.goes)) ∙ sym (steps-append (Some field_text_start) s x) ∙ ap (field_steps_from (Some field_text_start)) (sym is) ∙ steps_of NoLimit field_text_start end_of t two.goes)
    where
      end : FieldScanned
      end = field_state [] one.done [] one.mode one.held

      go : (y : List ℕ) → r ≡ y ++ u → field_steps_from (Some end) y ≡ Some end_of → p ≡ q
      go [] at later = let same : end ≡ end_of = cc in let is : p ∷ [] ≡ q ∷ [] = sym one.pieces_are ∙ ap field_pieces same ∙ two.pieces_are in cc
      go (c ∷ y) at later = let move = subst (StopsAt one.mode one.held) at one.stops in
          goes_on (field_step end c) y later (subst (BeginIf (p ∷ [])) (sym (ap (field_moved end c) move)) (subst (λ l. BeginIf (p ∷ []) (field_started [] l [] c (start_of c))) (sym one.pieces_are) (started_begin (p ∷ []) [] c)))

-- an operator is the first piece where its character stands
operator-not-mark : (c : ℕ) → is_operator c ≡ true → is_mark c ≡ false
unfolding is_operator is_mark
operator-not-mark c is = false_from_ne_true _ (λ marks. both_ways _ (none_of is_operator (65279 ∷ []) c refl marks) is)

operator_first : (c : ℕ) → is_operator c ≡ true → BeginIf (piece operator (c ∷ []) ∷ []) (field_step field_text_start c)
operator_first c is = grind (arith, piece, start_breaks, operator-not-mark, start-operator)

after_operator_piece : (c : ℕ) (q : Piece) (t r u : List ℕ) → is_operator c ≡ true → FieldFinds NoLimit field_text_start t (q ∷ []) [] u → c ∷ r ≡ t ++ u → piece operator (c ∷ []) ≡ q
after_operator_piece c q [] r u is two at = let none : [] ≡ q ∷ [] = ap field_pieces two.goes ∙ two.pieces_are in absurd (cc)
after_operator_piece c q (d ∷ t) r u is two at =
    let here : c ≡ d = cc in
    goes_on (piece operator (c ∷ [])) q (d ∷ t) u two (field_step field_text_start d) t (steps_of NoLimit field_text_start (end_of (piece operator (c ∷ [])) q (d ∷ t) u two) (d ∷ t) two.goes)
    (subst (BeginIf (piece operator (c ∷ []) ∷ [])) (ap (field_step field_text_start) here) (operator_first c is))

-- two pieces that begin in one place are the same
same_piece : (c d : Class) (s t r u : List ℕ) → InClassIn fielded c s → MayPrecedeIn fielded c s r → InClassIn fielded d t → MayPrecedeIn fielded d t u → s ++ r ≡ t ++ u → piece c s ≡ piece d t
same_piece c d s t r u one before two after at = go (is_alone c s r one before) (is_alone d t u two after) where
  rest : (x y a b k : List ℕ) → x ++ a ≡ y ++ b → y ≡ x ++ k → a ≡ k ++ b
  rest x y a b k both is = append_cancel_left x _ _ (both ∙ ap (λ z. z ++ b) is ∙ append_assoc x k b)

  go : IsAlone c s r → IsAlone d t u → piece c s ≡ piece d t
  go (single x is passes) (single y also passing) =
      let shown : x ∷ r ≡ y ∷ u = ap (λ (p : Piece). p.text ++ r) (sym is) ∙ at ∙ ap (λ (p : Piece). p.text ++ u) also in let here : x ≡ y = cc in
      is ∙ ap (λ z. piece operator (z ∷ [])) here ∙ sym also
  go (single x is passes) (over found) = is ∙ after_operator_piece x (piece d t) t r u passes found (ap (λ (p : Piece). p.text ++ r) (sym is) ∙ at)
  go (over found) (single y also passing) = sym (also ∙ after_operator_piece y (piece c s) s u r passing found (ap (λ (p : Piece). p.text ++ u) (sym also) ∙ sym at))
  go (over first) (over second) = by (either s r t u at) where
    by : Either s t u → piece c s ≡ piece d t
    by (Either.shorter k is) = after_piece (piece c s) (piece d t) t u second s r k first is (rest s t r u k at is)
    by (Either.longer e k after is left) = sym (after_piece (piece d t) (piece c s) s r first t u (e ∷ k) second is (rest t s u r (e ∷ k) (sym at) is))

-- so of two lists of pieces that begin in one place, one begins with the other
pub compare_pieces : (ps qs : List Piece) (r u : List ℕ) → AreReadIn fielded ps r → AreReadIn fielded qs u → spelled ps ++ r ≡ spelled qs ++ u → Compared Piece ps qs
compare_pieces [] [] r u one two at = same refl
compare_pieces [] (q ∷ qs) r u one two at = shorter q qs refl
compare_pieces (p ∷ ps) [] r u one two at = longer p ps refl
compare_pieces (p ∷ ps) (q ∷ qs) r u one two at =
    let here : p.text ++ (spelled ps ++ r) ≡ q.text ++ (spelled qs ++ u) = sym (append_assoc p.text (spelled ps) r) ∙ at ∙ append_assoc q.text (spelled qs) u in
    let is : p ≡ q = same_piece p.class q.class p.text q.text _ _ one.0 one.1 two.0 two.1 here in
    let others : spelled ps ++ r ≡ spelled qs ++ u = append_cancel_left p.text _ _ (here ∙ ap (λ (x : Piece). x.text ++ (spelled qs ++ u)) (sym is)) in
    compared_more Piece p q ps qs is (compare_pieces ps qs r u one.3 two.3 others)

-- no piece is empty
pub full : (F : Host → List ℕ → Type 0) (class : Class) (text : List ℕ) → InClassIn (with_fields F) class text → text ≡ [] → ⊥
full F class text is none = grind arith

first_empty : (x y : List ℕ) → x ++ y ≡ [] → x ≡ []
first_empty [] y h = refl
first_empty (c ∷ x) y h = absurd (not_nothing [] c (x ++ y) h)

pub ends_there : (ps qs zs : List Piece) (y : Piece) → AreReadIn fielded ps [] → ps ≡ qs ++ y ∷ zs → spelled ps ≡ spelled qs → ⊥
ends_there ps qs zs y fit is at =
    let own = AreReadIn-second fielded qs (y ∷ zs) [] (subst (λ l. AreReadIn fielded l []) is fit) in
    let none : y.text ++ spelled zs ≡ [] = append_cancel_left (spelled qs) _ _ (sym (spelled-append qs (y ∷ zs)) ∙ ap spelled (sym is) ∙ at ∙ sym (append-nil (spelled qs))) in
    full Fields y.class y.text own.0 (first_empty y.text (spelled zs) none)

-- two readings of a text are the same
pub one_fielded_reading : (pieces others : List Piece) (characters : List ℕ) → ReadsIn fielded pieces characters → ReadsIn fielded others characters → pieces ≡ others
one_fielded_reading pieces others characters one two = grind (arith, compare_pieces, same, longer, ends_there, shorter)

pub one_fielded_reading_of_text : (pieces others : List Piece) (text : List ℕ) → ReadsText pieces text → ReadsText others text → pieces ≡ others
one_fielded_reading_of_text pieces others text first second =
    let same : spelled pieces ≡ spelled others = sym (chars-encodes (spelled pieces) first.scalars) ∙ ap chars (first.spell ∙ sym second.spell) ∙ chars-encodes (spelled others) second.scalars in
    one_fielded_reading pieces others (spelled others) (record { spell = same; fit = first.fit }) (record { spell = refl; fit = second.fit })

-- and so are the logical lines of a text
pub one_fielded_lexing : (text : List ℕ) (lines others : List LogicalLine) → IsLexedWhole text lines → IsLexedWhole text others → lines ≡ others
one_fielded_lexing text lines others r s =
    let same_text = decoded text r.characters s.characters [] [] r.decodes s.decodes in
    let reading = subst (λ (t : List ℕ). IsBalancedReading r.pieces t) same_text.0 r.reading in
    r.cut ∙ ap lines_of (one_fielded_reading r.pieces s.pieces s.characters reading.reads s.reading.reads) ∙ sym s.cut
