-- What the logical lines of members import: something, under names that are words.
use Rattle.std.proofs.Common.{◌≡◌, ℕ, ◌+◌, suc, zero, Bool, true, false, cond, not, ◌⊎◌, ⊎_elim, inl, inr, List, [], ◌∷◌, ◌++◌, map, take, refl, sym, ap, ◌∙◌, subst, arith}
use Rattle.std.specs.Prelude.{filter, nat_lt, slice_range}
use Rattle.std.specs.List.{list_any, list_all, prefix_len}
use Rattle.std.specs.Str.{all_scalars}
use Rattle.std.proofs.lemmas.Bool.{both_ways}
use Rattle.std.proofs.lemmas.Bool.Decides.{nat_tests}
use Rattle.std.proofs.lemmas.List.{map-append}
use Rattle.py_lines.specs.Character.{is_mark, is_space}
use Rattle.py_lines.specs.LogicalLine.{LogicalLine, indent_of, line_of}
use Rattle.py_lines.specs.Piece.{Class, mark, space, word, string, operator, comment, join, line_end, Piece, is_mark_class, begins_marked, spelled}
use Rattle.py_lines.specs.Neighbours.{is_space_class}
use Rattle.py_lines.specs.Fields.{InClass, AreReadBefore}
use Rattle.py_lines.specs.declared.token.Token.{Token}
use Rattle.py_imports.specs.Binds.{BindEach, BindsAt, nothing, imports, terminals_at, terminal_in}
use Rattle.py_imports.specs.BindingValue.{BindingValue}
use Rattle.py_imports.specs.Grammar.{Terminal, begins_import, Imported, Item, IsImport, import_statement, from_statement, NameKind, AreItems, last, then, AreBracketed, closed, closed_after_comma, AreNames, plain_names, bracketed, all_names}
use Rattle.py_imports.specs.Names.{AreNamed, HaveNames}
use Rattle.py_imports.specs.Shape.{terminals_of, mark_len}
use Rattle.py_imports.specs.Statement.{significant, TokenPlace, places_from, may_start_after, starts, is_end, statement_at}
use Rattle.isort_sort.specs.Line.{imported_of}
use Rattle.isort_sort.specs.Row.{Imports, indentation_of}
use Rattle.isort_sort.proofs.Rows.Moved.{imported_again}
use Rattle.isort_sort.proofs.Rows.SomeRows.{tokens_again, all_taken}
use Rattle.isort_sort.proofs.LineLaws.Units.{IsUnit}
use Rattle.isort_sort.proofs.WrittenLines.UnitRows.{unit_line}
use Rattle.isort_sort.specs.WrittenLine.{mark_pieces}
use Rattle.isort_sort.proofs.LineLaws.Joined.{AreSome, some_first}
use Rattle.isort_sort.proofs.LineLaws.Indented.{line-indentation, sliced, spaced}
use Rattle.isort_sort.proofs.LineLaws.Parts.{piece}
use Rattle.isort_sort.proofs.Rows.Roles.{import_begins}

-- what lines that are read import, as the laws of import statements say
pub record ImportLaws : Type 0 where
  pub names : (offset line : ℕ) (pieces : List Piece) (rest : List ℕ) → AreReadBefore pieces rest → all_scalars (spelled pieces) ≡ true → HaveNames (terminals_of (line_of offset line pieces))
  pub named : (statement : List Terminal) (is : List Imported) → IsImport statement is → HaveNames statement → AreNamed is

-- tokens whose names are words, and the places among them
abbrev TokensNamed : List ℕ → List Token → Type 0
TokensNamed text ts = HaveNames (map (terminal_in text) ts)

abbrev PlacesNamed : List ℕ → List TokenPlace → Type 0
PlacesNamed text [] = Unit {0}
PlacesNamed text (p ∷ ps) = TokensNamed text (p.token ∷ p.after) × PlacesNamed text ps

places_named : (text : List ℕ) (b ts : List Token) → TokensNamed text ts → PlacesNamed text (places_from b ts)
places_named text b [] h = tt
places_named text b (t ∷ ts) h = (h, places_named text (b ++ t ∷ []) ts h.1)

filter_named : (text : List ℕ) (test : TokenPlace → Bool) (ps : List TokenPlace) → PlacesNamed text ps → PlacesNamed text (filter test ps)
filter_named text test [] h = tt
filter_named text test (p ∷ ps) h = by (test p) (filter_named text test ps h.1)
  where
    by : (b : Bool) → PlacesNamed text (filter test ps) → PlacesNamed text (cond b (p ∷ filter test ps) (filter test ps))
    by true k = (h.0, k)
    by false k = k

take_named : (text : List ℕ) (n : ℕ) (ps : List TokenPlace) → TokensNamed text (map (λ p. p.token) ps) → TokensNamed text (map (λ p. p.token) (take n ps))
take_named text zero ps h = tt
take_named text (suc n) [] h = tt
take_named text (suc n) (p ∷ ps) h = (h.0, take_named text n ps h.1)

statement_named : (line : LogicalLine) (p : TokenPlace) → TokensNamed line.text (p.token ∷ p.after) → HaveNames (terminals_at line p)
statement_named line p h =
    take_named line.text (prefix_len (λ q. not (is_end q)) (places_from [] (p.token ∷ p.after))) (places_from [] (p.token ∷ p.after))
    (subst (TokensNamed line.text) (sym (tokens_again [] (p.token ∷ p.after))) h)

named_append : (a b : List Imported) → AreNamed a → AreNamed b → AreNamed (a ++ b)
named_append [] b h k = k
named_append (i ∷ is) b h k = (h.0, named_append is b h.1 k)

value_named : ImportLaws → (line : LogicalLine) (p : TokenPlace) (values : List BindingValue) → TokensNamed line.text (p.token ∷ p.after) → BindsAt line p values → AreNamed (map imported_of values)
value_named laws line p values h (nothing l q bs none e) = subst (λ (b : List BindingValue). AreNamed (map imported_of b)) (sym e) tt
value_named laws line p values h (imports l q bs is begins import e) =
    subst AreNamed (sym (ap (map imported_of) e ∙ imported_again p.token.line (nat_lt 0 line.indent) is)) (laws.named (terminals_at line p) is import (statement_named line p h))

each_named : ImportLaws → (line : LogicalLine) (ps : List TokenPlace) (values : List BindingValue) → PlacesNamed line.text ps → BindEach line ps values → AreNamed (map imported_of values)
each_named laws line [] values h b = subst (λ (l : List BindingValue). AreNamed (map imported_of l)) (sym b) tt
each_named laws line (p ∷ ps) values h b =
    subst AreNamed (sym (ap (map imported_of) b.2 ∙ map-append imported_of b.0 b.1))
    (named_append (map imported_of b.0) (map imported_of b.1) (value_named laws line p b.0 h.0 b.3) (each_named laws line ps b.1 h.1 b.4))

pub imports_named : ImportLaws → (u : List Piece) (is : List Imported) → IsUnit u → Imports (unit_line u) is → AreNamed is
imports_named laws u is unit h =
    let line : LogicalLine = unit_line u in
    let names = laws.names 0 1 u [] unit.reading.reads.fit unit.scalars in
    subst AreNamed (sym h.1.2)
    (each_named laws line (starts (significant line.tokens)) h.1.0 (filter_named line.text (λ p. may_start_after p.before) (places_from [] (significant line.tokens)) (places_named line.text [] (significant line.tokens) names)) h.1.1)

-- an import statement imports something
some_map : {X Y : Type 0} (f : X → Y) (xs : List X) → AreSome xs → AreSome (map f xs)
some_map f xs h = (f h.0, map f h.1, ap (map f) h.2)

some_items : (k : NameKind) (ts : List Terminal) (is : List Item) → AreItems k ts is → AreSome is
some_items k ts _ (last _ _ i one) = (i, [], refl)
some_items k ts _ ((then) _ _ first rest i is e one more) = (i, is, refl)

some_bracketed : (ts : List Terminal) (is : List Item) → AreBracketed ts is → AreSome is
some_bracketed ts is (closed _ items _ e are) = some_items _ items is are
some_bracketed ts is (closed_after_comma _ items _ e are) = some_items _ items is are

some_names : (ts : List Terminal) (is : List Item) → AreNames ts is → AreSome is
some_names _ is (plain_names ts _ are) = some_items _ ts is are
some_names _ is (bracketed ts _ are) = some_bracketed ts is are
some_names _ _ (all_names) = (_, [], refl)

some_imported : (ts : List Terminal) (is : List Imported) → IsImport ts is → AreSome is
some_imported _ _ (import_statement rest is are) = some_map _ is (some_items _ rest is are)
some_imported ts _ (from_statement _ from rest is e relative names) = some_map _ is (some_names rest is names)

first_value : (line : LogicalLine) (p : TokenPlace) (values : List BindingValue) → begins_import (terminals_at line p) ≡ true → BindsAt line p values → AreSome values
first_value line p values begins (nothing l q bs none e) = absurd (both_ways _ none begins)
first_value line p values begins (imports l q bs is more import e) = subst AreSome (sym e) (some_map _ is (some_imported _ is import))

some_values : (line : LogicalLine) (tokens : List Token) (values : List BindingValue) (is : List Imported) → list_any is_end (places_from [] tokens) ≡ false → IsImport (map (terminal_in line.text) tokens) is → BindEach line (starts tokens) values → AreSome values
some_values line [] values is alone import binds = absurd (both_ways _ refl (import_begins [] is import))
some_values line (t ∷ ts) values is alone import binds =
    let p : TokenPlace = record { before = []; token = t; after = ts } in
    let whole : statement_at p ≡ t ∷ ts = ap (map (λ (q : TokenPlace). q.token)) (all_taken (places_from [] (t ∷ ts)) alone) ∙ tokens_again [] (t ∷ ts) in
    let begins = ap (λ (l : List Token). begins_import (map (terminal_in line.text) l)) whole ∙ import_begins (map (terminal_in line.text) (t ∷ ts)) is import in
    subst AreSome (sym binds.2) (some_first binds.0 binds.1 (first_value line p binds.0 begins binds.3))

pub imports_some : (line : LogicalLine) (is : List Imported) → Imports line is → AreSome is
imports_some line is h = subst AreSome (sym h.1.2) (some_map imported_of h.1.0 (some_values line (significant line.tokens) h.1.0 h.0.imported h.0.alone h.0.is h.1.1))

-- the indentation of a line is space
unindented : (u : List Piece) → indent_of u ≡ 0 → list_all is_space (indentation_of (unit_line u)) ≡ true
unindented u e =
    let l = unit_line u in
    ap (λ (n : ℕ). list_all is_space (slice_range l.text (mark_len l) (mark_len l + n))) e ∙ ap (list_all is_space) (sliced (mark_len l) 0 l.text)

unspaced : (marked : Bool) (class : Class) (text : List ℕ) (ps : List Piece) → is_mark_class class ≡ false → is_space_class class ≡ false → indent_of (mark_pieces marked ++ (piece class text ∷ ps)) ≡ 0
unspaced marked mark text ps h k = absurd (cc)
unspaced marked space text ps h k = absurd (cc)
unspaced true _ text ps h k = refl
unspaced false _ text [] h k = refl
unspaced false _ text (q ∷ qs) h k = refl

spaces_of : (marked : Bool) (v : List Piece) → AreReadBefore v [] → begins_marked v ≡ false → list_all is_space (indentation_of (unit_line (mark_pieces marked ++ v))) ≡ true
spaces_of true [] fit h = unindented (mark_pieces true ++ []) refl
spaces_of false [] fit h = unindented [] refl
spaces_of marked (p ∷ ps) fit h = by p.class p.text fit.0 h
  where
    other : (class : Class) (text : List ℕ) → is_mark_class class ≡ false → is_space_class class ≡ false → list_all is_space (indentation_of (unit_line (mark_pieces marked ++ (piece class text ∷ ps)))) ≡ true
    other class text h k = unindented (mark_pieces marked ++ (piece class text ∷ ps)) (unspaced marked class text ps h k)

    by : (class : Class) (text : List ℕ) → InClass class text → is_mark_class class ≡ false → list_all is_space (indentation_of (unit_line (mark_pieces marked ++ (piece class text ∷ ps)))) ≡ true
    by space text is k =
        subst (λ (t : List ℕ). list_all is_space (indentation_of (unit_line (mark_pieces marked ++ (piece space t ∷ ps)))) ≡ true) (sym is.2)
        (let h = ap (list_all is_space) (sym is.2) ∙ is.3 in ap (list_all is_space) (line-indentation 0 1 marked (is.0 ∷ is.1) (piece space (is.0 ∷ is.1) ∷ ps) (spaced is.0 is.1 ps h)) ∙ h)
    by mark text is k = absurd (cc)
    by word text is k = other word text k refl
    by string text is k = other string text k refl
    by operator text is k = other operator text k refl
    by comment text is k = other comment text k refl
    by join text is k = other join text k refl
    by line_end text is k = other line_end text k refl

is_mark_or_not : (class : Class) → (class ≡ mark) ⊎ (is_mark_class class ≡ false)
is_mark_or_not mark = inl refl
is_mark_or_not _ = inr refl

pub indentation_spaces : (u : List Piece) → IsUnit u → list_all is_space (indentation_of (unit_line u)) ≡ true
unfolding is_mark
indentation_spaces [] is = absurd (let e = is.whole in cc)
indentation_spaces (p ∷ ps) is =
    let fit = is.reading.reads.fit in
    ⊎_elim
    (λ (e : p.class ≡ mark).
    let first = subst (λ (c : Class). InClass c p.text) e fit.0 in
    let one = first.2 in
    let text : p.text ≡ 0xFEFF ∷ [] = first.1 ∙ ap (λ (c : ℕ). c ∷ []) (grind (arith, nat_tests, one)) in
    subst (λ (q : Piece). list_all is_space (indentation_of (unit_line (q ∷ ps))) ≡ true) (λ i. record { class = sym e i; text = sym text i }) (spaces_of true ps fit.3 fit.2))
    (λ (e : is_mark_class p.class ≡ false). spaces_of false (p ∷ ps) fit e)
    (is_mark_or_not p.class)
