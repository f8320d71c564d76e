-- What is found in a text is one list, and then its end, or one fault.
use Rattle.std.proofs.Common.{◌≡◌, ℕ, Option, Some, List, [], ◌∷◌, ◌++◌, sym, ap, ◌∙◌, subst}
use Rattle.py_lines.specs.LogicalLine.{LogicalLine}
use Rattle.py_lines.specs.declared.fault.Fault.{Fault}
use Rattle.py_imports.specs.BindingValue.{BindingValue}
use Rattle.py_imports.specs.Binds.{Binds, BindAll, IsBadAt}
use Rattle.isort_find.specs.Found.{firsts, counted_lines, counted_end, AreFound, of_all, before_bad, IsFound}
use Rattle.isort_find.specs.declared.options.ImportKey.{ImportKey}
use Rattle.isort_find.specs.declared.options.FindOptions.{FindOptions}
use Rattle.isort_find.specs.Private.KnownLaws.{EndLaws, BasicLaws}

-- logical lines bind one list
bind_all_one : BasicLaws → (lines : List LogicalLine) (bs others : List BindingValue) → BindAll lines bs → BindAll lines others → bs ≡ others
bind_all_one laws [] bs others h k = h ∙ sym k
bind_all_one laws (line ∷ lines) bs others h k =
    let first = laws.one_list line h.0 k.0 h.3 k.3 in
    let rest = bind_all_one laws lines h.1 k.1 h.4 k.4 in
    h.2 ∙ (λ i. first i ++ rest i) ∙ sym k.2

-- lines that all bind have no bad one among them
pub none_bad : BasicLaws → (before : List LogicalLine) (line : LogicalLine) (after : List LogicalLine) (bs : List BindingValue) (fault : Fault) → BindAll (before ++ line ∷ after) bs → IsBadAt line fault → ⊥
none_bad laws [] line after bs fault h bad = laws.not_both line h.0 fault h.3 bad
none_bad laws (l ∷ before) line after bs fault h bad = none_bad laws before line after h.1 fault h.4 bad

-- two answers for one text: the lists and the ends
abbrev pub AreOne : List BindingValue → List BindingValue → Option Fault → Option Fault → Type 0
AreOne values others end second = (values ≡ others) × (end ≡ second)

-- in one list of lines the first bad line comes in one place
one_before : EndLaws → (before other : List LogicalLine) (line second : LogicalLine) (after rest : List LogicalLine) (bs others : List BindingValue) (fault last : Fault) → before ++ line ∷ after ≡ other ++ second ∷ rest → BindAll before bs → BindAll other others → IsBadAt line fault → IsBadAt second last → (bs ≡ others) × (fault ≡ last)
one_before ends [] [] line second after rest bs others fault last e h k bad worse =
    let same : line ≡ second = let f : line ∷ after ≡ second ∷ rest = e in cc in
    (h ∙ sym k, ends.one_fault second fault last (subst (λ (x : LogicalLine). IsBadAt x fault) same bad) worse)
one_before ends [] (l ∷ other) line second after rest bs others fault last e h k bad worse =
    let same : line ≡ l = let f : line ∷ after ≡ l ∷ other ++ second ∷ rest = e in cc in
    absurd (ends.laws.not_both l k.0 fault k.3 (subst (λ (x : LogicalLine). IsBadAt x fault) same bad))
one_before ends (l ∷ before) [] line second after rest bs others fault last e h k bad worse =
    let same : l ≡ second = let f : l ∷ before ++ line ∷ after ≡ second ∷ rest = e in cc in
    absurd (ends.laws.not_both second h.0 last (subst (λ (x : LogicalLine). Binds x h.0) same h.3) worse)
one_before ends (l ∷ before) (m ∷ other) line second after rest bs others fault last e h k bad worse =
    let f : l ∷ before ++ line ∷ after ≡ m ∷ other ++ second ∷ rest = e in
    let same : l ≡ m = cc in
    let more : before ++ line ∷ after ≡ other ++ second ∷ rest = cc in
    let first = ends.laws.one_list m h.0 k.0 (subst (λ (x : LogicalLine). Binds x h.0) same h.3) k.3 in
    let others_same = one_before ends before other line second after rest h.1 k.1 fault last more h.4 k.4 bad worse in
    (h.2 ∙ (λ i. first i ++ others_same.0 i) ∙ sym k.2, others_same.1)

one_of_all : EndLaws → (unique : Option ImportKey) (lines : List LogicalLine) (last : Option Fault) (all values others : List BindingValue) (end second : Option Fault) → BindAll lines all → values ≡ firsts unique [] all → end ≡ last → AreFound unique lines last others second → AreOne values others end second
one_of_all ends unique lines last all values others end second h e is (of_all _ _ _ _ _ more k f also) = (e ∙ ap (firsts unique []) (bind_all_one ends.laws lines all more h k) ∙ sym f, is ∙ sym also)
one_of_all ends unique lines last all values others end second h e is (before_bad _ _ _ _ _ before line after more fault split k bad f _) = absurd (none_bad ends.laws before line after all fault (subst (λ (ls : List LogicalLine). BindAll ls all) split h) bad)

one_of_bad : EndLaws → (unique : Option ImportKey) (lines : List LogicalLine) (last : Option Fault) (before : List LogicalLine) (line : LogicalLine) (after : List LogicalLine) (all values others : List BindingValue) (fault : Fault) (end second : Option Fault) → lines ≡ before ++ line ∷ after → BindAll before all → IsBadAt line fault → values ≡ firsts unique [] all → end ≡ Some fault → AreFound unique lines last others second → AreOne values others end second
one_of_bad ends unique lines last before line after all values others fault end second split h bad e is (of_all _ _ _ _ _ more k f _) = absurd (none_bad ends.laws before line after more fault (subst (λ (ls : List LogicalLine). BindAll ls more) split k) bad)
one_of_bad ends unique lines last before line after all values others fault end second split h bad e is (before_bad _ _ _ _ _ other bad_one rest more worst again k worse f also) =
    let one = one_before ends before other line bad_one after rest all more fault worst (sym split ∙ again) h k bad worse in
    (e ∙ ap (firsts unique []) one.0 ∙ sym f, is ∙ ap Some one.1 ∙ sym also)

pub one_of : EndLaws → (unique : Option ImportKey) (lines : List LogicalLine) (last : Option Fault) (values others : List BindingValue) (end second : Option Fault) → AreFound unique lines last values end → AreFound unique lines last others second → AreOne values others end second
one_of ends unique lines last values others end second (of_all _ _ _ _ _ all h e is) k = one_of_all ends unique lines last all values others end second h e is k
one_of ends unique lines last values others end second (before_bad _ _ _ _ _ before line after all fault split h bad e is) k = one_of_bad ends unique lines last before line after all values others fault end second split h bad e is k

found_so : EndLaws → (text : List ℕ) (options : FindOptions) (values others : List BindingValue) (end other : Option Fault) → IsFound text options values end → IsFound text options others other → AreOne values others end other
found_so ends text options values others end other f g =
    let lines = ends.laws.one_lexing text g.lines f.lines g.lexical f.lexical g.lexed f.lexed in
    let lexical = ends.one_end text g.lines f.lines g.lexical f.lexical g.lexed f.lexed in
    let found = subst (λ (l : Option Fault). AreFound options.unique (counted_lines options f.lines) (counted_end options f.lines l) others other) lexical (subst (λ (ls : List LogicalLine). AreFound options.unique (counted_lines options ls) (counted_end options ls g.lexical) others other) lines g.found) in
    one_of ends options.unique (counted_lines options f.lines) (counted_end options f.lines f.lexical) values others end other f.found found

-- two lists that are found in one text with the same options are equal
pub one_list_found : EndLaws → (text : List ℕ) (options : FindOptions) (values others : List BindingValue) (end other : Option Fault) → IsFound text options values end → IsFound text options others other → values ≡ others
one_list_found ends text options values others end other f g = (found_so ends text options values others end other f g).0

-- and so are the ends after them
pub one_end_found : EndLaws → (text : List ℕ) (options : FindOptions) (values others : List BindingValue) (end other : Option Fault) → IsFound text options values end → IsFound text options others other → end ≡ other
one_end_found ends text options values others end other f g = (found_so ends text options values others end other f g).1
