-- The lines of a text have one list of rows.
use Rattle.std.proofs.Common.{◌≡◌, Bool, true, false, ◌||◌, ◌&&◌, List, [], ◌∷◌, ◌++◌, ◌⊎◌, ⊎_elim, map, refl, sym, ap, ◌∙◌}
use Rattle.std.specs.List.{list_any}
use Rattle.std.proofs.lemmas.Bool.{both_ways}
use Rattle.py_lines.specs.LogicalLine.{LogicalLine}
use Rattle.py_lines.specs.declared.unit.UnitKind.TheVariants as unit_kind
use Rattle.py_imports.specs.ActionComment.{says}
use Rattle.py_imports.specs.Binds.{Binds}
use Rattle.py_imports.specs.BindingValue.{BindingValue}
use Rattle.py_imports.specs.Grammar.{Imported}
use Rattle.py_imports.specs.Shape.{IsSortable, HasShape}
use Rattle.py_imports.specs.declared.action_comment.ActionComment.TheVariants as action
use Rattle.py_imports.specs.declared.line_shape.Shape.{Shape}
use Rattle.py_imports.specs.declared.line_shape.Shape.TheVariants as shape
use Rattle.isort_sort.specs.Line.{comment_texts, imported_of}
use Rattle.isort_sort.specs.Row.{is_comment_kind, parts_blocks, is_off_after, before_line, Role, member, comments, blank, other, Imports, HasRole, Row, IsRow, AreRows}

-- a logical line binds one list
abbrev pub BindsOneList : Type 0
BindsOneList = (line : LogicalLine) (values others : List BindingValue) → Binds line values → Binds line others → values ≡ others

-- a line has one shape, as far as the blank lines before it go
same_before : (line : LogicalLine) (s t : Shape) → HasShape line s → HasShape line t → before_line line s ≡ before_line line t
same_before line shape.Sortable shape.Sortable a b = refl
same_before line shape.Sortable shape.Pinned a b = absurd (b.1 a)
same_before line shape.Sortable shape.Other a b = refl
same_before line shape.Pinned shape.Sortable a b = absurd (a.1 b)
same_before line shape.Pinned shape.Pinned a b = refl
same_before line shape.Pinned shape.Other a b = absurd (both_ways _ b a.0)
same_before line shape.Other shape.Sortable a b = refl
same_before line shape.Other shape.Pinned a b = absurd (both_ways _ a b.0)
same_before line shape.Other shape.Other a b = refl

-- a line that parts blocks has comments alone
parts_alone : (k : Bool) (a b c : Bool) → (k && a) || (k && b) || (k && c) ≡ true → k ≡ true
parts_alone true a b c h = refl
parts_alone false a b c h = h

parts_comment : (line : LogicalLine) → parts_blocks line ≡ true → is_comment_kind line.kind ≡ true
parts_comment line h = parts_alone (is_comment_kind line.kind) (list_any (says action.Off) (comment_texts line)) (list_any (says action.On) (comment_texts line)) (list_any (says action.Split) (comment_texts line)) h

-- a line of code has no comments alone
code_alone : (line : LogicalLine) → line.kind ≡ unit_kind.Code → is_comment_kind line.kind ≡ true → ⊥
code_alone line e h = both_ways _ (ap is_comment_kind e) h

blank_alone : (line : LogicalLine) → line.kind ≡ unit_kind.Blank → is_comment_kind line.kind ≡ true → ⊥
blank_alone line e h = both_ways _ (ap is_comment_kind e) h

blank_code : (line : LogicalLine) → line.kind ≡ unit_kind.Blank → line.kind ≡ unit_kind.Code → ⊥
blank_code line e h = let same : unit_kind.Blank ≡ unit_kind.Code = sym e ∙ h in cc

-- why a line is neither a member nor between members
abbrev Why : Bool → LogicalLine → Type 0
Why off line = (line.kind ≡ unit_kind.Code) × ((off ≡ true) ⊎ ¬ (IsSortable line)) ⊎ (parts_blocks line ≡ true)

no_member : (off : Bool) (line : LogicalLine) → off ≡ false → IsSortable line → Why off line → ⊥
no_member off line on s why =
    ⊎_elim
    (λ (h : (line.kind ≡ unit_kind.Code) × ((off ≡ true) ⊎ ¬ (IsSortable line))). ⊎_elim (λ (e : off ≡ true). both_ways _ on e) (λ (n : ¬ (IsSortable line)). n s) h.1)
    (λ (parts : parts_blocks line ≡ true). code_alone line s.code (parts_comment line parts)) why

no_comments : (off : Bool) (line : LogicalLine) → is_comment_kind line.kind ≡ true → parts_blocks line ≡ false → Why off line → ⊥
no_comments off line alone parts why =
    ⊎_elim
    (λ (h : (line.kind ≡ unit_kind.Code) × ((off ≡ true) ⊎ ¬ (IsSortable line))). code_alone line h.0 alone)
    (λ (k : parts_blocks line ≡ true). both_ways _ parts k) why

no_blank : (off : Bool) (line : LogicalLine) → line.kind ≡ unit_kind.Blank → Why off line → ⊥
no_blank off line e why =
    ⊎_elim
    (λ (h : (line.kind ≡ unit_kind.Code) × ((off ≡ true) ⊎ ¬ (IsSortable line))). blank_code line e h.0)
    (λ (parts : parts_blocks line ≡ true). blank_alone line e (parts_comment line parts)) why

same_imports : BindsOneList → (line : LogicalLine) (is js : List Imported) → Imports line is → Imports line js → is ≡ js
same_imports one line is js a b = a.1.2 ∙ ap (map imported_of) (one line a.1.0 b.1.0 a.1.1 b.1.1) ∙ sym b.1.2

-- a line has one role
one_role : BindsOneList → (off : Bool) (line : LogicalLine) (r s : Role) → HasRole off line r → HasRole off line s → r ≡ s
one_role one off line (member is cs) (member js ds) a b = λ i. member (same_imports one line is js a.1 b.1 i) ((a.2 ∙ sym b.2) i)
one_role one off line (member is cs) (comments ds) a b = absurd (code_alone line a.1.0.code b.0)
one_role one off line (member is cs) blank a b = absurd (blank_code line b a.1.0.code)
one_role one off line (member is cs) (other d) a b = absurd (no_member off line a.0 a.1.0 b.3)
one_role one off line (comments cs) (member js ds) a b = absurd (code_alone line b.1.0.code a.0)
one_role one off line (comments cs) (comments ds) a b = ap comments (a.2 ∙ sym b.2)
one_role one off line (comments cs) blank a b = absurd (blank_alone line b a.0)
one_role one off line (comments cs) (other d) a b = absurd (no_comments off line a.0 a.1 b.3)
one_role one off line blank (member js ds) a b = absurd (blank_code line a b.1.0.code)
one_role one off line blank (comments ds) a b = absurd (blank_alone line a b.0)
one_role one off line blank blank a b = refl
one_role one off line blank (other d) a b = absurd (no_blank off line a b.3)
one_role one off line (other c) (member js ds) a b = absurd (no_member off line b.0 b.1.0 a.3)
one_role one off line (other c) (comments ds) a b = absurd (no_comments off line b.0 b.1 a.3)
one_role one off line (other c) blank a b = absurd (no_blank off line b a.3)
one_role one off line (other c) (other d) a b = ap other (a.2 ∙ same_before line a.0 b.0 a.1 b.1 ∙ sym b.2)

same_row : BindsOneList → (before : List LogicalLine) (line : LogicalLine) (r s : Row) → IsRow before line r → IsRow before line s → r ≡ s
same_row one before line r s a b =
    let text : r.text ≡ s.text = a.text ∙ sym b.text in
    let indentation : r.indentation ≡ s.indentation = a.indentation ∙ sym b.indentation in
    let ended : r.ended ≡ s.ended = a.ended ∙ sym b.ended in
    let role : r.role ≡ s.role = one_role one (is_off_after before) line r.role s.role a.role b.role in
    λ i. record { text = text i; indentation = indentation i; ended = ended i; role = role i }

pub one_rows : BindsOneList → (before lines : List LogicalLine) (rows others : List Row) → AreRows before lines rows → AreRows before lines others → rows ≡ others
one_rows one before [] rows others a b = a ∙ sym b
one_rows one before (line ∷ lines) rows others a b =
    a.2 ∙ (λ i. same_row one before line a.0 b.0 a.3 b.3 i ∷ one_rows one (before ++ line ∷ []) lines a.1 b.1 a.4 b.4 i) ∙ sym b.2
