-- The lines of an accepted text have rows.
use Rattle.std.proofs.Common.{◌≡◌, ℕ, ◌+◌, suc, Bool, true, false, cond, not, List, [], ◌∷◌, ◌++◌, ◌⊎◌, ⊎_elim, inl, inr, map, take, drop, refl, sym, ap, ◌∙◌, subst, arith}
use Rattle.std.specs.Prelude.{take_while, nat_lt}
use Rattle.std.specs.List.{list_any, list_all, prefix_len}
use Rattle.std.proofs.lemmas.Bool.{or_parts, both_ways}
use Rattle.py_lines.specs.LogicalLine.{LogicalLine}
use Rattle.py_lines.specs.declared.token.Token.{Token}
use Rattle.py_lines.specs.declared.unit.UnitKind.{UnitKind}
use Rattle.py_lines.specs.declared.unit.UnitKind.TheVariants as unit_kind
use Rattle.py_imports.specs.Binds.{Binds, BindEach, BindsAt, nothing, imports, BindAll, terminals_at, terminal_in}
use Rattle.py_imports.specs.BindingValue.{BindingValue}
use Rattle.py_imports.specs.Grammar.{Terminal, begins_import, Imported, IsImport}
use Rattle.py_imports.specs.Shape.{terminals_of, stands_first, stands_well, says_skip, begins_so, IsSortable, HasShape}
use Rattle.py_imports.specs.Statement.{significant, TokenPlace, places_from, starts, is_end, statement_at}
use Rattle.py_imports.specs.declared.line_shape.Shape.{Shape}
use Rattle.py_imports.specs.declared.line_shape.Shape.TheVariants as shape
use Rattle.isort_sort.specs.Line.{own_comments, comment_texts, imported_of}
use Rattle.isort_sort.specs.Row.{is_comment_kind, parts_blocks, is_off_after, before_line, Role, member, comments, blank, other, HasRole, mark_after, indentation_of, Row, AreRows}
use Rattle.isort_sort.proofs.Rows.Roles.{import_begins}

-- a fact that holds or doesn't
abbrev pub Decided : Type 0 → Type 0
Decided P = P ⊎ (¬ P)

is_it : (b c : Bool) → Decided (b ≡ c)
is_it true true = inl refl
is_it false false = inl refl
is_it true false = inr (λ (e : true ≡ false). both_ways true e refl)
is_it false true = inr (λ (e : false ≡ true). both_ways true (sym e) refl)

is_code : (k : UnitKind) → Decided (k ≡ unit_kind.Code)
is_code unit_kind.Code = inl refl
is_code unit_kind.Comment = inr (λ e. cc)
is_code unit_kind.Blank = inr (λ e. cc)

-- a statement that no `;` ends is all of the line
pub tokens_again : (b ts : List Token) → map (λ p. p.token) (places_from b ts) ≡ ts
tokens_again b [] = refl
tokens_again b (t ∷ ts) = ap (λ l. t ∷ l) (tokens_again (b ++ t ∷ []) ts)

pub all_taken : (ps : List TokenPlace) → list_any is_end ps ≡ false → take_while (λ q. not (is_end q)) ps ≡ ps
all_taken [] h = refl
all_taken (p ∷ ps) h =
    let parts = or_parts (is_end p) (list_any is_end ps) h in
    let e : 1 + prefix_len (λ q. not (is_end q)) ps ≡ suc (prefix_len (λ q. not (is_end q)) ps) = omega arith in
    ap (λ (b : Bool). take (cond (not b) (1 + prefix_len (λ q. not (is_end q)) ps) 0) (p ∷ ps)) parts.0 ∙ ap (λ (n : ℕ). take n (p ∷ ps)) e ∙ ap (λ l. p ∷ l) (all_taken ps parts.1)

-- what the statement imports that a line begins with and that no `;` ends, or that it is none
first_statement : (line : LogicalLine) (p : TokenPlace) (values : List BindingValue) → terminals_of line ≡ terminals_at line p → BindsAt line p values → Decided ((is : List Imported) × IsImport (terminals_of line) is)
first_statement line p values same (nothing l q bs none e) = inr (λ (h : (is : List Imported) × IsImport (terminals_of line) is). both_ways _ (ap begins_import same ∙ none) (import_begins (terminals_of line) h.0 h.1))
first_statement line p values same (imports l q bs is begins import e) = inl (is, subst (λ (ts : List Terminal). IsImport ts is) (sym same) import)

imported : (line : LogicalLine) (tokens : List Token) (values : List BindingValue) → significant line.tokens ≡ tokens → list_any is_end (places_from [] tokens) ≡ false → Binds line values → Decided ((is : List Imported) × IsImport (terminals_of line) is)
imported line [] values e alone binds = inr (λ (h : (is : List Imported) × IsImport (terminals_of line) is). both_ways _ (ap (λ ts. begins_import (map (terminal_in line.text) ts)) e) (import_begins (terminals_of line) h.0 h.1))
imported line (t ∷ ts) values e alone binds =
    let p : TokenPlace = record { before = []; token = t; after = ts } in
    let b : BindEach line (starts (t ∷ ts)) values = subst (λ (tokens : List Token). BindEach line (starts tokens) values) e binds in
    let whole : statement_at p ≡ t ∷ ts = ap (map (λ q. q.token)) (all_taken (places_from [] (t ∷ ts)) alone) ∙ tokens_again [] (t ∷ ts) in
    first_statement line p b.0 (ap (map (terminal_in line.text)) (e ∙ sym whole)) b.3

sortable : (line : LogicalLine) (values : List BindingValue) → Binds line values → Decided (IsSortable line)
sortable line values binds =
    by (is_code line.kind) (is_it (stands_first line) true) (is_it (list_any is_end (places_from [] (significant line.tokens))) false) (is_it (list_all stands_well (places_from [] line.tokens)) true) (is_it (list_any (says_skip line.text) line.tokens) false)
  where
    by : Decided (line.kind ≡ unit_kind.Code) → Decided (stands_first line ≡ true) → Decided (list_any is_end (places_from [] (significant line.tokens)) ≡ false) → Decided (list_all stands_well (places_from [] line.tokens) ≡ true) → Decided (list_any (says_skip line.text) line.tokens ≡ false) → Decided (IsSortable line)
    by (inl code) (inl first) (inl alone) (inl well) (inl unskipped) =
        ⊎_elim (λ (h : (is : List Imported) × IsImport (terminals_of line) is). inl (record { code = code; first = first; alone = alone; imported = h.0; is = h.1; comments = well; unskipped = unskipped }))
        (λ (n : ¬ ((is : List Imported) × IsImport (terminals_of line) is)). inr (λ (s : IsSortable line). n (s.imported, s.is))) (imported line (significant line.tokens) values refl alone binds)
    by (inr n) b c d e = inr (λ (s : IsSortable line). n s.code)
    by a (inr n) c d e = inr (λ (s : IsSortable line). n s.first)
    by a b (inr n) d e = inr (λ (s : IsSortable line). n s.alone)
    by a b c (inr n) e = inr (λ (s : IsSortable line). n s.comments)
    by a b c d (inr n) = inr (λ (s : IsSortable line). n s.unskipped)

-- a line has a shape
some_shape : (line : LogicalLine) → Decided (IsSortable line) → (s : Shape) × HasShape line s
some_shape line (inl s) = (shape.Sortable, s)
some_shape line (inr n) = by (begins_so line) refl
  where
    by : (b : Bool) → begins_so line ≡ b → (s : Shape) × HasShape line s
    by true e = (shape.Pinned, (e, n))
    by false e = (shape.Other, e)

-- a line has a role
some_role : (off : Bool) (line : LogicalLine) (values : List BindingValue) → Binds line values → (role : Role) × HasRole off line role
some_role off line values binds = by line.kind refl (sortable line values binds)
  where
    other_role : Decided (IsSortable line) → (line.kind ≡ unit_kind.Code) × ((off ≡ true) ⊎ ¬ (IsSortable line)) ⊎ (parts_blocks line ≡ true) → (role : Role) × HasRole off line role
    other_role sorts why = let s = some_shape line sorts in (other (before_line line s.0), (s.0, s.1, refl, why))

    code : line.kind ≡ unit_kind.Code → Decided (IsSortable line) → (b : Bool) → off ≡ b → (role : Role) × HasRole off line role
    code e (inl s) false on = (member (map imported_of values) (own_comments line), (on, (s, (values, binds, refl)), refl))
    code e (inl s) true on = other_role (inl s) (inl (e, inl on))
    code e (inr n) b on = other_role (inr n) (inl (e, inr n))

    remark : line.kind ≡ unit_kind.Comment → Decided (IsSortable line) → (b : Bool) → parts_blocks line ≡ b → (role : Role) × HasRole off line role
    remark e sorts true parts = other_role sorts (inr parts)
    remark e sorts false parts = (comments (comment_texts line), (ap is_comment_kind e, parts, refl))

    by : (k : UnitKind) → line.kind ≡ k → Decided (IsSortable line) → (role : Role) × HasRole off line role
    by unit_kind.Code e sorts = code e sorts off refl
    by unit_kind.Comment e sorts = remark e sorts (parts_blocks line) refl
    by unit_kind.Blank e sorts = (blank, e)

pub some_rows : (before lines : List LogicalLine) (values : List BindingValue) → BindAll lines values → (rows : List Row) × AreRows before lines rows
some_rows before [] values good = ([], refl)
some_rows before (line ∷ lines) values good =
    let role = some_role (is_off_after before) line good.0 good.3 in
    let row : Row = record { text = drop (mark_after before line) line.text; indentation = indentation_of line; ended = nat_lt 0 line.end_len; role = role.0 } in
    let others = some_rows (before ++ line ∷ []) lines good.1 good.4 in
    (row ∷ others.0, (row, others.0, refl, record { role = role.1; text = refl; indentation = refl; ended = refl }, others.1))
