-- The rows of a text's lines, one line after another.
use Rattle.std.proofs.Common.{◌≡◌, ℕ, ◌+◌, ◌≤◌, Bool, true, false, cond, nat_lt, Option, None, Some, MatchOption, is_some, List, [], ◌∷◌, ◌++◌, length, map, drop, refl, sym, ap, ◌∙◌, subst, append_assoc, append-nil, arith}
use Rattle.std.proofs.lemmas.List.{length-drop}
use Rattle.std.specs.Prelude.{option_map}
use Rattle.std.specs.Str.{IsUtf8}
use Rattle.py_lines.specs.LogicalLine.{LogicalLine}
use Rattle.py_imports.specs.BindingValue.{BindingValue}
use Rattle.py_imports.specs.Binds.{Binds}
use Rattle.isort_sort.specs.Private.Arranged.{AreUtf8}
use Rattle.isort_sort.specs.Private.Found.{Finding, IsFinding, after_blank, after_comments, after_member, after_other, begun_with, closed_found, goes_on_at, with_member}
use Rattle.isort_sort.specs.Line.{comment_texts, own_comments, imported_of}
use Rattle.isort_sort.specs.Private.LineRole.{IsOfRole}
use Rattle.isort_sort.specs.Member.{Member}
use Rattle.isort_sort.specs.Private.Reading.{stop_of, IsRowOf, FindsLine}
use Rattle.isort_sort.specs.Row.{Before, one, Role, member, comments, blank, other, HasRole, is_off_after, mark_after, indentation_of, Row, IsRow, AreRows}
use Rattle.isort_sort.specs.declared.row.Role.TheVariants as role
use Rattle.isort_sort.proofs.Finding.Rows.{found_blank, found_comments, found_member, found_other}

-- one more row
pub rows_push : (before lines : List LogicalLine) (rows : List Row) (line : LogicalLine) (row : Row) → AreRows before lines rows → IsRow (before ++ lines) line row → AreRows before (lines ++ line ∷ []) (rows ++ row ∷ [])
rows_push before [] rows line row are is = (row, [], ap (λ rs. rs ++ row ∷ []) are, subst (λ (ls : List LogicalLine). IsRow ls line row) (append-nil before) is, refl)
rows_push before (l ∷ ls) rows line row are is = (
  are.0,
  are.1 ++ row ∷ [],
  ap (λ rs. rs ++ row ∷ []) are.2,
  are.3,
  rows_push (before ++ l ∷ []) ls are.1 line row are.4 (subst (λ (x : List LogicalLine). IsRow x line row) (sym (append_assoc before (l ∷ []) ls)) is),
)

pub utf8_push : (rows : List Row) (row : Row) → AreUtf8 rows → IsUtf8 row.text → AreUtf8 (rows ++ row ∷ [])
utf8_push [] row are is = (is, tt)
utf8_push (r ∷ rs) row are is = (are.0, utf8_push rs row are.1 is)

-- the row of a line after others
pub row_after : (lines : List LogicalLine) (line : LogicalLine) (off : Bool) (mark : ℕ) (row : Row) → off ≡ is_off_after lines → mark ≡ mark_after lines line → IsRowOf off mark line row → IsRow lines line row
row_after lines line off mark row o m is = record {
  role = subst (λ (b : Bool). HasRole b line row.role) o is.role;
  text = is.text ∙ ap (λ n. drop n line.text) m;
  indentation = is.indentation;
  ended = is.ended;
}

-- the row of a line that has this role
abbrev row_of : ℕ → LogicalLine → Role → Row
row_of mark line r = record { text = drop mark line.text; indentation = indentation_of line; ended = nat_lt 0 line.end_len; role = r }

is_row : (off : Bool) (mark : ℕ) (line : LogicalLine) (r : Role) → IsUtf8 line.text → HasRole off line r → IsRowOf off mark line (row_of mark line r)
is_row off mark line r utf8 has = record { role = has; text = refl; indentation = refl; ended = refl; utf8 = utf8 }

-- a line's row ends where the line does
stop_is : (mark : ℕ) (line : LogicalLine) (place stop : ℕ) → stop ≡ stop_of line → place ≡ line.offset + mark → mark ≤ length line.text → stop ≡ place + length (drop mark line.text)
stop_is mark line place stop s at within = omega (arith, s, at, within, length-drop mark line.text)

-- a member takes the finder to its end
place_after : (stop : ℕ) (ended : Bool) (indentation : List ℕ) (m : Member) (f : Finding) → (after_member stop ended indentation m f).place ≡ stop
place_after stop ended indentation m f = either (goes_on_at indentation f.opened) further begun refl refl
  where
    further : Finding
    further = record { found = f.found; opened = option_map (with_member stop ended m) f.opened; place = stop }

    begun : Finding
    begun = record { found = closed_found (Some one) f; opened = Some (begun_with f.place stop ended indentation m); place = stop }

    either : (b : Bool) (x y : Finding) → x.place ≡ stop → y.place ≡ stop → (cond b x y).place ≡ stop
    either true x y p q = p
    either false x y p q = q

-- what each kind of line makes of the blocks found
module _ (off : Bool) (line : LogicalLine) (utf8 : IsUtf8 line.text) (f new : Finding) (stop : ℕ) (s : stop ≡ stop_of line) where
  pub finds_blank : (ended : Bool) → new ≡ after_blank stop ended f → IsOfRole off line role.Blank → ended ≡ nat_lt 0 line.end_len → FindsLine off line f new
  finds_blank ended value is e = subst (FindsLine off line f) (sym value) (record {
    place = s;
    finds = λ mark start rows at within h.
        let found : Row = row_of mark line blank in
        (found, is_row off mark line blank utf8 is, subst (λ (b : Bool). IsFinding start (rows ++ found ∷ []) (after_blank stop b f)) (sym e) (found_blank start rows f found stop h refl (stop_is mark line f.place stop s at within)));
  })

  pub finds_comments : (passed : List (List ℕ)) → new ≡ after_comments stop passed f → IsOfRole off line role.Comments → MatchOption f.opened (Unit {0}) (λ o. passed ≡ comment_texts line) → FindsLine off line f new
  finds_comments passed value is same = subst (FindsLine off line f) (sym value) (record {
    place = s;
    finds = λ mark start rows at within h.
        let found : Row = row_of mark line (comments (comment_texts line)) in
        (found, is_row off mark line (comments (comment_texts line)) utf8 (is.0, is.1, refl), found_comments start rows f found stop (comment_texts line) passed h refl same (stop_is mark line f.place stop s at within));
  })

  pub finds_member : (ended : Bool) (indentation : List ℕ) (m : Member) (values : List BindingValue) → new ≡ after_member stop ended indentation m f → IsOfRole off line role.Member → Binds line values → m ≡ record { imports = map imported_of values; comments = own_comments line; above = [] } → indentation ≡ indentation_of line → ended ≡ nat_lt 0 line.end_len → FindsLine off line f new
  finds_member ended indentation m values same is binds value here e = subst (FindsLine off line f) (sym same) (record {
    place = place_after stop ended indentation m f ∙ s;
    finds = λ mark start rows at within h.
        let found : Row = row_of mark line (member (map imported_of values) (own_comments line)) in (
          found,
          is_row off mark line (member (map imported_of values) (own_comments line)) utf8 (is.0, (is.1, (values, binds, refl)), refl),
          subst (λ (b : Bool). IsFinding start (rows ++ found ∷ []) (after_member stop b indentation m f)) (sym e) (subst (λ (i : List ℕ). IsFinding start (rows ++ found ∷ []) (after_member stop (nat_lt 0 line.end_len) i m f)) (sym here) (found_member start rows f found stop m h refl value (stop_is mark line f.place stop s at within))),
        );
  })

  pub finds_other : (b : Before) → new ≡ after_other stop b f → HasRole off line (other b) → FindsLine off line f new
  finds_other b value is = subst (FindsLine off line f) (sym value) (record {
    place = s;
    finds = λ mark start rows at within h.
        let found : Row = row_of mark line (other b) in
        (found, is_row off mark line (other b) utf8 is, found_other start rows f found stop b h refl (stop_is mark line f.place stop s at within));
  })

-- what is asked for where a block may go on
pub any_match : {A : Type 0} {P : Type 0} (x : Option A) → P → MatchOption x (Unit {0}) (λ o. P)
any_match None is = tt
any_match (Some o) is = is

pub none_match : {A : Type 0} (P : Type 0) (x : Option A) → is_some x ≡ false → MatchOption x (Unit {0}) (λ o. P)
none_match P None none = tt
none_match P (Some o) none = absurd (cc)
