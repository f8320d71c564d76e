-- A logical line is the same to sorting wherever it stands.
use Rattle.std.proofs.Common.{◌≡◌, ℕ, ◌+◌, ◌==◌, Bool, true, not, ◌&&◌, ◌||◌, ◌⊎◌, inl, inr, ⊎_elim, List, [], ◌∷◌, map, refl, sym, ap, ◌∙◌, subst}
use Rattle.std.specs.Prelude.{filter, nat_eq, slice_get, slice_range, if◌then◌else◌}
use Rattle.std.specs.List.{list_any, list_all, starts_with}
use Rattle.std.proofs.lemmas.List.Folds.{list_all-map}
use Rattle.std.proofs.lemmas.Simd.{map-map}
use Rattle.py_lines.specs.LogicalLine.{LogicalLine}
use Rattle.py_lines.specs.declared.token.Token.{Token}
use Rattle.py_lines.specs.declared.unit.UnitKind.TheVariants as unit_kind
use Rattle.py_imports.specs.ActionComment.{says}
use Rattle.py_imports.specs.Binds.{terminal_in}
use Rattle.py_imports.specs.Declaration.{is_code, is_declaration, begins_declaration}
use Rattle.py_imports.specs.Grammar.{Terminal, Imported, IsImport, begins_import}
use Rattle.py_imports.specs.Shape.{terminals_of, mark_len, begins_so, begins_at, ends_with_opening, is_nothing, stands_well, says_skip, IsSortable, HasShape}
use Rattle.py_imports.specs.Statement.{is_comment, significant, places_from, is_end}
use Rattle.py_imports.specs.declared.action_comment.ActionComment.{ActionComment}
use Rattle.py_imports.specs.declared.action_comment.ActionComment.TheVariants as action
use Rattle.py_imports.specs.declared.line_shape.Shape.{Shape}
use Rattle.py_imports.specs.declared.line_shape.Shape.TheVariants as shape
use Rattle.isort_sort.specs.Line.{comment_texts, own_comments, without_hash, stripped, is_text}
use Rattle.isort_sort.specs.LaidAgain.{IsMoved}
use Rattle.isort_sort.specs.Row.{Role, member, comments, blank, other, two, as_many, is_comment_kind, says_alone, parts_blocks, before_shape, before_line, Imports, HasRole}
use Rattle.isort_sort.proofs.LineLaws.Each.{filter-map, any-map}
use Rattle.isort_sort.proofs.Rows.Moved.{still, still_place, still_alike, across, significant_still, significant_alike, end_still, places_still, terminals_still, moved}

-- tests of tokens
alone_still : (ts : List Token) → list_any is_end (places_from [] (map still ts)) ≡ list_any is_end (places_from [] ts)
alone_still ts =
    ap (list_any is_end) (places_still [] ts) ∙ any-map is_end still_place (places_from [] ts)
    ∙ (λ i. list_any (λ p. end_still p i) (places_from [] ts))

nothing_still : (ts : List Token) → is_nothing (map still ts) ≡ is_nothing ts
nothing_still [] = refl
nothing_still (t ∷ ts) = refl

opening_still : (ts : List Token) → ends_with_opening (map still ts) ≡ ends_with_opening ts
opening_still [] = refl
opening_still (t ∷ []) = refl
opening_still (t ∷ u ∷ ts) = opening_still (u ∷ ts)

well_still : (ts : List Token) → list_all stands_well (places_from [] (map still ts)) ≡ list_all stands_well (places_from [] ts)
well_still ts =
    ap (list_all stands_well) (places_still [] ts) ∙ list_all-map stands_well still_place (places_from [] ts)
    ∙ (λ i. list_all (λ p. not (is_comment p.token.kind) || nothing_still p.after i || opening_still p.before i) (places_from [] ts))

first_still : (n : ℕ) (ts : List Token) → begins_at n (slice_get (map still ts) 0) ≡ begins_at n (slice_get ts 0)
first_still n [] = refl
first_still n (t ∷ ts) = refl

texts_still : (text : List ℕ) (ts : List Token) → map (λ t. slice_range text t.start t.stop) (filter (λ t. is_comment t.kind) (map still ts)) ≡ map (λ t. slice_range text t.start t.stop) (filter (λ t. is_comment t.kind) ts)
texts_still text ts =
    let word : Token → List ℕ = λ t. slice_range text t.start t.stop in
    ap (map word) (filter-map (λ t. is_comment t.kind) still ts) ∙ map-map word still (filter (λ t. is_comment t.kind) ts)

declaration_still : (text : List ℕ) (ts : List Token) → begins_declaration text (map still ts) ≡ begins_declaration text ts
declaration_still text [] = refl
declaration_still text (t ∷ []) = refl
declaration_still text (t ∷ u ∷ ts) = refl

-- what is the same of a line that was moved
record SameLine (l m : LogicalLine) : Type 0 where
  kind : l.kind ≡ m.kind
  text : l.text ≡ m.text
  indent : l.indent ≡ m.indent
  tokens : map still l.tokens ≡ map still m.tokens

same_line : (l m : LogicalLine) → IsMoved l m → SameLine l m
same_line l m h = record { kind = h.kind; text = h.text; indent = h.indent; tokens = still_alike l.tokens m.tokens h.tokens }

back : (l m : LogicalLine) → SameLine l m → SameLine m l
back l m h = record { kind = sym h.kind; text = sym h.text; indent = sym h.indent; tokens = sym h.tokens }

-- what is read of a line by its text and its tokens
same_by : {X : Type 0} (f : List ℕ → List Token → X) → ((text : List ℕ) (ts : List Token) → f text (map still ts) ≡ f text ts) → (l m : LogicalLine) → SameLine l m → f l.text l.tokens ≡ f m.text m.tokens
same_by f same l m h = ap (λ t. f t l.tokens) h.text ∙ across (f m.text) (same m.text) l.tokens m.tokens h.tokens

same_comments : (l m : LogicalLine) → SameLine l m → comment_texts l ≡ comment_texts m
same_comments l m h = same_by (λ text ts. map (λ (t : Token). slice_range text t.start t.stop) (filter (λ t. is_comment t.kind) ts)) texts_still l m h

same_own : (l m : LogicalLine) → SameLine l m → own_comments l ≡ own_comments m
same_own l m h = ap (λ cs. filter is_text (map (λ t. stripped (without_hash t)) cs)) (same_comments l m h)

same_terminals : (l m : LogicalLine) → SameLine l m → terminals_of l ≡ terminals_of m
same_terminals l m h =
    same_by (λ text ts. map (terminal_in text) (significant ts)) (λ text ts. ap (map (terminal_in text)) (significant_still ts) ∙ terminals_still text (significant ts)) l m h

same_mark : (l m : LogicalLine) → SameLine l m → mark_len l ≡ mark_len m
same_mark l m h = ap (λ t. if starts_with nat_eq t (0xef ∷ 0xbb ∷ 0xbf ∷ []) then 3 else 0) h.text

sortable_moved : (l m : LogicalLine) → SameLine l m → IsSortable l → IsSortable m
sortable_moved l m h s =
    let first = significant_alike l.tokens m.tokens h.tokens in
    record {
      code = sym h.kind ∙ s.code;
      first = sym ((λ i. begins_at (same_mark l m h i + h.indent i) (slice_get (significant l.tokens) 0)) ∙ across (λ ts. begins_at (mark_len m + m.indent) (slice_get ts 0)) (first_still (mark_len m + m.indent)) (significant l.tokens) (significant m.tokens) first) ∙ s.first;
      alone = sym (across (λ ts. list_any is_end (places_from [] ts)) alone_still (significant l.tokens) (significant m.tokens) first) ∙ s.alone;
      imported = s.imported;
      is = subst (λ (ts : List Terminal). IsImport ts s.imported) (same_terminals l m h) s.is;
      comments = sym (across (λ ts. list_all stands_well (places_from [] ts)) well_still l.tokens m.tokens h.tokens) ∙ s.comments;
      unskipped = sym (same_by (λ text ts. list_any (says_skip text) ts) (λ text ts. any-map (says_skip text) still ts) l m h) ∙ s.unskipped;
    }

same_begins : (l m : LogicalLine) → SameLine l m → begins_so l ≡ begins_so m
same_begins l m h = λ i. is_code (h.kind i) && begins_import (same_terminals l m h i)

shape_moved : (l m : LogicalLine) (s : Shape) → SameLine l m → HasShape l s → HasShape m s
shape_moved l m shape.Sortable h k = sortable_moved l m h k
shape_moved l m shape.Pinned h k = (sym (same_begins l m h) ∙ k.0, λ s. k.1 (sortable_moved m l (back l m h) s))
shape_moved l m shape.Other h k = sym (same_begins l m h) ∙ k

same_alone : (a : ActionComment) (l m : LogicalLine) → SameLine l m → says_alone a l ≡ says_alone a m
same_alone a l m h = λ i. is_comment_kind (h.kind i) && list_any (says a) (same_comments l m h i)

same_parts : (l m : LogicalLine) → SameLine l m → parts_blocks l ≡ parts_blocks m
same_parts l m h = λ i. same_alone action.Off l m h i || same_alone action.On l m h i || same_alone action.Split l m h i

same_declaration : (l m : LogicalLine) → SameLine l m → is_declaration l ≡ is_declaration m
same_declaration l m h = λ i. is_code (h.kind i) && (h.indent i == 0) && same_by begins_declaration declaration_still l m h i

same_before : (l m : LogicalLine) (s : Shape) → SameLine l m → before_line l s ≡ before_line m s
same_before l m s h = λ i. if same_declaration l m h i then two else (if is_comment_kind (h.kind i) then as_many else before_shape s)

imports_moved : (l m : LogicalLine) (is : List Imported) → IsMoved l m → Imports l is → Imports m is
imports_moved l m is h (sortable, (values, binds, are)) =
    let found = moved l m h.text h.tokens values binds in
    (sortable_moved l m (same_line l m h) sortable, (found.0, found.1, are ∙ sym found.2))

pub role_moved : (off : Bool) (l m : LogicalLine) (role : Role) → IsMoved l m → HasRole off l role → HasRole off m role
role_moved off l m (member is cs) h k = (k.0, imports_moved l m is h k.1, k.2 ∙ same_own l m (same_line l m h))
role_moved off l m (comments cs) h k = (sym (ap is_comment_kind h.kind) ∙ k.0, sym (same_parts l m (same_line l m h)) ∙ k.1, k.2 ∙ same_comments l m (same_line l m h))
role_moved off l m blank h k = sym h.kind ∙ k
role_moved off l m (other b) h (s, shaped, is, why) =
    let same = same_line l m h in (
      s,
      shape_moved l m s same shaped,
      is ∙ same_before l m s same,
      ⊎_elim (λ (code : (l.kind ≡ unit_kind.Code) × ((off ≡ true) ⊎ ¬ (IsSortable l))). inl (sym h.kind ∙ code.0, ⊎_elim (λ (o : off ≡ true). inl o) (λ (n : ¬ (IsSortable l)). inr (λ t. n (sortable_moved m l (back l m same) t))) code.1)) (λ (parts : parts_blocks l ≡ true). inr (sym (same_parts l m same) ∙ parts)) why,
    )
