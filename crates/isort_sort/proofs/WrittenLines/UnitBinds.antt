-- What logical lines bind, and whether they ask for the text to be left as it is, wherever they stand.
use Rattle.std.proofs.Common.{◌≡◌, ℕ, ◌+◌, Bool, true, false, cond, ◌&&◌, ◌||◌, List, [], ◌∷◌, ◌++◌, map, refl, sym, ap, ◌∙◌, subst}
use Rattle.std.specs.Prelude.{slice_get, slice_range, if◌then◌else◌}
use Rattle.std.specs.List.{AllByRecursion, list_any}
use Rattle.std.proofs.lemmas.Bool.{both_ways, or_parts}
use Rattle.py_lines.specs.LogicalLine.{LogicalLine, byte_len, line_ends, is_code_class, is_comment_class, tokens_of_piece, tokens_from, kind_of, line_of, lines_from}
use Rattle.py_lines.specs.Piece.{Class, word, string, operator, join, Piece, spelled}
use Rattle.py_lines.specs.declared.token.Token.{Token}
use Rattle.py_lines.specs.declared.unit.UnitKind.{UnitKind}
use Rattle.py_lines.specs.declared.unit.UnitKind.TheVariants as unit_kind
use Rattle.py_imports.specs.ActionComment.{says}
use Rattle.py_imports.specs.Binds.{Binds, BindEach, BindAll}
use Rattle.py_imports.specs.BindingValue.{BindingValue}
use Rattle.py_imports.specs.Shape.{is_nothing}
use Rattle.py_imports.specs.Statement.{significant, starts}
use Rattle.py_imports.specs.declared.action_comment.ActionComment.TheVariants as action
use Rattle.isort_sort.specs.Line.{comment_texts}
use Rattle.isort_sort.specs.Row.{is_comment_kind, Role, member, comments, blank, other, Row, HasRole, is_string, string_skips, first_string_skips}
use Rattle.isort_sort.proofs.Rows.Moved.{still, still_alike, significant_alike, moved}
use Rattle.isort_sort.proofs.WrittenLines.UnitRows.{TokenLaws, unit_line, comments_of_unit, role_in_block}
use Rattle.isort_sort.proofs.WrittenLines.LineUnits.{AreLines, says_skip_file}

-- a line binds something, or nothing, and has no fault
abbrev pub HasValues : LogicalLine → Type 0
HasValues line = (values : List BindingValue) × Binds line values

abbrev pub UnitBinds : List Piece → Type 0
UnitBinds u = HasValues (unit_line u)

abbrev pub EachBinds : List (List Piece) → Type 0
EachBinds us = AllByRecursion UnitBinds us

-- comments and blank lines have no tokens of statements
piece_no_code : (start stop line : ℕ) (class : Class) (text : List ℕ) (ts : List Token) → is_code_class class ≡ false → significant (tokens_of_piece start stop line class text ++ ts) ≡ significant ts
piece_no_code start stop line word text ts h = absurd (cc)
piece_no_code start stop line string text ts h = absurd (cc)
piece_no_code start stop line operator text ts h = absurd (cc)
piece_no_code start stop line join text ts h = absurd (cc)
piece_no_code start stop line _ text ts h = refl

no_code : (start line : ℕ) (ps : List Piece) → list_any (λ p. is_code_class p.class) ps ≡ false → significant (tokens_from start line ps) ≡ []
no_code start line [] h = refl
no_code start line (p ∷ ps) h =
    let parts = or_parts (is_code_class p.class) (list_any (λ q. is_code_class q.class) ps) h in
    piece_no_code start (start + byte_len p.text) line p.class p.text (tokens_from (start + byte_len p.text) (line + line_ends p.text) ps) parts.0
    ∙ no_code (start + byte_len p.text) (line + line_ends p.text) ps parts.1

-- whether a line is code
is_code_kind : UnitKind → Bool
is_code_kind unit_kind.Code = true
is_code_kind _ = false

uncoded : (u : List Piece) → is_code_kind (kind_of u) ≡ false → list_any (λ p. is_code_class p.class) u ≡ false
unfolding is_code_kind
uncoded u h = by (list_any (λ p. is_code_class p.class) u) refl
  where
    by : (b : Bool) → list_any (λ p. is_code_class p.class) u ≡ b → b ≡ false
    by true e = absurd (both_ways _ h (ap is_code_kind (ap (λ (x : Bool). cond x unit_kind.Code (cond (list_any (λ p. is_comment_class p.class) u) unit_kind.Comment unit_kind.Blank)) e)))
    by false e = refl

nothing_said : (offset line : ℕ) (u : List Piece) → is_code_kind (kind_of u) ≡ false → significant (line_of offset line u).tokens ≡ []
nothing_said offset line u h = no_code 0 line u (uncoded u h)

nothing_binds : (line : LogicalLine) → significant line.tokens ≡ [] → HasValues line
nothing_binds line e = ([], subst (λ (ts : List Token). BindEach line (starts ts) []) (sym e) refl)

comment_uncoded : (k : UnitKind) → is_comment_kind k ≡ true → is_code_kind k ≡ false
unfolding is_code_kind
comment_uncoded unit_kind.Comment h = refl
comment_uncoded unit_kind.Code h = absurd (cc)
comment_uncoded unit_kind.Blank h = absurd (cc)

pub role_binds : (off : Bool) (offset line : ℕ) (u : List Piece) (role : Role) → HasRole off (line_of offset line u) role → role_in_block role ≡ true → HasValues (line_of offset line u)
unfolding is_code_kind
role_binds off offset line u (member is cs) h k = (h.1.1.0, h.1.1.1)
role_binds off offset line u (comments cs) h k = nothing_binds (line_of offset line u) (nothing_said offset line u (comment_uncoded (kind_of u) h.0))
role_binds off offset line u blank h k = nothing_binds (line_of offset line u) (nothing_said offset line u (ap is_code_kind h))
role_binds off offset line u (other b) h k = absurd (cc)

pub lines_bind : (end : List ℕ) (ended : Bool) (us : List (List Piece)) (rows : List Row) → AreLines end ended us rows → EachBinds us
lines_bind end ended [] rows h = tt
lines_bind end ended (u ∷ us) [] h = absurd h
lines_bind end ended (u ∷ us) (row ∷ rows) h = (role_binds false 0 1 u row.role h.0.is.role h.0.inside, lines_bind end ended us rows h.1)

-- what lines bind elsewhere
pub binds_from : TokenLaws → (offset line : ℕ) (us : List (List Piece)) → EachBinds us → (values : List BindingValue) × BindAll (lines_from offset line us) values
binds_from laws offset line [] h = ([], refl)
binds_from laws offset line (u ∷ us) h =
    let first = moved (unit_line u) (line_of offset line u) refl (laws.anywhere 0 1 offset line u) h.0.0 h.0.1 in
    let later = binds_from laws (offset + byte_len (spelled u)) (line + line_ends (spelled u)) us h.1 in
    (first.0 ++ later.0, (first.0, later.0, refl, first.1, later.1))

pub binds_to : TokenLaws → (offset line : ℕ) (us : List (List Piece)) (values : List BindingValue) → BindAll (lines_from offset line us) values → EachBinds us
binds_to laws offset line [] values h = tt
binds_to laws offset line (u ∷ us) values h =
    let first = moved (line_of offset line u) (unit_line u) refl (laws.anywhere offset line 0 1 u) h.0 h.3 in
    ((first.0, first.1), binds_to laws (offset + byte_len (spelled u)) (line + line_ends (spelled u)) us h.1 h.4)

-- what lines ask for elsewhere
pub comments_skip : TokenLaws → (offset line : ℕ) (us : List (List Piece)) → list_any (λ l. list_any (says action.SkipFile) (comment_texts l)) (lines_from offset line us) ≡ list_any says_skip_file us
comments_skip laws offset line [] = refl
comments_skip laws offset line (u ∷ us) =
    λ i. list_any (says action.SkipFile) ((comments_of_unit laws offset line u ∙ sym (comments_of_unit laws 0 1 u)) i)
    || comments_skip laws (offset + byte_len (spelled u)) (line + line_ends (spelled u)) us i

abbrev first_skips : LogicalLine → Bool → List Token → Bool
first_skips line later ts = if is_nothing ts then later else string_skips line (slice_get ts 0)

first_still : (l m : LogicalLine) → l.text ≡ m.text → (b : Bool) (ts : List Token) → first_skips l b (map still ts) ≡ first_skips m b ts
first_still l m text b [] = refl
first_still l m text b (t ∷ ts) = ap (λ x. is_string t.kind && says action.SkipFile (slice_range x t.start t.stop)) text

pub strings_skip : TokenLaws → (offset line : ℕ) (us : List (List Piece)) → first_string_skips (lines_from offset line us) ≡ first_string_skips (map unit_line us)
strings_skip laws offset line [] = refl
strings_skip laws offset line (u ∷ us) =
    let here : LogicalLine = line_of offset line u in
    let ts : List Token = significant (unit_line u).tokens in
    let later : Bool = first_string_skips (lines_from (offset + byte_len (spelled u)) (line + line_ends (spelled u)) us) in
    sym (first_still here here refl later (significant here.tokens))
    ∙ ap (first_skips here later) (significant_alike here.tokens (unit_line u).tokens (still_alike here.tokens (unit_line u).tokens (laws.anywhere offset line 0 1 u)))
    ∙ first_still here (unit_line u) refl later ts
    ∙ ap (λ b. first_skips (unit_line u) b ts) (strings_skip laws (offset + byte_len (spelled u)) (line + line_ends (spelled u)) us)
