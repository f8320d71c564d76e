-- The logical lines of a block, as they were before sorting.
use Rattle.std.proofs.Common.{◌≡◌, ℕ, ◌<◌, Bool, true, false, cond, ◌&&◌, inl, inr, List, [], ◌∷◌, ◌++◌, flat_map, length, refl, sym, ap, ◌∙◌, subst, arith}
use Rattle.std.specs.Prelude.{bytes_eq, nat_lt}
use Rattle.std.specs.List.{list_all}
use Rattle.std.proofs.lemmas.Bool.{and_parts, and_from, lt-ltb}
use Rattle.std.proofs.lemmas.Str.{length-le-encodes}
use Rattle.py_lines.specs.Fields.{AreReadBefore}
use Rattle.py_lines.specs.Reading.{EndsLine}
use Rattle.py_lines.specs.LogicalLine.{is_line_end_class, byte_len, end_len_of}
use Rattle.py_lines.specs.Piece.{line_end, Piece}
use Rattle.isort_sort.specs.Blocks.{is_member, stands_between, is_blank, role_is_member, role_stands_between, Further, further_rows, Run, run_rows, goes_on, is_run}
use Rattle.isort_sort.specs.Row.{Role, member, comments, blank, Row, HasRole, indentation_of}
use Rattle.isort_sort.specs.Sorted.{last_row}
use Rattle.isort_sort.proofs.LineLaws.Units.{IsUnit, AreUnits, first_character}
use Rattle.isort_sort.specs.Private.LineRole.{turned}
use Rattle.isort_sort.proofs.WrittenLines.UnitRows.{unit_line, AreUnitRows, off_through, role_in_block, silent}
use Rattle.isort_sort.proofs.LineLaws.Joined.{AreSome}
use Rattle.isort_sort.proofs.Finding.RoleTests.{of_blank}

-- what is known of a row of a block but its text
pub record IsSeen (u : List Piece) (row : Row) : Type 0 where
  pub role : HasRole false (unit_line u) row.role
  pub indentation : row.indentation ≡ indentation_of (unit_line u)
  pub ended : row.ended ≡ nat_lt 0 (end_len_of u)

abbrev pub AreSeen : List (List Piece) → List Row → Type 0
AreSeen [] [] = Unit {0}
AreSeen (u ∷ us) (row ∷ rows) = IsSeen u row × AreSeen us rows
AreSeen _ _ = ⊥

-- members, comments and blank lines
abbrev pub in_block : Row → Bool
in_block row = role_in_block row.role

pub member_in_block : (role : Role) → role_is_member role ≡ true → role_in_block role ≡ true
member_in_block (member is cs) h = refl
member_in_block _ h = absurd (cc)

between_in_block : (role : Role) → role_stands_between role ≡ true → role_in_block role ≡ true
between_in_block (comments cs) h = refl
between_in_block blank h = refl
between_in_block _ h = absurd (cc)

pub blanks_in_block : (rows : List Row) → list_all is_blank rows ≡ true → list_all in_block rows ≡ true
blanks_in_block [] h = refl
blanks_in_block (row ∷ rows) h = let parts = and_parts (is_blank row) (list_all is_blank rows) h in and_from _ _ (between_in_block row.role (of_blank row.role parts.0).between) (blanks_in_block rows parts.1)

between_rows : (between : List Row) (row : Row) (rows : List Row) → list_all stands_between between ≡ true → in_block row ≡ true → list_all in_block rows ≡ true → list_all in_block ((between ++ row ∷ []) ++ rows) ≡ true
between_rows [] row rows h k l = and_from _ _ k l
between_rows (b ∷ bs) row rows h k l = let parts = and_parts (stands_between b) (list_all stands_between bs) h in and_from _ _ (between_in_block b.role parts.0) (between_rows bs row rows parts.1 k l)

others_in_block : (indentation : List ℕ) (fs : List Further) → list_all (goes_on indentation) fs ≡ true → list_all in_block (flat_map further_rows fs) ≡ true
others_in_block indentation [] h = refl
others_in_block indentation (f ∷ fs) h =
    let parts = and_parts (goes_on indentation f) (list_all (goes_on indentation) fs) h in
    let one = and_parts (list_all stands_between f.between && is_member f.row) (bytes_eq f.row.indentation indentation) parts.0 in
    let two = and_parts (list_all stands_between f.between) (is_member f.row) one.0 in
    between_rows f.between f.row (flat_map further_rows fs) two.0 (member_in_block f.row.role two.1) (others_in_block indentation fs parts.1)

pub run_in_block : (run : Run) → is_run run ≡ true → list_all in_block (run_rows run) ≡ true
run_in_block run h =
    let parts = and_parts (is_member run.first) (list_all (goes_on run.first.indentation) run.others) h in
    and_from _ _ (member_in_block run.first.role parts.0) (others_in_block run.first.indentation run.others parts.1)

-- they turn nothing off or on
pub through_block : (off : Bool) (us : List (List Piece)) (rows : List Row) → AreUnitRows off us rows → list_all in_block rows ≡ true → off_through off us ≡ off
through_block off [] rows h k = refl
through_block off (u ∷ us) [] h k = absurd h
through_block off (u ∷ us) (row ∷ rows) h k =
    let parts = and_parts (in_block row) (list_all in_block rows) k in
    let same = silent off off (unit_line u) row.role h.0.role parts.0 in
    through_block (turned off (unit_line u)) us rows h.1 parts.1 ∙ same

pub seen_rows : (us : List (List Piece)) (rows : List Row) → AreUnitRows false us rows → list_all in_block rows ≡ true → AreSeen us rows
seen_rows [] [] h k = tt
seen_rows (u ∷ us) (row ∷ rows) h k =
    let parts = and_parts (in_block row) (list_all in_block rows) k in
    let same = silent false false (unit_line u) row.role h.0.role parts.0 in
    (record { role = h.0.role; indentation = h.0.indentation; ended = h.0.ended }, seen_rows us rows (subst (λ (b : Bool). AreUnitRows b us rows) same h.1) parts.1)
seen_rows _ _ h k = absurd h

-- sorting isn't off at a member
pub member_off : (off : Bool) (u : List Piece) (row : Row) → HasRole off (unit_line u) row.role → is_member row ≡ true → off ≡ false
member_off off u row h k = by row.role h k
  where
    by : (role : Role) → HasRole off (unit_line u) role → role_is_member role ≡ true → off ≡ false
    by (member is cs) r m = r.0
    by _ r m = absurd (cc)

-- a line that others follow has a line end
last_bytes : (body : List Piece) (last : Piece) → last.class ≡ line_end → AreReadBefore (body ++ last ∷ []) [] → 0 < end_len_of (body ++ last ∷ [])
last_bytes [] last class fit =
    let c = first_character last.class last.text fit.0 in
    let whole : end_len_of (last ∷ []) ≡ byte_len last.text = ap (λ k. cond (is_line_end_class k) (byte_len last.text) 0) class in
    let long = length-le-encodes last.text in
    let some : length last.text ≡ length (c.0 ∷ c.1) = ap length c.2 in
    omega (arith, whole, some, long)
last_bytes (p ∷ []) last class fit = last_bytes [] last class fit.3
last_bytes (p ∷ q ∷ body) last class fit = last_bytes (q ∷ body) last class fit.3

pub ends_bytes : (u : List Piece) → IsUnit u → EndsLine u → nat_lt 0 (end_len_of u) ≡ true
ends_bytes u is (inl none) = absurd (let e = is.whole in cc)
ends_bytes u is (inr (body, last, spell, class, deep)) =
    lt-ltb 0 (end_len_of u) (subst (λ (l : List Piece). 0 < end_len_of l) (sym spell) (last_bytes body last class (subst (λ (l : List Piece). AreReadBefore l []) spell is.reading.reads.fit)))

abbrev last_ended : Row → List Row → Bool
last_ended row [] = row.ended
last_ended row (r ∷ rs) = last_ended r rs

seen_ended : (u : List Piece) (us vs : List (List Piece)) (row : Row) (rows : List Row) → AreSome vs → AreUnits ((u ∷ us) ++ vs) → AreSeen (u ∷ us) (row ∷ rows) → last_ended row rows ≡ true
seen_ended u [] [] row rows some are h = absurd (let e = some.2 in cc)
seen_ended u [] (v ∷ vs) row [] some are h = h.0.ended ∙ ends_bytes u are.0 are.1.0
seen_ended u (w ∷ us) vs row (r ∷ rs) some are h = seen_ended w us vs r rs some are.2 h.1
seen_ended u _ vs row _ some are h = absurd h.1

past_between : (row : Row) (between : List Row) (r : Row) (rows : List Row) → last_ended row ((between ++ r ∷ []) ++ rows) ≡ last_ended r rows
past_between row [] r rows = refl
past_between row (b ∷ bs) r rows = past_between b bs r rows

last_further : (row : Row) (fs : List Further) → last_ended row (flat_map further_rows fs) ≡ (last_row row fs).ended
last_further row [] = refl
last_further row (f ∷ fs) = past_between row f.between f.row (flat_map further_rows fs) ∙ last_further f.row fs

pub run_ended : (us vs : List (List Piece)) (run : Run) → AreSome vs → AreUnits (us ++ vs) → AreSeen us (run_rows run) → (last_row run.first run.others).ended ≡ true
run_ended [] vs run some are h = absurd h
run_ended (u ∷ us) vs run some are h = sym (last_further run.first run.others) ∙ seen_ended u us vs run.first (flat_map further_rows run.others) some are h
