-- A block that sorting writes: its logical lines, and their rows.
use Rattle.std.proofs.Common.{◌≡◌, ℕ, Bool, true, false, ◌&&◌, List, [], ◌∷◌, ◌++◌, map, flat_map, refl, sym, ap, ◌∙◌, subst, append_assoc, append-nil}
use Rattle.std.specs.Prelude.{bytes_eq, count_by, drop, encode_utf8_all, replicate}
use Rattle.std.specs.List.{list_any, list_all}
use Rattle.std.proofs.lemmas.Bool.{and_from}
use Rattle.std.proofs.lemmas.Slice.Eq.{bytes_eq-Decides}
use Rattle.std.proofs.lemmas.Str.{encodes-append}
use Rattle.py_lines.specs.PieceGrammar.{IsLineEnd}
use Rattle.py_lines.specs.Character.{is_space, is_line_feed, is_return}
use Rattle.py_lines.specs.LogicalLine.{LogicalLine, line_of}
use Rattle.py_lines.specs.Neighbours.{is_simple, AreSimple, MayTouch}
use Rattle.py_lines.specs.Piece.{Class, mark, Piece, begins, ends, is_mark_class, begins_marked, spelled}
use Rattle.py_imports.specs.ActionComment.{says}
use Rattle.py_imports.specs.Shape.{mark_len}
use Rattle.py_imports.specs.declared.action_comment.ActionComment.TheVariants as action
use Rattle.isort_settings.specs.Values.{Values}
use Rattle.isort_sort.specs.Blocks.{role_imports, role_own, is_member, stands_between, is_blank, Further, further_rows, goes_on, member_of}
use Rattle.isort_sort.specs.LaidAgain.{import_of, joined_comments, as_member}
use Rattle.isort_sort.specs.Layout.{Laid, own_text, gap, lines_after}
use Rattle.isort_sort.specs.Row.{member, Row, IsRow, first_string_skips}
use Rattle.isort_sort.specs.Sorted.{last_row}
use Rattle.isort_sort.specs.WrittenLine.{mark_pieces, mark_bytes, end_pieces, IsWritten}
use Rattle.isort_sort.proofs.LineLaws.Units.{IsUnit, begins-first}
use Rattle.isort_sort.proofs.WrittenLines.UnitRows.{TokenLaws}
use Rattle.isort_sort.proofs.WrittenLines.LineUnits.{NeighbourLaw, ended_unit, blank_row, IsEndedUnit, IsLine, AreLines, lines_append, row_of, blank_units, blank_rows, blank_is_ended, blank_lines, blank_text, blank_between, blank_blank, blank_no_comments, AreAbove, above_units, above_rows, above_lines, above_text, above_comments, above_between}
use Rattle.isort_sort.proofs.LineLaws.Joined.{ended_lines, bytes_of, bytes_of-cons, bytes_of-append, all-append, count-replicate, regroup}
use Rattle.std.proofs.lemmas.List.Concat.{flat_map-append}
use Rattle.isort_sort.proofs.LineLaws.Indented.{after_mark}
use Rattle.std.proofs.Math.Bool.{and-false}
use Rattle.isort_sort.proofs.LineLaws.Parts.{spelled-append, part-end}

-- a statement that can be written: its pieces, and that neither its comments nor those above say that the file is skipped
pub record IsWritable (v : Values) (indentation end : List ℕ) (s : Laid) : Type 0 where
  pub pieces : List Piece
  pub written : IsWritten indentation end s (own_text v indentation end s) pieces
  pub above : AreAbove s.above
  pub unskipped : list_any (says action.SkipFile) s.comments ≡ false

abbrev pub AreWritable : Values → List ℕ → List ℕ → List Laid → Type 0
AreWritable v indentation end [] = Unit {0}
AreWritable v indentation end (s ∷ ss) = IsWritable v indentation end s × AreWritable v indentation end ss

-- pieces before a line end
touch_first : (ps qs : List Piece) → MayTouch (ps ++ qs) → MayTouch ps
touch_first [] qs h = tt
touch_first (p ∷ []) qs h = tt
touch_first (p ∷ q ∷ ps) qs h = (h.0, touch_first (q ∷ ps) qs h.1)

simple_no_mark : (class : Class) → is_simple class ≡ true → is_mark_class class ≡ false
simple_no_mark mark h = absurd (cc)
simple_no_mark _ h = refl

unmarked_end : (ps : List Piece) (ended : Bool) (end : List ℕ) → AreSimple ps → begins_marked (ps ++ end_pieces ended end) ≡ false
unmarked_end [] true end h = refl
unmarked_end [] false end h = refl
unmarked_end (p ∷ ps) ended end h = simple_no_mark p.class h.0

-- a written statement is a logical line, alone too
statement_alone : NeighbourLaw → (indentation end : List ℕ) (s : Laid) (text : List ℕ) (pieces : List Piece) → IsWritten indentation end s text pieces → IsUnit pieces
statement_alone law indentation end s text pieces w = record {
  reading = record { reads = record { spell = refl; fit = law pieces w.simple (touch_first pieces (end_pieces true end) w.touch) }; balanced = w.balanced; shallow = w.shallow };
  scalars = w.scalars;
  whole = w.whole;
}

statement_starts : NeighbourLaw → (indentation end : List ℕ) (s : Laid) (text : List ℕ) (pieces : List Piece) (ended : Bool) → IsWritten indentation end s text pieces → begins is_line_feed (spelled (pieces ++ end_pieces ended end)) ≡ false
statement_starts law indentation end s text pieces ended w = begins-first is_line_feed pieces (end_pieces ended end) (statement_alone law indentation end s text pieces w) ∙ w.unbroken

-- the row of a statement
abbrev statement_row : Laid → List Piece → Row
statement_row s u = row_of u (member (map (import_of s.statement) s.items) (joined_comments s.comments))

statement_closed : (v : Values) (indentation end : List ℕ) (a : Laid) (ended : Bool) (r : IsWritable v indentation end a) → ended ≡ true → IsEndedUnit end (r.pieces ++ end_pieces ended end)
statement_closed v indentation end a true r e = record { body = r.pieces; is = refl; deep = r.written.deep }
statement_closed v indentation end a false r e = absurd (cc)

statement_line : NeighbourLaw → (v : Values) (indentation end : List ℕ) (needed ended : Bool) (a : Laid) → IsLineEnd end → (r : IsWritable v indentation end a) → (needed ≡ true → ended ≡ true) → IsLine end needed (r.pieces ++ end_pieces ended end) (statement_row a (r.pieces ++ end_pieces ended end))
statement_line law v indentation end needed ended a is r closes = record {
  unit = unit ended;
  unmarked = unmarked_end r.pieces ended end r.written.simple;
  uncut = ap (λ b. ends is_return end && b) (statement_starts law indentation end a _ r.pieces ended r.written) ∙ and-false (ends is_return end);
  ended = λ e. statement_closed v indentation end a ended r (closes e);
  is = record { role = (r.written.line false ended 0 1).role; text = refl; indentation = refl; ended = refl };
  inside = refl;
  unskipped = (r.written.line false ended 0 1).says_no_more action.SkipFile r.unskipped;
}
  where
    unit : (b : Bool) → IsUnit (r.pieces ++ end_pieces b end)
    unit true = (let w = r.written in ended_unit law end r.pieces is w.simple w.touch w.scalars w.balanced w.shallow (w.cut []))
    unit false = subst IsUnit (sym (append-nil r.pieces)) (statement_alone law indentation end a _ r.pieces r.written)

-- how many blank lines stand after a last line, the line end that it has, and the one that it lacks
abbrev pub blanks_of : Bool → ℕ → ℕ
blanks_of true n = n
blanks_of false n = 0

abbrev pub closing : Bool → List ℕ → List ℕ
closing true end = end
closing false end = []

abbrev pub missing : Bool → List ℕ → List ℕ
missing true end = []
missing false end = end

-- a statement's bytes
statement_bytes : (v : Values) (indentation end : List ℕ) (a : Laid) (ended : Bool) → IsLineEnd end → (r : IsWritable v indentation end a) → encode_utf8_all (spelled (r.pieces ++ end_pieces ended end)) ≡ own_text v indentation end a ++ closing ended end
statement_bytes v indentation end a true is r =
    ap encode_utf8_all (spelled-append r.pieces (end_pieces true end)) ∙ encodes-append (spelled r.pieces) (end ++ []) ∙ (λ i. r.written.spell i ++ (part-end end is).spell i)
statement_bytes v indentation end a false is r = ap (λ l. encode_utf8_all (spelled l)) (append-nil r.pieces) ∙ r.written.spell ∙ sym (append-nil (own_text v indentation end a))

last_bytes : (v : Values) (indentation end : List ℕ) (a : Laid) (ended : Bool) (n : ℕ) → IsLineEnd end → (r : IsWritable v indentation end a) → bytes_of ((r.pieces ++ end_pieces ended end) ∷ blank_units (blanks_of ended n) end) ++ missing ended end ≡ ended_lines end (own_text v indentation end a ∷ replicate (blanks_of ended n) [])
last_bytes v indentation end a true n is r =
    append-nil (bytes_of ((r.pieces ++ end_pieces true end) ∷ blank_units n end)) ∙ bytes_of-cons (r.pieces ++ end_pieces true end) (blank_units n end)
    ∙ (λ i. statement_bytes v indentation end a true is r i ++ blank_text n end is i)
last_bytes v indentation end a false n is r =
    ap (λ (t : List ℕ). t ++ end) (bytes_of-cons (r.pieces ++ []) [] ∙ append-nil (encode_utf8_all (spelled (r.pieces ++ []))) ∙ statement_bytes v indentation end a false is r ∙ append-nil (own_text v indentation end a))
    ∙ sym (append-nil (own_text v indentation end a ++ end))

-- the statements of a block from one on, as they are written: so many blank lines follow the last, or nothing does
pub record IsBuilt (v : Values) (space end : List ℕ) (closed : Bool) (n : ℕ) (a : Laid) (ss : List Laid) : Type 0 where
  pub first : List Piece
  pub later : List (List Piece)
  pub row : Row
  pub others : List Further
  pub blanks : List Row
  pub lines : AreLines end closed (first ∷ later) (row ∷ (flat_map further_rows others ++ blanks))
  pub member : is_member row ≡ true
  pub indentation : row.indentation ≡ space
  pub goes : list_all (goes_on space) others ≡ true
  pub blank : list_all is_blank blanks ≡ true
  pub count : count_by (λ r. r.ended) blanks ≡ blanks_of closed n
  pub last : (last_row row others).ended ≡ closed
  pub imports : role_imports row.role ≡ map (import_of a.statement) a.items
  pub own : role_own row.role ≡ joined_comments a.comments
  pub members : map (λ f. member_of f.between f.row) others ≡ map as_member ss
  pub text : bytes_of (first ∷ later) ++ missing closed end ≡ ended_lines end (own_text v space end a ∷ (lines_after v space end a ss ++ replicate (blanks_of closed n) []))
  pub ends : Bool
  pub bytes : encode_utf8_all (spelled first) ≡ own_text v space end a ++ closing ends end
  pub ended : ends ≡ true → IsEndedUnit end first
  pub alone : ends ≡ false → (closed ≡ false) × ((e : List ℕ) → lines_after v space e a ss ≡ [])
  pub no_feed : begins is_line_feed (spelled first) ≡ false
  pub no_string : (marked : Bool) (offset row : ℕ) → (lines : List LogicalLine) → first_string_skips (line_of offset row (mark_pieces marked ++ first) ∷ lines) ≡ false
  pub starts : (marked : Bool) → IsRow [] (line_of 0 1 (mark_pieces marked ++ first)) row
  pub mark : (marked : Bool) → mark_len (line_of 0 1 (mark_pieces marked ++ first)) ≡ mark_bytes marked

-- what it is after a byte order mark
first_row : (v : Values) (indentation end : List ℕ) (ended marked : Bool) (a : Laid) (r : IsWritable v indentation end a) → IsRow [] (line_of 0 1 (mark_pieces marked ++ (r.pieces ++ end_pieces ended end))) (statement_row a (r.pieces ++ end_pieces ended end))
first_row v indentation end ended marked a r =
    let u : List Piece = r.pieces ++ end_pieces ended end in
    let plain = r.written.line false ended 0 1 in
    let line = r.written.line marked ended 0 1 in
    record {
      role = line.role;
      text = after_mark marked u ∙ ap (λ (n : ℕ). drop n (encode_utf8_all (spelled (mark_pieces marked ++ u)))) (sym line.mark);
      indentation = plain.indentation ∙ sym line.indentation;
      ended = plain.ended ∙ sym line.ended;
    }

last_lines : NeighbourLaw → (v : Values) (indentation end : List ℕ) (ended : Bool) (n : ℕ) (a : Laid) → IsLineEnd end → (r : IsWritable v indentation end a) → AreLines end ended ((r.pieces ++ end_pieces ended end) ∷ blank_units (blanks_of ended n) end) (statement_row a (r.pieces ++ end_pieces ended end) ∷ blank_rows (blanks_of ended n) end)
last_lines law v indentation end true n a is r = (statement_line law v indentation end true true a is r (λ e. e), blank_lines law n end is)
last_lines law v indentation end false n a is r = (statement_line law v indentation end false false a is r (λ e. e), tt)

last_built : NeighbourLaw → (v : Values) (indentation end : List ℕ) (ended : Bool) (n : ℕ) (a : Laid) → IsLineEnd end → IsWritable v indentation end a → IsBuilt v indentation end ended n a []
last_built law v indentation end ended n a is r =
    let u : List Piece = r.pieces ++ end_pieces ended end in
    let m : ℕ = blanks_of ended n in
    let plain = r.written.line false ended 0 1 in
    record {
      first = u;
      later = blank_units m end;
      row = statement_row a u;
      others = [];
      blanks = blank_rows m end;
      lines = last_lines law v indentation end ended n a is r;
      member = refl;
      indentation = plain.indentation;
      goes = refl;
      blank = blank_blank m end;
      count = count-replicate (λ (row : Row). row.ended) m (blank_row end) (blank_is_ended end is);
      last = plain.ended;
      imports = refl;
      own = refl;
      members = refl;
      text = last_bytes v indentation end a ended n is r;
      ends = ended;
      bytes = statement_bytes v indentation end a ended is r;
      ended = statement_closed v indentation end a ended r;
      alone = λ none. (none, (λ e. refl));
      no_feed = statement_starts law indentation end a _ r.pieces ended r.written;
      no_string = λ marked offset row lines. (r.written.line marked ended offset row).no_string lines;
      starts = λ marked. first_row v indentation end ended marked a r;
      mark = λ marked. (r.written.line marked ended 0 1).mark;
    }

same_bytes : (xs ys : List ℕ) → xs ≡ ys → bytes_eq xs ys ≡ true
same_bytes xs ys = (bytes_eq-Decides xs ys).1

-- one statement before others, which begin with the blank lines between the two
regrouped : (a g c : List ℕ) (r m : List ℕ) → (a ++ (g ++ (c ++ r))) ++ m ≡ a ++ (g ++ (c ++ (r ++ m)))
regrouped a g c r m = simp append_assoc

regroup_lines : (g c : List (List ℕ)) (x : List ℕ) (a d : List (List ℕ)) → (g ++ ((c ++ x ∷ []) ++ a)) ++ d ≡ g ++ (c ++ (x ∷ (a ++ d)))
regroup_lines g c x a d = simp append_assoc

one_more_text : (v : Values) (indentation end : List ℕ) (ended : Bool) (n : ℕ) (a b : Laid) (ss : List Laid) → list_all is_space indentation ≡ true → IsLineEnd end → (r : IsWritable v indentation end a) (q : IsWritable v indentation end b) (k : IsBuilt v indentation end ended n b ss) → bytes_of ((r.pieces ++ end_pieces true end) ∷ (blank_units (gap v a b) end ++ (above_units indentation end b.above q.above ++ (k.first ∷ k.later)))) ++ missing ended end ≡ ended_lines end (own_text v indentation end a ∷ (lines_after v indentation end a (b ∷ ss) ++ replicate (blanks_of ended n) []))
one_more_text v indentation end ended n a b ss spaces is r q k =
    let u : List Piece = r.pieces ++ end_pieces true end in
    let gaps : List (List Piece) = blank_units (gap v a b) end in
    let above : List (List Piece) = above_units indentation end b.above q.above in
    let later : List (List ℕ) = own_text v indentation end b ∷ (lines_after v indentation end b ss ++ replicate (blanks_of ended n) []) in
    let lines : List (List ℕ) = map (λ c. indentation ++ c) b.above in
    ap (λ (t : List ℕ). t ++ missing ended end)
    (bytes_of-cons u (gaps ++ (above ++ (k.first ∷ k.later))) ∙ ap (λ (t : List ℕ). encode_utf8_all (spelled u) ++ t) (bytes_of-append gaps (above ++ (k.first ∷ k.later)) ∙ ap (λ (t : List ℕ). bytes_of gaps ++ t) (bytes_of-append above (k.first ∷ k.later))))
    ∙ regrouped (encode_utf8_all (spelled u)) (bytes_of gaps) (bytes_of above) (bytes_of (k.first ∷ k.later)) (missing ended end)
    ∙ (λ i. statement_bytes v indentation end a true is r i ++ (blank_text (gap v a b) end is i ++ (above_text indentation end b.above q.above spaces is i ++ k.text i)))
    ∙ ap (λ (t : List ℕ). (own_text v indentation end a ++ end) ++ t)
    (ap (λ (t : List ℕ). ended_lines end (replicate (gap v a b) []) ++ t) (sym (flat_map-append (λ l. l ++ end) lines later))
    ∙ sym (flat_map-append (λ l. l ++ end) (replicate (gap v a b) []) (lines ++ later))
    ∙ ap (ended_lines end) (sym (regroup_lines (replicate (gap v a b) []) lines (own_text v indentation end b) (lines_after v indentation end b ss) (replicate (blanks_of ended n) []))))

more_built : NeighbourLaw → TokenLaws → (v : Values) (indentation end : List ℕ) (ended : Bool) (n : ℕ) (a b : Laid) (ss : List Laid) → list_all is_space indentation ≡ true → IsLineEnd end → IsWritable v indentation end a → IsWritable v indentation end b → IsBuilt v indentation end ended n b ss → IsBuilt v indentation end ended n a (b ∷ ss)
more_built law tokens v indentation end ended n a b ss spaces is r q k =
    let u : List Piece = r.pieces ++ end_pieces true end in
    let g : ℕ = gap v a b in
    let gaps : List (List Piece) = blank_units g end in
    let above : List (List Piece) = above_units indentation end b.above q.above in
    let above_are : List Row = above_rows indentation end b.above q.above in
    let between : List Row = blank_rows g end ++ above_are in
    let plain = r.written.line false true 0 1 in
    let all_between = all-append stands_between (blank_rows g end) above_are (blank_between g end) (above_between indentation end b.above q.above) in
    record {
      first = u;
      later = gaps ++ (above ++ (k.first ∷ k.later));
      row = statement_row a u;
      others = record { between = between; row = k.row } ∷ k.others;
      blanks = k.blanks;
      lines = (
        statement_line law v indentation end _ true a is r (λ e. refl),
        subst (AreLines end ended (gaps ++ (above ++ (k.first ∷ k.later)))) (sym (regroup (blank_rows g end) above_are k.row (flat_map further_rows k.others) k.blanks))
            (lines_append end ended gaps (above ++ (k.first ∷ k.later)) (blank_rows g end) _ (blank_lines law g end is) (lines_append end ended above (k.first ∷ k.later) above_are _ (above_lines law tokens indentation end b.above q.above spaces is) k.lines)),
      );
      member = refl;
      indentation = plain.indentation;
      goes = and_from _ _ (and_from _ _ (and_from _ _ all_between k.member) (same_bytes k.row.indentation indentation k.indentation)) k.goes;
      blank = k.blank;
      count = k.count;
      last = k.last;
      imports = refl;
      own = refl;
      members = λ i. record { imports = k.imports i; comments = k.own i; above = (blank_no_comments g end above_are ∙ above_comments indentation end b.above q.above) i } ∷ k.members i;
      text = one_more_text v indentation end ended n a b ss spaces is r q k;
      ends = true;
      bytes = statement_bytes v indentation end a true is r;
      ended = statement_closed v indentation end a true r;
      alone = λ none. absurd (cc);
      no_feed = statement_starts law indentation end a _ r.pieces true r.written;
      no_string = λ marked offset row lines. (r.written.line marked true offset row).no_string lines;
      starts = λ marked. first_row v indentation end true marked a r;
      mark = λ marked. (r.written.line marked true 0 1).mark;
    }

-- statements that can be written, one after another
pub built : NeighbourLaw → TokenLaws → (v : Values) (indentation end : List ℕ) (ended : Bool) (n : ℕ) (a : Laid) (ss : List Laid) → list_all is_space indentation ≡ true → IsLineEnd end → IsWritable v indentation end a → AreWritable v indentation end ss → IsBuilt v indentation end ended n a ss
built law tokens v indentation end ended n a [] spaces is r rs = last_built law v indentation end ended n a is r
built law tokens v indentation end ended n a (b ∷ ss) spaces is r rs =
    more_built law tokens v indentation end ended n a b ss spaces is r rs.0 (built law tokens v indentation end ended n b ss spaces is rs.0 rs.1)
