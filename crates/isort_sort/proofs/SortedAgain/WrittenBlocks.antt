-- A block that was sorted, before what stands after it: its logical lines are a block again, with the same layout.
use Rattle.std.proofs.Common.{◌≡◌, ℕ, Bool, true, false, List, [], ◌∷◌, ◌++◌, map, flat_map, refl, sym, ap, ◌∙◌, subst, append_assoc, append-nil}
use Rattle.std.specs.Prelude.{count_by, encode_utf8_all, replicate}
use Rattle.std.specs.List.{list_any, list_all}
use Rattle.std.proofs.lemmas.Bool.{and_from}
use Rattle.std.proofs.lemmas.List.{append_cancel_right}
use Rattle.std.proofs.lemmas.List.Concat.{flat_map-append}
use Rattle.py_lines.specs.Character.{is_space, is_line_feed}
use Rattle.py_lines.specs.LogicalLine.{LogicalLine, line_of}
use Rattle.py_lines.specs.Piece.{Piece, begins, begins_marked, spelled}
use Rattle.py_lines.specs.PieceGrammar.{IsLineEnd}
use Rattle.py_imports.specs.Shape.{mark_len}
use Rattle.isort_settings.specs.Values.{Values}
use Rattle.isort_sort.specs.Blocks.{Run, run_rows, further_rows, goes_on, is_run, is_blank, comments_in, members_of}
use Rattle.isort_sort.specs.BlocksReplaced.{is_comments}
use Rattle.isort_sort.specs.LaidAgain.{as_member, with_joined_comments, without_above}
use Rattle.isort_sort.specs.Layout.{Laid, AreLaid, own_text, block_lines, lines_after, text_of_lines}
use Rattle.isort_sort.specs.Member.{Member}
use Rattle.isort_sort.specs.ReadBack.{first_above, without_first_above, IsReadBack}
use Rattle.isort_sort.specs.Row.{Row, IsRow, first_string_skips}
use Rattle.isort_sort.specs.Sorted.{last_row, blanks_after, texts_of, IsLayout}
use Rattle.isort_sort.specs.WrittenLine.{mark_pieces, mark_bytes, end_pieces}
use Rattle.isort_sort.proofs.Orders.Statements.{AreOrders}
use Rattle.isort_sort.proofs.SortedTexts.LaidAgain.{first_again, lines_again}
use Rattle.isort_sort.proofs.LineLaws.Units.{MayFollowUnit, AreUnits}
use Rattle.isort_sort.proofs.WrittenLines.UnitRows.{TokenLaws, unit_line, AreUnitRows, role_in_block}
use Rattle.isort_sort.proofs.ReadMembers.OldBlock.{member_in_block}
use Rattle.isort_sort.proofs.WrittenLines.UnitBinds.{EachBinds, lines_bind}
use Rattle.isort_sort.proofs.WrittenLines.LineUnits.{NeighbourLaw, are_some, IsEndedUnit, AreLines, lines_units, lines_rows, lines_text, lines_unskipped, lines_append, says_skip_file, AreAbove, comment_unit, comment_starts, comment_text, comment_row, comment_line, above_units, above_rows, above_lines, above_text, above_comments, above_are_comments, first_above_passes}
use Rattle.isort_sort.proofs.LineLaws.Joined.{AreSome, some_append, some_first, ended_lines, bytes_of, bytes_of-append}
use Rattle.isort_sort.proofs.Layouts.Pieces.{joined_ended}
use Rattle.isort_sort.proofs.WrittenLines.BlockUnits.{AreWritable, IsBuilt, built, blanks_of, closing, missing}
use Rattle.isort_sort.proofs.WrittenLines.Marked.{comment_mark, comment_first}

-- the first line of a block, without its line end: a comment above the first statement, or that statement
abbrev pub line_above : List ℕ → List (List ℕ) → List ℕ → List ℕ
line_above space [] own = own
line_above space (c ∷ cs) own = space ++ c

abbrev pub first_line : Values → List ℕ → List ℕ → List Laid → List ℕ
first_line v space end [] = []
first_line v space end (s ∷ ss) = line_above space s.above (own_text v space end s)

-- the first line of a block that is written, by the line end, with the row that it has, and the rows after it; it has a line
-- end, except where it is the whole block
pub record HasTop (end : List ℕ) (closed : Bool) (line : List ℕ → List ℕ) (block : List ℕ → List (List ℕ)) (first : List Piece) (later : List (List Piece)) (rows : List Row) : Type 0 where
  pub ends : Bool
  pub bytes : encode_utf8_all (spelled first) ≡ line end ++ closing ends end
  pub ended : ends ≡ true → IsEndedUnit end first
  pub alone : ends ≡ false → (closed ≡ false) × ((e : List ℕ) → block e ≡ line e ∷ [])
  pub unmarked : begins_marked first ≡ false
  pub no_feed : begins is_line_feed (spelled first) ≡ false
  pub no_string : (marked : Bool) (lines : List LogicalLine) → first_string_skips (line_of 0 1 (mark_pieces marked ++ first) ∷ (map unit_line later ++ lines)) ≡ false
  pub row : Row
  pub below : List Row
  pub is : rows ≡ row ∷ below
  pub starts : (marked : Bool) → IsRow [] (line_of 0 1 (mark_pieces marked ++ first)) row
  pub inside : role_in_block row.role ≡ true
  pub mark : (marked : Bool) → mark_len (line_of 0 1 (mark_pieces marked ++ first)) ≡ mark_bytes marked

-- a block that was written, in this layout, before these logical lines and rows
pub record IsWrittenBlock (v : Values) (end : List ℕ) (run : Run) (laid : List Laid) (own : List ℕ) (zs : List (List Piece)) (rest : List Row) : Type 0 where
  pub first : List Piece
  pub later : List (List Piece)
  pub above : List Row
  pub new : Run
  pub blanks : List Row
  pub are : AreUnits ((first ∷ later) ++ zs)
  pub rows : AreUnitRows false ((first ∷ later) ++ zs) (above ++ (run_rows new ++ (blanks ++ rest)))
  pub comments : list_all is_comments above ≡ true
  pub is : is_run new ≡ true
  pub same : new.first.indentation ≡ run.first.indentation
  pub blank : list_all is_blank blanks ≡ true
  pub mine : List ℕ
  pub split : own ≡ texts_of above ++ mine
  pub layout : IsLayout v end new blanks rest mine
  pub text : bytes_of (first ∷ later) ≡ own
  pub unskipped : list_any says_skip_file (first ∷ later) ≡ false
  pub top : HasTop end (last_row run.first run.others).ended (λ e. first_line v run.first.indentation e laid) (λ e. block_lines v run.first.indentation e laid) first later (above ++ (run_rows new ++ (blanks ++ rest)))
  pub binds : EachBinds (first ∷ later)
  pub row_texts : texts_of (above ++ (run_rows new ++ blanks)) ≡ own
  pub first_comments : comments_in above ≡ first_above laid
  pub members : members_of new ≡ map as_member (without_first_above laid)

-- so the layout is read back
pub read_back : (v : Values) (end written : List ℕ) (run : Run) (kept after : List Row) (own : List ℕ) (zs : List (List Piece)) (rest : List Row) (layout : IsLayout v end run kept after own) → (w : IsWrittenBlock v written run layout.0 own zs rest) → IsReadBack v end run w.new kept after w.above w.blanks
read_back v end written run kept after own zs rest layout w = record {
  layout = (layout.0, layout.1, w.row_texts ∙ layout.2);
  are_comments = w.comments;
  comments = w.first_comments;
  indentation = w.same;
  members = w.members;
}

-- the text of lines, where the last one may lack its line end
text_is : (end : List ℕ) (ended : Bool) (n : ℕ) (lines : List (List ℕ)) (bytes : List ℕ) → AreSome lines → bytes ++ missing ended end ≡ ended_lines end (lines ++ replicate (blanks_of ended n) []) → bytes ≡ text_of_lines end ended n lines
text_is end true n lines bytes some e = sym (append-nil bytes) ∙ e
text_is end false n lines bytes some e = append_cancel_right bytes (text_of_lines end false n lines) end (e ∙ ap (ended_lines end) (append-nil lines) ∙ joined_ended end lines some)

after_alike : (v : Values) (indentation end : List ℕ) (s : Laid) (ss : List Laid) → lines_after v indentation end (without_above s) ss ≡ lines_after v indentation end s ss
after_alike v indentation end s [] = refl
after_alike v indentation end s (b ∷ ss) = refl

-- how many blank lines are written the second time
same_blanks : (end : List ℕ) (ended : Bool) (n m : ℕ) (lines : List (List ℕ)) → (ended ≡ true → m ≡ n) → text_of_lines end ended n lines ≡ text_of_lines end ended m lines
same_blanks end true n m lines h = ap (λ k. text_of_lines end true k lines) (sym (h refl))
same_blanks end false n m lines h = refl

-- the layout of the new run is what was written, without the comments above its first statement
layout_again : (v : Values) → AreOrders v → (space end : List ℕ) (members : List Member) (ended : Bool) (n : ℕ) (s : Laid) (ss : List Laid) (rest : List Row) → AreLaid v space members (s ∷ ss) → (b : IsBuilt v space end ended n s ss)
    → ((new : Run) → new.first.indentation ≡ space → ended ≡ true → blanks_after v new n rest ≡ n)
    → IsLayout v end (record { first = b.row; others = b.others }) b.blanks rest (bytes_of (b.first ∷ b.later))
layout_again v o space end members ended n s ss rest laid b kept = (again, subst (λ (i : List ℕ). AreLaid v i (members_of new) again) (sym b.indentation) mine, text)
  where
    new : Run
    new = record { first = b.row; others = b.others }

    again : List Laid
    again = map with_joined_comments (without_above s ∷ ss)

    members_are : map as_member (without_above s ∷ ss) ≡ members_of new
    members_are = λ i. record { imports = sym b.imports i; comments = sym b.own i; above = [] } ∷ sym b.members i

    mine : AreLaid v space (members_of new) again
    mine = subst (λ (ms : List Member). AreLaid v space ms again) members_are (first_again v o space members s ss laid)

    lines : List (List ℕ)
    lines = own_text v space end s ∷ lines_after v space end s ss

    same_lines : lines ≡ block_lines v b.row.indentation end again
    same_lines =
        ap (λ l. own_text v space end s ∷ l) (sym (after_alike v space end s ss))
        ∙ sym (lines_again v space end (without_above s ∷ ss))
        ∙ ap (λ (i : List ℕ). block_lines v i end again) (sym b.indentation)

    count : ended ≡ true → blanks_after v new (count_by (λ (row : Row). row.ended) b.blanks) rest ≡ n
    count e = ap (λ (k : ℕ). blanks_after v new k rest) (b.count ∙ ap (λ x. blanks_of x n) e) ∙ kept new b.indentation e

    text : bytes_of (b.first ∷ b.later) ≡ text_of_lines end (last_row new.first new.others).ended (blanks_after v new (count_by (λ (row : Row). row.ended) b.blanks) rest) (block_lines v new.first.indentation end again)
    text =
        text_is end ended n lines (bytes_of (b.first ∷ b.later)) (_, _, refl) b.text
        ∙ same_blanks end ended n (blanks_after v new (count_by (λ (row : Row). row.ended) b.blanks) rest) lines count
        ∙ (λ i. text_of_lines end (sym b.last i) (blanks_after v new (count_by (λ (row : Row). row.ended) b.blanks) rest) (same_lines i))

map_units : (us vs : List (List Piece)) (lines : List LogicalLine) → map unit_line (us ++ vs) ++ lines ≡ map unit_line us ++ (map unit_line vs ++ lines)
map_units [] vs lines = refl
map_units (u ∷ us) vs lines = ap (λ l. unit_line u ∷ l) (map_units us vs lines)

-- the first of the units, and the others
pub record AreHeaded (us : List (List Piece)) : Type 0 where
  pub first : List Piece
  pub later : List (List Piece)
  pub is : us ≡ first ∷ later

headed : (space end : List ℕ) (cs : List (List ℕ)) (are : AreAbove cs) (first : List Piece) (later : List (List Piece)) → AreHeaded (above_units space end cs are ++ (first ∷ later))
headed space end [] are first later = record { first = first; later = later; is = refl }
headed space end (c ∷ cs) are first later = record { first = comment_unit space are.0.characters end; later = above_units space end cs are.1 ++ (first ∷ later); is = refl }

top_of : NeighbourLaw → TokenLaws → (v : Values) (space end : List ℕ) (ended : Bool) (n : ℕ) (s : Laid) (ss : List Laid) (cs : List (List ℕ)) (are : AreAbove cs) (others : List Row) → list_all is_space space ≡ true → IsLineEnd end → (b : IsBuilt v space end ended n s ss)
    → HasTop end ended (λ e. line_above space cs (own_text v space e s)) (λ e. (map (λ c. space ++ c) cs ++ own_text v space e s ∷ []) ++ lines_after v space e s ss) (headed space end cs are b.first b.later).first (headed space end cs are b.first b.later).later (above_rows space end cs are ++ (b.row ∷ others))
unfolding headed
top_of law laws v space end ended n s ss [] are others spaces is b = record {
  ends = b.ends;
  bytes = b.bytes;
  ended = b.ended;
  alone = λ none. ((b.alone none).0, (λ e. ap (λ l. own_text v space e s ∷ l) ((b.alone none).1 e)));
  unmarked = b.lines.0.unmarked;
  no_feed = b.no_feed;
  no_string = λ marked lines. b.no_string marked 0 1 (map unit_line b.later ++ lines);
  row = b.row;
  below = others;
  is = refl;
  starts = b.starts;
  inside = member_in_block b.row.role b.member;
  mark = b.mark;
}
top_of law laws v space end ended n s ss (c ∷ cs) are others spaces is b =
    let u : List Piece = comment_unit space are.0.characters end in
    let line = comment_line law laws space c end are.0 true spaces is in
    record {
      ends = true;
      bytes = comment_text space c end are.0 spaces is;
      ended = line.ended;
      alone = λ none. absurd (cc);
      unmarked = line.unmarked;
      no_feed = comment_starts space are.0.characters end spaces are.0.is;
      no_string = λ marked lines.
          ap (λ l. first_string_skips (line_of 0 1 (mark_pieces marked ++ u) ∷ l)) (map_units (above_units space end cs are.1) (b.first ∷ b.later) lines)
          ∙ first_above_passes marked space end c cs are (map unit_line (b.first ∷ b.later) ++ lines)
          ∙ b.no_string false 0 1 (map unit_line b.later ++ lines);
      row = comment_row space c end are.0;
      below = above_rows space end cs are.1 ++ (b.row ∷ others);
      is = refl;
      starts = λ marked. comment_first laws marked space c end are.0 spaces;
      inside = refl;
      mark = λ marked. comment_mark marked space c end are.0 spaces;
    }

moved : (x y z w : List Row) → (x ++ (y ++ z)) ++ w ≡ x ++ (y ++ (z ++ w))
moved x y z w = simp append_assoc

lines_apart : (c : List (List ℕ)) (x : List ℕ) (a d : List (List ℕ)) → c ++ (x ∷ (a ++ d)) ≡ ((c ++ x ∷ []) ++ a) ++ d
lines_apart c x a d = simp append_assoc

-- the block that is written, before what follows it
pub written_block : NeighbourLaw → TokenLaws → (v : Values) → AreOrders v → (end : List ℕ) (run : Run) (n : ℕ) (s : Laid) (ss : List Laid) (own : List ℕ) (zs : List (List Piece)) (rest : List Row)
    → IsLineEnd end → list_all is_space run.first.indentation ≡ true → AreWritable v run.first.indentation end (s ∷ ss) → AreLaid v run.first.indentation (members_of run) (s ∷ ss)
    → own ≡ text_of_lines end (last_row run.first run.others).ended n (block_lines v run.first.indentation end (s ∷ ss))
    → ((new : Run) → new.first.indentation ≡ run.first.indentation → (last_row run.first run.others).ended ≡ true → blanks_after v new n rest ≡ n)
    → (are_some zs ≡ true → (last_row run.first run.others).ended ≡ true) → MayFollowUnit (end_pieces true end) zs → AreUnits zs → AreUnitRows false zs rest
    → IsWrittenBlock v end run (s ∷ ss) own zs rest
written_block law laws v o end run n s ss own zs rest is spaces ready laid text kept closed follows are rows =
    record {
      first = head.first;
      later = head.later;
      above = above;
      new = new;
      blanks = b.blanks;
      are = subst (λ us. AreUnits (us ++ zs)) head.is (lines_units end ended units zs all_rows is lines closed follows are);
      rows = subst (λ us. AreUnitRows false (us ++ zs) (above ++ (run_rows new ++ (b.blanks ++ rest)))) head.is whole;
      comments = above_are_comments space end s.above ready.0.above;
      is = and_from _ _ b.member (subst (λ (i : List ℕ). list_all (goes_on i) b.others ≡ true) (sym b.indentation) b.goes);
      same = b.indentation;
      blank = b.blank;
      mine = bytes_of (b.first ∷ b.later);
      split = sym bytes ∙ bytes_of-append above_us (b.first ∷ b.later) ∙ ap (λ (t : List ℕ). t ++ bytes_of (b.first ∷ b.later)) (sym (lines_text end true above_us above above_lines_are));
      layout = layout_again v o space end (members_of run) ended n s ss rest laid b kept;
      text = ap bytes_of (sym head.is) ∙ bytes;
      unskipped = ap (list_any says_skip_file) (sym head.is) ∙ lines_unskipped end ended units all_rows lines;
      top = top_of law laws v space end ended n s ss s.above ready.0.above (flat_map further_rows b.others ++ (b.blanks ++ rest)) spaces is b;
      binds = subst EachBinds head.is (lines_bind end ended units all_rows lines);
      row_texts = lines_text end ended units all_rows lines ∙ bytes;
      first_comments = above_comments space end s.above ready.0.above;
      members = λ i. record { imports = b.imports i; comments = b.own i; above = [] } ∷ b.members i;
    }
  where
    space : List ℕ
    space = run.first.indentation

    ended : Bool
    ended = (last_row run.first run.others).ended

    b : IsBuilt v space end ended n s ss
    b = built law laws v space end ended n s ss spaces is ready.0 ready.1

    new : Run
    new = record { first = b.row; others = b.others }

    above_us : List (List Piece)
    above_us = above_units space end s.above ready.0.above

    above : List Row
    above = above_rows space end s.above ready.0.above

    above_lines_are : AreLines end true above_us above
    above_lines_are = above_lines law laws space end s.above ready.0.above spaces is

    units : List (List Piece)
    units = above_us ++ (b.first ∷ b.later)

    all_rows : List Row
    all_rows = above ++ (b.row ∷ (flat_map further_rows b.others ++ b.blanks))

    head : AreHeaded units
    head = headed space end s.above ready.0.above b.first b.later

    lines : AreLines end ended units all_rows
    lines = lines_append end ended above_us (b.first ∷ b.later) above (b.row ∷ (flat_map further_rows b.others ++ b.blanks)) above_lines_are b.lines

    aboves : List (List ℕ)
    aboves = map (λ c. space ++ c) s.above

    after : List (List ℕ)
    after = lines_after v space end s ss

    last_blanks : List (List ℕ)
    last_blanks = replicate (blanks_of ended n) []

    bytes : bytes_of units ≡ own
    bytes =
        text_is end ended n (block_lines v space end (s ∷ ss)) (bytes_of units) (some_first (aboves ++ own_text v space end s ∷ []) after (some_append aboves _ (_, _, refl)))
        (ap (λ (t : List ℕ). t ++ missing ended end) (bytes_of-append above_us (b.first ∷ b.later))
        ∙ append_assoc (bytes_of above_us) (bytes_of (b.first ∷ b.later)) (missing ended end)
        ∙ (λ i. above_text space end s.above ready.0.above spaces is i ++ b.text i)
        ∙ sym (flat_map-append (λ (l : List ℕ). l ++ end) aboves (own_text v space end s ∷ (after ++ last_blanks)))
        ∙ ap (ended_lines end) (lines_apart aboves (own_text v space end s) after last_blanks))
        ∙ sym text

    whole : AreUnitRows false (units ++ zs) (above ++ (run_rows new ++ (b.blanks ++ rest)))
    whole =
        subst (AreUnitRows false (units ++ zs)) (moved above (b.row ∷ flat_map further_rows b.others) b.blanks rest)
        (lines_rows end ended units zs all_rows rest lines rows)
