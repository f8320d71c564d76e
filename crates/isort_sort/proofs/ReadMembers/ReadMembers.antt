-- The members of a block, as their logical lines are read.
use Rattle.std.proofs.Common.{◌≡◌, ℕ, true, false, ◌&&◌, List, [], ◌∷◌, ◌++◌, map, flat_map, refl, sym, ap, ◌∙◌, subst}
use Rattle.std.specs.Prelude.{bytes_eq}
use Rattle.std.specs.List.{AllByRecursion, Contains, list_any, list_all}
use Rattle.std.proofs.lemmas.Bool.{and_parts}
use Rattle.py_lines.specs.Character.{is_space}
use Rattle.py_lines.specs.LogicalLine.{LogicalLine}
use Rattle.py_lines.specs.Piece.{Piece}
use Rattle.py_imports.specs.ActionComment.{says}
use Rattle.py_imports.specs.Grammar.{Imported}
use Rattle.py_imports.specs.declared.action_comment.ActionComment.TheVariants as action
use Rattle.isort_settings.specs.Values.{Values}
use Rattle.isort_sort.specs.Blocks.{role_is_member, role_stands_between, role_imports, role_own, role_comments, is_member, stands_between, comments_in, Further, further_rows, Run, run_rows, goes_on, is_run, member_of, members_of}
use Rattle.isort_sort.specs.Layout.{Laid, EachIsLaid, AreLaid}
use Rattle.isort_sort.specs.Line.{own_comments, AreOwnComments}
use Rattle.isort_sort.specs.Member.{Member, imports_of, owned, comments_of}
use Rattle.isort_sort.specs.Row.{Role, member, comments, blank, Row, HasRole}
use Rattle.isort_sort.specs.Statement.{Statement, statement_of}
use Rattle.isort_sort.specs.WrittenLine.{AreRemarks, IsReadMember, AreReadMembers, EachIsWritten}
use Rattle.isort_sort.proofs.Orders.Contained.{map_in}
use Rattle.isort_sort.proofs.Orders.InOrder.{nothing_in, head_in}
use Rattle.isort_sort.proofs.LineLaws.Units.{IsUnit}
use Rattle.isort_sort.proofs.WrittenLines.UnitRows.{TokenLaws, unit_line}
use Rattle.isort_sort.proofs.WrittenLines.LineUnits.{says_skip_file, IsAbove, AreAbove}
use Rattle.isort_sort.proofs.LineLaws.Each.{each-append, each-map, each-false, none-of}
use Rattle.isort_sort.proofs.WrittenStatements.Sources.{each-first_texts, each-owned}
use Rattle.isort_sort.proofs.LineLaws.Joined.{AreSome, some_first}
use Rattle.isort_sort.proofs.WrittenLines.BlockUnits.{AreWritable}
use Rattle.isort_sort.proofs.ReadMembers.OldBlock.{IsSeen, AreSeen}
use Rattle.isort_sort.proofs.ReadMembers.ReadComments.{comments_above, remarks_of_unit, own_unskipped}
use Rattle.isort_sort.proofs.ReadMembers.ReadImports.{ImportLaws, imports_named, imports_some, indentation_spaces}

-- the comments of a line are comments as a statement joins them
abbrev pub OwnLaw : Type 0
OwnLaw = (line : LogicalLine) → AreOwnComments (own_comments line)

-- each is a logical line that is read, and doesn't ask for the text to be left as it is
abbrev pub AreReadLines : List (List Piece) → Type 0
AreReadLines [] = Unit {0}
AreReadLines (u ∷ us) = IsUnit u × (says_skip_file u ≡ false) × AreReadLines us

-- a member as it is read
pub record IsFine (m : Member) : Type 0 where
  pub read : IsReadMember m
  pub above : AreAbove m.above
  pub unskipped : list_any (says action.SkipFile) m.comments ≡ false

abbrev pub AreFine : List Member → Type 0
AreFine members = AllByRecursion IsFine members

fine_row : TokenLaws → ImportLaws → OwnLaw → (u : List Piece) (above : List Row) (row : Row) → IsUnit u → says_skip_file u ≡ false → HasRole false (unit_line u) row.role → is_member row ≡ true → AreAbove (comments_in above) → IsFine (member_of above row)
fine_row tokens laws own u above row is skip role m h = by row.role role m
  where
    by : (r : Role) → HasRole false (unit_line u) r → role_is_member r ≡ true → IsFine (record { imports = role_imports r; comments = role_own r; above = comments_in above })
    by (member i cs) k e = record {
      read = record {
        named = imports_named laws u i is k.1;
        comments = subst AreRemarks (sym k.2) (remarks_of_unit tokens u is k.1.0.unskipped (own (unit_line u)));
      };
      above = h;
      unskipped = ap (list_any (says action.SkipFile)) k.2 ∙ own_unskipped u skip;
    }
    by _ k e = absurd (cc)

between_above : TokenLaws → (u : List Piece) (role : Role) → IsUnit u → says_skip_file u ≡ false → HasRole false (unit_line u) role → role_stands_between role ≡ true → AreAbove (role_comments role)
between_above tokens u (comments cs) is skip h k = comments_above tokens false u cs is skip h
between_above tokens u blank is skip h k = tt
between_above tokens u _ is skip h k = absurd (cc)

-- a further member, and what stands after it
record IsReadFurther (between : List Row) (row : Row) (rows : List Row) : Type 0 where
  u : List Piece
  us : List (List Piece)
  above : AreAbove (comments_in between)
  is : IsUnit u
  skip : says_skip_file u ≡ false
  seen : IsSeen u row
  lines : AreReadLines us
  later : AreSeen us rows

read_further : TokenLaws → (us : List (List Piece)) (between : List Row) (row : Row) (rows : List Row) → AreReadLines us → AreSeen us ((between ++ row ∷ []) ++ rows) → list_all stands_between between ≡ true → IsReadFurther between row rows
read_further tokens [] [] row rows h seen all = absurd seen
read_further tokens [] (b ∷ bs) row rows h seen all = absurd seen
read_further tokens (u ∷ us) [] row rows h seen all = record { u = u; us = us; above = tt; is = h.0; skip = h.1; seen = seen.0; lines = h.2; later = seen.1 }
read_further tokens (u ∷ us) (b ∷ bs) row rows h seen all =
    let parts = and_parts (stands_between b) (list_all stands_between bs) all in
    let more = read_further tokens us bs row rows h.2 seen.1 parts.1 in
    record {
      u = more.u;
      us = more.us;
      above = each-append IsAbove (role_comments b.role) (comments_in bs) (between_above tokens u b.role h.0 h.1 seen.0.role parts.0) more.above;
      is = more.is;
      skip = more.skip;
      seen = more.seen;
      lines = more.lines;
      later = more.later;
    }

fine_others : TokenLaws → ImportLaws → OwnLaw → (indentation : List ℕ) (us : List (List Piece)) (fs : List Further) → AreReadLines us → AreSeen us (flat_map further_rows fs) → list_all (goes_on indentation) fs ≡ true → AreFine (map (λ f. member_of f.between f.row) fs)
fine_others tokens laws own indentation us [] h seen all = tt
fine_others tokens laws own indentation us (f ∷ fs) h seen all =
    let parts = and_parts (goes_on indentation f) (list_all (goes_on indentation) fs) all in
    let one = and_parts (list_all stands_between f.between && is_member f.row) (bytes_eq f.row.indentation indentation) parts.0 in
    let two = and_parts (list_all stands_between f.between) (is_member f.row) one.0 in
    let r = read_further tokens us f.between f.row (flat_map further_rows fs) h seen two.0 in (
      fine_row tokens laws own r.u f.between f.row r.is r.skip r.seen.role two.1 r.above,
      fine_others tokens laws own indentation r.us fs r.lines r.later parts.1,
    )

-- the members of a run
pub record IsFineRun (run : Run) : Type 0 where
  pub members : AreFine (members_of run)
  pub some : AreSome (imports_of (members_of run))
  pub spaces : list_all is_space run.first.indentation ≡ true

first_some : (u : List Piece) (row : Row) → HasRole false (unit_line u) row.role → is_member row ≡ true → AreSome (role_imports row.role)
first_some u row role m = by row.role role m
  where
    by : (r : Role) → HasRole false (unit_line u) r → role_is_member r ≡ true → AreSome (role_imports r)
    by (member i cs) k e = imports_some (unit_line u) i k.1
    by _ k e = absurd (cc)

pub fine_run : TokenLaws → ImportLaws → OwnLaw → (us : List (List Piece)) (run : Run) → AreReadLines us → AreSeen us (run_rows run) → is_run run ≡ true → IsFineRun run
fine_run tokens laws own [] run h seen is = absurd seen
fine_run tokens laws own (u ∷ us) run h seen is =
    let parts = and_parts (is_member run.first) (list_all (goes_on run.first.indentation) run.others) is in
    record {
      members = (fine_row tokens laws own u [] run.first h.0 h.1 seen.0.role parts.0 tt, fine_others tokens laws own run.first.indentation us run.others h.2 seen.1 parts.1);
      some = some_first (role_imports run.first.role) (imports_of (map (λ f. member_of f.between f.row) run.others)) (first_some u run.first seen.0.role parts.0);
      spaces = ap (list_all is_space) seen.0.indentation ∙ indentation_spaces u h.0;
    }

pub read_members : (ms : List Member) → AreFine ms → AreReadMembers ms
read_members ms h = each-map IsFine IsReadMember (λ m f. f.read) ms h

-- what a statement takes of them
pub owned_above : (v : Values) (s : Statement) (ms : List Member) → AreFine ms → AreAbove (flat_map (λ m. m.above) (owned v ms s))
owned_above v s ms h = each-owned IsAbove (λ m. m.above) v s ms (each-map IsFine (λ m. AreAbove m.above) (λ m f. f.above) ms h)

owned_silent : (v : Values) (s : Statement) (ms : List Member) → AreFine ms → list_any (says action.SkipFile) (comments_of v ms s) ≡ false
owned_silent v s ms h =
    let IsSilent : List ℕ → Type 0 = λ c. says action.SkipFile c ≡ false in
    none-of (says action.SkipFile) (comments_of v ms s)
    (each-first_texts IsSilent (flat_map (λ m. m.comments) (owned v ms s))
    (each-owned IsSilent (λ m. m.comments) v s ms (each-map IsFine (λ m. AllByRecursion IsSilent m.comments) (λ m f. each-false (says action.SkipFile) m.comments f.unskipped) ms h)))

pub each_ready : (v : Values) (indentation end : List ℕ) (ms : List Member) (laid : List Laid) → AreFine ms → EachIsLaid v indentation ms laid → EachIsWritten v indentation end laid → AreWritable v indentation end laid
each_ready v indentation end ms [] h is w = tt
each_ready v indentation end ms (s ∷ ss) h is w = (
  record {
    pieces = w.0.0;
    written = w.0.1;
    above = subst AreAbove (sym is.0.above) (owned_above v s.statement ms h);
    unskipped = ap (list_any (says action.SkipFile)) is.0.comments ∙ owned_silent v s.statement ms h;
  },
  each_ready v indentation end ms ss h is.1 w.1,
)

-- a block has a statement
pub some_laid : (v : Values) (indentation : List ℕ) (ms : List Member) (laid : List Laid) → AreSome (imports_of ms) → AreLaid v indentation ms laid → AreSome laid
some_laid v indentation ms (s ∷ ss) some is = (s, ss, refl)
some_laid v indentation ms [] (x, xs, e) is =
    absurd (nothing_in (statement_of v x) ((is.statements.exactly (statement_of v x)).1 (map_in (statement_of v) (imports_of ms) x (subst (λ (l : List Imported). Contains l x) (sym e) (head_in x xs)))))
