-- What a row makes of the blocks found so far.
use Rattle.std.proofs.Common.{◌≡◌, ℕ, ◌+◌, Bool, true, false, cond, ◌&&◌, Option, None, Some, List, [], ◌∷◌, ◌++◌, length, length-append, flat_map, refl, sym, ap, ◌∙◌, subst, append_assoc, append-nil, arith, ◌||◌}
use Rattle.std.specs.Prelude.{bytes_eq}
use Rattle.std.specs.List.{list_any, list_all}
use Rattle.std.proofs.lemmas.Bool.{and_parts, and_from}
use Rattle.std.proofs.lemmas.List.Folds.{list_all-append}
use Rattle.std.proofs.lemmas.List.{map-append}
use Rattle.std.proofs.lemmas.List.Concat.{flat_map-append}
use Rattle.std.proofs.lemmas.List.Sums.{sum_by-append}
use Rattle.isort_sort.specs.Blocks.{is_member, stands_between, is_blank, Run, Further, further_rows, run_rows, is_run, goes_on, begins_blank, comments_in, member_of, members_of, leads_to, Cut, block, cut_rows, IsCutAtBlocks, role_is_blank, role_stands_between, role_comments}
use Rattle.isort_sort.specs.Private.Found.{Found, found_from, next_of, ended_among, Open, EndInOpenRun, is_some_row, with_blank, with_comments, with_member, begun_with, closed_block}
use Rattle.isort_sort.specs.Member.{Member}
use Rattle.isort_sort.specs.Row.{Before, as_many, Row, Role, comments, blank}
use Rattle.isort_sort.specs.Sorted.{texts_of, last_row, before_role}
use Rattle.isort_sort.proofs.Finding.RoleTests.{of_blank, no_member}

pub texts_append : (a b : List Row) → texts_of (a ++ b) ≡ texts_of a ++ texts_of b
texts_append a b = flat_map-append (λ (row : Row). row.text) a b

pub texts_len : (a b : List Row) → length (texts_of (a ++ b)) ≡ length (texts_of a) + length (texts_of b)
texts_len a b = ap length (texts_append a b) ∙ length-append (texts_of a) (texts_of b)

ended_append : (a b : List Row) → ended_among (a ++ b) ≡ ended_among a + ended_among b
ended_append a b = sum_by-append (λ (row : Row). cond row.ended 1 0) a b

push_all : (p : Row → Bool) (rows : List Row) (row : Row) → list_all p rows ≡ true → p row ≡ true → list_all p (rows ++ row ∷ []) ≡ true
push_all p rows row h k = list_all-append p rows (row ∷ []) ∙ and_from (list_all p rows) (p row && true) h (rw k)

-- one row more
more_split : (rows before run blanks later : List Row) (row : Row) → rows ≡ before ++ (run ++ (blanks ++ later)) → rows ++ row ∷ [] ≡ before ++ (run ++ (blanks ++ (later ++ row ∷ [])))
more_split rows before run blanks later row e = ap (λ (rs : List Row). rs ++ row ∷ []) e ∙ simp append_assoc

split_len : (rows before run blanks later : List Row) → rows ≡ before ++ (run ++ (blanks ++ later)) → length (texts_of rows) ≡ length (texts_of before) + (length (texts_of run) + (length (texts_of blanks) + length (texts_of later)))
split_len rows before run blanks later e =
    ap (λ (rs : List Row). length (texts_of rs)) e ∙ texts_len before (run ++ (blanks ++ later)) ∙ ap (λ n. length (texts_of before) + n) (texts_len run (blanks ++ later) ∙ ap (λ n. length (texts_of run) + n) (texts_len blanks later))

begins_pushed : (rows : List Row) (row : Row) (l : Row) (ls : List Row) → rows ≡ l ∷ ls → begins_blank rows ≡ false → begins_blank (rows ++ row ∷ []) ≡ false
begins_pushed rows row l ls e h = ap (λ (rs : List Row). begins_blank (rs ++ row ∷ [])) e ∙ sym (ap begins_blank e) ∙ h

some_pushed : (rows : List Row) (row : Row) → is_some_row (rows ++ row ∷ []) ≡ true
some_pushed [] row = refl
some_pushed (r ∷ rs) row = refl

comments_pushed : (rows : List Row) (row : Row) → comments_in (rows ++ row ∷ []) ≡ comments_in rows ++ (role_comments row.role ++ [])
comments_pushed rows row = flat_map-append (λ (r : Row). role_comments r.role) rows (row ∷ [])

-- a row more after comments that stand after the run
pushed_later : (at : ℕ) (rows : List Row) (o p : Open) (row : Row) (h : EndInOpenRun at rows o) → stands_between row ≡ true → begins_blank (h.later ++ row ∷ []) ≡ false → p.found ≡ o.found → p.above ≡ o.above ++ role_comments row.role → p.commented ≡ true → EndInOpenRun at (rows ++ row ∷ []) p
pushed_later at rows o p row h between ends found above commented = record {
  before = h.before;
  run = h.run;
  blanks = h.blanks;
  later = h.later ++ row ∷ [];
  split = more_split rows h.before (run_rows h.run) h.blanks h.later row h.split;
  none = h.none;
  is = h.is;
  blank_rows = h.blank_rows;
  between = push_all stands_between h.later row h.between between;
  ends = ends;
  found = found ∙ h.found;
  above = above ∙ ap (λ (l : List (List ℕ)). l ++ role_comments row.role) h.above ∙ sym (comments_pushed h.later row ∙ ap (λ (l : List (List ℕ)). comments_in h.later ++ l) (append-nil (role_comments row.role)));
  commented = commented ∙ sym (some_pushed h.later row);
}

-- a blank row
pub blank_step : (at : ℕ) (rows : List Row) (o : Open) (row : Row) (stop : ℕ) → EndInOpenRun at rows o → row.role ≡ blank → stop ≡ at + length (texts_of (rows ++ row ∷ [])) → EndInOpenRun at (rows ++ row ∷ []) (with_blank stop row.ended o)
blank_step at rows o row stop h r s = by h.later refl
  where
    by : (later : List Row) → h.later ≡ later → EndInOpenRun at (rows ++ row ∷ []) (with_blank stop row.ended o)
    by [] e =
        let not_yet : o.commented ≡ false = h.commented ∙ ap is_some_row e in
        let split : rows ++ row ∷ [] ≡ h.before ++ (run_rows h.run ++ ((h.blanks ++ row ∷ []) ++ [])) =
        more_split rows h.before (run_rows h.run) h.blanks [] row (h.split ∙ ap (λ (l : List Row). h.before ++ (run_rows h.run ++ (h.blanks ++ l))) e) ∙ ap (λ (l : List Row). h.before ++ (run_rows h.run ++ l)) (sym (append-nil (h.blanks ++ row ∷ []))) in
        let stops : stop ≡ at + length (texts_of h.before) + length (texts_of (run_rows h.run)) + length (texts_of (h.blanks ++ row ∷ [])) =
        omega (arith, split_len (rows ++ row ∷ []) h.before (run_rows h.run) (h.blanks ++ row ∷ []) [] split) in
        let count : o.found.blanks + cond row.ended 1 0 ≡ ended_among (h.blanks ++ row ∷ []) = omega (arith, ended_append h.blanks (row ∷ []), ap (λ (f : Found). f.blanks) h.found) in
        subst (EndInOpenRun at (rows ++ row ∷ [])) (sym (ap (λ (b : Bool). cond b o (record o { found = record o.found { stop = stop; blanks = o.found.blanks + cond row.ended 1 0 } })) not_yet))
        (record {
          before = h.before;
          run = h.run;
          blanks = h.blanks ++ row ∷ [];
          later = [];
          split = split;
          none = h.none;
          is = h.is;
          blank_rows = push_all is_blank h.blanks row h.blank_rows (ap role_is_blank r);
          between = refl;
          ends = refl;
          found = (λ i. record (h.found i) { stop = stops i; blanks = count i });
          above = h.above ∙ ap comments_in e;
          commented = not_yet;
        })
    by (l ∷ ls) e =
        let commented : o.commented ≡ true = h.commented ∙ ap is_some_row e in
        subst (EndInOpenRun at (rows ++ row ∷ [])) (sym (ap (λ (b : Bool). cond b o (record o { found = record o.found { stop = stop; blanks = o.found.blanks + cond row.ended 1 0 } })) commented))
        (pushed_later at rows o o row h (ap role_stands_between r) (begins_pushed h.later row l ls e h.ends) refl (sym (ap (λ (x : Role). o.above ++ role_comments x) r ∙ append-nil o.above)) commented)

-- a row with comments
pub comments_step : (at : ℕ) (rows : List Row) (o : Open) (row : Row) (cs : List (List ℕ)) → EndInOpenRun at rows o → row.role ≡ comments cs → EndInOpenRun at (rows ++ row ∷ []) (with_comments cs o)
comments_step at rows o row cs h r =
    pushed_later at rows o (with_comments cs o) row h (ap role_stands_between r) (ends h.later h.ends) refl (sym (ap (λ (x : Role). o.above ++ role_comments x) r)) refl
  where
    ends : (later : List Row) → begins_blank later ≡ false → begins_blank (later ++ row ∷ []) ≡ false
    ends [] e = ap role_is_blank r
    ends (l ∷ ls) e = e

-- the rows of a run with one member more
run_pushed : (run : Run) (f : Further) → run_rows (record { first = run.first; others = run.others ++ f ∷ [] }) ≡ run_rows run ++ further_rows f
run_pushed run f = ap (λ (rs : List Row). run.first ∷ rs) (flat_map-append further_rows run.others (f ∷ []) ∙ ap (λ (rs : List Row). flat_map further_rows run.others ++ rs) (append-nil (further_rows f)))

last_pushed : (row : Row) (fs : List Further) (f : Further) → last_row row (fs ++ f ∷ []) ≡ f.row
last_pushed row [] f = refl
last_pushed row (g ∷ gs) f = last_pushed g.row gs f

is_run_pushed : (run : Run) (f : Further) → is_run run ≡ true → goes_on run.first.indentation f ≡ true → is_run (record { first = run.first; others = run.others ++ f ∷ [] }) ≡ true
is_run_pushed run f h k =
    let parts = and_parts (is_member run.first) (list_all (goes_on run.first.indentation) run.others) h in
    and_from _ _ parts.0 (list_all-append (goes_on run.first.indentation) run.others (f ∷ []) ∙ and_from _ _ parts.1 (rw k))

pub blanks_between : (rows : List Row) → list_all is_blank rows ≡ true → list_all stands_between rows ≡ true
blanks_between [] h = refl
blanks_between (row ∷ rows) h =
    let parts = and_parts (is_blank row) (list_all is_blank rows) h in
    and_from _ _ (of_blank row.role parts.0).between (blanks_between rows parts.1)

no_comments : (rows : List Row) → list_all is_blank rows ≡ true → comments_in rows ≡ []
no_comments [] h = refl
no_comments (row ∷ rows) h =
    let parts = and_parts (is_blank row) (list_all is_blank rows) h in
    ap (λ (l : List (List ℕ)). l ++ comments_in rows) (of_blank row.role parts.0).no_comments ∙ no_comments rows parts.1

-- a member that goes on
pub member_step : (at : ℕ) (rows : List Row) (o : Open) (row : Row) (stop : ℕ) (m : Member) → EndInOpenRun at rows o → is_member row ≡ true → bytes_eq row.indentation o.found.indentation ≡ true → m ≡ member_of [] row → stop ≡ at + length (texts_of (rows ++ row ∷ [])) → EndInOpenRun at (rows ++ row ∷ []) (with_member stop row.ended m o)
member_step at rows o row stop m h is same value s =
    let f : Further = record { between = h.blanks ++ h.later; row = row } in
    let run : Run = record { first = h.run.first; others = h.run.others ++ f ∷ [] } in
    let rows_of_run : run_rows run ≡ run_rows h.run ++ ((h.blanks ++ h.later) ++ row ∷ []) = run_pushed h.run f in
    let split : rows ++ row ∷ [] ≡ h.before ++ (run_rows run ++ ([] ++ [])) =
    more_split rows h.before (run_rows h.run) h.blanks h.later row h.split ∙ ap (λ (rs : List Row). h.before ++ (run_rows h.run ++ rs)) (sym (append_assoc h.blanks h.later (row ∷ []))) ∙ ap (λ (rs : List Row). h.before ++ rs) (sym rows_of_run ∙ sym (append-nil (run_rows run))) in
    let between : list_all stands_between (h.blanks ++ h.later) ≡ true = list_all-append stands_between h.blanks h.later ∙ and_from _ _ (blanks_between h.blanks h.blank_rows) h.between in
    let indentation : bytes_eq row.indentation h.run.first.indentation ≡ true = subst (λ (i : List ℕ). bytes_eq row.indentation i ≡ true) (ap (λ (x : Found). x.indentation) h.found) same in
    let goes : goes_on h.run.first.indentation f ≡ true = and_from _ _ (and_from _ _ between is) indentation in
    let above : o.above ≡ comments_in (h.blanks ++ h.later) = h.above ∙ sym (flat_map-append (λ (r : Row). role_comments r.role) h.blanks h.later ∙ ap (λ (l : List (List ℕ)). l ++ comments_in h.later) (no_comments h.blanks h.blank_rows)) in
    let stops : stop ≡ at + length (texts_of h.before) + length (texts_of (run_rows run)) + 0 =
    omega (arith, s, split_len (rows ++ row ∷ []) h.before (run_rows run) [] [] split) in
    let members : o.found.members ++ record m { above = o.above } ∷ [] ≡ members_of run =
    (λ i. (h.found i).members ++ record (value i) { above = above i } ∷ []) ∙ sym (ap (λ (ms : List Member). member_of [] h.run.first ∷ ms) (map-append (λ (g : Further). member_of g.between g.row) h.run.others (f ∷ []))) in
    record {
      before = h.before;
      run = run;
      blanks = [];
      later = [];
      split = split;
      none = h.none;
      is = is_run_pushed h.run f h.is goes;
      blank_rows = refl;
      between = refl;
      ends = refl;
      found = (λ i. record (h.found i) { stop = stops i; members = members i; ended = ap (λ (r : Row). r.ended) (sym (last_pushed h.run.first h.run.others f)) i; blanks = 0 });
      above = refl;
      commented = refl;
    }

-- a member that begins a run
pub begin_step : (at : ℕ) (rows : List Row) (row : Row) (place stop : ℕ) (m : Member) → list_any is_member rows ≡ false → is_member row ≡ true → m ≡ member_of [] row → place ≡ at + length (texts_of rows) → stop ≡ at + length (texts_of (rows ++ row ∷ [])) → EndInOpenRun at (rows ++ row ∷ []) (begun_with place stop row.ended row.indentation m)
begin_step at rows row place stop m none is value p s =
    let run : Run = record { first = row; others = [] } in
    let stops : stop ≡ at + length (texts_of rows) + length (texts_of (run_rows run)) + 0 = omega (arith, s, texts_len rows (row ∷ [])) in
    record {
      before = rows;
      run = run;
      blanks = [];
      later = [];
      split = refl;
      none = none;
      is = and_from _ _ is refl;
      blank_rows = refl;
      between = refl;
      ends = refl;
      found = (λ i. record { start = p i; stop = stops i; indentation = row.indentation; members = value i ∷ []; ended = row.ended; blanks = 0; next = None });
      above = refl;
      commented = refl;
    }

-- none of the rows that may stand between members is a member
pub none_between : (rows : List Row) → list_all stands_between rows ≡ true → list_any is_member rows ≡ false
none_between [] h = refl
none_between (r ∷ rs) h = let parts = and_parts (stands_between r) (list_all stands_between rs) h in rw (no_member r.role parts.0, none_between rs parts.1)

-- rows that may stand between members lead on to what stands after them
pub leads_over : (indentation : List ℕ) (rows more : List Row) → list_all stands_between rows ≡ true → leads_to indentation (rows ++ more) ≡ leads_to indentation more
leads_over indentation [] more h = refl
leads_over indentation (r ∷ rs) more h =
    let parts = and_parts (stands_between r) (list_all stands_between rs) h in
    (λ i. (no_member r.role parts.0 i && bytes_eq r.indentation indentation) || (parts.0 i && leads_to indentation (rs ++ more))) ∙ leads_over indentation rs more parts.1

-- a row that is neither between members nor a further member ends a run
pub record Stops (indentation : List ℕ) (row : Row) : Type 0 where
  pub between : stands_between row ≡ false
  pub further : is_member row && bytes_eq row.indentation indentation ≡ false

pub stops_at : (indentation : List ℕ) (row : Row) (more : List Row) → Stops indentation row → leads_to indentation (row ∷ more) ≡ false
stops_at indentation row more s = rw (s.further, s.between)

pub no_blank : (x : Role) → role_stands_between x ≡ false → role_is_blank x ≡ false
no_blank blank h = absurd (cc)
no_blank _ h = refl

pub begins_later : (later more : List Row) (row : Row) → begins_blank later ≡ false → is_blank row ≡ false → begins_blank (later ++ row ∷ more) ≡ false
begins_later [] more row h k = k
begins_later (l ∷ ls) more row h k = h

-- the first row after the blank lines of a run that has ended
after_comment : (x : Role) → role_stands_between x ≡ true → role_is_blank x ≡ false → before_role x ≡ as_many
after_comment (comments cs) h k = refl
after_comment _ h k = absurd (cc)

next_after : (later more : List Row) → list_all stands_between later ≡ true → begins_blank later ≡ false → next_of (later ++ more) ≡ cond (is_some_row later) (Some as_many) (next_of more)
next_after [] more h k = refl
next_after (l ∷ ls) more h k = ap (λ (b : Before). Some b) (after_comment l.role (and_parts (stands_between l) (list_all stands_between ls) h).0 k)

-- where the rows end, by the open run
pub open_place : (at : ℕ) (left : List Row) (o : Open) (h : EndInOpenRun at left o) → at + length (texts_of left) ≡ o.found.stop + length (texts_of h.later)
open_place at left o h = omega (arith, split_len left h.before (run_rows h.run) h.blanks h.later h.split, ap (λ (f : Found). f.stop) h.found)

-- the block of an open run that ends before these rows
pub record IsEndedRun (at : ℕ) (left more : List Row) (o : Open) (h : EndInOpenRun at left o) (next : Option Before) : Type 0 where
  pub cuts : (cut : Cut) → IsCutAtBlocks (h.later ++ more) cut → IsCutAtBlocks (left ++ more) (block h.before h.run h.blanks cut)
  pub spans : (cut : Cut) → IsCutAtBlocks (h.later ++ more) cut → found_from at (block h.before h.run h.blanks cut) ≡ closed_block next o ∷ found_from o.found.stop cut

pub ended : (at : ℕ) (left more : List Row) (o : Open) (h : EndInOpenRun at left o) → leads_to h.run.first.indentation more ≡ false → begins_blank (h.later ++ more) ≡ false → IsEndedRun at left more o h (next_of more)
ended at left more o h stops begins = record {
  cuts = λ cut is. record {
    all = ap (λ (rows : List Row). h.before ++ (run_rows h.run ++ (h.blanks ++ rows))) is.all ∙ sym (simp append_assoc at (ap (λ (rows : List Row). rows ++ more) h.split));
    blocks = (
      h.none,
      h.is,
      ap (λ (rows : List Row). leads_to h.run.first.indentation (h.blanks ++ rows)) is.all ∙ leads_over h.run.first.indentation h.blanks (h.later ++ more) (blanks_between h.blanks h.blank_rows) ∙ leads_over h.run.first.indentation h.later more h.between ∙ stops,
      h.blank_rows,
      ap begins_blank is.all ∙ begins,
      is.blocks,
    );
  };
  spans = λ cut is.
      let next : next_of (cut_rows cut) ≡ cond o.commented (Some as_many) (next_of more) = ap next_of is.all ∙ next_after h.later more h.between h.ends ∙ ap (λ (b : Bool). cond b (Some as_many) (next_of more)) (sym h.commented) in
      λ i. record (sym h.found i) { next = next i } ∷ found_from (sym h.found i).stop cut;
}
