-- The blocks found are those of the rows so far.
use Rattle.std.proofs.Common.{◌≡◌, ℕ, ◌+◌, Bool, true, false, cond, ◌&&◌, Option, None, Some, List, [], ◌∷◌, ◌++◌, length, MatchOption, refl, sym, ap, ◌∙◌, subst, append_assoc, append-nil, arith}
use Rattle.std.specs.Prelude.{bytes_eq, option_map}
use Rattle.std.specs.List.{list_any}
use Rattle.std.specs.Option.{option_map_or}
use Rattle.std.proofs.lemmas.List.Folds.{list_any-append}
use Rattle.isort_sort.specs.Blocks.{is_member, begins_blank, Cut, rest, block, IsCutAtBlocks, member_of, role_is_member, role_stands_between}
use Rattle.isort_sort.specs.Private.Found.{Found, found_from, Open, Finding, EndInOpenRun, IsClosed, IsFinding, with_blank, with_comments, with_member, begun_with, closed_block, closed_found, after_blank, after_comments, after_other, after_member, goes_on_at}
use Rattle.isort_sort.specs.Member.{Member}
use Rattle.isort_sort.specs.Row.{Before, one, Row, comments, blank, other}
use Rattle.isort_sort.specs.Sorted.{texts_of, before_role}
use Rattle.isort_sort.proofs.Finding.Steps.{texts_len, blank_step, comments_step, member_step, begin_step, Stops, stops_at, no_blank, begins_later, none_between, IsEndedRun, ended, open_place}
use Rattle.isort_sort.proofs.Finding.RoleTests.{of_member}
use Rattle.std.proofs.lemmas.Bool.{and_right}

-- at the start
pub nothing_found : (mark : ℕ) → IsFinding mark [] (record { found = []; opened = None; place = mark })
nothing_found mark = record {
  left = [];
  at = mark;
  closed = record { wrap = λ cut. cut; cuts = λ more cut is. is; spans = λ more cut is. refl };
  place = omega arith;
  now = refl;
}

-- a row more among those that are left
closed_pushed : (mark : ℕ) (rows left : List Row) (found : List Found) (at : ℕ) (row : Row) → IsClosed mark rows left found at → IsClosed mark (rows ++ row ∷ []) (left ++ row ∷ []) found at
closed_pushed mark rows left found at row c = record {
  wrap = c.wrap;
  cuts = λ more cut is. subst (λ (all : List Row). IsCutAtBlocks all (c.wrap cut)) (sym (append_assoc rows (row ∷ []) more)) (c.cuts (row ∷ more) cut (subst (λ (all : List Row). IsCutAtBlocks all cut) (append_assoc left (row ∷ []) more) is));
  spans = λ more cut is. c.spans (row ∷ more) cut (subst (λ (all : List Row). IsCutAtBlocks all cut) (append_assoc left (row ∷ []) more) is);
}

place_pushed : (at place stop : ℕ) (left : List Row) (row : Row) → place ≡ at + length (texts_of left) → stop ≡ place + length row.text → stop ≡ at + length (texts_of (left ++ row ∷ []))
place_pushed at place stop left row p s = omega (arith, texts_len left (row ∷ []), single row)
  where
    single : (r : Row) → length (texts_of (r ∷ [])) ≡ length r.text
    single r = ap length (append-nil r.text)

none_pushed : (left : List Row) (row : Row) → list_any is_member left ≡ false → is_member row ≡ false → list_any is_member (left ++ row ∷ []) ≡ false
none_pushed left row h k = list_any-append is_member left (row ∷ []) ∙ rw (h, k)

-- a row more, after which the blocks found are the same
left_pushed : (mark : ℕ) (rows : List Row) (f : Finding) (row : Row) (opened : Option Open) (stop : ℕ) (h : IsFinding mark rows f) → stop ≡ f.place + length row.text → (stop ≡ h.at + length (texts_of (h.left ++ row ∷ [])) → MatchOption opened (list_any is_member (h.left ++ row ∷ []) ≡ false) (EndInOpenRun h.at (h.left ++ row ∷ []))) → IsFinding mark (rows ++ row ∷ []) (record { found = f.found; opened = opened; place = stop })
left_pushed mark rows f row opened stop h s now =
    let stops = place_pushed h.at f.place stop h.left row h.place s in
    record { left = h.left ++ row ∷ []; at = h.at; closed = closed_pushed mark rows h.left f.found h.at row h.closed; place = stops; now = now stops }

pub found_blank : (mark : ℕ) (rows : List Row) (f : Finding) (row : Row) (stop : ℕ) → IsFinding mark rows f → row.role ≡ blank → stop ≡ f.place + length row.text → IsFinding mark (rows ++ row ∷ []) (after_blank stop row.ended f)
found_blank mark rows f row stop h r s = left_pushed mark rows f row _ stop h s (λ stops. by stops f.opened h.now)
  where
    by : stop ≡ h.at + length (texts_of (h.left ++ row ∷ [])) → (x : Option Open) → MatchOption x (list_any is_member h.left ≡ false) (EndInOpenRun h.at h.left) → MatchOption (option_map (with_blank stop row.ended) x) (list_any is_member (h.left ++ row ∷ []) ≡ false) (EndInOpenRun h.at (h.left ++ row ∷ []))
    by stops None now = none_pushed h.left row now (ap role_is_member r)
    by stops (Some o) now = blank_step h.at h.left o row stop now r stops

pub found_comments : (mark : ℕ) (rows : List Row) (f : Finding) (row : Row) (stop : ℕ) (cs passed : List (List ℕ)) → IsFinding mark rows f → row.role ≡ comments cs → MatchOption f.opened (Unit {0}) (λ o. passed ≡ cs) → stop ≡ f.place + length row.text → IsFinding mark (rows ++ row ∷ []) (after_comments stop passed f)
found_comments mark rows f row stop cs passed h r same s = left_pushed mark rows f row _ stop h s (λ stops. by f.opened h.now same)
  where
    by : (x : Option Open) → MatchOption x (list_any is_member h.left ≡ false) (EndInOpenRun h.at h.left) → MatchOption x (Unit {0}) (λ o. passed ≡ cs) → MatchOption (option_map (with_comments passed) x) (list_any is_member (h.left ++ row ∷ []) ≡ false) (EndInOpenRun h.at (h.left ++ row ∷ []))
    by None now same = none_pushed h.left row now (ap role_is_member r)
    by (Some o) now same = comments_step h.at h.left o row passed now (r ∙ ap comments (sym same))

-- a block ends before a row
pub closed_at : (mark : ℕ) (rows left : List Row) (found : List Found) (at : ℕ) (o : Open) (row : Row) (c : IsClosed mark rows left found at) (h : EndInOpenRun at left o) → Stops h.run.first.indentation row → IsClosed mark (rows ++ row ∷ []) (h.later ++ row ∷ []) (found ++ closed_block (Some (before_role row.role)) o ∷ []) o.found.stop
closed_at mark rows left found at o row c h s =
    let end : (more : List Row) → IsEndedRun at left (row ∷ more) o h (Some (before_role row.role)) = λ more. ended at left (row ∷ more) o h (stops_at h.run.first.indentation row more s) (begins_later h.later more row h.ends (no_blank row.role s.between)) in
    record {
      wrap = λ cut. c.wrap (block h.before h.run h.blanks cut);
      cuts = λ more cut is.
          subst (λ (all : List Row). IsCutAtBlocks all (c.wrap (block h.before h.run h.blanks cut))) (sym (append_assoc rows (row ∷ []) more))
          (c.cuts (row ∷ more) (block h.before h.run h.blanks cut) ((end more).cuts cut (subst (λ (all : List Row). IsCutAtBlocks all cut) (append_assoc h.later (row ∷ []) more) is)));
      spans = λ more cut is.
          let of_rest = subst (λ (all : List Row). IsCutAtBlocks all cut) (append_assoc h.later (row ∷ []) more) is in
          c.spans (row ∷ more) (block h.before h.run h.blanks cut) ((end more).cuts cut of_rest)
          ∙ ap (λ (fs : List Found). found ++ fs) ((end more).spans cut of_rest)
          ∙ sym (append_assoc found (closed_block (Some (before_role row.role)) o ∷ []) (found_from o.found.stop cut));
    }

-- the blocks found before a row that ends a run, with the rows that are left: those after the last block, and the row
record IsCleared (mark : ℕ) (rows : List Row) (f : Finding) (row : Row) : Type 0 where
  left : List Row
  at : ℕ
  closed : IsClosed mark (rows ++ row ∷ []) (left ++ row ∷ []) (closed_found (Some (before_role row.role)) f) at
  place : f.place ≡ at + length (texts_of left)
  none : list_any is_member left ≡ false

-- the row ends the run that may go on, if there is one
abbrev pub EndsRun : Finding → Row → Type 0
EndsRun f row = (o : Open) → f.opened ≡ Some o → Stops o.found.indentation row

cleared : (mark : ℕ) (rows : List Row) (f : Finding) (row : Row) → IsFinding mark rows f → EndsRun f row → IsCleared mark rows f row
cleared mark rows f row h ends = by f.opened refl h.now
  where
    by : (x : Option Open) → f.opened ≡ x → MatchOption x (list_any is_member h.left ≡ false) (EndInOpenRun h.at h.left) → IsCleared mark rows f row
    by None e now = record {
      left = h.left;
      at = h.at;
      closed = subst (λ (found : List Found). IsClosed mark (rows ++ row ∷ []) (h.left ++ row ∷ []) found h.at) (sym (ap (λ (x : Option Open). option_map_or (λ (o : Open). f.found ++ closed_block (Some (before_role row.role)) o ∷ []) x f.found) e)) (closed_pushed mark rows h.left f.found h.at row h.closed);
      place = h.place;
      none = now;
    }
    by (Some o) e now =
        let stops : Stops now.run.first.indentation row = subst (λ (i : List ℕ). Stops i row) (ap (λ (x : Found). x.indentation) now.found) (ends o e) in
        record {
          left = now.later;
          at = o.found.stop;
          closed = subst (λ (found : List Found). IsClosed mark (rows ++ row ∷ []) (now.later ++ row ∷ []) found o.found.stop) (sym (ap (λ (x : Option Open). option_map_or (λ (o : Open). f.found ++ closed_block (Some (before_role row.role)) o ∷ []) x f.found) e)) (closed_at mark rows h.left f.found h.at o row h.closed now stops);
          place = h.place ∙ open_place h.at h.left o now;
          none = none_between now.later now.between;
        }

-- a row that no block takes in
pub found_other : (mark : ℕ) (rows : List Row) (f : Finding) (row : Row) (stop : ℕ) (b : Before) → IsFinding mark rows f → row.role ≡ other b → stop ≡ f.place + length row.text → IsFinding mark (rows ++ row ∷ []) (after_other stop b f)
found_other mark rows f row stop b h r s =
    let c = cleared mark rows f row h (λ o e. record { between = ap role_stands_between r; further = ap (λ x. role_is_member x && bytes_eq row.indentation o.found.indentation) r }) in
    record {
      left = c.left ++ row ∷ [];
      at = c.at;
      closed = subst (λ (next : Before). IsClosed mark (rows ++ row ∷ []) (c.left ++ row ∷ []) (closed_found (Some next) f) c.at) (ap before_role r) c.closed;
      place = place_pushed c.at f.place stop c.left row c.place s;
      now = none_pushed c.left row c.none (ap role_is_member r);
    }

-- a member
pub found_member : (mark : ℕ) (rows : List Row) (f : Finding) (row : Row) (stop : ℕ) (m : Member) → IsFinding mark rows f → is_member row ≡ true → m ≡ member_of [] row → stop ≡ f.place + length row.text → IsFinding mark (rows ++ row ∷ []) (after_member stop row.ended row.indentation m f)
found_member mark rows f row stop m h is value s = by f.opened refl h.now
  where
    anew : EndsRun f row → IsFinding mark (rows ++ row ∷ []) (record { found = closed_found (Some one) f; opened = Some (begun_with f.place stop row.ended row.indentation m); place = stop })
    anew ends =
        let c = cleared mark rows f row h ends in
        let stops = place_pushed c.at f.place stop c.left row c.place s in
        record {
          left = c.left ++ row ∷ [];
          at = c.at;
          closed = subst (λ (next : Before). IsClosed mark (rows ++ row ∷ []) (c.left ++ row ∷ []) (closed_found (Some next) f) c.at) (of_member row.role is).asks c.closed;
          place = stops;
          now = begin_step c.at c.left row f.place stop m c.none is value c.place stops;
        }

    going : (o : Open) → f.opened ≡ Some o → EndInOpenRun h.at h.left o → bytes_eq row.indentation o.found.indentation ≡ true → IsFinding mark (rows ++ row ∷ []) (record { found = f.found; opened = option_map (with_member stop row.ended m) f.opened; place = stop })
    going o e now same =
        left_pushed mark rows f row _ stop h s (λ stops.
        subst (λ (x : Option Open). MatchOption (option_map (with_member stop row.ended m) x) (list_any is_member (h.left ++ row ∷ []) ≡ false) (EndInOpenRun h.at (h.left ++ row ∷ []))) (sym e) (member_step h.at h.left o row stop m now is same value stops))

    with_test : (b : Bool) → goes_on_at row.indentation f.opened ≡ b → IsFinding mark (rows ++ row ∷ []) (cond b (record { found = f.found; opened = option_map (with_member stop row.ended m) f.opened; place = stop }) (record { found = closed_found (Some one) f; opened = Some (begun_with f.place stop row.ended row.indentation m); place = stop })) → IsFinding mark (rows ++ row ∷ []) (after_member stop row.ended row.indentation m f)
    with_test b e is_so = subst (λ (t : Bool). IsFinding mark (rows ++ row ∷ []) (cond t (record { found = f.found; opened = option_map (with_member stop row.ended m) f.opened; place = stop }) (record { found = closed_found (Some one) f; opened = Some (begun_with f.place stop row.ended row.indentation m); place = stop }))) (sym e) is_so

    open_one : (o : Open) → f.opened ≡ Some o → EndInOpenRun h.at h.left o → (b : Bool) → bytes_eq row.indentation o.found.indentation ≡ b → IsFinding mark (rows ++ row ∷ []) (after_member stop row.ended row.indentation m f)
    open_one o e now true same = with_test true (ap (goes_on_at row.indentation) e ∙ same) (going o e now same)
    open_one o e now false same =
        with_test false (ap (goes_on_at row.indentation) e ∙ same)
        (anew (λ p k. record { between = (of_member row.role is).between; further = and_right (is_member row) _ (ap (λ (x : Option Open). goes_on_at row.indentation x) (sym k ∙ e) ∙ same) }))

    by : (x : Option Open) → f.opened ≡ x → MatchOption x (list_any is_member h.left ≡ false) (EndInOpenRun h.at h.left) → IsFinding mark (rows ++ row ∷ []) (after_member stop row.ended row.indentation m f)
    by None e now = with_test false (ap (goes_on_at row.indentation) e) (anew (λ o k. absurd (let impossible : Some o ≡ None = sym k ∙ e in cc)))
    by (Some o) e now = open_one o e now (bytes_eq row.indentation o.found.indentation) refl

-- all blocks of the rows
pub record AreAll (mark : ℕ) (rows : List Row) (all : List Found) : Type 0 where
  pub cut : Cut
  pub is : IsCutAtBlocks rows cut
  pub found : all ≡ found_from mark cut

pub all_found : (mark : ℕ) (rows : List Row) (f : Finding) → IsFinding mark rows f → AreAll mark rows (closed_found None f)
all_found mark rows f h = by f.opened refl h.now
  where
    whole : (cut : Cut) → IsCutAtBlocks (rows ++ []) cut → IsCutAtBlocks rows cut
    whole cut is = subst (λ (all : List Row). IsCutAtBlocks all cut) (append-nil rows) is

    by : (x : Option Open) → f.opened ≡ x → MatchOption x (list_any is_member h.left ≡ false) (EndInOpenRun h.at h.left) → AreAll mark rows (closed_found None f)
    by None e now =
        let last : IsCutAtBlocks (h.left ++ []) (rest h.left) = record { all = sym (append-nil h.left); blocks = now } in
        record {
          cut = h.closed.wrap (rest h.left);
          is = whole (h.closed.wrap (rest h.left)) (h.closed.cuts [] (rest h.left) last);
          found = ap (λ (x : Option Open). option_map_or (λ (o : Open). f.found ++ closed_block None o ∷ []) x f.found) e ∙ sym (h.closed.spans [] (rest h.left) last ∙ append-nil f.found);
        }
    by (Some o) e now =
        let last : IsCutAtBlocks (now.later ++ []) (rest now.later) = record { all = sym (append-nil now.later); blocks = none_between now.later now.between } in
        let end : IsEndedRun h.at h.left [] o now None = ended h.at h.left [] o now refl (ap begins_blank (append-nil now.later) ∙ now.ends) in
        let cut : Cut = block now.before now.run now.blanks (rest now.later) in
        let is = end.cuts (rest now.later) last in
        record {
          cut = h.closed.wrap cut;
          is = whole (h.closed.wrap cut) (h.closed.cuts [] cut is);
          found = ap (λ (x : Option Open). option_map_or (λ (o : Open). f.found ++ closed_block None o ∷ []) x f.found) e ∙ sym (h.closed.spans [] cut is ∙ ap (λ (fs : List Found). f.found ++ fs) (end.spans (rest now.later) last));
        }
