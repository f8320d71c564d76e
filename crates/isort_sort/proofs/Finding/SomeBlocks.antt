-- Rows have a cut at blocks: the one that the program finds row by row.
use Rattle.std.proofs.Common.{◌≡◌, ℕ, ◌+◌, Option, None, Some, List, [], ◌∷◌, ◌++◌, length, MatchOption, refl, sym, ap, subst, append_assoc, append-nil}
use Rattle.isort_sort.specs.Blocks.{Cut, IsCutAtBlocks, member_of, role_is_member}
use Rattle.isort_sort.specs.Private.Found.{Open, Finding, IsFinding, after_blank, after_comments, after_other, after_member}
use Rattle.isort_sort.specs.Row.{Role, member, comments, blank, other, Row}
use Rattle.isort_sort.proofs.Finding.Rows.{nothing_found, found_blank, found_comments, found_other, found_member, all_found}

-- what is found of these rows
abbrev FindsBlocks : List Row → Type 0
FindsBlocks rows = (f : Finding) × IsFinding 0 rows f

one_row : (rows : List Row) (row : Row) → FindsBlocks rows → FindsBlocks (rows ++ row ∷ [])
one_row rows row (f, is) = by row.role refl
  where
    stop : ℕ
    stop = f.place + length row.text

    same : (cs : List (List ℕ)) (o : Option Open) → MatchOption o (Unit {0}) (λ p. cs ≡ cs)
    same cs None = tt
    same cs (Some p) = refl

    by : (role : Role) → row.role ≡ role → FindsBlocks (rows ++ row ∷ [])
    by (member imports own) e = (after_member stop row.ended row.indentation (member_of [] row) f, found_member 0 rows f row stop (member_of [] row) is (ap role_is_member e) refl refl)
    by (comments cs) e = (after_comments stop cs f, found_comments 0 rows f row stop cs cs is e (same cs f.opened) refl)
    by blank e = (after_blank stop row.ended f, found_blank 0 rows f row stop is e refl)
    by (other b) e = (after_other stop b f, found_other 0 rows f row stop b is e refl)

more_rows : (rows more : List Row) → FindsBlocks rows → FindsBlocks (rows ++ more)
more_rows rows [] found = subst FindsBlocks (sym (append-nil rows)) found
more_rows rows (row ∷ more) found = subst FindsBlocks (append_assoc rows (row ∷ []) more) (more_rows (rows ++ row ∷ []) more (one_row rows row found))

pub some_cut_at_blocks : (rows : List Row) → (cut : Cut) × IsCutAtBlocks rows cut
some_cut_at_blocks rows =
    let found = more_rows [] rows (record { found = []; opened = None; place = 0 }, nothing_found 0) in
    let all = all_found 0 rows found.0 found.1 in
    (all.cut, all.is)
