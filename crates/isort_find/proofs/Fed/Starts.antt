-- Where a finder over pieces begins, or goes on.
use Rattle.std.proofs.Common.{◌≡◌, ℕ, ◌+◌, ◌≤◌, List, [], ◌∷◌, cond, length, min, max, inl, inr, refl, sym, ap, ◌∙◌, subst, arith}
use Rattle.std.proofs.lemmas.Str.{length-le-encodes}
use Rattle.std.proofs.lemmas.Bool.{cond_both}
use Rattle.py_lines.specs.Piece.{spelled}
use Rattle.py_lines.specs.LogicalLine.{LogicalLine, ends_line, line_ends}
use Rattle.py_lines.specs.Given.{AreFirstLines}
use Rattle.py_lines.specs.Reader.{HasGiven, standing_at}
use Rattle.py_lines.specs.ScannerState.{ScannerState, begun_at, ScansFrom, IsScanning}
use Rattle.isort_find.specs.Cursor.{CursorState, first_cursor}
use Rattle.isort_find.specs.Pieces.{piece_finder_state, IsBetweenLines, HasFoundIn, GoesOnFrom}
use Rattle.isort_find.specs.declared.options.FindOptions.{FindOptions}
use Rattle.isort_find.specs.declared.walker.Position.TheVariants as position
use Rattle.isort_find.proofs.Walks.Starts.{after_none, stopped_first}
use Rattle.isort_find.proofs.Fed.Known.{given_first}

one_end : (c : ℕ) (cs : List ℕ) → cond (ends_line c cs) 1 0 ≤ 1
one_end c cs = cond_both (ends_line c cs) 1 0 (λ n. n ≤ 1) (λ h. omega arith) (λ h. omega arith)

-- characters hold no more line ends than bytes
line_ends-le : (cs : List ℕ) → line_ends cs ≤ length cs
line_ends-le [] = omega arith
line_ends-le (c ∷ cs) = omega (arith, one_end c cs, line_ends-le cs)

-- the line of a place in a text is at most the place and 1
line_of_place : (text : List ℕ) (place line : ℕ) (lines : List LogicalLine) → HasGiven (standing_at text place line) lines → (1 ≤ line) × (line ≤ place + 1)
line_of_place text place line lines h = (omega (arith, h.first.number), omega (arith, h.first.number, h.first.here, line_ends-le (spelled h.first.pieces), length-le-encodes (spelled h.first.pieces)))

-- a finder over pieces begins before the first line
pub begins_between : (s : ScannerState) (options : FindOptions) (cursor : CursorState) → ((text : List ℕ) → IsScanning s text []) → cursor ≡ first_cursor options → (text : List ℕ) → IsBetweenLines s cursor text cursor.taken []
begins_between s options cursor scans is text = subst (λ (c : CursorState). IsBetweenLines s c text c.taken []) (sym is) (record {
  after = after_none text options s.place s.line (given_first text s.place s.line [] (scans text).first);
  released = inl (scans text);
  stands = inl refl;
})

-- so nothing was given
pub begins_pieces : (s : ScannerState) (options : FindOptions) (cursor : CursorState) → s ≡ begun_at 0 1 → ((text : List ℕ) → IsScanning s text []) → cursor ≡ first_cursor options → (text : List ℕ) → HasFoundIn (piece_finder_state s (position.Between cursor.taken) cursor) text []
begins_pieces s options cursor start scans is text = record {
  stopped = stopped_first text options cursor is (given_first text 0 1 [] (subst (λ (x : ScannerState). AreFirstLines text x.place x.line []) start (scans text).first));
  reached = (begins_between s options cursor scans is text, ap (λ (x : ScannerState). x.ready) start);
}

bounded : (n m : ℕ) → 1 ≤ n → n ≤ m + 1 → n ≡ min (max n 1) (m + 1)
bounded n m h k = omega (arith, h, k)

-- a finder over pieces goes on from a cursor
goes_on : (s : ScannerState) (cursor : CursorState) (line : ℕ) → line ≡ min (max cursor.line 1) (cursor.offset + 1) → s ≡ begun_at cursor.offset line → ScansFrom cursor.offset line s → GoesOnFrom cursor (piece_finder_state s (position.Between cursor.taken) cursor)
goes_on s cursor line is start scans text values h =
    let b = h.after in
    let place = line_of_place text cursor.offset cursor.line b.lines b.given in
    let same : cursor.line ≡ line = bounded cursor.line cursor.offset place.0 place.1 ∙ sym is in
    let scanning = scans text b.lines (subst (λ (n : ℕ). AreFirstLines text cursor.offset n b.lines) same b.given.first) in
    record {
      stopped = h;
      reached = (
        record {
          after = record { lines = b.lines; before = b.before; part = b.part; given = given_first text s.place s.line b.lines scanning.first; binds = b.binds; in_top = b.in_top; is_part = b.is_part; found = b.found };
          released = inl scanning;
          stands = inr (ap (λ (x : ScannerState). x.place) (sym start));
        },
        ap (λ (x : ScannerState). x.ready) start,
      );
    }

-- the same, with the cursor's place and line by themselves
pub goes_on_from : (s : ScannerState) (cursor : CursorState) (offset number most line : ℕ) → offset ≡ cursor.offset → number ≡ cursor.line → most ≡ max number 1 → line ≡ min most (offset + 1) → s ≡ begun_at offset line → ScansFrom offset line s → GoesOnFrom cursor (piece_finder_state s (position.Between cursor.taken) cursor)
goes_on_from s cursor offset number most line here there up down start scans =
    goes_on s cursor line (down ∙ (λ i. min ((up ∙ ap (λ n. max n 1) there) i) (here i + 1))) (start ∙ ap (λ n. begun_at n line) here) (subst (λ (n : ℕ). ScansFrom n line s) here scans)
