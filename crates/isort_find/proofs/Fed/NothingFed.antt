-- What a finder over pieces settles and decides before its first byte: nothing.
use Rattle.std.proofs.Common.{◌≡◌, ℕ, ◌+◌, List, [], length, take, refl, sym, ap, ◌∙◌, length-append, arith, encode_utf8_all}
use Rattle.std.proofs.lemmas.List.{nil_from_length}
use Rattle.std.proofs.lemmas.Str.{length-le-encodes}
use Rattle.py_lines.specs.Balance.{none}
use Rattle.py_lines.specs.Settled.{Decides}
use Rattle.py_lines.specs.ScannerState.{ScannerState, begun_at, IsScanning}
use Rattle.py_lines.specs.declared.fault.Fault.{Fault}
use Rattle.isort_find.specs.Cursor.{CursorState, first_cursor}
use Rattle.isort_find.specs.Pieces.{piece_finder_state, AreAllSettled, IsUndecided}
use Rattle.isort_find.specs.Private.KnownLaws.{SettledLaws, OneSettled, AscentLaws}
use Rattle.isort_find.specs.declared.options.FindOptions.{FindOptions}
use Rattle.isort_find.specs.declared.walker.Position.TheVariants as position
use Rattle.isort_find.proofs.Fed.Settled.{gap_settled, gap_undecided}
use Rattle.isort_find.proofs.Fed.Starts.{begins_between}

-- no byte decides a lexical fault: the empty text is read
none_decided : (text : List ℕ) (fault : Fault) → text ≡ [] → ¬ (Decides text fault)
none_decided text fault empty d =
    let size = ap length (d.decodes.spell ∙ empty) in
    let parts = length-append (encode_utf8_all d.characters) d.tail in
    let tail : d.tail ≡ [] = nil_from_length d.tail (omega (arith, size, parts)) in
    let short = length-le-encodes d.characters in
    let characters : d.characters ≡ [] = nil_from_length d.characters (omega (arith, size, parts, short)) in
    d.refused.unread tail [] (record { reads = record { spell = sym characters; fit = tt }; balanced = none [] refl; shallow = tt })

fed_none : (s : ScannerState) (text : List ℕ) → s ≡ begun_at 0 1 → take (s.place + length s.held) text ≡ []
fed_none s text start = ap (λ (x : ScannerState). take (x.place + length x.held) text) start

pub new_settled : SettledLaws → OneSettled → AscentLaws → (s : ScannerState) (options : FindOptions) (cursor : CursorState) → s ≡ begun_at 0 1 → ((text : List ℕ) → IsScanning s text []) → cursor ≡ first_cursor options → (text : List ℕ) → AreAllSettled (piece_finder_state s (position.Between cursor.taken) cursor) text []
new_settled laws one ascent s options cursor start scans is text = gap_settled laws one ascent s cursor text cursor.taken [] (ap (λ (x : ScannerState). x.ended) start) (ap (λ (x : ScannerState). x.ready) start) (begins_between s options cursor scans is text)

pub new_undecided : SettledLaws → OneSettled → AscentLaws → (s : ScannerState) (options : FindOptions) (cursor : CursorState) → s ≡ begun_at 0 1 → ((text : List ℕ) → IsScanning s text []) → cursor ≡ first_cursor options → (text : List ℕ) → IsUndecided (piece_finder_state s (position.Between cursor.taken) cursor) text
new_undecided laws one ascent s options cursor start scans is text = gap_undecided laws one ascent s cursor text cursor.taken [] (ap (λ (x : ScannerState). x.ended) start) (ap (λ (x : ScannerState). x.ready) start) (λ fault. none_decided (take (s.place + length s.held) text) fault (fed_none s text start)) (begins_between s options cursor scans is text)
