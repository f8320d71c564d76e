use mir.Val.{bool_byte}
use Rattle.py_lines.proofs.Prelude.{List, ◌≡◌, ◌+◌, ◌<◌, ◌≤◌, ◌∙◌, ap, arith, length, rules, subst, sym, nat_lt, Piece, spelled, line_ends, rest_is, nat_tests}
use Rattle.py_lines.specs.Private.LineTokens.{AreLineOf, BeginWithPiece, HaveRead, ReadsPiece}
use Rattle.py_lines.proofs.LineScan.LineCount.{line_ends-bytes}
use Rattle.py_lines.proofs.LineTokens.Lines.{IsReadNext, IsWholeRead, before_end, begun, end_within, has_next, read_next, whole_read}
use Rattle.py_lines.proofs.line_state.LineState.read_line.Goals as goal
use Rattle.py_lines.proofs.line_state.LineState.read_line.Goals.{After-pieces, In_ok-piece}

pub pieces-init : goal.pieces-init
pieces-init c = subst (HaveRead _ _ _ _ _) (sym c.clear.ensures.items) (begun _ _ c.args.line c.args.end_len c.mark_len-start.ensures)

pub read_piece-requires-clause-piece : goal.read_piece-requires-clause-piece
read_piece-requires-clause-piece c =
    let (left, h) = c.pieces.invariant c.requires.text.0 c.requires.text.1 in
    subst (λ l. (p : Piece) × BeginWithPiece l p) (rest_is c.args.text.now c.pieces.start)
    (has_next left h (omega (arith, c.pieces-test.true)))

-- the piece that was read
read : (c : In_ok-piece) (ps : List Piece) → AreLineOf c.args.text.now c.args.end_len ps → IsReadNext c.args.text.now ps
    c.args.line c.pieces.start c.pieces.line_here c.in_ok-piece.piece c.in_ok-piece.line_ends c.read_piece.new.tokens.items
read c ps is =
    let (left, h) = c.pieces.invariant ps is in
    let before = before_end left h (omega (arith, c.pieces-test.true, h.ends, is.1)) in
    read_next left is.0 h (omega (arith, c.pieces-test.true)) before
    (subst (λ l. ReadsPiece l c.pieces.tokens.items c.pieces.start c.pieces.line_here c.in_ok-piece.piece c.in_ok-piece.line_ends c.read_piece.new.tokens.items)
    (sym (rest_is c.args.text.now c.pieces.start)) c.in_ok-piece.ensures)

-- there is room for it
room : (c : In_ok-piece) → (0 < c.in_ok-piece.piece) × (c.pieces.start + c.in_ok-piece.piece ≤ length c.args.text.now)
    × (c.pieces.line_here + c.in_ok-piece.line_ends ≤ c.args.line + length c.args.text.now)
room c =
    let r = read c c.requires.text.0 c.requires.text.1 in
    (r.some, omega (arith, r.within), omega (arith, r.lines))

pub overflow_add-line_here : goal.overflow_add-line_here
overflow_add-line_here c =
    let bound : c.pieces.line_here + c.in_ok-piece.line_ends < 18446744073709551616 = omega (arith, room c, c.requires.lines) in
    search (rules, bound)

pub overflow_add-start : goal.overflow_add-start
overflow_add-start c =
    let bound : c.pieces.start + c.in_ok-piece.piece < 18446744073709551616 = omega (arith, room c, c.requires.lines) in search (rules, bound)

pub pieces-smaller : goal.pieces-smaller
pieces-smaller c = omega (arith, room (goal.at.pieces-smaller c).In_ok-piece, c.pieces-test.true)

pub pieces-preserved : goal.pieces-preserved
pieces-preserved c = λ ps is. let r = read (goal.at.pieces-preserved c).In_ok-piece ps is in (r.left, r.more)

-- all was read but the line end
whole : (c : After-pieces) → (ps : List Piece) → AreLineOf c.args.text.now c.args.end_len ps
    → IsWholeRead c.args.text.now ps c.args.line c.pieces.line_here c.pieces.tokens.items
whole c ps is =
    let (left, h) = c.pieces.invariant ps is in
    whole_read left h (omega (arith, c.pieces-test.false, is.1, h.ends))

pub overflow_sub-content_len : goal.overflow_sub-content_len
overflow_sub-content_len c =
    let (ps, (is, ends)) = c.requires.text in
    omega (arith, ends, end_within ps, ap length is.spell)

-- the line after it
after : (c : After-pieces) (ps : List Piece) → AreLineOf c.args.text.now c.args.end_len ps
    → c.pieces.line_here + bool_byte (nat_lt 0 c.args.end_len) ≡ c.args.line + line_ends (spelled ps)
after c ps is = ap (λ n. c.pieces.line_here + bool_byte (nat_lt 0 n)) is.1 ∙ (whole c ps is).1

pub overflow_add-result : goal.overflow_add-result
overflow_add-result c =
    let (ps, is) = c.requires.text in
    let bound : c.pieces.line_here + bool_byte (nat_lt 0 c.args.end_len) < 18446744073709551616
    = omega (arith, after (goal.at.overflow_add-result c).After-pieces ps is, line_ends-bytes (spelled ps), ap length is.0.spell, c.requires.lines) in
    search (rules, bound)

pub returns-clause-tokens : goal.returns-clause-tokens
returns-clause-tokens c = λ ps is. (whole (goal.at.returns-clause-tokens c).After-pieces ps is).0

pub returns-clause-after : goal.returns-clause-after
returns-clause-after c = after (goal.at.returns-clause-after c).After-pieces

pub read_piece-requires-clause-within : goal.read_piece-requires-clause-within
read_piece-requires-clause-within c = grind (arith, nat_tests)
