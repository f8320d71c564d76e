-- The machine is as many bytes further after characters as they have.
use Rattle.py_lines.proofs.Prelude.{◌≡◌, ℕ, ◌+◌, Bool, false, Option, None, Some, List, [], ◌∷◌, ◌++◌, refl, sym, ap, ◌∙◌, subst, append_assoc, append-nil, arith, len_utf8, both_ways, cond_both, byte_len, Class, Piece, line_end, operator, spelled, Frame, Scan, Host, Place, literal, specification, OpenMode, piece, true, if◌then◌else◌, ◌==◌}
use Rattle.py_lines.specs.declared.mode.Mode.TheVariants as opens
use Rattle.py_lines.specs.Private.Machine.{Move, Start, move_of, start_of, Start as starts}
use Rattle.py_lines.specs.Private.FieldFaults.{here}
use Rattle.py_lines.specs.Private.FieldMachine.{At, after_brace, FieldMode, FieldMove, FieldScanned, Level, after_operator, before, begins_code, between, body, breaks, closes, code_operator, ends_field, field_class_of, field_closed, field_ended, field_fresh, field_move, field_moved, field_operator, field_started, field_step, grows, has_room, is_after_brace, opened_level, opens_field, refused, specification_ended, text_place, begins_host, empty, opened, plain, plain_move}
use Rattle.py_lines.specs.Private.Scan.{Follows, FramesFollow, Goes, HasNoList, HoldsCode, NoListAt, host_in, mode_from, region_in}
use Rattle.py_lines.proofs.FieldScans.Bytes.{byte_len-more, push_three, push_two}
use Rattle.py_lines.proofs.FieldScans.Moves.{BodyMoved, bare_in, body_moved, holds_plain, list_at, said}
use Rattle.py_lines.proofs.FieldMachine.WholeRuns.{roomy_parts}
use Rattle.py_lines.proofs.Machine.Soundness.{StartHolds, start_holds}
use Rattle.py_lines.proofs.Pieces.PieceLists.{spelled-push}

-- no `{` of a specification waits for what follows
abbrev IsWhole : FieldMode → Type 0
IsWhole (body host specification named at) = is_after_brace at ≡ false
IsWhole other = Unit {0}

-- no list stands round the string of a specification's field
abbrev AreBare : List Level → Type 0
AreBare [] = Unit {0}
AreBare (l ∷ ls) = NoListAt l.place ls l.done l.openers × AreBare ls

-- the open piece and the lists are as they may be in a line
pub record IsLaidOut (t : FieldScanned) : Type 0 where
  holds : HoldsCode t.mode t.held
  no_list : HasNoList t.mode t.outer t.done t.openers
  whole : IsWhole t.mode
  bare : AreBare t.outer

-- so it is wherever the scan keeps count
levels_bare : (outer : List Level) (done : List Piece) (openers : List ℕ) (fs : List Frame) → FramesFollow outer done openers fs → AreBare outer
levels_bare [] done openers fs follow = tt
levels_bare (l ∷ ls) done openers fs (bs, field, others, stack, openers_are, frames_are, at) = (at.bare, levels_bare ls l.done l.openers others at.round)

body_whole : (host : Host) (place : Place) (named : Bool) (at : At) → (place ≡ specification → is_after_brace at ≡ false) → IsWhole (body host place named at)
body_whole host literal named at fit = tt
body_whole host specification named at fit = fit refl

mode_whole : (m : OpenMode) → IsWhole (mode_from m)
mode_whole (opens.Fields h region named) = body_whole (host_in h) (region_in region) named between (λ is. refl)
mode_whole m = tt

pub follows_laid : (scan : Scan) (t : FieldScanned) → Follows scan t → IsLaidOut t
follows_laid scan t follow = search (follow, subst IsWhole follow.mode (mode_whole scan.mode), levels_bare t.outer t.done t.openers scan.frames follow.frames)

-- a piece that grows stays so
abbrev StaysWhole : FieldMove → Type 0
StaysWhole (grows n) = IsWhole n
StaysWhole other = Unit {0}

moved_whole : (host : Host) (place : Place) (named : Bool) (at : At) (c : ℕ) (v : FieldMove) → BodyMoved host place named at c v → StaysWhole v
moved_whole host place named at c (grows n) (b, a, is, fit) = subst IsWhole (sym is) (body_whole host place b a fit)
moved_whole host place named at c v moved = tt

plain_whole : (v : Move) → StaysWhole (plain_move v)
plain_whole (Move.Grows m) = tt
plain_whole other = tt

one_whole : (is : Bool) (v w : FieldMove) → StaysWhole v → StaysWhole w → StaysWhole (if is then v else w)
one_whole true v w one other = one
one_whole false v w one other = other

stays_whole : (m : FieldMode) (held : List ℕ) (c : ℕ) → StaysWhole (field_move m held c)
unfolding field_move
stays_whole (plain m) held c = one_whole (begins_host m held c) _ _ tt (plain_whole (move_of m c))
stays_whole (opened host) held c = one_whole (c == host.quote) _ _ tt (moved_whole host literal false between c (field_move (body host literal false between) held c) (body_moved host literal false between held c))
stays_whole (empty host) held c = one_whole (c == host.quote) _ _ tt tt
stays_whole (body host place named at) held c =
    moved_whole host place named at c (field_move (body host place named at) held c) (body_moved host place named at held c)

-- it has come to this byte, and is laid out so
abbrev IsAt : ℕ → Option FieldScanned → Type 0
IsAt n None = Unit {0}
IsAt n (Some u) = (here u ≡ n) × IsLaidOut u

-- where no piece is open after a list with one more piece of one character
fresh_laid : (outer : List Level) (done : List Piece) (openers : List ℕ) → AreBare outer → IsLaidOut (field_fresh outer done openers)
fresh_laid outer done openers bare = record { holds = refl; no_list = tt; whole = tt; bare = bare }

piece_at : (outer : List Level) (done : List Piece) (openers : List ℕ) (class : Class) (c : ℕ) → AreBare outer
    → IsAt (byte_len (before literal outer ++ spelled done) + len_utf8 c) (Some (field_fresh outer (done ++ piece class (c ∷ []) ∷ []) openers))
piece_at outer done openers class c bare = grind (arith, append-nil, piece, spelled-push, push_two, fresh_laid)

-- back in the string of a field
ended_at : (level : Level) (outer : List Level) (text : List ℕ) → AreBare (level ∷ outer) → IsLaidOut (field_ended level outer text)
ended_at level outer text bare = record { holds = tt; no_list = bare.0; whole = body_whole level.host level.place false between (λ is. refl); bare = bare.1 }

-- an operator
after_at : (outer : List Level) (done : List Piece) (c : ℕ) (o : Option (List ℕ)) → AreBare outer
    → IsAt (byte_len (before literal outer ++ spelled done) + len_utf8 c) (after_operator outer done c o)
after_at outer done c None bare = tt
after_at outer done c (Some openers) bare = piece_at outer done openers operator c bare

code_text : (level : Level) (outer : List Level) (done : List Piece) (c : ℕ)
    → byte_len (before level.place outer ++ (spelled level.done ++ (level.front ++ (spelled done ++ c ∷ [])))) ≡ byte_len (before literal (level ∷ outer) ++ spelled done) + len_utf8 c
code_text level outer done c = ap byte_len (simp append_assoc) ∙ push_two (before literal (level ∷ outer)) (spelled done) c

operator_at : (outer : List Level) (done : List Piece) (openers : List ℕ) (c : ℕ) → AreBare outer
    → IsAt (byte_len (before literal outer ++ spelled done) + len_utf8 c) (field_operator outer done openers c)
unfolding code_operator
operator_at outer done openers c bare = grind (arith, after_at, cond_both, code_text, ended_at, append_assoc)

-- another piece
started_at : (outer : List Level) (done : List Piece) (openers : List ℕ) (c : ℕ) (x : Start) → StartHolds c x → AreBare outer
    → IsAt (byte_len (before literal outer ++ spelled done) + len_utf8 c) (field_started outer done openers c x)
started_at outer done openers c (starts.Open m) holds bare =
    (push_two (before literal outer) (spelled done) c, record { holds = holds_plain m (c ∷ []) holds; no_list = tt; whole = tt; bare = bare })
started_at outer done openers c starts.Operator holds bare = operator_at outer done openers c bare
started_at outer done openers c starts.LineEnd holds bare = piece_at outer done openers line_end c bare
started_at outer done openers c starts.Nothing holds bare = tt

-- the end of a specification
specified_at : (outer : List Level) (done : List Piece) (held : List ℕ) (c : ℕ) → done ≡ [] → AreBare outer
    → IsAt (byte_len (before specification outer ++ (spelled done ++ held)) + len_utf8 c) (specification_ended outer (held ++ c ∷ []))
specified_at outer done held c none bare = grind (arith, append_assoc, push_two, ended_at)

whole_brace : (host : Host) (place : Place) (named : Bool) → IsWhole (body host place named after_brace) → place ≡ literal
whole_brace host literal named whole = refl
whole_brace host specification named whole = absurd (both_ways _ whole refl)

-- what each move comes to
moved_at : (t : FieldScanned) (c : ℕ) (v : FieldMove) → IsLaidOut t → field_move t.mode t.held c ≡ v → IsAt (here t + len_utf8 c) (field_moved t c v)
moved_at t c (grows n) laid is = let so = said t.mode t.held c (grows n) laid.holds is in (
  ap (λ p. byte_len (before p t.outer ++ (spelled t.done ++ (t.held ++ c ∷ [])))) so.place
      ∙ push_three (before (text_place t.mode) t.outer) (spelled t.done) t.held c,
  record { holds = so.holds; no_list = list_at t.mode n t.outer t.done t.openers so.place laid.no_list; whole = subst StaysWhole is (stays_whole t.mode t.held c); bare = laid.bare },
)
moved_at t c closes laid is =
    let so = said t.mode t.held c closes laid.holds is in
    let done : List Piece = t.done ++ piece (field_class_of t.mode) (t.held ++ c ∷ []) ∷ [] in (
      ap (λ x. byte_len (before literal t.outer ++ x)) (append-nil (spelled done) ∙ spelled-push t.done (field_class_of t.mode) (t.held ++ c ∷ []))
          ∙ push_three (before literal t.outer) (spelled t.done) t.held c ∙ ap (λ p. byte_len (before p t.outer ++ (spelled t.done ++ t.held)) + len_utf8 c) (sym so.0),
      fresh_laid t.outer done t.openers laid.bare,
    )
moved_at t c breaks laid is =
    let so = said t.mode t.held c breaks laid.holds is in
    subst (λ (n : ℕ). IsAt (n + len_utf8 c) (field_started t.outer (field_closed t.mode t.done t.held) t.openers c (start_of c)))
    (ap (λ x. byte_len (before literal t.outer ++ x)) (so.spells t.done) ∙ ap (λ p. byte_len (before p t.outer ++ (spelled t.done ++ t.held))) (sym so.place))
    (started_at t.outer (field_closed t.mode t.done t.held) t.openers c (start_of c) (start_holds c) laid.bare)
moved_at t c (begins_code host) laid is =
    let (place, named, mode) = said t.mode t.held c (begins_code host) laid.holds is in
    let single = whole_brace host place named (subst IsWhole mode laid.whole) in let level : Level = opened_level t host literal t.held in
    subst (λ (n : ℕ). IsAt (n + len_utf8 c) (field_started (level ∷ t.outer) [] [] c (start_of c)))
    (ap byte_len (append-nil (before literal (level ∷ t.outer))) ∙ ap (λ p. byte_len (before p t.outer ++ (spelled t.done ++ t.held))) (sym (ap text_place mode ∙ single)))
    (started_at (level ∷ t.outer) [] [] c (start_of c) (start_holds c) (tt, laid.bare))
moved_at t c (opens_field host) laid is =
    let (at, mode, brace) = said t.mode t.held c (opens_field host) laid.holds is in
    let level : Level = opened_level t host specification (t.held ++ c ∷ []) in (
      ap byte_len (append-nil (before literal (level ∷ t.outer))) ∙ push_three (before specification t.outer) (spelled t.done) t.held c
          ∙ ap (λ p. byte_len (before p t.outer ++ (spelled t.done ++ t.held)) + len_utf8 c) (sym (ap text_place mode)),
      fresh_laid (level ∷ t.outer) [] [] (bare_in t.mode t.outer t.done t.openers (ap text_place mode) laid.no_list, laid.bare),
    )
moved_at t c ends_field laid is =
    let (place, brace) = said t.mode t.held c ends_field laid.holds is in
    subst (λ p. IsAt (byte_len (before p t.outer ++ (spelled t.done ++ t.held)) + len_utf8 c) (specification_ended t.outer (t.held ++ c ∷ []))) (sym place)
    (specified_at t.outer t.done t.held c (bare_in t.mode t.outer t.done t.openers place laid.no_list).0 laid.bare)
moved_at t c refused laid is = tt

-- a run
pub here_on : (t u : FieldScanned) (run : List ℕ) → IsLaidOut t → Goes t run u → here u ≡ here t + byte_len run
here_on t u [] laid goes = omega (arith, ap here goes)
here_on t u (c ∷ cs) laid (open_yet, next, step, on, others) =
    let at : (here next ≡ here t + len_utf8 c) × IsLaidOut next = subst (IsAt (here t + len_utf8 c)) (roomy_parts (has_room t c) (field_step t c) next step).1 (moved_at t c (field_move t.mode t.held c) laid refl) in
    omega (arith, here_on next u cs at.1 others, at.0, byte_len-more c cs)
