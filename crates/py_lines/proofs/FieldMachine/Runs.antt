-- The machine with fields goes through a text: from one state to another, with room for what each character opens.
use Rattle.py_lines.proofs.Prelude.{◌≡◌, ℕ, ◌+◌, ◌<◌, true, false, Some, List, [], ◌∷◌, ◌++◌, refl, sym, ap, ◌∙◌, subst, append_assoc, append-nil, arith, and_from, nat_tests, is_mark, Piece, begins, is_opening, piece}
use Rattle.py_lines.specs.Private.Machine.{Mode, move_of, start_of}
use Rattle.py_lines.specs.Private.FieldMachine.{FieldMode, plain, FieldMove, grows, closes, breaks, begins_code, opens_field, Level, FieldScanned, field_state, field_fresh, field_class_of, field_pieces, field_move, field_moved, field_started, field_step, field_steps_from, frames, has_room_at, has_room, have_room, may_end}

-- a bracket or field may open at a depth that is no limit
abbrev pub NoLimit : ℕ → Type 0
NoLimit depth = Unit {0}

-- a bracket or field may open at a depth below 200
abbrev pub BelowLimit : ℕ → Type 0
BelowLimit depth = depth < 200

-- what a character opens at this depth may open there
abbrev pub HasRoomFor : (ℕ → Type 0) → ℕ → ℕ → FieldMove → Type 0
HasRoomFor Room depth c breaks = is_opening c ≡ true → Room depth
HasRoomFor Room depth c (begins_code host) = Room depth × (is_opening c ≡ true → Room (depth + 1))
HasRoomFor Room depth c (opens_field host) = Room depth
HasRoomFor Room depth c other = Unit {0}

-- the machine goes from one state through a text to another, and what its characters open may open there
abbrev pub Goes : (ℕ → Type 0) → FieldScanned → List ℕ → FieldScanned → Type 0
Goes Room s [] t = s ≡ t
Goes Room s (c ∷ cs) t = (next : FieldScanned) × (field_step s c ≡ Some next) × HasRoomFor Room (frames s) c (field_move s.mode s.held c) × Goes Room next cs t

-- the open piece may end before this text
abbrev pub StopsAt : FieldMode → List ℕ → List ℕ → Type 0
StopsAt mode held [] = may_end mode ≡ true
StopsAt mode held (c ∷ cs) = field_move mode held c ≡ breaks

-- over two texts, one after the other
pub goes-append : (Room : ℕ → Type 0) (s t u : FieldScanned) (a b : List ℕ) → Goes Room s a t → Goes Room t b u → Goes Room s (a ++ b) u
goes-append Room s t u [] b first second = subst (λ x. Goes Room x b u) (sym first) second
goes-append Room s t u (c ∷ a) b (next, step, room, others) second = (next, step, room, goes-append Room next t u a b others second)

-- the end may be told in another way
pub goes-to : (Room : ℕ → Type 0) (s t u : FieldScanned) (a : List ℕ) → Goes Room s a t → t ≡ u → Goes Room s a u
goes-to Room s t u a goes same = subst (λ x. Goes Room s a x) same goes

-- the steps alone
pub steps_of : (Room : ℕ → Type 0) (s t : FieldScanned) (text : List ℕ) → Goes Room s text t → field_steps_from (Some s) text ≡ Some t
steps_of Room s t [] goes = ap Some goes
steps_of Room s t (c ∷ cs) (next, step, room, others) = ap (λ o. field_steps_from o cs) step ∙ steps_of Room next t cs others

-- and the room within 200
pub room_at : (depth c : ℕ) (move : FieldMove) → HasRoomFor BelowLimit depth c move → has_room_at depth c move ≡ true
unfolding has_room_at
room_at depth c breaks room = grind (arith, nat_tests)
room_at depth c move room = grind (arith, nat_tests)

pub room_of : (s t : FieldScanned) (text : List ℕ) → Goes BelowLimit s text t → have_room (Some s) text ≡ true
room_of s t [] goes = refl
room_of s t (c ∷ cs) (next, step, room, others) =
    and_from (has_room s c) (have_room (field_step s c) cs) (room_at (frames s) c _ room) (ap (λ o. have_room o cs) step ∙ room_of next t cs others)

-- one more character in the open piece
pub goes-grows : (Room : ℕ → Type 0) (s t : FieldScanned) (m : FieldMode) (c : ℕ) (cs : List ℕ) → field_move s.mode s.held c ≡ grows m → Goes Room (field_state s.outer s.done s.openers m (s.held ++ c ∷ [])) cs t → Goes Room s (c ∷ cs) t
goes-grows Room s t m c cs move others =
    (field_state s.outer s.done s.openers m (s.held ++ c ∷ []), ap (field_moved s c) move, subst (HasRoomFor Room (frames s) c) (sym move) tt, others)

-- the open piece grows by each character of a text, whatever its text before
abbrev pub GrowsTo : FieldMode → List ℕ → FieldMode → Type 0
GrowsTo m [] n = m ≡ n
GrowsTo m (c ∷ cs) n = (next : FieldMode) × ((held : List ℕ) → field_move m held c ≡ grows next) × GrowsTo next cs n

pub goes-grown : (Room : ℕ → Type 0) (outer : List Level) (done : List Piece) (openers : List ℕ) (m n : FieldMode) (held text : List ℕ) → GrowsTo m text n → Goes Room (field_state outer done openers m held) text (field_state outer done openers n (held ++ text))
goes-grown Room outer done openers m n held [] grown = ap (λ o. field_state outer done openers o held) grown ∙ ap (field_state outer done openers n) (sym (append-nil held))
goes-grown Room outer done openers m n held (c ∷ cs) (next, moves, others) =
    goes-grows Room _ _ next c cs (moves held) (goes-to Room _ _ _ cs (goes-grown Room outer done openers next n (held ++ c ∷ []) cs others) (ap (field_state outer done openers n) (append_assoc held (c ∷ []) cs)))

-- the last character of the open piece
pub goes-closes : (Room : ℕ → Type 0) (s : FieldScanned) (c : ℕ) → field_move s.mode s.held c ≡ closes → Goes Room s (c ∷ []) (field_fresh s.outer (s.done ++ piece (field_class_of s.mode) (s.held ++ c ∷ []) ∷ []) s.openers)
goes-closes Room s c move = grind arith

-- a character that begins a piece
pub goes-begins : (Room : ℕ → Type 0) (s next t : FieldScanned) (c : ℕ) (cs : List ℕ) → field_move s.mode s.held c ≡ breaks → field_started s.outer (field_pieces s) s.openers c (start_of c) ≡ Some next → (is_opening c ≡ true → Room (frames s)) → Goes Room next cs t → Goes Room s (c ∷ cs) t
goes-begins Room s next t c cs move starts room others = (next, ap (field_moved s c) move ∙ starts, subst (HasRoomFor Room (frames s) c) (sym move) room, others)

-- no piece is open: any character may follow
pub stops-fresh : (rest : List ℕ) → StopsAt (plain Mode.Free) [] rest
unfolding field_move move_of
stops-fresh [] = refl
stops-fresh (c ∷ cs) = refl

-- where a piece goes on, or ends with the character, there is room for that
pub room_grows : (depth c : ℕ) (n : FieldMode) → has_room_at depth c (grows n) ≡ true
unfolding has_room_at
room_grows depth c n = refl

pub room_closes : (depth c : ℕ) → has_room_at depth c closes ≡ true
unfolding has_room_at
room_closes depth c = refl

-- no piece, and nothing that might be a mark, or some pieces
abbrev pub MayBegin : List Piece → List ℕ → Type 0
MayBegin [] rest = begins is_mark rest ≡ false
MayBegin (p ∷ ps) rest = Unit {0}
