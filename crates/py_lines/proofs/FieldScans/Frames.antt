-- The frames that the scan of a line keeps are the brackets and fields that are open in the machine.
use Rattle.py_lines.proofs.Prelude.{◌≡◌, ℕ, ◌+◌, ◌<◌, true, false, ◌==◌, Some, List, [], ◌∷◌, ◌++◌, length, refl, sym, ap, ◌∙◌, subst, arith, length-append, zero-add, length-map, Class, operator, Piece, spelled, byte_len, OpenField, Frame, literal, specification, piece, byte_len-append}
use Rattle.py_lines.specs.Balance.{is_opening, is_closing, is_opener, is_closer, closing_of}
use Rattle.py_lines.specs.declared.frames.Frame.TheVariants as frame
use Rattle.py_lines.specs.Private.Machine.{Bracket, brackets_of}
use Rattle.py_lines.specs.Private.FieldMachine.{Level, levels_open, before}
use Rattle.py_lines.specs.Private.Scan.{bracket_frames, bracket_openers, FieldFollows, FramesFollow, NoListAt}
use Rattle.py_lines.proofs.Pieces.OpenBrackets.{stack_push, opener_pushes, closer_pops, other_keeps}

-- so many are open
pub frames-length : (outer : List Level) (done : List Piece) (openers : List ℕ) (fs : List Frame) → FramesFollow outer done openers fs → length fs ≡ length openers + levels_open outer
frames-length [] done openers fs (bs, stack, openers_are, frames_are) =
    omega (arith, ap length frames_are, length-map bs (λ (b : Bracket). frame.Bracket b.opener b.place), length-map bs (λ (b : Bracket). b.opener), ap length openers_are)
frames-length (l ∷ ls) done openers fs (bs, field, others, stack, openers_are, frames_are, at) = let start = byte_len (before literal (l ∷ ls)) in
    omega (arith, ap length frames_are ∙ length-append (bracket_frames start bs) (frame.Field field ∷ others), length-map bs (λ (b : Bracket). frame.Bracket b.opener (start + b.place)), length-map bs (λ (b : Bracket). b.opener), ap length openers_are, frames-length ls l.done l.openers others at.round)

-- other finished pieces with the same open brackets
abbrev pub AreOpenAlike : List Piece → List Piece → Type 0
AreOpenAlike done more = (st : List Bracket) → brackets_of done ≡ Some st → brackets_of more ≡ Some st

pub frames_alike : (outer : List Level) (done more : List Piece) (openers : List ℕ) (fs : List Frame) → AreOpenAlike done more → FramesFollow outer done openers fs → FramesFollow outer more openers fs
frames_alike [] done more openers fs alike (bs, stack, openers_are, frames_are) = (bs, alike bs stack, openers_are, frames_are)
frames_alike (l ∷ ls) done more openers fs alike (bs, field, others, stack, openers_are, frames_are, at) = (bs, field, others, alike bs stack, openers_are, frames_are, at)

-- a list that begins in two ways, and frames that are one
same_top : {A : Type 0} {x y : A} {xs ys all : List A} → all ≡ x ∷ xs → all ≡ y ∷ ys → (x ≡ y) × (xs ≡ ys)
same_top first second = (cc, cc)

none_top : {A : Type 0} {x : A} {xs all : List A} → all ≡ [] → all ≡ x ∷ xs → ⊥
none_top first second = cc

same_bracket : (o p a b : ℕ) → frame.Bracket o a ≡ frame.Bracket p b → (o ≡ p) × (a ≡ b)
same_bracket o p a b is = (cc, cc)

same_field : (f g : OpenField) → frame.Field f ≡ frame.Field g → f ≡ g
same_field f g is = cc

no_field : {f : OpenField} {o a : ℕ} → frame.Field f ≡ frame.Bracket o a → ⊥
no_field is = cc

-- the innermost frame is a bracket of the innermost list
pub innermost_bracket : (outer : List Level) (done : List Piece) (openers : List ℕ) (fs others : List Frame) (opener at : ℕ) → FramesFollow outer done openers fs → fs ≡ frame.Bracket opener at ∷ others → (b : Bracket) × (bs : List Bracket) × (brackets_of done ≡ Some (b ∷ bs)) × (at ≡ byte_len (before literal outer) + b.place) × (openers ≡ opener ∷ bracket_openers bs)
innermost_bracket [] done openers fs others opener at ([], stack, openers_are, frames_are) top = absurd (none_top frames_are top)
innermost_bracket [] done openers fs others opener at ((b ∷ bs), stack, openers_are, frames_are) top =
    let (same, spot) = same_bracket _ _ _ _ (same_top frames_are top).0 in
    (b, bs, stack, sym spot ∙ sym (zero-add b.place), openers_are ∙ ap (λ o. o ∷ bracket_openers bs) same)
innermost_bracket (l ∷ ls) done openers fs others opener at ([], field, rest, stack, openers_are, frames_are, is) top = absurd (no_field (same_top frames_are top).0)
innermost_bracket (l ∷ ls) done openers fs others opener at ((b ∷ bs), field, rest, stack, openers_are, frames_are, is) top =
    let (same, spot) = same_bracket _ _ _ _ (same_top frames_are top).0 in (b, bs, stack, sym spot, openers_are ∙ ap (λ o. o ∷ bracket_openers bs) same)

-- or it is the field in which that list stands, where no bracket is open
pub record InnermostField (outer : List Level) (openers : List ℕ) (field : OpenField) (others : List Frame) : Type 0 where
  pub level : Level
  pub outside : List Level
  pub outer_is : outer ≡ level ∷ outside
  pub none : openers ≡ []
  pub at : FieldFollows level outside field (FramesFollow outside level.done level.openers others)

pub innermost_field : (outer : List Level) (done : List Piece) (openers : List ℕ) (fs others : List Frame) (field : OpenField) → FramesFollow outer done openers fs → fs ≡ frame.Field field ∷ others → InnermostField outer openers field others
innermost_field [] done openers fs others field ([], stack, openers_are, frames_are) top = absurd (none_top frames_are top)
innermost_field [] done openers fs others field ((b ∷ bs), stack, openers_are, frames_are) top = absurd (no_field (same_top top frames_are).0)
innermost_field (l ∷ ls) done openers fs others field ((b ∷ bs), own, rest, stack, openers_are, frames_are, at) top = absurd (no_field (same_top top frames_are).0)
innermost_field (l ∷ ls) done openers fs others field ([], own, rest, stack, openers_are, frames_are, at) top =
    let (first, round) = same_top frames_are top in
    let same = same_field own field first in let whole : l ∷ ls ≡ l ∷ ls = refl in
    search (whole, openers_are, subst (λ (f : OpenField). FieldFollows l ls f (FramesFollow ls l.done l.openers others)) same (subst (λ (fs : List Frame). FieldFollows l ls own (FramesFollow ls l.done l.openers fs)) round at))

-- it is a field, where a specification is open
pub specified_field : (outer : List Level) (done : List Piece) (openers : List ℕ) (fs : List Frame) → NoListAt specification outer done openers
    → FramesFollow outer done openers fs → (field : OpenField) × (others : List Frame) × (fs ≡ frame.Field field ∷ others)
specified_field [] done openers fs bare follow = absurd (bare.2 refl)
specified_field (l ∷ ls) done openers fs bare ([], field, others, stack, openers_are, frames_are, at) = (field, others, frames_are)
specified_field (l ∷ ls) done openers fs bare ((b ∷ bs), field, others, stack, openers_are, frames_are, at) = absurd (cc (bare.1, openers_are))

-- where no frame is open, there is no bracket and no field
pub none_outside : (outer : List Level) (done : List Piece) (openers : List ℕ) (fs : List Frame) → FramesFollow outer done openers fs → length fs ≡ 0 → (outer ≡ []) × (openers ≡ [])
none_outside [] done [] fs follow none = (refl, refl)
none_outside [] done (o ∷ os) fs follow none = absurd (omega (arith, none, frames-length [] done (o ∷ os) fs follow))
none_outside (l ∷ ls) done openers fs follow none = absurd (omega (arith, none, frames-length (l ∷ ls) done openers fs follow))

-- an operator after the finished pieces
opened_stack : (done : List Piece) (openers : List ℕ) (bs : List Bracket) (c : ℕ) → brackets_of done ≡ Some bs → openers ≡ bracket_openers bs → is_opening c ≡ true → length openers < 200
    → brackets_of (done ++ piece operator (c ∷ []) ∷ []) ≡ Some ((record { opener = c; place = byte_len (spelled done) }) ∷ bs)
opened_stack done openers bs c stack are opens room = stack_push done (piece operator (c ∷ [])) bs stack
    ∙ opener_pushes bs (byte_len (spelled done)) (piece operator (c ∷ [])) opens (omega (arith, room, ap length are, length-map bs (λ (b : Bracket). b.opener)))

closed_stack : (done : List Piece) (b : Bracket) (bs : List Bracket) (opener c : ℕ) → brackets_of done ≡ Some (b ∷ bs) → b.opener ≡ opener → is_closing c ≡ true → c == closing_of opener ≡ true
    → brackets_of (done ++ piece operator (c ∷ []) ∷ []) ≡ Some bs
closed_stack done b bs opener c stack same closing fits = stack_push done (piece operator (c ∷ [])) (b ∷ bs) stack
    ∙ closer_pops bs (byte_len (spelled done)) b (piece operator (c ∷ [])) closing (ap (λ (o : ℕ). c == closing_of o) same ∙ fits)

pub bracket_opened : (outer : List Level) (done : List Piece) (openers : List ℕ) (fs : List Frame) (c place : ℕ) → FramesFollow outer done openers fs → is_opening c ≡ true → length openers < 200 → place ≡ byte_len (before literal outer ++ spelled done) → FramesFollow outer (done ++ piece operator (c ∷ []) ∷ []) (c ∷ openers) (frame.Bracket c place ∷ fs)
bracket_opened [] done openers fs c place (bs, stack, openers_are, frames_are) opens room at =
    ((record { opener = c; place = byte_len (spelled done) }) ∷ bs, opened_stack done openers bs c stack openers_are opens room, ap (λ (os : List ℕ). c ∷ os) openers_are, cc (at, frames_are))
bracket_opened (l ∷ ls) done openers fs c place (bs, field, others, stack, openers_are, frames_are, is) opens room at =
    let first : place ≡ byte_len (before literal (l ∷ ls)) + byte_len (spelled done) = omega (arith, at, byte_len-append (before literal (l ∷ ls)) (spelled done)) in
    ((record { opener = c; place = byte_len (spelled done) }) ∷ bs, field, others, opened_stack done openers bs c stack openers_are opens room, ap (λ (os : List ℕ). c ∷ os) openers_are, cc (first, frames_are), is)

pub bracket_closed : (outer : List Level) (done : List Piece) (openers os : List ℕ) (fs others : List Frame) (opener at c : ℕ) → FramesFollow outer done openers fs → fs ≡ frame.Bracket opener at ∷ others → openers ≡ opener ∷ os → is_closing c ≡ true → c == closing_of opener ≡ true → FramesFollow outer (done ++ piece operator (c ∷ []) ∷ []) os others
bracket_closed [] done openers os fs others opener at c ([], stack, openers_are, frames_are) top are closing fits = absurd (none_top openers_are are)
bracket_closed [] done openers os fs others opener at c ((b ∷ bs), stack, openers_are, frames_are) top are closing fits =
    let (same, left) = same_top are openers_are in (bs, closed_stack done b bs opener c stack (sym same) closing fits, left, sym (same_top frames_are top).1)
bracket_closed (l ∷ ls) done openers os fs others opener at c ([], field, rest, stack, openers_are, frames_are, is) top are closing fits = absurd (none_top openers_are are)
bracket_closed (l ∷ ls) done openers os fs others opener at c ((b ∷ bs), field, rest, stack, openers_are, frames_are, is) top are closing fits =
    let (same, left) = same_top are openers_are in (bs, field, rest, closed_stack done b bs opener c stack (sym same) closing fits, left, sym (same_top frames_are top).1, is)

-- a piece that is no bracket
pub neutral_alike : (done : List Piece) (class : Class) (text : List ℕ) → is_opener (piece class text) ≡ false → is_closer (piece class text) ≡ false → AreOpenAlike done (done ++ piece class text ∷ [])
neutral_alike done class text opens shuts = λ st stacked. stack_push done (piece class text) st stacked ∙ other_keeps st (byte_len (spelled done)) (piece class text) opens shuts
