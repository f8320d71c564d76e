-- The machine with fields goes from the text's start to a list of pieces that begins in fields, and through its first pieces.
use Rattle.py_lines.proofs.Prelude.{◌≡◌, ℕ, ◌+◌, false, Some, List, [], ◌∷◌, ◌++◌, ◌⊎◌, inl, inr, length, refl, sym, ap, ◌∙◌, subst, append_assoc, append-nil, add-zero, arith, is_mark, Piece, begins, spelled, IsBalanced, depth_through}
use Rattle.py_lines.specs.OpenFields.{AreBegun, BeginsList, at_start, in_field}
use Rattle.py_lines.specs.FieldStrings.{Host, Place, literal, specification, begins_open}
use Rattle.py_lines.specs.Private.FieldMachine.{before, after_brace, FieldMode, body, Level, FieldScanned, field_state, field_fresh, field_text_start, field_closed, field_pieces, opening_move, field_move, field_moved, frames, openers_by, openers_through, levels_open}
use Rattle.py_lines.proofs.Pieces.OpenBrackets.{some_before}
use Rattle.py_lines.proofs.FieldMachine.Runs.{MayBegin, NoLimit, Goes, StopsAt, HasRoomFor, goes-append, goes-grows, stops-fresh}
use Rattle.py_lines.proofs.FieldMachine.ListBrackets.{openers_through-append, balanced_openers, depth_is}
use Rattle.py_lines.proofs.FieldMachine.CodeRuns.{opens_text}
use Rattle.py_lines.proofs.FieldMachine.Completeness.{fields_found, fields_reached}
use Rattle.py_lines.proofs.FieldMachine.OpenStrings.{IsInString, open_quotes, open_unmarked, brace_opens, string_runs}

-- where a list of pieces begins: at the text's start, or in a field
abbrev pub list_start : List Level → FieldScanned
list_start [] = field_text_start
list_start (level ∷ outer) = field_fresh (level ∷ outer) [] []

-- the brackets that are open after the first pieces of a balanced list
some_open : (ps others : List Piece) → IsBalanced (ps ++ others) → (after : List ℕ) × (openers_through (Some []) ps ≡ Some after)
some_open ps others balanced = some_before (λ o. openers_through o others) refl (openers_through (Some []) ps) [] (sym (openers_through-append (Some []) ps others) ∙ balanced_openers (ps ++ others) balanced [])

-- and how many there are
depth_of : (ps : List Piece) (os after : List ℕ) (k : ℕ) → openers_through (Some os) ps ≡ Some after → depth_through (length os + k) ps ≡ length after + k
depth_of [] os after k is = grind arith
depth_of (p ∷ ps) os after k is =
    let mid = some_before (λ o. openers_through o ps) refl (openers_by os p.class p.text) after is in
    ap (λ n. depth_through n ps) (depth_is os mid.0 p.class p.text k mid.1) ∙ depth_of ps mid.0 after k (sym (ap (λ o. openers_through o ps) mid.1) ∙ is)

-- the first pieces of a list
pub record PiecesRun (outer : List Level) (pieces : List Piece) (rest : List ℕ) : Type 0 where
  pub done : List Piece
  pub after : List ℕ
  pub mode : FieldMode
  pub held : List ℕ
  pub goes : Goes NoLimit (list_start outer) (spelled pieces) (field_state outer done after mode held)
  pub pieces_are : field_closed mode done held ≡ pieces
  pub stops : StopsAt mode held rest
  pub opens : openers_through (Some []) pieces ≡ Some after
  pub deep : depth_through 0 pieces ≡ length after

pub pieces_run : (outer : List Level) (depth : ℕ) (pieces : List Piece) (rest : List ℕ) → levels_open outer ≡ depth → AreBegun depth pieces rest → MayBegin pieces rest → PiecesRun outer pieces rest
pieces_run outer depth pieces rest deep begun may = go outer deep where
  open_after : (after : List ℕ) × (openers_through (Some []) pieces ≡ Some after)
  open_after = some_open pieces begun.others begun.balanced

  many : depth_through 0 pieces ≡ length open_after.0
  many = depth_of pieces [] open_after.0 0 open_after.1 ∙ add-zero (length open_after.0)

  go : (ls : List Level) → levels_open ls ≡ depth → PiecesRun ls pieces rest
  go [] is = let found = fields_reached pieces open_after.0 rest begun.fit open_after.1 may in
      record { done = found.done; after = open_after.0; mode = found.mode; held = found.held; goes = found.goes; pieces_are = found.pieces_are; stops = found.stops; opens = open_after.1; deep = many }
  go (l ∷ ls) is = let inside = begun.inside (omega (arith, is)) in
      let found = fields_found (field_fresh (l ∷ ls) [] []) pieces open_after.0 rest begun.fit inside.0 open_after.1 (λ some. inside.1) (stops-fresh (spelled pieces ++ rest)) in
      record { done = found.done; after = open_after.0; mode = found.mode; held = found.held; goes = found.goes; pieces_are = found.pieces_are; stops = found.stops; opens = open_after.1; deep = many }

-- directly after the `{` of a field, where the text ends
abbrev pub IsBraced : List Level → FieldScanned → Type 0
IsBraced [] t = t ≡ field_text_start
IsBraced (l ∷ ls) t = ((l.place ≡ literal) × (t ≡ field_state ls l.done l.openers (body l.host literal false after_brace) l.front))
    ⊎ ((l.place ≡ specification) × (t ≡ field_fresh (l ∷ ls) [] []))

-- two texts that begin with the same character
pub record BeginAlike (one two : List ℕ) : Type 0 where
  pub first : ℕ
  pub others : List ℕ
  pub more : List ℕ
  pub one_is : one ≡ first ∷ others
  pub two_is : two ≡ first ∷ more

pub alike : (c : ℕ) (xs ys : List ℕ) → BeginAlike (c ∷ xs) (c ∷ ys)
alike c xs ys = record { first = c; others = xs; more = ys; one_is = refl; two_is = refl }

-- so do texts that go on with them
pub alike_after : (xs one two : List ℕ) → BeginAlike one two → BeginAlike (xs ++ one) (xs ++ two)
alike_after [] one two h = h
alike_after (x ∷ xs) one two h = alike x (xs ++ one) (xs ++ two)

-- The machine goes from the text's start to the list: what goes from the list's start through a text that begins as the rest goes
-- through all. Where the list begins, it stands directly after the `{`.
pub record ListRun (outside rest : List ℕ) (depth : ℕ) : Type 0 where
  pub outer : List Level
  pub deep : levels_open outer ≡ depth
  pub start_is : before literal outer ≡ outside
  pub goes : (t : FieldScanned) (text : List ℕ) → BeginAlike rest text → Goes NoLimit (list_start outer) text t → Goes NoLimit field_text_start (outside ++ text) t
  pub begins_at : (t : FieldScanned) × Goes NoLimit field_text_start outside t × IsBraced outer t

-- from the text's start to what is open after the first pieces of a list
pub record AfterPieces (outside : List ℕ) (depth : ℕ) (pieces : List Piece) (front : List ℕ) : Type 0 where
  pub from : FieldScanned
  pub stops : StopsAt from.mode from.held front
  pub opens : openers_through (Some []) pieces ≡ Some from.openers
  pub deep : length from.openers + levels_open from.outer ≡ depth + depth_through 0 pieces
  pub start_is : before literal from.outer ≡ outside
  pub pieces_are : field_pieces from ≡ pieces
  pub goes : (t : FieldScanned) (text : List ℕ) → BeginAlike front text → Goes NoLimit from text t → Goes NoLimit field_text_start (outside ++ (spelled pieces ++ text)) t

pub after_pieces : (outside : List ℕ) (depth : ℕ) (pieces : List Piece) (front : List ℕ) → ListRun outside (spelled pieces ++ front) depth → AreBegun depth pieces front → MayBegin pieces front → AfterPieces outside depth pieces front
after_pieces outside depth pieces front list begun may =
    let run = pieces_run list.outer depth pieces front list.deep begun may in
    let from : FieldScanned = field_state list.outer run.done run.after run.mode run.held in record {
      from = from;
      stops = run.stops;
      opens = run.opens;
      deep = omega (arith, list.deep, run.deep);
      start_is = list.start_is;
      pieces_are = run.pieces_are;
      goes = λ t text alike_so goes.
          list.goes t (spelled pieces ++ text) (alike_after (spelled pieces) front text alike_so) (goes-append NoLimit (list_start list.outer) from t (spelled pieces) text run.goes goes);
    }

-- the start of a string is no mark
pub string_begins : (pieces : List Piece) (front : List ℕ) → begins is_mark front ≡ false → MayBegin pieces front
string_begins [] front h = h
string_begins (p ∷ ps) front h = tt

-- the `{` of a field, where the text ends
abbrev pub level_of : List Piece → List ℕ → Host → Place → List ℕ → Level
level_of done openers host place held = record { done = done; openers = openers; host = host; place = place; front = held ++ 123 ∷ [] }

pub braces : (outer : List Level) (done : List Piece) (openers : List ℕ) (host : Host) (place : Place) (mode : FieldMode) (held : List ℕ) → field_move mode held 123 ≡ opening_move host place → (t : FieldScanned) × Goes NoLimit (field_state outer done openers mode held) (123 ∷ []) t × IsBraced (level_of done openers host place held ∷ outer) t
braces outer done openers host literal mode held move =
    let t : FieldScanned = field_state outer done openers (body host literal false after_brace) (held ++ 123 ∷ []) in
    (t, goes-grows NoLimit (field_state outer done openers mode held) t (body host literal false after_brace) 123 [] move refl, inl (refl, refl))
braces outer done openers host specification mode held move =
    let s : FieldScanned = field_state outer done openers mode held in
    let t : FieldScanned = field_fresh (level_of done openers host specification held ∷ outer) [] [] in
    (t, (t, ap (field_moved s 123) move, subst (HasRoomFor NoLimit (frames s) 123) (sym move) tt, refl), inr (refl, refl))

pub list_runs : (outside rest : List ℕ) (depth : ℕ) → BeginsList outside rest depth → ListRun outside rest depth
list_runs outside rest depth (at_start _ _ _ none zero) =
    record { outer = []; deep = sym zero; start_is = sym none; goes = λ t text alike_so goes. rw none goes; begins_at = (field_text_start, rw none refl, refl) }
list_runs all rest depth (in_field _ _ _ outside base pieces front host spot spell list begun string may deep) =
    let later : List ℕ = front ++ 123 ∷ rest in
    let pieces_at = after_pieces outside base pieces later (list_runs outside (spelled pieces ++ later) base list) begun (string_begins pieces later (open_unmarked host spot front (123 ∷ rest) (123 ∷ rest) string)) in
    let run = string_runs pieces_at.from host spot front (123 ∷ rest) string pieces_at.stops in
    let move = brace_opens host spot.place run.mode front rest (subst (λ n. IsInString host spot.place n run.mode (123 ∷ rest)) may.unnamed run.stands) (open_quotes host spot front (123 ∷ rest) string) in
    let level : Level = level_of run.done run.openers host spot.place front in
    let s : FieldScanned = field_state run.outer run.done run.openers run.mode front in
    let braced = braces run.outer run.done run.openers host spot.place run.mode front move in
    let whole : (r : List ℕ) → outside ++ (spelled pieces ++ (front ++ 123 ∷ r)) ≡ all ++ r = λ r. simp (spell, append_assoc) in record {
      outer = level ∷ run.outer;
      deep = omega (arith, run.depth_is, pieces_at.deep, deep);
      start_is = simp (← append_assoc, run.start_is, pieces_at.start_is, pieces_at.pieces_are, spell);
      goes = λ t text alike_so goes.
          let single : spot.place ≡ literal → begins_open text ≡ false = λ at. ap begins_open alike_so.two_is ∙ sym (ap begins_open alike_so.one_is) ∙ may.single at in
          let code = opens_text NoLimit run.outer run.done run.openers host spot.place run.mode front text alike_so.first alike_so.more t alike_so.two_is move tt single goes in
          subst (λ x. Goes NoLimit field_text_start x t) (whole text)
          (pieces_at.goes t (front ++ 123 ∷ text) (alike_after front (123 ∷ rest) (123 ∷ text) (alike 123 rest text)) (goes-append NoLimit pieces_at.from s t front (123 ∷ text) run.goes code));
      begins_at = (
        braced.0,
        subst (λ x. Goes NoLimit field_text_start x braced.0) (whole [] ∙ append-nil all)
            (pieces_at.goes braced.0 (front ++ 123 ∷ []) (alike_after front (123 ∷ rest) (123 ∷ []) (alike 123 rest [])) (goes-append NoLimit pieces_at.from s braced.0 front (123 ∷ []) run.goes braced.1)),
        braced.2,
      );
    }
