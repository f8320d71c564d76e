-- What is open where a text with fields ends, and where it starts, are told by the state of the machine there. So a live text that
-- has no reading has a fault at its end, and one alone.
use Rattle.py_lines.proofs.Prelude.{if◌then◌else◌, encode, ◌≡◌, ℕ, ◌+◌, Bool, true, false, not, ◌||◌, arith, Option, None, Some, List, [], ◌∷◌, ◌++◌, refl, sym, ap, ◌∙◌, subst, ◌<◌, ◌⊎◌, inl, inr, length, nat_lt, append_assoc, append-nil, both_ways, cond_both, Piece, spelled, string, FaultKind, Host, literal, specification, IsBalancedReading, piece, byte_len-append}
use Rattle.py_lines.specs.LogicalLine.{byte_len, first_or_zero}
use Rattle.py_lines.specs.Balance.{is_opener, IsBalanced}
use Rattle.py_lines.specs.Faults.{Unfinished, open_brace, open_short, open_long, open_join, open_bracket, open_inside, InOpenBracket, OpensBraceTooDeep, kind_of_unfinished, IsOpenAtEnd, IsEndFault}
use Rattle.py_lines.specs.Private.Mode as modes
use Rattle.py_lines.specs.Private.Machine.{Bracket, brackets_of}
use Rattle.py_lines.specs.Private.FieldMachine.{text_place, before, after_brace, in_open_short, in_open_long, after_open_backslash, InSpecificationOf, FieldMode, plain, body, Level, FieldScanned, field_state, field_text_start, field_steps_from, field_pieces, may_end, openers_through, have_room, IsFieldFinal, levels_open, frames, field_closed}
use Rattle.py_lines.proofs.Pieces.PieceLists.{spelled-append}
use Rattle.py_lines.proofs.Faults.EndFaults.{IsDeepBrace, EndsSo, brace_open, open_in}
use Rattle.py_lines.proofs.FieldMachine.Runs.{NoLimit, Goes, steps_of}
use Rattle.py_lines.proofs.FieldMachine.OpenLists.{pieces_run, list_runs}
use Rattle.py_lines.proofs.Fields.Parts.{some_head}
use Rattle.py_lines.proofs.FieldMachine.ListBrackets.{openers_through-append, opener_pushes, balanced_openers, none_some}
use Rattle.py_lines.specs.Private.FieldFaults.{unfinished_code, unfinished_in, unfinished_at, is_waiting, unfinished_literal, here, piece_start}
use Rattle.py_lines.proofs.FieldMachine.Completeness.{reading_reached, may_begin}
use Rattle.py_lines.proofs.FieldMachine.WhatIsOpen.{Comes, comes_to, short_open_comes, long_open_comes, backslash_comes, SpecificationAt, specification_comes, CodeAt, in_code, at_brace, code_comes, brace_comes}
use Rattle.py_lines.proofs.FieldMachine.OpenStrings.{HasOpened}
use Rattle.py_lines.proofs.FieldSoundness.Holds.{IsFieldSound}
use Rattle.py_lines.proofs.FieldSoundness.HostSteps.{sound_at}
use Rattle.py_lines.proofs.FieldSoundness.WholeTexts.{two_hundred, rooms_at, final_is_reading}
use Rattle.py_lines.proofs.Machine.PieceSteps.{some_is}
use Rattle.py_lines.proofs.FieldSoundness.LiveTexts.{live_goes, goes_live}
use Rattle.py_lines.proofs.Pieces.OpenBrackets.{innermost_place}
use Rattle.py_lines.proofs.Machine.LiveTexts.{keeps, stack_closed}

-- The fault of what is open stands at this byte, that of a field directly before the text up to its `{` ends. Where that is a bracket,
-- it is the innermost of those that the finished pieces of the innermost list leave open.
abbrev pub StandsThere : FieldScanned → Unfinished → ℕ → Type 0
StandsThere s open_bracket offset = (b : Bracket) (bs : List Bracket) → brackets_of s.done ≡ Some (b ∷ bs) → offset ≡ byte_len (before literal s.outer) + b.place
StandsThere s open_brace offset = offset + 1 ≡ here s
StandsThere s open_inside offset = offset + 1 ≡ (if is_waiting s.mode then here s else byte_len (before literal s.outer))
StandsThere s what offset = offset ≡ piece_start s

-- that bracket is one of the pieces
abbrev pub IsPlaced : Unfinished → FieldScanned → ℕ → Type 0
IsPlaced open_bracket s offset =
    (outer : List Piece) × (opener : Piece) × (inner : List Piece) × (field_pieces s ≡ outer ++ opener ∷ inner) × (is_opener opener ≡ true)
    × IsBalanced inner × (offset ≡ byte_len (before literal s.outer ++ spelled outer))
IsPlaced what s offset = StandsThere s what offset

-- a bracket is open after one that no bracket closes
some_after : (outer inner : List Piece) (a : Piece) (after : List ℕ) → is_opener a ≡ true → IsBalanced inner → openers_through (Some []) (outer ++ a ∷ inner) ≡ Some after → (o : ℕ) × (os : List ℕ) × (after ≡ o ∷ os)
some_after outer inner a after opens within is = go (openers_through (Some []) outer) (sym (openers_through-append (Some []) outer (a ∷ inner)) ∙ is) where
  go : (o : Option (List ℕ)) → openers_through o (a ∷ inner) ≡ Some after → (c : ℕ) × (os : List ℕ) × (after ≡ c ∷ os)
  go None is = absurd (none_some is)
  go (Some os) is = let c = first_or_zero a.text in
      let same : Some (c ∷ os) ≡ Some after = sym (balanced_openers inner within (c ∷ os)) ∙ sym (ap (λ o. openers_through o inner) (opener_pushes os a.class a.text opens)) ∙ is in
      (c, os, cc)

-- so the innermost open bracket is one
unclosed : (outer inner : List Piece) (a : Piece) → IsBalanced (outer ++ a ∷ inner) → is_opener a ≡ true → IsBalanced inner → ⊥
unclosed outer inner a all opens within = let (o, os, some) = some_after outer inner a [] opens within (balanced_openers (outer ++ a ∷ inner) all []) in cc

pub one_bracket : (outer others inner more : List Piece) (a b : Piece) → outer ++ a ∷ inner ≡ others ++ b ∷ more → is_opener a ≡ true → is_opener b ≡ true → IsBalanced inner → IsBalanced more → outer ≡ others
one_bracket [] [] inner more a b same one two first second = refl
one_bracket [] (z ∷ zs) inner more a b same one two first second =
    let is : inner ≡ zs ++ b ∷ more = grind arith in
    absurd (unclosed zs more b (subst IsBalanced is first) two second)
one_bracket (x ∷ xs) [] inner more a b same one two first second =
    let is : xs ++ a ∷ inner ≡ more = grind arith in
    absurd (unclosed xs inner a (subst IsBalanced (sym is) second) one first)
one_bracket (x ∷ xs) (z ∷ zs) inner more a b same one two first second =
    let here : x ≡ z = grind arith in let later : xs ++ a ∷ inner ≡ zs ++ b ∷ more = grind arith in
    ap (λ p. p ∷ xs) here ∙ ap (λ l. z ∷ l) (one_bracket xs zs inner more a b later one two first second)

-- a `{` is one byte more
pub brace_more : (start read : List ℕ) → start ++ 123 ∷ [] ≡ read → byte_len start + 1 ≡ byte_len read
unfolding encode
brace_more start read is = sym (byte_len-append start (123 ∷ [])) ∙ ap byte_len is

-- so the place is one
pub one_place : (what : Unfinished) (s : FieldScanned) (offset place : ℕ) → IsPlaced what s offset → IsPlaced what s place → offset ≡ place
one_place open_bracket s offset place (outer, a, inner, is, opens, within, at) (others, b, more, also, two, second, there) =
    at ∙ ap (λ l. byte_len (before literal s.outer ++ spelled l)) (one_bracket outer others inner more a b (sym is ∙ also) opens two within second) ∙ sym there
one_place what s offset place one two = omega (arith, one, two)

-- the kinds, by the mode: a string or a backslash stands in no specification
pub short_unfinished : (outer : List Level) (openers : List ℕ) (m : FieldMode) → in_open_short m ≡ true → (unfinished_in outer openers m ≡ Some open_short) × (text_place m ≡ literal)
short_unfinished outer openers m is = grind arith

pub long_unfinished : (outer : List Level) (openers : List ℕ) (m : FieldMode) → in_open_long m ≡ true → (unfinished_in outer openers m ≡ Some open_long) × (text_place m ≡ literal)
long_unfinished outer openers m is = grind arith

pub join_unfinished : (outer : List Level) (openers : List ℕ) (m : FieldMode) → after_open_backslash m ≡ true → (unfinished_in outer openers m ≡ Some open_join) × (text_place m ≡ literal)
join_unfinished outer openers (plain modes.Backslash) is = (refl, refl)
join_unfinished outer openers m is = absurd (both_ways _ refl is)

-- where it may end, nothing of the kind is open
none_open : (short long slash : Bool) (o : Option Unfinished) → not (short || (long || slash)) ≡ true → (if short then Some open_short else (if long then Some open_long else (if slash then Some open_join else o))) ≡ o
none_open false false false o ends = refl
none_open short long slash o ends = absurd (both_ways _ refl ends)

-- where it may end, brackets and fields aside, code is open, and no `{` of a literal part waits
pub code_unfinished : (outer : List Level) (openers : List ℕ) (m : FieldMode) → may_end m ≡ true → (unfinished_in outer openers m ≡ unfinished_code outer openers) × (is_waiting m ≡ false)
code_unfinished outer openers m may = grind arith

-- nor does one in a specification
pub specification_says : (outer : List Level) (openers : List ℕ) (host : Host) (m : FieldMode) → InSpecificationOf host m → (unfinished_in outer openers m ≡ Some open_inside) × (is_waiting m ≡ false) × (text_place m ≡ specification)
specification_says outer openers host (body own specification named at) is = (refl, refl, refl)
specification_says outer openers host m is = absurd is

pub same_state : (characters : List ℕ) (s t : FieldScanned) → field_steps_from (Some field_text_start) characters ≡ Some s → field_steps_from (Some field_text_start) characters ≡ Some t → s ≡ t
same_state characters s t one two = cc

opener_text : (p : Piece) → is_opener p ≡ true → (c : ℕ) × (cs : List ℕ) × (p.text ≡ c ∷ cs)
opener_text p h = grind arith

pub bracket_back : (characters start : List ℕ) (s : FieldScanned) → InOpenBracket characters start → field_steps_from (Some field_text_start) characters ≡ Some s → (unfinished_at s ≡ Some open_bracket) × IsPlaced open_bracket s (byte_len start)
bracket_back characters start s is steps =
    let pieces = is.outer ++ is.opener ∷ is.inner in let list = list_runs is.outside (spelled pieces) is.depth is.list in
    let run = pieces_run list.outer is.depth pieces [] list.deep is.begun (may_begin pieces) in
    let t : FieldScanned = field_state list.outer run.done run.after run.mode run.held in let text = opener_text is.opener is.opens in
    let head = some_head (spelled is.outer) text.0 (text.1 ++ spelled is.inner) in
    let full : spelled pieces ≡ head.0 ∷ head.1 = spelled-append is.outer (is.opener ∷ is.inner) ∙ ap (λ x. spelled is.outer ++ (x ++ spelled is.inner)) text.2 ∙ head.2 in
    let goes : Goes NoLimit field_text_start characters t = subst (λ x. Goes NoLimit field_text_start x t) is.spell (list.goes t (spelled pieces) (record { first = head.0; others = head.1; more = head.1; one_is = full; two_is = full }) run.goes) in
    let same : t ≡ s = same_state characters t s (steps_of NoLimit field_text_start t characters goes) steps in
    let some = some_after is.outer is.inner is.opener run.after is.opens is.balanced run.opens in
    let here : (unfinished_at t ≡ Some open_bracket) × IsPlaced open_bracket t (byte_len start) = (
      (code_unfinished list.outer run.after run.mode run.stops).0 ∙ ap (unfinished_code list.outer) some.2,
      (is.outer, is.opener, is.inner, run.pieces_are, is.opens, is.balanced, ap byte_len (sym is.before ∙ ap (λ x. x ++ spelled is.outer) (sym list.start_is))),
    ) in subst (λ (x : FieldScanned). (unfinished_at x ≡ Some open_bracket) × IsPlaced open_bracket x (byte_len start)) same here

-- directly after a `{` at depth 200 the machine stands there
pub deep_state : (characters : List ℕ) (s : FieldScanned) (after : List ℕ) (place : ℕ) → field_steps_from (Some field_text_start) characters ≡ Some s → OpensBraceTooDeep characters after place → IsDeepBrace s.outer s.openers s.mode
deep_state characters s after place steps deep =
    let Such : FieldScanned → Type 0 = λ t. (host : Host) × (t.mode ≡ body host literal false after_brace) × (frames t ≡ 200) in
    let at = comes_to characters Such s (subst (λ t. Comes t Such) deep.spell (brace_comes 200 deep.start after deep.due)) steps in (ap is_waiting at.1, at.2)

pub sound_to : (characters : List ℕ) (s : FieldScanned) → field_steps_from (Some field_text_start) characters ≡ Some s → have_room (Some field_text_start) characters ≡ true → IsFieldSound two_hundred s characters
sound_to characters s steps room = sound_at two_hundred characters s (rooms_at (Some field_text_start) characters room) steps

-- what is open at the end
pub open_now : (characters : List ℕ) (s : FieldScanned) → field_steps_from (Some field_text_start) characters ≡ Some s → have_room (Some field_text_start) characters ≡ true → EndsSo s characters (unfinished_at s)
open_now characters s steps room = open_in s.outer s.done s.openers s.mode s.held characters (sound_to characters s steps room) (λ place deep. deep_state characters s [] place steps deep)

-- a live text is read, or has a fault at its end
pub read_or_open : (characters : List ℕ) (s : FieldScanned) → field_steps_from (Some field_text_start) characters ≡ Some s → have_room (Some field_text_start) characters ≡ true → IsBalancedReading (field_pieces s) characters ⊎ ((kind : FaultKind) × (offset : ℕ) × IsEndFault kind characters [] offset)
read_or_open characters s steps room = go (unfinished_at s) (open_now characters s steps room) where
  go : (o : Option Unfinished) → EndsSo s characters o → IsBalancedReading (field_pieces s) characters ⊎ ((kind : FaultKind) × (offset : ℕ) × IsEndFault kind characters [] offset)
  go None final = inl (final_is_reading characters s steps room final)
  go (Some what) at = inr (kind_of_unfinished what, at.0, record { unfinished = what; is = refl; whole = refl; live = goes_live characters s steps room; ends_in = at.1 })

code_inside : (outer : List Level) (openers : List ℕ) → 0 < levels_open outer → openers ≡ [] → unfinished_code outer openers ≡ Some open_inside
code_inside [] openers deep none = absurd (omega arith)
code_inside (l ∷ ls) openers deep none = ap (unfinished_code (l ∷ ls)) none

module _ (characters : List ℕ) (s : FieldScanned) (steps : field_steps_from (Some field_text_start) characters ≡ Some s) (room : have_room (Some field_text_start) characters ≡ true) where
  sound : IsFieldSound two_hundred s characters
  sound = sound_to characters s steps room

  pub text_is : here s ≡ byte_len characters
  text_is = ap byte_len sound.spell

  abbrev pub IsNamed : Unfinished → ℕ → Type 0
  IsNamed what offset = (unfinished_at s ≡ Some what) × IsPlaced what s offset

  code_named : (start : List ℕ) (offset : ℕ) → CodeAt start s → offset ≡ byte_len start → ((place : ℕ) → ¬ (OpensBraceTooDeep characters [] place)) → IsNamed open_inside offset
  code_named start offset (in_code deep none may is) place other = (
    (code_unfinished s.outer s.openers s.mode may).0 ∙ code_inside s.outer s.openers deep none,
    rw ((code_unfinished s.outer s.openers s.mode may).1) (ap (λ n. n + 1) place ∙ brace_more start _ (sym is)),
  )
  code_named start offset (at_brace host mode_is is) place other = go s.mode mode_is sound where
    go : (m : FieldMode) → m ≡ body host literal false after_brace → IsFieldSound two_hundred (field_state s.outer s.done s.openers m s.held) characters → (unfinished_in s.outer s.openers m ≡ Some open_inside) × (offset + 1 ≡ (if is_waiting m then here s else byte_len (before literal s.outer)))
    go (body own literal named after_brace) same here = let depth = length s.openers + levels_open s.outer in (
      cond_both (nat_lt depth 200) open_inside open_brace (λ (w : Unfinished). (at : ℕ) × IsOpenAtEnd w characters at → Some w ≡ Some open_inside) (λ less due. refl) (λ full due. absurd (other due.0 due.1))
          (brace_open s.outer s.done s.openers own named s.held characters here (λ at due. absurd (other at due))),
      ap (λ n. n + 1) place ∙ brace_more start _ (sym is ∙ append_assoc (before literal s.outer) (spelled s.done) s.held ∙ here.spell) ∙ sym text_is,
    )
    go m same here = absurd (both_ways _ refl (ap is_waiting same))

  pub specification_named : (host : Host) (start : List ℕ) (offset : ℕ) → SpecificationAt host start s → offset ≡ byte_len start → IsNamed open_inside offset
  specification_named host start offset at place = let inside = specification_says s.outer s.openers host s.mode at.mode_is in
      let none = sound.list.no_list inside.2 in
      (inside.0, rw (inside.1) (ap (λ n. n + 1) place ∙ brace_more start _ (whole s.outer at.string_is at.field_is none.0)))
    where
      whole : (outer : List Level) → before specification outer ++ spelled s.done ≡ at.string → HasOpened specification outer at.field → s.done ≡ [] → start ++ 123 ∷ [] ≡ before literal outer
      whole [] string_is field_is none = absurd field_is
      whole (l ∷ ls) string_is field_is none = ap (λ t. t ++ 123 ∷ []) (sym at.before) ∙ append_assoc at.string at.field (123 ∷ [])
          ∙ ap (λ t. at.string ++ t) (sym field_is)
          ∙ ap (λ t. t ++ l.front) (sym string_is ∙ ap (λ (p : List Piece). (before l.place ls ++ spelled l.done) ++ spelled p) none ∙ append-nil (before l.place ls ++ spelled l.done))
          ∙ append_assoc (before l.place ls) (spelled l.done) l.front

  -- what is open starts where the open piece does
  starts_there : (what : Unfinished) (test : FieldMode → Bool) (start : List ℕ) (offset : ℕ) → (test s.mode ≡ true → (unfinished_at s ≡ Some what) × (text_place s.mode ≡ literal)) → Comes characters (λ t. (test t.mode ≡ true) × (before literal t.outer ++ spelled t.done ≡ start)) → offset ≡ byte_len start → (unfinished_at s ≡ Some what) × (offset ≡ piece_start s)
  starts_there what test start offset tells comes place = let own = comes_to characters _ s comes steps in let found = tells own.0 in
      (found.0, place ∙ ap byte_len (sym own.1) ∙ ap (λ p. byte_len (before p s.outer ++ spelled s.done)) (sym found.1))

  pub end_named : (what : Unfinished) (offset : ℕ) → IsOpenAtEnd what characters offset → IsNamed what offset
  end_named open_brace offset deep =
      (brace_named s.outer s.openers s.mode (deep_state characters s [] offset steps deep), ap (λ n. n + 1) deep.place ∙ brace_more deep.start characters deep.spell ∙ sym text_is)
    where
      brace_named : (outer : List Level) (openers : List ℕ) (m : FieldMode) → IsDeepBrace outer openers m → unfinished_in outer openers m ≡ Some open_brace
      brace_named outer openers (body host literal named after_brace) (waits, full) = ap (λ n. Some (unfinished_literal host after_brace n)) full
      brace_named outer openers m (waits, full) = absurd (both_ways _ refl waits)
  end_named open_short offset (start, is, place) = starts_there open_short in_open_short start offset (short_unfinished s.outer s.openers s.mode) (short_open_comes characters start is) place
  end_named open_long offset (start, is, place) = starts_there open_long in_open_long start offset (long_unfinished s.outer s.openers s.mode) (long_open_comes characters start is) place
  end_named open_join offset (start, is, place) = starts_there open_join after_open_backslash start offset (join_unfinished s.outer s.openers s.mode) (backslash_comes characters start is) place
  end_named open_bracket offset (start, is, place) =
      subst (λ (n : ℕ). (unfinished_at s ≡ Some open_bracket) × IsPlaced open_bracket s n) (sym place) (bracket_back characters start s is steps)
  end_named open_inside offset (start, inl is, place, other) = code_named start offset (comes_to characters (CodeAt start) s (code_comes characters start is) steps) place other
  end_named open_inside offset (start, inr (host, is), place, other) = specification_named host start offset (comes_to characters _ s (specification_comes host characters start is) steps).0 place

-- so the fault at the end is one
pub one_end : (characters tail : List ℕ) (kind other : FaultKind) (offset place : ℕ) → IsEndFault kind characters tail offset → IsEndFault other characters tail place → (kind ≡ other) × (offset ≡ place)
one_end characters tail kind other offset place first second =
    let run = live_goes characters first.live in
    let one = end_named characters run.0 run.1 run.2 first.unfinished offset first.ends_in in
    let two = end_named characters run.0 run.1 run.2 second.unfinished place second.ends_in in
    let same : first.unfinished ≡ second.unfinished = some_is first.unfinished second.unfinished (sym one.0 ∙ two.0) in (
      first.is ∙ ap kind_of_unfinished same ∙ sym second.is,
      one_place second.unfinished run.0 offset place (subst (λ (w : Unfinished). IsPlaced w run.0 offset) same one.1) two.1,
    )

-- and then the text has no reading
pub end_unread : (characters tail : List ℕ) (kind : FaultKind) (offset : ℕ) → IsEndFault kind characters tail offset → (pieces : List Piece) → ¬ (IsBalancedReading pieces characters)
end_unread characters tail kind offset fault pieces reading =
    let run = live_goes characters fault.live in
    let whole = reading_reached pieces characters reading in let same = same_state characters whole.to run.0 whole.steps run.1 in
    let final : IsFieldFinal run.0 = subst IsFieldFinal same whole.final in
    let open_yet = end_named characters run.0 run.1 run.2 fault.unfinished offset fault.ends_in in
    let none : unfinished_at run.0 ≡ None = (code_unfinished run.0.outer run.0.openers run.0.mode final.ends).0 ∙ rw (final.outside, final.closed_all) refl in
    none_some (sym none ∙ open_yet.0)

-- a piece that is open is no bracket
open_keeps : (m : FieldMode) (done : List Piece) (held : List ℕ) (st : List Bracket) → brackets_of done ≡ Some st → brackets_of (field_closed m done held) ≡ Some st
open_keeps (plain m) done held st stack = stack_closed m done held st stack
open_keeps m done held st stack = keeps done (piece string held) st refl refl stack

module _ (read : List ℕ) (s : FieldScanned) (steps : field_steps_from (Some field_text_start) read ≡ Some s) (room : have_room (Some field_text_start) read ≡ true) where
  -- the byte that the definitions name is that of the state
  there : (what : Unfinished) (offset : ℕ) → IsPlaced what s offset → StandsThere s what offset
  there open_bracket offset (outer, opener, inner, shape, opens, within, at) = λ b bs stack.
      let place = innermost_place outer inner opener b bs opens within (ap brackets_of (sym shape) ∙ open_keeps s.mode s.done s.held (b ∷ bs) stack) in
      at ∙ byte_len-append (before literal s.outer) (spelled outer) ∙ ap (λ n. byte_len (before literal s.outer) + n) (sym place)
  there what offset at = at

  -- what is open at the end, and where
  pub unfinished_fits : (what : Unfinished) → unfinished_at s ≡ Some what → (offset : ℕ) × IsEndFault (kind_of_unfinished what) read [] offset × StandsThere s what offset
  unfinished_fits what is = let found = subst (EndsSo s read) is (open_now read s steps room) in (
    found.0,
    record { unfinished = what; is = refl; whole = refl; live = goes_live read s steps room; ends_in = found.1 },
    there what found.0 (end_named read s steps room what found.0 found.1).1,
  )
