-- What is open where a text with fields ends, by the state in which the machine stands.
use Rattle.py_lines.proofs.Prelude.{◌≡◌, ℕ, ◌+◌, ◌-◌, ◌<◌, ◌≤◌, Bool, true, false, not, ◌||◌, Option, None, Some, List, [], ◌∷◌, ◌++◌, length, nat_lt, refl, sym, ap, ◌∙◌, subst, inl, inr, append_assoc, append-nil, arith, both_ways, cond_both, ltb-true, ltb-false, Piece, spelled, byte_len, IsShallow}
use Rattle.py_lines.specs.Balance as balance
use Rattle.py_lines.specs.Balance.{is_opener, is_closer, depth_after, depth_through}
use Rattle.py_lines.specs.Faults.{IsFieldDue, OpensBraceTooDeep, InOpenBracket, Unfinished, open_brace, open_short, open_long, open_inside, IsOpenAtEnd}
use Rattle.py_lines.specs.OpenFields.{IsSlash, AreBegun, BeginsList, IsPlainShortPrefix, IsPlainLongPrefix, in_field, InFieldCode}
use Rattle.py_lines.specs.FieldStrings.{Host, Place, literal, specification, begins_open}
use Rattle.py_lines.specs.Private.Machine.{Mode, is_final, in_short, in_long, is_after_backslash}
use Rattle.py_lines.specs.Private.FieldMachine.{text_place, before, At, after_brace, FieldMode, plain, opened, empty, body, Level, FieldScanned, field_state, field_closed, levels_open, may_end, IsFieldFinal}
use Rattle.py_lines.specs.Private.FieldFaults.{is_waiting, unfinished_code, unfinished_literal, unfinished_in}
use Rattle.py_lines.proofs.Machine.OpenStrings.{slash_held}
use Rattle.py_lines.proofs.FieldSoundness.OpenLists.{Opens, level, inside, opens-depth}
use Rattle.py_lines.proofs.FieldSoundness.Holds.{Limit, HoldsAt, HoldsParts, HoldsLevels, IsFieldSound}
use Rattle.py_lines.proofs.FieldSoundness.Lists.{not_specification, stands_at}
use Rattle.py_lines.proofs.FieldSoundness.WholeTexts.{code_at_end, list_ends, two_hundred}
use Rattle.py_lines.proofs.FieldSoundness.OpenEnds.{begun_before, parts_at, stands_open, list_begins, literal_is_open, opened_is_open, specification_is_open, short_is_open, long_is_open, piece_open, code_open_at}

-- within the limit at most 200 brackets and fields are open
shallow_through : (depth : ℕ) (ps : List Piece) → depth ≤ 200 → IsShallow depth ps → depth_through depth ps ≤ 200
shallow_through depth [] room passes = room
shallow_through depth (p ∷ ps) room passes =
    let opened : is_opener p ≡ true → depth + 1 ≤ 200 = λ opens. let less : depth < 200 = passes.0 opens in omega (arith, less) in
    let few : depth_after depth p ≤ 200 =
    cond_both (is_opener p) (depth + 1) _ (λ (n : ℕ). n ≤ 200) opened (λ h. cond_both (is_closer p) (depth - 1) depth (λ (n : ℕ). n ≤ 200) (λ k. omega arith) (λ k. omega arith)) in
    shallow_through (depth_after depth p) ps few passes.2

levels_few : (place : Place) (outer : List Level) (text : List ℕ) → HoldsLevels two_hundred place outer text → levels_open outer ≤ 200
levels_few place [] text h = omega arith
levels_few place (l ∷ ls) text h = let room : length l.openers + levels_open ls < 200 = h.1.room in omega (arith, room)

pub few_frames : (outer : List Level) (done : List Piece) (openers : List ℕ) (m : FieldMode) (held read : List ℕ) → IsFieldSound two_hundred (field_state outer done openers m held) read → length openers + levels_open outer ≤ 200
few_frames outer done openers m held read sound =
    let few = shallow_through (levels_open outer) done (levels_few (text_place m) outer _ sound.levels) sound.list.passes in
    let deep = opens-depth openers done (levels_open outer) sound.list.opens in omega (arith, few, deep)

-- a bracket of the innermost list is open
bracket_is_open : (limit : Limit) (outer : List Level) (done : List Piece) (o : ℕ) (os : List ℕ) (m : FieldMode) (held read : List ℕ) → IsFieldSound limit (field_state outer done (o ∷ os) m held) read → may_end m ≡ true → (start : List ℕ) × InOpenBracket read start
bracket_is_open limit outer done o os m held read sound may =
    let here = stands_at limit outer done (o ∷ os) m held read literal sound (code_at_end m may) in
    let ends = list_ends limit outer done (o ∷ os) m held read sound may in go ends.opens
    (subst (λ t. BeginsList (before literal outer) t (levels_open outer)) (append-nil (spelled done ++ held) ∙ sym ends.spell) (list_begins limit outer (spelled done ++ held) [] here.levels))
    (begun_before outer pieces (o ∷ os) [] ends.fit ends.opens ends.in_field) (ap (λ t. before literal outer ++ t) ends.spell ∙ here.spell)
  where
    pieces : List Piece
    pieces = field_closed m done held

    go : Opens (o ∷ os) pieces → BeginsList (before literal outer) (spelled pieces) (levels_open outer) → AreBegun (levels_open outer) pieces [] → before literal outer ++ spelled pieces ≡ read → (start : List ℕ) × InOpenBracket read start
    go (level _ _ none within) list begun spell = absurd (cc)
    go (inside _ _ c others first inner a is shape out opens kind within) list begun spell = (
      before literal outer ++ spelled first,
      record {
        outside = before literal outer;
        depth = levels_open outer;
        outer = first;
        opener = a;
        inner = inner;
        list = subst (λ (l : List Piece). BeginsList (before literal outer) (spelled l) (levels_open outer)) shape list;
        begun = subst (λ (l : List Piece). AreBegun (levels_open outer) l []) shape begun;
        opens = opens;
        balanced = within;
        spell = ap (λ (l : List Piece). before literal outer ++ spelled l) (sym shape) ∙ spell;
        before = refl;
      },
    )

-- a field may open here, in a string that is open up to this text
pub due_at : (limit : Limit) (outer : List Level) (done : List Piece) (openers : List ℕ) (m : FieldMode) (held read : List ℕ) → IsFieldSound limit (field_state outer done openers m held) read → (host : Host) (place : Place) (text after more : List ℕ) → text_place m ≡ place → text ++ (123 ∷ after) ≡ held ++ more → (place ≡ literal → begins_open after ≡ false) → HoldsParts limit outer (length openers + levels_open outer) host place false text (123 ∷ []) → IsFieldDue place (length openers + levels_open outer) (before place outer ++ (spelled done ++ text)) after
due_at limit outer done openers m held read sound host place text after more at same single h =
    let depth = length openers + levels_open outer in
    let here = stands_at limit outer done openers m held read place sound at in
    let so = stands_open limit place outer done openers host false text (123 ∷ after) held more same here.list (parts_at limit outer depth host place false text (123 ∷ []) after h) here.levels in
    record {
      outside = so.outside;
      base = so.base;
      pieces = so.pieces;
      front = text;
      host = host;
      spot = so.spot;
      list = so.list;
      begun = so.begun;
      string = so.string;
      may = record { unnamed = so.named_is; single = λ is. single (sym so.place_is ∙ is) };
      spell = sym (append_assoc so.outside (spelled so.pieces) text) ∙ ap (λ t. t ++ text) (sym so.before_is) ∙ append_assoc (before place outer) (spelled done) text;
      place_is = so.place_is;
      deep = so.depth_is;
    }

-- directly after the `{` of a literal part: it may open a field before what follows
brace_due : (limit : Limit) (outer : List Level) (done : List Piece) (openers : List ℕ) (host : Host) (named : Bool) (held read : List ℕ) → IsFieldSound limit (field_state outer done openers (body host literal named after_brace) held) read → (after : List ℕ) → begins_open after ≡ false → (start : List ℕ) × (start ++ 123 ∷ [] ≡ read) × IsFieldDue literal (length openers + levels_open outer) start after
brace_due limit outer done openers host named held read sound after single =
    let (text, is, at, unnamed, h) = sound.mode in
    let parts = subst (λ n. HoldsParts limit outer (length openers + levels_open outer) host literal n text (123 ∷ [])) unnamed h in
    let spell : (before literal outer ++ (spelled done ++ text)) ++ 123 ∷ [] ≡ read = (simp append_assoc) ∙ ap (λ t. before literal outer ++ (spelled done ++ t)) (sym is) ∙ sound.spell in
    let same : text ++ (123 ∷ after) ≡ held ++ after = sym (append_assoc text (123 ∷ []) after) ∙ ap (λ t. t ++ after) (sym is) in
    (_, spell, due_at limit outer done openers (body host literal named after_brace) held read sound host literal text after after refl same (λ at. single) parts)

-- a field would open at depth 200
pub brace_is_due : (limit : Limit) (outer : List Level) (done : List Piece) (openers : List ℕ) (host : Host) (named : Bool) (held read : List ℕ) → IsFieldSound limit (field_state outer done openers (body host literal named after_brace) held) read → (after : List ℕ) → begins_open after ≡ false → length openers + levels_open outer ≡ 200 → (offset : ℕ) × OpensBraceTooDeep read after offset
brace_is_due limit outer done openers host named held read sound after single full =
    let (start, spell, due) = brace_due limit outer done openers host named held read sound after single in
    (byte_len start, record { start = start; spell = spell; due = subst (λ n. IsFieldDue literal n start after) full due; place = refl })

-- and at the end it is open
brace_is_open : (limit : Limit) (outer : List Level) (done : List Piece) (openers : List ℕ) (host : Host) (named : Bool) (held read : List ℕ) → IsFieldSound limit (field_state outer done openers (body host literal named after_brace) held) read → (start : List ℕ) × InFieldCode read start
brace_is_open limit outer done openers host named held read sound =
    let depth = length openers + levels_open outer + 1 in
    let (start, spell, due) = brace_due limit outer done openers host named held read sound [] refl in
    let list = in_field (start ++ 123 ∷ []) [] depth due.outside due.base due.pieces due.front due.host due.spot (ap (λ t. t ++ 123 ∷ []) (sym due.spell) ∙ simp append_assoc) due.list due.begun due.string due.may (omega (arith, due.deep)) in
    let begun : AreBegun depth [] [] = record { fit = tt; others = []; balanced = balance.none [] refl; inside = λ deep. (refl, tt) } in
    (start, record { depth = depth; pieces = []; list = list; begun = begun; deep = omega arith; balanced = balance.none [] refl; spell = spell })

-- no `{` of a specification waits for the next character
pub no_brace_at : (outer : List Level) (depth : ℕ) (held : List ℕ) (host : Host) (named : Bool) (at : At) → HoldsAt two_hundred outer depth host specification named at held → at ≡ after_brace → ⊥
no_brace_at outer depth held host named after_brace holds same = not_specification (sym holds.2)
no_brace_at outer depth held host named at holds same = absurd (grind arith)

-- the machine stands directly after the `{` of a literal part, with 200 brackets and fields open
abbrev pub IsDeepBrace : List Level → List ℕ → FieldMode → Type 0
IsDeepBrace outer openers m = (is_waiting m ≡ true) × (length openers + levels_open outer ≡ 200)

-- where a text ends in a state of the machine, it may end there, or this is open
abbrev pub EndsSo : FieldScanned → List ℕ → Option Unfinished → Type 0
EndsSo s read None = IsFieldFinal s
EndsSo s read (Some what) = (offset : ℕ) × IsOpenAtEnd what read offset

-- the text may end in a mode in which nothing of the kind is open
pub final_by : (m : Mode) → is_final m ≡ not (in_short m || (in_long m || is_after_backslash m))
final_by m = grind arith

-- where the text may end, brackets and fields aside
code_open : (outer : List Level) (done : List Piece) (openers : List ℕ) (m : FieldMode) (held read : List ℕ) → IsFieldSound two_hundred (field_state outer done openers m held) read → may_end m ≡ true → ((place : ℕ) → ¬ (OpensBraceTooDeep read [] place)) → EndsSo (field_state outer done openers m held) read (unfinished_code outer openers)
code_open [] done [] m held read sound may none = record { outside = refl; closed_all = refl; ends = may }
code_open (l ∷ ls) done [] m held read sound may none =
    let own = (stands_at two_hundred (l ∷ ls) done [] m held read literal sound (code_at_end m may)).levels.1 in
    let start = before l.place ls ++ (spelled l.done ++ own.text) in
    (byte_len start, (start, inl (code_open_at two_hundred l ls done m held read start sound may (ap (λ t. before l.place ls ++ (spelled l.done ++ t)) own.spell ∙ simp append_assoc)), refl, none))
code_open outer done (o ∷ os) m held read sound may none =
    let at = bracket_is_open two_hundred outer done o os m held read sound may in
    (byte_len at.0, (at.0, at.1, refl))

pub brace_open : (outer : List Level) (done : List Piece) (openers : List ℕ) (host : Host) (named : Bool) (held read : List ℕ) → IsFieldSound two_hundred (field_state outer done openers (body host literal named after_brace) held) read → ((place : ℕ) → OpensBraceTooDeep read [] place → IsDeepBrace outer openers (body host literal named after_brace)) → (offset : ℕ) × IsOpenAtEnd (unfinished_literal host after_brace (length openers + levels_open outer)) read offset
brace_open outer done openers host named held read sound deep =
    let depth = length openers + levels_open outer in
    cond_both (nat_lt depth 200) open_inside open_brace (λ (w : Unfinished). (offset : ℕ) × IsOpenAtEnd w read offset)
    (λ less. let at = brace_is_open two_hundred outer done openers host named held read sound in let room = ltb-true depth 200 less in
    (byte_len at.0, (at.0, inl at.1, refl, λ place due. omega (arith, room, (deep place due).1))))
    (λ full. let few = few_frames outer done openers (body host literal named after_brace) held read sound in let many = ltb-false depth 200 full in
    let is : depth ≡ 200 = omega (arith, few, many) in brace_is_due two_hundred outer done openers host named held read sound [] refl is)

-- in each mode
pub open_in : (outer : List Level) (done : List Piece) (openers : List ℕ) (m : FieldMode) (held read : List ℕ) → IsFieldSound two_hundred (field_state outer done openers m held) read → ((place : ℕ) → OpensBraceTooDeep read [] place → IsDeepBrace outer openers m) → EndsSo (field_state outer done openers m held) read (unfinished_in outer openers m)
open_in outer done openers (plain m) held read sound deep =
    let P : Option Unfinished → Type 0 = EndsSo (field_state outer done openers (plain m) held) read in
    let start = before literal outer ++ spelled done in cond_both (in_short m) _ _ P
    (λ is. (byte_len start, (start, short_is_open two_hundred outer done openers m held read sound is, refl)))
    (λ short. cond_both (in_long m) _ _ P
    (λ is. (byte_len start, (start, long_is_open two_hundred outer done openers m held read sound is, refl)))
    (λ long. cond_both (is_after_backslash m) _ _ P
    (λ is. (byte_len start, (start, piece_open two_hundred outer done openers (plain m) held read sound IsSlash refl (slash_held m [] held sound.mode.0 is), refl)))
    (λ slash. code_open outer done openers (plain m) held read sound (final_by m ∙ rw (short, long, slash) refl) (λ place due. both_ways _ refl (deep place due).0))))
open_in outer done openers (opened host) held read sound deep =
    let start = before literal outer ++ spelled done in
    (byte_len start, (start, opened_is_open two_hundred outer done openers host held read sound, refl))
open_in outer done openers (empty host) held read sound deep = code_open outer done openers (empty host) held read sound refl (λ place due. both_ways _ refl (deep place due).0)
open_in outer done openers (body host specification named at) held read sound deep =
    let own = specification_is_open two_hundred outer done openers host named at held read sound (no_brace_at outer _ held host named at sound.mode) in
    (byte_len own.0, (own.0, inr (host, own.1), refl, λ place due. both_ways _ refl (deep place due).0))
open_in outer done openers (body host literal named after_brace) held read sound deep = brace_open outer done openers host named held read sound deep
open_in outer done openers (body host literal named at) held read sound deep =
    let start = before literal outer ++ spelled done in
    let waits_not : at ≡ after_brace → ⊥ = λ is. both_ways _ refl (ap (λ a. is_waiting (body host literal named a)) is) in
    cond_both host.is_long open_long open_short (λ (w : Unfinished). (offset : ℕ) × IsOpenAtEnd w read offset)
    (λ long. (byte_len start, (start, literal_is_open two_hundred outer done openers host named at held read sound waits_not IsPlainLongPrefix true long, refl)))
    (λ short. (byte_len start, (start, literal_is_open two_hundred outer done openers host named at held read sound waits_not IsPlainShortPrefix false short, refl)))
