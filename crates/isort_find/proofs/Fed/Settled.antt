-- What the bytes fed settle and decide, where nothing is ready, or a binding was given.
use Rattle.std.proofs.Common.{◌≡◌, ℕ, ◌+◌, ◌-◌, ◌<◌, ◌≤◌, Bool, true, false, not, ◌&&◌, Option, None, Some, List, [], ◌∷◌, ◌++◌, length, take, drop, inl, inr, ◌⊎◌, refl, sym, ap, ◌∙◌, subst, append_assoc, append-nil, arith}
use Rattle.std.proofs.Math.Seq.{take-add}
use Rattle.py_lines.specs.LogicalLine.{LogicalLine}
use Rattle.py_lines.specs.Settled.{IsSettled, Decides}
use Rattle.py_lines.specs.ScannerState.{ScannerState, fed_of, ready_lines}
use Rattle.py_lines.specs.declared.fault.Fault.{Fault}
use Rattle.py_imports.specs.BindingValue.{BindingValue}
use Rattle.py_imports.specs.Binds.{BindAll}
use Rattle.isort_find.specs.Found.{firsts, ends_top, counted_lines, AreFound, of_all, IsFound}
use Rattle.isort_find.specs.Settled.{IsFoundSettled, SettlesBadLine, DecidesFound}
use Rattle.isort_find.specs.Cursor.{CursorState}
use Rattle.isort_find.specs.Pending.{PendingState}
use Rattle.isort_find.specs.Pieces.{piece_finder_state, fed_in, HasNoFault, HasReleased, IsBetweenLines, IsWithinLine, IsAtTopEnd, HasFoundIn, AreSettled, AreAllSettled, IsUndecided}
use Rattle.isort_find.specs.Position.{ready_in}
use Rattle.isort_find.specs.Private.PieceSteps.{IsDrained}
use Rattle.isort_find.specs.declared.options.FindOptions.{FindOptions}
use Rattle.isort_find.specs.declared.walker.Position.{Position}
use Rattle.isort_find.specs.declared.walker.Position.TheVariants as position
use Rattle.isort_find.specs.Private.KnownLaws.{AscentLaws, OneSettled, SettledLaws}
use Rattle.isort_find.proofs.Keys.TakenBindings.{list_all-snoc}
use Rattle.isort_find.proofs.Finds.Beginnings.{firsts-append}
use Rattle.isort_find.proofs.Finds.CountedLines.{AllCount, counted-all, counted-cut}
use Rattle.isort_find.proofs.Finds.NextLines.{BindAll-one_more}
use Rattle.isort_find.proofs.Finds.OneFound.{one_of, none_bad, one_end_found}
use Rattle.isort_find.proofs.Finds.SettledFound.{append-nil-lines}
use Rattle.isort_find.proofs.Walks.NextLine.{found_at_top}
use Rattle.isort_find.proofs.Fed.Known.{known_settled, true_or_false, none_or_some}
use Rattle.isort_find.proofs.Fed.LetGo.{none_are_left}

-- all that is found in the lines that the first bytes settle, so many, begins these bindings
abbrev pub AllIn : List ℕ → ℕ → FindOptions → List BindingValue → Type 0
AllIn text n options values = (found : List BindingValue) (bad : Option Fault) → IsFoundSettled (take n text) options found bad → (more : List BindingValue) × (values ≡ found ++ more)

-- no fault is decided by the first bytes, so many
abbrev pub NoneIn : List ℕ → ℕ → FindOptions → Type 0
NoneIn text n options = (fault : Fault) → ¬ (DecidesFound (take n text) options fault)

-- what settled lines bind that all count is all that is found in them
found_in_settled : SettledLaws → OneSettled → (known : List ℕ) (options : FindOptions) (lines : List LogicalLine) (all found : List BindingValue) (bad : Option Fault) → IsSettled known lines → BindAll lines all → AllCount options lines → IsFoundSettled known options found bad → found ≡ firsts options.unique [] all
found_in_settled laws one known options lines all found bad settled binds in_top s =
    let same = one known s.lines lines s.settled settled in
    let counted = ap (counted_lines options) same ∙ counted-all options lines in_top in
    let are = subst (λ (ls : List LogicalLine). AreFound options.unique ls None found bad) counted s.found in
    (one_of laws.ends options.unique lines None found (firsts options.unique [] all) bad None are (of_all options.unique lines None (firsts options.unique [] all) None all binds refl refl)).0

-- what is settled between two lines is what was released, or less
settled_within : OneSettled → AscentLaws → (s : ScannerState) (text : List ℕ) (lines others : List LogicalLine) → s.ended ≡ false → s.ready ≡ None → HasReleased s text lines → IsSettled (take (fed_of s) text) others → (more : List LogicalLine) × (lines ≡ others ++ more)
settled_within one ascent s text lines others yet none (inr h) settled = absurd (true_or_false _ yet h.ended)
settled_within one ascent s text lines others yet none (inl h) settled = by_held s.held refl
  where
    by_held : (held : List ℕ) → s.held ≡ held → (more : List LogicalLine) × (lines ≡ others ++ more)
    by_held [] is =
        let here : fed_of s ≡ s.place = ap (λ l. s.place + length l) is ∙ omega arith in
        ascent.within text s.place s.line lines others h.first (subst (λ (n : ℕ). IsSettled (take n text) others) here settled)
    by_held (c ∷ cs) is =
        let long : 0 < length s.held = subst (λ (l : List ℕ). 0 < length l) (sym is) (omega arith) in
        let now : IsSettled (take (fed_of s) text) (lines ++ []) = subst (λ (r : Option LogicalLine). IsSettled (take (fed_of s) text) (lines ++ ready_lines r)) none (h.settled long) in
        ([], sym (append-nil-lines lines) ∙ one (take (fed_of s) text) (lines ++ []) others now settled ∙ sym (append-nil-lines others))

-- what lines bind, cut where they are cut
cut_binds : (lines others : List LogicalLine) (bs : List BindingValue) → BindAll (lines ++ others) bs → (first : List BindingValue) × (rest : List BindingValue) × (bs ≡ first ++ rest) × BindAll lines first
cut_binds [] others bs h = ([], bs, refl, refl)
cut_binds (l ∷ ls) others bs h =
    let more = cut_binds ls others h.1 h.4 in
    (h.0 ++ more.0, more.1, h.2 ∙ ap (λ t. h.0 ++ t) more.2 ∙ sym (append_assoc h.0 more.0 more.1), (h.0, more.0, refl, h.3, more.3))

both : (a b : Bool) → a && b ≡ true → (a ≡ true) × (b ≡ true)
both true b h = (refl, h)
both false b h = absurd cc

cut_counts : (options : FindOptions) (lines others : List LogicalLine) → AllCount options (lines ++ others) → AllCount options lines
cut_counts options [] others h = refl
cut_counts options (l ∷ ls) others h = let parts = both _ _ h in (λ i. parts.0 i && cut_counts options ls others parts.1 i)

-- between two lines, none of which is ready, all that is settled was given
pub gap_settled : SettledLaws → OneSettled → AscentLaws → (s : ScannerState) (cursor : CursorState) (text : List ℕ) (skip : ℕ) (values : List BindingValue) → s.ended ≡ false → s.ready ≡ None → IsBetweenLines s cursor text skip values → AllIn text (fed_of s) cursor.options values
gap_settled laws one ascent s cursor text skip values yet none b = λ found bad h.
    let after = b.after in
    let unique = cursor.options.unique in
    let cut = settled_within one ascent s text after.lines h.lines yet none b.released h.settled in
    let binds = cut_binds h.lines cut.0 after.before (subst (λ (ls : List LogicalLine). BindAll ls after.before) cut.1 after.binds) in
    let counts = cut_counts cursor.options h.lines cut.0 (subst (AllCount cursor.options) cut.1 after.in_top) in
    let is = found_in_settled laws one (take (fed_of s) text) cursor.options h.lines binds.0 found bad h.settled binds.3 counts h in
    let more = binds.1 ++ after.part in
    (firsts unique binds.0 more, after.found ∙ ap (λ t. firsts unique [] (t ++ after.part)) binds.2 ∙ ap (firsts unique []) (append_assoc binds.0 binds.1 after.part) ∙ firsts-append unique [] binds.0 more ∙ ap (λ t. t ++ firsts unique binds.0 more) (sym is))

-- inside a line that is settled, what is found is what the line binds too
line_settled : SettledLaws → OneSettled → (s : ScannerState) (options : FindOptions) (text : List ℕ) (p : PendingState) (values : List BindingValue) → s.ended ≡ false → (w : IsWithinLine s options text p values) (found : List BindingValue) (bad : Option Fault) → IsFoundSettled (take (fed_of s) text) options found bad → found ≡ firsts options.unique [] (w.inside.before ++ (w.inside.part ++ p.left))
line_settled laws one s options text p values yet w found bad h =
    let i = w.inside in
    let lines = w.lines ++ w.line ∷ [] in
    let binds = BindAll-one_more w.lines w.line i.before (i.part ++ p.left) i.binds i.binds_line in
    let in_top = list_all-snoc (λ l. not (ends_top options l)) w.lines w.line i.in_top (ap not i.line_in_top) in
    found_in_settled laws one (take (fed_of s) text) options lines (i.before ++ (i.part ++ p.left)) found bad (known_settled s text lines yet w.known) binds in_top h

-- so where nothing of it is left, all that is settled was given
within_settled : SettledLaws → OneSettled → (s : ScannerState) (options : FindOptions) (text : List ℕ) (p : PendingState) (values : List BindingValue) → s.ended ≡ false → p.left ≡ [] → IsWithinLine s options text p values → AllIn text (fed_of s) options values
within_settled laws one s options text p values yet none w = λ found bad h.
    let i = w.inside in
    let is = line_settled laws one s options text p values yet w found bad h in
    let whole : i.part ++ p.left ≡ i.part = ap (λ l. i.part ++ l) none ∙ append-nil i.part in
    ([], i.found ∙ ap (λ l. firsts options.unique [] (i.before ++ l)) (sym whole) ∙ sym is ∙ sym (append-nil found))

-- and what was given is settled
pub given_settled : SettledLaws → OneSettled → (s : ScannerState) (cursor : CursorState) (text : List ℕ) (p : PendingState) (values : List BindingValue) → s.ended ≡ false → IsWithinLine s cursor.options text p values → AreSettled (piece_finder_state s (position.Within p) cursor) text values
given_settled laws one s cursor text p values yet w = λ found bad h.
    let i = w.inside in
    let unique = cursor.options.unique in
    let is = line_settled laws one s cursor.options text p values yet w found bad h in
    (firsts unique (i.before ++ i.part) p.left, is ∙ ap (firsts unique []) (sym (append_assoc i.before i.part p.left)) ∙ firsts-append unique [] (i.before ++ i.part) p.left ∙ ap (λ t. t ++ firsts unique (i.before ++ i.part) p.left) (sym i.found))

-- after the top all that is settled was given
pub top_settled : SettledLaws → AscentLaws → (s : ScannerState) (options : FindOptions) (text : List ℕ) (n : ℕ) (values : List BindingValue) → s.ended ≡ false → fed_of s ≤ n → IsAtTopEnd s options text values → AllIn text n options values
top_settled laws ascent s options text n values yet within t = λ found bad h.
    let unique = options.unique in
    let first = fed_of s in
    let more = n - first in
    let fed : n ≡ first + more = omega (arith, within) in
    let now : IsSettled (take first text ++ take more (drop first text)) h.lines = subst (λ (known : List ℕ). IsSettled known h.lines) (ap (λ k. take k text) fed ∙ take-add first more text) h.settled in
    let grown = ascent.grow (take first text) (take more (drop first text)) (t.lines ++ t.line ∷ []) h.lines (known_settled s text (t.lines ++ t.line ∷ []) yet t.known) now in
    let counted : counted_lines options h.lines ≡ t.lines = ap (counted_lines options) (grown.1 ∙ append_assoc t.lines (t.line ∷ []) grown.0) ∙ counted-cut options t.lines t.line grown.0 t.in_top t.ends in
    let are = subst (λ (ls : List LogicalLine). AreFound unique ls None found bad) counted h.found in
    let is = (one_of laws.ends unique t.lines None found (firsts unique [] t.before) bad None are (of_all unique t.lines None (firsts unique [] t.before) None t.before t.binds refl refl)).0 in
    ([], t.found ∙ sym is ∙ sym (append-nil found))

-- where nothing is ready, all that is settled was given
pub all_settled : SettledLaws → OneSettled → AscentLaws → (s : ScannerState) (at : Position) (cursor : CursorState) (text : List ℕ) (values : List BindingValue) → s.ended ≡ false → HasNoFault (piece_finder_state s at cursor) → ready_in at ≡ false → HasFoundIn (piece_finder_state s at cursor) text values → AreAllSettled (piece_finder_state s at cursor) text values
all_settled laws one ascent s (position.Between skip) cursor text values yet fine none h = gap_settled laws one ascent s cursor text skip values yet h.reached.1 h.reached.0
all_settled laws one ascent s (position.Unread start skip) cursor text values yet fine none h = absurd cc
all_settled laws one ascent s (position.Within p) cursor text values yet fine none h = within_settled laws one s cursor.options text p values yet (none_are_left p.left none) h.reached
all_settled laws one ascent s (position.End passed) cursor text values yet fine none h = top_settled laws ascent s cursor.options text (fed_in (position.End passed) s) values yet (omega arith) h.reached
all_settled laws one ascent s (position.Fault fault) cursor text values yet fine none h = absurd (fine fault refl)

-- lines that all bind have no bad one among those that are settled
pub gap_undecided : SettledLaws → OneSettled → AscentLaws → (s : ScannerState) (cursor : CursorState) (text : List ℕ) (skip : ℕ) (values : List BindingValue) → s.ended ≡ false → s.ready ≡ None → ((fault : Fault) → ¬ (Decides (take (fed_of s) text) fault)) → IsBetweenLines s cursor text skip values → NoneIn text (fed_of s) cursor.options
gap_undecided laws one ascent s cursor text skip values yet none lexical b = λ fault d. by fault d.stays
  where
    by : (fault : Fault) → Decides (take (fed_of s) text) fault ⊎ SettlesBadLine (take (fed_of s) text) fault → ⊥
    by fault (inl decides) = lexical fault decides
    by fault (inr bad) =
        let cut = settled_within one ascent s text b.after.lines (bad.before ++ bad.line ∷ bad.after) yet none b.released bad.settled in
        let whole = cut.1 ∙ append_assoc bad.before (bad.line ∷ bad.after) cut.0 in
        none_bad laws.ends.laws bad.before bad.line (bad.after ++ cut.0) b.after.before fault (subst (λ (ls : List LogicalLine). BindAll ls b.after.before) whole b.after.binds) bad.bad

none_is_some : (fault : Fault) → ◌≡◌ {A = Option Fault} None (Some fault) → ⊥
none_is_some fault h = cc

-- after the top no fault counts
pub top_undecided : SettledLaws → (s : ScannerState) (options : FindOptions) (text : List ℕ) (n : ℕ) (values : List BindingValue) → s.ended ≡ false → fed_of s ≤ n → IsAtTopEnd s options text values → NoneIn text n options
top_undecided laws s options text n values yet within t = λ fault d.
    let first = fed_of s in
    let more = n - first in
    let fed : n ≡ first + more = omega (arith, within) in
    let known : take n text ≡ take first text ++ take more (drop first text) = ap (λ k. take k text) fed ∙ take-add first more text in
    let begins = laws.lines (take first text) (take more (drop first text)) (t.lines ++ t.line ∷ []) (known_settled s text (t.lines ++ t.line ∷ []) yet t.known) in
    let found = found_at_top (take first text ++ take more (drop first text)) options t.lines t.line t.before values begins t.in_top t.ends t.binds t.found in
    none_is_some fault (one_end_found laws.ends (take first text ++ take more (drop first text)) options values d.values None (Some fault) found (subst (λ (ks : List ℕ). IsFound ks options d.values (Some fault)) known d.found))

-- no fault is decided where nothing is ready and no line is held that was read
pub all_undecided : SettledLaws → OneSettled → AscentLaws → (s : ScannerState) (at : Position) (cursor : CursorState) (text : List ℕ) (values : List BindingValue) → s.ended ≡ false → HasNoFault (piece_finder_state s at cursor) → IsDrained (piece_finder_state s at cursor) → (s.ready ≡ None → (fault : Fault) → ¬ (Decides (take (fed_of s) text) fault)) → HasFoundIn (piece_finder_state s at cursor) text values → IsUndecided (piece_finder_state s at cursor) text
all_undecided laws one ascent s (position.Between skip) cursor text values yet fine (inl none) lexical h = gap_undecided laws one ascent s cursor text skip values yet none (lexical none) h.reached.0
all_undecided laws one ascent s (position.Unread start skip) cursor text values yet fine (inl none) lexical h = gap_undecided laws one ascent s cursor text skip values yet none (lexical none) h.reached
all_undecided laws one ascent s (position.Within p) cursor text values yet fine (inl none) lexical h = absurd (none_or_some _ h.reached.line none h.reached.ready)
all_undecided laws one ascent s (position.Between skip) cursor text values yet fine (inr top) lexical h = absurd cc
all_undecided laws one ascent s (position.Unread start skip) cursor text values yet fine (inr top) lexical h = absurd cc
all_undecided laws one ascent s (position.Within p) cursor text values yet fine (inr top) lexical h = absurd cc
all_undecided laws one ascent s (position.End passed) cursor text values yet fine drained lexical h = top_undecided laws s cursor.options text (fed_in (position.End passed) s) values yet (omega arith) h.reached
all_undecided laws one ascent s (position.Fault fault) cursor text values yet fine drained lexical h = absurd (fine fault refl)
