-- What a finder has given begins what is found in its text.
use Rattle.std.proofs.Common.{◌≡◌, ℕ, Bool, true, false, not, Option, Some, List, [], ◌∷◌, ◌++◌, inl, inr, ◌⊎◌, refl, sym, ap, ◌∙◌, subst, append_assoc, append-nil, if◌then◌else◌}
use Rattle.py_lines.specs.LogicalLine.{LogicalLine}
use Rattle.py_lines.specs.Lexed.{BeginsLexing}
use Rattle.py_lines.specs.declared.fault.Fault.{Fault}
use Rattle.py_imports.specs.BindingValue.{BindingValue}
use Rattle.py_imports.specs.Binds.{BindAll, BindsOrIsBad, IsBadAt}
use Rattle.isort_find.specs.Found.{has_one_like, firsts, ends_top, counted_lines, counted_end, of_all, before_bad, IsFound, BeginsFound}
use Rattle.isort_find.specs.Cursor.{CursorState, HasStopped, BeginsNext, IsAfter}
use Rattle.isort_find.specs.Finder.{FinderState, HasFound, finder_text, options_of}
use Rattle.isort_find.specs.declared.options.FindOptions.{FindOptions}
use Rattle.isort_find.specs.declared.options.ImportKey.{ImportKey}
use Rattle.isort_find.specs.Private.KnownLaws.{EachBindsOrIsBad, EachIsLexed, GivenLinesBegin}
use Rattle.isort_find.proofs.Keys.TakenBindings.{list_all-snoc}
use Rattle.isort_find.proofs.Finds.CountedLines.{AllCount, counted-append}
use Rattle.isort_find.proofs.Finds.NextLines.{BindAll-one_more}

append_step : (unique : Option ImportKey) (earlier xs ys : List BindingValue) (x : BindingValue) (known : Bool) → firsts unique (earlier ++ x ∷ []) (xs ++ ys) ≡ firsts unique (earlier ++ x ∷ []) xs ++ firsts unique ((earlier ++ x ∷ []) ++ xs) ys → (if known then firsts unique (earlier ++ x ∷ []) (xs ++ ys) else x ∷ firsts unique (earlier ++ x ∷ []) (xs ++ ys)) ≡ (if known then firsts unique (earlier ++ x ∷ []) xs else x ∷ firsts unique (earlier ++ x ∷ []) xs) ++ firsts unique (earlier ++ x ∷ xs) ys
append_step unique earlier xs ys x true more = more ∙ (λ i. firsts unique (earlier ++ x ∷ []) xs ++ firsts unique (append_assoc earlier (x ∷ []) xs i) ys)
append_step unique earlier xs ys x false more = ap (λ t. x ∷ t) (more ∙ (λ i. firsts unique (earlier ++ x ∷ []) xs ++ firsts unique (append_assoc earlier (x ∷ []) xs i) ys))

-- the first bindings of two lists are those of the first, and then those of the second that the first lacks
pub firsts-append : (unique : Option ImportKey) (earlier xs ys : List BindingValue) → firsts unique earlier (xs ++ ys) ≡ firsts unique earlier xs ++ firsts unique (earlier ++ xs) ys
firsts-append unique earlier [] ys = ap (λ t. firsts unique t ys) (sym (append-nil earlier))
firsts-append unique earlier (x ∷ xs) ys = append_step unique earlier xs ys x (has_one_like unique earlier x) (firsts-append unique (earlier ++ x ∷ []) xs ys)

-- what two lists of logical lines bind, one after the other
pub BindAll-append : (lines others : List LogicalLine) (bs more : List BindingValue) → BindAll lines bs → BindAll others more → BindAll (lines ++ others) (bs ++ more)
BindAll-append [] others bs more h k = subst (BindAll others) (sym (ap (λ t. t ++ more) h)) k
BindAll-append (l ∷ ls) others bs more h k = (h.0, h.1 ++ more, ap (λ t. t ++ more) h.2 ∙ append_assoc h.0 h.1 more, h.3, BindAll-append ls others h.1 more h.4 k)

-- a bad logical line, and none before it that is bad
pub record HasFirstBad (lines : List LogicalLine) : Type 0 where
  pub before : List LogicalLine
  pub line : LogicalLine
  pub after : List LogicalLine
  pub values : List BindingValue
  pub fault : Fault
  pub split : lines ≡ before ++ line ∷ after
  pub good : BindAll before values
  pub bad : IsBadAt line fault

-- logical lines bind, or one of them is the first bad one
abbrev pub BindOrOneIsBad : List LogicalLine → Type 0
BindOrOneIsBad lines = ((values : List BindingValue) × BindAll lines values) ⊎ HasFirstBad lines

decide_step : (line : LogicalLine) (lines : List LogicalLine) → BindsOrIsBad line → BindOrOneIsBad lines → BindOrOneIsBad (line ∷ lines)
decide_step line lines (inr bad) rest = inr (record { before = []; line = line; after = lines; values = []; fault = bad.0; split = refl; good = refl; bad = bad.1 })
decide_step line lines (inl binds) (inl all) = inl (binds.0 ++ all.0, (binds.0, all.0, refl, binds.1, all.1))
decide_step line lines (inl binds) (inr first) = inr (record { before = line ∷ first.before; line = first.line; after = first.after; values = binds.0 ++ first.values; fault = first.fault; split = ap (λ t. line ∷ t) first.split; good = (binds.0, first.values, refl, binds.1, first.good); bad = first.bad })

-- that is decided line by line
pub decide : EachBindsOrIsBad → (lines : List LogicalLine) → BindOrOneIsBad lines
decide each [] = inl ([], refl)
decide each (l ∷ ls) = decide_step l ls (each l) (decide each ls)

-- what is found once bindings were looked at is what was found, and what they lack
found_more : (unique : Option ImportKey) (values looked rest tail : List BindingValue) → values ≡ firsts unique [] looked → values ++ firsts unique looked (rest ++ tail) ≡ firsts unique [] ((looked ++ rest) ++ tail)
found_more unique values looked rest tail found = ap (λ t. t ++ firsts unique looked (rest ++ tail)) found ∙ sym (firsts-append unique [] looked (rest ++ tail)) ∙ ap (firsts unique []) (sym (append_assoc looked rest tail))

begins_decided : (text : List ℕ) (options : FindOptions) (lines : List LogicalLine) (values looked rest : List BindingValue) → BindAll lines (looked ++ rest) → AllCount options lines → values ≡ firsts options.unique [] looked → (begins : BeginsLexing text lines) → BindOrOneIsBad (counted_lines options begins.more) → BeginsFound text options values
begins_decided text options lines values looked rest binds all found begins (inl more) =
    let counted = counted-append options lines begins.more all in
    let bind_all = subst (λ (ls : List LogicalLine). BindAll ls ((looked ++ rest) ++ more.0)) (sym counted) (BindAll-append lines (counted_lines options begins.more) (looked ++ rest) more.0 binds more.1) in
    let last = counted_end options (lines ++ begins.more) begins.end in
    record {
      more = firsts options.unique looked (rest ++ more.0);
      end = last;
      found = record {
        lines = lines ++ begins.more;
        lexical = begins.end;
        lexed = begins.lexed;
        found = of_all options.unique _ last _ last ((looked ++ rest) ++ more.0) bind_all (found_more options.unique values looked rest more.0 found) refl;
      };
    }
begins_decided text options lines values looked rest binds all found begins (inr first) =
    let split : counted_lines options (lines ++ begins.more) ≡ (lines ++ first.before) ++ first.line ∷ first.after = counted-append options lines begins.more all ∙ ap (λ t. lines ++ t) first.split ∙ sym (append_assoc lines first.before (first.line ∷ first.after)) in
    let good = BindAll-append lines first.before (looked ++ rest) first.values binds first.good in
    record {
      more = firsts options.unique looked (rest ++ first.values);
      end = Some first.fault;
      found = record {
        lines = lines ++ begins.more;
        lexical = begins.end;
        lexed = begins.lexed;
        found = before_bad options.unique _ (counted_end options (lines ++ begins.more) begins.end) _ (Some first.fault) (lines ++ first.before) first.line first.after ((looked ++ rest) ++ first.values) first.fault split good first.bad (found_more options.unique values looked rest first.values found) refl;
      };
    }

-- Where the first of the bindings of logical lines that count were looked at, and the lines begin the lexing, what was
-- found begins what is found in the text.
pub begins_behind : EachBindsOrIsBad → (text : List ℕ) (options : FindOptions) (lines : List LogicalLine) (values looked rest : List BindingValue) → BeginsLexing text lines → BindAll lines (looked ++ rest) → AllCount options lines → values ≡ firsts options.unique [] looked → BeginsFound text options values
begins_behind each text options lines values looked rest begins binds all found = begins_decided text options lines values looked rest binds all found begins (decide each (counted_lines options begins.more))

begins_part : GivenLinesBegin → EachBindsOrIsBad → (text : List ℕ) (options : FindOptions) (offset line taken : ℕ) (values : List BindingValue) (after : IsAfter text options offset line taken values) → (after.part ≡ []) ⊎ BeginsNext text options after.lines after.part → BeginsFound text options values
begins_part given each text options offset line taken values after (inl none) =
    let looked : after.before ++ after.part ≡ after.before = ap (λ t. after.before ++ t) none ∙ append-nil after.before in
    begins_behind each text options after.lines values after.before [] (given _ after.lines after.given) (subst (BindAll after.lines) (sym (append-nil after.before)) after.binds) after.in_top (after.found ∙ ap (firsts options.unique []) looked)
begins_part given each text options offset line taken values after (inr next) =
    let lines = after.lines ++ next.line ∷ [] in
    let binds : BindAll lines ((after.before ++ after.part) ++ next.rest) = subst (BindAll lines) (sym (append_assoc after.before after.part next.rest)) (BindAll-one_more after.lines next.line after.before (after.part ++ next.rest) after.binds next.binds) in
    let all = list_all-snoc (λ l. not (ends_top options l)) after.lines next.line after.in_top (ap not next.in_top) in
    begins_behind each text options lines values (after.before ++ after.part) next.rest next.begins binds all after.found

-- What was given where a finder stops begins what is found in its text.
pub stopped_begins : GivenLinesBegin → EachBindsOrIsBad → (text : List ℕ) (cursor : CursorState) (values : List BindingValue) → HasStopped text cursor values → BeginsFound text cursor.options values
stopped_begins given each text cursor values stopped =
    let after = stopped.after in
    begins_part given each text cursor.options cursor.offset cursor.line cursor.taken values after after.is_part.1

-- What a finder has given, with those that it goes on from, begins what is found in its text.
pub begins_found : GivenLinesBegin → EachBindsOrIsBad → (f : FinderState) (values : List BindingValue) → HasFound f values → BeginsFound (finder_text f) (options_of f) values
begins_found given each f values has = stopped_begins given each (finder_text f) f.cursor values has.stopped

-- Something is found in every text.
pub some_found : EachIsLexed → EachBindsOrIsBad → (text : List ℕ) (options : FindOptions) → (values : List BindingValue) × (end : Option Fault) × IsFound text options values end
some_found lexed each text options =
    let all = lexed text in
    let begins = begins_behind each text options [] [] [] [] (record { more = all.0; end = all.1; lexed = all.2 }) refl refl refl in
    (begins.more, begins.end, begins.found)
