-- What more settled lines add to what is found, and what a bad one among them decides.
use Rattle.std.proofs.Common.{◌≡◌, ℕ, Option, None, Some, List, [], ◌∷◌, ◌++◌, inl, inr, ◌⊎◌, refl, sym, ap, ◌∙◌, subst, append_assoc, append-nil}
use Rattle.py_lines.specs.LogicalLine.{LogicalLine}
use Rattle.py_lines.specs.Lexed.{IsLexed}
use Rattle.py_lines.specs.Settled.{IsSettled}
use Rattle.py_lines.specs.declared.fault.Fault.{Fault}
use Rattle.py_imports.specs.BindingValue.{BindingValue}
use Rattle.py_imports.specs.Binds.{BindAll, IsBadAt}
use Rattle.isort_find.specs.Found.{firsts, counted_lines, counted_end, AreFound, of_all, before_bad}
use Rattle.isort_find.specs.Settled.{IsFoundSettled, DecidesFound}
use Rattle.isort_find.specs.declared.options.ImportKey.{ImportKey}
use Rattle.isort_find.specs.declared.options.FindOptions.{FindOptions}
use Rattle.isort_find.specs.Private.KnownLaws.{EachBindsOrIsBad, EndLaws, SettledLaws}
use Rattle.isort_find.proofs.Finds.OneFound.{one_of}
use Rattle.isort_find.proofs.Finds.CountedLines.{AllCount, counted-append, counted-all}
use Rattle.isort_find.proofs.Finds.Beginnings.{BindOrOneIsBad, firsts-append, BindAll-append, decide}
use Rattle.isort_find.proofs.Finds.SettledFound.{HasTopEnd, top_of, counted_top, append-nil-lines}

-- the law `some` of `py_lines::laws::settled_is_final`
abbrev pub SomeSettled : Type 0
SomeSettled = (text : List ℕ) → (lines : List LogicalLine) × IsSettled text lines

-- the law `grow` of `py_lines::laws::settled_is_final`
abbrev pub SettledGrow : Type 0
SettledGrow = (text more : List ℕ) (lines others : List LogicalLine) → IsSettled text lines → IsSettled (text ++ more) others → (rest : List LogicalLine) × (others ≡ lines ++ rest)

-- what is found in these lines begins with these bindings
record FoundOn (unique : Option ImportKey) (lines : List LogicalLine) (values : List BindingValue) : Type 0 where
  rest : List BindingValue
  end : Option Fault
  found : AreFound unique lines None (values ++ rest) end

-- lines that all bind, and more
on_all : (unique : Option ImportKey) (lines more : List LogicalLine) (values all : List BindingValue) → BindAll lines all → values ≡ firsts unique [] all → BindOrOneIsBad more → FoundOn unique (lines ++ more) values
on_all unique lines more values all binds found (inl others) =
    record {
      rest = firsts unique all others.0;
      end = None;
      found = of_all unique _ None _ None (all ++ others.0) (BindAll-append lines more all others.0 binds others.1) (ap (λ t. t ++ firsts unique all others.0) found ∙ sym (firsts-append unique [] all others.0)) refl;
    }
on_all unique lines more values all binds found (inr first) =
    let split : lines ++ more ≡ (lines ++ first.before) ++ first.line ∷ first.after = ap (λ t. lines ++ t) first.split ∙ sym (append_assoc lines first.before (first.line ∷ first.after)) in
    let good = BindAll-append lines first.before all first.values binds first.good in
    record {
      rest = firsts unique all first.values;
      end = Some first.fault;
      found = before_bad unique _ None _ (Some first.fault) (lines ++ first.before) first.line first.after (all ++ first.values) first.fault split good first.bad (ap (λ t. t ++ firsts unique all first.values) found ∙ sym (firsts-append unique [] all first.values)) refl;
    }

-- where more lines follow, what is found begins with what was found
found_on : EachBindsOrIsBad → (unique : Option ImportKey) (lines more : List LogicalLine) (last : Option Fault) (values : List BindingValue) (bad : Option Fault) → AreFound unique lines last values bad → FoundOn unique (lines ++ more) values
found_on each unique lines more last values bad (of_all _ _ _ _ _ all binds found is) = on_all unique lines more values all binds found (decide each more)
found_on each unique lines more last values bad (before_bad _ _ _ _ _ before line after all fault split binds is_bad found is) =
    record {
      rest = [];
      end = Some fault;
      found = before_bad unique _ None _ (Some fault) before line (after ++ more) all fault (ap (λ ls. ls ++ more) split ∙ append_assoc before (line ∷ after) more) binds is_bad (append-nil values ∙ found) refl;
    }

-- what counts of lines and of more after them begins with what counts of the lines
counted_begin : (options : FindOptions) (lines more : List LogicalLine) → AllCount options lines ⊎ HasTopEnd options lines → (rest : List LogicalLine) × (counted_lines options (lines ++ more) ≡ counted_lines options lines ++ rest)
counted_begin options lines more (inl all) = (counted_lines options more, counted-append options lines more all ∙ ap (λ ls. ls ++ counted_lines options more) (sym (counted-all options lines all)))
counted_begin options lines more (inr t) = ([], counted_top options lines more t ∙ sym (counted_top options lines [] t) ∙ ap (counted_lines options) (append-nil-lines lines) ∙ sym (append-nil-lines (counted_lines options lines)))

-- more bytes settle no fewer imports
pub found_grow : EndLaws → EachBindsOrIsBad → SettledGrow → (text more : List ℕ) (options : FindOptions) (values later : List BindingValue) (bad last : Option Fault) → IsFoundSettled text options values bad → IsFoundSettled (text ++ more) options later last → (rest : List BindingValue) × (later ≡ values ++ rest)
found_grow ends each grow text more options values later bad last s t =
    let lines = grow text more s.lines t.lines s.settled t.settled in
    let counted = counted_begin options s.lines lines.0 (top_of options s.lines) in
    let whole = counted_lines options s.lines ++ counted.0 in
    let found = subst (λ (ls : List LogicalLine). AreFound options.unique ls None later last) (ap (counted_lines options) lines.1 ∙ counted.1) t.found in
    let on = found_on each options.unique (counted_lines options s.lines) counted.0 None values bad s.found in
    (on.rest, (one_of ends options.unique whole None later (values ++ on.rest) last on.end found on.found).0)

-- something is found in what each text settles
pub some_found_settled : EachBindsOrIsBad → SomeSettled → (text : List ℕ) (options : FindOptions) → (values : List BindingValue) × (bad : Option Fault) × IsFoundSettled text options values bad
some_found_settled each some text options =
    let settled = some text in
    let on = on_all options.unique [] (counted_lines options settled.0) [] [] refl refl (decide each (counted_lines options settled.0)) in
    (on.rest, on.end, record { lines = settled.0; settled = settled.1; found = on.found })

-- the lines that count are the first
counted_first : (options : FindOptions) (lines : List LogicalLine) → AllCount options lines ⊎ HasTopEnd options lines → (after : List LogicalLine) × (lines ≡ counted_lines options lines ++ after)
counted_first options lines (inl all) = ([], sym (append-nil-lines (counted_lines options lines) ∙ counted-all options lines all))
counted_first options lines (inr t) =
    let here : t.before ≡ counted_lines options lines = sym (counted_top options lines [] t) ∙ ap (counted_lines options) (append-nil-lines lines) in
    (t.line ∷ t.after, t.split ∙ ap (λ ls. ls ++ t.line ∷ t.after) here)

-- one of the lines has this fault
record HasBad (lines : List LogicalLine) (fault : Fault) : Type 0 where
  before : List LogicalLine
  line : LogicalLine
  after : List LogicalLine
  split : lines ≡ before ++ line ∷ after
  bad : IsBadAt line fault

bad_in : (unique : Option ImportKey) (lines : List LogicalLine) (values : List BindingValue) (fault : Fault) → AreFound unique lines None values (Some fault) → HasBad lines fault
bad_in unique lines values fault (of_all _ _ _ _ _ all binds found is) = absurd cc
bad_in unique lines values fault (before_bad _ _ _ _ _ before line after all worst split binds bad found is) =
    let same : worst ≡ fault = cc in
    record { before = before; line = line; after = after; split = split; bad = subst (λ (f : Fault). IsBadAt line f) same bad }

-- a bad line stays so where more lines follow, and whatever the lexical end is
bad_on : (unique : Option ImportKey) (lines more : List LogicalLine) (end : Option Fault) (values : List BindingValue) (fault : Fault) → AreFound unique lines None values (Some fault) → AreFound unique (lines ++ more) end values (Some fault)
bad_on unique lines more end values fault (of_all _ _ _ _ _ all binds found is) = absurd cc
bad_on unique lines more end values fault (before_bad _ _ _ _ _ before line after all worst split binds bad found is) =
    before_bad unique _ end _ (Some fault) before line (after ++ more) all worst (ap (λ ls. ls ++ more) split ∙ append_assoc before (line ∷ after) more) binds bad found is

-- the fault of a bad one among the settled lines is decided
pub bad_decided : SettledLaws → (text : List ℕ) (options : FindOptions) (values : List BindingValue) (fault : Fault) → IsFoundSettled text options values (Some fault) → DecidesFound text options fault
bad_decided laws text options values fault s =
    let top = top_of options s.lines in
    let begins = laws.lines text [] s.lines s.settled in
    let lines = s.lines ++ begins.more in
    let end = counted_end options lines begins.end in
    let counted = counted_begin options s.lines begins.more top in
    let first = counted_first options s.lines top in
    let line = bad_in options.unique (counted_lines options s.lines) values fault s.found in
    let found = bad_on options.unique (counted_lines options s.lines) counted.0 end values fault s.found in
    let split = first.1 ∙ ap (λ ls. ls ++ first.0) line.split ∙ append_assoc line.before (line.line ∷ line.after) first.0 in
    record {
      values = values;
      found = record {
        lines = lines;
        lexical = begins.end;
        lexed = subst (λ (t : List ℕ). IsLexed t lines begins.end) (append-nil text) begins.lexed;
        found = subst (λ (ls : List LogicalLine). AreFound options.unique ls end values (Some fault)) (sym counted.1) found;
      };
      stays = inr (record { before = line.before; line = line.line; after = line.after ++ first.0; settled = subst (IsSettled text) split s.settled; bad = line.bad });
    }
