-- What is found in settled lines, and a fault that is decided, stay whatever follows.
use Rattle.std.proofs.Common.{◌≡◌, ℕ, Bool, true, false, not, ◌&&◌, Option, None, Some, List, [], ◌∷◌, ◌++◌, inl, inr, ◌⊎◌, refl, sym, ap, ◌∙◌, subst, append_assoc, append-nil}
use Rattle.std.specs.List.{list_all}
use Rattle.py_lines.specs.LogicalLine.{LogicalLine}
use Rattle.py_lines.specs.Lexed.{IsLexed, BeginsLexing}
use Rattle.py_lines.specs.Settled.{Decides}
use Rattle.py_lines.specs.declared.fault.Fault.{Fault}
use Rattle.py_imports.specs.BindingValue.{BindingValue}
use Rattle.py_imports.specs.Binds.{BindAll, IsBadAt}
use Rattle.isort_find.specs.Found.{firsts, ends_top, counted_lines, counted_end, AreFound, of_all, before_bad, IsFound, BeginsFound}
use Rattle.isort_find.specs.Settled.{IsFoundSettled, SettlesBadLine, DecidesFound}
use Rattle.isort_find.specs.declared.options.ImportKey.{ImportKey}
use Rattle.isort_find.specs.declared.options.FindOptions.{FindOptions}
use Rattle.isort_find.specs.Private.KnownLaws.{EachBindsOrIsBad, BasicLaws, SettledLaws}
use Rattle.isort_find.proofs.Finds.OneFound.{none_bad, one_end_found}
use Rattle.isort_find.proofs.Finds.CountedLines.{AllCount, counted-append, counted-all, counted-cut, end-cut}
use Rattle.isort_find.proofs.Finds.Beginnings.{begins_behind}

-- a line that ends the top, and none before it
pub record HasTopEnd (options : FindOptions) (lines : List LogicalLine) : Type 0 where
  pub before : List LogicalLine
  pub line : LogicalLine
  pub after : List LogicalLine
  pub split : lines ≡ before ++ line ∷ after
  pub in_top : AllCount options before
  pub ends : ends_top options line ≡ true

top_step : (options : FindOptions) (line : LogicalLine) (lines : List LogicalLine) (here : Bool) → ends_top options line ≡ here → AllCount options lines ⊎ HasTopEnd options lines → AllCount options (line ∷ lines) ⊎ HasTopEnd options (line ∷ lines)
top_step options line lines true is rest = inr (record { before = []; line = line; after = lines; split = refl; in_top = refl; ends = is })
top_step options line lines false is (inl all) = inl (ap (λ b. not b && list_all (λ l. not (ends_top options l)) lines) is ∙ all)
top_step options line lines false is (inr t) = inr (record { before = line ∷ t.before; line = t.line; after = t.after; split = ap (λ ls. line ∷ ls) t.split; in_top = ap (λ b. not b && list_all (λ l. not (ends_top options l)) t.before) is ∙ t.in_top; ends = t.ends })

-- all lines count, or one of them ends the top
pub top_of : (options : FindOptions) (lines : List LogicalLine) → AllCount options lines ⊎ HasTopEnd options lines
top_of options [] = inl refl
top_of options (l ∷ ls) = top_step options l ls (ends_top options l) refl (top_of options ls)

-- what counts of lines that end the top, and of more after them
pub counted_top : (options : FindOptions) (lines more : List LogicalLine) (t : HasTopEnd options lines) → counted_lines options (lines ++ more) ≡ t.before
counted_top options lines more t = ap (λ ls. counted_lines options (ls ++ more)) t.split ∙ ap (counted_lines options) (append_assoc t.before (t.line ∷ t.after) more) ∙ counted-cut options t.before t.line (t.after ++ more) t.in_top t.ends

pub end_top : (options : FindOptions) (lines more : List LogicalLine) (end : Option Fault) (t : HasTopEnd options lines) → counted_end options (lines ++ more) end ≡ None
end_top options lines more end t = ap (λ ls. counted_end options (ls ++ more) end) t.split ∙ ap (λ ls. counted_end options ls end) (append_assoc t.before (t.line ∷ t.after) more) ∙ end-cut options t.before t.line (t.after ++ more) end t.in_top t.ends

pub append-nil-lines : (lines : List LogicalLine) → lines ++ [] ≡ lines
append-nil-lines [] = refl
append-nil-lines (l ∷ ls) = ap (λ t. l ∷ t) (append-nil-lines ls)

-- what is found in lines that end the top is found in the text
begin_top : (text : List ℕ) (options : FindOptions) (lines : List LogicalLine) (values : List BindingValue) (bad : Option Fault) (begins : BeginsLexing text lines) → HasTopEnd options lines → AreFound options.unique (counted_lines options lines) None values bad → BeginsFound text options values
begin_top text options lines values bad begins t found =
    let here : counted_lines options lines ≡ t.before = ap (counted_lines options) (sym (append-nil-lines lines)) ∙ counted_top options lines [] t in
    let same = here ∙ sym (counted_top options lines begins.more t) in
    let none = sym (end_top options lines begins.more begins.end t) in
    let all = subst (λ (e : Option Fault). AreFound options.unique (counted_lines options (lines ++ begins.more)) e values bad) none (subst (λ (ls : List LogicalLine). AreFound options.unique ls None values bad) same found) in
    record {
      more = [];
      end = bad;
      found = record { lines = lines ++ begins.more; lexical = begins.end; lexed = begins.lexed; found = subst (λ (bs : List BindingValue). AreFound options.unique (counted_lines options (lines ++ begins.more)) (counted_end options (lines ++ begins.more) begins.end) bs bad) (sym (append-nil values)) all };
    }

begin_all : EachBindsOrIsBad → (text : List ℕ) (options : FindOptions) (unique : Option ImportKey) (lines counted : List LogicalLine) (last : Option Fault) (values : List BindingValue) (bad : Option Fault) → BeginsLexing text lines → AllCount options lines → unique ≡ options.unique → counted ≡ lines → AreFound unique counted last values bad → BeginsFound text options values
begin_all each text options unique lines counted last values bad begins all same are (of_all _ _ _ _ _ bs binds found is) =
    begins_behind each text options lines values bs [] begins (subst (λ (ls : List LogicalLine). BindAll ls (bs ++ [])) are (subst (BindAll counted) (sym (append-nil bs)) binds)) all (found ∙ ap (λ u. firsts u [] bs) same)
begin_all each text options unique lines counted last values bad begins all same are (before_bad _ _ _ _ _ before line after bs fault split binds is_bad found is) =
    let counts : counted_lines options (lines ++ begins.more) ≡ before ++ line ∷ (after ++ counted_lines options begins.more) = counted-append options lines begins.more all ∙ ap (λ ls. ls ++ counted_lines options begins.more) (sym are ∙ split) ∙ append_assoc before (line ∷ after) (counted_lines options begins.more) in
    record {
      more = [];
      end = Some fault;
      found = record { lines = lines ++ begins.more; lexical = begins.end; lexed = begins.lexed; found = before_bad options.unique _ (counted_end options (lines ++ begins.more) begins.end) _ (Some fault) before line (after ++ counted_lines options begins.more) bs fault counts binds is_bad (append-nil values ∙ found ∙ ap (λ u. firsts u [] bs) same) refl };
    }

begin_either : EachBindsOrIsBad → (text : List ℕ) (options : FindOptions) (lines : List LogicalLine) (values : List BindingValue) (bad : Option Fault) → BeginsLexing text lines → AllCount options lines ⊎ HasTopEnd options lines → AreFound options.unique (counted_lines options lines) None values bad → BeginsFound text options values
begin_either each text options lines values bad begins (inl all) found = begin_all each text options options.unique lines (counted_lines options lines) None values bad begins all refl (counted-all options lines all) found
begin_either each text options lines values bad begins (inr t) found = begin_top text options lines values bad begins t found

-- what is found in the settled lines of known bytes begins what is found in each text that begins with them
pub settled_begin_found : SettledLaws → (text more : List ℕ) (options : FindOptions) (values : List BindingValue) (bad : Option Fault) → IsFoundSettled text options values bad → BeginsFound (text ++ more) options values
settled_begin_found laws text more options values bad s = begin_either laws.each (text ++ more) options s.lines values bad (laws.lines text more s.lines s.settled) (top_of options s.lines) s.found

-- the first bad line stands before or at each other bad one
first_bad : BasicLaws → (before other : List LogicalLine) (line second : LogicalLine) (rest after : List LogicalLine) (bs : List BindingValue) (fault : Fault) → before ++ line ∷ rest ≡ other ++ second ∷ after → IsBadAt line fault → BindAll other bs → (mid : List LogicalLine) × (before ++ line ∷ [] ≡ other ++ second ∷ mid)
first_bad laws [] [] line second rest after bs fault e bad binds = let f : line ∷ rest ≡ second ∷ after = e in let same : line ≡ second = cc in ([], ap (λ l. l ∷ []) same)
first_bad laws [] (o ∷ other) line second rest after bs fault e bad binds =
    let f : line ∷ rest ≡ o ∷ other ++ second ∷ after = e in
    let same : line ≡ o = cc in
    absurd (laws.not_both o binds.0 fault binds.3 (subst (λ (x : LogicalLine). IsBadAt x fault) same bad))
first_bad laws (b ∷ before) [] line second rest after bs fault e bad binds = let f : b ∷ before ++ line ∷ rest ≡ second ∷ after = e in let same : b ≡ second = cc in (before ++ line ∷ [], ap (λ l. l ∷ before ++ line ∷ []) same)
first_bad laws (b ∷ before) (o ∷ other) line second rest after bs fault e bad binds =
    let f : b ∷ before ++ line ∷ rest ≡ o ∷ other ++ second ∷ after = e in
    let same : b ≡ o = cc in
    let tails : before ++ line ∷ rest ≡ other ++ second ∷ after = cc in
    let more = first_bad laws before other line second rest after binds.1 fault tails bad binds.4 in
    (more.0, λ i. same i ∷ more.1 i)

-- Lines up to a bad one, and then others: what is found is the same.
bad_all : BasicLaws → (options : FindOptions) (unique : Option ImportKey) (before : List LogicalLine) (line : LogicalLine) (counted others : List LogicalLine) (last end : Option Fault) (values : List BindingValue) (found : Option Fault) (fault : Fault) → IsBadAt line fault → (rest : List LogicalLine) → counted ≡ before ++ line ∷ rest → AreFound unique counted last values found → AreFound unique (before ++ line ∷ others) end values found
bad_all laws options unique before line counted others last end values found fault bad rest are (of_all _ _ _ _ _ bs binds f is) = absurd (none_bad laws before line rest bs fault (subst (λ (ls : List LogicalLine). BindAll ls bs) are binds) bad)
bad_all laws options unique before line counted others last end values found fault bad rest are (before_bad _ _ _ _ _ other second after bs worst split binds worse f is) =
    let first = first_bad laws before other line second rest after bs fault (sym are ∙ split) bad binds in
    let there : before ++ line ∷ others ≡ other ++ second ∷ (first.0 ++ others) = sym (append_assoc before (line ∷ []) others) ∙ ap (λ ls. ls ++ others) first.1 ∙ append_assoc other (second ∷ first.0) others in
    before_bad unique _ end _ _ other second (first.0 ++ others) bs worst there binds worse f is

bad_either : BasicLaws → (options : FindOptions) (before : List LogicalLine) (line : LogicalLine) (rest others : List LogicalLine) (last end : Option Fault) (values : List BindingValue) (found : Option Fault) (fault : Fault) → IsBadAt line fault → AllCount options (before ++ line ∷ []) ⊎ HasTopEnd options (before ++ line ∷ []) → AreFound options.unique (counted_lines options ((before ++ line ∷ []) ++ rest)) (counted_end options ((before ++ line ∷ []) ++ rest) last) values found → AreFound options.unique (counted_lines options ((before ++ line ∷ []) ++ others)) (counted_end options ((before ++ line ∷ []) ++ others) end) values found
bad_either laws options before line rest others last end values found fault bad (inl all) f =
    let here = counted-append options (before ++ line ∷ []) rest all ∙ append_assoc before (line ∷ []) (counted_lines options rest) in
    let there = counted-append options (before ++ line ∷ []) others all ∙ append_assoc before (line ∷ []) (counted_lines options others) in
    subst (λ (ls : List LogicalLine). AreFound options.unique ls (counted_end options ((before ++ line ∷ []) ++ others) end) values found) (sym there) (bad_all laws options options.unique before line (counted_lines options ((before ++ line ∷ []) ++ rest)) (counted_lines options others) (counted_end options ((before ++ line ∷ []) ++ rest) last) (counted_end options ((before ++ line ∷ []) ++ others) end) values found fault bad (counted_lines options rest) here f)
bad_either laws options before line rest others last end values found fault bad (inr t) f =
    let lines = counted_top options (before ++ line ∷ []) rest t ∙ sym (counted_top options (before ++ line ∷ []) others t) in
    let ends = end_top options (before ++ line ∷ []) rest last t ∙ sym (end_top options (before ++ line ∷ []) others end t) in
    subst (λ (e : Option Fault). AreFound options.unique (counted_lines options ((before ++ line ∷ []) ++ others)) e values found) ends (subst (λ (ls : List LogicalLine). AreFound options.unique ls (counted_end options ((before ++ line ∷ []) ++ rest) last) values found) lines f)

decided_lexical : SettledLaws → (text more : List ℕ) (options : FindOptions) (values : List BindingValue) (fault : Fault) → Decides text fault → IsFound text options values (Some fault) → IsFound (text ++ more) options values (Some fault)
decided_lexical laws text more options values fault decides f =
    let is : f.lexical ≡ Some fault = laws.fault text [] fault f.lines f.lexical decides (subst (λ (t : List ℕ). IsLexed t f.lines f.lexical) (sym (append-nil text)) f.lexed) in
    record {
      lines = f.lines;
      lexical = Some fault;
      lexed = laws.all text more fault f.lines decides (subst (IsLexed text f.lines) is f.lexed);
      found = subst (λ (l : Option Fault). AreFound options.unique (counted_lines options f.lines) (counted_end options f.lines l) values (Some fault)) is f.found;
    }

decided_line : SettledLaws → (text more : List ℕ) (options : FindOptions) (values : List BindingValue) (fault : Fault) → SettlesBadLine text fault → IsFound text options values (Some fault) → IsFound (text ++ more) options values (Some fault)
decided_line laws text more options values fault s f =
    let lines = s.before ++ s.line ∷ s.after in
    let first = s.before ++ s.line ∷ [] in
    let now = laws.lines text [] lines s.settled in
    let then = laws.lines text more lines s.settled in
    let one : f.lines ≡ lines ++ now.more = laws.ends.laws.one_lexing text f.lines _ f.lexical now.end f.lexed (subst (λ (t : List ℕ). IsLexed t (lines ++ now.more) now.end) (append-nil text) now.lexed) in
    let parts : (rest : List LogicalLine) → lines ++ rest ≡ first ++ (s.after ++ rest) = λ rest. append_assoc s.before (s.line ∷ s.after) rest ∙ sym (append_assoc s.before (s.line ∷ []) (s.after ++ rest)) in
    let here = subst (λ (ls : List LogicalLine). AreFound options.unique (counted_lines options ls) (counted_end options ls f.lexical) values (Some fault)) (one ∙ parts now.more) f.found in
    let there = bad_either laws.ends.laws options s.before s.line (s.after ++ now.more) (s.after ++ then.more) f.lexical then.end values (Some fault) fault s.bad (top_of options first) here in
    record {
      lines = lines ++ then.more;
      lexical = then.end;
      lexed = then.lexed;
      found = subst (λ (ls : List LogicalLine). AreFound options.unique (counted_lines options ls) (counted_end options ls then.end) values (Some fault)) (sym (parts then.more)) there;
    }

decided_so : SettledLaws → (text more : List ℕ) (options : FindOptions) (values : List BindingValue) (fault : Fault) → Decides text fault ⊎ SettlesBadLine text fault → IsFound text options values (Some fault) → IsFound (text ++ more) options values (Some fault)
decided_so laws text more options values fault (inl d) f = decided_lexical laws text more options values fault d f
decided_so laws text more options values fault (inr s) f = decided_line laws text more options values fault s f

-- what is found before a fault that known bytes decide is found in each text that begins with them, and then this fault
pub decided_all : SettledLaws → (text more : List ℕ) (options : FindOptions) (values : List BindingValue) (fault : Fault) → DecidesFound text options fault → IsFound text options values (Some fault) → IsFound (text ++ more) options values (Some fault)
decided_all laws text more options values fault d f = decided_so laws text more options values fault d.stays f

-- such a text has no other end
pub decided_end : SettledLaws → (text more : List ℕ) (options : FindOptions) (fault : Fault) (values : List BindingValue) (end : Option Fault) → DecidesFound text options fault → IsFound (text ++ more) options values end → end ≡ Some fault
decided_end laws text more options fault values end d f = one_end_found laws.ends (text ++ more) options values d.values end (Some fault) f (decided_all laws text more options d.values fault d d.found)
