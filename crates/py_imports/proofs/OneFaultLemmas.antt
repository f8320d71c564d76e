-- A logical line binds one list or has one fault, and not both.
use Rattle.std.proofs.Common.{◌≡◌, ◌+◌, true, false, List, [], ◌∷◌, ◌++◌, sym, ap, ◌∙◌, subst}
use Rattle.py_lines.specs.LogicalLine.{LogicalLine}
use Rattle.py_lines.specs.declared.fault.Fault.{Fault}
use Rattle.py_lines.specs.declared.fault.FaultKind.TheVariants.{BadImport}
use Rattle.py_imports.specs.Grammar.{begins_import, Imported, IsImport}
use Rattle.py_imports.specs.Statement.{significant, TokenPlace, starts}
use Rattle.py_imports.specs.BindingValue.{BindingValue}
use Rattle.py_imports.specs.Binds.{terminals_at, values_at, BindsAt, nothing, imports, IsBadStart, BindEach, Binds, IsBadAt}
use Rattle.py_imports.proofs.OneListLemmas.{one_import}

-- a statement begins as an import statement does, or it doesn't
begins_or_not : (line : LogicalLine) (p : TokenPlace) → begins_import (terminals_at line p) ≡ true → begins_import (terminals_at line p) ≡ false → ⊥
begins_or_not line p e f = let g : true ≡ false = sym e ∙ f in cc

one_where_nothing : (line : LogicalLine) (p : TokenPlace) (others : List BindingValue) → begins_import (terminals_at line p) ≡ false → BindsAt line p others → others ≡ []
one_where_nothing line p others n (nothing l q bs e f) = f
one_where_nothing line p others n (imports l q bs is e i f) = absurd (begins_or_not line p e n)

one_where_imports : (line : LogicalLine) (p : TokenPlace) (others : List BindingValue) (is : List Imported) → begins_import (terminals_at line p) ≡ true → IsImport (terminals_at line p) is → BindsAt line p others → others ≡ values_at line p is
one_where_imports line p others is b i (nothing l q bs e f) = absurd (begins_or_not line p b e)
one_where_imports line p others is b i (imports l q bs js e j f) = f ∙ ap (values_at line p) (one_import (terminals_at line p) js is j i)

-- a statement binds one list
one_at : (line : LogicalLine) (p : TokenPlace) (values others : List BindingValue) → BindsAt line p values → BindsAt line p others → values ≡ others
one_at line p values others (nothing l q bs e f) b = f ∙ sym (one_where_nothing line p others e b)
one_at line p values others (imports l q bs is e i f) b = f ∙ sym (one_where_imports line p others is e i b)

one_each : (line : LogicalLine) (ps : List TokenPlace) (values others : List BindingValue) → BindEach line ps values → BindEach line ps others → values ≡ others
one_each line [] values others e f = e ∙ sym f
one_each line (p ∷ ps) values others (first, rest, e, b, each) (head, tail, f, c, others_each) =
    e ∙ ap (λ x. x ++ rest) (one_at line p first head b c) ∙ ap (λ x. head ++ x) (one_each line ps rest tail each others_each) ∙ sym f

-- a logical line binds one list: each of its statements binds one
pub one_list : (line : LogicalLine) (values others : List BindingValue) → Binds line values → Binds line others → values ≡ others
one_list line values others b c = one_each line (starts (significant line.tokens)) values others b c

-- a statement that binds a list isn't bad
good_or_bad : (line : LogicalLine) (p : TokenPlace) (values : List BindingValue) → BindsAt line p values → IsBadStart line p → ⊥
good_or_bad line p values (nothing l q bs e f) b = begins_or_not line p b.begins e
good_or_bad line p values (imports l q bs is e i f) b = b.bad is i

-- so none of the statements is bad where each binds a list
all_good : (line : LogicalLine) (before : List TokenPlace) (start : TokenPlace) (later : List TokenPlace) (values : List BindingValue) → BindEach line (before ++ start ∷ later) values → IsBadStart line start → ⊥
all_good line [] start later values (first, rest, e, b, each) bad = good_or_bad line start first b bad
all_good line (p ∷ before) start later values (first, rest, e, b, each) bad = all_good line before start later rest each bad

-- a logical line that binds a list has no fault: the statement at the fault would bind a list and be bad
pub not_both : (line : LogicalLine) (values : List BindingValue) (fault : Fault) → Binds line values → ¬ (IsBadAt line fault)
not_both line values fault b f = all_good line f.before f.start f.after values (subst (λ ps. BindEach line ps values) f.split b) f.bad

-- two places, each the first bad one of the same list, are the same: the other one would stand among those that bind
one_first : (line : LogicalLine) (before others : List TokenPlace) (start other : TokenPlace) (later after : List TokenPlace) (values more : List BindingValue) → before ++ start ∷ later ≡ others ++ other ∷ after → BindEach line before values → IsBadStart line start → BindEach line others more → IsBadStart line other → start ≡ other
one_first line [] [] start other later after values more e good bad fine worse = let f : start ∷ later ≡ other ∷ after = e in cc
one_first line [] (q ∷ others) start other later after values more e good bad (first, rest, g, b, each) worse =
    let f : start ∷ later ≡ q ∷ others ++ other ∷ after = e in
    let h : start ≡ q = cc in
    absurd (good_or_bad line q first b (subst (IsBadStart line) h bad))
one_first line (p ∷ before) [] start other later after values more e (first, rest, g, b, each) bad fine worse =
    let f : p ∷ before ++ start ∷ later ≡ other ∷ after = e in
    let h : other ≡ p = cc in
    absurd (good_or_bad line p first b (subst (IsBadStart line) h worse))
one_first line (p ∷ before) (q ∷ others) start other later after values more e (first, rest, g, b, each) bad (head, tail, k, c, fine) worse =
    let f : p ∷ before ++ start ∷ later ≡ q ∷ others ++ other ∷ after = e in
    let h : before ++ start ∷ later ≡ others ++ other ∷ after = cc in
    one_first line before others start other later after rest tail h each bad fine worse

-- a logical line has one fault: its first bad statement is one
pub one_bad_fault : (line : LogicalLine) (fault other : Fault) → IsBadAt line fault → IsBadAt line other → fault ≡ other
one_bad_fault line fault other f g =
    let same = one_first line f.before g.before f.start g.start f.after g.after f.values g.values (sym f.split ∙ g.split) f.good f.bad g.good g.bad in
    f.place ∙ ap (λ p. record { kind = BadImport; offset = line.offset + p.token.start; line = p.token.line }) same ∙ sym g.place
