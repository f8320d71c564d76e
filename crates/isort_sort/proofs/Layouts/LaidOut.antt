-- The text of grouped members that are laid out is a layout of the members.
use Rattle.std.proofs.Common.{◌≡◌, ℕ, Bool, true, false, cond, List, [], ◌∷◌, map, refl, ap, subst}
use Rattle.std.specs.List.{AllByRecursion}
use Rattle.isort_settings.specs.Values.{Values}
use Rattle.isort_sort.specs.Private.Arranged.{IsArranged}
use Rattle.isort_sort.specs.Private.Found.{Found, blanks_of}
use Rattle.isort_sort.specs.Private.Group.{Group, group_value, IsGrouped, AreGrouped}
use Rattle.isort_sort.specs.Private.Packing.{laid_of}
use Rattle.isort_sort.specs.Layout.{IsLaid, EachIsLaid, AreLaid, block_lines, text_of_lines}
use Rattle.isort_sort.specs.Member.{Member, AreStatements}
use Rattle.isort_sort.specs.Statement.{module_of, section_of}
use Rattle.isort_sort.specs.declared.group.Group as code
use Rattle.isort_sort.proofs.Layouts.Cuts.{packed_is_cut}

-- each group's section is that of its statement
pub sections_right : (v : Values) (members : List Member) (groups : List code.Group) → AllByRecursion (IsGrouped v members) (map group_value groups) → AllByRecursion (λ g. (group_value g).section ≡ section_of v (group_value g).statement) groups
sections_right v members [] each = tt
sections_right v members (g ∷ gs) each = (each.0.section, sections_right v members gs each.1)

-- a group is its statement laid out
laid_by : (v : Values) (indentation : List ℕ) (members : List Member) (g : Group) → IsGrouped v members g → IsLaid v indentation members (laid_of v indentation g)
laid_by v indentation members g is = record {
  items = is.items;
  cut = packed_is_cut v indentation (module_of g.statement) g.items;
  comments = is.comments;
  above = is.above;
}

same_statements : (v : Values) (indentation : List ℕ) (groups : List Group) → map (λ g. g.statement) groups ≡ map (λ s. s.statement) (map (laid_of v indentation) groups)
same_statements v indentation [] = refl
same_statements v indentation (g ∷ gs) = ap (λ ss. g.statement ∷ ss) (same_statements v indentation gs)

each_laid : (v : Values) (indentation : List ℕ) (members : List Member) (groups : List Group) → AllByRecursion (IsGrouped v members) groups → EachIsLaid v indentation members (map (laid_of v indentation) groups)
each_laid v indentation members [] each = tt
each_laid v indentation members (g ∷ gs) each = (laid_by v indentation members g each.0, each_laid v indentation members gs each.1)

-- grouped members are their statements laid out
are_laid : (v : Values) (indentation : List ℕ) (members : List Member) (groups : List Group) → AreGrouped v members groups → AreLaid v indentation members (map (laid_of v indentation) groups)
are_laid v indentation members groups grouped = record {
  statements = subst (AreStatements v members) (same_statements v indentation groups) grouped.statements;
  each = each_laid v indentation members groups grouped.each;
}

-- blank lines stand after a block only if its last line has a line end
same_blanks : (end : List ℕ) (ended : Bool) (blanks n : ℕ) (lines : List (List ℕ)) → n ≡ cond ended blanks 0 → text_of_lines end ended n lines ≡ text_of_lines end ended blanks lines
same_blanks end true blanks n lines e = ap (λ k. text_of_lines end true k lines) e
same_blanks end false blanks n lines e = refl

-- the layout of a block from its groups
pub arranged : (v : Values) (end : List ℕ) (f : Found) (groups : List Group) (n : ℕ) → AreGrouped v f.members groups → n ≡ cond f.ended (blanks_of v f) 0 → IsArranged v end f (text_of_lines end f.ended n (block_lines v f.indentation end (map (laid_of v f.indentation) groups)))
arranged v end f groups n grouped count =
    (map (laid_of v f.indentation) groups, are_laid v f.indentation f.members groups grouped, same_blanks end f.ended (blanks_of v f) n _ count)
