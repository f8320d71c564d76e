-- Rows that are cut at blocks have one text in which each block is replaced by its layout.
use Rattle.std.proofs.Common.{◌≡◌, ℕ, List, [], ◌∷◌, ◌++◌, map, refl, sym, ap, ◌∙◌, subst}
use Rattle.std.specs.Prelude.{filter, count_by}
use Rattle.py_imports.specs.Grammar.{Item}
use Rattle.isort_settings.specs.Values.{Values}
use Rattle.isort_sort.specs.Blocks.{Run, Cut, rest, block, cut_rows, members_of}
use Rattle.isort_sort.specs.Layout.{Laid, IsLaid, EachIsLaid, block_lines, text_of_lines}
use Rattle.isort_sort.specs.Member.{Member, AreStatements, AreItemsOf, imports_of, item_of, belongs, comments_of, above_of}
use Rattle.isort_sort.specs.Row.{Row}
use Rattle.isort_sort.specs.Sorted.{last_row, blanks_after, texts_of, IsLayout, IsSortedCut}
use Rattle.isort_sort.specs.Statement.{Statement, module_of, statement_of, statement_cmp, item_cmp}
use Rattle.isort_sort.specs.Wrapping.{IsCut, fits_line}
use Rattle.isort_sort.proofs.Layouts.Lengths.{fits_line_shrinks}
use Rattle.isort_sort.proofs.Orders.InOrder.{in_order, some_list_in_order, one_list_in_order}
use Rattle.isort_sort.proofs.Orders.Statements.{AreOrders, item_cmp_total, exact_items, statement_cmp_total, exact_statements}
use Rattle.isort_sort.proofs.Layouts.OneCut.{some_cut, one_cut}

-- statements can be laid out
each_laid : (v : Values) (o : AreOrders v) (indentation : List ℕ) (ms : List Member) (statements : List Statement) → (laid : List Laid) × (map (λ s. s.statement) laid ≡ statements) × EachIsLaid v indentation ms laid
each_laid v o indentation ms [] = ([], refl, tt)
each_laid v o indentation ms (s ∷ ss) =
    let items = in_order (item_cmp v) (map item_of (filter (belongs v s) (imports_of ms))) in
    let cut = some_cut (fits_line v indentation (module_of s)) items in
    let first : Laid = record { statement = s; items = items; cut = cut.0; comments = comments_of v ms s; above = above_of v ms s } in
    let is : IsLaid v indentation ms first = record { items = some_list_in_order (item_cmp_total v o) (exact_items v o) _; cut = cut.1; comments = refl; above = refl } in
    let others = each_laid v o indentation ms ss in
    (first ∷ others.0, ap (λ l. s ∷ l) others.1, (is, others.2))

some_layout : (v : Values) → AreOrders v → (end : List ℕ) (run : Run) (blanks after : List Row) → (text : List ℕ) × IsLayout v end run blanks after text
some_layout v o end run blanks after =
    let statements = in_order (statement_cmp v) (map (statement_of v) (imports_of (members_of run))) in
    let each = each_laid v o run.first.indentation (members_of run) statements in (
      text_of_lines end (last_row run.first run.others).ended (blanks_after v run (count_by (λ (row : Row). row.ended) blanks) after) (block_lines v run.first.indentation end each.0),
      (each.0, record { statements = subst (AreStatements v (members_of run)) (sym each.1) (some_list_in_order (statement_cmp_total v o) (exact_statements v o) _); each = each.2 }, refl),
    )

pub some_sorted_cut : (v : Values) → AreOrders v → (end : List ℕ) (cut : Cut) → (text : List ℕ) × IsSortedCut v end cut text
some_sorted_cut v o end (rest rows) = (texts_of rows, refl)
some_sorted_cut v o end (block before run blanks cut) =
    let own = some_layout v o end run blanks (cut_rows cut) in
    let others = some_sorted_cut v o end cut in
    (texts_of before ++ (own.0 ++ others.0), (own.0, others.0, refl, own.1, others.1))

-- statements are laid out in one way
same_laid : (v : Values) → AreOrders v → (indentation : List ℕ) (members : List Member) (s t : Laid) → s.statement ≡ t.statement → IsLaid v indentation members s → IsLaid v indentation members t → s ≡ t
same_laid v o indentation members s t same a b =
    let back : t.statement ≡ s.statement = sym same in
    let listed : AreItemsOf v members s.statement t.items = subst (λ (u : Statement). AreItemsOf v members u t.items) back b.items in
    let items : s.items ≡ t.items = one_list_in_order (item_cmp_total v o) _ s.items t.items a.items listed in
    let other : IsCut (fits_line v indentation (module_of s.statement)) s.items t.cut =
    subst (λ (u : Statement). IsCut (fits_line v indentation (module_of u)) s.items t.cut) back (subst (λ (is : List Item). IsCut (fits_line v indentation (module_of t.statement)) is t.cut) (sym items) b.cut) in
    let cut : s.cut ≡ t.cut = one_cut _ (fits_line_shrinks v indentation (module_of s.statement)) s.items s.cut t.cut a.cut other in
    let comments : s.comments ≡ t.comments = a.comments ∙ ap (comments_of v members) same ∙ sym b.comments in
    let above : s.above ≡ t.above = a.above ∙ ap (above_of v members) same ∙ sym b.above in
    λ i. record { statement = same i; items = items i; cut = cut i; comments = comments i; above = above i }

each_same : (v : Values) → AreOrders v → (indentation : List ℕ) (members : List Member) (laid others : List Laid) → map (λ s. s.statement) laid ≡ map (λ s. s.statement) others → EachIsLaid v indentation members laid → EachIsLaid v indentation members others → laid ≡ others
each_same v o indentation members [] [] same a b = refl
each_same v o indentation members [] (t ∷ ts) same a b = absurd (cc)
each_same v o indentation members (s ∷ ss) [] same a b = absurd (cc)
each_same v o indentation members (s ∷ ss) (t ∷ ts) same a b =
    let first : s.statement ≡ t.statement = cc in
    let rest_same : map (λ (u : Laid). u.statement) ss ≡ map (λ (u : Laid). u.statement) ts = cc in
    λ i. same_laid v o indentation members s t first a.0 b.0 i ∷ each_same v o indentation members ss ts rest_same a.1 b.1 i

one_layout : (v : Values) → AreOrders v → (end : List ℕ) (run : Run) (blanks after : List Row) (a b : List ℕ) → IsLayout v end run blanks after a → IsLayout v end run blanks after b → a ≡ b
one_layout v o end run blanks after a b x y =
    let statements = one_list_in_order (statement_cmp_total v o) _ _ _ x.1.statements y.1.statements in
    x.2 ∙ ap (λ laid. text_of_lines end (last_row run.first run.others).ended (blanks_after v run (count_by (λ (row : Row). row.ended) blanks) after) (block_lines v run.first.indentation end laid)) (each_same v o run.first.indentation (members_of run) x.0 y.0 statements x.1.each y.1.each) ∙ sym y.2

pub one_sorted_cut : (v : Values) → AreOrders v → (end : List ℕ) (cut : Cut) (a b : List ℕ) → IsSortedCut v end cut a → IsSortedCut v end cut b → a ≡ b
one_sorted_cut v o end (rest rows) a b x y = x ∙ sym y
one_sorted_cut v o end (block before run blanks cut) a b x y =
    let own : x.0 ≡ y.0 = one_layout v o end run blanks (cut_rows cut) x.0 y.0 x.3 y.3 in
    let others : x.1 ≡ y.1 = one_sorted_cut v o end cut x.1 y.1 x.4 y.4 in
    x.2 ∙ (λ i. texts_of before ++ (own i ++ others i)) ∙ sym y.2
