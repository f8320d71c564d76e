use Rattle.isort_settings.specs.Values.{Values}
use Rattle.isort_sort.proofs.SortedTexts.OneSorted.{some_sorted_text, one_sorted_text}
use Rattle.isort_sort.proofs.Orders.Statements.{AreOrders}
use Rattle.isort_sort.proofs.laws.one_sorted_text.Goals as goal

pub returns : goal.returns
returns c =
    let orders : (v : Values) → AreOrders v = λ v. record { modules = c.modules_are_totally_ordered.ensures.total v; exact_modules = c.modules_are_totally_ordered.ensures.equal v; names = c.names_are_totally_ordered.ensures.total v; exact_names = c.names_are_totally_ordered.ensures.equal v } in
    record {
      some = λ text v. some_sorted_text v (orders v) text;
      one = λ text v. one_sorted_text c.one_lexing.ensures.one_list c.binds_or_is_bad.ensures.one_list v (orders v) text;
    }
