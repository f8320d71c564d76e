use Rattle.isort_settings.specs.Values.{Values}
use Rattle.isort_sort.proofs.Orders.Statements.{AreOrders}
use Rattle.isort_sort.proofs.SortedTexts.LaidAgain.{in_lines, laid_again, first_again, lines_again}
use Rattle.isort_sort.proofs.laws.written_blocks_stay.Goals as goal

pub returns : goal.returns
returns c =
    let orders : (v : Values) → AreOrders v = λ v. record { modules = c.modules_are_totally_ordered.ensures.total v; exact_modules = c.modules_are_totally_ordered.ensures.equal v; names = c.names_are_totally_ordered.ensures.total v; exact_names = c.names_are_totally_ordered.ensures.equal v } in
    record {
      laid = λ v indentation members laid is. laid_again v (orders v) indentation members laid (in_lines v indentation members laid is);
      first = λ v. first_again v (orders v);
      lines = lines_again;
    }
