use Rattle.isort_sort.proofs.Orders.Statements.{AreOrders}
use Rattle.isort_sort.proofs.SortedAgain.Again.{SortLaws}
use Rattle.isort_sort.proofs.SortedAgain.AtStart.{laid_again, sorted_again, blocks_back}
use Rattle.isort_sort.proofs.ReadMembers.ReadImports.{ImportLaws}
use Rattle.isort_sort.proofs.SortedAgain.Sorted.{reads_blocks}
use Rattle.isort_sort.proofs.WrittenLines.UnitRows.{TokenLaws}
use Rattle.isort_sort.proofs.laws.sorted_texts_stay.Goals as goal
use Rattle.isort_settings.specs.Values.{Values}

pub returns : goal.returns
returns c =
    let orders : (v : Values) → AreOrders v = λ v. record { modules = c.modules_are_totally_ordered.ensures.total v; exact_modules = c.modules_are_totally_ordered.ensures.equal v; names = c.names_are_totally_ordered.ensures.total v; exact_names = c.names_are_totally_ordered.ensures.equal v } in
    let tokens : TokenLaws = record { words = c.tokens_are_words.ensures.words; anywhere = c.tokens_are_words.ensures.anywhere } in
    let imports : ImportLaws = record { names = c.names_are_words.ensures.names; named = c.imports_of_words_are_named.ensures } in
    let laws : (v : Values) → SortLaws v = λ v. record {
      lines = record { together = c.lines_before_a_text.ensures.together; apart = c.lines_before_a_text.ensures.apart; cut_apart = c.lines_before_a_text.ensures.cut };
      neighbours = c.neighbours_are_read.ensures;
      tokens = tokens;
      words = c.words_hold_no_line_end.ensures;
      orders = orders v;
      reads = reads_blocks tokens imports c.joined_comments_are_read_back.ensures.own c.words_hold_no_line_end.ensures v (orders v) (c.written_statements_are_read_back.ensures v);
    } in
    record { sorted = λ text v sorted. sorted_again v (laws v) text sorted; laid = λ text v sorted. laid_again v (laws v) text sorted; read_back = λ text v sorted. blocks_back c.one_lexing.ensures.one_list c.binds_or_is_bad.ensures.one_list v (laws v) text sorted }
