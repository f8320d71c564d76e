use Rattle.isort_sort.proofs.Orders.Statements.{AreOrders}
use Rattle.isort_sort.proofs.LineLaws.Laws.{Laws}
use Rattle.isort_sort.proofs.WrittenStatements.Written.{statements-written}
use Rattle.isort_sort.proofs.laws.written_statements_are_read_back.Goals as goal

pub returns : goal.returns
returns c =
    λ v.
    let o : AreOrders v = record { modules = c.modules_are_totally_ordered.ensures.total v; exact_modules = c.modules_are_totally_ordered.ensures.equal v; names = c.names_are_totally_ordered.ensures.total v; exact_names = c.names_are_totally_ordered.ensures.equal v } in
    let laws : Laws = record { letters = c.letters_are_words.ensures; tokens = c.tokens_are_words.ensures.words; terminals = c.names_are_words.ensures.words; binds = c.one_statement_binds_its_imports.ensures; joined = c.joined_texts_say_no_more.ensures } in
    statements-written laws v o
