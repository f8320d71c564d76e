use Rattle.isort_sort.proofs.WrittenLines.FirstEnds.{first_is_end}
use Rattle.isort_sort.proofs.ReadMembers.ReadBlocks.{read_blocks}
use Rattle.isort_sort.proofs.laws.blocks_are_read.Goals as goal

pub returns : goal.returns
returns c = record {
  blocks = read_blocks
      (record { together = c.lines_before_a_text.ensures.together; apart = c.lines_before_a_text.ensures.apart; cut_apart = c.lines_before_a_text.ensures.cut })
      (record { words = c.tokens_are_words.ensures.words; anywhere = c.tokens_are_words.ensures.anywhere })
      (record { names = c.names_are_words.ensures.names; named = c.imports_of_words_are_named.ensures })
      c.joined_comments_are_read_back.ensures.own;
  end = first_is_end;
}
