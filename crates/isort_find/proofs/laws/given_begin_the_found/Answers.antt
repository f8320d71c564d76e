-- What was given is found in lines that begin the text.
use Rattle.isort_find.proofs.Finds.Beginnings.{begins_found, stopped_begins}
use Rattle.isort_find.proofs.laws.given_begin_the_found.Goals as goal

pub returns : goal.returns
returns c = record {
  begin = begins_found c.given_lines_begin_the_text.ensures.begin c.binds_or_is_bad.ensures.some;
  stopped = stopped_begins c.given_lines_begin_the_text.ensures.begin c.binds_or_is_bad.ensures.some;
}
