-- What the parser finds is a job, and its errors are told.
use Rattle.std.proofs.Common.{List, ap, map, string_bytes, subst}
use Rattle.std.proofs.lemmas.Result.{IfErr-weaker}
use Rattle.clap.specs.Words.{HasKind, Text, fault_of}
use Rattle.isort_cmd.specs.Options.{isort_app}
use Rattle.isort_cmd.specs.Private.ParserSteps.{rows_in}
use Rattle.isort_cmd.proofs.ParseLemmas.{line_of_no_job, told}
use Rattle.isort_cmd.proofs.command_line.command.Goals as goal

pub returns-clause-err : goal.returns-clause-err
returns-clause-err c =
    let kind = subst (λ (words : List Text). HasKind (fault_of isort_app words) c.in-Err.error) (ap (map string_bytes) c.as_slice.ensures.value) c.in-Err.ensures.err in
    told (map string_bytes c.args.words.items) c.in-Err.error c.refusal.result c.refusal.ensures.told kind

pub returns-in-Ok-clause-line : goal.returns-in-Ok-clause-line
returns-in-Ok-clause-line c = IfErr-weaker c.job_of.result _ _ (line_of_no_job (rows_in c.in-Ok.matches)) c.job_of.ensures.err
