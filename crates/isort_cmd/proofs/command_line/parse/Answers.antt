-- The parser reads the words as `isort_app` does.
use Rattle.std.proofs.Common.{◌≡◌, ◌∙◌, ap, map, subst, string_bytes}
use Rattle.std.proofs.lemmas.Result.{IfErr-weaker, IfOk-weaker}
use Rattle.clap.specs.Words.{App, FailsBy, app_of, fault_of, is_simple, is_simple_and_free, matches_of, takes}
use Rattle.clap.proofs.WalkLemmas.{IfOk-both}
use Rattle.isort_cmd.specs.Options.{isort_app}
use Rattle.isort_cmd.proofs.ParseLemmas.{fails_err, fails_ok, is_free_app, is_simple_app}
use Rattle.isort_cmd.proofs.command_line.parse.Goals as goal

pub returns-clause-ok : goal.returns-clause-ok
returns-clause-ok c =
    let words = map string_bytes c.args.words.now in
    let parse = c.try_get_matches_from in
    let is : app_of c.in_ok-isort_command.field-0 ≡ isort_app = c.in_ok-isort_command.ensures in
    let fails = subst (λ (a : App). FailsBy (fault_of a words) parse.result) is (parse.ensures.kinds (ap is_simple_and_free is ∙ is_free_app)) in
    IfOk-both parse.result _ _ (fails_ok _ parse.result fails)
    (IfOk-weaker parse.result _ _ (λ m h. (h (ap is_simple is ∙ is_simple_app)).0 ∙ ap (λ (a : App). matches_of a words) is) parse.ensures.matches)

pub returns-clause-err : goal.returns-clause-err
returns-clause-err c =
    let words = map string_bytes c.args.words.now in
    let parse = c.try_get_matches_from in
    let is : app_of c.in_ok-isort_command.field-0 ≡ isort_app = c.in_ok-isort_command.ensures in
    fails_err _ parse.result (subst (λ (a : App). FailsBy (fault_of a words) parse.result) is (parse.ensures.kinds (ap is_simple_and_free is ∙ is_free_app)))

pub returns-clause-taken : goal.returns-clause-taken
returns-clause-taken c =
    let words = map string_bytes c.args.words.now in
    let parse = c.try_get_matches_from in
    let is : app_of c.in_ok-isort_command.field-0 ≡ isort_app = c.in_ok-isort_command.ensures in
    IfErr-weaker parse.result _ _ (λ e h taken. h (ap (λ (a : App). takes a words) is ∙ taken)) parse.ensures.passes
