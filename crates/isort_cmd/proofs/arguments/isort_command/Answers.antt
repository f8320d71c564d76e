-- The parser with the files and all options is `isort_app`.
use Rattle.std.proofs.Common.{◌≡◌, ◌∙◌, ap, codes}
use Rattle.std.proofs.lemmas.Result.{IfOk-weaker}
use Rattle.clap.specs.Simple.{app_of_fields}
use Rattle.clap.specs.Words.{App, app_of, new_app}
use Rattle.isort_cmd.specs.Options.{isort_app, with_listing_rules, with_settings_rules, with_sorting_rules}
use Rattle.isort_cmd.proofs.OptionLemmas.{added}
use Rattle.isort_cmd.proofs.arguments.isort_command.Goals as goal

pub returns : goal.returns
unfolding isort_app
returns c =
    let start : app_of c.in_ok-command.command ≡ new_app (codes "isort") =
    ap app_of_fields c.in_ok-command.ensures.0 ∙ ap app_of_fields c.after_help.ensures ∙ ap app_of_fields c.about.ensures ∙ c.new.ensures.app in
    let first = added c.in_ok-arg.ensures c.files_argument.ensures.local start c.files_argument.ensures.rule in
    IfOk-weaker c.with_options.result _ _ (λ new h. h ∙ ap (λ (a : App). with_settings_rules (with_sorting_rules (with_listing_rules a))) first) c.with_options.ensures
