-- All paths were copied.
use Rattle.std.proofs.Common.{◌∙◌, ap, map, unwrap_or, [], take_all, codes, refl}
use Rattle.clap.specs.Matches.{found_of}
use Rattle.isort_cmd.proofs.MatchLemmas.{all_values_found, texts_or_none}
use Rattle.isort_cmd.proofs.choice.files_of.Goals as goal

pub returns : goal.returns
returns c =
    c.loop-path.invariant
    ∙ ap (map (λ path. path.now)) (take_all c.loop-path.path-index c.unwrap_or-path-items.result.now c.loop-path-test.false)
    ∙ ap (λ paths. map (λ path. path.now) paths.now) c.unwrap_or-path-items.ensures
    ∙ texts_or_none c.get_raw.result _ refl
    ∙ ap (λ paths. unwrap_or paths []) (c.get_raw.ensures ∙ all_values_found (found_of c.args.matches.now) (codes "FILE"))
