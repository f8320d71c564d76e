-- After `isort:` come the action, or a space and the action.
use Rattle.std.proofs.Common.{ap, ◌∙◌}
use Rattle.py_imports.specs.ActionComment.{begins_with_phrase}
use Rattle.py_imports.proofs.ActionLemmas.{action_behind_space, action_behind_name}
use Rattle.py_imports.proofs.action_comment.begins_with_action.Goals as goal

pub returns-in-Some-strip_prefix : goal.returns-in-Some-strip_prefix
returns-in-Some-strip_prefix c =
    let first = c.in-Some.ensures.cases in
    let second = c.in-Some-strip_prefix.ensures.cases in
    let word = c.in-Some-strip_prefix.word.now in
    c.begins_with_phrase.ensures ∙ ap (λ x. begins_with_phrase x word) c.spelling.ensures ∙ action_behind_space c.args.action c.args.text.now c.in-Some.rest.now word first.0 first.1 second.0 second.1

pub returns-in-None : goal.returns-in-None
returns-in-None c =
    let first = c.in-Some.ensures.cases in
    let rest = c.in-Some.rest.now in
    c.begins_with_phrase-in-None.ensures ∙ ap (λ x. begins_with_phrase x rest) c.spelling-in-None.ensures ∙ action_behind_name c.args.action c.args.text.now rest first.0 first.1 c.in-None.ensures.cases
