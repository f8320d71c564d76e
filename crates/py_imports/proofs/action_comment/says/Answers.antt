-- The action begins at no place passed.
use Rattle.py_imports.proofs.ActionLemmas.{passes_place, says_here, says_nowhere}
use Rattle.py_imports.proofs.action_comment.says.Goals as goal

pub places-preserved : goal.places-preserved
places-preserved c = passes_place c.args.action c.as_bytes-bytes.result.now c.places.place c.places-test.true c.places.invariant c.if-begins_with_action.ensures

pub returns-then-begins_with_action : goal.returns-then-begins_with_action
returns-then-begins_with_action c = says_here c.args.action c.args.text.now c.as_bytes-bytes.result.now c.places.place c.as_bytes-bytes.ensures.value c.places-test.true c.places.invariant c.if-begins_with_action.ensures

pub returns : goal.returns
returns c = says_nowhere c.args.action c.args.text.now c.as_bytes-bytes.result.now c.places.place c.as_bytes-bytes.ensures.value c.places-test.false c.places.invariant
