use Rattle.py_imports.proofs.WordLanes.{none_seen}
use Rattle.py_imports.proofs.first_words.holds_zero.Goals as goal

pub returns : goal.returns
returns c k less none = none_seen c.args.lanes c.fits-lanes.0 k less none
