-- What the map of the table finds is the member.
use Rattle.toml.proofs.Views.{table_get}
use Rattle.isort_settings.proofs.pyproject.member.Goals as goal

pub returns : goal.returns
returns c = table_get c.get.result c.args.name.now c.args.table.now.entries c.get.ensures.value
