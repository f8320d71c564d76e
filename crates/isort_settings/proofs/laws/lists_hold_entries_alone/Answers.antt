-- Each list was read, or is a default one.
use Rattle.isort_settings.proofs.EntriesAlone.{HoldEntries-read, HoldEntries-plain, HoldEntries-black}
use Rattle.isort_settings.proofs.laws.lists_hold_entries_alone.Goals as goal

pub returns-clause-read : goal.returns-clause-read
returns-clause-read c = HoldEntries-read

pub returns-clause-plain : goal.returns-clause-plain
returns-clause-plain c = HoldEntries-plain

pub returns-clause-black : goal.returns-clause-black
returns-clause-black c = HoldEntries-black
