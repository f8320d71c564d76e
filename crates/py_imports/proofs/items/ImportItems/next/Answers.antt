-- Each stage reads the first item of the lists that are left at it.
use Rattle.py_imports.specs.Private.Items.{AreLeft, IsFirstOfLists}
use Rattle.py_imports.specs.declared.items.Stage.TheVariants as stage
use Rattle.py_imports.proofs.ReaderLemmas.{first_by_stage, next_some, next_none}
use Rattle.py_imports.proofs.items.ImportItems.next.Goals as goal
use Rattle.py_imports.proofs.items.ImportItems.next.Goals.{Joined-self, in-Modules, in-From, in-Names, in-Bracketed}

-- the first of what is left, by the stage
first : (c : Joined-self) → IsFirstOfLists (AreLeft c.args.self.now) c.match-self.item (AreLeft c.match-self.self)
first c = elim c.match-self.branch [
  | in-Modules w ↦ first_by_stage c.args.self.now stage.Modules _ _ _ _ w.in-Modules.is w.item-is w.self-is w.module_item-item.ensures.item
  | in-From w ↦ first_by_stage c.args.self.now stage.From _ _ _ _ w.in-From.is w.item-is w.self-is w.from_item-item.ensures.item
  | in-Names w ↦ first_by_stage c.args.self.now (stage.Names w.in-Names.from) _ _ _ _ w.in-Names.is w.item-is w.self-is w.name_item-item.ensures.item
  | in-Bracketed w ↦ first_by_stage c.args.self.now (stage.Bracketed w.in-Bracketed.from) _ _ _ _ w.in-Bracketed.is w.item-is w.self-is w.bracketed_item-item.ensures.item
]

pub returns-in-Some-clause-item : goal.returns-in-Some-clause-item
returns-in-Some-clause-item c = next_some _ _ _ _ c.in-Some.is (first (goal.at.returns-in-Some-clause-item c).Joined-self)

pub returns-in-None-clause-item : goal.returns-in-None-clause-item
returns-in-None-clause-item c = next_none _ _ _ c.in-None.is (first (goal.at.returns-in-None-clause-item c).Joined-self)
