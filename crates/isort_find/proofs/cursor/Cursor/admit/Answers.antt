-- The keys take in the binding's, if it is new.
use Rattle.py_imports.specs.BindingValue.{binding_value}
use Rattle.isort_find.specs.Cursor.{cursor_state}
use Rattle.isort_find.proofs.Keys.KeyTexts.{admits}
use Rattle.isort_find.proofs.cursor.Cursor.admit.Goals as goal

pub returns-in_ok-is_new-in-Some-clause-ok : goal.returns-in_ok-is_new-in-Some-clause-ok
returns-in_ok-is_new-in-Some-clause-ok c =
    let old = cursor_state c.self.inside.options c.self.inside.start c.self.inside.taken c.self.inside.given c.self.inside.keys in
    let added = c.in_ok-is_new-in-Some.ensures in
    rw (← c.self.view_is) (admits old c.in-Some.key c.in_ok-key-in-Some.key (binding_value c.args.binding.now) c.in_ok-is_new-in-Some.is_new _ c.in-Some.is c.in_ok-key-in-Some.ensures.ok added.answer added.added)
