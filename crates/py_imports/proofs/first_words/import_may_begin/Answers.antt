-- One of the words stands there.
use Rattle.std.proofs.Common.{inl, inr, sym, ◌∙◌, ⊎_elim, codes}
use Rattle.py_imports.proofs.WordPlaces.{stands_if, stands_only_if}
use Rattle.py_imports.proofs.first_words.import_may_begin.Goals as goal

pub returns-then-starts_with-clause-yes : goal.returns-then-starts_with-clause-yes
returns-then-starts_with-clause-yes c = λ any. (
  c.may_begin.ensures.yes c.if-not-may_begin.false,
  inl (stands_if c.args.text.now (codes "import") c.args.place c.requires.within c.starts_with.result c.starts_with.ensures.bound c.starts_with.ensures.value c.if-starts_with.true),
)

pub returns-else-starts_with-clause-yes : goal.returns-else-starts_with-clause-yes
returns-else-starts_with-clause-yes c = λ starts.
    let second = c.starts_with-else-starts_with in (
      c.may_begin.ensures.yes c.if-not-may_begin.false,
      inr (stands_if c.args.text.now (codes "from") c.args.place c.requires.within second.result second.ensures.bound second.ensures.value starts),
    )

pub returns-else-starts_with-clause-no : goal.returns-else-starts_with-clause-no
returns-else-starts_with-clause-no c = λ differs. λ (may, word).
    ⊎_elim (stands_only_if c.args.text.now (codes "import") c.args.place (sym c.starts_with.ensures.value ∙ c.if-starts_with.false))
    (stands_only_if c.args.text.now (codes "from") c.args.place (sym c.starts_with-else-starts_with.ensures.value ∙ differs)) word
