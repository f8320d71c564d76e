use Rattle.py_lines.proofs.Prelude.{not, ap, ◌∙◌, ◌≡◌, ℕ, ◌<◌, true, false, Option, None, Some, List, length, ⊎_elim, arith, is_some, cases_lt}
use Rattle.memchr.specs.Find.{FindsNeedle}
use Rattle.py_lines.specs.ScannerState.{LacksWord}
use Rattle.py_lines.proofs.feed.lacks_both.Goals as goal

-- whether one is found: the empty word stands before the first byte
tells : (bytes word : List ℕ) (r : Option ℕ) → 0 < length bytes → FindsNeedle bytes word 0 r → (is_some r ≡ false → LacksWord bytes word) × (is_some r ≡ true → ¬ (LacksWord bytes word))
tells bytes word None some nowhere = (λ none k low high. nowhere k low (omega (arith, high)), λ is. absurd (cc))
tells bytes word (Some n) some (before, occurs) = (
  λ none. absurd (cc),
  λ is lacks. ⊎_elim (λ longer. lacks n (omega arith) (omega (arith, longer, occurs.fits)) occurs)
      (λ empty. lacks 0 (omega arith) some (record { fits = omega (arith, empty); reads = λ j within. absurd (omega (arith, empty, within)) }))
      (cases_lt 0 (length word)),
)

pub returns-then-is_none-clause-yes : goal.returns-then-is_none-clause-yes
returns-then-is_none-clause-yes c = λ is. (
  (tells c.args.bytes.now c.args.word.now c.find.result c.requires c.find.ensures).0 (c.is_none.ensures ∙ ap not c.if-is_none.true),
  (tells c.args.bytes.now c.args.other.now c.find-then-is_none.result c.requires c.find-then-is_none.ensures).0 (c.is_none-then-is_none.ensures ∙ ap not is),
)

pub returns-then-is_none-clause-no : goal.returns-then-is_none-clause-no
returns-then-is_none-clause-no c = λ is lacks.
    (tells c.args.bytes.now c.args.other.now c.find-then-is_none.result c.requires c.find-then-is_none.ensures).1 (c.is_none-then-is_none.ensures ∙ ap not is) lacks.1

pub returns-else-is_none-clause-no : goal.returns-else-is_none-clause-no
returns-else-is_none-clause-no c = λ is lacks.
    (tells c.args.bytes.now c.args.word.now c.find.result c.requires c.find.ensures).1 (c.is_none.ensures ∙ ap not c.if-is_none.false) lacks.0

pub returns-else-is_none-clause-yes : goal.returns-else-is_none-clause-yes
returns-else-is_none-clause-yes c = grind arith
