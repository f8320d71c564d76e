use Rattle.std.proofs.Common.{◌++◌, ◌≡◌, ap, ◌∙◌, sym, length, subst, List, ℕ, arith}
use Rattle.std.specs.Prelude.{slice_range}
use Rattle.std.specs.Str.{IsUtf8}
use Rattle.isort_sort.specs.Sorted.{IsLaidOut}
use Rattle.isort_sort.proofs.SortedTexts.Parts.{all_made, rest_utf8}
use Rattle.isort_sort.proofs.parts.Parts.rest.Goals as goal

pub between-requires-clause-ordered : goal.between-requires-clause-ordered
between-requires-clause-ordered c = omega (arith, c.requires.3.ordered, c.requires.3.within, ap length c.requires.3.same_text)

pub returns-clause-laid : goal.returns-clause-laid
returns-clause-laid c =
    λ text v out h none.
    let is : c.between.result.now ≡ slice_range text c.args.self.now.at (length text) = c.between.ensures ∙ ap (λ (t : List ℕ). slice_range t c.args.self.now.at (length t)) h.same_text in
    subst (λ (t : List ℕ). IsLaidOut text v (out ++ t)) (sym is) (all_made text v c.args.self.now out h none)

pub returns-clause-utf8 : goal.returns-clause-utf8
returns-clause-utf8 c =
    λ none.
    let h = c.requires.3 in
    let is : c.between.result.now ≡ slice_range c.requires.0 c.args.self.now.at (length c.requires.0) = c.between.ensures ∙ ap (λ (t : List ℕ). slice_range t c.args.self.now.at (length t)) h.same_text in
    subst IsUtf8 (sym is) (rest_utf8 c.requires.0 c.requires.1 c.args.self.now c.requires.2 h none)
