-- The text is none of the five spellings.
use Rattle.std.proofs.Common.{◌≡◌, ℕ, List, false, sym}
use Rattle.std.specs.Str.{bytes_eq}
use Rattle.std.proofs.lemmas.Bool.{false_from_ne_true}
use Rattle.std.proofs.lemmas.Slice.Eq.{bytes_eq-Decides}
use Rattle.isort_settings.proofs.section.Section.spelled.Goals as goal

another : (a b : List ℕ) → (b ≡ a → ⊥) → bytes_eq a b ≡ false
another a b h = false_from_ne_true _ (λ t. h (sym ((bytes_eq-Decides a b).0 t)))

pub returns-in_default : goal.returns-in_default
returns-in_default c =
    let h = c.in_default in
    rw (another _ _ h.not-FUTURE, another _ _ h.not-STDLIB, another _ _ h.not-THIRDPARTY, another _ _ h.not-FIRSTPARTY, another _ _ h.not-LOCALFOLDER)
