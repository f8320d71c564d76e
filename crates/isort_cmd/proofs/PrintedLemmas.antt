-- The lines of some bindings and then of others.
use Rattle.std.proofs.Common.{◌≡◌, ℕ, List, [], ◌∷◌, ◌++◌, refl, sym, ap, ◌∙◌, append_assoc}
use Rattle.std.proofs.lemmas.List.{append-nil}
use Rattle.py_imports.specs.BindingValue.{BindingValue}
use Rattle.isort_cmd.specs.Printed.{printed, line_text}

pub printed-append : (path : List ℕ) (bs more : List BindingValue) → printed path (bs ++ more) ≡ printed path bs ++ printed path more
printed-append path [] more = refl
printed-append path (b ∷ bs) more = ap (λ x. line_text path b ++ x) (printed-append path bs more) ∙ sym (append_assoc (line_text path b) (printed path bs) (printed path more))

pub printed-snoc : (path : List ℕ) (bs : List BindingValue) (b : BindingValue) → printed path (bs ++ b ∷ []) ≡ printed path bs ++ line_text path b
printed-snoc path bs b = printed-append path bs (b ∷ []) ∙ ap (λ x. printed path bs ++ x) (append-nil (line_text path b))
