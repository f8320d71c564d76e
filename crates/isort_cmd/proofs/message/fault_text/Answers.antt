-- A fault is told with its line, any other error without.
use Rattle.std.proofs.Common.{◌≡◌, ◌≢◌, string_bytes, List, ℕ, ◌++◌, ◌∷◌, [], refl, codes, ◌∙◌, sym, ap}
use Rattle.py_lines.specs.declared.fault.Fault.{Fault}
use Rattle.isort_cmd.specs.declared.error.RunError.{RunError}
use Rattle.isort_cmd.specs.declared.error.RunError.TheVariants as run
use Rattle.isort_cmd.specs.FaultText.{error_line, error_words}
use Rattle.isort_cmd.proofs.message.fault_text.Goals as goal

-- the line of an error that is no fault
error_line-other : (path : List ℕ) (e : RunError) → ((f : Fault) → e ≢ run.Fault f) → error_line path e ≡ codes "isort: " ++ (path ++ (codes ": " ++ (error_words e ++ 10 ∷ [])))
error_line-other path (run.Fault f) differs = absurd (differs f refl)
error_line-other path run.Read _ = refl
error_line-other path run.TooLong _ = refl
error_line-other path run.Write _ = refl
error_line-other path run.Memory _ = refl
error_line-other path run.NeverEnds _ = refl

pub returns-clause-line : goal.returns-clause-line
returns-clause-line c =
    let told : string_bytes c.in_ok-format-2.field-0 ≡ codes "isort: " ++ (c.args.path.now ++ (codes ": " ++ (c.words-words.result.now ++ 10 ∷ []))) = c.in_ok-format-2.ensures.ok in
    told ∙ ap (λ w. codes "isort: " ++ (c.args.path.now ++ (codes ": " ++ (w ++ 10 ∷ [])))) c.words-words.ensures ∙ sym (error_line-other c.args.path.now c.args.error.now c.in_default.not-Fault)
