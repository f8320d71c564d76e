-- What the text of settings stands for, from what the library says of it.
use Rattle.std.proofs.Common.{◌≡◌, ◌≢◌, ◌⊎◌, ℕ, List, Option, Result, Ok, Err, IfOk, refl, sym, ap, ◌∙◌, inl, inr}
use Rattle.std.specs.Result.{result_map_both}
use Rattle.isort_settings.specs.Pyproject.{settings_of}
use Rattle.isort_settings.specs.Values.{Values}
use Rattle.isort_settings.specs.declared.error.SettingsError.{SettingsError}
use Rattle.isort_settings.specs.declared.error.SettingsError.TheVariants as refusal
use Rattle.isort_settings.specs.declared.profile.Profile.{Profile}
use Rattle.isort_c.specs.Answers.{plain_answer}
use Rattle.isort_c.specs.Readings.{profile_at, refused_answer, reading_with, reading}
use Rattle.isort_c.specs.declared.answer.Answer.{Answer}
use Rattle.isort_c.specs.declared.answer.TheConstants.{MEMORY}

pub reading-unprofiled : (text : List ℕ) (n : ℕ) (a : Answer) → profile_at n ≡ Err a → reading text n ≡ Err a
reading-unprofiled text n a is = ap (reading_with text) is

pub reading-ok : (text : List ℕ) (n : ℕ) (profile : Option Profile) (r : Values × List (List ℕ)) → profile_at n ≡ Ok profile → settings_of text profile ≡ Ok r → reading text n ≡ Ok r
reading-ok text n profile r is stands = ap (reading_with text) is ∙ ap (result_map_both (λ x. x) refused_answer) stands

pub reading-err : (text : List ℕ) (n : ℕ) (profile : Option Profile) (e : SettingsError) → profile_at n ≡ Ok profile → settings_of text profile ≡ Err e → reading text n ≡ Err (refused_answer e)
reading-err text n profile e is refused = ap (reading_with text) is ∙ ap (result_map_both (λ x. x) refused_answer) refused

-- a refusal other than out of memory is the text's own
pub reading-refused : (text : List ℕ) (n : ℕ) (profile : Option Profile) (e : SettingsError) → profile_at n ≡ Ok profile → (e ≢ refusal.Memory → settings_of text profile ≡ Err e) → (reading text n ≡ Err (refused_answer e)) ⊎ (refused_answer e ≡ plain_answer MEMORY)
reading-refused text n profile refusal.Memory is refused = inr refl
reading-refused text n profile refusal.BadToml is refused = inl (reading-err text n profile refusal.BadToml is (refused (λ same. cc)))
reading-refused text n profile (refusal.BadValue k) is refused = inl (reading-err text n profile (refusal.BadValue k) is (refused (λ same. cc)))
reading-refused text n profile refusal.UnknownProfile is refused = inl (reading-err text n profile refusal.UnknownProfile is (refused (λ same. cc)))
reading-refused text n profile refusal.UnsupportedMode is refused = inl (reading-err text n profile refusal.UnsupportedMode is (refused (λ same. cc)))

-- what a text stands for is shown by the reading of it, if there is memory for it
pub stands_shared : {A : Type 0} (shown : A → Values × List (List ℕ)) (stands : Result (Values × List (List ℕ)) Answer) (r : Values × List (List ℕ)) (made : Result A Answer)
    → stands ≡ Ok r → IfOk made (λ a. shown a ≡ r) → IfOk made (λ a. stands ≡ Ok (shown a))
stands_shared shown stands r (Ok a) is holds = is ∙ ap (λ v. Ok v) (sym holds)
stands_shared shown stands r (Err e) is holds = tt
