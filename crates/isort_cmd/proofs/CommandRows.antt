-- What the definitions give on some command lines that are written out.
use Rattle.std.specs.Prelude.{◌≡◌, refl, codes, true, List, [], ◌∷◌, Some}
use Rattle.clap.specs.Words.{Text, all_of, fault_of, matches_of, takes}
use Rattle.clap.specs.declared.error.kind.ErrorKind.TheVariants as kind
use Rattle.clap.proofs.OnLiterals.{clap_on_literals}
use Rattle.isort_cmd.specs.Choice.{is_forbidden, option_number}
use Rattle.isort_cmd.specs.Options.{isort_app}

abbrev identify : List Text
identify = codes "isort" ∷ codes "--identify" ∷ codes "-" ∷ []

identify_is_taken : takes isort_app identify ≡ true
unfolding clap_on_literals isort_app
identify_is_taken = refl

identify_has_no_fault : fault_of isort_app identify ≡ []
unfolding clap_on_literals isort_app
identify_has_no_fault = refl

help_is_help : fault_of isort_app (codes "isort" ∷ codes "--help" ∷ []) ≡ kind.DisplayHelp ∷ []
unfolding clap_on_literals isort_app
help_is_help = refl

nothing_is_refused : fault_of isort_app (codes "isort" ∷ []) ≡ kind.MissingRequiredArgument ∷ []
unfolding clap_on_literals isort_app
nothing_is_refused = refl

abbrev two_keys : List Text
two_keys = codes "isort" ∷ codes "--identify" ∷ codes "--modules" ∷ codes "--packages" ∷ codes "-" ∷ []

two_keys_are_forbidden : is_forbidden (matches_of isort_app two_keys) ≡ true
unfolding clap_on_literals isort_app
two_keys_are_forbidden = refl

length_is_read : option_number (codes "line-length") (matches_of isort_app (codes "isort" ∷ codes "-l" ∷ codes "0" ∷ codes "a.py" ∷ [])) ≡ Some 0
unfolding clap_on_literals isort_app
length_is_read = refl

files_are_read : all_of (codes "FILE") (matches_of isort_app (codes "isort" ∷ codes "a.py" ∷ codes "-cdl5" ∷ codes "b.py" ∷ codes "--" ∷ codes "-x" ∷ [])) ≡ Some (codes "a.py" ∷ codes "b.py" ∷ codes "-x" ∷ [])
unfolding clap_on_literals isort_app
files_are_read = refl
