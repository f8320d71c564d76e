-- What a list of modules holds.
use Rattle.std.specs.Prelude.{codes, ℕ, List, [], ◌∷◌, map, string_bytes}
use Rattle.isort_settings.specs.declared.modules.Modules.{Modules}
use Rattle.isort_settings.specs.declared.modules.Modules.TheVariants.{StandardLibrary, Future, Listed, Indexed}
use Rattle.isort_settings.specs.StandardLibrary.{standard_library}

-- the modules of a list, each as its bytes
abbrev pub modules_of : Modules → List (List ℕ)
modules_of StandardLibrary = standard_library
modules_of Future = codes "__future__" ∷ []
modules_of (Listed modules) = map string_bytes modules.items
modules_of (Indexed modules) = modules
