-- A word for the code alone, which no public clause names: the place of each class that the code tells apart.
use Rattle.std.specs.Prelude.{ℕ}
use Rattle.isort_settings.specs.declared.order.NameClass.{NameClass}
use Rattle.isort_settings.specs.declared.order.NameClass.TheVariants.{Constant, Class, Other}

-- the place of a class
abbrev pub place_of : NameClass → ℕ
place_of Constant = 0
place_of Class = 1
place_of Other = 2
