-- The bytes of a line end.
use Rattle.std.specs.Prelude.{ℕ, List, [], ◌∷◌}
use Rattle.isort_sort.specs.declared.line_end.LineEnd.{LineEnd}
use Rattle.isort_sort.specs.declared.line_end.LineEnd.TheVariants as line_end

abbrev pub end_bytes : LineEnd → List ℕ
end_bytes line_end.LineFeed = 10 ∷ []
end_bytes line_end.ReturnLineFeed = 13 ∷ 10 ∷ []
end_bytes line_end.Return = 13 ∷ []
