-- After more logical lines, which bind nothing, the same was found.
use Rattle.std.proofs.Common.{◌≡◌, ℕ, false, not, ◌&&◌, List, [], ◌∷◌, ◌++◌, inl, refl, sym, ap, ◌∙◌, append-nil}
use Rattle.std.proofs.lemmas.List.{nil_from_length}
use Rattle.std.proofs.lemmas.List.Folds.{list_all-append}
use Rattle.py_lines.specs.Given.{AreFirstLines}
use Rattle.py_lines.specs.LogicalLine.{LogicalLine}
use Rattle.py_imports.specs.BindingValue.{BindingValue}
use Rattle.py_imports.specs.Binds.{BindAll}
use Rattle.py_imports.specs.Declaration.{is_declaration}
use Rattle.isort_find.specs.Found.{firsts, ends_top}
use Rattle.isort_find.specs.Cursor.{IsAfter}
use Rattle.isort_find.specs.declared.options.FindOptions.{FindOptions}
use Rattle.isort_find.proofs.Finds.Beginnings.{BindAll-append}
use Rattle.isort_find.proofs.Finds.CountedLines.{AllCount}

-- without a top that ends, each line counts
pub counts_all : (options : FindOptions) (lines : List LogicalLine) → options.top_only ≡ false → AllCount options lines
counts_all options [] counts = refl
counts_all options (l ∷ ls) counts = (λ i. not (counts i && is_declaration l) && counts_all options ls counts i)

unfoldable pub after_passed : (text : List ℕ) (options : FindOptions) (place row skip : ℕ) (values : List BindingValue) (after : IsAfter text options place row skip values) → skip ≡ 0 → options.top_only ≡ false → (lines : List LogicalLine) → BindAll lines [] → (stop line : ℕ) → AreFirstLines text stop line (after.lines ++ lines) → IsAfter text options stop line skip values
after_passed text options place row skip values after fresh counts lines binds stop line first =
    let none : after.part ≡ [] = nil_from_length after.part (sym after.is_part.0 ∙ fresh) in
    record {
      lines = after.lines ++ lines;
      before = after.before ++ [];
      part = [];
      given = record { first = first; no_fault = refl };
      binds = BindAll-append after.lines lines after.before [] after.binds binds;
      in_top = list_all-append (λ l. not (ends_top options l)) after.lines lines ∙ (λ i. after.in_top i && counts_all options lines counts i);
      is_part = (fresh, inl refl);
      found = after.found ∙ ap (firsts options.unique []) (ap (λ x. after.before ++ x) none ∙ sym (append-nil (after.before ++ [])));
    }
