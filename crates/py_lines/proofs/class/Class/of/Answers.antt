use Rattle.py_lines.proofs.Prelude.{◌≡◌, ℕ, zero, suc, ◌+◌, ◌<◌, ◌&&◌, Bool, true, List, [], ◌∷◌, length, slice_index_or, refl, ap, sym, ◌∙◌, arith, and_parts, is_backslash, is_break, is_hash, is_line_feed, is_operator, is_quote, is_return, is_space, is_closing, is_opening, is_ascii_word}
use Rattle.py_lines.specs.declared.class.Class.{Class}
use Rattle.py_lines.specs.declared.class.Class.TheVariants as class
use Rattle.py_lines.specs.declared.class.TheConstants.{CLASSES}
use Rattle.py_lines.specs.Private.Marks.{begins_nothing, is_of_class, is_plain}
use Rattle.py_lines.proofs.class.Class.of.Goals as goal

-- whether each entry of a table is the class of its place, counted from this one
abbrev are_classes : List Class → ℕ → Bool
are_classes [] from = true
are_classes (k ∷ ks) from = is_of_class k from && are_classes ks (from + 1)

tabled : (table : List Class) (from b : ℕ) → are_classes table from ≡ true → b < length table
    → is_of_class (slice_index_or table b class.Word) (from + b) ≡ true
tabled [] from b all less = absurd (omega arith)
tabled (k ∷ ks) from zero all less =
    let here : from + 0 ≡ from = omega arith in
    ap (is_of_class k) here ∙ (and_parts _ _ all).0
tabled (k ∷ ks) from (suc b) all less =
    let next : from + suc b ≡ from + 1 + b = omega arith in
    ap (is_of_class (slice_index_or ks b class.Word)) next ∙ tabled ks (from + 1) b (and_parts _ _ all).1 (omega arith)

pub returns : goal.returns
unfolding is_plain begins_nothing is_space is_operator is_quote is_line_feed is_return is_hash is_backslash is_opening is_closing is_ascii_word is_break
returns c =
    let place : 0 + c.args.byte ≡ c.args.byte = omega arith in
    ap (is_of_class _) (sym place) ∙ tabled CLASSES 0 c.args.byte refl c.ranges.byte.fits
