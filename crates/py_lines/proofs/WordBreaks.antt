-- Words hold no line end.
use Rattle.py_lines.proofs.Prelude.{◌≡◌, ℕ, false, List, [], ◌∷◌, refl, ap, ◌∙◌, list_any, or_from}
use Rattle.unicode_ident.proofs.Computing.{unicode_ident}
use Rattle.py_lines.specs.Character.{is_break, is_word_character, is_word_start, is_digit}
use Rattle.py_lines.specs.PieceGrammar.{IsWord}
use Rattle.py_lines.proofs.Text.CharacterTests.{none_of, excluded}
use Rattle.py_lines.proofs.Fields.Prefixes.{none_in}

pub word-unbroken : (text : List ℕ) → IsWord text → list_any is_break text ≡ false
unfolding unicode_ident is_break is_word_character is_word_start is_digit
word-unbroken text (c, cs, is, starts, others) = ap (list_any is_break) is
    ∙ or_from _ _ (excluded is_word_start is_break c (none_of is_word_start (10 ∷ 13 ∷ []) c refl) starts)
    (none_in is_word_character is_break (λ d. none_of is_word_character (10 ∷ 13 ∷ []) d refl) cs others)
