-- ASCII letters make words.
use Rattle.py_lines.proofs.Prelude.{◌≡◌, ℕ, ◌==◌, Bool, true, ◌||◌, List, [], ◌∷◌, refl, ap, ◌∙◌, arith, is_ascii_alphabetic, list_all, and_parts, and_from, nat_tests}
use Rattle.unicode_ident.proofs.IdentLemmas.{is_xid_start-ascii, is_xid_start-is_xid_continue}
use Rattle.unicode_ident.specs.Ident.{is_xid_start}
use Rattle.py_lines.specs.Character.{is_word_start, is_word_character, is_digit}
use Rattle.py_lines.specs.PieceGrammar.{IsWord}

letter_starts : (c : ℕ) → is_ascii_alphabetic c ≡ true → is_xid_start c ≡ true
letter_starts c h = is_xid_start-ascii c (grind (arith, nat_tests)) ∙ h

continue_word : (cs : List ℕ) → list_all is_ascii_alphabetic cs ≡ true → list_all is_word_character cs ≡ true
unfolding is_word_character
continue_word [] h = refl
continue_word (c ∷ cs) h = let both = and_parts _ _ h in and_from _ _ (is_xid_start-is_xid_continue c (letter_starts c both.0)) (continue_word cs both.1)

pub letters_word : (first : ℕ) (others : List ℕ) → list_all is_ascii_alphabetic (first ∷ others) ≡ true → IsWord (first ∷ others)
unfolding is_word_start
letters_word first others h = let both = and_parts _ _ h in (first, others, refl, ap (λ (b : Bool). b || (first == 95) || is_digit first) (letter_starts first both.0), continue_word others both.1)
