-- Strings between single quotes that bytes hold whole, and their text: of ASCII.
use Rattle.py_lines.proofs.Prelude.{◌≡◌, ℕ, suc, ◌+◌, ◌-◌, ◌<◌, ◌≤◌, true, List, [], ◌∷◌, ◌++◌, length, take, drop, slice_index, refl, sym, ap, ◌∙◌, subst, arith, length-append, take_all, list_all, and_from, and_parts, nat_tests, list_all-append, length-take-le, take-append-drop, drop-cons, begins}
use Rattle.py_lines.specs.Character.{is_backslash, is_barred, is_break, is_quote}
use Rattle.py_lines.specs.PieceGrammar.{is_short_item}
use Rattle.py_lines.specs.Private.Run.{IsRunOf, IsShortText, is_body_byte, is_line_byte, is_text_byte, IsWholePlainString}
use Rattle.py_lines.proofs.LineScan.AsciiRuns.{all_pass, full_take}
use Rattle.py_lines.proofs.Pieces.PieceLists.{joined-append}

pub text_whole : (bytes : List ℕ) (n : ℕ) → begins is_quote bytes ≡ true
    → IsRunOf (is_text_byte (slice_index bytes 0)) (take (length bytes - 1) (drop 1 bytes)) n
    → 0 < n → 1 + n < length bytes → slice_index bytes (1 + n) ≡ slice_index bytes 0 → IsWholePlainString bytes (1 + n + 1)
text_whole [] n begins_so run some within closing = absurd (omega (arith, within))
text_whole (q ∷ body) n begins_so run some within closing =
    let own : IsRunOf (is_text_byte q) body n = subst (λ (t : List ℕ). IsRunOf (is_text_byte q) t n) (take_all _ body (omega arith)) run in
    let further : n < length body = omega (arith, within) in let last : suc n ≡ 1 + n = omega arith in
    record {
      q = q;
      run = take n body;
      after = drop (suc n) body;
      spell = ap (λ (c : ℕ). q ∷ (take n body ++ c ∷ drop (suc n) body)) (sym closing ∙ ap (slice_index (q ∷ body)) (sym last))
          ∙ ap (λ t. q ∷ t) (ap (λ t. take n body ++ t) (sym (drop-cons body n 0 further)) ∙ take-append-drop n body);
      size = omega (arith, length-take-le n body own.within);
      quote = begins_so;
      full = full_take body n some further;
      all = all_pass (is_text_byte q) body n own.within own.each;
    }

-- its length
pub text_size : (bytes : List ℕ) (len : ℕ) → IsWholePlainString bytes len → (0 < len) × (len ≤ length bytes)
text_size bytes len is = (omega (arith, is.size), omega (arith, is.size, ap length is.spell, length-append is.run (is.q ∷ is.after)))

-- text of such a string: none, a byte, and more of it
module _ (q : ℕ) where
  pub text_none : IsShortText q []
  text_none = record { items = []; spell = refl; each = refl; inside = refl }

  pub text_one : (c : ℕ) → is_text_byte q c ≡ true → IsShortText q (c ∷ [])
  unfolding is_body_byte is_backslash is_barred is_break
  text_one c h = record { items = (c ∷ []) ∷ []; spell = refl; each = grind (arith, nat_tests); inside = grind (arith, nat_tests) }

  pub text_on : (xs ys : List ℕ) → IsShortText q xs → IsShortText q ys → IsShortText q (xs ++ ys)
  text_on xs ys first second = record {
    items = first.items ++ second.items;
    spell = joined-append first.items second.items ∙ (λ i. first.spell i ++ second.spell i);
    each = list_all-append (is_short_item q) first.items second.items ∙ and_from _ _ first.each second.each;
    inside = list_all-append is_line_byte xs ys ∙ and_from _ _ first.inside second.inside;
  }

  pub text_run : (cs : List ℕ) → list_all (is_text_byte q) cs ≡ true → IsShortText q cs
  text_run [] all = text_none
  text_run (c ∷ cs) all =
      let parts = and_parts (is_text_byte q c) (list_all (is_text_byte q) cs) all in text_on (c ∷ []) cs (text_one c parts.0) (text_run cs parts.1)
