-- How many bytes simple text of a string with fields has, as the code counts them.
use Rattle.py_lines.proofs.Prelude.{◌≡◌, ℕ, zero, suc, ◌+◌, ◌-◌, ◌<◌, ◌≤◌, ◌⊎◌, inl, inr, append_assoc, length-append, Bool, true, false, List, [], ◌∷◌, ◌++◌, length, take, slice_index, refl, sym, ap, ◌∙◌, subst, arith, add-one, length-drop, list_all, take_more, take-add, take-append_seam, closing_of, is_quote, begins, rest_of, rest_is}
use Rattle.py_lines.specs.FieldStrings.{begins_open}
use Rattle.py_lines.specs.Private.FieldText.{AtBrace, AtCode, HasCode, HasSimpleCode, HasText, InCode, StandsInCode, AtSpecification, InText, Leads, LeadsBy, is_code_bracket}
use Rattle.py_lines.specs.Private.Run.{BeginsPlainString, IsRunOf, IsWholePlainString, is_ascii_word, is_code_byte, is_literal_byte}
use Rattle.py_lines.proofs.LineScan.AsciiRuns.{all_pass, quote-no_word}
use Rattle.py_lines.proofs.LineScan.PlainStrings.{text_size}
use Rattle.py_lines.proofs.PassedPieces.FirstBytes.{bytes_from, taken_one}
use Rattle.py_lines.proofs.FieldScans.Texts.{Spot, leads_to_code, passing, brace_leads, ends_in_word, string_leads, closing_leads, code_after, codes_lead, field_ends, leads-append, open_leads, opening_leads, specification_begins, specification_ends, specifications_lead, texts_lead}

-- no more than there are
pub rest_within : (bytes : List ℕ) (n m : ℕ) → n ≤ length bytes → m ≤ length (rest_of bytes n) → n + m ≤ length bytes
rest_within bytes n m before within = omega (arith, before, within, length-drop n bytes, ap length (rest_is bytes n))

-- over some bytes and then over others, over one more, and over a run
taken_on : (bytes : List ℕ) (n m : ℕ) → take (n + m) bytes ≡ take n bytes ++ take m (rest_of bytes n)
taken_on bytes n m = take-add n m bytes ∙ ap (λ t. take n bytes ++ take m t) (sym (rest_is bytes n))

joined : {quote : ℕ} {P Q R : Spot} (bytes : List ℕ) (n m : ℕ) → LeadsBy quote P bytes n Q → LeadsBy quote Q (rest_of bytes n) m R
    → LeadsBy quote P bytes (n + m) R
joined {quote} {P} {Q} {R} bytes n m first second = (
  rest_within bytes n m first.0 second.0,
  subst (λ run. Leads quote P run R) (sym (taken_on bytes n m)) (leads-append quote P Q R (take n bytes) (take m (rest_of bytes n)) first.1 second.1),
)

one_more : {quote : ℕ} {P Q R : Spot} (bytes : List ℕ) (n c : ℕ) → LeadsBy quote P bytes n Q → n < length bytes → slice_index bytes n ≡ c
    → Leads quote Q (c ∷ []) R → LeadsBy quote P bytes (n + 1) R
one_more {quote} {P} {Q} {R} bytes n c first within is second = (
  omega (arith, within),
  subst (λ run. Leads quote P run R) (sym (take_more bytes n 0 within ∙ ap (λ (x : ℕ). take n bytes ++ x ∷ []) is))
      (leads-append quote P Q R (take n bytes) (c ∷ []) first.1 second),
)

by_run : {quote : ℕ} {P Q : Spot} (passes : ℕ → Bool) (bytes : List ℕ) (n : ℕ) → ((run : List ℕ) → list_all passes run ≡ true → Leads quote P run Q)
    → IsRunOf passes bytes n → LeadsBy quote P bytes n Q
by_run passes bytes n leads run = (run.within, leads (take n bytes) (all_pass passes bytes n run.within run.each))

-- a word stands last in some bytes and then others where it does in the others
ends-append : (word : Bool) (xs ys : List ℕ) → ends_in_word word (xs ++ ys) ≡ ends_in_word (ends_in_word word xs) ys
ends-append word [] ys = refl
ends-append word (x ∷ xs) ys = ends-append (is_ascii_word x) xs ys

no_word_last : (bytes : List ℕ) (n : ℕ) → n ≤ length bytes → (n ≡ 0) ⊎ (is_ascii_word (slice_index bytes (n - 1)) ≡ false)
    → ends_in_word false (take n bytes) ≡ false
no_word_last bytes zero within apart = refl
no_word_last bytes (suc n) within (inl none) = absurd (omega (arith, none))
no_word_last bytes (suc n) within (inr other) =
    let less : suc n - 1 ≡ n = omega arith in let more : suc n ≡ n + 1 = omega arith in
    ap (λ (k : ℕ). ends_in_word false (take k bytes)) more ∙ ap (ends_in_word false) (take_more bytes n 0 (omega (arith, within)))
    ∙ ends-append false (take n bytes) (slice_index bytes n ∷ []) ∙ ap (λ k. is_ascii_word (slice_index bytes k)) (sym less) ∙ other

-- code with strings, as it is counted
pub record IsCodeCounted (bytes : List ℕ) (n : ℕ) : Type 0 where
  pub code : HasSimpleCode bytes n
  pub leads : (openers : List ℕ) (quote : ℕ) → LeadsBy quote (AtCode openers) bytes n (StandsInCode (passing (ends_in_word false (take n bytes))) openers)

counted : (bytes : List ℕ) (n : ℕ)
    → ((openers : List ℕ) (quote : ℕ) → LeadsBy quote (AtCode openers) bytes n (StandsInCode (passing (ends_in_word false (take n bytes))) openers))
    → IsCodeCounted bytes n
counted bytes n leads = record {
  code = record { within = (leads [] 0).0; leads = λ openers quote. leads_to_code (ends_in_word false (take n bytes)) openers quote (AtCode openers) (take n bytes) (leads openers quote).1 };
  leads = leads;
}

pub code_counted : (bytes : List ℕ) (n : ℕ) → IsRunOf is_code_byte bytes n → IsCodeCounted bytes n
code_counted bytes n run =
    counted bytes n (λ openers quote. (run.within, codes_lead openers quote (take n bytes) (all_pass is_code_byte bytes n run.within run.each)))

-- a string after it, and more code
pub quote_next : (bytes : List ℕ) (n : ℕ) → BeginsPlainString bytes n → begins is_quote (rest_of bytes n) ≡ true
quote_next bytes n next = ap (begins is_quote) (rest_is bytes n ∙ bytes_from bytes n next.within) ∙ next.quote

pub text_within : (bytes : List ℕ) (n m : ℕ) → n ≤ length bytes → IsWholePlainString (rest_of bytes n) m → (0 < m) × (n + m ≤ length bytes)
text_within bytes n m before text = let size = text_size (rest_of bytes n) m text in (size.0, rest_within bytes n m before size.1)

text_taken : (bytes : List ℕ) (m : ℕ) → (is : IsWholePlainString bytes m) → take m bytes ≡ is.q ∷ (is.run ++ is.q ∷ [])
text_taken bytes m is =
    let spelled_so : List ℕ = is.q ∷ (is.run ++ is.q ∷ []) in
    let far : length spelled_so ≡ m = omega (arith, is.size, length-append is.run (is.q ∷ [])) in
    let spell : spelled_so ++ is.after ≡ bytes = ap (λ t. is.q ∷ t) (append_assoc is.run (is.q ∷ []) is.after) ∙ is.spell in
    ap (take m) (sym spell) ∙ ap (λ (k : ℕ). take k (spelled_so ++ is.after)) (sym far) ∙ take-append_seam spelled_so is.after

pub code_counted_on : (bytes : List ℕ) (n m k : ℕ) → IsCodeCounted bytes n → BeginsPlainString bytes n → IsWholePlainString (rest_of bytes n) m
    → IsRunOf is_code_byte (rest_of bytes (n + m)) k → IsCodeCounted bytes (n + m + k)
code_counted_on bytes n m k so_far begins_so text run = counted bytes (n + m + k) (λ openers quote.
    let before = subst (λ b. LeadsBy quote (AtCode openers) bytes n (StandsInCode (passing b) openers)) (no_word_last bytes n so_far.code.within begins_so.apart) (so_far.leads openers quote) in
    let string = subst (λ t. Leads quote (AtCode openers) t (AtCode openers)) (sym (text_taken (rest_of bytes n) m text)) (string_leads openers quote text.q text.run text.quote text.full text.all) in
    let passed = joined bytes n m before ((text_size (rest_of bytes n) m text).1, string) in
    subst (λ b. LeadsBy quote (AtCode openers) bytes (n + m + k) (StandsInCode (passing b) openers)) (sym last)
    (joined bytes (n + m) k passed ((code_counted (rest_of bytes (n + m)) k run).leads openers quote)))
  where
    -- a string ends in its quote
    apart : ends_in_word false (take (n + m) bytes) ≡ false
    apart = ap (ends_in_word false) (taken_on bytes n m ∙ ap (λ t. take n bytes ++ t) (text_taken (rest_of bytes n) m text))
        ∙ ends-append false (take n bytes) (text.q ∷ (text.run ++ text.q ∷ []))
        ∙ ends-append (is_ascii_word text.q) text.run (text.q ∷ []) ∙ quote-no_word text.q text.quote

    last : ends_in_word false (take (n + m + k) bytes) ≡ ends_in_word false (take k (rest_of bytes (n + m)))
    last = ap (ends_in_word false) (taken_on bytes (n + m) k) ∙ ends-append false (take (n + m) bytes) (take k (rest_of bytes (n + m)))
        ∙ ap (λ b. ends_in_word b (take k (rest_of bytes (n + m)))) apart

-- a bracket, what stands within it, the one that closes it, and more code
pub code_begun : (bytes : List ℕ) (n : ℕ) → HasSimpleCode bytes n → HasCode bytes n
code_begun bytes n code = record { within = code.within; leads = code.leads [] }

pub code_on : (bytes : List ℕ) (n m k : ℕ) → HasCode bytes n → n < length bytes → is_code_bracket (slice_index bytes n) ≡ true
    → HasSimpleCode (rest_of bytes (n + 1)) m → n + 1 + m < length bytes → slice_index bytes (n + 1 + m) ≡ closing_of (slice_index bytes n)
    → HasSimpleCode (rest_of bytes (n + 1 + m + 1)) k → HasCode bytes (n + 1 + m + 1 + k)
code_on bytes n m k code within is inside further closes more = record { within = (all 0).0; leads = λ quote. (all quote).1 } where
  all : (quote : ℕ) → LeadsBy quote (AtCode []) bytes (n + 1 + m + 1 + k) (InCode [])
  all quote = let o : ℕ = slice_index bytes n in let opened = one_more bytes n o (code.within, code.leads quote) within refl (opening_leads quote o is) in
      let inner = joined bytes (n + 1) m opened (inside.within, inside.leads (o ∷ []) quote) in
      let closed = one_more bytes (n + 1 + m) _ inner further refl (closing_leads quote o _ is closes) in
      joined bytes (n + 1 + m + 1) k closed (more.within, more.leads [] quote)

-- a field after its `{`: code, perhaps a specification, and the `}`
field_of : (quote : ℕ) (bytes : List ℕ) (n : ℕ) → begins_open bytes ≡ false → LeadsBy quote (AtCode []) bytes (n + 1) InText
    → LeadsBy quote AtBrace bytes (n + 1) InText
field_of quote [] n single code = absurd (omega (arith, code.0))
field_of quote (b ∷ bs) n single code = let is : take (n + 1) (b ∷ bs) ≡ b ∷ take n bs = ap (λ k. take k (b ∷ bs)) (add-one n) in (
  code.0,
  subst (λ run. Leads quote AtBrace run InText) (sym is)
      (code_after quote InText b (take n bs) single (subst (λ run. Leads quote (AtCode []) run InText) is code.1)),
)

pub plain_field : (quote : ℕ) (bytes : List ℕ) (n len : ℕ) → begins_open bytes ≡ false → HasCode bytes n → len ≡ n → len < length bytes
    → slice_index bytes len ≡ 125 → LeadsBy quote AtBrace bytes (len + 1) InText
plain_field quote bytes n len single code is within ends =
    field_of quote bytes len single (one_more bytes len 125 (rw is (code.within, code.leads quote)) within ends (field_ends quote))

pub specified_field : (quote : ℕ) (bytes : List ℕ) (n k len : ℕ) → begins_open bytes ≡ false → HasCode bytes n → n < length bytes
    → slice_index bytes n ≡ 58 → IsRunOf (is_literal_byte quote) (rest_of bytes (n + 1)) k → len ≡ n + (1 + k) → len < length bytes → slice_index bytes len ≡ 125
    → LeadsBy quote AtBrace bytes (len + 1) InText
specified_field quote bytes n k len single code within colon run is further ends =
    let begun = one_more bytes n 58 (code.within, code.leads quote) within colon (specification_begins quote) in
    let text = joined bytes (n + 1) k begun (by_run (is_literal_byte quote) (rest_of bytes (n + 1)) k (specifications_lead quote) run) in
    let all = subst (λ (m : ℕ). LeadsBy quote (AtCode []) bytes m AtSpecification) (omega (arith, is)) text in
    field_of quote bytes len single (one_more bytes len 125 all further ends (specification_ends quote))

-- parts of a string's text
one_part : {quote : ℕ} {Q : Spot} (c : ℕ) (bytes : List ℕ) → 0 < length bytes → slice_index bytes 0 ≡ c → Leads quote InText (c ∷ []) Q
    → LeadsBy quote InText bytes 1 Q
one_part {quote} {Q} c bytes some is leads =
    (omega (arith, some), subst (λ run. Leads quote InText run Q) (sym (taken_one bytes some ∙ ap (λ (x : ℕ). x ∷ []) is)) leads)

pub brace_part : (quote : ℕ) (bytes : List ℕ) → 0 < length bytes → slice_index bytes 0 ≡ 125 → LeadsBy quote InText bytes 1 InText
brace_part quote bytes some is = one_part 125 bytes some is (brace_leads quote)

pub two_part : (quote a b : ℕ) (bytes : List ℕ) → 1 < length bytes → slice_index bytes 0 ≡ a → slice_index bytes 1 ≡ b
    → Leads quote InText (a ∷ b ∷ []) InText → LeadsBy quote InText bytes 2 InText
two_part quote a b bytes some one two leads = grind arith

pub field_part : (quote : ℕ) (bytes : List ℕ) (n : ℕ) → 0 < length bytes → slice_index bytes 0 ≡ 123
    → LeadsBy quote AtBrace (rest_of bytes 1) n InText → LeadsBy quote InText bytes (1 + n) InText
field_part quote bytes n some is field = joined bytes 1 n (one_part 123 bytes some is (open_leads quote)) field

-- a text goes on over a part and the text after it
pub text_begun : (quote : ℕ) (bytes : List ℕ) (n : ℕ) → IsRunOf (is_literal_byte quote) bytes n → HasText quote bytes n
text_begun quote bytes n = by_run (is_literal_byte quote) bytes n (texts_lead quote)

pub text_on : (quote : ℕ) (bytes : List ℕ) (n m k : ℕ) → HasText quote bytes n → HasText quote (rest_of bytes n) m
    → IsRunOf (is_literal_byte quote) (rest_of bytes (n + m)) k → HasText quote bytes (n + m + k)
text_on quote bytes n m k text part run = joined bytes (n + m) k (joined bytes n m text part) (text_begun quote (rest_of bytes (n + m)) k run)
