-- What the getters of the matches read, by the rows.
use Rattle.std.proofs.Common.{◌≡◌, ◌∙◌, ◌^◌, ◌&&◌, ℕ, Bool, true, false, ap, sym, refl, Option, Some, None, Result, Ok, Err, List, [], ◌∷◌, length, lt-ltb, ltb-true, map, nat_lt, unwrap_or, Bor}
use Rattle.std.specs.Prelude.{option_map, option_and_then}
use Rattle.std.specs.Char.{digit_value}
use Rattle.std.specs.List.{find, list_all}
use Rattle.std.specs.Option.{IsSomeAnd}
use Rattle.std.specs.Str.{bytes_eq}
use Rattle.std.specs.Str.Parse.{AllDigits, ParsesUnsigned, digits_value, without_leading_plus}
use Rattle.clap.specs.Facts.{Entry}
use Rattle.clap.specs.Matches.{ReadsOne, first_value, matched_of, one_text, raw_values}
use Rattle.clap.specs.Walk.{Text, all_of, first_of, row_of, rows_of}
use Rattle.clap.specs.declared.parser.matches.Found.{Found}
use Rattle.clap.proofs.WalkLemmas.{both, find_row, first_value-rows, one_text-rows, raw_values-rows}
use Rattle.isort_cmd.specs.Choice.{number_in, option_number}

pub is_that_value : {X : Type 0} (o : Option X) (v : X) → IsSomeAnd o (λ r. r ≡ v) → o ≡ Some v
is_that_value None v h = absurd h
is_that_value (Some r) v h = ap Some h

source_at : (o : Option Entry) → option_and_then (λ a. a.source) (option_map (λ e. e.1) o) ≡ option_and_then (λ r. r.source) (option_map row_of o)
source_at None = refl
source_at (Some e) = refl

-- where the values of an option came from
pub source_found : (f : Found) (id : Text) → option_and_then (λ a. a.source) (matched_of f id) ≡ option_and_then (λ r. r.source) (find (λ r. bytes_eq r.id id) (rows_of f))
source_found f id = source_at (find (λ e. bytes_eq e.0.now id) f.entries.items) ∙ ap (option_and_then (λ r. r.source)) (sym (find_row f.entries.items id))

-- the text that `get_str` reads
pub first_found : (f : Found) (id : Text) → first_value f id ≡ first_of id (rows_of f)
first_found f id = first_value-rows f id

-- the texts that `get_raw` reads
pub all_values_found : (f : Found) (id : Text) → option_map raw_values (matched_of f id) ≡ all_of id (rows_of f)
all_values_found f id = raw_values-rows f id

-- the texts of an option that was given, or none
pub texts_or_none : (o : Option (Bor (List (Bor (List ℕ))))) (none : Bor (List (Bor (List ℕ)))) → none.now ≡ []
    → map (λ v. v.now) (unwrap_or o none).now ≡ unwrap_or (option_map (λ s. map (λ v. v.now) s.now) o) []
texts_or_none None none e = rw e refl
texts_or_none (Some texts) none e = refl

digits_pass : (ds : List ℕ) → AllDigits 10 ds → list_all (λ d. nat_lt (digit_value d) 10) ds ≡ true
digits_pass [] h = refl
digits_pass (d ∷ ds) h = rw (lt-ltb (digit_value d) 10 h.0) (digits_pass ds h.1)

digits_from : (ds : List ℕ) → list_all (λ d. nat_lt (digit_value d) 10) ds ≡ true → AllDigits 10 ds
digits_from [] e = tt
digits_from (d ∷ ds) e =
    let parts = both _ _ e in
    (ltb-true _ _ parts.0, digits_from ds parts.1)

-- the digits are those of a number below 2^32
abbrev is_number : List ℕ → Bool
is_number ds = nat_lt 0 (length ds) && list_all (λ d. nat_lt (digit_value d) 10) ds && nat_lt (digits_value 10 ds) (2 ^ 32)

number_ok : (E : Type 0) (text : Text) (n : ℕ) → ParsesUnsigned {E = E} 32 10 text (Ok n) → Some n ≡ number_in text
number_ok E text n h =
    let ds = without_leading_plus text in
    rw (lt-ltb 0 (length ds) h.0.0.0, digits_pass ds h.0.0.1, lt-ltb (digits_value 10 ds) (2 ^ 32) h.0.1) (ap Some h.1)

number_err : (E : Type 0) (text : Text) (e : E) → ParsesUnsigned {E = E} 32 10 text (Err e) → None ≡ number_in text
number_err E text e h = go (is_number (without_leading_plus text)) refl
  where
    go : (b : Bool) → is_number (without_leading_plus text) ≡ b → None ≡ number_in text
    go false t = rw t refl
    go true t =
        let outer = both _ _ t in
        let inner = both _ _ outer.0 in
        absurd (h ((ltb-true _ _ inner.0, digits_from (without_leading_plus text) inner.1), ltb-true _ _ outer.1))

number_read : (E : Type 0) (text : Text) (gives : Text → Result ℕ E → Type 0) → ((r : Result ℕ E) → gives text r → ParsesUnsigned 32 10 text r)
    → (o : Option ℕ) → ReadsOne gives text o → o ≡ number_in text
number_read E text gives says (Some n) h = number_ok E text n (says (Ok n) h)
number_read E text gives says None h = number_err E text h.0 (says (Err h.0) h.1)

-- the number that `get_one` reads
pub number_found : (E : Type 0) (f : Found) (id : Text) (gives : Text → Result ℕ E → Type 0) → ((text : Text) (r : Result ℕ E) → gives text r → ParsesUnsigned 32 10 text r)
    → (o : Option ℕ) → (one_text f id ≡ None → o ≡ None) → ((text : Text) → one_text f id ≡ Some text → ReadsOne gives text o)
    → o ≡ option_number id (rows_of f)
number_found E f id gives says o none some = go (one_text f id) refl ∙ ap (option_and_then number_in) (one_text-rows f id)
  where
    go : (t : Option Text) → one_text f id ≡ t → o ≡ option_and_then number_in (one_text f id)
    go None e = none e ∙ ap (option_and_then number_in) (sym e)
    go (Some text) e = number_read E text gives (says text) o (some text e) ∙ ap (option_and_then number_in) (sym e)
