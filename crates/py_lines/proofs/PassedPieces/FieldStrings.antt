-- A short string with fields whose text is simple, after plain bytes that end with its prefix, as the scan would take it.
use Rattle.py_lines.proofs.Prelude.{◌≡◌, ℕ, suc, ◌+◌, ◌<◌, ◌≤◌, Bool, true, false, Option, None, Some, List, ◌∷◌, length, drop, slice_index, refl, sym, ap, ◌∙◌, subst, drop-cons, both_ways, codes, is_backslash, is_quote, StringWithFields, Spelling, Scan, OpenMode, is_plain}
use Rattle.py_lines.specs.declared.mode.Region.TheVariants as regions
use Rattle.py_lines.specs.declared.mode.Mode.TheVariants as opens
use Rattle.py_lines.specs.Private.FieldText.{HasText}
use Rattle.py_lines.specs.Private.Machine.{is_field_spelling, is_raw_spelling}
use Rattle.py_lines.specs.Private.Passing.{TellsFields, tail_of}
use Rattle.py_lines.specs.Private.Scan.{IsTextAt, mode_from, quotes_in}
use Rattle.py_lines.proofs.Machine.Spellings.{field_begins}
use Rattle.py_lines.proofs.FieldScans.PlainCode.{over_code}
use Rattle.py_lines.proofs.FieldScans.Runs.{holds_text}
use Rattle.py_lines.proofs.PassedPieces.Items.{Opened, Over, string_taken, with_prefix}
use Rattle.py_lines.proofs.PassedPieces.PlainBytes.{IsTail, PlainTo}
use Rattle.py_lines.proofs.Text.CharacterTests.{each_of}

-- the prefix of a string with fields
field_word : (o : Option Spelling) → TellsFields o (Some true) → (s : Spelling) × (o ≡ Some s) × (is_field_spelling s ≡ true)
field_word None has = absurd (both_ways _ has refl)
field_word (Some s) (begins, has) = (s, refl, sym has)

-- the text of a short string with fields
module _ (q : ℕ) (raw : Bool) (quote : is_quote q ≡ true) where
  abbrev host : StringWithFields
  host = record { quote = q; is_long = false; is_raw = raw }

  abbrev mode : OpenMode
  mode = opens.Fields host regions.Literal false

  at_quote : IsTextAt (mode_from mode) q false q
  unfolding is_quote is_backslash
  at_quote = each_of (IsTextAt (mode_from mode) q false) (codes "'\"") q ((refl, refl, refl, refl, refl), ((refl, refl, refl, refl, refl), tt)) quote

-- a string with fields, before whose quote its prefix stands
pub field_over : {scan : Scan} {run : List ℕ} (p : PlainTo scan run) (q : ℕ) (special : is_plain q ≡ false) (bytes : List ℕ) (n : ℕ)
    → is_quote q ≡ true → TellsFields (tail_of run) (Some true) → length (over_code scan run).frames ≤ 100
    → Some 1 ≡ quotes_in (q ∷ bytes) → HasText q bytes n → n < length bytes → slice_index bytes n ≡ q
    → Over p q bytes special (1 + (n + 1)) (over_code scan run).frames
field_over {scan} {run} p q special bytes n quote tells few alone text within last =
    let (s, is, prefix) = field_word (tail_of run) tells in let raw = is_raw_spelling s in
    let m : OpenMode = mode q raw quote in let mid : Scan = over_code scan run in
    string_taken p q special quote s mid.start m n bytes (drop (suc n) bytes)
    (with_prefix p q special quote s (subst (λ o. IsTail o mid.mode) is p.tail) (field_begins s prefix)) (rw prefix refl)
    alone refl refl (at_quote q raw quote) (drop-cons bytes n 0 within ∙ ap (λ (c : ℕ). c ∷ drop (suc n) bytes) last)
    (λ t follow. (holds_text (Opened p q special quote m mid.start) (host q raw quote) bytes n refl quote few text t follow).0)
