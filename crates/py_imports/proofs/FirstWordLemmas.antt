-- A logical line without a token that is spelled as the first word of an import statement binds nothing.
use Rattle.std.proofs.Common.{◌≡◌, ℕ, Bool, true, false, ◌||◌, Option, None, Some, List, [], ◌∷◌, ◌++◌, filter, codes, ◌==◌, if◌then◌else◌, refl, sym, ap, ◌∙◌}
use Rattle.std.specs.List.{list_any}
use Rattle.std.specs.Option.{is_some}
use Rattle.std.specs.Str.{byte, bytes_eq}
use Rattle.py_lines.specs.LogicalLine.{LogicalLine}
use Rattle.py_lines.specs.declared.token.TokKind.{TokKind}
use Rattle.py_lines.specs.declared.token.TokKind.TheVariants as kind
use Rattle.py_lines.specs.declared.token.Token.{Token}
use Rattle.py_imports.specs.Statement.{is_comment, significant, may_start_after, TokenPlace, places_from}
use Rattle.py_imports.specs.Grammar.{Terminal, import_word, from_word, as_word, name, dot, comma, star, opening, closing, other, terminal_of, terminal_of_operator, begins_import, is_keyword}
use Rattle.py_imports.specs.Binds.{terminal_in, nothing, BindEach, Binds}
use Rattle.py_imports.specs.Private.Bindings.{is_first_word}
use Rattle.py_imports.specs.Private.Items.{BeginsForm}
use Rattle.py_imports.specs.declared.items.Form.{Form}
use Rattle.py_imports.specs.declared.items.Form.TheVariants as form
use Rattle.py_imports.proofs.StatementLemmas.{no_import}

-- the first terminal says whether a statement is an import statement
pub begins_by_first : (x : Terminal) (ts us : List Terminal) → begins_import (x ∷ ts) ≡ begins_import (x ∷ us)
begins_by_first import_word ts us = refl
begins_by_first from_word ts us = refl
begins_by_first as_word ts us = refl
begins_by_first (name w) ts us = refl
begins_by_first dot ts us = refl
begins_by_first comma ts us = refl
begins_by_first star ts us = refl
begins_by_first opening ts us = refl
begins_by_first closing ts us = refl
begins_by_first other ts us = refl

-- whether a token begins an import statement, by the statement that was found
pub found_word : (kind : TokKind) (word : List ℕ) (form : Option Form) (found : Bool) → found ≡ is_some form → BeginsForm (terminal_of kind word) form → found ≡ begins_import (terminal_of kind word ∷ [])
found_word kind word None found e h = e ∙ sym (h [])
found_word kind word (Some form.Import) found e h = e ∙ sym (ap begins_import (h []))
found_word kind word (Some form.From) found e h = e ∙ sym (ap begins_import (h []))

-- neither of two terminals begins an import statement
neither_begins : (b : Bool) (x y : Terminal) → begins_import (x ∷ []) ≡ false → begins_import (y ∷ []) ≡ false → begins_import ((if b then x else y) ∷ []) ≡ false
neither_begins true x y e f = e
neither_begins false x y e f = f

-- an operator begins none
pub operator_begins_none : (c : ℕ) → begins_import (terminal_of_operator c ∷ []) ≡ false
operator_begins_none c = neither_begins (c == byte ".") _ _ refl (neither_begins (c == byte ",") _ _ refl (neither_begins (c == byte "*") _ _ refl (neither_begins (c == byte "(") _ _ refl (neither_begins (c == byte ")") _ _ refl refl))))

-- a token that is spelled as neither word begins none
pub other_word : (kind : TokKind) (word : List ℕ) → bytes_eq word (codes "import") ≡ false → bytes_eq word (codes "from") ≡ false → begins_import (terminal_of kind word ∷ []) ≡ false
other_word kind.Name word e f = rw (e, f) (neither_begins (bytes_eq word (codes "as")) _ _ refl (neither_begins (is_keyword word) _ _ refl refl))
other_word (kind.Op c) word e f = operator_begins_none c
other_word kind.Number word e f = refl
other_word kind.Str word e f = refl
other_word kind.Remark word e f = refl

pub first_fails : (a b : Bool) → a || b ≡ false → a ≡ false
first_fails true b e = absurd cc
first_fails false b e = refl

pub second_fails : (a b : Bool) → a || b ≡ false → b ≡ false
second_fails true b e = absurd cc
second_fails false b e = e

-- what no token is, no token is that is no comment
none_significant : (test : Token → Bool) (ts : List Token) → list_any test ts ≡ false → list_any test (significant ts) ≡ false
none_significant test [] e = refl
none_significant test (t ∷ ts) e = by_kind (none_significant test ts (second_fails (test t) (list_any test ts) e)) (is_comment t.kind) refl
  where
    by_kind : list_any test (significant ts) ≡ false → (b : Bool) → is_comment t.kind ≡ b → list_any test (significant (t ∷ ts)) ≡ false
    by_kind later true c = rw c later
    by_kind later false c = rw (c, first_fails (test t) (list_any test ts) e) later

-- no statement that starts at one of these tokens binds anything
none_from : (line : LogicalLine) (before ts : List Token) → list_any (is_first_word line.text) ts ≡ false → BindEach line (filter (λ p. may_start_after p.before) (places_from before ts)) []
none_from line before [] e = refl
none_from line before (t ∷ ts) e = by_start (none_from line (before ++ t ∷ []) ts (second_fails (is_first_word line.text t) (list_any (is_first_word line.text) ts) e)) (may_start_after before) refl
  where
    here : TokenPlace
    here = record { before = before; token = t; after = ts }

    begins_no_import : (us : List Terminal) → begins_import (terminal_in line.text t ∷ us) ≡ false
    begins_no_import us = begins_by_first (terminal_in line.text t) us [] ∙ first_fails (is_first_word line.text t) (list_any (is_first_word line.text) ts) e

    by_start : BindEach line (filter (λ p. may_start_after p.before) (places_from (before ++ t ∷ []) ts)) [] → (b : Bool) → may_start_after before ≡ b → BindEach line (filter (λ p. may_start_after p.before) (places_from before (t ∷ ts))) []
    by_start later true s = rw s ([], [], refl, nothing line here [] (no_import line here begins_no_import) refl, later)
    by_start later false s = rw s later

pub binds_no_word : (line : LogicalLine) → list_any (is_first_word line.text) line.tokens ≡ false → Binds line []
binds_no_word line e = none_from line [] (significant line.tokens) (none_significant (is_first_word line.text) line.tokens e)
