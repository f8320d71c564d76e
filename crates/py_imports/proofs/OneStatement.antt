-- A logical line without `;` and `:` is one statement.
use Rattle.std.proofs.Common.{◌≡◌, ℕ, ◌==◌, Bool, true, false, cond, not, ◌&&◌, List, [], ◌∷◌, ◌++◌, ◌+◌, suc, take, arith, map, refl, sym, ap, ◌∙◌, subst, append-nil}
use Rattle.std.specs.Prelude.{filter, nat_lt, take_while}
use Rattle.std.specs.List.{list_any, prefix_len}
use Rattle.std.proofs.lemmas.Bool.{or_parts}
use Rattle.py_lines.specs.LogicalLine.{LogicalLine}
use Rattle.py_lines.specs.declared.token.Token.{Token}
use Rattle.py_imports.specs.BindingValue.{binding_at}
use Rattle.py_imports.specs.Binds.{Binds, BindEach, BindsAt, imports, values_at, terminals_at, terminal_in}
use Rattle.py_imports.specs.Grammar.{Terminal, Imported, IsImport, begins_import}
use Rattle.py_imports.specs.Shape.{terminals_of}
use Rattle.py_imports.specs.Statement.{is_semicolon, is_colon_token, is_divider, depth_past, ends_in_divider, may_start_after, TokenPlace, places_from, starts, is_end, statement_at, significant}

no_divider_last : (d : ℕ) (t : Token) (ts : List Token) → list_any (λ u. is_divider u.kind) (t ∷ ts) ≡ false → ends_in_divider d (t ∷ ts) ≡ false
no_divider_last d t [] h = ap (λ b. b && (d == 0)) (or_parts (is_divider t.kind) false h).0
no_divider_last d t (u ∷ ts) h = no_divider_last (depth_past d t.kind) u ts (or_parts (is_divider t.kind) (list_any (λ w. is_divider w.kind) (u ∷ ts)) h).1

any_push : (t : Token) (bs : List Token) → list_any (λ u. is_divider u.kind) bs ≡ false → is_divider t.kind ≡ false → list_any (λ u. is_divider u.kind) (bs ++ t ∷ []) ≡ false
any_push t [] h k = rw k
any_push t (b ∷ bs) h k = let parts = or_parts (is_divider b.kind) (list_any (λ u. is_divider u.kind) bs) h in rw (parts.0, any_push t bs parts.1 k)

no_more : (b : Token) (bs ts : List Token) → list_any (λ u. is_divider u.kind) (b ∷ bs) ≡ false → list_any (λ u. is_divider u.kind) ts ≡ false → filter (λ p. may_start_after p.before) (places_from (b ∷ bs) ts) ≡ []
no_more b bs [] h k = refl
no_more b bs (t ∷ ts) h k =
    let parts = or_parts (is_divider t.kind) (list_any (λ u. is_divider u.kind) ts) k in
    ap (λ (x : Bool). cond x (record { before = b ∷ bs; token = t; after = ts } ∷ filter (λ p. may_start_after p.before) (places_from (b ∷ bs ++ t ∷ []) ts)) (filter (λ p. may_start_after p.before) (places_from (b ∷ bs ++ t ∷ []) ts))) (no_divider_last 0 b bs h)
    ∙ no_more b (bs ++ t ∷ []) ts (any_push t (b ∷ bs) h parts.0) parts.1

one_start : (t : Token) (ts : List Token) → list_any (λ u. is_divider u.kind) (t ∷ ts) ≡ false → starts (t ∷ ts) ≡ record { before = []; token = t; after = ts } ∷ []
one_start t ts h =
    let parts = or_parts (is_divider t.kind) (list_any (λ u. is_divider u.kind) ts) h in
    ap (λ ps. record { before = []; token = t; after = ts } ∷ ps) (no_more t [] ts (rw parts.0) parts.1)

tokens_again : (b ts : List Token) → map (λ p. p.token) (places_from b ts) ≡ ts
tokens_again b [] = refl
tokens_again b (t ∷ ts) = ap (λ l. t ∷ l) (tokens_again (b ++ t ∷ []) ts)

no_end_in : (before ts : List Token) → list_any (λ t. is_divider t.kind) ts ≡ false → list_any is_end (places_from before ts) ≡ false
no_end_in before [] h = refl
no_end_in before (t ∷ ts) h =
    let parts = or_parts (is_divider t.kind) (list_any (λ u. is_divider u.kind) ts) h in
    rw ((or_parts (is_semicolon t.kind) (is_colon_token t.kind) parts.0).0, no_end_in (before ++ t ∷ []) ts parts.1)

all_taken : (ps : List TokenPlace) → list_any is_end ps ≡ false → take_while (λ q. not (is_end q)) ps ≡ ps
all_taken [] h = refl
all_taken (p ∷ ps) h =
    let parts = or_parts (is_end p) (list_any is_end ps) h in
    let e : 1 + prefix_len (λ q. not (is_end q)) ps ≡ suc (prefix_len (λ q. not (is_end q)) ps) = omega arith in
    ap (λ (b : Bool). take (cond (not b) (1 + prefix_len (λ q. not (is_end q)) ps) 0) (p ∷ ps)) parts.0 ∙ ap (λ (n : ℕ). take n (p ∷ ps)) e ∙ ap (λ l. p ∷ l) (all_taken ps parts.1)

-- a statement has all tokens where no `;` stands outside brackets
pub undivided_statement : (t : Token) (ts : List Token) → list_any is_end (places_from [] (t ∷ ts)) ≡ false → statement_at (record { before = []; token = t; after = ts }) ≡ t ∷ ts
undivided_statement t ts h = ap (map (λ p. p.token)) (all_taken (places_from [] (t ∷ ts)) h) ∙ tokens_again [] (t ∷ ts)

whole_statement : (t : Token) (ts : List Token) → list_any (λ u. is_divider u.kind) (t ∷ ts) ≡ false → statement_at (record { before = []; token = t; after = ts }) ≡ t ∷ ts
whole_statement t ts h = undivided_statement t ts (no_end_in [] (t ∷ ts) h)

-- what the one statement of a line imports, the line binds
pub binds_its_imports : (line : LogicalLine) (t : Token) (ts : List Token) (is : List Imported) → significant line.tokens ≡ t ∷ ts → list_any (λ u. is_divider u.kind) (t ∷ ts) ≡ false → begins_import (terminals_of line) ≡ true → IsImport (terminals_of line) is → Binds line (map (binding_at t.line (nat_lt 0 line.indent)) is)
binds_its_imports line t ts is tokens dividers begins imported =
    let p : TokenPlace = record { before = []; token = t; after = ts } in
    let same : terminals_of line ≡ terminals_at line p = ap (map (terminal_in line.text)) (tokens ∙ sym (whole_statement t ts dividers)) in
    let at : BindsAt line p (values_at line p is) = imports line p (values_at line p is) is (sym (ap begins_import same) ∙ begins) (subst (λ (x : List Terminal). IsImport x is) same imported) refl in
    subst (λ (ps : List TokenPlace). BindEach line ps (values_at line p is)) (sym (ap starts tokens ∙ one_start t ts dividers))
    (values_at line p is, [], sym (append-nil (values_at line p is)), at, refl)
