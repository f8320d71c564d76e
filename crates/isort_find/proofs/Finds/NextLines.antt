-- A text has one next logical line, and a logical line binds one list or is bad.
use Rattle.std.proofs.Common.{◌≡◌, ℕ, Option, None, List, [], ◌∷◌, ◌++◌, length, refl, sym, ap, ◌∙◌, append_assoc, length-append, append-nil, arith}
use Rattle.py_lines.specs.LogicalLine.{LogicalLine}
use Rattle.py_lines.specs.Lexed.{IsLexed, BeginsLexing}
use Rattle.py_lines.specs.Reader.{Reader, standing_at}
use Rattle.py_lines.specs.declared.fault.Fault.{Fault}
use Rattle.py_imports.specs.BindingValue.{BindingValue}
use Rattle.py_imports.specs.Binds.{Binds, BindAll}
use Rattle.isort_find.specs.Private.KnownLaws.{BasicLaws}

-- a reader without a fault is one that stands where it stands
pub reader_is : (r : Reader) → r.fault ≡ None → r ≡ standing_at r.text r.place r.line
reader_is r h = ap (λ (x : Option Fault). record { text = r.text; place = r.place; line = r.line; fault = x }) h

cancel : {A : Type 0} (xs ys zs : List A) → xs ++ ys ≡ xs ++ zs → ys ≡ zs
cancel [] ys zs h = h
cancel (x ∷ xs) ys zs h = cancel xs ys zs (let e : xs ++ ys ≡ xs ++ zs = cc in e)

-- a text has one logical line after the same ones
pub same_begun : BasicLaws → (text : List ℕ) (lines : List LogicalLine) (a b : LogicalLine) → BeginsLexing text (lines ++ a ∷ []) → BeginsLexing text (lines ++ b ∷ []) → a ≡ b
same_begun one text lines a b f g =
    let lists = one.one_lexing text _ _ f.end g.end f.lexed g.lexed in
    let after : a ∷ f.more ≡ b ∷ g.more = cancel lines _ _ (sym (append_assoc lines (a ∷ []) f.more) ∙ lists ∙ append_assoc lines (b ∷ []) g.more) in
    cc

-- and none after all of them
pub none_begun : BasicLaws → (text : List ℕ) (lines : List LogicalLine) (end : Option Fault) (a : LogicalLine) → IsLexed text lines end → BeginsLexing text (lines ++ a ∷ []) → ⊥
none_begun one text lines end a lexed f =
    let lists = one.one_lexing text lines _ end f.end lexed f.lexed in
    let len = ap length lists in
    absurd (omega (arith, len, length-append (lines ++ a ∷ []) f.more, length-append lines (a ∷ [])))

-- one more logical line binds
pub BindAll-one_more : (lines : List LogicalLine) (line : LogicalLine) (bs more : List BindingValue) → BindAll lines bs → Binds line more → BindAll (lines ++ line ∷ []) (bs ++ more)
BindAll-one_more [] line bs more h b = (more, [], ap (λ x. x ++ more) h ∙ sym (append-nil more), b, refl)
BindAll-one_more (l ∷ ls) line bs more h b = (h.0, h.1 ++ more, ap (λ x. x ++ more) h.2 ∙ append_assoc h.0 h.1 more, h.3, BindAll-one_more ls line h.1 more h.4 b)
