-- What the program reads of one import statement is the grammar's.
use Rattle.std.proofs.Common.{◌≡◌, ℕ, ◌+◌, ◌-◌, ◌<◌, Bool, true, false, ◌==◌, ◌&&◌, None, Some, List, [], ◌∷◌, ◌++◌, length, map, take, drop, get_or, slice_get, slice_range, nat_lt, refl, sym, ap, ◌∙◌, subst}
use Rattle.std.proofs.lemmas.List.{append-nil}
use Rattle.std.proofs.lemmas.Option.{slice_get-get_or}
use Rattle.py_lines.specs.LogicalLine.{LogicalLine}
use Rattle.py_lines.specs.declared.fault.Fault.{Fault}
use Rattle.py_lines.specs.declared.fault.FaultKind.TheVariants.{BadImport}
use Rattle.py_lines.specs.declared.token.Token.{Token}
use Rattle.py_lines.specs.declared.token.TokKind.TheVariants as kind
use Rattle.py_imports.specs.Grammar.{Terminal, terminal_of, import_word, from_word, begins_import, modules, spelling, IsRelativeModule, Item, AreItems, AreNames, whole_module, attribute_of, Imported, IsImport, import_statement, from_statement}
use Rattle.py_imports.specs.Statement.{significant, is_semicolon, depth_past, TokenPlace}
use Rattle.py_imports.specs.Private.Parsing.{up_to_semicolon}
use Rattle.py_imports.proofs.EndLemmas.{statement_is}
use Rattle.py_imports.specs.BindingValue.{binding_value, binding_at}
use Rattle.py_imports.specs.Binds.{terminal_in, terminals_at, nothing, imports, IsBadStart}
use Rattle.py_imports.specs.Private.Parsing.{ReadText, at_relative}
use Rattle.py_imports.specs.Private.Items.{with_first_word, AreSameLists}
use Rattle.py_imports.specs.Private.Bindings.{BindsOne, BindsMore, IsPlaceAt, RefusesItems, RefusesAt}
use Rattle.py_imports.specs.declared.binding.Binding.{Binding}
use Rattle.py_imports.specs.declared.bindings.Head.{Head}
use Rattle.py_imports.specs.declared.error.ImportError.{ImportError}
use Rattle.py_imports.specs.declared.error.ImportError.TheVariants as error
use Rattle.py_imports.specs.declared.items.Form.{Form}
use Rattle.py_imports.specs.declared.items.Form.TheVariants as form
use Rattle.py_imports.proofs.ModuleLemmas.{at_relative-sound, at_relative-whole}

-- what an import statement is, by its first word
abbrev pub ImportsBy : List Terminal → List Imported → Type 0
ImportsBy (import_word ∷ rest) is = (items : List Item) × AreItems modules rest items × (is ≡ map whole_module items)
ImportsBy (from_word ∷ rest) is = (from : List Terminal) × (later : List Terminal) × (items : List Item) × (rest ≡ from ++ import_word ∷ later) × IsRelativeModule from × AreNames later items × (is ≡ map (attribute_of (spelling from)) items)
ImportsBy _ is = ⊥

pub import_reads : (ts : List Terminal) (is : List Imported) → IsImport ts is → ImportsBy ts is
import_reads ts is (import_statement rest items a) = (items, a, refl)
import_reads ts is (from_statement t from rest items e m a) = subst (λ x. ImportsBy x (map (attribute_of (spelling from)) items)) (sym e) (from, rest, items, refl, m, a, refl)

-- a relative module and the word `import` are read in one way
pub one_from : (from other rest later : List Terminal) → IsRelativeModule from → IsRelativeModule other → from ++ import_word ∷ rest ≡ other ++ import_word ∷ later → (spelling from ≡ spelling other) × (rest ≡ later)
one_from from other rest later m n e =
    let a = at_relative-whole from m rest in
    let b = at_relative-whole other n later in
    let c = sym a ∙ ap (at_relative false) e ∙ b in
    same (record { spelled = spelling from; rest = rest }) (record { spelled = spelling other; rest = later }) c
  where
    same : (x y : ReadText) → Some x ≡ Some y → (x.spelled ≡ y.spelled) × (x.rest ≡ y.rest)
    same x y f = let g : x ≡ y = cc in (ap (λ r. r.spelled) g, ap (λ r. r.rest) g)

pub import_bad : (rest : List Terminal) → ((items : List Item) → ¬ (AreItems modules rest items)) → (is : List Imported) → ¬ (IsImport (import_word ∷ rest) is)
import_bad rest bad is i = let r = import_reads (import_word ∷ rest) is i in bad r.0 r.1

pub from_bad : (before later : List Terminal) (written : List ℕ) → at_relative false before ≡ Some (record { spelled = written; rest = later }) → ((items : List Item) → ¬ (AreNames later items)) → (is : List Imported) → ¬ (IsImport (from_word ∷ before) is)
from_bad before later written e bad is i =
    let r = import_reads (from_word ∷ before) is i in
    let off = at_relative-sound before (record { spelled = written; rest = later }) e in
    let one = one_from r.0 off.from r.1 later r.4 off.is (sym r.3 ∙ off.split) in
    bad r.2 (subst (λ x. AreNames x r.2) one.1 r.5)

-- no relative module with the word `import` after it
pub from_none : (before : List Terminal) → at_relative false before ≡ None → (is : List Imported) → ¬ (IsImport (from_word ∷ before) is)
from_none before e is i =
    let r = import_reads (from_word ∷ before) is i in
    let f : None ≡ Some (record { spelled = spelling r.0; rest = r.1 }) = sym e ∙ ap (at_relative false) r.3 ∙ at_relative-whole r.0 r.4 r.1 in
    none_some (record { spelled = spelling r.0; rest = r.1 }) f
  where
    none_some : (x : ReadText) → None ≡ Some x → ⊥
    none_some x f = cc

-- a word begins its statement
up_to_semicolon-name : (t : Token) (ts : List Token) → is_semicolon t.kind ≡ false → depth_past 0 t.kind ≡ 0 → up_to_semicolon 0 (t ∷ ts) ≡ t ∷ up_to_semicolon 0 ts
up_to_semicolon-name t ts e d = rw (e, d) refl

-- no import statement starts with this token
pub no_import : (line : LogicalLine) (p : TokenPlace) → ((ts : List Terminal) → begins_import (terminal_in line.text p.token ∷ ts) ≡ false) → begins_import (terminals_at line p) ≡ false
no_import line p h = ap (λ ts. begins_import (map (terminal_in line.text) ts)) (statement_is p) ∙ by_end (is_semicolon p.token.kind && (0 == 0)) refl
  where
    by_end : (b : Bool) → (is_semicolon p.token.kind && (0 == 0)) ≡ b → begins_import (map (terminal_in line.text) (up_to_semicolon 0 (p.token ∷ p.after))) ≡ false
    by_end true e = rw e refl
    by_end false e = rw e (h (map (terminal_in line.text) (up_to_semicolon (depth_past 0 p.token.kind) p.after)))

-- a token that begins no import statement binds nothing
pub binds_none : (line : LogicalLine) (p : TokenPlace) (old : List Binding) → ((ts : List Terminal) → begins_import (terminal_in line.text p.token ∷ ts) ≡ false) → BindsMore line p old old
binds_none line p old h = record { values = []; binds = nothing line p [] (no_import line p h) refl; adds = sym (append-nil (map binding_value old)) }

-- the statement that starts with a word
pub started_by_word : (line : LogicalLine) (p : TokenPlace) (f : Form) (rest : List Terminal) → p.token.kind ≡ kind.Name → ((ts : List Terminal) → terminal_in line.text p.token ∷ ts ≡ with_first_word f ts) → rest ≡ map (terminal_in line.text) (up_to_semicolon 0 p.after) → terminals_at line p ≡ with_first_word f rest
started_by_word line p f rest k h e =
    ap (map (terminal_in line.text)) (statement_is p ∙ up_to_semicolon-name p.token p.after (ap is_semicolon k) (ap (depth_past 0) k)) ∙ ap (λ x. terminal_in line.text p.token ∷ x) (sym e) ∙ h rest

begins_begun : (f : Form) (ts : List Terminal) → begins_import (with_first_word f ts) ≡ true
begins_begun form.Import ts = refl
begins_begun form.From ts = refl

-- an import statement that was read binds what it says
pub binds_import : (line : LogicalLine) (p : TokenPlace) (f : Form) (rest : List Terminal) (head : Head) (old new : List Binding) → terminals_at line p ≡ with_first_word f rest → head.line ≡ p.token.line → head.indented ≡ nat_lt 0 line.indent → BindsOne (IsImport (with_first_word f rest)) head old new → BindsMore line p old new
binds_import line p f rest head old new e l i r = record {
  values = map (binding_at p.token.line (nat_lt 0 line.indent)) r.imported;
  binds = imports line p _ r.imported (ap begins_import e ∙ begins_begun f rest) (subst (λ x. IsImport x r.imported) (sym e) r.are) refl;
  adds = r.adds ∙ ap (λ x. map binding_value old ++ map (binding_at x head.indented) r.imported) l ∙ ap (λ x. map binding_value old ++ map (binding_at p.token.line x) r.imported) i;
}

-- and one that is outside the grammar is bad
pub bad_import : (line : LogicalLine) (p : TokenPlace) (f : Form) (rest : List Terminal) → terminals_at line p ≡ with_first_word f rest → ((is : List Imported) → ¬ (IsImport (with_first_word f rest) is)) → IsBadStart line p
bad_import line p f rest e bad = record { begins = ap begins_import e ∙ begins_begun f rest; bad = λ is i. bad is (subst (λ x. IsImport x is) e i) }

-- the token at a place
pub token_at_place : (tokens : List Token) (i : ℕ) (t u : Token) → i < length tokens → slice_get tokens i ≡ Some u → get_or tokens i t ≡ u
token_at_place tokens i t u within e = let f : Some (get_or tokens i t) ≡ Some u = sym (slice_get-get_or tokens i t within) ∙ e in cc

-- the statement that starts at the token of a place, where its word begins an import statement
pub begun_word : (line : LogicalLine) (place end : ℕ) (p : TokenPlace) (f : Form) (word : List ℕ) (none : Token) → place < length line.tokens → IsPlaceAt line.tokens place p → word ≡ slice_range line.text p.token.start p.token.stop → ((ts : List Terminal) → terminal_of (get_or line.tokens place none).kind word ∷ ts ≡ with_first_word f ts) → (get_or line.tokens place none).kind ≡ kind.Name → significant (take (end - (place + 1)) (drop (place + 1) line.tokens)) ≡ up_to_semicolon 0 (significant (drop (place + 1) line.tokens)) → terminals_at line p ≡ with_first_word f (map (terminal_in line.text) (significant (take (end - (place + 1)) (drop (place + 1) line.tokens))))
begun_word line place end p f word none within h w begins name upto =
    let e : get_or line.tokens place none ≡ p.token = token_at_place line.tokens place none p.token within h.0 in
    started_by_word line p f _ (ap (λ (x : Token). x.kind) (sym e) ∙ name) (λ ts. ap (λ (x : Token). terminal_of x.kind (slice_range line.text p.token.start p.token.stop) ∷ ts) (sym e) ∙ ap (λ v. terminal_of (get_or line.tokens place none).kind v ∷ ts) (sym w) ∙ begins ts) (ap (map (terminal_in line.text)) (upto ∙ ap (up_to_semicolon 0) (sym h.1)))

-- why the items of a statement weren't bound, the statement wasn't
pub refuses_import : (line : LogicalLine) (p : TokenPlace) (f : Form) (rest : List Terminal) (Are : List Imported → Type 0) (fault : Fault) (e : ImportError) → terminals_at line p ≡ with_first_word f rest → AreSameLists (IsImport (with_first_word f rest)) Are → fault ≡ record { kind = BadImport; offset = line.offset + p.token.start; line = p.token.line } → RefusesItems Are fault e → RefusesAt line p e
refuses_import line p f rest Are fault error.Memory at same place r = tt
refuses_import line p f rest Are fault (error.Fault other) at same place r = (bad_import line p f rest at (λ is i. r.1 is (same.to is i)), r.0 ∙ place)
