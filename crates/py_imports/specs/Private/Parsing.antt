-- How an import statement is read from left to right. What these functions compute is shown to be the grammar's.
use Rattle.std.specs.Prelude.{◌≡◌, ℕ, ◌-◌, take, drop, Bool, true, ◌==◌, ◌&&◌, Option, None, Some, option_and_then, List, [], ◌∷◌, ◌++◌, if◌then◌else◌}
use Rattle.std.specs.Option.{option_map}
use Rattle.std.specs.Str.{byte}
use Rattle.py_lines.specs.declared.token.Token.{Token}
use Rattle.py_imports.specs.Statement.{is_semicolon, depth_past, significant}
use Rattle.py_imports.specs.Grammar.{Terminal, import_word, as_word, name, dot, NameKind, modules, identifiers, Item}

-- what was read, and what follows it
pub record ReadText : Type 0 where
  pub spelled : List ℕ
  pub rest : List Terminal

-- a name or a dot goes before
abbrev pub spelled_before : List ℕ → ReadText → ReadText
spelled_before w r = record { spelled = w ++ r.spelled; rest = r.rest }

abbrev mutual
  -- a module, as long as can be
  pub at_module : List Terminal → Option ReadText
  at_module (name w ∷ ts) = option_map (spelled_before w) (after_name ts)
  at_module _ = None

  pub after_name : List Terminal → Option ReadText
  after_name (dot ∷ ts) = option_map (spelled_before (byte "." ∷ [])) (at_module ts)
  after_name ts = Some (record { spelled = []; rest = ts })

-- the word `import`, and what follows it
abbrev pub import_after : List ℕ → List Terminal → Option ReadText
import_after spelled (import_word ∷ ts) = Some (record { spelled = spelled; rest = ts })
import_after spelled _ = None

-- a relative module with the word `import` after it, where dots may have been read already
abbrev pub at_relative : Bool → List Terminal → Option ReadText
at_relative dotted (dot ∷ ts) = option_map (spelled_before (byte "." ∷ [])) (at_relative true ts)
at_relative dotted (import_word ∷ ts) = if dotted then Some (record { spelled = []; rest = ts }) else None
at_relative dotted ts = option_and_then (λ r. import_after r.spelled r.rest) (at_module ts)

-- an item that was read, and what follows it
pub record ItemRead : Type 0 where
  pub item : Item
  pub rest : List Terminal

-- the name after `as`
abbrev pub named_alias : List ℕ → List Terminal → Option ItemRead
named_alias path (name w ∷ ts) = Some (record { item = record { path = path; alias = Some w }; rest = ts })
named_alias path _ = None

-- the alias after a path, if it has one
abbrev pub alias_after : List ℕ → List Terminal → Option ItemRead
alias_after path (as_word ∷ ts) = named_alias path ts
alias_after path ts = Some (record { item = record { path = path; alias = None }; rest = ts })

-- one name
abbrev pub at_identifier : List Terminal → Option ReadText
at_identifier (name w ∷ ts) = Some (record { spelled = w; rest = ts })
at_identifier _ = None

abbrev pub at_path : NameKind → List Terminal → Option ReadText
at_path modules ts = at_module ts
at_path identifiers ts = at_identifier ts

-- a path with its alias, if it has one
abbrev pub at_item : NameKind → List Terminal → Option ItemRead
at_item k ts = option_and_then (λ r. alias_after r.spelled r.rest) (at_path k ts)

-- the tokens up to the next `;` at depth 0, or all; they begin at this depth
abbrev pub up_to_semicolon : ℕ → List Token → List Token
up_to_semicolon depth [] = []
up_to_semicolon depth (t ∷ ts) = if is_semicolon t.kind && (depth == 0) then [] else t ∷ up_to_semicolon (depth_past depth t.kind) ts

-- the tokens from one place up to another are those up to the next `;` at depth 0, or all
abbrev pub IsStatementBetween : List Token → ℕ → ℕ → Type 0
IsStatementBetween tokens start end =
    significant (take (end - start) (drop start tokens)) ≡ up_to_semicolon 0 (significant (drop start tokens))
