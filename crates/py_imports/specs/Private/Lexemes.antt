-- What a reader of lexemes has before it.
use denote.Bor.{Bor}
use Rattle.std.specs.Prelude.{◌≡◌, ℕ, ◌≤◌, ◌-◌, Bool, true, false, Option, None, Some, List, [], ◌∷◌, map, take, drop}
use Rattle.std.specs.Option.{option_map}
use Rattle.py_imports.specs.Binds.{terminal_in}
use Rattle.py_imports.specs.Grammar.{Terminal, import_word, from_word, as_word, name, dot, comma, star, opening, closing, other, spelling, identifiers}
use Rattle.py_imports.specs.Private.Parsing.{ReadText, spelled_before, at_relative, alias_after, at_item}
use Rattle.py_imports.specs.Statement.{significant}
use Rattle.py_lines.specs.declared.unit.Unit.{Unit}
use Rattle.py_imports.specs.declared.lexeme.Lexeme.{Lexeme}
use Rattle.py_imports.specs.declared.lexeme.Lexeme.TheVariants as lexeme
use Rattle.py_imports.specs.declared.lexemes.Lexemes.{Lexemes}

-- a lexeme and what follows it
abbrev pub lexeme_then : Lexeme → List Terminal → List Terminal
lexeme_then lexeme.Import ts = import_word ∷ ts
lexeme_then lexeme.From ts = from_word ∷ ts
lexeme_then lexeme.As ts = as_word ∷ ts
lexeme_then (lexeme.Name w) ts = name w.now ∷ ts
lexeme_then lexeme.Dot ts = dot ∷ ts
lexeme_then lexeme.Comma ts = comma ∷ ts
lexeme_then lexeme.Star ts = star ∷ ts
lexeme_then lexeme.Opening ts = opening ∷ ts
lexeme_then lexeme.Closing ts = closing ∷ ts
lexeme_then lexeme.Other ts = other ∷ ts
lexeme_then lexeme.End ts = []

-- the terminals of a logical line's tokens from one place up to another
abbrev pub terminals_between : Unit → ℕ → ℕ → List Terminal
terminals_between unit place end = map (terminal_in unit.text.now) (significant (take (end - place) (drop place unit.tokens.now)))

-- what hasn't been read
abbrev pub unread_of : Lexemes → List Terminal
unread_of s = terminals_between s.unit.now s.place s.end

-- the second reads the same tokens as the first, and stands at the same place or further on
pub record IsFurther (before after : Lexemes) : Type 0 where
  pub unit : after.unit ≡ before.unit
  pub end : after.end ≡ before.end
  pub place : before.place ≤ after.place

-- how the names and dots are spelled that are left
abbrev pub lexemes_text : Lexemes → List ℕ
lexemes_text s = spelling (unread_of s)

-- what stands here was read: names and dots, with what follows them; or there are none here, and there is no answer
abbrev pub ReadsPath : Option ReadText → Option Lexemes → List Terminal → Type 0
ReadsPath here None after = here ≡ None
ReadsPath here (Some path) after = here ≡ Some (record { spelled = lexemes_text path; rest = after })

-- the alias that stands after a path was read, if there is one; there is no answer where none may be read
abbrev pub ReadsAlias : List Terminal → Option (Option (Bor (List ℕ))) → List Terminal → Type 0
ReadsAlias before None after = (path : List ℕ) → alias_after path before ≡ None
ReadsAlias before (Some alias) after =
    (path : List ℕ) → alias_after path before
    ≡ Some (record { item = record { path = path; alias = option_map (λ a. a.now) alias }; rest = after })

-- an identifier with its alias was read; there is no answer where none stands here
abbrev pub ReadsName : List Terminal → Option (Bor (List ℕ) × Option (Bor (List ℕ))) → List Terminal → Type 0
ReadsName before None after = at_item identifiers before ≡ None
ReadsName before (Some r) after =
    at_item identifiers before
    ≡ Some (record { item = record { path = r.0.now; alias = option_map (λ a. a.now) r.1 }; rest = after })

-- whether a dot is next
abbrev pub begins_dot : List Terminal → Bool
begins_dot (dot ∷ ts) = true
begins_dot _ = false

-- whether the word `import` is next
abbrev pub begins_import_word : List Terminal → Bool
begins_import_word (import_word ∷ ts) = true
begins_import_word _ = false

-- the dots that a relative module begins with were passed
pub record PassesDots (before : List Terminal) (dotted : Bool) (after : List Terminal) : Type 0 where
  pub written : List ℕ
  pub same : at_relative false before ≡ option_map (spelled_before written) (at_relative dotted after)
  pub ended : begins_dot after ≡ false
