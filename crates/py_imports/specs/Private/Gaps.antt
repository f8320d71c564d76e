-- What the search for import statements knows of a text's bytes.
use Rattle.std.specs.Prelude.{◌≡◌, ℕ, ◌+◌, ◌≤◌, ◌⊎◌, List, length, slice_index}
use Rattle.std.specs.Str.{byte}
use Rattle.py_imports.specs.FirstWords.{EndsAtImport, NoImportBegins}

-- the first two letters of `import` or `from` stand there
abbrev pub WordLetters : List ℕ → ℕ → Type 0
WordLetters text k =
    ((slice_index text k ≡ byte "i") × (slice_index text (k + 1) ≡ byte "m"))
    ⊎ ((slice_index text k ≡ byte "f") × (slice_index text (k + 1) ≡ byte "r"))

-- from byte `start`, where a line begins, up to byte `stop` no import statement begins, and there one may begin, or the text ends
pub record IsGap (text : List ℕ) (start stop : ℕ) : Type 0 where
  pub none : NoImportBegins text start stop
  pub first : EndsAtImport text start stop
  pub further : start ≤ stop
  pub within : stop ≤ length text
