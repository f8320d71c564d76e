-- What was written and what is left is the module.
use Rattle.std.proofs.Common.{◌≡◌, ◌++◌, length, string_bytes}
use Rattle.py_imports.specs.Private.Lexemes.{unread_of, lexemes_text}
use Rattle.py_imports.proofs.items.ModulePath.push_onto.Given as goal

abbrev pub invariant-names : goal.invariant-names
invariant-names l = record { text : string_bytes l.text ++ lexemes_text l.names ≡ string_bytes l.initial.text ++ lexemes_text l.initial.names }

abbrev pub decreases-names : goal.decreases-names
decreases-names l = length (unread_of l.names)
