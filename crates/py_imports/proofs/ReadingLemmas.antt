-- What was read of a module so far.
use Rattle.std.proofs.Common.{◌≡◌, ◌≢◌, ℕ, Bool, true, false, ◌&&◌, Option, None, Some, option_and_then, List, [], ◌∷◌, ◌++◌, refl, sym, ap, ◌∙◌, append_assoc}
use Rattle.std.proofs.lemmas.List.{append_cancel_right}
use Rattle.std.specs.Option.{option_map}
use Rattle.py_imports.specs.Grammar.{Terminal, import_word, from_word, as_word, name, dot, comma, star, opening, closing, other, spelling}
use Rattle.py_imports.specs.declared.lexeme.Lexeme.{Lexeme}
use Rattle.py_imports.specs.declared.lexeme.Lexeme.TheVariants as lexeme
use Rattle.py_imports.specs.Private.Lexemes.{lexeme_then, begins_dot, begins_import_word, PassesDots}
use Rattle.py_imports.specs.Private.Parsing.{ReadText, spelled_before, at_module, import_after, at_relative}
use Rattle.py_imports.proofs.ModuleLemmas.{after_name-other, at_module-sound, at_relative-sound}

before_twice : (a b : List ℕ) (o : Option ReadText) → option_map (spelled_before a) (option_map (spelled_before b) o) ≡ option_map (spelled_before (a ++ b)) o
before_twice a b None = refl
before_twice a b (Some r) = ap (λ s. Some (record { spelled = s; rest = r.rest })) (sym (append_assoc a b r.spelled))

before_nothing : (o : Option ReadText) → option_map (spelled_before []) o ≡ o
before_nothing None = refl
before_nothing (Some r) = refl

-- names and dots of a module were read, and this is left of it
pub record NamesRead (start now : List Terminal) : Type 0 where
  pub written : List ℕ
  pub same : at_module start ≡ option_map (spelled_before written) (at_module now)

pub names_none : (start : List Terminal) → NamesRead start start
names_none start = record { written = []; same = sym (before_nothing (at_module start)) }

-- a name and a dot more
pub names_dot : (start before now after : List Terminal) (w : List ℕ) → NamesRead start before → before ≡ name w ∷ now → now ≡ dot ∷ after → NamesRead start after
names_dot start before now after w r b e = record {
  written = (r.written ++ w) ++ 46 ∷ [];
  same = r.same ∙ ap (λ x. option_map (spelled_before r.written) (at_module x)) (b ∙ ap (λ x. name w ∷ x) e) ∙ before_twice r.written w (option_map (spelled_before (46 ∷ [])) (at_module after)) ∙ before_twice (r.written ++ w) (46 ∷ []) (at_module after);
}

-- what was read of a module is spelled so, where this is left
module_is : (start read : List Terminal) (r : ReadText) → at_module start ≡ Some r → start ≡ read ++ r.rest → at_module start ≡ Some (record { spelled = spelling read; rest = r.rest })
module_is start read r e split =
    let off = at_module-sound start r e in
    let path : off.path ≡ read = append_cancel_right off.path read r.rest (sym off.split ∙ split) in
    e ∙ ap (λ s. Some (record { spelled = s; rest = r.rest })) (off.spelled ∙ ap spelling path)

-- the last name
pub names_last : (start before now read : List Terminal) (w : List ℕ) → NamesRead start before → before ≡ name w ∷ now → begins_dot now ≡ false → start ≡ read ++ now → at_module start ≡ Some (record { spelled = spelling read; rest = now })
names_last start before now read w r b d split =
    module_is start read (spelled_before r.written (spelled_before w (record { spelled = []; rest = now }))) (r.same ∙ ap (λ x. option_map (spelled_before r.written) (at_module x)) b ∙ ap (λ o. option_map (spelled_before r.written) (option_map (spelled_before w) o)) (after_name-other now d)) split

-- the dots of a relative module were read, and this is left of it
pub record DotsRead (dotted : Bool) (start now : List Terminal) : Type 0 where
  pub written : List ℕ
  pub same : at_relative false start ≡ option_map (spelled_before written) (at_relative dotted now)

-- one dot more
pub dots_dot : (dotted : Bool) (start before now : List Terminal) → DotsRead dotted start before → before ≡ dot ∷ now → DotsRead true start now
dots_dot dotted start before now r b = record {
  written = r.written ++ 46 ∷ [];
  same = r.same ∙ ap (λ x. option_map (spelled_before r.written) (at_relative dotted x)) b ∙ before_twice r.written (46 ∷ []) (at_relative true now);
}

-- what was read of a relative module is spelled so, where this is left
relative_is : (start read : List Terminal) (r : ReadText) → at_relative false start ≡ Some r → start ≡ read ++ import_word ∷ r.rest → at_relative false start ≡ Some (record { spelled = spelling read; rest = r.rest })
relative_is start read r e split =
    let off = at_relative-sound start r e in
    let from : off.from ≡ read = append_cancel_right off.from read (import_word ∷ r.rest) (sym off.split ∙ split) in
    e ∙ ap (λ s. Some (record { spelled = s; rest = r.rest })) (off.spelled ∙ ap spelling from)

-- dots alone
pub relative_dots : (dotted : Bool) (start now rest read : List Terminal) → PassesDots start dotted now → dotted && begins_import_word now ≡ true → now ≡ import_word ∷ rest → start ≡ read ++ now → at_relative false start ≡ Some (record { spelled = spelling read; rest = rest })
relative_dots true start now rest read d h e split =
    relative_is start read (spelled_before d.written (record { spelled = []; rest = rest })) (d.same ∙ ap (λ x. option_map (spelled_before d.written) (at_relative true x)) e) (split ∙ ap (λ x. read ++ x) e)
relative_dots false start now rest read d h e split = absurd (let z : ⊥ = cc in z)

-- after the dots a module is read, except where the word `import` follows some dots
named_next : (dotted : Bool) (now : List Terminal) → begins_dot now ≡ false → dotted && begins_import_word now ≡ false → at_relative dotted now ≡ option_and_then (λ r. import_after r.spelled r.rest) (at_module now)
named_next dotted (dot ∷ ts) d h = absurd cc
named_next true (import_word ∷ ts) d h = absurd cc
named_next false (import_word ∷ ts) d h = refl
named_next dotted [] d h = refl
named_next dotted (from_word ∷ ts) d h = refl
named_next dotted (as_word ∷ ts) d h = refl
named_next dotted (name w ∷ ts) d h = refl
named_next dotted (comma ∷ ts) d h = refl
named_next dotted (star ∷ ts) d h = refl
named_next dotted (opening ∷ ts) d h = refl
named_next dotted (closing ∷ ts) d h = refl
named_next dotted (other ∷ ts) d h = refl

-- a module, and the word `import` after it
pub relative_named : (dotted : Bool) (start now later rest read : List Terminal) (w : List ℕ) → PassesDots start dotted now → dotted && begins_import_word now ≡ false → at_module now ≡ Some (record { spelled = w; rest = later }) → later ≡ import_word ∷ rest → start ≡ read ++ later → at_relative false start ≡ Some (record { spelled = spelling read; rest = rest })
relative_named dotted start now later rest read w d h e f split =
    relative_is start read (spelled_before d.written (record { spelled = w; rest = rest })) (d.same ∙ ap (option_map (spelled_before d.written)) (named_next dotted now d.ended h ∙ ap (option_and_then (λ r. import_after r.spelled r.rest)) e ∙ ap (import_after w) f)) (split ∙ ap (λ x. read ++ x) f)

-- no dot is next, where another lexeme is
pub no_dot-lexeme : (after : Lexeme) (ts : List Terminal) → after ≢ lexeme.Dot → begins_dot (lexeme_then after ts) ≡ false
no_dot-lexeme lexeme.Import ts h = refl
no_dot-lexeme lexeme.From ts h = refl
no_dot-lexeme lexeme.As ts h = refl
no_dot-lexeme (lexeme.Name w) ts h = refl
no_dot-lexeme lexeme.Dot ts h = absurd (h refl)
no_dot-lexeme lexeme.Comma ts h = refl
no_dot-lexeme lexeme.Star ts h = refl
no_dot-lexeme lexeme.Opening ts h = refl
no_dot-lexeme lexeme.Closing ts h = refl
no_dot-lexeme lexeme.Other ts h = refl
no_dot-lexeme lexeme.End ts h = refl
