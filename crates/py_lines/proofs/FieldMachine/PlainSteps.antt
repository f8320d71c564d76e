-- The machine with fields goes through the text of a piece without fields as the other machine does.
use Rattle.py_lines.proofs.Prelude.{◌≡◌, ℕ, false, List, [], ◌∷◌, ◌++◌, refl, sym, ap, ◌∙◌, subst, inl, inr, arith, list_any, list_any-append, or_parts, both_ways, is_quote, Class}
use Rattle.py_lines.specs.Private.Machine.{Mode, Move, class_of, move_of, short_move, long_move}
use Rattle.py_lines.specs.Private.FieldMachine.{plain, plain_move, begins_host, field_move}
use Rattle.py_lines.proofs.Machine.PieceSteps.{Grown, is_word_mode, IsQuiet}
use Rattle.py_lines.proofs.FieldMachine.Runs.{GrowsTo}

-- where a piece grows that is no word, a piece of its class is open after it
abbrev pub NoWord : Class → Move → Type 0
NoWord class (Move.Grows n) = (is_word_mode n ≡ false) × (class_of n ≡ class)
NoWord class other = Unit {0}

pub no_word : (m : Mode) (c : ℕ) → is_word_mode m ≡ false → NoWord (class_of m) (move_of m c)
unfolding move_of short_move long_move
no_word (Mode.Word s) c h = absurd (both_ways _ h refl)
no_word m c h = grind arith

pub no_host : (m : Mode) (held : List ℕ) (c : ℕ) (cs : List ℕ) → IsQuiet m (c ∷ cs) → begins_host m held c ≡ false
no_host (Mode.Word s) held c cs quiet = grind arith
no_host m held c cs quiet = refl

pub plain_moves : (m : Mode) (held : List ℕ) (c : ℕ) → begins_host m held c ≡ false → field_move (plain m) held c ≡ plain_move (move_of m c)
unfolding field_move
plain_moves m held c h = rw h

still_quiet : (m n : Mode) (c : ℕ) (cs : List ℕ) → move_of m c ≡ Move.Grows n → IsQuiet m (c ∷ cs) → IsQuiet n cs
still_quiet m n c cs is (inl other) = inl (subst (NoWord (class_of m)) is (no_word m c other)).0
still_quiet m n c cs is (inr none) = inr (or_parts (is_quote c) (list_any is_quote cs) none).1

-- while the open piece grows, both machines go through a text alike
pub grown-alike : (m n : Mode) (text : List ℕ) → IsQuiet m text → Grown m text n → GrowsTo (plain m) text (plain n)
grown-alike m n [] quiet grown = ap plain grown
grown-alike m n (c ∷ cs) quiet (next, grows, others) =
    (plain next, λ held. plain_moves m held c (no_host m held c cs quiet) ∙ ap plain_move grows, grown-alike next n cs (still_quiet m next c cs grows quiet) others)

pub grown-quiet : (m n : Mode) (text rest : List ℕ) → IsQuiet m (text ++ rest) → Grown m text n → IsQuiet n rest
grown-quiet m n [] rest quiet grown = subst (λ o. IsQuiet o rest) grown quiet
grown-quiet m n (c ∷ cs) rest quiet (next, grows, others) = grown-quiet next n cs rest (still_quiet m next c (cs ++ rest) grows quiet) others

pub front_quiet : (m : Mode) (text rest : List ℕ) → IsQuiet m (text ++ rest) → IsQuiet m text
front_quiet m text rest (inl other) = inl other
front_quiet m text rest (inr none) = inr (or_parts (list_any is_quote text) (list_any is_quote rest) (sym (list_any-append is_quote text rest) ∙ none)).0
