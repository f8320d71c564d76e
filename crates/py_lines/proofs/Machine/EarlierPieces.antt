-- Pieces before others: the open piece is closed after them as it is alone, and brackets after them stand so many bytes further.
use Rattle.py_lines.proofs.Prelude.{◌≡◌, ℕ, ◌+◌, Option, None, Some, List, [], ◌∷◌, ◌++◌, length, refl, sym, ap, ◌∙◌, append_assoc, append-nil, arith, Piece, spelled, byte_len, byte_len-append}
use Rattle.py_lines.specs.Private.Machine.{Mode, closed, Bracket, brackets_after, brackets_through, brackets_of}
use Rattle.py_lines.proofs.Pieces.PieceLists.{spelled-append}
use Rattle.py_lines.proofs.Pieces.OpenBrackets.{through-append}

pub closed-after : (ps done : List Piece) (m : Mode) (held : List ℕ) → closed m (ps ++ done) held ≡ ps ++ closed m done held
closed-after ps done Mode.Free held = refl
closed-after ps done m held = grind (arith, append_assoc)

-- brackets, so many bytes further
abbrev pub shift : ℕ → List Bracket → List Bracket
shift k [] = []
shift k (b ∷ bs) = record { opener = b.opener; place = k + b.place } ∷ shift k bs

abbrev pub shift_if : ℕ → Option (List Bracket) → Option (List Bracket)
shift_if k None = None
shift_if k (Some st) = Some (shift k st)

pub length-shift : (k : ℕ) (st : List Bracket) → length (shift k st) ≡ length st
length-shift k [] = refl
length-shift k (b ∷ bs) = omega (arith, length-shift k bs)

after-shift : (k place n : ℕ) (st : List Bracket) (p : Piece) → n ≡ k + place → brackets_after (shift k st) n p ≡ shift_if k (brackets_after st place p)
unfolding brackets_after
after-shift k place n [] p is = grind arith
after-shift k place n (b ∷ bs) p is = grind (arith, length-shift k bs)

through-shift : (base ps done : List Piece) (o : Option (List Bracket)) → brackets_through (shift_if (byte_len (spelled base)) o) (base ++ done) ps ≡ shift_if (byte_len (spelled base)) (brackets_through o done ps)
through-shift base ps done None = refl
through-shift base [] done (Some st) = refl
through-shift base (p ∷ ps) done (Some st) =
    let k = byte_len (spelled base) in
    ap (λ o. brackets_through o ((base ++ done) ++ p ∷ []) ps) (after-shift k (byte_len (spelled done)) (byte_len (spelled (base ++ done))) st p (ap byte_len (spelled-append base done) ∙ byte_len-append (spelled base) (spelled done)))
    ∙ ap (λ l. brackets_through (shift_if k (brackets_after st (byte_len (spelled done)) p)) l ps) (append_assoc base done (p ∷ []))
    ∙ through-shift base ps (done ++ p ∷ []) (brackets_after st (byte_len (spelled done)) p)

-- the brackets after pieces with none open
pub stack-after : (base local : List Piece) → brackets_of base ≡ Some [] → brackets_of (base ++ local) ≡ shift_if (byte_len (spelled base)) (brackets_of local)
stack-after base local level =
    rw (through-append (Some []) [] base local, level) (ap (λ l. brackets_through (Some []) l local) (sym (append-nil base)) ∙ through-shift base local [] (Some []))
