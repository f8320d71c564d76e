-- What is open where the machine stands: a short string, a long string, or a backslash; and the other way round.
use Rattle.py_lines.proofs.Prelude.{◌≡◌, ℕ, true, false, List, [], ◌∷◌, ◌++◌, refl, sym, ◌∙◌, subst, inl, inr, append-nil, arith, list_all, both_ways, false_from_ne_true, Piece, begins}
use Rattle.unicode_ident.proofs.Computing.{unicode_ident}
use Rattle.py_lines.specs.Character.{is_mark, is_quote, is_word_start, is_digit, is_backslash}
use Rattle.py_lines.specs.PieceGrammar.{IsPrefix, is_item, is_short_item, joined, has_triple}
use Rattle.py_lines.specs.OpenFields.{IsUnescaped, IsOpenPrefix, IsShortPrefix, IsLongPrefix}
use Rattle.py_lines.specs.Private.Machine.{Mode, Move, Holds, HoldsItems, move_of, in_short, in_long, is_after_backslash}
use Rattle.py_lines.proofs.Text.CharacterTests.{none_of, prefix_word}
use Rattle.py_lines.proofs.Machine.PieceSteps.{grown-append}
use Rattle.py_lines.proofs.Machine.StringSteps.{GrownTo, IsShortMode, short_escapes, short_body, grown-long, grown-opening, mode_at, QuotesBefore, seen_after, long_escapes}
use Rattle.py_lines.proofs.Machine.OpenPieces.{none_yet, opening_none, opening_one, opening_two}
use Rattle.py_lines.proofs.Machine.Soundness.{returned_items}

-- whole items, with nothing after them, or a backslash
still_open : (opening : ℕ → List ℕ) (MayHold : ℕ → List (List ℕ) → Type 0) (q : ℕ) (text before last : List ℕ) → text ≡ before ++ last → HoldsItems (opening q) (MayHold q) q before → IsUnescaped last → IsOpenPrefix opening MayHold text
still_open opening MayHold q text before last is held escapes = grind arith

pub short_held : (m : Mode) (done : List Piece) (held : List ℕ) → Holds m done held → in_short m ≡ true → IsShortPrefix held
short_held (Mode.Opened q) done held holds is = still_open _ _ q held held [] (sym (append-nil held)) (none_yet (q ∷ []) _ q held refl holds) (inl refl)
short_held (Mode.Inside q) done held holds is = still_open _ _ q held held [] (sym (append-nil held)) holds.0 (inl refl)
short_held (Mode.Escape q) done held holds is = still_open _ _ q held holds.0 (holds.1 ∷ []) holds.2 holds.3 (inr (holds.1, refl, holds.4))
short_held (Mode.EscapeReturn q) done held holds is = still_open _ _ q held held [] (sym (append-nil held)) (returned_items q done held holds).0 (inl refl)
short_held m done held holds is = absurd (grind arith)

pub long_held : (m : Mode) (done : List Piece) (held : List ℕ) → Holds m done held → in_long m ≡ true → IsLongPrefix held
long_held (Mode.Long q) done held holds is = still_open _ _ q held held [] (sym (append-nil held)) (opening_none q held holds) (inl refl)
long_held (Mode.LongOne q) done held holds is = still_open _ _ q held (holds.0 ++ q ∷ []) [] (holds.1 ∙ sym (append-nil _)) (opening_one q holds.0 holds.2) (inl refl)
long_held (Mode.LongTwo q) done held holds is = still_open _ _ q held (holds.0 ++ q ∷ q ∷ []) [] (holds.1 ∙ sym (append-nil _)) (opening_two q holds.0 holds.2) (inl refl)
long_held (Mode.LongEscape q) done held holds is = still_open _ _ q held holds.0 (holds.1 ∷ []) holds.2 holds.3 (inr (holds.1, refl, holds.4))
long_held m done held holds is = absurd (grind arith)

pub slash_held : (m : Mode) (done : List Piece) (held : List ℕ) → Holds m done held → is_after_backslash m ≡ true → (slash : ℕ) × (held ≡ slash ∷ []) × (is_backslash slash ≡ true)
slash_held Mode.Backslash done held holds is = holds
slash_held m done held holds is = absurd (both_ways _ refl is)

-- a string and a backslash don't begin with a mark
pub start-not-mark : (c : ℕ) → is_word_start c ≡ true → is_mark c ≡ false
unfolding unicode_ident is_word_start is_digit is_mark
start-not-mark c h = false_from_ne_true _ (λ marks. both_ways _ (none_of is_word_start (65279 ∷ []) c refl marks) h)

pub slash-not-mark : (c : ℕ) → is_backslash c ≡ true → is_mark c ≡ false
unfolding is_backslash is_mark
slash-not-mark c h = none_of is_mark (92 ∷ []) c refl h

pub prefix-unmarked : (prefix : List ℕ) (q : ℕ) (body : List ℕ) → IsPrefix prefix → is_quote q ≡ true → begins is_mark (prefix ++ q ∷ body) ≡ false
unfolding is_quote is_mark
prefix-unmarked [] q body is quotes = none_of is_mark (39 ∷ 34 ∷ []) q refl quotes
prefix-unmarked (a ∷ bs) q body (inl empty) quotes = absurd (cc)
prefix-unmarked (a ∷ bs) q body (inr is) quotes = start-not-mark a (prefix_word a bs is).0

-- a backslash that escapes nothing yet, or nothing, at the end of a string
last_grows : (IsSuch : Mode → Type 0) (from escape : Mode) (last : List ℕ) → IsSuch from → IsSuch escape → ((c : ℕ) → is_backslash c ≡ true → move_of from c ≡ Move.Grows escape) → IsUnescaped last → GrownTo IsSuch from last
last_grows IsSuch from escape last is after slash (inl empty) = subst (GrownTo IsSuch from) (sym empty) (from, is, refl)
last_grows IsSuch from escape last is after slash (inr (c, one, slashes)) = subst (GrownTo IsSuch from) (sym one) (escape, after, (escape, slash c slashes, refl))

short_last : (q : ℕ) (m : Mode) (last : List ℕ) → IsShortMode q m → is_quote q ≡ true → IsUnescaped last → GrownTo (λ n. in_short n ≡ true) m last
short_last q m last short quotes escapes = last_grows _ m (Mode.Escape q) last (grind arith) refl (λ c slashes. short_escapes q c m short quotes slashes) escapes

-- what is open of a short string
pub short_end : (q : ℕ) (items : List (List ℕ)) (last : List ℕ) → is_quote q ≡ true → list_all (is_short_item q) items ≡ true → IsUnescaped last → GrownTo (λ n. in_short n ≡ true) (Mode.Opened q) (joined items ++ last)
short_end q [] last quotes each escapes = short_last q (Mode.Opened q) last (inl refl) quotes escapes
short_end q (i ∷ is) last quotes each escapes =
    let body = short_body q (Mode.Opened q) i is (inl refl) quotes each in
    let end = short_last q body.0 last (inr body.1) quotes escapes in (end.0, end.1, grown-append _ body.0 end.0 (joined (i ∷ is)) last body.2 end.2)

-- and of a long one
pub long_end : (q : ℕ) (items : List (List ℕ)) (last : List ℕ) → is_quote q ≡ true → list_all is_item items ≡ true → has_triple q items ≡ false → IsUnescaped last → GrownTo (λ n. in_long n ≡ true) (Mode.Opened q) (q ∷ q ∷ (joined items ++ last))
long_end q items last quotes each triple escapes =
    let seen = seen_after q QuotesBefore.none items in
    let end = last_grows (λ n. in_long n ≡ true) (mode_at q seen) (Mode.LongEscape q) last (grind arith) refl (λ c slashes. long_escapes q c seen quotes slashes) escapes in
    (end.0, end.1, grown-opening q (joined items ++ last) end.0 (grown-append _ (mode_at q seen) end.0 (joined items) last (grown-long q QuotesBefore.none items quotes each triple) end.2))
