-- What each character does to the open piece alone.
use Rattle.py_lines.proofs.Prelude.{◌≡◌, ℕ, true, false, ◌&&◌, eqb, List, [], ◌∷◌, ◌++◌, refl, sym, ap, ◌∙◌, subst, inl, inr, append_assoc, arith, cond_both, and_from, and_left, and_parts, and_right, eqb-true, fold-append, is_mark, is_space, is_word_character, is_quote, is_line_feed, is_return, is_break, string, operator, line_end, Piece, ends}
use Rattle.py_lines.specs.PieceGrammar.{feed, return_feed, return, InPlainClass, is_prefix, joined, MayPrecedePlain, AreReadPlain}
use Rattle.py_lines.specs.Private.Machine.{Spelling, Mode, Move, Start, Holds, HoldsShort, HoldsSome, HoldsQuotes, HoldsPrefix, HoldsLong, class_of, closed, move_of, short_move, long_move, start_of, first_spelling, spelling_with, is_prefix_spelling, is_final}
use Rattle.py_lines.proofs.Machine.Starts.{StartsSo, starts_so}
use Rattle.py_lines.proofs.Machine.Spellings.{prefix_spelling}
use Rattle.py_lines.proofs.Text.CharacterTests.{feed_is, return_is, barred, feed-not-others}
use Rattle.py_lines.proofs.Machine.OpenPieces.{list_all-push, list_any-push, push, same_quotes, something, long_something, short_push, prefix_push, opening_none, opening_one, opening_two, none_yet, one_more_quote, short_string, long_string}

-- what a character begins
abbrev pub StartHolds : ℕ → Start → Type 0
StartHolds c (Start.Open m) = Holds m [] (c ∷ [])
StartHolds c Start.Operator = InPlainClass operator (c ∷ [])
StartHolds c Start.LineEnd = InPlainClass line_end (c ∷ []) × ((more : List ℕ) → MayPrecedePlain line_end (c ∷ []) more)
StartHolds c Start.Nothing = Unit {0}

starts_hold : (c : ℕ) (s : Start) → StartsSo c s → StartHolds c s
starts_hold c (Start.Open (Mode.Opened q)) so = record { prefix = []; spell = ap (λ d. d ∷ []) (sym so.1); begun = inl refl; opens = ap is_quote so.1 ∙ so.0 }
starts_hold c Start.LineEnd so = (feed (ap (λ d. d ∷ []) (feed_is c so)), λ more. and_left _ _ (feed-not-others c so).2)
starts_hold c x so = grind arith

pub start_holds : (c : ℕ) → StartHolds c (start_of c)
start_holds c = starts_hold c (start_of c) (starts_so c)

-- what a character does to the open piece
abbrev pub MoveHolds : Mode → List ℕ → ℕ → Move → Type 0
MoveHolds m held c (Move.Grows n) = Holds n [] (held ++ c ∷ [])
MoveHolds m held c Move.Closes = InPlainClass (class_of m) (held ++ c ∷ []) × ((more : List ℕ) → MayPrecedePlain (class_of m) (held ++ c ∷ []) more)
MoveHolds m held c Move.Breaks = (more : List ℕ) → AreReadPlain (closed m [] held) (c ∷ more)
MoveHolds m held c Move.Refused = Unit {0}

-- a word that goes on
pub word_on : (s : Spelling) (held : List ℕ) (c : ℕ) → Holds (Mode.Word s) [] held → is_word_character c ≡ true → Holds (Mode.Word (spelling_with s c)) [] (held ++ c ∷ [])
word_on s held c (first, others, is, opens, run, so) passes =
    (first, others ++ c ∷ [], push held c is, opens, list_all-push is_word_character others c run passes, ap (λ t. spelling_with t c) so ∙ sym (fold-append spelling_with (first_spelling first) others (c ∷ [])))

-- a character in a short string, between two items
short_holds : (m : Mode) (held : List ℕ) (q c : ℕ) → HoldsShort q held → eqb c q ≡ false → MoveHolds m held c (short_move q c)
unfolding short_move
short_holds m held q c items other = grind (arith, barred q c other, short_push q held (c ∷ []) items)

-- the closing quote of a short string that holds something
close_holds : (held : List ℕ) (q c : ℕ) → HoldsSome q held → eqb c q ≡ true → InPlainClass string (held ++ c ∷ []) × ((more : List ℕ) → MayPrecedePlain string (held ++ c ∷ []) more)
unfolding short_string
close_holds held q c holds same =
    let short = short_string q held c same holds.0 in
    (inl short, λ more. something holds.0.prefix (joined holds.0.items) q (held ++ c ∷ []) more short.spell holds.0.begun holds.0.opens holds.1)

-- a character in a long string, which isn't its quote
long_holds : (m : Mode) (held : List ℕ) (q c : ℕ) → HoldsPrefix q held → eqb c q ≡ false → MoveHolds m held c (long_move q c)
unfolding long_move
long_holds m held q c opening other = grind (arith, prefix_push q held (c ∷ []) opening)

-- the items of a short string after an escaped CR
pub returned_items : (q : ℕ) (done : List Piece) (held : List ℕ) → Holds (Mode.EscapeReturn q) done held → HoldsSome q held
returned_items q done held (before, slash, r, is, items, slashes, returns) =
    subst (HoldsSome q) (sym is) (short_push q before (slash ∷ r ∷ []) items (and_from _ _ slashes refl) tt)

-- an empty string is before no quote of its kind
empty_before : (q : ℕ) (held : List ℕ) (c : ℕ) (more : List ℕ) → HoldsQuotes (q ∷ q ∷ []) q held → eqb c q ≡ false → MayPrecedePlain string held (c ∷ more)
empty_before q held c more holds other prefix r spell begun quotes =
    subst (λ (d : ℕ). eqb c d ≡ false) (cc (same_quotes holds.prefix prefix q r (q ∷ []) (r ∷ []) (sym holds.spell ∙ spell) holds.begun begun holds.opens quotes)) other

empty_string : (q : ℕ) (held : List ℕ) → HoldsQuotes (q ∷ q ∷ []) q held → InPlainClass string held
empty_string q held holds = inl (record { prefix = holds.prefix; quote = q; items = []; spell = holds.spell; begun = holds.begun; opens = holds.opens; each = refl })

one_after : (before held : List ℕ) (last c : ℕ) → held ≡ before ++ last ∷ [] → held ++ c ∷ [] ≡ before ++ last ∷ c ∷ []
one_after before held last c is = ap (λ t. t ++ c ∷ []) is ∙ append_assoc before (last ∷ []) (c ∷ [])

-- a line end of two characters
feed_after : (r c : ℕ) → is_return r ≡ true → is_line_feed c ≡ true → r ∷ c ∷ [] ≡ 13 ∷ 10 ∷ []
feed_after r c h k = cc (return_is r h, feed_is c k)

-- so in each mode
pub move_holds : (m : Mode) (held : List ℕ) (c : ℕ) → Holds m [] held → MoveHolds m held c (move_of m c)
unfolding move_of long_string
move_holds Mode.Start held c holds = cond_both (is_mark c) _ _ (MoveHolds Mode.Start held c) (λ h. ((c, ap (λ t. t ++ c ∷ []) holds.1, h), λ more. tt)) (λ h more. tt)
move_holds Mode.Free held c holds = λ more. tt
move_holds Mode.Space held c (first, others, is, all) =
    cond_both (is_space c) _ _ (MoveHolds Mode.Space held c) (λ h. (first, others ++ c ∷ [], push held c is, list_all-push is_space held c all h))
    (λ h more. ((first, others, is, all), h, refl, tt))
move_holds (Mode.Word s) held c (first, others, is, opens, run, so) =
    let prefixed : is_prefix held ≡ is_prefix_spelling s = ap is_prefix is ∙ prefix_spelling first others ∙ ap is_prefix_spelling (sym so) in
    cond_both (is_word_character c) _ _ (MoveHolds (Mode.Word s) held c) (word_on s held c (first, others, is, opens, run, so))
    (λ h. cond_both (is_prefix_spelling s && is_quote c) _ _ (MoveHolds (Mode.Word s) held c)
    (λ k. let (prefix, quote) = and_parts (is_prefix_spelling s) (is_quote c) k in record { prefix = held; spell = refl; begun = inr (prefixed ∙ prefix); opens = quote })
    (λ k more. ((first, others, is, opens, run), (h, ap (λ b. b && is_quote c) prefixed ∙ k), refl, tt)))
move_holds Mode.Comment held c (first, others, is, opens, all) =
    cond_both (is_break c) _ _ (MoveHolds Mode.Comment held c) (λ h more. ((first, others, is, opens, all), inr h, refl, tt))
    (λ h. (first, others ++ c ∷ [], push held c is, opens, list_any-push is_break others c all h))
move_holds (Mode.Opened q) held c holds = cond_both (eqb c q) _ _ (MoveHolds (Mode.Opened q) held c) (λ h. one_more_quote (q ∷ []) q held c h holds)
    (short_holds (Mode.Opened q) held q c (none_yet (q ∷ []) _ q held refl holds))
move_holds (Mode.Inside q) held c holds =
    cond_both (eqb c q) _ _ (MoveHolds (Mode.Inside q) held c) (close_holds held q c holds) (short_holds (Mode.Inside q) held q c holds.0)
move_holds (Mode.Escape q) held c (before, slash, is, items, slashes) =
    let spell = one_after before held slash c is in
    cond_both (is_return c) _ _ (MoveHolds (Mode.Escape q) held c) (λ h. (before, slash, c, spell, items, slashes, h))
    (λ h. subst (HoldsSome q) (sym spell) (short_push q before (slash ∷ c ∷ []) items (and_from _ _ slashes refl) tt))
move_holds (Mode.EscapeReturn q) held c (before, slash, r, is, items, slashes, returns) =
    let spell : held ++ c ∷ [] ≡ before ++ slash ∷ r ∷ c ∷ [] = ap (λ t. t ++ c ∷ []) is ∙ append_assoc before (slash ∷ r ∷ []) (c ∷ []) in
    let whole = returned_items q [] held (before, slash, r, is, items, slashes, returns) in
    let fed : is_line_feed c ≡ true → HoldsSome q (held ++ c ∷ []) = λ h. subst (HoldsSome q) (sym spell) (short_push q before (slash ∷ r ∷ c ∷ []) items (and_from _ _ (and_from _ _ (and_from _ _ slashes returns) h) refl) tt) in
    cond_both (is_line_feed c) _ _ (MoveHolds (Mode.EscapeReturn q) held c) fed
    (λ h. cond_both (eqb c q) _ _ (MoveHolds (Mode.EscapeReturn q) held c) (close_holds held q c whole) (short_holds (Mode.EscapeReturn q) held q c whole.0))
move_holds (Mode.Empty q) held c holds =
    let third : eqb c q ≡ true → HoldsLong q (held ++ c ∷ []) = λ h. none_yet (q ∷ q ∷ q ∷ []) _ q (held ++ c ∷ []) (refl, refl) (one_more_quote (q ∷ q ∷ []) q held c h holds) in
    cond_both (eqb c q) _ _ (MoveHolds (Mode.Empty q) held c) third (λ h more. (empty_string q held holds, empty_before q held c more holds h, refl, tt))
move_holds (Mode.Long q) held c holds =
    cond_both (eqb c q) _ _ (MoveHolds (Mode.Long q) held c) (λ h. (held, ap (λ (d : ℕ). held ++ d ∷ []) (eqb-true c q h), holds))
    (long_holds (Mode.Long q) held q c (opening_none q held holds))
move_holds (Mode.LongOne q) held c (before, is, long) = cond_both (eqb c q) _ _ (MoveHolds (Mode.LongOne q) held c)
    (λ h. (before, one_after before held q c is ∙ ap (λ (d : ℕ). before ++ q ∷ d ∷ []) (eqb-true c q h), long))
    (long_holds (Mode.LongOne q) held q c (subst (HoldsPrefix q) (sym is) (opening_one q before long)))
move_holds (Mode.LongTwo q) held c (before, is, long) = cond_both (eqb c q) _ _ (MoveHolds (Mode.LongTwo q) held c) (λ h.
    let spell : held ++ c ∷ [] ≡ before ++ q ∷ q ∷ q ∷ [] = ap (λ t. t ++ c ∷ []) is ∙ append_assoc before (q ∷ q ∷ []) (c ∷ []) ∙ ap (λ (d : ℕ). before ++ q ∷ q ∷ d ∷ []) (eqb-true c q h) in
    let whole = long_string q before long in (
      subst (InPlainClass string) (sym spell) (inr whole),
      λ more. long_something long.prefix (joined long.items ++ q ∷ q ∷ q ∷ []) q (held ++ c ∷ []) more (spell ∙ whole.spell) long.begun long.opens,
    ))
    (λ h. long_holds (Mode.LongTwo q) held q c (subst (HoldsPrefix q) (sym is) (opening_two q before long)) h)
move_holds (Mode.LongEscape q) held c (before, slash, is, items, slashes) =
    subst (HoldsLong q) (sym (one_after before held slash c is)) (prefix_push q before (slash ∷ c ∷ []) items slashes refl)
move_holds Mode.Backslash held c (slash, is, slashes) =
    let spell : held ++ c ∷ [] ≡ slash ∷ c ∷ [] = push held c is in
    cond_both (is_line_feed c) _ _ (MoveHolds Mode.Backslash held c)
    (λ h. ((slash, c ∷ [], spell, slashes, feed (ap (λ d. d ∷ []) (feed_is c h))), λ more. and_left _ _ (ap (ends is_return) spell ∙ (feed-not-others c h).2)))
    (λ h. cond_both (is_return c) _ _ (MoveHolds Mode.Backslash held c) (λ k. (slash, c, spell, slashes, k)) (λ k. tt))
move_holds Mode.JoinReturn held c (slash, r, is, slashes, returns) =
    let spell : held ++ c ∷ [] ≡ slash ∷ r ∷ c ∷ [] = push held c is in
    cond_both (is_line_feed c) _ _ (MoveHolds Mode.JoinReturn held c)
    (λ h. ((slash, r ∷ c ∷ [], spell, slashes, return_feed (feed_after r c returns h)), λ more. and_left _ _ (ap (ends is_return) spell ∙ (feed-not-others c h).2)))
    (λ h more. ((slash, r ∷ [], is, slashes, return (ap (λ d. d ∷ []) (return_is r returns))), and_right _ _ h, refl, tt))
move_holds Mode.Return held c (r, is, returns) =
    let spell : held ++ c ∷ [] ≡ r ∷ c ∷ [] = push held c is in
    cond_both (is_line_feed c) _ _ (MoveHolds Mode.Return held c)
    (λ h. (return_feed (spell ∙ feed_after r c returns h), λ more. and_left _ _ (ap (ends is_return) spell ∙ (feed-not-others c h).2)))
    (λ h more. (return (is ∙ ap (λ d. d ∷ []) (return_is r returns)), and_right _ _ h, refl, tt))

-- and at the text's end
pub end_holds : (m : Mode) (held : List ℕ) → Holds m [] held → is_final m ≡ true → AreReadPlain (closed m [] held) []
end_holds m held holds may = grind (arith, and_right, empty_string, return_is)
