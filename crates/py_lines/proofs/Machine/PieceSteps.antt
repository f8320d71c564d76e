-- The machine goes through the text of a space, a word, a comment, a join or a line end: how each begins, grows and ends.
use Rattle.py_lines.proofs.Prelude.{◌≡◌, ℕ, Bool, true, false, ◌&&◌, List, [], ◌∷◌, ◌++◌, refl, sym, ap, ◌∙◌, subst, inl, inr, append_assoc, ◌⊎◌, list_all, list_any, and_parts, or_parts, arith, is_space, is_word_character, is_quote, is_line_feed, is_return, is_break, piece}
pub use Rattle.std.proofs.lemmas.Option.{same_Some as some_is}
use Rattle.py_lines.specs.Piece.{Class, space, word, comment, join, line_end, Piece, begins, ends}
use Rattle.py_lines.specs.PieceGrammar.{is_prefix, IsLineEnd, feed, return_feed, return, InPlainClass, MayPrecedePlain}
use Rattle.py_lines.specs.Balance.{is_opener, is_closer}
use Rattle.py_lines.specs.Private.Machine.{Spelling, Mode, Move, Start, class_of, closed, move_of, start_of, is_final, first_spelling, spelling_with, spelling_on, is_prefix_spelling}
use Rattle.py_lines.proofs.Fields.Prefixes.{word_quotes}
use Rattle.py_lines.proofs.Machine.Spellings.{prefix_spelling}
use Rattle.py_lines.proofs.Machine.Starts.{start-space, start-word, start-return, start-hash, start-slash}

-- the open piece may end before this text
abbrev pub StopsBefore : Mode → List ℕ → Type 0
StopsBefore m [] = is_final m ≡ true
StopsBefore m (c ∷ cs) = move_of m c ≡ Move.Breaks

-- what a character closes is no bracket
pub closing_neutral : (m : Mode) (text : List ℕ) (c : ℕ) → move_of m c ≡ Move.Closes → (is_opener (piece (class_of m) text) ≡ false) × (is_closer (piece (class_of m) text) ≡ false)
unfolding move_of
closing_neutral Mode.Free text c h = absurd (cc)
closing_neutral m text c h = (refl, refl)

-- before a text that begins with no such character
pub stops_unless : (m : Mode) (passes : ℕ → Bool) → is_final m ≡ true → ((c : ℕ) → passes c ≡ false → move_of m c ≡ Move.Breaks) → (rest : List ℕ) → begins passes rest ≡ false → StopsBefore m rest
stops_unless m passes final breaks [] h = final
stops_unless m passes final breaks (c ∷ cs) h = breaks c h

-- the open piece grows by each character of a text, from one mode to another
abbrev pub Grown : Mode → List ℕ → Mode → Type 0
Grown m [] n = m ≡ n
Grown m (c ∷ cs) n = (next : Mode) × (move_of m c ≡ Move.Grows next) × Grown next cs n

pub grown-append : (m n o : Mode) (a b : List ℕ) → Grown m a n → Grown n b o → Grown m (a ++ b) o
grown-append m n o [] b first second = subst (λ x. Grown x b o) (sym first) second
grown-append m n o (c ∷ a) b (next, grows, others) second = (next, grows, grown-append next n o a b others second)

pub grown-run : (m : Mode) (passes : ℕ → Bool) → ((c : ℕ) → passes c ≡ true → move_of m c ≡ Move.Grows m) → (run : List ℕ) → list_all passes run ≡ true → Grown m run m
grown-run m passes grows [] all = refl
grown-run m passes grows (c ∷ cs) all = let parts = and_parts (passes c) (list_all passes cs) all in (m, grows c parts.0, grown-run m passes grows cs parts.1)

pub grown-word : (s : Spelling) (others : List ℕ) → list_all is_word_character others ≡ true → Grown (Mode.Word s) others (Mode.Word (spelling_on s others))
unfolding move_of
grown-word s [] all = refl
grown-word s (c ∷ cs) all =
    let parts = and_parts (is_word_character c) (list_all is_word_character cs) all in
    (Mode.Word (spelling_with s c), rw parts.0, grown-word (spelling_with s c) cs parts.1)

grown-comment : (body : List ℕ) → list_any is_break body ≡ false → Grown Mode.Comment body Mode.Comment
unfolding move_of
grown-comment [] none = refl
grown-comment (c ∷ cs) none = let parts = or_parts (is_break c) (list_any is_break cs) none in (Mode.Comment, rw parts.0, grown-comment cs parts.1)

-- a mode in which a piece of this class is open
abbrev pub IsOpenAs : Class → Mode → Type 0
IsOpenAs class m = (class_of m ≡ class) × ((done : List Piece) (held : List ℕ) → closed m done held ≡ done ++ piece (class_of m) held ∷ [])

-- the open piece goes on with a text as one of this class, and may end before the rest, or ends with the text's last character
pub data EndsWith (class : Class) (m : Mode) (text rest : List ℕ) : Type 0 where
  ends_before : (n : Mode) → Grown m text n → IsOpenAs class n → StopsBefore n rest → EndsWith class m text rest
  ends_at : (n : Mode) (front : List ℕ) (c : ℕ) → text ≡ front ++ c ∷ [] → Grown m front n → class_of n ≡ class → move_of n c ≡ Move.Closes
      → EndsWith class m text rest

pub ends_after : (class : Class) (m n : Mode) (a b rest : List ℕ) → Grown m a n → EndsWith class n b rest → EndsWith class m (a ++ b) rest
ends_after class m n a b rest first (ends_before o grown is stops) = ends_before o (grown-append m n o a b first grown) is stops
ends_after class m n a b rest first (ends_at o front c cut grown is closing) =
    ends_at o (a ++ front) c (ap (λ t. a ++ t) cut ∙ sym (append_assoc a front (c ∷ []))) (grown-append m n o a front first grown) is closing

-- whether a word is open
abbrev pub is_word_mode : Mode → Bool
is_word_mode (Mode.Word s) = true
is_word_mode other = false

-- no string with fields begins in this text: no word is open, or no quote follows
abbrev pub IsQuiet : Mode → List ℕ → Type 0
IsQuiet m text = (is_word_mode m ≡ false) ⊎ (list_any is_quote text ≡ false)

-- how a piece that is no mark, no operator and no string begins and ends: a line feed is whole, and others are opened
pub data IsRead (class : Class) (text rest : List ℕ) : Type 0 where
  at_once : class ≡ line_end → text ≡ 10 ∷ [] → IsRead class text rest
  opened : (c : ℕ) (cs : List ℕ) (m : Mode) → text ≡ c ∷ cs → start_of c ≡ Start.Open m → IsQuiet m cs → EndsWith class m cs rest → IsRead class text rest

abbrev pub IsPlainClass : Class → Type 0
IsPlainClass space = Unit {0}
IsPlainClass word = Unit {0}
IsPlainClass comment = Unit {0}
IsPlainClass join = Unit {0}
IsPlainClass line_end = Unit {0}
IsPlainClass other = ⊥

stops-word : (s : Spelling) (rest : List ℕ) → begins is_word_character rest ≡ false → is_prefix_spelling s && begins is_quote rest ≡ false → StopsBefore (Mode.Word s) rest
unfolding move_of
stops-word s [] h k = refl
stops-word s (c ∷ cs) h k = rw (h, k)

stops-comment : (rest : List ℕ) → (rest ≡ []) ⊎ (begins is_break rest ≡ true) → StopsBefore Mode.Comment rest
unfolding move_of
stops-comment rest h = grind arith

pub is_read : (class : Class) (text rest : List ℕ) → IsPlainClass class → InPlainClass class text → MayPrecedePlain class text rest → IsRead class text rest
unfolding move_of is_line_feed is_return
is_read space text rest plain_class (c, cs, is, run) before =
    let parts = and_parts (is_space c) (list_all is_space cs) (subst (λ t. list_all is_space t ≡ true) is run) in
    opened c cs Mode.Space is (start-space c parts.0) (inl refl)
    (ends_before Mode.Space (grown-run Mode.Space is_space (λ d h. rw h) cs parts.1) (refl, λ done held. refl) (stops_unless Mode.Space is_space refl (λ d h. rw h) rest before))
is_read word text rest plain_class (c, cs, is, opens, run) before =
    opened c cs (Mode.Word (first_spelling c)) is (start-word c opens) (inr (word_quotes cs run))
    (ends_before (Mode.Word (spelling_on (first_spelling c) cs)) (grown-word (first_spelling c) cs run) (refl, λ done held. refl)
    (stops-word _ rest before.0 (sym (ap (λ b. b && begins is_quote rest) (ap is_prefix is ∙ prefix_spelling c cs)) ∙ before.1)))
is_read comment text rest plain_class (c, cs, is, opens, holds) before =
    opened c cs Mode.Comment is (start-hash c opens) (inl refl) (ends_before Mode.Comment (grown-comment cs holds) (refl, λ done held. refl) (stops-comment rest before))
is_read join text rest plain_class (c, cs, is, slashes, line) before = opened c cs Mode.Backslash is (start-slash c slashes) (inl refl) (go line) where
  go : IsLineEnd cs → EndsWith join Mode.Backslash cs rest
  go (feed end) = ends_at Mode.Backslash [] 10 end refl refl refl
  go (return_feed end) = ends_at Mode.JoinReturn (13 ∷ []) 10 end (Mode.JoinReturn, refl, refl) refl refl
  go (return end) =
      subst (λ t. EndsWith join Mode.Backslash t rest) (sym end) (ends_before Mode.JoinReturn (Mode.JoinReturn, refl, refl) (refl, λ done held. refl)
      (stops_unless Mode.JoinReturn is_line_feed refl (λ d h. rw h) rest (subst (λ t. ends is_return t && begins is_line_feed rest ≡ false) (is ∙ ap (λ t. c ∷ t) end) before)))
is_read line_end text rest plain_class (feed is) before = at_once refl is
is_read line_end text rest plain_class (return_feed is) before = opened 13 (10 ∷ []) Mode.Return is (start-return 13 refl) (inl refl) (ends_at Mode.Return [] 10 refl refl refl refl)
is_read line_end text rest plain_class (return is) before =
    opened 13 [] Mode.Return is (start-return 13 refl) (inl refl) (ends_before Mode.Return refl (refl, λ done held. refl)
    (stops_unless Mode.Return is_line_feed refl (λ d h. rw h) rest (subst (λ t. ends is_return t && begins is_line_feed rest ≡ false) is before)))
is_read class text rest plain_class is before = absurd plain_class
