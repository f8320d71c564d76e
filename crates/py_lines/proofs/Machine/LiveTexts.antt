-- A text is live exactly where the machine goes through it: what is open can be closed.
use Rattle.py_lines.proofs.Prelude.{◌≡◌, ℕ, true, false, ◌==◌, Some, List, [], ◌∷◌, ◌++◌, refl, ◌∙◌, IsScalar, cond_both, and_right, eq-eqb, is_mark, is_space, is_word_character, is_quote, is_operator, is_line_feed, is_return, is_break, Piece, spelled, byte_len, piece}
use Rattle.unicode_ident.proofs.Computing.{unicode_ident}
use Rattle.py_lines.specs.Balance.{is_closing, closing_of, is_opener, is_closer}
use Rattle.py_lines.specs.Private.Machine.{Mode, Move, Start, Holds, class_of, closed, move_of, start_of, is_final, is_prefix_spelling, Bracket, brackets_of}
use Rattle.py_lines.proofs.Text.CharacterTests.{each_of, none_of, not_quote, excluded, feed-not-others}
use Rattle.py_lines.proofs.Machine.Starts.{start-feed}
use Rattle.py_lines.proofs.Pieces.OpenBrackets.{stack_push, other_keeps}

-- a piece that is no bracket leaves the stack as it was
pub keeps : (done : List Piece) (p : Piece) (st : List Bracket) → is_opener p ≡ false → is_closer p ≡ false → brackets_of done ≡ Some st → brackets_of (done ++ p ∷ []) ≡ Some st
keeps done p st opens closes stack = stack_push done p st stack ∙ other_keeps st (byte_len (spelled done)) p opens closes

pub stack_closed : (m : Mode) (done : List Piece) (held : List ℕ) (st : List Bracket) → brackets_of done ≡ Some st → brackets_of (closed m done held) ≡ Some st
stack_closed Mode.Start done held st stack = stack
stack_closed Mode.Free done held st stack = stack
stack_closed m done held st stack = keeps done (piece (class_of m) held) st refl refl stack

-- a mode in which the text may end, or a closing bracket follow
pub record IsReady (m : Mode) : Type 0 where
  pub ends : is_final m ≡ true
  pub breaks : (c : ℕ) → is_closing c ≡ true → move_of m c ≡ Move.Breaks

-- what a closing bracket is not, and what it is
closing_is : (c : ℕ) → is_closing c ≡ true → (is_word_character c ≡ false) × (is_mark c ≡ false) × (is_space c ≡ false) × (is_line_feed c ≡ false) × (is_quote c ≡ false) × (is_operator c ≡ true) × IsScalar c
unfolding unicode_ident is_closing is_word_character is_mark is_space is_line_feed is_quote is_operator
closing_is c h =
    each_of (λ x. (is_word_character x ≡ false) × (is_mark x ≡ false) × (is_space x ≡ false) × (is_line_feed x ≡ false) × (is_quote x ≡ false) × (is_operator x ≡ true) × IsScalar x) (41 ∷ 93 ∷ 125 ∷ []) c
    ((refl, refl, refl, refl, refl, refl, refl), ((refl, refl, refl, refl, refl, refl, refl), ((refl, refl, refl, refl, refl, refl, refl), tt))) h

pub closing-not-quote : (c : ℕ) → is_closing c ≡ true → is_quote c ≡ false
closing-not-quote c h = (closing_is c h).4

pub closing-operator : (c : ℕ) → is_closing c ≡ true → is_operator c ≡ true
closing-operator c h = (closing_is c h).5

pub closing-scalar : (c : ℕ) → is_closing c ≡ true → IsScalar c
closing-scalar c h = (closing_is c h).6

pub quote-scalar : (q : ℕ) → is_quote q ≡ true → IsScalar q
unfolding is_quote
quote-scalar q h = each_of (λ x. IsScalar x) (39 ∷ 34 ∷ []) q (refl, (refl, tt)) h

quote-not-return : (q : ℕ) → is_quote q ≡ true → is_return q ≡ false
unfolding is_quote is_return
quote-not-return q h = none_of is_return (39 ∷ 34 ∷ []) q refl h

pub comment-breaks : move_of Mode.Comment 10 ≡ Move.Breaks
unfolding move_of is_break
comment-breaks = refl

pub feed-starts : start_of 10 ≡ Start.LineEnd
unfolding is_line_feed
feed-starts = start-feed 10 refl

pub closing_of-closing : (c : ℕ) → is_closing (closing_of c) ≡ true
unfolding is_closing
closing_of-closing c = cond_both (c == 40) _ _ (λ x. is_closing x ≡ true) (λ h. refl) (λ h. cond_both (c == 91) _ _ (λ x. is_closing x ≡ true) (λ k. refl) (λ k. refl))

-- How the open piece can be finished, told once for every machine: `Comes` says that it can be, in this mode and with this text;
-- it is so at once, after one character more by which the piece grows or with which it ends, and at the end of a comment.
module _ (Comes : Mode → List ℕ → Type 0) (once : (m : Mode) (held : List ℕ) → IsReady m → Comes m held)
    (on : (m n : Mode) (held : List ℕ) (c : ℕ) → is_final m ≡ false → IsScalar c → move_of m c ≡ Move.Grows n → Comes n (held ++ c ∷ []) → Comes m held)
    (last : (m : Mode) (held : List ℕ) (c : ℕ) → is_final m ≡ false → IsScalar c → move_of m c ≡ Move.Closes → Comes m held)
    (commented : (held : List ℕ) → Comes Mode.Comment held) where
  -- a string, with its quote
  strings : (q : ℕ) → is_quote q ≡ true → (held : List ℕ) → Comes (Mode.Empty q) held × Comes (Mode.Inside q) held × Comes (Mode.Long q) held × Comes (Mode.LongOne q) held × Comes (Mode.LongTwo q) held
  unfolding move_of
  strings q quotes held = let scalar = quote-scalar q quotes in
      let two : (h : List ℕ) → Comes (Mode.LongTwo q) h = λ h. last (Mode.LongTwo q) h q refl scalar (rw (eq-eqb q q refl)) in
      let one : (h : List ℕ) → Comes (Mode.LongOne q) h = λ h. on (Mode.LongOne q) (Mode.LongTwo q) h q refl scalar (rw (eq-eqb q q refl)) (two (h ++ q ∷ [])) in (
        once (Mode.Empty q) held (record { ends = refl; breaks = λ c h. rw (not_quote c q quotes (closing-not-quote c h)) }),
        last (Mode.Inside q) held q refl scalar (rw (eq-eqb q q refl)),
        on (Mode.Long q) (Mode.LongOne q) held q refl scalar (rw (eq-eqb q q refl)) (one (held ++ q ∷ [])),
        one held,
        two held,
      )

  pub completes : (m : Mode) (done : List Piece) (held : List ℕ) → Holds m done held → Comes m held
  unfolding move_of is_line_feed
  completes Mode.Start done held holds = once Mode.Start held (record { ends = refl; breaks = λ c h. rw (closing_is c h).1 })
  completes Mode.Free done held holds = once Mode.Free held (record { ends = refl; breaks = λ c h. refl })
  completes Mode.Space done held holds = once Mode.Space held (record { ends = refl; breaks = λ c h. rw (closing_is c h).2 })
  completes (Mode.Word s) done held holds =
      once (Mode.Word s) held (record { ends = refl; breaks = λ c h. rw ((closing_is c h).0, and_right (is_prefix_spelling s) (is_quote c) (closing-not-quote c h)) })
  completes Mode.Comment done held holds = commented held
  completes (Mode.Opened q) done held holds =
      on (Mode.Opened q) (Mode.Empty q) held q refl (quote-scalar q holds.opens) (rw (eq-eqb q q refl)) (strings q holds.opens (held ++ q ∷ [])).0
  completes (Mode.Inside q) done held holds = (strings q holds.0.opens held).1
  completes (Mode.Escape q) done held holds =
      on (Mode.Escape q) (Mode.Inside q) held q refl (quote-scalar q holds.3.opens) (rw (quote-not-return q holds.3.opens)) (strings q holds.3.opens (held ++ q ∷ [])).1
  completes (Mode.EscapeReturn q) done held holds =
      last (Mode.EscapeReturn q) held q refl (quote-scalar q holds.4.opens) (rw (excluded is_quote is_line_feed q (λ feeds. (feed-not-others q feeds).0) holds.4.opens, eq-eqb q q refl))
  completes (Mode.Empty q) done held holds = (strings q holds.opens held).0
  completes (Mode.Long q) done held holds = (strings q holds.opens held).2
  completes (Mode.LongOne q) done held holds = (strings q holds.2.opens held).3
  completes (Mode.LongTwo q) done held holds = (strings q holds.2.opens held).4
  completes (Mode.LongEscape q) done held holds =
      on (Mode.LongEscape q) (Mode.Long q) held q refl (quote-scalar q holds.3.opens) refl (strings q holds.3.opens (held ++ q ∷ [])).2
  completes Mode.Backslash done held holds = last Mode.Backslash held 10 refl refl refl
  completes m done held holds = once m held (record { ends = refl; breaks = λ c h. rw (closing_is c h).3 })
