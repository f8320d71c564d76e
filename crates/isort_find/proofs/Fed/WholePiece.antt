-- What a finder over pieces is once it was fed.
use Rattle.std.proofs.Common.{◌≡◌, ℕ, ◌+◌, true, false, None, List, length, take, drop, inl, inr, refl, sym, ◌∙◌, subst, arith}
use Rattle.std.proofs.lemmas.List.{nil_from_length, length-drop}
use Rattle.py_lines.specs.ScannerState.{ScannerState, GoesOnWith}
use Rattle.py_lines.specs.declared.fault.Fault.{Fault}
use Rattle.isort_find.specs.Cursor.{CursorState}
use Rattle.isort_find.specs.Position.{phase_in}
use Rattle.isort_find.specs.Pieces.{PieceFinderState, piece_finder_state, fed_by, has_ready, IsOpenYet, MayBeFed, TakesFromPiece}
use Rattle.isort_find.specs.Private.PieceSteps.{TakesLines, HasTakenAll, IsDrained, with_passed}
use Rattle.isort_find.specs.declared.walker.Position.{Position}
use Rattle.isort_find.specs.declared.walker.Position.TheVariants as position
use Rattle.isort_find.specs.declared.walker.Phase.TheVariants as phase
use Rattle.isort_find.specs.Private.KnownLaws.{AscentLaws, OneSettled, SettledLaws}
use Rattle.isort_find.proofs.Fed.Known.{true_or_false}
use Rattle.isort_find.proofs.Fed.Settled.{top_undecided}
use Rattle.isort_find.proofs.Fed.Held.{knows_any, knows_top}
use Rattle.isort_find.proofs.Fed.OneLine.{open_or_fault, open_or_end, end_or_fault, end_not_ready}
use Rattle.isort_find.proofs.Fed.MoreLines.{goes_then}

-- before a fault the text hasn't ended
pub yet_open : (f : PieceFinderState) → phase_in f.position ≡ phase.Open → IsOpenYet f → f.scanning.ended ≡ false
yet_open f here yet = yet (λ fault is. open_or_fault f.position fault here is)

pub yet_end : (f : PieceFinderState) → phase_in f.position ≡ phase.End → IsOpenYet f → f.scanning.ended ≡ false
yet_end f here yet = yet (λ fault is. end_or_fault f.position fault here is)

-- after the top a piece is taken whole
passes_at : SettledLaws → AscentLaws → (s : ScannerState) (at : Position) (cursor : CursorState) (piece : List ℕ) → phase_in at ≡ phase.End → s.ended ≡ false → TakesFromPiece (piece_finder_state s at cursor) piece (length piece) (with_passed (piece_finder_state s at cursor) (length piece))
passes_at laws ascent s (position.End passed) cursor piece top yet =
    let g : PieceFinderState = with_passed (piece_finder_state s (position.End passed) cursor) (length piece) in
    let fine : (fault : Fault) → g.position ≡ position.Fault fault → ⊥ = λ fault is. end_or_fault g.position fault refl is in
    record {
      takes = record { within = omega arith; fed = omega arith; waits = λ ready. absurd (true_or_false _ refl ready); some = λ zero. inl (nil_from_length piece zero); whole = λ none. refl };
      before = record { no_fault = λ fault is. end_or_fault (position.End passed) fault refl is; yet = yet };
      after = record { no_fault = fine; yet = yet };
      stays = λ was. refl;
      cursor = refl;
      next_new = λ none. tt;
      texts = λ text values h goes. record {
        knows = knows_top laws ascent s (fed_by (piece_finder_state s (position.End passed) cursor) + length piece) cursor text values (record { stopped = h.stopped; reached = h.reached });
        undecided = λ none. top_undecided laws s cursor.options text (fed_by g) values yet (omega arith) h.reached;
      };
    }
passes_at laws ascent s (position.Between skip) cursor piece top yet = absurd cc
passes_at laws ascent s (position.Unread start skip) cursor piece top yet = absurd cc
passes_at laws ascent s (position.Within p) cursor piece top yet = absurd cc
passes_at laws ascent s (position.Fault fault) cursor piece top yet = absurd cc

pub passes_piece : SettledLaws → AscentLaws → (f new : PieceFinderState) (piece : List ℕ) → phase_in f.position ≡ phase.End → f.scanning.ended ≡ false → new ≡ with_passed f (length piece) → TakesFromPiece f piece (length piece) new
passes_piece laws ascent f new piece top yet is = subst (TakesFromPiece f piece (length piece)) (sym is) (passes_at laws ascent f.scanning f.position f.cursor piece top yet)

-- before the text's end bytes may be fed to a finder that goes on
goes_on_open : (f : PieceFinderState) → phase_in f.position ≡ phase.Open → f.scanning.ended ≡ false → MayBeFed f
goes_on_open f opened yet = record { no_fault = λ fault failed. open_or_fault f.position fault opened failed; yet = yet }

whole_piece : (piece : List ℕ) (n : ℕ) (f : PieceFinderState) → (phase_in f.position ≡ phase.End → ⊥) → HasTakenAll piece n f → (n ≡ length piece) × (f.scanning.ready ≡ None)
whole_piece piece n f no_end (inl top) = absurd (no_end top)
whole_piece piece n f no_end (inr all) = all

drained : (piece : List ℕ) (n : ℕ) (f : PieceFinderState) → HasTakenAll piece n f → IsDrained f
drained piece n f (inl top) = inr top
drained piece n f (inr all) = inl all.1

-- bytes were taken line by line, and the top has no end yet
pub feeds_lines : SettledLaws → OneSettled → AscentLaws → (old new : PieceFinderState) (piece : List ℕ) (n : ℕ) → phase_in old.position ≡ phase.Open → old.scanning.ended ≡ false → has_ready old ≡ false → (phase_in new.position ≡ phase.End → ⊥) → TakesLines old piece n new → (has_ready new ≡ false → HasTakenAll piece n new) → TakesFromPiece old piece n new
feeds_lines laws one ascent old new piece n opened yet none no_end t done =
    let after : MayBeFed new = record { no_fault = t.no_fault; yet = t.advances.open_yet ∙ yet } in
    record {
      takes = record {
        within = t.advances.within;
        fed = t.advances.fed;
        waits = λ ready. absurd (true_or_false _ none ready);
        some = λ zero. inl (t.some zero);
        whole = λ nothing. (whole_piece piece n new no_end (done nothing)).0;
      };
      before = goes_on_open old opened yet;
      after = after;
      stays = λ top. absurd (open_or_end _ opened top);
      cursor = t.advances.cursor;
      next_new = λ nothing. t.next_new;
      texts = λ text values h goes. record {
        knows = knows_any laws one ascent new text values (λ still nothing. (whole_piece piece n new no_end (done nothing)).1) (λ over ready. absurd (true_or_false _ after.yet over)) (t.advances.found text values h goes);
        undecided = λ nothing. t.undecided text values h goes nothing (drained piece n new (done nothing));
      };
    }

-- bytes were taken up to the end of the top, and then the rest
pub feeds_top : SettledLaws → AscentLaws → (old mid new : PieceFinderState) (piece : List ℕ) (t : ℕ) → phase_in old.position ≡ phase.Open → old.scanning.ended ≡ false → has_ready old ≡ false → phase_in mid.position ≡ phase.End → TakesLines old piece t mid → new ≡ with_passed mid (length (drop t piece)) → TakesFromPiece old piece (t + length (drop t piece)) new
feeds_top laws ascent old mid new piece t opened yet none at first is =
    let rest = drop t piece in
    let next = passes_piece laws ascent mid new rest at (first.advances.open_yet ∙ yet) is in
    let size = length-drop t piece in
    let whole : t + length rest ≡ length piece = (let k = first.advances.within in omega (arith, k, size)) in
    let goes : (text : List ℕ) → GoesOnWith text (fed_by old) (take (t + length rest) piece) → GoesOnWith text (fed_by old) (take t piece) × GoesOnWith text (fed_by mid) (take (length rest) rest) = λ text all. let both = goes_then text (fed_by old) piece t (length rest) first.advances.within next.takes.within all in (both.0, subst (λ (p : ℕ). GoesOnWith text p (take (length rest) rest)) (sym first.advances.fed) both.1) in
    record {
      takes = record {
        within = omega (arith, whole);
        fed = (let k = next.takes.fed in let m = first.advances.fed in omega (arith, k, m));
        waits = λ ready. absurd (true_or_false _ none ready);
        some = λ zero. inl (nil_from_length piece (sym whole ∙ zero));
        whole = λ nothing. whole;
      };
      before = goes_on_open old opened yet;
      after = next.after;
      stays = λ top. absurd (open_or_end _ opened top);
      cursor = next.cursor ∙ first.advances.cursor;
      next_new = λ nothing. next.next_new (end_not_ready mid.position at);
      texts = λ text values h all. let g = goes text all in next.texts text values (first.advances.found text values h g.0) g.1;
    }

-- nothing is taken where something is ready
pub feeds_none : SettledLaws → OneSettled → AscentLaws → (f : PieceFinderState) (piece : List ℕ) → phase_in f.position ≡ phase.Open → f.scanning.ended ≡ false → has_ready f ≡ true → TakesFromPiece f piece 0 f
feeds_none laws one ascent f piece opened yet ready = record {
  takes = record { within = omega arith; fed = omega arith; waits = λ was. (refl, refl); some = λ zero. inr ready; whole = λ none. absurd (true_or_false _ none ready) };
  before = goes_on_open f opened yet;
  after = goes_on_open f opened yet;
  stays = λ top. top;
  cursor = refl;
  next_new = λ none. absurd (true_or_false _ none ready);
  texts = λ text values h goes. record {
    knows = knows_any laws one ascent f text values (λ still none. absurd (true_or_false _ none ready)) (λ over some. absurd (true_or_false _ yet over)) h;
    undecided = λ none. absurd (true_or_false _ none ready);
  };
}
