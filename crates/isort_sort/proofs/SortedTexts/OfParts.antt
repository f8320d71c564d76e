-- A sorted text in parts is the text of its parts.
use Rattle.std.proofs.Common.{◌≡◌, ◌⊎◌, inl, inr, ℕ, ◌+◌, ◌<◌, ◌≤◌, true, false, is_some, Option, Result, Ok, Err, OnErr, List, [], ◌∷◌, ◌++◌, length, drop, take, get_or, sym, ap, ◌∙◌, subst, append_assoc, append-nil}
use Rattle.std.specs.Io.KnownBytes.{Appends}
use Rattle.std.proofs.KnownBytes.{Appends-trans}
use Rattle.std.specs.Str.{IsUtf8}
use Rattle.std.proofs.lemmas.List.Elements.{All-push}
use Rattle.std.proofs.lemmas.List.{take_all, take_more, take-append-drop}
use Rattle.std.proofs.lemmas.List.Concat.{flat_map-append}
use Rattle.isort_settings.specs.Values.{Values}
use Rattle.isort_sort.specs.Private.Compared.{IsCompared}
use Rattle.isort_sort.specs.Private.Parts.{bytes_of, piece_bytes, AreTexts, HasMade}
use Rattle.isort_sort.specs.Answers.{Checks, IsSortedAs, TellsOutcome}
use Rattle.isort_sort.specs.declared.comparison.Comparison.{Comparison}
use Rattle.isort_sort.specs.declared.answer.Outcome.{Outcome}
use Rattle.isort_sort.specs.declared.answer.Outcome.TheVariants as outcome
use Rattle.isort_sort.specs.Written.{AppendsPrefix}
use Rattle.isort_sort.specs.declared.answer.SortError.{SortError}
use Rattle.isort_sort.specs.declared.sorted_text.Piece.{Piece}
use Rattle.isort_sort.specs.declared.parts.Parts.{Parts}
use Rattle.isort_sort.proofs.SortedTexts.Comparing.{ends_no_more, none_left}
use Rattle.isort_sort.proofs.SortedTexts.Parts.{goes_on_sorted}
use Rattle.isort_sort.proofs.Orders.Statements.{AreOrders}

-- one piece more, all pieces, and what a piece stands between
pub bytes_push : (pieces : List Piece) (piece : Piece) → bytes_of (pieces ++ piece ∷ []) ≡ bytes_of pieces ++ piece_bytes piece
bytes_push pieces piece = flat_map-append piece_bytes pieces (piece ∷ []) ∙ ap (λ (t : List ℕ). bytes_of pieces ++ t) (append-nil (piece_bytes piece))

pub bytes_more : (items : List Piece) (k : ℕ) (piece : Piece) (bytes : List ℕ) → k < length items → piece ≡ get_or items k piece → bytes ≡ piece_bytes piece → bytes_of (take (k + 1) items) ≡ bytes_of (take k items) ++ bytes
bytes_more items k piece bytes within at same =
    ap bytes_of (take_more items k piece within)
    ∙ bytes_push (take k items) (get_or items k piece)
    ∙ ap (λ (t : List ℕ). bytes_of (take k items) ++ t) (ap piece_bytes (sym at) ∙ sym same)

pub texts_push : (pieces new : List Piece) (piece : Piece) → new ≡ pieces ++ piece ∷ [] → AreTexts pieces → IsUtf8 (piece_bytes piece) → AreTexts new
texts_push pieces new piece is texts utf8 = subst AreTexts (sym is) (All-push (λ p. IsUtf8 (piece_bytes p)) pieces piece texts utf8)

pub bytes_all : (items pieces : List Piece) (k : ℕ) → items ≡ pieces → length items ≤ k → bytes_of (take k items) ≡ bytes_of pieces
bytes_all items pieces k are past = ap bytes_of (take_all k items past ∙ are)

pub bytes_split : (items pieces : List Piece) (k : ℕ) (piece : Piece) (bytes : List ℕ) → items ≡ pieces → k < length items → piece ≡ get_or items k piece → bytes ≡ piece_bytes piece → bytes_of pieces ≡ bytes_of (take k items) ++ (bytes ++ bytes_of (drop (k + 1) items))
bytes_split items pieces k piece bytes are within at same =
    ap bytes_of (sym are ∙ sym (take-append-drop (k + 1) items))
    ∙ flat_map-append piece_bytes (take (k + 1) items) (drop (k + 1) items)
    ∙ ap (λ (t : List ℕ). t ++ bytes_of (drop (k + 1) items)) (bytes_more items k piece bytes within at same)
    ∙ append_assoc (bytes_of (take k items)) bytes (bytes_of (drop (k + 1) items))

pub regrouped : (all done part more : List ℕ) → all ≡ done ++ (part ++ more) → all ≡ (done ++ part) ++ more
regrouped all done part more is = is ∙ sym (append_assoc done part more)

-- the text doesn't begin with the parts so far
pub checked_early : (text : List ℕ) (v : Values) (p : Parts) (out : List ℕ) (c : Comparison) → AreOrders v → HasMade text v p out → IsCompared text out c → is_some c.left ≡ false → (sorted : List ℕ) × IsSortedAs text v outcome.Changed sorted
checked_early text v p out c orders made compared differs =
    let s = goes_on_sorted text v p out orders made in
    (out ++ s.0, (s.1, ends_no_more text out s.0 c (none_left c.left differs) compared))

-- what sorting comes to tells whether the text is its own sorted text
pub unchanged_is_sorted : (text : List ℕ) (v : Values) (o : Outcome) → (o ≡ outcome.Same) ⊎ (o ≡ outcome.Skipped) → TellsOutcome text v (Ok o) → Checks text v (Ok true)
unchanged_is_sorted text v outcome.Same is (sorted, told) = (sorted, inr told.0, told.1)
unchanged_is_sorted text v outcome.Skipped is (sorted, told) = (sorted, inl told, told.1)
unchanged_is_sorted text v outcome.Changed (inl is) told = absurd (cc)
unchanged_is_sorted text v outcome.Changed (inr is) told = absurd (cc)

pub changed_is_unsorted : (text : List ℕ) (v : Values) (o : Outcome) → o ≡ outcome.Changed → TellsOutcome text v (Ok o) → Checks text v (Ok false)
changed_is_unsorted text v outcome.Changed is (sorted, told) = (sorted, inr told.0, told.1)
changed_is_unsorted text v outcome.Same is told = absurd (cc)
changed_is_unsorted text v outcome.Skipped is told = absurd (cc)

-- a prefix of what is left was written
pub appends_prefix : (old mid new : Option (List ℕ)) (all done bytes more : List ℕ) → Appends old mid done → AppendsPrefix mid new bytes → all ≡ done ++ (bytes ++ more) → AppendsPrefix old new all
appends_prefix old mid new all done bytes more before f is = record {
  prefix = done ++ f.prefix;
  rest = f.rest ++ more;
  split = sym (is ∙ ap (λ (t : List ℕ). done ++ (t ++ more)) (sym f.split) ∙ simp append_assoc);
  appended = Appends-trans _ _ _ _ _ before f.appended;
}

pub on_err : {T : Type 0} (r : Result T SortError) (P : Type 0) → P → OnErr r P
on_err (Ok x) P h = tt
on_err (Err e) P h = h
