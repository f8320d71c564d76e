-- A text is compared with pieces, which come one after another.
use Rattle.std.proofs.Common.{◌≡◌, ◌≢◌, true, false, Bool, MatchBool, Option, None, Some, is_some, MatchOption, List, ℕ, [], ◌+◌, ◌++◌, length, take, drop, refl, sym, ap, ◌∙◌, subst, append_assoc, append-nil, Bor}
use Rattle.std.specs.Cmp.Lexicographic.{bytes_decides, pointwise}
use Rattle.std.proofs.Math.Dec.{eqb}
use Rattle.std.proofs.Math.Seq.{take-append_seam}
use Rattle.std.proofs.lemmas.List.{append_cancel_left, take-append-drop}
use Rattle.isort_sort.specs.Private.Compared.{IsCutOff, IsCompared, Takes}
use Rattle.isort_sort.specs.declared.comparison.Comparison.{Comparison}

-- what `strip_prefix` answers
abbrev Strips : List ℕ → List ℕ → Option (Bor (List ℕ)) → Type 0
Strips bytes prefix r = MatchOption r (pointwise eqb (take (length prefix) bytes) prefix ≡ false) (λ x. (pointwise eqb (take (length prefix) bytes) prefix ≡ true) × (x.now ≡ drop (length prefix) bytes) × (length x.now + length prefix ≡ length bytes))

cut_by_strip : (bytes prefix : List ℕ) (r : Option (Bor (List ℕ))) → Strips bytes prefix r → IsCutOff bytes prefix r
cut_by_strip bytes prefix None h =
    λ rest begins.
    let same : pointwise eqb (take (length prefix) bytes) prefix ≡ true = (bytes_decides _ _).1 (ap (take (length prefix)) begins ∙ take-append_seam prefix rest) in
    absurd (cc)
cut_by_strip bytes prefix (Some x) h =
    sym (take-append-drop (length prefix) bytes) ∙ ap (λ (t : List ℕ). t ++ drop (length prefix) bytes) ((bytes_decides _ _).0 h.0) ∙ ap (λ (t : List ℕ). prefix ++ t) (sym h.1)

cut_further : (bytes before rest text : List ℕ) (r : Option (Bor (List ℕ))) → bytes ≡ before ++ rest → IsCutOff rest text r → IsCutOff bytes (before ++ text) r
cut_further bytes before rest text None split h = λ more begins. h more (append_cancel_left before rest (text ++ more) (sym split ∙ begins ∙ append_assoc before text more))
cut_further bytes before rest text (Some x) split h = split ∙ ap (λ (t : List ℕ). before ++ t) h ∙ sym (append_assoc before text x.now)

-- a piece is taken from what is left
pub takes_by_strip : (old new : Comparison) (left : Bor (List ℕ)) (piece : List ℕ) → old.left ≡ Some left → Strips left.now piece new.left → Takes old piece new
takes_by_strip old new left piece some h = λ text pieces is. cut_further text pieces left.now piece new.left (subst (IsCutOff text pieces) some is) (cut_by_strip left.now piece new.left h)

-- a text that differs goes on differing
pub takes_by_none : (c : Comparison) (piece : List ℕ) → c.left ≡ None → Takes c piece c
takes_by_none c piece none =
    λ text pieces is.
    let differs = subst (IsCutOff text pieces) none is in
    subst (IsCutOff text (pieces ++ piece)) (sym none) (λ rest begins. differs (piece ++ rest) (begins ∙ append_assoc pieces piece rest))

pub takes_nothing : (c : Comparison) → Takes c [] c
takes_nothing c = λ text pieces is. subst (λ (t : List ℕ). IsCutOff text t c.left) (sym (append-nil pieces)) is

pub takes_both : (a b c : Comparison) (x y : List ℕ) → Takes a x b → Takes b y c → Takes a (x ++ y) c
takes_both a b c x y first second = λ text pieces is. subst (λ (t : List ℕ). IsCutOff text t c.left) (append_assoc pieces x y) (second text (pieces ++ x) (first text pieces is))

pub none_left : (left : Option (Bor (List ℕ))) → is_some left ≡ false → left ≡ None
none_left None h = refl
none_left (Some x) h = absurd (cc)

pub takes_all : (a b : Comparison) (x more : List ℕ) → Takes a x b → is_some b.left ≡ false → Takes a (x ++ more) b
takes_all a b x more first differs = takes_both a b b x more first (takes_by_none b more (none_left b.left differs))

-- at the last piece
pub ends_or_not : (text pieces last : List ℕ) (left : Bor (List ℕ)) (same : Bool) (c : Comparison) → c.left ≡ Some left → IsCompared text pieces c → same ≡ pointwise eqb left.now last → MatchBool same (pieces ++ last ≡ text) (pieces ++ last ≢ text)
ends_or_not text pieces last left same c some is e = by same e
  where
    split : text ≡ pieces ++ left.now
    split = subst (IsCutOff text pieces) some is

    by : (b : Bool) → b ≡ pointwise eqb left.now last → MatchBool b (pieces ++ last ≡ text) (pieces ++ last ≢ text)
    by true e = ap (λ (t : List ℕ). pieces ++ t) (sym ((bytes_decides left.now last).0 (sym e))) ∙ sym split
    by false e =
        λ all.
        let equal : left.now ≡ last = append_cancel_left pieces left.now last (sym split ∙ sym all) in
        let yes : pointwise eqb left.now last ≡ true = (bytes_decides left.now last).1 equal in
        cc

pub ends_no_more : (text pieces last : List ℕ) (c : Comparison) → c.left ≡ None → IsCompared text pieces c → pieces ++ last ≢ text
ends_no_more text pieces last c none is = λ all. (subst (IsCutOff text pieces) none is) last (sym all)
