-- The pieces of a text's logical lines, one list after another.
use Rattle.std.proofs.Common.{◌≡◌, ℕ, ◌==◌, Bool, true, false, cond, if◌then◌else◌, ◌&&◌, ◌⊎◌, ⊎_elim, inl, inr, List, [], ◌∷◌, ◌++◌, flat_map, refl, sym, ap, ◌∙◌, subst, append-nil}
use Rattle.std.specs.Str.{all_scalars}
use Rattle.std.proofs.lemmas.Bool.{and_parts, and_from, eqb-true, cases_Bool}
use Rattle.py_lines.specs.PieceGrammar.{feed, return_feed, return}
use Rattle.py_lines.specs.FieldStrings.{Host, quotes_of}
use Rattle.py_lines.specs.Balance.{depth_after, depth_through, IsBalanced as balance}
use Rattle.py_lines.specs.Fields.{InClass, MayPrecede, AreReadBefore}
use Rattle.py_lines.specs.Reading.{IsBalancedReading, EndsLine}
use Rattle.py_lines.specs.Character.{is_line_feed, is_return}
use Rattle.py_lines.specs.LogicalLine.{is_line_end_class, put_first, cut}
use Rattle.py_lines.specs.Neighbours.{MayFollowLines}
use Rattle.py_lines.specs.Piece.{Class, mark, space, word, string, operator, comment, join, line_end, Piece, begins, ends, begins_marked, spelled}
use Rattle.isort_sort.proofs.LineLaws.Parts.{spelled-append, scalars-append}

-- what whole lines and pieces after them are, as the lexer's laws say
pub record LineLaws : Type 0 where
  pub together : (lines rest : List Piece) → EndsLine lines → IsBalancedReading lines (spelled lines) → IsBalancedReading rest (spelled rest) → MayFollowLines lines rest → IsBalancedReading (lines ++ rest) (spelled (lines ++ rest))
  pub apart : (lines rest : List Piece) → EndsLine lines → IsBalancedReading (lines ++ rest) (spelled (lines ++ rest)) → IsBalancedReading lines (spelled lines) × IsBalancedReading rest (spelled rest)
  pub cut_apart : (lines rest : List Piece) → EndsLine lines → cut 0 (lines ++ rest) ≡ cut 0 lines ++ cut 0 rest

-- the pieces of lists, one list after another
abbrev pub flat : List (List Piece) → List Piece
flat us = flat_map (λ u. u) us

-- pieces that are read, as one logical line
pub record IsUnit (u : List Piece) : Type 0 where
  pub reading : IsBalancedReading u (spelled u)
  pub scalars : all_scalars (spelled u) ≡ true
  pub whole : cut 0 u ≡ u ∷ []

-- what may follow pieces: nothing, or others after a line end
abbrev pub MayFollowUnit : List Piece → List (List Piece) → Type 0
MayFollowUnit u [] = Unit {0}
MayFollowUnit u (w ∷ us) = EndsLine u × MayFollowLines u w

-- the logical lines of a text, each as its pieces
abbrev pub AreUnits : List (List Piece) → Type 0
AreUnits [] = Unit {0}
AreUnits (u ∷ us) = IsUnit u × MayFollowUnit u us × AreUnits us

-- the characters of two lists
pub scalars-parts : (xs ys : List ℕ) → all_scalars (xs ++ ys) ≡ true → (all_scalars xs ≡ true) × (all_scalars ys ≡ true)
scalars-parts [] ys h = (refl, h)
scalars-parts (x ∷ xs) ys h =
    let parts = and_parts _ (all_scalars (xs ++ ys)) h in
    let later = scalars-parts xs ys parts.1 in
    (and_from _ _ parts.0 later.0, later.1)

-- a piece has a character
some_after : (prefix : List ℕ) (q : ℕ) (more : List ℕ) → (c : ℕ) × (cs : List ℕ) × (prefix ++ q ∷ more ≡ c ∷ cs)
some_after [] q more = (q, more, refl)
some_after (c ∷ cs) q more = (c, cs ++ q ∷ more, refl)

some_host : (prefix : List ℕ) (host : Host) (more : List ℕ) → (c : ℕ) × (cs : List ℕ) × (prefix ++ (quotes_of host ++ more) ≡ c ∷ cs)
some_host prefix host more = go host.is_long
  where
    go : (long : Bool) → (c : ℕ) × (cs : List ℕ) × (prefix ++ ((if long then host.quote ∷ host.quote ∷ host.quote ∷ [] else host.quote ∷ []) ++ more) ≡ c ∷ cs)
    go true = some_after prefix host.quote (host.quote ∷ host.quote ∷ more)
    go false = some_after prefix host.quote more

pub first_character : (class : Class) (text : List ℕ) → InClass class text → (c : ℕ) × (cs : List ℕ) × (text ≡ c ∷ cs)
first_character mark text is = (is.0, [], is.1)
first_character space text is = (is.0, is.1, is.2)
first_character word text is = (is.0, is.1, is.2)
first_character string text (inl (inl (s, none))) = let f = some_after s.prefix s.quote _ in (f.0, f.1, s.spell ∙ f.2)
first_character string text (inl (inr (s, none))) = let f = some_after s.prefix s.quote _ in (f.0, f.1, s.spell ∙ f.2)
first_character string text (inr s) = let f = some_host s.prefix s.host _ in (f.0, f.1, s.spell ∙ f.2)
first_character operator text is = (is.0, [], is.1)
first_character comment text is = (is.0, is.1, is.2)
first_character join text is = (is.0, is.1, is.2)
first_character line_end text (feed e) = (10, [], e)
first_character line_end text (return_feed e) = (13, 10 ∷ [], e)
first_character line_end text (return e) = (13, [], e)

-- a logical line begins as it does before others
pub begins-first : (f : ℕ → Bool) (w rest : List Piece) → IsUnit w → begins f (spelled (w ++ rest)) ≡ begins f (spelled w)
begins-first f [] rest is = absurd (let e = is.whole in cc)
begins-first f (p ∷ ps) rest is =
    let c = first_character p.class p.text is.reading.reads.fit.0 in
    ap (λ (t : List ℕ). begins f (t ++ spelled (ps ++ rest))) c.2 ∙ sym (ap (λ (t : List ℕ). begins f (t ++ spelled ps)) c.2)

marked-first : (w rest : List Piece) → IsUnit w → begins_marked (w ++ rest) ≡ begins_marked w
marked-first [] rest is = absurd (let e = is.whole in cc)
marked-first (p ∷ ps) rest is = refl

pub follow-more : (u w rest : List Piece) → IsUnit w → MayFollowLines u w → MayFollowLines u (w ++ rest)
follow-more u w rest is h = record { unmarked = marked-first w rest is ∙ h.unmarked; uncut = ap (λ b. ends is_return (spelled u) && b) (begins-first is_line_feed w rest is) ∙ h.uncut }

follow-less : (u w rest : List Piece) → IsUnit w → MayFollowLines u (w ++ rest) → MayFollowLines u w
follow-less u w rest is h = record { unmarked = sym (marked-first w rest is) ∙ h.unmarked; uncut = ap (λ b. ends is_return (spelled u) && b) (sym (begins-first is_line_feed w rest is)) ∙ h.uncut }

-- logical lines that may follow one another are read together, and are cut again
pub read_units : LineLaws → (us : List (List Piece)) → AreUnits us → IsBalancedReading (flat us) (spelled (flat us))
read_units laws [] are = record { reads = record { spell = refl; fit = tt }; balanced = balance.none [] refl; shallow = tt }
read_units laws (u ∷ []) are = subst (λ (l : List Piece). IsBalancedReading l (spelled l)) (sym (append-nil u)) are.0.reading
read_units laws (u ∷ w ∷ us) are =
    laws.together u (flat (w ∷ us)) are.1.0 are.0.reading (read_units laws (w ∷ us) are.2) (follow-more u w (flat us) are.2.0 are.1.1)

pub cut_units : LineLaws → (us : List (List Piece)) → AreUnits us → cut 0 (flat us) ≡ us
cut_units laws [] are = refl
cut_units laws (u ∷ []) are = ap (cut 0) (append-nil u) ∙ are.0.whole
cut_units laws (u ∷ w ∷ us) are =
    laws.cut_apart u (flat (w ∷ us)) are.1.0 ∙ (λ i. are.0.whole i ++ cut_units laws (w ∷ us) are.2 i)

pub scalar_units : (us : List (List Piece)) → AreUnits us → all_scalars (spelled (flat us)) ≡ true
scalar_units [] are = refl
scalar_units (u ∷ us) are = ap all_scalars (spelled-append u (flat us)) ∙ scalars-append (spelled u) (spelled (flat us)) are.0.scalars (scalar_units us are.2)

-- the first line of pieces, which stand at this depth, and those after it
abbrev EndsAt : ℕ → List Piece → Type 0
EndsAt d u = (body : List Piece) × (last : Piece) × (u ≡ body ++ last ∷ []) × (last.class ≡ line_end) × (depth_through d body ≡ 0)

record FirstLine (d : ℕ) (all : List Piece) : Type 0 where
  first : List Piece
  others : List Piece
  spell : all ≡ first ++ others
  cuts : cut d all ≡ first ∷ cut 0 others
  own : cut d first ≡ first ∷ []
  ended : (others ≡ []) ⊎ EndsAt d first

pub is_end_class : (class : Class) → is_line_end_class class ≡ true → class ≡ line_end
is_end_class line_end h = refl
is_end_class _ h = absurd (cc)

-- one more piece before pieces
tested : (d : ℕ) (p : Piece) (qs : List Piece) (b : Bool) → is_line_end_class p.class && (d == 0) ≡ b → cut d (p ∷ qs) ≡ cond b ((p ∷ []) ∷ cut d qs) (put_first p (cut (depth_after d p) qs))
tested d p qs b e = ap (λ x. cond x ((p ∷ []) ∷ cut d qs) (put_first p (cut (depth_after d p) qs))) e

line_alone : (d : ℕ) (p : Piece) (qs : List Piece) → is_line_end_class p.class && (d == 0) ≡ true → FirstLine d (p ∷ qs)
line_alone d p qs e =
    let parts = and_parts (is_line_end_class p.class) (d == 0) e in
    let zero : d ≡ 0 = eqb-true d 0 parts.1 in
    record {
      first = p ∷ [];
      others = qs;
      spell = refl;
      cuts = tested d p qs true e ∙ ap (λ (n : ℕ). (p ∷ []) ∷ cut n qs) zero;
      own = tested d p [] true e;
      ended = inr ([], p, refl, is_end_class p.class parts.0, zero);
    }

line_further : (d : ℕ) (p : Piece) (qs : List Piece) → is_line_end_class p.class && (d == 0) ≡ false → FirstLine (depth_after d p) qs → FirstLine d (p ∷ qs)
line_further d p qs e r =
    record {
      first = p ∷ r.first;
      others = r.others;
      spell = ap (λ l. p ∷ l) r.spell;
      cuts = tested d p qs false e ∙ ap (put_first p) r.cuts;
      own = tested d p r.first false e ∙ ap (put_first p) r.own;
      ended = ⊎_elim (λ (none : r.others ≡ []). inl none) (λ (k : EndsAt (depth_after d p) r.first). inr (p ∷ k.0, k.1, ap (λ l. p ∷ l) k.2, k.3, k.4)) r.ended;
    }

line_last : (d : ℕ) (p : Piece) → is_line_end_class p.class && (d == 0) ≡ false → FirstLine d (p ∷ [])
line_last d p e = record { first = p ∷ []; others = []; spell = refl; cuts = tested d p [] false e; own = tested d p [] false e; ended = inl refl }

first_line : (d : ℕ) (p : Piece) (ps : List Piece) → FirstLine d (p ∷ ps)
first_line d p [] = ⊎_elim (line_alone d p []) (line_last d p) (cases_Bool (is_line_end_class p.class && (d == 0)))
first_line d p (q ∷ qs) = ⊎_elim (line_alone d p (q ∷ qs)) (λ e. line_further d p (q ∷ qs) e (first_line (depth_after d p) q qs)) (cases_Bool (is_line_end_class p.class && (d == 0)))

-- the last character of pieces is that of the last of them
ends-append : (f : ℕ → Bool) (xs : List ℕ) (c : ℕ) (cs : List ℕ) → ends f (xs ++ c ∷ cs) ≡ ends f (c ∷ cs)
ends-append f [] c cs = refl
ends-append f (x ∷ []) c cs = refl
ends-append f (x ∷ y ∷ xs) c cs = ends-append f (y ∷ xs) c cs

pub ends-last : (f : ℕ → Bool) (body : List Piece) (last : Piece) → InClass last.class last.text → ends f (spelled (body ++ last ∷ [])) ≡ ends f last.text
ends-last f body last is =
    let c = first_character last.class last.text is in
    ap (ends f) (spelled-append body (last ∷ []) ∙ ap (λ t. spelled body ++ t) (append-nil last.text ∙ c.2)) ∙ ends-append f (spelled body) c.0 c.1 ∙ sym (ap (ends f) c.2)

-- what stands after a line end that is read may follow it
last_read : (body : List Piece) (last : Piece) (rest : List Piece) → AreReadBefore ((body ++ last ∷ []) ++ rest) [] → InClass last.class last.text × MayPrecede last.class last.text (spelled rest ++ []) × (begins_marked rest ≡ false)
last_read [] last rest fit = (fit.0, fit.1, fit.2)
last_read (p ∷ ps) last rest fit = last_read ps last rest fit.3

follows_read : (body : List Piece) (last : Piece) (rest : List Piece) → last.class ≡ line_end → AreReadBefore ((body ++ last ∷ []) ++ rest) [] → MayFollowLines (body ++ last ∷ []) rest
follows_read body last rest class fit =
    let r = last_read body last rest fit in
    let uncut : ends is_return last.text && begins is_line_feed (spelled rest ++ []) ≡ false = subst (λ (c : Class). MayPrecede c last.text (spelled rest ++ [])) class r.1 in
    record {
      unmarked = r.2;
      uncut = ap (λ b. b && begins is_line_feed (spelled rest)) (ends-last is_return body last r.0) ∙ ap (λ t. ends is_return last.text && begins is_line_feed t) (sym (append-nil (spelled rest))) ∙ uncut;
    }

-- the parts that pieces are cut into are the pieces
put_flat : (p : Piece) (us : List (List Piece)) → flat (put_first p us) ≡ p ∷ flat us
put_flat p [] = refl
put_flat p (u ∷ us) = refl

pub flat_cut : (d : ℕ) (ps : List Piece) → flat (cut d ps) ≡ ps
flat_cut d [] = refl
flat_cut d (p ∷ ps) =
    by (is_line_end_class p.class && (d == 0)) (flat_cut d ps) (flat_cut (depth_after d p) ps)
  where
    by : (b : Bool) → flat (cut d ps) ≡ ps → flat (cut (depth_after d p) ps) ≡ ps → flat (cond b ((p ∷ []) ∷ cut d ps) (put_first p (cut (depth_after d p) ps))) ≡ p ∷ ps
    by true ended goes_on = ap (λ l. p ∷ l) ended
    by false ended goes_on = put_flat p (cut (depth_after d p) ps) ∙ ap (λ l. p ∷ l) goes_on

-- the logical lines that pieces are cut into
last_unit : (ps : List Piece) (ws : List (List Piece)) (f : FirstLine 0 ps) → cut 0 f.others ≡ ws → f.others ≡ [] → IsBalancedReading ps (spelled ps) → all_scalars (spelled ps) ≡ true → AreUnits (f.first ∷ ws)
last_unit ps ws f later none reading scalars =
    let same : ps ≡ f.first = f.spell ∙ ap (λ l. f.first ++ l) none ∙ append-nil f.first in
    subst (λ (l : List (List Piece)). AreUnits (f.first ∷ l)) (sym (ap (cut 0) none) ∙ later) (
      record { reading = subst (λ (l : List Piece). IsBalancedReading l (spelled l)) same reading; scalars = ap (λ l. all_scalars (spelled l)) (sym same) ∙ scalars; whole = f.own },
      tt,
      tt,
    )

next_follows : (u : List Piece) (ended : EndsLine u) (rest : List Piece) (ws : List (List Piece)) → flat ws ≡ rest → AreUnits ws → MayFollowLines u rest → MayFollowUnit u ws
next_follows u ended rest [] e are h = tt
next_follows u ended rest (w ∷ ws) e are h = (ended, follow-less u w (flat ws) are.0 (subst (MayFollowLines u) (sym e) h))

follows_first : (u rest : List Piece) → EndsAt 0 u → AreReadBefore (u ++ rest) [] → MayFollowLines u rest
follows_first u rest k fit =
    subst (λ (l : List Piece). MayFollowLines l rest) (sym k.2) (follows_read k.0 k.1 rest k.3 (subst (λ (l : List Piece). AreReadBefore (l ++ rest) []) k.2 fit))

first_unit : (laws : LineLaws) (ps : List Piece) (ws : List (List Piece)) (f : FirstLine 0 ps) → cut 0 f.others ≡ ws → EndsAt 0 f.first → IsBalancedReading ps (spelled ps) → all_scalars (spelled ps) ≡ true → (IsBalancedReading f.others (spelled f.others) → all_scalars (spelled f.others) ≡ true → AreUnits ws) → AreUnits (f.first ∷ ws)
first_unit laws ps ws f later k reading scalars others =
    let whole : IsBalancedReading (f.first ++ f.others) (spelled (f.first ++ f.others)) = subst (λ (l : List Piece). IsBalancedReading l (spelled l)) f.spell reading in
    let both = laws.apart f.first f.others (inr k) whole in
    let parts = scalars-parts (spelled f.first) (spelled f.others) (ap all_scalars (sym (spelled-append f.first f.others)) ∙ ap (λ l. all_scalars (spelled l)) (sym f.spell) ∙ scalars) in
    let are = others both.1 parts.1 in (
      record { reading = both.0; scalars = parts.0; whole = f.own },
      next_follows f.first (inr k) f.others ws (ap flat (sym later) ∙ flat_cut 0 f.others) are (follows_first f.first f.others k whole.reads.fit),
      are,
    )

pub text_units : LineLaws → (us : List (List Piece)) (pieces : List Piece) → cut 0 pieces ≡ us → IsBalancedReading pieces (spelled pieces) → all_scalars (spelled pieces) ≡ true → AreUnits us
text_units laws [] pieces e reading scalars = tt
text_units laws (w ∷ ws) [] e reading scalars = absurd (cc)
text_units laws (w ∷ ws) (p ∷ ps) e reading scalars =
    let f = first_line 0 p ps in
    let same : f.first ∷ cut 0 f.others ≡ w ∷ ws = sym f.cuts ∙ e in
    let first : f.first ≡ w = cc in
    let later : cut 0 f.others ≡ ws = cc in
    subst (λ (u : List Piece). AreUnits (u ∷ ws)) first
    (⊎_elim
    (λ (none : f.others ≡ []). last_unit (p ∷ ps) ws f later none reading scalars)
    (λ (k : EndsAt 0 f.first). first_unit laws (p ∷ ps) ws f later k reading scalars (λ r s. text_units laws ws f.others later r s))
    f.ended)

-- other lines in the place of those after some
pub units_after : (us vs : List (List Piece)) → AreUnits (us ++ vs) → AreUnits vs
units_after [] vs are = are
units_after (u ∷ us) vs are = units_after us vs are.2

pub units_before : (us vs ws : List (List Piece)) → AreUnits (us ++ vs) → ((u : List Piece) → MayFollowUnit u vs → MayFollowUnit u ws) → AreUnits ws → AreUnits (us ++ ws)
units_before [] vs ws are follow k = k
units_before (u ∷ []) vs ws are follow k = (are.0, follow u are.1, k)
units_before (u ∷ w ∷ us) vs ws are follow k = (are.0, are.1, units_before (w ∷ us) vs ws are.2 follow k)
