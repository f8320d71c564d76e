-- The first line end of a text.
use Rattle.std.proofs.Common.{◌≡◌, ℕ, ◌<◌, ◌==◌, Bool, true, false, cond, ◌&&◌, ◌||◌, ◌⊎◌, List, [], ◌∷◌, ◌++◌, length, refl, sym, ap, ◌∙◌, subst, append_assoc, inl, inr, arith}
use Rattle.std.specs.Prelude.{encode_utf8_all}
use Rattle.std.proofs.Math.Utf8.{encode}
use Rattle.std.specs.List.{list_any}
use Rattle.std.proofs.lemmas.Bool.{eqb-true, or_parts}
use Rattle.std.proofs.lemmas.Str.{encodes-append}
use Rattle.py_lines.specs.Character.{is_line_feed, is_return}
use Rattle.py_lines.specs.PieceGrammar.{IsLineEnd, feed, return_feed, return}
use Rattle.py_lines.specs.Fields.{InClass, AreReadBefore}
use Rattle.py_lines.specs.Reading.{EndsLine}
use Rattle.py_lines.specs.Piece.{Class, line_end, Piece, begins, ends, spelled}
use Rattle.isort_sort.specs.Sorted.{first_end}
use Rattle.isort_sort.proofs.LineLaws.Units.{IsUnit, MayFollowUnit, AreUnits, flat, begins-first, ends-last}
use Rattle.isort_sort.proofs.WrittenLines.LineUnits.{are_some, IsEndedUnit}
use Rattle.isort_sort.proofs.LineLaws.Joined.{none-append, none_inside, some_encoded, bytes_of, bytes_of-cons}
use Rattle.isort_sort.proofs.LineLaws.Parts.{spelled-append, by_end, part-end}

-- bytes of line ends
abbrev pub is_end_byte : ℕ → Bool
is_end_byte b = (b == 10) || (b == 13)

abbrev pub is_feed_byte : ℕ → Bool
is_feed_byte b = b == 10

-- text that has this line end first, and then no LF
pub record Breaks (end text : List ℕ) : Type 0 where
  pub before : List ℕ
  pub next : ℕ
  pub rest : List ℕ
  pub is : text ≡ before ++ (end ++ next ∷ rest)
  pub whole : list_any is_end_byte before ≡ false
  pub apart : is_feed_byte next ≡ false

-- text by its line end: that is the first in it, or none is in it, whatever the line end
abbrev pub IsFirstLine : List ℕ → (List ℕ → List ℕ) → Type 0
IsFirstLine end text = Breaks end (text end) ⊎ ((list_any is_end_byte (text end) ≡ false) × ((e : List ℕ) → text e ≡ text end))

-- it is a line end
pub first_is_end : (text : List ℕ) → IsLineEnd (first_end text)
first_is_end [] = feed refl
first_is_end (b ∷ text) = by (b == 10) (b == 13) (begins is_feed_byte text) (first_is_end text)
  where
    by : (x y z : Bool) → IsLineEnd (first_end text) → IsLineEnd (cond x (10 ∷ []) (cond y (cond z (13 ∷ 10 ∷ []) (13 ∷ [])) (first_end text)))
    by true y z later = feed refl
    by false true true later = return_feed refl
    by false true false later = return refl
    by false false z later = later

-- that of a text up to its first line end
pub first_end_is : (text end more : List ℕ) → list_any is_end_byte text ≡ false → IsLineEnd end → (end ≡ 13 ∷ [] → begins is_feed_byte more ≡ false) → first_end (text ++ (end ++ more)) ≡ end
first_end_is [] end more none is apart =
    by_end (λ e. (e ≡ 13 ∷ [] → begins is_feed_byte more ≡ false) → first_end (e ++ more) ≡ e) end (λ h. refl) (λ h. refl) (λ h. ap (λ (b : Bool). cond b (13 ∷ 10 ∷ []) (13 ∷ [])) (h refl)) is apart
first_end_is (b ∷ text) end more none is apart =
    let parts = or_parts (is_end_byte b) (list_any is_end_byte text) none in
    let both = or_parts (b == 10) (b == 13) parts.0 in
    (λ i. cond (both.0 i) (10 ∷ []) (cond (both.1 i) (cond (begins is_feed_byte (text ++ (end ++ more))) (13 ∷ 10 ∷ []) (13 ∷ [])) (first_end (text ++ (end ++ more)))))
    ∙ first_end_is text end more parts.1 is apart

-- texts that begin with the same line have the same
pub first_end_alike : (text end more rest : List ℕ) → IsLineEnd end → (end ≡ 13 ∷ [] → begins is_feed_byte more ≡ false) → (end ≡ 13 ∷ [] → begins is_feed_byte rest ≡ false) → first_end (text ++ (end ++ more)) ≡ first_end (text ++ (end ++ rest))
first_end_alike [] end more rest is h k = first_end_is [] end more refl is h ∙ sym (first_end_is [] end rest refl is k)
first_end_alike (b ∷ text) end more rest is h k =
    λ i. cond (b == 10) (10 ∷ []) (cond (b == 13) (cond (same text i) (13 ∷ 10 ∷ []) (13 ∷ [])) (first_end_alike text end more rest is h k i))
  where
    same : (t : List ℕ) → begins is_feed_byte (t ++ (end ++ more)) ≡ begins is_feed_byte (t ++ (end ++ rest))
    same [] = by_end (λ e. begins is_feed_byte (e ++ more) ≡ begins is_feed_byte (e ++ rest)) end refl refl refl is
    same (c ∷ cs) = refl

-- the line end of a logical line
pub record IsClosed (u : List Piece) : Type 0 where
  pub text : List ℕ
  pub end : List ℕ
  pub is : IsLineEnd end
  pub bytes : encode_utf8_all (spelled u) ≡ text ++ end
  pub last : ends is_return (spelled u) ≡ ends is_return end

last_class : (body : List Piece) (last : Piece) → AreReadBefore (body ++ last ∷ []) [] → InClass last.class last.text
last_class [] last fit = fit.0
last_class (p ∷ ps) last fit = last_class ps last fit.3

pub closed_unit : (u : List Piece) → IsUnit u → EndsLine u → IsClosed u
closed_unit u is (inl none) = absurd (let e = is.whole in cc)
closed_unit u is (inr (body, last, same, class, deep)) =
    let good = last_class body last (subst (λ (l : List Piece). AreReadBefore l []) same is.reading.reads.fit) in
    let closes : IsLineEnd last.text = subst (λ (c : Class). InClass c last.text) class good in
    record {
      text = encode_utf8_all (spelled body);
      end = last.text;
      is = closes;
      bytes = ap (λ l. encode_utf8_all (spelled l)) same ∙ ap encode_utf8_all (spelled-append body (last ∷ [])) ∙ encodes-append (spelled body) (last.text ++ []) ∙ ap (λ (t : List ℕ). encode_utf8_all (spelled body) ++ t) (part-end last.text closes).spell;
      last = ap (λ l. ends is_return (spelled l)) same ∙ ends-last is_return body last good;
    }

-- what follows a line that ends in CR doesn't begin with LF
return_ends : (end : List ℕ) → end ≡ 13 ∷ [] → ends is_return end ≡ true
unfolding is_return
return_ends end e = ap (ends is_return) e

encoded_begins : (cs : List ℕ) → begins is_line_feed cs ≡ false → begins is_feed_byte (encode_utf8_all cs) ≡ false
unfolding is_line_feed
encoded_begins [] h = refl
encoded_begins (c ∷ cs) h = by (encode c) (none_inside is_feed_byte (λ b e. let ten : b ≡ 10 = eqb-true b 10 e in omega arith) c (other c h)) (some_encoded c)
  where
    other : (d : ℕ) → is_line_feed d ≡ false → is_feed_byte d ≡ false
    other d k = (or_parts (d == 10) false k).0

    by : (bs : List ℕ) → list_any is_feed_byte bs ≡ false → 0 < length bs → begins is_feed_byte (bs ++ encode_utf8_all cs) ≡ false
    by [] none some = absurd (omega arith)
    by (b ∷ bs) none some = (or_parts (is_feed_byte b) (list_any is_feed_byte bs) none).0

pub follows_bytes : (u : List Piece) (us : List (List Piece)) → AreUnits us → MayFollowUnit u us → ends is_return (spelled u) ≡ true → begins is_feed_byte (bytes_of us) ≡ false
follows_bytes u [] are h k = refl
follows_bytes u (w ∷ us) are h k =
    encoded_begins (spelled (flat (w ∷ us)))
    (begins-first is_line_feed w (flat us) are.0 ∙ (ap (λ b. b && begins is_line_feed (spelled w)) (sym k) ∙ h.1.uncut))

pub follows_end : (u : List Piece) (c : IsClosed u) (us : List (List Piece)) → AreUnits us → MayFollowUnit u us → c.end ≡ 13 ∷ [] → begins is_feed_byte (bytes_of us) ≡ false
follows_end u c us are h e = follows_bytes u us are h (c.last ∙ return_ends c.end e)

-- the first line end of lines after a text without any
pub breaks_first : (p end text rest : List ℕ) → list_any is_end_byte p ≡ false → IsLineEnd end → Breaks end text → first_end (p ++ (text ++ rest)) ≡ end
breaks_first p end text rest none is b =
    simp append_assoc at (ap (λ (t : List ℕ). first_end (p ++ (t ++ rest))) b.is)
    ∙ simp append_assoc at (first_end_is (p ++ b.before) end ((b.next ∷ b.rest) ++ rest) (none-append is_end_byte p b.before none b.whole) is (λ e. b.apart))

pub ends_first : (p end line : List ℕ) (u : List Piece) (us : List (List Piece)) → list_any is_end_byte p ≡ false → IsLineEnd end → list_any is_end_byte line ≡ false → IsEndedUnit end u → MayFollowUnit u us → AreUnits us → first_end (p ++ ((line ++ end) ++ bytes_of us)) ≡ end
ends_first p end line u us none is whole ended follow are =
    ap (λ (t : List ℕ). first_end (p ++ t)) (append_assoc line end (bytes_of us)) ∙ ap first_end (sym (append_assoc p line (end ++ bytes_of us)))
    ∙ first_end_is (p ++ line) end (bytes_of us) (none-append is_end_byte p line none whole) is
    (λ e. follows_bytes u us are follow (ap (λ l. ends is_return (spelled l)) ended.is ∙ ends-last is_return ended.body (record { class = line_end; text = end }) is ∙ return_ends end e))

-- a text goes on after its first line
pub first_end_stays : (u : List Piece) (us vs : List (List Piece)) (text sorted : List ℕ) → IsUnit u → MayFollowUnit u us → MayFollowUnit u vs → AreUnits us → AreUnits vs → (are_some us ≡ false → are_some vs ≡ false) → bytes_of (u ∷ us) ≡ text → bytes_of (u ∷ vs) ≡ sorted → first_end sorted ≡ first_end text
first_end_stays u [] [] text sorted is f g are these none e k = ap first_end (sym k ∙ e)
first_end_stays u [] (v ∷ vs) text sorted is f g are these none e k = absurd (let wrong = none refl in cc)
first_end_stays u (w ∷ us) vs text sorted is f g are these none e k =
    let c = closed_unit u is f.0 in
    let spelled_out : (ls : List (List Piece)) → bytes_of (u ∷ ls) ≡ c.text ++ (c.end ++ bytes_of ls) = λ ls. bytes_of-cons u ls ∙ ap (λ (t : List ℕ). t ++ bytes_of ls) c.bytes ∙ append_assoc c.text c.end (bytes_of ls) in
    ap first_end (sym k ∙ spelled_out vs)
    ∙ first_end_alike c.text c.end (bytes_of vs) (bytes_of (w ∷ us)) c.is (follows_end u c vs these g) (follows_end u c (w ∷ us) are f)
    ∙ ap first_end (sym (spelled_out (w ∷ us)) ∙ e)
