-- What is left of a comment without its `#` and the space round it: characters of it, which say no more than it.
use Rattle.std.proofs.Common.{◌≡◌, ℕ, ◌<◌, ◌==◌, Bool, true, false, not, ◌&&◌, ◌||◌, List, [], ◌∷◌, ◌++◌, length, drop, refl, sym, ap, ◌∙◌, subst, append_assoc, ⊎_elim, arith, nat_eq}
use Rattle.std.specs.Prelude.{codes, encode_utf8_all, if◌then◌else◌}
use Rattle.std.specs.List.{list_any, list_all, starts_with}
use Rattle.std.specs.Str.{all_scalars}
use Rattle.std.proofs.Math.Utf8.{encode}
use Rattle.std.proofs.lemmas.Bool.{and_parts, and_from, both_ways, cases_Bool, false_from_ne_true, or_cases, or_parts}
use Rattle.std.proofs.lemmas.Bool.Decides.{Decides-eqb, nat_tests}
use Rattle.std.proofs.lemmas.Slice.Eq.{starts_is}
use Rattle.std.proofs.lemmas.Str.{encode_ascii}
use Rattle.py_lines.specs.Character.{is_space, is_break, is_hash}
use Rattle.py_imports.specs.ActionComment.{action_word, is_word_byte, begins_with_word_byte, begins_with_phrase, begins_with_action, says}
use Rattle.py_imports.specs.declared.action_comment.ActionComment.{ActionComment}
use Rattle.isort_sort.specs.Line.{without_hash, without_start, without_end, stripped}
use Rattle.isort_sort.proofs.LineLaws.Units.{scalars-parts}
use Rattle.isort_sort.proofs.WrittenLines.FirstEnds.{is_end_byte}
use Rattle.isort_sort.proofs.LineLaws.Joined.{none-append, none_inside, some_encoded}
use Rattle.isort_sort.proofs.LineLaws.Parts.{IsUnbrokenText}
use Rattle.isort_sort.proofs.Rows.Spaces.{space_low}
use Rattle.std.proofs.Math.Bool.{or-true}
use Rattle.std.proofs.Math.Seq.{drop-append_seam}

-- characters without line ends have no bytes of line ends
end_low : (b : ℕ) → is_end_byte b ≡ true → b < 128
end_low b h = grind (arith, nat_tests)

break_byte : (c : ℕ) → is_break c ≡ false → is_end_byte c ≡ false
unfolding is_break
break_byte c h = let parts = or_parts (c == 10) ((c == 13) || false) h in let more = or_parts (c == 13) false parts.1 in λ i. parts.0 i || more.0 i

pub unbroken_bytes : (cs : List ℕ) → list_any is_break cs ≡ false → list_any is_end_byte (encode_utf8_all cs) ≡ false
unbroken_bytes [] h = refl
unbroken_bytes (c ∷ cs) h =
    let parts = or_parts (is_break c) (list_any is_break cs) h in
    none-append is_end_byte (encode c) (encode_utf8_all cs) (none_inside is_end_byte end_low c (break_byte c parts.0)) (unbroken_bytes cs parts.1)

bare_start : (xs rest : List ℕ) → 0 < length xs → list_any is_space xs ≡ false → without_start (xs ++ rest) ≡ xs ++ rest
bare_start [] rest some h = absurd (omega arith)
bare_start (x ∷ xs) rest some h = ap (λ b. if b then without_start (xs ++ rest) else x ∷ (xs ++ rest)) (or_parts (is_space x) (list_any is_space xs) h).0

bare_all : (x : ℕ) (xs rest : List ℕ) → list_any is_space (x ∷ xs) ≡ false → list_all is_space ((x ∷ xs) ++ rest) ≡ false
bare_all x xs rest h = ap (λ b. b && list_all is_space (xs ++ rest)) (or_parts (is_space x) (list_any is_space xs) h).0

bare_end : (xs rest : List ℕ) → list_any is_space xs ≡ false → without_end (xs ++ rest) ≡ xs ++ without_end rest
bare_end [] rest h = refl
bare_end (x ∷ xs) rest h =
    ap (λ b. if b then [] else x ∷ without_end (xs ++ rest)) (bare_all x xs rest h)
    ∙ ap (λ l. x ∷ l) (bare_end xs rest (or_parts (is_space x) (list_any is_space xs) h).1)

start_text : (cs : List ℕ) → all_scalars cs ≡ true → list_any is_break cs ≡ false → IsUnbrokenText (without_start (encode_utf8_all cs))
start_text [] scalars unbroken = record { characters = []; spell = refl; scalars = refl; unbroken = refl }
start_text (c ∷ cs) scalars unbroken =
    ⊎_elim
    (λ (h : is_space c ≡ true).
    let later = start_text cs (scalars-parts (c ∷ []) cs scalars).1 (or_parts (is_break c) (list_any is_break cs) unbroken).1 in
    let same : without_start (encode_utf8_all cs) ≡ without_start (encode_utf8_all (c ∷ cs)) =
    sym (ap (λ (t : List ℕ). without_start (t ++ encode_utf8_all cs)) (encode_ascii c (space_low c h)) ∙ ap (λ b. if b then without_start (encode_utf8_all cs) else c ∷ encode_utf8_all cs) h) in
    subst IsUnbrokenText same later)
    (λ (h : is_space c ≡ false).
    let same = bare_start (encode c) (encode_utf8_all cs) (some_encoded c) (none_inside is_space space_low c h) in
    record { characters = c ∷ cs; spell = sym same; scalars = scalars; unbroken = unbroken })
    (cases_Bool (is_space c))

-- one more character
one_more_text : (c : ℕ) (t : List ℕ) → all_scalars (c ∷ []) ≡ true → is_break c ≡ false → IsUnbrokenText t → IsUnbrokenText (encode c ++ t)
one_more_text c t scalar whole p = record {
  characters = c ∷ p.characters;
  spell = ap (λ (x : List ℕ). encode c ++ x) p.spell;
  scalars = and_from _ _ (and_parts _ true scalar).0 p.scalars;
  unbroken = λ i. whole i || p.unbroken i;
}

end_text : (cs : List ℕ) → all_scalars cs ≡ true → list_any is_break cs ≡ false → IsUnbrokenText (without_end (encode_utf8_all cs))
end_text [] scalars unbroken = record { characters = []; spell = refl; scalars = refl; unbroken = refl }
end_text (c ∷ cs) scalars unbroken =
    let parts = scalars-parts (c ∷ []) cs scalars in
    let breaks = or_parts (is_break c) (list_any is_break cs) unbroken in
    let later = end_text cs parts.1 breaks.1 in
    let more = one_more_text c (without_end (encode_utf8_all cs)) parts.0 breaks.0 later in
    ⊎_elim
    (λ (h : is_space c ≡ true). by h more (list_all is_space (c ∷ encode_utf8_all cs)) refl)
    (λ (h : is_space c ≡ false). subst IsUnbrokenText (sym (bare_end (encode c) (encode_utf8_all cs) (none_inside is_space space_low c h))) more)
    (cases_Bool (is_space c))
  where
    by : is_space c ≡ true → IsUnbrokenText (encode c ++ without_end (encode_utf8_all cs)) → (b : Bool) → list_all is_space (c ∷ encode_utf8_all cs) ≡ b → IsUnbrokenText (without_end (encode c ++ encode_utf8_all cs))
    by h more true e = subst IsUnbrokenText (sym (ap (λ (t : List ℕ). without_end (t ++ encode_utf8_all cs)) (encode_ascii c (space_low c h)) ∙ ap (λ x. if x then [] else c ∷ without_end (encode_utf8_all cs)) e)) (record { characters = []; spell = refl; scalars = refl; unbroken = refl })
    by h more false e = subst IsUnbrokenText (sym (ap (λ (t : List ℕ). without_end (t ++ encode_utf8_all cs)) (encode_ascii c (space_low c h)) ∙ ap (λ x. if x then [] else c ∷ without_end (encode_utf8_all cs)) e)) (subst (λ (t : List ℕ). IsUnbrokenText (t ++ without_end (encode_utf8_all cs))) (encode_ascii c (space_low c h)) more)

pub stripped_text : (cs : List ℕ) → all_scalars cs ≡ true → list_any is_break cs ≡ false → IsUnbrokenText (stripped (encode_utf8_all cs))
stripped_text cs scalars unbroken =
    let start = start_text cs scalars unbroken in
    subst (λ (t : List ℕ). IsUnbrokenText (without_end t)) start.spell (end_text start.characters start.scalars start.unbroken)

-- a comment without its `#`
pub bare_comment : (hash : ℕ) (body : List ℕ) → is_hash hash ≡ true → without_hash (encode_utf8_all (hash ∷ body)) ≡ encode_utf8_all body
unfolding encode is_hash
bare_comment hash body h = let is : hash ≡ 35 = grind (arith, nat_tests) in ap (λ (c : ℕ). without_hash (encode_utf8_all (c ∷ body))) is

-- a text says what is said in a part of it that no letter, digit or `_` follows
phrase_more : (phrase text rest : List ℕ) → begins_with_word_byte rest ≡ false → begins_with_phrase phrase text ≡ true → begins_with_phrase phrase (text ++ rest) ≡ true
phrase_more phrase text rest bare h =
    let parts = and_parts (starts_with nat_eq text phrase) (not (begins_with_word_byte (drop (length phrase) text))) h in
    let split = (starts_is Decides-eqb text phrase (starts_with nat_eq text phrase) refl).0 parts.0 in
    let whole : text ++ rest ≡ phrase ++ (drop (length phrase) text ++ rest) = ap (λ (t : List ℕ). t ++ rest) split ∙ append_assoc phrase (drop (length phrase) text) rest in
    and_from _ _
    ((starts_is Decides-eqb (text ++ rest) phrase (starts_with nat_eq (text ++ rest) phrase) refl).1 (drop (length phrase) text ++ rest) whole)
    (ap (λ (t : List ℕ). not (begins_with_word_byte t)) (ap (drop (length phrase)) whole ∙ drop-append_seam phrase (drop (length phrase) text ++ rest)) ∙ by (drop (length phrase) text) parts.1)
  where
    by : (t : List ℕ) → not (begins_with_word_byte t) ≡ true → not (begins_with_word_byte (t ++ rest)) ≡ true
    by [] k = ap not bare
    by (x ∷ t) k = k

action_more : (a : ActionComment) (text rest : List ℕ) → begins_with_word_byte rest ≡ false → begins_with_action a text ≡ true → begins_with_action a (text ++ rest) ≡ true
action_more a text rest bare h =
    let one : List ℕ = codes "isort:" ++ action_word a in
    let two : List ℕ = codes "isort: " ++ action_word a in
    ⊎_elim
    (λ (k : begins_with_phrase one text ≡ true). ap (λ b. b || begins_with_phrase two (text ++ rest)) (phrase_more one text rest bare k))
    (λ (k : begins_with_phrase two text ≡ true). ap (λ b. begins_with_phrase one (text ++ rest) || b) (phrase_more two text rest bare k) ∙ or-true (begins_with_phrase one (text ++ rest)))
    (or_cases (begins_with_phrase one text) (begins_with_phrase two text) h)

says_head : (a : ActionComment) (text : List ℕ) → begins_with_action a text ≡ true → says a text ≡ true
says_head a [] h = ap (λ b. b || false) h
says_head a (b ∷ text) h = ap (λ x. x || says a text) h

says_more : (a : ActionComment) (text rest : List ℕ) → begins_with_word_byte rest ≡ false → says a text ≡ true → says a (text ++ rest) ≡ true
says_more a [] rest bare h =
    ⊎_elim (λ (k : begins_with_action a [] ≡ true). says_head a rest (action_more a [] rest bare k)) (λ (k : false ≡ true). absurd (cc)) (or_cases (begins_with_action a []) false h)
says_more a (b ∷ text) rest bare h =
    ⊎_elim
    (λ (k : begins_with_action a (b ∷ text) ≡ true). says_head a ((b ∷ text) ++ rest) (action_more a (b ∷ text) rest bare k))
    (λ (k : says a text ≡ true). ap (λ x. begins_with_action a (b ∷ (text ++ rest)) || x) (says_more a text rest bare k) ∙ or-true (begins_with_action a (b ∷ (text ++ rest))))
    (or_cases (begins_with_action a (b ∷ text)) (says a text) h)

says_after : (a : ActionComment) (b : ℕ) (text : List ℕ) → says a text ≡ true → says a (b ∷ text) ≡ true
says_after a b text h = ap (λ x. begins_with_action a (b ∷ text) || x) h ∙ or-true (begins_with_action a (b ∷ text))

-- what is stripped off
space_no_word : (c : ℕ) → is_space c ≡ true → is_word_byte c ≡ false
unfolding is_space
space_no_word c h = grind (arith, nat_tests)

end_split : (t : List ℕ) → (rest : List ℕ) × (t ≡ without_end t ++ rest) × (begins_with_word_byte rest ≡ false)
end_split [] = ([], refl, refl)
end_split (b ∷ t) = by (list_all is_space (b ∷ t)) refl (end_split t)
  where
    by : (x : Bool) → list_all is_space (b ∷ t) ≡ x → (rest : List ℕ) × (t ≡ without_end t ++ rest) × (begins_with_word_byte rest ≡ false) → (rest : List ℕ) × (b ∷ t ≡ (if x then [] else b ∷ without_end t) ++ rest) × (begins_with_word_byte rest ≡ false)
    by true e later = (b ∷ t, refl, space_no_word b (and_parts (is_space b) (list_all is_space t) e).0)
    by false e later = (later.0, ap (λ l. b ∷ l) later.1, later.2)

says_end : (a : ActionComment) (t : List ℕ) → says a (without_end t) ≡ true → says a t ≡ true
says_end a t h = let s = end_split t in ap (says a) s.1 ∙ says_more a (without_end t) s.0 s.2 h

says_start : (a : ActionComment) (t : List ℕ) → says a (without_start t) ≡ true → says a t ≡ true
says_start a [] h = h
says_start a (b ∷ t) h = by (is_space b) h (says_start a t)
  where
    by : (x : Bool) → says a (if x then without_start t else b ∷ t) ≡ true → (says a (without_start t) ≡ true → says a t ≡ true) → says a (b ∷ t) ≡ true
    by true k later = says_after a b t (later k)
    by false k later = k

says_hash : (a : ActionComment) (t : List ℕ) → says a (without_hash t) ≡ true → says a t ≡ true
says_hash a [] h = h
says_hash a (b ∷ t) h = by (b == 35) h
  where
    by : (x : Bool) → says a (if x then t else b ∷ t) ≡ true → says a (b ∷ t) ≡ true
    by true k = says_after a b t k
    by false k = k

pub stripped_says : (a : ActionComment) (t : List ℕ) → says a t ≡ false → says a (stripped (without_hash t)) ≡ false
stripped_says a t h = false_from_ne_true _ (λ k. both_ways _ h (says_hash a t (says_start a (without_hash t) (says_end a (without_start (without_hash t)) k))))
