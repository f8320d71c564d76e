-- Items packed on lines, read from left to right.
use Rattle.std.proofs.Common.{◌≡◌, ℕ, ◌+◌, ◌-◌, ◌<◌, ◌≤◌, Bool, true, false, cond, Option, None, Some, unwrap_or, List, [], ◌∷◌, ◌++◌, length, get_or, drop, map, flat_map, codes, refl, sym, ap, ◌∙◌, subst, append_assoc, append-nil, arith}
use Rattle.std.specs.Prelude.{nat_le}
use Rattle.std.specs.List.{join_by}
use Rattle.std.specs.Option.{SomeIff}
use Rattle.std.proofs.lemmas.Bool.{le-leb, lt-leb, leb-true, leb-false}
use Rattle.std.proofs.lemmas.List.{at_drop_more, at_drop_all}
use Rattle.std.proofs.lemmas.List.Concat.{flat_map-append}
use Rattle.py_imports.specs.Grammar.{Item}
use Rattle.isort_sort.specs.Width.{width}
use Rattle.isort_sort.specs.Private.Values.{item_value}
use Rattle.isort_sort.specs.Wrapping.{item_text, items_text}
use Rattle.isort_sort.specs.Private.Packing.{packed, packed_after}
use Rattle.isort_sort.specs.declared.statement.FromItem as code
use Rattle.isort_sort.proofs.Layouts.Lengths.{width-append}

abbrev pub item_width : Item → ℕ
item_width i = width (item_text i)

-- the items after those on a line, where so much room is left on it; `next` goes between two lines
unfoldable pub more_items : List ℕ → ℕ → List Item → ℕ → List ℕ
more_items next room [] left = []
more_items next room (i ∷ items) left =
    cond (nat_le (2 + item_width i) left)
    (codes ", " ++ (item_text i ++ more_items next room items (left - (2 + item_width i))))
    (next ++ (item_text i ++ more_items next room items (room - item_width i)))

pub more_items-none : (next : List ℕ) (room left : ℕ) → more_items next room [] left ≡ []
unfolding more_items
more_items-none next room left = refl

-- an item that fits
pub more_items-fits : (next : List ℕ) (room : ℕ) (i : Item) (items : List Item) (left rest : ℕ) → 2 + item_width i ≤ left → rest ≡ left - (2 + item_width i) → more_items next room (i ∷ items) left ≡ codes ", " ++ (item_text i ++ more_items next room items rest)
unfolding more_items
more_items-fits next room i items left rest h e =
    ap (λ b. cond b (codes ", " ++ (item_text i ++ more_items next room items (left - (2 + item_width i)))) (next ++ (item_text i ++ more_items next room items (room - item_width i)))) (le-leb _ _ h)
    ∙ ap (λ n. codes ", " ++ (item_text i ++ more_items next room items n)) (sym e)

-- an item that doesn't
pub more_items-breaks : (next : List ℕ) (room : ℕ) (i : Item) (items : List Item) (left rest : ℕ) → left < 2 + item_width i → rest ≡ room - item_width i → more_items next room (i ∷ items) left ≡ next ++ (item_text i ++ more_items next room items rest)
unfolding more_items
more_items-breaks next room i items left rest h e =
    ap (λ b. cond b (codes ", " ++ (item_text i ++ more_items next room items (left - (2 + item_width i)))) (next ++ (item_text i ++ more_items next room items (room - item_width i)))) (lt-leb _ _ h)
    ∙ ap (λ n. next ++ (item_text i ++ more_items next room items n)) (sym e)

-- one item more
pub more_items-drop : (next : List ℕ) (room left : ℕ) (others : List code.FromItem) (k : ℕ) (x : code.FromItem) → k < length others → x ≡ get_or others k x → more_items next room (map item_value (drop k others)) left ≡ more_items next room (item_value x ∷ map item_value (drop (k + 1) others)) left
more_items-drop next room left others k x h e =
    at_drop_more (λ xs. more_items next room (map item_value xs) left) others k x h
    ∙ ap (λ y. more_items next room (item_value y ∷ map item_value (drop (k + 1) others)) left) (sym e)

-- a line with one item more
items_text-more : (x i : Item) (line : List Item) → items_text (x ∷ line ++ i ∷ []) ≡ items_text (x ∷ line) ++ (codes ", " ++ item_text i)
items_text-more x i line =
    let text : Item → List ℕ = λ y. codes ", " ++ item_text y in
    ap (λ t. item_text x ++ t) (flat_map-append text line (i ∷ []) ∙ ap (λ t. flat_map text line ++ t) (append-nil (text i)))
    ∙ sym (append_assoc (item_text x) (flat_map text line) (text i))

width-more : (x i : Item) (line : List Item) → width (items_text (x ∷ line ++ i ∷ [])) ≡ width (items_text (x ∷ line)) + (2 + item_width i)
width-more x i line = omega (arith, ap width (items_text-more x i line), width-append (items_text (x ∷ line)) (codes ", " ++ item_text i))

-- the first line begins with the first item
pub packed_begins : (room : ℕ) (xs : List Item) (x : Item) (line : List Item) → (first : List Item) × (lines : List (List Item)) × (packed_after room xs (x ∷ line) ≡ (x ∷ first) ∷ lines)
unfolding packed_after
packed_begins room [] x line = (line, [], refl)
packed_begins room (i ∷ xs) x line = by (nat_le (width (items_text (x ∷ line ++ i ∷ []))) room) (packed_begins room xs x (line ++ i ∷ []))
  where
    by : (b : Bool) → ((first : List Item) × (lines : List (List Item)) × (packed_after room xs (x ∷ line ++ i ∷ []) ≡ (x ∷ first) ∷ lines)) → (first : List Item) × (lines : List (List Item)) × (cond b (packed_after room xs (x ∷ line ++ i ∷ [])) ((x ∷ line) ∷ packed_after room xs (i ∷ [])) ≡ (x ∷ first) ∷ lines)
    by true h = h
    by false h = (line, packed_after room xs (i ∷ []), refl)

-- what stands between two, before each: the joined texts after it
after_each : (next : List ℕ) (lines : List (List Item)) (line : List Item) (more : List (List Item)) → lines ≡ line ∷ more → flat_map (λ l. next ++ items_text l) lines ≡ next ++ join_by items_text next lines
after_each next lines line more e =
    let P : List (List Item) → Type 0 = λ ls. flat_map (λ l. next ++ items_text l) ls ≡ next ++ join_by items_text next ls in
    subst P (sym e) (append_assoc next (items_text line) (flat_map (λ l. next ++ items_text l) more))

-- what is written of a line and the items after it are the lines of the packed items
pub more_items-packed : (next : List ℕ) (room : ℕ) (xs : List Item) (x : Item) (line : List Item) (left : ℕ) → left ≡ room - width (items_text (x ∷ line)) → items_text (x ∷ line) ++ more_items next room xs left ≡ join_by items_text next (packed_after room xs (x ∷ line))
unfolding packed_after
more_items-packed next room [] x line left e = ap (λ t. items_text (x ∷ line) ++ t) (more_items-none next room left)
more_items-packed next room (i ∷ xs) x line left e =
    by (nat_le (width (items_text (x ∷ line ++ i ∷ []))) room) refl (more_items-packed next room xs x (line ++ i ∷ []) (left - (2 + item_width i)) (omega (arith, width-more x i line))) (more_items-packed next room xs i [] (room - item_width i) (ap (λ t. room - width t) (sym (append-nil (item_text i)))))
  where
    by : (b : Bool) → nat_le (width (items_text (x ∷ line ++ i ∷ []))) room ≡ b → items_text (x ∷ line ++ i ∷ []) ++ more_items next room xs (left - (2 + item_width i)) ≡ join_by items_text next (packed_after room xs (x ∷ line ++ i ∷ [])) → items_text (i ∷ []) ++ more_items next room xs (room - item_width i) ≡ join_by items_text next (packed_after room xs (i ∷ [])) → items_text (x ∷ line) ++ more_items next room (i ∷ xs) left ≡ join_by items_text next (cond b (packed_after room xs (x ∷ line ++ i ∷ [])) ((x ∷ line) ∷ packed_after room xs (i ∷ [])))
    by true fit longer new =
        let le : width (items_text (x ∷ line ++ i ∷ [])) ≤ room = leb-true _ _ fit in
        let rest : List ℕ = more_items next room xs (left - (2 + item_width i)) in
        ap (λ t. items_text (x ∷ line) ++ t) (more_items-fits next room i xs left (left - (2 + item_width i)) (omega (arith, width-more x i line)) refl)
        ∙ sym (ap (λ t. t ++ rest) (items_text-more x i line) ∙ append_assoc (items_text (x ∷ line)) (codes ", " ++ item_text i) rest)
        ∙ longer
    by false fit longer new =
        let gt : room < width (items_text (x ∷ line ++ i ∷ [])) = leb-false _ _ fit in
        let rest : List ℕ = more_items next room xs (room - item_width i) in
        let b = packed_begins room xs i [] in
        ap (λ t. items_text (x ∷ line) ++ t) (more_items-breaks next room i xs left (room - item_width i) (omega (arith, width-more x i line)) refl
        ∙ ap (λ t. next ++ t) (ap (λ t. t ++ rest) (sym (append-nil (item_text i))) ∙ new)
        ∙ sym (after_each next (packed_after room xs (i ∷ [])) (i ∷ b.0) b.1 b.2))

-- what is left of a room after an item
pub room_left : (left : Option ℕ) (long room : ℕ) → SomeIff left (long ≤ room) (room - long) → unwrap_or left 0 ≡ room - long
room_left None long room h = let gt : ¬ (long ≤ room) = h in omega arith
room_left (Some x) long room h = h.1

-- what was written before an item, the item, and what is written after it
pub one_more : (at sep item rest before more whole mid out : List ℕ) → mid ≡ at ++ sep → out ≡ mid ++ item → before ≡ more → more ≡ sep ++ (item ++ rest) → at ++ before ≡ whole → out ++ rest ≡ whole
one_more at sep item rest before more whole mid out a b e f w =
    simp append_assoc at (ap (λ t. t ++ rest) (b ∙ ap (λ t. t ++ item) a)) ∙ ap (λ t. at ++ t) (sym f ∙ sym e) ∙ w

-- one item more, on the same line or on the next one
pub item_written : (next : List ℕ) (room left rest : ℕ) (others : List code.FromItem) (k : ℕ) (x : code.FromItem) (at mid out whole : List ℕ) → k < length others → x ≡ get_or others k x → 2 + item_width (item_value x) ≤ left → rest ≡ left - (2 + item_width (item_value x)) → mid ≡ at ++ codes ", " → out ≡ mid ++ item_text (item_value x) → at ++ more_items next room (map item_value (drop k others)) left ≡ whole → out ++ more_items next room (map item_value (drop (k + 1) others)) rest ≡ whole
item_written next room left rest others k x at mid out whole below is fits less before after so_far =
    one_more at (codes ", ") (item_text (item_value x)) _ _ _ whole mid out before after (more_items-drop next room left others k x below is) (more_items-fits next room (item_value x) (map item_value (drop (k + 1) others)) left rest fits less) so_far

pub item_written_below : (next : List ℕ) (room left rest : ℕ) (others : List code.FromItem) (k : ℕ) (x : code.FromItem) (at mid out whole : List ℕ) → k < length others → x ≡ get_or others k x → left < 2 + item_width (item_value x) → rest ≡ room - item_width (item_value x) → mid ≡ at ++ next → out ≡ mid ++ item_text (item_value x) → at ++ more_items next room (map item_value (drop k others)) left ≡ whole → out ++ more_items next room (map item_value (drop (k + 1) others)) rest ≡ whole
item_written_below next room left rest others k x at mid out whole below is long less before after so_far =
    one_more at next (item_text (item_value x)) _ _ _ whole mid out before after (more_items-drop next room left others k x below is) (more_items-breaks next room (item_value x) (map item_value (drop (k + 1) others)) left rest long less) so_far

-- all items
pub items_written : (next : List ℕ) (room left rest : ℕ) (all others : List code.FromItem) (x : code.FromItem) (k : ℕ) (old first out : List ℕ) → all ≡ x ∷ others → first ≡ old ++ item_text (item_value x) → left ≡ room - item_width (item_value x) → length others ≤ k → out ++ more_items next room (map item_value (drop k others)) rest ≡ first ++ more_items next room (map item_value others) left → out ≡ old ++ join_by items_text next (packed room (map item_value all))
items_written next room left rest all others x k old first out is begun less end so_far =
    let i : Item = item_value x in
    let more : List ℕ = more_items next room (map item_value others) left in
    let done : more_items next room (map item_value (drop k others)) rest ≡ [] = at_drop_all (λ xs. more_items next room (map item_value xs) rest) others k end ∙ more_items-none next room rest in
    sym (append-nil out) ∙ ap (λ t. out ++ t) (sym done) ∙ so_far ∙ ap (λ t. t ++ more) (begun ∙ ap (λ t. old ++ t) (sym (append-nil (item_text i)))) ∙ append_assoc old (items_text (i ∷ [])) more
    ∙ ap (λ t. old ++ t) (more_items-packed next room (map item_value others) i [] left (less ∙ ap (λ t. room - width t) (sym (append-nil (item_text i)))))
    ∙ ap (λ xs. old ++ join_by items_text next (packed room (map item_value xs))) (sym is)
