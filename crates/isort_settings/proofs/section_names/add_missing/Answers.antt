-- A section more, which is missing or not.
use Rattle.std.proofs.Common.{◌≡◌, ℕ, ◌+◌, ◌<◌, Bool, true, false, not, cond, List, [], ◌∷◌, ◌++◌, map, take, length, get_or, bytes_eq, string_bytes, sym, ◌∙◌, ap, append_assoc}
use Rattle.std.proofs.lemmas.List.{append-nil, take_all}
use Rattle.std.proofs.lemmas.List.Elements.{filter_more}
use Rattle.std.specs.List.{filter, list_any}
use Rattle.isort_settings.specs.declared.section.Section.{Section}
use Rattle.isort_settings.specs.FiveSections.{section_spelling}
use Rattle.isort_settings.proofs.section_names.add_missing.Goals.{then-not-is_listed+in_ok-push, else-not-is_listed}
use Rattle.isort_settings.proofs.section_names.add_missing.Goals as goal

abbrev is_missing : List (List ℕ) → Section → Bool
is_missing names s = not (list_any (λ name. bytes_eq name (section_spelling s)) names)

-- those that pass a test, with an item more that passes it or not
filtered_more : {X : Type 0} (p : X → Bool) (start so_far xs : List X) (i : ℕ) (d : X) (b : Bool) → i < length xs → p (get_or xs i d) ≡ b
    → so_far ≡ start ++ filter p (take i xs) → so_far ++ cond b (get_or xs i d ∷ []) [] ≡ start ++ filter p (take (i + 1) xs)
filtered_more p start so_far xs i d b within passes before =
    ap (λ ys. ys ++ cond b (get_or xs i d ∷ []) []) before
    ∙ append_assoc start (filter p (take i xs)) (cond b (get_or xs i d ∷ []) [])
    ∙ ap (λ ys. start ++ ys) (ap (λ t. filter p (take i xs) ++ cond t (get_or xs i d ∷ []) []) (sym passes) ∙ sym (filter_more p xs i d within))

pub loop-section-preserved : goal.loop-section-preserved
loop-section-preserved c =
    let missing = is_missing (map string_bytes c.args.names.now) in
    let start = c.args.order.now.items in
    let sections = c.usual_order-section-items.result.now in
    elim c.if-not-is_listed.branch [
      | then-not-is_listed+in_ok-push w ↦
          rw w.order-is (w.in_ok-push.ensures.items
          ∙ filtered_more missing start c.loop-section.order.items sections c.loop-section.section-index _ true c.loop-section-test.true (ap not (sym c.is_listed.ensures ∙ w.if-not-is_listed.true)) c.loop-section.invariant)
      | else-not-is_listed w ↦
          rw w.order-is (sym (append-nil c.loop-section.order.items)
          ∙ filtered_more missing start c.loop-section.order.items sections c.loop-section.section-index _ false c.loop-section-test.true (ap not (sym c.is_listed.ensures ∙ w.if-not-is_listed.false)) c.loop-section.invariant)
    ]

pub returns : goal.returns
returns c =
    let missing = is_missing (map string_bytes c.args.names.now) in
    let sections = c.usual_order-section-items.result.now in
    c.loop-section.invariant
    ∙ ap (λ ss. c.args.order.now.items ++ filter missing ss) (take_all c.loop-section.section-index sections c.loop-section-test.false ∙ c.usual_order-section-items.ensures)
