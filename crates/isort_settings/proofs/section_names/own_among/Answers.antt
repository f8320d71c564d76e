-- A name more, which is an own one or one of the five.
use Rattle.std.proofs.Common.{◌≡◌, ℕ, ◌+◌, ◌<◌, Bool, not, cond, List, [], ◌∷◌, ◌++◌, map, take, length, get_or, String, Global, string_bytes, sym, ◌∙◌, ap}
use Rattle.std.proofs.lemmas.List.{append-nil, take_all}
use Rattle.std.proofs.lemmas.List.Elements.{filter-append}
use Rattle.std.specs.Option.{is_some}
use Rattle.isort_settings.specs.FiveSections.{section_spelled}
use Rattle.isort_settings.specs.SectionNames.{own_among}
use Rattle.isort_settings.proofs.Names.{bytes_more}
use Rattle.isort_settings.proofs.section_names.own_among.Goals.{then-is_none+in_ok-push_copy, else-is_none}
use Rattle.isort_settings.proofs.section_names.own_among.Goals as goal

abbrev is_own : List ℕ → Bool
is_own name = not (is_some (section_spelled name))

-- the own ones with a name more
own_more : (names : List (String Global)) (i : ℕ) (name : String Global) → i < length names → name ≡ get_or names i name
    → own_among (map string_bytes (take (i + 1) names)) ≡ own_among (map string_bytes (take i names)) ++ cond (is_own (string_bytes name)) (string_bytes name ∷ []) []
own_more names i name within at =
    ap own_among (bytes_more names i name within at) ∙ filter-append is_own (map string_bytes (take i names)) (string_bytes name ∷ [])

pub loop-name-init : goal.loop-name-init
loop-name-init c = ap (map string_bytes) c.new-own.ensures.items

pub loop-name-preserved : goal.loop-name-preserved
loop-name-preserved c =
    let bytes = string_bytes c.name-item.result in
    let so_far = own_among (map string_bytes (take c.loop-name.name-index c.args.names.now)) in
    let spelled : is_some (section_spelled bytes) ≡ not c.is_none.result =
    ap (λ t. is_some (section_spelled t)) (sym c.as_str.ensures.value) ∙ ap is_some (sym c.spelled.ensures) ∙ c.is_none.ensures in
    let more = own_more c.args.names.now c.loop-name.name-index c.name-item.result c.loop-name-test.true c.name-item.is in
    elim c.if-is_none.branch [
      | then-is_none+in_ok-push_copy w ↦
          rw w.own-is (w.in_ok-push_copy.ensures
          ∙ ap (λ t. map string_bytes c.loop-name.own.items ++ t ∷ []) w.as_str-then-is_none.ensures.value
          ∙ ap (λ ts. ts ++ bytes ∷ []) c.loop-name.invariant
          ∙ sym (more ∙ ap (λ b. so_far ++ cond b (bytes ∷ []) []) (ap not (spelled ∙ ap not w.if-is_none.true))))
      | else-is_none w ↦
          rw w.own-is (c.loop-name.invariant
          ∙ sym (more ∙ ap (λ b. so_far ++ cond b (bytes ∷ []) []) (ap not (spelled ∙ ap not w.if-is_none.false)) ∙ append-nil so_far))
    ]

pub returns : goal.returns
returns c =
    c.loop-name.invariant ∙ ap (λ names. own_among (map string_bytes names)) (take_all c.loop-name.name-index c.args.names.now c.loop-name-test.false)
