use Rattle.std.proofs.Common.{◌≡◌, ap, ◌∙◌, sym, refl, length, map, subst, List, ℕ, arith}
use Rattle.std.specs.Prelude.{slice_range}
use Rattle.std.proofs.lemmas.List.{nil_from_length}
use Rattle.std.specs.Str.{IsUtf8}
use Rattle.std.specs.Vec.Iter.{into_iter_items}
use Rattle.isort_sort.specs.Private.Arranged.{text_left, IsArranged}
use Rattle.isort_sort.specs.Private.Found.{found_value}
use Rattle.isort_sort.specs.Private.LineEnd.{end_bytes}
use Rattle.isort_sort.proofs.SortedTexts.Parts.{made_gap, next_made, same_made}
use Rattle.isort_sort.proofs.parts.Parts.next.Goals as goal

pub returns-in_default-clause-makes : goal.returns-in_default-clause-makes
returns-in_default-clause-makes c = (
  ap (map found_value) (sym c.in_default.ensures.items ∙ nil_from_length _ (omega (arith, c.in_default.ensures.cases.0, c.args.self.now.blocks.rest.ok))),
  λ text v out h. same_made text v c.args.self.now _ out h refl refl refl refl (ap (map found_value) (sym c.in_default.ensures.items)),
)

pub between-before-requires : goal.between-before-requires
between-before-requires c =
    let gap = made_gap c.requires.0 c.requires.1 c.args.self.now c.requires.2 (found_value c.in-Some.block) (map found_value (into_iter_items c.next.new.self)) c.requires.3 (ap (map found_value) c.in-Some.ensures.items) in
    record { ordered = gap.ordered; within = omega (arith, gap.within, ap length c.requires.3.same_text) }

pub returns-clause-makes : goal.returns-clause-makes
returns-clause-makes c =
    let left = ap (map found_value) c.in-Some.ensures.items in (
      omega (arith, ap length left),
      λ text v out h.
          let before : c.between-before.result.now ≡ slice_range text c.args.self.now.at c.in-Some.block.start = c.between-before.ensures ∙ ap (λ (t : List ℕ). slice_range t c.args.self.now.at c.in-Some.block.start) h.same_text in
          let gap = made_gap text v c.args.self.now out (found_value c.in-Some.block) (map found_value (into_iter_items c.next.new.self)) h left in (
            subst IsUtf8 (sym before) gap.utf8,
            next_made text v c.args.self.now _ out c.between-before.result.now (text_left c.in_ok-layout.layout) (found_value c.in-Some.block) (map found_value (into_iter_items c.next.new.self)) h left h.same_text h.same_values h.same_end refl refl before
                (subst (λ e. IsArranged v e (found_value c.in-Some.block) (text_left c.in_ok-layout.layout)) h.same_end (subst (λ w. IsArranged w (end_bytes c.args.self.now.end) (found_value c.in-Some.block) (text_left c.in_ok-layout.layout)) h.same_values c.in_ok-layout.ensures.arranged)),
          ),
    )
