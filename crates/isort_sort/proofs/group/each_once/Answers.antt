-- Each text is kept unless it was seen, and then it is one of those that were kept.
use Rattle.std.proofs.Common.{◌≡◌, ◌<◌, ℕ, Bool, true, false, List, [], ◌∷◌, ◌++◌, fold, cond, ◌||◌, refl, ap, sym, ◌∙◌, length, map, string_bytes, String, Global, arith}
use Rattle.std.proofs.lemmas.List.{map-append}
use Rattle.std.proofs.lemmas.List.Folds.{list_any-append}
use Rattle.std.proofs.lemmas.Map.Text.{btree_set_updates_text}
use Rattle.std.specs.BTreeSet.{contains_text}
use Rattle.std.specs.List.{list_any}
use Rattle.std.specs.Prelude.{bytes_eq}
use Rattle.std.specs.Vec.Iter.{into_iter_items}
use Rattle.isort_sort.specs.Member.{first_texts}
use Rattle.isort_sort.proofs.Groups.Firsts.{with_text, all_first, kept_more, bytes_back}
use Rattle.isort_sort.proofs.group.each_once.Goals as goal

-- one text stands there once
few : (ts : List (String Global)) → length ts < 2 → map string_bytes ts ≡ first_texts (map string_bytes ts)
few [] h = refl
few (t ∷ []) h = refl
few (t ∷ u ∷ ts) h = absurd (omega (arith, h))

pub returns-then-len-lt2 : goal.returns-then-len-lt2
returns-then-len-lt2 c = few c.args.texts.items (omega (arith, c.if-len-lt2.true, c.len.ensures))

pub loop-text-init : goal.loop-text-init
loop-text-init c =
    let gives : into_iter_items c.into_iter-text-iterator.result ≡ c.args.texts.items = c.into_iter-text-iterator.ensures.into_iter_gives.0 in
    ((λ i. fold with_text (map string_bytes (c.new-kept.ensures.items i)) (map string_bytes (gives i))) ∙ all_first (map string_bytes c.args.texts.items), λ q. rw c.new-seen.ensures.empty (rw c.new-kept.ensures.items refl))

-- one text more was seen
seen_more : (new before : Bool) → cond new true before ≡ before || (new || false)
seen_more true true = refl
seen_more true false = refl
seen_more false true = refl
seen_more false false = refl

pub loop-text-preserved-in_ok-push : goal.loop-text-preserved-in_ok-push
loop-text-preserved-in_ok-push c =
    let known = map string_bytes c.loop-text.kept.items in
    let text = string_bytes c.in-Some.text in
    let new : list_any (bytes_eq text) known ≡ false = sym (c.loop-text.invariant.1 text) ∙ ap (contains_text c.loop-text.seen) (sym c.as_str.ensures.value) ∙ sym c.contains.ensures ∙ c.if-not-contains.true in
    let kept : map string_bytes c.push.new.self.items ≡ known ++ text ∷ [] = ap (map string_bytes) c.in_ok-push.ensures.items ∙ map-append string_bytes c.loop-text.kept.items (c.in-Some.text ∷ []) in
    let copy : string_bytes c.in_ok-clone.field-0 ≡ text = c.in_ok-clone.ensures.cases in (
      ap (λ (ts : List (List ℕ)). fold with_text ts (map string_bytes (into_iter_items c.next.new.self))) (kept ∙ sym (kept_more known text false new))
          ∙ ap (λ (ts : List (String Global)). fold with_text known (map string_bytes ts)) (sym c.in-Some.ensures.steps.0)
          ∙ c.loop-text.invariant.0,
      λ q.
          btree_set_updates_text (string_bytes c.in_ok-clone.field-0) c.loop-text.seen c.insert.new.self true c.in_ok-insert.ensures.updates q
          ∙ (λ i. cond (bytes_eq (copy i) q) true (c.loop-text.invariant.1 q i))
          ∙ ap (λ b. cond b true (list_any (bytes_eq q) known)) (bytes_back text q)
          ∙ seen_more (bytes_eq q text) (list_any (bytes_eq q) known)
          ∙ sym (list_any-append (bytes_eq q) known (text ∷ []))
          ∙ ap (list_any (bytes_eq q)) (sym kept),
    )

pub loop-text-preserved : goal.loop-text-preserved
loop-text-preserved c =
    let known = map string_bytes c.loop-text.kept.items in
    let text = string_bytes c.in-Some.text in
    let seen : list_any (bytes_eq text) known ≡ true = sym (c.loop-text.invariant.1 text) ∙ ap (contains_text c.loop-text.seen) (sym c.as_str.ensures.value) ∙ sym c.contains.ensures ∙ c.if-not-contains.false in (
      ap (λ (ts : List (List ℕ)). fold with_text ts (map string_bytes (into_iter_items c.next.new.self))) (sym (kept_more known text true seen))
          ∙ ap (λ (ts : List (String Global)). fold with_text known (map string_bytes ts)) (sym c.in-Some.ensures.steps.0)
          ∙ c.loop-text.invariant.0,
      c.loop-text.invariant.1,
    )
