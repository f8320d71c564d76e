-- The three tests in turn.
use Rattle.std.proofs.Common.{◌≡◌, nat_le, length, true, false, rules, tests, sym, ◌∙◌}
use Rattle.std.proofs.lemmas.Iterator.{YieldsList-from_slice}
use Rattle.std.proofs.lemmas.Iterator.Search.{any_from_yields_List}
use Rattle.std.specs.Char.{is_ascii_lowercase, is_ascii_uppercase}
use Rattle.std.specs.List.{list_any}
use Rattle.isort_settings.proofs.order.is_constant.Goals.{then-name-ge2, else-name-ge2}
use Rattle.isort_settings.proofs.order.is_constant.Goals as goal

pub returns-then-any : goal.returns-then-any
returns-then-any c =
    let small : c.any-then-any.result ≡ list_any is_ascii_lowercase c.args.name.now =
    any_from_yields_List is_ascii_lowercase _ _ _ c.any-then-any.ensures.ran (YieldsList-from_slice _ c.iter-then-any.ensures.rest) (λ x b q k. search (rules, tests)) in
    elim c.if-name-ge2.branch [
      | then-name-ge2 w ↦
          (let capital : w.any.result ≡ list_any is_ascii_uppercase c.args.name.now =
          any_from_yields_List is_ascii_uppercase _ _ _ w.any.ensures.ran (YieldsList-from_slice _ w.iter.ensures.rest) (λ x b q k. search (rules, tests)) in
          let found : list_any is_ascii_uppercase c.args.name.now ≡ true = sym capital ∙ sym w.value-is ∙ c.if-any.true in
          let long : nat_le 2 (length c.args.name.now) ≡ true = search (rules, w.if-name-ge2.true) in
          rw (small, found, long))
      | else-name-ge2 w ↦
          (let short : nat_le 2 (length c.args.name.now) ≡ false = search (rules, w.if-name-ge2.false) in
          let clash : false ≡ true = sym short ∙ sym w.value-is ∙ c.if-any.true in
          cc)
    ]

pub returns-else-any : goal.returns-else-any
returns-else-any c =
    elim c.if-name-ge2.branch [
      | then-name-ge2 w ↦
          (let capital : w.any.result ≡ list_any is_ascii_uppercase c.args.name.now =
          any_from_yields_List is_ascii_uppercase _ _ _ w.any.ensures.ran (YieldsList-from_slice _ w.iter.ensures.rest) (λ x b q k. search (rules, tests)) in
          let found : list_any is_ascii_uppercase c.args.name.now ≡ false = sym capital ∙ sym w.value-is ∙ c.if-any.false in
          let long : nat_le 2 (length c.args.name.now) ≡ true = search (rules, w.if-name-ge2.true) in
          rw (c.if-any.false, found, long))
      | else-name-ge2 w ↦
          (let short : nat_le 2 (length c.args.name.now) ≡ false = search (rules, w.if-name-ge2.false) in
          rw (w.value-is, short))
    ]
