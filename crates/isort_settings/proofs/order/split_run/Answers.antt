-- The first byte that is another one, or the end.
use Rattle.std.proofs.Common.{◌≡◌, ◌==◌, not, drop, rules, tests, ◌∙◌, ap, arith}
use Rattle.std.proofs.lemmas.Iterator.{YieldsList-from_slice}
use Rattle.std.proofs.lemmas.Iterator.Search.{position_from_yields_List}
use Rattle.std.proofs.lemmas.List.Sums.{prefix_len-le-length}
use Rattle.std.specs.List.{prefix_len}
use Rattle.isort_settings.proofs.OrderRuns.{position-run}
use Rattle.isort_settings.proofs.order.split_run.Goals as goal

pub split_at-requires : goal.split_at-requires
split_at-requires c =
    let e : c.unwrap_or-count.result ≡ prefix_len (λ b. b == c.args.byte) c.args.text.now =
    c.unwrap_or-count.ensures
    ∙ position-run (λ b. b == c.args.byte) _ c.position.result
    (position_from_yields_List (λ b. not (b == c.args.byte)) _ _ c.position.result c.position.ensures.ran (YieldsList-from_slice _ c.iter.ensures.rest) (λ x b q k. search (rules, tests))) in
    omega (arith, prefix_len-le-length (λ b. b == c.args.byte) c.args.text.now)

pub returns : goal.returns
returns c =
    let e : c.unwrap_or-count.result ≡ prefix_len (λ b. b == c.args.byte) c.args.text.now =
    c.unwrap_or-count.ensures
    ∙ position-run (λ b. b == c.args.byte) _ c.position.result
    (position_from_yields_List (λ b. not (b == c.args.byte)) _ _ c.position.result c.position.ensures.ran (YieldsList-from_slice _ c.iter.ensures.rest) (λ x b q k. search (rules, tests))) in
    record {
      count = e;
      rest = c.split_at.ensures.back ∙ ap (λ k. drop k c.args.text.now) e;
    }
