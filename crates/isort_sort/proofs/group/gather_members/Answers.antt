-- One more member.
use Rattle.std.proofs.Common.{List, map, ap, sym, ◌∙◌}
use Rattle.std.specs.Vec.Iter.{into_iter_items}
use Rattle.isort_settings.specs.Values.{values}
use Rattle.isort_sort.specs.Private.Gathered.{brings, brought, found, seen_after}
use Rattle.isort_sort.specs.Private.Values.{member_value}
use Rattle.isort_sort.specs.declared.member.Member as code_member
use Rattle.isort_sort.proofs.Groups.Seen.{seen_after-append}
use Rattle.isort_sort.proofs.group.gather_members.Goals as goal

pub loop-member-preserved : goal.loop-member-preserved
loop-member-preserved c = λ s.
    let v = values c.args.settings.now in
    let m = member_value c.in-Some.member in
    let seen = found s c.loop-member.statements.entries in
    let rest = brought v (map member_value (into_iter_items c.next.new.self)) in
    ap (λ o. seen_after s o rest) (c.in_ok-gather_member.ensures s)
    ∙ sym (seen_after-append s seen (brings v m.imports m.comments m.above) rest)
    ∙ ap (λ (ms : List code_member.Member). seen_after s seen (brought v (map member_value ms))) (sym c.in-Some.ensures.steps.0)
    ∙ c.loop-member.invariant s
