use Rattle.std.proofs.Common.{◌≡◌, ℕ, ◌<◌, length, true, rules}
use Rattle.ratsnest.specs.NestOf.{group_at}
use Rattle.ratsnest.proofs.Rising.{all_to}
use Rattle.ratsnest.proofs.lists.do_groups_occur.Goals as goal

pub loop-group-preserved : goal.loop-group-preserved
loop-group-preserved c =
    let anchors = c.args.anchors.now in
    let yes : c.has_group.result ≡ true = search rules in
    all_to (λ g. (i : ℕ) × (i < length anchors) × (group_at anchors i ≡ g)) c.loop-group.group c.loop-group.invariant (c.has_group.ensures.0 yes)
