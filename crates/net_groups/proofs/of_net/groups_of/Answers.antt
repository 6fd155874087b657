use Rattle.std.proofs.lemmas.Result.{IfOk-weaker}
use Rattle.net_groups.proofs.Whole.{groups_are}
use Rattle.net_groups.proofs.Nets.{on_net}
use Rattle.net_groups.proofs.AnchorsOf.{members_placed}
use Rattle.net_groups.proofs.of_net.groups_of.Goals as goal

pub returns-clause-groups : goal.returns-clause-groups
returns-clause-groups c =
    let gathered = rw (c.deref-6.ensures.value, c.deref-5.ensures.value) at c.gather.ensures in
    let labelled = rw c.deref-2.ensures.value at c.in_ok-found.ensures in
    IfOk-weaker c.gather.result _ _
    (λ groups h. on_net c.args.board.now c.args.net c.in_ok-all.ensures.sound groups.items
    (groups_are c.args.board.now c.args.net c.in_ok-all.all.ids.items c.in_ok-found.found.count c.in_ok-found.found.labels.items groups.items c.in_ok-all.ensures.ids labelled h)) gathered

pub returns-clause-filled : goal.returns-clause-filled
returns-clause-filled c = IfOk-weaker c.gather.result _ _ (λ groups are. are.filled) (returns-clause-groups c)

pub returns-clause-placed : goal.returns-clause-placed
returns-clause-placed c =
    IfOk-weaker c.gather.result _ _ (λ groups are. members_placed c.args.board.now c.args.net c.in_ok-all.ensures.sound groups.items are) (returns-clause-groups c)
