use Rattle.std.proofs.Common.{List, sym, subst, ap, ◌∙◌}
use Rattle.board_items.specs.BoardIterators.{nets_left}
use Rattle.net_groups.specs.declared.works.Work.{Work}
use Rattle.net_groups.proofs.Gathered.{AreWorksSoFar, real, work_less, work_all}
use Rattle.net_groups.proofs.all.all_works.Goals as goal

pub loop-net-init : goal.loop-net-init
loop-net-init c =
    subst (λ (works : List Work). AreWorksSoFar c.args.board.now (nets_left c.into_iter-net-iterator.result) works) (sym c.new-works.ensures.items)
    (sym (ap real (ap nets_left c.into_iter-net-iterator.ensures.into_iter_gives ∙ c.nets-net-items.ensures.nets)))

pub loop-net-preserved : goal.loop-net-preserved
loop-net-preserved c =
    work_less c.args.board.now _ (c.in-Some.net, c.in-Some.field-0-1.now) (nets_left c.next.new.self) c.in-Some.ensures.steps c.loop-net.works.items c.loop-net.invariant c.if-net-ne0.false

pub returns : goal.returns
returns c = work_all c.args.board.now _ c.loop-net.works.items c.in-None.ensures.steps.0 c.loop-net.invariant
