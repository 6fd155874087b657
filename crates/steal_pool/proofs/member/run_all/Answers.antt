use Rattle.std.proofs.Common.{rules, get_or, sym, subst}
use Rattle.steal_pool.specs.PoolMembers.{IsReady, HasRun}
use Rattle.steal_pool.proofs.member.run_all.Goals as goal

pub for_each_mut-requires-clause-accepts : goal.for_each_mut-requires-clause-accepts
for_each_mut-requires-clause-accepts g c κs within i p l e = ((c.requires.ready, c.requires.count, subst (IsReady (g.T.TileWork.gives c.args.job.now.work.now) c.args.job.now.tiles c.args.job.now.others.now) (sym e) (c.requires.members i p.now l)), search rules)

pub returns : goal.returns
returns g c k d l =
    let h = (c.for_each_mut.ensures k d l).1 in
    let G = g.T.TileWork.gives c.args.job.now.work.now in
    subst (HasRun G c.args.job.now.tiles c.args.job.now.others.now (get_or c.args.members.now k d)) h.left (subst (λ m. HasRun G c.args.job.now.tiles c.args.job.now.others.now m h.after_call.now) h.argument_is h.call)
