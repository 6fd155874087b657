use Rattle.std.proofs.Common.{rules, get_or, sym, subst}
use Rattle.tile_pool.specs.Crews.{IsFresh, IsDone}
use Rattle.tile_pool.proofs.pool.run_crew.Goals as goal

pub for_each_mut-requires-clause-accepts : goal.for_each_mut-requires-clause-accepts
for_each_mut-requires-clause-accepts g c κs within i p l e = ((c.requires.ready, c.requires.count, subst (IsFresh c.args.deal.now) (sym e) (c.requires.fresh i p.now l)), search rules)

pub returns : goal.returns
returns g c k d l =
    let h = (c.for_each_mut.ensures k d l).1 in
    let G = g.T.TileWork.gives c.args.work.now in
    subst (IsDone c.args.deal.now G (get_or c.args.crew.now k d)) h.left (subst (λ w. IsDone c.args.deal.now G w h.after_call.now) h.argument_is h.call)
