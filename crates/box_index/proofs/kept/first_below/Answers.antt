use Rattle.box_index.proofs.FarLemmas.{first_far}
use Rattle.box_index.proofs.kept.first_below.Goals as goal

pub returns-else-id-bound-clause-none : goal.returns-else-id-bound-clause-none
returns-else-id-bound-clause-none c = first_far c.args.bound (c.in-Some.id.now, c.in-Some.sides.now) c.args.far.now.entries c.requires c.in-Some.ensures.first c.if-id-bound.false
