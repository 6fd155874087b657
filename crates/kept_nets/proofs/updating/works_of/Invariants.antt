use Rattle.std.proofs.Common.{map}
use Rattle.kept_nets.specs.NetPlans.{AreWorksUpTo}
use Rattle.kept_nets.proofs.updating.works_of.Given as goal

abbrev pub invariant-loop-place : goal.invariant-loop-place
invariant-loop-place l = AreWorksUpTo (map (λ part. part.net) l.parts) l.nets l.place l.works.items
