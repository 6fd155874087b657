use Rattle.net_groups.specs.Works.{AreFoundUpTo}
use Rattle.net_groups.proofs.works.find_each.Given as goal

abbrev pub invariant-loop-place : goal.invariant-loop-place
invariant-loop-place l = AreFoundUpTo l.board l.place l.fn.works l.works
