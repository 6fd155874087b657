use Rattle.std.proofs.Common.{sym, subst}
use Rattle.ratsnest.specs.NestOf.{GroupsOccur}
use Rattle.pair_cases.proofs.nets.write_open.Goals as goal

pub nest-requires-clause-occur : goal.nest-requires-clause-occur
nest-requires-clause-occur c = subst GroupsOccur (sym c.deref-2.ensures.value) c.in_ok-ends.ensures.occur
