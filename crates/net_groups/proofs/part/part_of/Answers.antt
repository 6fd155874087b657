use Rattle.std.proofs.Common.{sym, subst}
use Rattle.ratsnest.specs.NestOf.{GroupsOccur}
use Rattle.net_groups.proofs.part.part_of.Goals as goal

pub nest-requires-clause-occur : goal.nest-requires-clause-occur
nest-requires-clause-occur c = subst GroupsOccur (sym c.deref-2.ensures.value) c.in_ok-anchors.ensures.occur
