use Rattle.std.proofs.Common.{sym}
use Rattle.roundtrip_edited.proofs.Zones.{zone_carried}
use Rattle.roundtrip_edited.proofs.unit_laws.zones.Goals as goal

pub returns : goal.returns
returns c o board other unit own i j s r ground translated items now become says capacity =
    sym (zone_carried o board other unit own i j s r items now (sym ground.copper) ground.names translated become capacity (sym says))
