use Rattle.roundtrip_lists.proofs.CourtMoving.{chained_moved}
use Rattle.roundtrip_lists.proofs.Cornering.{has_corner}
use Rattle.roundtrip_lists.proofs.court_laws.chains.Goals as goal

pub returns : goal.returns
returns c = record { moved = chained_moved; corners = has_corner }
