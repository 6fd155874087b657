use Rattle.roundtrip_footprints.proofs.Written.{written_place, all_kept}
use Rattle.roundtrip_footprints.proofs.footprint_laws.places.Goals as goal

pub returns : goal.returns
returns c = record { moved = written_place; kept = all_kept }
