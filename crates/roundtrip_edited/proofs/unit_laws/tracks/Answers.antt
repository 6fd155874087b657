use Rattle.std.proofs.Common.{sym}
use Rattle.roundtrip_edited.proofs.Tracks.{track_carried}
use Rattle.roundtrip_edited.proofs.Vias.{via_carried}
use Rattle.roundtrip_edited.proofs.unit_laws.tracks.Goals as goal

pub returns : goal.returns
returns c = record {
  tracks = λ d board other ground. track_carried d board other (sym ground.copper) ground.names;
  vias = λ d board other ground. via_carried d board other (sym ground.copper) ground.names;
}
