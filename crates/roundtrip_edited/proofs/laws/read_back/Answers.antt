use Rattle.roundtrip_edited.proofs.Back.{read_back}
use Rattle.roundtrip_edited.proofs.Feet.{feet_carried, feet_stand}
use Rattle.roundtrip_edited.proofs.Unchanged.{unchanged}
use Rattle.roundtrip_edited.proofs.laws.read_back.Goals as goal

pub returns : goal.returns
returns c = record { again = read_back feet_carried feet_stand; unchanged = unchanged }
