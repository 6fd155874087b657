use Rattle.roundtrip_lists.proofs.Numbers.{size_translated, name_translated, layer_translated, net_translated}
use Rattle.roundtrip_lists.proofs.RawPoints.{raw_point_translated}
use Rattle.roundtrip_lists.proofs.list_laws.numbers.Goals as goal

pub returns : goal.returns
returns c = record { raw_points = raw_point_translated; sizes = size_translated; names = name_translated; layers = layer_translated; nets = net_translated }
