use Rattle.net_class.specs.ClassValues.{json_if}
use Rattle.net_class.proofs.Whole.{sizes_are}
use Rattle.net_class.proofs.mins.sizes_in.Goals as goal

pub returns : goal.returns
returns c =
    sizes_are (json_if c.args.rules) c.in_ok-drill.drill.nm c.in_ok-track.track.nm c.in_ok-ring.ring.nm c.in_ok-via.via.nm
    c.in_ok-drill.ensures c.in_ok-track.ensures c.in_ok-ring.ensures c.in_ok-via.ensures
