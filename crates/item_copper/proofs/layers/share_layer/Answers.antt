use Rattle.std.proofs.Common.{◌<◌, ◌^◌, arith}
use Rattle.copper_layers.proofs.LayerLemmas.{shared_from, shared_to}
use Rattle.item_copper.proofs.layers.share_layer.Goals as goal

pub returns : goal.returns
returns c =
    let small : c.args.a.bits < 2 ^ 32 = omega arith in
    (shared_from c.args.a.bits c.args.b.bits small, λ h. shared_to c.args.a.bits c.args.b.bits h.0 h.1 h.2)
