use Rattle.std.proofs.Common.{◌≡◌, sym, true, false}
use Rattle.copper_layers.specs.Layers.{has_layer}
use Rattle.part_read.proofs.Layering.{any_single, any_none, none_within}
use Rattle.part_read.proofs.layers.layer_if.Goals as goal

pub returns-then-has : goal.returns-then-has
returns-then-has c =
    let has : has_layer c.args.copper c.args.layer ≡ true = cc in
    record { set = rw (c.of.ensures.value, has) (sym (any_single c.args.layer c.requires)); on = (c.of.ensures.within c.args.copper).1 has }

pub returns-else-has : goal.returns-else-has
returns-else-has c =
    let lacks : has_layer c.args.copper c.args.layer ≡ false = cc in
    record { set = rw lacks (sym any_none); on = none_within c.args.copper }
