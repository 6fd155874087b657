use Rattle.part_read.specs.BoardLayers.{layer_if}
use Rattle.part_read.proofs.Layering.{any_union, union_within}
use Rattle.part_read.proofs.layers.outer_of.Goals as goal

pub returns : goal.returns
returns c = record {
  set = rw (c.union.ensures.value, c.layer_if.ensures.set, c.layer_if-2.ensures.set) (any_union (layer_if c.args.copper 0) (layer_if c.args.copper 31));
  on = rw c.union.ensures.value (union_within c.layer_if.result c.layer_if-2.result c.args.copper c.layer_if.ensures.on c.layer_if-2.ensures.on);
}
