use Rattle.std.proofs.Common.{◌∙◌, sym, ap}
use Rattle.sexpr_read.specs.Tree.{parts}
use Rattle.sexpr_read.specs.TreeViews.{tree_of, trees_left}
use Rattle.part_read.specs.BoardLayers.{listed, layers_listed}
use Rattle.part_read.proofs.Layering.{no_layers, gathered, gathered_begun, gathered_more, few_none, few_union, gathered_few}
use Rattle.part_read.proofs.layers.layers_listed.Goals as goal

pub loop-part-init : goal.loop-part-init
loop-part-init c = record {
  sets = ap (gathered listed no_layers) (ap trees_left c.into_iter-part-iterator.ensures.into_iter_gives ∙ c.children-part-items.ensures.given);
  few = few_none;
}

pub loop-part-preserved : goal.loop-part-preserved
loop-part-preserved c = record {
  sets = rw c.union-set.ensures.value
      (sym (gathered_more listed c.loop-part.set _ (tree_of c.in-Some.part) (trees_left c.next.new.self) c.in_ok-listed.ensures)
      ∙ ap (gathered listed c.loop-part.set) (sym c.in-Some.ensures.steps) ∙ c.loop-part.invariant.sets);
  few = rw c.union-set.ensures.value (few_union c.loop-part.set c.in_ok-listed.field-0 (listed (tree_of c.in-Some.part)) c.loop-part.invariant.few c.in_ok-listed.ensures);
}

pub returns : goal.returns
unfolding layers_listed
returns c =
    sym (gathered_few listed c.loop-part.set c.loop-part.invariant.few) ∙ ap (gathered listed c.loop-part.set) (sym c.in-None.ensures.steps.0) ∙ c.loop-part.invariant.sets
    ∙ gathered_begun listed (parts (tree_of c.args.list))
