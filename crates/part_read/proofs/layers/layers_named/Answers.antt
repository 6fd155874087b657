use Rattle.std.proofs.Common.{◌∙◌, sym, ap, rules, ◌<◌, ◌^◌}
use Rattle.sexpr_read.specs.Tree.{parts}
use Rattle.sexpr_read.specs.TreeViews.{tree_of, trees_left}
use Rattle.part_read.specs.BoardLayers.{named, layers_named}
use Rattle.part_read.proofs.Layering.{gathered, gathered_begun, gathered_all, gathered_more, union_within}
use Rattle.part_read.proofs.layers.layers_named.Goals as goal

pub loop-part-preserved : goal.loop-part-preserved
loop-part-preserved c = record {
  sets = rw c.union-set.ensures.value
      (sym (gathered_more (named c.args.copper) c.loop-part.set _ (tree_of c.in-Some.part) (trees_left c.next.new.self) c.in_ok-named.ensures.set)
      ∙ ap (gathered (named c.args.copper) c.loop-part.set) (sym c.in-Some.ensures.steps) ∙ c.loop-part.invariant.sets);
  on = rw c.union-set.ensures.value (union_within c.loop-part.set c.in_ok-named.field-0 c.args.copper c.loop-part.invariant.on c.in_ok-named.ensures.on);
}

pub returns-clause-set : goal.returns-clause-set
unfolding layers_named
returns-clause-set c =
    let few : c.loop-part.set.bits < 2 ^ 32 = search rules in
    sym (gathered_all (named c.args.copper) c.loop-part.set few) ∙ ap (gathered (named c.args.copper) c.loop-part.set) (sym c.in-None.ensures.steps.0)
    ∙ c.loop-part.invariant.sets ∙ gathered_begun (named c.args.copper) (parts (tree_of c.args.list))
