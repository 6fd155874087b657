use Rattle.std.proofs.Common.{◌≡◌, ◌∙◌, sym, arith}
use Rattle.sexpr_read.specs.TreeViews.{tree_of}
use Rattle.list_read.specs.ListHeads.{is_text}
use Rattle.list_read.proofs.Words.{name_found, name_passed}
use Rattle.copper_layers.specs.Layers.{layer_names}
use Rattle.copper_layers.proofs.LayerNames.{none_left}
use Rattle.part_read.specs.BoardLayers.{layer_number}
use Rattle.part_read.proofs.layers.seek_layer.Goals as goal

pub returns-then-is-clause-number : goal.returns-then-is-clause-number
unfolding layer_number
returns-then-is-clause-number c =
    sym (name_found c.loop-layer.layer layer_names (tree_of c.args.atom) c.layer_name.result.now c.is.result c.layer_name.ensures c.is.ensures c.if-is.true) ∙ c.loop-layer.invariant

pub loop-layer-preserved : goal.loop-layer-preserved
loop-layer-preserved c =
    sym (name_passed c.loop-layer.layer layer_names (tree_of c.args.atom) c.layer_name.result.now c.is.result c.layer_name.ensures c.is.ensures c.if-is.false) ∙ c.loop-layer.invariant

pub returns-clause-number : goal.returns-clause-number
unfolding layer_number
returns-clause-number c =
    let all : c.loop-layer.layer ≡ 32 = omega (arith, c.loop-layer.auto.layer-end) in
    sym (none_left (is_text (tree_of c.args.atom)) c.loop-layer.layer all) ∙ c.loop-layer.invariant
