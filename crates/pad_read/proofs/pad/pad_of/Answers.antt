use Rattle.std.proofs.Common.{◌∙◌, ap, sym, subst, codes, ℤ, Result, w64, rules}
use mir.Val.{SFits}
use Rattle.sexpr_read.specs.TreeViews.{tree_of}
use Rattle.board_errors.specs.declared.errors.BoardError.{BoardError}
use Rattle.copper_layers.specs.declared.set.LayerSet.{LayerSet}
use Rattle.one_item.specs.declared.item.Item.{Item}
use Rattle.list_read.specs.NamedElements.{element}
use Rattle.part_read.specs.ElementResults.{in_needed}
use Rattle.part_read.specs.BoardLayers.{layers_named}
use Rattle.part_read.specs.NodeResults.{Gives}
use Rattle.part_read.proofs.Shapes.{clean}
use Rattle.pad_read.specs.PadOf.{label_of}
use Rattle.pad_read.proofs.Padding.{pad_by}
use Rattle.pad_read.proofs.pad.pad_of.Goals as goal

pub returns-clause-pad : goal.returns-clause-pad
returns-clause-pad c =
    let head = c.args.head.now in
    let tree = tree_of c.args.node in
    let number = tree_of c.in_ok-number.number in
    let own = c.in_ok-own.own in
    let fits : SFits w64 own = search rules in
    subst (λ (answer : Result Item BoardError). Gives c.pad_on.result answer)
    (sym (pad_by c.args.board.now c.args.unit head tree number c.in_ok-frame.frame c.in_ok-layers.layers c.in_ok-form.form c.in_ok-net.net own c.in_ok-label.label
    (sym c.in_ok-number.ensures) (sym c.in_ok-frame.ensures.frame)
    (ap (λ (s : LayerSet). in_needed (layers_named s) tree (element (codes "layers") tree)) (sym c.copper.ensures) ∙ sym c.in_ok-layers.ensures.layers)
    c.in_ok-form.ensures.form (sym c.in_ok-net.ensures.net) (sym c.in_ok-own.ensures)
    (ap (λ (z : ℤ). label_of c.args.unit c.in_ok-net.net z head number tree) (sym (clean own fits)) ∙ sym c.in_ok-label.ensures.label)))
    c.pad_on.ensures.pad
