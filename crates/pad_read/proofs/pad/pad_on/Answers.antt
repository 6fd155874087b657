use Rattle.std.proofs.Common.{◌∙◌, ap, sym}
use Rattle.copper_layers.specs.declared.set.LayerSet.{LayerSet}
use Rattle.pad_read.specs.PadOf.{placed}
use Rattle.pad_read.proofs.Padding.{placed_ready}
use Rattle.pad_read.proofs.pad.pad_on.Goals as goal

pub returns-in-Some-clause-ready : goal.returns-in-Some-clause-ready
returns-in-Some-clause-ready c =
    placed_ready c.args.board.now c.args.label c.args.layers c.args.frame c.args.form.now _ c.requires.net c.requires.on
    (ap (λ (s : LayerSet). placed s c.args.layers c.args.label c.args.frame c.args.form.now) (sym c.copper.ensures) ∙ sym c.in_ok-found.ensures ∙ c.in-Some.is)
