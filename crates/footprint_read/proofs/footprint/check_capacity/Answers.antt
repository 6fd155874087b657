use Rattle.std.proofs.Common.{◌∙◌, sym}
use Rattle.footprint_read.proofs.Standing.{capacity_step}
use Rattle.footprint_read.proofs.footprint.check_capacity.Goals as goal

pub loop-i-preserved : goal.loop-i-preserved
loop-i-preserved c =
    let capacity = sym c.has_capacity_after.ensures ∙ c.if-not-has_capacity_after.false in
    sym (capacity_step c.args.board.now c.args.unit c.loop-i.i c.loop-i.i c.args.all.now c.loop-i-test.true capacity) ∙ c.loop-i.invariant
