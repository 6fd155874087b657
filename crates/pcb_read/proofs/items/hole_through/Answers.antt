use Rattle.std.proofs.Common.{◌∙◌, ap, w64, rules, ℤ}
use mir.Val.{SFits, to_z, of_z}
use Rattle.part_read.proofs.Shapes.{clean}
use Rattle.pcb_read.proofs.Making.{no_drill, hole_from}
use Rattle.pcb_read.proofs.items.hole_through.Goals as goal

pub returns-in_default : goal.returns-in_default
returns-in_default c = no_drill c.args.form.now c.args.layers c.in_default.is

pub returns : goal.returns
returns c =
    let drill = c.in-Some.drill in
    let fits : SFits w64 drill = search rules in
    let some = rw (clean drill fits) at c.in_ok-shape.ensures in
    hole_from c.args.form.now c.args.layers drill _ c.in_ok-shape.shape _ c.in-Some.is (ap (λ (v : ℤ). to_z w64 (of_z w64 v)) (clean drill fits) ∙ clean drill fits) some
