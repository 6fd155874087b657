use Rattle.std.proofs.Common.{◌∙◌, sym, w64, rules}
use mir.Val.{SFits}
use Rattle.part_read.specs.OnBoard.{is_strip, strip_shape}
use Rattle.part_read.proofs.Shapes.{is_tested, one_shape, one_line, clean}
use Rattle.part_read.proofs.on_board.strip_shape.Goals as goal

pub returns : goal.returns
returns c =
    let strip = c.args.strip in
    let fits : SFits w64 strip.width = search rules in
    is_tested (is_strip strip) (strip_shape strip) _
    (λ h. one_shape _ (strip_shape strip h)
    (one_line c.doubled.result c.doubled-2.result _ _ c.doubled.ensures.x c.doubled.ensures.y c.doubled-2.ensures.x c.doubled-2.ensures.y)
    (clean strip.width fits))
    (sym c.is_strip.ensures ∙ c.if-not-is_strip.false)
