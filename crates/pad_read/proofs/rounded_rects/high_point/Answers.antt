use Rattle.std.proofs.Common.{◌∙◌, ap}
use Rattle.part_read.specs.declared.numbers.RawPoint.{RawPoint}
use Rattle.pad_read.specs.Halves.{half_point}
use Rattle.pad_read.proofs.rounded_rects.high_point.Goals as goal

pub returns : goal.returns
returns c = c.half_point.ensures ∙ ap (λ (s : RawPoint). half_point s) c.high_corner.ensures
