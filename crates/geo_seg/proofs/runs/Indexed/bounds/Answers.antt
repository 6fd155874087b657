use Rattle.std.proofs.Common.{pos, sym, subst}
use Rattle.geo_seg.specs.declared.boxes.Bounds.{Bounds}
use Rattle.geo_seg.specs.Boxes.{FitsWithin}
use Rattle.geo_seg.specs.RunBoxes.{sides_of}
use Rattle.geo_seg.proofs.CornerBoxes.{box_fits}
use Rattle.geo_seg.proofs.runs.Indexed.bounds.Goals as goal

pub returns-clause-fits : goal.returns-clause-fits
returns-clause-fits c = subst (λ (b : Bounds). FitsWithin (pos 1000000000) b) (sym c.bounds.ensures) (box_fits _ (sides_of c.args.self.now.whole) c.requires.whole)
