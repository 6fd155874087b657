use Rattle.std.proofs.Common.{ℤ}
use Rattle.geo_seg.specs.Points.{IsOn}
use Rattle.geo_seg.specs.Boxes.{AreClear}
use Rattle.geo_seg.proofs.BoxLemmas.{clear_apart}
use Rattle.geo_seg.proofs.Passed.{at_d}
use Rattle.geo_seg.proofs.near.boxes_apart.Goals as goal

pub returns : goal.returns
returns c = λ yes.
    let b = c.bounds.result in let k = c.bounds-2.result in
    let e = at_d (λ (z : ℤ). AreClear b k z) c.args.d _ c.requires.from c.requires.to c.is_clear.ensures in
    clear_apart (IsOn c.args.a) (IsOn c.args.b) b k c.args.d c.requires.from c.bounds.ensures.least c.bounds-2.ensures.least (e.0 yes)
