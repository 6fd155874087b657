use Rattle.std.proofs.Common.{ℤ}
use Rattle.geo_seg.specs.Points.{IsOn}
use Rattle.geo_seg.specs.Nearer.{AreApart}
use Rattle.geo_seg.proofs.Distances.{apart_less}
use Rattle.geo_seg.proofs.Passed.{at_d}
use Rattle.geo_seg.proofs.gaps.keeps.Goals as goal

pub returns-clause-apart : goal.returns-clause-apart
returns-clause-apart c = at_d (λ (z : ℤ). AreApart (IsOn c.args.a) (IsOn c.args.b) z) c.args.d _ c.requires.from c.requires.to c.seg_apart.ensures

pub returns-clause-greater : goal.returns-clause-greater
returns-clause-greater c = λ e more far. (returns-clause-apart c).1 (apart_less (IsOn c.args.a) (IsOn c.args.b) c.args.d e c.requires.from more far)
