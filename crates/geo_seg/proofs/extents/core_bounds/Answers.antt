use Rattle.std.proofs.Common.{sym, subst}
use Rattle.geo_seg.specs.declared.shapes.Core.{Core}
use Rattle.geo_seg.specs.Boxes.{IsLeastBox}
use Rattle.geo_seg.specs.Cores.{IsPointOf}
use Rattle.geo_seg.proofs.extents.core_bounds.Goals as goal

pub returns-in-Area-clause-least : goal.returns-in-Area-clause-least
returns-in-Area-clause-least c = subst (λ (k : Core). IsLeastBox (IsPointOf k) c.bounds-in-Area.result) (sym c.in-Area.is) c.bounds-in-Area.ensures.least
