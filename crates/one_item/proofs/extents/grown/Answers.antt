use Rattle.std.proofs.Common.{Option, sym, subst}
use Rattle.geo_seg.specs.declared.boxes.Bounds.{Bounds}
use Rattle.geo_seg.specs.declared.shapes.Shape.{Shape}
use Rattle.geo_seg.specs.Cores.{IsBoundsOf}
use Rattle.one_item.specs.Extents.{AreBoundsOf}
use Rattle.one_item.proofs.Around.{first_part, one_more}
use Rattle.one_item.proofs.extents.grown.Goals as goal

pub returns-in-None-clause-grown : goal.returns-in-None-clause-grown
returns-in-None-clause-grown c = λ parts part same before.
    first_part parts part c.bounds-bounds.result (subst (λ (s : Shape). IsBoundsOf s c.bounds-bounds.result) (sym same) c.bounds-bounds.ensures.least)
    (subst (λ (found : Option Bounds). AreBoundsOf parts found) c.in-None.is before)

pub returns-in-Some-clause-grown : goal.returns-in-Some-clause-grown
returns-in-Some-clause-grown c = λ parts part same before.
    one_more parts part c.in-Some.box_so_far c.bounds-bounds.result c.union.result (subst (λ (s : Shape). IsBoundsOf s c.bounds-bounds.result) (sym same) c.bounds-bounds.ensures.least)
    c.union.ensures.least.first c.union.ensures.least.second c.union.ensures.least.least
    (subst (λ (found : Option Bounds). AreBoundsOf parts found) c.in-Some.is before)
