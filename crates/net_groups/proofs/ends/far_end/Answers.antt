use Rattle.std.proofs.Common.{ℤ, Option, MatchOption, subst}
use Rattle.geo_seg.specs.declared.points.Point.{Point}
use Rattle.net_groups.specs.declared.ends.AnchorPoint.{AnchorPoint}
use Rattle.net_groups.specs.Anchors.{IsAnchorPoint}
use Rattle.net_groups.proofs.ends.far_end.Goals as goal

pub returns-in-Some : goal.returns-in-Some
returns-in-Some c =
    subst (λ (end : Option Point). MatchOption c.anchor_point_at.result ((x y : ℤ) → ¬ (IsAnchorPoint end x y)) (λ (anchor_point : AnchorPoint). IsAnchorPoint end anchor_point.x anchor_point.y)) c.in-Some.ensures c.anchor_point_at.ensures
