use Rattle.std.proofs.Common.{FitsSigned, rules}
use mir.Syntax.{w128}
use Rattle.geo_seg.proofs.Passed.{within_is}
use Rattle.geo_seg.proofs.near.is_point_close.Goals as goal

pub returns : goal.returns
returns c =
    let fits : FitsSigned w128 c.least_gap-gap.result.top = search rules in
    within_is c.args.p c.args.s c.args.d c.least_gap-gap.result.top c.least_gap-gap.result.under c.limit.result c.least_gap-gap.ensures.least fits (record { sfits = c.limit.type_inv }) c.requires.from c.requires.to c.least_gap-gap.ensures.under_in_range c.limit.ensures
