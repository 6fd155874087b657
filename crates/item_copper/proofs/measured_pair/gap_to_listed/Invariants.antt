use Rattle.std.proofs.Common.{pos, ◌*ℤ◌, All, take}
use Rattle.std.specs.List.{filter}
use Rattle.geo_seg.specs.Distances.{Apart, IsGap}
use Rattle.item_copper.specs.MeasuredSides.{is_taken}
use Rattle.item_copper.proofs.measured_pair.gap_to_listed.Given as goal

-- the gap to those so far
abbrev pub invariant-loop-other : goal.invariant-loop-other
invariant-loop-other l = IsGap (λ g. All (λ other. Apart l.shape other.shape (pos 2 *ℤ g)) (filter (is_taken l.listed.layer) (take l.other-index l.listed.parts.now))) l.most l.gap
