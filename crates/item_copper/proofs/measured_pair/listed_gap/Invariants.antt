use Rattle.std.proofs.Common.{pos, ◌*ℤ◌, All, take}
use Rattle.std.specs.List.{filter}
use Rattle.geo_seg.specs.Distances.{Apart, IsGap}
use Rattle.item_copper.specs.MeasuredSides.{is_taken, parts_at}
use Rattle.item_copper.proofs.measured_pair.listed_gap.Given as goal

-- the gap of those so far
abbrev pub invariant-loop-part : goal.invariant-loop-part
invariant-loop-part l = IsGap (λ g. All (λ part. All (λ other. Apart part.shape other.shape (pos 2 *ℤ g)) (parts_at l.side)) (filter (is_taken l.listed.layer) (take l.part-index l.listed.parts.now))) l.most l.gap
