use Rattle.std.proofs.Common.{◌≡◌, drop, length}
use Rattle.part_read.specs.There.{after}
use Rattle.part_read.specs.Placements.{points_stood}
use Rattle.part_read.proofs.placements.points_stood.Given as goal

-- the points so far, and those of the raw points that are left, are all
abbrev pub invariant-loop-raw_point : goal.invariant-loop-raw_point
invariant-loop-raw_point l = record {
  points : after l.points.items (points_stood l.placement (drop l.raw_point-index l.raw_points)) ≡ points_stood l.placement l.raw_points;
  many : length l.points.items ≡ l.raw_point-index;
}
