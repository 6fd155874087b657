-- What stands in something that is moved.
use Rattle.std.proofs.Common.{◌≡◌, ◌∙◌, ap, ℤ, ◌+ℤ◌, None, arith}
use Rattle.std.proofs.lemmas.Int.{ints}
use Rattle.part_read.specs.declared.numbers.RawPoint.{RawPoint}
use Rattle.part_read.specs.declared.placements.Placement.{Placement}
use Rattle.part_read.specs.Circles.{radius_between}
use Rattle.part_read.specs.Placements.{turned_raw_point, stood}
use Rattle.roundtrip_lists.specs.Translated.{Shift}
use Rattle.roundtrip_lists.specs.Moved.{moved_raw_point}
use Rattle.roundtrip_lists.proofs.Drawn.{Placements}
use Rattle.roundtrip_footprints.specs.MovedHeads.{moved_placement}

move_after : (a dx t : ℤ) → (a +ℤ dx) +ℤ t ≡ (a +ℤ t) +ℤ dx
move_after a dx t = omega (arith, ints)

pub stood_moved : (d : Shift) (placement : Placement) (s : RawPoint) → stood (moved_placement d placement) s ≡ moved_raw_point d (stood placement s)
stood_moved d placement s =
    let t = turned_raw_point placement.quarter s in
    ap (λ (z : ℤ). let r : RawPoint = record { x = z; y = (placement.at.y +ℤ d.dy) +ℤ t.y } in r) (move_after placement.at.x d.dx t.x)
    ∙ ap (λ (z : ℤ). let r : RawPoint = record { x = (placement.at.x +ℤ t.x) +ℤ d.dx; y = z } in r) (move_after placement.at.y d.dy t.y)

pub moved_placements : (d : Shift) (placement : Placement) → Placements None d placement (moved_placement d placement)
moved_placements d placement = record {
  stands = λ s t h x y. ap (stood (moved_placement d placement)) h ∙ stood_moved d placement s;
  radii = λ a c e f h k x y most. ap (λ (z : RawPoint). radius_between z f) h ∙ ap (λ (z : RawPoint). radius_between a z) k;
}
