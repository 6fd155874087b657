use Rattle.std.proofs.Common.{◌≡◌, ◌∙◌, refl, ap, sym, ℕ, ◌+◌, ◌<◌, arith, List, [], ◌∷◌, ◌++◌, append_assoc, length, length-append, slice_index_or, drop, Option, None, Some}
use Rattle.std.proofs.lemmas.List.{drop_more}
use Rattle.geo_seg.specs.declared.points.Point.{Point}
use Rattle.part_read.specs.declared.numbers.RawPoint.{RawPoint}
use Rattle.part_read.specs.declared.placements.Placement.{Placement}
use Rattle.part_read.specs.There.{both, after}
use Rattle.part_read.specs.Placements.{point_stood, points_stood}
use Rattle.part_read.proofs.placements.points_stood.Goals as goal

-- one more point of those that are there
one_on : (old : List Point) (p : Point) (rest : Option (List Point)) → after (old ++ p ∷ []) rest ≡ after old (both (λ y ys. y ∷ ys) (Some p) rest)
one_on old p None = refl
one_on old p (Some ys) = ap (λ (zs : List Point). Some zs) (append_assoc old (p ∷ []) ys)

next : (placement : Placement) (raw_points : List RawPoint) (i : ℕ) (d : RawPoint) (old new : List Point) (p : Point) → i < length raw_points → point_stood placement (slice_index_or raw_points i d) ≡ Some p → new ≡ old ++ p ∷ []
    → after new (points_stood placement (drop (i + 1) raw_points)) ≡ after old (points_stood placement (drop i raw_points))
next placement raw_points i d old new p less there more =
    let rest : Option (List Point) = points_stood placement (drop (i + 1) raw_points) in
    ap (λ (xs : List Point). after xs rest) more ∙ one_on old p rest
    ∙ ap (λ (o : Option Point). after old (both (λ y ys. y ∷ ys) o rest)) (sym there)
    ∙ sym (ap (λ (ss : List RawPoint). after old (points_stood placement ss)) (drop_more raw_points i d less))

pub point_stood-requires-clause-raw_point : goal.point_stood-requires-clause-raw_point
point_stood-requires-clause-raw_point c = c.requires.raw_points c.loop-raw_point.raw_point-index _ c.loop-raw_point-test.true

pub loop-raw_point-preserved : goal.loop-raw_point-preserved
loop-raw_point-preserved c = record {
  points =
      next c.args.placement c.args.raw_points.now c.loop-raw_point.raw_point-index _ c.loop-raw_point.points.items c.push.new.self.items c.in-Some.point c.loop-raw_point-test.true (sym c.point_stood.ensures ∙ c.in-Some.is) c.in_ok-push.ensures.items
      ∙ c.loop-raw_point.invariant.points;
  many = let more = ap length c.in_ok-push.ensures.items in let many = length-append c.loop-raw_point.points.items (c.in-Some.point ∷ []) in let so_far = c.loop-raw_point.invariant.many in omega (arith, more, many, so_far);
}
