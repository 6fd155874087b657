use Rattle.std.proofs.Common.{◌<◌, get_or, length, inl, inr, sym, subst, arith}
use Rattle.std.proofs.lemmas.Bool.{cases_eq}
use Rattle.std.proofs.lemmas.List.{get_or_default}
use Rattle.geo_seg.specs.declared.boxes.Bounds.{Bounds}
use Rattle.geo_seg.specs.Boxes.{IsPartOf}
use Rattle.net_groups.proofs.Asked.{no_bounds}
use Rattle.net_groups.proofs.ItemBoxRuns.{part_of_part}
use Rattle.net_groups.proofs.runs.run_of.Goals as goal

pub loop-place-preserved : goal.loop-place-preserved
loop-place-preserved c =
    let item_boxes = c.args.item_boxes.now in
    λ k d lo hi l. elim (cases_eq k c.loop-place.place) [
      | inl e ↦
          let inside : c.loop-place.place < length item_boxes = omega (arith, l, e) in
          subst (λ n. IsPartOf (get_or item_boxes n d) c.union-run.result) (sym e)
          (subst (λ (b : Bounds). IsPartOf b c.union-run.result) (get_or_default item_boxes c.loop-place.place no_bounds d inside) c.union-run.ensures.least.second)
      | inr n ↦ part_of_part (get_or item_boxes k d) c.loop-place.run c.union-run.result (c.loop-place.invariant k d lo (omega arith) l) c.union-run.ensures.least.first
    ]
