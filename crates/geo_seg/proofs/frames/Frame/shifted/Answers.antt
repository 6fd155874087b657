use Rattle.std.proofs.Common.{pos, ◌+ℤ◌, sym, subst, ap, ◌∙◌}
use Rattle.geo_seg.specs.declared.boxes.Bounds.{Bounds}
use Rattle.geo_seg.specs.Boxes.{FitsWithin}
use Rattle.geo_seg.specs.ShiftedRuns.{in_range_of}
use Rattle.geo_seg.proofs.Shifted.{bounds_fit, frame_shifted}
use Rattle.geo_seg.proofs.frames.Frame.shifted.Goals as goal

pub of-requires : goal.of-requires
of-requires c =
    bounds_fit c.args.by.dx c.args.by.dy c.bounds.result c.shifted.result (subst (FitsWithin (pos 1000000000)) (sym c.bounds.ensures) c.requires.fits)
    c.shifted.ensures.left c.shifted.ensures.top c.shifted.ensures.right c.shifted.ensures.bottom

pub returns : goal.returns
returns c =
    frame_shifted c.args.by.dx c.args.by.dy c.args.self c.of.result c.shifted.result c.requires.fits c.of.ensures
    (c.shifted.ensures.left ∙ ap (λ (b : Bounds). in_range_of (b.left +ℤ c.args.by.dx)) c.bounds.ensures)
    (c.shifted.ensures.top ∙ ap (λ (b : Bounds). in_range_of (b.top +ℤ c.args.by.dy)) c.bounds.ensures)
    (c.shifted.ensures.right ∙ ap (λ (b : Bounds). in_range_of (b.right +ℤ c.args.by.dx)) c.bounds.ensures)
    (c.shifted.ensures.bottom ∙ ap (λ (b : Bounds). in_range_of (b.bottom +ℤ c.args.by.dy)) c.bounds.ensures)
