use Rattle.std.proofs.Common.{refl}
use Rattle.geo_seg.proofs.Shifted.{point_shifted, fits_x, fits_y}
use Rattle.geo_seg.proofs.points.Point.shifted.Goals as goal

pub invariant_of-result : goal.invariant_of-result
invariant_of-result c = record {
  x_in_range = fits_x c.args.by.dx c.args.by.dy c.args.self c.requires;
  y_in_range = fits_y c.args.by.dx c.args.by.dy c.args.self c.requires;
}

pub returns : goal.returns
returns c = point_shifted c.args.by.dx c.args.by.dy c.args.self _ c.requires refl refl
