use Rattle.std.proofs.Common.{◌≡◌, ℤ}
use Rattle.geo_seg.specs.declared.boxes.Bounds.{Bounds}
use Rattle.geo_seg.proofs.Passed.{less_is, more_is, left_in_range, top_in_range, right_in_range, bottom_in_range}
use Rattle.geo_seg.proofs.extents.widen.Goals as goal

abbrev sides : ℤ → ℤ → ℤ → ℤ → Bounds
sides l t r b = record { left = l; top = t; right = r; bottom = b }

same_sides : (l t r b l' t' r' b' : ℤ) → l ≡ l' → t ≡ t' → r ≡ r' → b ≡ b' → sides l t r b ≡ sides l' t' r' b'
same_sides l t r b l' t' r' b' h k m n = cc

pub returns-clause-wider : goal.returns-clause-wider
returns-clause-wider c =
    let b = c.args.bounds in let r = c.args.radius in let f = c.requires.fits in
    same_sides _ _ _ _ _ _ _ _ (less_is b.left r (left_in_range 1000000000 b f) c.requires.range.from c.requires.range.to) (less_is b.top r (top_in_range 1000000000 b f) c.requires.range.from c.requires.range.to)
    (more_is b.right r (right_in_range 1000000000 b f) c.requires.range.from c.requires.range.to) (more_is b.bottom r (bottom_in_range 1000000000 b f) c.requires.range.from c.requires.range.to)
