-- Corners of boxes, and radii.
use Rattle.std.proofs.Common.{◌≡◌, ◌∙◌, ap, subst, [], ◌∷◌, ℤ, pos, ◌≤ℤ◌, unsigned_abs, ◌≤◌, arith}
use Rattle.std.proofs.Math.Dec.{T_prop}
use Rattle.std.specs.Int.Signed.{le_z}
use Rattle.int_algebra.proofs.Scalars.{passed, passed_is}
use Rattle.geo_seg.specs.declared.points.Point.{Point}
use Rattle.part_read.specs.declared.radii.Radius.{Radius}
use Rattle.part_read.specs.Figures.{box_corners}
use Rattle.part_read.proofs.Shapes.{one_point}

-- a coordinate of a point, as it was passed
pub passed_coordinate : (z : ℤ) → unsigned_abs z ≤ 1000000000 → passed z ≡ z
passed_coordinate z h = passed_is z (omega (arith, h))

pub box_is : (p q r s : Point) → r.x ≡ q.x → r.y ≡ p.y → s.x ≡ p.x → s.y ≡ q.y → p ∷ r ∷ q ∷ s ∷ [] ≡ box_corners p q
box_is p q r s e f g h =
    ap (λ (t : Point). p ∷ t ∷ q ∷ s ∷ []) (one_point r (record { x = q.x; y = p.y; x_in_range = q.x_in_range; y_in_range = p.y_in_range }) e f)
    ∙ ap (λ (t : Point). p ∷ record { x = q.x; y = p.y; x_in_range = q.x_in_range; y_in_range = p.y_in_range } ∷ q ∷ t ∷ [])
    (one_point s (record { x = p.x; y = q.y; x_in_range = p.x_in_range; y_in_range = q.y_in_range }) g h)

≤ℤ_prop : (a b : ℤ) → IsProp (a ≤ℤ b)
≤ℤ_prop a b = hlevel (T_prop (le_z a b))

pub one_radius : (r s : Radius) → r.value ≡ s.value → r ≡ s
one_radius r s e =
    subst (λ (v : ℤ). (h : pos 0 ≤ℤ v) (k : v ≤ℤ pos 500000000) → r ≡ record { value = v; from = h; to = k }) e
    (λ h k. ap (λ (h : pos 0 ≤ℤ r.value). record { value = r.value; from = h; to = r.to }) (≤ℤ_prop _ _ r.from h)
    ∙ ap (λ (k : r.value ≤ℤ pos 500000000). record { value = r.value; from = h; to = k }) (≤ℤ_prop _ _ r.to k))
    s.from s.to
