-- Points and shapes are the same where their numbers and their cores are: what bounds them has one proof.
use Rattle.std.proofs.Common.{◌≡◌, refl, ap, subst, sym, ◌∙◌, ℤ, pos, negsuc, ◌*ℤ◌, ◌≤ℤ◌, ◌≤◌, unsigned_abs, Bool, true, false, None, Some, w64, arith}
use Rattle.std.proofs.Math.Bridge.{le_prop}
use Rattle.std.proofs.Math.Dec.{T_prop}
use Rattle.std.proofs.Math.Facts.{to_z-of_z}
use mir.Val.{to_z, of_z}
use Rattle.std.specs.Prelude.{FitsSigned}
use Rattle.std.proofs.lemmas.Int.{ints}
use Rattle.std.specs.Int.Signed.{le_z}
use Rattle.geo_seg.specs.declared.points.Point.{Point}
use Rattle.geo_seg.specs.declared.shapes.Core.{Core}
use Rattle.geo_seg.specs.declared.shapes.Core.TheVariants.{Line}
use Rattle.geo_seg.specs.declared.shapes.Shape.{Shape}
use Rattle.one_item.specs.Positions.{is_near}
use Rattle.part_read.specs.OnBoard.{tested, doubled_in_range}

≤ℤ_prop : (a b : ℤ) → IsProp (a ≤ℤ b)
≤ℤ_prop a b = hlevel (T_prop (le_z a b))

pub one_point : (p q : Point) → p.x ≡ q.x → p.y ≡ q.y → p ≡ q
one_point p q e f =
    let in_x = subst (λ (x : ℤ). (h : unsigned_abs x ≤ 1000000000) → p ≡ record { x = x; y = p.y; x_in_range = h; y_in_range = p.y_in_range }) e
    (λ h. ap (λ (k : unsigned_abs p.x ≤ 1000000000). record p { x_in_range = k }) (le_prop p.x_in_range h)) in
    subst (λ (y : ℤ). (h : unsigned_abs y ≤ 1000000000) → p ≡ record { x = q.x; y = y; x_in_range = q.x_in_range; y_in_range = h }) f
    (λ h. in_x q.x_in_range ∙ ap (λ (k : unsigned_abs p.y ≤ 1000000000). record { x = q.x; y = p.y; x_in_range = q.x_in_range; y_in_range = k }) (le_prop p.y_in_range h)) q.y_in_range

pub one_line : (p q r s : Point) → p.x ≡ r.x → p.y ≡ r.y → q.x ≡ s.x → q.y ≡ s.y → Line (record { a = p; b = q }) ≡ Line (record { a = r; b = s })
one_line p q r s e f g h =
    ap (λ (o : Point). Line (record { a = o; b = q })) (one_point p r e f) ∙ ap (λ (o : Point). Line (record { a = r; b = o })) (one_point q s g h)

pub one_shape : (s t : Shape) → s.core ≡ t.core → s.radius ≡ t.radius → s ≡ t
one_shape s t e f =
    subst (λ (r : ℤ). (h : pos 0 ≤ℤ r) (k : r ≤ℤ pos 500000000) → s ≡ record { core = t.core; radius = r; radius_from = h; radius_to = k }) f
    (λ h k. ap (λ (c : Core). record s { core = c }) e
    ∙ ap (λ (h : pos 0 ≤ℤ s.radius). record { core = t.core; radius = s.radius; radius_from = h; radius_to = s.radius_to }) (≤ℤ_prop _ _ s.radius_from h)
    ∙ ap (λ (k : s.radius ≤ℤ pos 500000000). record { core = t.core; radius = s.radius; radius_from = h; radius_to = k }) (≤ℤ_prop _ _ s.radius_to k))
    t.radius_from t.radius_to

doubled_fits : (x : ℤ) → unsigned_abs (pos 2 *ℤ x) ≤ 1000000000 → FitsSigned w64 (pos 2 *ℤ x)
doubled_fits x h = fits_by (pos 2 *ℤ x) h
  where
    fits_by : (z : ℤ) → unsigned_abs z ≤ 1000000000 → FitsSigned w64 z
    fits_by (pos n) h = record { sfits = omega (arith, ints) }
    fits_by (negsuc n) h = record { sfits = omega (arith, ints) }

-- what is made where the test holds
pub is_tested : {A : Type 0} (test : Bool) (make : test ≡ true → A) (x : A) → ((h : test ≡ true) → x ≡ make h) → test ≡ true → Some x ≡ tested test make
is_tested true make x same h = ap (λ (y : _). Some y) (same refl)
is_tested false make x same h = absurd cc

pub not_tested : {A : Type 0} (test : Bool) (make : test ≡ true → A) → test ≡ false → None ≡ tested test make
not_tested true make h = absurd cc
not_tested false make h = refl

module _ (x : ℤ) (fits : FitsSigned w64 x) where
  pub clean : to_z w64 (of_z w64 x) ≡ x
  clean = to_z-of_z fits

  pub doubled : is_near x ≡ true → to_z w64 (of_z w64 (pos 2 *ℤ to_z w64 (of_z w64 x))) ≡ pos 2 *ℤ x
  doubled h = subst (λ (z : ℤ). to_z w64 (of_z w64 (pos 2 *ℤ z)) ≡ pos 2 *ℤ x) (sym clean) (to_z-of_z (doubled_fits x (doubled_in_range x h)))
