-- Copper that meets meets both ways.
use Rattle.std.proofs.Common.{◌≡◌, ℤ, ◌+ℤ◌, ◌≤ℤ◌, [], ◌∷◌, subst, arith}
use Rattle.std.proofs.lemmas.Int.{ints}
use Rattle.int_algebra.proofs.Ring.{var, ◌⊕◌, ◌⊖◌, ◌⊗◌, sq, ring}
use Rattle.geo_seg.specs.declared.shapes.Shape.{Shape}
use Rattle.geo_seg.specs.Points.{RationalPoint}
use Rattle.geo_seg.specs.Nearer.{squared_gap, squared_limit, IsAtMost}
use Rattle.geo_seg.specs.Distances.{Meet}
use Rattle.one_item.specs.declared.item.Item.{Item}
use Rattle.one_item.specs.CopperPairs.{CopperMeets}

gap_sym : (p q : RationalPoint) → squared_gap p q ≡ squared_gap q p
gap_sym p q =
    let Px = var 0 in let Py = var 1 in let Pw = var 2 in let Qx = var 3 in let Qy = var 4 in let Qw = var 5 in
    ring (p.x ∷ p.y ∷ p.w ∷ q.x ∷ q.y ∷ q.w ∷ []) (sq (Px ⊗ Qw ⊖ Qx ⊗ Pw) ⊕ sq (Py ⊗ Qw ⊖ Qy ⊗ Pw)) (sq (Qx ⊗ Pw ⊖ Px ⊗ Qw) ⊕ sq (Qy ⊗ Pw ⊖ Py ⊗ Qw)) tt

limit_sym : (d : ℤ) (p q : RationalPoint) → squared_limit d p q ≡ squared_limit d q p
limit_sym d p q = ring (d ∷ p.w ∷ q.w ∷ []) (sq (var 0 ⊗ var 1 ⊗ var 2)) (sq (var 0 ⊗ var 2 ⊗ var 1)) tt

within_sym : (d : ℤ) (p q : RationalPoint) → IsAtMost d p q → IsAtMost d q p
within_sym d p q n = along (squared_gap p q) (squared_gap q p) (squared_limit d p q) (squared_limit d q p) (gap_sym p q) (limit_sym d p q) n
  where
    along : (a a' b b' : ℤ) → a ≡ a' → b ≡ b' → a ≤ℤ b → a' ≤ℤ b'
    along a a' b b' e f h = omega (arith, ints)

pub meet_back : (s t : Shape) → Meet s t → Meet t s
meet_back s t m = record {
  from = m.to;
  to = m.from;
  of_first = m.of_second;
  of_second = m.of_first;
  within = subst (λ (d : ℤ). IsAtMost d m.to m.from) (swapped s.radius t.radius) (within_sym (s.radius +ℤ t.radius) m.from m.to m.within);
}
  where
    swapped : (r q : ℤ) → r +ℤ q ≡ q +ℤ r
    swapped r q = omega (arith, ints)

pub copper_meets_back : (a b : Item) → CopperMeets a b → CopperMeets b a
copper_meets_back a b c =
    let some = c.meet.some in
    let one = some.4 in
    record {
      layer = c.layer;
      meet = record { some = (one.0, one.1, one.2, one.3, (some.0, some.1, some.2, some.3, meet_back some.1.shape one.1.shape one.4)) };
    }
