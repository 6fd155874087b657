-- A rational point on the way from one rational point to another.
use Rattle.std.proofs.Common.{◌≡◌, ℤ, pos, ◌+ℤ◌, ◌-ℤ◌, ◌*ℤ◌, ◌≤ℤ◌, ◌<ℤ◌, [], ◌∷◌, arith}
use Rattle.std.proofs.lemmas.Int.{ints}
use Rattle.int_algebra.proofs.Ring.{var, num, ◌⊕◌, ◌⊖◌, ◌⊗◌, fact, ring_by}
use Rattle.geo_seg.specs.Points.{RationalPoint}

-- r lies part / whole of the way from p to q
pub record IsBetween (p q r : RationalPoint) : Type 0 where
  pub part : ℤ
  pub whole : ℤ
  pub starts : pos 0 ≤ℤ part
  pub ends : part ≤ℤ whole
  pub positive : pos 0 <ℤ whole
  pub along_x : whole *ℤ (p.w *ℤ q.w *ℤ r.x) ≡ r.w *ℤ ((whole -ℤ part) *ℤ (p.x *ℤ q.w) +ℤ part *ℤ (q.x *ℤ p.w))
  pub along_y : whole *ℤ (p.w *ℤ q.w *ℤ r.y) ≡ r.w *ℤ ((whole -ℤ part) *ℤ (p.y *ℤ q.w) +ℤ part *ℤ (q.y *ℤ p.w))

back_at : (m i pw qw px qx rw rx : ℤ) → m *ℤ (pw *ℤ qw *ℤ rx) ≡ rw *ℤ ((m -ℤ i) *ℤ (px *ℤ qw) +ℤ i *ℤ (qx *ℤ pw)) → m *ℤ (qw *ℤ pw *ℤ rx) ≡ rw *ℤ ((m -ℤ (m -ℤ i)) *ℤ (qx *ℤ pw) +ℤ (m -ℤ i) *ℤ (px *ℤ qw))
back_at m i pw qw px qx rw rx h =
    let M = var 0 in let I = var 1 in let Pw = var 2 in let Qw = var 3 in let Px = var 4 in let Qx = var 5 in let Rw = var 6 in let Rx = var 7 in
    ring_by (m ∷ i ∷ pw ∷ qw ∷ px ∷ qx ∷ rw ∷ rx ∷ []) (fact (num (pos 1)) (M ⊗ (Pw ⊗ Qw ⊗ Rx)) (Rw ⊗ ((M ⊖ I) ⊗ (Px ⊗ Qw) ⊕ I ⊗ (Qx ⊗ Pw))) ∷ []) (h, tt)
    (M ⊗ (Qw ⊗ Pw ⊗ Rx)) (Rw ⊗ ((M ⊖ (M ⊖ I)) ⊗ (Qx ⊗ Pw) ⊕ (M ⊖ I) ⊗ (Px ⊗ Qw))) tt

pub IsBetween-back : (p q r : RationalPoint) → IsBetween p q r → IsBetween q p r
IsBetween-back p q r b = record {
  part = b.whole -ℤ b.part;
  whole = b.whole;
  starts = rest b.part b.whole b.ends;
  ends = kept b.part b.whole b.starts;
  positive = b.positive;
  along_x = back_at b.whole b.part p.w q.w p.x q.x r.w r.x b.along_x;
  along_y = back_at b.whole b.part p.w q.w p.y q.y r.w r.y b.along_y;
}
  where
    rest : (i m : ℤ) → i ≤ℤ m → pos 0 ≤ℤ (m -ℤ i)
    rest i m h = omega (arith, ints)

    kept : (i m : ℤ) → pos 0 ≤ℤ i → (m -ℤ i) ≤ℤ m
    kept i m h = omega (arith, ints)
