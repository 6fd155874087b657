-- Two rational points given by fractions are near each other where the fractions are.
use Rattle.std.proofs.Common.{◌≡◌, ℤ, pos, ◌+ℤ◌, ◌-ℤ◌, ◌*ℤ◌, ◌<ℤ◌, Bool, [], ◌∷◌, sym, subst}
use Rattle.int_algebra.proofs.Ring.{var, ◌⊕◌, ◌⊖◌, ◌⊗◌, minus, sq, fact, ring, ring_by}
use Rattle.int_algebra.proofs.Order.{product-pos, Below, scale_Below, unscale_Below}
use Rattle.geo_seg.specs.Points.{RationalPoint}
use Rattle.geo_seg.specs.Nearer.{square, squared_gap, squared_limit}

-- Below along equations on both sides
pub Below_along : (r : Bool) (a a' b b' : ℤ) → a ≡ a' → b ≡ b' → Below r a b → Below r a' b'
Below_along r a a' b b' e f h = subst (λ (y : ℤ). Below r a' y) f (subst (λ (x : ℤ). Below r x b) e h)

-- the rational point p is (x / m, y / m)
pub record IsFraction (p : RationalPoint) (m x y : ℤ) : Type 0 where
  pub positive : pos 0 <ℤ m
  pub at_x : m *ℤ p.x ≡ p.w *ℤ x
  pub at_y : m *ℤ p.y ≡ p.w *ℤ y

abbrev pub fraction_gap : ℤ → ℤ → ℤ → ℤ → ℤ → ℤ → ℤ
fraction_gap m x y n x' y' = square (n *ℤ x -ℤ m *ℤ x') +ℤ square (n *ℤ y -ℤ m *ℤ y')

cross_over : (px pw qx qw m n x x' : ℤ) → m *ℤ px ≡ pw *ℤ x → n *ℤ qx ≡ qw *ℤ x' → m *ℤ n *ℤ (px *ℤ qw -ℤ qx *ℤ pw) ≡ pw *ℤ qw *ℤ (n *ℤ x -ℤ m *ℤ x')
cross_over px pw qx qw m n x x' e f =
    let px' = var 0 in let pw' = var 1 in let qx' = var 2 in let qw' = var 3 in let m' = var 4 in let n' = var 5 in let a' = var 6 in let b' = var 7 in
    ring_by (px ∷ pw ∷ qx ∷ qw ∷ m ∷ n ∷ x ∷ x' ∷ [])
    (fact (n' ⊗ qw') (m' ⊗ px') (pw' ⊗ a') ∷ fact (minus (m' ⊗ pw')) (n' ⊗ qx') (qw' ⊗ b') ∷ []) (e, (f, tt))
    (m' ⊗ n' ⊗ (px' ⊗ qw' ⊖ qx' ⊗ pw')) (pw' ⊗ qw' ⊗ (n' ⊗ a' ⊖ m' ⊗ b')) tt

squares : (k a b l a' b' : ℤ) → k *ℤ a ≡ l *ℤ a' → k *ℤ b ≡ l *ℤ b' → square k *ℤ (square a +ℤ square b) ≡ square l *ℤ (square a' +ℤ square b')
squares k a b l a' b' e f =
    let k' = var 0 in let a1 = var 1 in let b1 = var 2 in let l' = var 3 in let a2 = var 4 in let b2 = var 5 in
    ring_by (k ∷ a ∷ b ∷ l ∷ a' ∷ b' ∷ []) (fact (k' ⊗ a1 ⊕ l' ⊗ a2) (k' ⊗ a1) (l' ⊗ a2) ∷ fact (k' ⊗ b1 ⊕ l' ⊗ b2) (k' ⊗ b1) (l' ⊗ b2) ∷ []) (e, (f, tt))
    (sq k' ⊗ (sq a1 ⊕ sq b1)) (sq l' ⊗ (sq a2 ⊕ sq b2)) tt

limits : (d pw qw m n : ℤ) → square (m *ℤ n) *ℤ square (d *ℤ pw *ℤ qw) ≡ square (pw *ℤ qw) *ℤ square (d *ℤ (m *ℤ n))
limits d pw qw m n =
    let d' = var 0 in let p' = var 1 in let q' = var 2 in let m' = var 3 in let n' = var 4 in
    ring (d ∷ pw ∷ qw ∷ m ∷ n ∷ []) (sq (m' ⊗ n') ⊗ sq (d' ⊗ p' ⊗ q')) (sq (p' ⊗ q') ⊗ sq (d' ⊗ (m' ⊗ n'))) tt

square-pos : (a b : ℤ) → pos 0 <ℤ a → pos 0 <ℤ b → pos 0 <ℤ square (a *ℤ b)
square-pos a b h k = let ab = product-pos a b h k in product-pos (a *ℤ b) (a *ℤ b) ab ab

gaps : (p q : RationalPoint) (m x y n x' y' : ℤ) → IsFraction p m x y → IsFraction q n x' y' → square (m *ℤ n) *ℤ squared_gap p q ≡ square (p.w *ℤ q.w) *ℤ fraction_gap m x y n x' y'
gaps p q m x y n x' y' hp hq =
    squares (m *ℤ n) (p.x *ℤ q.w -ℤ q.x *ℤ p.w) (p.y *ℤ q.w -ℤ q.y *ℤ p.w) (p.w *ℤ q.w) (n *ℤ x -ℤ m *ℤ x') (n *ℤ y -ℤ m *ℤ y')
    (cross_over p.x p.w q.x q.w m n x x' hp.at_x hq.at_x) (cross_over p.y p.w q.y q.w m n y y' hp.at_y hq.at_y)

pub rational_points_to_fractions : (r : Bool) (d : ℤ) (p q : RationalPoint) (m x y n x' y' : ℤ) → IsFraction p m x y → IsFraction q n x' y' → Below r (squared_gap p q) (squared_limit d p q) → Below r (fraction_gap m x y n x' y') (square (d *ℤ (m *ℤ n)))
rational_points_to_fractions r d p q m x y n x' y' hp hq h =
    unscale_Below r (square (p.w *ℤ q.w)) (fraction_gap m x y n x' y') (square (d *ℤ (m *ℤ n))) (square-pos p.w q.w p.positive q.positive)
    (Below_along r (square (m *ℤ n) *ℤ squared_gap p q) (square (p.w *ℤ q.w) *ℤ fraction_gap m x y n x' y') (square (m *ℤ n) *ℤ squared_limit d p q) (square (p.w *ℤ q.w) *ℤ square (d *ℤ (m *ℤ n)))
    (gaps p q m x y n x' y' hp hq) (limits d p.w q.w m n)
    (scale_Below r (square (m *ℤ n)) (squared_gap p q) (squared_limit d p q) (square-pos m n hp.positive hq.positive) h))

pub fractions_to_rational_points : (r : Bool) (d : ℤ) (p q : RationalPoint) (m x y n x' y' : ℤ) → IsFraction p m x y → IsFraction q n x' y' → Below r (fraction_gap m x y n x' y') (square (d *ℤ (m *ℤ n))) → Below r (squared_gap p q) (squared_limit d p q)
fractions_to_rational_points r d p q m x y n x' y' hp hq h =
    unscale_Below r (square (m *ℤ n)) (squared_gap p q) (squared_limit d p q) (square-pos m n hp.positive hq.positive)
    (Below_along r (square (p.w *ℤ q.w) *ℤ fraction_gap m x y n x' y') (square (m *ℤ n) *ℤ squared_gap p q) (square (p.w *ℤ q.w) *ℤ square (d *ℤ (m *ℤ n))) (square (m *ℤ n) *ℤ squared_limit d p q)
    (sym (gaps p q m x y n x' y' hp hq)) (sym (limits d p.w q.w m n))
    (scale_Below r (square (p.w *ℤ q.w)) (fraction_gap m x y n x' y') (square (d *ℤ (m *ℤ n))) (square-pos p.w q.w p.positive q.positive) h))
