-- The order of ℤ and products, and how an order follows from an identity.
use Rattle.std.proofs.Common.{◌≡◌, zero, suc, ℤ, pos, negsuc, ◌+ℤ◌, ◌-ℤ◌, ◌*ℤ◌, ◌≤ℤ◌, ◌<ℤ◌, Bool, true, false, [], ◌∷◌, refl, arith}
use Rattle.std.proofs.lemmas.Int.{ints, by_lt_z}
use Rattle.int_algebra.proofs.Ring.{var, ◌⊖◌, ◌⊗◌, ring}

pub product-nonneg : (a b : ℤ) → pos 0 ≤ℤ a → pos 0 ≤ℤ b → pos 0 ≤ℤ (a *ℤ b)
product-nonneg (pos a) (pos b) h k = omega (arith, ints)
product-nonneg (pos a) (negsuc b) h k = absurd (omega (arith, ints))
product-nonneg (negsuc a) b h k = absurd (omega (arith, ints))

pub square-nonneg : (a : ℤ) → pos 0 ≤ℤ (a *ℤ a)
square-nonneg (pos a) = omega (arith, ints)
square-nonneg (negsuc a) = omega (arith, ints)

pub product-pos : (a b : ℤ) → pos 0 <ℤ a → pos 0 <ℤ b → pos 0 <ℤ (a *ℤ b)
product-pos (pos zero) b h k = absurd (omega (arith, ints))
product-pos (pos (suc a)) (pos zero) h k = absurd (omega (arith, ints))
product-pos (pos (suc a)) (pos (suc b)) h k = omega (arith, ints)
product-pos (pos (suc a)) (negsuc b) h k = absurd (omega (arith, ints))
product-pos (negsuc a) b h k = absurd (omega (arith, ints))

pub sum-nonneg : (a b : ℤ) → pos 0 ≤ℤ a → pos 0 ≤ℤ b → pos 0 ≤ℤ (a +ℤ b)
sum-nonneg a b h k = omega (arith, ints)

pub sum-pos : (a b : ℤ) → pos 0 <ℤ a → pos 0 ≤ℤ b → pos 0 <ℤ (a +ℤ b)
sum-pos a b h k = omega (arith, ints)

pub le_refl : (a : ℤ) → a ≤ℤ a
le_refl a = omega (arith, ints)

pub le_trans : (a b c : ℤ) → a ≤ℤ b → b ≤ℤ c → a ≤ℤ c
le_trans a b c h k = omega (arith, ints)

pub lt_le_trans : (a b c : ℤ) → a <ℤ b → b ≤ℤ c → a <ℤ c
lt_le_trans a b c h k = omega (arith, ints)

pub le_lt_trans : (a b c : ℤ) → a ≤ℤ b → b <ℤ c → a <ℤ c
le_lt_trans a b c h k = omega (arith, ints)

pub not_lt : (a b : ℤ) → a ≤ℤ b → b <ℤ a → ⊥
not_lt a b h k = omega (arith, ints)

pub lt-le : (a b : ℤ) → a <ℤ b → a ≤ℤ b
lt-le a b h = omega (arith, ints)

-- an order as the sign of a difference, both ways
pub le_by : (a b s : ℤ) → b -ℤ a ≡ s → pos 0 ≤ℤ s → a ≤ℤ b
le_by a b s e h = omega (arith, ints)

pub lt_by : (a b s : ℤ) → b -ℤ a ≡ s → pos 0 <ℤ s → a <ℤ b
lt_by a b s e h = omega (arith, ints)

pub le_gap : (a b : ℤ) → a ≤ℤ b → pos 0 ≤ℤ (b -ℤ a)
le_gap a b h = omega (arith, ints)

pub lt_gap : (a b : ℤ) → a <ℤ b → pos 0 <ℤ (b -ℤ a)
lt_gap a b h = omega (arith, ints)

mul_sub : (c a b : ℤ) → c *ℤ b -ℤ c *ℤ a ≡ c *ℤ (b -ℤ a)
mul_sub c a b = ring (c ∷ a ∷ b ∷ []) (var 0 ⊗ var 2 ⊖ var 0 ⊗ var 1) (var 0 ⊗ (var 2 ⊖ var 1)) tt

pub scale_le : (c a b : ℤ) → pos 0 ≤ℤ c → a ≤ℤ b → (c *ℤ a) ≤ℤ (c *ℤ b)
scale_le c a b h k = le_by (c *ℤ a) (c *ℤ b) (c *ℤ (b -ℤ a)) (mul_sub c a b) (product-nonneg c (b -ℤ a) h (le_gap a b k))

pub scale_lt : (c a b : ℤ) → pos 0 <ℤ c → a <ℤ b → (c *ℤ a) <ℤ (c *ℤ b)
scale_lt c a b h k = lt_by (c *ℤ a) (c *ℤ b) (c *ℤ (b -ℤ a)) (mul_sub c a b) (product-pos c (b -ℤ a) h (lt_gap a b k))

pub unscale_le : (c a b : ℤ) → pos 0 <ℤ c → (c *ℤ a) ≤ℤ (c *ℤ b) → a ≤ℤ b
unscale_le c a b h k = by_lt_z b a (λ l. absurd (not_lt (c *ℤ a) (c *ℤ b) k (scale_lt c b a h l))) (λ l. l)

pub unscale_lt : (c a b : ℤ) → pos 0 ≤ℤ c → (c *ℤ a) <ℤ (c *ℤ b) → a <ℤ b
unscale_lt c a b h k = by_lt_z a b (λ l. l) (λ l. absurd (not_lt (c *ℤ b) (c *ℤ a) (scale_le c b a h l) k))

pub same_by_scale : (c a b : ℤ) → pos 0 <ℤ c → c *ℤ a ≡ c *ℤ b → a ≡ b
same_by_scale c a b h e = both a b (unscale_le c a b h (to_le (c *ℤ a) (c *ℤ b) e)) (unscale_le c b a h (to_ge (c *ℤ a) (c *ℤ b) e))
  where
    to_le : (x y : ℤ) → x ≡ y → x ≤ℤ y
    to_le x y e = omega (arith, ints)

    to_ge : (x y : ℤ) → x ≡ y → y ≤ℤ x
    to_ge x y e = omega (arith, ints)

    both : (x y : ℤ) → x ≤ℤ y → y ≤ℤ x → x ≡ y
    both x y h k = omega (arith, ints)

-- strict or not: `Below true` is <, `Below false` is ≤
abbrev pub Below : Bool → ℤ → ℤ → Type 0
Below true a b = a <ℤ b
Below false a b = a ≤ℤ b

pub Below-le : (r : Bool) (a b c : ℤ) → Below r a b → b ≤ℤ c → Below r a c
Below-le true a b c h k = omega (arith, ints)
Below-le false a b c h k = omega (arith, ints)

pub le-Below : (r : Bool) (a b c : ℤ) → a ≤ℤ b → Below r b c → Below r a c
le-Below true a b c h k = omega (arith, ints)
le-Below false a b c h k = omega (arith, ints)

pub scale_Below : (r : Bool) (c a b : ℤ) → pos 0 <ℤ c → Below r a b → Below r (c *ℤ a) (c *ℤ b)
scale_Below true c a b h k = scale_lt c a b h k
scale_Below false c a b h k = scale_le c a b (lt-le (pos 0) c h) k

pub unscale_Below : (r : Bool) (c a b : ℤ) → pos 0 <ℤ c → Below r (c *ℤ a) (c *ℤ b) → Below r a b
unscale_Below true c a b h k = unscale_lt c a b (lt-le (pos 0) c h) k
unscale_Below false c a b h k = unscale_le c a b h k

-- the three signs
pub by_sign : {P : Type 0} (a : ℤ) → (a <ℤ pos 0 → P) → (a ≡ pos 0 → P) → (pos 0 <ℤ a → P) → P
by_sign a n z p = by_lt_z a (pos 0) n (λ h. by_lt_z (pos 0) a p (λ k. z (omega (arith, ints))))

square-pos_of : (a : ℤ) → ¬ (a ≡ pos 0) → pos 0 <ℤ (a *ℤ a)
square-pos_of (pos zero) n = absurd (n refl)
square-pos_of (pos (suc a)) n = omega (arith, ints)
square-pos_of (negsuc a) n = omega (arith, ints)

pub square_zero : (a : ℤ) → (a *ℤ a) ≤ℤ pos 0 → a ≡ pos 0
square_zero a h = by_sign a (λ k. absurd (clash (a *ℤ a) h (square-pos_of a (below a k)))) (λ e. e) (λ k. absurd (clash (a *ℤ a) h (square-pos_of a (above a k))))
  where
    clash : (v : ℤ) → v ≤ℤ pos 0 → pos 0 <ℤ v → ⊥
    clash v h k = omega (arith, ints)

    below : (v : ℤ) → v <ℤ pos 0 → v ≡ pos 0 → ⊥
    below v h e = omega (arith, ints)

    above : (v : ℤ) → pos 0 <ℤ v → v ≡ pos 0 → ⊥
    above v h e = omega (arith, ints)

-- two numbers that are not negative and whose sum is not positive
pub sum_zero : (a b : ℤ) → pos 0 ≤ℤ a → pos 0 ≤ℤ b → (a +ℤ b) ≤ℤ pos 0 → (a ≤ℤ pos 0) × (b ≤ℤ pos 0)
sum_zero a b h k l = (omega (arith, ints), omega (arith, ints))
