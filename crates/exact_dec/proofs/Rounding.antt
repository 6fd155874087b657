-- Rounding a signed fraction, from the quotient without a sign.
use Rattle.std.proofs.Common.{◌≡◌, ◌≢◌, ℕ, zero, suc, ◌+◌, ◌*◌, ◌<◌, ◌≤◌, ◌/◌, ◌%◌, Bool, true, false, ℤ, pos, negsuc, neg_ℤ, ◌+ℤ◌, ◌*ℤ◌, ◌≤ℤ◌, ◌<ℤ◌, unsigned_abs, sym, ap, ◌∙◌, refl, arith, ◌==◌}
use Rattle.std.proofs.Math.Nat.{mul-le-mul_right, zero-div, div-add-mod'}
use Rattle.std.proofs.lemmas.Int.{ints, by_lt_z}
use Rattle.std.proofs.lemmas.Nat.{div-mul-add, mod_below}
use Rattle.std.proofs.lemmas.Bool.{eqb-true, eqb-false}
use Rattle.exact_dec.specs.Decimal.{Fraction, signed, cut, IsRounded}
use Rattle.exact_dec.specs.Computed.{floor, near}
use Rattle.exact_dec.specs.Spelled.{IsQuotient, half}

pub times_signed : (k t : ℕ) (negative : Bool) → pos k *ℤ signed negative t ≡ signed negative (k * t)
times_signed k t false = refl
times_signed k zero true = omega (arith, ints)
times_signed k (suc t) true = refl

pub abs_signed : (negative : Bool) (n : ℕ) → unsigned_abs (signed negative n) ≡ n
abs_signed false n = refl
abs_signed true zero = refl
abs_signed true (suc n) = refl

pub pos_abs : (z : ℤ) → pos 0 ≤ℤ z → pos (unsigned_abs z) ≡ z
pos_abs (pos n) h = refl
pos_abs (negsuc n) h = absurd (omega (arith, ints))

-- ---- cut

pub quotient_div : (n d q : ℕ) (e : Bool) → IsQuotient n d q e → n / d ≡ q
quotient_div n d q e h = ap (λ x. x / d) h.divided ∙ div-mul-add q d h.left h.small

pub cut_signed : (n d : ℕ) (negative : Bool) → cut (record { numerator = signed negative n; denominator = d }) ≡ signed negative (n / d)
cut_signed n d false = refl
cut_signed zero d true = let none : 0 / d ≡ 0 = zero-div d in rw none
cut_signed (suc n) d true = refl

-- ---- near

scale : (a b : ℤ) (c : ℕ) → a ≤ℤ b → (a *ℤ pos c) ≤ℤ (b *ℤ pos c)
scale (pos a) (pos b) c h = let n : a ≤ b = omega (arith, ints) in omega (arith, ints, mul-le-mul_right c n)
scale (pos a) (negsuc b) c h = absurd (omega (arith, ints))
scale (negsuc a) (pos b) c h = omega (arith, ints)
scale (negsuc a) (negsuc b) c h = let n : suc b ≤ suc a = omega (arith, ints) in omega (arith, ints, mul-le-mul_right c n)

twice : (a b : ℤ) → a ≤ℤ b → (pos 2 *ℤ a) ≤ℤ (pos 2 *ℤ b)
twice (pos a) (pos b) h = omega (arith, ints)
twice (pos a) (negsuc b) h = absurd (omega (arith, ints))
twice (negsuc a) (pos b) h = omega (arith, ints)
twice (negsuc a) (negsuc b) h = omega (arith, ints)

not_less : (f : Fraction) (n k : ℤ) → IsRounded f n → IsRounded f k → n <ℤ k → ⊥
not_less f n k a b h =
    let next : (n +ℤ pos 1) ≤ℤ k = omega (arith, ints) in
    let more = scale _ _ f.denominator (twice _ _ next) in
    let below = a.greatest in
    let above = b.not_above in
    omega (arith, ints)

-- a fraction has one nearest whole number
pub near_once : (f : Fraction) (n k : ℤ) → IsRounded f n → IsRounded f k → n ≡ k
near_once f n k a b = by_lt_z n k (λ h. absurd (not_less f n k a b h)) (λ h. by_lt_z k n (λ l. absurd (not_less f k n b a l)) (λ l. omega (arith, ints)))

neg_times : (x d : ℕ) → neg_ℤ (pos x) *ℤ pos d ≡ neg_ℤ (pos (x * d))
neg_times zero d = let none : 0 * d ≡ 0 = omega arith in rw none
neg_times (suc x) d = refl

twice_neg : (x : ℕ) → pos 2 *ℤ neg_ℤ (pos x) ≡ neg_ℤ (pos (2 * x))
twice_neg zero = refl
twice_neg (suc x) = refl

doubled_neg : (x d : ℕ) → (pos 2 *ℤ neg_ℤ (pos x)) *ℤ pos d ≡ neg_ℤ (pos (2 * x * d))
doubled_neg x d = ap (λ z. z *ℤ pos d) (twice_neg x) ∙ neg_times (2 * x) d

next_step : (a : ℤ) (d : ℕ) → (pos 2 *ℤ (a +ℤ pos 1)) *ℤ pos d ≡ ((pos 2 *ℤ a) *ℤ pos d) +ℤ pos (2 * d)
next_step (pos a) d = omega (arith, ints)
next_step (negsuc a) d =
    let up_one : negsuc a +ℤ pos 1 ≡ neg_ℤ (pos a) = omega (arith, ints) in
    let left : (pos 2 *ℤ (negsuc a +ℤ pos 1)) *ℤ pos d ≡ neg_ℤ (pos (2 * a * d)) = ap (λ z. (pos 2 *ℤ z) *ℤ pos d) up_one ∙ doubled_neg a d in
    let right : (pos 2 *ℤ negsuc a) *ℤ pos d ≡ neg_ℤ (pos (2 * suc a * d)) = doubled_neg (suc a) d in
    left ∙ (omega (arith, ints) ∙ ap (λ z. z +ℤ pos (2 * d)) (sym right))

floor_is : (z : ℤ) (d : ℕ) → 0 < d → (((pos 2 *ℤ floor z (2 * d)) *ℤ pos d) ≤ℤ z) × (z <ℤ ((pos 2 *ℤ (floor z (2 * d) +ℤ pos 1)) *ℤ pos d))
floor_is (pos n) d some =
    let whole : n / (2 * d) * (2 * d) + n % (2 * d) ≡ n = div-add-mod' n (2 * d) in
    let small : n % (2 * d) < 2 * d = mod_below n (2 * d) (omega arith) in
    (omega (arith, ints), omega (arith, ints))
floor_is (negsuc n) d some =
    let whole : n / (2 * d) * (2 * d) + n % (2 * d) ≡ n = div-add-mod' n (2 * d) in
    let small : n % (2 * d) < 2 * d = mod_below n (2 * d) (omega arith) in
    let below : (pos 2 *ℤ negsuc (n / (2 * d))) *ℤ pos d ≡ neg_ℤ (pos (2 * suc (n / (2 * d)) * d)) = doubled_neg (suc (n / (2 * d))) d in
    let above = next_step (negsuc (n / (2 * d))) d in
    (rw below (omega (arith, ints)), rw (above, below) (omega (arith, ints)))

pub near_is : (f : Fraction) → 0 < f.denominator → IsRounded f (near f)
near_is f some = let h = floor_is ((pos 2 *ℤ f.numerator) +ℤ pos f.denominator) f.denominator some in record { not_above = h.0; greatest = h.1 }

some_left : (n : ℕ) → (n == 0) ≡ false → 0 < n
some_left n h = let not : n ≢ 0 = λ e. eqb-false n 0 h e in omega arith

-- the nearest whole number of a signed fraction, by its number of halves
pub half_near : (n d q : ℕ) (e negative : Bool) → IsQuotient (2 * n) d q e → IsRounded (record { numerator = signed negative n; denominator = d }) (signed negative (half negative q e))
half_near n d q e false h =
    let halved : (q + 1) / 2 * 2 + (q + 1) % 2 ≡ q + 1 = div-add-mod' (q + 1) 2 in
    let small : (q + 1) % 2 < 2 = mod_below (q + 1) 2 (omega arith) in
    let low : 2 * ((q + 1) / 2) * d ≤ (q + 1) * d = mul-le-mul_right d (omega arith) in
    let high : (q + 1) * d ≤ (2 * ((q + 1) / 2) + 1) * d = mul-le-mul_right d (omega arith) in
    record { not_above = omega (arith, ints, h.divided, h.small); greatest = omega (arith, ints, h.divided, h.small) }
half_near n d q true true h =
    let halved : q / 2 * 2 + q % 2 ≡ q = div-add-mod' q 2 in
    let small : q % 2 < 2 = mod_below q 2 (omega arith) in
    let low : 2 * (q / 2) * d ≤ q * d = mul-le-mul_right d (omega arith) in
    let high : q * d ≤ (2 * (q / 2) + 1) * d = mul-le-mul_right d (omega arith) in
    let nothing : h.left ≡ 0 = eqb-true h.left 0 (sym h.is_exact) in
    let below : (pos 2 *ℤ neg_ℤ (pos (q / 2))) *ℤ pos d ≡ neg_ℤ (pos (2 * (q / 2) * d)) = doubled_neg (q / 2) d in
    let above = next_step (neg_ℤ (pos (q / 2))) d in
    let twofold = twice_neg n in
    record { not_above = rw (below, twofold) (omega (arith, ints, h.divided, h.small)); greatest = rw (above, below, twofold) (omega (arith, ints, h.divided, h.small)) }
half_near n d q false true h =
    let halved : (q + 1) / 2 * 2 + (q + 1) % 2 ≡ q + 1 = div-add-mod' (q + 1) 2 in
    let small : (q + 1) % 2 < 2 = mod_below (q + 1) 2 (omega arith) in
    let low : 2 * ((q + 1) / 2) * d ≤ (q + 1) * d = mul-le-mul_right d (omega arith) in
    let high : (q + 1) * d ≤ (2 * ((q + 1) / 2) + 1) * d = mul-le-mul_right d (omega arith) in
    let something : 0 < h.left = some_left h.left (sym h.is_exact) in
    let below : (pos 2 *ℤ neg_ℤ (pos ((q + 1) / 2))) *ℤ pos d ≡ neg_ℤ (pos (2 * ((q + 1) / 2) * d)) = doubled_neg ((q + 1) / 2) d in
    let above = next_step (neg_ℤ (pos ((q + 1) / 2))) d in
    let twofold = twice_neg n in
    record { not_above = rw (below, twofold) (omega (arith, ints, h.divided, h.small)); greatest = rw (above, below, twofold) (omega (arith, ints, h.divided, h.small)) }
