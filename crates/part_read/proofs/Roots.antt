-- The whole root of a number is the one whose square is not above it while that of the next one is.
use Rattle.std.proofs.Common.{◌≡◌, ℕ, zero, suc, ◌+◌, ◌*◌, ◌<◌, ◌≤◌, Bool, true, false, cond, leb, arith, ◌⊎◌, inl, inr}
use Rattle.std.proofs.lemmas.Nat.{mul-le}
use Rattle.std.proofs.lemmas.Bool.Decides.{leb_tells}
use Rattle.part_read.specs.Circles.{root}

pub record IsRoot (m r : ℕ) : Type 0 where
  pub below : r * r ≤ m
  pub next : m < suc r * suc r

step : (m r : ℕ) (b : Bool) → IsRoot m r → ((b ≡ true) × (suc r * suc r ≤ suc m)) ⊎ ((b ≡ false) × (suc m < suc r * suc r)) → IsRoot (suc m) (cond b (suc r) r)
step m r true h (inl k) = record { below = k.1; next = omega (arith, h.next, k.1) }
step m r true h (inr k) = absurd cc
step m r false h (inl k) = absurd cc
step m r false h (inr k) = record { below = omega (arith, h.below); next = k.1 }

pub root_is : (m : ℕ) → IsRoot m (root m)
unfolding root
root_is zero = record { below = omega arith; next = omega arith }
root_is (suc m) = step m (root m) (leb (suc (root m) * suc (root m)) (suc m)) (root_is m) (leb_tells (suc (root m) * suc (root m)) (suc m))

not_above : (m r s : ℕ) → r * r ≤ m → m < suc s * suc s → (r ≤ s) ⊎ (s < r) → r ≤ s
not_above m r s h k (inl l) = l
not_above m r s h k (inr l) =
    let le : suc s * suc s ≤ r * r = mul-le (suc s) (suc s) r r (omega arith) (omega arith) in
    absurd (omega (arith, le))

le_or_lt : (r s : ℕ) → (r ≤ s) ⊎ (s < r)
le_or_lt r s = by (leb_tells r s)
  where
    by : ((leb r s ≡ true) × (r ≤ s)) ⊎ ((leb r s ≡ false) × (s < r)) → (r ≤ s) ⊎ (s < r)
    by (inl h) = inl h.1
    by (inr h) = inr h.1

pub one_root : (m r : ℕ) → r * r ≤ m → m < (r + 1) * (r + 1) → r ≡ root m
one_root m r h k =
    let other = root_is m in
    let up : m < suc r * suc r = omega (arith, k) in
    let one = not_above m r (root m) h other.next (le_or_lt r (root m)) in
    let two = not_above m (root m) r other.below up (le_or_lt (root m) r) in
    omega (arith, one, two)

-- a number whose square is at most that of another is at most that one
pub root_most : (r most : ℕ) → r * r ≤ most * most → r ≤ most
root_most r most h = not_above (most * most) r most h (omega arith) (le_or_lt r most)

-- the squares of two differences of what was read
pub squares_most : (dx dy : ℕ) → dx ≤ 2000000000000 → dy ≤ 2000000000000 → dx * dx + dy * dy ≤ 8000000000000000000000000
squares_most dx dy h k =
    let x : dx * dx ≤ 2000000000000 * 2000000000000 = mul-le dx dx 2000000000000 2000000000000 h h in
    let y : dy * dy ≤ 2000000000000 * 2000000000000 = mul-le dy dy 2000000000000 2000000000000 k k in
    omega (arith, x, y)
