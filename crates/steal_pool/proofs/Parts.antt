-- How many parts an owner has while passes are made, or come back, one deque after another.
use Rattle.std.proofs.Common.{◌≡◌, ℕ, ◌+◌, ◌<◌, ◌≤◌, ◌≢◌, if◌then◌else◌, nat_lt, sym, ap, ◌∙◌, arith, lt-ltb, le-ltb}
use native.Mathlib.Decide.{dec_lt}

-- 0 below the place, and else 1
abbrev pub past : ℕ → ℕ → ℕ
past k at = if nat_lt k at then 0 else 1

pub past_below : (k at : ℕ) → k < at → past k at ≡ 0
past_below k at l = ap (λ b. if b then 0 else 1) (lt-ltb k at l)

pub past_from : (k at : ℕ) → at ≤ k → past k at ≡ 1
past_from k at l = ap (λ b. if b then 0 else 1) (le-ltb k at l)

pub past_next : (k at : ℕ) → k ≢ at → past k at ≡ past k (at + 1)
past_next k at ne = go (dec_lt k at)
  where
    go : Dec (k < at) → past k at ≡ past k (at + 1)
    go (yes l) = past_below k at l ∙ sym (past_below k (at + 1) (omega arith))
    go (no l) = past_from k at (omega arith) ∙ sym (past_from k (at + 1) (omega (arith, ne)))
