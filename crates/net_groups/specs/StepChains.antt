-- Chains of steps.
use Rattle.std.specs.Prelude.{ℕ}

-- a chain of steps from number to number; it may have none
pub data Chain (Step : ℕ → ℕ → Type 0) : ℕ → ℕ → Type 0 where
  here : {i : ℕ} → Chain Step i i
  step : {i j k : ℕ} → Step i j → Chain Step j k → Chain Step i k
