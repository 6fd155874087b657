-- Chains, one after another and back.
use Rattle.std.proofs.Common.{ℕ}
use Rattle.net_groups.specs.StepChains.{Chain}
use Rattle.net_groups.specs.StepChains.Chain.{here, step}

module _ (Step : ℕ → ℕ → Type 0) where
  pub chain_join : {i j k : ℕ} → Chain Step i j → Chain Step j k → Chain Step i k
  chain_join here d = d
  chain_join (step s c) d = step s (chain_join c d)

  pub chain_end : {i j k : ℕ} → Chain Step i j → Step j k → Chain Step i k
  chain_end c s = chain_join c (step s here)

  -- where steps go both ways
  pub chain_back : ((i j : ℕ) → Step i j → Step j i) → {i j : ℕ} → Chain Step i j → Chain Step j i
  chain_back back here = here
  chain_back back (step {i} {j} s c) = chain_end (chain_back back c) (back i j s)
