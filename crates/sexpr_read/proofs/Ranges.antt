-- What holds at one place, and passes on from each place to the next, holds further on.
use Rattle.std.proofs.Common.{ℕ, suc, ◌≤◌, ◌<◌, arith}
use Rattle.std.proofs.Math.Decide.{le_ind}

pub range_ind : (P : ℕ → Type 0) (a b : ℕ) → a ≤ b → P a → ((i : ℕ) → a ≤ i → i < b → P i → P (suc i)) → P b
range_ind P a b h here next =
    let upto : ℕ → Type 0 = λ m. m ≤ b → P m in
    le_ind upto (λ _. here) (λ m low q below. next m low (omega arith) (q (omega arith))) b h (omega arith)
