use Rattle.std.proofs.Common.{arith}
use Rattle.crossbeam_deque.specs.Handles.{worker_view, worker_port}
use Rattle.steal_pool.proofs.Moves.{takes, finds}
use Rattle.steal_pool.proofs.rest.drain.Goals as goal

pub pop_as-requires-clause-fifo : goal.pop_as-requires-clause-fifo
pop_as-requires-clause-fifo g c = let own = c.loop-number.own in λ _. takes (worker_port own) (worker_view own) 1 (omega (arith, c.loop-number.invariant.0.1))

pub pop_as-requires-clause-empty : goal.pop_as-requires-clause-empty
pop_as-requires-clause-empty g c = let own = c.loop-number.own in finds (worker_port own) (worker_view own)
