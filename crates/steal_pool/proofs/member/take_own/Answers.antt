use Rattle.std.proofs.Common.{arith}
use Rattle.crossbeam_deque.specs.Handles.{worker_view, worker_port}
use Rattle.steal_pool.proofs.Moves.{takes, finds}
use Rattle.steal_pool.proofs.member.take_own.Goals as goal

pub pop_as-requires-clause-fifo : goal.pop_as-requires-clause-fifo
pop_as-requires-clause-fifo g c = let own = c.loop.own in λ _. takes (worker_port own) (worker_view own) 1 (omega (arith, c.loop.invariant.0.2, c.requires.own.1))

pub pop_as-requires-clause-empty : goal.pop_as-requires-clause-empty
pop_as-requires-clause-empty g c = let own = c.loop.own in finds (worker_port own) (worker_view own)
