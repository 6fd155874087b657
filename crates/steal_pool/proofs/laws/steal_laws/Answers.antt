use Rattle.std.proofs.Common.{nat_eq, if◌then◌else◌, sym}
use Rattle.steal_pool.proofs.Machine.{loses_none}
use Rattle.steal_pool.proofs.laws.steal_laws.Goals as goal

pub returns-clause-machine : goal.returns-clause-machine
returns-clause-machine c = loses_none

pub returns-clause-deque : goal.returns-clause-deque
returns-clause-deque c items views b x = (sym (b.same (λ y. if nat_eq y x then 1 else 0)), b.once x)
