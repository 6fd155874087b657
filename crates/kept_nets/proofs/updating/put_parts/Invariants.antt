use Rattle.std.proofs.Common.{◌<◌, ℕ, List, length, All, vec_len}
use Rattle.board_items.specs.Boards.{PlainBoard}
use Rattle.net_groups.specs.declared.works.Work.{Work}
use Rattle.kept_nets.specs.NetPlans.{IsPlan}
use Rattle.kept_nets.proofs.updating.put_parts.Given as goal

abbrev pub invariant-loop-work : goal.invariant-loop-work
invariant-loop-work l =
    All (λ (work : Work). work.place < length l.parts) l.works.items
    × ((board : PlainBoard) (nets : List ℕ) → IsPlan board nets l.fn.parts l.fn.works.items → IsPlan board nets l.parts l.works.items)

abbrev pub decreases-loop-work : goal.decreases-loop-work
decreases-loop-work l = vec_len l.works
