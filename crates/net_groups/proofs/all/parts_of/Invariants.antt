use Rattle.std.proofs.Common.{◌≡◌, ◌++◌, List, Some, length}
use Rattle.std.specs.List.{AllZip}
use Rattle.std.specs.Vec.Iter.{into_iter_items, into_iter_len}
use Rattle.net_groups.specs.NetParts.{PlainNetPart}
use Rattle.net_groups.specs.declared.works.Work.{Work}
use Rattle.net_groups.proofs.all.parts_of.Given as goal

abbrev pub invariant-loop-work : goal.invariant-loop-work
invariant-loop-work l =
    (done : List Work) × (l.fn.works.items ≡ done ++ into_iter_items l.work-iterator)
    × AllZip (λ (work : Work) (part : PlainNetPart). work.part ≡ Some part) done l.parts.items
    × (into_iter_len l.work-iterator ≡ length (into_iter_items l.work-iterator))
