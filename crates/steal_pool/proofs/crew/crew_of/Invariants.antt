use Rattle.std.proofs.Common.{◌≡◌, ◌+◌, ◌≤◌, [], length, map, All, vec_len, vec_capacity}
use Rattle.steal_pool.specs.Seats.{AreUnused}
use Rattle.steal_pool.proofs.crew.crew_of.Given as goal

abbrev pub invariant-loop-own : goal.invariant-loop-own
invariant-loop-own g l =
    (goal.iterator-loop-own g).can_next l.own-iterator
    × (goal.iterator-loop-own g).is_finite l.own-iterator
    × (map (λ m. m.own) l.crew.items ≡ l.yielded)
    × All (λ v. AreUnused l.tiles l.others v.items) l.all.items
    × All (λ m. AreUnused l.tiles l.others m.lines.items) l.crew.items
    × All (λ m. (m.share.hand.items ≡ []) × (m.share.batch.items ≡ [])) l.crew.items
    × (length l.all.items + length l.crew.items ≡ length l.fn.owners.items)
    × (vec_len l.fn.owners ≤ vec_capacity l.crew)
