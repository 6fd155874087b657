use Rattle.std.proofs.Common.{◌≡◌, ◌≤◌, false, map, All, vec_len, vec_capacity}
use Rattle.steal_pool.proofs.crew.disband.Given as goal

abbrev pub invariant-loop-member : goal.invariant-loop-member
invariant-loop-member g l =
    (l.owners.items ≡ map (λ m. m.own) l.yielded)
    × (l.all.items ≡ map (λ m. m.lines) l.yielded)
    × (l.hands.items ≡ map (λ m. m.share.hand) l.yielded)
    × (l.batches.items ≡ map (λ m. m.share.batch) l.yielded)
    × (vec_len l.fn.crew ≤ vec_capacity l.owners)
    × (vec_len l.fn.crew ≤ vec_capacity l.all)
    × (vec_len l.fn.crew ≤ vec_capacity l.hands)
    × (vec_len l.fn.crew ≤ vec_capacity l.batches)
    × (l.any_failed ≡ false → All (λ m. m.share.failed ≡ false) l.yielded)
