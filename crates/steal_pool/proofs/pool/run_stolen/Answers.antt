use Rattle.std.proofs.Common.{◌-◌, length, All, sym, ◌∙◌, subst, arith}
use Rattle.std.proofs.lemmas.List.{length-map}
use Rattle.steal_pool.specs.Seats.{AreOwners, AreUnused}
use Rattle.steal_pool.proofs.pool.run_stolen.Goals as goal

pub run_seats-requires-clause-owners : goal.run_seats-requires-clause-owners
run_seats-requires-clause-owners g c κs within =
    let tiles = c.args.tiles in
    let dealing = c.in_ok-others.field-0 in
    let of = c.in_ok-others.ensures in
    let owners = dealing.owners.items in (
      subst (λ ss. AreOwners tiles (1024 - length owners) ss owners) (sym c.as_slice.ensures.value)
          (subst (λ k. AreOwners tiles (1024 - k) dealing.others.items owners) (sym of.owners.1) of.owners.0),
      of.pushed,
    )

pub run_seats-requires-clause-lines : goal.run_seats-requires-clause-lines
run_seats-requires-clause-lines g c κs within =
    let dealing = c.in_ok-others.field-0 in
    let of = c.in_ok-others.ensures in
    (of.lines.0 ∙ sym of.owners.1, subst (λ ss. All (λ v. AreUnused c.args.tiles ss v.items) dealing.all.items) (sym c.as_slice.ensures.value) of.lines.1)

pub run_seats-requires-clause-workers : goal.run_seats-requires-clause-workers
run_seats-requires-clause-workers g c κs within =
    let e = c.in_ok-others.ensures.owners.1 in
    (omega (arith, e, c.requires.workers), omega (arith, e, c.requires.workers))

pub run_seats-requires-clause-given : goal.run_seats-requires-clause-given
run_seats-requires-clause-given g c κs within = c.in_ok-others.ensures.given

pub gathered-requires-clause-count : goal.gathered-requires-clause-count
gathered-requires-clause-count g c κs within =
    let taken = c.in_ok-hands.field-0 in
    let counts = c.in_ok-hands.ensures.counts in
    counts.1 ∙ sym counts.0 ∙ sym (length-map taken.hands.items (λ v. v.items))

pub gathered-requires-clause-batches : goal.gathered-requires-clause-batches
gathered-requires-clause-batches g c κs within = c.in_ok-hands.ensures.values c.if-failed.false

pub gathered-requires-clause-few : goal.gathered-requires-clause-few
gathered-requires-clause-few g c κs within =
    let taken = c.in_ok-hands.field-0 in
    omega (arith, taken.batches.ok.0, c.in_ok-hands.ensures.counts.1, c.in_ok-others.ensures.owners.1, c.requires.workers)
