use Rattle.std.proofs.Common.{◌≡◌, true, length, map, sym, ap, ◌∙◌, subst, arith, All}
use Rattle.std.proofs.lemmas.List.{length-map}
use Rattle.claim_board.specs.DealViews.{AreSeatsOf, seat_hand, seat_done}
use Rattle.tile_pool.specs.NumberedValues.{AreBatches}
use Rattle.tile_pool.proofs.Crew.{fresh_crew, back_seats, all_done, all_batches}
use Rattle.tile_pool.proofs.pool.played.Goals as goal

pub run_all-crew-requires-clause-fresh : goal.run_all-crew-requires-clause-fresh
run_all-crew-requires-clause-fresh g c κs within =
    fresh_crew c.in_ok-deal.deal c.in-Ok.crew.items c.in_ok-deal.seats.items c.in_ok-deal.ensures.seats c.in_ok-deal.ensures.fresh c.in-Ok.ensures.seats c.in-Ok.ensures.fresh

pub returns-clause-own : goal.returns-clause-own
returns-clause-own g c =
    let f = g.T.TileWork.gives c.args.work.now in
    let later = c.run_all-crew.result.items in
    subst (AreSeatsOf c.in_ok-deal.deal) (sym c.disband-left.ensures.seats)
    (back_seats c.in_ok-deal.deal f c.in-Ok.crew.items later c.in_ok-deal.seats.items c.in_ok-deal.ensures.seats c.in-Ok.ensures.seats c.run_all-crew.ensures.long c.run_all-crew.ensures.run)

pub returns-clause-done : goal.returns-clause-done
returns-clause-done g c =
    let f = g.T.TileWork.gives c.args.work.now in
    let later = c.run_all-crew.result.items in
    subst (All (λ s. seat_done s ≡ true)) (sym c.disband-left.ensures.seats)
    (all_done c.in_ok-deal.deal f c.in-Ok.crew.items later c.in_ok-deal.seats.items c.in_ok-deal.ensures.seats c.in-Ok.ensures.seats c.run_all-crew.ensures.long c.run_all-crew.ensures.run)

pub returns-clause-batches : goal.returns-clause-batches
returns-clause-batches g c =
    let f = g.T.TileWork.gives c.args.work.now in
    let later = c.run_all-crew.result.items in
    let left = c.disband-left.result in
    subst (λ ss. AreBatches f (map seat_hand ss) left.batches.items) (sym c.disband-left.ensures.seats)
    (subst (AreBatches f (map seat_hand (map (λ w. w.seat) later))) (sym c.disband-left.ensures.batches)
    (all_batches c.in_ok-deal.deal f c.in-Ok.crew.items later c.in_ok-deal.seats.items c.in_ok-deal.ensures.seats c.in-Ok.ensures.seats c.run_all-crew.ensures.long c.run_all-crew.ensures.run (c.disband-left.ensures.failed c.if-left.false)))

pub disband-left-requires-clause-seats : goal.disband-left-requires-clause-seats
disband-left-requires-clause-seats g c =
    let crew = c.in-Ok.crew.items in
    let deal = c.in_ok-deal.ensures in
    let later = c.run_all-crew.result in
    let n = sym (length-map crew (λ w. w.seat)) ∙ ap length c.in-Ok.ensures.seats in
    (c.in_ok-seats_left.ensures.items, omega (arith, c.run_all-crew.ensures.long, n, deal.seats.0, deal.deal.1, c.in_ok-seats_left.ensures.capacity, later.ok.0))

pub disband-left-requires-clause-batches : goal.disband-left-requires-clause-batches
disband-left-requires-clause-batches g c =
    let crew = c.in-Ok.crew.items in
    let deal = c.in_ok-deal.ensures in
    let later = c.run_all-crew.result in
    let n = sym (length-map crew (λ w. w.seat)) ∙ ap length c.in-Ok.ensures.seats in
    (c.in_ok-batches.ensures.items, omega (arith, c.run_all-crew.ensures.long, n, deal.seats.0, deal.deal.1, c.in_ok-batches.ensures.capacity, later.ok.0))

pub returns-clause-deal : goal.returns-clause-deal
returns-clause-deal g c = c.in_ok-deal.ensures.deal

pub returns-clause-counts : goal.returns-clause-counts
returns-clause-counts g c =
    let crew = c.in-Ok.crew.items in
    let deal = c.in_ok-deal.ensures in
    let later = c.run_all-crew.result.items in
    let left = c.disband-left.ensures in
    let n = sym (length-map crew (λ w. w.seat)) ∙ ap length c.in-Ok.ensures.seats in
    let seats = ap length left.seats ∙ length-map later (λ w. w.seat) in
    let batches = ap length left.batches ∙ length-map later (λ w. w.batch) in
    (omega (arith, c.run_all-crew.ensures.long, n, deal.seats.0, deal.deal.1, seats), omega (arith, c.run_all-crew.ensures.long, n, deal.seats.0, deal.deal.1, batches))
