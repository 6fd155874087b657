use Rattle.std.proofs.Common.{◌≡◌, ◌∷◌, ◌++◌, [], false, length, map, All, refl, sym, ap, ◌∙◌, subst, arith}
use Rattle.std.proofs.lemmas.List.{length-map, map-append, map-id}
use Rattle.std.proofs.lemmas.List.Elements.{All-push}
use Rattle.std.proofs.lemmas.Iterator.Adapters.{YieldsList-from_vec}
use Rattle.std.proofs.lemmas.Iterator.Consumers.{YieldsList-turn, YieldsList-end}
use Rattle.tile_pool.specs.declared.pool.Worker.{Worker}
use Rattle.tile_pool.proofs.pool.crew_of.Goals as goal

pub push_reserved-requires : goal.push_reserved-requires
push_reserved-requires g c =
    let seats = c.args.seats in
    let crew = c.loop-seat.crew in
    let a = c.into_iter-seat-iterator.ensures.into_iter_gives in
    let inv = c.loop-seat.invariant in
    let t = YieldsList-turn (YieldsList-from_vec {s = c.into_iter-seat-iterator.result} seats.items a.0 (a.1 ∙ seats.ok.0)) c.loop-seat.yielded c.loop-seat.seat-iterator c.loop-seat.yielded_by c.next.result c.next.new.self c.in-Some.seat c.in-Some.is c.next.ensures.steps in
    let n = sym (length-map crew.items (λ w. w.seat)) ∙ ap length inv.0 in
    omega (arith, t.0, inv.2, n, crew.ok.0, seats.ok.0)

pub loop-seat-preserved : goal.loop-seat-preserved
loop-seat-preserved g c =
    let inv = c.loop-seat.invariant in
    let crew = c.loop-seat.crew.items in
    let w : Worker g.row.X.Denot = record { seat = c.in-Some.seat; batch = c.in_ok-batch.batch; failed = false } in
    let pushed : c.push_reserved.new.self.items ≡ crew ++ w ∷ [] = c.push_reserved.ensures.items in (
      ap (map (λ (x : Worker g.row.X.Denot). x.seat)) pushed ∙ map-append (λ (x : Worker g.row.X.Denot). x.seat) crew (w ∷ []) ∙ ap (λ ys. ys ++ c.in-Some.seat ∷ []) inv.0,
      subst (All (λ (x : Worker g.row.X.Denot). (x.batch.items ≡ []) × (x.failed ≡ false))) (sym pushed)
          (All-push (λ (x : Worker g.row.X.Denot). (x.batch.items ≡ []) × (x.failed ≡ false)) crew w inv.1 (c.in_ok-batch.ensures.items, refl)),
      omega (arith, c.push_reserved.ensures.capacity, inv.2),
    )

pub returns-clause-seats : goal.returns-clause-seats
returns-clause-seats g c =
    let seats = c.args.seats in
    let a = c.into_iter-seat-iterator.ensures.into_iter_gives in
    let t = YieldsList-end (YieldsList-from_vec {s = c.into_iter-seat-iterator.result} seats.items a.0 (a.1 ∙ seats.ok.0)) c.loop-seat.yielded c.loop-seat.seat-iterator c.loop-seat.yielded_by c.next.result c.next.new.self c.in-None.is c.next.ensures.steps in
    c.loop-seat.invariant.0 ∙ sym (map-id c.loop-seat.yielded) ∙ t.0

pub returns-clause-fresh : goal.returns-clause-fresh
returns-clause-fresh g c = c.loop-seat.invariant.1
