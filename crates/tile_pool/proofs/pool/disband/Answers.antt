use Rattle.std.proofs.Common.{◌≡◌, false, length, map, All, sym, ap, ◌∙◌, subst, arith}
use Rattle.std.proofs.lemmas.List.{length-map, map-id}
use Rattle.std.proofs.lemmas.List.Elements.{All-push}
use Rattle.std.proofs.lemmas.Iterator.Adapters.{YieldsList-from_vec}
use Rattle.std.proofs.lemmas.Iterator.Consumers.{YieldsList-turn, YieldsList-end}
use Rattle.tile_pool.specs.declared.pool.Worker.{Worker}
use Rattle.tile_pool.proofs.Crew.{push_map}
use Rattle.tile_pool.proofs.pool.disband.Goals as goal

pub push_reserved-requires : goal.push_reserved-requires
push_reserved-requires g c =
    let crew = c.args.crew in
    let a = c.into_iter-worker-iterator.ensures.into_iter_gives in
    let inv = c.loop-worker.invariant in
    let t = YieldsList-turn (YieldsList-from_vec {s = c.into_iter-worker-iterator.result} crew.items a.0 (a.1 ∙ crew.ok.0)) c.loop-worker.yielded c.loop-worker.worker-iterator c.loop-worker.yielded_by c.next.result c.next.new.self c.in-Some.worker c.in-Some.is c.next.ensures.steps in
    let n = ap length inv.0 ∙ length-map c.loop-worker.yielded (λ w. w.seat) in
    omega (arith, t.0, inv.2, n, c.loop-worker.seats.ok.0, crew.ok.0)

pub push_reserved-requires-in-loop-worker : goal.push_reserved-requires-in-loop-worker
push_reserved-requires-in-loop-worker g c =
    let crew = c.args.crew in
    let a = c.into_iter-worker-iterator.ensures.into_iter_gives in
    let inv = c.loop-worker.invariant in
    let t = YieldsList-turn (YieldsList-from_vec {s = c.into_iter-worker-iterator.result} crew.items a.0 (a.1 ∙ crew.ok.0)) c.loop-worker.yielded c.loop-worker.worker-iterator c.loop-worker.yielded_by c.next.result c.next.new.self c.in-Some.worker c.in-Some.is c.next.ensures.steps in
    let n = ap length inv.1 ∙ length-map c.loop-worker.yielded (λ w. w.batch) in
    omega (arith, t.0, inv.3, n, c.loop-worker.batches.ok.0, crew.ok.0)

pub loop-worker-preserved : goal.loop-worker-preserved
loop-worker-preserved g c =
    let inv = c.loop-worker.invariant in
    let yielded = c.loop-worker.yielded in
    let w = c.in-Some.worker in (
      push_map (λ (x : Worker g.row.X.Denot). x.seat) yielded w c.loop-worker.seats.items c.push_reserved.new.self.items c.push_reserved.ensures.items inv.0,
      push_map (λ (x : Worker g.row.X.Denot). x.batch) yielded w c.loop-worker.batches.items c.push_reserved-in-loop-worker.new.self.items c.push_reserved-in-loop-worker.ensures.items inv.1,
      omega (arith, c.push_reserved.ensures.capacity, inv.2),
      omega (arith, c.push_reserved-in-loop-worker.ensures.capacity, inv.3),
      λ e. All-push (λ (x : Worker g.row.X.Denot). x.failed ≡ false) yielded w (inv.4 c.if-any_failed.false) e,
    )

pub returns : goal.returns
returns g c =
    let crew = c.args.crew in
    let a = c.into_iter-worker-iterator.ensures.into_iter_gives in
    let inv = c.loop-worker.invariant in
    let t = YieldsList-end (YieldsList-from_vec {s = c.into_iter-worker-iterator.result} crew.items a.0 (a.1 ∙ crew.ok.0)) c.loop-worker.yielded c.loop-worker.worker-iterator c.loop-worker.yielded_by c.next.result c.next.new.self c.in-None.is c.next.ensures.steps in
    let all : c.loop-worker.yielded ≡ crew.items = sym (map-id c.loop-worker.yielded) ∙ t.0 in
    record {
      seats = inv.0 ∙ ap (map (λ w. w.seat)) all;
      batches = inv.1 ∙ ap (map (λ w. w.batch)) all;
      failed = λ e. subst (All (λ w. w.failed ≡ false)) all (inv.4 e);
    }
