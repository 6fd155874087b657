use Rattle.std.proofs.Common.{◌≡◌, false, length, map, All, sym, ap, ◌∙◌, subst, arith}
use Rattle.std.proofs.lemmas.List.{length-map, map-id}
use Rattle.std.proofs.lemmas.Iterator.Adapters.{YieldsList-from_vec}
use Rattle.std.proofs.lemmas.Iterator.Consumers.{YieldsList-turn, YieldsList-end}
use Rattle.steal_pool.specs.declared.member.Member.{Member}
use Rattle.steal_pool.proofs.Related.{all_push, push_map}
use Rattle.steal_pool.proofs.crew.disband.Goals as goal

pub push_reserved-requires : goal.push_reserved-requires
push_reserved-requires g c =
    let crew = c.args.crew in
    let a = c.into_iter-member-iterator.ensures.into_iter_gives in
    let inv = c.loop-member.invariant in
    let t = YieldsList-turn (YieldsList-from_vec {s = c.into_iter-member-iterator.result} crew.items a.0 (a.1 ∙ crew.ok.0)) c.loop-member.yielded c.loop-member.member-iterator c.loop-member.yielded_by c.next.result c.next.new.self c.in-Some.member c.in-Some.is c.next.ensures.steps in
    let n = ap length inv.0 ∙ length-map c.loop-member.yielded (λ m. m.own) in
    omega (arith, t.0, inv.4, n, c.loop-member.owners.ok.0, crew.ok.0)

pub push_reserved-requires-in-loop-member : goal.push_reserved-requires-in-loop-member
push_reserved-requires-in-loop-member g c =
    let crew = c.args.crew in
    let a = c.into_iter-member-iterator.ensures.into_iter_gives in
    let inv = c.loop-member.invariant in
    let t = YieldsList-turn (YieldsList-from_vec {s = c.into_iter-member-iterator.result} crew.items a.0 (a.1 ∙ crew.ok.0)) c.loop-member.yielded c.loop-member.member-iterator c.loop-member.yielded_by c.next.result c.next.new.self c.in-Some.member c.in-Some.is c.next.ensures.steps in
    let n = ap length inv.1 ∙ length-map c.loop-member.yielded (λ m. m.lines) in
    omega (arith, t.0, inv.5, n, c.loop-member.all.ok.0, crew.ok.0)

pub push_reserved-requires-in-loop-member-2 : goal.push_reserved-requires-in-loop-member-2
push_reserved-requires-in-loop-member-2 g c =
    let crew = c.args.crew in
    let a = c.into_iter-member-iterator.ensures.into_iter_gives in
    let inv = c.loop-member.invariant in
    let t = YieldsList-turn (YieldsList-from_vec {s = c.into_iter-member-iterator.result} crew.items a.0 (a.1 ∙ crew.ok.0)) c.loop-member.yielded c.loop-member.member-iterator c.loop-member.yielded_by c.next.result c.next.new.self c.in-Some.member c.in-Some.is c.next.ensures.steps in
    let n = ap length inv.2 ∙ length-map c.loop-member.yielded (λ m. m.share.hand) in
    omega (arith, t.0, inv.6, n, c.loop-member.hands.ok.0, crew.ok.0)

pub push_reserved-requires-in-loop-member-3 : goal.push_reserved-requires-in-loop-member-3
push_reserved-requires-in-loop-member-3 g c =
    let crew = c.args.crew in
    let a = c.into_iter-member-iterator.ensures.into_iter_gives in
    let inv = c.loop-member.invariant in
    let t = YieldsList-turn (YieldsList-from_vec {s = c.into_iter-member-iterator.result} crew.items a.0 (a.1 ∙ crew.ok.0)) c.loop-member.yielded c.loop-member.member-iterator c.loop-member.yielded_by c.next.result c.next.new.self c.in-Some.member c.in-Some.is c.next.ensures.steps in
    let n = ap length inv.3 ∙ length-map c.loop-member.yielded (λ m. m.share.batch) in
    omega (arith, t.0, inv.7, n, c.loop-member.batches.ok.0, crew.ok.0)

pub loop-member-preserved : goal.loop-member-preserved
loop-member-preserved g c =
    let inv = c.loop-member.invariant in
    let yielded = c.loop-member.yielded in
    let m = c.in-Some.member in (
      push_map (λ (x : Member g.row.X.Denot). x.own) yielded m c.loop-member.owners.items c.push_reserved.new.self.items c.push_reserved.ensures.items inv.0,
      push_map (λ (x : Member g.row.X.Denot). x.lines) yielded m c.loop-member.all.items c.push_reserved-in-loop-member.new.self.items c.push_reserved-in-loop-member.ensures.items inv.1,
      push_map (λ (x : Member g.row.X.Denot). x.share.hand) yielded m c.loop-member.hands.items c.push_reserved-in-loop-member-2.new.self.items c.push_reserved-in-loop-member-2.ensures.items inv.2,
      push_map (λ (x : Member g.row.X.Denot). x.share.batch) yielded m c.loop-member.batches.items c.push_reserved-in-loop-member-3.new.self.items c.push_reserved-in-loop-member-3.ensures.items inv.3,
      omega (arith, c.push_reserved.ensures.capacity, inv.4),
      omega (arith, c.push_reserved-in-loop-member.ensures.capacity, inv.5),
      omega (arith, c.push_reserved-in-loop-member-2.ensures.capacity, inv.6),
      omega (arith, c.push_reserved-in-loop-member-3.ensures.capacity, inv.7),
      λ e. all_push (λ (x : Member g.row.X.Denot). x.share.failed ≡ false) yielded m (inv.8 c.if-any_failed.false) e,
    )

pub returns : goal.returns
returns g c =
    let crew = c.args.crew in
    let a = c.into_iter-member-iterator.ensures.into_iter_gives in
    let inv = c.loop-member.invariant in
    let t = YieldsList-end (YieldsList-from_vec {s = c.into_iter-member-iterator.result} crew.items a.0 (a.1 ∙ crew.ok.0)) c.loop-member.yielded c.loop-member.member-iterator c.loop-member.yielded_by c.next.result c.next.new.self c.in-None.is c.next.ensures.steps in
    let every : c.loop-member.yielded ≡ crew.items = sym (map-id c.loop-member.yielded) ∙ t.0 in
    record {
      owners = inv.0 ∙ ap (map (λ m. m.own)) every;
      lines = inv.1 ∙ ap (map (λ m. m.lines)) every;
      hands = inv.2 ∙ ap (map (λ m. m.share.hand)) every;
      batches = inv.3 ∙ ap (map (λ m. m.share.batch)) every;
      failed = λ e. subst (All (λ m. m.share.failed ≡ false)) every (inv.8 e);
    }
