use Rattle.std.proofs.Common.{◌≡◌, ◌+◌, ◌∷◌, ◌++◌, [], map, All, Vec, Global, length, sym, ap, ◌∙◌, subst, arith, length-append}
use Rattle.std.proofs.lemmas.List.{length-map, map-id}
use Rattle.std.proofs.lemmas.Iterator.Adapters.{YieldsList-from_vec}
use Rattle.std.proofs.lemmas.Iterator.Consumers.{YieldsList-turn, YieldsList-end}
use Rattle.steal_pool.specs.declared.rule.Line.{Line}
use Rattle.steal_pool.specs.declared.member.Member.{Member}
use Rattle.steal_pool.specs.Seats.{AreUnused}
use Rattle.steal_pool.proofs.Related.{all_push, all_less, map_push}
use Rattle.steal_pool.proofs.crew.crew_of.Goals as goal

pub loop-own-preserved : goal.loop-own-preserved
loop-own-preserved g c =
    let inv = c.loop-own.invariant in
    let crew = c.loop-own.crew.items in
    let others = c.args.others.now in
    let tiles = c.args.tiles in
    let lines = c.in-Some-pop.lines in
    let less = c.pop.new.self.items in
    let member : Member g.row.X.Denot = record { own = c.in-Some.own; lines = lines; seat = c.len-seat.result; share = c.in_ok-share.share } in
    let pushed : c.push_reserved.new.self.items ≡ crew ++ member ∷ [] = c.push_reserved.ensures.items in
    let b = all_less (λ (v : Vec Line Global). AreUnused tiles others v.items) c.loop-own.all.items less lines c.in-Some-pop.ensures.items inv.3 in
    let n : length c.loop-own.all.items ≡ length less + 1 = ap length c.in-Some-pop.ensures.items ∙ length-append less (lines ∷ []) in (
      tt,
      tt,
      ap (map (λ (m : Member g.row.X.Denot). m.own)) pushed ∙ map_push (λ (m : Member g.row.X.Denot). m.own) crew member ∙ ap (λ ys. ys ++ c.in-Some.own ∷ []) inv.2,
      b.0,
      subst (All (λ (m : Member g.row.X.Denot). AreUnused tiles others m.lines.items)) (sym pushed) (all_push (λ (m : Member g.row.X.Denot). AreUnused tiles others m.lines.items) crew member inv.4 b.1),
      subst (All (λ (m : Member g.row.X.Denot). (m.share.hand.items ≡ []) × (m.share.batch.items ≡ []))) (sym pushed) (all_push (λ (m : Member g.row.X.Denot). (m.share.hand.items ≡ []) × (m.share.batch.items ≡ [])) crew member inv.5 (c.in_ok-share.ensures.0, c.in_ok-share.ensures.1)),
      omega (arith, ap length pushed, length-append crew (member ∷ []), n, inv.6),
      omega (arith, c.push_reserved.ensures.capacity, inv.7),
    )

pub push_reserved-requires : goal.push_reserved-requires
push_reserved-requires g c =
    let owners = c.args.owners in
    let crew = c.loop-own.crew in
    let a = c.into_iter-own-iterator.ensures.into_iter_gives in
    let inv = c.loop-own.invariant in
    let t = YieldsList-turn (YieldsList-from_vec {s = c.into_iter-own-iterator.result} owners.items a.0 (a.1 ∙ owners.ok.0)) c.loop-own.yielded c.loop-own.own-iterator c.loop-own.yielded_by c.next.result c.next.new.self c.in-Some.own c.in-Some.is c.next.ensures.steps in
    let n = sym (length-map crew.items (λ m. m.own)) ∙ ap length inv.2 in
    omega (arith, t.0, inv.7, n, crew.ok.0, owners.ok.0)

pub returns-clause-owners : goal.returns-clause-owners
returns-clause-owners g c =
    let owners = c.args.owners in
    let a = c.into_iter-own-iterator.ensures.into_iter_gives in
    let t = YieldsList-end (YieldsList-from_vec {s = c.into_iter-own-iterator.result} owners.items a.0 (a.1 ∙ owners.ok.0)) c.loop-own.yielded c.loop-own.own-iterator c.loop-own.yielded_by c.next.result c.next.new.self c.in-None.is c.next.ensures.steps in
    c.loop-own.invariant.2 ∙ sym (map-id c.loop-own.yielded) ∙ t.0

pub returns-clause-lines : goal.returns-clause-lines
returns-clause-lines g c = c.loop-own.invariant.4

pub returns-clause-fresh : goal.returns-clause-fresh
returns-clause-fresh g c = c.loop-own.invariant.5
