use Rattle.std.proofs.Common.{◌≡◌, ◌+◌, ◌-◌, ◌∷◌, [], Vec, Global, length, sum_by, vec_len, ap, ◌∙◌, subst, arith, length-append}
use Rattle.std.proofs.lemmas.List.Sums.{sum_by_push}
use Rattle.steal_pool.specs.declared.rule.Line.{Line}
use Rattle.steal_pool.specs.Seats.{AreOwners, AreLines, taken_with}
use Rattle.steal_pool.proofs.Related.{all_less}
use Rattle.steal_pool.proofs.deal.all_back.Goals as goal

pub give_back-requires-clause-owners : goal.give_back-requires-clause-owners
give_back-requires-clause-owners c =
    let inv = c.loop-lines.invariant in
    let less = c.pop.new.self in
    let n : length c.loop-lines.all.items ≡ length less.items + 1 = ap length c.in-Some.ensures.items ∙ length-append less.items (c.in-Some.lines ∷ []) in
    let e : 1024 - vec_len c.loop-lines.all ≡ 1023 - c.len.result = omega (arith, n, less.ok.0, c.loop-lines.all.ok.0, c.len.ensures, inv.0) in
    subst (λ k. AreOwners c.args.tiles k c.args.others.now c.loop-lines.owners) e inv.1

pub give_back-requires-clause-lines : goal.give_back-requires-clause-lines
give_back-requires-clause-lines c = (all_less (λ (v : Vec Line Global). AreLines c.args.tiles c.args.others.now v.items) c.loop-lines.all.items c.pop.new.self.items c.in-Some.lines c.in-Some.ensures.items c.loop-lines.invariant.2).1

pub loop-lines-preserved : goal.loop-lines-preserved
loop-lines-preserved c =
    let inv = c.loop-lines.invariant in
    let less = c.pop.new.self in
    let lines = c.in-Some.lines in
    let n : length c.loop-lines.all.items ≡ length less.items + 1 = ap length c.in-Some.ensures.items ∙ length-append less.items (lines ∷ []) in
    let e : 1023 - c.len.result + 1 ≡ 1024 - vec_len less = omega (arith, n, less.ok.0, c.loop-lines.all.ok.0, c.len.ensures, inv.0) in
    let b = all_less (λ (v : Vec Line Global). AreLines c.args.tiles c.args.others.now v.items) c.loop-lines.all.items less.items lines c.in-Some.ensures.items inv.2 in (
      omega (arith, n, less.ok.0, c.loop-lines.all.ok.0, inv.0),
      subst (λ k. AreOwners c.args.tiles k c.args.others.now c.give_back.new.owners) e c.give_back.ensures.owners,
      b.0,
      λ h. let t = ap (sum_by (λ (v : Vec Line Global). taken_with h v.items)) c.in-Some.ensures.items ∙ sum_by_push (λ (v : Vec Line Global). taken_with h v.items) less.items lines in
          let before = inv.3 h in
          let s = c.give_back.ensures.same h in
          let g = c.give_back.ensures.taken h in
          (omega (arith, s, before), omega (arith, t, g, before)),
    )

pub returns-clause-owners : goal.returns-clause-owners
returns-clause-owners c =
    let none : vec_len c.loop-lines.all ≡ 0 = c.in_default.ensures.cases.0 in
    subst (λ n. AreOwners c.args.tiles (1024 - n) c.args.others.now c.loop-lines.owners) none c.loop-lines.invariant.1
