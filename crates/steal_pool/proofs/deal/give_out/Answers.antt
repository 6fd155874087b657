use Rattle.std.proofs.Common.{rules, add-one, ◌≡◌, ℕ, ◌+◌, ◌%◌, ap, ◌∙◌, subst, arith}
use Rattle.claim_board.specs.DealMachine.{sum_below}
use Rattle.steal_pool.specs.Seats.{AreOwners, AreGiven}
use Rattle.steal_pool.proofs.Turns.{none_given, may_give, owners_more, weights_more, given_more}
use Rattle.steal_pool.proofs.deal.give_out.Goals as goal

pub loop-number-init : goal.loop-number-init
loop-number-init c = (c.requires.owners, c.requires.fresh, none_given c.args.owners.now (λ h. (c.requires.fresh h).0))

pub push_as-requires-clause-pushes : goal.push_as-requires-clause-pushes
push_as-requires-clause-pushes c =
    let inv = c.loop-number.invariant in
    may_give c.loop-number.number _ c.args.others.now c.loop-number.owners c.index-owners-at.result inv.0 (omega (arith, inv.0.0, c.requires.some))

pub loop-number-preserved : goal.loop-number-preserved
loop-number-preserved c =
    let others = c.args.others.now in
    let owners = c.loop-number.owners in
    let inv = c.loop-number.invariant in
    let n : ℕ = c.loop-number.number in
    let d = c.index-owners-at.result in
    let new = c.push_as.new.self in
    let same = c.push_as.ensures.same in
    let rule = c.in-Ok.ensures.rule.0 in (
      owners_more n _ others owners d inv.0 (omega (arith, inv.0.0, c.requires.some)) new same rule,
      λ h. let more = weights_more n _ others owners d inv.0 (omega (arith, inv.0.0, c.requires.some)) new same rule h in
          let before = inv.1 h in
          let all : sum_below h (n + 1) ≡ sum_below h n + h n = ap (sum_below h) (add-one n) in
          (more.0 ∙ omega (arith, before, all), more.1 ∙ before.1),
      given_more n _ others owners d inv.0 (omega (arith, inv.0.0, c.requires.some)) new same rule inv.2 (ap (λ k. n % k) inv.0.0),
    )

pub returns-clause-owners : goal.returns-clause-owners
returns-clause-owners c = let e : c.loop-number.number ≡ c.args.tiles = search rules in subst (λ n. AreOwners n 1024 c.args.others.now c.loop-number.owners) e c.loop-number.invariant.0

pub returns-clause-given : goal.returns-clause-given
returns-clause-given c = let e : c.loop-number.number ≡ c.args.tiles = search rules in subst (λ n. AreGiven n c.loop-number.owners) e c.loop-number.invariant.2
