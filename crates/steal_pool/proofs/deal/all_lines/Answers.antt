use Rattle.std.proofs.Common.{rules, ◌≡◌, ℕ, ◌+◌, ◌-◌, ◌<◌, ◌++◌, ◌∷◌, [], All, Vec, Global, length, refl, sym, ap, ◌∙◌, subst, arith, length-append}
use Rattle.steal_pool.specs.declared.rule.Line.{Line}
use Rattle.steal_pool.specs.Seats.{AreOwners, AreLines, taken_with}
use Rattle.steal_pool.proofs.Related.{all_push}
use Rattle.steal_pool.proofs.Turns.{alike_start, alike_twice}
use Rattle.steal_pool.proofs.deal.all_lines.Goals as goal

pub loop-seat-init : goal.loop-seat-init
loop-seat-init c = (
  c.requires.owners,
  λ h. (refl, refl),
  ap length c.in_ok-all.ensures.items,
  λ k d l. absurd (omega (arith, l, ap length c.in_ok-all.ensures.items)),
  omega (arith, c.in_ok-all.ensures.capacity),
  alike_start c.args.owners.now,
)

pub lines_of-requires-clause-owners : goal.lines_of-requires-clause-owners
lines_of-requires-clause-owners c =
    let l : c.loop-seat.seat < c.args.workers = search rules in
    let e : 1024 - c.loop-seat.seat ≡ 1023 - c.loop-seat.seat + 1 = omega (arith, l, c.requires.workers) in
    subst (λ n. AreOwners c.args.tiles n c.args.others.now c.loop-seat.owners) e c.loop-seat.invariant.0

pub loop-seat-preserved : goal.loop-seat-preserved
loop-seat-preserved c =
    let inv = c.loop-seat.invariant in
    let of = c.in_ok-lines.ensures in
    let lines = c.in_ok-lines.lines in
    let all = c.loop-seat.all.items in
    let pushed : c.push_reserved.new.self.items ≡ all ++ lines ∷ [] = c.push_reserved.ensures.items in
    let e : 1023 - c.loop-seat.seat ≡ 1024 - (c.loop-seat.seat + 1) = omega arith in (
      subst (λ n. AreOwners c.args.tiles n c.args.others.now c.lines_of.new.owners) e of.owners,
      λ h. ((of.same h).0 ∙ (inv.1 h).0, (of.same h).1 ∙ (inv.1 h).1),
      omega (arith, ap length pushed, length-append all (lines ∷ []), inv.2),
      subst (All (λ (v : Vec Line Global). AreLines c.args.tiles c.args.others.now v.items × ((h : ℕ → ℕ) → taken_with h v.items ≡ 0))) (sym pushed) (all_push (λ (v : Vec Line Global). AreLines c.args.tiles c.args.others.now v.items × ((h : ℕ → ℕ) → taken_with h v.items ≡ 0)) all lines inv.3 of.lines),
      omega (arith, c.push_reserved.ensures.capacity, inv.4),
      alike_twice c.args.owners.now c.loop-seat.owners c.lines_of.new.owners c.lines_of.auto.owners inv.5 of.alike,
    )

pub returns-clause-owners : goal.returns-clause-owners
returns-clause-owners c = let e : c.loop-seat.seat ≡ c.args.workers = search rules in subst (λ n. AreOwners c.args.tiles (1024 - n) c.args.others.now c.loop-seat.owners) e c.loop-seat.invariant.0
