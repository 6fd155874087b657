use Rattle.std.proofs.Common.{◌≡◌, [], ◌∷◌, ◌++◌, length, sum_by, sym, ap, ◌∙◌, subst, arith, length-append}
use Rattle.std.proofs.lemmas.List.Sums.{sum_by_push}
use Rattle.steal_pool.specs.declared.rule.Hand.{Hand}
use Rattle.steal_pool.specs.Seats.{IsOwner, AreOwners, put_of, taken_of, pushed_by, taken_by}
use Rattle.steal_pool.proofs.Related.{each_push}
use Rattle.steal_pool.proofs.deal.deques.Goals as goal

pub loop-preserved : goal.loop-preserved
loop-preserved c =
    let others = c.loop.others.items in
    let owners = c.loop.owners.items in
    let inv = c.loop.invariant in
    let own = c.in_ok-own.own in
    let other = c.in_ok-stealer.stealer in
    let e = c.in_ok-own.ensures in
    let f = c.in_ok-stealer.ensures in
    let all_others : c.push_reserved.new.self.items ≡ others ++ other ∷ [] = c.push_reserved.ensures.items in
    let all_owners : c.push_reserved-in-loop.new.self.items ≡ owners ++ own ∷ [] = c.push_reserved-in-loop.ensures.items in
    let mine : IsOwner 0 1024 other own = (sym f.0, e.1, f.1 ∙ e.1, ap (λ (v : Hand). v.parts) e.4, omega (arith, ap (λ (v : Hand). v.limit) e.4)) in (
      subst (λ xs. AreOwners 0 1024 xs c.push_reserved-in-loop.new.self.items) (sym all_others)
          (subst (λ xs. AreOwners 0 1024 (others ++ other ∷ []) xs) (sym all_owners)
          (omega (arith, length-append others (other ∷ []), length-append owners (own ∷ []), inv.0.0), each_push (λ k s o. IsOwner 0 1024 s o) others owners other own inv.0.0 inv.0.1 mine)),
      omega (arith, ap length all_others, length-append others (other ∷ []), inv.1),
      omega (arith, c.push_reserved.ensures.capacity, inv.2),
      omega (arith, c.push_reserved-in-loop.ensures.capacity, inv.3),
      λ h. let before = inv.4 h in (
        ap (pushed_by h) all_owners ∙ sum_by_push (put_of h) owners own ∙ omega (arith, before, ap (λ (v : Hand). sum_by h v.put) e.4),
        ap (taken_by h) all_owners ∙ sum_by_push (taken_of h) owners own ∙ omega (arith, before, ap (λ (v : Hand). sum_by h v.taken) e.4),
      ),
    )
