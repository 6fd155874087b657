use Rattle.std.proofs.Common.{◌≡◌, ◌<◌, ℕ, List, [], ◌∷◌, ◌++◌, length, arith, refl, sym, subst, ap, ◌∙◌, All}
use Rattle.std.proofs.lemmas.List.{length-set}
use Rattle.net_groups.specs.declared.works.Work.{Work}
use Rattle.kept_nets.specs.NetPlans.{IsPlan}
use Rattle.kept_nets.proofs.Plans.{plan_done, plan_empty, all_prefix}
use Rattle.kept_nets.proofs.Touched.{are_parts}
use Rattle.kept_nets.proofs.updating.put_parts.Goals as goal

pub loop-work-preserved : goal.loop-work-preserved
loop-work-preserved c =
    let left = c.pop.new.self.items in
    let work = c.in-Some.work in
    let split : c.loop-work.works.items ≡ left ++ work ∷ [] = c.in-Some.ensures.items in
    let made = c.in_ok-put.ensures in
    let long : length c.put.new.parts ≡ length c.loop-work.parts = ap length made.2 ∙ length-set c.loop-work.parts work.place made.0 in (
      subst (λ (n : ℕ). All (λ (w : Work). w.place < n) left) (sym long) (all_prefix (λ (w : Work). w.place < length c.loop-work.parts) left work (subst (All (λ (w : Work). w.place < length c.loop-work.parts)) split c.loop-work.invariant.0)),
      λ board nets plan. plan_done board nets c.loop-work.parts c.put.new.parts left work made.0 made.1 made.2 (subst (IsPlan board nets c.loop-work.parts) split (c.loop-work.invariant.1 board nets plan)),
    )

empty : (works : List Work) → length works ≡ 0 → works ≡ []
empty [] e = refl
empty (w ∷ ws) e = absurd (omega arith)

pub returns : goal.returns
returns c board nets plan =
    let at = c.loop-work in
    let none : at.works.items ≡ [] = let k = c.in_default.ensures.cases in let o = at.works.ok in empty at.works.items (omega (arith, k.0, o.0)) in
    let done : IsPlan board nets at.parts [] = subst (IsPlan board nets at.parts) none (at.invariant.1 board nets plan) in
    are_parts board nets at.parts done.long (plan_empty board nets at.parts done)
