use Rattle.std.proofs.Common.{◌≡◌, ◌++◌, refl, sym, ap, subst, ◌∙◌, List, [], ◌∷◌, Some, length, append_assoc, append-nil, arith}
use Rattle.std.specs.List.{AllZip}
use Rattle.std.specs.Vec.Iter.{into_iter_items}
use Rattle.net_groups.specs.NetParts.{PlainNetPart}
use Rattle.net_groups.specs.declared.works.Work.{Work}
use Rattle.net_groups.proofs.Gathered.{zip_push}
use Rattle.net_groups.proofs.all.parts_of.Goals as goal

none_left : (works : List Work) → length works ≡ 0 → works ≡ []
none_left [] e = refl
none_left (w ∷ ws) e = absurd (omega arith)

pub loop-work-preserved : goal.loop-work-preserved
loop-work-preserved c =
    let at = c.loop-work in
    let rest = into_iter_items c.next.new.self in
    let work = c.in-Some.work in
    let steps : into_iter_items at.work-iterator ≡ work ∷ rest = c.in-Some.ensures.steps.0 in
    let made = c.in_ok-push_found.ensures in
    let was = at.invariant in (
      was.0 ++ work ∷ [],
      was.1 ∙ (ap (λ (ws : List Work). was.0 ++ ws) steps ∙ sym (append_assoc was.0 (work ∷ []) rest)),
      subst (AllZip (λ (w : Work) (part : PlainNetPart). w.part ≡ Some part) (was.0 ++ work ∷ [])) (sym made.2)
          (zip_push (λ (w : Work) (part : PlainNetPart). w.part ≡ Some part) was.0 at.parts.items work made.0 was.2 made.1),
      (let gone = c.in-Some.ensures.steps.1 in let short = ap length steps in let many = was.3 in omega arith),
    )

pub returns : goal.returns
returns c =
    let at = c.loop-work in
    let was = at.invariant in
    let empty : into_iter_items at.work-iterator ≡ [] = none_left _ (sym was.3 ∙ c.in-None.ensures.steps.0) in
    let all : c.args.works.items ≡ was.0 = was.1 ∙ (ap (λ (ws : List Work). was.0 ++ ws) empty ∙ append-nil was.0) in
    subst (λ (ws : List Work). AllZip (λ (w : Work) (part : PlainNetPart). w.part ≡ Some part) ws at.parts.items) (sym all) was.2
