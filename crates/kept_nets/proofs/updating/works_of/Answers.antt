use Rattle.std.proofs.Common.{◌≡◌, ◌∙◌, ◌+◌, ◌<◌, length, get_or, refl, sym, subst, ap, true≢false, arith}
use Rattle.board_laws.specs.Edits.{is_one_of}
use Rattle.net_groups.specs.NetParts.{PlainNetPart}
use Rattle.kept_nets.specs.NetPlans.{AreWorksUpTo}
use Rattle.kept_nets.proofs.Plans.{work_more, work_none}
use Rattle.kept_nets.proofs.Touched.{numbers, number_at}
use Rattle.kept_nets.proofs.updating.works_of.Goals as goal
use Rattle.kept_nets.proofs.updating.works_of.Goals.{then-is_touched+in_ok-push, else-is_touched}

pub loop-place-preserved : goal.loop-place-preserved
loop-place-preserved c =
    let nets = numbers c.args.parts.now in
    let touched = c.args.nets.now in
    let at = c.loop-place in
    let is = c.index-parts-place.is in
    let below : at.place < length c.args.parts.now = omega (arith, c.loop-place-test.true) in
    let own : c.part.inside.net ≡ get_or nets at.place 0 = ap (λ (p : PlainNetPart). p.net) (c.part.view_is ∙ is) ∙ sym (number_at c.args.parts.now at.place _ below) in
    let its : c.index-parts-place.result.net ≡ get_or nets at.place 0 = ap (λ (p : PlainNetPart). p.net) is ∙ sym (number_at c.args.parts.now at.place _ below) in
    elim c.if-is_touched.branch [
      | then-is_touched+in_ok-push w ↦ subst (AreWorksUpTo nets touched (at.place + 1)) (sym (ap (λ v. v.items) w.works-is ∙ w.in_ok-push.ensures.items)) (work_more nets touched at.place at.works.items at.invariant _ refl own (ap (λ (p : PlainNetPart). is_one_of touched p.net) c.part.view_is ∙ sym w.if-is_touched.ensures))
      | else-is_touched w ↦ subst (AreWorksUpTo nets touched (at.place + 1)) (sym (ap (λ v. v.items) w.works-is)) (work_none nets touched at.place at.works.items at.invariant (λ h. true≢false (sym (ap (is_one_of touched) its ∙ h) ∙ sym w.if-is_touched.ensures)))
    ]
