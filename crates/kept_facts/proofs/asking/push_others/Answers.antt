use Rattle.std.proofs.Common.{◌∙◌, ◌+◌, sym, ap, subst, take}
use Rattle.std.specs.Option.{option_copied}
use Rattle.std.proofs.lemmas.List.{get_or_default}
use Rattle.kept_facts.specs.ConcernedItems.{HasOthers}
use Rattle.kept_facts.proofs.Concerns.{other_more, other_skip}
use Rattle.kept_facts.proofs.asking.push_others.Goals as goal
use Rattle.kept_facts.proofs.asking.push_others.Goals.{then-not-is_unconcerned+in_ok-push, else-not-is_unconcerned}

pub loop-id-preserved : goal.loop-id-preserved
loop-id-preserved c =
    let board = c.args.board.now in
    let near = c.args.near.now in
    let before = option_copied c.args.before in
    let now = option_copied c.args.now in
    let old = c.args.asked.now.items in
    let at = c.loop-id in
    let lt = c.loop-id-test.true in
    elim c.if-not-is_unconcerned.branch [
      | then-not-is_unconcerned+in_ok-push w ↦ subst (HasOthers board (take (at.id-index + 1) near) before now old) (sym (ap (λ v. v.items) w.asked-is ∙ w.in_ok-push.ensures.items))
          (other_more board near before now old at.asked.items at.id-index _ lt (get_or_default near at.id-index _ _ lt) at.invariant)
      | else-not-is_unconcerned w ↦ subst (HasOthers board (take (at.id-index + 1) near) before now old) (sym (ap (λ v. v.items) w.asked-is))
          (other_skip board near before now old at.asked.items at.id-index _ lt (get_or_default near at.id-index _ _ lt) at.invariant (c.is_unconcerned.ensures.0 w.if-not-is_unconcerned.false))
    ]
