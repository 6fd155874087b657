use Rattle.std.proofs.Common.{ℤ, map, sym, subst}
use Rattle.cond_lang.specs.Rules.{plain_rule}
use Rattle.rule_pick.specs.Reach.{IsReach}
use Rattle.drc_session.specs.Looks.{IsRaisedBy}
use Rattle.drc_session.proofs.Clearances.{as_passed, reach_stays}
use Rattle.drc_session.proofs.reaching.reach_after.Goals as goal

pub returns-else-asked-clause-value : goal.returns-else-asked-clause-value
returns-else-asked-clause-value c = λ old edit none was.
    let board = c.args.board.now in
    let classes = c.args.classes.now in
    let rules = map plain_rule c.args.rules.now in
    let r = c.raised_by_all.result in
    let raised = c.raised_by_all.ensures in
    let ids = c.args.ids.now in
    let by = subst (λ (z : ℤ). IsRaisedBy board ids z r) (sym (as_passed c.args.reach c.requires)) raised.raised in
    subst (λ (z : ℤ). IsReach board classes rules z) (as_passed r raised.in_range) (reach_stays old board classes rules ids edit c.args.reach r (none c.if-asked.false) was by)
