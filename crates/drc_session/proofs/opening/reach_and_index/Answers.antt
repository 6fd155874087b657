use Rattle.std.proofs.Common.{ℤ, map, subst}
use Rattle.plain_types.specs.Lengths.{IsLength}
use Rattle.cond_lang.specs.Rules.{plain_rule}
use Rattle.rule_pick.specs.Reach.{IsReach}
use Rattle.drc_session.proofs.Clearances.{as_passed}
use Rattle.drc_session.proofs.opening.reach_and_index.Goals as goal

pub returns : goal.returns
returns c =
    let far = c.reach-reach.ensures in
    let passed = as_passed c.reach-reach.result far.in_range in
    record {
      value = subst (λ (z : ℤ). IsReach c.args.board.now c.args.classes.now (map plain_rule c.args.rules.now) z) passed far.value;
      in_range = subst (λ (z : ℤ). IsLength z) passed far.in_range;
      items = c.in_ok-index.ensures.items;
      as_far = c.in_ok-index.ensures.reach;
    }
