use Rattle.std.proofs.Common.{ℤ, ◌++◌, map, sym, subst}
use Rattle.std.specs.List.{flat_map}
use Rattle.net_class.specs.NetClasses.{PlainMins}
use Rattle.cond_lang.specs.Rules.{plain_rule}
use Rattle.rule_pick.specs.Reach.{distances_of, least_distances, local_clearances, clearances_of, distances_asked, IsGreatestOf}
use Rattle.rule_pick.specs.Raised.{IsRaised}
use Rattle.rule_pick.proofs.Raising.{joined, of_classes, behind, before, greatest_passed}
use Rattle.rule_pick.proofs.reaching.reach.Goals as goal

pub returns-clause-value : goal.returns-clause-value
returns-clause-value c =
    let classes = c.args.classes.now in
    let board = c.args.board.now in
    let rules = map plain_rule c.args.rules.now in
    let n = c.greatest_class-of_classes.result.nm in
    let m = c.raised_by_mins.result.nm in
    let b = c.raised_by_items-of_board.result.nm in
    let r = c.raised_by_rules.result.nm in
    let first : IsGreatestOf (clearances_of classes) n = subst (λ (z : ℤ). IsGreatestOf (clearances_of classes) z) (sym c.greatest_class-of_classes.ensures) (of_classes classes) in
    let least : IsRaised n (least_distances classes.mins) m = subst (λ (mins : PlainMins). IsRaised n (least_distances mins) m) c.mins.ensures c.raised_by_mins.ensures in
    let all = joined n m b (least_distances classes.mins) (local_clearances board.items) least c.raised_by_items-of_board.ensures in
    greatest_passed (distances_asked board classes rules) r c.raised_by_rules.result.in_range
    (before b r (clearances_of classes ++ (least_distances classes.mins ++ local_clearances board.items)) (flat_map distances_of rules)
    (behind n b (clearances_of classes) (least_distances classes.mins ++ local_clearances board.items) first all) c.raised_by_rules.ensures)
