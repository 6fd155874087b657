use Rattle.std.proofs.Common.{◌∙◌, sym, ap, refl}
use Rattle.net_class.specs.NetClasses.{PlainMins}
use Rattle.rule_pick.specs.Deciding.{has_default}
use Rattle.pair_check.specs.Rows.{deciders}
use Rattle.pair_check.specs.CheckViews.{checked_by}
use Rattle.pair_check.proofs.AskedKinds.{asks_nothing}
use Rattle.pair_check.proofs.asked.may_ask.Goals as goal

pub returns-else-has_default : goal.returns-else-has_default
returns-else-has_default c = λ e.
    asks_nothing (deciders (checked_by c.args.view.now)) c.args.view.now.rules.now c.args.kind refl (sym c.may_not_meet.ensures ∙ c.if-may_not_meet.false)
    (ap (λ (m : PlainMins). has_default m c.args.kind) (sym c.mins.ensures) ∙ sym c.has_default.ensures ∙ c.if-has_default.false) (sym c.some_asks.ensures ∙ e)
