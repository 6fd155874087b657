use Rattle.std.proofs.Common.{[], ◌∷◌, sym, subst}
use Rattle.rule_pick.specs.Raised.{IsRaised}
use Rattle.rule_pick.proofs.Raising.{by_greater}
use Rattle.rule_pick.proofs.asking.raised.Goals as goal

pub returns : goal.returns
returns c = subst (IsRaised c.args.n.nm (c.args.other.nm ∷ [])) (sym c.greater.ensures.value) (by_greater c.args.other.nm c.args.n.nm)
