use Rattle.pair_check.proofs.EnoughAlone.{breaks_none}
use Rattle.pair_check.proofs.alone.Enough.is_had_by.Goals as goal

pub returns : goal.returns
returns c = λ d are had. record {
  none = breaks_none d c.args.self.now c.args.item.now are (c.has_enough.ensures c.if-not-has_enough.false) (c.has_enough-2.ensures c.if-not-has_enough-2.false)
      (c.has_enough-3.ensures c.if-not-has_enough-3.false) (c.has_enough-4.ensures had);
}
