use Rattle.sexpr_read.proofs.Ordered.{one_in_order, forms_in_order}
use Rattle.sexpr_read.proofs.laws.spans_in_order.Goals as goal

pub returns : goal.returns
returns c = record { one = one_in_order; forms = forms_in_order }
