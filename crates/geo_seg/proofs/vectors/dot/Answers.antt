use Rattle.std.proofs.Common.{◌∙◌}
use Rattle.geo_seg.proofs.Passed.{sum_is, passed_product, both_add}
use Rattle.std.proofs.Common.{arith}
use Rattle.std.proofs.lemmas.Int.{ints}
use Rattle.geo_seg.proofs.vectors.dot.Goals as goal

pub returns-clause-value : goal.returns-clause-value
returns-clause-value c =
    sum_is c.product.result c.product-2.result c.product.ensures.in_range c.product-2.ensures.in_range
    ∙ both_add _ _ _ _ (passed_product _ c.args.u.x c.args.v.x c.args.u.x_in_range c.args.v.x_in_range c.product.ensures.value)
    (passed_product _ c.args.u.y c.args.v.y c.args.u.y_in_range c.args.v.y_in_range c.product-2.ensures.value)

pub product-requires-clause-a_in_range : goal.product-requires-clause-a_in_range
product-requires-clause-a_in_range c = omega (arith, ints, c.args.u.x_in_range)

pub product-requires-clause-b_in_range : goal.product-requires-clause-b_in_range
product-requires-clause-b_in_range c = omega (arith, ints, c.args.v.x_in_range)

pub product-requires-2-clause-a_in_range : goal.product-requires-2-clause-a_in_range
product-requires-2-clause-a_in_range c = omega (arith, ints, c.args.u.y_in_range)

pub product-requires-2-clause-b_in_range : goal.product-requires-2-clause-b_in_range
product-requires-2-clause-b_in_range c = omega (arith, ints, c.args.v.y_in_range)

pub overflow_add-result : goal.overflow_add-result
overflow_add-result c = omega (arith, ints, c.product.ensures.in_range, c.product-2.ensures.in_range)

pub returns-clause-in_range : goal.returns-clause-in_range
returns-clause-in_range c = omega (arith, ints, c.product.ensures.in_range, c.product-2.ensures.in_range)
