use Rattle.geo_seg.proofs.Passed.{limit_is}
use Rattle.geo_seg.proofs.near.limit.Goals as goal

pub returns : goal.returns
returns c = limit_is c.args.d c.args.under c.product.result c.large_product.result c.requires.range.from c.requires.range.to c.requires.under_in_range c.product.ensures.in_range c.product.ensures.value (record { sfits = c.large_product.type_inv }) c.large_product.ensures
