use Rattle.std.proofs.Common.{rules}
use Rattle.std.proofs.lemmas.List.Sorted.{answers_always}
use Rattle.row_check.specs.Whole.{place_of}
use Rattle.row_check.proofs.Sorting.{in_order_from_sorted}
use Rattle.row_check.proofs.order.put_in_order.Goals as goal

pub returns : goal.returns
returns c = (c.in_ok-sort_by_key.ensures.permutation, in_order_from_sorted _ (c.in_ok-sort_by_key.ensures.sorted place_of (answers_always _ _ _ (λ f a r g h. search rules))))
