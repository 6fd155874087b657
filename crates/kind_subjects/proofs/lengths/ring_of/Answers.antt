use Rattle.kind_subjects.proofs.LengthRanges.{difference_fits, difference_within, ring_is}
use Rattle.kind_subjects.proofs.lengths.ring_of.Goals as goal

pub overflow_sub-result : goal.overflow_sub-result
overflow_sub-result c =
    let v = c.in-Via-Some in
    let r = c.args.item.now.what_in_range in
    difference_fits v.size v.drill (r.size v.size v.drill v.micro-0 v.blind-0 v.is-0) (r.drill v.size v.drill v.micro-0 v.blind-0 v.is-0)

pub returns-in-Via-Some-clause-value : goal.returns-in-Via-Some-clause-value
returns-in-Via-Some-clause-value c =
    let v = c.in-Via-Some in
    let item = c.args.item.now in
    let r = item.what_in_range in
    ring_is item.what item.hole v.size v.drill v.micro-0 v.blind-0 v.field-0-1 (r.size v.size v.drill v.micro-0 v.blind-0 v.is-0) (r.drill v.size v.drill v.micro-0 v.blind-0 v.is-0) v.is-0 v.is-1

pub returns-in-Via-Some-clause-range : goal.returns-in-Via-Some-clause-range
returns-in-Via-Some-clause-range c =
    let v = c.in-Via-Some in
    let r = c.args.item.now.what_in_range in
    difference_within v.size v.drill (r.size v.size v.drill v.micro-0 v.blind-0 v.is-0) (r.drill v.size v.drill v.micro-0 v.blind-0 v.is-0)
