use Rattle.net_groups.proofs.Stretched.{apart_fits, product_fits, line_is, near_left, near_top, near_right, near_bottom, near_x, near_y, same_sides}
use Rattle.net_groups.proofs.spreading.stretched.Goals as goal

pub overflow_mul-stretch : goal.overflow_mul-stretch
overflow_mul-stretch c =
    let s = c.args.stretch in
    product_fits s.times c.args.item_box.left s.x s.times_from s.times_to (near_left c.args.item_box c.requires) (near_x s)

pub overflow_mul-stretch-2 : goal.overflow_mul-stretch-2
overflow_mul-stretch-2 c =
    let s = c.args.stretch in
    product_fits s.times c.args.item_box.top s.y s.times_from s.times_to (near_top c.args.item_box c.requires) (near_y s)

pub overflow_mul-stretch-3 : goal.overflow_mul-stretch-3
overflow_mul-stretch-3 c =
    let s = c.args.stretch in
    product_fits s.times c.args.item_box.right s.x s.times_from s.times_to (near_right c.args.item_box c.requires) (near_x s)

pub overflow_sub-item_box-4 : goal.overflow_sub-item_box-4
overflow_sub-item_box-4 c =
    let s = c.args.stretch in
    apart_fits s.times c.args.item_box.bottom s.y s.times_from s.times_to (near_bottom c.args.item_box c.requires) (near_y s)

pub overflow_mul-stretch-4 : goal.overflow_mul-stretch-4
overflow_mul-stretch-4 c =
    let s = c.args.stretch in
    product_fits s.times c.args.item_box.bottom s.y s.times_from s.times_to (near_bottom c.args.item_box c.requires) (near_y s)

pub returns : goal.returns
returns c =
    let s = c.args.stretch in
    let item_box = c.args.item_box in
    same_sides _ _ _ _ _ _ _ _
    (line_is s.times item_box.left s.x s.times_from s.times_to (near_left item_box c.requires) (near_x s) c.min.result c.max.result c.min.ensures.value c.max.ensures.value)
    (line_is s.times item_box.top s.y s.times_from s.times_to (near_top item_box c.requires) (near_y s) c.min-2.result c.max-2.result c.min-2.ensures.value c.max-2.ensures.value)
    (line_is s.times item_box.right s.x s.times_from s.times_to (near_right item_box c.requires) (near_x s) c.min-3.result c.max-3.result c.min-3.ensures.value c.max-3.ensures.value)
    (line_is s.times item_box.bottom s.y s.times_from s.times_to (near_bottom item_box c.requires) (near_y s) c.min-4.result c.max-4.result c.min-4.ensures.value c.max-4.ensures.value)
