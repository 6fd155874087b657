use Rattle.std.proofs.Common.{◌<◌, length, Contains, sym}
use Rattle.ratsnest.specs.declared.waiting.Waiting.{Waiting}
use Rattle.ratsnest.proofs.Waits.{least_is}
use Rattle.ratsnest.proofs.Grown.{next_is_new, group_fits, grown_taken}
use Rattle.ratsnest.proofs.growing.take_in.Goals as goal

pub add_link-requires-clause-other : goal.add_link-requires-clause-other
add_link-requires-clause-other c =
    let waiting = c.args.waiting.now.items in
    let e : Waiting = c.index-next.result.now in
    let h : c.least.result < length waiting = rw c.deref.ensures.value at c.least.ensures.within in
    let has : Contains waiting e = (c.least.result, h, sym c.index-next.ensures) in
    next_is_new c.args.anchors.now c.requires.rise c.requires.few c.args.reached.now waiting c.args.links.now.items c.requires.grown e has
    (least_is waiting c.least.result e h c.index-next.ensures (rw c.deref.ensures.value at c.least.ensures.least))

pub bounds-reached-next : goal.bounds-reached-next
bounds-reached-next c =
    let waiting = c.args.waiting.now.items in
    let e : Waiting = c.index-next.result.now in
    let h : c.least.result < length waiting = rw c.deref.ensures.value at c.least.ensures.within in
    let has : Contains waiting e = (c.least.result, h, sym c.index-next.ensures) in
    group_fits c.args.anchors.now c.requires.rise c.requires.few c.args.reached.now waiting c.args.links.now.items c.requires.grown e has
    (least_is waiting c.least.result e h c.index-next.ensures (rw c.deref.ensures.value at c.least.ensures.least))

pub returns-clause-grown : goal.returns-clause-grown
returns-clause-grown c =
    let waiting = c.args.waiting.now.items in
    let e : Waiting = c.index-next.result.now in
    let h : c.least.result < length waiting = rw c.deref.ensures.value at c.least.ensures.within in
    let has : Contains waiting e = (c.least.result, h, sym c.index-next.ensures) in
    grown_taken c.args.anchors.now c.requires.rise c.requires.few c.args.reached.now waiting c.args.links.now.items c.requires.grown e has
    (least_is waiting c.least.result e h c.index-next.ensures (rw c.deref.ensures.value at c.least.ensures.least))
    c.reach.new.waiting.items c.add_link.new.links.items c.in_ok-reach.ensures
    c.in_ok-add_link.ensures.climbs c.in_ok-add_link.ensures.len c.in_ok-add_link.ensures.whole c.in_ok-add_link.ensures.sound
