use Rattle.std.proofs.Common.{get_or, ◌<◌, length, ◌∙◌, arith}
use Rattle.box_index.specs.Tiles.{margin}
use Rattle.net_groups.specs.Touching.{TouchOn}
use Rattle.net_groups.proofs.Asked.{asked_skip, asked_next, no_entry, itself, fits_at, place_at}
use Rattle.net_groups.proofs.labels.visit_tile.Goals as goal
use Rattle.net_groups.proofs.labels.visit_tile.Goals.{then-newly_asked+in_ok-push, else-newly_asked}

pub newly_asked-requires-clause-other_place : goal.newly_asked-requires-clause-other_place
newly_asked-requires-clause-other_place c =
    let lt = place_at c.args.net.now.item_boxes.now c.args.index.now c.args.tile c.requires.holds c.near-other-items.result.now c.near-other-items.ensures.entries c.loop-other.other-index c.loop-other-test.true in
    omega (arith, lt, c.requires.many)

pub newly_asked-requires-clause-other : goal.newly_asked-requires-clause-other
newly_asked-requires-clause-other c = fits_at c.args.index.now c.args.tile c.near-other-items.ensures.sound c.near-other-items.result.now c.near-other-items.ensures.entries c.loop-other.other-index c.loop-other-test.true

pub bounds-labels-found : goal.bounds-labels-found
bounds-labels-found c =
    let lt = place_at c.args.net.now.item_boxes.now c.args.index.now c.args.tile c.requires.holds c.near-other-items.result.now c.near-other-items.ensures.entries c.loop-other.other-index c.loop-other-test.true in
    omega (arith, lt, c.requires.many, c.requires.places, c.loop-other.invariant.places)

pub loop-other-preserved : goal.loop-other-preserved
loop-other-preserved c =
    let lt = place_at c.args.net.now.item_boxes.now c.args.index.now c.args.tile c.requires.holds c.near-other-items.result.now c.near-other-items.ensures.entries c.loop-other.other-index c.loop-other-test.true in
    let inside : (get_or c.near-other-items.result.now c.loop-other.other-index no_entry).id < length c.args.net.now.ids.now = omega (arith, lt, c.requires.many) in
    elim c.if-newly_asked.branch [
      | then-newly_asked+in_ok-push w ↦
          rw (w.labels-is, w.stack-is, w.in_ok-push.ensures.items)
          (asked_next c.args.net.now.ids.now (margin c.args.index.now) c.args.tile c.args.own (TouchOn c.args.net.now.board.now) c.requires.rises c.args.label c.args.labels.now c.loop-other.labels c.args.stack.now.items c.loop-other.stack.items
          c.near-other-items.result.now c.loop-other.other-index (get_or c.near-other-items.result.now c.loop-other.other-index no_entry) c.loop-other-test.true (itself c.near-other-items.result.now c.loop-other.other-index c.loop-other-test.true) inside c.loop-other.invariant
          (c.loop-other.invariant.places ∙ c.requires.places) (c.newly_asked.ensures.asked w.if-newly_asked.true) (c.newly_asked.ensures.touch w.if-newly_asked.true) (c.newly_asked.ensures.free w.if-newly_asked.true))
      | else-newly_asked w ↦
          rw (w.labels-is, w.stack-is)
          (asked_skip c.args.net.now.ids.now (margin c.args.index.now) c.args.tile c.args.own (TouchOn c.args.net.now.board.now) c.requires.rises c.args.label c.args.labels.now c.loop-other.labels c.args.stack.now.items c.loop-other.stack.items
          c.near-other-items.result.now c.loop-other.other-index (get_or c.near-other-items.result.now c.loop-other.other-index no_entry) c.loop-other-test.true (itself c.near-other-items.result.now c.loop-other.other-index c.loop-other-test.true) inside c.loop-other.invariant
          (c.newly_asked.ensures.over w.if-newly_asked.false))
    ]
