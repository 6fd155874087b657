use Rattle.std.proofs.Common.{arith, ◌+◌, ◌≤◌, ◌<◌, ℕ, length, get_or, inr, ◌∙◌}
use Rattle.std.proofs.lemmas.List.Elements.{Contains-get_or}
use Rattle.net_groups.specs.Touching.{TouchOn}
use Rattle.net_groups.proofs.Asked.{no_bounds}
use Rattle.net_groups.proofs.Visits.{visited_first, visited_past, next_skip, next_push, visited_all}
use Rattle.net_groups.proofs.labels.visit_item_boxes.Goals as goal
use Rattle.net_groups.proofs.labels.visit_item_boxes.Goals.{then-newly_touched+in_ok-push, else-newly_touched}

pub others-init : goal.others-init
others-init c =
    let ids = c.args.net.now.ids.now in
    visited_past (TouchOn c.args.net.now.board.now) ids c.requires.rises c.args.place c.args.label c.args.labels.now c.args.labels.now c.args.stack.now.items c.args.stack.now.items c.args.first
    (visited_first (TouchOn c.args.net.now.board.now) ids c.args.place c.args.label c.args.labels.now c.args.stack.now.items c.args.first c.requires.rises c.requires.first)
    c.next_met-other.result
    (λ j lo hi lt t. c.next_met-other.ensures.apart j no_bounds lo hi (omega (arith, lt, c.requires.item_boxes.many)) (c.requires.item_boxes.meet c.args.place j no_bounds c.requires.place lt t))

pub others-preserved : goal.others-preserved
others-preserved c =
    let ids = c.args.net.now.ids.now in
    let next = c.next_met-other-in-others.result in
    let none : (j : ℕ) → c.others.other + 1 ≤ j → j < next → j < length ids → TouchOn c.args.net.now.board.now (get_or ids c.args.place 0) (get_or ids j 0) → ⊥ =
    λ j lo hi lt t. c.next_met-other-in-others.ensures.apart j no_bounds lo hi (omega (arith, lt, c.requires.item_boxes.many)) (c.requires.item_boxes.meet c.args.place j no_bounds c.requires.place lt t) in
    elim c.if-newly_touched.branch [
      | then-newly_touched+in_ok-push w ↦
          rw (w.labels-is, w.stack-is, w.in_ok-push.ensures.items)
          (visited_past (TouchOn c.args.net.now.board.now) ids c.requires.rises c.args.place c.args.label c.args.labels.now _ c.args.stack.now.items _ (c.others.other + 1)
          (next_push (TouchOn c.args.net.now.board.now) ids c.requires.rises c.args.place c.args.label c.args.labels.now c.others.labels c.args.stack.now.items c.others.stack.items
          c.others.other c.others-test.true c.others.invariant (c.others.invariant.places ∙ c.requires.places) (c.newly_touched.ensures.touch w.if-newly_touched.true) (c.newly_touched.ensures.free w.if-newly_touched.true))
          next none)
      | else-newly_touched w ↦
          rw (w.labels-is, w.stack-is)
          (visited_past (TouchOn c.args.net.now.board.now) ids c.requires.rises c.args.place c.args.label c.args.labels.now c.others.labels c.args.stack.now.items c.others.stack.items (c.others.other + 1)
          (next_skip (TouchOn c.args.net.now.board.now) ids c.requires.rises c.args.place c.args.label c.args.labels.now c.others.labels c.args.stack.now.items c.others.stack.items
          c.others.other c.others-test.true c.others.invariant (c.newly_touched.ensures.over w.if-newly_touched.false))
          next none)
    ]

pub returns : goal.returns
returns c =
    let ids = c.args.net.now.ids.now in
    record {
      others = ids;
      visited = visited_all (TouchOn c.args.net.now.board.now) ids ids c.args.place c.args.label c.args.labels.now c.others.labels c.args.stack.now.items c.others.stack.items c.others.other c.others-test.false c.others.invariant;
      covers = λ j lt t. inr (Contains-get_or ids j 0 lt);
    }
