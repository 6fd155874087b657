use Rattle.std.proofs.Common.{arith, ◌≡◌, [], ℕ, List, subst}
use Rattle.std.proofs.lemmas.Grind.{common_steps}
use Rattle.net_groups.specs.Touching.{TouchOn}
use Rattle.net_groups.specs.Labels.{IsSpread}
use Rattle.net_groups.proofs.Spreads.{spread_begun, spread_visited, labels_more, next_inside}
use Rattle.net_groups.proofs.Covers.{touch_back}
use Rattle.net_groups.proofs.labels.spread.Goals as goal

pub spreading-init : goal.spreading-init
spreading-init c =
    rw (c.in_ok-push.ensures.items, c.requires.empty)
    (spread_begun (TouchOn c.args.net.now.board.now) c.args.net.now.ids.now c.args.start c.args.label c.args.labels.now c.requires.labels c.requires.start c.requires.free)

pub visit-requires-clause-place : goal.visit-requires-clause-place
visit-requires-clause-place c =
    next_inside (TouchOn c.args.net.now.board.now) c.args.net.now.ids.now c.args.start c.args.label c.args.labels.now c.spreading.labels c.spreading.stack.items c.requires.labels c.spreading.invariant c.pop.new.self.items c.in-Some.place c.in-Some.ensures.items

pub visit-requires-clause-first : goal.visit-requires-clause-first
visit-requires-clause-first c = λ i lt. let l = c.requires.labels.filled i lt in (l.0, c.spreading.invariant.kept i l.0 l.1)

pub spreading-preserved : goal.spreading-preserved
spreading-preserved c =
    let whole = c.in_ok-visit.ensures in
    spread_visited (TouchOn c.args.net.now.board.now) c.args.net.now.ids.now whole.others c.args.labels.now c.args.start c.args.label c.in-Some.place c.spreading.labels c.visit.new.labels c.pop.new.self.items c.visit.new.stack.items
    (subst (λ (stack : List ℕ). IsSpread (TouchOn c.args.net.now.board.now) c.args.net.now.ids.now c.args.labels.now c.args.start c.args.label stack c.spreading.labels) c.in-Some.ensures.items c.spreading.invariant)
    whole.visited whole.covers

pub returns-clause-labels : goal.returns-clause-labels
returns-clause-labels c =
    let none : c.spreading.stack.items ≡ [] = grind (arith, common_steps) in
    labels_more (TouchOn c.args.net.now.board.now) (touch_back c.args.net.now.board.now) c.args.net.now.ids.now c.args.start c.args.label c.args.labels.now c.spreading.labels c.requires.labels
    (subst (λ (stack : List ℕ). IsSpread (TouchOn c.args.net.now.board.now) c.args.net.now.ids.now c.args.labels.now c.args.start c.args.label stack c.spreading.labels) none c.spreading.invariant)
