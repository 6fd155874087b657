use Rattle.std.proofs.Common.{rules, ◌≡◌, ◌<◌, ◌∷◌, [], ◌++◌, length, get_or, arith}
use Rattle.ratsnest.proofs.Joining.{joined_none, joined_same, joined_more, joined_all, no_link, link_here, first_within, groups_fit, itself}
use Rattle.ratsnest.proofs.checking.join.Goals as goal
use Rattle.ratsnest.proofs.checking.join.Goals.{then-from-to+in_ok-push, else-from-to}

pub loop-link-init : goal.loop-link-init
loop-link-init c = rw c.requires.nest (joined_none c.args.anchors.now c.args.links.now c.args.labels.now c.requires.labels)

pub group_of-requires : goal.group_of-requires
group_of-requires c = first_within c.args.anchors.now c.args.links.now c.requires.links c.loop-link.link-index (omega arith)

pub bounds-labels-group_of : goal.bounds-labels-group_of
bounds-labels-group_of c =
    rw c.group_of.ensures (groups_fit c.args.anchors.now c.args.links.now c.requires.links c.loop-link.link-index (omega arith) c.loop-link.labels c.loop-link.invariant.count).0

pub group_of-requires-in-loop-link : goal.group_of-requires-in-loop-link
group_of-requires-in-loop-link c = (link_here c.args.anchors.now c.args.links.now c.requires.links c.loop-link.link-index (omega arith)).within

pub bounds-labels-group_of-in-loop-link : goal.bounds-labels-group_of-in-loop-link
bounds-labels-group_of-in-loop-link c =
    rw c.group_of-in-loop-link.ensures (groups_fit c.args.anchors.now c.args.links.now c.requires.links c.loop-link.link-index (omega arith) c.loop-link.labels c.loop-link.invariant.count).1

pub loop-link-preserved : goal.loop-link-preserved
loop-link-preserved c =
    let inside : c.loop-link.link-index < length c.args.links.now = omega arith in
    let fit = groups_fit c.args.anchors.now c.args.links.now c.requires.links c.loop-link.link-index inside c.loop-link.labels c.loop-link.invariant.count in
    let same = itself c.args.anchors.now c.args.links.now c.requires.links c.loop-link.link-index inside in
    elim c.if-from-to.branch [
      | then-from-to+in_ok-push w ↦
          let e : c.if-from-to.nest.items ≡ c.loop-link.nest.items ++ get_or c.args.links.now c.loop-link.link-index no_link ∷ [] = search rules in
          let k : c.if-from-to.labels ≡ w.relabel.new.labels = search rules in
          rw (e, k) (joined_more c.args.anchors.now c.args.links.now c.loop-link.link-index (get_or c.args.links.now c.loop-link.link-index no_link) inside same
          c.loop-link.labels c.loop-link.nest.items fit c.loop-link.invariant (rw (c.group_of.ensures, c.group_of-in-loop-link.ensures) at w.if-from-to.true)
          w.relabel.new.labels w.relabel.auto.labels (rw (c.group_of.ensures, c.group_of-in-loop-link.ensures) at w.relabel.ensures))
      | else-from-to w ↦
          let e : c.if-from-to.nest.items ≡ c.loop-link.nest.items = search rules in
          let k : c.if-from-to.labels ≡ c.loop-link.labels = search rules in
          rw (e, k) (joined_same c.args.anchors.now c.args.links.now c.loop-link.link-index (get_or c.args.links.now c.loop-link.link-index no_link) inside same
          c.loop-link.labels c.loop-link.nest.items fit c.loop-link.invariant (rw (c.group_of.ensures, c.group_of-in-loop-link.ensures) at w.if-from-to.false))
    ]

pub returns : goal.returns
returns c =
    joined_all c.args.anchors.now c.requires.rise c.requires.few c.args.links.now c.requires.links c.loop-link.link-index (omega arith) c.loop-link.labels c.loop-link.nest.items c.loop-link.invariant
