use Rattle.std.proofs.Common.{rules, ◌≡◌, ◌∷◌, [], ◌++◌, arith}
use Rattle.ratsnest.proofs.Pairs.{has_more, has_same}
use Rattle.ratsnest.proofs.checking.all_links.Goals as goal
use Rattle.ratsnest.proofs.checking.all_links.Goals.{then-group_of+in_ok-push, else-group_of}

pub loop-i-preserved : goal.loop-i-preserved
loop-i-preserved c =
    elim c.if-group_of.branch [
      | then-group_of+in_ok-push w ↦
          let e : c.if-group_of.links.items ≡ c.loop-i.links.items ++ w.link_of.result ∷ [] = search rules in
          rw e (has_more c.args.anchors.now c.loop-i.links.items c.loop-j.j c.loop-i.i w.link_of.result c.loop-i.invariant (omega arith) (omega arith) w.link_of.ensures (omega arith))
      | else-group_of w ↦
          let e : c.if-group_of.links.items ≡ c.loop-i.links.items = search rules in
          rw e (has_same c.args.anchors.now c.loop-i.links.items c.loop-j.j c.loop-i.i c.loop-i.invariant (omega arith))
    ]
