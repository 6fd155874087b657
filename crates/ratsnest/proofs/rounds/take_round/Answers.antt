use Rattle.std.proofs.Common.{◌≡◌, ◌∙◌, ◌+◌, ◌≤◌, List, All, inl, inr, sym, ap, subst, length, arith}
use Rattle.ratsnest.specs.declared.link.Link.{Link}
use Rattle.ratsnest.specs.Forest.{IsUsable, AreBestTo, AreOne}
use Rattle.ratsnest.proofs.Cut.{best_usable, idle_is_one}
use Rattle.ratsnest.proofs.Forest.{forest_whole}
use Rattle.ratsnest.proofs.rounds.take_round.Goals as goal
use Rattle.ratsnest.proofs.rounds.take_round.Goals.{then-before-len, else-before-len}

pub join_all-requires-clause-usable : goal.join_all-requires-clause-usable
join_all-requires-clause-usable c =
    subst (λ (z : List Link). All (IsUsable c.args.anchors.now) z) (sym c.deref.ensures.value)
    (best_usable c.args.anchors.now c.requires.rise c.requires.few c.args.labels.now c.args.tree.now.indexed_anchors.items c.requires.indexed_anchors c.in_ok-skipped.skipped c.in_ok-best.best.items c.in_ok-best.ensures.best)

pub returns-clause-done : goal.returns-clause-done
returns-clause-done c = λ e. elim c.if-before-len.branch [
  | then-before-len w ↦
      let links : length w.deref-then-before-len.result.now ≡ length c.join_all.new.links.items = ap length w.deref-then-before-len.ensures.value in
      let many : length c.join_all.new.labels ≤ length w.deref-then-before-len.result.now + 1 = w.are_few.ensures (sym w.result-is ∙ e) in
      forest_whole c.args.anchors.now c.join_all.new.labels c.join_all.new.links.items c.in_ok-join_all.ensures.forest (omega (arith, links, many))
  | else-before-len w ↦ elim c.in_ok-join_all.ensures.grown [
    | inl more ↦ absurd (omega (arith, w.if-before-len.false, c.len-before.ensures, c.len.ensures, more))
    | inr same ↦ subst AreOne (sym same.0)
        (idle_is_one c.args.anchors.now c.requires.rise c.requires.few c.args.labels.now c.args.tree.now.indexed_anchors.items c.requires.indexed_anchors c.in_ok-skipped.skipped c.deref.result.now
        (subst (λ (z : List Link). AreBestTo c.args.tree.now.indexed_anchors.items c.args.labels.now c.in_ok-skipped.skipped (length c.args.tree.now.indexed_anchors.items) z) (sym c.deref.ensures.value) c.in_ok-best.ensures.best)
        c.requires.occur c.requires.forest.count (ap length c.deref.ensures.value ∙ c.in_ok-best.ensures.len) c.requires.kept.below same.2)
  ]
]
