use Rattle.std.proofs.Common.{◌≡◌, ◌∙◌, ◌<◌, ◌+◌, List, ap, subst, sym, length, get_or, arith}
use Rattle.std.proofs.lemmas.List.{get_or_read, get_or_default}
use Rattle.ratsnest.specs.declared.link.Link.{Link}
use Rattle.ratsnest.specs.declared.indexed_anchor.IndexedAnchor.{IndexedAnchor}
use Rattle.ratsnest.specs.Forest.{no_indexed_anchor, no_link, indexed_anchor_at, label_of, IsLooked, AreBestTo, best_at}
use Rattle.ratsnest.proofs.Near.{best_more, best_same}
use Rattle.ratsnest.proofs.Grew.{zero_link}
use Rattle.ratsnest.proofs.nearest.seek.Goals as goal
use Rattle.ratsnest.proofs.nearest.seek.Goals.{then-own-skipped, else-own-skipped}

pub loop-i-preserved : goal.loop-i-preserved
loop-i-preserved c =
    let s : c.index.result.now ≡ indexed_anchor_at c.args.tree.now.indexed_anchors.items c.loop-i.i = get_or_read c.args.tree.now.indexed_anchors.items c.loop-i.i c.index.result.now (omega arith) c.index.ensures no_indexed_anchor in
    let ends : c.len.result ≡ length c.args.tree.now.indexed_anchors.items = omega (arith, c.len.ensures) in
    let is : c.label_of-own.result ≡ label_of c.args.labels.now (indexed_anchor_at c.args.tree.now.indexed_anchors.items c.loop-i.i) = c.label_of-own.ensures ∙ ap (label_of c.args.labels.now) s in
    let in_best : c.label_of-own.result < length c.loop-i.best =
    omega (arith, c.label_of-own.ensures, c.requires.labels c.index.result.now.anchor.group, c.loop-i.auto.best) in
    let old : get_or c.loop-i.best c.label_of-own.result zero_link ≡ best_at c.loop-i.best c.label_of-own.result =
    get_or_default c.loop-i.best c.label_of-own.result zero_link no_link in_best in
    elim c.if-own-skipped.branch [
      | then-own-skipped w ↦
          subst (λ (z : List Link). AreBestTo c.args.tree.now.indexed_anchors.items c.args.labels.now c.args.skipped (c.loop-i.i + 1) z) (sym w.best-is)
          (best_more c.args.tree.now.indexed_anchors.items c.args.labels.now c.args.skipped c.loop-i.i c.label_of-own.result c.loop-i.best w.look.new.best (omega arith) is in_best w.if-own-skipped.true c.loop-i.invariant
          (subst (λ (z : IndexedAnchor). IsLooked c.args.tree.now.indexed_anchors.items c.args.labels.now z c.label_of-own.result 0 (length c.args.tree.now.indexed_anchors.items) (best_at c.loop-i.best c.label_of-own.result) w.look.new.best) s
          (subst (λ z. IsLooked c.args.tree.now.indexed_anchors.items c.args.labels.now c.index.result.now c.label_of-own.result 0 z (best_at c.loop-i.best c.label_of-own.result) w.look.new.best) ends
          (subst (λ (z : Link). IsLooked c.args.tree.now.indexed_anchors.items c.args.labels.now c.index.result.now c.label_of-own.result 0 c.len.result z w.look.new.best) old w.look.ensures))))
      | else-own-skipped w ↦
          subst (λ (z : List Link). AreBestTo c.args.tree.now.indexed_anchors.items c.args.labels.now c.args.skipped (c.loop-i.i + 1) z) (sym w.best-is)
          (best_same c.args.tree.now.indexed_anchors.items c.args.labels.now c.args.skipped c.loop-i.i c.loop-i.best (sym is ∙ w.if-own-skipped.false) c.loop-i.invariant)
    ]
