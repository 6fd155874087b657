use Rattle.std.proofs.Common.{arith, ◌≡◌, ℕ, length, subst, ◌∙◌}
use Rattle.std.proofs.lemmas.List.{with_items_is}
use Rattle.net_groups.specs.Touching.{TouchOn}
use Rattle.net_groups.specs.Labels.{AreLabels}
use Rattle.net_groups.proofs.Spreads.{labels_same}
use Rattle.net_groups.proofs.Placed.{read_label}
use Rattle.net_groups.proofs.labels.label_all.Goals as goal
use Rattle.net_groups.proofs.labels.label_all.Goals.{then-is_none+in_ok-spread, else-is_none}

pub loop-start-preserved : goal.loop-start-preserved
loop-start-preserved c = elim c.if-is_none.branch [
  | then-is_none+in_ok-spread w ↦
      let same = with_items_is c.loop-start.labels w.spread.new.labels (w.spread.auto.labels ∙ w.deref_mut.ensures.len) in
      rw (w.labels-is, w.count-is, w.stack-is, same) (record { labels = w.in_ok-spread.ensures.labels; empty = w.in_ok-spread.ensures.empty })
  | else-is_none w ↦
      rw (w.labels-is, w.count-is, w.stack-is)
      (record {
        labels = labels_same (TouchOn c.args.net.now.board.now) c.args.net.now.ids.now c.loop-start.start c.loop-start.count c.loop-start.labels.items
            (read_label c.loop-start.labels.items c.loop-start.start c.index.result.now (let many = c.loop-start.invariant.labels.places in omega arith) c.index.ensures c.is_none.result c.is_none.ensures w.if-is_none.false)
            c.loop-start.invariant.labels;
        empty = c.loop-start.invariant.empty;
      })
]

pub returns : goal.returns
returns c =
    let last : c.loop-start.start ≡ length c.args.net.now.ids.now = omega arith in
    subst (λ (gone : ℕ). AreLabels (TouchOn c.args.net.now.board.now) c.args.net.now.ids.now gone c.loop-start.count c.loop-start.labels.items) last c.loop-start.invariant.labels
