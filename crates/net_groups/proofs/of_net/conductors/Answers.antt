use Rattle.std.proofs.Common.{◌≡◌, ℕ, ◌+◌, Bool, List, [], ◌∷◌, ◌++◌, length, get_or, take, filter, arith, ap, sym, subst}
use Rattle.board_items.specs.Boards.{item_at}
use Rattle.net_groups.specs.Labels.{is_copper}
use Rattle.net_groups.proofs.Conductors.{kept_one, kept_over, kept_all}
use Rattle.net_groups.proofs.NetIds.{conductors_few}
use Rattle.net_groups.proofs.Owns.{item_boxes_more, item_boxes_tell}
use Rattle.net_groups.proofs.of_net.conductors.Goals as goal
use Rattle.net_groups.proofs.of_net.conductors.Goals.{in-Some+in_ok-push+in_ok-push-2, in_default}

pub loop-id-preserved : goal.loop-id-preserved
loop-id-preserved c =
    let has : ℕ → Bool = λ id. is_copper (item_at c.args.board.now.items id) in
    let all = c.of_net-all.result.now in
    let id = get_or all c.loop-id.id-index 0 in
    elim c.match-copper_item_box.branch [
      | in-Some+in_ok-push+in_ok-push-2 w ↦
          rw (w.ids-is, w.item_boxes-is, w.in_ok-push.ensures.items, w.in_ok-push-2.ensures.items)
          (record {
            kept = subst (λ (ids : List ℕ). c.loop-id.ids.items ++ id ∷ [] ≡ filter has (take (c.loop-id.id-index + 1) ids)) c.of_net-all.ensures
                (kept_one has all c.loop-id.ids.items c.loop-id.id-index c.loop-id-test.true w.in-Some.ensures.copper (subst (λ (ids : List ℕ). c.loop-id.ids.items ≡ filter has (take c.loop-id.id-index ids)) (sym c.of_net-all.ensures) c.loop-id.invariant.kept));
            item_boxes = item_boxes_more c.args.board.now c.loop-id.ids.items c.loop-id.item_boxes.items id w.in-Some.item_box c.loop-id.invariant.item_boxes w.in-Some.ensures;
          })
      | in_default w ↦
          rw (w.ids-is, w.item_boxes-is)
          (record {
            kept = subst (λ (ids : List ℕ). c.loop-id.ids.items ≡ filter has (take (c.loop-id.id-index + 1) ids)) c.of_net-all.ensures
                (kept_over has all c.loop-id.ids.items c.loop-id.id-index c.loop-id-test.true w.in_default.ensures (subst (λ (ids : List ℕ). c.loop-id.ids.items ≡ filter has (take c.loop-id.id-index ids)) (sym c.of_net-all.ensures) c.loop-id.invariant.kept));
            item_boxes = c.loop-id.invariant.item_boxes;
          })
    ]

pub returns-clause-ids : goal.returns-clause-ids
returns-clause-ids c =
    kept_all c.args.board.now c.args.net c.soundness.ensures.sound c.if-net-eq0.false c.loop-id.id-index (omega (arith, ap length c.of_net-all.ensures)) c.loop-id.ids.items c.loop-id.invariant.kept

pub returns-clause-few : goal.returns-clause-few
returns-clause-few c = conductors_few c.args.board.now c.args.net c.soundness.ensures.sound (λ id. is_copper (item_at c.args.board.now.items id)) c.loop-id.id-index c.loop-id.ids.items c.loop-id.invariant.kept

pub returns-clause-item_boxes : goal.returns-clause-item_boxes
returns-clause-item_boxes c = item_boxes_tell c.args.board.now c.loop-id.ids.items c.loop-id.item_boxes.items c.loop-id.invariant.item_boxes
