use Rattle.std.proofs.Common.{◌∙◌, ℕ, ◌+◌, List, [], ◌∷◌, take, get_or, sym, subst, ap}
use Rattle.box_index.specs.Reached.{BeginsWith, HasReached}
use Rattle.box_index.proofs.Prefixes.{prefix_itself, prefix_append}
use Rattle.box_index.proofs.Reaching.{no_entry, itself, reach_none, reach_more, reach_skip}
use Rattle.box_index.proofs.near.push_tile.Goals as goal
use Rattle.box_index.proofs.near.push_tile.Goals.{then-do_boxes_meet+in_ok-push, else-do_boxes_meet}

pub loop-entry-init : goal.loop-entry-init
loop-entry-init c = record { reached = reach_none c.args.bounds c.args.ids.now.items; prefix = prefix_itself c.args.ids.now.items }

pub loop-entry-preserved : goal.loop-entry-preserved
loop-entry-preserved c =
    let es = c.near-entry-items.result.now in
    let i = c.loop-entry.entry-index in
    let one = get_or es i no_entry in
    let old = c.args.ids.now.items in
    let now = c.loop-entry.ids.items in
    record {
      reached = elim c.if-do_boxes_meet.branch [
        | then-do_boxes_meet+in_ok-push w ↦ subst (λ (ids : List ℕ). HasReached c.args.bounds (take (i + 1) es) old ids) (sym (ap (λ v. v.items) w.ids-is ∙ w.in_ok-push.ensures.items))
            (reach_more c.args.bounds es i one c.loop-entry-test.true (itself es i c.loop-entry-test.true) old now c.loop-entry.invariant.reached (sym c.do_boxes_meet.ensures ∙ w.if-do_boxes_meet.true))
        | else-do_boxes_meet w ↦ subst (λ (ids : List ℕ). HasReached c.args.bounds (take (i + 1) es) old ids) (sym (ap (λ v. v.items) w.ids-is))
            (reach_skip c.args.bounds es i one c.loop-entry-test.true (itself es i c.loop-entry-test.true) old now c.loop-entry.invariant.reached (sym c.do_boxes_meet.ensures ∙ w.if-do_boxes_meet.false))
      ];
      prefix = elim c.if-do_boxes_meet.branch [
        | then-do_boxes_meet+in_ok-push w ↦ subst (BeginsWith old) (sym (ap (λ v. v.items) w.ids-is ∙ w.in_ok-push.ensures.items)) (prefix_append old now (one.id ∷ []) c.loop-entry.invariant.prefix)
        | else-do_boxes_meet w ↦ subst (BeginsWith old) (sym (ap (λ v. v.items) w.ids-is)) c.loop-entry.invariant.prefix
      ];
    }
