use Rattle.std.proofs.Common.{◌≡◌, ℕ, ◌++◌, ◌∷◌, [], true≢false, map, sum_by, sym, ap, ◌∙◌, subst, arith}
use Rattle.claim_board.specs.DealMachine.{times, once_below}
use Rattle.tile_pool.specs.NumberedValues.{AreBatches}
use Rattle.steal_pool.proofs.LastHand.{each_once, one_batch_more}
use Rattle.steal_pool.proofs.rest.with_rest.Goals.{then-failed, else-failed}
use Rattle.steal_pool.proofs.rest.with_rest.Goals as goal

pub returns-clause-once : goal.returns-clause-once
returns-clause-once g c =
    let tiles = c.args.job.now.tiles in
    let hands = c.args.left.hands.items in
    let last = c.take_rest.new.share.hand in
    subst (λ (hs : _). (x : ℕ) → sum_by (times x) (map (λ v. v.items) hs) ≡ once_below x tiles) (sym c.in_ok-push.ensures.items)
    (each_once tiles hands last (λ h.
    let a = c.requires.kept h in
    let b = c.whole-owners.ensures.taken h in
    let d = c.in_ok-take_rest.ensures.kept h in
    let e = ap (sum_by h) c.in_ok-share.ensures.0 in
    let f = c.whole-owners.ensures.same h in
    let i = c.requires.owners.1 h in
    omega arith))

pub returns-clause-values : goal.returns-clause-values
returns-clause-values g c good =
    let G = g.T.TileWork.gives c.args.job.now.work.now in
    let hands = c.args.left.hands.items in
    let batches = c.args.left.batches.items in
    let last = c.take_rest.new.share in
    elim c.if-failed.branch [
      | then-failed w ↦ absurd (true≢false (sym w.if-failed.true ∙ sym w.result-is ∙ good))
      | else-failed w ↦
          subst (λ bs. AreBatches G (map (λ v. v.items) c.push.new.self.items) bs) (sym c.in_ok-push-2.ensures.items)
          (subst (λ hs. AreBatches G (map (λ v. v.items) hs) (batches ++ last.batch ∷ [])) (sym c.in_ok-push.ensures.items)
          (one_batch_more G hands batches last.hand last.batch c.requires.workers.1 (c.requires.values w.if-failed.false) (c.in_ok-take_rest.ensures.values (sym w.result-is ∙ good))))
    ]
