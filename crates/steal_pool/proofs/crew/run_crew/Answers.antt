use Rattle.std.proofs.Common.{◌-◌, ◌+◌, sum_by, length, map, All, sym, ap, ◌∙◌, subst, arith}
use Rattle.std.proofs.lemmas.List.{length-map}
use Rattle.tile_pool.specs.NumberedValues.{AreBatches}
use Rattle.steal_pool.specs.Seats.{AreOwners, AreLines, taken_with, pushed_by, taken_by}
use Rattle.steal_pool.proofs.Workers.{ready_crew, back_owners, back_pushed, back_lines, back_kept, back_values}
use Rattle.steal_pool.proofs.crew.run_crew.Goals as goal

pub run_members-crew-requires-clause-members : goal.run_members-crew-requires-clause-members
run_members-crew-requires-clause-members g c κs within =
    let G = g.T.TileWork.gives c.args.job.now.work.now in
    let of = c.in_ok-crew.ensures in
    ready_crew G c.args.job.now.tiles (1024 - length c.args.owners.items) c.args.job.now.others.now c.args.owners.items c.in_ok-crew.crew.items of.owners c.requires.owners.0 (omega (arith, c.requires.workers.1)) c.requires.owners.1 of.lines of.fresh

pub returns-clause-owners : goal.returns-clause-owners
returns-clause-owners g c =
    let job = c.args.job.now in
    let G = g.T.TileWork.gives job.work.now in
    let owners = c.args.owners.items in
    let left = c.in_ok-left.ensures in
    let ran = c.run_members-crew.ensures in (
      subst (AreOwners job.tiles (1024 - length owners) job.others.now) (sym left.owners) (back_owners G job.tiles (1024 - length owners) job.others.now owners c.in_ok-crew.crew.items c.in_ok-crew.ensures.owners c.requires.owners.0 c.run_members-crew.result.items ran.long ran.run),
      λ h. ap (pushed_by h) left.owners ∙ back_pushed G job.tiles (1024 - length owners) job.others.now owners c.in_ok-crew.crew.items c.in_ok-crew.ensures.owners c.requires.owners.0 c.run_members-crew.result.items ran.long ran.run h,
    )

pub returns-clause-lines : goal.returns-clause-lines
returns-clause-lines g c =
    let job = c.args.job.now in
    let G = g.T.TileWork.gives job.work.now in
    let owners = c.args.owners.items in
    let left = c.in_ok-left.ensures in
    let ran = c.run_members-crew.ensures in (
      ap length left.lines ∙ length-map c.run_members-crew.result.items (λ m. m.lines) ∙ ran.long ∙ sym (length-map c.in_ok-crew.crew.items (λ m. m.own)) ∙ ap length c.in_ok-crew.ensures.owners,
      subst (All (λ v. AreLines job.tiles job.others.now v.items)) (sym left.lines) (back_lines G job.tiles (1024 - length owners) job.others.now owners c.in_ok-crew.crew.items c.in_ok-crew.ensures.owners c.requires.owners.0 c.run_members-crew.result.items ran.long ran.run),
    )

pub returns-clause-kept : goal.returns-clause-kept
returns-clause-kept g c =
    let job = c.args.job.now in
    let G = g.T.TileWork.gives job.work.now in
    let owners = c.args.owners.items in
    let left = c.in_ok-left.ensures in
    let ran = c.run_members-crew.ensures in
    λ h. ap (sum_by (λ v. sum_by h v.items)) left.hands ∙ back_kept G job.tiles (1024 - length owners) job.others.now owners c.in_ok-crew.crew.items c.in_ok-crew.ensures.owners c.requires.owners.0 c.run_members-crew.result.items ran.long ran.run h ∙ sym (λ i. taken_by h (left.owners i) + sum_by (λ v. taken_with h v.items) (left.lines i))

pub returns-clause-values : goal.returns-clause-values
returns-clause-values g c =
    let job = c.args.job.now in
    let G = g.T.TileWork.gives job.work.now in
    let owners = c.args.owners.items in
    let left = c.in_ok-left.ensures in
    let ran = c.run_members-crew.ensures in
    λ good. subst (AreBatches G (map (λ v. v.items) c.in_ok-left.left.hands.items)) (sym left.batches)
    (subst (λ hs. AreBatches G (map (λ v. v.items) hs) (map (λ m. m.share.batch) c.run_members-crew.result.items)) (sym left.hands) (back_values G job.tiles (1024 - length owners) job.others.now owners c.in_ok-crew.crew.items c.in_ok-crew.ensures.owners c.requires.owners.0 c.run_members-crew.result.items ran.long ran.run (left.failed good)))

pub returns-clause-counts : goal.returns-clause-counts
returns-clause-counts g c =
    let crew = c.in_ok-crew.crew.items in
    let left = c.in_ok-left.ensures in
    let many = c.run_members-crew.ensures.long ∙ sym (length-map crew (λ m. m.own)) ∙ ap length c.in_ok-crew.ensures.owners in
    (ap length left.hands ∙ length-map c.run_members-crew.result.items (λ m. m.share.hand) ∙ many, ap length left.batches ∙ length-map c.run_members-crew.result.items (λ m. m.share.batch) ∙ many)
