use Rattle.std.proofs.Common.{◌≡◌, ◌++◌, take, drop, length, All, sym, ap, ◌∙◌, subst}
use Rattle.steal_pool.specs.PoolMembers.{IsReady, HaveRun}
use Rattle.steal_pool.proofs.Related.{written_back}
use Rattle.steal_pool.proofs.crew.run_members.Goals as goal

pub run_all-requires-clause-members : goal.run_all-requires-clause-members
run_all-requires-clause-members g c κs within =
    let job = c.args.job.now in
    subst (All (IsReady (g.T.TileWork.gives job.work.now) job.tiles job.others.now)) (sym c.as_mut_slice.ensures.value) c.requires.members

pub returns-clause-long : goal.returns-clause-long
returns-clause-long g c =
    let crew = c.args.crew in
    let later = c.run_all.new.members in
    let long : length later ≡ length crew.items = c.run_all.auto.members ∙ ap length c.as_mut_slice.ensures.value in
    ap length (written_back crew.len later crew.items (long ∙ sym crew.ok.0)) ∙ long

pub returns-clause-run : goal.returns-clause-run
returns-clause-run g c =
    let job = c.args.job.now in
    let G = g.T.TileWork.gives job.work.now in
    let crew = c.args.crew in
    let later = c.run_all.new.members in
    let long : length later ≡ length crew.items = c.run_all.auto.members ∙ ap length c.as_mut_slice.ensures.value in
    let whole : take crew.len (later ++ drop (length later) crew.items) ≡ later = written_back crew.len later crew.items (long ∙ sym crew.ok.0) in
    subst (HaveRun G job.tiles job.others.now crew.items) (sym whole) (subst (λ ms. HaveRun G job.tiles job.others.now ms later) c.as_mut_slice.ensures.value c.run_all.ensures)
