use Rattle.std.proofs.Common.{◌≡◌, ◌++◌, length, take, drop, All, sym, ap, ◌∙◌, subst}
use Rattle.tile_pool.specs.Crews.{IsFresh, HasRun}
use Rattle.tile_pool.proofs.Crew.{written_back}
use Rattle.tile_pool.proofs.pool.run_all.Goals as goal

pub run_crew-requires-clause-fresh : goal.run_crew-requires-clause-fresh
run_crew-requires-clause-fresh g c κs within = subst (λ ws. All (IsFresh c.args.deal.now) ws) (sym c.as_mut_slice.ensures.value) c.requires.fresh

pub returns-clause-long : goal.returns-clause-long
returns-clause-long g c =
    let crew = c.args.crew in
    let later = c.run_crew.new.crew in
    let long : length later ≡ length crew.items = c.run_crew.auto.crew ∙ ap length c.as_mut_slice.ensures.value in
    ap length (written_back crew.len later crew.items (long ∙ sym crew.ok.0)) ∙ long

pub returns-clause-run : goal.returns-clause-run
returns-clause-run g c =
    let f = g.T.TileWork.gives c.args.work.now in
    let deal = c.args.deal.now in
    let crew = c.args.crew in
    let later = c.run_crew.new.crew in
    let long : length later ≡ length crew.items = c.run_crew.auto.crew ∙ ap length c.as_mut_slice.ensures.value in
    let whole : take crew.len (later ++ drop (length later) crew.items) ≡ later = written_back crew.len later crew.items (long ∙ sym crew.ok.0) in
    let ran : HasRun deal f c.as_mut_slice.result.now later = c.run_crew.ensures in
    subst (λ ws. HasRun deal f crew.items ws) (sym whole) (subst (λ ws. HasRun deal f ws later) c.as_mut_slice.ensures.value ran)
