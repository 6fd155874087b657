use Rattle.undo_log.proofs.Kept.{nearest_fits}
use Rattle.undo_log.proofs.keeping.switch.Goals as goal

pub turn-requires-clause-fits : goal.turn-requires-clause-fits
turn-requires-clause-fits g c κs within =
    nearest_fits c.args.session.now.state c.args.from.now.items c.pop.new.self.items c.in-Some.change c.in-Some.ensures.items c.requires.fits
