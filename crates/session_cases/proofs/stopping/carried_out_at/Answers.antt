use Rattle.what_if.proofs.Leading.{fits_at}
use Rattle.session_cases.proofs.stopping.carried_out_at.Goals as goal

pub carried_out-requires-after_bounds : goal.carried_out-requires-after_bounds
carried_out-requires-after_bounds g c κs within = fits_at c.args.commands.now c.args.place c.index-commands-place.result c.requires.place c.index-commands-place.is c.requires.fit
