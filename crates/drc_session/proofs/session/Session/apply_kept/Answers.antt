use Rattle.std.proofs.Common.{ap, sym}
use Rattle.drc_session.specs.Sessions.{PlainSession}
use Rattle.drc_session.proofs.session.Session.apply_kept.Goals as goal

pub make-requires-clause-fits : goal.make-requires-clause-fits
make-requires-clause-fits g c κs within = c.in-Ok.ensures.fits c.args.self.now.state (ap (λ (s : PlainSession). s.state.board) (sym c.self.view_is))
