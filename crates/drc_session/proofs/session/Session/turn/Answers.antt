use Rattle.std.proofs.Common.{subst}
use Rattle.std.specs.Prelude.{◌≡◌, IfOk}
use Rattle.drc_state.specs.StateChanges.{PlainChange, plain_change, is_replace}
use Rattle.drc_session.specs.Sessions.{IsTurned, IsDealt}
use Rattle.drc_session.proofs.session.Session.turn.Goals as goal

pub returns-clause-made : goal.returns-clause-made
returns-clause-made g c =
    subst (λ (change : PlainChange). IfOk c.make.result (λ r. IsTurned c.args.self.now c.make.new.self change r.0 × IsDealt c.args.workers r.0)) c.edit_in.ensures c.make.ensures.made

pub returns-clause-kind : goal.returns-clause-kind
returns-clause-kind g c = subst (λ (change : PlainChange). IfOk c.make.result (λ r. is_replace (plain_change r.1) ≡ is_replace change)) c.edit_in.ensures c.make.ensures.kind
