-- What is kept of a step: changes in plain form, the nearest first.
use Rattle.std.specs.Prelude.{◌≡◌, true, false, List, [], ◌∷◌}
use Rattle.edit_script.specs.Commands.{PlainCommand}
use Rattle.drc_state.specs.States.{State}
use Rattle.drc_state.specs.CommandSteps.{is_rules}
use Rattle.drc_state.specs.StateChanges.{PlainChange, is_replace}
use Rattle.drc_session.specs.declared.applied.Applied.{Applied}
use Rattle.drc_session.specs.Sessions.{PlainSession, IsTurned}
use Rattle.undo_log.specs.Past.{is_again}
use Rattle.undo_log.specs.Ways.{LeadsTo}

-- of a command that was carried out the inverse change, and nothing leads on any more; of a report again nothing
pub record IsNoted (old new : State) (command : PlainCommand) (back back_now on on_now : List PlainChange) : Type 0 where
  pub again : is_again command ≡ true → (back_now ≡ back) × (on_now ≡ on)
  pub other : is_again command ≡ false → (change : PlainChange) × LeadsTo change new old (is_rules command) × (back_now ≡ change ∷ back) × (on_now ≡ [])

-- the nearest change on one side was made, and its inverse stands on the other
pub record IsSwitched (old new : PlainSession) (from from_now to to_now : List PlainChange) (applied : Applied) : Type 0 where
  pub change : PlainChange
  pub back : PlainChange
  pub from_is : from ≡ change ∷ from_now
  pub to_is : to_now ≡ back ∷ to
  pub turned : IsTurned old new change applied
  pub leads : LeadsTo back new.state old.state (is_replace change)
