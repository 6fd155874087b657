-- What a history holds while it runs.
use Rattle.std.specs.Prelude.{◌≡◌, false, List}
use Rattle.drc_state.specs.StateChanges.{PlainChange}
use Rattle.drc_session.specs.Sessions.{PlainSession}
use Rattle.undo_log.specs.Past.{Past}
use Rattle.undo_log.specs.Ways.{AreWays}

-- the session runs, and what is kept leads through some past
pub record IsRunning (session : PlainSession) (back on : List PlainChange) : Type 0 where
  pub running : session.stopped ≡ false
  pub past : Past
  pub ways : AreWays session.state back on past
