-- A session as contracts see it: a state, its rows and its nets, and whether running out of memory stopped it. Of a stopped session nothing
-- else is known.
use Rattle.std.specs.Prelude.{◌≡◌, ℕ, Bool, true, false, List, length, Ok, Err}
use Rattle.claim_board.specs.DealViews.{dealt_tiles, dealt_seats}
use Rattle.edit_script.specs.Commands.{PlainCommand}
use Rattle.pair_check.specs.PlainRow.{PlainRow}
use Rattle.pair_check.specs.Rows.{AreRows}
use Rattle.net_groups.specs.NetParts.{PlainNetPart, AreParts}
use Rattle.drc_state.specs.declared.error.EditError.{EditError}
use Rattle.drc_state.specs.declared.error.EditError.TheVariants.{Stopped, OutOfMemory}
use Rattle.drc_state.specs.States.{State, checked_in}
use Rattle.drc_state.specs.CommandSteps.{is_rules, Answers}
use Rattle.drc_state.specs.StateChanges.{PlainChange, is_replace, Makes}
use Rattle.drc_state.specs.Recheck.{AreHeld, AreRechecked, IsHeldCount}
use Rattle.drc_session.specs.declared.applied.Applied.{Applied}

pub record PlainSession : Type 0 where
  pub state : State
  pub rows : List PlainRow
  pub nets : List PlainNetPart
  pub stopped : Bool

-- the rows and the nets are those of the state
pub record IsChecked (s : PlainSession) : Type 0 where
  pub rows : AreRows (checked_in s.state) s.rows
  pub nets : AreParts s.state.board s.nets

-- the tiles were dealt to so many workers
pub record IsDealt (workers : ℕ) (applied : Applied) : Type 0 where
  pub tiles : dealt_tiles applied.dealt ≡ length applied.tiles.items
  pub seats : dealt_seats applied.dealt ≡ workers

-- at the opening all tiles that hold an item are gone through
pub record IsOpened (state : State) (applied : Applied) : Type 0 where
  pub tiles : AreHeld (checked_in state) applied.tiles.items
  pub held : applied.held ≡ length applied.tiles.items

-- after a change those that it affected, or all of them
pub record IsApplied (old new : State) (replaced : Bool) (applied : Applied) : Type 0 where
  pub tiles : AreRechecked (checked_in old) (checked_in new) replaced applied.tiles.items
  pub held : IsHeldCount (checked_in new) applied.held

-- the command was carried out
pub record IsCarriedOut (old new : PlainSession) (command : PlainCommand) (applied : Applied) : Type 0 where
  pub running : (old.stopped ≡ false) × (new.stopped ≡ false)
  pub answer : Answers old.state command (Ok new.state)
  pub applied_is : IsApplied old.state new.state (is_rules command) applied

-- the change was made
pub record IsTurned (old new : PlainSession) (change : PlainChange) (applied : Applied) : Type 0 where
  pub running : new.stopped ≡ false
  pub makes : Makes change old.state new.state
  pub applied_is : IsApplied old.state new.state (is_replace change) applied

-- why it was not: the session is stopped, or memory ran out, or the command is refused and all is as it was
abbrev pub IsRefusedBy : PlainSession → PlainSession → PlainCommand → EditError → Type 0
IsRefusedBy old new command Stopped = (old.stopped ≡ true) × (new ≡ old)
IsRefusedBy old new command OutOfMemory = (old.stopped ≡ false) × (new.stopped ≡ true)
IsRefusedBy old new command why = (old.stopped ≡ false) × Answers old.state command (Err why) × (new ≡ old)
