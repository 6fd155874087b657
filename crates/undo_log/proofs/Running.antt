-- A history that runs goes on after each step that it takes.
use Rattle.std.proofs.Common.{◌≡◌, refl, Bool, false, List, ◌∷◌, Ok}
use Rattle.edit_script.specs.Commands.{PlainCommand, PlainStep, edit, undo, redo}
use Rattle.drc_state.specs.States.{State}
use Rattle.drc_state.specs.StateChanges.{PlainChange, is_replace, Makes}
use Rattle.drc_session.specs.declared.applied.Applied.{Applied}
use Rattle.drc_session.specs.Sessions.{PlainSession, IsCarriedOut}
use Rattle.undo_log.specs.Past.{Past, undone, redone}
use Rattle.undo_log.specs.Ways.{PlainHistory, ChangeLeadsTo, AreWays}
use Rattle.undo_log.specs.Keeping.{IsNoted, IsSwitched}
use Rattle.undo_log.specs.HistoryCalls.{IsHistoryStepTaken}
use Rattle.undo_log.specs.HistoryContents.{IsRunning}
use Rattle.undo_log.proofs.Stepped.{edit_taken, undo_taken, redo_taken}

-- a history by its parts
abbrev pub plain : PlainSession → List PlainChange → List PlainChange → Bool → PlainHistory
plain session back on stopped = record { session = session; back = back; on = on; stopped = stopped }

-- a history that took a step goes on
still_running : (old new : PlainHistory) (step : PlainStep) (applied : Applied) → IsHistoryStepTaken old new step applied → new.session.stopped ≡ false
    → IsRunning old.session old.back old.on → IsRunning new.session new.back new.on
still_running old new step applied taken runs was =
    let from = taken.steps was.past was.ways in record { running = runs; past = from.next; ways = from.is_past }

module _ (was is : PlainSession) (back back_now on on_now : List PlainChange) (applied : Applied) where
  pub edit_goes_on : (command : PlainCommand) → IsCarriedOut was is command applied → IsNoted was.state is.state command back back_now on on_now → IsRunning was back on → IsRunning is back_now on_now
  edit_goes_on command carried noted running =
      still_running (plain was back on false) (plain is back_now on_now false) (edit command) applied
      (edit_taken (plain was back on false) (plain is back_now on_now false) command applied carried noted refl refl (running.past, running.ways)) carried.running.1 running

  pub undo_goes_on : ((s t : State) (change other : PlainChange) (back on : List PlainChange) (past : Past) → AreWays s (change ∷ back) on past → Makes change s t → ChangeLeadsTo other t (record { state = s; replaced = is_replace change })
      → (next : Past) × (undone past ≡ Ok next) × AreWays t back (other ∷ on) next) → IsSwitched was is back back_now on on_now applied → IsRunning was back on → IsRunning is back_now on_now
  undo_goes_on one_undo switched running =
      still_running (plain was back on false) (plain is back_now on_now false) (undo 0) applied
      (undo_taken (plain was back on false) (plain is back_now on_now false) applied one_undo switched refl refl (running.past, running.ways) 0) switched.turned.running running

  pub redo_goes_on : ((s t : State) (change other : PlainChange) (back on : List PlainChange) (past : Past) → AreWays s back (change ∷ on) past → Makes change s t → ChangeLeadsTo other t (record { state = s; replaced = is_replace change })
      → (next : Past) × (redone past ≡ Ok next) × AreWays t (other ∷ back) on next) → IsSwitched was is on on_now back back_now applied → IsRunning was back on → IsRunning is back_now on_now
  redo_goes_on one_redo switched running =
      still_running (plain was back on false) (plain is back_now on_now false) (redo 0) applied
      (redo_taken (plain was back on false) (plain is back_now on_now false) applied one_redo switched refl refl (running.past, running.ways) 0) switched.turned.running running
