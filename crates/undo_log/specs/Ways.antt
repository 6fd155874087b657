-- The changes that a history keeps, and the past that they lead through.
use Rattle.std.specs.Prelude.{◌≡◌, Bool, false, List, [], ◌∷◌, map, reverse, Ok}
use Rattle.board_edits.specs.Fitting.{AddsNone}
use Rattle.drc_state.specs.declared.change.Change.{Change}
use Rattle.edit_script.specs.Commands.{PlainCommand}
use Rattle.drc_state.specs.States.{State}
use Rattle.drc_state.specs.CommandSteps.{Answers}
use Rattle.drc_state.specs.StateChanges.{PlainChange, edit, replace, plain_change, is_replace, returned, IsInverseChange}
use Rattle.drc_session.specs.Sessions.{PlainSession}
use Rattle.undo_log.specs.Past.{Past, Passed, is_again}

-- the inverse changes and those that lead on, the nearest first on both sides; running out of memory stops a history
pub record PlainHistory : Type 0 where
  pub session : PlainSession
  pub back : List PlainChange
  pub on : List PlainChange
  pub stopped : Bool

-- as the code has them, the nearest last
abbrev pub nearest_first : List Change → List PlainChange
nearest_first changes = reverse (map plain_change changes)

-- the change adds no items that are new
abbrev pub AddsNoItems : PlainChange → Type 0
AddsNoItems (edit operation) = AddsNone operation
AddsNoItems (replace rules) = Unit {0}

-- the change leads from the state to the one that was passed
pub record ChangeLeadsTo (change : PlainChange) (state : State) (passed : Passed) : Type 0 where
  pub back : IsInverseChange change state passed.state
  pub adds_none : AddsNoItems change
  pub kind : is_replace change ≡ passed.replaced

-- the change leads from the state to the other, past a replacement of the rules or an edit
abbrev pub LeadsTo : PlainChange → State → State → Bool → Type 0
LeadsTo change state other replaced = ChangeLeadsTo change state (record { state = other; replaced = replaced })

-- the command edits the state, and leaves the other
abbrev pub IsEdited : State → PlainCommand → State → Type 0
IsEdited old command new = (is_again command ≡ false) × Answers old command (Ok new)

-- the changes lead from the state through those that were passed, one after another, and to no others
abbrev pub DoLead : State → List PlainChange → List Passed → Type 0
DoLead state [] [] = Unit {0}
DoLead state [] (passed ∷ others) = ⊥
DoLead state (change ∷ changes) [] = ⊥
DoLead state (change ∷ changes) (passed ∷ others) = ChangeLeadsTo change state passed × DoLead (returned passed.state state) changes others

-- the changes lead back through what was before the present, and on through what was undone
pub record AreWays (now : State) (back on : List PlainChange) (past : Past) : Type 0 where
  pub present : past.now ≡ now
  pub earlier : DoLead now back past.earlier
  pub later : DoLead now on past.later

-- the history is one of this past
abbrev pub IsPastOf : PlainHistory → Past → Type 0
IsPastOf history past = AreWays history.session.state history.back history.on past

-- there is such a past
abbrev pub HasPast : PlainHistory → Type 0
HasPast history = (past : Past) × IsPastOf history past
