-- What commands would do to a state, one after another or each alone.
use Rattle.std.specs.Prelude.{◌≡◌, ◌≢◌, ℕ, ◌<◌, ◌≤◌, not, List, [], ◌∷◌, ◌++◌, length, filter, Option, None, Some, Ok, Err, slice_get}
use Rattle.std.specs.List.{AllZip, list_any}
use Rattle.edit_script.specs.Commands.{PlainCommand}
use Rattle.pair_check.specs.PlainRow.{PlainRow}
use Rattle.pair_check.specs.Rows.{IsRow, AreRows, AreRowsWhere}
use Rattle.pair_check.specs.SameRows.{same_rows}
use Rattle.drc_state.specs.declared.error.EditError.{EditError}
use Rattle.drc_state.specs.States.{State, checked_in}
use Rattle.drc_state.specs.CommandSteps.{Answers}

-- ---- one after another

-- the commands are carried out one after another, and this is the state after the last
abbrev pub LeadTo : State → List PlainCommand → State → Type 0
LeadTo s [] last = last ≡ s
LeadTo s (command ∷ commands) last = (next : State) × Answers s command (Ok next) × LeadTo next commands last

-- the command at this place, counted from 0, is the first that is refused
pub record StopsAt (s : State) (commands : List PlainCommand) (place : ℕ) (why : EditError) : Type 0 where
  pub before : List PlainCommand
  pub command : PlainCommand
  pub after : List PlainCommand
  pub stands : commands ≡ before ++ command ∷ after
  pub at : place ≡ length before
  pub state : State
  pub reached : LeadTo s before state
  pub refused : Answers state command (Err why)

-- ---- rows

-- the rows of the one state that are none of the other, in order
abbrev pub AreRowsOnlyIn : State → State → List PlainRow → Type 0
AreRowsOnlyIn s other rows = AreRowsWhere (λ row. IsRow (checked_in s) row × ¬ (IsRow (checked_in other) row)) rows

-- the rows that come and go
pub record IsDifference (before after : State) (come gone : List PlainRow) : Type 0 where
  pub come_are : AreRowsOnlyIn after before come
  pub gone_are : AreRowsOnlyIn before after gone

-- ---- each alone

-- how many rows there are after the command alone, or none where it is refused
abbrev pub IsCount : State → PlainCommand → Option ℕ → Type 0
IsCount s command (Some count) = (next : State) × (rows : List PlainRow) × Answers s command (Ok next) × AreRows (checked_in next) rows × (count ≡ length rows)
IsCount s command None = (why : EditError) × Answers s command (Err why)

-- the same of the command at this place
abbrev pub IsCountAt : State → List PlainCommand → ℕ → Option ℕ → Type 0
IsCountAt s commands place count = (command : PlainCommand) × (slice_get commands place ≡ Some command) × IsCount s command count

-- it is the first place of the least count
pub record IsFirstLeast (counts : List (Option ℕ)) (place count : ℕ) : Type 0 where
  pub stands : slice_get counts place ≡ Some (Some count)
  pub least : (other n : ℕ) → slice_get counts other ≡ Some (Some n) → count ≤ n
  pub none_before : (earlier n : ℕ) → earlier < place → slice_get counts earlier ≡ Some (Some n) → count < n

-- the first place of the least count, and none where there is no count
abbrev pub IsLeast : List (Option ℕ) → Option ℕ → Type 0
IsLeast counts (Some place) = (count : ℕ) × IsFirstLeast counts place count
IsLeast counts None = (place n : ℕ) → slice_get counts place ≢ Some (Some n)

pub record IsSurvey (s : State) (commands : List PlainCommand) (counts : List (Option ℕ)) (least : Option ℕ) : Type 0 where
  pub each : AllZip (IsCount s) commands counts
  pub least_is : IsLeast counts least

-- ---- private

-- the rows of the one list that do not stand in the other
abbrev pub rows_not_in : List PlainRow → List PlainRow → List PlainRow
rows_not_in others rows = filter (λ row. not (list_any (λ other. same_rows other row) others)) rows
