-- A command that adds no list is turned back.
use Rattle.std.proofs.Common.{◌≡◌, refl, sym, ap, subst, ◌∙◌, true≢false, ℕ, ℤ, Bool, true, false, Result, Ok, Err, if◌then◌else◌}
use Rattle.board_errors.specs.declared.errors.BoardError.TheVariants.{OutOfBoard}
use Rattle.board_items.specs.declared.found.Found.{Found}
use Rattle.board_items.specs.declared.found.Found.TheVariants.{None as NoUnit, Shared, Inside, Unit as OneUnit}
use Rattle.board_items.specs.Boards.{PlainBoard}
use Rattle.board_items.specs.UnitMoves.{unit_stays}
use Rattle.board_items.specs.Units.{found_of}
use Rattle.board_edits.specs.declared.refusal.Refusal.{Refusal}
use Rattle.board_edits.specs.declared.refusal.Refusal.TheVariants.{Item as ItemRefused}
use Rattle.board_edits.specs.Operations.{PlainOperation, nothing, append, put_back, take_out, shift, After, Does, to_unit, shifted}
use Rattle.board_edits.specs.Fitting.{AddsNone}
use Rattle.rule_text.specs.declared.error.RuleError.{RuleError}
use Rattle.rule_text.specs.RulesOf.{PlainRules}
use Rattle.edit_script.specs.Commands.{PlainCommand, add, delete, move, rules, again}
use Rattle.drc_state.specs.declared.error.EditError.{EditError}
use Rattle.drc_state.specs.States.{State}
use Rattle.drc_state.specs.CommandSteps.{IsAfterOperation, with_rules, Answers}
use Rattle.drc_state.specs.StateChanges.{PlainChange, Makes, IsInverseChange, returned}
use Rattle.what_if.specs.TrialScratches.{adds}

-- the numbers that come next are the same
pub record AreSame (old new : PlainBoard) : Type 0 where
  pub ids : new.next_id ≡ old.next_id
  pub units : new.next_unit ≡ old.next_unit

-- ---- operations

-- where something is done, it adds no new items
abbrev NoneAdded : Result PlainOperation Refusal → Type 0
NoneAdded (Ok operation) = AddsNone operation
NoneAdded (Err why) = Unit {0}

none_to_unit : (found : Found) (of : ℕ → Result PlainOperation Refusal) → ((unit : ℕ) → NoneAdded (of unit)) → NoneAdded (to_unit found of)
none_to_unit NoUnit of h = tt
none_to_unit Shared of h = tt
none_to_unit Inside of h = tt
none_to_unit (OneUnit unit) of h = h unit

none_shifted : (board : PlainBoard) (dx dy : ℤ) (at unit : ℕ) → NoneAdded (shifted board dx dy at unit)
none_shifted board dx dy at unit = by (unit_stays unit dx dy board.items)
  where
    by : (b : Bool) → NoneAdded (if b then Ok (shift unit dx dy) else Err (ItemRefused (OutOfBoard at)))
    by true = tt
    by false = tt

none_added : (board : PlainBoard) (command : PlainCommand) (answer : Result PlainOperation Refusal) → adds command ≡ false → Does board command answer → NoneAdded answer
none_added board (add text at) answer e does = absurd (true≢false e)
none_added board (delete name at) answer e does = subst NoneAdded (sym does) (none_to_unit (found_of name board.items) (λ unit. Ok (take_out unit)) (λ unit. tt))
none_added board (move name dx dy at) answer e does = subst NoneAdded (sym does) (none_to_unit (found_of name board.items) (shifted board dx dy at) (none_shifted board dx dy at))
none_added board (rules text at) answer e does = subst NoneAdded (sym does) tt
none_added board (again at) answer e does = subst NoneAdded (sym does) tt

same_after : (operation : PlainOperation) (old new : PlainBoard) → AddsNone operation → After old operation new → AreSame old new
same_after nothing old new none h = subst (AreSame old) (sym h) (record { ids = refl; units = refl })
same_after (append items) old new none h = absurd none
same_after (put_back items) old new none h = subst (AreSame old) (sym h.others) (record { ids = refl; units = refl })
same_after (take_out unit) old new none h = subst (AreSame old) (sym h) (record { ids = refl; units = refl })
same_after (shift unit dx dy) old new none h = subst (AreSame old) (sym h.others) (record { ids = refl; units = refl })

-- ---- commands

abbrev state_in : State → Result State EditError → State
state_in s (Ok next) = next
state_in s (Err why) = s

-- a refusal is no state
abbrev is_made : Result State EditError → Type 0
is_made (Ok next) = Unit {0}
is_made (Err why) = ⊥

same_by_operation : (s next : State) (operation : Result PlainOperation Refusal) → NoneAdded operation → IsAfterOperation s operation (Ok next) → AreSame s.board next.board
same_by_operation s next (Ok operation) none h = subst (λ (x : State). AreSame s.board x.board) (sym (ap (state_in s) h.2)) (same_after operation s.board h.0 none h.1)
same_by_operation s next (Err why) none h = absurd (subst is_made h tt)

same_by_rules : (s next : State) (found : Result PlainRules RuleError) → Ok next ≡ with_rules s found → AreSame s.board next.board
same_by_rules s next (Ok found) h = subst (λ (x : State). AreSame s.board x.board) (sym (ap (state_in s) h)) (record { ids = refl; units = refl })
same_by_rules s next (Err why) h = absurd (subst is_made h tt)

same_answered : (s next : State) (command : PlainCommand) → adds command ≡ false → Answers s command (Ok next) → AreSame s.board next.board
same_answered s next (add text at) e h = absurd (true≢false e)
same_answered s next (delete name at) e h = same_by_operation s next h.0 (none_added s.board (delete name at) h.0 e h.1) h.2
same_answered s next (move name dx dy at) e h = same_by_operation s next h.0 (none_added s.board (move name dx dy at) h.0 e h.1) h.2
same_answered s next (rules text at) e h = same_by_rules s next h.0 h.2
same_answered s next (again at) e h = same_by_operation s next h.0 (none_added s.board (again at) h.0 e h.1) h.2

-- ---- and back

returned_same : (s next : State) → AreSame s.board next.board → returned s next ≡ s
returned_same s next same =
    ap (λ (id : ℕ). record s { board = record s.board { next_id = id; next_unit = next.board.next_unit } }) same.ids
    ∙ ap (λ (unit : ℕ). record s { board = record s.board { next_id = s.board.next_id; next_unit = unit } }) same.units

module _ (one_state : (change : PlainChange) (old a b : State) → Makes change old a → Makes change old b → a ≡ b) where
  pub turned_back : (s next last : State) (command : PlainCommand) (change : PlainChange) → adds command ≡ false → Answers s command (Ok next) → IsInverseChange change next s → Makes change next last → last ≡ s
  turned_back s next last command change e answers leads makes =
      one_state change next last (returned s next) makes leads.leads ∙ returned_same s next (same_answered s next command e answers)
