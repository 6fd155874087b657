-- Changes of a state, and which are inverse.
use Rattle.std.specs.Prelude.{◌≡◌, Bool, true, false, map}
use Rattle.plain_types.specs.Limits.{AreCounted}
use Rattle.board_items.specs.Back.{kept_entry}
use Rattle.rule_text.specs.RulesOf.{PlainRules}
use Rattle.rule_text.specs.RuleValues.{plain_rules}
use Rattle.board_edits.specs.Operations.{PlainOperation, nothing, put_back, take_out, shift, After}
use Rattle.board_edits.specs.Fitting.{plain_operation, OperationFits, GivesNothing, returned_board}
use Rattle.drc_state.specs.declared.change.Change.{Change}
use Rattle.drc_state.specs.declared.change.Change.TheVariants.{Nothing, PutBack, TakeOut, Shift, Replace}
use Rattle.drc_state.specs.declared.change.Edit.{Edit}
use Rattle.drc_state.specs.declared.change.Edit.TheVariants.{Board as OfBoard, Rules as OfRules}
use Rattle.drc_state.specs.States.{State}
use Rattle.drc_state.specs.CommandSteps.{with_board}

-- an operation is done to the board, or the rules are replaced
pub data PlainChange : Type 0 where
  edit : PlainOperation → PlainChange
  replace : PlainRules → PlainChange

-- ---- as the code has them

abbrev pub plain_change : Change → PlainChange
plain_change Nothing = edit nothing
plain_change (PutBack items) = edit (put_back (map kept_entry items.items))
plain_change (TakeOut unit) = edit (take_out unit)
plain_change (Shift unit dx dy) = edit (shift unit dx dy)
plain_change (Replace rules) = replace (plain_rules rules)

abbrev pub plain_edit : Edit → PlainChange
plain_edit (OfBoard operation) = edit (plain_operation operation)
plain_edit (OfRules rules) = replace (plain_rules rules)

-- ---- what they do

abbrev pub is_replace : PlainChange → Bool
is_replace (replace rules) = true
is_replace (edit operation) = false

-- all stays as it is
abbrev pub no_change : PlainChange
no_change = edit nothing

-- an operation that gives nothing
abbrev pub ChangesNothing : PlainChange → Type 0
ChangesNothing (edit operation) = GivesNothing operation
ChangesNothing (replace rules) = ⊥

-- the change makes the one state the other
abbrev pub Makes : PlainChange → State → State → Type 0
Makes (edit operation) old new = After old.board operation new.board × (new ≡ with_board old new.board)
Makes (replace rules) old new = new ≡ record old { rules = rules }

-- the state takes it. Rules have numbers below 2 ^ 32 - 1
abbrev pub ChangeFits : State → PlainChange → Type 0
ChangeFits s (edit operation) = OperationFits s.board operation
ChangeFits s (replace rules) = AreCounted rules.rules

-- a state that comes back goes on with the numbers of the present, so that none is given twice
abbrev pub returned : State → State → State
returned s now = with_board s (returned_board s.board now.board)

-- made of the new state, it gives the old one, but for the numbers that come next
pub record IsInverseChange (back : PlainChange) (new old : State) : Type 0 where
  pub fits : ChangeFits new back
  pub leads : Makes back new (returned old new)
