-- What a command makes of a state, or why it is refused. A refused command leaves the state as it is.
use Rattle.std.specs.Prelude.{◌≡◌, Bool, true, false, Result, Ok, Err}
use Rattle.board_items.specs.Boards.{PlainBoard}
use Rattle.rule_text.specs.declared.error.RuleError.{RuleError}
use Rattle.rule_text.specs.RulesOf.{PlainRules}
use Rattle.rule_text.specs.ListText.{SaysList}
use Rattle.edit_script.specs.Commands.{PlainCommand, rules}
use Rattle.board_edits.specs.declared.refusal.Refusal.{Refusal}
use Rattle.board_edits.specs.declared.refusal.Refusal.TheVariants.{NoSuchItem as NoItem, SharedName as Shared, PartOfFootprint as Part, Item as ItemRefused, OutOfMemory as NoMemory}
use Rattle.board_edits.specs.Operations.{PlainOperation, Does, After}
use Rattle.drc_state.specs.declared.error.EditError.{EditError}
use Rattle.drc_state.specs.declared.error.EditError.TheVariants.{NoSuchItem, SharedName, PartOfFootprint, Item, Rules, OutOfMemory}
use Rattle.drc_state.specs.States.{State}

-- the command replaces the rules
abbrev pub is_rules : PlainCommand → Bool
is_rules (rules text at) = true
is_rules command = false

-- the state with another board
abbrev pub with_board : State → PlainBoard → State
with_board s board = record s { board = board }

-- a board's refusal as that of a state
abbrev pub edit_error : Refusal → EditError
edit_error NoItem = NoSuchItem
edit_error Shared = SharedName
edit_error Part = PartOfFootprint
edit_error (ItemRefused why) = Item why
edit_error NoMemory = OutOfMemory

-- the state once that is done to its board, or its refusal
abbrev pub IsAfterOperation : State → Result PlainOperation Refusal → Result State EditError → Type 0
IsAfterOperation s (Ok operation) answer = (board : PlainBoard) × After s.board operation board × (answer ≡ Ok (with_board s board))
IsAfterOperation s (Err why) answer = answer ≡ Err (edit_error why)

-- other rules, and the notes on them
abbrev pub with_rules : State → Result PlainRules RuleError → Result State EditError
with_rules s (Ok found) = Ok (record s { rules = found })
with_rules s (Err why) = Err (Rules why)

-- the answer of a command: the state after it, or its refusal. Rules take the place of those that there are; any other command is
-- carried out on the board
abbrev pub Answers : State → PlainCommand → Result State EditError → Type 0
Answers s (rules text at) answer = (found : Result PlainRules RuleError) × SaysList text at found × (answer ≡ with_rules s found)
Answers s command answer = (operation : Result PlainOperation Refusal) × Does s.board command operation × IsAfterOperation s operation answer
