-- What a command that leaves the rules asks for is done to the board.
use Rattle.std.proofs.Common.{◌≡◌, ◌≢◌, ◌⊎◌, inl, inr, refl, sym, subst, ap, ◌∙◌, false, [], Result, Ok, Err}
use Rattle.board_items.specs.Boards.{PlainBoard}
use Rattle.edit_script.specs.declared.command.Command.{Command}
use Rattle.edit_script.specs.declared.command.Command.TheVariants.{Add, Delete, Move, Rules as RulesIn, Again}
use Rattle.edit_script.specs.Commands.{PlainCommand, add, delete, move, rules, again, plain_command}
use Rattle.board_edits.specs.declared.refusal.Refusal.{Refusal}
use Rattle.board_edits.specs.declared.refusal.Refusal.TheVariants.{NoSuchItem as NoItem, SharedName as Shared, PartOfFootprint as Part, Item as ItemRefused, OutOfMemory as NoMemory}
use Rattle.board_edits.specs.Operations.{PlainOperation, nothing, append, Does, GivesNoItem}
use Rattle.board_edits.specs.Fitting.{GivesNothing}
use Rattle.rule_text.specs.declared.error.RuleError.{RuleError}
use Rattle.rule_text.specs.ListText.{SaysList}
use Rattle.drc_state.specs.declared.error.EditError.{EditError}
use Rattle.drc_state.specs.declared.error.EditError.TheVariants.{Rules, Stopped, OutOfMemory}
use Rattle.drc_state.specs.States.{State}
use Rattle.drc_state.specs.CommandSteps.{is_rules, edit_error, IsAfterOperation, Answers}
use Rattle.drc_state.specs.StateChanges.{edit, Makes}

answers : (s : State) (command : PlainCommand) (answer : Result State EditError) (operation : Result PlainOperation Refusal)
    → is_rules command ≡ false → Does s.board command operation → IsAfterOperation s operation answer → Answers s command answer
answers s (add text at) answer operation none does after = (operation, does, after)
answers s (delete name at) answer operation none does after = (operation, does, after)
answers s (move name dx dy at) answer operation none does after = (operation, does, after)
answers s (rules text at) answer operation none does after = absurd (cc)
answers s (again at) answer operation none does after = (operation, does, after)

pub makes_answer : (old new : State) (board : PlainBoard) (command : PlainCommand) (operation : PlainOperation)
    → is_rules command ≡ false → old.board ≡ board → Does board command (Ok operation) → Makes (edit operation) old new → Answers old command (Ok new)
makes_answer old new board command operation none same does makes =
    answers old command (Ok new) (Ok operation) none (subst (λ (b : PlainBoard). Does b command (Ok operation)) (sym same) does)
    (new.board, makes.0, ap (λ (s : State). Ok s) makes.1)

-- what gives no item is an operation that gives nothing
ok_once : (x y : PlainOperation) (r : Result PlainOperation Refusal) → r ≡ Ok x → r ≡ Ok y → x ≡ y
ok_once x y r h k = cc

pub gives_nothing : (board : PlainBoard) (command : PlainCommand) (operation : PlainOperation) → ((answer : Result PlainOperation Refusal) → Does board command answer → answer ≡ Ok operation) → GivesNoItem board command → GivesNothing operation
gives_nothing board (add text at) operation only none = subst GivesNothing (ok_once (append []) operation (Ok (append [])) refl (only (Ok (append [])) (Ok [], none, refl))) tt
gives_nothing board (delete name at) operation only none = absurd none
gives_nothing board (move name dx dy at) operation only none = absurd none
gives_nothing board (rules text at) operation only none = absurd none
gives_nothing board (again at) operation only none = subst GivesNothing (ok_once nothing operation (Ok nothing) refl (only (Ok nothing) refl)) tt

pub no_rules : (command : Command) → ((text : _) (at : _) → command ≡ RulesIn text at → ⊥) → is_rules (plain_command command) ≡ false
no_rules (Add text at) none = refl
no_rules (Delete name at) none = refl
no_rules (Move name dx dy at) none = refl
no_rules (RulesIn text at) none = absurd (none text at refl)
no_rules (Again at) none = refl

pub refused : (s : State) (board : PlainBoard) (command : PlainCommand) (why : Refusal) (e : EditError) → is_rules command ≡ false → e ≡ edit_error why
    → (why ≡ NoMemory) ⊎ Does board command (Err why) → s.board ≡ board → (e ≡ OutOfMemory) ⊎ Answers s command (Err e)
refused s board command why e none is (inl memory) same = inl (is ∙ ap edit_error memory)
refused s board command why e none is (inr does) same =
    inr (answers s command (Err e) (Err why) none (subst (λ (b : PlainBoard). Does b command (Err why)) (sym same) does) (ap (λ (x : EditError). Err x) is))

pub rules_refused : (s : State) (text : _) (at : _) (command : Command) (why e : EditError) → command ≡ RulesIn text at → e ≡ why
    → (why ≡ OutOfMemory) ⊎ ((error : RuleError) × (why ≡ Rules error) × SaysList text.now at (Err error)) → (e ≡ OutOfMemory) ⊎ Answers s (plain_command command) (Err e)
rules_refused s text at command why e is same (inl memory) = inl (same ∙ memory)
rules_refused s text at command why e is same (inr h) =
    inr (subst (λ (c : Command). Answers s (plain_command c) (Err e)) (sym is) (Err h.0, h.2, ap (λ (x : EditError). Err x) (same ∙ h.1)))

never_stopped : (why : Refusal) → edit_error why ≢ Stopped
never_stopped NoItem h = cc
never_stopped Shared h = cc
never_stopped Part h = cc
never_stopped (ItemRefused why) h = cc
never_stopped NoMemory h = cc

pub not_stopped : (why : Refusal) (e : EditError) → e ≡ edit_error why → e ≢ Stopped
not_stopped why e is h = never_stopped why (sym is ∙ h)
