-- A command has one answer, and a change makes one state of another.
use Rattle.std.proofs.Common.{◌≡◌, ◌∙◌, ap, sym, subst, ℕ, List, Result, Ok, Err}
use Rattle.board_items.specs.Boards.{PlainBoard}
use Rattle.rule_text.specs.declared.error.RuleError.{RuleError}
use Rattle.rule_text.specs.RulesOf.{PlainRules}
use Rattle.rule_text.specs.ListText.{SaysList}
use Rattle.edit_script.specs.Commands.{PlainCommand, add, delete, move, rules, again}
use Rattle.board_edits.specs.declared.refusal.Refusal.{Refusal}
use Rattle.board_edits.specs.Operations.{PlainOperation, Does, After}
use Rattle.drc_state.specs.declared.error.EditError.{EditError}
use Rattle.drc_state.specs.States.{State}
use Rattle.drc_state.specs.CommandSteps.{with_board, with_rules, IsAfterOperation, Answers}
use Rattle.drc_state.specs.StateChanges.{PlainChange, edit, replace, Makes}

module _ (one_board : (old : PlainBoard) (operation : PlainOperation) (a b : PlainBoard) → After old operation a → After old operation b → a ≡ b) where
  pub one_state : (change : PlainChange) (old a b : State) → Makes change old a → Makes change old b → a ≡ b
  one_state (edit operation) old a b h k = h.1 ∙ (ap (with_board old) (one_board old.board operation a.board b.board h.0 k.0) ∙ sym k.1)
  one_state (replace found) old a b h k = h ∙ sym k

  after_one : (s : State) (operation : Result PlainOperation Refusal) (a b : Result State EditError) → IsAfterOperation s operation a → IsAfterOperation s operation b → a ≡ b
  after_one s (Ok operation) a b h k =
      h.2 ∙ (ap (λ (board : PlainBoard). Ok (with_board s board)) (one_board s.board operation h.0 k.0 h.1 k.1) ∙ sym k.2)
  after_one s (Err why) a b h k = h ∙ sym k

  module _ (one_operation : (board : PlainBoard) (command : PlainCommand) (a b : Result PlainOperation Refusal) → Does board command a → Does board command b → a ≡ b)
      (one_rules : (text : List ℕ) (at : ℕ) (a b : Result PlainRules RuleError) → SaysList text at a → SaysList text at b → a ≡ b) where
    by_operations : (s : State) (command : PlainCommand) (a b : Result State EditError) (first second : Result PlainOperation Refusal)
        → Does s.board command first → Does s.board command second → IsAfterOperation s first a → IsAfterOperation s second b → a ≡ b
    by_operations s command a b first second f g h k =
        after_one s second a b (subst (λ (d : Result PlainOperation Refusal). IsAfterOperation s d a) (one_operation s.board command first second f g) h) k

    pub one_answer : (s : State) (command : PlainCommand) (a b : Result State EditError) → Answers s command a → Answers s command b → a ≡ b
    one_answer s (add text at) a b h k = by_operations s (add text at) a b h.0 k.0 h.1 k.1 h.2 k.2
    one_answer s (delete name at) a b h k = by_operations s (delete name at) a b h.0 k.0 h.1 k.1 h.2 k.2
    one_answer s (move name dx dy at) a b h k = by_operations s (move name dx dy at) a b h.0 k.0 h.1 k.1 h.2 k.2
    one_answer s (rules text at) a b h k = h.2 ∙ (ap (with_rules s) (one_rules text at h.0 k.0 h.1 k.1) ∙ sym k.2)
    one_answer s (again at) a b h k = by_operations s (again at) a b h.0 k.0 h.1 k.1 h.2 k.2
