-- Steps have one answer, and numbers that come next never fall.
use Rattle.std.proofs.Common.{◌≡◌, sym, ap, subst, ◌∙◌, ℕ, ◌≤◌, Bool, true, false, List, [], ◌∷◌, Result, Ok, Err, if◌then◌else◌, arith}
use Rattle.one_item.specs.declared.item.Item.{Item}
use Rattle.board_items.specs.Boards.{PlainBoard, with_item}
use Rattle.pcb_read.specs.BoardOf.{with_items}
use Rattle.board_edits.specs.declared.refusal.Refusal.{Refusal}
use Rattle.board_edits.specs.Operations.{PlainOperation, nothing, append, put_back, take_out, shift, After, Does}
use Rattle.rule_text.specs.declared.error.RuleError.{RuleError}
use Rattle.rule_text.specs.RulesOf.{PlainRules}
use Rattle.edit_script.specs.Commands.{PlainCommand, add, delete, move, rules, again, PlainStep, edit, undo, redo}
use Rattle.drc_state.specs.declared.error.EditError.{EditError}
use Rattle.drc_state.specs.States.{State}
use Rattle.drc_state.specs.CommandSteps.{is_rules, with_board, IsAfterOperation, with_rules, Answers}
use Rattle.drc_state.specs.StateChanges.{returned}
use Rattle.undo_log.specs.declared.error.HistoryError.{HistoryError}
use Rattle.undo_log.specs.Past.{Past, Passed, is_again, undone, undone_to, redone, redone_to, edit_answer, StepAnswers, left_by, AreStepsTo}

-- ---- one answer

module _ (one_answer : (s : State) (command : PlainCommand) (a b : Result State EditError) → Answers s command a → Answers s command b → a ≡ b) where
  pub one_step : (past : Past) (step : PlainStep) (a b : Result Past HistoryError) → StepAnswers past step a → StepAnswers past step b → a ≡ b
  one_step past (edit command) a b h k = h.2 ∙ (ap (edit_answer past command) (one_answer past.now command h.0 k.0 h.1 k.1) ∙ sym k.2)
  one_step past (undo at) a b h k = h ∙ sym k
  one_step past (redo at) a b h k = h ∙ sym k

module _ (one_step : (past : Past) (step : PlainStep) (a b : Result Past HistoryError) → StepAnswers past step a → StepAnswers past step b → a ≡ b) where
  pub one_past_of_steps : (past : Past) (steps : List PlainStep) (a b : Past) → AreStepsTo past steps a → AreStepsTo past steps b → a ≡ b
  one_past_of_steps past [] a b h k = h ∙ sym k
  one_past_of_steps past (step ∷ steps) a b h k =
      one_past_of_steps (left_by past k.0) steps a b (subst (λ (answer : Result Past HistoryError). AreStepsTo (left_by past answer) steps a) (one_step past step h.0 k.0 h.1 k.1) h.2) k.2

-- ---- what an answer is

abbrev state_in : State → Result State EditError → State
state_in s (Ok next) = next
state_in s (Err why) = s

abbrev past_in : Past → Result Past HistoryError → Past
past_in past (Ok next) = next
past_in past (Err why) = past

-- a refusal is no state
abbrev is_made : Result State EditError → Type 0
is_made (Ok next) = Unit {0}
is_made (Err why) = ⊥

abbrev is_taken : Result Past HistoryError → Type 0
is_taken (Ok next) = Unit {0}
is_taken (Err why) = ⊥

-- ---- numbers

pub record AreMore (old new : PlainBoard) : Type 0 where
  pub ids : old.next_id ≤ new.next_id
  pub units : old.next_unit ≤ new.next_unit

more_itself : (b : PlainBoard) → AreMore b b
more_itself b = record { ids = omega arith; units = omega arith }

more_added : (board : PlainBoard) (item : Item) → AreMore board (with_item board item)
more_added board item = record { ids = omega arith; units = omega arith }

more_with : (board : PlainBoard) (items : List Item) → AreMore board (with_items board items)
more_with board [] = more_itself board
more_with board (item ∷ items) =
    let one = more_added board item in
    let rest = more_with (with_item board item) items in
    record { ids = omega (arith, one.ids, rest.ids); units = omega (arith, one.units, rest.units) }

more_after : (operation : PlainOperation) (old new : PlainBoard) → After old operation new → AreMore old new
more_after nothing old new h = subst (AreMore old) (sym h) (more_itself old)
more_after (append items) old new h = subst (AreMore old) (sym h) (more_with old items)
more_after (put_back items) old new h = subst (AreMore old) (sym h.others) (record { ids = omega arith; units = omega arith })
more_after (take_out unit) old new h = subst (AreMore old) (sym h) (record { ids = omega arith; units = omega arith })
more_after (shift unit dx dy) old new h = subst (AreMore old) (sym h.others) (record { ids = omega arith; units = omega arith })

more_by_operation : (s next : State) (operation : Result PlainOperation Refusal) → IsAfterOperation s operation (Ok next) → AreMore s.board next.board
more_by_operation s next (Ok operation) h = subst (λ (x : State). AreMore s.board x.board) (sym (ap (state_in s) h.2)) (more_after operation s.board h.0 h.1)
more_by_operation s next (Err why) h = absurd (subst is_made h tt)

more_by_rules : (s next : State) (found : Result PlainRules RuleError) → Ok next ≡ with_rules s found → AreMore s.board next.board
more_by_rules s next (Ok found) h = subst (λ (x : State). AreMore s.board x.board) (sym (ap (state_in s) h)) (more_itself s.board)
more_by_rules s next (Err why) h = absurd (subst is_made h tt)

pub more_answered : (s next : State) (command : PlainCommand) → Answers s command (Ok next) → AreMore s.board next.board
more_answered s next (add text at) h = more_by_operation s next h.0 h.2
more_answered s next (delete name at) h = more_by_operation s next h.0 h.2
more_answered s next (move name dx dy at) h = more_by_operation s next h.0 h.2
more_answered s next (rules text at) h = more_by_rules s next h.0 h.2
more_answered s next (again at) h = more_by_operation s next h.0 h.2

more_taken : (past next : Past) (answer : Result Past HistoryError) → AreMore past.now.board (past_in past answer).now.board → Ok next ≡ answer → AreMore past.now.board next.now.board
more_taken past next answer more e = subst (λ (a : Result Past HistoryError). AreMore past.now.board (past_in past a).now.board) (sym e) more

more_edited : (past : Past) (command : PlainCommand) (found : Result State EditError) → Answers past.now command found → AreMore past.now.board (past_in past (edit_answer past command found)).now.board
more_edited past command (Ok next) h = by (is_again command)
  where
    by : (b : Bool) → AreMore past.now.board (if b then past else record { earlier = record { state = past.now; replaced = is_rules command } ∷ past.earlier; now = next; later = [] }).now.board
    by true = more_itself past.now.board
    by false = more_answered past.now next command h
more_edited past command (Err why) h = more_itself past.now.board

more_undone : (past : Past) (earlier : List Passed) → AreMore past.now.board (past_in past (undone_to past earlier)).now.board
more_undone past [] = more_itself past.now.board
more_undone past (passed ∷ earlier) = record { ids = omega arith; units = omega arith }

more_redone : (past : Past) (later : List Passed) → AreMore past.now.board (past_in past (redone_to past later)).now.board
more_redone past [] = more_itself past.now.board
more_redone past (passed ∷ later) = record { ids = omega arith; units = omega arith }

pub more_by_step : (past next : Past) (step : PlainStep) → StepAnswers past step (Ok next) → AreMore past.now.board next.now.board
more_by_step past next (edit command) h = more_taken past next (edit_answer past command h.0) (more_edited past command h.0 h.1) h.2
more_by_step past next (undo at) h = more_taken past next (undone past) (more_undone past past.earlier) h
more_by_step past next (redo at) h = more_taken past next (redone past) (more_redone past past.later) h

-- ---- a report again

same_by_operation : (s next : State) (operation : Result PlainOperation Refusal) → Does s.board (again 0) operation → IsAfterOperation s operation (Ok next) → next ≡ s
same_by_operation s next (Ok nothing) does h = ap (state_in s) h.2 ∙ ap (with_board s) h.1
same_by_operation s next (Ok operation) does h = absurd (cc)
same_by_operation s next (Err why) does h = absurd (subst is_made h tt)

pub one_again : (old new : State) (command : PlainCommand) → is_again command ≡ true → Answers old command (Ok new) → new ≡ old
one_again old new (again at) e h = same_by_operation old new h.0 h.1 h.2
one_again old new (add text at) e h = absurd (cc)
one_again old new (delete name at) e h = absurd (cc)
one_again old new (move name dx dy at) e h = absurd (cc)
one_again old new (rules text at) e h = absurd (cc)

-- ---- there and back

abbrev now_in : Past → Result Past HistoryError → State
now_in past answer = (past_in past answer).now

undone_now : (past next last : Past) (passed : Passed) (far : List Passed) → next.earlier ≡ passed ∷ far → Ok last ≡ undone next → last.now ≡ returned passed.state next.now
undone_now past next last passed far is e = ap (now_in next) (e ∙ ap (undone_to next) is)

redone_now : (next last : Past) (passed : Passed) (far : List Passed) → next.later ≡ passed ∷ far → Ok last ≡ redone next → last.now ≡ returned passed.state next.now
redone_now next last passed far is e = ap (now_in next) (e ∙ ap (redone_to next) is)

pub edit_undone : (past next last : Past) (command : PlainCommand) (at : ℕ) → is_again command ≡ false → StepAnswers past (edit command) (Ok next) → StepAnswers next (undo at) (Ok last) → last.now ≡ returned past.now next.now
edit_undone past next last command at other h k = by h.0 h.2
  where
    by : (found : Result State EditError) → Ok next ≡ edit_answer past command found → last.now ≡ returned past.now next.now
    by (Ok made) e =
        undone_now past next last (record { state = past.now; replaced = is_rules command }) past.earlier
        (ap (λ (x : Past). x.earlier) (ap (past_in past) e ∙ ap (λ (b : Bool). if b then past else record { earlier = record { state = past.now; replaced = is_rules command } ∷ past.earlier; now = made; later = [] }) other)) k
    by (Err why) e = absurd (subst is_taken e tt)

pub undo_redone : (past next last : Past) (at place : ℕ) → StepAnswers past (undo at) (Ok next) → StepAnswers next (redo place) (Ok last) → last.now ≡ returned past.now next.now
undo_redone past next last at place h k = by past.earlier h
  where
    by : (earlier : List Passed) → Ok next ≡ undone_to past earlier → last.now ≡ returned past.now next.now
    by [] e = absurd (subst is_taken e tt)
    by (passed ∷ far) e = redone_now next last (record { state = past.now; replaced = passed.replaced }) past.later (ap (λ (x : Past). x.later) (ap (past_in past) e)) k
